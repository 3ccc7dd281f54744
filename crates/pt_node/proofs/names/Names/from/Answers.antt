use Rattle.std.proofs.Common.{drop, option_map, ap, sym, ◌∙◌}
use Rattle.pt_node.specs.Laws.NameOrder.{seen}
use Rattle.pt_node.proofs.NamesFrom.{from_place, none_from}
use Rattle.pt_node.proofs.names.Names.from.Goals as goal

pub returns-in-None-clause-names : goal.returns-in-None-clause-names
returns-in-None-clause-names c =
    none_from c.self.inside.kept.entries c.args.place (sym c.first_from.ensures ∙ ap (option_map _) c.in-None.is)
    ∙ ap (drop c.args.place) c.self.view_is

pub returns-in-Some-clause-names : goal.returns-in-Some-clause-names
returns-in-Some-clause-names c =
    ap seen (c.range.ensures.between tt)
    ∙ from_place c.in-Some.first.now c.self.inside.kept.entries c.args.place c.range.ensures.ordered
    (sym c.first_from.ensures ∙ ap (option_map _) c.in-Some.is)
    ∙ ap (drop c.args.place) c.self.view_is
