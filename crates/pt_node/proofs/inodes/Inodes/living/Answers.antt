use Rattle.std.proofs.Common.{◌-◌, List, Some, ap, position, sym, ◌∙◌}
use Rattle.std.proofs.lemmas.List.Quantifiers.{position-Some}
use Rattle.std.proofs.lemmas.Option.{slice_get-get_or}
use Rattle.pt_node.specs.FreeNumbers.{given_numbers}
use Rattle.pt_node.specs.declared.inodes.NumberTable.{NumberTable}
use Rattle.pt_node.proofs.NumberTables.{is_of, no_table, numbers_at}
use Rattle.pt_node.proofs.inodes.Inodes.living.Goals as goal

pub returns-in-None : goal.returns-in-None
returns-in-None c =
    sym (ap given_numbers (no_table c.args.dev c.args.self.now.tables.items
    (ap (λ (ts : List NumberTable). position (is_of c.args.dev) ts) (sym c.deref.ensures.value)
    ∙ sym c.place_of.ensures ∙ c.in-None.is)))

pub returns-in-Some : goal.returns-in-Some
returns-in-Some c =
    let tables = c.args.self.now.tables.items in
    let place = c.in-Some.place in
    let table = c.index.result.now in
    let found = ap (λ (ts : List NumberTable). position (is_of c.args.dev) ts) (sym c.deref.ensures.value)
    ∙ sym c.place_of.ensures ∙ c.in-Some.is in
    let within = (position-Some (is_of c.args.dev) tables place table found).0 in
    let there = slice_get-get_or tables place _ within ∙ ap (λ (t : NumberTable). Some t) (sym c.index.ensures) in
    c.saturating_sub.ensures ∙ ap (λ n. n - 1) c.taken.ensures
    ∙ ap given_numbers (sym (numbers_at c.args.dev tables place table found there))
