use Rattle.std.proofs.Common.{◌≡◌, ◌-◌, ◌<◌, ◌==◌, false, List, ℕ, slice_get, sym, ap, ◌∙◌, arith, rules}
use Rattle.std.specs.List.{list_any}
use Rattle.pt_node.specs.Paths.{names_at}
use Rattle.pt_rules.specs.NameCalls.{lies_below}
use Rattle.pt_node.specs.Laws.NameOrder.{seen}
use Rattle.pt_change.proofs.TreePaths.{lies_below-more}
use Rattle.pt_change.proofs.name_checks.+lies_below.Goals as goal

pub loop-child-init : goal.loop-child-init
loop-child-init t c =
    let deep : 0 < c.args.depth = omega arith in
    let apart : (c.args.object == c.args.dir) ≡ false = search rules in
    let entries : seen c.into_iter-child-iterator.result ≡ names_at (slice_get c.args.nodes.now c.args.object) =
    ap seen (c.into_iter-child-iterator.ensures.into_iter_gives ∙ c.iter-child-items.ensures.rest) ∙ c.names.view_is
    ∙ c.in-Some.ensures in
    record {
      deep = deep;
      rest = ap (list_any (λ (entry : List ℕ × ℕ).
          lies_below (c.args.depth - 1) c.args.nodes.now entry.1 c.args.dir)) entries
          ∙ sym (lies_below-more c.args.depth c.args.nodes.now c.args.object c.args.dir deep apart);
    }
