use Rattle.std.proofs.Common.{List, ℕ, option_map, slice_get, ap, ◌∙◌}
use Rattle.pt_node.proofs.NamesFrom.{seen_at}
use Rattle.pt_node.proofs.names.Names.stop_at.Goals as goal

pub invariant_of-self : goal.invariant_of-self
invariant_of-self c =
    seen_at c.self.inside.kept.entries c.args.place
    ∙ ap (λ (names : List (List ℕ × ℕ)). option_map (λ entry. entry.0) (slice_get names c.args.place)) c.self.view_is
    ∙ c.requires
