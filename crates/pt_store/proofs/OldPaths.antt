-- What an old path leads to lives.
use Rattle.std.proofs.Common.{◌≡◌, ◌==◌, ◌⊎◌, inl, inr, ℕ, Bool, true, false, cond, List, [], ◌∷◌, Option, Some, None}
use Rattle.std.proofs.Common.{ap, sym, ◌∙◌}
use Rattle.std.proofs.lemmas.Option.{same_Some}
use Rattle.pt_node.specs.Paths.{parts}
use Rattle.pt_rules.specs.Holds.{HasName, HasHold}
use Rattle.pt_node.specs.Node.{name_at}
use Rattle.pt_node.specs.Paths.{object_after, object_below, object_named}
use Rattle.pt_rules.specs.State.{State}
use Rattle.pt_node.specs.declared.node.Node.{Node}
use Rattle.pt_rules.specs.Laws.WellFormed.{and_then_some}

below_lives : (nodes : List Node) (at : ℕ) (names : List (List ℕ)) (object : ℕ) →
    object_below nodes at names ≡ Some object → (object ≡ at) ⊎ HasName nodes object
below_lives nodes at [] object is = inl (sym (same_Some at object is))
below_lives nodes at (name ∷ more) object is =
    let child = and_then_some (λ child. object_below nodes child more) (name_at nodes at name) object is in
    elim (below_lives nodes child.0 more object child.2) [
      | inl same ↦ inr (at, name, child.1 ∙ ap (λ (o : ℕ). Some o) (sym same))
      | inr has ↦ inr has
    ]

after_lives : (nodes : List Node) (path : List ℕ) (object : ℕ) → object_after nodes path ≡ Some object →
    (object ≡ 0) ⊎ HasName nodes object
after_lives nodes [] object is = inl (sym (same_Some 0 object is))
after_lives nodes (byte ∷ path) object is = below_lives nodes 0 (parts (byte ∷ path)) object is

past_test : {A : Type 0} (b : Bool) (led : Option A) (told : A) → cond b led None ≡ Some told → led ≡ Some told
past_test true led told is = is
past_test false led told is = cc

pub named_lives : (state : State) (path : List ℕ) (object : ℕ) → object_named state.nodes path ≡ Some object →
    HasHold state object
named_lives state [] object is = cc
named_lives state (byte ∷ path) object is =
    elim (after_lives state.nodes path object (past_test (byte == 47) (object_after state.nodes path) object is)) [
      | inl root ↦ inl root
      | inr has ↦ inr (inl has)
    ]
