-- What is kept of a state is kept of the same state, as code comes to it.
use Rattle.std.proofs.Common.{◌≡◌, ℕ, List, ap, ◌∙◌, subst, sym}
use Rattle.pt_node.specs.Numbers.{Counts}
use Rattle.pt_store.specs.Kept.{IsKept}
use Rattle.pt_rules.specs.State.{State}
use Rattle.pt_node.specs.declared.node.Node.{Node}
use Rattle.pt_node.specs.declared.slots.Slot.{Slot}

abbrev pub with_counts : List ℕ → List ℕ → List ℕ → Counts
with_counts holds names directories = record { holds = holds; names = names; directories = directories }

pub kept_as : (state after : State) (holds held : Counts) (tables others : ℕ → List Slot) → after ≡ state →
    held ≡ holds → others ≡ tables → IsKept state holds tables → IsKept after held others
kept_as state after holds held tables others same counts numbers kept =
    subst (λ (s : State). IsKept s held others) (sym same)
    (subst (λ (xs : Counts).
    IsKept state xs others) (sym counts) (subst (λ (xs : ℕ → List Slot). IsKept state holds xs) (sym numbers) kept))

-- counts, part by part
pub same_counts : (holds held names named directories nested : List ℕ) → held ≡ holds → named ≡ names →
    nested ≡ directories → with_counts held named nested ≡ with_counts holds names directories
same_counts holds held names named directories nested e f g =
    ap (λ xs. with_counts xs named nested) e ∙ ap (λ xs. with_counts holds xs nested) f ∙ ap (with_counts holds names) g

-- the state with other objects
abbrev pub nodes_in : State → List Node → State
nodes_in state nodes = record state { nodes = nodes }

-- the state with other objects and another table of descriptors
abbrev pub parts_in : State → List Node → List Slot → State
parts_in state nodes slots = record state { nodes = nodes; slots = slots }
