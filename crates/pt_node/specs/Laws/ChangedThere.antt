-- Proof. The objects with one of them changed, where the place is one of the list and where it is none.
use Rattle.std.proofs.Common.{◌≡◌, ◌<◌, ◌≤◌, ℕ, zero, suc, List, [], ◌∷◌, length, Option, Some, None, get_or}
use Rattle.std.proofs.Common.{slice_get, slice_set, refl, ap, arith}
use Rattle.std.proofs.lemmas.Option.{slice_get-get_or}
use Rattle.pt_node.specs.Entries.{changed_at, changed_where}
use Rattle.pt_node.specs.declared.node.Node.{Node}

pub changed_there : (place : ℕ) (f : Node → Node) (nodes : List Node) (d : Node) → place < length nodes →
    changed_at place f nodes ≡ slice_set nodes place (f (get_or nodes place d))
changed_there place f nodes d within =
    ap (λ (node : Option Node). changed_where node place f nodes) (slice_get-get_or nodes place d within)

pub past_end : (nodes : List Node) (place : ℕ) → length nodes ≤ place → slice_get nodes place ≡ None
past_end [] place past = refl
past_end (node ∷ nodes) zero past = absurd (omega arith)
past_end (node ∷ nodes) (suc place) past = past_end nodes place (omega arith)

pub changed_past : (place : ℕ) (f : Node → Node) (nodes : List Node) → length nodes ≤ place →
    changed_at place f nodes ≡ nodes
changed_past place f nodes past =
    ap (λ (node : Option Node). changed_where node place f nodes) (past_end nodes place past)

-- a change of what stands there, by what that is
pub changed_is : (place : ℕ) (f : Node → Node) (nodes : List Node) (node : Node) → slice_get nodes place ≡ Some node →
    changed_at place f nodes ≡ slice_set nodes place (f node)
changed_is place f nodes node there = ap (λ (at : Option Node). changed_where at place f nodes) there
