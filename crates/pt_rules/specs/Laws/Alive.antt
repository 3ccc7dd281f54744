-- Proof. What has a hold lives.
use Rattle.std.proofs.Common.{◌≡◌, ◌<◌, ◌+◌, inl, inr, ℕ, List, Option, Some, option_map, slice_get, refl, ap, sym}
use Rattle.std.proofs.Common.{arith}
use Rattle.std.specs.Option.{unwrap_or}
use Rattle.std.specs.Str.{bytes_eq}
use Rattle.std.proofs.lemmas.List.Sums.{get_or-le-sum_by}
use Rattle.std.proofs.lemmas.Map.Entries.{sum_by-remove_entry}
use Rattle.std.proofs.lemmas.Option.{slice_get_within, get_or_from_slice_get}
use Rattle.pt_host.specs.Words.{is}
use Rattle.pt_node.specs.Names.{found, unnamed}
use Rattle.pt_node.specs.Node.{names_in}
use Rattle.pt_node.specs.declared.node.Node.{Node}
use Rattle.pt_node.specs.declared.slots.Slot.{Slot}
use Rattle.pt_node.specs.declared.slots.Slot.TheVariants.{Open}
use Rattle.pt_node.specs.Laws.Updates.{open_slot}
use Rattle.pt_rules.specs.Holds.{HasHold, HasName, IsOpened}
use Rattle.pt_node.specs.Links.{names_of, names_to}
use Rattle.pt_rules.specs.Living.{Lives, opens, opens_of}
use Rattle.pt_rules.specs.State.{State}
use Rattle.pt_rules.specs.Laws.Held.{is_one}
use Rattle.pt_rules.specs.Laws.Parts.{and_then_some}

-- how often the object is the one that is there
abbrev pub counts_where : ℕ → Option ℕ → ℕ
counts_where object there = unwrap_or (option_map (is object) there) 0

pub lost_names : (object : ℕ) (name : List ℕ) (names : List (List ℕ × ℕ)) →
    names_to object (unnamed name names) + counts_where object (found name names) ≡ names_to object names
lost_names object name names = sum_by-remove_entry (is object) (bytes_eq name) names

pub entry_counts : (object : ℕ) (name : List ℕ) (names : List (List ℕ × ℕ)) → found name names ≡ Some object →
    0 < names_to object names
entry_counts object name names there =
    let sums = lost_names object name names in
    let one : is object object ≡ 1 = is_one object object refl in
    let here = ap (λ (o : Option ℕ). unwrap_or (option_map (is object) o) 0) there in
    omega (arith, sums, one, here)

pub name_counts : (nodes : List Node) (object : ℕ) → HasName nodes object → 0 < names_of nodes object
name_counts nodes object (dir, name, there) =
    let at = and_then_some (λ (n : Node). found name (names_in n.content)) (slice_get nodes dir) object there in
    let some = entry_counts object name (names_in at.0.content) at.2 in
    let less = get_or-le-sum_by (λ (n : Node).
    names_to object (names_in n.content)) nodes dir at.0 (slice_get_within nodes dir at.0 at.1) in
    let here = ap (λ (n : Node).
    names_to object (names_in n.content)) (get_or_from_slice_get nodes dir at.0 at.0 at.1) in
    omega (arith, some, less, here)

pub descriptor_counts : (slots : List Slot) (object : ℕ) → IsOpened slots object → 0 < opens_of slots object
descriptor_counts slots object (fd, file, there, same) =
    let at = open_slot (slice_get slots fd) file there in
    let less = get_or-le-sum_by (opens object) slots fd (Open file) (slice_get_within slots fd (Open file) at) in
    let here = ap (opens object) (get_or_from_slice_get slots fd (Open file) (Open file) at) in
    let one = is_one object file.object (sym same) in
    omega (arith, less, here, one)

pub lives_held : (state : State) (object : ℕ) → HasHold state object → Lives state object
lives_held state object (inl root) = let one = is_one object 0 root in omega arith
lives_held state object (inr (inl has)) = let some = name_counts state.nodes object has in omega arith
lives_held state object (inr (inr held)) = let some = descriptor_counts state.slots object held in omega arith
