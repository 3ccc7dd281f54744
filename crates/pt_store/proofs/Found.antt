-- What code finds by a descriptor, part by part, and what a call on it, or on a name in its directory, goes on with.
use Rattle.std.proofs.Common.{◌≡◌, ℕ, Bool, true, false, not, List, Option, Some, None, option_map, slice_get, refl}
use Rattle.std.proofs.Common.{ap, ◌∙◌, sym}
use Rattle.std.proofs.lemmas.Option.{same_Some}
use Rattle.pt_host.specs.Errno.{enotdir}
use Rattle.pt_host.specs.declared.ids.Errno.{Errno}
use Rattle.pt_host.specs.declared.seat.HostSeat.{HostSeat}
use Rattle.pt_node.specs.Node.{is_directory}
use Rattle.pt_rules.specs.Laws.Outcomes.{passes_first}
use Rattle.pt_host.specs.declared.ids.Fd.{Fd}
use Rattle.pt_node.specs.Slots.{open_at}
use Rattle.pt_rules.specs.Calls.{Answered, name_refusal, on_fd, on_name, on_open, open_on, unless}
use Rattle.pt_rules.specs.State.{State}
use Rattle.pt_node.specs.declared.node.Node.{Node}
use Rattle.pt_node.specs.declared.slots.OpenFile.{OpenFile}

abbrev pair : OpenFile → Node → OpenFile × Node
pair file node = (file, node)

abbrev both_of : OpenFile → Node → Option (OpenFile × Node)
both_of file node = Some (file, node)

by_node : (held file : OpenFile) (node : Node) (at : Option Node) →
    both_of file node ≡ option_map (λ n. (held, n)) at → (file ≡ held) × (at ≡ Some node)
by_node held file node None is = cc
by_node held file node (Some other) is =
    let same = same_Some (pair file node) (pair held other) is in (
      ap (λ (both : OpenFile × Node). both.0) same,
      ap (λ (both : OpenFile × Node). Some both.1) (sym same),
    )

parts : (nodes : List Node) (held : Option OpenFile) (file : OpenFile) (node : Node) →
    both_of file node ≡ open_on nodes held → (held ≡ Some file) × (slice_get nodes file.object ≡ Some node)
parts nodes None file node is = cc
parts nodes (Some other) file node is =
    let both = by_node other file node (slice_get nodes other.object) is in
    (ap (λ (f : OpenFile). Some f) (sym both.0), ap (λ (f : OpenFile). slice_get nodes f.object) both.0 ∙ both.1)

-- what stands in the table
pub open_is : (nodes : List Node) (held : Option OpenFile) (file : OpenFile) (node : Node) →
    Some (file, node) ≡ open_on nodes held → held ≡ Some file
open_is nodes held file node is = (parts nodes held file node is).0

-- and the object, where the list of objects is seen as this one
pub open_there : (seen nodes : List Node) (held : Option OpenFile) (file : OpenFile) (node : Node) →
    Some (file, node) ≡ open_on seen held → seen ≡ nodes → slice_get nodes file.object ≡ Some node
open_there seen nodes held file node is same =
    ap (λ (ns : List Node). slice_get ns file.object) (sym same) ∙ (parts seen held file node is).1

-- so the call goes on with both
pub goes_on : (state : State) (seen : List Node) (fd : Fd) (rest : OpenFile → Node → Answered) (file : OpenFile)
    (node : Node) → Some (file, node) ≡ open_on seen (open_at state.slots fd.0) → seen ≡ state.nodes →
    rest file node ≡ on_fd state fd rest
goes_on state seen fd rest file node is same =
    ap (λ (at : Option (OpenFile × Node)). on_open state at rest)
    (is ∙ ap (λ (ns : List Node). open_on ns (open_at state.slots fd.0)) same)

holds : (b : Bool) → not b ≡ false → b ≡ true
holds true is = refl
holds false is = cc

-- a name is looked up in a directory alone
pub in_directory : (seat : HostSeat) (dir : Node) (name : List ℕ) → name_refusal seat dir name ≡ None →
    is_directory dir ≡ true
in_directory seat dir name none =
    holds (is_directory dir) (passes_first (not (is_directory dir)) enotdir _ none).0

pub goes_named : (state : State) (seen : List Node) (seat : HostSeat) (fd : Fd) (name : List ℕ)
    (rest : ℕ → Node → Answered) (file : OpenFile) (dir : Node) →
    Some (file, dir) ≡ open_on seen (open_at state.slots fd.0) → seen ≡ state.nodes →
    name_refusal seat dir name ≡ None → rest file.object dir ≡ on_name state seat fd name rest
goes_named state seen seat fd name rest file dir is same none =
    ap (λ (refusal : Option Errno). unless state refusal (rest file.object dir)) (sym none)
    ∙ goes_on state seen fd (λ held at. unless state (name_refusal seat at name) (rest held.object at)) file dir is same
