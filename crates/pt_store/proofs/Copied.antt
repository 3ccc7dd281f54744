-- What a copy between files and a seek are answered, as the code comes to it.
use Rattle.std.proofs.Common.{◌≡◌, ◌<◌, ℕ, ℤ, List, [], length, Option, Some, None, option_map, Result, Bool, get_or}
use Rattle.std.proofs.Common.{ap, sym}
use Rattle.std.proofs.Common.{◌∙◌, inl, inr, arith, slice_get, slice_set, length-set}
use Rattle.std.proofs.lemmas.Option.{same_Some, slice_get-get_or, slice_get_within}
use Rattle.pt_host.specs.declared.ids.Errno.{Errno}
use Rattle.pt_host.specs.declared.ids.Fd.{Fd}
use Rattle.pt_host.specs.declared.reply.HostReply.TheVariants as reply
use Rattle.pt_host.specs.declared.reply.HostValue.TheVariants as value
use Rattle.pt_host.specs.declared.seat.HostSeat.{HostSeat}
use Rattle.pt_rules.specs.Calls.{Answered, checked, on_fd, on_open, open_on, tells, unless, with_node}
use Rattle.pt_rules.specs.ContentCalls.{copied, copy_checks, copy_range, seek, seek_checks, seek_to, sought}
use Rattle.pt_rules.specs.ContentCalls.{with_copied, written}
use Rattle.pt_node.specs.Changes.{refilled}
use Rattle.pt_node.specs.Node.{bytes_in, size_of}
use Rattle.pt_node.specs.Opening.{first_refusal}
use Rattle.pt_node.specs.Reading.{after_reading}
use Rattle.pt_node.specs.Slots.{open_at}
use Rattle.pt_rules.specs.State.{State, time_of}
use Rattle.pt_node.specs.declared.node.Node.{Node}
use Rattle.pt_node.specs.declared.slots.OpenFile.{OpenFile}
use Rattle.pt_node.specs.Laws.Updates.{get-set_cases}
use Rattle.pt_store.proofs.Contents.{written_there}
use Rattle.pt_store.proofs.KeptStore.{nodes_in}

-- a call that no test refuses, on a descriptor and its object
pub told_on : (state : State) (fd : Fd) (file : OpenFile) (node : Node) (checks : OpenFile → Node →
    List (Bool × Errno)) (rest : OpenFile → Node → Answered) →
    open_at state.slots fd.0 ≡ Some file → slice_get state.nodes file.object ≡ Some node →
    first_refusal (checks file node) ≡ None →
    on_fd state fd (λ at dir. checked state (checks at dir) (rest at dir)) ≡ rest file node
told_on state fd file node checks rest is at none =
    ap (λ (f : Option OpenFile).
    on_open state (open_on state.nodes f) (λ o n. checked state (checks o n) (rest o n))) is
    ∙ ap (λ (n : Option Node). on_open state (option_map (λ n. (file, n)) n)
    (λ o n. checked state (checks o n) (rest o n))) at
    ∙ ap (λ (refusal : Option Errno). unless state refusal (rest file node)) none

pub seek_is : (state : State) (fd : Fd) (offset : ℤ) (whence : ℕ) (file : OpenFile) (node : Node)
    (to : Result ℕ Errno) →
    open_at state.slots fd.0 ≡ Some file → slice_get state.nodes file.object ≡ Some node →
    first_refusal (seek_checks file node) ≡ None →
    sought file.position (size_of node.content) offset whence ≡ to → seek state fd offset whence ≡ seek_to state fd.0 to
seek_is state fd offset whence file node to is at none place =
    told_on state fd file node seek_checks (λ o n.
    seek_to state fd.0 (sought o.position (size_of n.content) offset whence)) is at none
    ∙ ap (seek_to state fd.0) place

module _ (state : State) (seat : HostSeat) (fd fd2 : Fd) (offset offset2 size flags : ℕ) (file file2 : OpenFile)
    (node target : Node)
    (is : open_at state.slots fd.0 ≡ Some file) (at : slice_get state.nodes file.object ≡ Some node)
    (is2 : open_at state.slots fd2.0 ≡ Some file2) (at2 : slice_get state.nodes file2.object ≡ Some target)
    (part : List ℕ) (takes : part ≡ copied offset size node)
    (none : first_refusal (copy_checks file node file2 offset offset2 (length part) flags) ≡ None) where
  abbrev told : List ℕ → Answered
  told some = tells (with_copied state seat file.object node file2.object offset2 some) (value.Count (length some))

  copy_told : copy_range state seat fd offset fd2 offset2 size flags ≡ told part
  copy_told =
      ap (λ (f : Option OpenFile).
      on_open state (open_on state.nodes f) (λ o n.
      on_fd state fd2 (λ o2 n2.
      checked state (copy_checks o n o2 offset offset2 (length (copied offset size n)) flags)
      (tells (with_copied state seat o.object n o2.object offset2 (copied offset size n))
      (value.Count (length (copied offset size n))))))) is
      ∙ ap (λ (a : Option Node).
      on_open state (option_map (λ n. (file, n)) a) (λ o n.
      on_fd state fd2 (λ o2 n2.
      checked state (copy_checks o n o2 offset offset2 (length (copied offset size n)) flags)
      (tells (with_copied state seat o.object n o2.object offset2 (copied offset size n))
      (value.Count (length (copied offset size n))))))) at
      ∙ told_on state fd2 file2 target (λ o2 n2.
      copy_checks file node o2 offset offset2 (length (copied offset size node)) flags)
      (λ o2 n2. tells (with_copied state seat file.object node o2.object offset2 (copied offset size node))
      (value.Count (length (copied offset size node))))
      is2 at2 (ap (λ (some : List ℕ).
      first_refusal (copy_checks file node file2 offset offset2 (length some) flags)) (sym takes) ∙ none)
      ∙ ap told (sym takes)

  abbrev read : State
  read = with_node state file.object (after_reading (time_of state) node)

  -- the source alone is touched by a copy of nothing
  pub copy_nothing : part ≡ [] → (nodes : List Node) →
      nodes ≡ slice_set state.nodes file.object (after_reading (time_of state) node) →
      (reply.Ok (value.Count 0), nodes_in state nodes) ≡ copy_range state seat fd offset fd2 offset2 size flags
  copy_nothing nothing nodes same =
      sym (copy_told ∙ ap told nothing ∙ ap (λ (ns : List Node). tells (nodes_in state ns) (value.Count 0)) (sym same))

  -- a reading of the source leaves what the target holds
  same_bytes : (got : Node) →
      slice_get (slice_set state.nodes file.object (after_reading (time_of state) node)) file2.object ≡ Some got →
      bytes_in got.content ≡ bytes_in target.content
  same_bytes got there2 =
      elim (get-set_cases state.nodes file.object (after_reading (time_of state) node) file2.object got there2) [
        | inl both ↦ ap (λ (n : Node). bytes_in n.content) both.1
            ∙ ap (λ (n : Node).
            bytes_in n.content) (same_Some node target (sym at ∙ ap (slice_get state.nodes) (sym both.0) ∙ at2))
        | inr was ↦ ap (λ (n : Node). bytes_in n.content) (same_Some got target (sym was ∙ at2))
      ]

  pub copy_some : 0 < length part → (nodes : List Node) (got after : Node) (bytes : List ℕ) (d : Node) →
      nodes ≡ slice_set state.nodes file.object (after_reading (time_of state) node) →
      got ≡ get_or nodes file2.object d →
      bytes ≡ written offset2 part (bytes_in target.content) → after ≡ refilled seat (time_of state) bytes got →
      (reply.Ok (value.Count (length part)), nodes_in state (slice_set nodes file2.object after))
      ≡ copy_range state seat fd offset fd2 offset2 size flags
  copy_some some nodes got after bytes d same gets holds_them becomes =
      let within : file2.object < length state.nodes = slice_get_within state.nodes file2.object target at2 in
      let long = length-set state.nodes file.object (after_reading (time_of state) node) in
      let fits : file2.object < length (slice_set state.nodes file.object (after_reading (time_of state) node)) =
      omega (arith, within, long) in
      let there2 : slice_get (slice_set state.nodes file.object (after_reading (time_of state) node)) file2.object
      ≡ Some got =
      slice_get-get_or _ file2.object d fits
      ∙ ap (λ (n : Node). Some n) (ap (λ (ns : List Node). get_or ns file2.object d) (sym same) ∙ sym gets) in
      let all = becomes ∙ ap (λ (xs : List ℕ). refilled seat (time_of state) xs got)
      (holds_them ∙ ap (written offset2 part) (sym (same_bytes got there2))) in
      sym (copy_told
      ∙ ap (λ (s : State). tells s (value.Count (length part)))
      (written_there read seat file2.object offset2 part got some there2
      ∙ ap (λ (n : Node).
      nodes_in state (slice_set
      (slice_set state.nodes file.object (after_reading (time_of state) node)) file2.object n)) (sym all)
      ∙ ap (λ (ns : List Node). nodes_in state (slice_set ns file2.object after)) (sym same)))
