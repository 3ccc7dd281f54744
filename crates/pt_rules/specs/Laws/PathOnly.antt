-- Proof. An attribute call by a path-only descriptor that does not go through it is refused with EBADF.
use Rattle.std.proofs.Common.{◌≡◌, ℕ, Bool, true, false, not, ◌&&◌, List, [], ◌∷◌, Option, Some, None, option_map}
use Rattle.std.proofs.Common.{slice_get, refl, ap, sym, ◌∙◌}
use Rattle.std.proofs.lemmas.Option.{same_Some}
use Rattle.pt_host.specs.Call.{Call}
use Rattle.pt_host.specs.Errno.{ebadf}
use Rattle.pt_host.specs.Flags.{includes, o_path}
use Rattle.pt_host.specs.LawfulTree.{AsksPathOnly, IsBadFd}
use Rattle.pt_host.specs.Tree.{IsPathOnly, Opened}
use Rattle.pt_host.specs.declared.ids.Errno.{Errno}
use Rattle.pt_host.specs.declared.ids.Fd.{Fd}
use Rattle.pt_host.specs.declared.seat.HostSeat.{HostSeat}
use Rattle.pt_host.specs.declared.op.KeptHostOp.TheVariants as call
use Rattle.pt_rules.specs.AttributeCalls.{does_not_serve, set_xattr_row, get_xattr_row, list_xattr_row}
use Rattle.pt_rules.specs.AttributeCalls.{remove_xattr_row}
use Rattle.pt_rules.specs.Calls.{Answered, checked, on_open, open_on}
use Rattle.pt_node.specs.Slots.{open_at}
use Rattle.pt_rules.specs.Sound.{IsSound}
use Rattle.pt_rules.specs.State.{State, tree_of}
use Rattle.pt_rules.specs.Table.{answer}
use Rattle.pt_node.specs.declared.node.Node.{Node}
use Rattle.pt_node.specs.declared.slots.OpenFile.{OpenFile}
use Rattle.pt_rules.specs.Laws.Finding.{there_within}
use Rattle.pt_rules.specs.Laws.WellFormed.{file_of_open}
use Rattle.pt_rules.specs.Rows.{Row, on_row, by_row}

-- the first test holds and refuses so
abbrev IsBadFirst : List (Bool × Errno) → Type 0
IsBadFirst [] = ⊥
IsBadFirst (check ∷ checks) = (check.0 ≡ true) × (check.1 ≡ ebadf)

bad_where : (state : State) (holds : Bool) (errno : Errno) (checks : List (Bool × Errno)) (told : Answered) →
    holds ≡ true → errno ≡ ebadf → IsBadFd (checked state ((holds, errno) ∷ checks) told).0
bad_where state true errno checks told is same = same
bad_where state false errno checks told is same = cc

bad_checks : (state : State) (checks : List (Bool × Errno)) (told : Answered) → IsBadFirst checks →
    IsBadFd (checked state checks told).0
bad_checks state [] told bad = absurd bad
bad_checks state (check ∷ checks) told bad = bad_where state check.0 check.1 checks told bad.0 bad.1

module _ (state : State) (fd : Fd) (through : Bool) (sound : IsSound state) (goes : through ≡ false)
    (only : IsPathOnly (tree_of state) fd) where
  serves_not : (file : OpenFile) → open_at state.slots fd.0 ≡ Some file → does_not_serve file through ≡ true
  serves_not file is =
      let held = file_of_open state fd.0 only.0 only.1 in
      let same : file ≡ held.0 = same_Some file held.0 (sym is ∙ held.1) in
      let flag : includes held.0.flags.0 o_path ≡ true = ap (λ (o : Opened). o.path_only) held.2 ∙ only.2 in
      ap (λ (f : OpenFile). includes f.flags.0 o_path && not through) same ∙ ap (λ b. b && not through) flag
      ∙ ap (λ t. true && not t) goes

  bad_node : (file : OpenFile) → open_at state.slots fd.0 ≡ Some file → (node : Option Node) →
      slice_get state.nodes file.object ≡ node →
      (rest : OpenFile → Node → Answered) → ((at : Node) → IsBadFd (rest file at).0) →
      IsBadFd (on_open state (option_map (λ at. (file, at)) node) rest).0
  bad_node file is None there rest bad =
      absurd (let has = there_within state.nodes file.object (sound.opened fd.0 file is) in
      let e : Some has.0 ≡ None = sym has.1 ∙ there in cc)
  bad_node file is (Some node) there rest bad = bad node

  bad_file : (file : Option OpenFile) → open_at state.slots fd.0 ≡ file → (rest : OpenFile → Node → Answered) →
      ((at : OpenFile) → open_at state.slots fd.0 ≡ Some at → (node : Node) → IsBadFd (rest at node).0) →
      IsBadFd (on_open state (open_on state.nodes file) rest).0
  bad_file None is rest bad = refl
  bad_file (Some file) is rest bad =
      bad_node file is (slice_get state.nodes file.object) refl rest (λ node. bad file is node)

  bad_row : (made : OpenFile → Node → Row) →
      ((file : OpenFile) (node : Node) → does_not_serve file through ≡ true → IsBadFirst (made file node).refusals) →
      IsBadFd (on_row state fd made).0
  bad_row made first =
      bad_file (open_at state.slots fd.0) refl (λ file node. by_row state file.object (made file node))
      (λ file is node. bad_checks state (made file node).refusals _ (first file node (serves_not file is)))

pub path_only_bad : (state : State) (numbers : ℕ → ℕ) (seat : HostSeat) (asked : Call) → IsSound state →
    AsksPathOnly (tree_of state) asked → IsBadFd (answer state numbers seat asked).0
path_only_bad state numbers seat (call.SetXattr fd through name bytes flags) sound asks =
    bad_row state fd through sound asks.0 asks.1 (set_xattr_row state through name bytes flags)
    (λ file node serves. (serves, refl))
path_only_bad state numbers seat (call.GetXattr fd through name size) sound asks =
    bad_row state fd through sound asks.0 asks.1 (get_xattr_row through name size)
    (λ file node serves. (serves, refl))
path_only_bad state numbers seat (call.ListXattr fd through size) sound asks =
    bad_row state fd through sound asks.0 asks.1 (list_xattr_row through size)
    (λ file node serves. (serves, refl))
path_only_bad state numbers seat (call.RemoveXattr fd through name) sound asks =
    bad_row state fd through sound asks.0 asks.1 (remove_xattr_row state through name)
    (λ file node serves. (serves, refl))
path_only_bad state numbers seat asked sound asks = absurd asks
