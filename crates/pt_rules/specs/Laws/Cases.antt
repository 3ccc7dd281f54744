-- Proof. A call is refused by one of its tests, or it goes on.
use Rattle.std.proofs.Common.{◌≡◌, ◌≢◌, ℕ, Bool, true, false, cond, List, [], ◌∷◌, Option, Some, None, option_map}
use Rattle.std.proofs.Common.{slice_get, refl, ◌∙◌}
use Rattle.std.proofs.lemmas.Option.{same_Some}
use Rattle.pt_host.specs.Errno.{ebadf, enoent}
use Rattle.pt_host.specs.declared.ids.Errno.{Errno}
use Rattle.pt_host.specs.declared.ids.Fd.{Fd}
use Rattle.pt_host.specs.declared.seat.HostSeat.{HostSeat}
use Rattle.pt_node.specs.Slots.{open_at}
use Rattle.pt_rules.specs.State.{State}
use Rattle.pt_node.specs.Opening.{first_refusal}
use Rattle.pt_rules.specs.Calls.{Answered, checked, name_checks, name_refusal, on_fd, on_name, on_open}
use Rattle.pt_rules.specs.Calls.{on_found, on_led, open_on, refused, unless}
use Rattle.pt_node.specs.declared.node.Node.{Node}
use Rattle.pt_node.specs.declared.slots.OpenFile.{OpenFile}

-- what holds of every refusal holds of a call where it holds of what it goes on with
module _ (state : State) (P : Answered → Type 0) (refuses : (errno : Errno) → P (refused state errno)) where
  pub by_refusal : (refusal : Option Errno) (told : Answered) → (refusal ≡ None → P told) →
      P (unless state refusal told)
  by_refusal None told otherwise = otherwise refl
  by_refusal (Some errno) told otherwise = refuses errno

  pub by_checks : (checks : List (Bool × Errno)) (told : Answered) → (first_refusal checks ≡ None → P told) →
      P (checked state checks told)
  by_checks checks told otherwise = by_refusal (first_refusal checks) told otherwise

  by_node : (file : OpenFile) (node : Option Node) (rest : OpenFile → Node → Answered) →
      slice_get state.nodes file.object ≡ node →
      ((at : Node) → slice_get state.nodes file.object ≡ Some at → P (rest file at)) →
      P (on_open state (option_map (λ at. (file, at)) node) rest)
  by_node file None rest is otherwise = refuses ebadf
  by_node file (Some node) rest is otherwise = otherwise node is

  by_file : (fd : ℕ) (file : Option OpenFile) (rest : OpenFile → Node → Answered) → open_at state.slots fd ≡ file →
      ((at : OpenFile) (node : Node) → open_at state.slots fd ≡ Some at →
      slice_get state.nodes at.object ≡ Some node → P (rest at node)) →
      P (on_open state (open_on state.nodes file) rest)
  by_file fd None rest is otherwise = refuses ebadf
  by_file fd (Some file) rest is otherwise =
      by_node file (slice_get state.nodes file.object) rest refl (λ node there. otherwise file node is there)

  pub by_fd : (fd : Fd) (rest : OpenFile → Node → Answered) →
      ((at : OpenFile) (node : Node) → open_at state.slots fd.0 ≡ Some at →
      slice_get state.nodes at.object ≡ Some node → P (rest at node)) →
      P (on_fd state fd rest)
  by_fd fd rest otherwise = by_file fd.0 (open_at state.slots fd.0) rest refl otherwise

  pub by_name : (seat : HostSeat) (fd : Fd) (name : List ℕ) (rest : ℕ → Node → Answered) →
      ((at : OpenFile) (dir : Node) → open_at state.slots fd.0 ≡ Some at →
      slice_get state.nodes at.object ≡ Some dir → name_refusal seat dir name ≡ None →
      P (rest at.object dir)) → P (on_name state seat fd name rest)
  by_name seat fd name rest otherwise =
      by_fd fd (λ file dir. unless state (name_refusal seat dir name) (rest file.object dir))
      (λ at dir is there.
      by_refusal (name_refusal seat dir name) (rest at.object dir) (λ none. otherwise at dir is there none))

  by_led : (object : ℕ) (node : Option Node) (rest : ℕ → Node → Answered) → slice_get state.nodes object ≡ node →
      ((at : Node) → slice_get state.nodes object ≡ Some at → P (rest object at)) →
      P (on_led state (option_map (λ at. (object, at)) node) rest)
  by_led object None rest is otherwise = refuses enoent
  by_led object (Some node) rest is otherwise = otherwise node is

  pub by_found : (found_object : Option ℕ) (rest : ℕ → Node → Answered) →
      ((object : ℕ) (node : Node) → found_object ≡ Some object → slice_get state.nodes object ≡ Some node →
      P (rest object node)) →
      P (on_found state found_object rest)
  by_found None rest otherwise = refuses enoent
  by_found (Some object) rest otherwise =
      by_led object (slice_get state.nodes object) rest refl (λ node there. otherwise object node refl there)

-- none of these tests refuses with this error
abbrev pub NoneTells : Errno → List (Bool × Errno) → Type 0
NoneTells errno [] = Unit {0}
NoneTells errno (check ∷ checks) = (check.1 ≢ errno) × NoneTells errno checks

other_first : (than : Errno) (b : Bool) (here : Errno) (rest : Option Errno) (errno : Errno) → here ≢ than →
    (rest ≡ Some errno → errno ≢ than) → cond b (Some here) rest ≡ Some errno → errno ≢ than
other_first than true here rest errno apart later is = λ e. apart (same_Some here errno is ∙ e)
other_first than false here rest errno apart later is = later is

pub refused_otherwise : (than : Errno) (checks : List (Bool × Errno)) (errno : Errno) → NoneTells than checks →
    first_refusal checks ≡ Some errno → errno ≢ than
refused_otherwise than [] errno none is = λ e. cc
refused_otherwise than (check ∷ checks) errno none is =
    other_first than check.0 check.1 (first_refusal checks) errno none.0 (λ later.
    refused_otherwise than checks errno none.1 later) is

-- the same where it holds of every refusal but by one error, and none of the tests tells that
module _ (state : State) (P : Answered → Type 0) (than : Errno)
    (refuses : (errno : Errno) → errno ≢ than → P (refused state errno)) where
  other_refusal : (refusal : Option Errno) (told : Answered) →
      ((errno : Errno) → refusal ≡ Some errno → errno ≢ than) → (refusal ≡ None → P told) →
      P (unless state refusal told)
  other_refusal None told apart otherwise = otherwise refl
  other_refusal (Some errno) told apart otherwise = refuses errno (apart errno refl)

  pub by_other_checks : (checks : List (Bool × Errno)) (told : Answered) → NoneTells than checks →
      (first_refusal checks ≡ None → P told) → P (checked state checks told)
  by_other_checks checks told none otherwise =
      other_refusal (first_refusal checks) told (λ errno is. refused_otherwise than checks errno none is) otherwise

  other_node : (file : OpenFile) (node : Option Node) (rest : OpenFile → Node → Answered) → ebadf ≢ than →
      slice_get state.nodes file.object ≡ node →
      ((at : Node) → slice_get state.nodes file.object ≡ Some at → P (rest file at)) →
      P (on_open state (option_map (λ at. (file, at)) node) rest)
  other_node file None rest shut is otherwise = refuses ebadf shut
  other_node file (Some node) rest shut is otherwise = otherwise node is

  other_file : (fd : ℕ) (file : Option OpenFile) (rest : OpenFile → Node → Answered) → ebadf ≢ than →
      open_at state.slots fd ≡ file →
      ((at : OpenFile) (node : Node) → open_at state.slots fd ≡ Some at →
      slice_get state.nodes at.object ≡ Some node → P (rest at node)) →
      P (on_open state (open_on state.nodes file) rest)
  other_file fd None rest shut is otherwise = refuses ebadf shut
  other_file fd (Some file) rest shut is otherwise =
      other_node file (slice_get state.nodes file.object) rest shut refl (λ node there. otherwise file node is there)

  pub by_other_name : (seat : HostSeat) (fd : Fd) (name : List ℕ) (rest : ℕ → Node → Answered) → ebadf ≢ than →
      ((dir : Node) → NoneTells than (name_checks seat dir name)) →
      ((at : OpenFile) (dir : Node) → open_at state.slots fd.0 ≡ Some at →
      slice_get state.nodes at.object ≡ Some dir → name_refusal seat dir name ≡ None →
      P (rest at.object dir)) → P (on_name state seat fd name rest)
  by_other_name seat fd name rest shut none otherwise =
      other_file fd.0 (open_at state.slots fd.0) (λ file dir.
      unless state (name_refusal seat dir name) (rest file.object dir)) shut refl
      (λ at dir is there.
      by_other_checks (name_checks seat dir name) (rest at.object dir) (none dir) (λ passed.
      otherwise at dir is there passed))
