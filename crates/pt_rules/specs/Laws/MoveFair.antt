-- Proof. `Seek` and `ListAt`: each moves the position of one descriptor, and no more than that beside what any call
-- may do.
use Rattle.std.proofs.Common.{◌≡◌, ◌≢◌, ◌<◌, inl, inr, ℕ, ℤ, List, length, Option, Some, None, Result, Ok, Err}
use Rattle.std.proofs.Common.{slice_get, unwrap_or, refl, ap, sym, ◌∙◌, subst}
use Rattle.std.proofs.lemmas.Bool.Decides.{eqb_tells}
use Rattle.std.proofs.lemmas.Option.{slice_get_within}
use Rattle.pt_host.specs.LawfulTree.{TreeChanges}
use Rattle.pt_host.specs.Tree.{IsOpenOn, Tree}
use Rattle.pt_host.specs.declared.ids.Errno.{Errno}
use Rattle.pt_host.specs.declared.ids.Fd.{Fd}
use Rattle.pt_host.specs.declared.op.KeptHostOp.TheVariants as call
use Rattle.pt_host.specs.declared.reply.HostReply.TheVariants as reply
use Rattle.pt_host.specs.declared.reply.HostValue.TheVariants as value
use Rattle.pt_rules.specs.Calls.{refused, with_node}
use Rattle.pt_rules.specs.ContentCalls.{seek, seek_checks, seek_to, sought, with_position}
use Rattle.pt_rules.specs.ListCalls.{list_at, list_checks, names_from, records, tell_records}
use Rattle.pt_rules.specs.Holds.{HasHold}
use Rattle.pt_node.specs.Node.{size_of}
use Rattle.pt_node.specs.Reading.{after_reading}
use Rattle.pt_node.specs.Slots.{file_of, open_at, placed_at, placed_where}
use Rattle.pt_rules.specs.Sound.{IsSound}
use Rattle.pt_rules.specs.State.{State, description_where, time_of, tree_of}
use Rattle.pt_node.specs.declared.node.Node.{Node}
use Rattle.pt_node.specs.declared.slots.OpenFile.{OpenFile}
use Rattle.pt_node.specs.declared.slots.Slot.{Slot}
use Rattle.pt_node.specs.declared.slots.Slot.TheVariants.{Open}
use Rattle.pt_rules.specs.Laws.Changed.{alike_itself}
use Rattle.pt_rules.specs.Laws.Fair.{IsFair, IsPlain, fair_node, fair_refused, no_flags, stays_same, tree-with_position}
use Rattle.pt_rules.specs.Laws.Keeping.{keeps_reading}
use Rattle.pt_rules.specs.Laws.Opens.{open_there, same_open}
use Rattle.pt_rules.specs.Laws.Sounding.{OpenedBefore, named_still, opened_still, sound_after}
use Rattle.pt_node.specs.Laws.Updates.{open_slot, get-set_apart, get-set_here}
use Rattle.pt_rules.specs.Laws.Cases.{by_checks, by_fd}

abbrev fd_of : ℕ → Fd
fd_of number = record { 0 = number }

placed_before : (state : State) (fd position : ℕ) → IsSound state →
    OpenedBefore state (placed_at fd position state.slots)
placed_before state fd position sound other held is =
    let on = subst (λ (t : Tree). IsOpenOn t (fd_of other) held.object) (tree-with_position state fd position)
    (open_there (with_position state fd position) (fd_of other) held is) in
    let was = same_open state (fd_of other) held.object on in
    let before = opened_still state sound other was.0 was.1 in
    (subst (HasHold state) was.2 before.0, subst (λ o. o < length state.nodes) was.2 before.1)

pub sound-with_position : (state : State) (fd position : ℕ) → IsSound state → IsSound (with_position state fd position)
sound-with_position state fd position sound =
    sound_after state state.nodes (placed_at fd position state.slots) sound (alike_itself state.nodes)
    (named_still state sound) (placed_before state fd position sound)

-- any other descriptor keeps its position
moved_elsewhere : (file : Option OpenFile) (fd position : ℕ) (slots : List Slot) (k : ℕ) → k ≢ fd →
    open_at (placed_where file fd position slots) k ≡ open_at slots k
moved_elsewhere None fd position slots k apart = refl
moved_elsewhere (Some file) fd position slots k apart =
    ap file_of (get-set_apart slots fd (Open (record file { position = position })) k apart)

-- what it asks stays, for each
access_stays : (file : Option OpenFile) (fd position : ℕ) (slots : List Slot) (k : ℕ) → open_at slots fd ≡ file →
    (description_where (open_at (placed_where file fd position slots) k)).access
    ≡ (description_where (open_at slots k)).access
access_stays None fd position slots k is = refl
access_stays (Some file) fd position slots k is =
    let within = slice_get_within slots fd (Open file) (open_slot (slice_get slots fd) file is) in
    elim (eqb_tells k fd) [
      | inl e ↦ ap (λ j. (description_where (open_at (placed_where (Some file) fd position slots) j)).access) e.1
          ∙ ap (λ slot. (description_where (file_of slot)).access)
          (get-set_here slots fd (Open (record file { position = position })) within)
          ∙ sym (ap (λ j. (description_where (open_at slots j)).access) e.1
          ∙ ap (λ (o : Option OpenFile). (description_where o).access) is)
      | inr apart ↦ ap (λ slot.
          (description_where (file_of slot)).access)
          (get-set_apart slots fd (Open (record file { position = position })) k apart.1)
    ]

sought_fair : (state : State) (fd : Fd) (offset : ℤ) (whence : ℕ) → IsSound state → (to : Result ℕ Errno) →
    IsFair state (call.Seek fd offset whence) (seek_to state fd.0 to)
sought_fair state fd offset whence sound (Err errno) =
    fair_refused state (call.Seek fd offset whence) errno sound (tt, refl)
sought_fair state fd offset whence sound (Ok position) = record {
  sound = λ few. sound-with_position state fd.0 position sound;
  changes = subst (TreeChanges (tree_of state) (call.Seek fd offset whence) (reply.Ok (value.Count position)))
      (sym (tree-with_position state fd.0 position)) (tt, refl);
  contents = record {
    objects = λ object within may. stays_same _ _ refl;
    openings = λ flags object asks within may. refl;
    emptied = λ flags object asks makes. inl refl;
    positions = λ k open_still none.
        ap (λ (o : Option OpenFile).
        (description_where o).position)
        (moved_elsewhere (open_at state.slots fd.0) fd.0 position state.slots k none);
    accesses = λ k open_still. access_stays (open_at state.slots fd.0) fd.0 position state.slots k refl;
    begins = λ flags opened asks is. absurd (no_flags (call.Seek fd offset whence) flags refl asks);
  };
  allowed = λ faults. tt;
  faults = refl;
  fails = tt;
}

pub fair_seek : (state : State) (fd : Fd) (offset : ℤ) (whence : ℕ) → IsSound state →
    IsFair state (call.Seek fd offset whence) (seek state fd offset whence)
fair_seek state fd offset whence sound =
    by_fd state (IsFair state (call.Seek fd offset whence)) refuses fd _
    (λ file node is there. by_checks state (IsFair state (call.Seek fd offset whence)) refuses (seek_checks file node) _
    (λ none. sought_fair state fd offset whence sound (sought file.position (size_of node.content) offset whence)))
  where
    refuses : (errno : Errno) → IsFair state (call.Seek fd offset whence) (refused state errno)
    refuses errno = fair_refused state (call.Seek fd offset whence) errno sound (tt, refl)

plain_list : (fd : Fd) (offset : Option ℕ) (size : ℕ) → IsPlain (call.ListAt fd offset size)
plain_list fd offset size =
    record { refuses = λ tree errno. (tt, refl); passes = λ tree told fits. (fits, refl); opens = refl }

-- the directory is read, and the descriptor moved
listed_fair : (state : State) (fd : Fd) (offset : Option ℕ) (size : ℕ) → IsSound state →
    (file : OpenFile) (node : Node) → slice_get state.nodes file.object ≡ Some node → (told : List ℕ × ℕ) →
    IsFair state (call.ListAt fd offset size) (tell_records state fd.0 file node told)
listed_fair state fd offset size sound file node there told =
    let read = fair_node state (call.ListAt fd offset size) (value.Bytes told.0) file.object node
    (after_reading (time_of state) node) sound there
    (keeps_reading (time_of state) node) (plain_list fd offset size) tt (inr refl) in
    let between = with_node state file.object (after_reading (time_of state) node) in
    record {
      sound = λ few. sound-with_position between fd.0 told.1 (read.sound few);
      changes = subst (TreeChanges (tree_of state) (call.ListAt fd offset size) (reply.Ok (value.Bytes told.0)))
          (sym (tree-with_position between fd.0 told.1)) read.changes;
      contents = record {
        objects = λ object within may. read.contents.objects object within may;
        openings = λ flags object asks within may. absurd (no_flags (call.ListAt fd offset size) flags refl asks);
        emptied = λ flags object asks makes. absurd (no_flags (call.ListAt fd offset size) flags refl asks);
        positions = λ k open_still none.
            ap (λ (o : Option OpenFile).
            (description_where o).position)
            (moved_elsewhere (open_at state.slots fd.0) fd.0 told.1 state.slots k none);
        accesses = λ k open_still. access_stays (open_at state.slots fd.0) fd.0 told.1 state.slots k refl;
        begins = λ flags opened asks is. absurd (no_flags (call.ListAt fd offset size) flags refl asks);
      };
      allowed = λ faults. tt;
      faults = refl;
      fails = tt;
    }

pub fair_list : (state : State) (fd : Fd) (offset : Option ℕ) (size : ℕ) → IsSound state →
    IsFair state (call.ListAt fd offset size) (list_at state fd offset size)
fair_list state fd offset size sound =
    by_fd state (IsFair state (call.ListAt fd offset size)) refuses fd _
    (λ file node is there.
    by_checks state (IsFair state (call.ListAt fd offset size)) refuses
    (list_checks file node (unwrap_or offset file.position) size) _
    (λ none. listed_fair state fd offset size sound file node there
    (records size (unwrap_or offset file.position) state.nodes (names_from (unwrap_or offset file.position) node))))
  where
    refuses : (errno : Errno) → IsFair state (call.ListAt fd offset size) (refused state errno)
    refuses errno = fair_refused state (call.ListAt fd offset size) errno sound (tt, refl)
