-- Proof. No call of a host in memory plans a failure, and where none is planned none comes.
use Rattle.std.proofs.Common.{◌≡◌, ◌∙◌, ◌==◌, ◌%◌, ℕ, List, [], ◌∷◌, Bool, true, false, Option, Some, None, Result}
use Rattle.std.proofs.Common.{Ok, Err}
use Rattle.std.proofs.Common.{inl, inr, refl, ap, sym, subst, cond, length}
use Rattle.std.specs.Prelude.{option_and_then, unwrap_or, ok_or, if◌then◌else◌, ◌&&◌, ◌||◌, not, nat_lt}
use Rattle.std.specs.Map.{remove_entry}
use Rattle.pt_host.specs.Call.{Call}
use Rattle.pt_host.specs.Flags.{includes, o_creat}
use Rattle.pt_host.specs.SeatAnswer.{seat_answer}
use Rattle.pt_host.specs.declared.edit.Edit.{Edit}
use Rattle.pt_host.specs.declared.edit.Edit.TheVariants as edit
use Rattle.pt_host.specs.declared.flags.OpenFlags.{OpenFlags}
use Rattle.pt_host.specs.declared.ids.Errno.{Errno}
use Rattle.pt_host.specs.declared.ids.Fd.{Fd}
use Rattle.pt_host.specs.declared.op.KeptHostOp.TheVariants as call
use Rattle.pt_host.specs.declared.reply.HostReply.{HostReply}
use Rattle.pt_host.specs.declared.reply.HostReply.TheVariants as reply
use Rattle.pt_host.specs.declared.reply.HostValue.TheVariants as value
use Rattle.pt_host.specs.declared.seat.HostSeat.{HostSeat}
use Rattle.pt_host.specs.Errno.{estale}
use Rattle.pt_node.specs.Node.{size_of}
use Rattle.pt_node.specs.Reading.{after_reading}
use Rattle.pt_node.specs.Opening.{first_refusal, opening_refusal}
use Rattle.pt_node.specs.Paths.{led_on, walk_from, walk_root}
use Rattle.pt_node.specs.Slots.{open_at}
use Rattle.pt_node.specs.declared.node.Content.{Content}
use Rattle.pt_node.specs.declared.node.Content.TheVariants.{Directory, Regular, Link}
use Rattle.pt_node.specs.declared.node.Node.{Node}
use Rattle.pt_node.specs.declared.slots.OpenFile.{OpenFile}
use Rattle.pt_rules.specs.AttributeCalls.{chmod_row, chown_row, times_row, set_xattr_row, get_xattr_row}
use Rattle.pt_rules.specs.AttributeCalls.{list_xattr_row, remove_xattr_row}
use Rattle.pt_rules.specs.Calls.{Answered, checked, close_file, done, name_refusal, on_fd, on_found, on_led, on_name}
use Rattle.pt_rules.specs.Calls.{on_open, on_slot, open_on, open_walked, opening, refused, reopen, tells, there_in}
use Rattle.pt_rules.specs.Calls.{with_node}
use Rattle.pt_rules.specs.Calls.{unless}
use Rattle.pt_rules.specs.ContentCalls.{copy_range, read_row, seek, seek_to, write_row, truncate_row, allocate_row}
use Rattle.pt_rules.specs.ContentCalls.{flush_row, copied, sought, sync_row, with_copied, with_written}
use Rattle.pt_rules.specs.Does.{Does, AnswersCall}
use Rattle.pt_rules.specs.EditPaths.{Place, judged, named_at}
use Rattle.pt_rules.specs.Edits.{at_name, at_place, edited, make_at, make_in, on_placed, rename_judged, rename_onto}
use Rattle.pt_rules.specs.Edits.{rename_placed, replace_checks, unlink_at, with_moved, with_rewritten, with_unlinked}
use Rattle.pt_rules.specs.Edits.{write_at}
use Rattle.pt_rules.specs.Faults.{after_failing, failure, failure_of, next_call, plan_for, without_plan}
use Rattle.pt_rules.specs.NameCalls.{content_of_kind, kind_bits, make_dir, make_in_dir, make_link, make_node}
use Rattle.pt_rules.specs.NameCalls.{make_of_kind}
use Rattle.pt_rules.specs.NameCalls.{make_symlink, masked, remove_dir, rename, rename_between, rename_to, unlink}
use Rattle.pt_rules.specs.NameCalls.{with_linked}
use Rattle.pt_rules.specs.OpeningCalls.{create_or_open, created_checks, open_new, fd_path_row, open_at_name}
use Rattle.pt_rules.specs.OpeningCalls.{open_by_handle, open_creating}
use Rattle.pt_rules.specs.OpeningCalls.{open_named, open_path, read_link_row, stat_fs_row, tell_handle, told_handle}
use Rattle.pt_rules.specs.OpeningCalls.{handled}
use Rattle.pt_rules.specs.ListCalls.{list_at, names_from, records, tell_records}
use Rattle.pt_rules.specs.Rows.{Row, RowEffect, Stays, Becomes, by_row, left_by, on_row}
use Rattle.pt_rules.specs.State.{State, time_of}
use Rattle.pt_rules.specs.Table.{Outcome, Seated, answer, outcome_where}

-- what was planned is planned still
record Keeps (state : State) (told : Answered) : Type 0 where
  plans : told.1.plans ≡ state.plans

module _ (state : State) where
  unless_keeps : (why : Option Errno) (told : Answered) → Keeps state told → Keeps state (unless state why told)
  unless_keeps None told keeps = keeps
  unless_keeps (Some errno) told keeps = record { plans = refl }

  plain : (why : Option Errno) (told : Answered) → told.1.plans ≡ state.plans → Keeps state (unless state why told)
  plain why told same = unless_keeps why told (record { plans = same })

  open_keeps : (at : Option (OpenFile × Node)) (rest : OpenFile → Node → Answered) →
      ((file : OpenFile) (node : Node) → Keeps state (rest file node)) → Keeps state (on_open state at rest)
  open_keeps None rest keeps = record { plans = refl }
  open_keeps (Some at) rest keeps = keeps at.0 at.1

  fd_keeps : (fd : Fd) (rest : OpenFile → Node → Answered) →
      ((file : OpenFile) (node : Node) → Keeps state (rest file node)) → Keeps state (on_fd state fd rest)
  fd_keeps fd rest keeps = open_keeps (open_on state.nodes (open_at state.slots fd.0)) rest keeps

  led_keeps : (at : Option (ℕ × Node)) (rest : ℕ → Node → Answered) →
      ((object : ℕ) (node : Node) → Keeps state (rest object node)) → Keeps state (on_led state at rest)
  led_keeps None rest keeps = record { plans = refl }
  led_keeps (Some at) rest keeps = keeps at.0 at.1

  found_keeps : (there : Option ℕ) (rest : ℕ → Node → Answered) →
      ((object : ℕ) (node : Node) → Keeps state (rest object node)) → Keeps state (on_found state there rest)
  found_keeps there rest keeps = led_keeps (led_on state.nodes there) rest keeps

  name_keeps : (seat : HostSeat) (fd : Fd) (name : List ℕ) (rest : ℕ → Node → Answered) →
      ((dir : ℕ) (parent : Node) → Keeps state (rest dir parent)) → Keeps state (on_name state seat fd name rest)
  name_keeps seat fd name rest keeps =
      fd_keeps fd (λ file dir. unless state (name_refusal seat dir name) (rest file.object dir)) (λ file dir.
      unless_keeps (name_refusal seat dir name) (rest file.object dir) (keeps file.object dir))

  if_keeps : (b : Bool) (one other : Answered) → Keeps state one → Keeps state other → Keeps state (cond b one other)
  if_keeps true one other keeps keeps' = keeps
  if_keeps false one other keeps keeps' = keeps'

  -- Openings.

  opening_keeps : (seat : HostSeat) (flags : OpenFlags) (object : ℕ) (node : Node) →
      Keeps state (opening state seat flags object node)
  opening_keeps seat flags object node = unless_keeps (opening_refusal seat node flags.0) _ (record { plans = refl })

  walked_keeps : (seat : HostSeat) (flags : OpenFlags) (at : Result (ℕ × Node) Errno) →
      Keeps state (open_walked state seat flags at)
  walked_keeps seat flags (Ok at) = opening_keeps seat flags at.0 at.1
  walked_keeps seat flags (Err errno) = record { plans = refl }

  create_keeps : (numbers : ℕ → ℕ) (seat : HostSeat) (flags : OpenFlags) (mode dir : ℕ) (parent : Node)
      (name : List ℕ) (there : Option (ℕ × Node)) →
      Keeps state (create_or_open state numbers seat flags mode dir parent name there)
  create_keeps numbers seat flags mode dir parent name (Some at) = opening_keeps seat flags at.0 at.1
  create_keeps numbers seat flags mode dir parent name None =
      plain (first_refusal (created_checks seat parent flags.0))
      (open_new state numbers seat flags (masked seat mode) dir name parent) refl

  open_at_keeps : (numbers : ℕ → ℕ) (seat : HostSeat) (fd : Fd) (name : List ℕ) (flags : OpenFlags) (mode : ℕ) →
      Keeps state (open_at_name state numbers seat fd name flags mode)
  open_at_keeps numbers seat fd name flags mode =
      if_keeps (includes flags.0 o_creat) (open_creating state numbers seat fd name flags mode)
      (open_named state seat fd name flags)
      (name_keeps seat fd name _ (λ dir parent. unless_keeps _ _
      (create_keeps numbers seat flags mode dir parent name (led_on state.nodes (there_in parent name)))))
      (name_keeps seat fd name _ (λ dir parent.
      found_keeps (there_in parent name) (opening state seat flags) (opening_keeps seat flags)))

  close_keeps : (at : Option OpenFile) (rest : OpenFile → Answered) → ((file : OpenFile) → Keeps state (rest file)) →
      Keeps state (on_slot state at rest)
  close_keeps None rest keeps = record { plans = refl }
  close_keeps (Some file) rest keeps = keeps file

  -- Rows.

  left_keeps : (object : ℕ) (leaves : RowEffect) → (left_by state object leaves).plans ≡ state.plans
  left_keeps object Stays = refl
  left_keeps object (Becomes after) = refl

  row_keeps : (fd : Fd) (made : OpenFile → Node → Row) → Keeps state (on_row state fd made)
  row_keeps fd made = fd_keeps fd (λ file node. by_row state file.object (made file node)) (λ file node.
      plain (first_refusal (made file node).refusals)
      (tells (left_by state file.object (made file node).leaves) (made file node).told)
      (left_keeps file.object (made file node).leaves))

  -- Contents.

  sought_keeps : (fd : ℕ) (at : Result ℕ Errno) → Keeps state (seek_to state fd at)
  sought_keeps fd (Ok position) = record { plans = refl }
  sought_keeps fd (Err errno) = record { plans = refl }

  -- Names.

  kind_keeps : (numbers : ℕ → ℕ) (seat : HostSeat) (dir : ℕ) (name : List ℕ) (permissions rdev : ℕ)
      (content : Option Content) (parent : Node) →
      Keeps state (make_of_kind state numbers seat dir name permissions rdev content parent)
  kind_keeps numbers seat dir name permissions rdev None parent = record { plans = refl }
  kind_keeps numbers seat dir name permissions rdev (Some content) parent = record { plans = refl }

  onto_keeps : (from to : ℕ × List ℕ) (object : ℕ) (node : Node) (target : Option (ℕ × Node)) →
      Keeps state (rename_onto state from to object node target)
  onto_keeps from to object node None = record { plans = refl }
  onto_keeps from to object node (Some target) =
      let moves = done (with_moved state from to object (Some target.0)) in
      if_keeps (target.0 == object) (done state) (checked state (replace_checks node target.1) moves)
      (record { plans = refl })
      (plain (first_refusal (replace_checks node target.1)) moves refl)

  to_keeps : (from to : ℕ × List ℕ) (object : ℕ) (node : Node) (target : Option (ℕ × Node)) (flags : ℕ) →
      Keeps state (rename_to state from to object node target flags)
  to_keeps from to object node None flags = record { plans = refl }
  to_keeps from to object node (Some other) flags =
      if_keeps (not (other.0 == object) && (flags == 2)) _ _ (record { plans = refl })
      (onto_keeps from to object node (Some other))

  between_keeps : (seat : HostSeat) (from to : Place) (flags : ℕ) →
      Keeps state (rename_between state seat from to flags)
  between_keeps seat from to flags =
      if_keeps (nat_lt 2 flags) _ _ (record { plans = refl })
      (found_keeps (there_in from.0.1 from.1) _ (λ object node. unless_keeps _ _
      (to_keeps (named_at from) (named_at to) object node (led_on state.nodes (there_in to.0.1 to.1)) flags)))

  -- Edits.

  at_keeps : (root : Errno) (at : Result Place Errno) (rest : Place → Answered) →
      ((place : Place) → Keeps state (rest place)) → Keeps state (at_place state root at rest)
  at_keeps root (Err errno) rest keeps = record { plans = refl }
  at_keeps root (Ok (dir, [])) rest keeps = record { plans = refl }
  at_keeps root (Ok (dir, first ∷ name)) rest keeps = keeps (dir, first ∷ name)

  judged_keeps : (new : List ℕ) (from to : Result Place Errno) → Keeps state (rename_judged state new from to)
  judged_keeps new (Err errno) to = record { plans = refl }
  judged_keeps new (Ok from) (Err errno) = record { plans = refl }
  judged_keeps new (Ok from) (Ok to) =
      if_keeps ((length from.1 == 0) || (length to.1 == 0)) _ _ (record { plans = refl })
      (found_keeps (there_in from.0.1 from.1) _ (λ object node. unless_keeps _ _
      (onto_keeps (named_at from) (named_at to) object node (led_on state.nodes (there_in to.0.1 to.1)))))

  edit_keeps : (numbers : ℕ → ℕ) (asked : Edit) → Keeps state (edited state numbers asked)
  edit_keeps numbers (edit.Unlink path) = at_keeps _ (judged state.nodes path) (unlink_at state) (λ place.
      found_keeps (there_in place.0.1 place.1) _ (λ object node.
      plain _ (done (with_unlinked state place.0.0 place.1 object)) refl))
  edit_keeps numbers (edit.Rename old new) =
      judged_keeps new (judged state.nodes old) (judged state.nodes new)
  edit_keeps numbers (edit.File path mode uid gid bytes) =
      at_keeps _ (judged state.nodes path) (make_at state numbers mode uid gid (Regular bytes)) (λ place.
      plain _ (make_in state numbers place.0.0 place.1 (mode % 4096) uid gid 0 (Regular bytes) place.0.1) refl)
  edit_keeps numbers (edit.Dir path mode uid gid) =
      at_keeps _ (judged state.nodes path) (make_at state numbers mode uid gid (Directory [])) (λ place.
      plain _ (make_in state numbers place.0.0 place.1 (mode % 4096) uid gid 0 (Directory []) place.0.1) refl)
  edit_keeps numbers (edit.Write path bytes) = at_keeps _ (judged state.nodes path) (write_at state bytes) (λ place.
      found_keeps (there_in place.0.1 place.1) _ (λ object node.
      plain _ (done (with_rewritten state object bytes)) refl))

-- bytes that are written plan nothing
written_keeps : (state : State) (seat : HostSeat) (object start : ℕ) (bytes : List ℕ) →
    (with_written state seat object start bytes).plans ≡ state.plans
written_keeps state seat object start [] = refl
written_keeps state seat object start (byte ∷ bytes) = refl

answer_keeps : (state : State) (numbers : ℕ → ℕ) (seat : HostSeat) (asked : Call) →
    Keeps state (answer state numbers seat asked)
answer_keeps state numbers seat (call.OpenRoot path flags) = walked_keeps state seat flags (walk_root state.nodes path)
answer_keeps state numbers seat (call.OpenPath fd path flags) = fd_keeps state fd _ (λ file node.
    walked_keeps state seat flags (walk_from state.nodes (file.object, node) path))
answer_keeps state numbers seat (call.OpenAt fd name flags mode) =
    open_at_keeps state numbers seat fd name flags mode
answer_keeps state numbers seat (call.Reopen fd flags) = fd_keeps state fd _ (λ file node.
    unless_keeps state _ _ (opening_keeps state seat flags file.object node))
answer_keeps state numbers seat (call.OpenByHandle fd handle flags) = fd_keeps state fd _ (λ file node.
    unless_keeps state _ _ (walked_keeps state seat flags (ok_or (handled state node.ids.mnt_id handle) estale)))
answer_keeps state numbers seat (call.Close fd) =
    close_keeps state (open_at state.slots fd.0) _ (λ file. record { plans = refl })
answer_keeps state numbers seat (call.Stat fd) = fd_keeps state fd _ (λ file node. record { plans = refl })
answer_keeps state numbers seat (call.HandleOf fd) = fd_keeps state fd _ (λ file node.
    plain state _ (tells state (value.Handle (told_handle node))) refl)
answer_keeps state numbers seat (call.StatFs fd) = row_keeps state fd (stat_fs_row state)
answer_keeps state numbers seat (call.ReadLink fd) = row_keeps state fd (read_link_row state)
answer_keeps state numbers seat (call.FdPath fd) = row_keeps state fd (fd_path_row state)
answer_keeps state numbers seat call.MountInfo = record { plans = refl }
answer_keeps state numbers seat (call.MakeDir fd name mode) = name_keeps state seat fd name _ (λ dir parent.
    plain state _ (make_in_dir state numbers seat dir name (masked seat mode) 0 (Directory []) parent) refl)
answer_keeps state numbers seat (call.MakeNode fd name mode rdev) = name_keeps state seat fd name _ (λ dir parent.
    unless_keeps state _ _ (kind_keeps state numbers seat dir name (masked seat mode) rdev
    (content_of_kind (kind_bits mode)) parent))
answer_keeps state numbers seat (call.MakeLink from fd name) = fd_keeps state from _ (λ file node.
    name_keeps state seat fd name _ (λ dir parent. plain state _ (done (with_linked state dir name file.object)) refl))
answer_keeps state numbers seat (call.SymLink fd name target) = name_keeps state seat fd name _ (λ dir parent.
    plain state _ (make_in_dir state numbers seat dir name 511 0 (Link target) parent) refl)
answer_keeps state numbers seat (call.Unlink fd name) = name_keeps state seat fd name _ (λ dir parent.
    found_keeps state (there_in parent name) _ (λ object node.
    plain state _ (done (with_unlinked state dir name object)) refl))
answer_keeps state numbers seat (call.RemoveDir fd name) = name_keeps state seat fd name _ (λ dir parent.
    found_keeps state (there_in parent name) _ (λ object node.
    plain state _ (done (with_unlinked state dir name object)) refl))
answer_keeps state numbers seat (call.Rename fd name fd2 name2 flags) = fd_keeps state fd2 _ (λ other another.
    name_keeps state seat fd name _ (λ dir parent. name_keeps state seat fd2 name2 _ (λ dir2 parent2.
    between_keeps state seat ((dir, parent), name) ((dir2, parent2), name2) flags)))
answer_keeps state numbers seat (call.ReadAt fd offset size) = row_keeps state fd (read_row state offset size)
answer_keeps state numbers seat (call.WriteAt fd offset bytes append) =
    row_keeps state fd (write_row state seat offset bytes append)
answer_keeps state numbers seat (call.Truncate fd size) = row_keeps state fd (truncate_row state seat size)
answer_keeps state numbers seat (call.Allocate fd mode offset size) =
    row_keeps state fd (allocate_row state mode offset size)
answer_keeps state numbers seat (call.Seek fd offset whence) = fd_keeps state fd _ (λ file node.
    unless_keeps state _ _ (sought_keeps state fd.0 (sought file.position (size_of node.content) offset whence)))
answer_keeps state numbers seat (call.CopyRange fd offset fd2 offset2 size flags) = fd_keeps state fd _ (λ file node.
    fd_keeps state fd2 _ (λ file2 node2. plain state _
    (tells (with_copied state seat file.object node file2.object offset2 (copied offset size node))
    (value.Count (length (copied offset size node))))
    (written_keeps (with_node state file.object (after_reading (time_of state) node)) seat file2.object offset2
    (copied offset size node))))
answer_keeps state numbers seat (call.ListAt fd offset size) = fd_keeps state fd _ (λ file node.
    let place = unwrap_or offset file.position in
    plain state _ (tell_records state fd.0 file node (records size place state.nodes (names_from place node))) refl)
answer_keeps state numbers seat (call.Flush fd) = row_keeps state fd flush_row
answer_keeps state numbers seat (call.Sync fd datasync) = row_keeps state fd sync_row
answer_keeps state numbers seat (call.SyncFs fd) = row_keeps state fd sync_row
answer_keeps state numbers seat (call.ChMod fd through mode) = row_keeps state fd (chmod_row state seat through mode)
answer_keeps state numbers seat (call.ChOwn fd uid gid) = row_keeps state fd (chown_row state seat uid gid)
answer_keeps state numbers seat (call.SetTimes fd through atime mtime) =
    row_keeps state fd (times_row state seat through atime mtime)
answer_keeps state numbers seat (call.SetXattr fd through name value flags) =
    row_keeps state fd (set_xattr_row state through name value flags)
answer_keeps state numbers seat (call.GetXattr fd through name size) =
    row_keeps state fd (get_xattr_row through name size)
answer_keeps state numbers seat (call.ListXattr fd through size) = row_keeps state fd (list_xattr_row through size)
answer_keeps state numbers seat (call.RemoveXattr fd through name) =
    row_keeps state fd (remove_xattr_row state through name)
answer_keeps state numbers seat (call.Edit asked) = edit_keeps state numbers asked
answer_keeps state numbers seat asked = record { plans = refl }

-- where no failure is planned, none comes
pub fails_none : (state : State) (asked : Call) → state.plans ≡ [] → failure_of state asked ≡ None
fails_none state asked unplanned =
    ap (λ (plans : List (ℕ × Errno)).
    option_and_then (failure asked) (plan_for (next_call state) plans)) unplanned

module _ (state : State) (seat : HostSeat) (asked : Call) (numbers : ℕ → ℕ) (unplanned : state.plans ≡ []) where
  outcome_keeps : (own : Option Seated) → (outcome_where state numbers seat asked own).1.plans ≡ state.plans
  outcome_keeps (Some told) = refl
  outcome_keeps None = (answer_keeps state numbers seat asked).plans

  leaves_unplanned : (failing : Option Errno) → failure_of state asked ≡ failing → (given : HostReply) (after : State)
      (seat_after : HostSeat) → AnswersCall failing state numbers seat asked given after seat_after →
      after.plans ≡ []
  leaves_unplanned (Some errno) is given after seat_after told =
      let e : Some errno ≡ None = sym is ∙ fails_none state asked unplanned in absurd (cc)
  leaves_unplanned None is given after seat_after (inl told) =
      ap (λ (o : Outcome). o.1.plans) told ∙ outcome_keeps (seat_answer seat asked) ∙ unplanned
  leaves_unplanned None is given after seat_after (inr lacking) = ap (λ (o : Outcome). o.1.plans) lacking.1 ∙ unplanned

-- where none was planned, none is
pub does_unplanned : (host : State) (seat : HostSeat) (asked : Call) (given : HostReply) (after : State)
    (seat_after : HostSeat) →
    Does host seat asked given after seat_after → host.plans ≡ [] → after.plans ≡ []
does_unplanned host seat asked given after seat_after does unplanned =
    let left : does.answers.state.plans ≡ [] =
    leaves_unplanned host seat asked does.answers.numbers unplanned (failure_of host asked) refl given
    does.answers.state seat_after does.answers.answered in
    ap (λ (s : State). s.plans) does.answers.counts
    ∙ ap (λ (plans : List (ℕ × Errno)). without_plan (next_call does.answers.state) plans) left
