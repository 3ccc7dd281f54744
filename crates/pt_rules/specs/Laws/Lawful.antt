-- Proof. Every step is lawful.
use Rattle.std.proofs.Common.{◌≡◌, ◌<◌, ◌^◌, inl, inr, ℕ, length, Option, Some, None, refl, sym}
use Rattle.std.proofs.Common.{subst, arith, ◌+◌}
use Rattle.std.proofs.lemmas.Option.{same_Some}
use Rattle.pt_host.specs.Call.{Call}
use Rattle.pt_host.proofs.SeatAnswers.{answered_as, faulted_seat, lacking_seat}
use Rattle.pt_host.specs.LawfulContents.{LawfulContents}
use Rattle.pt_host.specs.Sorts.{opening_flags}
use Rattle.pt_host.specs.LawfulStep.{LawfulStep}
use Rattle.pt_host.specs.LawfulTree.{AsksPathOnly, TreeChanges, IsBadFd, LawfulTree}
use Rattle.pt_host.specs.SeatStep.{SeatStep}
use Rattle.pt_host.specs.Tree.{IsWellFormed, Tree}
use Rattle.pt_host.specs.declared.ids.Errno.{Errno}
use Rattle.pt_host.specs.declared.seat.HostSeat.{HostSeat}
use Rattle.pt_host.specs.declared.op.KeptHostOp.TheVariants as call
use Rattle.pt_host.specs.declared.reply.HostReply.{HostReply}
use Rattle.pt_host.specs.declared.reply.HostReply.TheVariants as reply
use Rattle.pt_host.specs.declared.reply.HostValue.TheVariants as value
use Rattle.pt_host.specs.Errno.{enosys}
use Rattle.pt_node.specs.Slots.{open_at}
use Rattle.pt_rules.specs.Laws.Opens.{closed_tree}
use Rattle.pt_rules.specs.Laws.Soundness.{sound-closed}
use Rattle.pt_rules.specs.Living.{AreLeastFree}
use Rattle.pt_rules.specs.Beside.{KeepsAll, LeavesBeside}
use Rattle.pt_rules.specs.State.{State, contents_of, tree_of, time_of}
use Rattle.pt_rules.specs.Does.{AnswersCall, Does, TakesMemory, without_memory}
use Rattle.pt_rules.specs.Faults.{after_failing, failure_of, faulted}
use Rattle.pt_host.specs.SeatAnswer.{seat_answer}
use Rattle.pt_rules.specs.Sound.{IsSound}
use Rattle.pt_rules.specs.Table.{Seated, Outcome, answer, failing_outcome, outcome_where}
use Rattle.pt_rules.specs.Laws.BesideLaws.{lawful_beside}
use Rattle.pt_rules.specs.Laws.Fair.{IsFair, IsPlain, fair_refused, no_flags, stays_same}
use Rattle.pt_rules.specs.Laws.EditFair.{fair_edit}
use Rattle.pt_rules.specs.Laws.CopyFair.{fair_copy}
use Rattle.pt_rules.specs.Laws.HandleFair.{fair_by_handle, fair_handle_of}
use Rattle.pt_rules.specs.Laws.LinkFair.{fair_make_link}
use Rattle.pt_rules.specs.Laws.OpenAtFair.{fair_open_at}
use Rattle.pt_rules.specs.Laws.RenameFair.{fair_rename}
use Rattle.pt_rules.specs.Laws.MoveFair.{fair_list, fair_seek}
use Rattle.pt_rules.specs.Laws.NameTable.{ordered-named, ordered-unnamed}
use Rattle.pt_rules.specs.Laws.PathOnly.{path_only_bad}
use Rattle.pt_rules.specs.Laws.SeatLaws.{other_seat, own_seat}
use Rattle.pt_rules.specs.Laws.WellFormed.{well_formed}
use Rattle.pt_rules.specs.Laws.NameFair.{fair_make_dir, fair_make_node, fair_remove_dir, fair_symlink, fair_unlink}
use Rattle.pt_rules.specs.Laws.OpenFair.{closed_description, fair_close, fair_open_path, fair_reopen, fair_root}
use Rattle.pt_rules.specs.Laws.OpenFair.{fair_stat}
use Rattle.pt_rules.specs.Laws.PlainCalls.{fair_mount_info, row_fair, keeps_refilled, written_effect}
use Rattle.pt_rules.specs.Laws.PlainCalls.{lengthened_effect, keeps_rewritten, sized_fits}
use Rattle.pt_rules.specs.OpeningCalls.{stat_fs_row, fd_path_row, read_link_row}
use Rattle.pt_rules.specs.Laws.Keeping.{keeps_reading}
use Rattle.pt_rules.specs.ContentCalls.{flush_row, truncate_row, write_row, allocate_row, read_row, sync_row, lengthens}
use Rattle.pt_rules.specs.AttributeCalls.{chmod_row, chown_row, times_row, set_xattr_row, get_xattr_row}
use Rattle.pt_rules.specs.AttributeCalls.{list_xattr_row, remove_xattr_row}
use Rattle.pt_node.specs.Node.{size_of}

abbrev made_outcome : HostReply → State → HostSeat → Outcome
made_outcome given after seat = (given, after, seat)

-- what is to be shown of each call on the tree
pub fair_answer : (state : State) (numbers : ℕ → ℕ) (seat : HostSeat) (asked : Call) → IsSound state →
    AreLeastFree state numbers → IsFair state asked (answer state numbers seat asked)
fair_answer state numbers seat (call.OpenRoot path flags) sound least = fair_root state seat path flags sound
fair_answer state numbers seat (call.StatFs fd) sound least =
    row_fair state _ sound (λ tree errno. (tt, refl)) (λ tree told fits. (fits, refl)) refl fd (stat_fs_row state)
    (λ file node on. record { fits = tt; effect = tt })
fair_answer state numbers seat (call.FdPath fd) sound least =
    row_fair state _ sound (λ tree errno. (tt, refl)) (λ tree told fits. (fits, refl)) refl fd (fd_path_row state)
    (λ file node on. record { fits = tt; effect = tt })
fair_answer state numbers seat call.MountInfo sound least = fair_mount_info state sound
fair_answer state numbers seat (call.ReadLink fd) sound least =
    row_fair state _ sound (λ tree errno. (tt, refl)) (λ tree told fits. (fits, refl)) refl fd (read_link_row state)
    (λ file node on. record { fits = tt; effect = (keeps_reading (time_of state) node, inr refl) })
fair_answer state numbers seat (call.Flush fd) sound least =
    row_fair state _ sound (λ tree errno. (tt, refl)) (λ tree told fits. (fits, refl)) refl fd flush_row
    (λ file node on. record { fits = tt; effect = tt })
fair_answer state numbers seat (call.Truncate fd size) sound least =
    row_fair state _ sound (λ tree errno. (tt, refl)) (λ tree told fits.
    (fits, refl)) refl fd (truncate_row state seat size)
    (λ file node on. record { fits = tt; effect = (keeps_refilled seat (time_of state) _ node, inl on) })
fair_answer state numbers seat (call.WriteAt fd offset bytes append) sound least =
    row_fair state _ sound (λ tree errno. (tt, refl)) (λ tree told fits.
    (fits, refl)) refl fd (write_row state seat offset bytes append)
    (λ file node on. record {
      fits = tt;
      effect = written_effect state seat fd offset _ bytes bytes append (value.Count (length bytes)) file node on;
    })
fair_answer state numbers seat (call.ChMod fd through mode) sound least =
    row_fair state _ sound (λ tree errno. (tt, refl)) (λ tree told fits.
    (fits, refl)) refl fd (chmod_row state seat through mode)
    (λ file node on. record {
      fits = tt;
      effect = (
        record {
          ids = refl;
          serial = refl;
          object = refl;
          names = refl;
          permissions = λ small. omega arith;
          attributed = λ ordered. ordered;
        },
        inl on,
      );
    })
fair_answer state numbers seat (call.ChOwn fd uid gid) sound least =
    row_fair state _ sound (λ tree errno. (tt, refl)) (λ tree told fits.
    (fits, refl)) refl fd (chown_row state seat uid gid)
    (λ file node on. record {
      fits = tt;
      effect = (
        record {
          ids = refl;
          serial = refl;
          object = refl;
          names = refl;
          permissions = λ small. small;
          attributed = λ ordered. ordered;
        },
        inl on,
      );
    })
fair_answer state numbers seat (call.SetTimes fd through atime mtime) sound least =
    row_fair state _ sound (λ tree errno. (tt, refl)) (λ tree told fits.
    (fits, refl)) refl fd (times_row state seat through atime mtime)
    (λ file node on. record {
      fits = tt;
      effect = (
        record {
          ids = refl;
          serial = refl;
          object = refl;
          names = refl;
          permissions = λ small. small;
          attributed = λ ordered. ordered;
        },
        inl on,
      );
    })
fair_answer state numbers seat (call.SetXattr fd through name value flags) sound least =
    row_fair state _ sound (λ tree errno. (tt, refl)) (λ tree told fits.
    (fits, refl)) refl fd (set_xattr_row state through name value flags)
    (λ file node on. record {
      fits = tt;
      effect = (
        record {
          ids = refl;
          serial = refl;
          object = refl;
          names = refl;
          permissions = λ small. small;
          attributed = λ ordered. ordered-named name value node.xattrs ordered;
        },
        inl on,
      );
    })
fair_answer state numbers seat (call.RemoveXattr fd through name) sound least =
    row_fair state _ sound (λ tree errno. (tt, refl)) (λ tree told fits.
    (fits, refl)) refl fd (remove_xattr_row state through name)
    (λ file node on. record {
      fits = tt;
      effect = (
        record {
          ids = refl;
          serial = refl;
          object = refl;
          names = refl;
          permissions = λ small. small;
          attributed = λ ordered. ordered-unnamed name node.xattrs ordered;
        },
        inl on,
      );
    })
fair_answer state numbers seat (call.Sync fd datasync) sound least =
    row_fair state _ sound (λ tree errno. (tt, refl)) (λ tree told fits. (fits, refl)) refl fd sync_row
    (λ file node on. record { fits = tt; effect = tt })
fair_answer state numbers seat (call.SyncFs fd) sound least =
    row_fair state _ sound (λ tree errno. (tt, refl)) (λ tree told fits. (fits, refl)) refl fd sync_row
    (λ file node on. record { fits = tt; effect = tt })
fair_answer state numbers seat (call.Allocate fd mode offset size) sound least =
    row_fair state _ sound (λ tree errno. (tt, refl)) (λ tree told fits.
    (fits, refl)) refl fd (allocate_row state mode offset size)
    (λ file node on. record {
      fits = tt;
      effect = lengthened_effect
          (lengthens mode (size_of node.content) (offset + size)) state fd mode offset size value.Unit file node _ on
          (keeps_rewritten (time_of state) _ node);
    })
fair_answer state numbers seat (call.MakeDir fd name mode) sound least =
    fair_make_dir state numbers seat fd name mode sound least
fair_answer state numbers seat (call.Reopen fd flags) sound least = fair_reopen state seat fd flags sound
fair_answer state numbers seat (call.Close fd) sound least = fair_close state fd sound
fair_answer state numbers seat (call.Stat fd) sound least = fair_stat state fd sound
fair_answer state numbers seat (call.ReadAt fd offset size) sound least =
    row_fair state _ sound (λ tree errno. (tt, refl)) (λ tree told fits.
    (fits, refl)) refl fd (read_row state offset size)
    (λ file node on. record { fits = tt; effect = (keeps_reading (time_of state) node, inr refl) })
fair_answer state numbers seat (call.MakeNode fd name mode rdev) sound least =
    fair_make_node state numbers seat fd name mode rdev sound least
fair_answer state numbers seat (call.SymLink fd name target) sound least =
    fair_symlink state numbers seat fd name target sound least
fair_answer state numbers seat (call.Unlink fd name) sound least = fair_unlink state seat fd name sound
fair_answer state numbers seat (call.RemoveDir fd name) sound least = fair_remove_dir state seat fd name sound
fair_answer state numbers seat (call.OpenPath fd path flags) sound least = fair_open_path state seat fd path flags sound
fair_answer state numbers seat (call.Edit edit) sound least = fair_edit state numbers edit sound least
fair_answer state numbers seat (call.SetGroups list) sound least =
    fair_refused state (call.SetGroups list) enosys sound (tt, refl)
fair_answer state numbers seat (call.SetEgid gid) sound least =
    fair_refused state (call.SetEgid gid) enosys sound (tt, refl)
fair_answer state numbers seat (call.SetEuid uid) sound least =
    fair_refused state (call.SetEuid uid) enosys sound (tt, refl)
fair_answer state numbers seat (call.RaiseCap caps) sound least =
    fair_refused state (call.RaiseCap caps) enosys sound (tt, refl)
fair_answer state numbers seat (call.DropCap caps) sound least =
    fair_refused state (call.DropCap caps) enosys sound (tt, refl)
fair_answer state numbers seat (call.SetUmask mask) sound least =
    fair_refused state (call.SetUmask mask) enosys sound (tt, refl)
fair_answer state numbers seat (call.GetXattr fd through name size) sound least =
    row_fair state _ sound (λ tree errno. (tt, refl)) (λ tree told fits.
    (fits, refl)) refl fd (get_xattr_row through name size)
    (λ file node on. record {
      fits = sized_fits (call.GetXattr fd through name size) size _ (λ none. none) (λ some. some);
      effect = tt;
    })
fair_answer state numbers seat (call.ListXattr fd through size) sound least =
    row_fair state _ sound (λ tree errno. (tt, refl)) (λ tree told fits.
    (fits, refl)) refl fd (list_xattr_row through size)
    (λ file node on. record {
      fits = sized_fits (call.ListXattr fd through size) size _ (λ none. none) (λ some. some);
      effect = tt;
    })
fair_answer state numbers seat (call.HandleOf fd) sound least = fair_handle_of state fd sound
fair_answer state numbers seat (call.Seek fd offset whence) sound least = fair_seek state fd offset whence sound
fair_answer state numbers seat (call.ListAt fd offset size) sound least = fair_list state fd offset size sound
fair_answer state numbers seat (call.CopyRange fd offset fd2 offset2 size flags) sound least =
    fair_copy state seat fd offset fd2 offset2 size flags sound
fair_answer state numbers seat (call.MakeLink from fd name) sound least = fair_make_link state seat from fd name sound
fair_answer state numbers seat (call.OpenByHandle fd handle flags) sound least =
    fair_by_handle state seat fd handle flags sound
fair_answer state numbers seat (call.OpenAt fd name flags mode) sound least =
    fair_open_at state numbers seat fd name flags mode sound least
fair_answer state numbers seat (call.Rename fd name fd2 name2 flags) sound least =
    fair_rename state seat fd name fd2 name2 flags sound

-- ---- the seat's own calls leave the tree and what is beside it

own_plain : (seat : HostSeat) (asked : Call) (told : Seated) → seat_answer seat asked ≡ Some told → IsPlain asked
own_plain seat (call.SetGroups list) told is =
    record { refuses = λ tree errno. (tt, refl); passes = λ tree value fits. (fits, refl); opens = refl }
own_plain seat (call.SetEgid gid) told is =
    record { refuses = λ tree errno. (tt, refl); passes = λ tree value fits. (fits, refl); opens = refl }
own_plain seat (call.SetEuid uid) told is =
    record { refuses = λ tree errno. (tt, refl); passes = λ tree value fits. (fits, refl); opens = refl }
own_plain seat (call.RaiseCap caps) told is =
    record { refuses = λ tree errno. (tt, refl); passes = λ tree value fits. (fits, refl); opens = refl }
own_plain seat (call.DropCap caps) told is =
    record { refuses = λ tree errno. (tt, refl); passes = λ tree value fits. (fits, refl); opens = refl }
own_plain seat (call.SetUmask mask) told is =
    record { refuses = λ tree errno. (tt, refl); passes = λ tree value fits. (fits, refl); opens = refl }
own_plain seat asked told is = absurd (cc)

own_changes : (tree : Tree) (seat : HostSeat) (asked : Call) (told : Seated) → seat_answer seat asked ≡ Some told →
    TreeChanges tree asked told.0 tree
own_changes tree seat asked told is =
    let plain = own_plain seat asked told is in
    answered_as seat asked (λ (given : HostReply). TreeChanges tree asked given tree)
    (λ value fits. plain.passes tree value fits) (λ errno. plain.refuses tree errno) told is

contents_same : (state : State) (asked : Call) (given : HostReply) → opening_flags asked ≡ None →
    LeavesBeside (tree_of state) (contents_of state) asked given (tree_of state) (contents_of state)
contents_same state asked (reply.Ok told) opens = record {
  objects = λ object within may. stays_same _ _ refl;
  openings = λ flags object asks within may. refl;
  emptied = λ flags object asks makes. inl refl;
  positions = λ fd open_still may. refl;
  accesses = λ fd open_still. refl;
  begins = λ flags fd asks is. absurd (no_flags asked flags opens asks);
}
contents_same state asked (reply.Refused errno) opens =
    record { objects = λ object within. refl; descriptions = λ fd open_still. refl }
contents_same state asked (reply.Fault errno) opens =
    record { objects = λ object within. refl; descriptions = λ fd open_still. refl }
contents_same state asked reply.NoMemory opens =
    record { objects = λ object within. refl; descriptions = λ fd open_still. refl }

own_path_only : (state : State) (seat : HostSeat) (asked : Call) (told : Seated) →
    seat_answer seat asked ≡ Some told → AsksPathOnly (tree_of state) asked → IsBadFd told.0
own_path_only state seat (call.SetGroups list) told is asks = absurd asks
own_path_only state seat (call.SetEgid gid) told is asks = absurd asks
own_path_only state seat (call.SetEuid uid) told is asks = absurd asks
own_path_only state seat (call.RaiseCap caps) told is asks = absurd asks
own_path_only state seat (call.DropCap caps) told is asks = absurd asks
own_path_only state seat (call.SetUmask mask) told is asks = absurd asks
own_path_only state seat asked told is asks = cc

-- ---- a call that fails as planned

failing_changes : (state : State) (asked : Call) (errno : Errno) →
    TreeChanges (tree_of state) asked (reply.Fault errno) (tree_of (faulted (after_failing state asked)))
failing_changes state (call.Close fd) errno = closed_tree state fd (open_at state.slots fd.0) refl
failing_changes state asked errno = refl

failing_contents : (state : State) (asked : Call) →
    KeepsAll (tree_of state) (contents_of state) (tree_of (faulted (after_failing state asked)))
    (contents_of (faulted (after_failing state asked)))
failing_contents state (call.Close fd) =
    record { objects = λ object within. refl; descriptions = λ k open_still. closed_description state fd k open_still }
failing_contents state asked = record { objects = λ object within. refl; descriptions = λ k open_still. refl }

faulted_sound : (state : State) → IsSound state → IsSound (faulted state)
faulted_sound state sound = record {
  timely = sound.timely;
  few = sound.few;
  made = sound.made;
  named = sound.named;
  short = sound.short;
  opened = sound.opened;
  apart = sound.apart;
}

failing_sound : (state : State) (asked : Call) → IsSound state → IsSound (after_failing state asked)
failing_sound state (call.Close fd) sound = sound-closed state fd.0 sound
failing_sound state asked sound = sound

-- ---- a call without memory

memory_changes : (tree : Tree) (asked : Call) → TakesMemory asked → TreeChanges tree asked reply.NoMemory tree
memory_changes tree (call.Close fd) takes = absurd takes
memory_changes tree asked takes = refl

-- what is to be shown of a step, before it is counted
pub record IsLawfulOutcome (state : State) (seat : HostSeat) (asked : Call) (told : Outcome) : Type 0 where
  pub changes : TreeChanges (tree_of state) asked told.0 (tree_of told.1)
  pub seats : SeatStep seat asked told.0 told.2
  pub path_only : AsksPathOnly (tree_of state) asked → IsBadFd told.0
  pub contents : LeavesBeside (tree_of state) (contents_of state) asked told.0 (tree_of told.1) (contents_of told.1)
  pub sound : length told.1.nodes < 2 ^ 63 → IsSound told.1

module _ (state : State) (seat : HostSeat) (asked : Call) (numbers : ℕ → ℕ) (sound : IsSound state)
    (least : AreLeastFree state numbers) where
  lawful_outcome : (own : Option Seated) → seat_answer seat asked ≡ own →
      IsLawfulOutcome state seat asked (outcome_where state numbers seat asked own)
  lawful_outcome (Some told) is = record {
    changes = own_changes (tree_of state) seat asked told is;
    seats = own_seat asked seat told is;
    path_only = own_path_only state seat asked told is;
    contents = contents_same state asked told.0 (own_plain seat asked told is).opens;
    sound = λ few. sound;
  }
  lawful_outcome None is =
      let fair = fair_answer state numbers seat asked sound least in
      record {
        changes = fair.changes;
        seats = other_seat asked seat (answer state numbers seat asked).0 is;
        path_only = path_only_bad state numbers seat asked sound;
        contents = fair.contents;
        sound = fair.sound;
      }

  lawful_failing : (errno : Errno) → IsLawfulOutcome state seat asked (failing_outcome state seat asked errno)
  lawful_failing errno = record {
    changes = failing_changes state asked errno;
    seats = faulted_seat seat asked errno;
    path_only = λ asks. tt;
    contents = failing_contents state asked;
    sound = λ few. faulted_sound (after_failing state asked) (failing_sound state asked sound);
  }

  lawful_without_memory : TakesMemory asked → IsLawfulOutcome state seat asked (without_memory state seat)
  lawful_without_memory takes = record {
    changes = memory_changes (tree_of state) asked takes;
    seats = lacking_seat seat asked;
    path_only = λ asks. tt;
    contents = record { objects = λ object within. refl; descriptions = λ fd open_still. refl };
    sound = λ few. sound;
  }

  lawful_by : (failing : Option Errno) (given : HostReply) (after : State) (seat_after : HostSeat) →
      AnswersCall failing state numbers seat asked given after seat_after →
      IsLawfulOutcome state seat asked (made_outcome given after seat_after)
  lawful_by (Some errno) given after seat_after told =
      subst (IsLawfulOutcome state seat asked) (sym told) (lawful_failing errno)
  lawful_by None given after seat_after (inl told) =
      subst (IsLawfulOutcome state seat asked) (sym told) (lawful_outcome (seat_answer seat asked) refl)
  lawful_by None given after seat_after (inr (takes, told)) =
      subst (IsLawfulOutcome state seat asked) (sym told) (lawful_without_memory takes)

module _ (host : State) (seat : HostSeat) (asked : Call) (given : HostReply) (after : State) (seat_after : HostSeat)
    (does : Does host seat asked given after seat_after) where
  -- of the answer before it is counted
  lawful_answer : IsLawfulOutcome host seat asked (made_outcome given does.answers.state seat_after)
  lawful_answer =
      let answers = does.answers in
      lawful_by host seat asked answers.numbers does.sound answers.least
      (failure_of host asked) given answers.state seat_after answers.answered

  few_answered : length does.answers.state.nodes < 2 ^ 63
  few_answered = subst (λ (s : State). length s.nodes < 2 ^ 63) does.answers.counts does.few

  pub does_lawful_tree : LawfulTree (tree_of host) asked given (tree_of after)
  does_lawful_tree = record {
    formed_before = well_formed host does.sound;
    formed_after = subst (λ (s : State). IsWellFormed (tree_of s)) (sym does.answers.counts)
        (well_formed does.answers.state (lawful_answer.sound few_answered));
    changes = subst (λ (s : State). TreeChanges (tree_of host) asked given (tree_of s)) (sym does.answers.counts)
        lawful_answer.changes;
    path_only = lawful_answer.path_only;
  }

  pub does_lawful_seat : SeatStep seat asked given seat_after
  does_lawful_seat = lawful_answer.seats

  -- what it leaves beside the tree
  pub does_leave_beside : LeavesBeside (tree_of host) (contents_of host) asked given (tree_of after) (contents_of after)
  does_leave_beside =
      subst (λ (s : State).
      LeavesBeside (tree_of host) (contents_of host) asked given (tree_of s) (contents_of s)) (sym does.answers.counts)
      lawful_answer.contents

-- the law of a host that tells its tree
pub does_lawful : (host : State) (seat : HostSeat) (asked : Call) (given : HostReply) (after : State)
    (seat_after : HostSeat) →
    Does host seat asked given after seat_after → (before : Tree) → Some (tree_of host) ≡ Some before →
    (later : Tree) × (Some (tree_of after) ≡ Some later) × LawfulStep before seat asked given later seat_after
    × LawfulContents before (contents_of host) asked given later (contents_of after)
does_lawful host seat asked given after seat_after does before told =
    let e : tree_of host ≡ before = same_Some (tree_of host) before told in (
      tree_of after,
      refl,
      subst (λ (tree : Tree). LawfulStep tree seat asked given (tree_of after) seat_after) e (record {
        trees = does_lawful_tree host seat asked given after seat_after does;
        seats = does_lawful_seat host seat asked given after seat_after does;
      }),
      subst (λ (tree : Tree). LawfulContents tree (contents_of host) asked given (tree_of after) (contents_of after)) e
          (lawful_beside (tree_of host) (tree_of after) (contents_of host) (contents_of after) asked given
          (does_leave_beside host seat asked given after seat_after does)),
    )
