-- What is settled of rows and of openings stays, and what a job notes of an opening.
use Rattle.std.proofs.Common.{◌≡◌, ◌≢◌, ◌⊎◌, inl, inr, ℕ, ◌<◌, Bool, true, false, refl, sym, ap, ◌∙◌, arith, Option, Some}
use Rattle.std.proofs.Common.{None, if◌then◌else◌}
use Rattle.pt_host.specs.Flags.{includes, o_creat}
use Rattle.pt_host.specs.Tree.{Tree}
use Rattle.pt_host.specs.declared.ids.Fd.{Fd}
use Rattle.pt_host.specs.declared.flags.OpenFlags.{OpenFlags}
use Rattle.pt_host.specs.declared.op.KeptHostOp.TheVariants as call
use Rattle.pt_host.specs.declared.reply.HostReply.TheVariants as host
use Rattle.pt_host.specs.declared.reply.HostValue.TheVariants as value
use Rattle.pt_tables.specs.Tables.{Agree}
use Rattle.pt_tables.specs.declared.event.KeptEvent.TheVariants as change
use Rattle.pt_tables.specs.declared.reply.EventReply.TheVariants as event
use Rattle.pt_frame.specs.Deed.{Deed, Calls, Changes}
use Rattle.pt_frame.specs.declared.act.ActReply.{ActReply}
use Rattle.pt_frame.specs.declared.act.ActReply.TheVariants.{Event, Host}
use Rattle.pt_law.specs.Discipline.{Job, Notes, MovesIf, notes_after, newly, with_root, found_by}
use Rattle.pt_law.specs.World.{World, Past, Turn, Goes, IsLawful, settled_if, object_of, fd_of}
use Rattle.pt_law.proofs.Lists.{set_at_other}
use Rattle.pt_law.proofs.Givings.{agree_step}
use Rattle.pt_law.proofs.Knowing.{unless_apart}
use Rattle.pt_law.proofs.Laws.{step_stays}
use Rattle.pt_law.proofs.Opening.{OpensNone}
use Rattle.pt_law.proofs.Steps.{turned}

-- what is settled of a row that was there stays
settled_objects : (past : Past) (j : ℕ) (deed : Option Deed) (told : ActReply) (next : ℕ) (tree : Tree) (row : ℕ) →
    row < next → (settled_if past j deed told next tree).objects row ≡ past.objects row
settled_objects past j None told next tree row l = refl
settled_objects past j (Some (Changes (change.Insert new))) (Event (event.Inserted given)) next tree row l =
    set_at_other past.objects next (past.latest j) row (λ e. absurd (omega (arith, e, l)))
settled_objects past j (Some (Changes (change.InsertRoot new))) (Event (event.Inserted given)) next tree row l =
    set_at_other past.objects next (past.roots j) row (λ e. absurd (omega (arith, e, l)))
settled_objects past j (Some (Changes (change.InsertHandle new))) (Event (event.Inserted given)) next tree row l =
    set_at_other past.objects next (past.resolved j new.number) row (λ e. absurd (omega (arith, e, l)))
settled_objects past j (Some (Changes (change.Resolve number)))
    (Event (event.Resolved resolved)) next tree row l = refl
settled_objects past j (Some (Calls (call.OpenAt dir name flags mode)))
    (Host (host.Ok (value.Fd fd))) next tree row l = refl
settled_objects past j (Some (Calls (call.OpenRoot place flags))) (Host (host.Ok (value.Fd fd))) next tree row l =
    refl
settled_objects past j (Some (Changes (change.Insert new))) (Event (event.Found given)) next tree row l = refl
settled_objects past j (Some (Changes (change.Claim claim))) (Event (event.Claimed given)) next tree row l = refl
settled_objects past j (Some _) _ next tree row l = refl

pub objects_step : (w : World) (s : Turn) (next : World) (row : ℕ) → Agree w.tables → Goes w s next →
    row < w.tables.next_row → (next.past.objects row ≡ w.past.objects row) × (row < next.tables.next_row)
    × Agree next.tables
objects_step w s next row a g l =
    let t = turned IsLawful s.step.deed s.step.reply w.tree g.seat w.tables next.tree g.seat_after next.tables g.made
    in
    let later = (step_stays w.tables s.step.deed s.step.reply next.tables t).rows in (
      ap (λ (p : Past). p.objects row) g.past
          ∙ settled_objects w.past s.job s.step.deed s.step.reply w.tables.next_row next.tree row l,
      omega (arith, l, later),
      agree_step w.tables s.step.deed s.step.reply next.tables t a,
    )

settled_latest : (past : Past) (j i : ℕ) (deed : Option Deed) (told : ActReply) (next : ℕ) (tree : Tree) →
    (j ≢ i) ⊎ OpensNone deed told → (settled_if past j deed told next tree).latest i ≡ past.latest i
settled_latest past j i (Some (Calls (call.OpenAt dir name flags mode))) (Host (host.Ok (value.Fd fd))) next tree
    (inl e) = set_at_other past.latest j (object_of (tree.opened fd.0)) i (λ k. e (sym k))
settled_latest past j i (Some (Calls (call.OpenAt dir name flags mode))) (Host (host.Ok (value.Fd fd))) next tree
    (inr q) = absurd q
settled_latest past j i (Some (Changes (change.Insert new))) (Event (event.Inserted given)) next tree q = refl
settled_latest past j i (Some (Changes (change.InsertRoot new))) (Event (event.Inserted given)) next tree q = refl
settled_latest past j i (Some (Changes (change.InsertHandle new))) (Event (event.Inserted given)) next tree q = refl
settled_latest past j i (Some (Changes (change.Resolve number)))
    (Event (event.Resolved resolved)) next tree q = refl
settled_latest past j i (Some (Calls (call.OpenRoot place flags))) (Host (host.Ok (value.Fd fd))) next tree q = refl
settled_latest past j i None told next tree q = refl
settled_latest past j i (Some (Changes (change.Insert new))) (Event (event.Found given)) next tree q = refl
settled_latest past j i (Some (Changes (change.Claim claim))) (Event (event.Claimed given)) next tree q = refl
settled_latest past j i (Some _) _ next tree q = refl

pub latest_step : (w : World) (i : ℕ) (s : Turn) (next : World) → Goes w s next →
    (s.job ≢ i) ⊎ OpensNone s.step.deed s.step.reply →
    next.past.latest i ≡ w.past.latest i
latest_step w i s next g q =
    ap (λ (p : Past). p.latest i) g.past
    ∙ settled_latest w.past s.job i s.step.deed s.step.reply w.tables.next_row next.tree q

-- what an opening found was found before, while no name is opened
root_latest : (fd : Fd) (notes : Notes) → (with_root fd notes).latest ≡ notes.latest
root_latest fd notes = grind arith

notes_latest : (notes : Notes) (deed : Deed) (told : ActReply) → OpensNone (Some deed) told →
    (fd : Fd) → (notes_after notes deed told).latest ≡ Some fd → notes.latest ≡ Some fd
notes_latest notes (Calls (call.OpenAt dir name flags mode)) (Host (host.Ok (value.Fd new))) q fd e = absurd q
notes_latest notes (Calls (call.OpenRoot path flags)) (Host (host.Ok (value.Fd new))) q fd e =
    sym (root_latest new (newly new notes)) ∙ e
notes_latest notes (Calls (call.OpenPath dir path flags)) (Host (host.Ok (value.Fd new))) q fd e = e
notes_latest notes (Calls (call.OpenByHandle mount handle flags)) (Host (host.Ok (value.Fd new))) q fd e = e
notes_latest notes (Calls (call.Reopen same flags)) (Host (host.Ok (value.Fd new))) q fd e = e
notes_latest notes (Calls (call.Close same)) told q fd e = (unless_apart same notes.latest fd e).0
notes_latest notes (Calls (call.Stat same)) (Host (host.Ok (value.Stat stat))) q fd e = e
notes_latest notes (Changes change.Begin) (Event (event.Began era agreed)) q fd e = e
notes_latest notes (Changes change.Clear) (Event (event.Cleared era closings)) q fd e = e
notes_latest notes (Changes (change.Resolve number)) (Event (event.Resolved resolved)) q fd e = e
notes_latest notes (Changes change.DrawNode) (Event (event.Drawn number)) q fd e = e
notes_latest notes (Changes change.DrawHandle) (Event (event.Drawn number)) q fd e = e
notes_latest notes (Changes (change.InsertHandle new)) (Event (event.Inserted given)) q fd e =
    (unless_apart new.fd notes.latest fd e).0
notes_latest notes (Changes (change.Insert new)) (Event (event.Inserted given)) q fd e =
    (unless_apart (fd_of new.form) notes.latest fd e).0
notes_latest notes (Changes (change.Insert new)) (Event (event.Found given)) q fd e = e
notes_latest notes (Changes (change.Claim claim)) (Event (event.Claimed given)) q fd e = e
notes_latest notes (Changes (change.InsertRoot new)) (Event (event.Inserted given)) q fd e =
    (unless_apart (fd_of new.form) notes.latest fd e).0
notes_latest notes _ _ q fd e = e

pub move_latest : (job after : Job) (deed : Option Deed) (told : ActReply) → OpensNone deed told →
    MovesIf job deed told after → (fd : Fd) → after.notes.latest ≡ Some fd → job.notes.latest ≡ Some fd
move_latest job after None told q m fd e = sym (ap (λ (z : Job). z.notes.latest) m) ∙ e
move_latest job after (Some deed) told q m fd e =
    notes_latest job.notes deed told q fd (sym (ap (λ (z : Notes). z.latest) m.3) ∙ e)

pub found_free : (flags : OpenFlags) (new fd : Fd) → found_by flags new ≡ Some fd → includes flags.0 o_creat ≡ false
found_free flags new fd e = go (includes flags.0 o_creat) e
  where
    go : (b : Bool) → (if b then None else Some new) ≡ Some fd → b ≡ false
    go true e = absurd (cc)
    go false e = refl
