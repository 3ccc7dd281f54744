-- Each closing that a job is told is paid by a row.
use Rattle.std.proofs.Common.{◌≡◌, ◌+◌, ◌≤◌, refl, arith}
use Rattle.pt_tables.specs.Change.{Change}
use Rattle.pt_tables.specs.Happens.{Happens}
use Rattle.pt_tables.specs.Pending.{pending_in, put_by, added_by}
use Rattle.pt_tables.specs.Tables.{Tables}
use Rattle.pt_tables.specs.declared.event.KeptEvent.TheVariants as change
use Rattle.pt_tables.specs.declared.reply.EventReply.{EventReply}
use Rattle.pt_tables.specs.declared.reply.EventReply.TheVariants as reply
use Rattle.pt_tables.proofs.Replies.{pays}
use Rattle.pt_frame.specs.Deed as deed
use Rattle.pt_frame.specs.Replies.{closings_in, inserted_by}
use Rattle.pt_frame.specs.declared.act.ActReply.TheVariants.{Event}

-- a job is told no more closings than the event put on the list
pub told_put : (asked : Change) (told : EventReply) → closings_in (deed.Changes asked) (Event told) ≤ put_by told
told_put (change.Unpin row) (reply.Done closings) = omega arith
told_put (change.Forget list) (reply.Done closings) = omega arith
told_put (change.GiveBack era number) (reply.Done closings) = omega arith
told_put (change.UnpinHandle row) (reply.Done closings) = omega arith
told_put (change.Release handle number) (reply.Done closings) = omega arith
told_put change.Clear (reply.Cleared era closings) = omega arith
told_put asked told = omega arith

pub same_inserted : (asked : Change) (told : EventReply) →
    inserted_by (deed.Changes asked) (Event told) ≡ added_by asked told
same_inserted (change.Insert new) (reply.Inserted given) = refl
same_inserted (change.InsertRoot new) (reply.Inserted given) = refl
same_inserted (change.InsertHandle new) (reply.Inserted given) = refl
same_inserted asked told = refl

-- no event tells more closings than rows go, and only an insertion adds a row
pub event_puts : (tables after : Tables) (asked : Change) (told : EventReply) → Happens tables asked told after
    → pending_in after + closings_in (deed.Changes asked) (Event told)
    ≤ pending_in tables + inserted_by (deed.Changes asked) (Event told)
event_puts tables after asked told happens =
    let paid = pays tables after asked told happens in
    let put = told_put asked told in
    let inserted = same_inserted asked told in
    omega arith
