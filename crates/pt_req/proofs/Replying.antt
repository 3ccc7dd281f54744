-- What holds of the awaited reply's rest and of a refusal holds of whatever is replied.
use Rattle.std.proofs.Common.{ℕ, Bool, true, false, List, Option, Some, None, if◌then◌else◌}
use Rattle.std.specs.Prelude.{◌&&◌, ◌||◌}
use Rattle.std.specs.Ordering.{int_eq}
use Rattle.pt_host.specs.Errno.{eexist, enodata, eopnotsupp}
use Rattle.pt_host.specs.declared.ids.Errno.{Errno}
use Rattle.pt_host.specs.declared.ids.Fd.{Fd}
use Rattle.pt_host.specs.declared.stat.Stat.{Stat}
use Rattle.pt_host.specs.declared.reply.HostReply.{HostReply}
use Rattle.pt_host.specs.declared.reply.HostReply.TheVariants as host
use Rattle.pt_host.specs.declared.reply.HostValue.{HostValue}
use Rattle.pt_host.specs.declared.reply.HostValue.TheVariants as value
use Rattle.pt_tables.specs.declared.form.Negotiated.{Negotiated}
use Rattle.pt_tables.specs.declared.reply.GivenNumber.{GivenNumber}
use Rattle.pt_tables.specs.declared.reply.Resolved.{Resolved}
use Rattle.pt_tables.specs.declared.reply.EventReply.TheVariants as event
use Rattle.pt_iface.specs.declared.answer.Answer.{Answer}
use Rattle.pt_iface.specs.declared.answer.Answer.TheVariants as answer
use Rattle.pt_frame.specs.Tree.{RequestTree, Refuses, on, go_on}
use Rattle.pt_frame.specs.Replies.{bytes_of}
use Rattle.pt_frame.specs.declared.act.ActReply.{ActReply}
use Rattle.pt_frame.specs.declared.act.ActReply.TheVariants.{Event, Host, NoCopy}
use Rattle.pt_req.specs.Steps.{session_of, began_in, cleared_in, resolved_in, fd_in, ok_in, tried_in}
use Rattle.pt_req.specs.Steps.{gone_in, made_in}
use Rattle.pt_req.specs.Steps.{stat_in, refused_in, claimed_in, taken_in, drawn_in, numbered_in, inserted_in, pinned_in}
use Rattle.pt_req.specs.Steps.{done_in}
use Rattle.pt_req.specs.declared.begun.BegunSession.{BegunSession}
use Rattle.pt_req.specs.declared.replies.Made.{Made}
use Rattle.pt_req.specs.declared.replies.Made.TheVariants.{New, Old}

-- a fact of a reply and of what follows it, which holds of every refusal
abbrev pub OfRefusals : (ActReply → RequestTree → Type 0) → Type 0
OfRefusals P = (told : ActReply) → P told (Refuses told)

pub if_began : (P : ActReply → RequestTree → Type 0) (next : BegunSession → RequestTree) → OfRefusals P →
    ((era : ℕ) (agreed : Negotiated) → P (Event (event.Began era agreed)) (next (session_of era agreed))) →
    (told : ActReply) → P told (on began_in next told)
unfolding on go_on
if_began P next refused so (Event (event.Began era agreed)) = so era agreed
if_began P next refused so told = refused told

pub if_cleared : (P : ActReply → RequestTree → Type 0) (next : ℕ → RequestTree) → OfRefusals P →
    ((era closings : ℕ) → P (Event (event.Cleared era closings)) (next era)) →
    (told : ActReply) → P told (on cleared_in next told)
unfolding on go_on
if_cleared P next refused so (Event (event.Cleared era closings)) = so era closings
if_cleared P next refused so told = refused told

pub if_resolved : (P : ActReply → RequestTree → Type 0) (next : Resolved → RequestTree) → OfRefusals P →
    ((row : Resolved) → P (Event (event.Resolved row)) (next row)) →
    (told : ActReply) → P told (on resolved_in next told)
unfolding on go_on
if_resolved P next refused so (Event (event.Resolved row)) = so row
if_resolved P next refused so told = refused told

pub if_fd : (P : ActReply → RequestTree → Type 0) (next : Fd → RequestTree) → OfRefusals P →
    ((fd : Fd) → P (Host (host.Ok (value.Fd fd))) (next fd)) →
    (told : ActReply) → P told (on fd_in next told)
unfolding on go_on
if_fd P next refused so (Host (host.Ok (value.Fd fd))) = so fd
if_fd P next refused so told = refused told

pub if_set : (P : ActReply → RequestTree → Type 0) (next : RequestTree) → OfRefusals P →
    ((told : HostValue) → P (Host (host.Ok told)) next) →
    (told : ActReply) → P told (on ok_in (λ done. next) told)
unfolding on go_on
if_set P next refused so (Host (host.Ok told)) = so told
if_set P next refused so told = refused told

pub if_tried : (P : ActReply → RequestTree → Type 0) (next : RequestTree) → OfRefusals P →
    ((told : HostReply) → P (Host told) next) →
    (told : ActReply) → P told (on tried_in (λ done. next) told)
unfolding on go_on
if_tried P next refused so (Host told) = so told
if_tried P next refused so told = refused told

gone_or : (P : RequestTree → Type 0) (next : RequestTree) (told : ActReply) (b : Bool) → P next → P (Refuses told) →
    P (go_on (λ done. next) told (if b then Some (tt {0}) else None))
unfolding go_on
gone_or P next told true so other = so
gone_or P next told false so other = other

-- an attribute that went, or was not there
pub if_gone : (P : ActReply → RequestTree → Type 0) (next : RequestTree) → OfRefusals P →
    ((told : HostReply) → P (Host told) next) →
    (told : ActReply) → P told (on gone_in (λ done. next) told)
unfolding on go_on
if_gone P next refused so (Host (host.Ok told)) = so (host.Ok told)
if_gone P next refused so (Host (host.Refused errno)) =
    gone_or (P (Host (host.Refused errno))) next (Host (host.Refused errno))
    (int_eq errno.0 enodata.0 || int_eq errno.0 eopnotsupp.0) (so (host.Refused errno))
    (refused (Host (host.Refused errno)))
if_gone P next refused so (Host (host.Fault errno)) =
    gone_or (P (Host (host.Fault errno))) next (Host (host.Fault errno))
    (int_eq errno.0 enodata.0 || int_eq errno.0 eopnotsupp.0) (so (host.Fault errno))
    (refused (Host (host.Fault errno)))
if_gone P next refused so told = refused told

there_or : (P : RequestTree → Type 0) (next : Made → RequestTree) (told : ActReply) (b : Bool) → P (next Old) →
    P (Refuses told) → P (go_on next told (if b then Some Old else None))
unfolding go_on
there_or P next told true so other = so
there_or P next told false so other = other

-- a making that was refused or failed may be no refusal
pub if_made : (P : ActReply → RequestTree → Type 0) (next : Made → RequestTree) (may_be : Bool) → OfRefusals P →
    ((fd : Fd) → P (Host (host.Ok (value.Fd fd))) (next (New fd))) →
    ((errno : Errno) → P (Host (host.Refused errno)) (next Old)) →
    ((errno : Errno) → P (Host (host.Fault errno)) (next Old)) →
    (told : ActReply) → P told (on (made_in may_be) next told)
unfolding on go_on
if_made P next may_be refused so was failed (Host (host.Ok (value.Fd fd))) = so fd
if_made P next may_be refused so was failed (Host (host.Refused errno)) =
    there_or (P (Host (host.Refused errno))) next (Host (host.Refused errno)) (int_eq errno.0 eexist.0 && may_be)
    (was errno) (refused (Host (host.Refused errno)))
if_made P next may_be refused so was failed (Host (host.Fault errno)) =
    there_or (P (Host (host.Fault errno))) next (Host (host.Fault errno)) (int_eq errno.0 eexist.0 && may_be)
    (failed errno) (refused (Host (host.Fault errno)))
if_made P next may_be refused so was failed told = refused told

pub if_refused : (P : ActReply → RequestTree → Type 0) (next : Option Answer → RequestTree) → OfRefusals P →
    ((told : HostValue) → P (Host (host.Ok told)) (next None)) →
    ((errno : Errno) → P (Host (host.Refused errno)) (next (Some (answer.Refused errno)))) →
    ((errno : Errno) → P (Host (host.Fault errno)) (next (Some (answer.Refused errno)))) →
    P (Host host.NoMemory) (next (Some answer.NoMemory)) → P NoCopy (next (Some answer.NoMemory)) →
    (told : ActReply) → P told (on refused_in next told)
unfolding on go_on
if_refused P next refuses so was failed out uncopied (Host (host.Ok told)) = so told
if_refused P next refuses so was failed out uncopied (Host (host.Refused errno)) = was errno
if_refused P next refuses so was failed out uncopied (Host (host.Fault errno)) = failed errno
if_refused P next refuses so was failed out uncopied (Host host.NoMemory) = out
if_refused P next refuses so was failed out uncopied NoCopy = uncopied
if_refused P next refuses so was failed out uncopied (Event told) = refuses (Event told)

pub if_stat : (P : ActReply → RequestTree → Type 0) (next : Stat → RequestTree) → OfRefusals P →
    ((stat : Stat) → P (Host (host.Ok (value.Stat stat))) (next stat)) →
    (told : ActReply) → P told (on stat_in next told)
unfolding on go_on
if_stat P next refused so (Host (host.Ok (value.Stat stat))) = so stat
if_stat P next refused so told = refused told

pub if_bytes : (P : ActReply → RequestTree → Type 0) (next : List ℕ → RequestTree) → OfRefusals P →
    ((bytes : List ℕ) → P (Host (host.Ok (value.Bytes bytes))) (next bytes)) →
    (told : ActReply) → P told (on bytes_of next told)
unfolding on go_on
if_bytes P next refused so (Host (host.Ok (value.Bytes bytes))) = so bytes
if_bytes P next refused so told = refused told

pub if_claimed : (P : ActReply → RequestTree → Type 0) (next : Option ℕ → RequestTree) → OfRefusals P →
    ((given : GivenNumber) → P (Event (event.Claimed given)) (next (Some given.number))) →
    P (Event event.Absent) (next None) →
    (told : ActReply) → P told (on claimed_in next told)
unfolding on go_on
if_claimed P next refused so other (Event (event.Claimed given)) = so given
if_claimed P next refused so other (Event event.Absent) = other
if_claimed P next refused so other told = refused told

pub if_taken : (P : ActReply → RequestTree → Type 0) (next : RequestTree) → OfRefusals P →
    P (Event event.Taken) next →
    (told : ActReply) → P told (on taken_in (λ done. next) told)
unfolding on go_on
if_taken P next refused so (Event event.Taken) = so
if_taken P next refused so told = refused told

pub if_drawn : (P : ActReply → RequestTree → Type 0) (next : ℕ → RequestTree) → OfRefusals P →
    ((number : ℕ) → P (Event (event.Drawn number)) (next number)) →
    (told : ActReply) → P told (on drawn_in next told)
unfolding on go_on
if_drawn P next refused so (Event (event.Drawn number)) = so number
if_drawn P next refused so told = refused told

pub if_numbered : (P : ActReply → RequestTree → Type 0) (next : ℕ → RequestTree) → OfRefusals P →
    ((number : ℕ) → P (Event (event.Inserted number)) (next number)) →
    ((given : GivenNumber) → P (Event (event.Found given)) (next given.number)) →
    (told : ActReply) → P told (on numbered_in next told)
unfolding on go_on
if_numbered P next refused so found (Event (event.Inserted number)) = so number
if_numbered P next refused so found (Event (event.Found given)) = found given
if_numbered P next refused so found told = refused told

pub if_inserted : (P : ActReply → RequestTree → Type 0) (next : RequestTree) → OfRefusals P →
    ((number : ℕ) → P (Event (event.Inserted number)) next) →
    (told : ActReply) → P told (on inserted_in (λ done. next) told)
unfolding on go_on
if_inserted P next refused so (Event (event.Inserted number)) = so number
if_inserted P next refused so told = refused told

pub if_pinned : (P : ActReply → RequestTree → Type 0) (next : Fd → RequestTree) → OfRefusals P →
    ((row : ℕ) (fd : Fd) → P (Event (event.Pinned row fd)) (next fd)) →
    (told : ActReply) → P told (on pinned_in next told)
unfolding on go_on
if_pinned P next refused so (Event (event.Pinned row fd)) = so row fd
if_pinned P next refused so told = refused told

pub if_done : (P : ActReply → RequestTree → Type 0) (next : RequestTree) → OfRefusals P →
    ((closings : ℕ) → P (Event (event.Done closings)) next) →
    (told : ActReply) → P told (on done_in (λ done. next) told)
unfolding on go_on
if_done P next refused so (Event (event.Done closings)) = so closings
if_done P next refused so told = refused told
