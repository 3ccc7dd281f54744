-- Believed. One step of a request each: what is asked, and what is read of the reply by which the request goes on. Any
-- other reply is answered as a refusal.
use Rattle.std.specs.Prelude.{ℕ, Bool, true, false, ◌&&◌, ◌||◌, if◌then◌else◌, List, Option, Some, None}
use Rattle.std.specs.Ordering.{int_eq}
use Rattle.pt_host.specs.Call.{Call}
use Rattle.pt_host.specs.Errno.{eexist, enodata, eopnotsupp}
use Rattle.pt_host.specs.declared.handle.FileHandle.{FileHandle}
use Rattle.pt_host.specs.declared.ids.Fd.{Fd}
use Rattle.pt_host.specs.declared.ids.ObjIds.{ObjIds}
use Rattle.pt_host.specs.declared.stat.Stat.{Stat}
use Rattle.pt_host.specs.declared.flags.OpenFlags.{OpenFlags}
use Rattle.pt_host.specs.declared.op.KeptHostOp.TheVariants as call
use Rattle.pt_host.specs.declared.reply.HostReply.TheVariants as host
use Rattle.pt_host.specs.declared.reply.HostValue.TheVariants as value
use Rattle.pt_tables.specs.declared.form.RowForm.{RowForm}
use Rattle.pt_tables.specs.declared.form.Negotiated.{Negotiated}
use Rattle.pt_tables.specs.declared.event.KeptClaim.{KeptClaim}
use Rattle.pt_tables.specs.declared.event.NewRow.{NewRow}
use Rattle.pt_tables.specs.declared.event.NewRoot.{NewRoot}
use Rattle.pt_tables.specs.declared.event.NewHandle.{NewHandle}
use Rattle.pt_tables.specs.declared.event.KeptEvent.TheVariants as change
use Rattle.pt_tables.specs.declared.reply.Resolved.{Resolved}
use Rattle.pt_tables.specs.declared.reply.EventReply.TheVariants as event
use Rattle.pt_iface.specs.declared.answer.Answer.{Answer}
use Rattle.pt_iface.specs.declared.answer.Answer.TheVariants as answer
use Rattle.pt_frame.specs.Deed.{Calls, Changes}
use Rattle.pt_frame.specs.Replies.{bytes_of}
use Rattle.pt_frame.specs.Tree.{RequestTree, Asks, Opens, Bares, on}
use Rattle.pt_frame.specs.declared.act.ActReply.{ActReply}
use Rattle.pt_frame.specs.declared.act.ActReply.TheVariants.{Event, Host, NoCopy}
use Rattle.pt_frame.specs.declared.hold.Hold.{Hold}
use Rattle.pt_req.specs.declared.begun.BegunSession.{BegunSession}
use Rattle.pt_req.specs.declared.replies.Made.{Made}
use Rattle.pt_req.specs.declared.replies.Made.TheVariants.{New, Old}

-- what hands a value on to what follows it
abbrev pub Part : Type 0 → Type 0
Part V = (V → RequestTree) → RequestTree

infixr 10 ◌>>=◌
abbrev pub ◌>>=◌ : {V : Type 0} → Part V → (V → RequestTree) → RequestTree
part >>= next = part next

infixr 10 ◌>>◌
abbrev pub ◌>>◌ : (RequestTree → RequestTree) → RequestTree → RequestTree
step >> rest = step rest

abbrev pub session_of : ℕ → Negotiated → BegunSession
session_of era agreed = record { era = era; agreed = agreed }

abbrev pub began_in : ActReply → Option BegunSession
began_in (Event (event.Began era agreed)) = Some (session_of era agreed)
began_in told = None

-- the session goes on, as it stands
abbrev pub begin : Part BegunSession
begin next = Asks (Changes change.Begin) (on began_in next)

abbrev pub cleared_in : ActReply → Option ℕ
cleared_in (Event (event.Cleared era closings)) = Some era
cleared_in told = None

-- it begins anew, in a new era
abbrev pub clear : Part ℕ
clear next = Asks (Changes change.Clear) (on cleared_in next)

abbrev pub resolved_in : ActReply → Option Resolved
resolved_in (Event (event.Resolved row)) = Some row
resolved_in told = None

-- a number is looked up in the tables: its row, which is pinned now, how its object is kept, and its ids and mode
abbrev pub resolve : ℕ → Part Resolved
resolve number next = Asks (Changes (change.Resolve number)) (on resolved_in next)

abbrev pub fd_in : ActReply → Option Fd
fd_in (Host (host.Ok (value.Fd fd))) = Some fd
fd_in told = None

-- a path of the host is opened
abbrev pub open_root : List ℕ → OpenFlags → Part Fd
open_root dir flags next = Asks (Calls (call.OpenRoot dir flags)) (on fd_in next)

-- a name in a directory is opened; no mode is needed, since nothing is made
abbrev pub open_at : Fd → List ℕ → OpenFlags → Part Fd
open_at dir name flags next = Asks (Calls (call.OpenAt dir name flags 0)) (on fd_in next)

-- what a descriptor is open on is opened anew
abbrev pub reopen : Fd → OpenFlags → Part Fd
reopen fd flags next = Asks (Calls (call.Reopen fd flags)) (on fd_in next)

abbrev pub ok_in : ActReply → Option (Unit {0})
ok_in (Host (host.Ok told)) = Some tt
ok_in told = None

-- a call on the seat: where it is Ok its scope is open
abbrev pub open_scope : Call → Hold → RequestTree → RequestTree
open_scope asked scope next = Opens asked scope (on ok_in (λ done. next))

abbrev pub tried_in : ActReply → Option (Unit {0})
tried_in (Host told) = Some tt
tried_in told = None

-- a call that the host may refuse; one that could not be copied was not made, and ends the request
abbrev pub try_call : Call → RequestTree → RequestTree
try_call asked next = Asks (Calls asked) (on tried_in (λ done. next))

-- it was answered that the name is there
abbrev pub is_there : ActReply → Bool
is_there (Host (host.Refused errno)) = int_eq errno.0 eexist.0
is_there (Host (host.Fault errno)) = int_eq errno.0 eexist.0
is_there (Host host.NoMemory) = false
is_there (Host (host.Ok told)) = false
is_there (Event told) = false
is_there NoCopy = false

-- a file was made, or its name was there, which may be no refusal
abbrev pub made_in : Bool → ActReply → Option Made
made_in may_be (Host (host.Ok (value.Fd fd))) = Some (New fd)
made_in may_be told = if is_there told && may_be then Some Old else None

-- a file is made, and the scopes that are open for that end, whatever is told
abbrev pub make_at : Fd → List ℕ → OpenFlags → ℕ → Bool → Part Made
make_at dir name flags mode may_be next =
    Asks (Calls (call.OpenAt dir name flags mode)) (λ told. Bares (on (made_in may_be) next told))

abbrev pub stat_in : ActReply → Option Stat
stat_in (Host (host.Ok (value.Stat told))) = Some told
stat_in told = None

-- what a descriptor is open on is looked at
abbrev pub stat : Fd → Part Stat
stat fd next = Asks (Calls (call.Stat fd)) (on stat_in next)

-- bytes from an offset on
abbrev pub read_at : Fd → ℕ → ℕ → Part (List ℕ)
read_at fd offset size next = Asks (Calls (call.ReadAt fd offset size)) (on bytes_of next)

-- the call is Ok, or that is how the request is to be answered, perhaps after more
abbrev pub refused_in : ActReply → Option (Option Answer)
refused_in (Host (host.Ok told)) = Some None
refused_in (Host (host.Refused errno)) = Some (Some (answer.Refused errno))
refused_in (Host (host.Fault errno)) = Some (Some (answer.Refused errno))
refused_in (Host host.NoMemory) = Some (Some answer.NoMemory)
refused_in NoCopy = Some (Some answer.NoMemory)
refused_in (Event told) = None

abbrev pub or_refused : (Answer → RequestTree) → RequestTree → Option Answer → RequestTree
or_refused refused next None = next
or_refused refused next (Some last) = refused last

-- an extended attribute of what a descriptor is open on is set, through its link in `/proc` or not
abbrev pub set_xattr : Fd → Bool → List ℕ → List ℕ → ℕ → Part (Option Answer)
set_xattr fd through name value flags next =
    Asks (Calls (call.SetXattr fd through name value flags)) (on refused_in next)

-- it went, or was not there, or the host has no attributes at all
abbrev pub is_gone : ActReply → Bool
is_gone (Host (host.Ok told)) = true
is_gone (Host (host.Refused errno)) = int_eq errno.0 enodata.0 || int_eq errno.0 eopnotsupp.0
is_gone (Host (host.Fault errno)) = int_eq errno.0 enodata.0 || int_eq errno.0 eopnotsupp.0
is_gone (Host host.NoMemory) = false
is_gone (Event told) = false
is_gone NoCopy = false

abbrev pub gone_in : ActReply → Option (Unit {0})
gone_in told = if is_gone told then Some tt else None

-- an extended attribute of what a descriptor is open on goes, where it is there
abbrev pub drop_xattr : Fd → Bool → List ℕ → RequestTree → RequestTree
drop_xattr fd through name next = Asks (Calls (call.RemoveXattr fd through name)) (on gone_in (λ done. next))

-- an object's number is given once more; or it has none, and is absent
abbrev pub claimed_in : ActReply → Option (Option ℕ)
claimed_in (Event (event.Claimed given)) = Some (Some given.number)
claimed_in (Event event.Absent) = Some None
claimed_in told = None

abbrev pub claim_of : ℕ → Option FileHandle → ObjIds → KeptClaim
claim_of era handle ids = record { era = era; handle = handle; ids = ids }

abbrev pub claim : BegunSession → Option FileHandle → ObjIds → Part (Option ℕ)
claim session handle ids next =
    Asks (Changes (change.Claim (claim_of session.era handle ids))) (on claimed_in next)

abbrev pub taken_in : ActReply → Option (Unit {0})
taken_in (Event event.Taken) = Some tt
taken_in told = None

-- the newest descriptor is counted among those that are open for the guest
abbrev pub take_fd : RequestTree → RequestTree
take_fd next = Asks (Changes (change.TakeFd 0)) (on taken_in (λ done. next))

abbrev pub drawn_in : ActReply → Option ℕ
drawn_in (Event (event.Drawn number)) = Some number
drawn_in told = None

-- a number is drawn that was never given, and likewise a handle
abbrev pub draw_node : Part ℕ
draw_node next = Asks (Changes change.DrawNode) (on drawn_in next)

abbrev pub draw_handle : Part ℕ
draw_handle next = Asks (Changes change.DrawHandle) (on drawn_in next)

-- the number that was inserted: the new one, or that of another request, which was faster
abbrev pub numbered_in : ActReply → Option ℕ
numbered_in (Event (event.Inserted number)) = Some number
numbered_in (Event (event.Found given)) = Some given.number
numbered_in told = None

abbrev pub new_row_of : ℕ → ℕ → RowForm → Stat → NewRow
new_row_of era fresh form told =
    record { era = era; number = fresh; form = form; ids = told.ids; mode = told.mode; class = 0 }

-- what was opened is numbered
abbrev pub insert : BegunSession → ℕ → RowForm → Stat → Part ℕ
insert session fresh form told next =
    Asks (Changes (change.Insert (new_row_of session.era fresh form told))) (on numbered_in next)

abbrev pub inserted_in : ActReply → Option (Unit {0})
inserted_in (Event (event.Inserted number)) = Some tt
inserted_in told = None

abbrev pub new_root_of : ℕ → RowForm → Stat → Option Negotiated → NewRoot
new_root_of era form told agreed =
    record { era = era; form = form; ids = told.ids; mode = told.mode; negotiated = agreed }

-- what is agreed on is said with the root, or left
abbrev pub insert_root : BegunSession → RowForm → Stat → Option Negotiated → RequestTree → RequestTree
insert_root session form told agreed next =
    Asks (Changes (change.InsertRoot (new_root_of session.era form told agreed))) (on inserted_in (λ done. next))

abbrev pub new_handle_of : ℕ → ℕ → ℕ → Fd → NewHandle
new_handle_of era handle number fd = record { era = era; handle = handle; number = number; fd = fd; class = 0 }

-- what was opened gets its handle
abbrev pub insert_handle : BegunSession → ℕ → ℕ → Fd → RequestTree → RequestTree
insert_handle session handle number fd next =
    Asks (Changes (change.InsertHandle (new_handle_of session.era handle number fd))) (on inserted_in (λ done. next))

abbrev pub pinned_in : ActReply → Option Fd
pinned_in (Event (event.Pinned row fd)) = Some fd
pinned_in told = None

-- a handle is looked up in the tables: its descriptor, whose row is pinned now
abbrev pub pin_handle : ℕ → ℕ → Part Fd
pin_handle handle number next = Asks (Changes (change.PinHandle handle number)) (on pinned_in next)

abbrev pub done_in : ActReply → Option (Unit {0})
done_in (Event (event.Done closings)) = Some tt
done_in told = None

-- of these numbers so much is taken back
abbrev pub forget_all : List (ℕ × ℕ) → RequestTree → RequestTree
forget_all list next = Asks (Changes (change.Forget list)) (on done_in (λ done. next))

-- a handle ends
abbrev pub release_handle : ℕ → ℕ → RequestTree → RequestTree
release_handle handle number next = Asks (Changes (change.Release handle number)) (on done_in (λ done. next))
