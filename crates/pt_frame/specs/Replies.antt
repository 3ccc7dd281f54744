-- Believed. What a reply says: how a refusal is answered, how many closings follow, how many rows were inserted.
use Rattle.std.specs.Prelude.{ℕ, Bool, true, false, if◌then◌else◌, List, [], ◌∷◌, Option, Some, None}
use Rattle.pt_host.specs.Errno.{ebadf, eio, enfile, eoverflow}
use Rattle.pt_host.specs.declared.ids.Errno.{Errno}
use Rattle.pt_host.specs.declared.reply.HostReply.TheVariants as host
use Rattle.pt_host.specs.declared.reply.HostValue.TheVariants as value
use Rattle.pt_tables.specs.Change.{Change}
use Rattle.pt_tables.specs.declared.event.KeptEvent.TheVariants as change
use Rattle.pt_tables.specs.declared.reply.EventReply.{EventReply}
use Rattle.pt_tables.specs.declared.reply.EventReply.TheVariants as event
use Rattle.pt_tables.specs.declared.reply.EventRefusal.{EventRefusal}
use Rattle.pt_tables.specs.declared.reply.EventRefusal.TheVariants as refused
use Rattle.pt_iface.specs.declared.answer.Answer.{Answer}
use Rattle.pt_iface.specs.declared.answer.Answer.TheVariants as answer
use Rattle.pt_frame.specs.Deed.{Deed, Calls, Changes}
use Rattle.pt_frame.specs.declared.act.ActReply.{ActReply}
use Rattle.pt_frame.specs.declared.act.ActReply.TheVariants.{Event, Host, NoCopy}
use Rattle.pt_frame.specs.declared.finish.Finish.{Finish}
use Rattle.pt_frame.specs.declared.finish.Finish.TheVariants as finish
use Rattle.pt_frame.specs.declared.hold.Hold.{Hold}
use Rattle.pt_frame.specs.declared.hold.Hold.TheVariants as hold
use Rattle.pt_frame.specs.declared.hold.Taken.{Taken}
use Rattle.pt_frame.specs.declared.hold.Taken.TheVariants as taken

-- how a refused event is answered
abbrev pub event_refusal : EventRefusal → Answer
event_refusal refused.NotLive = answer.Refused ebadf
event_refusal refused.Overtaken = answer.Refused ebadf
event_refusal refused.NoSlot = answer.Refused enfile
event_refusal refused.Last = answer.Refused eoverflow
event_refusal refused.Live = answer.Refused eio
event_refusal refused.Memory = answer.NoMemory

-- how a refusal is answered; a reply that was not awaited is an error of input and output
abbrev pub refusal : ActReply → Answer
refusal (Event (event.Refused why)) = event_refusal why
refusal (Event told) = answer.Refused eio
refusal (Host (host.Refused errno)) = answer.Refused errno
refusal (Host (host.Fault errno)) = answer.Refused errno
refusal (Host host.NoMemory) = answer.NoMemory
refusal (Host (host.Ok told)) = answer.Refused eio
refusal NoCopy = answer.NoMemory

-- what a refused or failed call was answered
abbrev pub fault_in : ActReply → Option Errno
fault_in (Host (host.Refused errno)) = Some errno
fault_in (Host (host.Fault errno)) = Some errno
fault_in (Host host.NoMemory) = None
fault_in (Host (host.Ok told)) = None
fault_in (Event told) = None
fault_in NoCopy = None

-- the bytes that a reply brought
abbrev pub bytes_of : ActReply → Option (List ℕ)
bytes_of (Host (host.Ok (value.Bytes bytes))) = Some bytes
bytes_of told = None

-- that counts only where the step was to restore the seat
abbrev pub fault_if : Bool → ActReply → Option Errno
fault_if true told = fault_in told
fault_if false told = None

-- so many descriptors were put on the closing list
abbrev pub put_by : Change → EventReply → ℕ
put_by (change.Unpin row) (event.Done closings) = closings
put_by (change.Unpin row) told = 0
put_by (change.Forget list) (event.Done closings) = closings
put_by (change.Forget list) told = 0
put_by (change.GiveBack era number) (event.Done closings) = closings
put_by (change.GiveBack era number) told = 0
put_by (change.UnpinHandle row) (event.Done closings) = closings
put_by (change.UnpinHandle row) told = 0
put_by (change.Release handle number) (event.Done closings) = closings
put_by (change.Release handle number) told = 0
put_by change.Clear (event.Cleared era closings) = closings
put_by change.Clear told = 0
put_by change.Begin told = 0
put_by (change.Resolve number) told = 0
put_by (change.Claim claim) told = 0
put_by (change.TakeFd class) told = 0
put_by (change.GiveFd class) told = 0
put_by change.DrawNode told = 0
put_by (change.Insert new) told = 0
put_by (change.InsertRoot new) told = 0
put_by change.DrawHandle told = 0
put_by (change.InsertHandle new) told = 0
put_by (change.PinHandle handle number) told = 0
put_by change.TakeClosing told = 0

-- how many closings follow
abbrev pub closings_in : Deed → ActReply → ℕ
closings_in (Calls asked) told = 0
closings_in (Changes asked) (Event told) = put_by asked told
closings_in (Changes asked) (Host told) = 0
closings_in (Changes asked) NoCopy = 0

-- so many rows the event added
abbrev pub added_by : Change → EventReply → ℕ
added_by (change.Insert new) (event.Inserted given) = 1
added_by (change.Insert new) told = 0
added_by (change.InsertRoot new) (event.Inserted given) = 1
added_by (change.InsertRoot new) told = 0
added_by (change.InsertHandle new) (event.Inserted given) = 1
added_by (change.InsertHandle new) told = 0
added_by change.Begin told = 0
added_by (change.Resolve number) told = 0
added_by (change.Unpin row) told = 0
added_by (change.Claim claim) told = 0
added_by (change.TakeFd class) told = 0
added_by (change.GiveFd class) told = 0
added_by change.DrawNode told = 0
added_by (change.Forget list) told = 0
added_by (change.GiveBack era number) told = 0
added_by change.DrawHandle told = 0
added_by (change.PinHandle handle number) told = 0
added_by (change.UnpinHandle row) told = 0
added_by (change.Release handle number) told = 0
added_by change.Clear told = 0
added_by change.TakeClosing told = 0

-- how many rows are inserted
abbrev pub inserted_by : Deed → ActReply → ℕ
inserted_by (Calls asked) told = 0
inserted_by (Changes asked) (Event told) = added_by asked told
inserted_by (Changes asked) (Host told) = 0
inserted_by (Changes asked) NoCopy = 0

-- what a closing brings, to be given back at once
abbrev pub taken_in : ActReply → Taken
taken_in (Event (event.Closing first)) = taken.Fd first.fd first.slot first.class
taken_in _ = taken.Nothing

-- how many slots are to be given back of it
abbrev pub slots_in : Taken → ℕ
slots_in taken.Nothing = 0
slots_in (taken.Slot class) = 1
slots_in (taken.Fd fd true class) = 1
slots_in (taken.Fd fd false class) = 0

-- an event, but for a closing that is taken
abbrev pub events_in : Deed → ℕ
events_in (Changes change.TakeClosing) = 0
events_in (Changes other) = 1
events_in (Calls asked) = 0

-- how many slots a closing that was taken brought
abbrev pub slots_told : Deed → ActReply → ℕ
slots_told (Changes change.TakeClosing) reply = slots_in (taken_in reply)
slots_told (Changes other) reply = 0
slots_told (Calls asked) reply = 0

-- the same as holds
abbrev pub brought : Taken → List Hold
brought taken.Nothing = []
brought (taken.Slot class) = hold.Slot class ∷ []
brought (taken.Fd fd true class) = hold.Fd fd ∷ hold.Slot class ∷ []
brought (taken.Fd fd false class) = hold.Fd fd ∷ []

abbrev pub is_cut : Answer → Bool
is_cut answer.Cut = true
is_cut _ = false

-- the first loss is told, but a job that is cut is answered so
abbrev pub restored : Finish → Option Errno → Finish
restored last None = last
restored (finish.Lost first) (Some errno) = finish.Lost first
restored (finish.Answer told) (Some errno) = if is_cut told then finish.Answer told else finish.Lost errno

-- an answer with an entry has its count, which is the asker's then
abbrev pub passes_with : Answer → Bool
passes_with (answer.Entry entry) = true
passes_with (answer.Created entry handle options) = true
passes_with _ = false
