-- Believed. The texts of the events of the tables and of their replies.
use Rattle.std.specs.Prelude.{ℕ, ◌==◌, if◌then◌else◌, List, [], ◌++◌, codes, length}
use Rattle.pt_host.specs.declared.ids.Fd.{Fd}
use Rattle.pt_host.specs.declared.ids.ObjIds.{ObjIds}
use Rattle.pt_tables.specs.declared.form.RowForm.{RowForm}
use Rattle.pt_tables.specs.declared.form.RowForm.TheVariants.{File}
use Rattle.pt_tables.specs.declared.form.Negotiated.{Negotiated}
use Rattle.pt_tables.specs.declared.event.KeptEvent.{KeptEvent}
use Rattle.pt_tables.specs.declared.event.KeptEvent.TheVariants as event
use Rattle.pt_tables.specs.declared.reply.EventRefusal.{EventRefusal}
use Rattle.pt_tables.specs.declared.reply.EventRefusal.TheVariants as refusal
use Rattle.pt_tables.specs.declared.reply.EventReply.{EventReply}
use Rattle.pt_tables.specs.declared.reply.EventReply.TheVariants as reply
use Rattle.pt_show.specs.Texts.{word, number_text, switch_text, option_text, items_text}
use Rattle.pt_show.specs.HostTexts.{fd_text, handle_text, ids_text}

abbrev pub form_text : RowForm → List ℕ
form_text (File fd) = word (codes "File") ++ fd_text fd

-- A class, the last field of its event or reply. Class 0 prints nothing.
abbrev pub class_text : ℕ → List ℕ
class_text class = if class == 0 then [] else word (codes "class") ++ number_text class

-- what a row keeps of its object
abbrev pub row_text : RowForm → ObjIds → ℕ → List ℕ
row_text form ids mode = form_text form ++ ids_text ids ++ number_text mode

abbrev pub negotiated_text : Negotiated → List ℕ
negotiated_text agreed =
    switch_text agreed.writeback ++ switch_text agreed.announce_submounts ++ switch_text agreed.posix_acl
    ++ switch_text agreed.sup_group

abbrev pub pair_text : ℕ × ℕ → List ℕ
pair_text pair = number_text pair.0 ++ number_text pair.1

abbrev pub forgets_text : List (ℕ × ℕ) → List ℕ
forgets_text pairs = number_text (length pairs) ++ items_text pair_text pairs

-- a name and what a new handle is told by
abbrev pub new_handle_text :
    (name : List ℕ) →
    (era : ℕ) →
    (handle : ℕ) →
    (number : ℕ) →
    (fd : Fd) →
    (class : ℕ) → List ℕ
new_handle_text name era handle number fd class =
    word name ++ number_text era ++ number_text handle ++ number_text number ++ fd_text fd ++ class_text class

-- an event: its name and its fields in their order
abbrev pub event_text : KeptEvent → List ℕ
-- a request begins; numbers and their rows
event_text event.Begin = word (codes "Begin")
event_text (event.Resolve number) = word (codes "Resolve") ++ number_text number
event_text (event.Unpin row) = word (codes "Unpin") ++ number_text row
event_text (event.Claim claim) =
    word (codes "Claim") ++ number_text claim.era ++ option_text handle_text claim.handle ++ ids_text claim.ids
-- slots of descriptors
event_text (event.TakeFd class) = word (codes "TakeFd") ++ class_text class
event_text (event.GiveFd class) = word (codes "GiveFd") ++ class_text class
-- new numbers, and what is taken back of them
event_text event.DrawNode = word (codes "DrawNode")
event_text (event.Insert new) =
    word (codes "Insert") ++ number_text new.era ++ number_text new.number ++ row_text new.form new.ids new.mode
    ++ class_text new.class
event_text (event.InsertRoot new) =
    word (codes "InsertRoot") ++ number_text new.era ++ row_text new.form new.ids new.mode
    ++ option_text negotiated_text new.negotiated
event_text (event.Forget list) = word (codes "Forget") ++ forgets_text list
event_text (event.GiveBack era number) = word (codes "GiveBack") ++ number_text era ++ number_text number
-- handles
event_text event.DrawHandle = word (codes "DrawHandle")
event_text (event.InsertHandle new) =
    new_handle_text (codes "InsertHandle") new.era new.handle new.number new.fd new.class
event_text (event.PinHandle handle number) = word (codes "PinHandle") ++ number_text handle ++ number_text number
event_text (event.UnpinHandle row) = word (codes "UnpinHandle") ++ number_text row
event_text (event.Release handle number) = word (codes "Release") ++ number_text handle ++ number_text number
-- the session begins anew; what has to be closed
event_text event.Clear = word (codes "Clear")
event_text event.TakeClosing = word (codes "TakeClosing")

-- why an event was refused
abbrev pub refusal_text : EventRefusal → List ℕ
refusal_text refusal.NotLive = word (codes "NotLive")
refusal_text refusal.Overtaken = word (codes "Overtaken")
refusal_text refusal.NoSlot = word (codes "NoSlot")
refusal_text refusal.Last = word (codes "Last")
refusal_text refusal.Live = word (codes "Live")
refusal_text refusal.Memory = word (codes "Memory")

-- what an event was answered
abbrev pub event_reply_text : EventReply → List ℕ
-- numbers and their rows
event_reply_text (reply.Began era negotiated) = word (codes "Began") ++ number_text era ++ negotiated_text negotiated
event_reply_text (reply.Resolved resolved) =
    word (codes "Resolved") ++ number_text resolved.row ++ row_text resolved.form resolved.ids resolved.mode
    ++ class_text resolved.class
event_reply_text (reply.Done closings) = word (codes "Done") ++ number_text closings
event_reply_text (reply.Claimed given) = word (codes "Claimed") ++ number_text given.number ++ class_text given.class
event_reply_text reply.Absent = word (codes "Absent")
-- slots and counters
event_reply_text reply.Taken = word (codes "Taken")
event_reply_text reply.Given = word (codes "Given")
event_reply_text (reply.Drawn number) = word (codes "Drawn") ++ number_text number
-- insertions, closings and handles
event_reply_text (reply.Inserted number) = word (codes "Inserted") ++ number_text number
event_reply_text (reply.Found given) = word (codes "Found") ++ number_text given.number ++ class_text given.class
event_reply_text (reply.Closing first) =
    word (codes "Closing") ++ fd_text first.fd ++ switch_text first.slot ++ class_text first.class
event_reply_text (reply.Pinned row fd) = word (codes "Pinned") ++ number_text row ++ fd_text fd
event_reply_text (reply.Cleared era closings) = word (codes "Cleared") ++ number_text era ++ number_text closings
-- a refusal
event_reply_text (reply.Refused why) = word (codes "Refused") ++ refusal_text why
