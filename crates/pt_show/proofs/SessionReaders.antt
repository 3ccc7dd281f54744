-- The texts of the events of the tables and of their replies are read back.
use Rattle.std.proofs.Common.{◌≡◌, ◌==◌, ◌∙◌, ℕ, Bool, true, false, cond, if◌then◌else◌, drop, List, [], ◌∷◌, ◌++◌}
use Rattle.std.proofs.Common.{Option, Some, refl, sym, ap, arith, nat_eq}
use Rattle.std.proofs.lemmas.Bool.Decides.{nat_tests}
use Rattle.std.specs.Prelude.{codes}
use Rattle.pt_host.specs.declared.ids.Fd.{Fd}
use Rattle.pt_host.specs.declared.ids.ObjIds.{ObjIds}
use Rattle.pt_host.specs.declared.handle.FileHandle.{FileHandle}
use Rattle.pt_tables.specs.declared.form.RowForm.{RowForm}
use Rattle.pt_tables.specs.declared.form.RowForm.TheVariants as form
use Rattle.pt_tables.specs.declared.form.Negotiated.{Negotiated}
use Rattle.pt_tables.specs.declared.event.KeptEvent.{KeptEvent}
use Rattle.pt_tables.specs.declared.event.KeptEvent.TheVariants as event
use Rattle.pt_tables.specs.declared.reply.EventRefusal.{EventRefusal}
use Rattle.pt_tables.specs.declared.reply.EventRefusal.TheVariants as refusal
use Rattle.pt_tables.specs.declared.reply.EventReply.{EventReply}
use Rattle.pt_tables.specs.declared.reply.EventReply.TheVariants as reply
use Rattle.pt_show.specs.SessionTexts.{form_text, row_text, negotiated_text, pair_text, event_text, refusal_text}
use Rattle.pt_show.specs.SessionTexts.{event_reply_text, class_text}
use Rattle.pt_show.specs.Texts.{word, number_text}
use Rattle.pt_show.specs.Laws.{IsParted, IsUnclassed, begins_with}
use Rattle.pt_show.proofs.Readers.{Reads, ReadsBefore, Found, nothing, both, along, options, lists, Kind, kind}
use Rattle.pt_show.proofs.Readers.{read_kinds, named}
use Rattle.pt_show.proofs.PlainTexts.{numbers, switches}
use Rattle.pt_show.proofs.HostReaders.{fds, obj_ids, handles}

-- forms of rows
abbrev pub form_kinds : List (Kind RowForm)
form_kinds =
    kind (codes "File") fds (λ (a : Fd). form.File a)
    ∷ []

pub form-back : (value : RowForm) (rest : List ℕ) → IsParted rest →
    read_kinds form_kinds (form_text value ++ rest) ≡ Some (value, rest)
form-back (form.File fd) rest p =
    named form_kinds (codes "File") fds (λ (a : Fd). form.File a) refl (λ _. refl) fd rest p

form-parted : (value : RowForm) (rest : List ℕ) → IsParted (form_text value ++ rest)
form-parted (form.File fd) rest = refl

pub forms : Reads form_text
forms = record {
  read = read_kinds form_kinds;
  back = form-back;
  parted = λ value rest p. form-parted value rest;
}

pub agreements : Reads negotiated_text
agreements =
    along (both (both (both switches switches) switches) switches)
    (λ (f : ((Bool × Bool) × Bool) × Bool). record {
      writeback = f.0.0.0;
      announce_submounts = f.0.0.1;
      posix_acl =
          f.0.1;
      sup_group = f.1;
    })
    (λ (value : Negotiated). (((value.writeback, value.announce_submounts), value.posix_acl), value.sup_group))
    (λ value. refl)

pub pairs : Reads pair_text
pairs = both numbers numbers

-- what a row keeps
pub rows : Reads (λ (row : (RowForm × ObjIds) × ℕ). row_text row.0.0 row.0.1 row.1)
rows = both (both forms obj_ids) numbers

-- a class, or none where it is 0
abbrev read_class : List ℕ → Found ℕ
read_class text = cond (begins_with (word (codes "class")) text) (numbers.read (drop 6 text)) (Some (0, text))

class-back : (class : ℕ) (rest : List ℕ) → IsUnclassed rest → read_class (class_text class ++ rest) ≡ Some (class, rest)
class-back class rest p = go (class == 0) refl
  where
    go : (b : Bool) → (class == 0) ≡ b →
        read_class ((if b then [] else word (codes "class") ++ number_text class) ++ rest) ≡ Some (class, rest)
    go true e =
        let is : nat_eq class 0 ≡ true = e in
        let none : class ≡ 0 = grind (arith, nat_tests) in
        ap (λ (b : Bool). cond b (numbers.read (drop 6 rest)) (Some (0, rest))) p.1
        ∙ ap (λ (n : ℕ). Some (n, rest)) (sym none)
    go false e = numbers.back class rest p.0

class-parted : (class : ℕ) (rest : List ℕ) → IsUnclassed rest → IsParted (class_text class ++ rest)
class-parted class rest p = go (class == 0)
  where
    go : (b : Bool) → IsParted ((if b then [] else word (codes "class") ++ number_text class) ++ rest)
    go true = p.0
    go false = refl

pub classes : ReadsBefore IsUnclassed class_text
classes = record { read = read_class; back = class-back; parted = class-parted }

-- events, made of the words that follow their names
abbrev claim_read : (ℕ × Option FileHandle) × ObjIds → KeptEvent
claim_read f = event.Claim (record { era = f.0.0; handle = f.0.1; ids = f.1 })

abbrev row_read : ((ℕ × ℕ) × ((RowForm × ObjIds) × ℕ)) × ℕ → KeptEvent
row_read f = event.Insert (record {
  era = f.0.0.0;
  number = f.0.0.1;
  form = f.0.1.0.0;
  ids = f.0.1.0.1;
  mode = f.0.1.1;
  class = f.1;
})

abbrev root_read : (ℕ × ((RowForm × ObjIds) × ℕ)) × Option Negotiated → KeptEvent
root_read f =
    event.InsertRoot (record { era = f.0.0; form = f.0.1.0.0; ids = f.0.1.0.1; mode = f.0.1.1; negotiated = f.1 })

abbrev handle_read : (((ℕ × ℕ) × ℕ) × Fd) × ℕ → KeptEvent
handle_read f =
    event.InsertHandle (record { era = f.0.0.0.0; handle = f.0.0.0.1; number = f.0.0.1; fd = f.0.1; class = f.1 })

abbrev pub event_kinds : List (Kind KeptEvent)
event_kinds =
    kind (codes "Begin") nothing (λ (none : Unit {0}). event.Begin)
    ∷ kind (codes "Resolve") numbers (λ (a : ℕ). event.Resolve a)
    ∷ kind (codes "Unpin") numbers (λ (a : ℕ). event.Unpin a)
    ∷ kind (codes "Claim") (both (both numbers (options handles)) obj_ids) claim_read
    ∷ kind (codes "TakeFd") classes (λ (a : ℕ). event.TakeFd a)
    ∷ kind (codes "GiveFd") classes (λ (a : ℕ). event.GiveFd a)
    ∷ kind (codes "DrawNode") nothing (λ (none : Unit {0}). event.DrawNode)
    ∷ kind (codes "Insert") (both (both (both numbers numbers) rows) classes) row_read
    ∷ kind (codes "InsertRoot") (both (both numbers rows) (options agreements)) root_read
    ∷ kind (codes "Forget") (lists numbers pairs) (λ (a : List (ℕ × ℕ)). event.Forget a)
    ∷ kind (codes "GiveBack") (both numbers numbers) (λ (f : ℕ × ℕ). event.GiveBack f.0 f.1)
    ∷ kind (codes "DrawHandle") nothing (λ (none : Unit {0}). event.DrawHandle)
    ∷ kind (codes "InsertHandle") (both (both (both (both numbers numbers) numbers) fds) classes) handle_read
    ∷ kind (codes "PinHandle") (both numbers numbers) (λ (f : ℕ × ℕ). event.PinHandle f.0 f.1)
    ∷ kind (codes "UnpinHandle") numbers (λ (a : ℕ). event.UnpinHandle a)
    ∷ kind (codes "Release") (both numbers numbers) (λ (f : ℕ × ℕ). event.Release f.0 f.1)
    ∷ kind (codes "Clear") nothing (λ (none : Unit {0}). event.Clear)
    ∷ kind (codes "TakeClosing") nothing (λ (none : Unit {0}). event.TakeClosing)
    ∷ []

pub event-back : (value : KeptEvent) (rest : List ℕ) → IsUnclassed rest →
    read_kinds event_kinds (event_text value ++ rest) ≡ Some (value, rest)
event-back event.Begin rest p =
    named event_kinds (codes "Begin") nothing (λ (none : Unit {0}). event.Begin) refl (λ _. refl) tt rest p.0
event-back (event.Resolve number) rest p =
    named event_kinds (codes "Resolve") numbers (λ (a : ℕ). event.Resolve a) refl (λ _. refl) number rest p.0
event-back (event.Unpin row) rest p =
    named event_kinds (codes "Unpin") numbers (λ (a : ℕ). event.Unpin a) refl (λ _. refl) row rest p.0
event-back (event.Claim claim) rest p =
    named event_kinds (codes "Claim") (both (both numbers (options handles)) obj_ids)
    claim_read refl (λ _. refl) ((claim.era, claim.handle), claim.ids)
    rest p.0
event-back (event.TakeFd class) rest p =
    named event_kinds (codes "TakeFd") classes (λ (a : ℕ). event.TakeFd a) refl (λ _. refl) class rest p
event-back (event.GiveFd class) rest p =
    named event_kinds (codes "GiveFd") classes (λ (a : ℕ). event.GiveFd a) refl (λ _. refl) class rest p
event-back event.DrawNode rest p =
    named event_kinds (codes "DrawNode") nothing (λ (none : Unit {0}). event.DrawNode) refl (λ _. refl) tt rest p.0
event-back (event.Insert new) rest p =
    named event_kinds (codes "Insert") (both (both (both numbers numbers) rows) classes)
    row_read refl (λ _. refl)
    (((new.era, new.number), ((new.form, new.ids), new.mode)), new.class) rest p
event-back (event.InsertRoot new) rest p =
    named event_kinds (codes "InsertRoot") (both (both numbers rows) (options agreements))
    root_read refl (λ _. refl) ((new.era, ((new.form, new.ids), new.mode)), new.negotiated) rest p.0
event-back (event.Forget list) rest p =
    named event_kinds (codes "Forget") (lists numbers pairs) (λ (a : List (ℕ × ℕ)). event.Forget a) refl (λ _. refl)
    list rest p.0
event-back (event.GiveBack era number) rest p =
    named event_kinds (codes "GiveBack") (both numbers numbers) (λ (f : ℕ × ℕ). event.GiveBack f.0 f.1) refl
    (λ _. refl) (era, number) rest p.0
event-back event.DrawHandle rest p =
    named event_kinds (codes "DrawHandle") nothing (λ (none : Unit {0}). event.DrawHandle) refl (λ _. refl) tt rest p.0
event-back (event.InsertHandle new) rest p =
    named event_kinds (codes "InsertHandle") (both (both (both (both numbers numbers) numbers) fds) classes)
    handle_read refl (λ _. refl)
    ((((new.era, new.handle), new.number), new.fd), new.class) rest p
event-back (event.PinHandle handle number) rest p =
    named event_kinds (codes "PinHandle") (both numbers numbers) (λ (f : ℕ × ℕ). event.PinHandle f.0 f.1) refl
    (λ _. refl) (handle, number) rest p.0
event-back (event.UnpinHandle row) rest p =
    named event_kinds (codes "UnpinHandle") numbers (λ (a : ℕ). event.UnpinHandle a) refl (λ _. refl) row rest p.0
event-back (event.Release handle number) rest p =
    named event_kinds (codes "Release") (both numbers numbers) (λ (f : ℕ × ℕ). event.Release f.0 f.1) refl
    (λ _. refl) (handle, number) rest p.0
event-back event.Clear rest p =
    named event_kinds (codes "Clear") nothing (λ (none : Unit {0}). event.Clear) refl (λ _. refl) tt rest p.0
event-back event.TakeClosing rest p =
    named event_kinds (codes "TakeClosing") nothing (λ (none : Unit {0}). event.TakeClosing) refl (λ _. refl) tt rest
    p.0

event-parted : (value : KeptEvent) (rest : List ℕ) → IsParted (event_text value ++ rest)
event-parted event.Begin rest = refl
event-parted other rest = refl

pub events : ReadsBefore IsUnclassed event_text
events = record {
  read = read_kinds event_kinds;
  back = event-back;
  parted = λ value rest p. event-parted value rest;
}

-- why an event is refused
abbrev pub refusal_kinds : List (Kind EventRefusal)
refusal_kinds =
    kind (codes "NotLive") nothing (λ (none : Unit {0}). refusal.NotLive)
    ∷ kind (codes "Overtaken") nothing (λ (none : Unit {0}). refusal.Overtaken)
    ∷ kind (codes "NoSlot") nothing (λ (none : Unit {0}). refusal.NoSlot)
    ∷ kind (codes "Last") nothing (λ (none : Unit {0}). refusal.Last)
    ∷ kind (codes "Live") nothing (λ (none : Unit {0}). refusal.Live)
    ∷ kind (codes "Memory") nothing (λ (none : Unit {0}). refusal.Memory)
    ∷ []

pub refusal-back : (value : EventRefusal) (rest : List ℕ) → IsParted rest →
    read_kinds refusal_kinds (refusal_text value ++ rest) ≡ Some (value, rest)
refusal-back refusal.NotLive rest p =
    named refusal_kinds (codes "NotLive") nothing (λ (none : Unit {0}). refusal.NotLive) refl (λ _. refl) tt rest p
refusal-back refusal.Overtaken rest p =
    named refusal_kinds (codes "Overtaken") nothing (λ (none : Unit {0}). refusal.Overtaken) refl (λ _. refl) tt rest
    p
refusal-back refusal.NoSlot rest p =
    named refusal_kinds (codes "NoSlot") nothing (λ (none : Unit {0}). refusal.NoSlot) refl (λ _. refl) tt rest p
refusal-back refusal.Last rest p =
    named refusal_kinds (codes "Last") nothing (λ (none : Unit {0}). refusal.Last) refl (λ _. refl) tt rest p
refusal-back refusal.Live rest p =
    named refusal_kinds (codes "Live") nothing (λ (none : Unit {0}). refusal.Live) refl (λ _. refl) tt rest p
refusal-back refusal.Memory rest p =
    named refusal_kinds (codes "Memory") nothing (λ (none : Unit {0}). refusal.Memory) refl (λ _. refl) tt rest p

refusal-parted : (value : EventRefusal) (rest : List ℕ) → IsParted (refusal_text value ++ rest)
refusal-parted refusal.NotLive rest = refl
refusal-parted other rest = refl

pub refusals : Reads refusal_text
refusals = record {
  read = read_kinds refusal_kinds;
  back = refusal-back;
  parted = λ value rest p. refusal-parted value rest;
}

pub refusals-read : (text : List ℕ) → refusals.read text ≡ read_kinds refusal_kinds text
unfolding refusals
refusals-read text = refl

-- replies
abbrev resolved_read : (ℕ × ((RowForm × ObjIds) × ℕ)) × ℕ → EventReply
resolved_read f =
    reply.Resolved (record { row = f.0.0; form = f.0.1.0.0; ids = f.0.1.0.1; mode = f.0.1.1; class = f.1 })

abbrev claimed_read : ℕ × ℕ → EventReply
claimed_read f = reply.Claimed (record { number = f.0; class = f.1 })

abbrev found_read : ℕ × ℕ → EventReply
found_read f = reply.Found (record { number = f.0; class = f.1 })

abbrev closing_read : (Fd × Bool) × ℕ → EventReply
closing_read f = reply.Closing (record { fd = f.0.0; slot = f.0.1; class = f.1 })

abbrev pub event_reply_kinds : List (Kind EventReply)
event_reply_kinds =
    kind (codes "Began") (both numbers agreements) (λ (f : ℕ × Negotiated). reply.Began f.0 f.1)
    ∷ kind (codes "Resolved") (both (both numbers rows) classes) resolved_read
    ∷ kind (codes "Done") numbers (λ (a : ℕ). reply.Done a)
    ∷ kind (codes "Claimed") (both numbers classes) claimed_read
    ∷ kind (codes "Absent") nothing (λ (none : Unit {0}). reply.Absent)
    ∷ kind (codes "Taken") nothing (λ (none : Unit {0}). reply.Taken)
    ∷ kind (codes "Given") nothing (λ (none : Unit {0}). reply.Given)
    ∷ kind (codes "Drawn") numbers (λ (a : ℕ). reply.Drawn a)
    ∷ kind (codes "Inserted") numbers (λ (a : ℕ). reply.Inserted a)
    ∷ kind (codes "Found") (both numbers classes) found_read
    ∷ kind (codes "Closing") (both (both fds switches) classes) closing_read
    ∷ kind (codes "Pinned") (both numbers fds) (λ (f : ℕ × Fd). reply.Pinned f.0 f.1)
    ∷ kind (codes "Cleared") (both numbers numbers) (λ (f : ℕ × ℕ). reply.Cleared f.0 f.1)
    ∷ kind (codes "Refused") refusals (λ (a : EventRefusal). reply.Refused a)
    ∷ []

pub event_reply-back : (value : EventReply) (rest : List ℕ) → IsUnclassed rest →
    read_kinds event_reply_kinds (event_reply_text value ++ rest) ≡ Some (value, rest)
event_reply-back (reply.Began era negotiated) rest p =
    named event_reply_kinds (codes "Began") (both numbers agreements) (λ (f : ℕ × Negotiated). reply.Began f.0 f.1)
    refl (λ _. refl) (era, negotiated) rest p.0
event_reply-back (reply.Resolved resolved) rest p =
    named event_reply_kinds (codes "Resolved") (both (both numbers rows) classes)
    resolved_read refl (λ _. refl)
    ((resolved.row, ((resolved.form, resolved.ids), resolved.mode)), resolved.class) rest p
event_reply-back (reply.Done closings) rest p =
    named event_reply_kinds (codes "Done") numbers (λ (a : ℕ). reply.Done a) refl (λ _. refl) closings rest p.0
event_reply-back (reply.Claimed given) rest p =
    named event_reply_kinds (codes "Claimed") (both numbers classes) claimed_read refl (λ _. refl)
    (given.number, given.class) rest p
event_reply-back reply.Absent rest p =
    named event_reply_kinds (codes "Absent") nothing (λ (none : Unit {0}). reply.Absent) refl (λ _. refl) tt rest p.0
event_reply-back reply.Taken rest p =
    named event_reply_kinds (codes "Taken") nothing (λ (none : Unit {0}). reply.Taken) refl (λ _. refl) tt rest p.0
event_reply-back reply.Given rest p =
    named event_reply_kinds (codes "Given") nothing (λ (none : Unit {0}). reply.Given) refl (λ _. refl) tt rest p.0
event_reply-back (reply.Drawn number) rest p =
    named event_reply_kinds (codes "Drawn") numbers (λ (a : ℕ). reply.Drawn a) refl (λ _. refl) number rest p.0
event_reply-back (reply.Inserted number) rest p =
    named event_reply_kinds (codes "Inserted") numbers (λ (a : ℕ). reply.Inserted a) refl (λ _. refl) number rest p.0
event_reply-back (reply.Found given) rest p =
    named event_reply_kinds (codes "Found") (both numbers classes) found_read refl (λ _. refl)
    (given.number, given.class) rest p
event_reply-back (reply.Closing first) rest p =
    named event_reply_kinds (codes "Closing") (both (both fds switches) classes) closing_read refl
    (λ _. refl) ((first.fd, first.slot), first.class) rest p
event_reply-back (reply.Pinned row fd) rest p =
    named event_reply_kinds (codes "Pinned") (both numbers fds) (λ (f : ℕ × Fd). reply.Pinned f.0 f.1) refl
    (λ _. refl) (row, fd) rest p.0
event_reply-back (reply.Cleared era closings) rest p =
    named event_reply_kinds (codes "Cleared") (both numbers numbers) (λ (f : ℕ × ℕ). reply.Cleared f.0 f.1) refl
    (λ _. refl) (era, closings) rest p.0
event_reply-back (reply.Refused why) rest p =
    named event_reply_kinds (codes "Refused") refusals (λ (a : EventRefusal). reply.Refused a) refl (λ _. refl) why
    rest p.0

event_reply-parted : (value : EventReply) (rest : List ℕ) → IsParted (event_reply_text value ++ rest)
event_reply-parted (reply.Began era negotiated) rest = refl
event_reply-parted other rest = refl

pub event_replies : ReadsBefore IsUnclassed event_reply_text
event_replies = record {
  read = read_kinds event_reply_kinds;
  back = event_reply-back;
  parted = λ value rest p. event_reply-parted value rest;
}
