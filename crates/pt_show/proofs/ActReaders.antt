-- The texts of acts and of their replies are read back.
use Rattle.std.proofs.Common.{◌≡◌, ℕ, List, [], ◌∷◌, ◌++◌, Some, None, refl, ap, ◌∙◌}
use Rattle.std.specs.Prelude.{codes}
use Rattle.pt_host.specs.declared.ids.Errno.{Errno}
use Rattle.pt_host.specs.declared.op.KeptHostOp.{KeptHostOp}
use Rattle.pt_host.specs.declared.reply.HostReply.{HostReply}
use Rattle.pt_host.specs.declared.reply.HostReply.TheVariants as host
use Rattle.pt_tables.specs.declared.event.KeptEvent.{KeptEvent}
use Rattle.pt_tables.specs.declared.reply.EventReply.{EventReply}
use Rattle.pt_tables.specs.declared.reply.EventReply.TheVariants as reply
use Rattle.pt_frame.specs.declared.act.KeptAct.{KeptAct}
use Rattle.pt_frame.specs.declared.act.KeptAct.TheVariants as act
use Rattle.pt_frame.specs.declared.act.ActReply.{ActReply}
use Rattle.pt_frame.specs.declared.act.ActReply.TheVariants as told
use Rattle.pt_tables.specs.declared.reply.EventRefusal.{EventRefusal}
use Rattle.pt_show.specs.Texts.{word, signed_digits}
use Rattle.pt_show.specs.HostTexts.{call_text, errno_text, host_reply_text}
use Rattle.pt_show.specs.SessionTexts.{event_text, event_reply_text}
use Rattle.pt_show.specs.ActTexts.{act_text, act_reply_text}
use Rattle.pt_show.specs.Laws.{IsParted, IsUnclassed}
use Rattle.pt_show.proofs.Readers.{
  ReadsBefore,
  Found,
  nothing,
  mapped,
  Kind,
  kind,
  read_kinds,
  read_named,
  named,
  first-word,
}
use Rattle.pt_show.proofs.Readers.{others-word}
use Rattle.pt_show.proofs.PlainTexts.{signed-low, signed-plain}
use Rattle.pt_show.proofs.HostReaders.{
  call_kinds,
  call-back,
  calls,
  host_values,
  host_reply_kinds,
  host_reply-back,
  host_replies,
}
use Rattle.pt_show.proofs.HostReaders.{errnos}
use Rattle.pt_show.proofs.SessionReaders.{event_kinds, event-back, events, refusal_kinds, refusals-read}
use Rattle.pt_show.proofs.SessionReaders.{event_reply_kinds, event_reply-back, event_replies}
use Rattle.pt_show.proofs.Apart.{not_among, unnamed, low_unnamed}

-- the first that was found
abbrev or_else : {A : Type 0} → Found A → Found A → Found A
or_else None other = other
or_else (Some found) other = Some found

-- An event, else a call, else word that there was no copy.
abbrev no_copy : {A : Type 0} → A → List (Kind A)
no_copy value = kind (codes "NoCopy") nothing (λ (none : Unit {0}). value) ∷ []

abbrev read_act : List ℕ → Found KeptAct
read_act text =
    or_else (mapped (λ (event : KeptEvent). act.Event event) (read_kinds event_kinds text))
    (or_else (mapped (λ (call : KeptHostOp). act.Host call) (read_kinds call_kinds text))
    (read_kinds (no_copy act.NoCopy) text))

act-back : (value : KeptAct) (rest : List ℕ) → IsUnclassed rest → read_act (act_text value ++ rest) ≡ Some (value, rest)
act-back (act.Event event) rest p =
    ap (λ (found : Found KeptEvent). or_else (mapped (λ (e : KeptEvent). act.Event e) found)
    (or_else (mapped (λ (c : KeptHostOp). act.Host c) (read_kinds call_kinds (event_text event ++ rest)))
    (read_kinds (no_copy act.NoCopy) (event_text event ++ rest)))) (event-back event rest p)
act-back (act.Host call) rest p =
    let found = call-back call rest p.0 in
    let none : read_kinds event_kinds (call_text call ++ rest) ≡ None =
    not_among call_kinds event_kinds (call_text call ++ rest) (call, rest) refl found in
    (λ i. or_else (mapped (λ (e : KeptEvent). act.Event e) (none i))
    (or_else (mapped (λ (c : KeptHostOp). act.Host c) (found i)) (read_kinds (no_copy act.NoCopy)
    (call_text call ++ rest))))
act-back act.NoCopy rest p =
    let found : read_kinds (no_copy act.NoCopy) (word (codes "NoCopy") ++ rest) ≡ Some (act.NoCopy, rest) =
    named (no_copy act.NoCopy) (codes "NoCopy") nothing (λ (none : Unit {0}). act.NoCopy) refl (λ _. refl) tt rest p.0
    in
    let no_event : read_kinds event_kinds (word (codes "NoCopy") ++ rest) ≡ None =
    not_among (no_copy act.NoCopy) event_kinds (word (codes "NoCopy") ++ rest) (act.NoCopy, rest) refl found in
    let no_call : read_kinds call_kinds (word (codes "NoCopy") ++ rest) ≡ None =
    not_among (no_copy act.NoCopy) call_kinds (word (codes "NoCopy") ++ rest) (act.NoCopy, rest) refl found in
    (λ i. or_else (mapped (λ (e : KeptEvent). act.Event e) (no_event i))
    (or_else (mapped (λ (c : KeptHostOp). act.Host c) (no_call i)) (found i)))

act-parted : (value : KeptAct) (rest : List ℕ) → IsUnclassed rest → IsParted (act_text value ++ rest)
act-parted (act.Event event) rest p = events.parted event rest p
act-parted (act.Host call) rest p = calls.parted call rest p.0
act-parted act.NoCopy rest p = refl

pub acts : ReadsBefore IsUnclassed act_text
acts = record { read = read_act; back = act-back; parted = act-parted }

-- a host's reply is no reply to an event: a refusal by an error number names no refusal of an event
no_refusal : (errno : Errno) (rest : List ℕ) → IsParted rest → read_kinds refusal_kinds (errno_text errno ++ rest) ≡
    None
no_refusal errno rest p =
    let low = low_unnamed refusal_kinds (signed_digits errno.0) rest refl (signed-low errno.0) in
    (λ i. read_named refusal_kinds (first-word (signed_digits errno.0) rest (signed-plain errno.0) p i)
    (others-word (signed_digits errno.0) rest (signed-plain errno.0) p i)) ∙ low

no_event_reply : (value : HostReply) (rest : List ℕ) → IsParted rest →
    read_kinds event_reply_kinds (host_reply_text value ++ rest) ≡ None
no_event_reply (host.Ok value) rest p = unnamed event_reply_kinds (codes "Ok") host_values refl value rest p refl
no_event_reply (host.Refused errno) rest p =
    unnamed event_reply_kinds (codes "Refused") errnos refl errno rest p
    (ap (mapped (λ (why : EventRefusal). reply.Refused why))
    (refusals-read (errno_text errno ++ rest) ∙ no_refusal errno rest p))
no_event_reply (host.Fault errno) rest p = unnamed event_reply_kinds (codes "Fault") errnos refl errno rest p refl
no_event_reply host.NoMemory rest p = unnamed event_reply_kinds (codes "NoMemory") nothing refl tt rest p refl

abbrev read_reply : List ℕ → Found ActReply
read_reply text =
    or_else (mapped (λ (reply : EventReply). told.Event reply) (read_kinds event_reply_kinds text))
    (or_else (mapped (λ (reply : HostReply). told.Host reply) (read_kinds host_reply_kinds text))
    (read_kinds (no_copy told.NoCopy) text))

reply-back : (value : ActReply) (rest : List ℕ) → IsUnclassed rest →
    read_reply (act_reply_text value ++ rest) ≡ Some (value, rest)
reply-back (told.Event reply) rest p =
    ap (λ (found : Found EventReply). or_else (mapped (λ (e : EventReply). told.Event e) found)
    (or_else (mapped (λ (c : HostReply). told.Host c) (read_kinds host_reply_kinds (event_reply_text reply ++ rest)))
    (read_kinds (no_copy told.NoCopy) (event_reply_text reply ++ rest)))) (event_reply-back reply rest p)
reply-back (told.Host reply) rest p =
    let found = host_reply-back reply rest p.0 in
    let none = no_event_reply reply rest p.0 in
    (λ i. or_else (mapped (λ (e : EventReply). told.Event e) (none i))
    (or_else (mapped (λ (c : HostReply). told.Host c) (found i))
    (read_kinds (no_copy told.NoCopy) (host_reply_text reply ++ rest))))
reply-back told.NoCopy rest p =
    let found : read_kinds (no_copy told.NoCopy) (word (codes "NoCopy") ++ rest) ≡ Some (told.NoCopy, rest) =
    named (no_copy told.NoCopy) (codes "NoCopy") nothing (λ (none : Unit {0}). told.NoCopy) refl (λ _. refl) tt rest
    p.0 in
    let no_event : read_kinds event_reply_kinds (word (codes "NoCopy") ++ rest) ≡ None =
    not_among (no_copy told.NoCopy) event_reply_kinds (word (codes "NoCopy") ++ rest) (told.NoCopy, rest) refl found
    in
    let no_host : read_kinds host_reply_kinds (word (codes "NoCopy") ++ rest) ≡ None =
    not_among (no_copy told.NoCopy) host_reply_kinds (word (codes "NoCopy") ++ rest) (told.NoCopy, rest) refl found in
    (λ i. or_else (mapped (λ (e : EventReply). told.Event e) (no_event i))
    (or_else (mapped (λ (c : HostReply). told.Host c) (no_host i)) (found i)))

reply-parted : (value : ActReply) (rest : List ℕ) → IsUnclassed rest → IsParted (act_reply_text value ++ rest)
reply-parted (told.Event reply) rest p = event_replies.parted reply rest p
reply-parted (told.Host reply) rest p = host_replies.parted reply rest p.0
reply-parted told.NoCopy rest p = refl

pub act_replies : ReadsBefore IsUnclassed act_reply_text
act_replies = record { read = read_reply; back = reply-back; parted = reply-parted }
