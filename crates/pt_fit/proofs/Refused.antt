-- A reply that was not awaited refuses the request, and is the cause of that.
use Rattle.std.proofs.Common.{◌≡◌, ◌&&◌, if◌then◌else◌, inl, inr, ℕ, Bool, true, false, List, ◌∷◌, None, Some, refl}
use Rattle.pt_host.specs.Promises.{FitsCall}
use Rattle.pt_host.specs.declared.ids.Errno.{Errno}
use Rattle.pt_host.specs.declared.ids.Fd.{Fd}
use Rattle.pt_host.specs.declared.op.KeptHostOp.TheVariants as call
use Rattle.pt_host.specs.declared.reply.HostReply.TheVariants as host
use Rattle.pt_tables.specs.Answers.{IsReplyFor, IsOneOf, refusals}
use Rattle.pt_tables.specs.Change.{Change}
use Rattle.pt_tables.specs.declared.event.KeptEvent.TheVariants as change
use Rattle.pt_tables.specs.declared.reply.EventReply.TheVariants as event
use Rattle.pt_tables.specs.declared.reply.EventRefusal.{EventRefusal}
use Rattle.pt_tables.specs.declared.reply.EventRefusal.TheVariants as refused
use Rattle.pt_tables.proofs.Replies.{answered}
use Rattle.pt_iface.specs.declared.request.Request.{Request}
use Rattle.pt_iface.specs.declared.request.Request.TheVariants as request
use Rattle.pt_frame.specs.Deed.{Deed, Calls, Changes, Step}
use Rattle.pt_frame.specs.Replies.{refusal, event_refusal}
use Rattle.pt_frame.specs.declared.act.ActReply.{ActReply}
use Rattle.pt_frame.specs.declared.act.ActReply.TheVariants.{Event, Host, NoCopy}
use Rattle.pt_frame.specs.declared.hold.Hold.{Hold}
use Rattle.pt_req.specs.Parts.{by_path}
use Rattle.pt_req.specs.Steps.{is_gone}
use Rattle.pt_law.specs.Keeps.{MayBeMade}
use Rattle.pt_law.specs.Told.{MayBeTold}
use Rattle.pt_fit.specs.Cause.{Asking, asking, caused}
use Rattle.pt_fit.specs.Fit.{IsCausedLeaf}
use Rattle.pt_law.specs.World.{made}

-- such a reply is awaited
abbrev pub IsAwaited : Deed → ActReply → Type 0
IsAwaited (Calls call) (Host (host.Ok value)) = FitsCall call value
IsAwaited (Changes asked) (Event (event.Refused why)) = ⊥
IsAwaited (Changes asked) (Event told) = IsReplyFor asked told
IsAwaited deed told = ⊥

-- its refusal is the request's: it is not passed over, nor does it give a hold back
abbrev pub IsHeeded : Asking → Deed → List Hold → Type 0
IsHeeded asked (Calls call) holds = (errno : Errno) → caused asked call errno ≡ Some errno
IsHeeded asked (Changes made) holds = MayBeMade made holds

event_refused : (asked : Asking) (this : Change) (why : EventRefusal) (holds : List Hold) (path : List Step) →
    MayBeMade this holds → IsOneOf why (refusals this) →
    IsCausedLeaf asked (made (Changes this) (Event (event.Refused why)) ∷ path) (event_refusal why)
event_refused asked (change.Resolve number) refused.NotLive holds path m o = inr (inl (inl refl))
event_refused asked (change.Resolve number) refused.Last holds path m o = inr (inl (inl refl))
event_refused asked (change.Claim claim) refused.Overtaken holds path m o = inr (inl (inl refl))
event_refused asked (change.Claim claim) refused.Last holds path m o = inr (inl (inl refl))
event_refused asked (change.TakeFd class) refused.NoSlot holds path m o = inr (inl (inl refl))
event_refused asked change.DrawNode refused.Last holds path m o = inr (inl (inl refl))
event_refused asked (change.Insert new) refused.Overtaken holds path m o = inr (inl (inl refl))
event_refused asked (change.Insert new) refused.Live holds path m o = inr (inl (inl refl))
event_refused asked (change.Insert new) refused.Last holds path m o = inr (inl (inl refl))
event_refused asked (change.Insert new) refused.Memory holds path m o = tt
event_refused asked (change.InsertRoot new) refused.Overtaken holds path m o = inr (inl (inl refl))
event_refused asked (change.InsertRoot new) refused.Live holds path m o = inr (inl (inl refl))
event_refused asked (change.InsertRoot new) refused.Last holds path m o = inr (inl (inl refl))
event_refused asked (change.InsertRoot new) refused.Memory holds path m o = tt
event_refused asked change.DrawHandle refused.Last holds path m o = inr (inl (inl refl))
event_refused asked (change.InsertHandle new) refused.Overtaken holds path m o = inr (inl (inl refl))
event_refused asked (change.InsertHandle new) refused.Live holds path m o = inr (inl (inl refl))
event_refused asked (change.InsertHandle new) refused.Last holds path m o = inr (inl (inl refl))
event_refused asked (change.InsertHandle new) refused.Memory holds path m o = tt
event_refused asked (change.PinHandle handle number) refused.NotLive holds path m o = inr (inl (inl refl))
event_refused asked (change.PinHandle handle number) refused.Last holds path m o = inr (inl (inl refl))
event_refused asked (change.Release handle number) refused.NotLive holds path m o = inr (inl (inl refl))
event_refused asked change.Clear refused.Last holds path m o = inr (inl (inl refl))
event_refused asked (change.Unpin row) why holds path m o = absurd m
event_refused asked (change.GiveFd class) why holds path m o = absurd m
event_refused asked (change.GiveBack era number) why holds path m o = absurd m
event_refused asked (change.UnpinHandle row) why holds path m o = absurd m
event_refused asked change.TakeClosing why holds path m o = absurd m
event_refused asked this why holds path m o = absurd o

pub refused_by : (asked : Asking) (deed : Deed) (told : ActReply) (holds : List Hold) (path : List Step) →
    IsHeeded asked deed holds → MayBeTold deed told → (IsAwaited deed told → ⊥) →
    IsCausedLeaf asked (made deed told ∷ path) (refusal told)
refused_by asked (Calls call) (Host (host.Ok value)) holds path h m n = absurd (n m)
refused_by asked (Calls call) (Host (host.Refused errno)) holds path h m n = inr (inl (inl (h errno)))
refused_by asked (Calls call) (Host (host.Fault errno)) holds path h m n = inr (inl (inl (h errno)))
refused_by asked (Calls call) (Host host.NoMemory) holds path h m n = tt
refused_by asked (Calls call) (Event told) holds path h m n = absurd m
refused_by asked (Calls call) NoCopy holds path h m n = tt
refused_by asked (Changes this) (Event (event.Refused why)) holds path h m n =
    event_refused asked this why holds path h (answered m.0 m.1 this (event.Refused why) m.2)
refused_by asked (Changes this) (Event told) holds path h m n = absurd (n (answered m.0 m.1 this told m.2))
refused_by asked (Changes this) (Host told) holds path h m n = absurd m
refused_by asked (Changes this) NoCopy holds path h m n = tt

not_made : (there : Bool) (errno : Errno) → (if there && false then None else Some errno) ≡ Some errno
not_made true errno = refl
not_made false errno = refl

unless : (gone : Bool) (errno : Errno) → gone ≡ false → (if gone then None else Some errno) ≡ Some errno
unless true errno e = absurd (cc)
unless false errno e = refl

-- what fails to take capabilities away that are there is heeded
pub clearing_heeded : (asked : Asking) (fd : Fd) (through : Bool) (name : List ℕ) (errno : Errno) →
    is_gone (Host (host.Refused errno)) ≡ false →
    caused asked (call.RemoveXattr fd through name) errno ≡ Some errno
clearing_heeded asked fd through name errno e = at asked.request
  where
    at : (what : Request) →
        caused (asking asked.plan asked.who what) (call.RemoveXattr fd through name) errno ≡ Some errno
    at (request.RemoveXattr inode given) = refl
    at what = unless (is_gone (Host (host.Refused errno))) errno e

-- what opens a name by its path makes nothing
pub path_heeded : (asked : Asking) (dir : Fd) (name : List ℕ) (errno : Errno) →
    caused asked (call.OpenAt dir name by_path 0) errno ≡ Some errno
path_heeded asked dir name errno = at asked.request
  where
    at : (what : Request) →
        caused (asking asked.plan asked.who what) (call.OpenAt dir name by_path 0) errno ≡ Some errno
    at (request.Create parent same mode kill flags umask ext) = not_made _ errno
    at what = refl
