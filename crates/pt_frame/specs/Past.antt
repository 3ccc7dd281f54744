-- Believed. What a job's steps did to its seat: a function of the steps alone.
use Rattle.std.specs.Prelude.{Bool, true, false, ◌||◌, if◌then◌else◌, List, [], ◌∷◌, Option, Some, None}
use Rattle.pt_host.specs.Call.{Call, HoldsBytes}
use Rattle.pt_host.specs.Sorts.{Sort, OpensWith, EndsFd, OfSeat, Plain, sort_of}
use Rattle.pt_host.specs.declared.ids.Errno.{Errno}
use Rattle.pt_host.specs.declared.seat.HostSeat.{HostSeat}
use Rattle.pt_host.specs.declared.op.KeptHostOp.TheVariants as call
use Rattle.pt_host.specs.declared.reply.HostReply.TheVariants as host
use Rattle.pt_frame.specs.Deed.{Deed, Calls, Changes, Step}
use Rattle.pt_frame.specs.Replies.{fault_if}
use Rattle.pt_frame.specs.declared.act.ActReply.{ActReply}
use Rattle.pt_frame.specs.declared.act.ActReply.TheVariants.{Host}

-- the first call, made while the second is in effect, puts back what that one changed
abbrev pub ends_scope : Call → Call → Bool
ends_scope (call.SetGroups list) (call.SetGroups old) = true
ends_scope (call.SetEgid gid) (call.SetEgid old) = true
ends_scope (call.SetEuid uid) (call.SetEuid old) = true
ends_scope (call.RaiseCap caps) (call.DropCap dropped) = true
ends_scope (call.SetUmask mask) (call.SetUmask old) = true
ends_scope asked other = false

-- What is worn are the calls on the seat that are in effect, the last one first. A call on the seat restores it where
-- it puts back what is worn, and is else to open a scope.
abbrev pub is_open : Call → List Call → Bool
is_open asked [] = false
is_open asked (one ∷ worn) = ends_scope asked one || is_open asked worn

abbrev pub is_restoring : List Call → Deed → Bool
is_restoring worn (Calls asked) = is_open asked worn
is_restoring worn (Changes asked) = false

-- what is left under a scope that ended, with all that came after it
abbrev pub ended : Call → List Call → List Call
ended asked [] = []
ended asked (one ∷ worn) = if ends_scope asked one then worn else ended asked worn

-- a restoring call ends its scope whatever it is told; any other call on the seat is worn where it is Ok
abbrev pub worn_called : Bool → Sort → Call → ActReply → List Call → List Call
worn_called true sort asked told worn = ended asked worn
worn_called false OfSeat asked (Host (host.Ok value)) worn = asked ∷ worn
worn_called false OfSeat asked told worn = worn
worn_called false (OpensWith flags) asked told worn = worn
worn_called false (EndsFd fd) asked told worn = worn
worn_called false Plain asked told worn = worn

abbrev pub worn_after : List Call → Deed → ActReply → List Call
worn_after worn (Calls asked) told = worn_called (is_open asked worn) (sort_of asked) asked told worn
worn_after worn (Changes asked) told = worn

-- the first is kept
abbrev pub or_first : Option Errno → Option Errno → Option Errno
or_first None lost = lost
or_first (Some errno) None = Some errno
or_first (Some errno) (Some first) = Some first

-- what the first refused or failed restoring step was answered
abbrev pub lost_after : Option Errno → Bool → ActReply → Option Errno
lost_after lost restores told = or_first (fault_if restores told) lost

pub record Past : Type 0 where
  pub worn : List Call
  pub lost : Option Errno

abbrev pub past_at : List Call → Option Errno → Past
past_at worn lost = record { worn = worn; lost = lost }

abbrev pub no_past : Past
no_past = past_at [] None

abbrev pub past_after : Past → Deed → ActReply → Past
past_after past deed told =
    past_at (worn_after past.worn deed told) (lost_after past.lost (is_restoring past.worn deed) told)

-- a step that was not made did nothing
abbrev pub past_made : Past → Option Deed → ActReply → Past
past_made past None told = past
past_made past (Some deed) told = past_after past deed told

abbrev pub past_from : Past → List Step → Past
past_from past [] = past
past_from past (step ∷ steps) = past_from (past_made past step.deed step.reply) steps

abbrev pub past_of : List Step → Past
past_of steps = past_from no_past steps

-- the seat's own groups find room in place, so putting them back takes no memory
abbrev pub KeepsGroups : HostSeat → Type 0
KeepsGroups seat = HoldsBytes (call.SetGroups seat.groups) → ⊥
