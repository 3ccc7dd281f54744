-- Believed. What a `set` and a `restore` make, and what comes of them.
use Rattle.std.specs.Prelude.{◌≡◌, ℕ, Bool, true, false, ◌||◌, ◌⊎◌, List, [], ◌∷◌, ◌++◌, Option, Result, Ok, Err}
use Rattle.std.specs.Prelude.{is_some}
use Rattle.pt_host.specs.Call.{Call}
use Rattle.pt_host.specs.Flags.{includes, cap_setgid}
use Rattle.pt_host.specs.Promises.{HasRisen}
use Rattle.pt_host.specs.declared.ids.Errno.{Errno}
use Rattle.pt_host.specs.declared.op.KeptHostOp.TheVariants as call
use Rattle.pt_host.specs.declared.reply.HostReply.{HostReply}
use Rattle.pt_host.specs.declared.reply.HostReply.TheVariants as reply
use Rattle.pt_host.specs.declared.seat.HostSeat.{HostSeat}
use Rattle.pt_creds.specs.Calls.{CallMade, asked_in, IsDone, AllDone, FailsWith, FirstFaults}
use Rattle.pt_creds.specs.Identity.{Credentials, IsWhole, seat_under}
use Rattle.pt_creds.specs.Guard.{Guarded}
use Rattle.pt_creds.specs.Steps.{cred_steps, calls_of, changes_of, guard_of, TakeBack}
use Rattle.pt_creds.specs.declared.credentials.CredSteps.{CredSteps}
use Rattle.pt_creds.specs.declared.error.CredError.{CredError}
use Rattle.pt_creds.specs.declared.error.CredError.TheVariants as error

-- a raising may be refused, and is then passed over
abbrev pub MayFail : Call → Type 0
MayFail (call.RaiseCap caps) = Unit {0}
MayFail _ = ⊥

-- not Ok, and with what error
abbrev pub IsRefusal : CallMade → Errno → Type 0
IsRefusal made errno = FailsWith made.told errno × (MayFail made.asked → ⊥)

-- each is Ok or passed over
abbrev pub AllPass : List CallMade → Type 0
AllPass [] = Unit {0}
AllPass (made ∷ rest) = (IsDone made.told ⊎ MayFail made.asked) × AllPass rest

-- The steps were made in their order up to the first that was refused, with this error, and those before it were
-- taken back, the last one first.
pub record IsBrokenOff
    (steps : CredSteps)
    (seat : HostSeat)
    (made back : List CallMade)
    (errno : Errno)
    : Type 0 where
  pub done : List CallMade
  pub refused : CallMade
  pub left : List Call
  pub is_made : made ≡ done ++ refused ∷ back
  pub in_order : calls_of steps ≡ asked_in done ++ refused.asked ∷ left
  pub were_done : AllDone done
  pub refusal : IsRefusal refused errno
  pub taken_back : TakeBack seat (asked_in done) (asked_in back)

-- each call back was Ok and the error is the refused step's, or the first that was not is a fault, and the error
-- tells that
abbrev pub IsTakenBack : List CallMade → Errno → CredError → Type 0
IsTakenBack back errno (error.Host told) = AllDone back × (told ≡ errno)
IsTakenBack back errno (error.Lost told) = FirstFaults back told

-- what a `set` makes of its steps, and what it answers
abbrev pub Sets : CredSteps → HostSeat → List CallMade → Result (Option Guarded) CredError → Type 0
Sets steps seat made (Ok guard) = (asked_in made ≡ calls_of steps) × AllPass made × (guard ≡ guard_of steps seat)
Sets steps seat made (Err why) =
    (back : List CallMade) × (errno : Errno) × IsBrokenOff steps seat made back errno × IsTakenBack back errno why

-- whether a capability was raised
abbrev pub raises : Call → HostReply → Bool
raises (call.RaiseCap caps) (reply.Ok told) = true
raises asked told = false

abbrev pub has_raised : List CallMade → Bool
has_raised [] = false
has_raised (made ∷ rest) = raises made.asked made.told || has_raised rest

-- The seat that a `set` leaves: that under the credentials, or the one from before, where its steps were taken back.
-- Of a seat that is lost nothing is said.
abbrev pub LeavesSeat : Credentials → List CallMade → HostSeat → HostSeat → Result (Option Guarded) CredError → Type 0
LeavesSeat creds made seat seat' (Ok guard) = seat' ≡ seat_under creds (has_raised made) seat
LeavesSeat creds made seat seat' (Err (error.Host errno)) = seat' ≡ seat
LeavesSeat creds made seat seat' (Err (error.Lost errno)) = Unit {0}

-- a seat is lost only where the host's count of faults rose
abbrev pub RisesWhereLost : ℕ → ℕ → CredError → Type 0
RisesWhereLost before after (error.Host errno) = Unit {0}
RisesWhereLost before after (error.Lost errno) = HasRisen before after

-- A `set` of some credentials began at the first seat, gave the guard and left the other seat.
pub record IsLeftBy (before : HostSeat) (guard : Guarded) (seat : HostSeat) : Type 0 where
  pub creds : Credentials
  pub raised : Bool
  pub whole : IsWhole before
  pub guarded : guard ≡ changes_of (cred_steps creds before) before
  pub seated : seat ≡ seat_under creds raised before
  -- groups were set by the capability for it
  pub allowed : is_some guard.groups ≡ true → includes before.eff_caps.0 cap_setgid ≡ true

-- what a `restore` answers to what its calls were answered: all Ok, or the first that was not is a fault
abbrev pub Restores : List CallMade → Result Unit CredError → Type 0
Restores made (Ok done) = AllDone made
Restores made (Err (error.Lost errno)) = FirstFaults made errno
Restores made (Err (error.Host errno)) = ⊥
