-- Inner. How far a `set` or a `restore` has come: what the parts of them make.
use Rattle.std.specs.Prelude.{◌≡◌, ◌⊎◌, ◌≤◌, ℕ, List, [], ◌∷◌, Option, Some, None, Result, Ok, Err, length}
use Rattle.pt_host.specs.Call.{Call}
use Rattle.pt_host.specs.declared.ids.Errno.{Errno}
use Rattle.pt_host.specs.declared.seat.HostSeat.{HostSeat}
use Rattle.pt_host.specs.Relation.{HostRelation}
use Rattle.pt_creds.specs.Calls.{CallMade, CallsLead, asked_in, IsDone, AllDone, FailsWith}
use Rattle.pt_host.specs.declared.reply.HostReply.{HostReply}
use Rattle.pt_creds.specs.Guard.{Guarded, calls_back}
use Rattle.pt_creds.specs.declared.error.CredError.{CredError}
use Rattle.pt_creds.specs.declared.error.CredError.TheVariants as error

-- what became of one call
abbrev pub IsOutcome : HostReply → Result Unit Errno → Type 0
IsOutcome told (Ok done) = IsDone told
IsOutcome told (Err errno) = FailsWith told errno

-- the first that was not Ok failed so
abbrev pub FirstFails : List CallMade → Errno → Type 0
FirstFails [] errno = ⊥
FirstFails (made ∷ rest) errno = FailsWith made.told errno ⊎ (IsDone made.told × FirstFails rest errno)

-- all were Ok, or this is why the first was not
abbrev pub IsOutcomeOf : List CallMade → Result Unit Errno → Type 0
IsOutcomeOf made (Ok done) = AllDone made
IsOutcomeOf made (Err errno) = FirstFails made errno

-- nothing was changed yet
abbrev pub no_change : Guarded
no_change = record { uid = None; gid = None; groups = None }

-- these calls were all made, each once and whatever the others were answered, and this became of them
abbrev pub Plays :
    {H : Type 0} →
    (does : HostRelation H) →
    (calls : List Call) →
    (host : H) →
    (seat : HostSeat) →
    (host' : H) →
    (seat' : HostSeat) →
    (result : Result Unit Errno) →
    Type 0
Plays does calls host seat host' seat' result =
    (made : List CallMade) × CallsLead does made host seat host' seat' × (asked_in made ≡ calls) ×
    IsOutcomeOf made result

-- no seat has more groups
abbrev pub FitsSeat : Option (List ℕ) → Type 0
FitsSeat None = Unit {0}
FitsSeat (Some list) = length list ≤ 32

-- why the step was refused where all calls back were Ok, else why the first of them was not
abbrev pub TellsWhy : List CallMade → Errno → CredError → Type 0
TellsWhy back errno (error.Host told) = AllDone back × (told ≡ errno)
TellsWhy back errno (error.Lost told) = FirstFails back told

-- the call was refused, and what was changed before it was taken back
pub record IsUndone {H : Type 0}
    (does : HostRelation H)
    (calls : List Call)
    (before : Guarded)
    (host : H)
    (seat : HostSeat)
    (host' : H)
    (seat' : HostSeat)
    (why : CredError)
    : Type 0 where
  pub refused : CallMade
  pub back : List CallMade
  pub errno : Errno
  pub makes : CallsLead does (refused ∷ back) host seat host' seat'
  pub only : calls ≡ refused.asked ∷ []
  pub refusal : FailsWith refused.told errno
  pub taken_back : asked_in back ≡ calls_back before
  pub fits : FitsSeat before.groups
  pub tells : TellsWhy back errno why

-- One step of a `set`, where it is to be made: what it changed is kept besides what was changed before, or that was
-- taken back.
abbrev pub TakesStep :
    {H : Type 0} →
    (does : HostRelation H) →
    (calls : List Call) →
    (before : Guarded) →
    (after : Guarded) →
    (host : H) →
    (seat : HostSeat) →
    (host' : H) →
    (seat' : HostSeat) →
    (result : Result Guarded CredError) →
    Type 0
TakesStep does calls before after host seat host' seat' (Ok guard) =
    Plays does calls host seat host' seat' (Ok tt) × (guard ≡ after)
TakesStep does calls before after host seat host' seat' (Err why) =
    IsUndone does calls before host seat host' seat' why

abbrev pub keeping_uid : Option ℕ → HostSeat → Guarded → Guarded
keeping_uid None seat guard = guard
keeping_uid (Some uid) seat guard = record guard { uid = Some seat.eff_uid }

abbrev pub keeping_gid : Option ℕ → HostSeat → Guarded → Guarded
keeping_gid None seat guard = guard
keeping_gid (Some gid) seat guard = record guard { gid = Some seat.eff_gid }

abbrev pub keeping_groups : Option ℕ → HostSeat → Guarded → Guarded
keeping_groups None seat guard = guard
keeping_groups (Some group) seat guard = record guard { groups = Some seat.groups }
