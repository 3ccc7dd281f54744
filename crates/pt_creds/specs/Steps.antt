-- Believed. The steps of a `set`, and what they change.
use Rattle.std.specs.Prelude.{◌≡◌, ℕ, Bool, true, false, ◌==◌, ◌&&◌, ◌||◌, List, [], ◌∷◌, ◌++◌, Option, Some, None}
use Rattle.std.specs.Prelude.{is_some, if◌then◌else◌}
use Rattle.pt_host.specs.Call.{Call}
use Rattle.pt_host.specs.declared.op.KeptHostOp.TheVariants as call
use Rattle.pt_host.specs.declared.seat.HostSeat.{HostSeat}
use Rattle.pt_creds.specs.Identity.{Credentials, override_cap}
use Rattle.pt_creds.specs.Guard.{Guarded, if_any, euid_calls, egid_calls}
use Rattle.pt_creds.specs.declared.credentials.CredSteps.{CredSteps}

-- an id is set where it is not root's and not the one that is there
abbrev pub id_to_set : ℕ → ℕ → Option ℕ
id_to_set id now = if id == 0 || id == now then None else Some id

abbrev pub cred_steps : Credentials → HostSeat → CredSteps
cred_steps creds seat = record {
  groups = creds.sup_gid;
  egid = id_to_set creds.gid seat.eff_gid;
  euid = id_to_set creds.uid seat.eff_uid;
  raise = creds.keep_capability && is_some (id_to_set creds.uid seat.eff_uid);
}

abbrev pub group_calls : Option ℕ → List Call
group_calls None = []
group_calls (Some group) = call.SetGroups (group ∷ []) ∷ []

abbrev pub raise_calls : Bool → List Call
raise_calls false = []
raise_calls true = call.RaiseCap override_cap ∷ []

-- the calls of these steps, in their order
abbrev pub calls_of : CredSteps → List Call
calls_of steps = group_calls steps.groups ++ egid_calls steps.egid ++ euid_calls steps.euid ++ raise_calls steps.raise

-- what was there, where it is set
abbrev pub was : {A B : Type 0} → Option A → B → Option B
was None now = None
was (Some value) now = Some now

-- what these steps change of this seat
abbrev pub changes_of : CredSteps → HostSeat → Guarded
changes_of steps seat =
    record {
      uid = was steps.euid seat.eff_uid;
      gid = was steps.egid seat.eff_gid;
      groups =
          was steps.groups seat.groups;
    }

-- none where no call is made
abbrev pub guard_of : CredSteps → HostSeat → Option Guarded
guard_of steps seat = if_any (changes_of steps seat)

-- This takes one of the calls back, to the seat from before; a capability that was raised goes by itself.
abbrev pub TakesBack : HostSeat → Call → List Call → Type 0
TakesBack seat (call.SetGroups list) back = back ≡ call.SetGroups seat.groups ∷ []
TakesBack seat (call.SetEgid gid) back = back ≡ call.SetEgid seat.eff_gid ∷ []
TakesBack seat (call.SetEuid uid) back = back ≡ call.SetEuid seat.eff_uid ∷ []
TakesBack seat (call.RaiseCap cap) back = back ≡ []
TakesBack seat asked back = ⊥

-- these take these calls back, the last one first
abbrev pub TakeBack : HostSeat → List Call → List Call → Type 0
TakeBack seat [] back = back ≡ []
TakeBack seat (asked ∷ later) back =
    (rest : List Call) × (one : List Call) × (back ≡ rest ++ one) × TakeBack seat later rest × TakesBack seat asked one
