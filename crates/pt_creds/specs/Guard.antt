-- Believed. What a `set` changed, as what is to come back, and the calls that take it back.
use Rattle.std.specs.Prelude.{ℕ, ◌||◌, List, [], ◌∷◌, ◌++◌, Option, Some, None, is_some, if◌then◌else◌}
use Rattle.pt_host.specs.Call.{Call}
use Rattle.pt_host.specs.declared.op.KeptHostOp.TheVariants as call

-- the ids and the groups to come back to, each where it was changed
pub record Guarded : Type 0 where
  pub uid : Option ℕ
  pub gid : Option ℕ
  pub groups : Option (List ℕ)

-- none where there is nothing to come back to
abbrev pub if_any : Guarded → Option Guarded
if_any guard = if is_some guard.uid || is_some guard.gid || is_some guard.groups then Some guard else None

abbrev pub euid_calls : Option ℕ → List Call
euid_calls None = []
euid_calls (Some uid) = call.SetEuid uid ∷ []

abbrev pub egid_calls : Option ℕ → List Call
egid_calls None = []
egid_calls (Some gid) = call.SetEgid gid ∷ []

abbrev pub groups_calls : Option (List ℕ) → List Call
groups_calls None = []
groups_calls (Some list) = call.SetGroups list ∷ []

-- The uid first: as root again the seat has the capability by which groups are set.
abbrev pub calls_back : Guarded → List Call
calls_back guard = euid_calls guard.uid ++ egid_calls guard.gid ++ groups_calls guard.groups
