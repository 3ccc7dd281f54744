-- Steps of the seat alone make nothing and resolve nothing, and a making that gave no descriptor made nothing.
use Rattle.std.proofs.Common.{◌++◌, ◌∷◌, [], ℕ, Bool, true, false, List, Option, Some, None, subst, sym}
use Rattle.pt_host.specs.Call.{Call}
use Rattle.pt_host.specs.Sorts.{sort_of}
use Rattle.pt_host.specs.Words.{Each}
use Rattle.pt_host.specs.declared.flags.OpenFlags.{OpenFlags}
use Rattle.pt_host.specs.declared.ids.Fd.{Fd}
use Rattle.pt_host.specs.declared.op.KeptHostOp.TheVariants as call
use Rattle.pt_host.specs.declared.reply.HostReply.TheVariants as host
use Rattle.pt_host.specs.declared.reply.HostValue.TheVariants as value
use Rattle.pt_creds.specs.Guard.{egid_calls, euid_calls}
use Rattle.pt_creds.specs.Steps.{calls_of, group_calls, raise_calls}
use Rattle.pt_creds.specs.declared.credentials.CredSteps.{CredSteps}
use Rattle.pt_frame.specs.Deed.{Calls, Changes, Deed, IsStepOf, Step}
use Rattle.pt_frame.specs.declared.act.ActReply.{ActReply}
use Rattle.pt_frame.specs.declared.act.ActReply.TheVariants.{Host, NoCopy}
use Rattle.pt_fit.proofs.Leading.{IsStill, StillSort}
use Rattle.pt_law.proofs.Opening.{ResolvesNone, MakesNone}

-- these calls are the seat's
abbrev pub AreStill : List Call → Type 0
AreStill calls = Each (λ (asked : Call). StillSort (sort_of asked)) calls

still_raise : (raise : Bool) → AreStill (raise_calls raise)
still_raise true = (tt, tt)
still_raise false = tt

still_euid : (euid : Option ℕ) (raise : Bool) → AreStill (euid_calls euid ++ raise_calls raise)
still_euid None raise = still_raise raise
still_euid (Some uid) raise = (tt, still_raise raise)

still_egid : (egid euid : Option ℕ) (raise : Bool) →
    AreStill (egid_calls egid ++ euid_calls euid ++ raise_calls raise)
still_egid None euid raise = still_euid euid raise
still_egid (Some gid) euid raise = (tt, still_euid euid raise)

still_groups : (groups egid euid : Option ℕ) (raise : Bool) →
    AreStill (group_calls groups ++ egid_calls egid ++ euid_calls euid ++ raise_calls raise)
still_groups None egid euid raise = still_egid egid euid raise
still_groups (Some group) egid euid raise = (tt, still_egid egid euid raise)

pub still_set : (steps : CredSteps) → AreStill (calls_of steps)
still_set steps = still_groups steps.groups steps.egid steps.euid steps.raise

-- a still step makes nothing and resolves nothing
still_makes : (deed : Option Deed) (told : ActReply) → IsStill deed → MakesNone deed told
still_makes None told s = tt
still_makes (Some (Calls (call.OpenAt dir name flags mode))) told s = absurd s
still_makes (Some (Calls asked)) told s = tt
still_makes (Some (Changes asked)) told s = absurd s

pub all_still_make : (steps : List Step) → Each (λ (step : Step). IsStill step.deed) steps →
    Each (λ (step : Step). MakesNone step.deed step.reply) steps
all_still_make [] s = tt
all_still_make (step ∷ steps) s = (still_makes step.deed step.reply s.0, all_still_make steps s.1)

still_resolves : (deed : Option Deed) (told : ActReply) → IsStill deed → ResolvesNone deed told
still_resolves None told s = tt
still_resolves (Some (Calls asked)) told s = tt
still_resolves (Some (Changes asked)) told s = absurd s

pub all_still_resolve : (steps : List Step) → Each (λ (step : Step). IsStill step.deed) steps →
    Each (λ (step : Step). ResolvesNone step.deed step.reply) steps
all_still_resolve [] s = tt
all_still_resolve (step ∷ steps) s = (still_resolves step.deed step.reply s.0, all_still_resolve steps s.1)

-- a making that gave no descriptor made nothing
abbrev pub GivesNoFd : ActReply → Type 0
GivesNoFd (Host (host.Ok (value.Fd fd))) = ⊥
GivesNoFd told = Unit {0}

pub unmade : (dir : Fd) (name : List ℕ) (flags : OpenFlags) (mode : ℕ) (did : Option Deed) (told : ActReply) →
    IsStepOf (Calls (call.OpenAt dir name flags mode)) did told → GivesNoFd told → MakesNone did told
unmade dir name flags mode None told i n = tt
unmade dir name flags mode (Some same) NoCopy i n = subst (λ (d : Deed). MakesNone (Some d) NoCopy) (sym i.0) tt
unmade dir name flags mode (Some same) (Host (host.Ok (value.Fd fd))) i n = absurd n
unmade dir name flags mode (Some same) told i n = subst (λ (d : Deed). MakesNone (Some d) told) (sym i) tt
