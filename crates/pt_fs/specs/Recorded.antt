-- Believed. Steps that are written down in a record, and what a run leaves that writes its own down so.
use Rattle.std.specs.Prelude.{◌≡◌, ℕ, List, [], ◌∷◌, Option, Some, None, Result, Ok, Err}
use Rattle.pt_host.specs.declared.ids.Errno.{Errno}
use Rattle.pt_frame.specs.Deed.{Deed, Calls, Changes}
use Rattle.pt_frame.specs.declared.act.KeptAct.{KeptAct}
use Rattle.pt_frame.specs.declared.act.KeptAct.TheVariants as kept
use Rattle.pt_fs.specs.declared.record.WrittenAct.{WrittenAct}
use Rattle.pt_fs.specs.declared.record.WrittenAct.TheVariants.{Whole, NoCopy}
use Rattle.pt_fs.specs.declared.recorded.DriveIntoError.{DriveIntoError}
use Rattle.pt_fs.specs.declared.recorded.DriveIntoError.TheVariants.{Memory, Record, CredentialsLost}
use Rattle.pt_fs.specs.declared.recorded.Left.{Left}
use Rattle.pt_fs.specs.declared.trace.TraceStep.{TraceStep}

-- the act of a deed, with bytes of its own
abbrev pub kept_of : Deed → KeptAct
kept_of (Calls call) = kept.Host call
kept_of (Changes change) = kept.Event change

-- what is written down of it where it could be copied, or where it could not
abbrev pub noted : WrittenAct → Deed → KeptAct
noted Whole deed = kept_of deed
noted NoCopy deed = kept.NoCopy

-- one record is the other with these steps written down behind what it had, one after another
abbrev pub Writes : {R : Type 0} → (R → TraceStep → R → Type 0) → R → List TraceStep → R → Type 0
Writes wrote before [] after = after ≡ before
Writes {R} wrote before (step ∷ steps) after = (mid : R) × wrote before step mid × Writes wrote mid steps after

-- some steps were written down, and this holds of them
pub record Wrote
    {R : Type 0}
    (wrote : R → TraceStep → R → Type 0)
    (before after : R)
    (holds : List TraceStep → Type 0)
    : Type 0 where
  pub steps : List TraceStep
  pub written : Writes wrote before steps after
  pub so : holds steps

-- the file system that comes back, however the run ended
abbrev pub fs_back : {F : Type 0} → Result (Left F) (DriveIntoError F) → F
fs_back (Ok left) = left.fs
fs_back (Err (CredentialsLost lost errno left)) = left.fs
fs_back (Err (Memory fs)) = fs
fs_back (Err (Record fs)) = fs

-- of what a run left, and of the job that lost its seat, if one did, and by which error
abbrev pub OnEnd :
    {F : Type 0} →
    Result (Left F) (DriveIntoError F) →
    (Left F → Option (ℕ × Errno) → Type 0) →
    Type 0
OnEnd (Ok left) holds = holds left None
OnEnd (Err (CredentialsLost lost errno left)) holds = holds left (Some (lost, errno))
OnEnd (Err (Memory fs)) holds = Unit {0}
OnEnd (Err (Record fs)) holds = Unit {0}

-- of a run that did not begin
abbrev pub OnNoRoom : {F : Type 0} → Result (Left F) (DriveIntoError F) → (F → Type 0) → Type 0
OnNoRoom (Ok left) holds = Unit {0}
OnNoRoom (Err (CredentialsLost lost errno left)) holds = Unit {0}
OnNoRoom (Err (Memory fs)) holds = holds fs
OnNoRoom (Err (Record fs)) holds = Unit {0}

-- of one that stopped where a step could not be written down
abbrev pub OnUnwritten : {F : Type 0} → Result (Left F) (DriveIntoError F) → (F → Type 0) → Type 0
OnUnwritten (Ok left) holds = Unit {0}
OnUnwritten (Err (CredentialsLost lost errno left)) holds = Unit {0}
OnUnwritten (Err (Memory fs)) holds = Unit {0}
OnUnwritten (Err (Record fs)) holds = holds fs
