-- Believed. What the guest and the daemon agreed on, told by the steps of a run alone. After virtiofsd's `init` and
-- `destroy`.
use Rattle.std.specs.Prelude.{◌≡◌, ℕ, ◌==◌, Bool, false, if◌then◌else◌, List, [], ◌∷◌, Option, Some, None}
use Rattle.pt_host.specs.Words.{Each}
use Rattle.pt_tables.specs.Tables.{nothing_agreed}
use Rattle.pt_tables.specs.declared.form.Negotiated.{Negotiated}
use Rattle.pt_tables.specs.declared.event.KeptEvent.TheVariants as change
use Rattle.pt_tables.specs.declared.reply.EventReply.TheVariants as event
use Rattle.pt_frame.specs.Deed.{Deed, Changes, Step, IsStepOf}
use Rattle.pt_frame.specs.declared.act.ActReply.{ActReply}
use Rattle.pt_frame.specs.declared.act.ActReply.TheVariants.{Event}
use Rattle.pt_law.specs.World.{Turn}

-- the job that began the session, where one did, and what is agreed on in it
pub record Session : Type 0 where
  pub starter : Option ℕ
  pub agreed : Negotiated

abbrev pub first_session : Session
first_session = record { starter = None; agreed = nothing_agreed }

abbrev pub is_starter : ℕ → Option ℕ → Bool
is_starter job None = false
is_starter job (Some starter) = starter == job

abbrev pub or_before : Option Negotiated → Negotiated → Negotiated
or_before None agreed = agreed
or_before (Some decided) agreed = decided

-- A clearing begins a session in which nothing is agreed on. Where the root is inserted by the job that began it,
-- what that job decides is agreed on. No other step changes it.
abbrev pub session_by : Option Negotiated → ℕ → Option Deed → ActReply → Session → Session
session_by decided job (Some (Changes change.Clear)) (Event (event.Cleared era closings)) session =
    record { starter = Some job; agreed = nothing_agreed }
session_by decided job (Some (Changes (change.InsertRoot new))) (Event (event.Inserted number))
    session =
    record session {
      agreed = if is_starter job session.starter then or_before decided session.agreed else session.agreed;
    }
session_by decided job deed told session = session

-- after these steps, where each job decides this
abbrev pub session_after : (ℕ → Option Negotiated) → Session → List Turn → Session
session_after decided session [] = session
session_after decided session (turn ∷ turns) =
    session_after decided (session_by (decided turn.job) turn.job turn.step.deed turn.step.reply session) turns

abbrev pub agreed_after : (ℕ → Option Negotiated) → List Turn → Negotiated
agreed_after decided turns = (session_after decided first_session turns).agreed

-- what is said with a root is what is decided
abbrev pub Says : Option Negotiated → Deed → Type 0
Says decided (Changes (change.InsertRoot new)) = new.negotiated ≡ decided
Says decided deed = Unit {0}

-- of a step that was made
abbrev pub IfMade : (Deed → Type 0) → Option Deed → Type 0
IfMade P None = Unit {0}
IfMade P (Some deed) = P deed

-- whoever decides something begins a session of its own for it
abbrev pub Begins : Option Negotiated → List Step → Type 0
Begins None steps = Unit {0}
Begins (Some decided) [] = Unit {0}
Begins (Some decided) (step ∷ steps) = IsStepOf (Changes change.Clear) step.deed step.reply

-- the steps of a job that decides this
pub record Decides (decided : Option Negotiated) (steps : List Step) : Type 0 where
  pub says : Each (λ step. IfMade (Says decided) step.deed) steps
  pub begins : Begins decided steps
