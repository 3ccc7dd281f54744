-- Believed. What a job opens anew by the descriptor of a number that it resolved.
use Rattle.std.specs.Prelude.{◌≡◌, ℕ, List, [], ◌∷◌, ◌++◌, Option, Some}
use Rattle.pt_host.specs.Words.{Each}
use Rattle.pt_host.specs.Tree.{IsOpenOn}
use Rattle.pt_host.specs.declared.ids.Fd.{Fd}
use Rattle.pt_host.specs.declared.flags.OpenFlags.{OpenFlags}
use Rattle.pt_host.specs.declared.op.KeptHostOp.TheVariants as call
use Rattle.pt_host.specs.declared.reply.HostReply.TheVariants as host
use Rattle.pt_host.specs.declared.reply.HostValue.TheVariants as value
use Rattle.pt_tables.specs.declared.event.KeptEvent.TheVariants as change
use Rattle.pt_tables.specs.declared.reply.EventReply.TheVariants as event
use Rattle.pt_tables.specs.declared.reply.Resolved.{Resolved}
use Rattle.pt_frame.specs.Deed.{Calls, Changes, Deed, Step}
use Rattle.pt_frame.specs.declared.act.ActReply.{ActReply}
use Rattle.pt_frame.specs.declared.act.ActReply.TheVariants.{Event, Host}
use Rattle.pt_law.specs.World.{made, World, Turn, turn_by, steps_of}

-- a number is resolved to a row
abbrev pub resolving : ℕ → Resolved → Step
resolving number row = made (Changes (change.Resolve number)) (Event (event.Resolved row))

-- a number is neither resolved nor given
abbrev pub ComesToNone : Option Deed → ActReply → Type 0
ComesToNone (Some (Changes (change.Resolve number))) (Event (event.Resolved resolved)) = ⊥
ComesToNone (Some (Changes (change.Claim claim))) (Event (event.Claimed given)) = ⊥
ComesToNone (Some (Changes (change.Insert new))) (Event (event.Inserted given)) = ⊥
ComesToNone (Some (Changes (change.Insert new))) (Event (event.Found given)) = ⊥
ComesToNone deed told = Unit {0}

abbrev pub reopening : ℕ → Fd → OpenFlags → Fd → Turn
reopening job fd flags new = turn_by job (made (Calls (call.Reopen fd flags)) (Host (host.Ok (value.Fd new))))

-- By these steps the job came to a number last by resolving it; the descriptor is open on what the number stood for
-- then.
pub record OpensResolved (world : World) (job : ℕ) (steps : List Step) (fd : Fd) : Type 0 where
  pub number : ℕ
  pub row : Resolved
  pub before : List Step
  pub between : List Step
  pub resolved : steps ≡ before ++ resolving number row ∷ between
  pub came_last : Each (λ step. ComesToNone step.deed step.reply) between
  pub object : ℕ
  pub stood_for : world.past.resolved job number ≡ Some object
  pub open_on : IsOpenOn world.tree fd object

-- what the last step of a run opened anew
abbrev pub ReopensResolved : List Turn → World → Type 0
ReopensResolved turns now = (before : List Turn) (job : ℕ) (fd new : Fd) (flags : OpenFlags) →
    turns ≡ before ++ reopening job fd flags new ∷ [] → OpensResolved now job (steps_of job before) new
