-- Believed. Which file `create` answered: one that its job made, or one that was there.
use Rattle.std.specs.Prelude.{◌≡◌, ◌⊎◌, ℕ, List, None, Some}
use Rattle.pt_iface.specs.declared.entry.Entry.{Entry}
use Rattle.pt_frame.specs.Deed.{Step}
use Rattle.pt_req.specs.declared.plan.Plan.{Plan}
use Rattle.pt_law.specs.Findings.{IsHandled, MadeIn}
use Rattle.pt_law.specs.Story.{Handling, Opening}
use Rattle.pt_law.specs.World.{World}
use Rattle.pt_fit.specs.Entered.{IsEntered}

-- The job made this object under the name, by the very descriptor that the handle has; so the handle is open on it.
pub record IsNewFile
    (end : World)
    (job parent : ℕ)
    (name : List ℕ)
    (object : ℕ)
    (handling : Handling)
    (opened : ℕ)
    : Type 0 where
  pub making : Opening
  pub noted : (end.story.found job).making ≡ Some making
  pub made : MadeIn making parent name object
  pub same_fd : handling.fd ≡ making.fd
  pub same : opened ≡ object

-- The entry is one, and the handle was inserted last, for its number, behind which the job was given none. The file is
-- new, or the job opened no name in such a way that its object may be made: then the handle is open on what the number
-- stood for when the job resolved it for the opening.
pub record IsCreated
    (plan : Plan)
    (end : World)
    (steps : List Step)
    (job parent : ℕ)
    (name : List ℕ)
    (entry : Entry)
    (handle : ℕ)
    : Type 0 where
  pub entered : IsEntered plan end steps job parent name entry
  pub handling : Handling
  pub handled : (end.story.found job).handled ≡ Some handling
  pub same_handle : handling.handle ≡ handle
  pub number : handling.number ≡ entry.inode
  pub last_given : handling.giving ≡ Some entered.giving
  pub is_handled : IsHandled end handling
  pub file : IsNewFile end job parent name entered.is_given.object handling is_handled.object
      ⊎ ((end.story.found job).making ≡ None)
