-- Believed. What each job has found so far, and where the object of each number comes from.
use Rattle.std.specs.Prelude.{ℕ, List, Option, None}
use Rattle.pt_host.specs.declared.ids.Fd.{Fd}
use Rattle.pt_host.specs.declared.ids.ObjIds.{ObjIds}
use Rattle.pt_host.specs.declared.stat.Stat.{Stat}

-- a number that was resolved, the ids that were told of it, and the object that it stood for then
pub record Sought : Type 0 where
  pub number : ℕ
  pub ids : ObjIds
  pub object : Option ℕ

-- the opening of a name
pub record Opening : Type 0 where
  -- what the job had resolved last, and the directory in which it opened the name
  pub parent : Option Sought
  pub directory : Option ℕ
  pub name : List ℕ
  -- what the name led to there until then, and how many objects there were
  pub led_to : Option ℕ
  pub objects : ℕ
  -- what was opened, by which descriptor, and the status that was told of that first
  pub object : Option ℕ
  pub fd : Fd
  pub stat : Option Stat

-- a number that was given in an era for an object of these ids, the object that it stood for then, and what the job
-- had opened last
pub record Giving : Type 0 where
  pub era : ℕ
  pub number : ℕ
  pub ids : ObjIds
  pub object : Option ℕ
  pub opening : Option Opening

-- a handle that was inserted for a number, with the serial of its row; what its descriptor was open on, and what the
-- number had stood for when the job resolved it last, or was given it; and what the job had been given last
pub record Handling : Type 0 where
  pub handle : ℕ
  pub number : ℕ
  pub row : ℕ
  pub fd : Fd
  pub object : Option ℕ
  pub stood_for : Option ℕ
  pub giving : Option Giving

-- What a job has found last: the number that it resolved, the name that it opened, the one that it opened to make its
-- object where there was none, the number that it was given and the handle that it inserted.
pub record Findings : Type 0 where
  pub sought : Option Sought
  pub latest : Option Opening
  pub making : Option Opening
  pub given : Option Giving
  pub handled : Option Handling

pub record Story : Type 0 where
  pub found : ℕ → Findings
  -- the opening by which the object was found for which a number was inserted last; none for a root
  pub origins : ℕ → Option Opening

-- before the first step
abbrev pub nothing_found : Findings
nothing_found = record { sought = None; latest = None; making = None; given = None; handled = None }

abbrev pub no_story : Story
no_story = record { found = λ job. nothing_found; origins = λ number. None }
