-- Believed. A script: its lines in order, each ended by a line feed.
use Rattle.std.specs.Prelude.{ℕ, ◌+◌, ◌-◌, nat_lt, ◌&&◌, not, Bool, true, false, List, [], ◌∷◌, ◌++◌, length, Option}
use Rattle.std.specs.Prelude.{Some, None, Result, Ok, Err, is_ok, if◌then◌else◌, option_and_then, slice_get}
use Rattle.pt_tree.specs.declared.spec.TreeLine.{TreeLine}
use Rattle.pt_tree.specs.Start.{start_of}
use Rattle.pt_text.specs.Words.{lines_of}
use Rattle.pt_fs.specs.declared.job.Job.{Job as RunJob}
use Rattle.pt_script.specs.Jobs.{job_of, start_seat}
use Rattle.pt_script.specs.Line.{line_of}
use Rattle.pt_script.specs.declared.line.Line.{Line}
use Rattle.pt_script.specs.declared.line.Line.TheVariants.{Set, Tree, Fault, Job, Order, End}
use Rattle.pt_script.specs.declared.line.PlannedFault.{PlannedFault}
use Rattle.pt_script.specs.declared.settings.Settings.{Settings}
use Rattle.pt_script.specs.Settings.{no_settings, may_set, with_setting}

-- a script as far as its lines go
pub record Begun : Type 0 where
  pub settings : Settings
  pub tree : List TreeLine
  -- the calls that are to fail
  pub faults : List PlannedFault
  pub jobs : List RunJob
  -- the places of the schedule
  pub order : List ℕ
  pub ended : Bool

abbrev pub nothing : Begun
nothing = record { settings = no_settings; tree = []; faults = []; jobs = []; order = []; ended = false }

abbrev pub max_jobs : ℕ
max_jobs = 65536

abbrev pub max_places : ℕ
max_places = 1048576

abbrev pub is_empty : {A : Type 0} → List A → Bool
is_empty [] = true
is_empty (x ∷ xs) = false

-- the fault that stands last
abbrev pub last_fault : List PlannedFault → Option PlannedFault
last_fault faults = slice_get faults (length faults - 1)

-- it comes behind this one
abbrev pub is_later : Option PlannedFault → PlannedFault → Bool
is_later None fault = true
is_later (Some last) fault = nat_lt last.call fault.call

-- no job and no place of the schedule stands yet
abbrev pub is_before_jobs : Begun → Bool
is_before_jobs begun = is_empty begun.jobs && is_empty begun.order

-- first what is set, then the lines of a tree, then faults by ascending calls, then jobs, then lines with places of the
-- schedule, one at least each, then the end, and nothing behind it
abbrev pub may_stand : Begun → Line → Bool
may_stand begun (Set setting) = is_empty begun.tree && may_set begun.settings setting
may_stand begun (Tree line) = not begun.ended && (is_empty begun.faults && is_before_jobs begun)
may_stand begun (Fault fault) =
    not begun.ended && (not (is_empty begun.tree) && (is_before_jobs begun && is_later (last_fault begun.faults) fault))
may_stand begun (Job job) =
    not begun.ended && (not (is_empty begun.tree) && (is_empty begun.order && nat_lt (length begun.jobs) max_jobs))
may_stand begun (Order places) =
    not begun.ended && (not (is_empty begun.tree) && (not (is_empty places)
    && not (nat_lt max_places (length begun.order + length places))))
may_stand begun End = not begun.ended && not (is_empty begun.tree)

-- with one line more; a job begins with the seat that is set, which no line behind it can change
abbrev pub added : Begun → Line → Begun
added begun (Set setting) = record begun { settings = with_setting begun.settings setting }
added begun (Tree line) = record begun { tree = begun.tree ++ line ∷ [] }
added begun (Fault fault) = record begun { faults = begun.faults ++ fault ∷ [] }
added begun (Job line) = record begun { jobs = begun.jobs ++ job_of (start_seat begun.settings) line ∷ [] }
added begun (Order places) = record begun { order = begun.order ++ places }
added begun End = record begun { ended = true }

-- a line of a tree keeps the rules of trees, with those above it
abbrev pub keeps_tree : Begun → Line → Bool
keeps_tree begun (Tree line) = is_ok (start_of (begun.tree ++ line ∷ []))
keeps_tree begun other = true

-- what stands after one line more, where it may stand there
abbrev pub with_line : Begun → Line → Option Begun
with_line begun line = if may_stand begun line && keeps_tree begun line then Some (added begun line) else None

abbrev pub with_text : Begun → List ℕ → Option Begun
with_text begun text = option_and_then (with_line begun) (line_of text)

abbrev pub going_on : ℕ → Option Begun → (Begun → Result Begun ℕ) → Result Begun ℕ
going_on number None next = Err number
going_on number (Some begun) next = next begun

-- The script whose lines these are from this number on, or the number of the first line up to which there is none.
-- A text that is empty and the last one stands behind the last line feed, and is no line. Any other last text is judged
-- as a line, and then the script ended too early.
abbrev pub script_from : ℕ → Begun → List (List ℕ) → Result Begun ℕ
script_from number begun [] = Err number
script_from number begun (text ∷ more) =
    if is_empty text && is_empty more then (if begun.ended then Ok begun else Err number)
    else going_on number (with_text begun text) (λ after. script_from (number + 1) after more)

abbrev pub script_of : List ℕ → Result Begun ℕ
script_of bytes = script_from 1 nothing (lines_of bytes)
