-- Believed. A run of the jobs that a seed gives, and its counts.
use Rattle.std.specs.Prelude.{◌≡◌, ℕ, List, None, length}
use Rattle.pt_rules.specs.State.{State}
use Rattle.pt_tree.specs.Start.{StartsAs}
use Rattle.pt_tables.specs.Happens.{slots_left}
use Rattle.pt_tables.specs.Tables.{Tables}
use Rattle.pt_iface.specs.declared.answer.Answer.{Answer}
use Rattle.pt_fs.specs.Determined.{FoundMemory}
use Rattle.pt_fs.specs.declared.trace.TraceStep.{TraceStep}
use Rattle.pt_script.specs.Settings.{no_settings}
use Rattle.pt_gen.specs.Generated.{generated_tree, generated_jobs, generated_order}
use Rattle.pt_run.specs.Run.{AreLive, IsRunFrom}
use Rattle.pt_run.specs.Counts.{counts_of, count_lines}
use Rattle.pt_run.specs.declared.status.Status.{Status}
use Rattle.pt_run.specs.declared.status.Status.TheVariants as status

-- The jobs ran in the order that the seed gives, over a host that holds their tree, with nothing set, and no seat was
-- lost; the text is the counts of that run.
pub record IsCountOf (jobs seed : ℕ) (text : List ℕ) : Type 0 where
  pub trace : List TraceStep
  pub answers : List Answer
  pub tables : Tables
  pub host : State
  pub start : State
  pub starts : StartsAs generated_tree start
  pub run : IsRunFrom no_settings start (generated_jobs jobs seed) (generated_order jobs seed) trace answers tables host
      None
  pub lives : List (ℕ × ℕ)
  pub handles : List (ℕ × ℕ)
  pub live : AreLive tables lives handles
  pub told : text ≡ count_lines (counts_of jobs (length trace) answers lives handles (slots_left tables 0))

-- how the program ends that counts a run
abbrev pub EndsCounted : Status → Type 0
EndsCounted status.Done = Unit {0}
EndsCounted status.WriteFault = Unit {0}
EndsCounted status.NoMemory = Unit {0}
EndsCounted other = ⊥

-- Where no reply and no answer of either run tells that memory ran out, the numbers on the command line alone determine
-- the counts.
abbrev pub CountsAreDetermined : Type 0
CountsAreDetermined =
    (jobs seed : ℕ) (lines other : List ℕ) (ran : IsCountOf jobs seed lines) (again : IsCountOf jobs seed other) →
    FoundMemory ran.trace ran.answers → FoundMemory again.trace again.answers → lines ≡ other
