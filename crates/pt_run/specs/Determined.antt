-- Believed. A script alone determines its report unless memory runs out.
use Rattle.std.specs.Prelude.{◌≡◌, ℕ, List, Option}
use Rattle.pt_fs.specs.Determined.{FoundMemory, NoneIsCut}
use Rattle.pt_run.specs.Run.{IsReportOf, IsReportFrom}

-- no reply and no answer of the reported run tells that memory ran out, and no job was cut that takes memory of its own
abbrev pub IsFull : {bytes report : List ℕ} → IsReportOf bytes report → Type 0
IsFull ran = FoundMemory ran.trace ran.answers × NoneIsCut ran.begun.jobs ran.answers

-- where that is so, each such report of the script is these bytes
abbrev pub IsOnly : {bytes report : List ℕ} → IsReportOf bytes report → Type 0
IsOnly {bytes} {report} ran =
    IsFull ran → (other : List ℕ) (again : IsReportOf bytes other) → IsFull again → other ≡ report

abbrev pub ReportsAreDetermined : Type 0
ReportsAreDetermined = (bytes report : List ℕ) (ran : IsReportOf bytes report) → IsOnly ran

-- so it is with what was read from here
unfoldable pub DeterminesReport : Option (List ℕ) → Type 0
DeterminesReport left = (report : List ℕ) (from : IsReportFrom left report) → IsOnly from.3
