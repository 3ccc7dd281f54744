-- Believed. What bytes are read as, and why they are no script.
use Rattle.std.specs.Prelude.{◌≡◌, ℕ, List, Ok, Err}
use Rattle.pt_rules.specs.State.{State}
use Rattle.pt_fs.specs.declared.job.Job.{Job}
use Rattle.pt_script.specs.Begins.{BeginsAs}
use Rattle.pt_script.specs.Script.{Begun, script_of}
use Rattle.pt_script.specs.declared.script.ParseError.{ParseError}
use Rattle.pt_script.specs.declared.script.ParseError.TheVariants.{BadScript, Memory}
use Rattle.pt_script.specs.declared.settings.Settings.{Settings}

-- settings, a host, jobs and a schedule that are those of the script that these bytes are
abbrev pub IsScriptOf : List ℕ → Settings → State → List Job → List ℕ → Type 0
IsScriptOf bytes settings host jobs schedule =
    (begun : Begun) × (script_of bytes ≡ Ok begun) × (settings ≡ begun.settings) × BeginsAs begun.tree begun.faults host
    × (jobs ≡ begun.jobs) × (schedule ≡ begun.order)

-- the line up to which the bytes begin no script
abbrev pub IsBadLine : List ℕ → ParseError → Type 0
IsBadLine bytes (BadScript line) = script_of bytes ≡ Err line
IsBadLine bytes Memory = Unit {0}
