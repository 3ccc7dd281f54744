-- Believed. The lines of a script.
use Rattle.std.specs.Prelude.{ℕ, List, [], ◌∷◌, Option, Some, None, if◌then◌else◌, codes}
use Rattle.std.specs.Option.{option_map}
use Rattle.std.specs.Str.{bytes_eq}
use Rattle.pt_text.specs.Words.{words_of}
use Rattle.pt_words.specs.Fields.{◌>>=◌, number_in, small_in, errno_in, places_in, at_end}
use Rattle.pt_script.specs.TreeLine.{tree_line_in}
use Rattle.pt_script.specs.Edit.{edit_in}
use Rattle.pt_words.specs.Request.{request_in}
use Rattle.pt_script.specs.SettingLine.{setting_in}
use Rattle.pt_script.specs.declared.line.ScriptJob.{ScriptJob}
use Rattle.pt_script.specs.declared.line.ScriptJob.TheVariants as script_job
use Rattle.pt_script.specs.declared.line.Line.{Line}
use Rattle.pt_script.specs.declared.line.Line.TheVariants.{Set, Tree, Fault, Job, Order, End}
use Rattle.pt_script.specs.declared.line.PlannedFault.{PlannedFault}

-- `job UID GID REQUEST FIELDS`
abbrev pub job_in : List (List ℕ) → Option ScriptJob
job_in words = do
  uid ← small_in words
  gid ← small_in uid.rest
  request ← request_in gid.rest
  Some (script_job.Request (record { uid = uid.value; gid = gid.value }) request)

-- `edit EDIT`
abbrev pub edit_job_in : List (List ℕ) → Option ScriptJob
edit_job_in words = option_map script_job.Edit (edit_in words)

-- `fault CALL ERRNO`
abbrev pub fault_in : List (List ℕ) → Option PlannedFault
fault_in words = do
  call ← number_in words
  errno ← errno_in call.rest
  at_end errno.rest (record { call = call.value; errno = errno.value })

abbrev pub line_in : List (List ℕ) → Option Line
line_in [] = None
line_in (word ∷ fields) =
    if bytes_eq word (codes "set") then option_map Set (setting_in fields)
    else (if bytes_eq word (codes "job") then option_map Job (job_in fields)
    else (if bytes_eq word (codes "edit") then option_map Job (edit_job_in fields)
    else (if bytes_eq word (codes "order") then option_map Order (places_in fields)
    else (if bytes_eq word (codes "fault") then option_map Fault (fault_in fields)
    else (if bytes_eq word (codes "end") then at_end fields End else option_map Tree (tree_line_in word fields))))))

-- the line that a text is
abbrev pub line_of : List ℕ → Option Line
line_of text = line_in (words_of text)
