-- Believed. The parts of requests of names and attributes: the files of numbers, and the attributes of one.
use Rattle.std.specs.Prelude.{ℕ}
use Rattle.pt_host.specs.declared.ids.Fd.{Fd}
use Rattle.pt_iface.specs.declared.answer.Answer.TheVariants as answer
use Rattle.pt_frame.specs.Tree.{RequestTree, Gives}
use Rattle.pt_req.specs.Entries.{attr_of}
use Rattle.pt_req.specs.Parts.{file_of}
use Rattle.pt_req.specs.Steps.{Part, ◌>>=◌, resolve, stat}
use Rattle.pt_req.specs.declared.plan.Plan.{Plan}
use Rattle.pt_attr.specs.declared.parts.TwoFiles.{TwoFiles}

-- the file of a number
abbrev pub file_by : ℕ → Part Fd
file_by number next = do
  row ← resolve number
  file_of row.form next

abbrev pub two_files : Fd → Fd → TwoFiles
two_files from to = record { from = from; to = to }

-- the files of two numbers, which may be one number
unfoldable pub files_by : ℕ → ℕ → Part TwoFiles
files_by first second next = do
  one ← resolve first
  other ← resolve second
  from ← file_of one.form
  to ← file_of other.form
  next (two_files from to)

-- the attributes of what a number stands for, and how long they may be kept
abbrev pub tell_attr : Plan → ℕ → RequestTree
tell_attr plan inode = do
  fd ← file_by inode
  told ← stat fd
  Gives (answer.Attr (attr_of plan told 0) plan.config.attr_timeout)
