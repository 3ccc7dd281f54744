-- Believed. The requests of names and attributes, by their parts. After virtiofsd's `readlink`, `statfs`, `getattr`,
-- `access`, `unlink`, `rmdir`, `link`, `rename`.
use Rattle.std.specs.Prelude.{ℕ, Bool, true, false, List}
use Rattle.pt_host.specs.Errno.{eacces}
use Rattle.pt_host.specs.declared.op.KeptHostOp.TheVariants as call
use Rattle.pt_iface.specs.declared.answer.Answer.{Answer}
use Rattle.pt_iface.specs.declared.answer.Answer.TheVariants as answer
use Rattle.pt_iface.specs.declared.request.Context.{Context}
use Rattle.pt_frame.specs.Tree.{RequestTree, Gives}
use Rattle.pt_req.specs.Entries.{attr_of}
use Rattle.pt_req.specs.Parts.{look_up, named}
use Rattle.pt_req.specs.Steps.{◌>>=◌, ◌>>◌, stat}
use Rattle.pt_req.specs.declared.begun.BegunSession.{BegunSession}
use Rattle.pt_req.specs.declared.plan.Plan.{Plan}
use Rattle.pt_attr.specs.Access.{is_granted}
use Rattle.pt_attr.specs.Parts.{file_by, files_by, tell_attr}
use Rattle.pt_attr.specs.Steps.{do_call, read_link, stat_fs}

-- the target of a symbolic link
abbrev pub readlink : ℕ → BegunSession → RequestTree
readlink inode session = do
  fd ← file_by inode
  target ← read_link fd
  Gives (answer.Link target)

-- the status of the file system that holds an object
abbrev pub statfs : ℕ → BegunSession → RequestTree
statfs inode session = do
  fd ← file_by inode
  told ← stat_fs fd
  Gives (answer.FsStat told)

-- the attributes of an object, and how long they may be kept
abbrev pub getattr : Plan → ℕ → BegunSession → RequestTree
getattr plan inode session = tell_attr plan inode

abbrev pub allowed : Bool → Answer
allowed true = answer.Done
allowed false = answer.Refused eacces

-- whether who asks may use an object so, which is decided here and not by the host
abbrev pub access : Plan → Context → ℕ → ℕ → BegunSession → RequestTree
access plan who inode mask session = do
  fd ← file_by inode
  told ← stat fd
  Gives (allowed (is_granted who mask (attr_of plan told 0)))

-- a name of what is no directory goes
abbrev pub unlink : ℕ → List ℕ → BegunSession → RequestTree
unlink parent name session = do
  named name
  dir ← file_by parent
  do_call (call.Unlink dir name)
  Gives answer.Done

-- an empty directory goes
abbrev pub rmdir : ℕ → List ℕ → BegunSession → RequestTree
rmdir parent name session = do
  named name
  dir ← file_by parent
  do_call (call.RemoveDir dir name)
  Gives answer.Done

-- an object gets one more name, which is then looked up
abbrev pub link : Plan → ℕ → ℕ → List ℕ → BegunSession → RequestTree
link plan inode newparent newname session = do
  named newname
  files ← files_by inode newparent
  do_call (call.MakeLink files.from files.to newname)
  looked ← look_up plan session newparent newname
  Gives (answer.Entry looked.entry)

-- a name moves, or two are exchanged
abbrev pub rename : ℕ → List ℕ → ℕ → List ℕ → ℕ → BegunSession → RequestTree
rename olddir oldname newdir newname flags session = do
  named oldname
  named newname
  files ← files_by olddir newdir
  do_call (call.Rename files.from oldname files.to newname flags)
  Gives answer.Done
