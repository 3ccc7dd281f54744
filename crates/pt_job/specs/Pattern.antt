-- Believed. Which step lists and answers belong to what a job asks: a request, or an edit beside the requests.
use Rattle.std.specs.Prelude.{ℕ, Bool, true, false, List, is_some}
use Rattle.pt_host.specs.declared.edit.Edit.{Edit}
use Rattle.pt_host.specs.declared.seat.HostSeat.{HostSeat}
use Rattle.pt_iface.specs.declared.request.Context.{Context}
use Rattle.pt_iface.specs.declared.request.Request.{Request}
use Rattle.pt_iface.specs.declared.request.Request.TheVariants as request
use Rattle.pt_frame.specs.Deed.{Step}
use Rattle.pt_frame.specs.Edit.{edit_grammar}
use Rattle.pt_frame.specs.Grammar.{Grammar, Belongs}
use Rattle.pt_frame.specs.declared.finish.Finish.{Finish}
use Rattle.pt_frame.specs.Tree.{grammar_of_tree}
use Rattle.pt_req.specs.declared.plan.Plan.{Plan}
pub use Rattle.pt_job.specs.Requests.{tree_of}

-- what a request's job may do from its start on, where it begins with this seat
abbrev pub grammar_of : Plan → HostSeat → Context → Request → Grammar
grammar_of plan seat who asked = grammar_of_tree seat (tree_of plan seat who asked)

-- The steps are such as a job of this request may make, and it then ends so: with an answer, or with a lost seat.
abbrev pub Pattern : Plan → HostSeat → Context → Request → List Step → Finish → Type 0
Pattern plan seat who asked steps end = Belongs (grammar_of plan seat who asked) steps end

-- An edit has no seat, and nobody asks.
abbrev pub EditPattern : Edit → List Step → Finish → Type 0
EditPattern edit steps end = Belongs (edit_grammar edit) steps end

-- what a job asks: it serves a request of somebody, or edits the host's tree beside the requests
pub data Asked : Type 0 where
  Requests : Context → Request → Asked
  Edits : Edit → Asked

-- what it may do from its start on, where it begins with this seat
abbrev pub grammar_for : Plan → HostSeat → Asked → Grammar
grammar_for plan seat (Requests who asked) = grammar_of plan seat who asked
grammar_for plan seat (Edits edit) = edit_grammar edit

-- a bound on a request's steps; each closing takes at most three more
abbrev pub bound_of : Request → ℕ
bound_of (request.Create parent name mode kill flags umask ext) = 96
bound_of request.Destroy = 8
bound_of (request.Forget inode count) = 8
bound_of (request.BatchForget list) = 8
bound_of (request.Release inode handle) = 8
bound_of (request.ReleaseDir inode handle) = 8
bound_of (request.Read inode handle size offset) = 8
bound_of (request.Write inode handle offset bytes delayed kill flags) = 8
bound_of (request.ReadDir inode handle size offset) = 8
bound_of (request.Flush inode handle) = 8
bound_of (request.Fsync inode handle datasync) = 8
bound_of (request.FsyncDir inode handle datasync) = 8
bound_of (request.Fallocate inode handle mode offset length) = 8
bound_of (request.Lseek inode handle offset whence) = 8
bound_of (request.CopyFileRange inode handle offset inode2 handle2 offset2 length flags) = 8
bound_of asked = 48

abbrev pub bound_for : Asked → ℕ
bound_for (Requests who asked) = bound_of asked
bound_for (Edits edit) = 1

-- it makes what takes memory: a name, as that of a context too, names, or the entries of a listing
abbrev pub takes_memory : Request → Bool
takes_memory (request.ReadDir inode handle size offset) = true
takes_memory (request.SetXattr inode name value flags extra) = true
takes_memory (request.GetXattr inode name size) = true
takes_memory (request.ListXattr inode size) = true
takes_memory (request.RemoveXattr inode name) = true
takes_memory (request.Create parent name mode kill flags umask ext) = is_some ext.secctx
takes_memory (request.Mkdir parent name mode umask ext) = is_some ext.secctx
takes_memory (request.Mknod parent name mode rdev umask ext) = is_some ext.secctx
takes_memory (request.Symlink target parent name ext) = is_some ext.secctx
takes_memory asked = false

abbrev pub takes_memory_for : Asked → Bool
takes_memory_for (Requests who asked) = takes_memory asked
takes_memory_for (Edits edit) = false

-- so many rows a request inserts at most
abbrev pub most_inserted : ℕ
most_inserted = 4
