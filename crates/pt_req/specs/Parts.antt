-- Believed. The parts of requests, each with what it hands on. After virtiofsd's `open_inode`, `do_lookup`,
-- `do_open`, `open_root_node`.
use Rattle.std.specs.Prelude.{ℕ, Bool, true, false, if◌then◌else◌, List, Option, Some, None}
use Rattle.pt_host.specs.Errno.{ebadf, einval}
use Rattle.pt_host.specs.Flags.{includes, o_trunc, path_flags}
use Rattle.pt_host.specs.declared.ids.Fd.{Fd}
use Rattle.pt_host.specs.declared.ids.ObjIds.{ObjIds}
use Rattle.pt_host.specs.declared.seat.HostSeat.{HostSeat}
use Rattle.pt_host.specs.declared.stat.Stat.{Stat}
use Rattle.pt_host.specs.declared.flags.OpenFlags.{OpenFlags}
use Rattle.pt_tables.specs.declared.form.RowForm.{RowForm}
use Rattle.pt_tables.specs.declared.form.RowForm.TheVariants.{File}
use Rattle.pt_tables.specs.declared.form.Negotiated.{Negotiated}
use Rattle.pt_iface.specs.declared.answer.Answer.TheVariants as answer
use Rattle.pt_frame.specs.Tree.{RequestTree, Gives, Bares, Brackets, Shuts}
use Rattle.pt_req.specs.Capability.{cleared_if, drops_fsetid, without_fsetid}
use Rattle.pt_req.specs.Options.{cleaned, inode_flags, without_nofollow}
use Rattle.pt_req.specs.Steps.{Part, ◌>>=◌, ◌>>◌, resolve, open_root, open_at, reopen, stat, claim, take_fd, draw_node}
use Rattle.pt_req.specs.Steps.{draw_handle, insert, insert_root, insert_handle}
use Rattle.pt_req.specs.Entries.{is_bad_name, is_bad_offset, can_open, entry_of}
use Rattle.pt_req.specs.declared.begun.BegunSession.{BegunSession}
use Rattle.pt_tables.specs.declared.reply.Resolved.{Resolved}
use Rattle.pt_req.specs.declared.parts.looked.Looked.{Looked}
use Rattle.pt_req.specs.declared.plan.Plan.{Plan}

-- the flags of every opening that only stands for its object
abbrev pub by_path : OpenFlags
by_path = record { 0 = path_flags }

-- checks: a name that is none, an offset that is none
unfoldable pub named : List ℕ → RequestTree → RequestTree
named name next = if is_bad_name name then Gives (answer.Refused einval) else next

unfoldable pub placed : ℕ → RequestTree → RequestTree
placed offset next = if is_bad_offset offset then Gives (answer.Refused einval) else next

-- the file of a row: the descriptor that stands for its object
abbrev pub file_of : RowForm → Part Fd
file_of (File fd) next = next fd

-- a row's object is opened anew; its descriptor's link in `/proc` is to be followed
abbrev pub open_form : RowForm → ℕ → Part Fd
open_form (File fd) flags next = reopen fd (without_nofollow flags) next

-- what is neither a regular file nor a directory is not opened
unfoldable pub open_row : Resolved → ℕ → Part Fd
open_row row flags next = if can_open row.mode then open_form row.form flags next else Gives (answer.Refused ebadf)

-- a number is opened
abbrev pub open_inode : Plan → BegunSession → ℕ → ℕ → Part Fd
open_inode plan session number flags next = do
  row ← resolve number
  open_row row (inode_flags plan.config session.agreed flags) next

-- what was opened gets a new number
abbrev pub numbered_anew : BegunSession → RowForm → Stat → Part ℕ
numbered_anew session form told next = do
  take_fd
  fresh ← draw_node
  insert session fresh form told next

-- where its object had none
abbrev pub numbered_as : BegunSession → RowForm → Stat → Option ℕ → Part ℕ
numbered_as session form told None next = numbered_anew session form told next
numbered_as session form told (Some number) next = next number

abbrev pub numbered : BegunSession → RowForm → Stat → Part ℕ
numbered session form told next = do
  given ← claim session None told.ids
  numbered_as session form told given next

-- what a lookup hands on, in a directory of these ids
abbrev pub looked_of : Plan → BegunSession → ObjIds → Stat → ℕ → Looked
looked_of plan session parent told number =
    record { entry = entry_of plan session.agreed parent told number; ids = told.ids }

-- A lookup: a name in a numbered directory becomes an entry, whose count passes the end of the bracket.
unfoldable pub look_up : Plan → BegunSession → ℕ → List ℕ → Part Looked
look_up plan session parent name next = do
  Brackets
  directory ← resolve parent
  dir ← file_of directory.form
  fd ← open_at dir name by_path
  told ← stat fd
  number ← numbered session (File fd) told
  Shuts true
  next (looked_of plan session directory.ids told number)

-- what was opened gets a handle
abbrev pub handled : BegunSession → ℕ → Fd → Part ℕ
handled session number fd next = do
  handle ← draw_handle
  take_fd
  insert_handle session handle number fd
  next handle

-- A number is opened by a handle. Where `kill` asks for it, set-id bits of what is emptied by that go; capabilities of
-- what is emptied go in any case.
abbrev pub open_num : Plan → HostSeat → BegunSession → ℕ → Bool → ℕ → Part ℕ
open_num plan seat session number kill flags next = do
  Brackets
  without_fsetid (drops_fsetid plan seat kill)
  fd ← open_inode plan session number (cleaned plan.config flags)
  Bares
  cleared_if (includes flags o_trunc) plan.capability fd
  handle ← handled session number fd
  Shuts false
  next handle

-- the shared directory is opened and numbered 1; what is agreed on is said, or left
abbrev pub root_open : Plan → BegunSession → Option Negotiated → RequestTree → RequestTree
root_open plan session agreed next = do
  fd ← open_root plan.config.root_dir by_path
  told ← stat fd
  take_fd
  insert_root session (File fd) told agreed
  next
