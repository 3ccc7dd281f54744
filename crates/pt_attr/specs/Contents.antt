-- Believed. The requests on contents, by the handles that they name, beside those of opening and numbering. After
-- virtiofsd's `write`, `fallocate`, `lseek`, `copyfilerange`, `flush`, `fsync`, `fsyncdir`, `syncfs`, and
-- pwritev2(2), fallocate(2), lseek(2), copy_file_range(2), close(2), fsync(2), syncfs(2).
use Rattle.std.specs.Prelude.{ℕ, Bool, false, ◌&&◌, not, List}
use Rattle.std.specs.Int.{w64, cast_signed}
use Rattle.pt_host.specs.Flags.{includes}
use Rattle.pt_host.specs.declared.op.KeptHostOp.TheVariants as call
use Rattle.pt_host.specs.declared.seat.HostSeat.{HostSeat}
use Rattle.pt_iface.specs.declared.answer.Answer.TheVariants as answer
use Rattle.pt_frame.specs.Tree.{RequestTree, Gives, Bares}
use Rattle.pt_req.specs.Capability.{capability_cleared, drops_fsetid, without_fsetid}
use Rattle.pt_req.specs.Options.{o_append, o_nofollow}
use Rattle.pt_req.specs.Parts.{open_inode, placed}
use Rattle.pt_req.specs.Steps.{◌>>=◌, ◌>>◌, pin_handle}
use Rattle.pt_req.specs.declared.begun.BegunSession.{BegunSession}
use Rattle.pt_req.specs.declared.plan.Plan.{Plan}
use Rattle.pt_attr.specs.Steps.{count_of, do_call}

-- A write appends where the handle's flags say so, but never a delayed one: that comes from the guest's page cache,
-- and has its place.
abbrev pub appends : Bool → ℕ → Bool
appends delayed flags = not delayed && includes flags o_append

-- bytes are written, so that set-id bits go where the guest asks that, and capabilities in any case
abbrev pub write : Plan → HostSeat → ℕ → ℕ → ℕ → List ℕ → Bool → Bool → ℕ → BegunSession → RequestTree
write plan seat inode handle offset bytes delayed kill flags session = do
  placed offset
  fd ← pin_handle handle inode
  without_fsetid (drops_fsetid plan seat kill)
  capability_cleared plan.capability fd false
  count ← count_of (call.WriteAt fd offset bytes (appends delayed flags))
  Bares
  Gives (answer.Wrote count)

-- room is made for bytes, or is given back
abbrev pub fallocate : ℕ → ℕ → ℕ → ℕ → ℕ → BegunSession → RequestTree
fallocate inode handle mode offset length session = do
  placed offset
  placed length
  fd ← pin_handle handle inode
  do_call (call.Allocate fd mode offset length)
  Gives answer.Done

-- the place of a handle moves, by an offset that is taken as signed
abbrev pub lseek : ℕ → ℕ → ℕ → ℕ → BegunSession → RequestTree
lseek inode handle offset whence session = do
  fd ← pin_handle handle inode
  place ← count_of (call.Seek fd (cast_signed w64 offset) whence)
  Gives (answer.Offset place)

-- bytes are copied from the first handle to the second
abbrev pub copyfilerange : ℕ → ℕ → ℕ → ℕ → ℕ → ℕ → ℕ → ℕ → BegunSession → RequestTree
copyfilerange inode handle offset inode2 handle2 offset2 length flags session = do
  placed offset
  placed offset2
  placed length
  from ← pin_handle handle inode
  to ← pin_handle handle2 inode2
  count ← count_of (call.CopyRange from offset to offset2 length flags)
  Gives (answer.Wrote count)

-- the guest closed one of its descriptors for a handle
abbrev pub flush : ℕ → ℕ → BegunSession → RequestTree
flush inode handle session = do
  fd ← pin_handle handle inode
  do_call (call.Flush fd)
  Gives answer.Done

-- what a handle is open on is written out, a file or a directory
abbrev pub fsync : ℕ → ℕ → Bool → BegunSession → RequestTree
fsync inode handle datasync session = do
  fd ← pin_handle handle inode
  do_call (call.Sync fd datasync)
  Gives answer.Done

-- the file system that holds an object is written out, by a descriptor of its own, `O_RDONLY | O_NOFOLLOW`
abbrev pub syncfs : Plan → ℕ → BegunSession → RequestTree
syncfs plan inode session = do
  fd ← open_inode plan session inode o_nofollow
  do_call (call.SyncFs fd)
  Gives answer.Done
