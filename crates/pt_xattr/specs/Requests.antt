-- Believed. The requests of extended attributes and of listings, by their parts. After virtiofsd's `setxattr`,
-- `getxattr`, `listxattr`, `removexattr`, `readdir`, and setxattr(2), getxattr(2), listxattr(2), removexattr(2),
-- getdents64(2).
use Rattle.std.specs.Prelude.{ℕ, ◌==◌, if◌then◌else◌, List, [], Option, Some, None}
use Rattle.pt_host.specs.Errno.{eio}
use Rattle.pt_host.specs.declared.op.KeptHostOp.TheVariants as call
use Rattle.pt_iface.specs.declared.answer.Answer.TheVariants as answer
use Rattle.pt_iface.specs.declared.directory.DirEntry.{DirEntry}
use Rattle.pt_iface.specs.declared.flags.SetxattrFlags.{SetxattrFlags}
use Rattle.pt_frame.specs.Tree.{RequestTree, Gives, make_entries}
use Rattle.pt_req.specs.Attributes.{host_name}
use Rattle.pt_req.specs.Capability.{capability_cleared}
use Rattle.pt_req.specs.Parts.{placed}
use Rattle.pt_req.specs.Steps.{◌>>=◌, ◌>>◌, pin_handle, resolve}
use Rattle.pt_req.specs.declared.begun.BegunSession.{BegunSession}
use Rattle.pt_req.specs.declared.plan.Plan.{Plan}
use Rattle.pt_attr.specs.Steps.{do_call}
use Rattle.pt_xattr.specs.Listed.{entries_of}
use Rattle.pt_xattr.specs.Parts.{allowed, allowed_to_read, kills_sgid, list_told, nul_free, sgid_killed, value_told}
use Rattle.pt_xattr.specs.Parts.{with_xattr, xattr_file}
use Rattle.pt_xattr.specs.Steps.{bytes_told}

-- an extended attribute is set; a file loses its capabilities by that
abbrev pub setxattr : Plan → ℕ → List ℕ → List ℕ → ℕ → SetxattrFlags → BegunSession → RequestTree
setxattr plan inode name value flags extra session = do
  with_xattr plan
  nul_free name
  row ← resolve inode
  found ← host_name plan session.agreed name
  named ← allowed found
  file ← xattr_file plan session row inode
  capability_cleared plan.capability file.fd file.through
  sgid_killed (kills_sgid session.agreed extra named) file
  do_call (call.SetXattr file.fd file.through named value flags)
  Gives answer.Done

-- one is told, or how long it is
abbrev pub getxattr : Plan → ℕ → List ℕ → ℕ → BegunSession → RequestTree
getxattr plan inode name size session = do
  with_xattr plan
  nul_free name
  found ← host_name plan session.agreed name
  named ← allowed_to_read found
  row ← resolve inode
  file ← xattr_file plan session row inode
  value_told file named size

-- the names of all are told, or how long they are together
abbrev pub listxattr : Plan → ℕ → ℕ → BegunSession → RequestTree
listxattr plan inode size session = do
  with_xattr plan
  row ← resolve inode
  file ← xattr_file plan session row inode
  list_told plan session.agreed file size

-- one goes
abbrev pub removexattr : Plan → ℕ → List ℕ → BegunSession → RequestTree
removexattr plan inode name session = do
  with_xattr plan
  nul_free name
  row ← resolve inode
  found ← host_name plan session.agreed name
  named ← allowed found
  file ← xattr_file plan session row inode
  do_call (call.RemoveXattr file.fd file.through named)
  Gives answer.Done

-- the entries of a listing, which take memory
abbrev pub listing : Option (List DirEntry) → RequestTree
listing None = Gives (answer.Refused eio)
listing (Some entries) = make_entries entries (λ made. Gives (answer.Listing made))

abbrev pub listed_from : ℕ → ℕ → ℕ → ℕ → RequestTree
listed_from inode handle size offset = do
  placed offset
  fd ← pin_handle handle inode
  bytes ← bytes_told (call.ListAt fd (Some offset) size)
  listing (entries_of bytes)

-- entries of a directory from an offset on, as many as go into the size; none go into no size
unfoldable pub readdir : ℕ → ℕ → ℕ → ℕ → BegunSession → RequestTree
readdir inode handle size offset session =
    if size == 0 then Gives (answer.Listing []) else listed_from inode handle size offset
