-- Believed. The one table of requests: what each does in the session that goes on, its frame aside. After virtiofsd's
-- passthrough file system.
use Rattle.std.specs.Prelude.{ℕ, List, Option, Some, None}
use Rattle.pt_host.specs.declared.seat.HostSeat.{HostSeat}
use Rattle.pt_iface.specs.declared.request.Context.{Context}
use Rattle.pt_iface.specs.declared.request.Extensions.{Extensions}
use Rattle.pt_iface.specs.declared.request.Request.{Request}
use Rattle.pt_iface.specs.declared.request.Request.TheVariants as request
use Rattle.pt_frame.specs.Tree.{RequestTree}
use Rattle.pt_req.specs.Requests.{init, destroy, root, lookup, forget, batch_forget, open_file, open_dir, release, read}
use Rattle.pt_req.specs.Requests.{unserved}
use Rattle.pt_req.specs.Steps.{begin}
use Rattle.pt_req.specs.declared.begun.BegunSession.{BegunSession}
use Rattle.pt_req.specs.declared.plan.Plan.{Plan}
use Rattle.pt_attr.specs.Creating.{create, file_asked}
use Rattle.pt_attr.specs.Contents.{copyfilerange, fallocate, flush, fsync, lseek, syncfs, write}
use Rattle.pt_attr.specs.Making.{ObjectAsked, mkdir, mknod, symlink}
use Rattle.pt_attr.specs.Requests.{access, getattr, link, readlink, rename, rmdir, statfs, unlink}
use Rattle.pt_attr.specs.Setting.{setattr}
use Rattle.pt_xattr.specs.Requests.{getxattr, listxattr, readdir, removexattr, setxattr}

abbrev pub object_asked : Context → ℕ → List ℕ → Option ℕ → Extensions → ObjectAsked
object_asked who parent name umask ext =
    record { who = who; parent = parent; name = name; umask = umask; ext = ext }

-- What a request does in the session that goes on, by the seat that its job begins with and by who asks; `Init` and
-- `Destroy` are asked in none.
abbrev pub in_session : Plan → HostSeat → Context → Request → BegunSession → RequestTree
in_session plan seat who (request.Init capable) = unserved
in_session plan seat who request.Destroy = unserved
in_session plan seat who request.Root = root plan
in_session plan seat who (request.Lookup parent name) = lookup plan parent name
in_session plan seat who (request.Forget inode count) = forget inode count
in_session plan seat who (request.BatchForget list) = batch_forget list
in_session plan seat who (request.Open inode kill flags) = open_file plan seat inode kill flags
in_session plan seat who (request.OpenDir inode flags) = open_dir plan seat inode flags
in_session plan seat who (request.Release inode handle) = release inode handle
in_session plan seat who (request.ReleaseDir inode handle) = release inode handle
in_session plan seat who (request.Read inode handle size offset) = read inode handle size offset
in_session plan seat who (request.Write inode handle offset bytes delayed kill flags) =
    write plan seat inode handle offset bytes delayed kill flags
in_session plan seat who (request.Create dir name mode kill flags umask ext) =
    create plan seat (file_asked who dir name mode kill flags umask ext)
in_session plan seat who (request.Mkdir dir name mode umask ext) =
    mkdir plan seat (object_asked who dir name (Some umask) ext) mode
in_session plan seat who (request.Mknod dir name mode rdev umask ext) =
    mknod plan seat (object_asked who dir name (Some umask) ext) mode rdev
in_session plan seat who (request.Symlink to dir name ext) = symlink plan seat (object_asked who dir name None ext) to
in_session plan seat who (request.Link inode newparent newname) = link plan inode newparent newname
in_session plan seat who (request.Unlink parent name) = unlink parent name
in_session plan seat who (request.Rmdir parent name) = rmdir parent name
in_session plan seat who (request.Rename olddir name newdir newname flags) = rename olddir name newdir newname flags
in_session plan seat who (request.Readlink inode) = readlink inode
in_session plan seat who (request.StatFs inode) = statfs inode
in_session plan seat who (request.GetAttr inode) = getattr plan inode
in_session plan seat who (request.SetAttr inode handle valid attr) = setattr plan seat inode handle valid attr
in_session plan seat who (request.Access inode mask) = access plan who inode mask
in_session plan seat who (request.ReadDir inode handle size offset) = readdir inode handle size offset
in_session plan seat who (request.Flush inode handle) = flush inode handle
in_session plan seat who (request.Fsync inode handle datasync) = fsync inode handle datasync
in_session plan seat who (request.FsyncDir inode handle datasync) = fsync inode handle datasync
in_session plan seat who (request.SyncFs inode) = syncfs plan inode
in_session plan seat who (request.Fallocate inode handle mode at length) = fallocate inode handle mode at length
in_session plan seat who (request.Lseek inode handle offset whence) = lseek inode handle offset whence
in_session plan seat who (request.CopyFileRange inode handle offset inode2 handle2 offset2 length flags) =
    copyfilerange inode handle offset inode2 handle2 offset2 length flags
in_session plan seat who (request.SetXattr inode name value flags extra) =
    setxattr plan inode name value flags extra
in_session plan seat who (request.GetXattr inode name size) = getxattr plan inode name size
in_session plan seat who (request.ListXattr inode size) = listxattr plan inode size
in_session plan seat who (request.RemoveXattr inode name) = removexattr plan inode name
in_session plan seat who (request.Other opcode) = unserved

-- What a request does, its frame aside: two begin a session anew, the others are asked in the one that goes on.
abbrev pub tree_of : Plan → HostSeat → Context → Request → RequestTree
tree_of plan seat who (request.Init capable) = init plan capable
tree_of plan seat who request.Destroy = destroy
tree_of plan seat who asked = begin (in_session plan seat who asked)

-- the requests of sessions, numbers and handles
abbrev pub IsNumbering : Request → Type 0
IsNumbering (request.Init capable) = Unit {0}
IsNumbering request.Destroy = Unit {0}
IsNumbering request.Root = Unit {0}
IsNumbering (request.Lookup parent name) = Unit {0}
IsNumbering (request.Forget inode count) = Unit {0}
IsNumbering (request.BatchForget list) = Unit {0}
IsNumbering (request.Open inode kill flags) = Unit {0}
IsNumbering (request.OpenDir inode flags) = Unit {0}
IsNumbering (request.Release inode handle) = Unit {0}
IsNumbering (request.ReleaseDir inode handle) = Unit {0}
IsNumbering (request.Read inode handle size offset) = Unit {0}
IsNumbering (request.Create parent name mode kill flags umask ext) = Unit {0}
IsNumbering asked = ⊥
