-- Proof. Each request is told, asks and brings no more than there is room for: a line a request.
use Rattle.std.proofs.Common.{◌≤◌, arith}
use Rattle.pt_host.specs.declared.seat.HostSeat.{HostSeat}
use Rattle.pt_iface.specs.declared.request.Context.{Context}
use Rattle.pt_iface.specs.declared.request.Request.{Request}
use Rattle.pt_iface.specs.declared.request.Request.TheVariants as request
use Rattle.pt_frame.specs.Machine.Room.{Keeps, most_holds, most_rows, most_told}
use Rattle.pt_frame.specs.Machine.Walk.{IsAsks}
use Rattle.pt_req.specs.declared.plan.Plan.{Plan}
use Rattle.pt_req.proofs.Keeping.{init_keeps, destroy_keeps, root_request_keeps, lookup_keeps, batch_forget_keeps}
use Rattle.pt_req.proofs.Keeping.{forget_keeps, open_file_keeps, open_dir_keeps, release_keeps, read_keeps}
use Rattle.pt_req.proofs.Keeping.{unserved_keeps}
use Rattle.pt_attr.proofs.Keeping.{readlink_keeps, statfs_keeps, getattr_keeps, access_keeps, unlink_keeps, rmdir_keeps}
use Rattle.pt_attr.proofs.Keeping.{link_keeps, rename_keeps, setattr_keeps, mkdir_keeps, mknod_keeps, symlink_keeps}
use Rattle.pt_attr.proofs.Keeping.{write_keeps, fallocate_keeps, lseek_keeps, copy_keeps, flush_keeps, fsync_keeps}
use Rattle.pt_attr.proofs.Keeping.{syncfs_keeps}
use Rattle.pt_attr.proofs.Keeping.{create_keeps}
use Rattle.pt_xattr.proofs.Keeping.{getxattr_keeps, listxattr_keeps, readdir_keeps, removexattr_keeps, setxattr_keeps}
use Rattle.pt_job.specs.Machine.Body.{any_acts, any_tree}
use Rattle.pt_job.specs.Pattern.{bound_of, tree_of}
use Rattle.pt_job.specs.declared.body.AnyBody.{AnyBody}

pub each_keeps : (plan : Plan) (seat : HostSeat) (who : Context) (asked : Request) →
    Keeps (tree_of plan seat who asked) most_told (bound_of asked) most_holds most_rows
each_keeps plan seat who (request.Init capable) = init_keeps plan capable
each_keeps plan seat who request.Destroy = destroy_keeps
each_keeps plan seat who request.Root = root_request_keeps plan
each_keeps plan seat who (request.Lookup parent name) = lookup_keeps plan parent name
each_keeps plan seat who (request.Forget inode count) = forget_keeps inode count
each_keeps plan seat who (request.BatchForget list) = batch_forget_keeps list
each_keeps plan seat who (request.Open inode kill flags) = open_file_keeps plan seat inode kill flags
each_keeps plan seat who (request.OpenDir inode flags) = open_dir_keeps plan seat inode flags
each_keeps plan seat who (request.Release inode handle) = release_keeps inode handle
each_keeps plan seat who (request.ReleaseDir inode handle) = release_keeps inode handle
each_keeps plan seat who (request.Read inode handle size offset) = read_keeps inode handle size offset
each_keeps plan seat who (request.Write inode handle offset bytes delayed kill flags) =
    write_keeps plan seat inode handle offset bytes delayed kill flags
each_keeps plan seat who (request.Create parent name mode kill flags umask ext) = create_keeps plan seat _
each_keeps plan seat who (request.Mkdir parent name mode umask ext) = mkdir_keeps plan seat _ mode
each_keeps plan seat who (request.Mknod parent name mode rdev umask ext) = mknod_keeps plan seat _ mode rdev
each_keeps plan seat who (request.Symlink target parent name ext) = symlink_keeps plan seat _ target
each_keeps plan seat who (request.Link inode newparent newname) = link_keeps plan inode newparent newname
each_keeps plan seat who (request.Unlink parent name) = unlink_keeps parent name
each_keeps plan seat who (request.Rmdir parent name) = rmdir_keeps parent name
each_keeps plan seat who (request.Rename olddir oldname newdir newname flags) =
    rename_keeps olddir oldname newdir newname flags
each_keeps plan seat who (request.Readlink inode) = readlink_keeps inode
each_keeps plan seat who (request.StatFs inode) = statfs_keeps inode
each_keeps plan seat who (request.GetAttr inode) = getattr_keeps plan inode
each_keeps plan seat who (request.SetAttr inode handle valid attr) = setattr_keeps plan seat inode handle valid attr
each_keeps plan seat who (request.Access inode mask) = access_keeps plan who inode mask
each_keeps plan seat who (request.ReadDir inode handle size offset) = readdir_keeps inode handle size offset
each_keeps plan seat who (request.Flush inode handle) = flush_keeps inode handle
each_keeps plan seat who (request.Fsync inode handle datasync) = fsync_keeps inode handle datasync
each_keeps plan seat who (request.FsyncDir inode handle datasync) = fsync_keeps inode handle datasync
each_keeps plan seat who (request.SyncFs inode) = syncfs_keeps plan inode
each_keeps plan seat who (request.Fallocate inode handle mode offset length) =
    fallocate_keeps inode handle mode offset length
each_keeps plan seat who (request.Lseek inode handle offset whence) = lseek_keeps inode handle offset whence
each_keeps plan seat who (request.CopyFileRange inode handle offset inode2 handle2 offset2 length flags) =
    copy_keeps inode handle offset inode2 handle2 offset2 length flags
each_keeps plan seat who (request.SetXattr inode name value flags extra) =
    setxattr_keeps plan inode name value flags extra
each_keeps plan seat who (request.GetXattr inode name size) = getxattr_keeps plan inode name size
each_keeps plan seat who (request.ListXattr inode size) = listxattr_keeps plan inode size
each_keeps plan seat who (request.RemoveXattr inode name) = removexattr_keeps plan inode name
each_keeps plan seat who (request.Other opcode) = unserved_keeps 47

each_begins : (plan : Plan) (seat : HostSeat) (who : Context) (asked : Request) → IsAsks (tree_of plan seat who asked)
each_begins plan seat who (request.Init capable) = tt
each_begins plan seat who request.Destroy = tt
each_begins plan seat who asked = tt

each_goes : (asked : Request) → 1 ≤ bound_of asked
each_goes (request.Create parent name mode kill flags umask ext) = omega arith
each_goes request.Destroy = omega arith
each_goes (request.Forget inode count) = omega arith
each_goes (request.BatchForget list) = omega arith
each_goes (request.Release inode handle) = omega arith
each_goes (request.ReleaseDir inode handle) = omega arith
each_goes (request.Read inode handle size offset) = omega arith
each_goes (request.Write inode handle offset bytes delayed kill flags) = omega arith
each_goes (request.ReadDir inode handle size offset) = omega arith
each_goes (request.Flush inode handle) = omega arith
each_goes (request.Fsync inode handle datasync) = omega arith
each_goes (request.FsyncDir inode handle datasync) = omega arith
each_goes (request.Fallocate inode handle mode offset length) = omega arith
each_goes (request.Lseek inode handle offset whence) = omega arith
each_goes (request.CopyFileRange inode handle offset inode2 handle2 offset2 length flags) = omega arith
each_goes asked = omega arith

pub any_within : (body : AnyBody) (plan : Plan) (seat : HostSeat) →
    Keeps (any_tree body plan seat) most_told (any_acts body) most_holds most_rows
any_within body plan seat = each_keeps plan seat body.who body.request

pub any_begins : (body : AnyBody) (plan : Plan) (seat : HostSeat) → IsAsks (any_tree body plan seat)
any_begins body plan seat = each_begins plan seat body.who body.request

pub any_goes : (body : AnyBody) → 1 ≤ any_acts body
any_goes body = each_goes body.request
