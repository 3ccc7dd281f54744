-- Believed. The texts of the host's calls and replies.
use Rattle.std.specs.Prelude.{ℕ, List, ◌++◌, codes, length}
use Rattle.pt_host.specs.declared.ids.Errno.{Errno}
use Rattle.pt_host.specs.declared.ids.Fd.{Fd}
use Rattle.pt_host.specs.declared.ids.ObjIds.{ObjIds}
use Rattle.pt_host.specs.declared.ids.Time.{Time}
use Rattle.pt_host.specs.declared.ids.TimeSet.{TimeSet}
use Rattle.pt_host.specs.declared.ids.TimeSet.TheVariants as set
use Rattle.pt_host.specs.declared.flags.Caps.{Caps}
use Rattle.pt_host.specs.declared.flags.OpenFlags.{OpenFlags}
use Rattle.pt_host.specs.declared.handle.CFileHandle.{CFileHandle}
use Rattle.pt_host.specs.declared.handle.FileHandle.{FileHandle}
use Rattle.pt_host.specs.declared.stat.FsStat.{FsStat}
use Rattle.pt_host.specs.declared.stat.Stat.{Stat}
use Rattle.pt_host.specs.declared.op.KeptHostOp.{KeptHostOp}
use Rattle.pt_host.specs.declared.op.KeptHostOp.TheVariants as call
use Rattle.pt_host.specs.declared.reply.HostValue.{HostValue}
use Rattle.pt_host.specs.declared.reply.HostValue.TheVariants as value
use Rattle.pt_host.specs.declared.reply.HostReply.{HostReply}
use Rattle.pt_host.specs.declared.reply.HostReply.TheVariants as reply
use Rattle.pt_show.specs.Texts.{word, number_text, signed_text, bytes_text, switch_text, option_text, items_text}
use Rattle.pt_show.specs.EditTexts.{edit_text}

-- an error number, a descriptor, sets of bits, ids and times
abbrev pub errno_text : Errno → List ℕ
errno_text errno = signed_text errno.0

abbrev pub fd_text : Fd → List ℕ
fd_text fd = number_text fd.0

abbrev pub flags_text : OpenFlags → List ℕ
flags_text flags = number_text flags.0

abbrev pub ids_text : ObjIds → List ℕ
ids_text ids = number_text ids.ino ++ number_text ids.dev ++ number_text ids.mnt_id

abbrev pub time_text : Time → List ℕ
time_text time = signed_text time.sec ++ number_text time.nsec

abbrev pub time_set_text : TimeSet → List ℕ
time_set_text set.Omit = word (codes "Omit")
time_set_text set.Now = word (codes "Now")
time_set_text (set.At time) = word (codes "At") ++ time_text time

abbrev pub caps_text : Caps → List ℕ
caps_text caps = number_text caps.0

abbrev pub groups_text : List ℕ → List ℕ
groups_text groups = number_text (length groups) ++ items_text number_text groups

-- a handle as it is within its mount, and with it
abbrev pub c_handle_text : CFileHandle → List ℕ
c_handle_text handle = signed_text handle.handle_type ++ bytes_text handle.bytes

abbrev pub handle_text : FileHandle → List ℕ
handle_text handle = number_text handle.mnt_id ++ c_handle_text handle.handle

-- what is told of an object, and of a file system
abbrev pub stat_text : Stat → List ℕ
stat_text stat =
    ids_text stat.ids ++ number_text stat.mode ++ number_text stat.nlink ++ number_text stat.uid
    ++ number_text stat.gid
    ++ number_text stat.rdev ++ number_text stat.size ++ number_text stat.blksize ++ number_text stat.blocks
    ++ time_text stat.atime ++ time_text stat.mtime ++ time_text stat.ctime

abbrev pub fs_stat_text : FsStat → List ℕ
fs_stat_text stat =
    number_text stat.blocks ++ number_text stat.bfree ++ number_text stat.bavail ++ number_text stat.files
    ++ number_text stat.ffree
    ++ number_text stat.bsize ++ number_text stat.namelen ++ number_text stat.frsize

-- a call: its name and its fields in their order
abbrev pub call_text : KeptHostOp → List ℕ
-- openings, and the end of a descriptor
call_text (call.OpenRoot path flags) = word (codes "OpenRoot") ++ bytes_text path ++ flags_text flags
call_text (call.OpenPath fd path flags) = word (codes "OpenPath") ++ fd_text fd ++ bytes_text path ++ flags_text flags
call_text (call.OpenAt fd name flags mode) =
    word (codes "OpenAt") ++ fd_text fd ++ bytes_text name ++ flags_text flags ++ number_text mode
call_text (call.Reopen fd flags) = word (codes "Reopen") ++ fd_text fd ++ flags_text flags
call_text (call.OpenByHandle fd handle flags) =
    word (codes "OpenByHandle") ++ fd_text fd ++ c_handle_text handle ++ flags_text flags
call_text (call.Close fd) = word (codes "Close") ++ fd_text fd
-- what a descriptor tells of its object
call_text (call.Stat fd) = word (codes "Stat") ++ fd_text fd
call_text (call.HandleOf fd) = word (codes "HandleOf") ++ fd_text fd
call_text (call.StatFs fd) = word (codes "StatFs") ++ fd_text fd
call_text (call.ReadLink fd) = word (codes "ReadLink") ++ fd_text fd
call_text (call.FdPath fd) = word (codes "FdPath") ++ fd_text fd
call_text call.MountInfo = word (codes "MountInfo")
-- names
call_text (call.MakeDir fd name mode) = word (codes "MakeDir") ++ fd_text fd ++ bytes_text name ++ number_text mode
call_text (call.MakeNode fd name mode rdev) =
    word (codes "MakeNode") ++ fd_text fd ++ bytes_text name ++ number_text mode ++ number_text rdev
call_text (call.MakeLink from fd name) = word (codes "MakeLink") ++ fd_text from ++ fd_text fd ++ bytes_text name
call_text (call.SymLink fd name target) = word (codes "SymLink") ++ fd_text fd ++ bytes_text name ++ bytes_text target
call_text (call.Unlink fd name) = word (codes "Unlink") ++ fd_text fd ++ bytes_text name
call_text (call.RemoveDir fd name) = word (codes "RemoveDir") ++ fd_text fd ++ bytes_text name
call_text (call.Rename fd name fd2 name2 flags) =
    word (codes "Rename") ++ fd_text fd ++ bytes_text name ++ fd_text fd2 ++ bytes_text name2 ++ number_text flags
-- contents and positions
call_text (call.ReadAt fd offset size) = word (codes "ReadAt") ++ fd_text fd ++ number_text offset ++ number_text size
call_text (call.WriteAt fd offset bytes append) =
    word (codes "WriteAt") ++ fd_text fd ++ number_text offset ++ bytes_text bytes ++ switch_text append
call_text (call.Truncate fd size) = word (codes "Truncate") ++ fd_text fd ++ number_text size
call_text (call.Allocate fd mode offset count) =
    word (codes "Allocate") ++ fd_text fd ++ number_text mode ++ number_text offset ++ number_text count
call_text (call.Seek fd offset whence) = word (codes "Seek") ++ fd_text fd ++ signed_text offset ++ number_text whence
call_text (call.CopyRange fd offset fd2 offset2 count flags) =
    word (codes "CopyRange") ++ fd_text fd ++ number_text offset ++ fd_text fd2 ++ number_text offset2
    ++ number_text count ++ number_text flags
call_text (call.ListAt fd offset size) =
    word (codes "ListAt") ++ fd_text fd ++ option_text number_text offset ++ number_text size
call_text (call.Flush fd) = word (codes "Flush") ++ fd_text fd
call_text (call.Sync fd datasync) = word (codes "Sync") ++ fd_text fd ++ switch_text datasync
call_text (call.SyncFs fd) = word (codes "SyncFs") ++ fd_text fd
-- modes, owners, times and attributes
call_text (call.ChMod fd through mode) = word (codes "ChMod") ++ fd_text fd ++ switch_text through ++ number_text mode
call_text (call.ChOwn fd uid gid) = word (codes "ChOwn") ++ fd_text fd ++ number_text uid ++ number_text gid
call_text (call.SetTimes fd through atime mtime) =
    word (codes "SetTimes") ++ fd_text fd ++ switch_text through ++ time_set_text atime ++ time_set_text mtime
call_text (call.SetXattr fd through name bytes flags) =
    word (codes "SetXattr") ++ fd_text fd ++ switch_text through ++ bytes_text name ++ bytes_text bytes
    ++ number_text flags
call_text (call.GetXattr fd through name size) =
    word (codes "GetXattr") ++ fd_text fd ++ switch_text through ++ bytes_text name ++ number_text size
call_text (call.ListXattr fd through size) =
    word (codes "ListXattr") ++ fd_text fd ++ switch_text through ++ number_text size
call_text (call.RemoveXattr fd through name) =
    word (codes "RemoveXattr") ++ fd_text fd ++ switch_text through ++ bytes_text name
-- the seat
call_text (call.SetGroups list) = word (codes "SetGroups") ++ groups_text list
call_text (call.SetEgid gid) = word (codes "SetEgid") ++ number_text gid
call_text (call.SetEuid uid) = word (codes "SetEuid") ++ number_text uid
call_text (call.RaiseCap caps) = word (codes "RaiseCap") ++ caps_text caps
call_text (call.DropCap caps) = word (codes "DropCap") ++ caps_text caps
call_text (call.SetUmask mask) = word (codes "SetUmask") ++ number_text mask
-- a change beside the requests
call_text (call.Edit edit) = word (codes "Edit") ++ edit_text edit

-- what a call that succeeded tells
abbrev pub value_text : HostValue → List ℕ
value_text value.Unit = word (codes "Unit")
value_text (value.Fd fd) = word (codes "Fd") ++ fd_text fd
value_text (value.Stat stat) = word (codes "Stat") ++ stat_text stat
value_text (value.Handle handle) = word (codes "Handle") ++ handle_text handle
value_text (value.FsStat stat) = word (codes "FsStat") ++ fs_stat_text stat
value_text (value.Bytes bytes) = word (codes "Bytes") ++ bytes_text bytes
value_text (value.Count count) = word (codes "Count") ++ number_text count

-- what a call was answered
abbrev pub host_reply_text : HostReply → List ℕ
host_reply_text (reply.Ok told) = word (codes "Ok") ++ value_text told
host_reply_text (reply.Refused errno) = word (codes "Refused") ++ errno_text errno
host_reply_text (reply.Fault errno) = word (codes "Fault") ++ errno_text errno
host_reply_text reply.NoMemory = word (codes "NoMemory")
