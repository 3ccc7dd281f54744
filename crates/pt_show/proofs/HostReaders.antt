-- The texts of the host's calls and replies are read back.
use Rattle.std.proofs.Common.{◌≡◌, ℕ, ℤ, Bool, List, [], ◌∷◌, ◌++◌, Option, Some, refl}
use Rattle.std.specs.Prelude.{codes}
use Rattle.pt_host.specs.declared.edit.Edit.{Edit}
use Rattle.pt_host.specs.declared.edit.Edit.TheVariants as edit
use Rattle.pt_host.specs.declared.ids.Errno.{Errno}
use Rattle.pt_host.specs.declared.ids.Fd.{Fd}
use Rattle.pt_host.specs.declared.ids.ObjIds.{ObjIds}
use Rattle.pt_host.specs.declared.ids.Time.{Time}
use Rattle.pt_host.specs.declared.ids.TimeSet.{TimeSet}
use Rattle.pt_host.specs.declared.ids.TimeSet.TheVariants as set
use Rattle.pt_host.specs.declared.flags.Caps.{Caps}
use Rattle.pt_host.specs.declared.flags.OpenFlags.{OpenFlags}
use Rattle.pt_host.specs.declared.handle.CFileHandle.{CFileHandle}
use Rattle.pt_host.specs.declared.handle.FileHandle.{FileHandle}
use Rattle.pt_host.specs.declared.stat.FsStat.{FsStat}
use Rattle.pt_host.specs.declared.stat.Stat.{Stat}
use Rattle.pt_host.specs.declared.op.KeptHostOp.{KeptHostOp}
use Rattle.pt_host.specs.declared.op.KeptHostOp.TheVariants as call
use Rattle.pt_host.specs.declared.reply.HostValue.{HostValue}
use Rattle.pt_host.specs.declared.reply.HostValue.TheVariants as value
use Rattle.pt_host.specs.declared.reply.HostReply.{HostReply}
use Rattle.pt_host.specs.declared.reply.HostReply.TheVariants as reply
use Rattle.pt_show.specs.EditTexts.{edit_text}
use Rattle.pt_show.specs.HostTexts.{errno_text, fd_text, flags_text, ids_text, time_text, time_set_text, caps_text}
use Rattle.pt_show.specs.HostTexts.{c_handle_text, handle_text, stat_text, fs_stat_text, call_text, value_text}
use Rattle.pt_show.specs.HostTexts.{host_reply_text}
use Rattle.pt_show.specs.Laws.{IsParted}
use Rattle.pt_show.proofs.Readers.{Reads, nothing, both, along, options, lists, Kind, kind, read_kinds, named}
use Rattle.pt_show.proofs.PlainTexts.{numbers, signed, switches, byte_words}

pub errnos : Reads errno_text
errnos = along signed (λ (n : ℤ). record { 0 = n }) (λ (value : Errno). value.0) (λ value. refl)

pub fds : Reads fd_text
fds = along numbers (λ (n : ℕ). record { 0 = n }) (λ (value : Fd). value.0) (λ value. refl)

pub flag_sets : Reads flags_text
flag_sets = along numbers (λ (n : ℕ). record { 0 = n }) (λ (value : OpenFlags). value.0) (λ value. refl)

pub cap_sets : Reads caps_text
cap_sets = along numbers (λ (n : ℕ). record { 0 = n }) (λ (value : Caps). value.0) (λ value. refl)

pub obj_ids : Reads ids_text
obj_ids =
    along (both (both numbers numbers) numbers)
    (λ (f : (ℕ × ℕ) × ℕ). record { ino = f.0.0; dev = f.0.1; mnt_id = f.1 })
    (λ (value : ObjIds). ((value.ino, value.dev), value.mnt_id)) (λ value. refl)

pub times : Reads time_text
times =
    along (both signed numbers)
    (λ (f : ℤ × ℕ). record { sec = f.0; nsec = f.1 })
    (λ (value : Time). (value.sec, value.nsec)) (λ value. refl)

pub c_handles : Reads c_handle_text
c_handles =
    along (both signed byte_words)
    (λ (f : ℤ × List ℕ). record { handle_type = f.0; bytes = f.1 })
    (λ (value : CFileHandle). (value.handle_type, value.bytes)) (λ value. refl)

pub handles : Reads handle_text
handles =
    along (both numbers c_handles)
    (λ (f : ℕ × CFileHandle). record { mnt_id = f.0; handle = f.1 })
    (λ (value : FileHandle). (value.mnt_id, value.handle)) (λ value. refl)

pub stats : Reads stat_text
stats =
    along (both (both (both (both (both (both (both (both (both (both (both obj_ids numbers) numbers) numbers)
    numbers) numbers) numbers) numbers) numbers) times) times) times)
    (λ (f : ((((((((((ObjIds × ℕ) × ℕ) × ℕ) × ℕ) × ℕ) × ℕ) × ℕ) × ℕ) × Time) × Time) × Time). record {
      ids = f.0.0.0.0.0.0.0.0.0.0.0;
      mode = f.0.0.0.0.0.0.0.0.0.0.1;
      nlink = f.0.0.0.0.0.0.0.0.0.1;
      uid =
          f.0.0.0.0.0.0.0.0.1;
      gid = f.0.0.0.0.0.0.0.1;
      rdev = f.0.0.0.0.0.0.1;
      size = f.0.0.0.0.0.1;
      blksize =
          f.0.0.0.0.1;
      blocks = f.0.0.0.1;
      atime = f.0.0.1;
      mtime = f.0.1;
      ctime = f.1;
    })
    (λ (value : Stat). (
      (
        (
          (
            (
              (
                (((((value.ids, value.mode), value.nlink), value.uid), value.gid), value.rdev),
                value.size,
              ),
              value.blksize,
            ),
            value.blocks,
          ),
          value.atime,
        ),
        value.mtime,
      ),
      value.ctime,
    )) (λ value. refl)

pub fs_stats : Reads fs_stat_text
fs_stats =
    along (both (both (both (both (both (both (both numbers numbers) numbers) numbers) numbers) numbers) numbers)
    numbers)
    (λ (f : ((((((ℕ × ℕ) × ℕ) × ℕ) × ℕ) × ℕ) × ℕ) × ℕ). record {
      blocks = f.0.0.0.0.0.0.0;
      bfree = f.0.0.0.0.0.0.1;
      bavail = f.0.0.0.0.0.1;
      files = f.0.0.0.0.1;
      ffree = f.0.0.0.1;
      bsize = f.0.0.1;
      namelen = f.0.1;
      frsize = f.1;
    })
    (λ (value : FsStat). (
      (
        (((((value.blocks, value.bfree), value.bavail), value.files), value.ffree), value.bsize),
        value.namelen,
      ),
      value.frsize,
    )) (λ value. refl)

-- what a time is set to
abbrev pub time_set_kinds : List (Kind TimeSet)
time_set_kinds =
    kind (codes "Omit") nothing (λ (none : Unit {0}). set.Omit)
    ∷ kind (codes "Now") nothing (λ (none : Unit {0}). set.Now)
    ∷ kind (codes "At") times (λ (a : Time). set.At a)
    ∷ []

pub time_set-back : (value : TimeSet) (rest : List ℕ) → IsParted rest →
    read_kinds time_set_kinds (time_set_text value ++ rest) ≡ Some (value, rest)
time_set-back set.Omit rest p =
    named time_set_kinds (codes "Omit") nothing (λ (none : Unit {0}). set.Omit) refl (λ _. refl) tt rest p
time_set-back set.Now rest p =
    named time_set_kinds (codes "Now") nothing (λ (none : Unit {0}). set.Now) refl (λ _. refl) tt rest p
time_set-back (set.At time) rest p =
    named time_set_kinds (codes "At") times (λ (a : Time). set.At a) refl (λ _. refl) time rest p

time_set-parted : (value : TimeSet) (rest : List ℕ) → IsParted (time_set_text value ++ rest)
time_set-parted set.Omit rest = refl
time_set-parted other rest = refl

pub time_sets : Reads time_set_text
time_sets = record {
  read = read_kinds time_set_kinds;
  back = time_set-back;
  parted = λ value rest p. time_set-parted value rest;
}

-- edits
abbrev pub edit_kinds : List (Kind Edit)
edit_kinds =
    kind (codes "Unlink") byte_words (λ (a : List ℕ). edit.Unlink a)
    ∷ kind (codes "Rename") (both byte_words byte_words) (λ (f : List ℕ × List ℕ). edit.Rename f.0 f.1)
    ∷ kind (codes "File") (both (both (both (both byte_words numbers) numbers) numbers) byte_words)
    (λ (f : (((List ℕ × ℕ) × ℕ) × ℕ) × List ℕ). edit.File f.0.0.0.0 f.0.0.0.1 f.0.0.1 f.0.1 f.1)
    ∷ kind (codes "Dir") (both (both (both byte_words numbers) numbers) numbers)
    (λ (f : ((List ℕ × ℕ) × ℕ) × ℕ). edit.Dir f.0.0.0 f.0.0.1 f.0.1 f.1)
    ∷ kind (codes "Write") (both byte_words byte_words) (λ (f : List ℕ × List ℕ). edit.Write f.0 f.1)
    ∷ []

pub edit-back : (value : Edit) (rest : List ℕ) → IsParted rest →
    read_kinds edit_kinds (edit_text value ++ rest) ≡ Some (value, rest)
edit-back (edit.Unlink path) rest p =
    named edit_kinds (codes "Unlink") byte_words (λ (a : List ℕ). edit.Unlink a) refl (λ _. refl) path rest p
edit-back (edit.Rename old new) rest p =
    named edit_kinds (codes "Rename") (both byte_words byte_words) (λ (f : List ℕ × List ℕ). edit.Rename f.0 f.1)
    refl (λ _. refl) (old, new) rest p
edit-back (edit.File path mode uid gid bytes) rest p =
    named edit_kinds (codes "File") (both (both (both (both byte_words numbers) numbers) numbers) byte_words)
    (λ (f : (((List ℕ × ℕ) × ℕ) × ℕ) × List ℕ). edit.File f.0.0.0.0 f.0.0.0.1 f.0.0.1 f.0.1 f.1) refl (λ _. refl)
    ((((path, mode), uid), gid), bytes) rest p
edit-back (edit.Dir path mode uid gid) rest p =
    named edit_kinds (codes "Dir") (both (both (both byte_words numbers) numbers) numbers)
    (λ (f : ((List ℕ × ℕ) × ℕ) × ℕ). edit.Dir f.0.0.0 f.0.0.1 f.0.1 f.1) refl (λ _. refl) (((path, mode), uid), gid)
    rest p
edit-back (edit.Write path bytes) rest p =
    named edit_kinds (codes "Write") (both byte_words byte_words) (λ (f : List ℕ × List ℕ). edit.Write f.0 f.1) refl
    (λ _. refl) (path, bytes) rest p

edit-parted : (value : Edit) (rest : List ℕ) → IsParted (edit_text value ++ rest)
edit-parted (edit.Unlink path) rest = refl
edit-parted other rest = refl

pub edits : Reads edit_text
edits = record {
  read = read_kinds edit_kinds;
  back = edit-back;
  parted = λ value rest p. edit-parted value rest;
}

-- calls
abbrev pub call_kinds : List (Kind KeptHostOp)
call_kinds =
    kind (codes "OpenRoot") (both byte_words flag_sets) (λ (f : List ℕ × OpenFlags). call.OpenRoot f.0 f.1)
    ∷ kind (codes "OpenPath") (both (both fds byte_words) flag_sets)
    (λ (f : (Fd × List ℕ) × OpenFlags). call.OpenPath f.0.0 f.0.1 f.1)
    ∷ kind (codes "OpenAt") (both (both (both fds byte_words) flag_sets) numbers)
    (λ (f : ((Fd × List ℕ) × OpenFlags) × ℕ). call.OpenAt f.0.0.0 f.0.0.1 f.0.1 f.1)
    ∷ kind (codes "Reopen") (both fds flag_sets) (λ (f : Fd × OpenFlags). call.Reopen f.0 f.1)
    ∷ kind (codes "OpenByHandle") (both (both fds c_handles) flag_sets)
    (λ (f : (Fd × CFileHandle) × OpenFlags). call.OpenByHandle f.0.0 f.0.1 f.1)
    ∷ kind (codes "Close") fds (λ (a : Fd). call.Close a)
    ∷ kind (codes "Stat") fds (λ (a : Fd). call.Stat a)
    ∷ kind (codes "HandleOf") fds (λ (a : Fd). call.HandleOf a)
    ∷ kind (codes "StatFs") fds (λ (a : Fd). call.StatFs a)
    ∷ kind (codes "ReadLink") fds (λ (a : Fd). call.ReadLink a)
    ∷ kind (codes "FdPath") fds (λ (a : Fd). call.FdPath a)
    ∷ kind (codes "MountInfo") nothing (λ (none : Unit {0}). call.MountInfo)
    ∷ kind (codes "MakeDir") (both (both fds byte_words) numbers) (λ (f : (Fd × List ℕ) × ℕ). call.MakeDir f.0.0
    f.0.1 f.1)
    ∷ kind (codes "MakeNode") (both (both (both fds byte_words) numbers) numbers)
    (λ (f : ((Fd × List ℕ) × ℕ) × ℕ). call.MakeNode f.0.0.0 f.0.0.1 f.0.1 f.1)
    ∷ kind (codes "MakeLink") (both (both fds fds) byte_words) (λ (f : (Fd × Fd) × List ℕ). call.MakeLink f.0.0 f.0.1
    f.1)
    ∷ kind (codes "SymLink") (both (both fds byte_words) byte_words)
    (λ (f : (Fd × List ℕ) × List ℕ). call.SymLink f.0.0 f.0.1 f.1)
    ∷ kind (codes "Unlink") (both fds byte_words) (λ (f : Fd × List ℕ). call.Unlink f.0 f.1)
    ∷ kind (codes "RemoveDir") (both fds byte_words) (λ (f : Fd × List ℕ). call.RemoveDir f.0 f.1)
    ∷ kind (codes "Rename") (both (both (both (both fds byte_words) fds) byte_words) numbers)
    (λ (f : (((Fd × List ℕ) × Fd) × List ℕ) × ℕ). call.Rename f.0.0.0.0 f.0.0.0.1 f.0.0.1 f.0.1 f.1)
    ∷ kind (codes "ReadAt") (both (both fds numbers) numbers) (λ (f : (Fd × ℕ) × ℕ). call.ReadAt f.0.0 f.0.1 f.1)
    ∷ kind (codes "WriteAt") (both (both (both fds numbers) byte_words) switches)
    (λ (f : ((Fd × ℕ) × List ℕ) × Bool). call.WriteAt f.0.0.0 f.0.0.1 f.0.1 f.1)
    ∷ kind (codes "Truncate") (both fds numbers) (λ (f : Fd × ℕ). call.Truncate f.0 f.1)
    ∷ kind (codes "Allocate") (both (both (both fds numbers) numbers) numbers)
    (λ (f : ((Fd × ℕ) × ℕ) × ℕ). call.Allocate f.0.0.0 f.0.0.1 f.0.1 f.1)
    ∷ kind (codes "Seek") (both (both fds signed) numbers) (λ (f : (Fd × ℤ) × ℕ). call.Seek f.0.0 f.0.1 f.1)
    ∷ kind (codes "CopyRange") (both (both (both (both (both fds numbers) fds) numbers) numbers) numbers)
    (λ (f : ((((Fd × ℕ) × Fd) × ℕ) × ℕ) × ℕ). call.CopyRange f.0.0.0.0.0 f.0.0.0.0.1 f.0.0.0.1 f.0.0.1 f.0.1 f.1)
    ∷ kind (codes "ListAt") (both (both fds (options numbers)) numbers)
    (λ (f : (Fd × Option ℕ) × ℕ). call.ListAt f.0.0 f.0.1 f.1)
    ∷ kind (codes "Flush") fds (λ (a : Fd). call.Flush a)
    ∷ kind (codes "Sync") (both fds switches) (λ (f : Fd × Bool). call.Sync f.0 f.1)
    ∷ kind (codes "SyncFs") fds (λ (a : Fd). call.SyncFs a)
    ∷ kind (codes "ChMod") (both (both fds switches) numbers) (λ (f : (Fd × Bool) × ℕ). call.ChMod f.0.0 f.0.1 f.1)
    ∷ kind (codes "ChOwn") (both (both fds numbers) numbers) (λ (f : (Fd × ℕ) × ℕ). call.ChOwn f.0.0 f.0.1 f.1)
    ∷ kind (codes "SetTimes") (both (both (both fds switches) time_sets) time_sets)
    (λ (f : ((Fd × Bool) × TimeSet) × TimeSet). call.SetTimes f.0.0.0 f.0.0.1 f.0.1 f.1)
    ∷ kind (codes "SetXattr") (both (both (both (both fds switches) byte_words) byte_words) numbers)
    (λ (f : (((Fd × Bool) × List ℕ) × List ℕ) × ℕ). call.SetXattr f.0.0.0.0 f.0.0.0.1 f.0.0.1 f.0.1 f.1)
    ∷ kind (codes "GetXattr") (both (both (both fds switches) byte_words) numbers)
    (λ (f : ((Fd × Bool) × List ℕ) × ℕ). call.GetXattr f.0.0.0 f.0.0.1 f.0.1 f.1)
    ∷ kind (codes "ListXattr") (both (both fds switches) numbers) (λ (f : (Fd × Bool) × ℕ). call.ListXattr f.0.0
    f.0.1 f.1)
    ∷ kind (codes "RemoveXattr") (both (both fds switches) byte_words)
    (λ (f : (Fd × Bool) × List ℕ). call.RemoveXattr f.0.0 f.0.1 f.1)
    ∷ kind (codes "SetGroups") (lists numbers numbers) (λ (a : List ℕ). call.SetGroups a)
    ∷ kind (codes "SetEgid") numbers (λ (a : ℕ). call.SetEgid a)
    ∷ kind (codes "SetEuid") numbers (λ (a : ℕ). call.SetEuid a)
    ∷ kind (codes "RaiseCap") cap_sets (λ (a : Caps). call.RaiseCap a)
    ∷ kind (codes "DropCap") cap_sets (λ (a : Caps). call.DropCap a)
    ∷ kind (codes "SetUmask") numbers (λ (a : ℕ). call.SetUmask a)
    ∷ kind (codes "Edit") edits (λ (a : Edit). call.Edit a)
    ∷ []

pub call-back : (value : KeptHostOp) (rest : List ℕ) → IsParted rest →
    read_kinds call_kinds (call_text value ++ rest) ≡ Some (value, rest)
call-back (call.OpenRoot path flags) rest p =
    named call_kinds (codes "OpenRoot") (both byte_words flag_sets)
    (λ (f : List ℕ × OpenFlags). call.OpenRoot f.0 f.1) refl (λ _. refl) (path, flags) rest p
call-back (call.OpenPath fd path flags) rest p =
    named call_kinds (codes "OpenPath") (both (both fds byte_words) flag_sets)
    (λ (f : (Fd × List ℕ) × OpenFlags). call.OpenPath f.0.0 f.0.1 f.1) refl (λ _. refl) ((fd, path), flags) rest p
call-back (call.OpenAt fd name flags mode) rest p =
    named call_kinds (codes "OpenAt") (both (both (both fds byte_words) flag_sets) numbers)
    (λ (f : ((Fd × List ℕ) × OpenFlags) × ℕ). call.OpenAt f.0.0.0 f.0.0.1 f.0.1 f.1) refl (λ _. refl)
    (((fd, name), flags), mode) rest p
call-back (call.Reopen fd flags) rest p =
    named call_kinds (codes "Reopen") (both fds flag_sets) (λ (f : Fd × OpenFlags). call.Reopen f.0 f.1) refl
    (λ _. refl) (fd, flags) rest p
call-back (call.OpenByHandle fd handle flags) rest p =
    named call_kinds (codes "OpenByHandle") (both (both fds c_handles) flag_sets)
    (λ (f : (Fd × CFileHandle) × OpenFlags). call.OpenByHandle f.0.0 f.0.1 f.1) refl (λ _. refl)
    ((fd, handle), flags) rest p
call-back (call.Close fd) rest p =
    named call_kinds (codes "Close") fds (λ (a : Fd). call.Close a) refl (λ _. refl) fd rest p
call-back (call.Stat fd) rest p =
    named call_kinds (codes "Stat") fds (λ (a : Fd). call.Stat a) refl (λ _. refl) fd rest p
call-back (call.HandleOf fd) rest p =
    named call_kinds (codes "HandleOf") fds (λ (a : Fd). call.HandleOf a) refl (λ _. refl) fd rest p
call-back (call.StatFs fd) rest p =
    named call_kinds (codes "StatFs") fds (λ (a : Fd). call.StatFs a) refl (λ _. refl) fd rest p
call-back (call.ReadLink fd) rest p =
    named call_kinds (codes "ReadLink") fds (λ (a : Fd). call.ReadLink a) refl (λ _. refl) fd rest p
call-back (call.FdPath fd) rest p =
    named call_kinds (codes "FdPath") fds (λ (a : Fd). call.FdPath a) refl (λ _. refl) fd rest p
call-back call.MountInfo rest p =
    named call_kinds (codes "MountInfo") nothing (λ (none : Unit {0}). call.MountInfo) refl (λ _. refl) tt rest p
call-back (call.MakeDir fd name mode) rest p =
    named call_kinds (codes "MakeDir") (both (both fds byte_words) numbers)
    (λ (f : (Fd × List ℕ) × ℕ). call.MakeDir f.0.0 f.0.1 f.1) refl (λ _. refl) ((fd, name), mode) rest p
call-back (call.MakeNode fd name mode rdev) rest p =
    named call_kinds (codes "MakeNode") (both (both (both fds byte_words) numbers) numbers)
    (λ (f : ((Fd × List ℕ) × ℕ) × ℕ). call.MakeNode f.0.0.0 f.0.0.1 f.0.1 f.1) refl (λ _. refl)
    (((fd, name), mode), rdev) rest p
call-back (call.MakeLink from fd name) rest p =
    named call_kinds (codes "MakeLink") (both (both fds fds) byte_words)
    (λ (f : (Fd × Fd) × List ℕ). call.MakeLink f.0.0 f.0.1 f.1) refl (λ _. refl) ((from, fd), name) rest p
call-back (call.SymLink fd name target) rest p =
    named call_kinds (codes "SymLink") (both (both fds byte_words) byte_words)
    (λ (f : (Fd × List ℕ) × List ℕ). call.SymLink f.0.0 f.0.1 f.1) refl (λ _. refl) ((fd, name), target) rest p
call-back (call.Unlink fd name) rest p =
    named call_kinds (codes "Unlink") (both fds byte_words) (λ (f : Fd × List ℕ). call.Unlink f.0 f.1) refl
    (λ _. refl) (fd, name) rest p
call-back (call.RemoveDir fd name) rest p =
    named call_kinds (codes "RemoveDir") (both fds byte_words) (λ (f : Fd × List ℕ). call.RemoveDir f.0 f.1) refl
    (λ _. refl) (fd, name) rest p
call-back (call.Rename fd name fd2 name2 flags) rest p =
    named call_kinds (codes "Rename") (both (both (both (both fds byte_words) fds) byte_words) numbers)
    (λ (f : (((Fd × List ℕ) × Fd) × List ℕ) × ℕ). call.Rename f.0.0.0.0 f.0.0.0.1 f.0.0.1 f.0.1 f.1) refl (λ _. refl)
    ((((fd, name), fd2), name2), flags) rest p
call-back (call.ReadAt fd offset size) rest p =
    named call_kinds (codes "ReadAt") (both (both fds numbers) numbers)
    (λ (f : (Fd × ℕ) × ℕ). call.ReadAt f.0.0 f.0.1 f.1) refl (λ _. refl) ((fd, offset), size) rest p
call-back (call.WriteAt fd offset bytes append) rest p =
    named call_kinds (codes "WriteAt") (both (both (both fds numbers) byte_words) switches)
    (λ (f : ((Fd × ℕ) × List ℕ) × Bool). call.WriteAt f.0.0.0 f.0.0.1 f.0.1 f.1) refl (λ _. refl)
    (((fd, offset), bytes), append) rest p
call-back (call.Truncate fd size) rest p =
    named call_kinds (codes "Truncate") (both fds numbers) (λ (f : Fd × ℕ). call.Truncate f.0 f.1) refl (λ _. refl)
    (fd, size) rest p
call-back (call.Allocate fd mode offset count) rest p =
    named call_kinds (codes "Allocate") (both (both (both fds numbers) numbers) numbers)
    (λ (f : ((Fd × ℕ) × ℕ) × ℕ). call.Allocate f.0.0.0 f.0.0.1 f.0.1 f.1) refl (λ _. refl)
    (((fd, mode), offset), count) rest p
call-back (call.Seek fd offset whence) rest p =
    named call_kinds (codes "Seek") (both (both fds signed) numbers)
    (λ (f : (Fd × ℤ) × ℕ). call.Seek f.0.0 f.0.1 f.1) refl (λ _. refl) ((fd, offset), whence) rest p
call-back (call.CopyRange fd offset fd2 offset2 count flags) rest p =
    named call_kinds (codes "CopyRange") (both (both (both (both (both fds numbers) fds) numbers) numbers) numbers)
    (λ (f : ((((Fd × ℕ) × Fd) × ℕ) × ℕ) × ℕ). call.CopyRange f.0.0.0.0.0 f.0.0.0.0.1 f.0.0.0.1 f.0.0.1 f.0.1 f.1)
    refl (λ _. refl) (((((fd, offset), fd2), offset2), count), flags) rest p
call-back (call.ListAt fd offset size) rest p =
    named call_kinds (codes "ListAt") (both (both fds (options numbers)) numbers)
    (λ (f : (Fd × Option ℕ) × ℕ). call.ListAt f.0.0 f.0.1 f.1) refl (λ _. refl) ((fd, offset), size) rest p
call-back (call.Flush fd) rest p =
    named call_kinds (codes "Flush") fds (λ (a : Fd). call.Flush a) refl (λ _. refl) fd rest p
call-back (call.Sync fd datasync) rest p =
    named call_kinds (codes "Sync") (both fds switches) (λ (f : Fd × Bool). call.Sync f.0 f.1) refl (λ _. refl)
    (fd, datasync) rest p
call-back (call.SyncFs fd) rest p =
    named call_kinds (codes "SyncFs") fds (λ (a : Fd). call.SyncFs a) refl (λ _. refl) fd rest p
call-back (call.ChMod fd through mode) rest p =
    named call_kinds (codes "ChMod") (both (both fds switches) numbers)
    (λ (f : (Fd × Bool) × ℕ). call.ChMod f.0.0 f.0.1 f.1) refl (λ _. refl) ((fd, through), mode) rest p
call-back (call.ChOwn fd uid gid) rest p =
    named call_kinds (codes "ChOwn") (both (both fds numbers) numbers)
    (λ (f : (Fd × ℕ) × ℕ). call.ChOwn f.0.0 f.0.1 f.1) refl (λ _. refl) ((fd, uid), gid) rest p
call-back (call.SetTimes fd through atime mtime) rest p =
    named call_kinds (codes "SetTimes") (both (both (both fds switches) time_sets) time_sets)
    (λ (f : ((Fd × Bool) × TimeSet) × TimeSet). call.SetTimes f.0.0.0 f.0.0.1 f.0.1 f.1) refl (λ _. refl)
    (((fd, through), atime), mtime) rest p
call-back (call.SetXattr fd through name bytes flags) rest p =
    named call_kinds (codes "SetXattr") (both (both (both (both fds switches) byte_words) byte_words) numbers)
    (λ (f : (((Fd × Bool) × List ℕ) × List ℕ) × ℕ). call.SetXattr f.0.0.0.0 f.0.0.0.1 f.0.0.1 f.0.1 f.1) refl
    (λ _. refl) ((((fd, through), name), bytes), flags) rest p
call-back (call.GetXattr fd through name size) rest p =
    named call_kinds (codes "GetXattr") (both (both (both fds switches) byte_words) numbers)
    (λ (f : ((Fd × Bool) × List ℕ) × ℕ). call.GetXattr f.0.0.0 f.0.0.1 f.0.1 f.1) refl (λ _. refl)
    (((fd, through), name), size) rest p
call-back (call.ListXattr fd through size) rest p =
    named call_kinds (codes "ListXattr") (both (both fds switches) numbers)
    (λ (f : (Fd × Bool) × ℕ). call.ListXattr f.0.0 f.0.1 f.1) refl (λ _. refl) ((fd, through), size) rest p
call-back (call.RemoveXattr fd through name) rest p =
    named call_kinds (codes "RemoveXattr") (both (both fds switches) byte_words)
    (λ (f : (Fd × Bool) × List ℕ). call.RemoveXattr f.0.0 f.0.1 f.1) refl (λ _. refl) ((fd, through), name) rest p
call-back (call.SetGroups list) rest p =
    named call_kinds (codes "SetGroups") (lists numbers numbers) (λ (a : List ℕ). call.SetGroups a) refl (λ _. refl)
    list rest p
call-back (call.SetEgid gid) rest p =
    named call_kinds (codes "SetEgid") numbers (λ (a : ℕ). call.SetEgid a) refl (λ _. refl) gid rest p
call-back (call.SetEuid uid) rest p =
    named call_kinds (codes "SetEuid") numbers (λ (a : ℕ). call.SetEuid a) refl (λ _. refl) uid rest p
call-back (call.RaiseCap caps) rest p =
    named call_kinds (codes "RaiseCap") cap_sets (λ (a : Caps). call.RaiseCap a) refl (λ _. refl) caps rest p
call-back (call.DropCap caps) rest p =
    named call_kinds (codes "DropCap") cap_sets (λ (a : Caps). call.DropCap a) refl (λ _. refl) caps rest p
call-back (call.SetUmask mask) rest p =
    named call_kinds (codes "SetUmask") numbers (λ (a : ℕ). call.SetUmask a) refl (λ _. refl) mask rest p
call-back (call.Edit edit) rest p =
    named call_kinds (codes "Edit") edits (λ (a : Edit). call.Edit a) refl (λ _. refl) edit rest p

call-parted : (value : KeptHostOp) (rest : List ℕ) → IsParted (call_text value ++ rest)
call-parted (call.OpenRoot path flags) rest = refl
call-parted other rest = refl

pub calls : Reads call_text
calls = record {
  read = read_kinds call_kinds;
  back = call-back;
  parted = λ value rest p. call-parted value rest;
}

-- values
abbrev pub host_value_kinds : List (Kind HostValue)
host_value_kinds =
    kind (codes "Unit") nothing (λ (none : Unit {0}). value.Unit)
    ∷ kind (codes "Fd") fds (λ (a : Fd). value.Fd a)
    ∷ kind (codes "Stat") stats (λ (a : Stat). value.Stat a)
    ∷ kind (codes "Handle") handles (λ (a : FileHandle). value.Handle a)
    ∷ kind (codes "FsStat") fs_stats (λ (a : FsStat). value.FsStat a)
    ∷ kind (codes "Bytes") byte_words (λ (a : List ℕ). value.Bytes a)
    ∷ kind (codes "Count") numbers (λ (a : ℕ). value.Count a)
    ∷ []

pub host_value-back : (value : HostValue) (rest : List ℕ) → IsParted rest →
    read_kinds host_value_kinds (value_text value ++ rest) ≡ Some (value, rest)
host_value-back value.Unit rest p =
    named host_value_kinds (codes "Unit") nothing (λ (none : Unit {0}). value.Unit) refl (λ _. refl) tt rest p
host_value-back (value.Fd fd) rest p =
    named host_value_kinds (codes "Fd") fds (λ (a : Fd). value.Fd a) refl (λ _. refl) fd rest p
host_value-back (value.Stat stat) rest p =
    named host_value_kinds (codes "Stat") stats (λ (a : Stat). value.Stat a) refl (λ _. refl) stat rest p
host_value-back (value.Handle handle) rest p =
    named host_value_kinds (codes "Handle") handles (λ (a : FileHandle). value.Handle a) refl (λ _. refl) handle rest
    p
host_value-back (value.FsStat stat) rest p =
    named host_value_kinds (codes "FsStat") fs_stats (λ (a : FsStat). value.FsStat a) refl (λ _. refl) stat rest p
host_value-back (value.Bytes bytes) rest p =
    named host_value_kinds (codes "Bytes") byte_words (λ (a : List ℕ). value.Bytes a) refl (λ _. refl) bytes rest p
host_value-back (value.Count count) rest p =
    named host_value_kinds (codes "Count") numbers (λ (a : ℕ). value.Count a) refl (λ _. refl) count rest p

host_value-parted : (value : HostValue) (rest : List ℕ) → IsParted (value_text value ++ rest)
host_value-parted value.Unit rest = refl
host_value-parted other rest = refl

pub host_values : Reads value_text
host_values = record {
  read = read_kinds host_value_kinds;
  back = host_value-back;
  parted = λ value rest p. host_value-parted value rest;
}

-- replies
abbrev pub host_reply_kinds : List (Kind HostReply)
host_reply_kinds =
    kind (codes "Ok") host_values (λ (a : HostValue). reply.Ok a)
    ∷ kind (codes "Refused") errnos (λ (a : Errno). reply.Refused a)
    ∷ kind (codes "Fault") errnos (λ (a : Errno). reply.Fault a)
    ∷ kind (codes "NoMemory") nothing (λ (none : Unit {0}). reply.NoMemory)
    ∷ []

pub host_reply-back : (value : HostReply) (rest : List ℕ) → IsParted rest →
    read_kinds host_reply_kinds (host_reply_text value ++ rest) ≡ Some (value, rest)
host_reply-back (reply.Ok told) rest p =
    named host_reply_kinds (codes "Ok") host_values (λ (a : HostValue). reply.Ok a) refl (λ _. refl) told rest p
host_reply-back (reply.Refused errno) rest p =
    named host_reply_kinds (codes "Refused") errnos (λ (a : Errno). reply.Refused a) refl (λ _. refl) errno rest p
host_reply-back (reply.Fault errno) rest p =
    named host_reply_kinds (codes "Fault") errnos (λ (a : Errno). reply.Fault a) refl (λ _. refl) errno rest p
host_reply-back reply.NoMemory rest p =
    named host_reply_kinds (codes "NoMemory") nothing (λ (none : Unit {0}). reply.NoMemory) refl (λ _. refl) tt rest p

host_reply-parted : (value : HostReply) (rest : List ℕ) → IsParted (host_reply_text value ++ rest)
host_reply-parted (reply.Ok told) rest = refl
host_reply-parted other rest = refl

pub host_replies : Reads host_reply_text
host_replies = record {
  read = read_kinds host_reply_kinds;
  back = host_reply-back;
  parted = λ value rest p. host_reply-parted value rest;
}
