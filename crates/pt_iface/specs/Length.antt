-- Believed. How long replies are, after the structures of `linux/fuse.h`.
use Rattle.std.specs.Prelude.{ℕ, ◌+◌, ◌-◌, ◌^◌, min, length, sum_by}
use Rattle.std.specs.Int.{next_multiple_of}
use Rattle.pt_iface.specs.declared.answer.Answer.{Answer}
use Rattle.pt_iface.specs.declared.answer.Answer.TheVariants as answer
use Rattle.pt_iface.specs.declared.answer.GetxattrReply.TheVariants as xattr
use Rattle.pt_iface.specs.declared.answer.ListxattrReply.TheVariants as xattrs
use Rattle.pt_iface.specs.declared.directory.DirEntry.{DirEntry}

-- `struct fuse_dirent` and its name, filled up to a multiple of 8
abbrev pub entry_len : DirEntry → ℕ
entry_len entry = next_multiple_of (24 + length entry.name) 8

-- `struct fuse_out_header`, 16 bytes, and what follows it; nothing where there is no reply
abbrev pub reply_len : Answer → ℕ
reply_len answer.NoReply = 0
reply_len answer.Done = 16
reply_len (answer.Inited options) = 80
reply_len (answer.Entry entry) = 144
reply_len (answer.Opened handle options) = 32
reply_len (answer.Created entry handle options) = 160
reply_len (answer.Attr attr timeout) = 120
reply_len (answer.Read bytes) = 16 + length bytes
reply_len (answer.Wrote count) = 24
reply_len (answer.Link target) = 16 + length target
reply_len (answer.FsStat stat) = 96
reply_len (answer.Listing entries) = 16 + sum_by entry_len entries
reply_len (answer.Xattr (xattr.Value value)) = 16 + length value
reply_len (answer.Xattr (xattr.Count count)) = 24
reply_len (answer.Xattrs (xattrs.Names names)) = 16 + length names
reply_len (answer.Xattrs (xattrs.Count count)) = 24
reply_len (answer.Offset place) = 24
reply_len answer.Edited = 0
reply_len (answer.EditRefused errno) = 0
reply_len (answer.Refused errno) = 16
reply_len answer.NoMemory = 16
reply_len answer.Cut = 0

-- a length past the end of its type is told as the type's last number
abbrev pub told : ℕ → ℕ
told len = min len (2 ^ 64 - 1)

abbrev pub used_len : Answer → ℕ
used_len reply = told (reply_len reply)
