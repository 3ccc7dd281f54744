-- Believed. The texts of answers.
use Rattle.std.specs.Prelude.{ℕ, List, ◌++◌, codes, length}
use Rattle.pt_iface.specs.declared.entry.Attr.{Attr}
use Rattle.pt_iface.specs.declared.entry.Entry.{Entry}
use Rattle.pt_iface.specs.declared.entry.Timeout.{Timeout}
use Rattle.pt_iface.specs.declared.flags.FsOptions.{FsOptions}
use Rattle.pt_iface.specs.declared.flags.OpenOptions.{OpenOptions}
use Rattle.pt_iface.specs.declared.directory.DirEntry.{DirEntry}
use Rattle.pt_iface.specs.declared.answer.GetxattrReply.{GetxattrReply}
use Rattle.pt_iface.specs.declared.answer.GetxattrReply.TheVariants as xattr
use Rattle.pt_iface.specs.declared.answer.ListxattrReply.{ListxattrReply}
use Rattle.pt_iface.specs.declared.answer.ListxattrReply.TheVariants as xattrs
use Rattle.pt_iface.specs.declared.answer.Answer.{Answer}
use Rattle.pt_iface.specs.declared.answer.Answer.TheVariants as answer
use Rattle.pt_show.specs.Texts.{word, number_text, bytes_text, items_text}
use Rattle.pt_show.specs.HostTexts.{errno_text, time_text, fs_stat_text}

-- what an entry is made of
abbrev pub timeout_text : Timeout → List ℕ
timeout_text timeout = number_text timeout.secs ++ number_text timeout.nanos

abbrev pub attr_text : Attr → List ℕ
attr_text attr =
    number_text attr.ino ++ number_text attr.size ++ number_text attr.blocks ++ time_text attr.atime
    ++ time_text attr.mtime ++ time_text attr.ctime
    ++ number_text attr.mode ++ number_text attr.nlink ++ number_text attr.uid ++ number_text attr.gid
    ++ number_text attr.rdev
    ++ number_text attr.blksize ++ number_text attr.flags

abbrev pub entry_text : Entry → List ℕ
entry_text entry =
    number_text entry.inode ++ number_text entry.generation ++ attr_text entry.attr
    ++ timeout_text entry.attr_timeout ++ timeout_text entry.entry_timeout

-- options, as sets of bits
abbrev pub options_text : FsOptions → List ℕ
options_text options = number_text options.0

abbrev pub open_options_text : OpenOptions → List ℕ
open_options_text options = number_text options.0

-- listings
abbrev pub dir_entry_text : DirEntry → List ℕ
dir_entry_text entry =
    number_text entry.ino ++ number_text entry.offset ++ number_text entry.kind ++ bytes_text entry.name

abbrev pub listing_text : List DirEntry → List ℕ
listing_text entries = number_text (length entries) ++ items_text dir_entry_text entries

-- attributes and their names, or how many bytes they take
abbrev pub xattr_text : GetxattrReply → List ℕ
xattr_text (xattr.Value bytes) = word (codes "Value") ++ bytes_text bytes
xattr_text (xattr.Count count) = word (codes "Count") ++ number_text count

abbrev pub xattrs_text : ListxattrReply → List ℕ
xattrs_text (xattrs.Names bytes) = word (codes "Names") ++ bytes_text bytes
xattrs_text (xattrs.Count count) = word (codes "Count") ++ number_text count

-- an answer: its name and its fields in their order
abbrev pub answer_text : Answer → List ℕ
-- the session
answer_text answer.NoReply = word (codes "NoReply")
answer_text answer.Done = word (codes "Done")
answer_text (answer.Inited options) = word (codes "Inited") ++ options_text options
-- entries, handles and attributes
answer_text (answer.Entry entry) = word (codes "Entry") ++ entry_text entry
answer_text (answer.Opened handle options) = word (codes "Opened") ++ number_text handle ++ open_options_text options
answer_text (answer.Created entry handle options) =
    word (codes "Created") ++ entry_text entry ++ number_text handle ++ open_options_text options
answer_text (answer.Attr attr timeout) = word (codes "Attr") ++ attr_text attr ++ timeout_text timeout
-- contents
answer_text (answer.Read bytes) = word (codes "Read") ++ bytes_text bytes
answer_text (answer.Wrote count) = word (codes "Wrote") ++ number_text count
answer_text (answer.Link target) = word (codes "Link") ++ bytes_text target
answer_text (answer.FsStat stat) = word (codes "FsStat") ++ fs_stat_text stat
answer_text (answer.Listing entries) = word (codes "Listing") ++ listing_text entries
-- extended attributes, positions
answer_text (answer.Xattr told) = word (codes "Xattr") ++ xattr_text told
answer_text (answer.Xattrs told) = word (codes "Xattrs") ++ xattrs_text told
answer_text (answer.Offset place) = word (codes "Offset") ++ number_text place
-- edits, refusals and endings
answer_text answer.Edited = word (codes "Edited")
answer_text (answer.EditRefused errno) = word (codes "EditRefused") ++ errno_text errno
answer_text (answer.Refused errno) = word (codes "Refused") ++ errno_text errno
answer_text answer.NoMemory = word (codes "NoMemory")
answer_text answer.Cut = word (codes "Cut")
