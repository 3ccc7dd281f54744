-- The texts of answers are read back.
use Rattle.std.proofs.Common.{◌≡◌, ℕ, List, [], ◌∷◌, ◌++◌, Some, refl}
use Rattle.std.specs.Prelude.{codes}
use Rattle.pt_host.specs.declared.ids.Errno.{Errno}
use Rattle.pt_host.specs.declared.ids.Time.{Time}
use Rattle.pt_host.specs.declared.stat.FsStat.{FsStat}
use Rattle.pt_iface.specs.declared.entry.Attr.{Attr}
use Rattle.pt_iface.specs.declared.entry.Entry.{Entry}
use Rattle.pt_iface.specs.declared.entry.Timeout.{Timeout}
use Rattle.pt_iface.specs.declared.flags.FsOptions.{FsOptions}
use Rattle.pt_iface.specs.declared.flags.OpenOptions.{OpenOptions}
use Rattle.pt_iface.specs.declared.directory.DirEntry.{DirEntry}
use Rattle.pt_iface.specs.declared.answer.GetxattrReply.{GetxattrReply}
use Rattle.pt_iface.specs.declared.answer.GetxattrReply.TheVariants as xattr
use Rattle.pt_iface.specs.declared.answer.ListxattrReply.{ListxattrReply}
use Rattle.pt_iface.specs.declared.answer.ListxattrReply.TheVariants as xattrs
use Rattle.pt_iface.specs.declared.answer.Answer.{Answer}
use Rattle.pt_iface.specs.declared.answer.Answer.TheVariants as answer
use Rattle.pt_show.specs.AnswerTexts.{timeout_text, attr_text, entry_text, options_text, open_options_text}
use Rattle.pt_show.specs.AnswerTexts.{dir_entry_text, xattr_text, xattrs_text, answer_text}
use Rattle.pt_show.specs.Laws.{IsParted}
use Rattle.pt_show.proofs.Readers.{Reads, nothing, both, along, lists, Kind, kind, read_kinds, named}
use Rattle.pt_show.proofs.PlainTexts.{numbers, byte_words}
use Rattle.pt_show.proofs.HostReaders.{errnos, times, fs_stats}

pub timeouts : Reads timeout_text
timeouts =
    along (both numbers numbers)
    (λ (f : ℕ × ℕ). record { secs = f.0; nanos = f.1 })
    (λ (value : Timeout). (value.secs, value.nanos)) (λ value. refl)

pub attrs : Reads attr_text
attrs =
    along (both (both (both (both (both (both (both (both (both (both (both (both numbers numbers) numbers) times)
    times) times) numbers) numbers) numbers) numbers) numbers) numbers) numbers)
    (λ (f : (((((((((((ℕ × ℕ) × ℕ) × Time) × Time) × Time) × ℕ) × ℕ) × ℕ) × ℕ) × ℕ) × ℕ) × ℕ). record {
      ino = f.0.0.0.0.0.0.0.0.0.0.0.0;
      size = f.0.0.0.0.0.0.0.0.0.0.0.1;
      blocks = f.0.0.0.0.0.0.0.0.0.0.1;
      atime =
          f.0.0.0.0.0.0.0.0.0.1;
      mtime = f.0.0.0.0.0.0.0.0.1;
      ctime = f.0.0.0.0.0.0.0.1;
      mode = f.0.0.0.0.0.0.1;
      nlink =
          f.0.0.0.0.0.1;
      uid = f.0.0.0.0.1;
      gid = f.0.0.0.1;
      rdev = f.0.0.1;
      blksize = f.0.1;
      flags = f.1;
    })
    (λ (value : Attr). (
      (
        (
          (
            (
              (
                (
                  (((((value.ino, value.size), value.blocks), value.atime), value.mtime), value.ctime),
                  value.mode,
                ),
                value.nlink,
              ),
              value.uid,
            ),
            value.gid,
          ),
          value.rdev,
        ),
        value.blksize,
      ),
      value.flags,
    )) (λ value. refl)

pub entries : Reads entry_text
entries =
    along (both (both (both (both numbers numbers) attrs) timeouts) timeouts)
    (λ (f : (((ℕ × ℕ) × Attr) × Timeout) × Timeout). record {
      inode = f.0.0.0.0;
      generation = f.0.0.0.1;
      attr =
          f.0.0.1;
      attr_timeout = f.0.1;
      entry_timeout = f.1;
    })
    (λ (value : Entry). ((((value.inode, value.generation), value.attr), value.attr_timeout), value.entry_timeout))
    (λ value. refl)

pub fs_options : Reads options_text
fs_options = along numbers (λ (n : ℕ). record { 0 = n }) (λ (value : FsOptions). value.0) (λ value. refl)

pub open_options : Reads open_options_text
open_options = along numbers (λ (n : ℕ). record { 0 = n }) (λ (value : OpenOptions). value.0) (λ value. refl)

pub dir_entries : Reads dir_entry_text
dir_entries =
    along (both (both (both numbers numbers) numbers) byte_words)
    (λ (f : ((ℕ × ℕ) × ℕ) × List ℕ). record { ino = f.0.0.0; offset = f.0.0.1; kind = f.0.1; name = f.1 })
    (λ (value : DirEntry). (((value.ino, value.offset), value.kind), value.name)) (λ value. refl)

-- attributes
abbrev pub xattr_kinds : List (Kind GetxattrReply)
xattr_kinds =
    kind (codes "Value") byte_words (λ (a : List ℕ). xattr.Value a)
    ∷ kind (codes "Count") numbers (λ (a : ℕ). xattr.Count a)
    ∷ []

pub xattr-back : (value : GetxattrReply) (rest : List ℕ) → IsParted rest →
    read_kinds xattr_kinds (xattr_text value ++ rest) ≡ Some (value, rest)
xattr-back (xattr.Value bytes) rest p =
    named xattr_kinds (codes "Value") byte_words (λ (a : List ℕ). xattr.Value a) refl (λ _. refl) bytes rest p
xattr-back (xattr.Count count) rest p =
    named xattr_kinds (codes "Count") numbers (λ (a : ℕ). xattr.Count a) refl (λ _. refl) count rest p

xattr-parted : (value : GetxattrReply) (rest : List ℕ) → IsParted (xattr_text value ++ rest)
xattr-parted (xattr.Value bytes) rest = refl
xattr-parted other rest = refl

pub xattr_values : Reads xattr_text
xattr_values = record {
  read = read_kinds xattr_kinds;
  back = xattr-back;
  parted = λ value rest p. xattr-parted value rest;
}

-- their names
abbrev pub names_kinds : List (Kind ListxattrReply)
names_kinds =
    kind (codes "Names") byte_words (λ (a : List ℕ). xattrs.Names a)
    ∷ kind (codes "Count") numbers (λ (a : ℕ). xattrs.Count a)
    ∷ []

pub names-back : (value : ListxattrReply) (rest : List ℕ) → IsParted rest →
    read_kinds names_kinds (xattrs_text value ++ rest) ≡ Some (value, rest)
names-back (xattrs.Names bytes) rest p =
    named names_kinds (codes "Names") byte_words (λ (a : List ℕ). xattrs.Names a) refl (λ _. refl) bytes rest p
names-back (xattrs.Count count) rest p =
    named names_kinds (codes "Count") numbers (λ (a : ℕ). xattrs.Count a) refl (λ _. refl) count rest p

names-parted : (value : ListxattrReply) (rest : List ℕ) → IsParted (xattrs_text value ++ rest)
names-parted (xattrs.Names bytes) rest = refl
names-parted other rest = refl

pub name_lists : Reads xattrs_text
name_lists = record {
  read = read_kinds names_kinds;
  back = names-back;
  parted = λ value rest p. names-parted value rest;
}

-- answers
abbrev pub answer_kinds : List (Kind Answer)
answer_kinds =
    kind (codes "NoReply") nothing (λ (none : Unit {0}). answer.NoReply)
    ∷ kind (codes "Done") nothing (λ (none : Unit {0}). answer.Done)
    ∷ kind (codes "Inited") fs_options (λ (a : FsOptions). answer.Inited a)
    ∷ kind (codes "Entry") entries (λ (a : Entry). answer.Entry a)
    ∷ kind (codes "Opened") (both numbers open_options) (λ (f : ℕ × OpenOptions). answer.Opened f.0 f.1)
    ∷ kind (codes "Created") (both (both entries numbers) open_options)
    (λ (f : (Entry × ℕ) × OpenOptions). answer.Created f.0.0 f.0.1 f.1)
    ∷ kind (codes "Attr") (both attrs timeouts) (λ (f : Attr × Timeout). answer.Attr f.0 f.1)
    ∷ kind (codes "Read") byte_words (λ (a : List ℕ). answer.Read a)
    ∷ kind (codes "Wrote") numbers (λ (a : ℕ). answer.Wrote a)
    ∷ kind (codes "Link") byte_words (λ (a : List ℕ). answer.Link a)
    ∷ kind (codes "FsStat") fs_stats (λ (a : FsStat). answer.FsStat a)
    ∷ kind (codes "Listing") (lists numbers dir_entries) (λ (a : List DirEntry). answer.Listing a)
    ∷ kind (codes "Xattr") xattr_values (λ (a : GetxattrReply). answer.Xattr a)
    ∷ kind (codes "Xattrs") name_lists (λ (a : ListxattrReply). answer.Xattrs a)
    ∷ kind (codes "Offset") numbers (λ (a : ℕ). answer.Offset a)
    ∷ kind (codes "Edited") nothing (λ (none : Unit {0}). answer.Edited)
    ∷ kind (codes "EditRefused") errnos (λ (a : Errno). answer.EditRefused a)
    ∷ kind (codes "Refused") errnos (λ (a : Errno). answer.Refused a)
    ∷ kind (codes "NoMemory") nothing (λ (none : Unit {0}). answer.NoMemory)
    ∷ kind (codes "Cut") nothing (λ (none : Unit {0}). answer.Cut)
    ∷ []

pub answer-back : (value : Answer) (rest : List ℕ) → IsParted rest →
    read_kinds answer_kinds (answer_text value ++ rest) ≡ Some (value, rest)
answer-back answer.NoReply rest p =
    named answer_kinds (codes "NoReply") nothing (λ (none : Unit {0}). answer.NoReply) refl (λ _. refl) tt rest p
answer-back answer.Done rest p =
    named answer_kinds (codes "Done") nothing (λ (none : Unit {0}). answer.Done) refl (λ _. refl) tt rest p
answer-back (answer.Inited options) rest p =
    named answer_kinds (codes "Inited") fs_options (λ (a : FsOptions). answer.Inited a) refl (λ _. refl) options rest
    p
answer-back (answer.Entry entry) rest p =
    named answer_kinds (codes "Entry") entries (λ (a : Entry). answer.Entry a) refl (λ _. refl) entry rest p
answer-back (answer.Opened handle options) rest p =
    named answer_kinds (codes "Opened") (both numbers open_options) (λ (f : ℕ × OpenOptions). answer.Opened f.0 f.1)
    refl (λ _. refl) (handle, options) rest p
answer-back (answer.Created entry handle options) rest p =
    named answer_kinds (codes "Created") (both (both entries numbers) open_options)
    (λ (f : (Entry × ℕ) × OpenOptions). answer.Created f.0.0 f.0.1 f.1) refl (λ _. refl) ((entry, handle), options)
    rest p
answer-back (answer.Attr attr timeout) rest p =
    named answer_kinds (codes "Attr") (both attrs timeouts) (λ (f : Attr × Timeout). answer.Attr f.0 f.1) refl
    (λ _. refl) (attr, timeout) rest p
answer-back (answer.Read bytes) rest p =
    named answer_kinds (codes "Read") byte_words (λ (a : List ℕ). answer.Read a) refl (λ _. refl) bytes rest p
answer-back (answer.Wrote count) rest p =
    named answer_kinds (codes "Wrote") numbers (λ (a : ℕ). answer.Wrote a) refl (λ _. refl) count rest p
answer-back (answer.Link target) rest p =
    named answer_kinds (codes "Link") byte_words (λ (a : List ℕ). answer.Link a) refl (λ _. refl) target rest p
answer-back (answer.FsStat stat) rest p =
    named answer_kinds (codes "FsStat") fs_stats (λ (a : FsStat). answer.FsStat a) refl (λ _. refl) stat rest p
answer-back (answer.Listing entries) rest p =
    named answer_kinds (codes "Listing") (lists numbers dir_entries) (λ (a : List DirEntry). answer.Listing a) refl
    (λ _. refl) entries rest p
answer-back (answer.Xattr told) rest p =
    named answer_kinds (codes "Xattr") xattr_values (λ (a : GetxattrReply). answer.Xattr a) refl (λ _. refl) told
    rest p
answer-back (answer.Xattrs told) rest p =
    named answer_kinds (codes "Xattrs") name_lists (λ (a : ListxattrReply). answer.Xattrs a) refl (λ _. refl) told
    rest p
answer-back (answer.Offset place) rest p =
    named answer_kinds (codes "Offset") numbers (λ (a : ℕ). answer.Offset a) refl (λ _. refl) place rest p
answer-back answer.Edited rest p =
    named answer_kinds (codes "Edited") nothing (λ (none : Unit {0}). answer.Edited) refl (λ _. refl) tt rest p
answer-back (answer.EditRefused errno) rest p =
    named answer_kinds (codes "EditRefused") errnos (λ (a : Errno). answer.EditRefused a) refl (λ _. refl) errno rest
    p
answer-back (answer.Refused errno) rest p =
    named answer_kinds (codes "Refused") errnos (λ (a : Errno). answer.Refused a) refl (λ _. refl) errno rest p
answer-back answer.NoMemory rest p =
    named answer_kinds (codes "NoMemory") nothing (λ (none : Unit {0}). answer.NoMemory) refl (λ _. refl) tt rest p
answer-back answer.Cut rest p =
    named answer_kinds (codes "Cut") nothing (λ (none : Unit {0}). answer.Cut) refl (λ _. refl) tt rest p

answer-parted : (value : Answer) (rest : List ℕ) → IsParted (answer_text value ++ rest)
answer-parted answer.NoReply rest = refl
answer-parted other rest = refl

pub answers : Reads answer_text
answers = record {
  read = read_kinds answer_kinds;
  back = answer-back;
  parted = λ value rest p. answer-parted value rest;
}
