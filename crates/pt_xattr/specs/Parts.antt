-- Believed. The parts of requests of extended attributes. After virtiofsd's `setxattr`, `getxattr`, `listxattr`,
-- `removexattr`.
use Rattle.std.specs.Prelude.{ℕ, ◌-◌, ◌/◌, ◌%◌, ◌^◌, Bool, true, false, ◌&&◌, ◌==◌, nat_lt, if◌then◌else◌, List}
use Rattle.std.specs.Prelude.{Result, Ok, Err}
use Rattle.std.specs.List.{list_any}
use Rattle.std.specs.Ordering.{int_eq}
use Rattle.std.specs.Str.{bytes_eq}
use Rattle.pt_host.specs.Errno.{einval, enodata, enosys, eoverflow, eperm}
use Rattle.pt_host.specs.Flags.{includes}
use Rattle.pt_host.specs.declared.ids.Errno.{Errno}
use Rattle.pt_host.specs.declared.ids.Fd.{Fd}
use Rattle.pt_host.specs.declared.op.KeptHostOp.TheVariants as call
use Rattle.pt_tables.specs.declared.form.Negotiated.{Negotiated}
use Rattle.pt_tables.specs.declared.reply.Resolved.{Resolved}
use Rattle.pt_iface.specs.declared.answer.Answer.{Answer}
use Rattle.pt_iface.specs.declared.answer.Answer.TheVariants as answer
use Rattle.pt_iface.specs.declared.answer.GetxattrReply.TheVariants as xattr
use Rattle.pt_iface.specs.declared.answer.ListxattrReply.TheVariants as xattrs
use Rattle.pt_iface.specs.declared.flags.SetxattrFlags.{SetxattrFlags}
use Rattle.pt_frame.specs.Tree.{RequestTree, Gives, make_bytes}
use Rattle.pt_req.specs.Attributes.{acl_access}
use Rattle.pt_req.specs.Entries.{can_open}
use Rattle.pt_req.specs.Parts.{file_of, open_inode}
use Rattle.pt_req.specs.Steps.{Part, ◌>>=◌, ◌>>◌, stat}
use Rattle.pt_req.specs.declared.begun.BegunSession.{BegunSession}
use Rattle.pt_req.specs.declared.plan.Plan.{Plan}
use Rattle.pt_attr.specs.Steps.{count_of, do_call}
use Rattle.pt_xattr.specs.Listed.{names_told}
use Rattle.pt_xattr.specs.Steps.{bytes_told}
use Rattle.pt_xattr.specs.declared.parts.XattrFile.{XattrFile}

-- checks: that the guest may use extended attributes, and that a name has no NUL
unfoldable pub with_xattr : Plan → RequestTree → RequestTree
with_xattr plan next = if plan.config.xattr then next else Gives (answer.Refused enosys)

unfoldable pub nul_free : List ℕ → RequestTree → RequestTree
nul_free name next = if list_any (λ byte. byte == 0) name then Gives (answer.Refused einval) else next

-- the guest may use a name, or not
unfoldable pub allowed : Result (List ℕ) Errno → Part (List ℕ)
allowed (Ok name) next = next name
allowed (Err errno) next = Gives (answer.Refused errno)

-- where it is read, one that it may not use is as one that is not there
abbrev pub as_missing : Errno → Errno
as_missing errno = if int_eq errno.0 eperm.0 then enodata else errno

unfoldable pub allowed_to_read : Result (List ℕ) Errno → Part (List ℕ)
allowed_to_read (Ok name) next = next name
allowed_to_read (Err errno) next = Gives (answer.Refused (as_missing errno))

abbrev pub file_by : Bool → Fd → XattrFile
file_by through fd = record { fd = fd; through = through }

-- What an attribute is asked by: a regular file or a directory is opened, `O_RDONLY | O_NONBLOCK`; of any other object
-- the descriptor that stands for it serves, by its link in `/proc`.
unfoldable pub xattr_file : Plan → BegunSession → Resolved → ℕ → Part XattrFile
xattr_file plan session row number next =
    if can_open row.mode then open_inode plan session number 2048 (λ fd. next (file_by false fd))
    else file_of row.form (λ fd. next (file_by true fd))

-- permissions without the set-group-id bit
abbrev pub without_sgid : ℕ → ℕ
without_sgid mode = if mode / 1024 % 2 == 1 then mode % 4096 - 1024 else mode % 4096

-- An access control list that the guest sets takes the bit, where the guest asks that.
abbrev pub kills_sgid : Negotiated → SetxattrFlags → List ℕ → Bool
kills_sgid agreed extra name = agreed.posix_acl && includes extra.0 1 && bytes_eq name acl_access

abbrev pub sgid_killed : Bool → XattrFile → RequestTree → RequestTree
sgid_killed false file next = next
sgid_killed true file next = do
  told ← stat file.fd
  do_call (call.ChMod file.fd file.through (without_sgid told.mode)) next

-- a number of bytes that is answered has to fit 32 bits
abbrev pub counted : ℕ → Answer → Answer
counted count last = if nat_lt count (2 ^ 32) then last else answer.Refused eoverflow

-- how long the value of an attribute is, and the value
abbrev pub value_length : XattrFile → List ℕ → ℕ → RequestTree
value_length file name size = do
  count ← count_of (call.GetXattr file.fd file.through name size)
  Gives (counted count (answer.Xattr (xattr.Count count)))

abbrev pub value_whole : XattrFile → List ℕ → ℕ → RequestTree
value_whole file name size = do
  value ← bytes_told (call.GetXattr file.fd file.through name size)
  Gives (answer.Xattr (xattr.Value value))

-- which of them is asked for the size tells
unfoldable pub value_told : XattrFile → List ℕ → ℕ → RequestTree
value_told file name size = if size == 0 then value_length file name size else value_whole file name size

-- how long the names of all are together, and the names, which take memory
abbrev pub list_length : XattrFile → ℕ → RequestTree
list_length file size = do
  count ← count_of (call.ListXattr file.fd file.through size)
  Gives (counted count (answer.Xattrs (xattrs.Count count)))

abbrev pub names_made : Plan → Negotiated → List ℕ → RequestTree
names_made plan agreed list = do
  names ← make_bytes (names_told plan agreed list)
  Gives (answer.Xattrs (xattrs.Names names))

abbrev pub list_whole : Plan → Negotiated → XattrFile → ℕ → RequestTree
list_whole plan agreed file size = do
  list ← bytes_told (call.ListXattr file.fd file.through size)
  names_made plan agreed list

unfoldable pub list_told : Plan → Negotiated → XattrFile → ℕ → RequestTree
list_told plan agreed file size = if size == 0 then list_length file size else list_whole plan agreed file size
