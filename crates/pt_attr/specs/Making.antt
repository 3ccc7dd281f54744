-- Believed. A directory, a node or a symbolic link is made under a name, and becomes an entry. After virtiofsd's
-- `mkdir`, `mknod`, `symlink`, `do_mknod_mkdir_symlink_secctx`, and mkdir(2), mknod(2), symlink(2), setxattr(2).
use Rattle.std.specs.Prelude.{ℕ, Bool, true, false, ◌==◌, if◌then◌else◌, List, Option, Some, None, Result, Ok, Err}
use Rattle.std.specs.List.{list_any}
use Rattle.pt_host.specs.Call.{Call}
use Rattle.pt_host.specs.Errno.{einval}
use Rattle.pt_host.specs.declared.ids.Errno.{Errno}
use Rattle.pt_host.specs.declared.ids.Fd.{Fd}
use Rattle.pt_host.specs.declared.op.KeptHostOp.TheVariants as call
use Rattle.pt_host.specs.declared.seat.HostSeat.{HostSeat}
use Rattle.pt_iface.specs.declared.answer.Answer.{Answer}
use Rattle.pt_iface.specs.declared.answer.Answer.TheVariants as answer
use Rattle.pt_iface.specs.declared.request.Context.{Context}
use Rattle.pt_iface.specs.declared.request.Extensions.{Extensions}
use Rattle.pt_frame.specs.Tree.{RequestTree, Gives, Brackets, Shuts}
use Rattle.pt_req.specs.Asker.{asker_of, as_asker, umask_of, under_umask}
use Rattle.pt_req.specs.Attributes.{Label, host_label}
use Rattle.pt_req.specs.Parts.{by_path, file_of, named, look_up}
use Rattle.pt_req.specs.Steps.{Part, ◌>>=◌, ◌>>◌, resolve, set_xattr, or_refused}
use Rattle.pt_req.specs.declared.begun.BegunSession.{BegunSession}
use Rattle.pt_req.specs.declared.plan.Plan.{Plan}
use Rattle.pt_attr.specs.Creating.{undone}
use Rattle.pt_attr.specs.Steps.{make, try_open_at}
use Rattle.pt_attr.specs.declared.parts.making.ObjectAsked.{ObjectAsked as Borrowed}

-- where an object is made, and who asks it
pub record ObjectAsked : Type 0 where
  pub who : Context
  pub parent : ℕ
  pub name : List ℕ
  -- none is minded of a symbolic link
  pub umask : Option ℕ
  pub ext : Extensions

-- and not where its bytes lie
abbrev pub asked_of : Borrowed → ObjectAsked
asked_of asked = record {
  who = asked.who;
  parent = asked.parent;
  name = asked.name.now;
  umask = asked.umask;
  ext = asked.ext.now;
}

abbrev pub is_nul : ℕ → Bool
is_nul byte = byte == 0

-- a symbolic link's target has no NUL
unfoldable pub targeted : List ℕ → RequestTree → RequestTree
targeted target next = if list_any is_nul target then Gives (answer.Refused einval) else next

-- an extended attribute is set by a descriptor that only stands for its object, where that was had
abbrev pub set_opened : List ℕ → List ℕ → Result Fd Answer → Part (Option Answer)
set_opened attribute value (Ok fd) next = set_xattr fd true attribute value 0 next
set_opened attribute value (Err last) next = next (Some last)

-- and by the name of its object, in a bracket
abbrev pub set_by_name : Fd → List ℕ → List ℕ → List ℕ → Part (Option Answer)
set_by_name dir name attribute value next = do
  Brackets
  opened ← try_open_at dir name by_path
  refused ← set_opened attribute value opened
  Shuts false
  next refused

-- What was made under a name gets this extended attribute. Where that is refused, its name goes again by this call.
abbrev pub kept_at : Fd → List ℕ → Call → List ℕ → List ℕ → RequestTree → RequestTree
kept_at dir name undoing attribute value next = do
  refused ← set_by_name dir name attribute value
  or_refused (undone undoing) next refused

-- its context of security is one, unless the guest may not use that
abbrev pub label_at : Fd → List ℕ → Call → List ℕ → Result (List ℕ) Errno → RequestTree → RequestTree
label_at dir name undoing value (Err errno) next = undone undoing (answer.Refused errno)
label_at dir name undoing value (Ok attribute) next = kept_at dir name undoing attribute value next

-- it gets the one that the guest brings for it, if it does
abbrev pub labelled_at : Fd → List ℕ → Call → Option Label → RequestTree → RequestTree
labelled_at dir name undoing None next = next
labelled_at dir name undoing (Some label) next = label_at dir name undoing label.value label.name next

-- As whoever asks it is made in a directory by this call, and where its context is refused, it goes by that one. It
-- gets its context, and its name is looked up.
unfoldable pub make_object :
    Plan → HostSeat → BegunSession → ObjectAsked → Option Label → Fd → Call → Call → RequestTree
make_object plan seat session asked label dir making undoing = do
  as_asker seat (asker_of plan session asked.who asked.ext.sup_gid)
  under_umask (umask_of session asked.umask)
  make making
  labelled_at dir asked.name undoing label
  looked ← look_up plan session asked.parent asked.name
  Gives (answer.Entry looked.entry)

-- a directory
abbrev pub mkdir : Plan → HostSeat → ObjectAsked → ℕ → BegunSession → RequestTree
mkdir plan seat asked mode session = do
  named asked.name
  row ← resolve asked.parent
  label ← host_label plan session.agreed asked.ext.secctx
  dir ← file_of row.form
  make_object plan seat session asked label dir (call.MakeDir dir asked.name mode) (call.RemoveDir dir asked.name)

-- what the mode says, a device perhaps
abbrev pub mknod : Plan → HostSeat → ObjectAsked → ℕ → ℕ → BegunSession → RequestTree
mknod plan seat asked mode rdev session = do
  named asked.name
  row ← resolve asked.parent
  label ← host_label plan session.agreed asked.ext.secctx
  dir ← file_of row.form
  make_object plan seat session asked label dir (call.MakeNode dir asked.name mode rdev) (call.Unlink dir asked.name)

-- a symbolic link
abbrev pub symlink : Plan → HostSeat → ObjectAsked → List ℕ → BegunSession → RequestTree
symlink plan seat asked target session = do
  named asked.name
  targeted target
  row ← resolve asked.parent
  label ← host_label plan session.agreed asked.ext.secctx
  dir ← file_of row.form
  make_object plan seat session asked label dir (call.SymLink dir asked.name target) (call.Unlink dir asked.name)
