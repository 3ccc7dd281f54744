-- Believed. A file is made and opened by a handle, or one whose name is there is opened. After virtiofsd's `create`,
-- `do_create`, and open(2).
use Rattle.std.specs.Prelude.{ℕ, Bool, false, ◌&&◌, not, ◌==◌, if◌then◌else◌, List, Option, Some, None, Result, Ok, Err}
use Rattle.pt_host.specs.Call.{Call}
use Rattle.pt_host.specs.Errno.{estale}
use Rattle.pt_host.specs.Flags.{includes, o_excl}
use Rattle.pt_host.specs.declared.ids.Errno.{Errno}
use Rattle.pt_host.specs.declared.ids.Fd.{Fd}
use Rattle.pt_host.specs.declared.ids.ObjIds.{ObjIds}
use Rattle.pt_host.specs.declared.op.KeptHostOp.TheVariants as call
use Rattle.pt_host.specs.declared.seat.HostSeat.{HostSeat}
use Rattle.pt_iface.specs.declared.answer.Answer.{Answer}
use Rattle.pt_iface.specs.declared.answer.Answer.TheVariants as answer
use Rattle.pt_iface.specs.declared.entry.Entry.{Entry}
use Rattle.pt_iface.specs.declared.request.Context.{Context}
use Rattle.pt_iface.specs.declared.request.Extensions.{Extensions}
use Rattle.pt_frame.specs.Tree.{RequestTree, Gives}
use Rattle.pt_req.specs.Asker.{asker_of, as_asker, umask_of, under_umask}
use Rattle.pt_req.specs.Attributes.{Label, host_label}
use Rattle.pt_req.specs.Options.{create_options, making_flags}
use Rattle.pt_req.specs.Steps.{Part, ◌>>=◌, ◌>>◌, resolve, stat, make_at, try_call, set_xattr, or_refused}
use Rattle.pt_req.specs.Parts.{named, file_of, handled, look_up, open_num}
use Rattle.pt_req.specs.declared.begun.BegunSession.{BegunSession}
use Rattle.pt_req.specs.declared.plan.Plan.{Plan}
use Rattle.pt_req.specs.declared.replies.Made.{Made}
use Rattle.pt_req.specs.declared.replies.Made.TheVariants.{New, Old}
use Rattle.pt_attr.specs.declared.parts.creating.NamedHandle.{NamedHandle}
use Rattle.pt_attr.specs.declared.parts.creating.FileAsked.{FileAsked as Borrowed}

-- what `create` asks, with the flags of open(2), and who asks it
pub record FileAsked : Type 0 where
  pub who : Context
  pub parent : ℕ
  pub name : List ℕ
  pub mode : ℕ
  -- whether set-id bits are to go of a file that is there
  pub kill : Bool
  pub flags : ℕ
  pub umask : ℕ
  pub ext : Extensions

-- and not where its bytes lie
abbrev pub asked_of : Borrowed → FileAsked
asked_of asked = record {
  who = asked.who;
  parent = asked.parent;
  name = asked.name.now;
  mode = asked.mode;
  kill = asked.kill;
  flags = asked.flags;
  umask = asked.umask;
  ext = asked.ext.now;
}

abbrev pub are_same : ObjIds → ObjIds → Bool
are_same one other = (one.ino == other.ino) && (one.dev == other.dev) && (one.mnt_id == other.mnt_id)

-- the name leads to what was made, or is stale
unfoldable pub if_same : ObjIds → ObjIds → RequestTree → RequestTree
if_same made found next = if are_same made found then next else Gives (answer.Refused estale)

abbrev pub named_handle : Entry → ℕ → NamedHandle
named_handle entry handle = record { entry = entry; handle = handle }

-- what was made goes again by this call, whatever the host says of it, and so the request is answered
abbrev pub undone : Call → Answer → RequestTree
undone undoing last = try_call undoing (Gives last)

-- What was made, and is open there, gets this extended attribute. Where that is refused, what was made goes again.
abbrev pub kept_with : Fd → Call → List ℕ → List ℕ → RequestTree → RequestTree
kept_with fd undoing name value next = do
  refused ← set_xattr fd false name value 0
  or_refused (undone undoing) next refused

-- its context of security is one, unless the guest may not use that
abbrev pub labelled_by : Fd → Call → List ℕ → Result (List ℕ) Errno → RequestTree → RequestTree
labelled_by fd undoing value (Err errno) next = undone undoing (answer.Refused errno)
labelled_by fd undoing value (Ok name) next = kept_with fd undoing name value next

-- it gets the one that the guest brings for it, if it does
abbrev pub labelled : Fd → Call → Option Label → RequestTree → RequestTree
labelled fd undoing None next = next
labelled fd undoing (Some label) next = labelled_by fd undoing label.value label.name next

-- a file that was made in a directory: it gets its context, its name is looked up, and its own descriptor gets the
-- handle
unfoldable pub new_file : Plan → BegunSession → FileAsked → Option Label → Fd → Fd → Part NamedHandle
new_file plan session asked label dir fd next = do
  made ← stat fd
  labelled fd (call.Unlink dir asked.name) label
  looked ← look_up plan session asked.parent asked.name
  if_same made.ids looked.ids
  handle ← handled session looked.entry.inode fd
  next (named_handle looked.entry handle)

-- a file that was there: its name is looked up, and what has its number is opened
unfoldable pub old_file : Plan → HostSeat → BegunSession → FileAsked → Part NamedHandle
old_file plan seat session asked next = do
  looked ← look_up plan session asked.parent asked.name
  handle ← open_num plan seat session looked.entry.inode asked.kill asked.flags
  next (named_handle looked.entry handle)

abbrev pub made_file : Plan → HostSeat → BegunSession → FileAsked → Option Label → Fd → Made → Part NamedHandle
made_file plan seat session asked label dir (New fd) next = new_file plan session asked label dir fd next
made_file plan seat session asked label dir Old next = old_file plan seat session asked next

-- the guest takes a file that is there
abbrev pub takes_old : ℕ → Bool
takes_old flags = not (includes flags o_excl)

-- as whoever asks a file is made in a directory; one that is there may be opened in its place
unfoldable pub make_file : Plan → HostSeat → BegunSession → FileAsked → Option Label → Fd → Part NamedHandle
make_file plan seat session asked label dir next = do
  as_asker seat (asker_of plan session asked.who asked.ext.sup_gid)
  under_umask (umask_of session (Some asked.umask))
  made ← make_at dir asked.name (making_flags asked.flags) asked.mode (takes_old asked.flags)
  made_file plan seat session asked label dir made next

-- a file is made and opened
abbrev pub create : Plan → HostSeat → FileAsked → BegunSession → RequestTree
create plan seat asked session = do
  named asked.name
  directory ← resolve asked.parent
  label ← host_label plan session.agreed asked.ext.secctx
  dir ← file_of directory.form
  file ← make_file plan seat session asked label dir
  Gives (answer.Created file.entry file.handle (create_options plan.config))

abbrev pub file_asked : Context → ℕ → List ℕ → ℕ → Bool → ℕ → ℕ → Extensions → FileAsked
file_asked who parent name mode kill flags umask ext = record {
  who = who;
  parent = parent;
  name = name;
  mode = mode;
  kill = kill;
  flags = flags;
  umask = umask;
  ext = ext;
}
