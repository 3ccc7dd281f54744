-- Believed. The requests, by their parts. After virtiofsd's passthrough file system: `init`, `open_root_node`,
-- `lookup`, `forget`, `open`, `opendir`, `release`, `read`.
use Rattle.std.specs.Prelude.{ℕ, Bool, false, if◌then◌else◌, List, [], ◌∷◌, Some, None}
use Rattle.pt_host.specs.Errno.{errno_of, eproto}
use Rattle.pt_host.specs.Flags.{o_directory}
use Rattle.pt_host.specs.declared.seat.HostSeat.{HostSeat}
use Rattle.pt_iface.specs.declared.answer.Answer.{Answer}
use Rattle.pt_iface.specs.declared.answer.Answer.TheVariants as answer
use Rattle.pt_iface.specs.declared.flags.FsOptions.{FsOptions}
use Rattle.pt_frame.specs.Tree.{RequestTree, Gives}
use Rattle.pt_tables.specs.Tables.{nothing_agreed}
use Rattle.pt_req.specs.Options.{with_bits, is_short_of, agreed_with, init_options, open_options}
use Rattle.pt_req.specs.Steps.{◌>>=◌, ◌>>◌, session_of, clear, read_at, pin_handle, forget_all, release_handle}
use Rattle.pt_req.specs.Parts.{named, placed, look_up, open_num, root_open}
use Rattle.pt_req.specs.declared.begun.BegunSession.{BegunSession}
use Rattle.pt_req.specs.declared.plan.Config.{Config}
use Rattle.pt_req.specs.declared.plan.Plan.{Plan}

-- a guest that does not offer what the configuration asks for is refused, `EPROTO`
abbrev pub init_answer : Config → FsOptions → Answer
init_answer config capable =
    if is_short_of config capable then answer.Refused eproto else answer.Inited (init_options config capable)

-- The session begins anew, and what was agreed on is said with its root, which a guest that is refused keeps too.
abbrev pub init : Plan → FsOptions → RequestTree
init plan capable = do
  era ← clear
  root_open plan (session_of era nothing_agreed) (Some (agreed_with plan.config capable))
  Gives (init_answer plan.config capable)

-- the session ends, and one without a root begins
abbrev pub destroy : RequestTree
destroy = do
  era ← clear
  Gives answer.NoReply

-- the root is numbered in the session as it stands
abbrev pub root : Plan → BegunSession → RequestTree
root plan session = do
  root_open plan session None
  Gives answer.Done

-- a name in a directory becomes an entry
abbrev pub lookup : Plan → ℕ → List ℕ → BegunSession → RequestTree
lookup plan parent name session = do
  named name
  looked ← look_up plan session parent name
  Gives (answer.Entry looked.entry)

-- the guest forgets numbers, or so much of them
abbrev pub batch_forget : List (ℕ × ℕ) → BegunSession → RequestTree
batch_forget list session = do
  forget_all list
  Gives answer.NoReply

abbrev pub forget : ℕ → ℕ → BegunSession → RequestTree
forget inode count = batch_forget ((inode, count) ∷ [])

-- what a number stands for is opened by a handle, a directory or not
abbrev pub open_file : Plan → HostSeat → ℕ → Bool → ℕ → BegunSession → RequestTree
open_file plan seat inode kill flags session = do
  handle ← open_num plan seat session inode kill flags
  Gives (answer.Opened handle (open_options plan.config flags))

abbrev pub open_dir : Plan → HostSeat → ℕ → ℕ → BegunSession → RequestTree
open_dir plan seat inode flags = open_file plan seat inode false (with_bits flags o_directory)

-- the guest gives a handle back
abbrev pub release : ℕ → ℕ → BegunSession → RequestTree
release inode handle session = do
  release_handle handle inode
  Gives answer.Done

-- bytes by a handle
abbrev pub read : ℕ → ℕ → ℕ → ℕ → BegunSession → RequestTree
read inode handle size offset session = do
  placed offset
  fd ← pin_handle handle inode
  bytes ← read_at fd offset size
  Gives (answer.Read bytes)

-- the function is not implemented, `ENOSYS`
abbrev pub unserved : BegunSession → RequestTree
unserved session = Gives (answer.Refused (errno_of 38))
