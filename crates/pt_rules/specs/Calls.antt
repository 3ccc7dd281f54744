-- Believed. The calls one by one: what each is answered and what it leaves.
use Rattle.std.specs.Prelude.{ℕ, nat_lt, not, ◌&&◌, Bool, List, [], ◌∷◌, length, Option, Some, None, Result, Ok, Err}
use Rattle.std.specs.Prelude.{option_map, slice_get, slice_set}
use Rattle.pt_host.specs.Flags.{includes, o_creat, o_excl}
use Rattle.pt_host.specs.Errno.{ebadf, eacces, eexist, enoent, enotdir, enametoolong}
use Rattle.pt_host.specs.declared.ids.Errno.{Errno}
use Rattle.pt_host.specs.declared.ids.Fd.{Fd}
use Rattle.pt_host.specs.declared.flags.OpenFlags.{OpenFlags}
use Rattle.pt_host.specs.declared.seat.HostSeat.{HostSeat}
use Rattle.pt_host.specs.declared.reply.HostReply.{HostReply}
use Rattle.pt_host.specs.declared.reply.HostReply.TheVariants as reply
use Rattle.pt_host.specs.declared.reply.HostValue.{HostValue}
use Rattle.pt_host.specs.declared.reply.HostValue.TheVariants as value
use Rattle.pt_node.specs.Links.{links_of}
use Rattle.pt_node.specs.Names.{found}
use Rattle.pt_node.specs.Node.{is_directory, names_in, status_of}
use Rattle.pt_node.specs.Paths.{led_on}
use Rattle.pt_node.specs.Permission.{may}
use Rattle.pt_node.specs.Slots.{least_free, open_at, put_at, closed}
use Rattle.pt_rules.specs.State.{State, time_of}
use Rattle.pt_node.specs.Opening.{first_refusal, opening_refusal, after_opening}
use Rattle.pt_node.specs.declared.node.Node.{Node}
use Rattle.pt_node.specs.declared.slots.OpenFile.{OpenFile}
use Rattle.pt_node.specs.declared.slots.Slot.TheVariants.{Open}
use Rattle.pt_node.specs.declared.permission.Right.TheVariants.{Search}
use Rattle.pt_node.specs.Limits.{name_max}

-- a reply and the state that the call leaves, before it is counted
abbrev pub Answered : Type 0
Answered = HostReply × State

abbrev pub refused : State → Errno → Answered
refused state errno = (reply.Refused errno, state)

abbrev pub tells : State → HostValue → Answered
tells state told = (reply.Ok told, state)

-- refused where there is an error, else as said
abbrev pub unless : State → Option Errno → Answered → Answered
unless state None otherwise = otherwise
unless state (Some errno) otherwise = refused state errno

abbrev pub done : State → Answered
done state = tells state value.Unit

-- what stands in the table of descriptors, with the object that it is open on
abbrev pub open_on : List Node → Option OpenFile → Option (OpenFile × Node)
open_on nodes None = None
open_on nodes (Some file) = option_map (λ node. (file, node)) (slice_get nodes file.object)

abbrev pub on_open : State → Option (OpenFile × Node) → (OpenFile → Node → Answered) → Answered
on_open state None rest = refused state ebadf
on_open state (Some at) rest = rest at.0 at.1

-- the call on what the descriptor is open on
abbrev pub on_fd : State → Fd → (OpenFile → Node → Answered) → Answered
on_fd state fd rest = on_open state (open_on state.nodes (open_at state.slots fd.0)) rest

-- what the name leads to from this directory
abbrev pub there_in : Node → List ℕ → Option ℕ
there_in dir name = found name (names_in dir.content)

abbrev pub on_led : State → Option (ℕ × Node) → (ℕ → Node → Answered) → Answered
on_led state None rest = refused state enoent
on_led state (Some at) rest = rest at.0 at.1

-- the call on what the name leads to in this directory
abbrev pub on_found : State → Option ℕ → (ℕ → Node → Answered) → Answered
on_found state there rest = on_led state (led_on state.nodes there) rest

-- refused by the first of these tests that holds, else as said
abbrev pub checked : State → List (Bool × Errno) → Answered → Answered
checked state checks otherwise = unless state (first_refusal checks) otherwise

-- the state with this object as it has become
abbrev pub with_node : State → ℕ → Node → State
with_node state object node = record state { nodes = slice_set state.nodes object node }

-- a descriptor begins at the start
abbrev pub begun_on : OpenFlags → ℕ → OpenFile
begun_on flags object = record { object = object; flags = flags; position = 0 }

-- the state with the least free number open on the object
abbrev pub with_descriptor : State → OpenFlags → ℕ → State
with_descriptor state flags object =
    record state { slots = put_at (least_free state.slots) (Open (begun_on flags object)) state.slots }

-- the state with an object that was there opened
abbrev pub with_opened : State → HostSeat → OpenFlags → ℕ → Node → State
with_opened state seat flags object node =
    with_descriptor (with_node state object (after_opening seat (time_of state) flags.0 node)) flags object

-- the opening of an object that was found
abbrev pub opening : State → HostSeat → OpenFlags → ℕ → Node → Answered
opening state seat flags object node = unless state (opening_refusal seat node flags.0)
    (tells (with_opened state seat flags object node) (value.Fd (record { 0 = least_free state.slots })))

abbrev pub open_walked : State → HostSeat → OpenFlags → Result (ℕ × Node) Errno → Answered
open_walked state seat flags (Ok at) = opening state seat flags at.0 at.1
open_walked state seat flags (Err errno) = refused state errno

-- what every call on a name in a directory is refused for
abbrev pub name_checks : HostSeat → Node → List ℕ → List (Bool × Errno)
name_checks seat dir name =
    (not (is_directory dir), enotdir)
    ∷ (nat_lt name_max (length name), enametoolong)
    ∷ (not (may seat dir Search), eacces)
    ∷ []

abbrev pub name_refusal : HostSeat → Node → List ℕ → Option Errno
name_refusal seat dir name = first_refusal (name_checks seat dir name)

-- the call on a name in the directory that the descriptor is open on
abbrev pub on_name : State → HostSeat → Fd → List ℕ → (ℕ → Node → Answered) → Answered
on_name state seat fd name rest =
    on_fd state fd (λ file dir. unless state (name_refusal seat dir name) (rest file.object dir))

-- ---- Reopen, Close, Stat

-- `O_CREAT` with `O_EXCL` asks for a new object
abbrev pub reopen : State → HostSeat → Fd → OpenFlags → Answered
reopen state seat fd flags = on_fd state fd
    (λ file node. checked state ((includes flags.0 o_creat && includes flags.0 o_excl, eexist)
    ∷ []) (opening state seat flags file.object node))

-- the call on what stands in the table of descriptors, if anything
abbrev pub on_slot : State → Option OpenFile → (OpenFile → Answered) → Answered
on_slot state None rest = refused state ebadf
on_slot state (Some file) rest = rest file

abbrev pub close_file : State → Fd → Answered
close_file state fd =
    on_slot state (open_at state.slots fd.0) (λ file. done (record state { slots = closed fd.0 state.slots }))

abbrev pub tell_status : State → Fd → Answered
tell_status state fd = on_fd state fd (λ file node.
    tells state (value.Stat (status_of (links_of state.nodes file.object node) node)))
