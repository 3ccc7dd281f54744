-- Believed. What a job holds, as its deeds and their replies say: pins, descriptors, slots, counts, and the scopes in
-- which its seat is changed. Holds are searched by what they are.
use Rattle.std.specs.Prelude.{◌==◌, ℕ, Bool, true, false, if◌then◌else◌, List, [], ◌∷◌, Option, Some, None}
use Rattle.pt_host.specs.Sorts.{Sort, OpensWith, EndsFd, OfSeat, Plain, sort_of}
use Rattle.pt_host.specs.declared.ids.Fd.{Fd}
use Rattle.pt_host.specs.declared.reply.HostReply.TheVariants as host
use Rattle.pt_host.specs.declared.reply.HostValue.TheVariants as value
use Rattle.pt_tables.specs.Change.{Change}
use Rattle.pt_tables.specs.declared.form.RowForm.{RowForm}
use Rattle.pt_tables.specs.declared.form.RowForm.TheVariants.{File}
use Rattle.pt_tables.specs.declared.event.KeptEvent.TheVariants as change
use Rattle.pt_tables.specs.declared.reply.EventReply.{EventReply}
use Rattle.pt_tables.specs.declared.reply.EventReply.TheVariants as event
use Rattle.pt_frame.specs.Deed.{Deed, Calls, Changes}
use Rattle.pt_frame.specs.declared.act.ActReply.{ActReply}
use Rattle.pt_frame.specs.declared.act.ActReply.TheVariants.{Event, Host, NoCopy}
use Rattle.pt_frame.specs.declared.hold.Hold.{Hold}
use Rattle.pt_frame.specs.declared.hold.Hold.TheVariants as hold

-- the descriptor by which a row's object is kept, where it is kept by one
abbrev pub row_fd : RowForm → Option Fd
row_fd (File fd) = Some fd

-- a scope: what was changed of the seat, and has to be put back
abbrev pub is_scope : Hold → Bool
is_scope (hold.Pin row fd) = false
is_scope (hold.HandlePin row fd) = false
is_scope (hold.Fd fd) = false
is_scope (hold.Slot class) = false
is_scope (hold.Count era number) = false
is_scope hold.Groups = true
is_scope hold.EffectiveGid = true
is_scope hold.EffectiveUid = true
is_scope (hold.Dropped caps) = true
is_scope hold.Umask = true

-- a new hold lies under the open scopes, so that these end first
abbrev pub laid : Hold → List Hold → List Hold
laid one [] = one ∷ []
laid one (top ∷ holds) = if is_scope top then top ∷ laid one holds else one ∷ top ∷ holds

-- the descriptor that a hold is
abbrev pub fd_in : Hold → Option Fd
fd_in (hold.Pin row fd) = None
fd_in (hold.HandlePin row fd) = None
fd_in (hold.Fd fd) = Some fd
fd_in (hold.Slot class) = None
fd_in (hold.Count era number) = None
fd_in hold.Groups = None
fd_in hold.EffectiveGid = None
fd_in hold.EffectiveUid = None
fd_in (hold.Dropped caps) = None
fd_in hold.Umask = None

abbrev pub is_some_fd : Option Fd → Bool
is_some_fd None = false
is_some_fd (Some fd) = true

abbrev pub is_same_fd : Fd → Option Fd → Bool
is_same_fd fd None = false
is_same_fd fd (Some same) = same.0 == fd.0

abbrev pub is_slot : Hold → Bool
is_slot (hold.Slot class) = true
is_slot one = false

-- this descriptor is held no more
abbrev pub closed : Fd → List Hold → List Hold
closed fd [] = []
closed fd (one ∷ holds) = if is_same_fd fd (fd_in one) then holds else one ∷ closed fd holds

-- the newest descriptor gets a slot of this class, which lies under it
abbrev pub slotted : ℕ → List Hold → List Hold
slotted class [] = hold.Slot class ∷ []
slotted class (one ∷ holds) =
    if is_some_fd (fd_in one) then one ∷ hold.Slot class ∷ holds else one ∷ slotted class holds

abbrev pub unslotted : List Hold → List Hold
unslotted [] = []
unslotted (one ∷ holds) = if is_slot one then holds else one ∷ holds

-- the tables took this descriptor, and the slot that lay under it
abbrev pub handed : Fd → List Hold → List Hold
handed fd [] = []
handed fd (one ∷ holds) = if is_same_fd fd (fd_in one) then unslotted holds else one ∷ handed fd holds

abbrev pub handed_of : Option Fd → List Hold → List Hold
handed_of None holds = holds
handed_of (Some fd) holds = handed fd holds

-- The holds after a call of a body, the last one first: an opening brings a descriptor, and the end of one takes it
-- away whatever is told. A call on the seat opens a scope only where the body says so.
abbrev pub held_called : Sort → ActReply → List Hold → List Hold
held_called (OpensWith flags) (Host (host.Ok (value.Fd fd))) holds = laid (hold.Fd fd) holds
held_called (OpensWith flags) told holds = holds
held_called (EndsFd fd) told holds = closed fd holds
held_called OfSeat told holds = holds
held_called Plain told holds = holds

-- and after an event
abbrev pub held_changed : Change → EventReply → List Hold → List Hold
held_changed change.Begin told holds = holds
held_changed (change.Resolve number) (event.Resolved resolved) holds =
    laid (hold.Pin resolved.row (row_fd resolved.form)) holds
held_changed (change.Resolve number) told holds = holds
held_changed (change.Unpin row) told holds = holds
held_changed (change.Claim claim) (event.Claimed given) holds = laid (hold.Count claim.era given.number) holds
held_changed (change.Claim claim) told holds = holds
held_changed (change.TakeFd class) event.Taken holds = slotted class holds
held_changed (change.TakeFd class) told holds = holds
held_changed (change.GiveFd class) told holds = holds
held_changed change.DrawNode told holds = holds
held_changed (change.Insert new) (event.Inserted given) holds =
    laid (hold.Count new.era given) (handed_of (row_fd new.form) holds)
held_changed (change.Insert new) (event.Found given) holds = laid (hold.Count new.era given.number) holds
held_changed (change.Insert new) told holds = holds
held_changed (change.InsertRoot new) (event.Inserted given) holds = handed_of (row_fd new.form) holds
held_changed (change.InsertRoot new) told holds = holds
held_changed (change.Forget list) told holds = holds
held_changed (change.GiveBack era number) told holds = holds
held_changed change.DrawHandle told holds = holds
held_changed (change.InsertHandle new) (event.Inserted given) holds = handed new.fd holds
held_changed (change.InsertHandle new) told holds = holds
held_changed (change.PinHandle handle number) (event.Pinned row fd) holds = laid (hold.HandlePin row fd) holds
held_changed (change.PinHandle handle number) told holds = holds
held_changed (change.UnpinHandle row) told holds = holds
held_changed (change.Release handle number) told holds = holds
held_changed change.Clear told holds = holds
held_changed change.TakeClosing told holds = holds

abbrev pub held : Deed → ActReply → List Hold → List Hold
held (Calls asked) told holds = held_called (sort_of asked) told holds
held (Changes asked) (Event told) holds = held_changed asked told holds
held (Changes asked) (Host told) holds = holds
held (Changes asked) NoCopy holds = holds

-- and after a call that opens this scope
abbrev pub opened : Hold → ActReply → List Hold → List Hold
opened scope (Host (host.Ok told)) holds = scope ∷ holds
opened scope (Host (host.Refused errno)) holds = holds
opened scope (Host (host.Fault errno)) holds = holds
opened scope (Host host.NoMemory) holds = holds
opened scope (Event told) holds = holds
opened scope NoCopy holds = holds
