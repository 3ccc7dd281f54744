-- Believed. The calls on what files hold: pwritev2(2), ftruncate(2), fallocate(2), lseek(2), copy_file_range(2),
-- fsync(2) and syncfs(2), with the set-id bits that they clear and the times that they set, after inode(7).
use Rattle.std.specs.Prelude.{ℕ, ◌+◌, ◌-◌, ◌^◌, ◌==◌, nat_lt, not, ◌||◌, ◌&&◌, Bool, List, [], ◌∷◌, ◌++◌, length}
use Rattle.std.specs.Prelude.{take, drop, replicate, ℤ, pos, negsuc, ◌+ℤ◌, Option, Some, None, Result, Ok, Err, ok_or}
use Rattle.std.specs.Prelude.{option_map, if◌then◌else◌}
use Rattle.pt_host.specs.Errno.{ebadf, efbig, einval, eisdir, enxio, eopnotsupp, eoverflow}
use Rattle.pt_host.specs.Flags.{includes, o_path}
use Rattle.pt_host.specs.declared.ids.Errno.{Errno}
use Rattle.pt_host.specs.declared.ids.Fd.{Fd}
use Rattle.pt_host.specs.declared.ids.Time.{Time}
use Rattle.pt_host.specs.declared.seat.HostSeat.{HostSeat}
use Rattle.pt_host.specs.declared.reply.HostValue.TheVariants as value
use Rattle.pt_node.specs.Node.{bytes_in, is_directory, size_of}
use Rattle.pt_node.specs.Slots.{placed_at}
use Rattle.pt_rules.specs.State.{State, time_of}
use Rattle.pt_node.specs.Opening.{wants_read, wants_write}
use Rattle.pt_node.specs.Reading.{after_reading, part_of, read_checks}
use Rattle.pt_rules.specs.Calls.{Answered, checked, on_fd, refused, tells, with_node}
use Rattle.pt_node.specs.Entries.{changed_at, rewritten}
use Rattle.pt_node.specs.declared.node.Node.{Node}
use Rattle.pt_node.specs.declared.slots.OpenFile.{OpenFile}
use Rattle.pt_node.specs.Changes.{refilled}
use Rattle.pt_node.specs.Limits.{file_max}
use Rattle.pt_rules.specs.Rows.{RowEffect, Row, Stays, row, Becomes}

abbrev pub is_path_only : OpenFile → Bool
is_path_only file = includes file.flags.0 o_path

abbrev pub is_unreadable : OpenFile → Bool
is_unreadable file = is_path_only file || not (wants_read file.flags.0)

abbrev pub is_unwritable : OpenFile → Bool
is_unwritable file = is_path_only file || not (wants_write file.flags.0)

-- ---- WriteAt

-- so long at least, by zeros at the end
abbrev pub padded : ℕ → List ℕ → List ℕ
padded size bytes = bytes ++ replicate (size - length bytes) 0

-- these bytes with others in their place from an offset on; zeros fill a gap before them
abbrev pub written : ℕ → List ℕ → List ℕ → List ℕ
written offset bytes old = take offset (padded offset old) ++ (bytes ++ drop (offset + length bytes) old)

-- where a write begins
abbrev pub write_start : ℕ → Bool → Node → ℕ
write_start offset append node = if append then size_of node.content else offset

abbrev pub write_checks : OpenFile → ℕ → ℕ → List (Bool × Errno)
write_checks file start size = (is_unwritable file, ebadf) ∷ (nat_lt file_max (start + size), efbig) ∷ []

abbrev pub after_writing : HostSeat → Time → ℕ → List ℕ → Node → Node
after_writing seat now start bytes node = refilled seat now (written start bytes (bytes_in node.content)) node

-- no bytes change nothing
abbrev pub with_written : State → HostSeat → ℕ → ℕ → List ℕ → State
with_written state seat object start [] = state
with_written state seat object start (byte ∷ bytes) =
    record state { nodes = changed_at object (after_writing seat (time_of state) start (byte ∷ bytes)) state.nodes }

abbrev pub becomes_written : State → HostSeat → ℕ → List ℕ → Node → RowEffect
becomes_written state seat start [] node = Stays
becomes_written state seat start (byte ∷ bytes) node =
    Becomes (after_writing seat (time_of state) start (byte ∷ bytes) node)

abbrev pub write_row :
    (state : State) →
    (seat : HostSeat) →
    (offset : ℕ) →
    (bytes : List ℕ) →
    (append : Bool) →
    (file : OpenFile) →
    (node : Node) →
    Row
write_row state seat offset bytes append file node =
    row (write_checks file (write_start offset append node) (length bytes)) (value.Count (length bytes))
    (becomes_written state seat (write_start offset append node) bytes node)

-- ---- Truncate

abbrev pub truncate_checks : OpenFile → ℕ → List (Bool × Errno)
truncate_checks file size =
    (is_path_only file, ebadf)
    ∷ (not (wants_write file.flags.0), einval)
    ∷ (nat_lt file_max size, efbig)
    ∷ []

-- cut to the size, or lengthened with zeros
abbrev pub resized : ℕ → List ℕ → List ℕ
resized size bytes = take size (padded size bytes)

-- the times and the set-id bits change where the size stays too
abbrev pub truncate_row : State → HostSeat → ℕ → OpenFile → Node → Row
truncate_row state seat size file node =
    row (truncate_checks file size) value.Unit
    (Becomes (refilled seat (time_of state) (resized size (bytes_in node.content)) node))

-- ---- Allocate

-- 1 is `FALLOC_FL_KEEP_SIZE`
abbrev pub allocate_checks : OpenFile → ℕ → ℕ → ℕ → List (Bool × Errno)
allocate_checks file mode offset size =
    (is_unwritable file, ebadf)
    ∷ (nat_lt file_max (offset + size), efbig)
    ∷ (size == 0, einval)
    ∷ (nat_lt 1 mode, eopnotsupp)
    ∷ []

-- a file of this size is lengthened up to an end; other modes keep the size
abbrev pub lengthens : ℕ → ℕ → ℕ → Bool
lengthens mode size end = (mode == 0) && nat_lt size end

-- only what is lengthened changes
abbrev pub allocate_row : State → ℕ → ℕ → ℕ → OpenFile → Node → Row
allocate_row state mode offset size file node =
    row (allocate_checks file mode offset size) value.Unit (if lengthens mode (size_of node.content) (offset + size)
    then Becomes (rewritten (time_of state) (padded (offset + size) (bytes_in node.content)) node) else Stays)

-- ---- Seek

-- a position where it is one
abbrev pub as_position : ℤ → Result ℕ Errno
as_position (pos position) = if nat_lt position (2 ^ 63) then Ok position else Err eoverflow
as_position (negsuc below) = Err einval

-- an offset that lies in the file, which is data up to its end
abbrev pub as_offset : ℕ → ℤ → Option ℕ
as_offset size (pos offset) = if nat_lt offset size then Some offset else None
as_offset size (negsuc below) = None

abbrev pub next_data : ℕ → ℤ → Result ℕ Errno
next_data size offset = ok_or (as_offset size offset) enxio

abbrev pub next_hole : ℕ → ℤ → Result ℕ Errno
next_hole size offset = ok_or (option_map (λ place. size) (as_offset size offset)) enxio

-- from the start, the position and the end; to data and to a hole
abbrev pub sought : ℕ → ℕ → ℤ → ℕ → Result ℕ Errno
sought position size offset whence =
    if whence == 0 then as_position offset
    else if whence == 1 then as_position (pos position +ℤ offset)
    else if whence == 2 then as_position (pos size +ℤ offset)
    else if whence == 3 then next_data size offset
    else if whence == 4 then next_hole size offset
    else Err einval

abbrev pub seek_checks : OpenFile → Node → List (Bool × Errno)
seek_checks file node = (is_path_only file, ebadf) ∷ (is_directory node, einval) ∷ []

-- the state with the descriptor at another position
abbrev pub with_position : State → ℕ → ℕ → State
with_position state fd position = record state { slots = placed_at fd position state.slots }

abbrev pub seek_to : State → ℕ → Result ℕ Errno → Answered
seek_to state fd (Err errno) = refused state errno
seek_to state fd (Ok position) = tells (with_position state fd position) (value.Count position)

abbrev pub seek : State → Fd → ℤ → ℕ → Answered
seek state fd offset whence = on_fd state fd
    (λ file node. checked state (seek_checks file node)
    (seek_to state fd.0 (sought file.position (size_of node.content) offset whence)))

-- ---- CopyRange

-- what a copy really takes
abbrev pub copied : ℕ → ℕ → Node → List ℕ
copied offset size node = part_of offset size (bytes_in node.content)

-- ranges of this size have a place in common
abbrev pub overlap : ℕ → ℕ → ℕ → Bool
overlap offset offset2 size = nat_lt offset (offset2 + size) && nat_lt offset2 (offset + size)

abbrev pub copy_checks :
    (file : OpenFile) →
    (node : Node) →
    (file2 : OpenFile) →
    (offset : ℕ) →
    (offset2 : ℕ) →
    (size : ℕ) →
    (flags : ℕ) →
    List (Bool × Errno)
copy_checks file node file2 offset offset2 size flags =
    (nat_lt 0 flags, einval)
    ∷ (is_unreadable file || is_unwritable file2, ebadf)
    ∷ (is_directory node, eisdir)
    ∷ ((file.object == file2.object) && overlap offset offset2 size, einval)
    ∷ (nat_lt 0 size && nat_lt file_max (offset2 + size), efbig)
    ∷ []

-- the source is read, and the target written where there is something to write
abbrev pub with_copied :
    (state : State) →
    (seat : HostSeat) →
    (object : ℕ) →
    (node : Node) →
    (object2 : ℕ) →
    (offset2 : ℕ) →
    (bytes : List ℕ) →
    State
with_copied state seat object node object2 offset2 bytes =
    with_written (with_node state object (after_reading (time_of state) node)) seat object2 offset2 bytes

abbrev pub copy_range :
    (state : State) →
    (seat : HostSeat) →
    (fd : Fd) →
    (offset : ℕ) →
    (fd2 : Fd) →
    (offset2 : ℕ) →
    (size : ℕ) →
    (flags : ℕ) →
    Answered
copy_range state seat fd offset fd2 offset2 size flags = on_fd state fd (λ file node. on_fd state fd2
    (λ file2 node2. checked state (copy_checks file node file2 offset offset2 (length (copied offset size node)) flags)
    (tells (with_copied state seat file.object node file2.object offset2 (copied offset size node))
    (value.Count (length (copied offset size node))))))

-- ---- ReadAt, Flush, Sync, SyncFs

abbrev pub read_row : State → ℕ → ℕ → OpenFile → Node → Row
read_row state offset size file node =
    row (read_checks node file.flags.0) (value.Bytes (part_of offset size (bytes_in node.content)))
    (Becomes (after_reading (time_of state) node))

abbrev pub flush_row : OpenFile → Node → Row
flush_row file node = row [] value.Unit Stays

abbrev pub sync_row : OpenFile → Node → Row
sync_row file node = row ((is_path_only file, ebadf) ∷ []) value.Unit Stays
