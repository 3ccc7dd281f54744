-- Believed. The listing of a directory by records, after getdents64(2).
use Rattle.std.specs.Prelude.{ℕ, ◌+◌, ◌-◌, nat_lt, nat_le, not, Bool, false, List, [], ◌∷◌, ◌++◌, length, drop}
use Rattle.std.specs.Prelude.{replicate, Option, Some, None, unwrap_or, slice_get, if◌then◌else◌}
use Rattle.std.specs.Int.{next_multiple_of, to_le_bytes, w16, w64}
use Rattle.pt_host.specs.Errno.{ebadf, einval, enotdir}
use Rattle.pt_host.specs.declared.ids.Errno.{Errno}
use Rattle.pt_host.specs.declared.ids.Fd.{Fd}
use Rattle.pt_host.specs.declared.reply.HostValue.TheVariants as value
use Rattle.pt_node.specs.Node.{is_directory, kind_number, names_in}
use Rattle.pt_rules.specs.State.{State, time_of}
use Rattle.pt_node.specs.Reading.{after_reading}
use Rattle.pt_rules.specs.Calls.{Answered, checked, on_fd, tells, with_node}
use Rattle.pt_rules.specs.ContentCalls.{is_path_only, with_position}
use Rattle.pt_node.specs.declared.node.Node.{Node}
use Rattle.pt_node.specs.declared.slots.OpenFile.{OpenFile}

-- how long the record of a name is: 19 bytes, the name, a NUL, and zeros up to a multiple of 8
abbrev pub record_size : List ℕ → ℕ
record_size name = next_multiple_of (length name + 20) 8

-- inode number, the offset of the next record, length, kind
abbrev pub record_head : ℕ → ℕ → Node → List ℕ
record_head next size node =
    to_le_bytes w64 node.ids.ino ++ (to_le_bytes w64 next ++ (to_le_bytes w16 size ++ kind_number node.content ∷ []))

-- and then the name, a NUL and zeros
abbrev pub record_of : ℕ → List ℕ → Node → List ℕ
record_of next name node =
    record_head next (record_size name) node ++ (name ++ replicate (record_size name - length name - 19) 0)

abbrev pub record_at : ℕ → List ℕ → Option Node → List ℕ
record_at next name None = []
record_at next name (Some node) = record_of next name node

-- the records of these names from a place on, as many as fit, and the place after them
abbrev pub before_others : List ℕ → List ℕ × ℕ → List ℕ × ℕ
before_others bytes others = (bytes ++ others.0, others.1)

abbrev pub records : ℕ → ℕ → List Node → List (List ℕ × ℕ) → List ℕ × ℕ
records size place nodes [] = ([], place)
records size place nodes (entry ∷ more) =
    if nat_le (record_size entry.0) size
    then before_others (record_at (place + 1) entry.0 (slice_get nodes entry.1))
    (records (size - record_size entry.0) (place + 1) nodes more)
    else ([], place)

-- the names of a directory from a place on
abbrev pub names_from : ℕ → Node → List (List ℕ × ℕ)
names_from place node = drop place (names_in node.content)

-- there is a next record, and it does not fit
abbrev pub does_not_fit : ℕ → List (List ℕ × ℕ) → Bool
does_not_fit size [] = false
does_not_fit size (entry ∷ more) = nat_lt size (record_size entry.0)

abbrev pub list_checks : OpenFile → Node → ℕ → ℕ → List (Bool × Errno)
list_checks file node place size =
    (is_path_only file, ebadf)
    ∷ (not (is_directory node), enotdir)
    ∷ (does_not_fit size (names_from place node), einval)
    ∷ []

-- the state after the directory was listed up to a place
abbrev pub with_listed : State → ℕ → OpenFile → Node → ℕ → State
with_listed state fd file node place =
    with_position (with_node state file.object (after_reading (time_of state) node)) fd place

abbrev pub tell_records : State → ℕ → OpenFile → Node → List ℕ × ℕ → Answered
tell_records state fd file node told = tells (with_listed state fd file node told.1) (value.Bytes told.0)

-- from the offset on, where there is one, and else from the descriptor's position
abbrev pub list_from : State → ℕ → OpenFile → Node → ℕ → ℕ → Answered
list_from state fd file node place size = checked state (list_checks file node place size)
    (tell_records state fd file node (records size place state.nodes (names_from place node)))

abbrev pub list_at : State → Fd → Option ℕ → ℕ → Answered
list_at state fd offset size =
    on_fd state fd (λ file node. list_from state fd.0 file node (unwrap_or offset file.position) size)
