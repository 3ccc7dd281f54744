-- Believed. File handles as plain data, which may come from another host.
use Rattle.std.specs.Prelude.{◌≡◌, ◌≢◌, ◌⊎◌, ◌/◌, ◌%◌, ℕ, ℤ, false, List, [], ◌∷◌, ◌++◌, codes, decimal, Result, Ok}
use Rattle.std.specs.Prelude.{Err}
use Rattle.std.specs.List.{flat_map}
use Rattle.std.specs.Fmt.{digits, digit_glyph}
use Rattle.std.specs.Int.{cast_unsigned, w32}
use Rattle.pt_host.specs.declared.handle.FileHandle.{FileHandle}
use Rattle.pt_host.specs.Relation.{HostRelation}
use Rattle.pt_host.specs.declared.seat.HostSeat.{HostSeat}
use Rattle.pt_host.specs.declared.op.KeptHostOp.TheVariants as call
use Rattle.pt_handles.specs.OneCall.{AsksOnce}
use Rattle.pt_handles.specs.FileHandles.{TellsHandle}
use Rattle.pt_handles.specs.declared.error.HandleError.{HandleError}
use Rattle.pt_handles.specs.declared.error.HandleError.TheVariants as error
use Rattle.pt_handles.specs.declared.mount_fd.MountFd.{MountFd}
use Rattle.pt_handles.specs.declared.openable.OpenableFileHandle.{OpenableFileHandle}
use Rattle.pt_handles.specs.declared.openable.FileOrHandle.{FileOrHandle}
use Rattle.pt_handles.specs.declared.openable.FileOrHandle.TheVariants as way
use Rattle.pt_handles.specs.declared.serializable.SerializableFileHandle.{SerializableFileHandle}
use Rattle.pt_handles.specs.declared.serializable.EqualError.{EqualError}
use Rattle.pt_handles.specs.declared.serializable.EqualError.TheVariants as unequal

abbrev pub serial_of : FileHandle → SerializableFileHandle
serial_of handle = record {
  mnt_id = handle.mnt_id;
  handle_type = handle.handle.handle_type;
  handle = handle.handle.bytes;
}

-- of this handle, unless memory ran out
abbrev pub IsSerialOf : FileHandle → Result SerializableFileHandle HandleError → Type 0
IsSerialOf handle (Ok serial) = serial ≡ serial_of handle
IsSerialOf handle (Err why) = why ≡ error.Memory

-- of the handle that is told, or that one's refusal
abbrev pub IsSerialIf : Result FileHandle HandleError → Result SerializableFileHandle HandleError → Type 0
IsSerialIf (Ok handle) serial = IsSerialOf handle serial
IsSerialIf (Err why) serial = serial ≡ Err why

-- a descriptor's handle is asked for
abbrev pub IsSerialFrom :
    {H : Type 0} →
    (does : HostRelation H) →
    (from : FileOrHandle) →
    (host : H) →
    (seat : HostSeat) →
    (result : Result SerializableFileHandle HandleError) →
    (host' : H) →
    (seat' : HostSeat) →
    Type 0
IsSerialFrom does (way.Handle openable) host seat result host' seat' =
    (host' ≡ host) × (seat' ≡ seat) × IsSerialOf openable.handle result
IsSerialFrom does (way.File fd) host seat result host' seat' =
    AsksOnce does (call.HandleOf fd) (λ told.
    (handle : Result FileHandle HandleError) × TellsHandle told handle × IsSerialIf handle result) host seat host' seat'

-- a byte in two hexadecimal digits
abbrev pub hex_byte : ℕ → List ℕ
hex_byte byte = digit_glyph false (byte / 16) ∷ digit_glyph false (byte % 16) ∷ []

-- a handle's type: its 32 bits in hexadecimal
abbrev pub type_text : ℤ → List ℕ
type_text kind = codes "0x" ++ digits 16 false (cast_unsigned w32 kind)

abbrev pub serial_text : SerializableFileHandle → List ℕ
serial_text serial =
    codes "mount_id=" ++ (decimal serial.mnt_id ++ (codes ", handle_type=" ++ (type_text serial.handle_type
    ++ (codes ", handle=" ++ flat_map hex_byte serial.handle))))

-- each byte behind a space
abbrev pub spaced_text : List ℕ → List ℕ
spaced_text bytes = flat_map (λ byte. codes " " ++ hex_byte byte) bytes

abbrev pub mount_differs : ℕ → ℕ → List ℕ
mount_differs one other =
    codes "File handle mount ID differs: " ++ (decimal one ++ (codes " != " ++ decimal other))

abbrev pub type_differs : ℤ → ℤ → List ℕ
type_differs one other =
    codes "File handle type differs: " ++ (type_text one ++ (codes " != " ++ type_text other))

abbrev pub bytes_differ : List ℕ → List ℕ → List ℕ
bytes_differ one other = codes "File handle differs:" ++ (spaced_text one ++ (codes " !=" ++ spaced_text other))

-- what the two differ in first, beside their mounts, as it is told
abbrev pub HandlesDiffer : SerializableFileHandle → SerializableFileHandle → List ℕ → Type 0
HandlesDiffer one other text =
    ((one.handle_type ≢ other.handle_type) × (text ≡ type_differs one.handle_type other.handle_type))
    ⊎ ((one.handle_type ≡ other.handle_type) × (one.handle ≢ other.handle)
    × (text ≡ bytes_differ one.handle other.handle))

-- the mount counts first
abbrev pub Differ : SerializableFileHandle → SerializableFileHandle → List ℕ → Type 0
Differ one other text =
    ((one.mnt_id ≢ other.mnt_id) × (text ≡ mount_differs one.mnt_id other.mnt_id))
    ⊎ ((one.mnt_id ≡ other.mnt_id) × HandlesDiffer one other text)

-- they differ, which is told so, unless memory ran out
abbrev pub TellsDifference : (List ℕ → Type 0) → EqualError → Type 0
TellsDifference Differs (unequal.Differs text) = Differs text
TellsDifference Differs unequal.Memory = (text : List ℕ) × Differs text

-- with the mount of the descriptor, on which it is to be good, in the place of its own
abbrev pub openable_of : SerializableFileHandle → MountFd → OpenableFileHandle
openable_of serial mount = record {
  handle = record {
    mnt_id = mount.mount_id;
    handle = record { handle_type = serial.handle_type; bytes = serial.handle };
  };
  mount_fd = mount;
}
