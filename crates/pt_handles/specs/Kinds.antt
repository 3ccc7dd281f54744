-- Believed. The kind of an object by its mode, after inode(7).
use Rattle.std.specs.Prelude.{ℕ, Bool, ◌==◌, ◌||◌}
use Rattle.std.specs.Int.RustNames.{bit_and}

-- `S_IFMT`, `S_IFREG`, `S_IFDIR`
abbrev pub kind_bits : ℕ
kind_bits = 61440

abbrev pub regular_bits : ℕ
regular_bits = 32768

abbrev pub directory_bits : ℕ
directory_bits = 16384

-- a regular file or a directory; to open any other kind may do more than open it
abbrev pub is_safe_inode : ℕ → Bool
is_safe_inode mode = (bit_and mode kind_bits == regular_bits) || (bit_and mode kind_bits == directory_bits)
