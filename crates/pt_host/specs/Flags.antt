-- Believed. The flags of `open(2)` and the capabilities that the rules name.
use Rattle.std.specs.Prelude.{ℕ, Bool, ◌==◌}
use Rattle.std.specs.Int.RustNames.{bit_and}

-- all bits of the second are set in the first
abbrev pub includes : ℕ → ℕ → Bool
includes flags bits = bit_and flags bits == bits

abbrev pub o_creat : ℕ
o_creat = 64

abbrev pub o_excl : ℕ
o_excl = 128

abbrev pub o_trunc : ℕ
o_trunc = 512

abbrev pub o_directory : ℕ
o_directory = 65536

abbrev pub o_path : ℕ
o_path = 2097152

abbrev pub o_tmpfile : ℕ
o_tmpfile = 4259840

-- `O_PATH | O_NOFOLLOW | O_CLOEXEC`
abbrev pub path_flags : ℕ
path_flags = 2752512

abbrev pub cap_setgid : ℕ
cap_setgid = 32

abbrev pub cap_setuid : ℕ
cap_setuid = 64
