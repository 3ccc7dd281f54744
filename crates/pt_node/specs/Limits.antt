-- Believed. The limits of a tree in memory.
use Rattle.std.specs.Prelude.{ℕ}

-- the most bytes of a name
abbrev pub name_max : ℕ
name_max = 255

-- the most bytes of a link's target
abbrev pub target_max : ℕ
target_max = 4095

-- the most bytes of a regular file
abbrev pub file_max : ℕ
file_max = 1048576

-- the most bytes of the name of an extended attribute, and of its value
abbrev pub xattr_name_max : ℕ
xattr_name_max = 255

abbrev pub xattr_value_max : ℕ
xattr_value_max = 65536

-- the most links that are counted
abbrev pub links_max : ℕ
links_max = 4294967295
