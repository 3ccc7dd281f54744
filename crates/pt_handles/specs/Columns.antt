-- Inner. The parts of the list of mounts, as they are found.
use Rattle.std.specs.Prelude.{ℕ, List, ◌++◌, option_copied}
use Rattle.pt_handles.specs.MountInfo.{Cut}
use Rattle.pt_handles.specs.declared.mount_info.Columns.{Columns}

-- a column that is lent, and the others
abbrev pub cut_of : Columns → Cut
cut_of columns = record { front = columns.first.now; rest = option_copied columns.rest }

-- a column of which these bytes were passed
abbrev pub passed : List ℕ → Cut → Cut
passed front later = record { front = front ++ later.front; rest = later.rest }
