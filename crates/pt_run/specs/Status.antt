-- Believed. How the program ends: its exit status, and its line on standard error.
use Rattle.std.specs.Prelude.{ℕ, Bool, true, false, if◌then◌else◌, List, [], ◌∷◌, ◌++◌, codes, decimal}
use Rattle.std.specs.Fmt.{signed_decimal}
use Rattle.pt_run.specs.declared.status.Status.{Status}
use Rattle.pt_run.specs.declared.status.Status.TheVariants as status

abbrev pub exit_of : Status → ℕ
exit_of status.Done = 0
exit_of status.Usage = 2
exit_of status.TooLong = 3
exit_of (status.BadScript line) = 4
exit_of (status.BadConfig errno) = 5
exit_of status.ReadFault = 6
exit_of status.WriteFault = 7
exit_of status.CredentialsLost = 8
exit_of status.NoMemory = 9

abbrev pub message_of : Status → List ℕ
message_of status.Done = []
message_of status.Usage = codes "usage: pt_main script | gen N SEED"
message_of status.TooLong = codes "script too long"
message_of (status.BadScript line) = codes "bad script at line " ++ decimal line
message_of (status.BadConfig errno) = codes "bad configuration: os error " ++ signed_decimal errno.0
message_of status.ReadFault = codes "read fault"
message_of status.WriteFault = codes "write fault"
message_of status.CredentialsLost = codes "credentials lost"
message_of status.NoMemory = codes "no memory"

abbrev pub is_done : Status → Bool
is_done status.Done = true
is_done other = false

-- `Done` has no line
abbrev pub status_line : Status → List ℕ
status_line status = if is_done status then [] else message_of status ++ 10 ∷ []
