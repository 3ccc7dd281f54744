-- Believed. Paths: what follows a prefix, and what the link of a descriptor in `/proc/self/fd` tells, after proc(5)
-- and readlink(2).
use Rattle.std.specs.Prelude.{◌≡◌, ◌≢◌, ℕ, ◌==◌, nat_le, Bool, List, [], ◌∷◌, ◌++◌, length, take, replicate, codes}
use Rattle.std.specs.Prelude.{◌-◌, nat_eq, Option, Some, None, Result, Ok, Err, position}
use Rattle.std.specs.Prelude.{if◌then◌else◌}
use Rattle.std.specs.List.{list_any, before_first, ends_with}
use Rattle.pt_host.specs.declared.ids.Fd.{Fd}
use Rattle.pt_host.specs.declared.reply.HostReply.{HostReply}
use Rattle.pt_host.specs.declared.reply.HostReply.TheVariants as reply
use Rattle.pt_host.specs.declared.reply.HostValue.TheVariants as value
use Rattle.pt_handles.specs.Texts.{fd_text}
use Rattle.pt_handles.specs.declared.error.HandleError.{HandleError}
use Rattle.pt_handles.specs.declared.error.HandleError.TheVariants as handle_error
use Rattle.pt_handles.specs.declared.path_error.FdPathError.{FdPathError}
use Rattle.pt_handles.specs.declared.path_error.FdPathError.TheVariants as error

-- no slash stands at the front
abbrev pub HasNoSlash : List ℕ → Type 0
HasNoSlash [] = Unit {0}
HasNoSlash (byte ∷ bytes) = byte ≢ 47

-- The path is the prefix, any number of slashes, and this rest. The prefix may end inside a name.
pub record IsBehind (path prefix rest : List ℕ) : Type 0 where
  pub slashes : ℕ
  pub parts : path ≡ prefix ++ (replicate slashes 47 ++ rest)
  pub bare : HasNoSlash rest

-- `PATH_MAX`
abbrev pub path_max : ℕ
path_max = 4096

-- what stands behind the path of a file that has lost its name: ` (deleted)`
abbrev pub deleted_mark : List ℕ
deleted_mark = codes " (deleted)"

-- what stands before the first slash has a colon, as `pipe:[1]` has
abbrev pub is_no_file : List ℕ → Bool
is_no_file link = list_any (λ byte. byte == 58) (before_first (λ byte. byte == 47) link)

abbrev pub without_mark : List ℕ → List ℕ
without_mark link = take (length link - length deleted_mark) link

-- a NUL stands there
abbrev pub invalid_at : Option ℕ → Option FdPathError
invalid_at None = None
invalid_at (Some place) = Some (error.InvalidCString place)

-- the errors of a path in their order, the first of which counts, each with what it is told by
abbrev pub path_checks : List ℕ → List (Option FdPathError)
path_checks link =
    (if nat_le path_max (length link) then Some error.TooLong else None)
    ∷ invalid_at (position (λ byte. byte == 0) link)
    ∷ (if is_no_file link then Some (error.NotAFile link) else None)
    ∷ (if ends_with nat_eq link deleted_mark then Some (error.Deleted (without_mark link)) else None)
    ∷ []

-- the path that a link tells, unless one of them stands against it
abbrev pub first_error : List (Option FdPathError) → List ℕ → Result (List ℕ) FdPathError
first_error [] link = Ok link
first_error (Some why ∷ later) link = Err why
first_error (None ∷ later) link = first_error later link

abbrev pub path_in : List ℕ → Result (List ℕ) FdPathError
path_in link = first_error (path_checks link) link

-- what asking for a descriptor's path gives
abbrev pub TellsPath : HostReply → Result (List ℕ) FdPathError → Type 0
TellsPath (reply.Ok (value.Bytes link)) result = result ≡ path_in link
TellsPath (reply.Refused errno) result = result ≡ Err (error.ReadLink errno)
TellsPath (reply.Fault errno) result = result ≡ Err (error.ReadLink errno)
TellsPath reply.NoMemory result = result ≡ Err error.Memory
TellsPath _ result = ⊥

-- the descriptor's number as a text, unless memory runs out
abbrev pub IsNumber : Fd → Result (List ℕ) HandleError → Type 0
IsNumber fd (Ok text) = text ≡ fd_text fd
IsNumber fd (Err handle_error.Memory) = Unit {0}
IsNumber fd (Err (handle_error.Named errno path)) = ⊥
IsNumber fd (Err handle_error.TooLong) = ⊥
IsNumber fd (Err handle_error.OutsidePrefix) = ⊥
IsNumber fd (Err (handle_error.Host errno)) = ⊥

-- the path where there is one, else the descriptor's number, unless the host's memory ran out
abbrev pub IsShownBy : Fd → Result (List ℕ) FdPathError → Result (List ℕ) HandleError → Type 0
IsShownBy fd (Ok path) result = result ≡ Ok path
IsShownBy fd (Err error.Memory) result = result ≡ Err handle_error.Memory
IsShownBy fd (Err (error.ReadLink errno)) result = IsNumber fd result
IsShownBy fd (Err error.TooLong) result = IsNumber fd result
IsShownBy fd (Err (error.InvalidCString place)) result = IsNumber fd result
IsShownBy fd (Err (error.NotAFile path)) result = IsNumber fd result
IsShownBy fd (Err (error.Deleted path)) result = IsNumber fd result
