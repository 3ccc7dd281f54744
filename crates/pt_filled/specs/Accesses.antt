-- Believed. What handles may be used for. After open(2), read(2), write(2), and the cache of writes of fuse(4).
use Rattle.std.specs.Prelude.{◌≡◌, ℕ, ◌==◌, Bool, true, ◌&&◌, ◌||◌, if◌then◌else◌, bit_and, Option, Some, None, is_some}
use Rattle.pt_tables.specs.declared.form.Negotiated.{Negotiated}
use Rattle.pt_filled.specs.Contents.{FilledTree}

abbrev pub reads : ℕ → Bool
reads access = (access == 0) || (access == 2)

abbrev pub writes : ℕ → Bool
writes access = (access == 1) || (access == 2)

-- what the flags of open(2) ask for
abbrev pub asked_for : ℕ → ℕ
asked_for flags = bit_and flags 3

-- A guest that gathers what is written reads what it writes a part of: what is opened to write is opened to read too.
abbrev pub opened_for : Negotiated → ℕ → ℕ
opened_for agreed flags = if agreed.writeback && (asked_for flags == 1) then 2 else asked_for flags

abbrev pub MayRead : FilledTree → ℕ → Type 0
MayRead state handle = reads (state.accesses handle) ≡ true

abbrev pub MayWrite : FilledTree → ℕ → Type 0
MayWrite state handle = writes (state.accesses handle) ≡ true

-- where there is a handle
abbrev pub MayWriteBy : FilledTree → Option ℕ → Type 0
MayWriteBy state None = Unit {0}
MayWriteBy state (Some handle) = MayWrite state handle

-- a handle that the guest keeps goes on as it was opened
abbrev pub AccessesStay : FilledTree → FilledTree → Type 0
AccessesStay state after =
    (handle : ℕ) → is_some (state.plain.handles handle) ≡ true → is_some (after.plain.handles handle) ≡ true →
    after.accesses handle ≡ state.accesses handle
