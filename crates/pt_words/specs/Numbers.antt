-- Believed. The requests of a script that begin and end numbers, and a session.
use Rattle.std.specs.Prelude.{ℕ, List, Option, Some}
use Rattle.pt_iface.specs.declared.request.Request.{Request}
use Rattle.pt_iface.specs.declared.request.Request.TheVariants.{Init, Lookup, Forget, BatchForget}
use Rattle.pt_words.specs.Fields.{◌>>=◌, number_in, small_in, pairs_in, at_end}
use Rattle.pt_words.specs.Naming.{name_in}

-- `init CAPABLE`
abbrev pub init_in : List (List ℕ) → Option Request
init_in words = do
  capable ← small_in words
  at_end capable.rest (Init (record { 0 = capable.value }))

-- `lookup PARENT NAME`
abbrev pub lookup_in : List (List ℕ) → Option Request
lookup_in words = name_in words >>= (λ told. Some (Lookup told.0 told.1))

-- `forget INODE COUNT`
abbrev pub forget_in : List (List ℕ) → Option Request
forget_in words = do
  inode ← number_in words
  count ← number_in inode.rest
  at_end count.rest (Forget inode.value count.value)

-- `batch_forget N INODE COUNT ..`, with N pairs
abbrev pub batch_forget_in : List (List ℕ) → Option Request
batch_forget_in words = do
  count ← number_in words
  pairs ← pairs_in count.value count.rest
  at_end pairs.rest (BatchForget pairs.value)
