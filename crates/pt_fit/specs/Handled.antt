-- Believed. That a handle which a job inserted is the one that its answer has.
use Rattle.std.specs.Prelude.{◌≡◌, ℕ, List}
use Rattle.pt_host.specs.Words.{is}
use Rattle.pt_iface.specs.declared.answer.Answer.{Answer}
use Rattle.pt_iface.specs.declared.answer.Answer.TheVariants as answer
use Rattle.pt_frame.specs.Deed.{Step}
use Rattle.pt_law.specs.Ledger.{handle_inserted_as, summed}

-- how often the handle was inserted by these steps
abbrev pub handles_in : ℕ → List Step → ℕ
handles_in handle steps = summed (handle_inserted_as handle) steps

-- 1 where the answer has this handle
abbrev pub handle_count : ℕ → Answer → ℕ
handle_count handle (answer.Opened same options) = is same handle
handle_count handle (answer.Created entry same options) = is same handle
handle_count handle last = 0

-- What was inserted is what is answered, so nothing where the job is refused or memory ran out; unless it was cut.
abbrev pub KeepsHandle : List Step → Answer → Type 0
KeepsHandle steps answer.Cut = Unit {0}
KeepsHandle steps last = (handle : ℕ) → handles_in handle steps ≡ handle_count handle last
