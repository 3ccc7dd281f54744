-- Proof. A tree host has one outcome unless memory runs out.
use Rattle.std.proofs.Common.{◌≡◌, ◌≢◌, ℕ, inl, inr, Option, Some, None, ap, sym, ◌∙◌, arith}
use Rattle.std.proofs.lemmas.Bool.Decides.{leb_tells}
use Rattle.pt_host.specs.Call.{Call}
use Rattle.pt_host.specs.declared.ids.Errno.{Errno}
use Rattle.pt_host.specs.declared.seat.HostSeat.{HostSeat}
use Rattle.pt_host.specs.declared.reply.HostReply.{HostReply}
use Rattle.pt_host.specs.declared.reply.HostReply.TheVariants.{NoMemory}
use Rattle.pt_rules.specs.Faults.{failure_of, past_plan}
use Rattle.pt_rules.specs.Living.{AreLeastFree, IsLeastFree}
use Rattle.pt_rules.specs.State.{State, counted}
use Rattle.pt_rules.specs.Table.{Outcome, outcome}
use Rattle.pt_rules.specs.Does.{AnswersCall, Does}

-- a device has one least free number
one_least : (state : State) (dev m n : ℕ) → IsLeastFree state dev m → IsLeastFree state dev n → m ≡ n
one_least state dev m n one other = elim (leb_tells m n) [
  | inl below ↦ elim (leb_tells n m) [
    | inl above ↦ (let a = below.1 in let b = above.1 in omega arith)
    | inr less ↦ absurd (one.free (other.least m one.from_one less.1))
  ]
  | inr more ↦ absurd (other.free (one.least n other.from_one more.1))
]

same_numbers : (state : State) (numbers other : ℕ → ℕ) → AreLeastFree state numbers → AreLeastFree state other →
    numbers ≡ other
same_numbers state numbers other least too =
    λ k dev. one_least state dev (numbers dev) (other dev) (least dev) (too dev) k

-- what comes of a call unless memory runs out
same_outcome : (failing : Option Errno) (before : State) (numbers other : ℕ →
    ℕ) (seat : HostSeat) (asked : Call) (told told' : HostReply) (after after' : State)
    (left left' : HostSeat) → told ≢ NoMemory → told' ≢ NoMemory → numbers ≡ other →
    AnswersCall failing before numbers seat asked told after left →
    AnswersCall failing before other seat asked told' after' left' → (told ≡ told') × (after ≡ after') × (left ≡ left')
same_outcome (Some errno) before numbers other seat asked told told' after after' left left' w w' same h k =
    let e = h ∙ sym k in (ap (λ (o : Outcome). o.0) e, ap (λ (o : Outcome). o.1) e, ap (λ (o : Outcome). o.2) e)
same_outcome None before numbers other seat asked told told' after after' left left' w w' same (inr none) k =
    absurd (w (ap (λ (o : Outcome). o.0) none.1))
same_outcome None before numbers other seat asked told told' after after' left left' w w' same (inl h) (inr none) =
    absurd (w' (ap (λ (o : Outcome). o.0) none.1))
same_outcome None before numbers other seat asked told told' after after' left left' w w' same (inl h) (inl k) =
    let e = h ∙ ap (λ (n : ℕ → ℕ). outcome before n seat asked) same ∙ sym k in
    (ap (λ (o : Outcome). o.0) e, ap (λ (o : Outcome). o.1) e, ap (λ (o : Outcome). o.2) e)

-- two steps from the same state and seat are alike
pub determined : (before after after' : State) (seat left left' : HostSeat) (asked : Call) (told told' : HostReply) →
    told ≢ NoMemory → told' ≢ NoMemory →
    Does before seat asked told after left → Does before seat asked told' after' left' →
    (told ≡ told') × (after ≡ after') × (left ≡ left')
determined before after after' seat left left' asked told told' w w' h k =
    let same = same_numbers before h.answers.numbers k.answers.numbers h.answers.least k.answers.least in
    let alike = same_outcome
    (failure_of before asked) before h.answers.numbers k.answers.numbers seat asked told told' h.answers.state
    k.answers.state left left'
    w w' same h.answers.answered k.answers.answered in
    (alike.0, h.answers.counts ∙ ap (λ (s : State). counted (past_plan s)) alike.1 ∙ sym k.answers.counts, alike.2)
