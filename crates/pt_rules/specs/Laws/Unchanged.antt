-- Proof. What a step says of the failures that are planned, and of a call that is not Ok.
use Rattle.std.proofs.Common.{◌≡◌, ◌↔◌, inl, inr, ℕ, Option, Some, None, refl, ap, sym, ◌∙◌, subst, arith}
use Rattle.std.proofs.lemmas.Option.{same_Some}
use Rattle.pt_host.specs.Call.{Call}
use Rattle.pt_host.specs.Contents.{Contents}
use Rattle.pt_host.specs.LawfulTree.{TreeChanges, LawfulTree}
use Rattle.pt_host.specs.Promises.{IsAllowed}
use Rattle.pt_host.specs.SeatStep.{SeatStep}
use Rattle.pt_host.specs.Tree.{IsWellFormed, Tree}
use Rattle.pt_host.specs.declared.ids.Errno.{Errno}
use Rattle.pt_host.specs.declared.seat.HostSeat.{HostSeat}
use Rattle.pt_host.specs.declared.op.KeptHostOp.TheVariants as call
use Rattle.pt_host.specs.declared.reply.HostReply.{HostReply}
use Rattle.pt_host.specs.declared.reply.HostReply.TheVariants as reply
use Rattle.pt_rules.specs.Beside.{KeepsAll, LeavesBeside}
use Rattle.pt_rules.specs.Does.{AnswersCall, Does, without_memory}
use Rattle.pt_rules.specs.Faults.{failure_of, faults_with, one_more}
use Rattle.pt_rules.specs.Living.{AreLeastFree}
use Rattle.pt_host.specs.SeatAnswer.{seat_answer}
use Rattle.pt_rules.specs.Sound.{IsSound}
use Rattle.pt_rules.specs.State.{State, contents_of, tree_of}
use Rattle.pt_rules.specs.Table.{Seated, Outcome, answer, failing_outcome, outcome, outcome_where}
use Rattle.pt_rules.specs.Unchanged.{IsNotOk, tree_left}
use Rattle.pt_rules.specs.Laws.FaultLaws.{failing_faults}
use Rattle.pt_rules.specs.Laws.Lawful.{does_lawful_seat, does_lawful_tree, does_leave_beside, fair_answer}
use Rattle.pt_rules.specs.Laws.SeatLaws.{own_allowed}

-- ---- by the table no call fails

abbrev IsNoFault : HostReply → Type 0
IsNoFault (reply.Fault errno) = ⊥
IsNoFault given = Unit {0}

not_risen : (asked : Call) (given : HostReply) → IsAllowed 0 asked given 0 → IsNoFault given
not_risen asked (reply.Fault errno) risen = omega arith
not_risen asked given allowed = tt

same_faults : (given : HostReply) (faults : ℕ) → IsNoFault given → faults_with given faults ≡ faults
same_faults (reply.Fault errno) faults none = absurd none
same_faults given faults none = refl

abbrev fault_of : Errno → HostReply
fault_of errno = reply.Fault errno

module _ (host : State) (seat : HostSeat) (asked : Call) (numbers : ℕ → ℕ) (sound : IsSound host)
    (least : AreLeastFree host numbers) where
  no_fault : (own : Option Seated) → seat_answer seat asked ≡ own →
      IsNoFault (outcome_where host numbers seat asked own).0
  no_fault (Some told) is = not_risen asked told.0 (own_allowed asked seat told 0 is)
  no_fault None is = not_risen asked (answer host numbers seat asked).0
      ((fair_answer host numbers seat asked sound least).allowed 0)

  same_count : (own : Option Seated) → seat_answer seat asked ≡ own →
      (outcome_where host numbers seat asked own).1.faults ≡ host.faults
  same_count (Some told) is = refl
  same_count None is = (fair_answer host numbers seat asked sound least).faults

  -- what holds of a planned failure, by the table and without memory holds of the answer
  module _ (P : Outcome → Type 0)
      (fails : (errno : Errno) → failure_of host asked ≡ Some errno → P (failing_outcome host seat asked errno))
      (answers : failure_of host asked ≡ None → P (outcome host numbers seat asked))
      (lacks : failure_of host asked ≡ None → P (without_memory host seat)) where
    by_answer : (failing : Option Errno) → failure_of host asked ≡ failing →
        (given : HostReply) (after : State) (seat_after : HostSeat) →
        AnswersCall failing host numbers seat asked given after seat_after → P (given, after, seat_after)
    by_answer (Some errno) is given after seat_after told = subst P (sym told) (fails errno is)
    by_answer None is given after seat_after (inl told) = subst P (sym told) (answers is)
    by_answer None is given after seat_after (inr lacking) = subst P (sym lacking.1) (lacks is)

  counts_faults : (given : HostReply) (after : State) (seat_after : HostSeat) →
      AnswersCall (failure_of host asked) host numbers seat asked given after seat_after →
      after.faults ≡ faults_with given host.faults
  counts_faults given after seat_after told =
      by_answer (λ (o : Outcome). o.1.faults ≡ faults_with o.0 host.faults)
      (λ errno is. ap one_more (failing_faults host asked))
      (λ none. same_count (seat_answer seat asked) refl
      ∙ sym (same_faults (outcome host numbers seat asked).0 host.faults (no_fault (seat_answer seat asked) refl)))
      (λ none. refl)
      (failure_of host asked) refl given after seat_after told

  fails_as_planned : (given : HostReply) (after : State) (seat_after : HostSeat) →
      AnswersCall (failure_of host asked) host numbers seat asked given after seat_after →
      (errno : Errno) → (given ≡ reply.Fault errno) ↔ (failure_of host asked ≡ Some errno)
  fails_as_planned given after seat_after told errno =
      by_answer (λ (o : Outcome). (o.0 ≡ fault_of errno) ↔ (failure_of host asked ≡ Some errno))
      (λ other is. (
        (λ same. let e : other ≡ errno = same_fault other errno same in is ∙ ap (λ n. Some n) e),
        (λ planned. ap fault_of (same_Some other errno (sym is ∙ planned))),
      ))
      (λ none. (
        (λ same. absurd (subst IsNoFault same (no_fault (seat_answer seat asked) refl))),
        (λ planned. (let e : None ≡ Some errno = sym none ∙ planned in cc)),
      ))
      (λ none. ((λ same. cc), (λ planned. (let e : None ≡ Some errno = sym none ∙ planned in cc))))
      (failure_of host asked) refl given after seat_after told
    where
      same_fault : (one other : Errno) → fault_of one ≡ fault_of other → one ≡ other
      same_fault one other same = cc

-- the failures that were answered are counted
pub does_count : (host : State) (seat : HostSeat) (asked : Call) (given : HostReply) (after : State)
    (seat_after : HostSeat) →
    Does host seat asked given after seat_after → after.faults ≡ faults_with given host.faults
does_count host seat asked given after seat_after does =
    ap (λ (s : State). s.faults) does.answers.counts
    ∙ counts_faults host seat asked does.answers.numbers does.sound does.answers.least given does.answers.state
    seat_after does.answers.answered

-- a call that is planned to fail does so, and no other
pub does_fail : (host : State) (seat : HostSeat) (asked : Call) (given : HostReply) (after : State)
    (seat_after : HostSeat) →
    Does host seat asked given after seat_after → (errno : Errno) →
    (given ≡ reply.Fault errno) ↔ (failure_of host asked ≡ Some errno)
does_fail host seat asked given after seat_after does =
    fails_as_planned host seat asked does.answers.numbers does.sound does.answers.least given does.answers.state
    seat_after does.answers.answered

-- ---- what a call that is not Ok leaves

left_tree : (tree after : Tree) (asked : Call) (given : HostReply) → IsNotOk given →
    TreeChanges tree asked given after → after ≡ tree_left tree asked
left_tree tree after (call.Close fd) given not_ok changes = changes
left_tree tree after asked (reply.Ok told) not_ok changes = absurd not_ok
left_tree tree after asked (reply.Refused errno) not_ok changes = changes.1
left_tree tree after asked (reply.Fault errno) not_ok changes = changes
left_tree tree after asked reply.NoMemory not_ok changes = changes

left_seat : (seat after : HostSeat) (asked : Call) (given : HostReply) → IsNotOk given →
    SeatStep seat asked given after → after ≡ seat
left_seat seat after asked (reply.Ok told) not_ok step = absurd not_ok
left_seat seat after asked (reply.Refused errno) not_ok step = step.leaves
left_seat seat after asked (reply.Fault errno) not_ok step = step.leaves
left_seat seat after asked reply.NoMemory not_ok step = step.leaves

left_contents : (tree later : Tree) (before after : Contents) (asked : Call) (given : HostReply) → IsNotOk given →
    LeavesBeside tree before asked given later after → KeepsAll tree before later after
left_contents tree later before after asked (reply.Ok told) not_ok lawful = absurd not_ok
left_contents tree later before after asked (reply.Refused errno) not_ok lawful = lawful
left_contents tree later before after asked (reply.Fault errno) not_ok lawful = lawful
left_contents tree later before after asked reply.NoMemory not_ok lawful = lawful

module _ (host : State) (seat : HostSeat) (asked : Call) (given : HostReply) (after : State) (seat_after : HostSeat)
    (does : Does host seat asked given after seat_after) where
  abbrev trees : LawfulTree (tree_of host) asked given (tree_of after)
  trees = does_lawful_tree host seat asked given after seat_after does

  pub does_leave_tree : IsNotOk given → tree_of after ≡ tree_left (tree_of host) asked
  does_leave_tree not_ok = left_tree (tree_of host) (tree_of after) asked given not_ok trees.changes

  pub does_leave_contents : IsNotOk given →
      KeepsAll (tree_of host) (contents_of host) (tree_of after) (contents_of after)
  does_leave_contents not_ok =
      left_contents (tree_of host) (tree_of after) (contents_of host)
      (contents_of after) asked given not_ok (does_leave_beside host seat asked given after seat_after does)

  pub does_leave_seat : IsNotOk given → seat_after ≡ seat
  does_leave_seat not_ok = left_seat seat seat_after asked given not_ok
      (does_lawful_seat host seat asked given after seat_after does)

  pub does_stay_well_formed : IsWellFormed (tree_of after)
  does_stay_well_formed = trees.formed_after
