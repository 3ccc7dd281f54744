-- Proof. What every host keeps.
use Rattle.std.proofs.Common.{◌≡◌, ◌≤◌, inl, inr, ℕ, Option, Some, None, refl, ap, sym, subst, arith}
use Rattle.pt_host.proofs.SeatAnswers.{faulted_seat, lacking_seat}
use Rattle.pt_host.specs.Call.{Call}
use Rattle.pt_host.specs.Promises.{HasRisen, IsPromised, MayLackMemory}
use Rattle.pt_host.specs.declared.ids.Errno.{Errno}
use Rattle.pt_host.specs.declared.seat.HostSeat.{HostSeat}
use Rattle.pt_host.specs.declared.op.KeptHostOp.TheVariants as call
use Rattle.pt_host.specs.declared.reply.HostReply.{HostReply}
use Rattle.pt_rules.specs.Does.{AnswersCall, Does, TakesMemory}
use Rattle.pt_rules.specs.Faults.{after_failing, failure, failure_of, faulted, next_call, plan_for}
use Rattle.pt_rules.specs.Living.{AreLeastFree}
use Rattle.pt_host.specs.SeatAnswer.{seat_answer}
use Rattle.pt_rules.specs.Sound.{IsSound}
use Rattle.pt_rules.specs.State.{State}
use Rattle.pt_rules.specs.Table.{Seated, Outcome, answer, failing_outcome, outcome_where}
use Rattle.pt_rules.specs.Laws.FaultLaws.{failing_faults, faults_never_fall, faults_rise, may_fail}
use Rattle.pt_rules.specs.Laws.Lawful.{fair_answer}
use Rattle.pt_rules.specs.Laws.SeatLaws.{other_seat, own_allowed, own_fails, own_seat}
use Rattle.pt_rules.specs.Laws.WellFormed.{and_then_some}

-- what takes memory may lack it
takes_lacks : (asked : Call) → TakesMemory asked → MayLackMemory asked
takes_lacks (call.Close fd) takes = absurd takes
takes_lacks (call.SetGroups list) takes = absurd takes
takes_lacks (call.SetEgid gid) takes = absurd takes
takes_lacks (call.SetEuid uid) takes = absurd takes
takes_lacks (call.RaiseCap caps) takes = absurd takes
takes_lacks (call.DropCap caps) takes = absurd takes
takes_lacks (call.SetUmask mask) takes = absurd takes
takes_lacks asked takes = tt

module _ (host : State) (seat : HostSeat) (asked : Call) (numbers : ℕ → ℕ) (sound : IsSound host)
    (least : AreLeastFree host numbers) where
  promised_outcome : (own : Option Seated) → seat_answer seat asked ≡ own →
      IsPromised host.faults seat asked (outcome_where host numbers seat asked own).0
      (outcome_where host numbers seat asked own).1.faults (outcome_where host numbers seat asked own).2
  promised_outcome (Some told) is = record {
    never_falls = omega arith;
    allowed = own_allowed asked seat told host.faults is;
    fails = own_fails asked seat told is;
    seats = own_seat asked seat told is;
  }
  promised_outcome None is =
      let fair = fair_answer host numbers seat asked sound least in
      subst (λ (n : ℕ). IsPromised host.faults seat asked (answer host numbers seat asked).0 n seat) (sym fair.faults)
      (record {
        never_falls = omega arith;
        allowed = fair.allowed host.faults;
        fails = fair.fails;
        seats = other_seat asked seat (answer host numbers seat asked).0 is;
      })

  promised_failing : (errno : Errno) → failure_of host asked ≡ Some errno →
      IsPromised host.faults seat asked (failing_outcome host seat asked errno).0
      (failing_outcome host seat asked errno).1.faults (failing_outcome host seat asked errno).2
  promised_failing errno is =
      let planned = and_then_some (failure asked) (plan_for (next_call host) host.plans) errno is in
      let same = failing_faults host asked in
      record {
        never_falls = subst (λ (n : ℕ). n
            ≤ (faulted (after_failing host asked)).faults) same (faults_never_fall (after_failing host asked));
        allowed = subst (λ (n : ℕ).
            HasRisen n (faulted (after_failing host asked)).faults) same (faults_rise (after_failing host asked));
        fails = may_fail asked planned.0 errno planned.2;
        seats = faulted_seat seat asked errno;
      }

  promised_by : (failing : Option Errno) → failure_of host asked ≡ failing →
      (given : HostReply) (after : State) (seat_after : HostSeat) →
      AnswersCall failing host numbers seat asked given after seat_after →
      IsPromised host.faults seat asked given after.faults seat_after
  promised_by (Some errno) is given after seat_after told =
      subst (λ (o : Outcome).
      IsPromised host.faults seat asked o.0 o.1.faults o.2) (sym told) (promised_failing errno is)
  promised_by None is given after seat_after (inl told) =
      subst (λ (o : Outcome).
      IsPromised host.faults seat asked o.0 o.1.faults o.2) (sym told)
      (promised_outcome (seat_answer seat asked) refl)
  promised_by None is given after seat_after (inr (takes, told)) =
      subst (λ (o : Outcome). IsPromised host.faults seat asked o.0 o.1.faults o.2) (sym told) (record {
        never_falls = omega arith;
        allowed = takes_lacks asked takes;
        fails = tt;
        seats = lacking_seat seat asked;
      })

pub does_promised : (host : State) (seat : HostSeat) (asked : Call) (given : HostReply) (after : State)
    (seat_after : HostSeat) →
    Does host seat asked given after seat_after → IsPromised host.faults seat asked given after.faults seat_after
does_promised host seat asked given after seat_after does =
    subst (λ (n : ℕ). IsPromised host.faults seat asked given n seat_after)
    (sym (ap (λ (s : State). s.faults) does.answers.counts))
    (promised_by host seat asked does.answers.numbers does.sound does.answers.least
    (failure_of host asked) refl given does.answers.state seat_after does.answers.answered)
