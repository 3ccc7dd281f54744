use Rattle.std.proofs.Common.{ℕ, sym, subst}
use Rattle.pt_host.specs.Call.{call_of}
use Rattle.pt_host.specs.Promises.{IsPromised}
use Rattle.pt_host.proofs.SeatAnswers.{answered}
use Rattle.try_leaves.proofs.planned.PlannedHost.call.Goals as goal

pub returns-in-Some-answer : goal.returns-in-Some-answer
returns-in-Some-answer c =
    let asked = call_of c.args.op.now in
    let faults = c.args.self.now.faults in
    subst (λ (n : ℕ). IsPromised faults c.args.seat.now asked c.in-Some-answer.told n c.answer.new.self)
    (sym c.next_failure.ensures)
    (answered faults c.args.seat.now asked c.in-Some-answer.told c.answer.new.self c.in-Some-answer.ensures)
