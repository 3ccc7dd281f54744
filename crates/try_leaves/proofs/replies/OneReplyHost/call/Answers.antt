use Rattle.pt_host.specs.Call.{call_of}
use Rattle.pt_host.proofs.SeatAnswers.{answered}
use Rattle.try_leaves.proofs.replies.OneReplyHost.call.Goals as goal

pub returns-in-Some : goal.returns-in-Some
returns-in-Some c =
    answered c.args.self.now.faults c.args.seat.now (call_of c.args.op.now) c.in-Some.told c.answer.new.self
    c.in-Some.ensures
