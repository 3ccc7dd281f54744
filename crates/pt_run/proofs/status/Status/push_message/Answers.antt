use Rattle.std.proofs.Common.{rules}
use Rattle.pt_run.specs.Status.{message_of}
use Rattle.pt_run.proofs.Outputs.{front_at_err}
use Rattle.pt_run.proofs.status.Status.push_message.Goals as goal

pub returns-in-Some-clause-err : goal.returns-in-Some-clause-err
returns-in-Some-clause-err g c =
    front_at_err c.push_all-in-Some.result _ _ _ c.as_bytes.result.now c.as_bytes-in-Some.result.now
    (message_of c.args.self) c.in_ok-push_all.ensures.ok c.push_all-in-Some.ensures.err
    (search rules)
