use Rattle.std.proofs.Common.{rules, ◌∷◌, []}
use Rattle.pt_run.specs.Status.{message_of, status_line}
use Rattle.pt_run.proofs.Outputs.{front_at_err, front_at_first}
use Rattle.pt_run.proofs.status.Status.push_line.Goals as goal

pub returns-in_err-push_message-clause-err : goal.returns-in_err-push_message-clause-err
returns-in_err-push_message-clause-err g c =
    front_at_first c.from_residual.result _ _ (message_of c.args.self) (10
    ∷ []) (status_line c.args.self) c.in_err-push_message.ensures.err (search rules)

pub returns-clause-err : goal.returns-clause-err
returns-clause-err g c =
    front_at_err c.push_all.result _ _ _ (message_of c.args.self) (10
    ∷ []) (status_line c.args.self) c.in_ok-push_message.ensures.ok c.push_all.ensures.err
    (search rules)
