use Rattle.std.proofs.Common.{rules}
use Rattle.pt_frame.proofs.Reading.{judged_refused, stops, then}
use Rattle.pt_xattr.proofs.Stepping.{lent}
use Rattle.pt_xattr.proofs.steps.bytes_lent.Goals as goal

pub returns-in_err-reply : goal.returns-in_err-reply
returns-in_err-reply c = λ next. stops (c.in_err-reply.ensures.reads _) (search rules)

pub returns-in_default : goal.returns-in_default
returns-in_default c = λ next.
    then (c.in_ok-reply.ensures.reads _) (judged_refused _ _ _ _ _ _ (search rules))

pub returns-in-Host-Ok-Bytes : goal.returns-in-Host-Ok-Bytes
returns-in-Host-Ok-Bytes c = λ next.
    then (c.in_ok-reply.ensures.reads _) (lent _ _ next _ _ (search rules))
