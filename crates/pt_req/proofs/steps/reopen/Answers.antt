-- Written by tools/chains.
use Rattle.std.proofs.Common.{rules}
use Rattle.pt_frame.proofs.Reading.{stops, then}
use Rattle.pt_req.proofs.steps.reopen.Goals as goal

pub returns-in_err-reply : goal.returns-in_err-reply
returns-in_err-reply c = λ next. stops (c.in_err-reply.ensures.reads _) (search rules)

pub returns : goal.returns
returns c = λ next. then (c.in_ok-reply.ensures.reads _) (c.fd_in.ensures _ _ _)
