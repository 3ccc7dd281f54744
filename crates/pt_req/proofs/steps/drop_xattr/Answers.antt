-- Written by tools/chains.
use Rattle.std.proofs.Common.{rules}
use Rattle.pt_frame.proofs.Reading.{stops, then}
use Rattle.pt_req.proofs.steps.drop_xattr.Goals as goal

pub returns-in_err-reply : goal.returns-in_err-reply
returns-in_err-reply c = λ next. rw (← c.as_slice.ensures) (stops (c.in_err-reply.ensures.reads _) (search rules))

pub returns : goal.returns
returns c = λ next. rw (← c.as_slice.ensures) (then (c.in_ok-reply.ensures.reads _) (c.gone_in.ensures _ _ _))
