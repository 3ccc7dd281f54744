-- Written by tools/chains.
use Rattle.std.proofs.Common.{rules}
use Rattle.pt_frame.proofs.Reading.{stops, then}
use Rattle.pt_attr.proofs.steps.make.Goals as goal

pub returns-in_err-reply : goal.returns-in_err-reply
returns-in_err-reply c = λ next. stops (c.in_err-reply.ensures.reads _) (search rules)

pub returns-in_err-bares : goal.returns-in_err-bares
returns-in_err-bares c = λ next. then (c.in_ok-reply.ensures.reads _) (stops (c.in_err-bares.ensures _) (search rules))

pub returns : goal.returns
returns c = λ next. then (c.in_ok-reply.ensures.reads _) (then (c.in_ok-bares.ensures _) (c.ok_in.ensures _ _ _))
