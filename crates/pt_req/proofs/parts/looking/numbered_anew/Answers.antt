-- Written by tools/chains.
use Rattle.std.proofs.Common.{rules}
use Rattle.pt_frame.proofs.Reading.{stops, then}
use Rattle.pt_req.proofs.parts.looking.numbered_anew.Goals as goal

pub returns-in_err-take_fd : goal.returns-in_err-take_fd
returns-in_err-take_fd c = λ next. stops (c.in_err-take_fd.ensures _) (search rules)

pub returns-in_err-fresh : goal.returns-in_err-fresh
returns-in_err-fresh c = λ next. then (c.in_ok-take_fd.ensures _) (stops (c.in_err-fresh.ensures _) (search rules))

pub returns : goal.returns
returns c = λ next. then (c.in_ok-take_fd.ensures _) (then (c.in_ok-fresh.ensures _) (c.insert.ensures _))
