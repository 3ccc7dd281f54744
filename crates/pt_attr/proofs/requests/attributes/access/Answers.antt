-- Written by tools/chains.
use Rattle.std.proofs.Common.{rules}
use Rattle.pt_frame.proofs.Reading.{stops, then}
use Rattle.pt_req.proofs.Stepping.{here_as}
use Rattle.pt_frame.specs.Tree.{Gives}
use Rattle.pt_attr.proofs.requests.attributes.access.Goals as goal

pub returns-in_err-fd : goal.returns-in_err-fd
returns-in_err-fd c = λ session. stops (c.in_err-fd.ensures _) (search rules)

pub returns-in_err-stat : goal.returns-in_err-stat
returns-in_err-stat c = λ session. then (c.in_ok-fd.ensures _) (stops (c.in_err-stat.ensures _) (search rules))

pub returns : goal.returns
returns c = λ session. then (c.in_ok-fd.ensures _) (then (c.in_ok-stat.ensures _) (here_as Gives c.decision.ensures))
