-- Written by tools/chains.
use Rattle.std.proofs.Common.{rules}
use Rattle.pt_frame.proofs.Reading.{stops, then}
use Rattle.pt_frame.specs.Tree.{Gives}
use Rattle.pt_job.proofs.body.begun.Goals as goal

pub returns-in_err-session : goal.returns-in_err-session
returns-in_err-session c = stops (c.in_err-session.ensures _) (search rules)

pub returns : goal.returns
returns c = then (c.in_ok-session.ensures _) (c.in_session.ensures)
