-- Written by tools/chains.
use Rattle.std.proofs.Common.{rules}
use Rattle.pt_frame.proofs.Reading.{here, stops, then}
use Rattle.pt_frame.specs.Tree.{Gives}
use Rattle.pt_attr.proofs.requests.contents.fsync.Goals as goal

pub returns-in_err-fd : goal.returns-in_err-fd
returns-in_err-fd c = λ session. stops (c.in_err-fd.ensures _) (search rules)

pub returns-in_err-do_call : goal.returns-in_err-do_call
returns-in_err-do_call c = λ session. then (c.in_ok-fd.ensures _) (stops (c.in_err-do_call.ensures _) (search rules))

pub returns : goal.returns
returns c = λ session. then (c.in_ok-fd.ensures _) (then (c.in_ok-do_call.ensures _) (here Gives))
