-- Written by tools/chains.
use Rattle.std.proofs.Common.{rules}
use Rattle.pt_frame.proofs.Reading.{here, stops, then}
use Rattle.pt_frame.specs.Tree.{Gives}
use Rattle.pt_attr.proofs.requests.contents.lseek.Goals as goal

pub returns-in_err-fd : goal.returns-in_err-fd
returns-in_err-fd c = λ session. stops (c.in_err-fd.ensures _) (search rules)

pub returns-in_err-place : goal.returns-in_err-place
returns-in_err-place c = λ session.
    then (c.in_ok-fd.ensures _) (rw (← c.seek_to-op.ensures) (stops (c.in_err-place.ensures _) (search rules)))

pub returns : goal.returns
returns c = λ session.
    then (c.in_ok-fd.ensures _) (rw (← c.seek_to-op.ensures) (then (c.in_ok-place.ensures _) (here Gives)))
