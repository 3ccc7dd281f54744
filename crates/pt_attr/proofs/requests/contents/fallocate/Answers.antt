-- Written by tools/chains.
use Rattle.std.proofs.Common.{rules}
use Rattle.pt_frame.proofs.Reading.{here, stops, then}
use Rattle.pt_frame.specs.Tree.{Gives}
use Rattle.pt_attr.proofs.requests.contents.fallocate.Goals as goal

pub returns-in_err-placed : goal.returns-in_err-placed
returns-in_err-placed c = λ session. stops (c.in_err-placed.ensures _ _ _) (search rules)

pub returns-in_err-placed-2 : goal.returns-in_err-placed-2
returns-in_err-placed-2 c = λ session.
    then (c.in_ok-placed.ensures _ _ _) (stops (c.in_err-placed-2.ensures _ _ _) (search rules))

pub returns-in_err-fd : goal.returns-in_err-fd
returns-in_err-fd c = λ session.
    then (c.in_ok-placed.ensures _ _ _) (then (c.in_ok-placed-2.ensures _ _ _) (
    stops (c.in_err-fd.ensures _) (search rules)))

pub returns-in_err-do_call : goal.returns-in_err-do_call
returns-in_err-do_call c = λ session.
    then (c.in_ok-placed.ensures _ _ _) (then (c.in_ok-placed-2.ensures _ _ _) (then (c.in_ok-fd.ensures _) (
    stops (c.in_err-do_call.ensures _) (search rules))))

pub returns : goal.returns
returns c = λ session.
    then (c.in_ok-placed.ensures _ _ _) (then (c.in_ok-placed-2.ensures _ _ _) (then (c.in_ok-fd.ensures _) (
    then (c.in_ok-do_call.ensures _) (here Gives))))
