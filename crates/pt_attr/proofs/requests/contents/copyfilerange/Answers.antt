-- Written by tools/chains.
use Rattle.std.proofs.Common.{rules}
use Rattle.pt_frame.proofs.Reading.{here, stops, then}
use Rattle.pt_frame.specs.Tree.{Gives}
use Rattle.pt_attr.proofs.requests.contents.copyfilerange.Goals as goal

pub returns-in_err-placed : goal.returns-in_err-placed
returns-in_err-placed c = λ session. stops (c.in_err-placed.ensures _ _ _) (search rules)

pub returns-in_err-placed-2 : goal.returns-in_err-placed-2
returns-in_err-placed-2 c = λ session.
    then (c.in_ok-placed.ensures _ _ _) (stops (c.in_err-placed-2.ensures _ _ _) (search rules))

pub returns-in_err-placed-3 : goal.returns-in_err-placed-3
returns-in_err-placed-3 c = λ session.
    then (c.in_ok-placed.ensures _ _ _) (then (c.in_ok-placed-2.ensures _ _ _) (
    stops (c.in_err-placed-3.ensures _ _ _) (search rules)))

pub returns-in_err-from : goal.returns-in_err-from
returns-in_err-from c = λ session.
    then (c.in_ok-placed.ensures _ _ _) (then (c.in_ok-placed-2.ensures _ _ _) (then (c.in_ok-placed-3.ensures _ _ _) (
    stops (c.in_err-from.ensures _) (search rules))))

pub returns-in_err-to : goal.returns-in_err-to
returns-in_err-to c = λ session.
    then (c.in_ok-placed.ensures _ _ _) (then (c.in_ok-placed-2.ensures _ _ _) (then (c.in_ok-placed-3.ensures _ _ _) (
    then (c.in_ok-from.ensures _) (stops (c.in_err-to.ensures _) (search rules)))))

pub returns-in_err-count : goal.returns-in_err-count
returns-in_err-count c = λ session.
    then (c.in_ok-placed.ensures _ _ _) (then (c.in_ok-placed-2.ensures _ _ _) (then (c.in_ok-placed-3.ensures _ _ _) (
    then (c.in_ok-from.ensures _) (then (c.in_ok-to.ensures _) (stops (c.in_err-count.ensures _) (search rules))))))

pub returns : goal.returns
returns c = λ session.
    then (c.in_ok-placed.ensures _ _ _) (then (c.in_ok-placed-2.ensures _ _ _) (then (c.in_ok-placed-3.ensures _ _ _) (
    then (c.in_ok-from.ensures _) (then (c.in_ok-to.ensures _) (then (c.in_ok-count.ensures _) (here Gives))))))
