-- Written by tools/chains.
use Rattle.std.proofs.Common.{rules}
use Rattle.pt_frame.proofs.Reading.{here, stops, then}
use Rattle.pt_attr.specs.Parts.{files_by}
use Rattle.pt_attr.proofs.parts.files_by.Goals as goal

pub returns-in_err-one : goal.returns-in_err-one
unfolding files_by
returns-in_err-one c = λ next. stops (c.in_err-one.ensures _) (search rules)

pub returns-in_err-other : goal.returns-in_err-other
unfolding files_by
returns-in_err-other c = λ next. then (c.in_ok-one.ensures _) (stops (c.in_err-other.ensures _) (search rules))

pub returns-in_err-from : goal.returns-in_err-from
unfolding files_by
returns-in_err-from c = λ next.
    then (c.in_ok-one.ensures _) (then (c.in_ok-other.ensures _) (stops (c.in_err-from.ensures _ _ _) (search rules)))

pub returns-in_err-to : goal.returns-in_err-to
unfolding files_by
returns-in_err-to c = λ next.
    then (c.in_ok-one.ensures _) (then (c.in_ok-other.ensures _) (then (c.in_ok-from.ensures _ _ _) (
    stops (c.in_err-to.ensures _ _ _) (search rules))))

pub returns : goal.returns
unfolding files_by
returns c = λ next.
    then (c.in_ok-one.ensures _) (then (c.in_ok-other.ensures _) (then (c.in_ok-from.ensures _ _ _) (
    then (c.in_ok-to.ensures _ _ _) (here next))))
