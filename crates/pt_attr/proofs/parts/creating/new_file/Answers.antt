-- Written by tools/chains.
use Rattle.std.proofs.Common.{rules}
use Rattle.pt_frame.proofs.Reading.{here, stops, then}
use Rattle.pt_attr.proofs.parts.creating.new_file.Goals as goal
use Rattle.pt_attr.specs.Creating.{new_file}

pub returns-in_err-made : goal.returns-in_err-made
unfolding new_file
returns-in_err-made c = λ next. stops (c.in_err-made.ensures _) (search rules)

pub returns-in_err-file_labelled : goal.returns-in_err-file_labelled
unfolding new_file
returns-in_err-file_labelled c = λ next.
    then (c.in_ok-made.ensures _) (stops (c.in_err-file_labelled.ensures _) (search rules))

pub returns-in_err-looked : goal.returns-in_err-looked
unfolding new_file
returns-in_err-looked c = λ next.
    then (c.in_ok-made.ensures _) (then (c.in_ok-file_labelled.ensures _) (
    stops (c.in_err-looked.ensures _) (search rules)))

pub returns-in_err-if_same : goal.returns-in_err-if_same
unfolding new_file
returns-in_err-if_same c = λ next.
    then (c.in_ok-made.ensures _) (then (c.in_ok-file_labelled.ensures _) (then (c.in_ok-looked.ensures _) (
    stops (c.in_err-if_same.ensures _ _ _) (search rules))))

pub returns-in_err-handle : goal.returns-in_err-handle
unfolding new_file
returns-in_err-handle c = λ next.
    then (c.in_ok-made.ensures _) (then (c.in_ok-file_labelled.ensures _) (then (c.in_ok-looked.ensures _) (
    then (c.in_ok-if_same.ensures _ _ _) (stops (c.in_err-handle.ensures _) (search rules)))))

pub returns : goal.returns
unfolding new_file
returns c = λ next.
    then (c.in_ok-made.ensures _) (then (c.in_ok-file_labelled.ensures _) (then (c.in_ok-looked.ensures _) (
    then (c.in_ok-if_same.ensures _ _ _) (then (c.in_ok-handle.ensures _) (here next)))))
