-- Written by tools/chains.
use Rattle.std.proofs.Common.{rules}
use Rattle.pt_frame.proofs.Reading.{here, stops, then}
use Rattle.pt_attr.proofs.parts.creating.old_file.Goals as goal
use Rattle.pt_attr.specs.Creating.{old_file}

pub returns-in_err-looked : goal.returns-in_err-looked
unfolding old_file
returns-in_err-looked c = λ next. stops (c.in_err-looked.ensures _) (search rules)

pub returns-in_err-handle : goal.returns-in_err-handle
unfolding old_file
returns-in_err-handle c = λ next. then (c.in_ok-looked.ensures _) (stops (c.in_err-handle.ensures _) (search rules))

pub returns : goal.returns
unfolding old_file
returns c = λ next. then (c.in_ok-looked.ensures _) (then (c.in_ok-handle.ensures _) (here next))
