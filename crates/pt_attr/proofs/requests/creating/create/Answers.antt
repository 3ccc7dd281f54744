-- Written by tools/chains.
use Rattle.std.proofs.Common.{rules}
use Rattle.pt_frame.proofs.Reading.{here, stops, then}
use Rattle.pt_frame.specs.Tree.{Gives}
use Rattle.pt_attr.proofs.requests.creating.create.Goals as goal

pub returns-in_err-named : goal.returns-in_err-named
returns-in_err-named c = rw (← c.create_options-options.ensures) (stops (c.in_err-named.ensures _ _ _) (search rules))

pub returns-in_err-directory : goal.returns-in_err-directory
returns-in_err-directory c =
    rw (← c.create_options-options.ensures) (then (c.in_ok-named.ensures _ _ _) (
    stops (c.in_err-directory.ensures _) (search rules)))

pub returns-in_err-label : goal.returns-in_err-label
returns-in_err-label c =
    rw (← c.create_options-options.ensures) (then (c.in_ok-named.ensures _ _ _) (then (c.in_ok-directory.ensures _) (
    stops (c.in_err-label.ensures _) (search rules))))

pub returns-in_err-dir : goal.returns-in_err-dir
returns-in_err-dir c =
    rw (← c.create_options-options.ensures) (then (c.in_ok-named.ensures _ _ _) (then (c.in_ok-directory.ensures _) (
    then (c.in_ok-label.ensures _) (stops (c.in_err-dir.ensures _ _ _) (search rules)))))

pub returns-in_err-file : goal.returns-in_err-file
returns-in_err-file c =
    rw (← c.create_options-options.ensures) (then (c.in_ok-named.ensures _ _ _) (then (c.in_ok-directory.ensures _) (
    then (c.in_ok-label.ensures _) (then (c.in_ok-dir.ensures _ _ _) (
    stops (c.in_err-file.ensures _) (search rules))))))

pub returns : goal.returns
returns c =
    rw (← c.create_options-options.ensures) (then (c.in_ok-named.ensures _ _ _) (then (c.in_ok-directory.ensures _) (
    then (c.in_ok-label.ensures _) (then (c.in_ok-dir.ensures _ _ _) (then (c.in_ok-file.ensures _) (here Gives))))))
