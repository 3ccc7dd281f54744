-- Written by tools/chains.
use Rattle.std.proofs.Common.{rules}
use Rattle.pt_frame.proofs.Reading.{here, stops, then}
use Rattle.pt_frame.specs.Tree.{Gives}
use Rattle.pt_attr.proofs.requests.names.rmdir.Goals as goal

pub returns-in_err-named : goal.returns-in_err-named
returns-in_err-named c = λ session. stops (c.in_err-named.ensures _ _ _) (search rules)

pub returns-in_err-dir : goal.returns-in_err-dir
returns-in_err-dir c = λ session. then (c.in_ok-named.ensures _ _ _) (stops (c.in_err-dir.ensures _) (search rules))

pub returns-in_err-do_call : goal.returns-in_err-do_call
returns-in_err-do_call c = λ session.
    then (c.in_ok-named.ensures _ _ _) (then (c.in_ok-dir.ensures _) (rw (← c.remove_dir-op.ensures) (
    stops (c.in_err-do_call.ensures _) (search rules))))

pub returns : goal.returns
returns c = λ session.
    then (c.in_ok-named.ensures _ _ _) (then (c.in_ok-dir.ensures _) (rw (← c.remove_dir-op.ensures) (
    then (c.in_ok-do_call.ensures _) (here Gives))))
