-- Written by tools/chains.
use Rattle.std.proofs.Common.{rules}
use Rattle.pt_frame.proofs.Reading.{here, stops, then}
use Rattle.pt_frame.specs.Tree.{Gives}
use Rattle.pt_attr.proofs.requests.names.rename.Goals as goal

pub returns-in_err-named : goal.returns-in_err-named
returns-in_err-named c = λ session. stops (c.in_err-named.ensures _ _ _) (search rules)

pub returns-in_err-named-2 : goal.returns-in_err-named-2
returns-in_err-named-2 c = λ session.
    then (c.in_ok-named.ensures _ _ _) (stops (c.in_err-named-2.ensures _ _ _) (search rules))

pub returns-in_err-files : goal.returns-in_err-files
returns-in_err-files c = λ session.
    then (c.in_ok-named.ensures _ _ _) (then (c.in_ok-named-2.ensures _ _ _) (
    stops (c.in_err-files.ensures _) (search rules)))

pub returns-in_err-do_call : goal.returns-in_err-do_call
returns-in_err-do_call c = λ session.
    then (c.in_ok-named.ensures _ _ _) (then (c.in_ok-named-2.ensures _ _ _) (then (c.in_ok-files.ensures _) (
    rw (← c.rename_name-op.ensures) (stops (c.in_err-do_call.ensures _) (search rules)))))

pub returns : goal.returns
returns c = λ session.
    then (c.in_ok-named.ensures _ _ _) (then (c.in_ok-named-2.ensures _ _ _) (then (c.in_ok-files.ensures _) (
    rw (← c.rename_name-op.ensures) (then (c.in_ok-do_call.ensures _) (here Gives)))))
