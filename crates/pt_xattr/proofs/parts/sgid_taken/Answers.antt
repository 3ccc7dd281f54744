-- Written by tools/chains.
use Rattle.std.proofs.Common.{rules}
use Rattle.pt_frame.proofs.Reading.{rest, stops, then}
use Rattle.pt_xattr.proofs.parts.sgid_taken.Goals as goal

pub returns-in_err-stat : goal.returns-in_err-stat
returns-in_err-stat c = λ next. stops (c.in_err-stat.ensures _) (search rules)

pub returns-in_err-do_call : goal.returns-in_err-do_call
returns-in_err-do_call c = λ next.
    then (c.in_ok-stat.ensures _) (rw (← c.without_sgid.ensures) (
    stops (c.in_err-do_call.ensures _) (search rules)))

pub returns : goal.returns
returns c = λ next.
    then (c.in_ok-stat.ensures _) (rw (← c.without_sgid.ensures) (then (c.in_ok-do_call.ensures _) (rest _ _ _ _)))
