-- Written by tools/chains.
use Rattle.std.proofs.Common.{rules}
use Rattle.pt_frame.proofs.Reading.{stops, then}
use Rattle.pt_attr.proofs.parts.setting.cut_to.Goals as goal

pub returns-in_err-without_fsetid : goal.returns-in_err-without_fsetid
returns-in_err-without_fsetid c = λ next. stops (c.in_err-without_fsetid.ensures _) (search rules)

pub returns-in_err-clear_capability : goal.returns-in_err-clear_capability
returns-in_err-clear_capability c = λ next.
    then (c.in_ok-without_fsetid.ensures _) (stops (c.in_err-clear_capability.ensures _) (search rules))

pub returns-in_err-do_call : goal.returns-in_err-do_call
returns-in_err-do_call c = λ next.
    then (c.in_ok-without_fsetid.ensures _) (then (c.in_ok-clear_capability.ensures _) (
    stops (c.in_err-do_call.ensures _) (search rules)))

pub returns : goal.returns
returns c = λ next.
    then (c.in_ok-without_fsetid.ensures _) (then (c.in_ok-clear_capability.ensures _) (
    then (c.in_ok-do_call.ensures _) (c.bares.ensures _)))
