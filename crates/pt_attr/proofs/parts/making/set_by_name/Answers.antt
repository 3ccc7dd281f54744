-- Written by tools/chains.
use Rattle.std.proofs.Common.{rules}
use Rattle.pt_frame.proofs.Reading.{here, stops, then}
use Rattle.pt_attr.proofs.parts.making.set_by_name.Goals as goal

pub returns-in_err-brackets : goal.returns-in_err-brackets
returns-in_err-brackets c = λ next. stops (c.in_err-brackets.ensures _) (search rules)

pub returns-in_err-opened : goal.returns-in_err-opened
returns-in_err-opened c = λ next. then (c.in_ok-brackets.ensures _) (stops (c.in_err-opened.ensures _) (search rules))

pub returns-in_err-refused : goal.returns-in_err-refused
returns-in_err-refused c = λ next.
    then (c.in_ok-brackets.ensures _) (then (c.in_ok-opened.ensures _) (
    stops (c.in_err-refused.ensures _) (search rules)))

pub returns-in_err-shuts : goal.returns-in_err-shuts
returns-in_err-shuts c = λ next.
    then (c.in_ok-brackets.ensures _) (then (c.in_ok-opened.ensures _) (then (c.in_ok-refused.ensures _) (
    stops (c.in_err-shuts.ensures _) (search rules))))

pub returns : goal.returns
returns c = λ next.
    then (c.in_ok-brackets.ensures _) (then (c.in_ok-opened.ensures _) (then (c.in_ok-refused.ensures _) (
    then (c.in_ok-shuts.ensures _) (here next))))
