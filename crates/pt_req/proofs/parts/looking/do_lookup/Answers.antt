-- Written by tools/chains.
use Rattle.std.proofs.Common.{rules}
use Rattle.pt_frame.proofs.Reading.{stops, then}
use Rattle.pt_req.proofs.Stepping.{here_as}
use Rattle.pt_req.specs.Parts.{look_up}
use Rattle.pt_req.proofs.parts.looking.do_lookup.Goals as goal

pub returns-in_err-brackets : goal.returns-in_err-brackets
unfolding look_up
returns-in_err-brackets c = λ next. stops (c.in_err-brackets.ensures _) (search rules)

pub returns-in_err-directory : goal.returns-in_err-directory
unfolding look_up
returns-in_err-directory c = λ next.
    then (c.in_ok-brackets.ensures _) (stops (c.in_err-directory.ensures _) (search rules))

pub returns-in_err-dir : goal.returns-in_err-dir
unfolding look_up
returns-in_err-dir c = λ next.
    then (c.in_ok-brackets.ensures _) (then (c.in_ok-directory.ensures _) (
    stops (c.in_err-dir.ensures _ _ _) (search rules)))

pub returns-in_err-fd : goal.returns-in_err-fd
unfolding look_up
returns-in_err-fd c = λ next.
    then (c.in_ok-brackets.ensures _) (then (c.in_ok-directory.ensures _) (then (c.in_ok-dir.ensures _ _ _) (
    stops (c.in_err-fd.ensures _) (search rules))))

pub returns-in_err-stat : goal.returns-in_err-stat
unfolding look_up
returns-in_err-stat c = λ next.
    then (c.in_ok-brackets.ensures _) (then (c.in_ok-directory.ensures _) (then (c.in_ok-dir.ensures _ _ _) (
    then (c.in_ok-fd.ensures _) (stops (c.in_err-stat.ensures _) (search rules)))))

pub returns-in_err-number : goal.returns-in_err-number
unfolding look_up
returns-in_err-number c = λ next.
    then (c.in_ok-brackets.ensures _) (then (c.in_ok-directory.ensures _) (then (c.in_ok-dir.ensures _ _ _) (
    then (c.in_ok-fd.ensures _) (then (c.in_ok-stat.ensures _) (stops (c.in_err-number.ensures _) (search rules))))))

pub returns-in_err-shuts : goal.returns-in_err-shuts
unfolding look_up
returns-in_err-shuts c = λ next.
    then (c.in_ok-brackets.ensures _) (then (c.in_ok-directory.ensures _) (then (c.in_ok-dir.ensures _ _ _) (
    then (c.in_ok-fd.ensures _) (then (c.in_ok-stat.ensures _) (then (c.in_ok-number.ensures _) (
    stops (c.in_err-shuts.ensures _) (search rules)))))))

pub returns : goal.returns
unfolding look_up
returns c = λ next.
    then (c.in_ok-brackets.ensures _) (then (c.in_ok-directory.ensures _) (then (c.in_ok-dir.ensures _ _ _) (
    then (c.in_ok-fd.ensures _) (then (c.in_ok-stat.ensures _) (then (c.in_ok-number.ensures _) (
    then (c.in_ok-shuts.ensures _) (here_as next c.looked_of.ensures)))))))
