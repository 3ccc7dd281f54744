-- Written by tools/chains.
use Rattle.std.proofs.Common.{rules}
use Rattle.pt_frame.proofs.Reading.{stops, then}
use Rattle.pt_req.proofs.parts.asker.taken_on.Goals as goal

pub returns-in_err-group_set : goal.returns-in_err-group_set
returns-in_err-group_set c = λ next. stops (c.in_err-group_set.ensures _) (search rules)

pub returns-in_err-egid_set : goal.returns-in_err-egid_set
returns-in_err-egid_set c = λ next.
    then (c.in_ok-group_set.ensures _) (stops (c.in_err-egid_set.ensures _) (search rules))

pub returns-in_err-euid_set : goal.returns-in_err-euid_set
returns-in_err-euid_set c = λ next.
    then (c.in_ok-group_set.ensures _) (then (c.in_ok-egid_set.ensures _) (
    stops (c.in_err-euid_set.ensures _) (search rules)))

pub returns : goal.returns
returns c = λ next.
    then (c.in_ok-group_set.ensures _) (then (c.in_ok-egid_set.ensures _) (then (c.in_ok-euid_set.ensures _) (
    c.cap_raised.ensures _)))
