-- Written by tools/chains.
use Rattle.std.proofs.Common.{rules}
use Rattle.pt_frame.proofs.Reading.{stops, then}
use Rattle.pt_req.proofs.parts.rooting.root_open.Goals as goal

pub returns-in_err-fd : goal.returns-in_err-fd
returns-in_err-fd c = λ next. stops (c.in_err-fd.ensures _) (search rules)

pub returns-in_err-stat : goal.returns-in_err-stat
returns-in_err-stat c = λ next. then (c.in_ok-fd.ensures _) (stops (c.in_err-stat.ensures _) (search rules))

pub returns-in_err-take_fd : goal.returns-in_err-take_fd
returns-in_err-take_fd c = λ next.
    then (c.in_ok-fd.ensures _) (then (c.in_ok-stat.ensures _) (stops (c.in_err-take_fd.ensures _) (search rules)))

pub returns : goal.returns
returns c = λ next.
    then (c.in_ok-fd.ensures _) (then (c.in_ok-stat.ensures _) (then (c.in_ok-take_fd.ensures _) (
    c.insert_root.ensures _)))
