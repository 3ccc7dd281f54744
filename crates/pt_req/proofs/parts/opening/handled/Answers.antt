-- Written by tools/chains.
use Rattle.std.proofs.Common.{rules}
use Rattle.pt_frame.proofs.Reading.{here, stops, then}
use Rattle.pt_req.proofs.parts.opening.handled.Goals as goal

pub returns-in_err-handle : goal.returns-in_err-handle
returns-in_err-handle c = λ next. stops (c.in_err-handle.ensures _) (search rules)

pub returns-in_err-take_fd : goal.returns-in_err-take_fd
returns-in_err-take_fd c = λ next. then (c.in_ok-handle.ensures _) (stops (c.in_err-take_fd.ensures _) (search rules))

pub returns-in_err-insert_handle : goal.returns-in_err-insert_handle
returns-in_err-insert_handle c = λ next.
    then (c.in_ok-handle.ensures _) (then (c.in_ok-take_fd.ensures _) (
    stops (c.in_err-insert_handle.ensures _) (search rules)))

pub returns : goal.returns
returns c = λ next.
    then (c.in_ok-handle.ensures _) (then (c.in_ok-take_fd.ensures _) (then (c.in_ok-insert_handle.ensures _) (
    here next)))
