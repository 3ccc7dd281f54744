-- Written by tools/chains.
use Rattle.std.proofs.Common.{rules}
use Rattle.pt_frame.proofs.Reading.{stops, then}
use Rattle.pt_attr.proofs.requests.attributes.setattr.Goals as goal

pub returns-in_err-sized : goal.returns-in_err-sized
returns-in_err-sized c = λ session. stops (c.in_err-sized.ensures _ _ _) (search rules)

pub returns-in_err-row : goal.returns-in_err-row
returns-in_err-row c = λ session. then (c.in_ok-sized.ensures _ _ _) (stops (c.in_err-row.ensures _) (search rules))

pub returns-in_err-file : goal.returns-in_err-file
returns-in_err-file c = λ session.
    then (c.in_ok-sized.ensures _ _ _) (then (c.in_ok-row.ensures _) (stops (c.in_err-file.ensures _) (search rules)))

pub returns-in_err-target : goal.returns-in_err-target
returns-in_err-target c = λ session.
    then (c.in_ok-sized.ensures _ _ _) (then (c.in_ok-row.ensures _) (then (c.in_ok-file.ensures _) (
    stops (c.in_err-target.ensures _) (search rules))))

pub returns-in_err-set_mode : goal.returns-in_err-set_mode
returns-in_err-set_mode c = λ session.
    then (c.in_ok-sized.ensures _ _ _) (then (c.in_ok-row.ensures _) (then (c.in_ok-file.ensures _) (
    then (c.in_ok-target.ensures _) (stops (c.in_err-set_mode.ensures _) (search rules)))))

pub returns-in_err-set_owner : goal.returns-in_err-set_owner
returns-in_err-set_owner c = λ session.
    then (c.in_ok-sized.ensures _ _ _) (then (c.in_ok-row.ensures _) (then (c.in_ok-file.ensures _) (
    then (c.in_ok-target.ensures _) (then (c.in_ok-set_mode.ensures _) (
    stops (c.in_err-set_owner.ensures _) (search rules))))))

pub returns-in_err-set_size : goal.returns-in_err-set_size
returns-in_err-set_size c = λ session.
    then (c.in_ok-sized.ensures _ _ _) (then (c.in_ok-row.ensures _) (then (c.in_ok-file.ensures _) (
    then (c.in_ok-target.ensures _) (then (c.in_ok-set_mode.ensures _) (then (c.in_ok-set_owner.ensures _) (
    stops (c.in_err-set_size.ensures _) (search rules)))))))

pub returns-in_err-set_times : goal.returns-in_err-set_times
returns-in_err-set_times c = λ session.
    then (c.in_ok-sized.ensures _ _ _) (then (c.in_ok-row.ensures _) (then (c.in_ok-file.ensures _) (
    then (c.in_ok-target.ensures _) (then (c.in_ok-set_mode.ensures _) (then (c.in_ok-set_owner.ensures _) (
    then (c.in_ok-set_size.ensures _) (stops (c.in_err-set_times.ensures _) (search rules))))))))

pub returns : goal.returns
returns c = λ session.
    then (c.in_ok-sized.ensures _ _ _) (then (c.in_ok-row.ensures _) (then (c.in_ok-file.ensures _) (
    then (c.in_ok-target.ensures _) (then (c.in_ok-set_mode.ensures _) (then (c.in_ok-set_owner.ensures _) (
    then (c.in_ok-set_size.ensures _) (then (c.in_ok-set_times.ensures _) (c.tell_attr.ensures))))))))
