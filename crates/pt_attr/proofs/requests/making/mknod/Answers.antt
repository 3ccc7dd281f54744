-- Written by tools/chains.
use Rattle.std.proofs.Common.{rules}
use Rattle.pt_frame.proofs.Reading.{stops, then}
use Rattle.pt_attr.proofs.requests.making.mknod.Goals as goal

pub returns-in_err-named : goal.returns-in_err-named
returns-in_err-named c = stops (c.in_err-named.ensures _ _ _) (search rules)

pub returns-in_err-row : goal.returns-in_err-row
returns-in_err-row c = then (c.in_ok-named.ensures _ _ _) (stops (c.in_err-row.ensures _) (search rules))

pub returns-in_err-label : goal.returns-in_err-label
returns-in_err-label c =
    then (c.in_ok-named.ensures _ _ _) (then (c.in_ok-row.ensures _) (stops (c.in_err-label.ensures _) (search rules)))

pub returns-in_err-dir : goal.returns-in_err-dir
returns-in_err-dir c =
    then (c.in_ok-named.ensures _ _ _) (then (c.in_ok-row.ensures _) (then (c.in_ok-label.ensures _) (
    stops (c.in_err-dir.ensures _ _ _) (search rules))))

pub returns : goal.returns
returns c =
    then (c.in_ok-named.ensures _ _ _) (then (c.in_ok-row.ensures _) (then (c.in_ok-label.ensures _) (
    then (c.in_ok-dir.ensures _ _ _) (rw (← c.make_node-making.ensures, ← c.unlink_name-undoing.ensures) (
    c.make_object.ensures)))))
