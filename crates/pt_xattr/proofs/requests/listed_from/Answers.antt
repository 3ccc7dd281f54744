-- Written by tools/chains.
use Rattle.std.proofs.Common.{rules}
use Rattle.pt_frame.proofs.Reading.{stops, then}
use Rattle.pt_xattr.proofs.requests.listed_from.Goals as goal

pub returns-in_err-placed : goal.returns-in_err-placed
returns-in_err-placed c = stops (c.in_err-placed.ensures _ _ _) (search rules)

pub returns-in_err-fd : goal.returns-in_err-fd
returns-in_err-fd c = then (c.in_ok-placed.ensures _ _ _) (stops (c.in_err-fd.ensures _) (search rules))

pub returns-in_err-bytes : goal.returns-in_err-bytes
returns-in_err-bytes c =
    then (c.in_ok-placed.ensures _ _ _) (then (c.in_ok-fd.ensures _) (rw (← c.list_at-op.ensures) (
    stops (c.in_err-bytes.ensures _) (search rules))))

pub returns : goal.returns
returns c =
    then (c.in_ok-placed.ensures _ _ _) (then (c.in_ok-fd.ensures _) (rw (← c.list_at-op.ensures) (
    then (c.in_ok-bytes.ensures _) (c.listing.ensures))))
