-- Written by tools/chains.
use Rattle.std.proofs.Common.{rules}
use Rattle.pt_frame.proofs.Reading.{stops, then}
use Rattle.pt_xattr.proofs.requests.listxattr.Goals as goal

pub returns-in_err-with_xattr : goal.returns-in_err-with_xattr
returns-in_err-with_xattr c = stops (c.in_err-with_xattr.ensures _ _ _) (search rules)

pub returns-in_err-row : goal.returns-in_err-row
returns-in_err-row c = then (c.in_ok-with_xattr.ensures _ _ _) (stops (c.in_err-row.ensures _) (search rules))

pub returns-in_err-file : goal.returns-in_err-file
returns-in_err-file c =
    then (c.in_ok-with_xattr.ensures _ _ _) (then (c.in_ok-row.ensures _) (
    stops (c.in_err-file.ensures _) (search rules)))

pub returns : goal.returns
returns c =
    then (c.in_ok-with_xattr.ensures _ _ _) (then (c.in_ok-row.ensures _) (then (c.in_ok-file.ensures _) (
    c.list_told.ensures)))
