-- Written by tools/chains.
use Rattle.std.proofs.Common.{rules}
use Rattle.pt_frame.proofs.Reading.{here, stops, then}
use Rattle.pt_frame.specs.Tree.{Gives}
use Rattle.pt_xattr.proofs.requests.removexattr.Goals as goal

pub returns-in_err-with_xattr : goal.returns-in_err-with_xattr
returns-in_err-with_xattr c = stops (c.in_err-with_xattr.ensures _ _ _) (search rules)

pub returns-in_err-nul_free : goal.returns-in_err-nul_free
returns-in_err-nul_free c =
    then (c.in_ok-with_xattr.ensures _ _ _) (stops (c.in_err-nul_free.ensures _ _ _) (search rules))

pub returns-in_err-row : goal.returns-in_err-row
returns-in_err-row c =
    then (c.in_ok-with_xattr.ensures _ _ _) (then (c.in_ok-nul_free.ensures _ _ _) (
    stops (c.in_err-row.ensures _) (search rules)))

pub returns-in_err-found : goal.returns-in_err-found
returns-in_err-found c =
    then (c.in_ok-with_xattr.ensures _ _ _) (then (c.in_ok-nul_free.ensures _ _ _) (then (c.in_ok-row.ensures _) (
    stops (c.in_err-found.ensures _) (search rules))))

pub returns-in_err-named : goal.returns-in_err-named
returns-in_err-named c =
    then (c.in_ok-with_xattr.ensures _ _ _) (then (c.in_ok-nul_free.ensures _ _ _) (then (c.in_ok-row.ensures _) (
    then (c.in_ok-found.ensures _) (stops (c.in_err-named.ensures _ _ _) (search rules)))))

pub returns-in_err-file : goal.returns-in_err-file
returns-in_err-file c =
    then (c.in_ok-with_xattr.ensures _ _ _) (then (c.in_ok-nul_free.ensures _ _ _) (then (c.in_ok-row.ensures _) (
    then (c.in_ok-found.ensures _) (then (c.in_ok-named.ensures _ _ _) (
    stops (c.in_err-file.ensures _) (search rules))))))

pub returns-in_err-do_call : goal.returns-in_err-do_call
returns-in_err-do_call c =
    then (c.in_ok-with_xattr.ensures _ _ _) (then (c.in_ok-nul_free.ensures _ _ _) (then (c.in_ok-row.ensures _) (
    then (c.in_ok-found.ensures _) (then (c.in_ok-named.ensures _ _ _) (then (c.in_ok-file.ensures _) (
    rw (← c.remove_xattr-op.ensures) (stops (c.in_err-do_call.ensures _) (search rules))))))))

pub returns : goal.returns
returns c =
    then (c.in_ok-with_xattr.ensures _ _ _) (then (c.in_ok-nul_free.ensures _ _ _) (then (c.in_ok-row.ensures _) (
    then (c.in_ok-found.ensures _) (then (c.in_ok-named.ensures _ _ _) (then (c.in_ok-file.ensures _) (
    rw (← c.remove_xattr-op.ensures) (then (c.in_ok-do_call.ensures _) (here Gives))))))))
