-- Written by tools/chains.
use Rattle.std.proofs.Common.{rules}
use Rattle.pt_frame.proofs.Reading.{stops, then}
use Rattle.pt_attr.proofs.parts.creating.make_file.Goals as goal
use Rattle.pt_attr.specs.Creating.{make_file}

pub returns-in_err-as_asker : goal.returns-in_err-as_asker
unfolding make_file
returns-in_err-as_asker c = λ next.
    rw (← c.asker_of-asker.ensures, ← c.making_flags-flags.ensures, ← c.takes_old-may_be.ensures, ← c.umask_of-umask.ensures) (
    stops (c.in_err-as_asker.ensures _) (search rules))

pub returns-in_err-under_umask : goal.returns-in_err-under_umask
unfolding make_file
returns-in_err-under_umask c = λ next.
    rw (← c.asker_of-asker.ensures, ← c.making_flags-flags.ensures, ← c.takes_old-may_be.ensures, ← c.umask_of-umask.ensures) (
    then (c.in_ok-as_asker.ensures _) (stops (c.in_err-under_umask.ensures _) (search rules)))

pub returns-in_err-made : goal.returns-in_err-made
unfolding make_file
returns-in_err-made c = λ next.
    rw (← c.asker_of-asker.ensures, ← c.making_flags-flags.ensures, ← c.takes_old-may_be.ensures, ← c.umask_of-umask.ensures) (
    then (c.in_ok-as_asker.ensures _) (then (c.in_ok-under_umask.ensures _) (
    stops (c.in_err-made.ensures _) (search rules))))

pub returns : goal.returns
unfolding make_file
returns c = λ next.
    rw (← c.asker_of-asker.ensures, ← c.making_flags-flags.ensures, ← c.takes_old-may_be.ensures, ← c.umask_of-umask.ensures) (
    then (c.in_ok-as_asker.ensures _) (then (c.in_ok-under_umask.ensures _) (then (c.in_ok-made.ensures _) (
    c.made_file.ensures _))))
