-- Written by tools/chains.
use Rattle.std.proofs.Common.{rules}
use Rattle.pt_frame.proofs.Reading.{here, stops, then}
use Rattle.pt_frame.specs.Tree.{Gives}
use Rattle.pt_attr.specs.Making.{make_object}
use Rattle.pt_attr.proofs.parts.making.make_object.Goals as goal

pub returns-in_err-as_asker : goal.returns-in_err-as_asker
unfolding make_object
returns-in_err-as_asker c =
    rw (← c.asker_of-asker.ensures, ← c.umask_of-umask.ensures) (stops (c.in_err-as_asker.ensures _) (search rules))

pub returns-in_err-under_umask : goal.returns-in_err-under_umask
unfolding make_object
returns-in_err-under_umask c =
    rw (← c.asker_of-asker.ensures, ← c.umask_of-umask.ensures) (then (c.in_ok-as_asker.ensures _) (
    stops (c.in_err-under_umask.ensures _) (search rules)))

pub returns-in_err-make : goal.returns-in_err-make
unfolding make_object
returns-in_err-make c =
    rw (← c.asker_of-asker.ensures, ← c.umask_of-umask.ensures) (then (c.in_ok-as_asker.ensures _) (
    then (c.in_ok-under_umask.ensures _) (stops (c.in_err-make.ensures _) (search rules))))

pub returns-in_err-labelled_at : goal.returns-in_err-labelled_at
unfolding make_object
returns-in_err-labelled_at c =
    rw (← c.asker_of-asker.ensures, ← c.umask_of-umask.ensures) (then (c.in_ok-as_asker.ensures _) (
    then (c.in_ok-under_umask.ensures _) (then (c.in_ok-make.ensures _) (
    stops (c.in_err-labelled_at.ensures _) (search rules)))))

pub returns-in_err-looked : goal.returns-in_err-looked
unfolding make_object
returns-in_err-looked c =
    rw (← c.asker_of-asker.ensures, ← c.umask_of-umask.ensures) (then (c.in_ok-as_asker.ensures _) (
    then (c.in_ok-under_umask.ensures _) (then (c.in_ok-make.ensures _) (then (c.in_ok-labelled_at.ensures _) (
    stops (c.in_err-looked.ensures _) (search rules))))))

pub returns : goal.returns
unfolding make_object
returns c =
    rw (← c.asker_of-asker.ensures, ← c.umask_of-umask.ensures) (then (c.in_ok-as_asker.ensures _) (
    then (c.in_ok-under_umask.ensures _) (then (c.in_ok-make.ensures _) (then (c.in_ok-labelled_at.ensures _) (
    then (c.in_ok-looked.ensures _) (here Gives))))))
