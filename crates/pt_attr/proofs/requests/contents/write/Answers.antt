-- Written by tools/chains.
use Rattle.std.proofs.Common.{rules}
use Rattle.pt_frame.proofs.Reading.{here, stops, then}
use Rattle.pt_frame.specs.Tree.{Gives}
use Rattle.pt_attr.proofs.requests.contents.write.Goals as goal

pub returns-in_err-placed : goal.returns-in_err-placed
returns-in_err-placed c = λ session.
    rw (← c.drops_fsetid-drops.ensures, ← c.appends-append.ensures) (
    stops (c.in_err-placed.ensures _ _ _) (search rules))

pub returns-in_err-fd : goal.returns-in_err-fd
returns-in_err-fd c = λ session.
    rw (← c.drops_fsetid-drops.ensures, ← c.appends-append.ensures) (then (c.in_ok-placed.ensures _ _ _) (
    stops (c.in_err-fd.ensures _) (search rules)))

pub returns-in_err-without_fsetid : goal.returns-in_err-without_fsetid
returns-in_err-without_fsetid c = λ session.
    rw (← c.drops_fsetid-drops.ensures, ← c.appends-append.ensures) (then (c.in_ok-placed.ensures _ _ _) (
    then (c.in_ok-fd.ensures _) (stops (c.in_err-without_fsetid.ensures _) (search rules))))

pub returns-in_err-clear_capability : goal.returns-in_err-clear_capability
returns-in_err-clear_capability c = λ session.
    rw (← c.drops_fsetid-drops.ensures, ← c.appends-append.ensures) (then (c.in_ok-placed.ensures _ _ _) (
    then (c.in_ok-fd.ensures _) (then (c.in_ok-without_fsetid.ensures _) (
    stops (c.in_err-clear_capability.ensures _) (search rules)))))

pub returns-in_err-count : goal.returns-in_err-count
returns-in_err-count c = λ session.
    rw (← c.drops_fsetid-drops.ensures, ← c.appends-append.ensures) (then (c.in_ok-placed.ensures _ _ _) (
    then (c.in_ok-fd.ensures _) (then (c.in_ok-without_fsetid.ensures _) (then (c.in_ok-clear_capability.ensures _) (
    rw (← c.write_at-op.ensures) (stops (c.in_err-count.ensures _) (search rules)))))))

pub returns-in_err-bares : goal.returns-in_err-bares
returns-in_err-bares c = λ session.
    rw (← c.drops_fsetid-drops.ensures, ← c.appends-append.ensures) (then (c.in_ok-placed.ensures _ _ _) (
    then (c.in_ok-fd.ensures _) (then (c.in_ok-without_fsetid.ensures _) (then (c.in_ok-clear_capability.ensures _) (
    rw (← c.write_at-op.ensures) (then (c.in_ok-count.ensures _) (
    stops (c.in_err-bares.ensures _) (search rules))))))))

pub returns : goal.returns
returns c = λ session.
    rw (← c.drops_fsetid-drops.ensures, ← c.appends-append.ensures) (then (c.in_ok-placed.ensures _ _ _) (
    then (c.in_ok-fd.ensures _) (then (c.in_ok-without_fsetid.ensures _) (then (c.in_ok-clear_capability.ensures _) (
    rw (← c.write_at-op.ensures) (then (c.in_ok-count.ensures _) (then (c.in_ok-bares.ensures _) (here Gives))))))))
