-- Written by tools/chains.
use Rattle.std.proofs.Common.{rules}
use Rattle.pt_frame.proofs.Reading.{here, stops, then}
use Rattle.pt_req.proofs.parts.opening.do_open.Goals as goal

pub returns-in_err-brackets : goal.returns-in_err-brackets
returns-in_err-brackets c = λ next.
    rw (← c.drops_fsetid-drops.ensures, ← c.empties-emptied.ensures, ← c.cleaned-flags.ensures) (
    stops (c.in_err-brackets.ensures _) (search rules))

pub returns-in_err-without_fsetid : goal.returns-in_err-without_fsetid
returns-in_err-without_fsetid c = λ next.
    rw (← c.drops_fsetid-drops.ensures, ← c.empties-emptied.ensures, ← c.cleaned-flags.ensures) (
    then (c.in_ok-brackets.ensures _) (stops (c.in_err-without_fsetid.ensures _) (search rules)))

pub returns-in_err-fd : goal.returns-in_err-fd
returns-in_err-fd c = λ next.
    rw (← c.drops_fsetid-drops.ensures, ← c.empties-emptied.ensures, ← c.cleaned-flags.ensures) (
    then (c.in_ok-brackets.ensures _) (then (c.in_ok-without_fsetid.ensures _) (
    stops (c.in_err-fd.ensures _) (search rules))))

pub returns-in_err-bares : goal.returns-in_err-bares
returns-in_err-bares c = λ next.
    rw (← c.drops_fsetid-drops.ensures, ← c.empties-emptied.ensures, ← c.cleaned-flags.ensures) (
    then (c.in_ok-brackets.ensures _) (then (c.in_ok-without_fsetid.ensures _) (then (c.in_ok-fd.ensures _) (
    stops (c.in_err-bares.ensures _) (search rules)))))

pub returns-in_err-clear_if : goal.returns-in_err-clear_if
returns-in_err-clear_if c = λ next.
    rw (← c.drops_fsetid-drops.ensures, ← c.empties-emptied.ensures, ← c.cleaned-flags.ensures) (
    then (c.in_ok-brackets.ensures _) (then (c.in_ok-without_fsetid.ensures _) (then (c.in_ok-fd.ensures _) (
    then (c.in_ok-bares.ensures _) (stops (c.in_err-clear_if.ensures _) (search rules))))))

pub returns-in_err-handle : goal.returns-in_err-handle
returns-in_err-handle c = λ next.
    rw (← c.drops_fsetid-drops.ensures, ← c.empties-emptied.ensures, ← c.cleaned-flags.ensures) (
    then (c.in_ok-brackets.ensures _) (then (c.in_ok-without_fsetid.ensures _) (then (c.in_ok-fd.ensures _) (
    then (c.in_ok-bares.ensures _) (then (c.in_ok-clear_if.ensures _) (
    stops (c.in_err-handle.ensures _) (search rules)))))))

pub returns-in_err-shuts : goal.returns-in_err-shuts
returns-in_err-shuts c = λ next.
    rw (← c.drops_fsetid-drops.ensures, ← c.empties-emptied.ensures, ← c.cleaned-flags.ensures) (
    then (c.in_ok-brackets.ensures _) (then (c.in_ok-without_fsetid.ensures _) (then (c.in_ok-fd.ensures _) (
    then (c.in_ok-bares.ensures _) (then (c.in_ok-clear_if.ensures _) (then (c.in_ok-handle.ensures _) (
    stops (c.in_err-shuts.ensures _) (search rules))))))))

pub returns : goal.returns
returns c = λ next.
    rw (← c.drops_fsetid-drops.ensures, ← c.empties-emptied.ensures, ← c.cleaned-flags.ensures) (
    then (c.in_ok-brackets.ensures _) (then (c.in_ok-without_fsetid.ensures _) (then (c.in_ok-fd.ensures _) (
    then (c.in_ok-bares.ensures _) (then (c.in_ok-clear_if.ensures _) (then (c.in_ok-handle.ensures _) (
    then (c.in_ok-shuts.ensures _) (here next))))))))
