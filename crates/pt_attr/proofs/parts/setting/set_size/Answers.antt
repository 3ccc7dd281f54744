-- Written by tools/chains.
use Rattle.pt_attr.proofs.parts.setting.set_size.Goals as goal

pub returns : goal.returns
returns c = λ next.
    rw (← c.sets_size-asked.ensures, ← c.kills_suidgid-kill.ensures, ← c.drops_fsetid-drops.ensures) (
    c.cut_if.ensures _)
