-- Written by tools/chains.
use Rattle.pt_attr.proofs.parts.setting.set_times.Goals as goal

pub returns : goal.returns
returns c = λ next.
    rw (← c.sets_times-asked.ensures, ← c.atime_set-atime.ensures, ← c.mtime_set-mtime.ensures) (c.do_if.ensures _)
