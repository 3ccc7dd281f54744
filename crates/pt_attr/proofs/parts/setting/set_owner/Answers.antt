-- Written by tools/chains.
use Rattle.pt_attr.proofs.parts.setting.set_owner.Goals as goal

pub returns : goal.returns
returns c = λ next.
    rw (← c.sets_owner-asked.ensures, ← c.uid_set-uid.ensures, ← c.gid_set-gid.ensures) (c.own_if.ensures _)
