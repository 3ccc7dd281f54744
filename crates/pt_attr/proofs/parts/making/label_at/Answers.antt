use Rattle.pt_attr.proofs.parts.making.label_at.Goals as goal

pub returns-in-Ok : goal.returns-in-Ok
returns-in-Ok c = λ next. rw c.in-Ok.is (c.kept_at.ensures next)
