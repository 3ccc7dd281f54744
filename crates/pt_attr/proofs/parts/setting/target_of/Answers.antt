use Rattle.pt_attr.proofs.parts.setting.target_of.Goals as goal

pub returns-in-Some : goal.returns-in-Some
returns-in-Some c = λ next. rw c.in-Some.is (c.pinned_target.ensures c.args.file next)
