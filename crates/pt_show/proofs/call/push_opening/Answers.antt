use Rattle.pt_show.proofs.call.push_opening.Goals as goal

pub returns-in-OpenByHandle : goal.returns-in-OpenByHandle
returns-in-OpenByHandle c = rw c.in-OpenByHandle.is c.push_three-in-OpenByHandle.ensures
