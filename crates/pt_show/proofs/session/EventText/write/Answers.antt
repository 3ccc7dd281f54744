use Rattle.pt_show.proofs.session.EventText.write.Goals as goal

pub returns-in-InsertHandle : goal.returns-in-InsertHandle
returns-in-InsertHandle c = rw c.in-InsertHandle.is c.push_five.ensures
