use Rattle.pt_tables.proofs.tables.SessionTables.event.Goals as goal

pub returns-in-ForgetOne : goal.returns-in-ForgetOne
returns-in-ForgetOne c = rw c.in-ForgetOne.is c.forget-in-ForgetOne.ensures
