use Rattle.pt_frame.proofs.machine.holding.hold_called.Goals as goal

pub returns-in-OpenRoot-clause-held : goal.returns-in-OpenRoot-clause-held
returns-in-OpenRoot-clause-held c = rw c.in-OpenRoot.is (c.hold_opened.ensures.held c.in-OpenRoot.flags)

pub returns-in-OpenPath-clause-held : goal.returns-in-OpenPath-clause-held
returns-in-OpenPath-clause-held c =
    rw c.in-OpenPath.is (c.hold_opened-in-OpenPath.ensures.held c.in-OpenPath.flags)

pub returns-in-OpenAt-clause-held : goal.returns-in-OpenAt-clause-held
returns-in-OpenAt-clause-held c = rw c.in-OpenAt.is (c.hold_opened-in-OpenAt.ensures.held c.in-OpenAt.flags)

pub returns-in-Reopen-clause-held : goal.returns-in-Reopen-clause-held
returns-in-Reopen-clause-held c = rw c.in-Reopen.is (c.hold_opened-in-Reopen.ensures.held c.in-Reopen.flags)

pub returns-in-OpenByHandle-clause-held : goal.returns-in-OpenByHandle-clause-held
returns-in-OpenByHandle-clause-held c =
    rw c.in-OpenByHandle.is (c.hold_opened-in-OpenByHandle.ensures.held c.in-OpenByHandle.flags)
