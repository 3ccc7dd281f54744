use Rattle.pt_frame.proofs.Losing.{mark_is, loss_told, cut_loss}
use Rattle.pt_frame.proofs.laws.losses_are_told.Goals as goal

pub returns-clause-mark : goal.returns-clause-mark
returns-clause-mark c = mark_is

pub returns-clause-told : goal.returns-clause-told
returns-clause-told c = loss_told

pub returns-clause-cut : goal.returns-clause-cut
returns-clause-cut c = cut_loss
