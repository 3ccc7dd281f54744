use Rattle.std.proofs.Common.{[], refl}
use Rattle.pt_frame.proofs.Tending.{tended_framed, tended_cut_past, tended_chosen}
use Rattle.pt_frame.proofs.laws.seats_are_tended.Goals as goal

pub returns-clause-whole : goal.returns-clause-whole
returns-clause-whole c = λ seat tree fits. tended_framed seat tree [] [] [] refl fits

pub returns-clause-cut : goal.returns-clause-cut
returns-clause-cut c = tended_cut_past

pub returns-clause-chosen : goal.returns-clause-chosen
returns-clause-chosen c = tended_chosen
