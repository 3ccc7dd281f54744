use Rattle.pt_text.proofs.PartsLemmas.{parts_left-empty}
use Rattle.pt_text.proofs.parts.Parts.is_empty.Goals as goal

pub returns : goal.returns
returns c = rw (← c.self.view_is) (parts_left-empty _ _ _ c.is_none.ensures)
