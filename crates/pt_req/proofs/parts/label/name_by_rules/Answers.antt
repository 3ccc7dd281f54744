use Rattle.pt_frame.proofs.Reading.{here}
use Rattle.pt_req.specs.Attributes.{name_seen}
use Rattle.pt_req.proofs.parts.label.name_by_rules.Goals as goal

pub returns-in-None : goal.returns-in-None
returns-in-None c = λ next. rw c.in-None.is (here (λ name. next (name_seen name)))
