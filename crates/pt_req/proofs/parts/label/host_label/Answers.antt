use Rattle.pt_frame.proofs.Reading.{here}
use Rattle.pt_req.specs.Attributes.{label_seen}
use Rattle.pt_req.proofs.parts.label.host_label.Goals as goal

pub returns-in-None : goal.returns-in-None
returns-in-None c = λ next. rw c.in-None.is (here (λ label. next (label_seen label)))
