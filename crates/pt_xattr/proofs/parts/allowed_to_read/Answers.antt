use Rattle.pt_frame.proofs.Reading.{here}
use Rattle.pt_xattr.specs.Parts.{allowed_to_read}
use Rattle.pt_xattr.proofs.parts.allowed_to_read.Goals as goal

pub returns-in-Ok : goal.returns-in-Ok
unfolding allowed_to_read
returns-in-Ok c = λ told at next. rw c.in-Ok.is (here (λ name. next name.now))
