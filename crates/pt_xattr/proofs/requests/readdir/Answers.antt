use Rattle.pt_frame.specs.Tree.{Gives}
use Rattle.pt_frame.proofs.Reading.{here}
use Rattle.pt_xattr.specs.Requests.{readdir}
use Rattle.pt_xattr.proofs.requests.readdir.Goals as goal

pub returns-then-size-eq0 : goal.returns-then-size-eq0
unfolding readdir
returns-then-size-eq0 c = rw (c.if-size-eq0.true, c.no_entries.ensures) (here (λ last. Gives last))
