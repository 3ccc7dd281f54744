-- Written by tools/chains.
use Rattle.std.proofs.Common.{rules}
use Rattle.pt_frame.proofs.Reading.{here, stops, then}
use Rattle.pt_xattr.proofs.parts.opened_file.Goals as goal

pub returns-in_err-fd : goal.returns-in_err-fd
returns-in_err-fd c = λ next. stops (c.in_err-fd.ensures _) (search rules)

pub returns : goal.returns
returns c = λ next. then (c.in_ok-fd.ensures _) (here next)
