-- Written by tools/chains.
use Rattle.std.proofs.Common.{rules}
use Rattle.pt_frame.proofs.Reading.{here, stops, then}
use Rattle.pt_frame.specs.Tree.{Gives}
use Rattle.pt_attr.proofs.parts.tell_attr.Goals as goal

pub returns-in_err-fd : goal.returns-in_err-fd
returns-in_err-fd c = stops (c.in_err-fd.ensures _) (search rules)

pub returns-in_err-stat : goal.returns-in_err-stat
returns-in_err-stat c = then (c.in_ok-fd.ensures _) (stops (c.in_err-stat.ensures _) (search rules))

pub returns : goal.returns
returns c = then (c.in_ok-fd.ensures _) (then (c.in_ok-stat.ensures _) (rw (← c.attr_of-attr.ensures) (here Gives)))
