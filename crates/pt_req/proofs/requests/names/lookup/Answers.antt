-- Written by tools/chains.
use Rattle.std.proofs.Common.{rules}
use Rattle.pt_frame.proofs.Reading.{here, stops, then}
use Rattle.pt_frame.specs.Tree.{Gives}
use Rattle.pt_req.proofs.requests.names.lookup.Goals as goal

pub returns-in_err-named : goal.returns-in_err-named
returns-in_err-named c = stops (c.in_err-named.ensures _ _ _) (search rules)

pub returns-in_err-looked : goal.returns-in_err-looked
returns-in_err-looked c = then (c.in_ok-named.ensures _ _ _) (stops (c.in_err-looked.ensures _) (search rules))

pub returns : goal.returns
returns c = then (c.in_ok-named.ensures _ _ _) (then (c.in_ok-looked.ensures _) (here Gives))
