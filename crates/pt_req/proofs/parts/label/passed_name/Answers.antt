use Rattle.std.proofs.Common.{Ok, rules}
use Rattle.pt_frame.proofs.Reading.{here, stops, then}
use Rattle.pt_req.specs.Attributes.{name_seen}
use Rattle.pt_req.proofs.parts.label.passed_name.Goals as goal

pub returns-in_err-name : goal.returns-in_err-name
returns-in_err-name c = λ made next is. stops (c.in_err-name.ensures made (λ kept. next (Ok kept)) is) (search rules)

pub returns : goal.returns
returns c = λ made next is.
    then (c.in_ok-name.ensures made (λ kept. next (Ok kept)) is) (here (λ name. next (name_seen name)))
