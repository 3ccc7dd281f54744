use Rattle.std.proofs.Common.{rules, Some}
use Rattle.pt_frame.proofs.Reading.{here, stops, then}
use Rattle.pt_req.specs.Attributes.{label_seen}
use Rattle.pt_req.proofs.parts.label.label_named.Goals as goal

pub returns-in_err-name : goal.returns-in_err-name
returns-in_err-name c = λ next. stops (c.in_err-name.ensures _) (search rules)

pub returns : goal.returns
returns c = λ next.
    then (c.in_ok-name.ensures (λ name. next (Some (record { name = name; value = c.args.label.now.value }))))
    (here (λ label. next (label_seen label)))
