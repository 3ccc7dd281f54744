use Rattle.std.proofs.Common.{◌∙◌, sym}
use Rattle.pt_frame.proofs.Reading.{here}
use Rattle.pt_req.specs.Attributes.{name_seen}
use Rattle.pt_maps.proofs.Naming.{bad_denies, okay_passes, prefix_passes, unmet_none, unsupported_none}
use Rattle.pt_req.proofs.parts.label.name_by_rule.Goals as goal

pub returns-in-Some-Prefix : goal.returns-in-Some-Prefix
returns-in-Some-Prefix c = λ next.
    let met = rw c.as_slice.ensures at (sym c.client_kind.ensures ∙ c.in-Some-Prefix.is) in
    let is = rw c.in-Some-Prefix.field-0-is at met in
    let fate = prefix_passes c.args.map.now c.args.name.now is in
    rw fate.1 (c.passed_name.ensures fate.0 next fate.1)

pub returns-in-Some-Okay : goal.returns-in-Some-Okay
returns-in-Some-Okay c = λ next.
    let met = rw c.as_slice.ensures at (sym c.client_kind.ensures ∙ c.in-Some-Okay.is) in
    let is = rw c.in-Some-Okay.field-0-is at met in
    let fate = okay_passes c.args.map.now c.args.name.now is in
    rw fate.1 (c.passed_name-in-Some-Okay.ensures fate.0 next fate.1)

pub returns-in-Some-Bad : goal.returns-in-Some-Bad
returns-in-Some-Bad c = λ next.
    let met = rw c.as_slice.ensures at (sym c.client_kind.ensures ∙ c.in-Some-Bad.is) in
    let is = rw c.in-Some-Bad.field-0-is at met in
    rw (bad_denies c.args.map.now c.args.name.now is) (here (λ name. next (name_seen name)))

pub returns-in-Some-Unsupported : goal.returns-in-Some-Unsupported
returns-in-Some-Unsupported c = λ next.
    let met = rw c.as_slice.ensures at (sym c.client_kind.ensures ∙ c.in-Some-Unsupported.is) in
    let is = rw c.in-Some-Unsupported.field-0-is at met in
    rw (unsupported_none c.args.map.now c.args.name.now is) (here (λ name. next (name_seen name)))

pub returns-in-None : goal.returns-in-None
returns-in-None c = λ next.
    let is = rw c.as_slice.ensures at (sym c.client_kind.ensures ∙ c.in-None.is) in
    rw (unmet_none c.args.map.now c.args.name.now is) (here (λ name. next (name_seen name)))
