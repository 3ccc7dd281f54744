use Rattle.std.proofs.Common.{rules, ap}
use Rattle.pt_maps.proofs.Naming.{passes_once}
use Rattle.pt_frame.specs.declared.product.Product.TheVariants as product
use Rattle.pt_frame.proofs.Reading.{gives_up, here, makes, stops, then}
use Rattle.pt_req.proofs.parts.label.made_name.Goals as goal

pub returns-in_err-before : goal.returns-in_err-before
returns-in_err-before c = λ made next is. stops (c.in_err-before.ensures.stray made next) (search rules)

pub returns-in-Some : goal.returns-in-Some
returns-in-Some c = λ made next is.
    let kept = rw c.in-Some.is at c.in_ok-before.ensures.some in
    then (kept made next) (here (λ name. next name.now))

pub returns-in-Ok-Pass : goal.returns-in-Ok-Pass
returns-in-Ok-Pass c = λ made next is.
    let none = rw c.in-None.is at c.in_ok-before.ensures.none in
    let passes = rw c.in-Ok-Pass.field-0-is at c.in-Ok-Pass.ensures.applied in
    makes _ _ _ _ _ _ _ none (ap product.Bytes (passes_once _ c.in-Ok-Pass.made made passes (rw c.as_slice.ensures is)))

pub returns-in_default : goal.returns-in_default
returns-in_default c = λ made next is.
    let none = rw c.in-None.is at c.in_ok-before.ensures.none in
    gives_up _ _ _ _ _ _ none
