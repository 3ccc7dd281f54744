use Rattle.std.proofs.Common.{◌∙◌, ℕ, List, rules, ap}
use Rattle.pt_iface.specs.declared.answer.Answer.TheVariants as answer
use Rattle.pt_iface.specs.declared.answer.ListxattrReply.TheVariants as xattrs
use Rattle.pt_frame.specs.Machine.Walk.{moved_in}
use Rattle.pt_frame.specs.Tree.{Gives}
use Rattle.pt_frame.specs.declared.product.Product.TheVariants as product
use Rattle.pt_frame.specs.declared.told.Moved.TheVariants as moved
use Rattle.pt_frame.proofs.Reading.{gives_moved, gives_up, makes, stops, then}
use Rattle.pt_xattr.specs.Listed.{names_told}
use Rattle.pt_xattr.proofs.parts.names_made.Goals as goal

pub returns-in_err-before : goal.returns-in_err-before
returns-in_err-before c = stops (c.in_err-before.ensures.stray _ _) (search rules)

pub returns-in-Some : goal.returns-in-Some
returns-in-Some c =
    let there = rw c.in-Some.is at c.in_ok-before.ensures.place in
    let kept = rw c.in-Some.is at c.in_ok-before.ensures.some in
    then (kept _ (λ names. Gives (answer.Xattrs (xattrs.Names names))))
    (rw (← ap (moved_in moved.Xattrs) there) (gives_moved _ _ moved.Xattrs _ _ (rw there tt)))

pub returns-in-Ok : goal.returns-in-Ok
returns-in-Ok c =
    let none = rw c.in-None.is at c.in_ok-before.ensures.none in
    makes _ _ _ _ _ _ _ none (ap product.Bytes (
    c.in-Ok.ensures ∙ ap (λ (list : List ℕ). names_told c.args.plan.now c.args.agreed list) c.as_slice.ensures))

pub returns-in-Err : goal.returns-in-Err
returns-in-Err c =
    let none = rw c.in-None.is at c.in_ok-before.ensures.none in
    gives_up _ _ _ _ _ _ none
