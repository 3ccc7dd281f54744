use Rattle.std.proofs.Common.{◌≡◌, ◌∙◌, true, false, sym, ap, rules}
use Rattle.pt_iface.specs.declared.answer.Answer.TheVariants as answer
use Rattle.pt_handles.specs.Dirents.{is_listing}
use Rattle.pt_frame.specs.Tree.{Gives}
use Rattle.pt_frame.specs.declared.product.Product.TheVariants as product
use Rattle.pt_frame.specs.declared.told.Moved.TheVariants as moved
use Rattle.pt_frame.proofs.Reading.{gives, gives_moved, gives_up, makes, stops, then}
use Rattle.pt_xattr.proofs.requests.listing.Goals as goal

pub returns-then-not-is_listing : goal.returns-then-not-is_listing
returns-then-not-is_listing c =
    let none : is_listing c.args.bytes.now ≡ false = search rules in
    rw none (gives _ _ _ _)

pub returns-in_err-made : goal.returns-in_err-made
returns-in_err-made c =
    let is : is_listing c.args.bytes.now ≡ true = search rules in
    rw is (stops (c.in_err-made.ensures.stray _ _) (search rules))

pub returns-then-made : goal.returns-then-made
returns-then-made c =
    let is : is_listing c.args.bytes.now ≡ true = search rules in
    let made = c.if-made.true in
    rw is (then (c.in_ok-made.ensures.some made _ (λ entries. Gives (answer.Listing entries)))
    (gives_moved _ _ moved.Listing _ _ (c.in_ok-made.ensures.place made)))

pub returns-in-Ok : goal.returns-in-Ok
returns-in-Ok c =
    let is : is_listing c.args.bytes.now ≡ true = search rules in
    rw is (makes _ _ _ _ _ _ _ (c.in_ok-made.ensures.none c.if-made.false) (ap product.Entries c.in-Ok.ensures))

pub returns-in-Err : goal.returns-in-Err
returns-in-Err c =
    let is : is_listing c.args.bytes.now ≡ true = search rules in
    rw is (gives_up _ _ _ _ _ _ (c.in_ok-made.ensures.none c.if-made.false))
