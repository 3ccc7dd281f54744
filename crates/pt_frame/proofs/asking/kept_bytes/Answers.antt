use Rattle.std.proofs.Common.{rules, ◌≡◌, ℕ, List, Some}
use Rattle.pt_frame.specs.Machine.Walk.{IsRead}
use Rattle.pt_frame.specs.declared.product.Product.TheVariants as product
use Rattle.pt_frame.specs.declared.told.Heard.TheVariants as heard
use Rattle.pt_frame.proofs.Reading.{bytes_stray, made_bytes, no_bytes}
use Rattle.pt_frame.proofs.asking.kept_bytes.Goals as goal

pub returns-in-Bytes-clause-some : goal.returns-in-Bytes-clause-some
returns-in-Bytes-clause-some c =
    let read = rw c.in-Bytes.is at (rw c.in-Some-Kept.field-0-is at c.in-Some-Kept.ensures.some) in
    λ made next. made_bytes c.args.told.now c.args.at.now c.next.new.at c.in-Bytes.bytes made next read

pub returns-in-Entries-clause-stray : goal.returns-in-Entries-clause-stray
returns-in-Entries-clause-stray c =
    let read = rw c.in-Entries.is at (rw c.in-Some-Kept.field-0-is at c.in-Some-Kept.ensures.some) in
    λ made next. no_bytes c.args.told.now c.args.at.now c.next.new.at c.in-Entries.field-0 made next next read

pub returns-in-Some : goal.returns-in-Some
returns-in-Some c = record {
  none = tt;
  some = tt;
  stray = λ made next. bytes_stray c.args.told.now c.args.at.now c.next.new.at c.in-Some.field-0.now made next next
      c.in-Some.ensures.some (search rules);
  place = tt;
}
