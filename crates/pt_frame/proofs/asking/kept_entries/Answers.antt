use Rattle.std.proofs.Common.{rules, ◌≡◌, ℕ, List, Some}
use Rattle.pt_frame.specs.Machine.Walk.{IsRead}
use Rattle.pt_frame.specs.declared.product.Product.TheVariants as product
use Rattle.pt_frame.specs.declared.told.Heard.TheVariants as heard
use Rattle.pt_frame.proofs.Reading.{entries_stray, made_entries, no_entries}
use Rattle.pt_frame.proofs.asking.kept_entries.Goals as goal

pub returns-in-Entries-clause-some : goal.returns-in-Entries-clause-some
returns-in-Entries-clause-some c =
    let read = rw c.in-Entries.is at (rw c.in-Some-Kept.field-0-is at c.in-Some-Kept.ensures.some) in
    λ so entries next. made_entries c.args.told.now c.args.at.now c.next.new.at c.in-Entries.field-0 entries next read

pub returns-in-Bytes-clause-stray : goal.returns-in-Bytes-clause-stray
returns-in-Bytes-clause-stray c =
    let read = rw c.in-Bytes.is at (rw c.in-Some-Kept.field-0-is at c.in-Some-Kept.ensures.some) in
    λ entries next. no_entries c.args.told.now c.args.at.now c.next.new.at c.in-Bytes.field-0 entries next next read

pub returns-in-Some : goal.returns-in-Some
returns-in-Some c = record {
  none = tt;
  some = tt;
  stray = λ entries next. entries_stray c.args.told.now c.args.at.now c.next.new.at c.in-Some.field-0.now entries next
      next c.in-Some.ensures.some (search rules);
  place = tt;
}
