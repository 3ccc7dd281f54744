-- The last start up to an id.
use Rattle.std.proofs.Common.{◌≡◌, ℕ, ◌≤◌, false, Some, IsSome, arith}
use Rattle.std.specs.Ordering.{nat_cmp, is_gt, is_lt}
use Rattle.std.specs.declared.ops.Bound.TheVariants.{Included, Unbounded}
use Rattle.std.specs.BTreeMap.{BTreeMap, get}
use Rattle.std.specs.BTreeMap.Range.{IsInRange}
use Rattle.std.proofs.lemmas.Bool.Decides.{nat_tests}
use Rattle.pt_maps.specs.Index.{IsNearest}

up_to : (a b : ℕ) → is_gt (nat_cmp a b) ≡ false → a ≤ b
up_to a b h = grind (arith, nat_tests)

is_up_to : (a b : ℕ) → a ≤ b → is_gt (nat_cmp a b) ≡ false
is_up_to a b h = grind (arith, nat_tests)

not_behind : (a b : ℕ) → is_lt (nat_cmp a b) ≡ false → b ≤ a
not_behind a b h = grind (arith, nat_tests)

-- what a range up to the id says of its last entry
pub nearest_from_last : (starts : BTreeMap ℕ ℕ) (id start place : ℕ) → is_gt (nat_cmp start id) ≡ false →
    get nat_cmp starts start ≡ Some place →
    ((other : ℕ) → IsInRange nat_cmp Unbounded (Included id) other → IsSome (get nat_cmp starts other) →
    is_lt (nat_cmp start other) ≡ false) →
    IsNearest starts id place
nearest_from_last starts id start place below here greatest = record {
  start = start;
  below = up_to start id below;
  here = here;
  last = λ other low some. not_behind start other (greatest other (tt, is_up_to other id low) some);
}
