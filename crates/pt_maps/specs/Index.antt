-- Inner. How rules are found by the first ids of their source ranges in one direction.
use Rattle.std.specs.Prelude.{◌≡◌, ℕ, ◌+◌, ◌-◌, ◌^◌, ◌<◌, ◌≤◌, List, Some, IsSome, min, slice_get}
use Rattle.std.specs.Ordering.{nat_cmp}
use Rattle.std.specs.BTreeMap.{BTreeMap, get}
use Rattle.pt_maps.specs.declared.range.IdRange.{IdRange}
use Rattle.pt_maps.specs.declared.rule.IdRule.{IdRule}
use Rattle.pt_maps.specs.declared.rule.Direction.{Direction}
use Rattle.pt_maps.specs.declared.rule.Direction.TheVariants.{ToHost, ToGuest}
use Rattle.pt_maps.specs.Rule.{source}
use Rattle.pt_maps.specs.Refusal.{AreAccepted}

-- the rule at a place has ids, and this is the first
pub record StartsAt (direction : Direction) (rules : List IdRule) (place start : ℕ) : Type 0 where
  pub rule : IdRule
  pub here : slice_get rules place ≡ Some rule
  pub some : 0 < (source direction rule).count
  pub first : (source direction rule).start ≡ start

-- each start has its rule's place, and each rule that has ids is there
pub record IsIndexOf (direction : Direction) (rules : List IdRule) (starts : BTreeMap ℕ ℕ) : Type 0 where
  pub places : (start place : ℕ) → get nat_cmp starts start ≡ Some place → StartsAt direction rules place start
  pub found : (start place : ℕ) → StartsAt direction rules place start → get nat_cmp starts start ≡ Some place

-- the place of the last start up to an id
pub record IsNearest (starts : BTreeMap ℕ ℕ) (id place : ℕ) : Type 0 where
  pub start : ℕ
  pub below : start ≤ id
  pub here : get nat_cmp starts start ≡ Some place
  pub last : (other : ℕ) → other ≤ id → IsSome (get nat_cmp starts other) → other ≤ start

-- the rule at that place
pub record IsNearestRule (rules : List IdRule) (starts : BTreeMap ℕ ℕ) (id : ℕ) (rule : IdRule) : Type 0 where
  pub place : ℕ
  pub near : IsNearest starts id place
  pub here : slice_get rules place ≡ Some rule

-- accepted rules with their starts in both directions
pub record IsIndexed (rules : List IdRule) (guests hosts : BTreeMap ℕ ℕ) : Type 0 where
  pub accepted : AreAccepted rules
  pub to_host : IsIndexOf ToHost rules guests
  pub to_guest : IsIndexOf ToGuest rules hosts

-- the last id of a range that has any, where it ends in time
abbrev pub last_of : IdRange → ℕ
last_of range = min (range.start + (range.count - 1)) (2 ^ 32 - 1)
