-- Believed. What rules mean, whatever code looks them up.
use Rattle.std.specs.Prelude.{◌≡◌, ◌↔◌, ℕ, ◌+◌, ◌-◌, List, true, Some, None, IsSome, slice_get}
use Rattle.pt_maps.specs.declared.range.IdRange.{IdRange}
use Rattle.pt_maps.specs.declared.rule.IdRule.{IdRule}
use Rattle.pt_maps.specs.declared.rule.IdRule.TheVariants.{ForbidGuest, Map}
use Rattle.pt_maps.specs.declared.rule.Direction.{Direction}
use Rattle.pt_maps.specs.Rule.{ids_from, holds, meets, source}
use Rattle.pt_maps.specs.Refusal.{AreAccepted}
use Rattle.pt_maps.specs.Translated.{to_host, to_guest}
use Rattle.pt_maps.specs.declared.xattr_rule.XattrRule.{XattrRule}
use Rattle.pt_maps.specs.NameRules.{is_terminated}
use Rattle.pt_maps.specs.MappedNames.{client_name, server_list}

-- some id lies in both ranges
pub record HaveCommonId (one other : IdRange) : Type 0 where
  pub id : ℕ
  pub in_one : holds one id ≡ true
  pub in_other : holds other id ≡ true

-- a rule at this place has the id in its source range
pub record HoldsAt (direction : Direction) (rules : List IdRule) (id place : ℕ) : Type 0 where
  pub rule : IdRule
  pub here : slice_get rules place ≡ Some rule
  pub held : holds (source direction rule) id ≡ true

-- some rule forbids the id
pub record IsForbidden (rules : List IdRule) (id : ℕ) : Type 0 where
  pub place : ℕ
  pub first : ℕ
  pub count : ℕ
  pub here : slice_get rules place ≡ Some (ForbidGuest first count)
  pub held : holds (ids_from first count) id ≡ true

-- two ranges meet exactly where some id lies in both
abbrev pub MeetInAnId : Type 0
MeetInAnId = (one other : IdRange) → (meets one other ≡ true) ↔ HaveCommonId one other

-- at most one accepted rule has an id in its source range in a direction
abbrev pub HaveOneRule : Type 0
HaveOneRule = (direction : Direction) (rules : List IdRule) (id i j : ℕ) → AreAccepted rules →
    HoldsAt direction rules id i → HoldsAt direction rules id j → i ≡ j

-- a guest's id has no host's id exactly where it is forbidden
abbrev pub ForbiddenAlone : Type 0
ForbiddenAlone = (rules : List IdRule) (id : ℕ) → AreAccepted rules → (to_host rules id ≡ None) ↔ IsForbidden rules id

-- what `map` sends to the host comes back
abbrev pub MapBothWays : Type 0
MapBothWays = (rules : List IdRule) (place guest host count id : ℕ) → AreAccepted rules →
    slice_get rules place ≡ Some (Map guest host count) → holds (ids_from guest count) id ≡ true →
    (to_host rules id ≡ Some (host + (id - guest))) × (to_guest rules (host + (id - guest)) ≡ id)

-- rules of which some meets every name say something of each of the client's, and of each list of the host's
abbrev pub TerminatedMeetAll : Type 0
TerminatedMeetAll = (rules : List XattrRule) → is_terminated rules ≡ true →
    ((name : List ℕ) → IsSome (client_name rules name)) × ((list : List ℕ) → IsSome (server_list rules list))
