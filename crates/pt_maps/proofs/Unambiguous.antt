-- Accepted rules say of each id one thing in each direction.
use Rattle.std.proofs.Common.{◌≡◌, ℕ, ◌+◌, ◌-◌, ◌<◌, ◌≤◌, true, List, Option, Some, None, refl, ◌∙◌, inl, inr, arith}
use Rattle.std.specs.Prelude.{slice_get, max}
use Rattle.std.specs.Option.{option_map_or}
use Rattle.std.proofs.lemmas.Bool.{cases_order, le-leb, lt-ltb}
use Rattle.pt_maps.specs.declared.range.IdRange.{IdRange}
use Rattle.pt_maps.specs.declared.rule.IdRule.{IdRule}
use Rattle.pt_maps.specs.declared.rule.IdRule.TheVariants.{Guest, Host, SquashGuest, SquashHost, ForbidGuest, Map}
use Rattle.pt_maps.specs.declared.rule.Direction.{Direction}
use Rattle.pt_maps.specs.declared.rule.Direction.TheVariants.{ToHost, ToGuest}
use Rattle.pt_maps.specs.Rule.{ids_from, holds, meets, source, range_end, host_id}
use Rattle.pt_maps.specs.Refusal.{AreAccepted}
use Rattle.pt_maps.specs.Translated.{rule_of, to_host, to_guest}
use Rattle.pt_maps.specs.Laws.{HaveCommonId, IsForbidden, MeetInAnId, HaveOneRule, ForbiddenAlone, MapBothWays}
use Rattle.pt_maps.proofs.Lists.{find_only, find_some}
use Rattle.pt_maps.proofs.Apart.{IsClear, IsIn, is_in, meeting_from, apart, not_true, not_same}

holds_from : (range : IdRange) (id : ℕ) → range.start ≤ id → id < range_end range → holds range id ≡ true
holds_from range id from before = rw (le-leb _ _ from) (lt-ltb _ _ before)

meet_there : (one other : IdRange) → meets one other ≡ true → HaveCommonId one other
meet_there one other met =
    let meeting = (meeting_from one other met).meeting in
    record {
      id = max one.start other.start;
      in_one = holds_from one _ (omega arith) (omega arith);
      in_other = holds_from other _ (omega arith) (omega arith);
    }

common_meets : (one other : IdRange) → HaveCommonId one other → meets one other ≡ true
common_meets one other common =
    let a = is_in one _ common.in_one in
    let b = is_in other _ common.in_other in
    lt-ltb _ _ (omega arith)

pub meet_in_an_id : MeetInAnId
meet_in_an_id one other = (meet_there one other, common_meets one other)

pub have_one_rule : HaveOneRule
have_one_rule direction rules id i j accepted at_i at_j = elim (cases_order i j) [
  | inl same ↦ same
  | inr order ↦
      let clear : IsClear (source direction at_i.rule) (source direction at_j.rule) =
      apart direction rules i j at_i.rule at_j.rule accepted (not_same i j order) at_i.here at_j.here in
      let one : IsIn (source direction at_i.rule) id = is_in _ _ at_i.held in
      let other : IsIn (source direction at_j.rule) id = is_in _ _ at_j.held in
      absurd (omega arith)
]

-- the rule that holds an id is the one that is looked up
rule_is : (direction : Direction) (rules : List IdRule) (id place : ℕ) (rule : IdRule) → AreAccepted rules →
    slice_get rules place ≡ Some rule →
    holds (source direction rule) id ≡ true → rule_of direction rules id ≡ Some rule
rule_is direction rules id place rule accepted here held =
    find_only (λ one. holds (source direction one) id) rules place rule here held
    (λ k other differs at. not_true _ (λ other_held.
    differs (have_one_rule direction rules id k place accepted (record { rule = other; here = at; held = other_held })
    (record { rule = rule; here = here; held = held }))))

forbids : (rules : List IdRule) (id : ℕ) (found : Option IdRule) → rule_of ToHost rules id ≡ found →
    option_map_or (λ rule. host_id rule id) found (Some id) ≡ None → IsForbidden rules id
forbids rules id None is none = cc
forbids rules id (Some (ForbidGuest first count)) is none =
    let at = find_some (λ rule. holds (source ToHost rule) id) rules (ForbidGuest first count) is in
    record { place = at.place; first = first; count = count; here = at.here; held = at.passes }
forbids rules id (Some (Guest first target count)) is none = cc
forbids rules id (Some (Host first target count)) is none = cc
forbids rules id (Some (SquashGuest first target count)) is none = cc
forbids rules id (Some (SquashHost first target count)) is none = cc
forbids rules id (Some (Map guest host count)) is none = cc

no_host_id : (rules : List IdRule) (id : ℕ) → AreAccepted rules → IsForbidden rules id → to_host rules id ≡ None
no_host_id rules id accepted is =
    rw (rule_is ToHost rules id is.place (ForbidGuest is.first is.count) accepted is.here is.held) refl

pub forbidden_alone : ForbiddenAlone
forbidden_alone rules id accepted = (forbids rules id _ refl, no_host_id rules id accepted)

pub map_both_ways : MapBothWays
map_both_ways rules place guest host count id accepted here held =
    let is = is_in (ids_from guest count) id held in
    let low : guest ≤ id = is.from in
    let back : holds (ids_from host count) (host + (id - guest)) ≡ true =
    holds_from (ids_from host count) _ (omega arith) (omega arith) in
    let there : to_host rules id ≡ Some (host + (id - guest)) =
    rw (rule_is ToHost rules id place (Map guest host count) accepted here held) refl in
    let again : to_guest rules (host + (id - guest)) ≡ guest + ((host + (id - guest)) - host) =
    rw (rule_is ToGuest rules (host + (id - guest)) place (Map guest host count) accepted here back) refl in
    (there, again ∙ omega arith)
