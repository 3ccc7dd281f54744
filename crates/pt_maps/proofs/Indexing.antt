-- Rules found by their starts.
use Rattle.std.proofs.Common.{◌≡◌, ◌≢◌, ℕ, ◌<◌, ◌≤◌, ◌^◌, Bool, true, false, cond, List, [], ◌∷◌, ◌++◌, length}
use Rattle.std.proofs.Common.{Option, Some, None, IfSome, IfNone, refl, sym, ◌∙◌, inl, inr, arith}
use Rattle.std.specs.Prelude.{slice_get}
use Rattle.std.specs.List.{list_any}
use Rattle.std.specs.Ordering.{nat_cmp}
use Rattle.std.specs.BTreeMap.{BTreeMap, get, is_at}
use Rattle.std.specs.Borrow.{Bor}
use Rattle.std.specs.Slice.{IsItemAt}
use Rattle.std.specs.Option.{option_copied}
use Rattle.std.proofs.lemmas.Option.{slice_get_past, slice_get_read}
use Rattle.std.proofs.lemmas.Bool.{cases_order, ltb-false, ltb-true}
use Rattle.std.proofs.lemmas.Bool.Decides.{nat_tests}
use Rattle.pt_maps.specs.declared.range.IdRange.{IdRange}
use Rattle.pt_maps.specs.declared.rule.IdRule.{IdRule}
use Rattle.pt_maps.specs.declared.rule.Direction.{Direction}
use Rattle.pt_maps.specs.Rule.{holds, meets, range_end, source}
use Rattle.pt_maps.specs.Refusal.{AreAccepted}
use Rattle.pt_maps.specs.Translated.{rule_of}
use Rattle.pt_maps.specs.Index.{StartsAt, IsIndexOf, IsNearest, IsNearestRule, last_of}
use Rattle.pt_maps.proofs.Lists.{find_only, find_none, any_none, any_at, any_false_at, slice_get-push}
use Rattle.pt_maps.proofs.Lists.{slice_get-push_old, slice_get-push_new, Old, New}
use Rattle.pt_maps.proofs.Apart.{meeting_from, clear_from, is_in, not_true, not_same, apart, fits_at}

-- a rule that has ids is found by its start
pub is_there : (direction : Direction) (rules : List IdRule) (starts : BTreeMap ℕ ℕ) →
    IsIndexOf direction rules starts →
    (k : ℕ) (other : IdRule) → slice_get rules k ≡ Some other → 0 < (source direction other).count →
    get nat_cmp starts (source direction other).start ≡ Some k
is_there direction rules starts indexed k other here some =
    indexed.found (source direction other).start k (record { rule = other; here = here; some = some; first = refl })

-- what a look-up by place gives
pub got : (rules : List IdRule) (place : ℕ) (told : Option (Bor IdRule)) → IsItemAt rules place told →
    option_copied told ≡ slice_get rules place
got rules place None item = sym (slice_get_past rules place (ltb-false _ _ (sym item.0)))
got rules place (Some rule) item =
    sym (slice_get_read rules (length rules) place rule.now refl (ltb-true _ _ (sym item.0)) item.1)

-- a place that is told has a rule
pub never_none : (direction : Direction) (rules : List IdRule) (starts : BTreeMap ℕ ℕ) (id place : ℕ) →
    IsIndexOf direction rules starts →
    IsNearest starts id place → (P : Type 0) (told : Option IdRule) → told ≡ slice_get rules place → IfNone told P
never_none direction rules starts id place indexed near P None e =
    let is = indexed.places near.start place near.here in
    let here : slice_get rules place ≡ Some is.rule = is.here in
    cc
never_none direction rules starts id place indexed near P (Some rule) e = tt

pub is_told : (rules : List IdRule) (starts : BTreeMap ℕ ℕ) (id place : ℕ) → IsNearest starts id place →
    (told : Option IdRule) → told ≡ slice_get rules place → IfSome told (IsNearestRule rules starts id)
is_told rules starts id place near None e = tt
is_told rules starts id place near (Some rule) e = record { place = place; near = near; here = sym e }

-- another rule that starts up to the id ends before the nearest one starts
pub before_nearest : (direction : Direction) (rules : List IdRule) (starts : BTreeMap ℕ ℕ) (id place : ℕ) →
    AreAccepted rules → IsIndexOf direction rules starts → (near : IsNearest starts id place) →
    (k : ℕ) (other : IdRule) → k ≢ place → slice_get rules k ≡ Some other → 0 < (source direction other).count →
    (source direction other).start ≤ id → range_end (source direction other) ≤ near.start
before_nearest direction rules starts id place accepted indexed near k other differs here some low =
    let nearest = indexed.places near.start place near.here in
    let order : (source direction other).start ≤ near.start =
    near.last (source direction other).start low (rw (is_there direction rules starts indexed k other here some) refl)
    in
    let clear = apart direction rules k place other nearest.rule accepted differs here nearest.here in
    omega arith

-- no other rule holds the id
other_is_out : (direction : Direction) (rules : List IdRule) (starts : BTreeMap ℕ ℕ) (id place : ℕ) →
    AreAccepted rules → IsIndexOf direction rules starts → IsNearest starts id place →
    (k : ℕ) (other : IdRule) → k ≢ place → slice_get rules k ≡ Some other → holds (source direction other) id ≡ false
other_is_out direction rules starts id place accepted indexed near k other differs here = not_true _ (λ held.
    let is = is_in _ _ held in
    let early : range_end (source direction other) ≤ near.start =
    before_nearest direction rules starts id place accepted indexed near k other differs here (omega arith) is.from in
    omega (arith, near.below))

pub rule_is_nearest : (direction : Direction) (rules : List IdRule) (starts : BTreeMap ℕ ℕ) (id place : ℕ)
    (rule : IdRule) →
    AreAccepted rules → IsIndexOf direction rules starts → IsNearest starts id place →
    slice_get rules place ≡ Some rule →
    holds (source direction rule) id ≡ true → rule_of direction rules id ≡ Some rule
rule_is_nearest direction rules starts id place rule accepted indexed near here held =
    find_only (λ one. holds (source direction one) id) rules place rule here held
    (λ k other differs at. other_is_out direction rules starts id place accepted indexed near k other differs at)

pub rule_is_none : (direction : Direction) (rules : List IdRule) (starts : BTreeMap ℕ ℕ) (id place : ℕ)
    (rule : IdRule) →
    AreAccepted rules → IsIndexOf direction rules starts → IsNearest starts id place →
    slice_get rules place ≡ Some rule →
    holds (source direction rule) id ≡ false → rule_of direction rules id ≡ None
rule_is_none direction rules starts id place rule accepted indexed near here out =
    find_none (λ one. holds (source direction one) id) rules (λ k other at. elim (cases_order k place) [
      | inl same ↦ let is : rule ≡ other = cc in rw (← is) out
      | inr order ↦ other_is_out direction rules starts id place accepted indexed near k other (λ e. omega arith) at
    ])

pub rule_is_far : (direction : Direction) (rules : List IdRule) (starts : BTreeMap ℕ ℕ) (id : ℕ) →
    IsIndexOf direction rules starts →
    ((start : ℕ) → start ≤ id → get nat_cmp starts start ≡ None) → rule_of direction rules id ≡ None
rule_is_far direction rules starts id indexed far =
    find_none (λ one. holds (source direction one) id) rules (λ k other at. not_true _ (λ held.
    let is = is_in _ _ held in
    let there = is_there direction rules starts indexed k other at (omega arith) in
    let none = far (source direction other).start is.from in
    cc))

-- a range that meets another rule's meets that of the nearest one
meets_nearest : (direction : Direction) (rules : List IdRule) (starts : BTreeMap ℕ ℕ) (range : IdRange) (place : ℕ)
    (rule : IdRule) →
    AreAccepted rules → IsIndexOf direction rules starts → IsNearest starts (last_of range) place →
    slice_get rules place ≡ Some rule →
    meets range (source direction rule) ≡ false →
    (k : ℕ) (other : IdRule) → k ≢ place → slice_get rules k ≡ Some other →
    meets range (source direction other) ≡ false
meets_nearest direction rules starts range place rule accepted indexed near here clear k other differs at =
    not_true _ (λ met.
    let meeting = (meeting_from _ _ met).meeting in
    let fits : range_end (source direction other) ≤ 2 ^ 32 = fits_at direction rules k other accepted at in
    let early : range_end (source direction other) ≤ near.start =
    before_nearest direction rules starts (last_of range) place accepted indexed near k other differs at (omega arith)
    (omega arith) in
    let nearest = indexed.places near.start place near.here in
    let same : nearest.rule ≡ rule = cc in
    let first : (source direction rule).start ≡ near.start = rw (← same) nearest.first in
    let some : 0 < (source direction rule).count = rw (← same) nearest.some in
    let apart = (clear_from _ _ clear).clear in
    omega (arith, near.below))

-- whether a range meets an earlier rule's: only the nearest one counts
pub overlap_is_nearest : (direction : Direction) (rules : List IdRule) (starts : BTreeMap ℕ ℕ) (range : IdRange)
    (place : ℕ) (rule : IdRule) →
    AreAccepted rules → IsIndexOf direction rules starts → IsNearest starts (last_of range) place →
    slice_get rules place ≡ Some rule →
    (b : Bool) → meets range (source direction rule) ≡ b →
    list_any (λ other. meets range (source direction other)) rules ≡ b
overlap_is_nearest direction rules starts range place rule accepted indexed near here true met =
    any_at (λ other. meets range (source direction other)) rules place rule here met
overlap_is_nearest direction rules starts range place rule accepted indexed near here false clear =
    any_none (λ other. meets range (source direction other)) rules (λ k other at. elim (cases_order k place) [
      | inl same ↦ let is : rule ≡ other = cc in rw (← is) clear
      | inr order ↦ meets_nearest direction rules starts range place rule accepted indexed near here clear k other
          (λ e. omega arith) at
    ])

pub overlap_is_far : (direction : Direction) (rules : List IdRule) (starts : BTreeMap ℕ ℕ) (range : IdRange) →
    AreAccepted rules → IsIndexOf direction rules starts →
    ((start : ℕ) → start ≤ last_of range → get nat_cmp starts start ≡ None) →
    list_any (λ other. meets range (source direction other)) rules ≡ false
overlap_is_far direction rules starts range accepted indexed far =
    any_none (λ other. meets range (source direction other)) rules (λ k other at. not_true _ (λ met.
    let meeting = (meeting_from _ _ met).meeting in
    let fits : range_end (source direction other) ≤ 2 ^ 32 = fits_at direction rules k other accepted at in
    let there = is_there direction rules starts indexed k other at (omega arith) in
    let none = far (source direction other).start (omega arith) in
    cc))

pub overlap_told : (direction : Direction) (rules : List IdRule) (starts : BTreeMap ℕ ℕ) (range : IdRange)
    (rule : IdRule) →
    IsIndexOf direction rules starts → AreAccepted rules → IsNearestRule rules starts (last_of range) rule →
    meets range (source direction rule) ≡ list_any (λ other. meets range (source direction other)) rules
overlap_told direction rules starts range rule indexed accepted told =
    sym (overlap_is_nearest direction rules starts range told.place rule accepted indexed told.near told.here _ refl)

-- a rule stays where others follow it
starts_more : (direction : Direction) (rules : List IdRule) (rule : IdRule) (place start : ℕ) →
    StartsAt direction rules place start →
    StartsAt direction (rules ++ rule ∷ []) place start
starts_more direction rules rule place start is =
    record {
      rule = is.rule;
      here = slice_get-push_old rules rule is.rule place is.here;
      some = is.some;
      first =
          is.first;
    }

-- a rule that is there was there, or is the new one
data StartsNow (direction : Direction) (rules : List IdRule) (rule : IdRule) (place start : ℕ) : Type 0 where
  Was : StartsAt direction rules place start → StartsNow direction rules rule place start
  Is : place ≡ length rules → (source direction rule).start ≡ start → 0 < (source direction rule).count →
      StartsNow direction rules rule place start

starts_now : (direction : Direction) (rules : List IdRule) (rule : IdRule) (place start : ℕ) →
    StartsAt direction (rules ++ rule ∷ []) place start →
    StartsNow direction rules rule place start
starts_now direction rules rule place start is = elim (slice_get-push rules rule place is.rule is.here) [
  | Old old ↦ Was (record { rule = is.rule; here = old; some = is.some; first = is.first })
  | New last same ↦ Is last (rw same is.first) (rw same is.some)
]

-- a rule without ids needs no start
pub indexed_same : (direction : Direction) (rules : List IdRule) (starts : BTreeMap ℕ ℕ) (rule : IdRule) →
    (source direction rule).count ≡ 0 →
    IsIndexOf direction rules starts → IsIndexOf direction (rules ++ rule ∷ []) starts
indexed_same direction rules starts rule none indexed = record {
  places = λ start place found. starts_more direction rules rule place start (indexed.places start place found);
  found = λ start place is. elim (starts_now direction rules rule place start is) [
    | Was was ↦ indexed.found start place was
    | Is last first some ↦ absurd (omega arith)
  ];
}

at_other : (a b : ℕ) → a ≢ b → is_at (nat_cmp a) b ≡ false
at_other a b differ = grind (arith, nat_tests)

at_start : (a b : ℕ) → a ≡ b → is_at (nat_cmp a) b ≡ true
at_start a b same = grind (arith, nat_tests)

-- a rule that meets none is found once its start is put in
pub indexed_more : (direction : Direction) (rules : List IdRule) (starts next : BTreeMap ℕ ℕ) (rule : IdRule) →
    0 < (source direction rule).count →
    list_any (λ other. meets (source direction rule) (source direction other)) rules ≡ false →
    ((q : ℕ) → get nat_cmp next q
    ≡ cond (is_at (nat_cmp (source direction rule).start) q) (Some (length rules)) (get nat_cmp starts q)) →
    IsIndexOf direction rules starts → IsIndexOf direction (rules ++ rule ∷ []) next
indexed_more direction rules starts next rule some clear updates indexed = record {
  places = λ start place found. elim (cases_order (source direction rule).start start) [
    | inl same ↦
        let e : get nat_cmp next start ≡ Some (length rules) = rw (at_start _ _ same) at (updates start) in
        let last : place ≡ length rules = cc in
        record { rule = rule; here = rw last (slice_get-push_new rules rule); some = some; first = same }
    | inr order ↦
        let was : get nat_cmp starts start ≡ Some place =
        sym (rw (at_other (source direction rule).start start (not_same _ _ order)) at (updates start)) ∙ found in
        starts_more direction rules rule place start (indexed.places start place was)
  ];
  found = λ start place is. elim (starts_now direction rules rule place start is) [
    | Was was ↦
        let apart = clear_from _ _
        (any_false_at (λ other. meets (source direction rule) (source direction other)) rules place was.rule clear
        was.here) in
        let differ : (source direction rule).start ≢ start = λ e. omega (arith, was.first, was.some) in
        rw (updates start) (rw (at_other _ start differ) (indexed.found start place was))
    | Is last first new ↦ rw (← first)
        (rw (updates (source direction rule).start)
        (rw (at_start (source direction rule).start (source direction rule).start refl) (rw last refl)))
  ];
}
