-- What accepted rules say of ids: their source ranges in one direction have no id in common, and all end in time.
use Rattle.std.proofs.Common.{◌≡◌, ◌≢◌, ℕ, ◌<◌, ◌≤◌, ◌^◌, Bool, true, false, ◌||◌, List, [], ◌∷◌, ◌++◌, length, take}
use Rattle.std.proofs.Common.{Option, Some, None, refl, sym, ◌∙◌, inl, inr, ◌⊎◌, lit≤, arith}
use Rattle.std.specs.Prelude.{slice_get, min, max, if◌then◌else◌}
use Rattle.std.proofs.lemmas.Bool.{ltb-false, ltb-true, cases_order}
use Rattle.std.proofs.lemmas.Bool.Decides.{nat_tests}
use Rattle.std.proofs.lemmas.Option.{slice_get_within}
use Rattle.pt_maps.specs.declared.range.IdRange.{IdRange}
use Rattle.pt_maps.specs.declared.error.MapError.{MapError}
use Rattle.pt_maps.specs.declared.rule.IdRule.{IdRule}
use Rattle.pt_maps.specs.declared.rule.IdRule.TheVariants.{Guest, Host, SquashGuest, SquashHost, ForbidGuest, Map}
use Rattle.pt_maps.specs.declared.rule.Direction.{Direction}
use Rattle.pt_maps.specs.declared.rule.Direction.TheVariants.{ToHost, ToGuest}
use Rattle.pt_maps.specs.Rule.{holds, meets, range_end, source, is_past_end}
use Rattle.pt_maps.specs.Refusal.{overlaps, refusal_behind, refusal_at, AreAccepted, IsFirstRefusal}
use Rattle.pt_maps.proofs.Lists.{any_false_at, slice_get-take, take-take, slice_get-push, take-push, take_all, Old}
use Rattle.pt_maps.proofs.Lists.{New}

-- in numbers: one ends where the other starts, or before
pub record IsClear (one other : IdRange) : Type 0 where
  pub clear : min (range_end one) (range_end other) ≤ max one.start other.start

pub clear_from : (one other : IdRange) → meets one other ≡ false → IsClear one other
clear_from one other h = record { clear = ltb-false _ _ h }

-- what a common id shows
pub record AreMeeting (one other : IdRange) : Type 0 where
  pub meeting : max one.start other.start < min (range_end one) (range_end other)

pub meeting_from : (one other : IdRange) → meets one other ≡ true → AreMeeting one other
meeting_from one other h = record { meeting = ltb-true _ _ h }

pub record IsIn (range : IdRange) (id : ℕ) : Type 0 where
  pub from : range.start ≤ id
  pub before : id < range_end range

pub is_in : (range : IdRange) (id : ℕ) → holds range id ≡ true → IsIn range id
is_in range id h = record { from = grind (arith, nat_tests); before = grind (arith, nat_tests) }

pub not_true : (b : Bool) → (b ≡ true → ⊥) → b ≡ false
not_true true h = absurd (h refl)
not_true false h = refl

pub not_same : (a b : ℕ) → (a < b) ⊎ (b < a) → a ≢ b
not_same a b (inl low) same = omega arith
not_same a b (inr high) same = omega arith

or_false : (a b : Bool) → (a || b) ≡ false → (a ≡ false) × (b ≡ false)
or_false true b h = cc
or_false false b h = (refl, h)

both_false : (a b : Bool) (x y : MapError) → (if a then Some x else (if b then Some y else None)) ≡ None →
    (a ≡ false) × (b ≡ false)
both_false true b x y h = cc
both_false false true x y h = cc
both_false false false x y h = (refl, refl)

-- what is refused for nothing
pub record IsFine (earlier : List IdRule) (rule : IdRule) : Type 0 where
  pub to_host : overlaps ToHost earlier rule ≡ false
  pub to_guest : overlaps ToGuest earlier rule ≡ false
  pub ends : is_past_end rule ≡ false

pub is_fine : (earlier : List IdRule) (rule : IdRule) → refusal_behind earlier rule ≡ None → IsFine earlier rule
is_fine earlier rule none =
    let both = both_false _ _ _ _ none in
    let clear = or_false _ _ both.0 in
    record { to_host = clear.0; to_guest = clear.1; ends = both.1 }

-- nothing refuses the rule at a place
pub accepted_at : (rules : List IdRule) (place : ℕ) (rule : IdRule) → AreAccepted rules →
    slice_get rules place ≡ Some rule →
    IsFine (take place rules) rule
accepted_at rules place rule accepted here = is_fine _ _ (rw here at (accepted place))

-- two rules of which one stands before the other
ordered : (direction : Direction) (rules : List IdRule) (i j : ℕ) (one other : IdRule) → AreAccepted rules → i < j →
    slice_get rules i ≡ Some one → slice_get rules j ≡ Some other →
    meets (source direction other) (source direction one) ≡ false
ordered direction rules i j one other accepted low first second =
    let fine = accepted_at rules j other accepted second in
    let was = slice_get-take rules j i low ∙ first in
    elim direction as (λ way. meets (source way other) (source way one) ≡ false) [
      | ToHost ↦ any_false_at (λ earlier. meets (source ToHost other) (source ToHost earlier)) (take j rules) i one
          fine.to_host was
      | ToGuest ↦ any_false_at (λ earlier. meets (source ToGuest other) (source ToGuest earlier)) (take j rules) i one
          fine.to_guest was
    ]

-- two rules
pub apart : (direction : Direction) (rules : List IdRule) (i j : ℕ) (one other : IdRule) → AreAccepted rules → i ≢ j →
    slice_get rules i ≡ Some one → slice_get rules j ≡ Some other →
    IsClear (source direction one) (source direction other)
apart direction rules i j one other accepted differ first second = elim (cases_order i j) [
  | inl same ↦ absurd (differ same)
  | inr order ↦ elim order [
    | inl low ↦ let h = clear_from _ _ (ordered direction rules i j one other accepted low first second) in
        record { clear = omega arith }
    | inr high ↦ let h = clear_from _ _ (ordered direction rules j i other one accepted high second first) in
        record { clear = omega arith }
  ]
]

-- a source range ends at the number of ids at most
fits : (direction : Direction) (rule : IdRule) → is_past_end rule ≡ false → range_end (source direction rule) ≤ 2 ^ 32
fits ToHost (Guest first target count) h = ltb-false _ _ (or_false _ _ h).0
fits ToHost (SquashGuest first target count) h = ltb-false _ _ (or_false _ _ h).0
fits ToHost (ForbidGuest first count) h = ltb-false _ _ (or_false _ _ h).0
fits ToHost (Map guest host count) h = ltb-false _ _ (or_false _ _ h).0
fits ToHost (Host first target count) h = lit≤ tt
fits ToHost (SquashHost first target count) h = lit≤ tt
fits ToGuest (Host first target count) h = ltb-false _ _ (or_false _ _ h).0
fits ToGuest (SquashHost first target count) h = ltb-false _ _ (or_false _ _ h).0
fits ToGuest (Map guest host count) h = ltb-false _ _ (or_false _ _ (or_false _ _ h).1).0
fits ToGuest (Guest first target count) h = lit≤ tt
fits ToGuest (SquashGuest first target count) h = lit≤ tt
fits ToGuest (ForbidGuest first count) h = lit≤ tt

pub fits_at : (direction : Direction) (rules : List IdRule) (place : ℕ) (rule : IdRule) → AreAccepted rules →
    slice_get rules place ≡ Some rule →
    range_end (source direction rule) ≤ 2 ^ 32
fits_at direction rules place rule accepted here =
    fits direction rule (accepted_at rules place rule accepted here).ends

-- a rule more
accepted_front : (rules : List IdRule) (place earlier : ℕ) → earlier < place →
    refusal_at (take place rules) earlier ≡ refusal_at rules earlier
accepted_front rules place earlier low =
    rw (slice_get-take rules place earlier low, take-take rules place earlier low) refl

refusal_here : (rules : List IdRule) (place : ℕ) (rule : IdRule) → slice_get rules place ≡ Some rule →
    refusal_at rules place ≡ refusal_behind (take place rules) rule
refusal_here rules place rule here = rw here refl

none_here : (rules : List IdRule) (place : ℕ) →
    ((rule : IdRule) → slice_get rules place ≡ Some rule → refusal_behind (take place rules) rule ≡ None) →
    (one : Option IdRule) → slice_get rules place ≡ one → refusal_at rules place ≡ None
none_here rules place fine None here = rw here refl
none_here rules place fine (Some rule) here = rw here (fine rule here)

pub accepted_more : (rules : List IdRule) (rule : IdRule) → AreAccepted rules → refusal_behind rules rule ≡ None →
    AreAccepted (rules ++ rule ∷ [])
accepted_more rules rule accepted fine place =
    none_here (rules ++ rule ∷ []) place (λ one here. elim (slice_get-push rules rule place one here) [
      | Old old ↦
          let within = slice_get_within rules place one old in
          rw (take-push rules rule place (omega arith)) (sym (refusal_here rules place one old) ∙ accepted place)
      | New last same ↦ rw (last, take-push rules rule (length rules) (omega arith), take_all rules, ← same) fine
    ]) _ refl

-- the first refusal comes where all before it were accepted
pub first_refusal : (rules : List IdRule) (place : ℕ) (rule : IdRule) (error : MapError) →
    AreAccepted (take place rules) → slice_get rules place ≡ Some rule →
    refusal_behind (take place rules) rule ≡ Some error → IsFirstRefusal rules error
first_refusal rules place rule error accepted here refused = record {
  place = place;
  refused = refusal_here rules place rule here ∙ refused;
  first = λ earlier low. sym (accepted_front rules place earlier low) ∙ accepted earlier;
}
