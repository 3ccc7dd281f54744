-- Rules of which some meets every name.
use Rattle.std.proofs.Common.{◌≡◌, ◌==◌, ◌&&◌, ◌||◌, ℕ, Bool, true, false, cond, List, [], ◌∷◌, length, Option, Some}
use Rattle.std.proofs.Common.{None, ◌++◌, refl, arith}
use Rattle.std.specs.Prelude.{find, nat_eq, IsSome, option_map, option_and_then}
use Rattle.std.specs.List.{starts_with, list_any}
use Rattle.std.proofs.lemmas.Bool.{eqb-true}
use Rattle.pt_maps.specs.declared.xattr_rule.XattrRule.{XattrRule}
use Rattle.pt_maps.specs.declared.xattr_rule.Side.{Side}
use Rattle.pt_maps.specs.declared.xattr_rule.Side.TheVariants.{OfClient, OfServer}
use Rattle.pt_maps.specs.NameRules.{NameRule, all_rules, covers, front_of, meets_name, meets_all}
use Rattle.pt_maps.specs.MappedNames.{for_client, for_list, listed_name, listed_names, names_of_list}
use Rattle.pt_maps.specs.Laws.{TerminatedMeetAll}

-- no bytes begin every name
any_front : (front name : List ℕ) → (length front == 0) ≡ true → starts_with nat_eq name front ≡ true
any_front [] name none = refl
any_front (byte ∷ front) name none =
    let empty = eqb-true (length (byte ∷ front)) 0 none in absurd (omega arith)

both : (t u v : Bool) → (u ≡ true → v ≡ true) → (t && u) ≡ true → (t && v) ≡ true
both true u v leads is = leads is
both false u v leads is = is

meets_each : (side : Side) (name : List ℕ) (rule : NameRule) → meets_all side rule ≡ true →
    meets_name side name rule ≡ true
meets_each side name rule is = both (covers rule.scope side) (length (front_of side rule) == 0)
    (starts_with nat_eq name (front_of side rule)) (any_front (front_of side rule) name) is

finds_first : (p : NameRule → Bool) (rule : NameRule) (rules : List NameRule) (t : Bool) → p rule ≡ t →
    (t ≡ false → IsSome (find p rules)) → IsSome (cond t (Some rule) (find p rules))
finds_first p rule rules true is later = refl
finds_first p rule rules false is later = later refl

-- where a rule passes one test, another that it passes then finds something
finds : (p q : NameRule → Bool) → ((rule : NameRule) → p rule ≡ true → q rule ≡ true) → (rules : List NameRule) →
    list_any p rules ≡ true → IsSome (find q rules)
finds p q leads [] any = absurd (cc)
finds p q leads (rule ∷ rules) any = finds_first q rule rules (q rule) refl
    (λ fails. finds p q leads rules (passed_by (p rule) (list_any p rules) any
    (λ passes. let here = leads rule passes in absurd (cc))))
  where
    passed_by : (t u : Bool) → (t || u) ≡ true → (t ≡ true → ⊥) → u ≡ true
    passed_by true u any never = absurd (never refl)
    passed_by false u any never = any

both_true : (t u : Bool) → (t && u) ≡ true → (t ≡ true) × (u ≡ true)
both_true true u is = (refl, is)
both_true false u is = absurd (cc)

mapped_some : {A B : Type 0} (f : A → B) (o : Option A) → IsSome o → IsSome (option_map f o)
mapped_some f None is = is
mapped_some f (Some x) is = refl

joined_some : {A B : Type 0} (f : A → Option B) (o : Option A) → IsSome o → ((x : A) → IsSome (f x)) →
    IsSome (option_and_then f o)
joined_some f None is each = absurd (cc)
joined_some f (Some x) is each = each x

all_listed : (rules : List XattrRule) → ((name : List ℕ) → IsSome (listed_name rules name)) →
    (names : List (List ℕ)) → IsSome (listed_names rules names)
all_listed rules each [] = refl
all_listed rules each (name ∷ names) =
    joined_some (λ one. option_map (λ others. one ++ others) (listed_names rules names)) (listed_name rules name)
    (each name) (λ one. mapped_some (λ others. one ++ others) (listed_names rules names)
    (all_listed rules each names))

pub terminated_meet_all : TerminatedMeetAll
terminated_meet_all rules is =
    let sides = both_true (list_any (meets_all OfClient) (all_rules rules))
    (list_any (meets_all OfServer) (all_rules rules)) is in (
      λ name. mapped_some (λ rule. for_client name rule.kind rule.prepend)
          (find (meets_name OfClient name) (all_rules rules))
          (finds (meets_all OfClient) (meets_name OfClient name) (meets_each OfClient name) (all_rules rules)
          sides.0),
      λ list. all_listed rules (λ name. mapped_some (λ rule. for_list name rule.kind rule.prepend)
          (find (meets_name OfServer name) (all_rules rules))
          (finds (meets_all OfServer) (meets_name OfServer name) (meets_each OfServer name) (all_rules rules)
          sides.1))
          (names_of_list list),
    )
