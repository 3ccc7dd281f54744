-- Rules met one after another.
use Rattle.std.proofs.Common.{◌≡◌, ℕ, ◌+◌, ◌<◌, ◌≤◌, Bool, true, false, ◌||◌, cond, List, [], ◌∷◌, ◌++◌, length, take}
use Rattle.std.proofs.Common.{drop, get_or, Option, Some, None, refl, sym, ap, ap₂, ◌∙◌, append-nil}
use Rattle.std.specs.Prelude.{find}
use Rattle.std.specs.Option.{option_or}
use Rattle.std.specs.List.{list_any}
use Rattle.std.proofs.lemmas.List.{take_more, take_all, take-append-drop}
use Rattle.std.proofs.lemmas.List.Concat.{flat_map-append}
use Rattle.std.proofs.lemmas.List.Folds.{find-append, list_any-append}
use Rattle.pt_maps.specs.declared.xattr_rule.XattrRule.{XattrRule}
use Rattle.pt_maps.specs.declared.xattr_rule.RuleKind.TheVariants as kind
use Rattle.pt_maps.specs.declared.xattr_rule.RuleScope.TheVariants as scope
use Rattle.pt_maps.specs.NameRules.{NameRule, name_rule, mapped, rules_of, all_rules}

-- the rule where it is met
abbrev pub if_met : (NameRule → Bool) → NameRule → Option NameRule
if_met p rule = cond (p rule) (Some rule) None

first_of_two : (t u : Bool) (a b : NameRule) →
    option_or (cond t (Some a) None) (cond u (Some b) None) ≡ cond t (Some a) (cond u (Some b) None)
first_of_two true u a b = refl
first_of_two false u a b = refl

first_of_three : (t u v : Bool) (a b c : NameRule) →
    option_or (option_or (cond t (Some a) None) (cond u (Some b) None)) (cond v (Some c) None)
    ≡ cond t (Some a) (cond u (Some b) (cond v (Some c) None))
first_of_three true u v a b c = refl
first_of_three false true v a b c = refl
first_of_three false false v a b c = refl

-- a `map` by its rules
pub map_without_key : (p : NameRule → Bool) (key prepend : List ℕ) → length key ≡ 0 →
    option_or (if_met p (name_rule kind.Prefix scope.All key prepend)) (if_met p (name_rule kind.Bad scope.All [] []))
    ≡ find p (mapped key prepend)
map_without_key p [] prepend none = first_of_two (p (name_rule kind.Prefix scope.All [] prepend))
    (p (name_rule kind.Bad scope.All [] [])) (name_rule kind.Prefix scope.All [] prepend)
    (name_rule kind.Bad scope.All [] [])
map_without_key p (byte ∷ key) prepend none = absurd (cc)

pub map_with_key : (p : NameRule → Bool) (key prepend : List ℕ) → (length key ≡ 0 → ⊥) →
    option_or (option_or (if_met p (name_rule kind.Prefix scope.All key prepend))
    (if_met p (name_rule kind.Bad scope.All prepend key))) (if_met p (name_rule kind.Okay scope.All [] []))
    ≡ find p (mapped key prepend)
map_with_key p [] prepend some = absurd (some refl)
map_with_key p (byte ∷ key) prepend some = first_of_three (p (name_rule kind.Prefix scope.All (byte ∷ key) prepend))
    (p (name_rule kind.Bad scope.All prepend (byte ∷ key))) (p (name_rule kind.Okay scope.All [] []))
    (name_rule kind.Prefix scope.All (byte ∷ key) prepend) (name_rule kind.Bad scope.All prepend (byte ∷ key))
    (name_rule kind.Okay scope.All [] [])

module _ (p : NameRule → Bool) (rules : List XattrRule) (place : ℕ) (one : XattrRule) where
  -- none before this rule is found, so what is found up to it is what it has
  pub found_next : place < length rules → find p (all_rules (take place rules)) ≡ None →
      find p (all_rules (take (place + 1) rules)) ≡ find p (rules_of (get_or rules place one))
  found_next within none =
      ap (λ front. find p (all_rules front)) (take_more rules place one within)
      ∙ ap (λ all. find p all) (flat_map-append rules_of (take place rules) (get_or rules place one ∷ []))
      ∙ find-append p (all_rules (take place rules)) (rules_of (get_or rules place one) ++ [])
      ∙ ap₂ (λ before last. option_or before (find p last)) none (append-nil (rules_of (get_or rules place one)))

  pub found_here : (rule : NameRule) → place < length rules → find p (all_rules (take place rules)) ≡ None →
      find p (rules_of (get_or rules place one)) ≡ Some rule → find p (all_rules rules) ≡ Some rule
  found_here rule within none some =
      ap (λ all. find p (all_rules all)) (sym (take-append-drop (place + 1) rules))
      ∙ ap (λ all. find p all) (flat_map-append rules_of (take (place + 1) rules) (drop (place + 1) rules))
      ∙ find-append p (all_rules (take (place + 1) rules)) (all_rules (drop (place + 1) rules))
      ∙ ap (λ before. option_or before (find p (all_rules (drop (place + 1) rules)))) (found_next within none ∙ some)

  pub found_nowhere : length rules ≤ place → find p (all_rules (take place rules)) ≡ None →
      find p (all_rules rules) ≡ None
  found_nowhere past none = ap (λ all. find p (all_rules all)) (sym (take_all place rules past)) ∙ none

  -- the same of whether there is one
  pub any_next : place < length rules → list_any p (all_rules (take place rules)) ≡ false →
      list_any p (all_rules (take (place + 1) rules)) ≡ list_any p (rules_of (get_or rules place one))
  any_next within none =
      ap (λ front. list_any p (all_rules front)) (take_more rules place one within)
      ∙ ap (λ all. list_any p all) (flat_map-append rules_of (take place rules) (get_or rules place one ∷ []))
      ∙ list_any-append p (all_rules (take place rules)) (rules_of (get_or rules place one) ++ [])
      ∙ ap₂ (λ before last. before || list_any p last) none (append-nil (rules_of (get_or rules place one)))

  pub any_here : place < length rules → list_any p (all_rules (take place rules)) ≡ false →
      list_any p (rules_of (get_or rules place one)) ≡ true → list_any p (all_rules rules) ≡ true
  any_here within none some =
      ap (λ all. list_any p (all_rules all)) (sym (take-append-drop (place + 1) rules))
      ∙ ap (λ all. list_any p all) (flat_map-append rules_of (take (place + 1) rules) (drop (place + 1) rules))
      ∙ list_any-append p (all_rules (take (place + 1) rules)) (all_rules (drop (place + 1) rules))
      ∙ ap (λ before. before || list_any p (all_rules (drop (place + 1) rules))) (any_next within none ∙ some)

  pub any_nowhere : length rules ≤ place → list_any p (all_rules (take place rules)) ≡ false →
      list_any p (all_rules rules) ≡ false
  any_nowhere past none = ap (λ all. list_any p (all_rules all)) (sym (take_all place rules past)) ∙ none
