-- The names of a list, told one after another.
use Rattle.std.proofs.Common.{◌≡◌, ℕ, zero, suc, ◌+◌, ◌<◌, ◌≤◌, List, [], ◌∷◌, ◌++◌, length, take, drop, get_or, map}
use Rattle.std.proofs.Common.{Option, Some, None, refl, sym, ap, ◌∙◌, append-nil, append_assoc}
use Rattle.std.specs.Prelude.{option_map, option_and_then}
use Rattle.std.specs.Borrow.{Bor}
use Rattle.std.proofs.lemmas.List.{take_more, take_all, take-append-drop}
use Rattle.pt_maps.specs.declared.xattr_rule.XattrRule.{XattrRule}
use Rattle.pt_maps.specs.MappedNames.{listed_name, listed_names}

alone : (last : Option (List ℕ)) →
    option_and_then (λ one. option_map (λ others. one ++ others) (Some [])) last ≡ option_map (λ one. [] ++ one) last
alone None = refl
alone (Some one) = ap (λ names. Some names) (append-nil one)

behind : (one : List ℕ) (front last : Option (List ℕ)) →
    option_map (λ others. one ++ others) (option_and_then (λ before. option_map (λ name. before ++ name) last) front)
    ≡ option_and_then (λ before. option_map (λ name. before ++ name) last)
    (option_map (λ others. one ++ others) front)
behind one None last = refl
behind one (Some before) None = refl
behind one (Some before) (Some name) = ap (λ names. Some names) (sym (append_assoc one before name))

first_and_behind : (first front last : Option (List ℕ)) →
    option_and_then (λ one. option_map (λ others. one ++ others)
    (option_and_then (λ before. option_map (λ name. before ++ name) last) front)) first
    ≡ option_and_then (λ before. option_map (λ name. before ++ name) last)
    (option_and_then (λ one. option_map (λ others. one ++ others) front) first)
first_and_behind None front last = refl
first_and_behind (Some one) front last = behind one front last

-- a name more
listed_on : (rules : List XattrRule) (front : List (List ℕ)) (name : List ℕ) →
    listed_names rules (front ++ name ∷ [])
    ≡ option_and_then (λ before. option_map (λ one. before ++ one) (listed_name rules name))
    (listed_names rules front)
listed_on rules [] name = alone (listed_name rules name)
listed_on rules (first ∷ front) name =
    ap (λ rest. option_and_then (λ one. option_map (λ others. one ++ others) rest) (listed_name rules first))
    (listed_on rules front name)
    ∙ first_and_behind (listed_name rules first) (listed_names rules front) (listed_name rules name)

none_on : (first front rest : Option (List ℕ)) → (front ≡ None → rest ≡ None) →
    option_and_then (λ one. option_map (λ others. one ++ others) front) first ≡ None →
    option_and_then (λ one. option_map (λ others. one ++ others) rest) first ≡ None
none_on None front rest later none = refl
none_on (Some one) None rest later none = ap (λ r. option_map (λ others. one ++ others) r) (later refl)
none_on (Some one) (Some before) rest later none = absurd (cc)

-- where a name at the front meets no rule, nothing is told
none_front : (rules : List XattrRule) (front back : List (List ℕ)) → listed_names rules front ≡ None →
    listed_names rules (front ++ back) ≡ None
none_front rules [] back none = absurd (cc)
none_front rules (first ∷ front) back none =
    none_on (listed_name rules first) (listed_names rules front) (listed_names rules (front ++ back))
    (none_front rules front back) none

module _ (rules : List XattrRule) (names : List (List ℕ)) (place : ℕ) (name kept : List ℕ) where
  pub listed_next : place < length names → listed_names rules (take place names) ≡ Some kept →
      listed_names rules (take (place + 1) names)
      ≡ option_map (λ one. kept ++ one) (listed_name rules (get_or names place name))
  listed_next within before =
      ap (λ front. listed_names rules front) (take_more names place name within)
      ∙ listed_on rules (take place names) (get_or names place name)
      ∙ ap (λ told. option_and_then
      (λ front. option_map (λ one. front ++ one) (listed_name rules (get_or names place name))) told) before

  pub unmet_here : place < length names → listed_names rules (take place names) ≡ Some kept →
      listed_name rules (get_or names place name) ≡ None → listed_names rules names ≡ None
  unmet_here within before none =
      ap (λ all. listed_names rules all) (sym (take-append-drop (place + 1) names))
      ∙ none_front rules (take (place + 1) names) (drop (place + 1) names)
      (listed_next within before ∙ ap (λ told. option_map (λ one. kept ++ one) told) none)

  pub listed_whole : length names ≤ place → listed_names rules (take place names) ≡ Some kept →
      listed_names rules names ≡ Some kept
  listed_whole past told = ap (λ all. listed_names rules all) (sym (take_all place names past)) ∙ told

-- the names behind their references
abbrev pub texts : List (Bor (List ℕ)) → List (List ℕ)
texts items = map (λ name. name.now) items

pub text_at : (items : List (Bor (List ℕ))) (place : ℕ) (none : Bor (List ℕ)) →
    (get_or items place none).now ≡ get_or (texts items) place none.now
text_at [] place none = refl
text_at (name ∷ items) zero none = refl
text_at (name ∷ items) (suc place) none = text_at items place none
