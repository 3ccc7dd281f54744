-- The names from a place on, by the name that stands there.
use Rattle.std.proofs.Common.{◌≡◌, ◌&&◌, ℕ, zero, suc, Bool, true, false, cond, List, [], ◌∷◌, drop, filter, Some}
use Rattle.std.proofs.Common.{None, Vec}
use Rattle.std.proofs.Common.{option_map, slice_get, refl, ap, sym, ◌∙◌, subst}
use Rattle.std.specs.declared.alloc.Global.{Global}
use Rattle.std.specs.declared.ops.Bound.TheVariants.{Included, Unbounded}
use Rattle.std.specs.declared.cmp.Ordering.{Ordering}
use Rattle.std.specs.declared.cmp.Ordering.TheVariants.{Less}
use Rattle.std.specs.BTreeMap.Range.{range_contains}
use Rattle.std.specs.Cmp.Lexicographic.{slice_cmp}
use Rattle.std.specs.List.{AllByRecursion}
use Rattle.std.specs.List.Sorted.{IsStrictlySortedBy}
use Rattle.std.specs.Map.{keys_of}
use Rattle.std.specs.Ordering.{is_le, nat_cmp, ordering_reverse}
use Rattle.std.proofs.lemmas.Cmp.{nat_list_cmp_total, tied_itself}
use Rattle.std.proofs.lemmas.Map.Keys.{sorted_head, sorted_tail}
use Rattle.std.proofs.lemmas.Option.{same_Some}
use Rattle.pt_node.specs.Laws.NameOrder.{seen}

abbrev pub by_bytes : Vec ℕ Global → Vec ℕ Global → Ordering
by_bytes x y = slice_cmp nat_cmp x.items y.items

module _ {X : Type 0} (key : Vec ℕ Global) where
  abbrev from_key : Vec ℕ Global × X → Bool
  from_key entry = range_contains by_bytes (Included key) Unbounded entry.0

  kept : (entry : Vec ℕ Global × X) (entries : List (Vec ℕ Global × X)) →
      is_le (slice_cmp nat_cmp key.items entry.0.items) ≡ true →
      filter from_key (entry ∷ entries) ≡ entry ∷ filter from_key entries
  kept entry entries is = ap (λ b. cond (b && true) (entry ∷ filter from_key entries) (filter from_key entries)) is

  passed : (entry : Vec ℕ Global × X) (entries : List (Vec ℕ Global × X)) →
      is_le (slice_cmp nat_cmp key.items entry.0.items) ≡ false →
      filter from_key (entry ∷ entries) ≡ filter from_key entries
  passed entry entries is = ap (λ b. cond (b && true) (entry ∷ filter from_key entries) (filter from_key entries)) is

  all_kept : (entries : List (Vec ℕ Global × X)) →
      AllByRecursion (λ other. slice_cmp nat_cmp key.items other.items ≡ Less) (keys_of entries) →
      filter from_key entries ≡ entries
  all_kept [] all = refl
  all_kept (entry ∷ entries) all =
      kept entry entries (ap is_le all.0) ∙ ap (λ more. entry ∷ more) (all_kept entries all.1)

  less_at : (items : List ℕ) (entries : List (Vec ℕ Global × X)) (place : ℕ) →
      AllByRecursion (λ other. slice_cmp nat_cmp items other.items ≡ Less) (keys_of entries) →
      option_map (λ entry. entry.0.items) (slice_get entries place) ≡ Some key.items →
      slice_cmp nat_cmp items key.items ≡ Less
  less_at items [] place all there = cc
  less_at items (entry ∷ entries) zero all there =
      ap (slice_cmp nat_cmp items) (sym (same_Some entry.0.items key.items there)) ∙ all.0
  less_at items (entry ∷ entries) (suc place) all there = less_at items entries place all.1 there

  pub from_place : (entries : List (Vec ℕ Global × X)) (place : ℕ) →
      IsStrictlySortedBy by_bytes (keys_of entries) →
      option_map (λ entry. entry.0.items) (slice_get entries place) ≡ Some key.items →
      seen (filter from_key entries) ≡ drop place (seen entries)
  from_place [] place sorted there = cc
  from_place (entry ∷ entries) zero sorted there =
      let same = same_Some entry.0.items key.items there in
      let equal = ap (slice_cmp nat_cmp key.items) same ∙ tied_itself nat_list_cmp_total key.items in
      let later = subst (λ items. AllByRecursion (λ other. slice_cmp nat_cmp items other.items ≡ Less)
      (keys_of entries)) same (sorted_head by_bytes entry.0 (keys_of entries) sorted) in
      ap seen (kept entry entries (ap is_le equal) ∙ ap (λ more. entry ∷ more) (all_kept entries later))
  from_place (entry ∷ entries) (suc place) sorted there =
      let less = less_at entry.0.items entries place (sorted_head by_bytes entry.0 (keys_of entries) sorted) there in
      let more = nat_list_cmp_total.antisymm key.items entry.0.items ∙ ap ordering_reverse less in
      ap seen (passed entry entries (ap is_le more))
      ∙ from_place entries place (sorted_tail by_bytes entry.0 (keys_of entries) sorted) there

-- a name as code keeps it and as contracts see it
pub seen_at : {X : Type 0} (entries : List (Vec ℕ Global × X)) (place : ℕ) →
    option_map (λ entry. entry.0.items) (slice_get entries place)
    ≡ option_map (λ entry. entry.0) (slice_get (seen entries) place)
seen_at [] place = refl
seen_at (entry ∷ entries) zero = refl
seen_at (entry ∷ entries) (suc place) = seen_at entries place

pub none_from : {X : Type 0} (entries : List (Vec ℕ Global × X)) (place : ℕ) →
    option_map (λ entry. entry.0.items) (slice_get entries place) ≡ None → [] ≡ drop place (seen entries)
none_from [] zero none = refl
none_from [] (suc place) none = refl
none_from (entry ∷ entries) zero none = cc
none_from (entry ∷ entries) (suc place) none = none_from entries place none
