-- Proof. Names with what stands under them, as a map keeps them, against the same as contracts see it.
use Rattle.std.proofs.Common.{◌≡◌, ℕ, Bool, true, false, cond, List, [], ◌∷◌, None, map, refl, ap, sym, Vec, ◌∙◌}
use Rattle.std.specs.declared.alloc.Global.{Global}
use Rattle.std.specs.List.{AllByRecursion}
use Rattle.std.specs.List.Sorted.{IsStrictlySortedBy}
use Rattle.std.specs.Map.{keys_of, lookup, remove_entry, set_value}
use Rattle.std.specs.Option.{is_some}
use Rattle.std.specs.Str.{bytes_eq}
use Rattle.std.specs.Ordering.{is_eq, nat_cmp, match_ordering}
use Rattle.std.specs.declared.cmp.Ordering.{Ordering}
use Rattle.std.specs.declared.cmp.Ordering.TheVariants.{Less, Equal, Greater}
use Rattle.std.specs.Cmp.Lexicographic.{slice_cmp}
use Rattle.std.specs.BTreeMap.{insert_entry, is_at}
use Rattle.std.proofs.lemmas.Bool.{false≢true}
use Rattle.std.proofs.lemmas.Cmp.{nat_list_cmp_total}
use Rattle.std.proofs.lemmas.Map.Entries.{lookup_tail}
use Rattle.std.proofs.lemmas.Map.Keys.{sorted_head, sorted_tail}
use Rattle.std.proofs.lemmas.Map.Text.{is_eq-slice_cmp}

abbrev pub seen : {X : Type 0} → List (Vec ℕ Global × X) → List (List ℕ × X)
seen entries = map (λ entry. (entry.0.items, entry.1)) entries

pub found-seen : {X : Type 0} (name : List ℕ) (entries : List (Vec ℕ Global × X)) →
    lookup (is_at (λ key. slice_cmp nat_cmp name key.items)) entries ≡ lookup (bytes_eq name) (seen entries)
found-seen name [] = refl
found-seen name (entry ∷ entries) = cc (is_eq-slice_cmp name entry.0.items, found-seen name entries)

pub seen_ordering : {X : Type 0} (o : Ordering) (a b c : List (Vec ℕ Global × X)) →
    seen (match_ordering o a b c) ≡ match_ordering o (seen a) (seen b) (seen c)
seen_ordering Less a b c = refl
seen_ordering Equal a b c = refl
seen_ordering Greater a b c = refl

pub named-seen : {X : Type 0} (key : Vec ℕ Global) (object : X) (entries : List (Vec ℕ Global × X)) →
    seen (insert_entry (λ x y. slice_cmp nat_cmp x.items y.items) entries key object)
    ≡ insert_entry (slice_cmp nat_cmp) (seen entries) key.items object
named-seen key object [] = refl
named-seen key object (entry ∷ entries) =
    seen_ordering (slice_cmp nat_cmp key.items entry.0.items) ((key, object) ∷ entry ∷ entries) ((entry.0, object)
    ∷ entries) (entry ∷ insert_entry (λ x y. slice_cmp nat_cmp x.items y.items) entries key object)
    ∙ ap (λ more. match_ordering (slice_cmp nat_cmp key.items entry.0.items) ((key.items, object)
    ∷ seen (entry ∷ entries)) ((entry.0.items, object) ∷ seen entries) ((entry.0.items, entry.1) ∷ more))
    (named-seen key object entries)

seen_where : {X : Type 0} (b : Bool) (more less : List (Vec ℕ Global × X)) (entry : Vec ℕ Global × X) →
    seen (cond b more (entry ∷ less)) ≡ cond b (seen more) ((entry.0.items, entry.1) ∷ seen less)
seen_where true more less entry = refl
seen_where false more less entry = refl

pub unnamed-seen : {X : Type 0} (name : List ℕ) (entries : List (Vec ℕ Global × X)) →
    seen (remove_entry (is_at (λ key. slice_cmp nat_cmp name key.items)) entries)
    ≡ remove_entry (bytes_eq name) (seen entries)
unnamed-seen name [] = refl
unnamed-seen name (entry ∷ entries) =
    seen_where (is_at (λ key. slice_cmp nat_cmp name key.items) entry.0) entries
    (remove_entry (is_at (λ key. slice_cmp nat_cmp name key.items)) entries) entry
    ∙ cc (is_eq-slice_cmp name entry.0.items, unnamed-seen name entries)

-- ---- a name that is there is led elsewhere in its place

abbrev is_name : List ℕ → Vec ℕ Global → Bool
is_name name = is_at (λ (key : Vec ℕ Global). slice_cmp nat_cmp name key.items)

abbrev by_bytes : Vec ℕ Global → Vec ℕ Global → Ordering
by_bytes x y = slice_cmp nat_cmp x.items y.items

none_above : {X : Type 0} (name : List ℕ) (key : Vec ℕ Global) (entries : List (Vec ℕ Global × X)) →
    slice_cmp nat_cmp name key.items ≡ Less →
    AllByRecursion (λ other. by_bytes key other ≡ Less) (keys_of entries) → lookup (is_name name) entries ≡ None
none_above name key [] less above = refl
none_above name key (entry ∷ entries) less above =
    lookup_tail (is_name name) entry entries
    (ap is_eq (nat_list_cmp_total.trans name key.items entry.0.items less above.0))
    ∙ none_above name key entries less above.1

led_at : {X : Type 0} (o : Ordering) (name : List ℕ) (object : X) (entry : Vec ℕ Global
    × X) (entries : List (Vec ℕ Global × X)) →
    slice_cmp nat_cmp name entry.0.items ≡ o → IsStrictlySortedBy by_bytes (keys_of (entry ∷ entries)) →
    is_some (lookup (is_name name) (entry ∷ entries)) ≡ true →
    (is_some (lookup (is_name name) entries) ≡ true →
    seen (set_value (is_name name) entries object) ≡ insert_entry (slice_cmp nat_cmp) (seen entries) name object) →
    seen (cond (is_eq o) ((entry.0, object) ∷ entries) (entry ∷ set_value (is_name name) entries object))
    ≡ match_ordering o ((name, object) ∷ seen (entry ∷ entries)) ((entry.0.items, object) ∷ seen entries)
    ((entry.0.items, entry.1) ∷ insert_entry (slice_cmp nat_cmp) (seen entries) name object)
led_at Less name object entry entries is sorted there later =
    let none = lookup_tail (is_name name) entry entries (ap is_eq is)
    ∙ none_above name entry.0 entries is (sorted_head by_bytes entry.0 (keys_of entries) sorted) in
    absurd (false≢true (sym (ap is_some none) ∙ there))
led_at Equal name object entry entries is sorted there later = refl
led_at Greater name object entry entries is sorted there later =
    ap (λ more. (entry.0.items, entry.1)
    ∷ more) (later (sym (ap is_some (lookup_tail (is_name name) entry entries (ap is_eq is))) ∙ there))

pub led-seen : {X : Type 0} (name : List ℕ) (object : X) (entries : List (Vec ℕ Global × X)) →
    IsStrictlySortedBy (λ (x y : Vec ℕ Global). slice_cmp nat_cmp x.items y.items) (keys_of entries) →
    is_some (lookup (is_at (λ (key : Vec ℕ Global). slice_cmp nat_cmp name key.items)) entries) ≡ true →
    seen (set_value (is_at (λ (key : Vec ℕ Global). slice_cmp nat_cmp name key.items)) entries object)
    ≡ insert_entry (slice_cmp nat_cmp) (seen entries) name object
led-seen name object [] sorted there = absurd (false≢true there)
led-seen name object (entry ∷ entries) sorted there =
    led_at (slice_cmp nat_cmp name entry.0.items) name object entry entries refl sorted there
    (led-seen name object entries (sorted_tail by_bytes entry.0 (keys_of entries) sorted))
