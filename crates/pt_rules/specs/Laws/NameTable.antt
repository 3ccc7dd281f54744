-- Proof. Entries in the order of their names, as those of a directory and extended attributes, after one is led elsewhere
-- or taken away.
use Rattle.std.proofs.Common.{◌≡◌, ℕ, Bool, true, false, cond, List, [], ◌∷◌, Option, Some, None, refl, ap, sym, ◌∙◌}
use Rattle.std.proofs.Common.{subst}
use Rattle.std.specs.Cmp.Lexicographic.{slice_cmp}
use Rattle.std.specs.List.{AllByRecursion, IsDistinct}
use Rattle.std.specs.List.Sorted.{IsStrictlySortedBy}
use Rattle.std.specs.BTreeMap.{insert_entry}
use Rattle.std.specs.Map.{keys_of, lookup, remove_entry, update}
use Rattle.std.specs.Ordering.{nat_cmp, is_eq, match_ordering, ordering_reverse}
use Rattle.std.specs.Str.{bytes_eq}
use Rattle.std.specs.declared.cmp.Ordering.{Ordering}
use Rattle.std.specs.declared.cmp.Ordering.TheVariants.{Less, Equal, Greater}
use Rattle.std.proofs.lemmas.Cmp.{nat_list_eq_equiv, nat_list_cmp_total}
use Rattle.std.proofs.lemmas.Map.{lookup-remove_entry}
use Rattle.std.proofs.lemmas.Map.Keys.{IsDistinct-from_sorted}
use Rattle.std.proofs.lemmas.Map.Text.{is_eq-slice_cmp}
use Rattle.pt_rules.specs.Sound.{AreOrdered}

abbrev found : {A : Type 0} → List ℕ → List (List ℕ × A) → Option A
found name entries = lookup (bytes_eq name) entries

abbrev named : {A : Type 0} → List ℕ → A → List (List ℕ × A) → List (List ℕ × A)
named name value entries = insert_entry (slice_cmp nat_cmp) entries name value

abbrev unnamed : {A : Type 0} → List ℕ → List (List ℕ × A) → List (List ℕ × A)
unnamed name entries = remove_entry (bytes_eq name) entries

-- ---- led elsewhere

twice : {A : Type 0} (b : Bool) (x y z : A) → cond b x z ≡ cond b x (cond b y z)
twice true x y z = refl
twice false x y z = refl

swapped : {A : Type 0} (b c : Bool) (x y z : A) → (b ≡ true → c ≡ true → ⊥) →
    cond b x (cond c y z) ≡ cond c y (cond b x z)
swapped true true x y z apart = absurd (apart refl refl)
swapped true false x y z apart = refl
swapped false true x y z apart = refl
swapped false false x y z apart = refl

found_at : {A : Type 0} (o : Ordering) (q name : List ℕ) (v : A) (entry : List ℕ × A) (more : List (List ℕ × A)) →
    slice_cmp nat_cmp name entry.0 ≡ o →
    found q (named name v more) ≡ cond (bytes_eq name q) (Some v) (found q more) →
    found q (match_ordering o ((name, v) ∷ entry ∷ more) ((entry.0, v) ∷ more) (entry ∷ named name v more))
    ≡ cond (bytes_eq name q) (Some v) (found q (entry ∷ more))
found_at Less q name v entry more is later =
    ap (λ b. cond b (Some v) (found q (entry ∷ more))) (nat_list_eq_equiv.symm q name)
found_at Equal q name v entry more is later =
    let same : bytes_eq name entry.0 ≡ true = sym (is_eq-slice_cmp name entry.0) ∙ ap is_eq is in
    let test : bytes_eq q entry.0 ≡ bytes_eq name q =
    nat_list_eq_equiv.symm q entry.0 ∙ sym (nat_list_eq_equiv.congr name entry.0 q same) in
    ap (λ b. cond b (Some v) (found q more)) test
    ∙ twice (bytes_eq name q) (Some v) (Some entry.1) (found q more)
    ∙ ap (λ b. cond (bytes_eq name q) (Some v) (cond b (Some entry.1) (found q more))) (sym test)
found_at Greater q name v entry more is later =
    let apart : bytes_eq name entry.0 ≡ false = sym (is_eq-slice_cmp name entry.0) ∙ ap is_eq is in
    ap (cond (bytes_eq q entry.0) (Some entry.1)) later
    ∙ swapped (bytes_eq q entry.0) (bytes_eq name q) (Some entry.1) (Some v) (found q more) (λ one other.
    (let e : bytes_eq name entry.0 ≡ true = nat_list_eq_equiv.congr name q entry.0 other ∙ one in
    let f : true ≡ false = sym e ∙ apart in cc))

pub found-named : {A : Type 0} (q name : List ℕ) (v : A) (names : List (List ℕ × A)) →
    found q (named name v names) ≡ update bytes_eq (λ k. found k names) name (Some v) q
found-named q name v [] = ap (λ b. cond b (Some v) None) (nat_list_eq_equiv.symm q name)
found-named q name v (entry ∷ more) =
    found_at (slice_cmp nat_cmp name entry.0) q name v entry more refl (found-named q name v more)

-- ---- taken away

pub distinct : {A : Type 0} (names : List (List ℕ × A)) → AreOrdered names → IsDistinct bytes_eq (keys_of names)
distinct names ordered =
    subst (λ (eq : List ℕ → List ℕ → Bool). IsDistinct eq (keys_of names)) (λ k a b. is_eq-slice_cmp a b k)
    (IsDistinct-from_sorted (slice_cmp nat_cmp) (keys_of names) ordered)

pub found-unnamed : {A : Type 0} (q name : List ℕ) (names : List (List ℕ × A)) → AreOrdered names →
    found q (unnamed name names) ≡ update bytes_eq (λ k. found k names) name None q
found-unnamed q name names ordered =
    lookup-remove_entry nat_list_eq_equiv (bytes_eq name) (λ x y same.
    nat_list_eq_equiv.congr name x y same) q names (distinct names ordered)

-- ---- the order stays

each_at : {A : Type 0} (P : List ℕ → Type 0) (o : Ordering) (name : List ℕ) (v : A) (entry : List ℕ × A) (more : List (List ℕ × A)) → P name →
    AllByRecursion P (keys_of (entry ∷ more)) → AllByRecursion P (keys_of (named name v more)) →
    AllByRecursion P (keys_of
    (match_ordering o ((name, v) ∷ entry ∷ more) ((entry.0, v) ∷ more) (entry ∷ named name v more)))
each_at P Less name v entry more here each later = (here, each)
each_at P Equal name v entry more here each later = each
each_at P Greater name v entry more here each later = (each.0, later)

each-named : {A : Type 0} (P : List ℕ → Type 0) (name : List ℕ) (v : A) (names : List (List ℕ × A)) → P name →
    AllByRecursion P (keys_of names) → AllByRecursion P (keys_of (named name v names))
each-named P name v [] here each = (here, tt)
each-named P name v (entry ∷ more) here each =
    each_at P (slice_cmp nat_cmp name entry.0) name v entry more here each (each-named P name v more here each.1)

above : (low high : List ℕ) (keys : List (List ℕ)) → slice_cmp nat_cmp low high ≡ Less →
    AllByRecursion (λ k. slice_cmp nat_cmp high k ≡ Less) keys →
    AllByRecursion (λ k. slice_cmp nat_cmp low k ≡ Less) keys
above low high [] less each = tt
above low high (key ∷ keys) less each =
    (nat_list_cmp_total.trans low high key less each.0, above low high keys less each.1)

turned : (a b : List ℕ) → slice_cmp nat_cmp a b ≡ Greater → slice_cmp nat_cmp b a ≡ Less
turned a b greater = nat_list_cmp_total.antisymm b a ∙ ap ordering_reverse greater

ordered_at : {A : Type 0} (o : Ordering) (name : List ℕ) (v : A) (entry : List ℕ × A) (more : List (List ℕ × A)) →
    slice_cmp nat_cmp name entry.0 ≡ o → AreOrdered (entry ∷ more) → AreOrdered (named name v more) →
    AreOrdered (match_ordering o ((name, v) ∷ entry ∷ more) ((entry.0, v) ∷ more) (entry ∷ named name v more))
unfolding IsStrictlySortedBy
ordered_at Less name v entry more is ordered later = ((is, above name entry.0 (keys_of more) is ordered.0), ordered)
ordered_at Equal name v entry more is ordered later = ordered
ordered_at Greater name v entry more is ordered later =
    (each-named (λ k. slice_cmp nat_cmp entry.0 k ≡ Less) name v more (turned name entry.0 is) ordered.0, later)

pub ordered-named : {A : Type 0} (name : List ℕ) (v : A) (names : List (List ℕ × A)) → AreOrdered names →
    AreOrdered (named name v names)
unfolding IsStrictlySortedBy
ordered-named name v [] ordered = (tt, tt)
ordered-named name v (entry ∷ more) ordered =
    ordered_at (slice_cmp nat_cmp name entry.0) name v entry more refl ordered (ordered-named name v more ordered.1)

kept_each : {A : Type 0} (P : List ℕ → Type 0) (b : Bool) (entry : List ℕ × A) (more less : List (List ℕ × A)) →
    AllByRecursion P (keys_of (entry ∷ more)) →
    AllByRecursion P (keys_of less) → AllByRecursion P (keys_of (cond b more (entry ∷ less)))
kept_each P true entry more less each later = each.1
kept_each P false entry more less each later = (each.0, later)

each-unnamed : {A : Type 0} (P : List ℕ → Type 0) (name : List ℕ) (names : List (List ℕ × A)) → AllByRecursion P (keys_of names) →
    AllByRecursion P (keys_of (unnamed name names))
each-unnamed P name [] each = tt
each-unnamed P name (entry ∷ more) each =
    kept_each P (bytes_eq name entry.0) entry more (unnamed name more) each (each-unnamed P name more each.1)

ordered_less : {A : Type 0} (b : Bool) (entry : List ℕ × A) (more less : List (List ℕ × A)) → AreOrdered (entry ∷ more) →
    AreOrdered less →
    AllByRecursion (λ k. slice_cmp nat_cmp entry.0 k ≡ Less) (keys_of less) → AreOrdered (cond b more (entry ∷ less))
unfolding IsStrictlySortedBy
ordered_less true entry more less ordered later each = ordered.1
ordered_less false entry more less ordered later each = (each, later)

pub ordered-unnamed : {A : Type 0} (name : List ℕ) (names : List (List ℕ × A)) → AreOrdered names → AreOrdered (unnamed name names)
unfolding IsStrictlySortedBy
ordered-unnamed name [] ordered = tt
ordered-unnamed name (entry ∷ more) ordered =
    ordered_less (bytes_eq name entry.0) entry more (unnamed name more) ordered (ordered-unnamed name more ordered.1)
    (each-unnamed (λ k. slice_cmp nat_cmp entry.0 k ≡ Less) name more ordered.0)
