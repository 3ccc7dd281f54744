-- Tables of counts, one count an object, and how they change.
use Rattle.std.proofs.Common.{◌≡◌, ◌≢◌, ◌<◌, ◌+◌, ◌-◌, inl, inr, ℕ, zero, suc, List, [], ◌∷◌, ◌++◌, length, Some}
use Rattle.std.proofs.Common.{slice_get, slice_set, refl, ap, sym, ◌∙◌, subst, arith, length-set}
use Rattle.std.specs.Prelude.{slice_index}
use Rattle.std.proofs.lemmas.Bool.Decides.{eqb_tells}
use Rattle.std.proofs.lemmas.List.{length_push}
use Rattle.std.proofs.lemmas.Option.{get_or_from_slice_get}
use Rattle.pt_host.specs.Words.{is}
use Rattle.pt_node.specs.Numbers.{lowered, raised}
use Rattle.pt_node.specs.Laws.Updates.{get-push_apart, get-push_here, get-set_apart, get-set_here}
use Rattle.pt_rules.specs.Laws.Held.{is_none, is_one}
use Rattle.pt_store.specs.Kept.{AreCounts}

-- ---- so much at one place, nothing at any other

abbrev pub at : ℕ → ℕ → ℕ → ℕ
at zero zero much = much
at zero (suc place) much = 0
at (suc k) zero much = 0
at (suc k) (suc place) much = at k place much

pub at_same : (k much : ℕ) → at k k much ≡ much
at_same zero much = refl
at_same (suc k) much = at_same k much

pub at_here : (k place much : ℕ) → k ≡ place → at k place much ≡ much
at_here k place much same = ap (λ n. at k n much) (sym same) ∙ at_same k much

pub at_apart : (k place much : ℕ) → k ≢ place → at k place much ≡ 0
at_apart zero zero much apart = absurd (apart refl)
at_apart zero (suc place) much apart = refl
at_apart (suc k) zero much apart = refl
at_apart (suc k) (suc place) much apart = at_apart k place much (λ same. apart (ap (λ n. suc n) same))

pub at_none : (k place : ℕ) → at k place 0 ≡ 0
at_none zero zero = refl
at_none zero (suc place) = refl
at_none (suc k) zero = refl
at_none (suc k) (suc place) = at_none k place

pub is_at_one : (k place : ℕ) → is k place ≡ at k place 1
is_at_one k place = elim (eqb_tells k place) [
  | inl e ↦ is_one k place e.1 ∙ sym (at_here k place 1 e.1)
  | inr apart ↦ is_none k place apart.1 ∙ sym (at_apart k place 1 apart.1)
]

-- ---- tables

pub index_is : (xs : List ℕ) (place value : ℕ) → slice_get xs place ≡ Some value → slice_index xs place ≡ value
index_is xs place value is = get_or_from_slice_get xs place value 0 is

-- one more at a place
abbrev pub once_more : ℕ → List ℕ → List ℕ
once_more place counts = raised place 1 counts

-- the same counts
pub counts_as : (f g : ℕ → ℕ) (n m : ℕ) (xs : List ℕ) → AreCounts f n xs → m ≡ n →
    ((k : ℕ) → k < m → g k ≡ f k) → AreCounts g m xs
counts_as f g n m xs are long same = record {
  long = are.long ∙ sym long;
  each = λ k within. are.each k (subst (λ l. k < l) long within) ∙ ap (λ c. Some c) (sym (same k within));
}

-- another count at one place
pub counts_set : (f g : ℕ → ℕ) (n : ℕ) (xs : List ℕ) (place value : ℕ) → AreCounts f n xs →
    (place < n → g place ≡ value) → ((k : ℕ) → k ≢ place → g k ≡ f k) → AreCounts g n (slice_set xs place value)
counts_set f g n xs place value are here there = record {
  long = length-set xs place value ∙ are.long;
  each = λ k within. elim (eqb_tells k place) [
    | inl e ↦ (let inside : place < n = subst (λ l. l < n) e.1 within in
        let fits : place < length xs = subst (λ l. place < l) (sym are.long) inside in
        ap (slice_get (slice_set xs place value)) e.1 ∙ get-set_here xs place value fits
        ∙ ap (λ c. Some c) (sym (here inside) ∙ ap g (sym e.1)))
    | inr apart ↦ get-set_apart xs place value k apart.1 ∙ are.each k within
        ∙ ap (λ c. Some c) (sym (there k apart.1))
  ];
}

-- so much more at a place, by whatever the table holds there
pub counts_raised : (f : ℕ → ℕ) (n : ℕ) (xs : List ℕ) (place more value : ℕ) → AreCounts f n xs →
    (place < n → value ≡ f place + more) → AreCounts (λ k. f k + at k place more) n (slice_set xs place value)
counts_raised f n xs place more value are is =
    counts_set f (λ k. f k + at k place more) n xs place value are
    (λ within. let raised = is within in let here = at_same place more in omega (arith, raised, here))
    (λ k apart. let none = at_apart k place more apart in omega (arith, none))

pub counts_more : (f : ℕ → ℕ) (n : ℕ) (xs : List ℕ) (place more : ℕ) → AreCounts f n xs →
    AreCounts (λ k. f k + at k place more) n (raised place more xs)
counts_more f n xs place more are =
    counts_raised f n xs place more (slice_index xs place + more) are
    (λ within. let was = index_is xs place (f place) (are.each place within) in omega (arith, was))

-- so much less at a place
pub counts_less : (f : ℕ → ℕ) (n : ℕ) (xs : List ℕ) (place less : ℕ) → AreCounts f n xs →
    AreCounts (λ k. f k - at k place less) n (lowered place less xs)
counts_less f n xs place less are =
    counts_set f (λ k. f k - at k place less) n xs place (slice_index xs place - less) are
    (λ within. let was = index_is xs place (f place) (are.each place within) in let here = at_same place less in
    omega (arith, was, here))
    (λ k apart. let none = at_apart k place less apart in omega (arith, none))

-- one object more
pub counts_pushed : (f g : ℕ → ℕ) (n m : ℕ) (xs : List ℕ) (last : ℕ) → AreCounts f n xs → m ≡ n + 1 →
    g n ≡ last → ((k : ℕ) → k < n → g k ≡ f k) → AreCounts g m (xs ++ last ∷ [])
counts_pushed f g n m xs last are long here same = record {
  long = (let pushed = length_push xs last in let was = are.long in omega (arith, pushed, was, long));
  each = λ k within. elim (eqb_tells k n) [
    | inl e ↦ ap (slice_get (xs ++ last ∷ [])) (e.1 ∙ sym are.long) ∙ get-push_here xs last
        ∙ ap (λ c. Some c) (sym here ∙ ap g (sym e.1))
    | inr apart ↦ (let other = apart.1 in let was = are.long in
        let below : k < n = omega (arith, other, within, long) in
        let not_end : k ≢ length xs = omega (arith, other, was) in
        get-push_apart xs last k not_end ∙ are.each k below ∙ ap (λ c. Some c) (sym (same k below)))
  ];
}
