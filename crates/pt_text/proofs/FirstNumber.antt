-- The number that the first word of a text writes, read digit by digit.
use Rattle.std.proofs.Common.{◌≡◌, ◌≢◌, ℕ, ◌+◌, ◌*◌, ◌-◌, ◌<◌, ◌≤◌, Bool, List, [], ◌∷◌}
use Rattle.std.proofs.Common.{Option, Some, length, get_or, take, drop, refl, ap, sym, arith, ◌∙◌, ◌^◌, add-one}
use Rattle.std.proofs.Common.{take_all}
use Rattle.std.specs.Prelude.{◌==◌}
use Rattle.std.specs.Char.{digit_value}
use Rattle.std.specs.List.{position_or_len}
use Rattle.std.proofs.lemmas.List.{get_or-take, length-take-le}
use Rattle.std.proofs.lemmas.List.Sums.{passes_at_first, fails_before_first}
use Rattle.std.proofs.lemmas.Str.{digit_value_digit}
use Rattle.std.proofs.lemmas.Bool.Decides.{nat_tests}
use Rattle.std.proofs.Math.ListN.{drop_of_length-le}
use Rattle.std.proofs.Math.Nat.{pow-le-pow_right, pow-suc}
use Rattle.pt_text.specs.Number.{numeral_after, number_of}
use Rattle.pt_text.proofs.Numerals.{numeral_after_digit}
use Rattle.pt_text.specs.Words.{parts_of}
use Rattle.std.proofs.lemmas.List.Splits.{slice_split_first}
use Rattle.pt_text.proofs.PartsLemmas.{position_or_len-le, whole_part}

abbrev pub is_space : ℕ → Bool
is_space b = b == 32

-- where the first word of a text ends
abbrev pub word_end : List ℕ → ℕ
word_end text = position_or_len (λ b. b == 32) text

abbrev pub first_word : List ℕ → List ℕ
first_word text = take (word_end text) text

length-first_word : (text : List ℕ) → length (first_word text) ≡ word_end text
length-first_word text = length-take-le (word_end text) text (position_or_len-le is_space text)

-- what is no space stands before the end of the word
pub before_end : (text : List ℕ) (i : ℕ) → i < length text → i ≤ word_end text → get_or text i 0 ≢ 32 →
    i < word_end text
before_end text i within upto other =
    let at : word_end text < length text → get_or text (word_end text) 0 ≡ 32 =
    λ h. grind (arith, nat_tests, passes_at_first is_space text 0 h) in
    grind (arith, at)

-- one digit more
pub first_word_digit : (text : List ℕ) (n i d : ℕ) (whole : Option ℕ) → i < length text → i ≤ word_end text →
    48 ≤ get_or text i 0 → get_or text i 0 ≤ 57 → d ≡ get_or text i 0 - 48 →
    whole ≡ numeral_after 10 n (drop i (first_word text)) →
    whole ≡ numeral_after 10 (n * 10 + d) (drop (i + 1) (first_word text))
first_word_digit text n i d whole within upto low high told is =
    let inside : i < word_end text = before_end text i within upto (λ e. omega (arith, e, low)) in
    let inside' : i < length (first_word text) = rw (length-first_word text) inside in
    let same : get_or (first_word text) i 0 ≡ get_or text i 0 = get_or-take (word_end text) text i 0 inside in
    let value : digit_value (get_or text i 0) + 48 ≡ get_or text i 0 =
    digit_value_digit (get_or text i 0) (low, high) in
    let digit : digit_value (get_or (first_word text) i 0) ≡ d = ap digit_value same ∙ omega (arith, value, told) in
    let small : digit_value (get_or (first_word text) i 0) < 10 = omega (arith, digit, told, low, high) in
    is ∙ numeral_after_digit 10 n i (first_word text) inside' small
    ∙ ap (λ v. numeral_after 10 (n * 10 + v) (drop (i + 1) (first_word text))) digit

-- where the digits end the word does
pub at_word_end : (text : List ℕ) (i : ℕ) → i ≤ word_end text → (i < length text → get_or text i 0 ≡ 32) →
    i ≡ word_end text
at_word_end text i upto ends =
    let inside : i < word_end text → ⊥ =
    λ h. grind (arith, nat_tests, fails_before_first is_space text i 0 h, ends, position_or_len-le is_space text) in
    omega (arith, inside, upto)

-- a word with no needless zero in front writes what its digits do
pub number_of_digits : (word : List ℕ) → 0 < length word → (1 < length word → get_or word 0 0 ≢ 48) →
    number_of word ≡ numeral_after 10 0 word
number_of_digits [] some plain = absurd (omega (arith, some))
number_of_digits (c ∷ []) some plain = refl
number_of_digits (c ∷ d ∷ ds) some plain =
    let other : c ≢ 48 = plain (omega arith) in
    grind (arith, nat_tests, other)

-- a text whose first word is so many digits writes the number that they do
pub first_number_is : (text : List ℕ) (n count : ℕ) → count ≡ word_end text → (count ≡ 0 → ⊥) →
    (1 < count → get_or text 0 0 ≢ 48) →
    numeral_after 10 0 (first_word text) ≡ numeral_after 10 n (drop count (first_word text)) →
    number_of (take count text) ≡ Some n
first_number_is text n count ended some plain is =
    let long : length (first_word text) ≡ count = length-first_word text ∙ sym ended in
    let front : 0 < word_end text → get_or (first_word text) 0 0 ≡ get_or text 0 0 =
    λ h. get_or-take (word_end text) text 0 0 h in
    let other : 1 < length (first_word text) → get_or (first_word text) 0 0 ≢ 48 =
    λ h e. plain (omega (arith, long, h)) (sym (front (omega (arith, long, h, ended))) ∙ e) in
    ap (λ l. number_of (take l text)) ended
    ∙ number_of_digits (first_word text) (omega (arith, long, some)) other ∙ is
    ∙ ap (numeral_after 10 n) (drop_of_length-le (first_word text) (omega (arith, long)))

-- a first word and the others
pub first_and_others : (text : List ℕ) (count : ℕ) → count ≡ word_end text → count < length text →
    parts_of 32 text ≡ take count text ∷ parts_of 32 (drop (count + 1) text)
first_and_others text count ended within =
    let within' : word_end text < length text = omega (arith, ended, within) in
    rw ended (slice_split_first is_space text 0 within')

-- a first word alone
pub first_alone : (text : List ℕ) (count : ℕ) → count ≡ word_end text → length text ≤ count →
    parts_of 32 text ≡ take count text ∷ []
first_alone text count ended over =
    let whole : word_end text ≡ length text = omega (arith, ended, over, position_or_len-le is_space text) in
    whole_part is_space text whole ∙ ap (λ t. t ∷ []) (sym (take_all count text over))

-- few digits write a number of 32 bits
pub few_digits : (n count d : ℕ) → n < 10 ^ count → count < 9 → d < 10 →
    (n * 10 + d < 10 ^ (count + 1)) × (n * 10 + d < 2 ^ 32)
few_digits n count d small few digit =
    let more : 10 ^ (count + 1) ≡ 10 ^ count * 10 = rw add-one (pow-suc 10 count) in
    let bound : 10 ^ (count + 1) ≤ 10 ^ 9 =
    let up : count + 1 ≤ 9 = omega (arith, few) in pow-le-pow_right (omega arith) up in
    let here : n * 10 + d < 10 ^ (count + 1) = omega (arith, small, digit, more) in
    let total : n * 10 + d < 2 ^ 32 = omega (arith, here, bound) in
    (here, total)
