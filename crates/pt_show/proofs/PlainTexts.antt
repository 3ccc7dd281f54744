-- Numbers, bytes and switches are read back.
use Rattle.std.proofs.Common.{◌≡◌, ◌<◌, ◌≤◌, ◌^◌, ℕ, suc, zero, ◌+◌, ◌-◌, ◌*◌, ◌/◌, ◌%◌, ℤ, pos, negsuc, ◌==◌}
use Rattle.std.proofs.Common.{Bool, true, false, cond, ◌&&◌, not, List, [], ◌∷◌, ◌++◌, refl, ap, sym, ◌∙◌, arith}
use Rattle.std.proofs.Common.{nat_le, nat_lt, if◌then◌else◌, pow-suc, decimal}
use Rattle.std.specs.Int.{from_bool}
use Rattle.std.specs.List.{flat_map}
use Rattle.std.specs.Char.{digit_char}
use Rattle.std.specs.Int.Signed.{mag}
use Rattle.std.specs.Fmt.{digit_glyph, digits_onto, digits, signed_decimal}
use Rattle.std.proofs.lemmas.Bool.Decides.{nat_tests}
use Rattle.std.proofs.lemmas.Fmt.{decimal_digit, decimal_step}
use Rattle.pt_text.specs.ByteWord.{stands_for_itself, escaped, byte_word}
use Rattle.pt_show.specs.Texts.{all_digits, signed_digits, number_text, signed_text, bytes_text, switch_text}
use Rattle.pt_show.specs.Laws.{is_separator}
use Rattle.pt_show.proofs.Readers.{Reads, is_plain, words}

-- the number that digits write behind a number
abbrev value_after : ℕ → List ℕ → ℕ
value_after n [] = n
value_after n (c ∷ cs) = value_after (n * 10 + (c - 48)) cs

glyph : (d : ℕ) → d < 10 → digit_glyph false d ≡ 48 + d
glyph d small = grind (arith, nat_tests)

eq_zero : (n : ℕ) (t : Bool) → (n == 0) ≡ t → cond t (n ≡ 0) (0 < n)
eq_zero n true e = grind (arith, nat_tests)
eq_zero n false e = grind (arith, nat_tests)

onto-value : (k n : ℕ) (acc : List ℕ) → n < k → value_after 0 (digits_onto k 10 false n acc) ≡ value_after n acc
onto-value zero n acc small = absurd (omega arith)
onto-value (suc k) n acc small =
    go (λ fits. onto-value k (n / 10) (digit_glyph false (n % 10) ∷ acc) fits) (n / 10 == 0)
    (eq_zero (n / 10) (n / 10 == 0) refl)
  where
    last : digit_glyph false (n % 10) - 48 ≡ n % 10
    last = let low : n % 10 < 10 = omega arith in let e = glyph (n % 10) low in omega arith

    go : (n / 10 < k → value_after 0 (digits_onto k 10 false (n / 10) (digit_glyph false (n % 10) ∷ acc))
        ≡ value_after (n / 10) (digit_glyph false (n % 10) ∷ acc)) → (t : Bool) → cond t (n / 10 ≡ 0) (0 < n / 10) →
        value_after 0 (cond t (digit_glyph false (n % 10) ∷ acc) (digits_onto k 10 false (n / 10)
        (digit_glyph false (n % 10) ∷ acc)))
        ≡ value_after n acc
    go below true small' = ap (λ (m : ℕ). value_after m acc) (let e = last in omega arith)
    go below false large =
        below (omega arith)
        ∙ ap (λ (m : ℕ). value_after m acc) (let e = last in omega arith)

abbrev is_digit : ℕ → Bool
is_digit c = nat_le 48 c && nat_lt c 58

abbrev are_digits : List ℕ → Bool
are_digits [] = true
are_digits (c ∷ cs) = is_digit c && are_digits cs

digit : (d : ℕ) → d < 10 → is_digit (48 + d) ≡ true
digit d small = grind (arith, nat_tests)

onto-are_digits : (k n : ℕ) (acc : List ℕ) → are_digits acc ≡ true → are_digits (digits_onto k 10 false n acc) ≡ true
onto-are_digits zero n acc above = above
onto-are_digits (suc k) n acc above = go (onto-are_digits k (n / 10) (digit_glyph false (n % 10) ∷ acc)) (n / 10 == 0)
  where
    more : are_digits (digit_glyph false (n % 10) ∷ acc) ≡ true
    more =
        let low : n % 10 < 10 = omega arith in
        let large : is_digit (48 + n % 10) ≡ true = digit (n % 10) low in
        ap (λ (c : ℕ). is_digit c && are_digits acc) (glyph (n % 10) low)
        ∙ ap (λ (t : Bool). t && are_digits acc) large ∙ above

    go : (are_digits (digit_glyph false (n % 10) ∷ acc) ≡ true →
        are_digits (digits_onto k 10 false (n / 10) (digit_glyph false (n % 10) ∷ acc)) ≡ true) →
        (t : Bool) → are_digits (cond t (digit_glyph false (n % 10) ∷ acc)
        (digits_onto k 10 false (n / 10) (digit_glyph false (n % 10) ∷ acc)))
        ≡ true
    go below true = more
    go below false = below more

pub both_true : (a b : Bool) → (a && b) ≡ true → (a ≡ true) × (b ≡ true)
both_true true b e = (refl, e)
both_true false b e = cc

no_separator : (c : ℕ) → nat_le 33 c ≡ true → is_separator c ≡ false
no_separator c large = grind (arith, nat_tests)

from_above : (c : ℕ) → is_digit c ≡ true → nat_le 33 c ≡ true
from_above c is = let large = (both_true (nat_le 48 c) (nat_lt c 58) is).0 in grind (arith, nat_tests, large)

more_plain : (c : ℕ) (cs : List ℕ) → is_separator c ≡ false → is_plain cs ≡ true → is_plain (c ∷ cs) ≡ true
more_plain c cs e plain = ap (λ (t : Bool). not t && is_plain cs) e ∙ plain

are_digits-plain : (text : List ℕ) → are_digits text ≡ true → is_plain text ≡ true
are_digits-plain [] e = refl
are_digits-plain (c ∷ cs) e =
    let parts = both_true (is_digit c) (are_digits cs) e in
    more_plain c cs (no_separator c (from_above c parts.0)) (are_digits-plain cs parts.1)

-- a number of two digits at least has room for two
room_left : (j n : ℕ) → n < 10 ^ suc j → 0 < n / 10 → 0 < j
room_left zero n h large = absurd (let e : 10 ^ 1 ≡ 10 = refl in omega arith)
room_left (suc j) n h large = omega arith

less : (j n : ℕ) → n < 10 ^ suc j → n / 10 < 10 ^ j
less j n h = let e : 10 ^ suc j ≡ 10 ^ j * 10 = pow-suc 10 j in omega arith

-- enough room for the digits is as good as more
onto-room : (j k n : ℕ) (acc : List ℕ) → 0 < j → n < 10 ^ j → n < k →
    digits_onto j 10 false n acc ≡ digits_onto k 10 false n acc
onto-room zero k n acc some room small = absurd (omega arith)
onto-room (suc j) zero n acc some room small = absurd (omega arith)
onto-room (suc j) (suc k) n acc some room small =
    go (λ large.
    onto-room j k (n / 10) (digit_glyph false (n % 10) ∷ acc) (room_left j n room large) (less j n room)
    (omega arith))
    (n / 10 == 0) (eq_zero (n / 10) (n / 10 == 0) refl)
  where
    go : (0 < n / 10 → digits_onto j 10 false (n / 10) (digit_glyph false (n % 10) ∷ acc)
        ≡ digits_onto k 10 false (n / 10) (digit_glyph false (n % 10) ∷ acc)) → (t : Bool) → cond t (n / 10 ≡ 0)
        (0 < n / 10) →
        cond t (digit_glyph false (n % 10) ∷ acc) (digits_onto j 10 false (n / 10) (digit_glyph false (n % 10) ∷ acc))
        ≡ cond t (digit_glyph false (n % 10) ∷ acc) (digits_onto k 10 false (n / 10)
        (digit_glyph false (n % 10) ∷ acc))
    go below true small' = refl
    go below false large = below large

digits_value : (n : ℕ) → value_after 0 (all_digits n) ≡ n
unfolding all_digits
digits_value n = onto-value (suc n) n [] (omega arith)

digits-are_digits : (n : ℕ) → are_digits (all_digits n) ≡ true
unfolding all_digits
digits-are_digits n = onto-are_digits (suc n) n [] refl

digits-plain : (n : ℕ) → is_plain (all_digits n) ≡ true
digits-plain n = are_digits-plain (all_digits n) (digits-are_digits n)

pub digits_are_decimal : (n : ℕ) → n < 2 ^ 64 → all_digits n ≡ decimal n
unfolding all_digits digits
digits_are_decimal n small = sym (onto-room 64 (suc n) n [] (omega arith) (omega arith) (omega arith))

pub one_digit : (n : ℕ) → n < 10 → all_digits n ≡ (48 + n) ∷ []
one_digit n small = digits_are_decimal n (omega arith) ∙ decimal_digit n small

-- a number's digits are those of its tenth and one more
digits_more : (n : ℕ) → 10 ≤ n → n < 2 ^ 64 → all_digits n ≡ all_digits (n / 10) ++ (48 + n % 10) ∷ []
digits_more n large small =
    digits_are_decimal n small ∙ decimal_step n large small
    ∙ ap (λ (text : List ℕ). text ++ (48 + n % 10) ∷ []) (sym (digits_are_decimal (n / 10) (omega arith)))

pub two_digits : (n : ℕ) → 10 ≤ n → n < 100 → all_digits n ≡ (48 + n / 10) ∷ (48 + n % 10) ∷ []
two_digits n large small = rw (digits_more n large (omega arith), one_digit (n / 10) (omega arith)) refl

pub three_digits : (n : ℕ) → 100 ≤ n → n < 1000 →
    all_digits n ≡ (48 + n / 100) ∷ (48 + n / 10 % 10) ∷ (48 + n % 10) ∷ []
three_digits n large small =
    let high : n / 10 / 10 ≡ n / 100 = omega arith in
    rw (digits_more n (omega arith) (omega arith), two_digits (n / 10) (omega arith) (omega arith), high) refl

pub four_digits : (n : ℕ) → 1000 ≤ n → n < 10000 →
    all_digits n ≡ (48 + n / 1000) ∷ (48 + n / 100 % 10) ∷ (48 + n / 10 % 10) ∷ (48 + n % 10) ∷ []
four_digits n large small =
    let top : n / 10 / 100 ≡ n / 1000 = omega arith in
    let high : n / 10 / 10 ≡ n / 100 = omega arith in
    rw (digits_more n (omega arith) (omega arith), three_digits (n / 10) (omega arith) (omega arith), top, high) refl

pub five_digits : (n : ℕ) → 10000 ≤ n → n < 100000 →
    all_digits n
    ≡ (48 + n / 10000) ∷ (48 + n / 1000 % 10) ∷ (48 + n / 100 % 10) ∷ (48 + n / 10 % 10) ∷ (48 + n % 10) ∷ []
five_digits n large small =
    let top : n / 10 / 1000 ≡ n / 10000 = omega arith in
    let next : n / 10 / 100 ≡ n / 1000 = omega arith in
    let high : n / 10 / 10 ≡ n / 100 = omega arith in
    rw (digits_more n (omega arith) (omega arith), four_digits (n / 10) (omega arith) (omega arith), top, next, high)
    refl

pub signed_digits_are_decimal : (n : ℤ) → mag n < 2 ^ 63 → signed_digits n ≡ signed_decimal n
signed_digits_are_decimal (pos n) small = digits_are_decimal n (omega arith)
signed_digits_are_decimal (negsuc n) small = ap (λ (text : List ℕ). 45 ∷ text)
    (digits_are_decimal (suc n) (omega arith))

pub numbers : Reads number_text
numbers = words all_digits (value_after 0) digits_value digits-plain

-- a sign stands below the digits
abbrev signed_value : List ℕ → ℤ
signed_value [] = pos 0
signed_value (c ∷ cs) = cond (nat_le 48 c) (pos (value_after 0 (c ∷ cs))) (negsuc (value_after 0 cs - 1))

unsigned_value : (text : List ℕ) → are_digits text ≡ true → signed_value text ≡ pos (value_after 0 text)
unsigned_value [] e = refl
unsigned_value (c ∷ cs) e =
    ap (λ (t : Bool). cond t (pos (value_after 0 (c ∷ cs))) (negsuc (value_after 0 cs - 1)))
    (both_true (nat_le 48 c) (nat_lt c 58) (both_true (is_digit c) (are_digits cs) e).0).0

signed_value-digits : (n : ℤ) → signed_value (signed_digits n) ≡ n
signed_value-digits (pos n) = unsigned_value (all_digits n) (digits-are_digits n) ∙ ap pos (digits_value n)
signed_value-digits (negsuc n) =
    ap (λ (m : ℕ). negsuc (m - 1)) (digits_value (suc n)) ∙ ap negsuc (omega arith)

pub signed-plain : (n : ℤ) → is_plain (signed_digits n) ≡ true
signed-plain (pos n) = digits-plain n
signed-plain (negsuc n) = digits-plain (suc n)

pub signed : Reads signed_text
signed = words signed_digits signed_value signed_value-digits signed-plain

-- the first byte, if there is one, stands below the letters
abbrev pub is_low : List ℕ → Bool
is_low [] = true
is_low (c ∷ cs) = nat_lt c 58

digits-low : (text : List ℕ) → are_digits text ≡ true → is_low text ≡ true
digits-low [] e = refl
digits-low (c ∷ cs) e = (both_true (nat_le 48 c) (nat_lt c 58) (both_true (is_digit c) (are_digits cs) e).0).1

pub signed-low : (n : ℤ) → is_low (signed_digits n) ≡ true
signed-low (pos n) = digits-low (all_digits n) (digits-are_digits n)
signed-low (negsuc n) = refl

-- a switch
abbrev switch_of : List ℕ → Bool
switch_of [] = false
switch_of (c ∷ cs) = c == 49

abbrev switch_word : Bool → List ℕ
switch_word on = if on then 49 ∷ [] else 48 ∷ []

switch_of-word : (on : Bool) → switch_of (switch_word on) ≡ on
switch_of-word true = refl
switch_of-word false = refl

-- a switch is a number
pub switch_number : (on : Bool) → number_text (from_bool on) ≡ switch_text on
unfolding all_digits
switch_number true = refl
switch_number false = refl

switch-plain : (on : Bool) → is_plain (switch_word on) ≡ true
switch-plain true = refl
switch-plain false = refl

pub switches : Reads switch_text
switches = words switch_word switch_of switch_of-word switch-plain

-- the value of a digit below `:`, or of a letter
abbrev digit_of : ℕ → ℕ
digit_of c = if nat_lt c 58 then c - 48 else c - 87

digit_of-char : (d : ℕ) → digit_of (digit_char d) ≡ d
digit_of-char d = grind (arith, nat_tests)

char_large : (d : ℕ) → nat_le 33 (digit_char d) ≡ true
char_large d = grind (arith, nat_tests)

-- the bytes that a word writes, if it writes any
abbrev bytes_in : List ℕ → List ℕ
bytes_in [] = []
bytes_in (c ∷ []) = c ∷ []
bytes_in (c ∷ d ∷ []) = if c == 37 then [] else c ∷ d ∷ []
bytes_in (c ∷ d ∷ e ∷ rest) =
    if c == 37 then (16 * digit_of d + digit_of e) ∷ bytes_in rest else c ∷ bytes_in (d ∷ e ∷ rest)

bytes_in-plain : (c : ℕ) (rest : List ℕ) → (c == 37) ≡ false → bytes_in (c ∷ rest) ≡ c ∷ bytes_in rest
bytes_in-plain c [] other = refl
bytes_in-plain c (d ∷ []) other = ap (λ (t : Bool). cond t [] (c ∷ d ∷ [])) other
bytes_in-plain c (d ∷ e ∷ rest) other =
    ap (λ (t : Bool). cond t ((16 * digit_of d + digit_of e) ∷ bytes_in rest) (c ∷ bytes_in (d ∷ e ∷ rest))) other

-- a byte that stands for itself is no percent sign and no separator
itself : (b : ℕ) → stands_for_itself b ≡ true → ((b == 37) ≡ false) × (nat_le 33 b ≡ true)
itself b e = (grind (arith, nat_tests), grind (arith, nat_tests))

abbrev escape : ℕ → List ℕ
escape b = 37 ∷ digit_char (b / 16) ∷ digit_char (b % 16) ∷ []

bytes_in-escaped : (b : ℕ) (rest : List ℕ) → bytes_in (escaped b ++ rest) ≡ b ∷ bytes_in rest
bytes_in-escaped b rest = go (stands_for_itself b) refl
  where
    go : (t : Bool) → stands_for_itself b ≡ t → bytes_in (cond t (b ∷ []) (escape b) ++ rest) ≡ b ∷ bytes_in rest
    go true e = bytes_in-plain b rest (itself b e).0
    go false e =
        let high = digit_of-char (b / 16) in
        let low = digit_of-char (b % 16) in
        ap (λ (n : ℕ). n ∷ bytes_in rest) (omega arith)

bytes_in-word : (bytes : List ℕ) → bytes_in (flat_map escaped bytes) ≡ bytes
bytes_in-word [] = refl
bytes_in-word (b ∷ bs) =
    bytes_in-escaped b (flat_map escaped bs) ∙ ap (λ (bytes : List ℕ). b ∷ bytes) (bytes_in-word bs)

bytes_in-byte_word : (bytes : List ℕ) → bytes_in (byte_word bytes) ≡ bytes
bytes_in-byte_word [] = refl
bytes_in-byte_word (b ∷ bs) = bytes_in-word (b ∷ bs)

append-plain : (one other : List ℕ) → is_plain one ≡ true → is_plain other ≡ true → is_plain (one ++ other) ≡ true
append-plain [] other p q = q
append-plain (c ∷ cs) other p q =
    let parts = both_true (not (is_separator c)) (is_plain cs) p in
    ap (λ (t : Bool). t && is_plain (cs ++ other)) parts.0 ∙ append-plain cs other parts.1 q

escaped-plain : (b : ℕ) → is_plain (escaped b) ≡ true
escaped-plain b = go (stands_for_itself b) refl
  where
    go : (t : Bool) → stands_for_itself b ≡ t → is_plain (cond t (b ∷ []) (escape b)) ≡ true
    go true e = more_plain b [] (no_separator b (itself b e).1) refl
    go false e =
        more_plain (digit_char (b / 16)) (digit_char (b % 16) ∷ []) (no_separator _ (char_large (b / 16)))
        (more_plain (digit_char (b % 16)) [] (no_separator _ (char_large (b % 16))) refl)

word-plain : (bytes : List ℕ) → is_plain (flat_map escaped bytes) ≡ true
word-plain [] = refl
word-plain (b ∷ bs) = append-plain (escaped b) (flat_map escaped bs) (escaped-plain b) (word-plain bs)

byte_word-plain : (bytes : List ℕ) → is_plain (byte_word bytes) ≡ true
byte_word-plain [] = refl
byte_word-plain (b ∷ bs) = word-plain (b ∷ bs)

pub byte_words : Reads bytes_text
byte_words = words byte_word bytes_in bytes_in-byte_word byte_word-plain
