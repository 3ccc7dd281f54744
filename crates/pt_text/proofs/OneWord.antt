use Rattle.std.proofs.Common.{◌≡◌, ◌<◌, ℕ, ◌+◌, ◌*◌, ◌/◌, ◌%◌, Bool, true, false, cond, not, ◌&&◌, List, [], ◌∷◌}
use Rattle.std.proofs.Common.{◌++◌, Option, Some, None, refl, ap, sym, ◌∙◌, arith}
use Rattle.std.specs.Prelude.{nat_le, ◌==◌}
use Rattle.std.specs.List.{flat_map, AllByRecursion}
use Rattle.std.specs.Char.{digit_char, digit_value}
use Rattle.std.proofs.lemmas.Str.{digit_value-digit_char}
use Rattle.std.proofs.lemmas.Bool.Decides.{nat_tests}
use Rattle.pt_text.specs.ByteWord.{stands_for_itself, escaped, byte_word, is_hex_digit, escape_of, behind, unescaped}
use Rattle.pt_text.specs.ByteWord.{bytes_of}
use Rattle.pt_text.specs.Laws.{HaveOneWord}

-- the digit of a number below 16 is one in lower case
hex_digit_char : (d : ℕ) → d < 16 → is_hex_digit (digit_char d) ≡ true
hex_digit_char d small = grind (arith, nat_tests)

-- and a digit in lower case is that of its value
digit_char_value : (c : ℕ) → is_hex_digit c ≡ true → digit_char (digit_value c) ≡ c
digit_char_value c hex = grind (arith, nat_tests)

digit_value_small : (c : ℕ) → is_hex_digit c ≡ true → digit_value c < 16
digit_value_small c hex = grind (arith, nat_tests)

and_true : (a b : Bool) → (a && b) ≡ true → (a ≡ true) × (b ≡ true)
and_true true b both = (refl, both)
and_true false b both = cc

not_true : (a : Bool) → not a ≡ true → a ≡ false
not_true true is = cc
not_true false is = refl

-- an escape is read as its byte
escape_of-escaped : (b : ℕ) → b < 256 → stands_for_itself b ≡ false →
    escape_of (digit_char (b / 16)) (digit_char (b % 16)) ≡ Some b
escape_of-escaped b small other =
    let high : b / 16 < 16 = omega arith in
    let low : b % 16 < 16 = omega arith in
    let same : 16 * (b / 16) + b % 16 ≡ b = omega arith in
    rw (
      hex_digit_char (b / 16) high,
      hex_digit_char (b % 16) low,
      digit_value-digit_char (b / 16) (omega arith),
      digit_value-digit_char (b % 16) (omega arith),
      same,
      other,
    ) refl

-- and is the one of its byte
escaped-escape_of : (d e b : ℕ) → escape_of d e ≡ Some b → escaped b ≡ 37 ∷ d ∷ e ∷ []
escaped-escape_of d e b is =
    go (is_hex_digit d && (is_hex_digit e && not (stands_for_itself (16 * digit_value d + digit_value e)))) refl is
  where
    go : (t : Bool) → (is_hex_digit d
        && (is_hex_digit e && not (stands_for_itself (16 * digit_value d + digit_value e)))) ≡ t →
        cond t (Some (16 * digit_value d + digit_value e)) None ≡ Some b → escaped b ≡ 37 ∷ d ∷ e ∷ []
    go false holds is = cc
    go true holds is =
        let first = and_true (is_hex_digit d) _ holds in
        let second = and_true (is_hex_digit e) _ first.1 in
        let same : 16 * digit_value d + digit_value e ≡ b = cc in
        let low : digit_value e < 16 = digit_value_small e second.0 in
        let high : b / 16 ≡ digit_value d = omega arith in
        let rest : b % 16 ≡ digit_value e = omega arith in
        let other : stands_for_itself b ≡ false = ap stands_for_itself (sym same) ∙ not_true _ second.1 in
        rw (other, high, rest, digit_char_value d first.0, digit_char_value e second.0) refl

-- a byte that stands for itself is read as itself
unescaped-plain : (c : ℕ) (rest : List ℕ) → stands_for_itself c ≡ true →
    unescaped (c ∷ rest) ≡ behind (Some c) (unescaped rest)
unescaped-plain c [] plain = rw plain refl
unescaped-plain c (d ∷ []) plain = rw plain refl
unescaped-plain c (d ∷ e ∷ rest) plain = rw plain refl

unescaped-escaped : (b : ℕ) (rest : List ℕ) → b < 256 → unescaped (escaped b ++ rest) ≡ behind (Some b) (unescaped rest)
unescaped-escaped b rest small = go (stands_for_itself b) refl
  where
    go : (t : Bool) → stands_for_itself b ≡ t →
        unescaped (cond t (b ∷ []) (37 ∷ digit_char (b / 16) ∷ digit_char (b % 16) ∷ []) ++ rest)
        ≡ behind (Some b) (unescaped rest)
    go true plain = unescaped-plain b rest plain
    go false other = ap (λ (o : Option ℕ). behind o (unescaped rest)) (escape_of-escaped b small other)

unescaped-word : (bytes : List ℕ) → AllByRecursion (λ byte. byte < 256) bytes →
    unescaped (flat_map escaped bytes) ≡ Some bytes
unescaped-word [] small = refl
unescaped-word (b ∷ bs) small =
    unescaped-escaped b (flat_map escaped bs) small.0 ∙ ap (behind (Some b)) (unescaped-word bs small.1)

-- a word that begins with a byte's text is not that of no bytes
bytes_of-escaped : (b : ℕ) (rest : List ℕ) → bytes_of (escaped b ++ rest) ≡ unescaped (escaped b ++ rest)
bytes_of-escaped b rest = go (stands_for_itself b) refl rest
  where
    plain_at : (rest : List ℕ) → (b == 37) ≡ false → bytes_of (b ∷ rest) ≡ unescaped (b ∷ rest)
    plain_at [] other = refl
    plain_at (d ∷ []) other = ap (λ (t : Bool). cond (t && (d == 45)) (Some []) (unescaped (b ∷ d ∷ []))) other
    plain_at (d ∷ e ∷ rest) other = refl

    go : (t : Bool) → stands_for_itself b ≡ t → (rest : List ℕ) →
        bytes_of (cond t (b ∷ []) (37 ∷ digit_char (b / 16) ∷ digit_char (b % 16) ∷ []) ++ rest)
        ≡ unescaped (cond t (b ∷ []) (37 ∷ digit_char (b / 16) ∷ digit_char (b % 16) ∷ []) ++ rest)
    go true plain rest =
        plain_at rest (not_true (b == 37) (and_true (nat_le b 126) _ (and_true (nat_le 33 b) _ plain).1).1)
    go false other rest = refl

read_back : (bytes : List ℕ) → AllByRecursion (λ byte. byte < 256) bytes → bytes_of (byte_word bytes) ≡ Some bytes
read_back [] small = refl
read_back (b ∷ bs) small = bytes_of-escaped b (flat_map escaped bs) ∙ unescaped-word (b ∷ bs) small

-- what is read behind a byte
behind-word : (b : ℕ) (o : Option (List ℕ)) (bytes tail : List ℕ) → behind (Some b) o ≡ Some bytes →
    ((bs : List ℕ) → o ≡ Some bs → tail ≡ flat_map escaped bs) → escaped b ++ tail ≡ flat_map escaped bytes
behind-word b None bytes tail is below = cc
behind-word b (Some bs) bytes tail is below =
    let same : b ∷ bs ≡ bytes = cc in
    ap (λ (text : List ℕ). escaped b ++ text) (below bs refl) ∙ ap (flat_map escaped) same

plain-word : (c : ℕ) (o : Option (List ℕ)) (bytes tail : List ℕ) → stands_for_itself c ≡ true →
    behind (Some c) o ≡ Some bytes → ((bs : List ℕ) → o ≡ Some bs → tail ≡ flat_map escaped bs) →
    c ∷ tail ≡ flat_map escaped bytes
plain-word c o bytes tail plain is below =
    sym (ap (λ (t : Bool). cond t (c ∷ []) (37 ∷ digit_char (c / 16) ∷ digit_char (c % 16) ∷ []) ++ tail) plain)
    ∙ behind-word c o bytes tail is below

word-unescaped : (word bytes : List ℕ) → unescaped word ≡ Some bytes → word ≡ flat_map escaped bytes
word-unescaped [] bytes is = let same : [] ≡ bytes = cc in ap (flat_map escaped) same
word-unescaped (c ∷ []) bytes is = go (stands_for_itself c) refl is
  where
    go : (t : Bool) → stands_for_itself c ≡ t → cond t (Some (c ∷ [])) None ≡ Some bytes →
        c ∷ [] ≡ flat_map escaped bytes
    go true plain is = plain-word c (Some []) bytes [] plain is (λ bs e. let same : [] ≡ bs = cc in
        ap (flat_map escaped) same)
    go false other is = cc
word-unescaped (c ∷ d ∷ []) bytes is = go (λ bs. word-unescaped (d ∷ []) bs) (stands_for_itself c) refl is
  where
    go : ((bs : List ℕ) → unescaped (d ∷ []) ≡ Some bs → d ∷ [] ≡ flat_map escaped bs) → (t : Bool) →
        stands_for_itself c ≡ t → cond t (behind (Some c) (unescaped (d ∷ []))) None ≡ Some bytes →
        c ∷ d ∷ [] ≡ flat_map escaped bytes
    go below true plain is = plain-word c (unescaped (d ∷ [])) bytes (d ∷ []) plain is below
    go below false other is = cc
word-unescaped (c ∷ d ∷ e ∷ rest) bytes is =
    go (λ bs. word-unescaped (d ∷ e ∷ rest) bs) (λ bs. word-unescaped rest bs) (stands_for_itself c) refl is
  where
    escape : ((bs : List ℕ) → unescaped rest ≡ Some bs → rest ≡ flat_map escaped bs) → (o : Option ℕ) →
        escape_of d e ≡ o → behind o (unescaped rest) ≡ Some bytes → 37 ∷ d ∷ e ∷ rest ≡ flat_map escaped bytes
    escape below None none is = cc
    escape below (Some b) some is =
        sym (ap (λ (text : List ℕ). text ++ rest) (escaped-escape_of d e b some))
        ∙ behind-word b (unescaped rest) bytes rest is below

    percent : ((bs : List ℕ) → unescaped rest ≡ Some bs → rest ≡ flat_map escaped bs) → (t : Bool) → (c == 37) ≡ t →
        cond t (behind (escape_of d e) (unescaped rest)) None ≡ Some bytes → c ∷ d ∷ e ∷ rest ≡ flat_map escaped bytes
    percent below true same is = let first : c ≡ 37 = grind (arith, nat_tests) in
        ap (λ (x : ℕ). x ∷ d ∷ e ∷ rest) first ∙ escape below (escape_of d e) refl is
    percent below false other is = cc

    go : ((bs : List ℕ) → unescaped (d ∷ e ∷ rest) ≡ Some bs → d ∷ e ∷ rest ≡ flat_map escaped bs) →
        ((bs : List ℕ) → unescaped rest ≡ Some bs → rest ≡ flat_map escaped bs) →
        (t : Bool) → stands_for_itself c ≡ t →
        cond t (behind (Some c) (unescaped (d ∷ e ∷ rest)))
        (cond (c == 37) (behind (escape_of d e) (unescaped rest)) None) ≡ Some bytes →
        c ∷ d ∷ e ∷ rest ≡ flat_map escaped bytes
    go below behind_it true plain is = plain-word c (unescaped (d ∷ e ∷ rest)) bytes (d ∷ e ∷ rest) plain is below
    go below behind_it false other is = percent behind_it (c == 37) refl is

some_word : (c : ℕ) (word bytes : List ℕ) → c ∷ word ≡ flat_map escaped bytes → c ∷ word ≡ byte_word bytes
some_word c word [] is = cc
some_word c word (b ∷ bs) is = is

one_spelling : (word bytes : List ℕ) → bytes_of word ≡ Some bytes → word ≡ byte_word bytes
one_spelling [] bytes is = cc
one_spelling (c ∷ []) bytes is = some_word c [] bytes (word-unescaped (c ∷ []) bytes is)
one_spelling (c ∷ d ∷ []) bytes is = go ((c == 37) && (d == 45)) refl is
  where
    go : (t : Bool) → ((c == 37) && (d == 45)) ≡ t → cond t (Some []) (unescaped (c ∷ d ∷ [])) ≡ Some bytes →
        c ∷ d ∷ [] ≡ byte_word bytes
    go true both is =
        let parts = and_true (c == 37) (d == 45) both in
        let first = parts.0 in
        let second = parts.1 in
        let same : [] ≡ bytes = cc in
        let percent : c ≡ 37 = grind (arith, nat_tests, first) in
        let dash : d ≡ 45 = grind (arith, nat_tests, second) in
        ap (λ (x : ℕ). x ∷ d ∷ []) percent ∙ ap (λ (x : ℕ). 37 ∷ x ∷ []) dash ∙ ap byte_word same
    go false other is = some_word c (d ∷ []) bytes (word-unescaped (c ∷ d ∷ []) bytes is)
one_spelling (c ∷ d ∷ e ∷ rest) bytes is = some_word c (d ∷ e ∷ rest) bytes (word-unescaped (c ∷ d ∷ e ∷ rest) bytes is)

pub one_word : HaveOneWord
one_word = record { read_back = read_back; one_spelling = one_spelling }
