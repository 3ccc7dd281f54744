-- Believed. Bytes as a word: a byte from 0x21 to 0x7e but for `%` stands for itself, and any other is `%` and two
-- lower-case
-- hexadecimal digits. `%-` is the word of no bytes.
use Rattle.std.specs.Prelude.{ℕ, ◌+◌, ◌*◌, ◌/◌, ◌%◌, List, [], ◌∷◌, Bool, Option, Some, None, if◌then◌else◌, nat_le}
use Rattle.std.specs.Prelude.{◌==◌, ◌&&◌, ◌||◌, not}
use Rattle.std.specs.List.{flat_map}
use Rattle.std.specs.Option.{option_map}
use Rattle.std.specs.Char.{digit_char, digit_value}

abbrev pub stands_for_itself : ℕ → Bool
stands_for_itself b = nat_le 33 b && (nat_le b 126 && not (b == 37))

-- one byte as text
abbrev pub escaped : ℕ → List ℕ
escaped b = if stands_for_itself b then b ∷ [] else 37 ∷ digit_char (b / 16) ∷ digit_char (b % 16) ∷ []

-- the word of bytes
abbrev pub byte_word : List ℕ → List ℕ
byte_word [] = 37 ∷ 45 ∷ []
byte_word (b ∷ bs) = flat_map escaped (b ∷ bs)

-- a hexadecimal digit in lower case
abbrev pub is_hex_digit : ℕ → Bool
is_hex_digit c = nat_le 48 c && nat_le c 57 || nat_le 97 c && nat_le c 102

-- the byte of an escape: one that may not stand for itself
abbrev pub escape_of : ℕ → ℕ → Option ℕ
escape_of high low =
    let byte = 16 * digit_value high + digit_value low in
    if is_hex_digit high && (is_hex_digit low && not (stands_for_itself byte)) then Some byte else None

abbrev pub behind : Option ℕ → Option (List ℕ) → Option (List ℕ)
behind None bytes = None
behind (Some byte) bytes = option_map (λ bytes. byte ∷ bytes) bytes

-- the bytes of a text of bytes and escapes
abbrev pub unescaped : List ℕ → Option (List ℕ)
unescaped [] = Some []
unescaped (c ∷ []) = if stands_for_itself c then Some (c ∷ []) else None
unescaped (c ∷ d ∷ []) = if stands_for_itself c then behind (Some c) (unescaped (d ∷ [])) else None
unescaped (c ∷ d ∷ e ∷ rest) =
    if stands_for_itself c then behind (Some c) (unescaped (d ∷ e ∷ rest))
    else (if c == 37 then behind (escape_of d e) (unescaped rest) else None)

-- the bytes that a word writes, which has one spelling alone
abbrev pub bytes_of : List ℕ → Option (List ℕ)
bytes_of [] = None
bytes_of (c ∷ []) = unescaped (c ∷ [])
bytes_of (c ∷ d ∷ []) = if c == 37 && d == 45 then Some [] else unescaped (c ∷ d ∷ [])
bytes_of (c ∷ d ∷ e ∷ rest) = unescaped (c ∷ d ∷ e ∷ rest)
