-- Proof. A column that is a number has ASCII alone, so it is read as a text.
use Rattle.std.proofs.Common.{◌≡◌, ◌<◌, ℕ, zero, suc, Bool, true, false, cond, List, [], ◌∷◌, refl, sym, drop, get_or}
use Rattle.std.proofs.Common.{subst}
use Rattle.std.proofs.Common.{lit<}
use Rattle.std.specs.Prelude.{◌==◌}
use Rattle.std.specs.Str.{IsUtf8}
use Rattle.std.specs.Str.Parse.{AllDigits, without_leading_plus}
use Rattle.std.proofs.lemmas.Str.{IsUtf8-from_ascii}
use Rattle.std.proofs.lemmas.Bool.{eqb-true}
use Rattle.std.proofs.lemmas.Fmt.{IsAscii-from_digits}
use Rattle.pt_handles.specs.MountInfo.{IsId}

with_plus : (c : ℕ) (rest : List ℕ) (b : Bool) → (c == 43) ≡ b → AllDigits 10 (drop (cond b 1 0) (c ∷ rest)) →
    (i : ℕ) → get_or (c ∷ rest) i 0 < 128
with_plus c rest false other all i = IsAscii-from_digits (c ∷ rest) all i
with_plus c rest true plus all zero = subst (λ (n : ℕ). n < 128) (sym (eqb-true c 43 plus)) (lit< tt)
with_plus c rest true plus all (suc i) = IsAscii-from_digits rest all i

numeral_small : (column : List ℕ) → AllDigits 10 (without_leading_plus column) → (i : ℕ) → get_or column i 0 < 128
numeral_small [] all i = IsAscii-from_digits [] tt i
numeral_small (c ∷ rest) all i = with_plus c rest (c == 43) refl all i

pub id_is_text : (column : List ℕ) (id : ℕ) → IsId column id → IsUtf8 column
id_is_text column id is = IsUtf8-from_ascii column (numeral_small column is.digits.1)
