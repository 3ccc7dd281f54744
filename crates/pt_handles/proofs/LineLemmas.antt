-- Proof. The lines of a text, one after another.
use Rattle.std.proofs.Common.{◌≡◌, ◌≤◌, ◌+◌, ℕ, zero, suc, List, [], ◌∷◌, Option, Some, None, refl}
use Rattle.std.proofs.Common.{ap}
use Rattle.std.proofs.Common.{length, take, drop, arith}
use Rattle.std.specs.Prelude.{Bool, ◌==◌, position}
use Rattle.std.proofs.lemmas.List.{length-drop}
use Rattle.pt_handles.specs.MountInfo.{lines_by, lines_within, lines_of}
use Rattle.pt_handles.proofs.Places.{found}

abbrev pub is_end : ℕ → Bool
is_end byte = byte == 10

-- a line is parted from those behind it
pub lines_step : (most : ℕ) (text : List ℕ) (end : ℕ) → position is_end text ≡ Some end → length text ≤ most →
    (more : ℕ) × (lines_within most text ≡ take end text ∷ lines_within more (drop (end + 1) text))
    × (length (drop (end + 1) text) ≤ more)
unfolding lines_within
lines_step zero text end is enough = absurd (omega (arith, enough, (found is_end text end is).1))
lines_step (suc most) text end is enough =
    let at = (found is_end text end is).1 in (
      most,
      ap (λ (o : Option ℕ). lines_by (lines_within most) o text) is,
      omega (arith, enough, at, length-drop (end + 1) text),
    )

-- the last line
pub last_line : (most : ℕ) (text : List ℕ) → position is_end text ≡ None → lines_within most text ≡ text ∷ []
unfolding lines_within
last_line zero text is = refl
last_line (suc most) text is = ap (λ (o : Option ℕ). lines_by (lines_within most) o text) is

pub lines_are : (text : List ℕ) → lines_of text ≡ lines_within (length text) text
unfolding lines_of
lines_are text = refl
