-- Believed. The words of a line, which one space parts, and the lines of a text, which a line feed parts: what
-- stands behind the
-- last line feed counts as a line, also where it is empty.
use Rattle.std.specs.Prelude.{ℕ, List, [], ◌==◌, Option, Some, None}
use Rattle.std.specs.Borrow.{Bor}
use Rattle.std.specs.List.{slice_split}

abbrev pub parts_of : ℕ → List ℕ → List (List ℕ)
parts_of separator text = slice_split (λ b. b == separator) text

abbrev pub words_of : List ℕ → List (List ℕ)
words_of line = parts_of 32 line

abbrev pub lines_of : List ℕ → List (List ℕ)
lines_of text = parts_of 10 text

-- the parts that are left of what is left of a text
abbrev pub parts_left : ℕ → Option (Bor (List ℕ)) → List (List ℕ)
parts_left separator None = []
parts_left separator (Some text) = parts_of separator text.now
