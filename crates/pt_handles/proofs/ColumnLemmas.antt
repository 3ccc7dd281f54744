-- Proof. The first column of a line, byte by byte.
use Rattle.std.proofs.Common.{◌≡◌, ◌<◌, ◌+◌, ◌∙◌, ℕ, zero, suc, List, [], ◌∷◌, ◌++◌, Option, Some, None}
use Rattle.std.proofs.Common.{refl, sym, ap, length, take, drop, arith, get_or, append_assoc}
use Rattle.std.proofs.Math.Seq.{take-add}
use Rattle.std.proofs.lemmas.List.{append-nil, drop-drop, drop_more}
use Rattle.pt_handles.specs.MountInfo.{Cut, white_size, column_on, first_column}
use Rattle.pt_handles.specs.Columns.{passed}

goes_on : (byte : ℕ) (bytes : List ℕ) → white_size (byte ∷ bytes) ≡ 0 →
    first_column (byte ∷ bytes) ≡ passed (byte ∷ []) (first_column bytes)
unfolding first_column
goes_on byte bytes none = ap (λ (n : ℕ). column_on n byte bytes (first_column bytes)) none

abbrev pub cut : List ℕ → Option (List ℕ) → Cut
cut front rest = record { front = front; rest = rest }

ends_here : (byte : ℕ) (bytes : List ℕ) (more : ℕ) → white_size (byte ∷ bytes) ≡ suc more →
    first_column (byte ∷ bytes) ≡ cut [] (Some (drop more bytes))
unfolding first_column
ends_here byte bytes more some = ap (λ (n : ℕ). column_on n byte bytes (first_column bytes)) some

empty_column : first_column [] ≡ cut [] None
unfolding first_column
empty_column = refl

-- the line up to a place was passed
pub one_passed : (line : List ℕ) (place : ℕ) → place < length line → white_size (drop place line) ≡ 0 →
    first_column line ≡ passed (take place line) (first_column (drop place line)) →
    first_column line ≡ passed (take (place + 1) line) (first_column (drop (place + 1) line))
one_passed line place within none so =
    let byte = get_or line place 0 in
    let rest = drop (place + 1) line in
    let later = first_column rest in
    let parted : drop place line ≡ byte ∷ rest = drop_more line place 0 within in
    let step : first_column (drop place line) ≡ passed (byte ∷ []) later =
    ap first_column parted ∙ goes_on byte rest (ap white_size (sym parted) ∙ none)
    in
    let front : take (place + 1) line ≡ take place line ++ byte ∷ [] =
    take-add place 1 line ∙ ap (λ (l : List ℕ). take place line ++ take 1 l) parted
    in
    so ∙ ap (λ (c : Cut). passed (take place line) c) step
    ∙ ap (λ (l : List ℕ). cut l later.rest)
    (sym (append_assoc (take place line) (byte ∷ []) later.front) ∙ ap (λ (l : List ℕ). l ++ later.front) (sym front))

-- white space stands behind it
pub cut_here : (line : List ℕ) (place size : ℕ) → place < length line → white_size (drop place line) ≡ size →
    0 < size → first_column line ≡ passed (take place line) (first_column (drop place line)) →
    first_column line ≡ cut (take place line) (Some (drop (place + size) line))
cut_here line place zero within is some so = absurd (omega (arith, some))
cut_here line place (suc more) within is some so =
    let byte = get_or line place 0 in
    let rest = drop (place + 1) line in
    let parted : drop place line ≡ byte ∷ rest = drop_more line place 0 within in
    let step : first_column (drop place line) ≡ cut [] (Some (drop more rest)) =
    ap first_column parted ∙ ends_here byte rest more (ap white_size (sym parted) ∙ is)
    in
    let behind : drop more rest ≡ drop (place + suc more) line =
    drop-drop more (place + 1) line ∙ ap (λ (n : ℕ). drop n line) (omega arith)
    in
    so ∙ ap (λ (c : Cut). passed (take place line) c) step
    ∙ ap (λ (l : List ℕ). cut l (Some (drop more rest))) (append-nil (take place line))
    ∙ ap (λ (l : List ℕ). cut (take place line) (Some l)) behind

-- all of it was passed
pub whole_passed : (line : List ℕ) (place : ℕ) → drop place line ≡ [] → take place line ≡ line →
    first_column line ≡ passed (take place line) (first_column (drop place line)) → first_column line ≡ cut line None
whole_passed line place none all so =
    so ∙ ap (λ (c : Cut). passed (take place line) c) (ap first_column none ∙ empty_column)
    ∙ ap (λ (l : List ℕ). cut l None) (append-nil (take place line) ∙ all)
