-- What does not look at the rows of numbers, or at those of handles, stays where these change.
use Rattle.std.proofs.Common.{◌≡◌, inl, inr, ℕ, List, [], ◌∷◌, ap, ◌∙◌}
use Rattle.pt_tables.specs.Tables.{Tables}
use Rattle.pt_tables.specs.declared.row.Row.{Row}
use Rattle.pt_tables.specs.declared.row.HandleRow.{HandleRow}
use Rattle.pt_tables.specs.declared.row.Closing.{Closing}
use Rattle.pt_tables.specs.Rows.{Dies, number_rows, handle_rows}
use Rattle.pt_tables.specs.Happens.{ForgetsOne, ForgetsAll}
use Rattle.pt_tables.proofs.Cases.{GivesPin}

pub record IgnoresRows {X : Type 0} (f : Tables → X) : Type 0 where
  pub changed : (t : Tables) (rows : List Row) → f (record t { rows = rows }) ≡ f t
  pub ended : (t : Tables) (rows : List Row) (closing : List Closing) →
      f (record t { rows = rows; closing = closing }) ≡ f t

pub dies : {X : Type 0} (f : Tables → X) → IgnoresRows f → (t : Tables) (row : Row) (c : ℕ) (after : Tables) →
    Dies number_rows t row c after → f after ≡ f t
dies f i t row c after (inl h) = ap f h.2.2 ∙ i.ended t h.2.0 _
dies f i t row c after (inr h) = ap f h.2.2 ∙ i.changed t h.2.0

pub forgets_one : {X : Type 0} (f : Tables → X) → IgnoresRows f →
    (t : Tables) (number amount c : ℕ) (after : Tables) → ForgetsOne t number amount c after → f after ≡ f t
forgets_one f i t number amount c after (inl h) = ap f h.2
forgets_one f i t number amount c after (inr (row, has, inl h)) = ap f h.2.2 ∙ i.changed t h.2.0
forgets_one f i t number amount c after (inr (row, has, inr h)) = dies f i t row c after h.1

pub forgets_all : {X : Type 0} (f : Tables → X) → IgnoresRows f →
    (t : Tables) (list : List (ℕ × ℕ)) (c : ℕ) (after : Tables) → ForgetsAll t list c after → f after ≡ f t
forgets_all f i t [] c after h = ap f h.1
forgets_all f i t (pair ∷ pairs) c after h =
    forgets_all f i h.0 pairs h.2 after h.4 ∙ forgets_one f i t pair.0 pair.1 h.1 h.0 h.3

pub unpins : {X : Type 0} (f : Tables → X) → IgnoresRows f → (t : Tables) (serial c : ℕ) (after : Tables) →
    GivesPin number_rows t serial c after → f after ≡ f t
unpins f i t serial c after (row, pins, s, p, inl h) = ap f h.3.2 ∙ i.ended t h.3.0 _
unpins f i t serial c after (row, pins, s, p, inr h) = ap f h.2.2 ∙ i.changed t h.2.0

pub record IgnoresHandles {X : Type 0} (f : Tables → X) : Type 0 where
  pub changed : (t : Tables) (handles : List HandleRow) → f (record t { handles = handles }) ≡ f t
  pub ended : (t : Tables) (handles : List HandleRow) (closing : List Closing) →
      f (record t { handles = handles; closing = closing }) ≡ f t

pub handle_dies : {X : Type 0} (f : Tables → X) → IgnoresHandles f →
    (t : Tables) (row : HandleRow) (c : ℕ) (after : Tables) → Dies handle_rows t row c after → f after ≡ f t
handle_dies f i t row c after (inl h) = ap f h.2.2 ∙ i.ended t h.2.0 _
handle_dies f i t row c after (inr h) = ap f h.2.2 ∙ i.changed t h.2.0

pub unpins_handle : {X : Type 0} (f : Tables → X) → IgnoresHandles f → (t : Tables) (serial c : ℕ) (after : Tables) →
    GivesPin handle_rows t serial c after → f after ≡ f t
unpins_handle f i t serial c after (row, pins, s, p, inl h) = ap f h.3.2 ∙ i.ended t h.3.0 _
unpins_handle f i t serial c after (row, pins, s, p, inr h) = ap f h.2.2 ∙ i.changed t h.2.0
