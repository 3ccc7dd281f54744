-- How many slots rows hold.
use Rattle.std.proofs.Common.{◌≡◌, ◌==◌, ◌&&◌, ℕ, ◌+◌, List, [], ◌∷◌, Bool, cond, refl, ap, arith}
use Rattle.std.proofs.lemmas.List.Sums.{sum_by-cons}
use Rattle.pt_rows.specs.Rows.{of_class}
use Rattle.pt_tables.specs.Tables.{Row}
use Rattle.pt_tables.specs.Rows.{number_rows}
use Rattle.pt_tables.specs.declared.form.RowForm.{RowForm}
use Rattle.pt_tables.specs.declared.form.RowForm.TheVariants.{File}
use Rattle.pt_tables.specs.Pending.{holds_slot, row_slots}

form_holds : (form : RowForm) (counts : Bool) → (holds_slot form && counts) ≡ counts
form_holds (File fd) counts = refl

-- each row is in file form
pub rows_hold : (class : ℕ) (rows : List Row) → row_slots class rows ≡ of_class number_rows.keyed class rows
rows_hold class [] = refl
rows_hold class (row ∷ rows) =
    let a = sum_by-cons (λ (x : Row). cond (holds_slot x.form && (x.class == class)) 1 0) row rows in
    let b = sum_by-cons (λ (x : Row). cond (x.class == class) 1 0) row rows in
    let c = ap {B = ℕ} (λ (x : Bool). cond x 1 0) (form_holds row.form (row.class == class)) in
    let d = rows_hold class rows in omega (arith, a, b, c, d)
