-- What a pin that a job holds keeps open.
use Rattle.std.proofs.Common.{◌≡◌, ◌≢◌, ⊎_elim, ℕ, ◌*◌, ◌<◌, List, [], ◌∷◌, sym, ap, subst, ◌∙◌, arith, Some}
use Rattle.std.proofs.lemmas.Bool.{cases_eq}
use Rattle.pt_host.specs.Words.{is, total, Takes, Takes.{here, there}}
use Rattle.pt_host.specs.Tree.{Tree, IsOpenOn}
use Rattle.pt_host.specs.declared.ids.Fd.{Fd}
use Rattle.pt_tables.specs.Tables.{Tables}
use Rattle.pt_tables.specs.declared.row.Row.{Row}
use Rattle.pt_tables.specs.declared.row.HandleRow.{HandleRow}
use Rattle.pt_law.specs.World.{fd_of}
use Rattle.pt_frame.specs.declared.hold.Hold.{Hold}
use Rattle.pt_frame.specs.declared.hold.Hold.TheVariants as hold
use Rattle.pt_law.specs.Discipline.{Job}
use Rattle.pt_law.specs.World.{Past}
use Rattle.pt_law.proofs.Flows.{pin_held, handle_pin_held}
use Rattle.pt_law.proofs.Lists.{total_takes, each_taken, is_same, is_apart}
use Rattle.pt_law.proofs.Counting.{Books, part}
use Rattle.pt_law.proofs.Knowing.{RowOpen, HandleOpen, PinRight}
use Rattle.pt_law.proofs.Calls.{Right}

-- a pinned row is there
some_pinned : {R : Type 0} (serial_of pins_of : R → ℕ) (serial : ℕ) (rows : List R) →
    0 < total (λ row. is (serial_of row) serial * pins_of row) rows →
    (row : R) × (others : List R) × Takes row rows others × (serial_of row ≡ serial)
some_pinned serial_of pins_of serial [] h = absurd (omega arith)
some_pinned {R = R} serial_of pins_of serial (row ∷ rows) h =
    ⊎_elim (λ (e : serial_of row ≡ serial).
    (row, rows, here, e)) (other (some_pinned serial_of pins_of serial rows)) (cases_eq (serial_of row) serial)
  where
    other : (0 < total (λ row. is (serial_of row) serial * pins_of row) rows →
        (x : R) × (others : List R) × Takes x rows others × (serial_of x ≡ serial)) → serial_of row ≢ serial →
        (x : R) × (others : List R) × Takes x (row ∷ rows) others × (serial_of x ≡ serial)
    other ih e =
        let a = ap (λ i. i * pins_of row) (is_apart (serial_of row) serial e) in
        let k = ih (omega (arith, h, a)) in
        (k.0, row ∷ k.1, there k.2, k.3)

-- what a held pin's descriptor is open on: the object of its row
pub pinned_row : (bound : ℕ) (tree : Tree) (t : Tables) (past : Past) (js : ℕ →
    Job) (j row : ℕ) (fd : Fd) {rest : List Hold} → j < bound → Books bound t js →
    Right bound tree t.next_row past t.rows t.handles js →
    Takes (hold.Pin row (Some fd)) (js j).holds rest →
    (object : ℕ) × IsOpenOn tree fd object × (past.objects row ≡ Some object)
pinned_row bound tree t past js j row fd lt b v k =
    let x = b.pins row in
    let y = part (pin_held row) js bound j lt in
    let z = total_takes (pin_held row) k in
    let s = is_same row in
    let r = some_pinned (λ (row : Row). row.serial) (λ (row : Row). row.pins) row t.rows (omega (arith, x, y, z, s))
    in
    let o = each_taken (RowOpen tree past) r.2 v.shown in
    let p = each_taken (PinRight t.next_row past.fds) k (v.knows j lt).pins in
    let same : fd_of r.0.form ≡ fd = (let a = ap past.fds (sym r.3) ∙ o.kept_by in let b = p.1 in cc) in
    (o.object, subst (λ f. IsOpenOn tree f o.object) same o.shows.open_on, ap past.objects (sym r.3) ∙ o.placed)

-- the same of a handle's pin
pub pinned_handle : (bound : ℕ) (tree : Tree) (t : Tables) (past : Past) (js : ℕ →
    Job) (j row : ℕ) (fd : Fd) {rest : List Hold} → j < bound → Books bound t js →
    Right bound tree t.next_row past t.rows t.handles js →
    Takes (hold.HandlePin row fd) (js j).holds rest →
    (object : ℕ) × IsOpenOn tree fd object × (past.objects row ≡ Some object)
pinned_handle bound tree t past js j row fd lt b v k =
    let x = b.handle_pins row in
    let y = part (handle_pin_held row) js bound j lt in
    let z = total_takes (handle_pin_held row) k in
    let s = is_same row in
    let r = some_pinned (λ (row : HandleRow). row.serial) (λ (row : HandleRow).
    row.pins) row t.handles (omega (arith, x, y, z, s)) in
    let o = each_taken (HandleOpen tree past) r.2 v.handled in
    let p = each_taken (PinRight t.next_row past.fds) k (v.knows j lt).pins in
    let same : r.0.fd ≡ fd = (let a = ap past.fds (sym r.3) ∙ o.kept_by in let b = p.1 in cc) in
    (o.object, subst (λ f. IsOpenOn tree f o.object) same o.open_on, ap past.objects (sym r.3) ∙ o.placed)
