use Rattle.std.proofs.Common.{◌≡◌, length, ap, arith}
use Rattle.pt_rows.specs.Rows.{of_class}
use Rattle.pt_tables.specs.Rows.{number_rows}
use Rattle.pt_tables.specs.Store.{Stored}
use Rattle.pt_tables.specs.Pending.{row_slots, handle_slots, closing_slots}
use Rattle.pt_tables.proofs.Slots.{rows_hold}
use Rattle.pt_tables.proofs.store.RowStore.slots.Goals as goal

pub returns : goal.returns
returns c =
    let rows : row_slots c.args.class c.args.self.now.rows
    ≡ of_class number_rows.keyed c.args.class c.args.self.now.rows = rows_hold c.args.class c.args.self.now.rows in
    let numbers : of_class number_rows.keyed c.args.class c.self.inside.numbers
    ≡ of_class number_rows.keyed c.args.class c.args.self.now.rows =
    ap (λ (stored : Stored). of_class number_rows.keyed c.args.class stored.rows) c.self.view_is in
    let handles : handle_slots c.args.class c.self.inside.handles ≡ handle_slots c.args.class c.args.self.now.handles =
    ap (λ (stored : Stored). handle_slots c.args.class stored.handles) c.self.view_is in
    let closing : closing_slots c.args.class c.self.inside.closing.items
    ≡ closing_slots c.args.class c.args.self.now.closing =
    ap (λ (stored : Stored). closing_slots c.args.class stored.closing) c.self.view_is in
    omega (
      arith,
      rows,
      numbers,
      handles,
      closing,
      c.of_class.ensures.same,
      c.of_class-2.ensures.same,
      c.slots_of.ensures.same,
    )
