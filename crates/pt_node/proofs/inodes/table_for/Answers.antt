use Rattle.std.proofs.Common.{◌≡◌, ℕ, List, length, Some, position, refl, ap, sym, ◌∙◌, arith}
use Rattle.pt_node.specs.Numbers.{table_in}
use Rattle.pt_node.specs.declared.inodes.NumberTable.{NumberTable}
use Rattle.pt_node.proofs.NumberTables.{is_of, pushed_place, pushed_table}
use Rattle.pt_node.proofs.inodes.table_for.Goals as goal

pub returns-clause-place : goal.returns-clause-place
returns-clause-place c =
    let tables = c.args.tables.now.items in
    let none = ap (position (is_of c.args.dev)) (sym c.deref.ensures.value) ∙ sym c.place_of.ensures
    ∙ c.in_default.is in
    let long : length tables ≡ c.len-place.result = omega (arith, c.len-place.ensures, c.args.tables.now.ok.0) in
    ap (position (is_of c.args.dev)) c.in_ok-push.ensures.items
    ∙ pushed_place c.args.dev tables (record { dev = c.args.dev; numbers = c.in_ok-numbers.numbers }) refl none
    ∙ ap (λ (n : ℕ). Some n) long

pub returns-clause-same : goal.returns-clause-same
returns-clause-same c = λ other.
    ap (λ (ts : List NumberTable). table_in ts other) c.in_ok-push.ensures.items
    ∙ pushed_table c.args.tables.now.items c.args.dev c.in_ok-numbers.numbers c.in_ok-numbers.ensures other
