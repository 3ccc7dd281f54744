use Rattle.std.proofs.Common.{ℕ, List, Some, ap, sym, ◌∙◌}
use Rattle.std.proofs.lemmas.List.Quantifiers.{position-Some}
use Rattle.std.proofs.lemmas.Option.{slice_get-get_or}
use Rattle.pt_host.specs.Words.{set_at}
use Rattle.pt_node.specs.Numbers.{having, table_in}
use Rattle.pt_node.specs.Slots.{least_free, put_at}
use Rattle.pt_node.specs.declared.inodes.NumberTable.{NumberTable}
use Rattle.pt_node.specs.declared.slots.OpenFile.{OpenFile}
use Rattle.pt_node.specs.declared.slots.Slot.{Slot}
use Rattle.pt_node.specs.declared.slots.Slot.TheVariants.{Open}
use Rattle.pt_node.specs.Laws.Updates.{same_function}
use Rattle.pt_node.proofs.NumberTables.{given_at, is_of, numbers_at}
use Rattle.pt_node.proofs.inodes.give_number.Goals as goal

pub returns-clause-number : goal.returns-clause-number
returns-clause-number c =
    let tables = c.table_for.new.tables.items in
    let place = c.in_ok-place.place in
    let table = c.index_mut.result.now in
    let found = c.in_ok-place.ensures.place in
    let within = (position-Some (is_of c.args.dev) tables place table found).0 in
    let there = slice_get-get_or tables place table within
    ∙ ap (λ (t : NumberTable). Some t) (sym c.index_mut.ensures.value) in
    c.from.ensures ∙ c.in_ok-number.ensures.fd
    ∙ ap least_free (sym (numbers_at c.args.dev tables place table found there) ∙ c.in_ok-place.ensures.same c.args.dev)

pub returns-clause-tables : goal.returns-clause-tables
returns-clause-tables c = λ other.
    let tables = c.table_for.new.tables.items in
    let dev = c.args.dev in
    let place = c.in_ok-place.place in
    let table = c.index_mut.result.now in
    let found = c.in_ok-place.ensures.place in
    let within = (position-Some (is_of dev) tables place table found).0 in
    let there = slice_get-get_or tables place table within
    ∙ ap (λ (t : NumberTable). Some t) (sym c.index_mut.ensures.value) in
    let numbers = sym (numbers_at dev tables place table found there) ∙ c.in_ok-place.ensures.same dev in
    let put = c.in_ok-number.ensures.ok
    ∙ ap (λ (file : OpenFile). put_at c.in_ok-number.number.0 (Open file) table.numbers) c.having.ensures
    ∙ ap (λ (n : ℕ). put_at n (Open (having c.args.object)) table.numbers) (sym c.from.ensures)
    ∙ ap (put_at c.from.result (Open (having c.args.object))) numbers in
    given_at dev tables place table c.open.new.self found there other
    ∙ ap (λ (ns : List Slot). set_at dev ns (table_in tables) other) put
    ∙ ap (λ (ts : ℕ → List Slot).
    set_at dev (put_at c.from.result (Open (having c.args.object)) (table_in c.args.tables.now.items dev)) ts other)
    (same_function _ _ c.in_ok-place.ensures.same)
