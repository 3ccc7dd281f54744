use Rattle.std.proofs.Common.{List, get_or, slice_set, ap, sym, ◌∙◌}
use Rattle.std.proofs.lemmas.List.Quantifiers.{position-Some}
use Rattle.std.proofs.lemmas.Option.{slice_get-get_or}
use Rattle.pt_node.specs.Numbers.{table_in}
use Rattle.pt_node.specs.declared.slots.Slot.{Slot}
use Rattle.pt_node.proofs.NumberTables.{freed_at, freed_none, is_of, with_numbers}
use Rattle.pt_node.proofs.inodes.free_number.Goals as goal

pub returns-in-Some : goal.returns-in-Some
returns-in-Some c = λ other.
    let tables = c.args.tables.now in
    let place = c.in-Some.place in
    let table = get_or tables place c.index-tables-place.result in
    let found = sym c.place_of.ensures ∙ c.in-Some.is in
    let within = (position-Some (is_of c.args.dev) tables place table found).0 in
    let there = slice_get-get_or tables place c.index-tables-place.result within in
    ap (λ (numbers : List Slot). table_in (slice_set tables place (with_numbers table numbers)) other) c.close.ensures
    ∙ freed_at c.args.dev c.args.number tables place table found there other

pub returns-in_default : goal.returns-in_default
returns-in_default c =
    λ other. freed_none c.args.dev c.args.number c.args.tables.now (sym c.place_of.ensures ∙ c.in_default.is) other
