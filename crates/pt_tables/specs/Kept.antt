-- Inner. The tables as they are kept in memory, and what parts of events do to them.
use Rattle.std.specs.Prelude.{◌≡◌, ◌<◌, ◌+◌}
use Rattle.pt_host.specs.declared.ids.ObjIds.{ObjIds}
use Rattle.pt_tables.specs.declared.tables.SessionTables.{SessionTables}
use Rattle.pt_tables.specs.declared.giving.Matching.{Matching}
use Rattle.pt_tables.specs.declared.giving.Matching.TheVariants as matching
use Rattle.pt_tables.specs.Tables.{Row, Tables, HasIds}
use Rattle.pt_tables.specs.Rows.{IsRow, NoRow, number_rows, ChangesRow}
use Rattle.pt_tables.specs.Outcome.{last_u64}

-- the tables that these are
abbrev pub tables_of : SessionTables → Tables
tables_of it = record {
  era = it.era;
  next_number = it.next_number;
  next_handle = it.next_handle;
  next_row = it.next_row;
  slots = it.slots.items;
  limits = it.limits.items;
  negotiated = it.negotiated;
  rows = it.store.rows;
  handles = it.store.handles;
  closing = it.store.closing;
}

-- the row of this object is given once more, where it has one
abbrev pub Matches : Tables → ObjIds → Matching → Tables → Type 0
Matches tables ids matching.Nothing after = NoRow tables (HasIds ids) × (after ≡ tables)
Matches tables ids matching.Full after =
    (row : Row) × IsRow tables row × HasIds ids row × (row.count ≡ last_u64) × (after ≡ tables)
Matches tables ids (matching.Given given) after =
    (row : Row) × IsRow tables row × HasIds ids row × (row.number ≡ given.number) × (row.class ≡ given.class)
    × (row.count < last_u64)
    × ChangesRow number_rows tables row (record row { count = row.count + 1 }) after
