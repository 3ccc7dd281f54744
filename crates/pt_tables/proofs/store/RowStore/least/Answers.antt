use Rattle.std.proofs.Common.{ap, subst, List, ◌≡◌, true, MatchOption}
use Rattle.pt_tables.specs.Tables.{Row}
use Rattle.pt_tables.specs.Rows.{number_rows}
use Rattle.pt_rows.specs.Rows.{NoneOf, IsLeast}
use Rattle.pt_tables.specs.Store.{Stored}
use Rattle.pt_rows.proofs.Stores.{least}
use Rattle.pt_tables.proofs.store.RowStore.least.Goals as goal

pub returns-clause-least : goal.returns-clause-least
returns-clause-least c =
    subst (λ (rows : List Row). MatchOption c.next.result (NoneOf (λ (row : Row). row.live ≡ true) rows)
    (λ row. IsLeast number_rows.keyed rows row)) (ap (λ (stored : Stored). stored.rows) c.self.view_is) (least number_rows.keyed _
    _ c.next.ensures)
