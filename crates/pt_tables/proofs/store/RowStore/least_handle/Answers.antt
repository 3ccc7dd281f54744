use Rattle.std.proofs.Common.{ap, subst, List, ◌≡◌, true, MatchOption}
use Rattle.pt_tables.specs.Tables.{HandleRow}
use Rattle.pt_tables.specs.Rows.{handle_rows}
use Rattle.pt_rows.specs.Rows.{NoneOf, IsLeast}
use Rattle.pt_tables.specs.Store.{Stored}
use Rattle.pt_rows.proofs.Stores.{least}
use Rattle.pt_tables.proofs.store.RowStore.least_handle.Goals as goal

pub returns-clause-least : goal.returns-clause-least
returns-clause-least c =
    subst (λ (rows : List HandleRow). MatchOption c.next.result (NoneOf (λ (row : HandleRow). row.live ≡ true) rows)
    (λ row. IsLeast handle_rows.keyed rows row)) (ap (λ (stored : Stored). stored.handles) c.self.view_is) (least
    handle_rows.keyed _ _ c.next.ensures)
