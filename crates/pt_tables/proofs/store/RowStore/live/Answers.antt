use Rattle.std.proofs.Common.{List, MatchOption, ap, subst}
use Rattle.pt_tables.specs.Tables.{Row, HasNumber}
use Rattle.pt_rows.specs.Rows.{IsAmong, NoneOf}
use Rattle.pt_tables.specs.Store.{Stored}
use Rattle.pt_tables.proofs.store.RowStore.live.Goals as goal

pub returns : goal.returns
returns c =
    subst (λ (rows : List Row). MatchOption c.live.result (NoneOf (HasNumber c.args.number) rows)
    (λ row. HasNumber c.args.number row × IsAmong row rows)) (ap (λ (stored : Stored). stored.rows) c.self.view_is)
    c.live.ensures.found
