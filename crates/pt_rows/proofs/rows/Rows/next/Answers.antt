use Rattle.pt_rows.proofs.Stores.{next_missed, next_found}
use Rattle.pt_rows.proofs.rows.Rows.next.Goals as goal

pub returns-in-None : goal.returns-in-None
returns-in-None g c = next_missed g.R.Pinned.keyed _ _ c.self.invariant _ c.self.view_is c.args.above _ c.in-None.is
    c.next_key.ensures

pub returns-in-Some : goal.returns-in-Some
returns-in-Some g c =
    next_found g.R.Pinned.keyed _ _ c.self.invariant _ c.self.view_is c.args.above _ _ _ _ c.in-Some.is
    c.row_of.ensures c.next_key.ensures
