use Rattle.pt_rows.proofs.Stores.{at_found, at_alone}
use Rattle.pt_rows.proofs.rows.Rows.at.Goals as goal

pub returns-clause-found : goal.returns-clause-found
returns-clause-found g c = at_found g.R.Pinned.keyed _ _ c.self.invariant _ c.self.view_is c.args.serial _
    c.row_of.ensures

pub returns-clause-alone : goal.returns-clause-alone
returns-clause-alone g c = at_alone g.R.Pinned.keyed _ _ c.self.invariant _ c.self.view_is c.args.serial _
    c.row_of.ensures
