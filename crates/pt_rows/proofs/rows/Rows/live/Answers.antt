use Rattle.std.proofs.Common.{sym}
use Rattle.pt_rows.proofs.Stores.{key_missed, key_found, key_alone}
use Rattle.pt_rows.proofs.rows.Rows.live.Goals as goal

pub returns-in-None-clause-found : goal.returns-in-None-clause-found
returns-in-None-clause-found g c = key_missed g.R.Pinned.keyed _ _ c.self.invariant _ c.self.view_is c.args.key (sym
    c.in-None.ensures.value)

pub returns-in-Some-clause-found : goal.returns-in-Some-clause-found
returns-in-Some-clause-found g c =
    key_found g.R.Pinned.keyed _ _ c.self.invariant _ c.self.view_is c.args.key _ _ (sym c.in-Some.ensures.value)
    c.row_of.ensures

pub returns-in-Some-clause-alone : goal.returns-in-Some-clause-alone
returns-in-Some-clause-alone g c =
    key_alone g.R.Pinned.keyed _ _ c.self.invariant _ c.self.view_is c.args.key _ _ (sym c.in-Some.ensures.value)
    c.row_of.ensures
