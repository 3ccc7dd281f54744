use Rattle.pt_rows.proofs.Orders.{puts_number}
use Rattle.pt_rows.proofs.Stores.{sound_ended, seen_ended, ended_gone}
use Rattle.pt_rows.proofs.rows.Rows.remove.Goals as goal

pub invariant_of-self : goal.invariant_of-self
invariant_of-self g c =
    sound_ended g.R.Pinned.keyed _ _ c.self.invariant _ c.self.view_is _ _ _ _ _ _ c.serial.ensures c.is_live.ensures
    c.key.ensures c.requires c.remove.ensures.entries
    (puts_number _ _ _ _ c.remove.ensures.updates.0) c.leave.ensures

pub returns-clause-rows : goal.returns-clause-rows
returns-clause-rows g c = seen_ended g.R.Pinned.keyed _ _ c.self.invariant _ c.self.view_is _ _ _ c.serial.ensures
    c.requires c.remove.ensures.entries

pub returns-clause-gone : goal.returns-clause-gone
returns-clause-gone g c =
    ended_gone g.R.Pinned.keyed _ _ c.self.invariant _ c.self.view_is _ _ _ _ c.serial.ensures
    (sound_ended g.R.Pinned.keyed _ _ c.self.invariant _ c.self.view_is _ _ _ _ _ _ c.serial.ensures c.is_live.ensures
    c.key.ensures c.requires c.remove.ensures.entries
    (puts_number _ _ _ _ c.remove.ensures.updates.0) c.leave.ensures) (puts_number _ _ _ _ c.remove.ensures.updates.0)
