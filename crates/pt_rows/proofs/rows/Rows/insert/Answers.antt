use Rattle.std.proofs.Common.{ap, ◌∙◌}
use Rattle.pt_rows.specs.Index.{by_key}
use Rattle.pt_rows.proofs.Orders.{puts_number}
use Rattle.pt_rows.proofs.Stores.{is_free, sound_inserted, sound_refused, seen_inserted}
use Rattle.pt_rows.proofs.rows.Rows.insert.Goals as goal

pub invariant_of-self-in-Ok : goal.invariant_of-self-in-Ok
invariant_of-self-in-Ok g c =
    sound_inserted g.R.Pinned.keyed _ _ c.self.invariant _ c.self.view_is c.args.row _ _ _ _ c.serial-serial.ensures
    c.key-key.ensures c.requires.live c.requires.newest
    c.requires.free c.in-Ok.ensures.entries (puts_number _ _ _ _ c.in-Ok.ensures.updates.0) c.in_ok-enter.ensures.ok

pub invariant_of-self-in-Err : goal.invariant_of-self-in-Err
invariant_of-self-in-Err g c =
    rw c.in-Err.ensures.err (sound_refused g.R.Pinned.keyed _ _ c.self.invariant _ c.self.view_is _ _ _ _ (ap (by_key
    c.self.inside.keys) c.key-key.ensures ∙ is_free g.R.Pinned.keyed _ _ c.self.invariant _ c.self.view_is _
    c.requires.free)
    c.in_ok-enter.ensures.ok c.leave.ensures)

pub returns-in-Ok-clause-ok : goal.returns-in-Ok-clause-ok
returns-in-Ok-clause-ok g c =
    seen_inserted g.R.Pinned.keyed _ _ c.self.invariant _ c.self.view_is _ _ _ c.serial-serial.ensures
    c.requires.newest c.in-Ok.ensures.entries
