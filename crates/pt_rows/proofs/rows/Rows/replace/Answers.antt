use Rattle.std.proofs.Common.{ap}
use Rattle.std.specs.Option.{is_some}
use Rattle.pt_rows.proofs.Stores.{is_there_by, sound_replaced, seen_replaced}
use Rattle.pt_rows.proofs.rows.Rows.replace.Goals as goal

pub put-requires : goal.put-requires
put-requires g c = ap is_some (is_there_by g.R.Pinned.keyed _ _ c.self.invariant _ c.self.view_is _ _ c.serial.ensures
    c.requires.among)

pub invariant_of-self : goal.invariant_of-self
invariant_of-self g c =
    sound_replaced g.R.Pinned.keyed _ _ c.self.invariant _ c.self.view_is _ _ _ _ c.serial.ensures c.requires.among
    c.requires.same c.put.ensures.entries
    c.put.ensures.puts

pub returns : goal.returns
returns g c = seen_replaced g.R.Pinned.keyed _ _ c.self.invariant _ c.self.view_is _ _ _ _ c.serial.ensures
    c.requires.among c.put.ensures.entries
