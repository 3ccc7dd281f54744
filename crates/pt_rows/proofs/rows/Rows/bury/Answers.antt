use Rattle.std.proofs.Common.{ap, sym, subst, reverse}
use Rattle.std.specs.Map.{values_of}
use Rattle.std.specs.Option.{is_some}
use Rattle.pt_host.specs.Words.{Replaces}
use Rattle.pt_rows.specs.Same.{IsDead}
use Rattle.pt_rows.proofs.Stores.{is_there_by, sound_buried, seen_replaced, buried_gone}
use Rattle.pt_rows.proofs.rows.Rows.bury.Goals as goal

pub put-requires : goal.put-requires
put-requires g c = ap is_some (is_there_by g.R.Pinned.keyed _ _ c.self.invariant _ c.self.view_is _ _ c.serial.ensures
    c.requires.among)

pub invariant_of-self : goal.invariant_of-self
invariant_of-self g c =
    sound_buried g.R.Pinned.keyed _ _ c.self.invariant _ c.self.view_is _ _ _ _ _ _ _ c.serial.ensures
    c.is_live.ensures c.key.ensures c.requires.among c.requires.live
    (subst (λ row. IsDead g.R.Pinned.keyed c.args.row.now row) (sym c.dead.ensures) (g.met.R.Pinned.dies
    c.args.row.now))
    c.put.ensures.entries c.put.ensures.puts c.leave.ensures

pub returns-clause-rows : goal.returns-clause-rows
returns-clause-rows g c =
    subst (λ now. Replaces c.args.row.now now c.args.self.now (reverse (values_of c.put.new.rows.entries)))
    c.dead.ensures (seen_replaced g.R.Pinned.keyed _ _ c.self.invariant _ c.self.view_is _ _ _ _ c.serial.ensures
    c.requires.among c.put.ensures.entries)

pub returns-clause-gone : goal.returns-clause-gone
returns-clause-gone g c =
    let dead = subst (λ row. IsDead g.R.Pinned.keyed c.args.row.now row) (sym c.dead.ensures) (g.met.R.Pinned.dies
    c.args.row.now) in
    buried_gone g.R.Pinned.keyed _ _ c.self.invariant _ c.self.view_is _ _ _ _ _ c.serial.ensures dead
    (sound_buried g.R.Pinned.keyed _ _ c.self.invariant _ c.self.view_is _ _ _ _ _ _ _ c.serial.ensures
    c.is_live.ensures c.key.ensures c.requires.among c.requires.live
    dead c.put.ensures.entries c.put.ensures.puts c.leave.ensures) c.put.ensures.puts
