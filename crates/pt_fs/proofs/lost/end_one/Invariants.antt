use Rattle.pt_fs.specs.Took.{steps_left_at}
use Rattle.pt_fs.specs.Shared.{Shares}
use Rattle.pt_fs.proofs.Remaining.{TookSome}
use Rattle.pt_fs.proofs.lost.end_one.Given as goal

abbrev pub invariant-loop-id : goal.invariant-loop-id
invariant-loop-id g l = record {
  shares : Shares l.fn.run l.run;
  some : TookSome g.H.Host.does g.R.Record.wrote g.R.Record.room l.fn.run.plan.now l.fn.id.0 l.fn.run.host.now
      l.fn.running l.fn.run.session.now l.fn.run.writer.now l.run.host.now l.running l.run.session.now l.run.writer.now;
}

abbrev pub decreases-loop-id : goal.decreases-loop-id
decreases-loop-id g l = steps_left_at l.running l.id.0
