use Rattle.pt_fs.specs.Shared.{Shares}
use Rattle.pt_fs.proofs.Remaining.{TookBelow}
use Rattle.pt_fs.proofs.lost.end_all.Given as goal

abbrev pub invariant-loop-place : goal.invariant-loop-place
invariant-loop-place g l = record {
  shares : Shares l.fn.run l.run;
  below : TookBelow g.H.Host.does g.R.Record.wrote g.R.Record.room l.fn.run.plan.now l.place l.fn.run.host.now
      l.fn.running l.fn.run.session.now l.fn.run.writer.now l.run.host.now l.running l.run.session.now l.run.writer.now;
}
