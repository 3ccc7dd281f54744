use Rattle.std.proofs.Common.{◌<◌, length, []}
use Rattle.pt_fs.specs.Loses.{Restored}
use Rattle.pt_fs.specs.Recorded.{Wrote}
use Rattle.pt_fs.specs.Shared.{Shares}
use Rattle.pt_fs.specs.Took.{steps_left_at}
use Rattle.pt_fs.specs.Work.{KeepsPace, work}
use Rattle.pt_fs.proofs.lost.restore_rest.Given as goal

abbrev pub invariant-loop-id : goal.invariant-loop-id
invariant-loop-id g l = record {
  shares : Shares l.fn.run l.run;
  room : KeepsPace (g.R.Record.room l.fn.run.writer.now) (work l.fn.running l.fn.run.session.now)
      (g.R.Record.room l.run.writer.now) (work l.running l.run.session.now);
  restored : Wrote g.R.Record.wrote l.fn.run.writer.now l.run.writer.now (λ steps.
      Restored g.H.Host.does l.fn.run.plan.now l.fn.id.0 l.fn.run.host.now l.fn.running
      l.fn.run.session.now [] l.run.host.now l.running l.run.session.now steps);
  inside : l.id.0 < length l.running;
}

abbrev pub decreases-loop-id : goal.decreases-loop-id
decreases-loop-id g l = steps_left_at l.running l.id.0
