use Rattle.std.proofs.Common.{length, drop, []}
use Rattle.pt_fs.specs.GoesOn.{GoesOn}
use Rattle.pt_fs.specs.Order.{order}
use Rattle.pt_fs.specs.Recorded.{Wrote}
use Rattle.pt_fs.specs.Shared.{Shares}
use Rattle.pt_fs.specs.Took.{NoneLost}
use Rattle.pt_fs.specs.Work.{KeepsPace, work}
use Rattle.pt_fs.proofs.schedule.run_schedule.Given as goal

abbrev pub invariant-loop-place : goal.invariant-loop-place
invariant-loop-place g l = record {
  shares : Shares l.fn.run l.run;
  goes : Wrote g.R.Record.wrote l.fn.run.writer.now l.run.writer.now (λ steps.
      GoesOn g.H.Host.does l.fn.run.plan.now
      (order l.schedule (length l.fn.running)) l.fn.run.host.now l.fn.running l.fn.run.session.now []
      (order (drop l.place-index l.schedule) (length l.fn.running)) l.run.host.now l.running
      l.run.session.now steps);
  calm : NoneLost l.running;
  room : KeepsPace (g.R.Record.room l.fn.run.writer.now) (work l.fn.running l.fn.run.session.now)
      (g.R.Record.room l.run.writer.now) (work l.running l.run.session.now);
}
