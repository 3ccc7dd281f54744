use Rattle.std.proofs.Common.{subst}
use Rattle.pt_host.specs.declared.seat.HostSeat.{HostSeat}
use Rattle.pt_job.specs.Machine.Job.{owes}
use Rattle.pt_job.specs.Served.{Served}
use Rattle.pt_job.proofs.TakenWhole.{so_far_more, so_far_none, whole}
use Rattle.pt_job.proofs.serving.serve.Goals as goal

pub loop-start-init : goal.loop-start-init
loop-start-init g c = (
  so_far_none g.H.Host.does g.A.SessionAccess.makes (owes c.args.plan.now c.copy-start.result c.args.job) _ _ _,
  c.requires.room,
)

pub loop-start-preserved : goal.loop-start-preserved
loop-start-preserved g c = (
  so_far_more g.H.Host.does g.A.SessionAccess.makes (owes c.args.plan.now c.copy-start.result c.args.job)
      (owes c.args.plan.now c.copy-start.result c.loop-start.job)
      (owes c.args.plan.now c.copy-start.result c.take.new.self) c.make_next-reply.result _ _ _ _ _ _ _ _ _
      c.loop-start.invariant.0 c.make_next-reply.ensures.made c.take.ensures.left,
  c.make_next-reply.ensures.room,
)

-- the seat with which the job began is the one that was copied
pub returns-clause-served : goal.returns-clause-served
returns-clause-served g c =
    subst (λ (seat : HostSeat).
    Served g.H.Host.does g.A.SessionAccess.makes (owes c.args.plan.now seat c.args.job) c.args.host.now
    c.args.seat.now c.args.access.now c.finish.result c.loop-start.host c.loop-start.seat c.loop-start.access)
    c.copy-start.ensures
    (whole g.H.Host.does g.A.SessionAccess.makes (owes c.args.plan.now c.copy-start.result c.args.job)
    (owes c.args.plan.now c.copy-start.result c.loop-start.job) c.finish.result _ _ _ _ _ _ c.loop-start.invariant.0
    (c.finish.ensures.left c.args.plan.now c.copy-start.result))
