use Rattle.std.proofs.Common.{◌≡◌, None}
use Rattle.pt_job.specs.Machine.Job.{owes, steps_left}
use Rattle.pt_job.specs.Machine.Serving.{ServedSoFar}
use Rattle.pt_job.proofs.serving.serve.Given as goal

abbrev pub invariant-loop-start : goal.invariant-loop-start
invariant-loop-start g l =
    ServedSoFar g.H.Host.does g.A.SessionAccess.makes (owes l.fn.plan l.start l.fn.job) l.fn.host l.fn.seat l.fn.access
    (owes l.fn.plan l.start l.job) l.host l.seat l.access × (g.A.SessionAccess.spare_of l.access ≡ None)

abbrev pub decreases-loop-start : goal.decreases-loop-start
decreases-loop-start g l = steps_left l.job
