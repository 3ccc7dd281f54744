use Rattle.pt_job.proofs.Beginning.{goes_on}
use Rattle.pt_job.proofs.body.answered.Goals as goal

pub returns-in_default : goal.returns-in_default
returns-in_default c = rw (goes_on c.args.plan.now c.args.seat.now c.args.who c.args.request.now
    c.in_default.not-Init c.in_default.not-Destroy) c.begun.ensures
