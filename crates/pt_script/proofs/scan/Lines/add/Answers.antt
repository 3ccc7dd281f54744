use Rattle.pt_script.proofs.Seated.{more_start}
use Rattle.pt_script.proofs.scan.Lines.add.Goals as goal

pub invariant_of-self-in-Job : goal.invariant_of-self-in-Job
invariant_of-self-in-Job c =
    more_start c.push_item-in-Job.result c.self.inside.jobs.items c.push_item-in-Job.new.items.items
    c.self.inside.settings c.in-Job.line
    (rw (c.job_of.ensures, c.identity.ensures) at c.push_item-in-Job.ensures.ok)
    c.push_item-in-Job.ensures.err c.self.invariant
