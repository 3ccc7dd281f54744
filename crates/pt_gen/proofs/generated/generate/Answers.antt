use Rattle.std.proofs.Common.{◌∙◌, ◌-◌, ◌%◌, ◌++◌, ◌∷◌, [], ℕ, List, ap, sym, subst, length, map}
use Rattle.pt_fs.specs.Jobs.{StartAll}
use Rattle.pt_fs.specs.declared.job.Job.{Job}
use Rattle.pt_gen.specs.Draws.{draws_from, state_behind}
use Rattle.pt_gen.proofs.Making.{jobs_made, so_many, all_start}
use Rattle.pt_gen.proofs.generated.generate.Goals as goal

pub returns-clause-jobs : goal.returns-clause-jobs
returns-clause-jobs c =
    jobs_made c.args.count c.args.seed c.new-draws.result c.job.result c.push.new.self.items c.push_jobs.new.jobs.items
    c.requires.some c.new-draws.ensures c.job.ensures
    (c.in_ok-push.ensures.items ∙ ap (λ (l : List Job). l ++ c.job.result ∷ []) c.new-jobs.ensures.items)
    c.in_ok-push_jobs.ensures.jobs

pub returns-clause-order : goal.returns-clause-order
returns-clause-order c =
    let count = c.args.count in
    c.in_ok-schedule.ensures
    ∙ ap (λ (state : ℕ). map (λ draw. draw % count) (draws_from count state))
    (c.in_ok-push_jobs.ensures.state ∙ ap (state_behind (count - 1)) c.new-draws.ensures)

pub returns-clause-few : goal.returns-clause-few
returns-clause-few c = ap (λ (l : List Job). length l) (returns-clause-jobs c) ∙ so_many c.args.count c.args.seed

pub returns-clause-seats : goal.returns-clause-seats
returns-clause-seats c = subst StartAll (sym (returns-clause-jobs c)) (all_start c.args.count c.args.seed)
