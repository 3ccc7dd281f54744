-- Jobs that ran whole, one after another, are served by the plain file system.
use Rattle.std.proofs.Common.{◌≡◌, ◌≢◌, ◌∙◌, ℕ, zero, suc, ◌+◌, List, [], ◌∷◌, ◌++◌, Option, Some, None, refl, ap, sym}
use Rattle.std.proofs.Common.{subst, map, length, slice_get, replicate, arith, cond, true, false, ◌==◌}
use Rattle.std.proofs.lemmas.Option.{same_Some}
use Rattle.pt_host.specs.Words.{Each}
use Rattle.pt_iface.specs.declared.answer.Answer.{Answer}
use Rattle.pt_iface.specs.declared.answer.Answer.TheVariants as answer
use Rattle.pt_frame.specs.Deed.{LacksMemory, Step}
use Rattle.pt_frame.specs.Grammar.{Belongs}
use Rattle.pt_frame.specs.declared.finish.Finish.TheVariants as finish
use Rattle.pt_req.specs.declared.plan.Plan.{Plan}
use Rattle.pt_job.specs.Pattern.{Asked}
use Rattle.pt_law.specs.Discipline.{AreDisciplined, ComesToEnd, idle}
use Rattle.pt_law.specs.World.{Turn, World, Runs as WorldRuns, steps_of}
use Rattle.pt_plain.specs.Plain.{PlainTree}
use Rattle.pt_plain.specs.Run.{EndsAs, IsNew, PlainJob, ServesAll, plain_start, turns_from}
use Rattle.pt_plain.specs.Whole.{IsAnswered}
use Rattle.pt_plain.proofs.Ordering.{each_whole, in_order, owned_by, owners_of}
use Rattle.pt_plain.proofs.Running.{asked_by, plain_run, told_by}
use Rattle.pt_fs.specs.Determined.{FoundMemory}
use Rattle.pt_fs.specs.Ends.{EndsWhole}
use Rattle.pt_fs.specs.Jobs.{asked_of, job_grammar, job_start}
use Rattle.pt_fs.specs.Keeps.{OfEachJob, turn_of, turns_of}
use Rattle.pt_fs.specs.Order.{count_of, owner, rest_of}
use Rattle.pt_fs.specs.Trace.{step_of, steps_by}
use Rattle.pt_fs.specs.declared.job.Job.{Job}
use Rattle.pt_fs.specs.declared.trace.TraceStep.{TraceStep}
use Rattle.pt_fs.proofs.Laws.{steps_same}
use Rattle.pt_fs.proofs.Orders.{same_function}
use Rattle.pt_fs.proofs.Traces.{length-steps_by}

-- a job, its answer, and its steps among these
abbrev pub plain_job : ℕ → List Turn → Job → Answer → PlainJob
plain_job j turns job told =
    record { seat = job_start job; asked = asked_of job; steps = steps_of j turns; last = told }

-- from some job on
abbrev pub plain_jobs : ℕ → List Turn → List Job → List Answer → List PlainJob
plain_jobs first turns (job ∷ jobs) (told ∷ answers) =
    plain_job first turns job told ∷ plain_jobs (suc first) turns jobs answers
plain_jobs first turns jobs answers = []

each_whole_job : (first : ℕ) (turns : List Turn) (jobs : List Job) (answers : List Answer) →
    length answers ≡ length jobs →
    each_whole (length jobs) first turns ≡ turns_from first (plain_jobs first turns jobs answers)
each_whole_job first turns [] [] e = refl
each_whole_job first turns [] (told ∷ answers) e = absurd (omega (arith, e))
each_whole_job first turns (job ∷ jobs) [] e = absurd (omega (arith, e))
each_whole_job first turns (job ∷ jobs) (told ∷ answers) e =
    ap (λ (more : List Turn). map (λ (step : Step). record { job = first; step = step }) (steps_of first turns) ++ more)
    (each_whole_job (suc first) turns jobs answers (omega (arith, e)))

pub asked_same : (first : ℕ) (turns : List Turn) (jobs : List Job) (answers : List Answer) →
    length answers ≡ length jobs → asked_by (plain_jobs first turns jobs answers) ≡ map asked_of jobs
asked_same first turns [] [] e = refl
asked_same first turns [] (told ∷ answers) e = absurd (omega (arith, e))
asked_same first turns (job ∷ jobs) [] e = absurd (omega (arith, e))
asked_same first turns (job ∷ jobs) (told ∷ answers) e =
    ap (λ (more : List Asked). asked_of job ∷ more) (asked_same (suc first) turns jobs answers (omega (arith, e)))

pub told_same : (first : ℕ) (turns : List Turn) (jobs : List Job) (answers : List Answer) →
    length answers ≡ length jobs → told_by (plain_jobs first turns jobs answers) ≡ answers
told_same first turns [] [] e = refl
told_same first turns [] (told ∷ answers) e = absurd (omega (arith, e))
told_same first turns (job ∷ jobs) [] e = absurd (omega (arith, e))
told_same first turns (job ∷ jobs) (told ∷ answers) e =
    ap (λ (more : List Answer). told ∷ more) (told_same (suc first) turns jobs answers (omega (arith, e)))

-- what holds of each by its number holds of all from some job on
pub each_plain : (P : PlainJob → Type 0) (first : ℕ) (turns : List Turn) (jobs : List Job) (answers : List Answer) →
    ((j i : ℕ) (job : Job) (told : Answer) → j ≡ first + i → slice_get jobs i ≡ Some job →
    slice_get answers i ≡ Some told → P (plain_job j turns job told)) →
    Each P (plain_jobs first turns jobs answers)
each_plain P first turns [] [] h = tt
each_plain P first turns [] (told ∷ answers) h = tt
each_plain P first turns (job ∷ jobs) [] h = tt
each_plain P first turns (job ∷ jobs) (told ∷ answers) h = (
  h first 0 job told (omega arith) refl refl,
  each_plain P (suc first) turns jobs answers (λ j i other said e at told_at.
      h j (suc i) other said (omega (arith, e)) at told_at),
)

-- whose steps they are
owners_same : (trace : List TraceStep) → map owner trace ≡ owners_of (turns_of trace)
owners_same [] = refl
owners_same (step ∷ trace) = ap (λ (more : List ℕ). step.job ∷ more) (owners_same trace)

rest_owned : (jobs first : ℕ) (left : ℕ → ℕ) → rest_of jobs first left ≡ owned_by jobs first left
rest_owned zero first left = refl
rest_owned (suc jobs) first left =
    let next : first + 1 ≡ suc first = omega arith in
    ap (λ (more : List ℕ). replicate (left first) first ++ more)
    (ap (λ (n : ℕ). rest_of jobs n left) next ∙ rest_owned jobs (suc first) left)

counts_same : (trace : List TraceStep) → count_of trace ≡ (λ (j : ℕ). length (steps_of j (turns_of trace)))
counts_same trace = same_function (count_of trace) (λ (j : ℕ). length (steps_of j (turns_of trace))) (λ j.
    sym (length-steps_by j trace) ∙ ap length (sym (steps_same j trace)))

-- each job's steps, whole and in job order
pub in_job_order : (plan : Plan) (jobs : List Job) (trace : List TraceStep) (answers : List Answer) →
    EndsWhole plan jobs [] trace answers →
    turns_of trace ≡ turns_from 0 (plain_jobs 0 (turns_of trace) jobs answers)
in_job_order plan jobs trace answers ends =
    let owned : owners_of (turns_of trace)
    ≡ owned_by (length jobs) 0 (λ j. length (steps_of j (turns_of trace))) =
    sym (owners_same trace) ∙ ends.order.owners ∙ rest_owned (length jobs) 0 (count_of trace)
    ∙ ap (owned_by (length jobs) 0) (counts_same trace) in
    in_order (length jobs) (turns_of trace) owned
    ∙ each_whole_job 0 (turns_of trace) jobs answers ends.answers_each.one_each

-- no step of a job lacks memory
pub own_found : (j : ℕ) (trace : List TraceStep) → Each (λ step. LacksMemory step.reply → ⊥) trace →
    Each (λ (step : Step). LacksMemory step.reply → ⊥) (steps_by j trace)
own_found j [] found = tt
own_found j (step ∷ trace) found =
    let more = own_found j trace found.1 in
    elim (step.job == j) as (λ b. Each (λ (one : Step). LacksMemory one.reply → ⊥)
    (cond b (step_of step ∷ steps_by j trace) (steps_by j trace))) [ true ↦ (found.0, more) | false ↦ more ]

pub told_found : (answers : List Answer) (i : ℕ) (told : Answer) → Each (λ (one : Answer). one ≢ answer.NoMemory) answers →
    slice_get answers i ≡ Some told → told ≢ answer.NoMemory
told_found [] i told found at is = absurd (cc)
told_found (first ∷ answers) zero told found at is = let same = same_Some first told at in
    found.0 (same ∙ is)
told_found (first ∷ answers) (suc i) told found at is = told_found answers i told found.1 at is

pub served_plainly : (plan : Plan) (limits : List ℕ) (jobs : List Job) (trace : List TraceStep) (answers : List Answer)
    (start end : World) → IsNew limits start → AreDisciplined (length jobs) (turns_of trace) →
    OfEachJob jobs answers (λ j job told. ComesToEnd idle (steps_by j trace) (finish.Answer told)
    × Belongs (job_grammar plan job) (steps_by j trace) (finish.Answer told)) →
    EndsWhole plan jobs [] trace answers → FoundMemory trace answers → WorldRuns start (turns_of trace) end →
    (after : PlainTree) × ServesAll plan (map asked_of jobs) answers (plain_start start.tree) after × EndsAs end after
served_plainly plan limits jobs trace answers start end new disciplined comes ends found r =
    let turns = turns_of trace in
    let plain = plain_jobs 0 turns jobs answers in
    let are = in_job_order plan jobs trace answers ends in
    let each = each_plain (IsAnswered plan) 0 turns jobs answers (λ j i job told e at told_at.
    let same : j ≡ i = omega (arith, e) in
    let come = comes i job told at told_at in
    subst (λ (n : ℕ). IsAnswered plan (plain_job n turns job told)) (sym same) (rw (steps_same i trace) (record {
      belongs = come.1;
      ends = come.0;
      memory = own_found i trace found.replies;
      given = told_found answers i told found.answered told_at;
    }))) in
    let ran = plain_run plan limits (length jobs) plain start end new
    (subst (AreDisciplined (length jobs)) are disciplined) each (subst (λ (t : List Turn). WorldRuns start t end) are r)
    in
    let asked = asked_same 0 turns jobs answers ends.answers_each.one_each in
    let told = told_same 0 turns jobs answers ends.answers_each.one_each in (
      ran.0,
      subst (λ (a : List Asked). ServesAll plan a answers (plain_start start.tree) ran.0) asked
          (subst (λ (t : List Answer). ServesAll plan (asked_by plain) t (plain_start start.tree) ran.0) told ran.1),
      ran.2,
    )
