use Rattle.std.proofs.Common.{◌≡◌, ℕ, zero, suc, false, List, ◌∙◌, ap, refl, arith}
use Rattle.pt_frame.specs.Machine.Job.{Stand, own_left}
use Rattle.pt_frame.specs.Machine.Left.{is_all_over, is_over}
use Rattle.pt_frame.specs.Tree.{grammar_of_tree}
use Rattle.pt_frame.specs.declared.hold.Hold.{Hold}
use Rattle.pt_frame.specs.declared.hold.Taken.{Taken}
use Rattle.pt_frame.specs.declared.hold.Taken.TheVariants as taken
use Rattle.pt_frame.specs.declared.machine.mode.Mode.{Mode}
use Rattle.pt_frame.specs.declared.machine.mode.Mode.TheVariants as mode
use Rattle.pt_job.specs.Machine.Body.{any_acts, any_tree}
use Rattle.pt_job.specs.Machine.Job.{work_of}
use Rattle.pt_job.specs.Pattern.{bound_of}
use Rattle.pt_job.specs.declared.body.AnyBody.{AnyBody}
use Rattle.pt_job.specs.Machine.Keeping.{any_begins}
use Rattle.pt_job.proofs.job.AnyJob.begin.Goals as goal

-- a job in a mode that has not ended has not ended
goes_on : (brings : Taken) (count : ℕ) (at : Mode) (holds : List Hold) → is_over at holds ≡ false →
    is_all_over brings count at holds ≡ false
goes_on (taken.Fd fd slot class) count at holds e = refl
goes_on (taken.Slot class) count at holds e = refl
goes_on taken.Nothing (suc count) at holds e = refl
goes_on taken.Nothing zero at holds e = e

-- one whose acts all count has not ended
counts_all : (at : Stand) → ((acts : ℕ) → own_left at acts ≡ acts) → (over : Mode) → at.mode ≡ over →
    is_over over at.holds ≡ false
counts_all at own mode.Body is = refl
counts_all at own mode.Bares is = refl
counts_all at own (mode.Shuts passes) is = refl
counts_all at own (mode.Out last) is =
    let none = rw is at (own 0) in let one = rw is at (own 1) in absurd (omega arith)
counts_all at own (mode.Leave last) is =
    let none = rw is at (own 0) in let one = rw is at (own 1) in absurd (omega arith)

pub returns-clause-left : goal.returns-clause-left
unfolding work_of
returns-clause-left c = λ plan seat.
    c.start.ensures.left seat (any_tree c.start.result.body plan seat) (any_begins c.start.result.body plan seat)
    ∙ ap (λ (body : AnyBody). grammar_of_tree seat (any_tree body plan seat)) c.start.ensures.body

pub returns-clause-going : goal.returns-clause-going
unfolding work_of
returns-clause-going c =
    let at = c.start.result.at in
    goes_on at.taken at.closings at.mode at.holds (counts_all at c.start.ensures.own at.mode refl)

pub returns-clause-fewer : goal.returns-clause-fewer
unfolding work_of
returns-clause-fewer c =
    let acts = any_acts c.start.result.body in
    let own = c.start.ensures.own acts in
    let bound = c.start.ensures.bound acts in
    let same : acts ≡ bound_of c.args.request = ap any_acts c.start.ensures.body in
    omega arith
