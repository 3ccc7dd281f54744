use Rattle.std.proofs.Common.{◌∙◌, ap}
use Rattle.pt_frame.specs.Tree.{grammar_of_tree}
use Rattle.pt_job.specs.Machine.Body.{any_tree}
use Rattle.pt_job.specs.declared.body.AnyBody.{AnyBody}
use Rattle.pt_job.specs.Machine.Keeping.{any_begins}
use Rattle.pt_job.proofs.state.JobState.start.Goals as goal

pub returns-clause-left : goal.returns-clause-left
returns-clause-left c = λ plan seat.
    let body = c.start-framed.result.body in
    c.start-framed.ensures.left seat (any_tree body plan seat) (any_begins body plan seat)
    ∙ ap (λ (body : AnyBody). grammar_of_tree seat (any_tree body plan seat)) c.start-framed.ensures.body
