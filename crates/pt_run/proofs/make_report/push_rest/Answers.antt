use Rattle.std.proofs.Common.{◌++◌, ◌∙◌, List, ap}
use Rattle.pt_iface.specs.declared.answer.Answer.{Answer}
use Rattle.pt_run.specs.Report.{answer_lines}
use Rattle.pt_fs.proofs.Recording.{ok_on}
use Rattle.pt_run.proofs.Reporting.{rest_put}
use Rattle.pt_run.proofs.make_report.push_rest.Goals as goal

pub returns : goal.returns
returns c =
    let answers = c.in_ok-push_answers.ensures
    ∙ ap (λ (l : List Answer). c.args.out.now.items ++ answer_lines 0 l) c.as_slice.ensures.value in
    let tables = c.in_ok-push_tables.ensures in
    ok_on c.push_text.result c.push_text.ensures.ok (λ end. (
      tables.0,
      tables.1,
      tables.2,
      rest_put c.args.out.now.items _ _ _ _ _ (answer_lines 0 c.args.left.now.answers.items) _ _ _ _ _ _ answers
          tables.3 c.in_ok-push_objects.ensures c.in_ok-push_lost.ensures end,
    ))
