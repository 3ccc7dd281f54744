use Rattle.std.proofs.Common.{List, ℕ, ◌∙◌, subst}
use Rattle.pt_run.specs.Output.{IsFrontWritten, IsWritten}
use Rattle.pt_run.proofs.program.write_report.Goals as goal

pub returns-in-Ok-push_all-clause-done : goal.returns-in-Ok-push_all-clause-done
returns-in-Ok-push_all-clause-done g c = λ ended. (
  c.in-Ok.report.text.items,
  (c.in-Ok.ensures.ok.0, c.in-Ok.ensures.ok.1 ∙ ended),
  subst (λ (piece : List ℕ). IsWritten (g.O.Sink.written c.args.output.now) piece
      (g.O.Sink.written c.push_all.new.output)) c.as_slice.ensures.value c.in-Ok-push_all.ensures.ok,
)

pub returns-in-Ok-push_all-clause-lost : goal.returns-in-Ok-push_all-clause-lost
returns-in-Ok-push_all-clause-lost g c = λ ended. (
  c.in-Ok.report.text.items,
  (c.in-Ok.ensures.ok.0, c.in-Ok.ensures.ok.1 ∙ ended),
  subst (λ (piece : List ℕ). IsWritten (g.O.Sink.written c.args.output.now) piece
      (g.O.Sink.written c.push_all.new.output)) c.as_slice.ensures.value c.in-Ok-push_all.ensures.ok,
)

pub returns-clause-write_fault : goal.returns-clause-write_fault
returns-clause-write_fault g c = λ ended. (
  c.in-Ok.report.text.items,
  c.in-Ok.ensures.ok.0,
  subst (λ (piece : List ℕ). IsFrontWritten (g.O.Sink.written c.args.output.now) piece
      (g.O.Sink.written c.push_all.new.output)) c.as_slice.ensures.value c.in-Err-push_all.ensures.err,
)
