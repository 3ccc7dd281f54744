use Rattle.std.proofs.Common.{◌∙◌}
use Rattle.std.proofs.lemmas.List.{take_rest}
use Rattle.pt_run.proofs.Outputs.{IsBuffered-pushed}
use Rattle.pt_run.proofs.output.push_all.Goals as goal

pub loop-rest-preserved : goal.loop-rest-preserved
loop-rest-preserved g c = record {
  buffered = rw take_rest
      (IsBuffered-pushed _ _ _ _ c.loop-rest.rest.now c.in_ok-count.count c.loop-rest.invariant.buffered
      c.in_ok-count.ensures.pushed);
  no_fault = c.in_ok-count.ensures.no_fault ∙ c.loop-rest.invariant.no_fault;
}
