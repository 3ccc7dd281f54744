use Rattle.std.proofs.Common.{◌≡◌, length}
use Rattle.pt_run.specs.Passing.{IsBuffered}
use Rattle.pt_run.proofs.output.push_all.Given as goal

abbrev pub invariant-loop-rest : goal.invariant-loop-rest
invariant-loop-rest g l =
    let written = g.O.Sink.written in
    let faults = g.O.Sink.faults in
    record {
      buffered : IsBuffered (written l.fn.output) l.piece l.rest (written l.output);
      no_fault : faults l.output ≡ faults l.fn.output;
    }

abbrev pub decreases-loop-rest : goal.decreases-loop-rest
decreases-loop-rest g l = length l.rest
