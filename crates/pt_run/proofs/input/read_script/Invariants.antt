use Rattle.std.proofs.Common.{◌≡◌, ◌≤◌, ◌-◌, vec_len}
use Rattle.pt_run.specs.Passing.{IsTakenFrom}
use Rattle.pt_run.proofs.input.read_script.Given as goal

abbrev pub invariant-loop-input : goal.invariant-loop-input
invariant-loop-input g l =
    let left = g.I.Source.left in
    let faults = g.I.Source.faults in
    record {
      taken : IsTakenFrom (left l.fn.input) l.bytes.items (left l.input);
      within : vec_len l.bytes ≤ 16777217;
      no_fault : faults l.input ≡ faults l.fn.input;
    }

abbrev pub decreases-loop-input : goal.decreases-loop-input
decreases-loop-input g l = 16777217 - vec_len l.bytes
