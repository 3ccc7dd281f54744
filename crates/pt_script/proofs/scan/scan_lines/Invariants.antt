use Rattle.std.proofs.Common.{◌≡◌, ◌≤◌, ◌<◌, ◌+◌, length}
use Rattle.pt_script.specs.Scan.{kept_lines, scan_from, scan_of}
use Rattle.pt_script.proofs.scan.scan_lines.Given as goal

abbrev pub invariant-loop-text : goal.invariant-loop-text
invariant-loop-text l = record {
  same : scan_from l.number l.lines l.parts ≡ scan_of l.bytes;
  within : l.number + length l.parts ≤ length l.bytes + 2;
  few : kept_lines l.lines < l.number;
}

abbrev pub decreases-loop-text : goal.decreases-loop-text
decreases-loop-text l = length l.parts
