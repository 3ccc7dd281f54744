use Rattle.std.proofs.Common.{◌≡◌, ◌≤◌, ◌-◌, length, take, drop}
use Rattle.pt_handles.specs.MountInfo.{first_column}
use Rattle.pt_handles.specs.Columns.{passed}
use Rattle.pt_handles.proofs.mount_info.first_column.Given as goal

abbrev pub invariant-loop-place : goal.invariant-loop-place
invariant-loop-place l = record {
  within : l.place ≤ length l.line;
  same : first_column l.line ≡ passed (take l.place l.line) (first_column (drop l.place l.line));
}

abbrev pub decreases-loop-place : goal.decreases-loop-place
decreases-loop-place l = length l.line - l.place
