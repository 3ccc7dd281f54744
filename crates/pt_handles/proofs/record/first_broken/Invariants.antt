use Rattle.std.proofs.Common.{◌≤◌, ◌-◌, List, length, take}
use Rattle.pt_handles.specs.Record.{Dirent, IsListing}
use Rattle.pt_handles.proofs.record.first_broken.Given as goal

abbrev pub invariant-loop-place : goal.invariant-loop-place
invariant-loop-place l = record {
  within : l.place ≤ length l.bytes;
  before : (before : List Dirent) × IsListing (take l.place l.bytes) before;
}

abbrev pub decreases-loop-place : goal.decreases-loop-place
decreases-loop-place l = length l.bytes - l.place
