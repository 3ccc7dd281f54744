use Rattle.std.proofs.Common.{◌≡◌, ◌≤◌, length}
use Rattle.pt_fs.specs.Loses.{CutBelow}
use Rattle.pt_fs.specs.Work.{bounds_in}
use Rattle.pt_fs.proofs.lost.cut_all.Given as goal

abbrev pub invariant-loop-place : goal.invariant-loop-place
invariant-loop-place l = record {
  cut : CutBelow l.place l.fn.lost.0 l.fn.running l.running;
  same : length l.running ≡ length l.fn.running;
  bounds : bounds_in l.running ≤ bounds_in l.fn.running;
}
