use Rattle.std.proofs.Common.{◌≡◌, ◌+◌, ◌*◌, ◌≤◌, drop}
use Rattle.pt_fs.specs.Trace.{room_of}
use Rattle.pt_fs.proofs.room.room_of.Given as goal

abbrev pub invariant-loop-job : goal.invariant-loop-job
invariant-loop-job l = record {
  sum : l.room + room_of (drop l.job-index l.jobs) ≡ room_of l.jobs;
  small : l.room ≤ 108 * l.job-index;
}
