use Rattle.std.proofs.Common.{◌≡◌, ◌≤◌, length, map, take, vec_capacity}
use Rattle.pt_fs.specs.Jobs.{job_seat}
use Rattle.pt_fs.proofs.places.seats_of.Given as goal

abbrev pub invariant-loop-job : goal.invariant-loop-job
invariant-loop-job l = record {
  seats : l.seats.items ≡ map job_seat (take l.job-index l.fn.jobs);
  room : length l.fn.jobs ≤ vec_capacity l.seats;
}
