use Rattle.std.proofs.Common.{◌≡◌, ◌≤◌, ◌+◌, ◌++◌, length, vec_capacity}
use Rattle.std.specs.Vec.Iter.{into_iter_items, into_iter_len}
use Rattle.pt_fs.specs.Trace.{seated}
use Rattle.pt_fs.proofs.run.with_trace.Given as goal

abbrev pub invariant-loop-seat : goal.invariant-loop-seat
invariant-loop-seat g l = record {
  seats : l.seats.items ++ seated (into_iter_items l.seat-iterator) ≡ seated l.fn.left.seats.items;
  room : length l.seats.items + length (into_iter_items l.seat-iterator) ≤ vec_capacity l.seats;
  count : into_iter_len l.seat-iterator ≡ length (into_iter_items l.seat-iterator);
}
