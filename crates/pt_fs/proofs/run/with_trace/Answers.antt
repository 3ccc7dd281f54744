use Rattle.std.proofs.Common.{◌++◌, ◌∷◌, ◌∙◌, List, [], ap, length, append_assoc, arith}
use Rattle.std.proofs.lemmas.List.{length-append}
use Rattle.std.specs.Vec.Iter.{into_iter_items}
use Rattle.pt_host.specs.declared.seat.HostSeat.{HostSeat}
use Rattle.pt_fs.specs.Trace.{seated}
use Rattle.pt_fs.proofs.Traces.{seated_one, seated_few}
use Rattle.pt_fs.proofs.run.with_trace.Goals as goal

pub loop-seat-preserved : goal.loop-seat-preserved
loop-seat-preserved g c =
    let rest = into_iter_items c.next.new.self in
    let is = c.in-Some.ensures.steps.0 in
    let long = ap length is in
    let left = c.push_seat.ensures.items in
    let room = c.loop-seat.invariant.room in
    record {
      seats = rw left (append_assoc c.loop-seat.seats.items (seated (c.in-Some.seat ∷ [])) (seated rest)
          ∙ ap (λ (l : List HostSeat). c.loop-seat.seats.items ++ l) (seated_one c.in-Some.seat rest)
          ∙ (rw is at c.loop-seat.invariant.seats));
      room = let grown = c.push_seat.ensures.capacity in
          let e = ap length left ∙ length-append c.loop-seat.seats.items (seated (c.in-Some.seat ∷ [])) in
          let few = seated_few c.in-Some.seat in omega arith;
      count = let one = c.in-Some.ensures.steps.1 in let same = c.loop-seat.invariant.count in omega arith;
    }
