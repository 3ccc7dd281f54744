use Rattle.std.proofs.Common.{List, arith, subst}
use Rattle.pt_frame.specs.Machine.Room.{most_holds, most_rows, most_told}
use Rattle.pt_frame.specs.Machine.Walk.{IsStop, walk}
use Rattle.pt_frame.specs.declared.told.Heard.{Heard}
use Rattle.pt_frame.proofs.Keeping.{sooner, stops_room, walk_keeps}
use Rattle.pt_frame.proofs.machine.going.hear_of.Goals as goal

pub hear-requires : goal.hear-requires
hear-requires g c =
    let body = c.args.body.now in
    let tree = g.B.Body.tree body c.args.plan.now c.args.seat.now in
    let told = c.args.told.now in
    let is = subst (λ (x : List Heard). IsStop x (walk tree x) c.run-stop.result) c.as_slice.ensures
    c.run-stop.ensures in
    let room = stops_room told (walk tree told) c.run-stop.result _ _ _ _ is
    (walk_keeps tree told most_told (g.B.Body.acts body) most_holds most_rows
    (sooner tree most_told (g.B.Body.acts body) most_holds most_rows
    (g.met.B.Body.within body c.args.plan.now c.args.seat.now))) in
    omega (arith, room, c.requires)
