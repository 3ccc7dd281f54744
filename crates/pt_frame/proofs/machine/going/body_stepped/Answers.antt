use Rattle.std.proofs.Common.{List, subst}
use Rattle.pt_frame.specs.Machine.Enters.{Enters}
use Rattle.pt_frame.specs.declared.told.Heard.{Heard}
use Rattle.pt_frame.proofs.Entering.{Goes, Hears, goes_on, hears}
use Rattle.pt_frame.proofs.machine.going.body_stepped.Goals as goal

pub push-requires : goal.push-requires
push-requires g c =
    let body = c.args.body.now in
    let tree = g.B.Body.tree body c.args.plan.now c.args.seat.now in
    let law = g.met.B.Body.within body c.args.plan.now c.args.seat.now in
    (hears tree (g.B.Body.acts body) c.args.holds.now c.hear_of.new.holds c.args.told.now c.args.marks.now c.args.reply
    c.in-Some.closings c.in-Some.may law c.in-Some.ensures.some c.requires.room).within

pub entered-requires : goal.entered-requires
entered-requires g c =
    let body = c.args.body.now in
    let tree = g.B.Body.tree body c.args.plan.now c.args.seat.now in
    let law = g.met.B.Body.within body c.args.plan.now c.args.seat.now in
    record {
      room = rw c.push.ensures (hears tree (g.B.Body.acts body) c.args.holds.now c.hear_of.new.holds c.args.told.now
          c.args.marks.now c.args.reply c.in-Some.closings c.in-Some.may law c.in-Some.ensures.some
          c.requires.room).room;
    }

pub returns-in-Some-clause-left : goal.returns-in-Some-clause-left
returns-in-Some-clause-left g c =
    let body = c.args.body.now in
    let seat = c.args.seat.now in
    let tree = g.B.Body.tree body c.args.plan.now seat in
    let acts = g.B.Body.acts body in
    let held = c.hear_of.new.holds in
    let enters = subst (λ (x : List Heard). Enters seat tree acts held x c.args.marks.now c.entered.result
    c.entered.new.told c.entered.new.marks) c.push.ensures c.entered.ensures in
    rw c.go_to-in-Some.ensures (goes_on seat tree acts c.args.holds.now held c.args.told.now c.entered.new.told
    c.args.marks.now c.entered.new.marks c.args.reply c.in-Some.closings c.in-Some.may c.entered.result
    (g.met.B.Body.within body c.args.plan.now seat) c.in-Some.ensures.some enters).left

pub returns-in-Some-clause-fewer : goal.returns-in-Some-clause-fewer
returns-in-Some-clause-fewer g c =
    let body = c.args.body.now in
    let seat = c.args.seat.now in
    let tree = g.B.Body.tree body c.args.plan.now seat in
    let acts = g.B.Body.acts body in
    let held = c.hear_of.new.holds in
    let enters = subst (λ (x : List Heard). Enters seat tree acts held x c.args.marks.now c.entered.result
    c.entered.new.told c.entered.new.marks) c.push.ensures c.entered.ensures in
    rw c.go_to-in-Some.ensures (goes_on seat tree acts c.args.holds.now held c.args.told.now c.entered.new.told
    c.args.marks.now c.entered.new.marks c.args.reply c.in-Some.closings c.in-Some.may c.entered.result
    (g.met.B.Body.within body c.args.plan.now seat) c.in-Some.ensures.some enters).fewer

pub returns-in-Some-clause-rows : goal.returns-in-Some-clause-rows
returns-in-Some-clause-rows g c =
    let body = c.args.body.now in
    let seat = c.args.seat.now in
    let tree = g.B.Body.tree body c.args.plan.now seat in
    let acts = g.B.Body.acts body in
    let held = c.hear_of.new.holds in
    let enters = subst (λ (x : List Heard). Enters seat tree acts held x c.args.marks.now c.entered.result
    c.entered.new.told c.entered.new.marks) c.push.ensures c.entered.ensures in
    rw c.go_to-in-Some.ensures (goes_on seat tree acts c.args.holds.now held c.args.told.now c.entered.new.told
    c.args.marks.now c.entered.new.marks c.args.reply c.in-Some.closings c.in-Some.may c.entered.result
    (g.met.B.Body.within body c.args.plan.now seat) c.in-Some.ensures.some enters).rows
