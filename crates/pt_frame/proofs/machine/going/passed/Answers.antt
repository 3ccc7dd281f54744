use Rattle.std.proofs.Common.{List, ℕ, ◌∙◌, subst, sym}
use Rattle.pt_frame.specs.Frame.{outer}
use Rattle.pt_frame.specs.Machine.Enters.{Enters, Gave}
use Rattle.pt_frame.specs.declared.told.Heard.{Heard}
use Rattle.pt_frame.proofs.Entering.{bares_room, gave_bares, gave_shuts, shuts_room}
use Rattle.pt_frame.proofs.machine.going.passed.Goals as goal

pub entered-requires : goal.entered-requires
entered-requires g c = record {
  room = rw c.push.ensures (bares_room c.args.holds.now c.args.told.now c.args.marks.now
      (rw c.in-Bares.is at c.requires.room));
}

pub entered-requires-in-Shuts : goal.entered-requires-in-Shuts
entered-requires-in-Shuts g c = record {
  room = rw (c.push-in-Shuts.ensures, c.pop.ensures) (shuts_room c.args.holds.now c.args.told.now c.args.marks.now
      (rw c.in-Shuts.is at c.requires.room));
}

pub returns-in-Bares : goal.returns-in-Bares
returns-in-Bares g c =
    let body = c.args.body.now in
    let seat = c.args.seat.now in
    let tree = g.B.Body.tree body c.args.plan.now seat in
    let acts = g.B.Body.acts body in
    let holds = c.args.holds.now in
    let law = g.met.B.Body.within body c.args.plan.now seat in
    let enters = subst (λ (x : List Heard). Enters seat tree acts holds x c.args.marks.now c.entered.result
    c.entered.new.told c.entered.new.marks) c.push.ensures c.entered.ensures in
    record {
      enters = λ lost tells. rw (c.go_to.ensures, c.in-Bares.is) (gave_bares seat tree acts holds c.args.told.now
          c.entered.new.told c.args.marks.now c.entered.new.marks c.entered.result lost
          (sym c.tops.ensures ∙ c.if-not-tops.true) law enters (rw c.in-Bares.is at tells));
    }

pub returns-in-Shuts : goal.returns-in-Shuts
returns-in-Shuts g c =
    let body = c.args.body.now in
    let seat = c.args.seat.now in
    let tree = g.B.Body.tree body c.args.plan.now seat in
    let acts = g.B.Body.acts body in
    let holds = c.args.holds.now in
    let law = g.met.B.Body.within body c.args.plan.now seat in
    let marks = subst (λ (x : List ℕ). Enters seat tree acts holds c.push-in-Shuts.new.self x c.entered-in-Shuts.result
    c.entered-in-Shuts.new.told c.entered-in-Shuts.new.marks) c.pop.ensures c.entered-in-Shuts.ensures in
    let enters = subst (λ (x : List Heard). Enters seat tree acts holds x (outer c.args.marks.now)
    c.entered-in-Shuts.result c.entered-in-Shuts.new.told c.entered-in-Shuts.new.marks) c.push-in-Shuts.ensures
    marks in
    record {
      enters = λ lost tells. rw (c.go_to-in-Shuts.ensures, c.in-Shuts.is) (gave_shuts seat tree acts holds
          c.args.told.now c.entered-in-Shuts.new.told c.args.marks.now c.entered-in-Shuts.new.marks
          c.entered-in-Shuts.result c.in-Shuts.passes lost (sym c.is_above.ensures ∙ c.if-not-is_above.true) law enters
          (rw c.in-Shuts.is at tells));
    }
