use Rattle.std.proofs.Common.{List, ap, sym, ◌∙◌, subst}
use Rattle.pt_frame.specs.Machine.Walk.{walk}
use Rattle.pt_frame.specs.Tree.{Gives}
use Rattle.pt_frame.specs.Machine.Enters.{Passes}
use Rattle.pt_frame.specs.declared.told.Heard.{Heard}
use Rattle.pt_frame.proofs.Ahead.{ahead_gives, ahead_moves, ahead_of}
use Rattle.pt_frame.proofs.Entering.{brackets_fit, enters_act, enters_bares, enters_gives, enters_refuses, enters_shuts}
use Rattle.pt_frame.proofs.Entering.{enters_ends, passes_bares, passes_brackets, passes_makes, passes_shuts}
use Rattle.pt_frame.proofs.machine.going.marked.Goals as goal

pub answer-requires : goal.answer-requires
answer-requires g c =
    let body = c.args.body.now in
    let tree = g.B.Body.tree body c.args.plan.now c.args.seat.now in
    let told = c.args.told.now in
    let is = ahead_of tree _ told _ _ c.as_slice.ensures (c.comes_next.ensures _ _ c.run.ensures) c.in-Moves.is in
    (ahead_moves told (walk tree told) _ _ is).has

pub returns-then-tops-clause-some : goal.returns-then-tops-clause-some
returns-then-tops-clause-some g c =
    let body = c.args.body.now in
    let tree = g.B.Body.tree body c.args.plan.now c.args.seat.now in
    let told = c.args.told.now in
    let law = g.met.B.Body.within body c.args.plan.now c.args.seat.now in
    let is = ahead_of tree _ told _ _ c.as_slice.ensures (c.comes_next.ensures _ _ c.run.ensures) c.in-Bares.is in
    enters_bares c.args.seat.now tree (g.B.Body.acts body) c.args.holds.now told c.args.marks.now law is
    (sym c.tops.ensures ∙ c.if-tops.true)
    c.requires.room

pub push-requires : goal.push-requires
push-requires g c =
    let body = c.args.body.now in
    let tree = g.B.Body.tree body c.args.plan.now c.args.seat.now in
    let told = c.args.told.now in
    let law = g.met.B.Body.within body c.args.plan.now c.args.seat.now in
    let is = ahead_of tree _ told _ _ c.as_slice.ensures (c.comes_next.ensures _ _ c.run.ensures) c.in-Bares.is in
    (passes_bares c.args.seat.now tree (g.B.Body.acts body) c.args.holds.now told c.args.marks.now law is
    (sym c.tops.ensures ∙ c.if-tops.false) c.requires.room).within

pub push-requires-in-Brackets-clause-room : goal.push-requires-in-Brackets-clause-room
push-requires-in-Brackets-clause-room g c =
    let body = c.args.body.now in
    let tree = g.B.Body.tree body c.args.plan.now c.args.seat.now in
    let told = c.args.told.now in
    let law = g.met.B.Body.within body c.args.plan.now c.args.seat.now in
    let is = ahead_of tree _ told _ _ c.as_slice.ensures (c.comes_next.ensures _ _ c.run.ensures) c.in-Brackets.is in
    brackets_fit tree (g.B.Body.acts body) c.args.holds.now told c.args.marks.now law is c.requires.room

pub push-requires-in-Brackets-2 : goal.push-requires-in-Brackets-2
push-requires-in-Brackets-2 g c =
    let body = c.args.body.now in
    let tree = g.B.Body.tree body c.args.plan.now c.args.seat.now in
    let told = c.args.told.now in
    let law = g.met.B.Body.within body c.args.plan.now c.args.seat.now in
    let is = ahead_of tree _ told _ _ c.as_slice.ensures (c.comes_next.ensures _ _ c.run.ensures) c.in-Brackets.is in
    (passes_brackets c.args.seat.now tree (g.B.Body.acts body) c.args.holds.now told c.args.marks.now law is
    c.requires.room).within

pub returns-then-is_above-clause-some : goal.returns-then-is_above-clause-some
returns-then-is_above-clause-some g c =
    let body = c.args.body.now in
    let tree = g.B.Body.tree body c.args.plan.now c.args.seat.now in
    let told = c.args.told.now in
    let law = g.met.B.Body.within body c.args.plan.now c.args.seat.now in
    let is = ahead_of tree _ told _ _ c.as_slice.ensures (c.comes_next.ensures _ _ c.run.ensures) c.in-Shuts.is in
    enters_shuts c.args.seat.now tree (g.B.Body.acts body) c.args.holds.now told c.args.marks.now _ law is
    (sym c.is_above.ensures ∙ c.if-is_above.true) c.requires.room

pub push-requires-in-Shuts : goal.push-requires-in-Shuts
push-requires-in-Shuts g c =
    let body = c.args.body.now in
    let tree = g.B.Body.tree body c.args.plan.now c.args.seat.now in
    let told = c.args.told.now in
    let law = g.met.B.Body.within body c.args.plan.now c.args.seat.now in
    let is = ahead_of tree _ told _ _ c.as_slice.ensures (c.comes_next.ensures _ _ c.run.ensures) c.in-Shuts.is in
    (passes_shuts c.args.seat.now tree (g.B.Body.acts body) c.args.holds.now told c.args.marks.now _ law is
    (sym c.is_above.ensures ∙ c.if-is_above.false) c.requires.room).within

pub returns-in-Act-clause-some : goal.returns-in-Act-clause-some
returns-in-Act-clause-some g c =
    let body = c.args.body.now in
    let tree = g.B.Body.tree body c.args.plan.now c.args.seat.now in
    let told = c.args.told.now in
    let law = g.met.B.Body.within body c.args.plan.now c.args.seat.now in
    let is = ahead_of tree _ told _ _ c.as_slice.ensures (c.comes_next.ensures _ _ c.run.ensures) c.in-Act.is in
    enters_act c.args.seat.now tree (g.B.Body.acts body) c.args.holds.now told c.args.marks.now law is c.requires.room

pub returns-in-Gives-clause-some : goal.returns-in-Gives-clause-some
returns-in-Gives-clause-some g c =
    let body = c.args.body.now in
    let tree = g.B.Body.tree body c.args.plan.now c.args.seat.now in
    let told = c.args.told.now in
    let is = ahead_of tree _ told _ _ c.as_slice.ensures (c.comes_next.ensures _ _ c.run.ensures) c.in-Gives.is in
    enters_gives c.args.seat.now tree (g.B.Body.acts body) c.args.holds.now told told c.args.marks.now
    c.answered.result _
    (ahead_gives told (walk tree told) _ is) (c.answered.ensures.left c.args.seat.now) c.answered.ensures.ready
    c.answered.ensures.tells c.answered.ensures.counts c.answered.ensures.stays c.requires.room

pub returns-in-Moves-clause-some : goal.returns-in-Moves-clause-some
returns-in-Moves-clause-some g c =
    let body = c.args.body.now in
    let tree = g.B.Body.tree body c.args.plan.now c.args.seat.now in
    let told = c.args.told.now in
    let is = ahead_of tree _ told _ _ c.as_slice.ensures (c.comes_next.ensures _ _ c.run.ensures) c.in-Moves.is in
    enters_gives c.args.seat.now tree (g.B.Body.acts body) c.args.holds.now told c.answer.new.self c.args.marks.now
    c.answered-in-Moves.result c.answer.result
    ((ahead_moves told (walk tree told) _ _ is).same ∙ ap Gives (sym c.answer.ensures))
    (c.answered-in-Moves.ensures.left c.args.seat.now) c.answered-in-Moves.ensures.ready
    c.answered-in-Moves.ensures.tells c.answered-in-Moves.ensures.counts c.answered-in-Moves.ensures.stays
    c.requires.room

pub returns-in-Refuses-clause-some : goal.returns-in-Refuses-clause-some
returns-in-Refuses-clause-some g c =
    let body = c.args.body.now in
    let tree = g.B.Body.tree body c.args.plan.now c.args.seat.now in
    let told = c.args.told.now in
    let is = ahead_of tree _ told _ _ c.as_slice.ensures (c.comes_next.ensures _ _ c.run.ensures) c.in-Refuses.is in
    enters_refuses c.args.seat.now tree (g.B.Body.acts body) c.args.holds.now told c.args.marks.now _ is c.requires.room

pub returns-else-tops-clause-none : goal.returns-else-tops-clause-none
returns-else-tops-clause-none g c =
    let body = c.args.body.now in
    let tree = g.B.Body.tree body c.args.plan.now c.args.seat.now in
    let told = c.args.told.now in
    let law = g.met.B.Body.within body c.args.plan.now c.args.seat.now in
    let is = ahead_of tree _ told _ _ c.as_slice.ensures (c.comes_next.ensures _ _ c.run.ensures) c.in-Bares.is in
    subst (λ (x : List Heard). Passes c.args.seat.now tree c.args.holds.now told c.args.marks.now x c.args.marks.now)
    (sym c.push.ensures)
    (passes_bares c.args.seat.now tree (g.B.Body.acts body) c.args.holds.now told c.args.marks.now law is
    (sym c.tops.ensures ∙ c.if-tops.false)
    c.requires.room)

pub returns-in-Brackets-clause-none : goal.returns-in-Brackets-clause-none
returns-in-Brackets-clause-none g c =
    let body = c.args.body.now in
    let tree = g.B.Body.tree body c.args.plan.now c.args.seat.now in
    let told = c.args.told.now in
    let law = g.met.B.Body.within body c.args.plan.now c.args.seat.now in
    let is = ahead_of tree _ told _ _ c.as_slice.ensures (c.comes_next.ensures _ _ c.run.ensures) c.in-Brackets.is in
    rw (c.push-in-Brackets-2.ensures, c.push-in-Brackets.ensures, c.len.ensures)
    (passes_brackets c.args.seat.now tree (g.B.Body.acts body) c.args.holds.now told c.args.marks.now law is
    c.requires.room)

pub returns-else-is_above-clause-none : goal.returns-else-is_above-clause-none
returns-else-is_above-clause-none g c =
    let body = c.args.body.now in
    let tree = g.B.Body.tree body c.args.plan.now c.args.seat.now in
    let told = c.args.told.now in
    let law = g.met.B.Body.within body c.args.plan.now c.args.seat.now in
    let is = ahead_of tree _ told _ _ c.as_slice.ensures (c.comes_next.ensures _ _ c.run.ensures) c.in-Shuts.is in
    rw (c.push-in-Shuts.ensures, c.pop.ensures)
    (passes_shuts c.args.seat.now tree (g.B.Body.acts body) c.args.holds.now told c.args.marks.now _ law is
    (sym c.is_above.ensures ∙ c.if-is_above.false) c.requires.room)

pub push-requires-in-Makes : goal.push-requires-in-Makes
push-requires-in-Makes g c =
    let body = c.args.body.now in
    let tree = g.B.Body.tree body c.args.plan.now c.args.seat.now in
    let told = c.args.told.now in
    let law = g.met.B.Body.within body c.args.plan.now c.args.seat.now in
    let is = ahead_of tree _ told _ _ c.as_slice.ensures (c.comes_next.ensures _ _ c.run.ensures) c.in-Makes.is in
    (passes_makes c.args.seat.now tree (g.B.Body.acts body) c.args.holds.now told c.args.marks.now _ law is
    c.requires.room).within

pub returns-in-Makes-clause-none : goal.returns-in-Makes-clause-none
returns-in-Makes-clause-none g c =
    let body = c.args.body.now in
    let tree = g.B.Body.tree body c.args.plan.now c.args.seat.now in
    let told = c.args.told.now in
    let law = g.met.B.Body.within body c.args.plan.now c.args.seat.now in
    let is = ahead_of tree _ told _ _ c.as_slice.ensures (c.comes_next.ensures _ _ c.run.ensures) c.in-Makes.is in
    rw c.push-in-Makes.ensures (passes_makes c.args.seat.now tree (g.B.Body.acts body) c.args.holds.now told
    c.args.marks.now _ law is c.requires.room)

pub returns-in-GivesUp-clause-some : goal.returns-in-GivesUp-clause-some
returns-in-GivesUp-clause-some g c =
    let body = c.args.body.now in
    let tree = g.B.Body.tree body c.args.plan.now c.args.seat.now in
    let told = c.args.told.now in
    let law = g.met.B.Body.within body c.args.plan.now c.args.seat.now in
    let is = ahead_of tree _ told _ _ c.as_slice.ensures (c.comes_next.ensures _ _ c.run.ensures) c.in-GivesUp.is in
    enters_ends c.args.seat.now tree (g.B.Body.acts body) c.args.holds.now told c.args.marks.now is c.requires.room
