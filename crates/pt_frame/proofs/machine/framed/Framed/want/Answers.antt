use Rattle.std.proofs.Common.{◌≡◌, ◌∷◌, List, sym, subst, drop}
use Rattle.pt_frame.specs.Deed.{deed_of}
use Rattle.pt_frame.specs.Machine.Walk.{asking, deed_in, walk}
use Rattle.pt_frame.specs.Grammar.{Wants}
use Rattle.pt_frame.specs.Frame.{behind}
use Rattle.pt_frame.specs.declared.act.Want.TheVariants as want
use Rattle.pt_frame.specs.declared.told.Heard.{Heard}
use Rattle.pt_frame.proofs.Framing.{body_wants, gives_wanted, left_now}
use Rattle.pt_frame.proofs.machine.framed.Framed.want.Goals as goal

pub returns-in-Body : goal.returns-in-Body
returns-in-Body g c =
    let at = c.self.inside in
    let seat = c.args.seat.now in
    let own = g.B.Body.tree at.body c.args.plan.now seat in
    let tree = walk own at.told in
    let asks = subst (λ (heard : List Heard). deed_of c.wanted.result ≡ deed_in (asking (walk own heard)))
    c.as_slice.ensures (c.wanted.ensures _ _ c.run.ensures) in
    rw (← c.self.view_is) (subst (λ x. Wants x (want.Step c.wanted.result))
    (sym (left_now seat at.taken at.closings at.mode tree at.holds at.marks c.in-Nothing.is c.if-self-gt0.false))
    (rw c.in-Body.is (body_wants seat tree at.holds at.marks c.wanted.result asks)))

pub returns-in-Some : goal.returns-in-Some
returns-in-Some g c =
    let at = c.self.inside in
    let seat = c.args.seat.now in
    let tree = walk (g.B.Body.tree at.body c.args.plan.now seat) at.told in
    rw (← c.self.view_is) (subst (λ x. Wants x (want.Step c.giving.result))
    (sym (left_now seat at.taken at.closings at.mode tree at.holds at.marks c.in-Nothing.is c.if-self-gt0.false))
    (gives_wanted seat at.mode tree at.holds at.marks c.in-Some.hold _ c.giving.result c.in_default.not-Body
    c.self.invariant.1 (subst (λ p. behind p at.holds ≡ c.in-Some.hold ∷ drop 1 (behind p at.holds))
    c.passes_at.ensures
    c.in-Some.ensures.some) c.giving.ensures))
