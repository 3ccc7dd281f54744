use Rattle.std.proofs.Common.{◌∷◌, [], refl, eq-eqb, rules}
use Rattle.pt_host.specs.declared.op.KeptHostOp.TheVariants as call
use Rattle.pt_creds.specs.Calls.{CallMade}
use Rattle.pt_creds.proofs.Making.{went}
use Rattle.pt_creds.proofs.caps.drop_effective_cap.Goals as goal

pub returns-in-Ok-clause-made : goal.returns-in-Ok-clause-made
returns-in-Ok-clause-made g c =
    let made = c.in-Ok.ensures in
    let only : CallMade = record { asked = call.DropCap c.args.cap; told = made.0 } in
    (only ∷ [], (_, _, made.1, (refl, refl)), (eq-eqb _ _ c.if-not-is_effective.false, refl, made.2, refl))

pub returns-in-Err-clause-made : goal.returns-in-Err-clause-made
returns-in-Err-clause-made g c =
    let made = c.in-Err.ensures in
    let only : CallMade = record { asked = call.DropCap c.args.cap; told = made.0 } in
    (only ∷ [], (_, _, made.1, (refl, refl)), (eq-eqb _ _ c.if-not-is_effective.false, refl, made.2))

pub returns-in-Ok-clause-guard : goal.returns-in-Ok-clause-guard
returns-in-Ok-clause-guard g c =
    let made = c.in-Ok.ensures in
    let step = (g.met.H.Host.promised c.args.host.now c.args.seat.now (call.DropCap c.args.cap) made.0 _ _
    made.1).seats in
    record {
      permitted = c.requires.caps;
      effective = eq-eqb _ _ c.if-not-is_effective.false;
      caps_fit = search rules;
      cap_fits = search rules;
      dropped = went c.args.seat.now (call.DropCap c.args.cap) made.0 _ step made.2;
    }
