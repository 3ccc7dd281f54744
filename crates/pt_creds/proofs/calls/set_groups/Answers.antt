use Rattle.std.proofs.Common.{ℕ, List, [], ◌∷◌, subst}
use Rattle.pt_host.specs.declared.op.KeptHostOp.TheVariants as call
use Rattle.pt_creds.specs.Progress.{Plays}
use Rattle.pt_creds.proofs.Making.{plays_one}
use Rattle.pt_creds.proofs.calls.set_groups.Goals as goal

pub returns-in-Some-clause-played : goal.returns-in-Some-clause-played
returns-in-Some-clause-played g c =
    let one = plays_one g.H.Host.does (call.SetGroups c.as_slice-list.result.now) _ _ _ _ c.make.result c.make.ensures
    in
    rw c.in-Some.is (subst
    (λ (list : List ℕ). Plays g.H.Host.does (call.SetGroups list ∷ []) c.args.host.now c.args.seat.now
    c.make.new.host c.make.new.seat c.make.result)
    c.as_slice-list.ensures.groups one)
