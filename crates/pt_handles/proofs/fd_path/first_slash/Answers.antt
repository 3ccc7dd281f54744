use Rattle.std.proofs.Common.{sym, arith}
use Rattle.std.specs.Prelude.{◌==◌}
use Rattle.pt_handles.proofs.Places.{found, unfound}
use Rattle.pt_handles.proofs.fd_path.first_slash.Goals as goal

pub returns-in-Some-clause-place : goal.returns-in-Some-clause-place
returns-in-Some-clause-place c = sym (found (λ byte. byte == 47) c.args.link.now _ (sym c.in-Some.ensures)).0

pub returns-in-Some-clause-within : goal.returns-in-Some-clause-within
returns-in-Some-clause-within c =
    omega (arith, (found (λ byte. byte == 47) c.args.link.now _ (sym c.in-Some.ensures)).1)

pub returns-in-None-clause-place : goal.returns-in-None-clause-place
returns-in-None-clause-place c =
    let at = unfound (λ byte. byte == 47) c.args.link.now (sym c.in-None.ensures) in cc
