use Rattle.std.proofs.Common.{ℕ, sym, subst, take}
use Rattle.std.specs.List.{after_first}
use Rattle.pt_handles.specs.Record.{HasNoNul}
use Rattle.pt_handles.proofs.Places.{found, unfound}
use Rattle.pt_handles.proofs.Padded.{is_nul, before_has_none, no_nul_found, nul_at}
use Rattle.pt_handles.proofs.padding.strip_padding.Goals as goal

pub returns-in-Some-clause-name : goal.returns-in-Some-clause-name
returns-in-Some-clause-name c =
    let at = found is_nul c.args.b.now c.in-Some.end (sym c.in-Some.ensures) in
    subst (λ (n : ℕ). HasNoNul (take n c.args.b.now)) at.0 (before_has_none c.args.b.now)

pub returns-in-Some-clause-nul : goal.returns-in-Some-clause-nul
returns-in-Some-clause-nul c =
    let at = found is_nul c.args.b.now c.in-Some.end (sym c.in-Some.ensures) in
    (after_first is_nul c.args.b.now, nul_at c.args.b.now c.in-Some.end at.0 at.1)

pub returns-in-None-clause-none : goal.returns-in-None-clause-none
returns-in-None-clause-none c = no_nul_found c.args.b.now (unfound is_nul c.args.b.now (sym c.in-None.ensures))
