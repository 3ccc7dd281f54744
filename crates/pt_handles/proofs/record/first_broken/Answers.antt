use Rattle.std.proofs.lemmas.List.{take_rest, length-take, length-drop}
use Rattle.std.proofs.Common.{◌-◌, drop, length, subst, arith, ℕ, List}
use Rattle.pt_handles.specs.Record.{Dirent, BeginsWith}
use Rattle.pt_handles.specs.Reading.{HasRecord}
use Rattle.pt_handles.proofs.Listings.{one_more}
use Rattle.pt_handles.proofs.record.first_broken.Goals as goal

pub loop-place-preserved : goal.loop-place-preserved
loop-place-preserved c =
    let bytes = c.args.bytes.now in
    let place = c.loop-place.place in
    let has =
    subst (λ (l : List ℕ). HasRecord l c.in-Some.size) (take_rest bytes place) c.in-Some.ensures.some
    in
    record {
      within =
          omega (
            arith,
            c.in-Some.ensures.within,
            length-take (length bytes - place) (drop place bytes),
            length-drop place bytes,
            c.loop-place.invariant.within,
          );
      before = one_more bytes place c.in-Some.size c.loop-place.invariant.before has;
    }

pub returns-in-None-clause-some : goal.returns-in-None-clause-some
returns-in-None-clause-some c =
    let bytes = c.args.bytes.now in
    let place = c.loop-place.place in
    record {
      before = c.loop-place.invariant.before.0;
      whole = c.loop-place.invariant.before.1;
      within = c.loop-place-test.true;
      broken =
          subst
          (λ (l : List ℕ). (entry : Dirent) (rest : List ℕ) → BeginsWith l entry rest → ⊥)
          (take_rest bytes place) c.in-None.ensures.none;
    }
