use Rattle.std.proofs.Common.{◌∙◌, inl, inr, refl, arith}
use Rattle.pt_fs.proofs.Lists.{set-same}
use Rattle.pt_fs.proofs.lost.cut_one.Goals as goal

pub returns-then-id-lost : goal.returns-then-id-lost
returns-then-id-lost c = record {
  cut = λ run at. (
    run,
    set-same c.args.running.now c.args.id.0 run at,
    inl (refl, inl (omega (arith, c.if-id-lost.true))),
    omega arith,
    omega arith,
  );
}

pub returns-then-is_finished : goal.returns-then-is_finished
returns-then-is_finished c = record {
  cut = λ run at. (
    run,
    set-same c.args.running.now c.args.id.0 run at,
    inl (refl, inr (c.is_finished.ensures.result run at ∙ c.if-is_finished.true)),
    omega arith,
    omega arith,
  );
}
