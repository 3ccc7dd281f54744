use Rattle.std.proofs.Common.{◌≡◌, length, sym, arith}
use Rattle.std.proofs.lemmas.List.{ext_get_or}
use Rattle.std.proofs.lemmas.Slice.Eq.{bytes_eq-Decides}
use Rattle.pt_text.proofs.word.is_word.Goals as goal

pub returns : goal.returns
returns g c =
    let long : length c.args.word.now ≡ length c.args.name.now = omega arith in
    let same : c.args.word.now ≡ c.args.name.now =
    ext_get_or 0 c.args.word.now c.args.name.now long (λ k h. c.loop-place.invariant k (omega (arith, h))) in
    sym ((bytes_eq-Decides c.args.word.now c.args.name.now).1 same)
