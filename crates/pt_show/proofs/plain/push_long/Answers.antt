use Rattle.std.proofs.Common.{◌≡◌, ℕ, List, ◌∷◌, ◌++◌, OnOk, subst, sym, arith}
use Rattle.std.proofs.lemmas.Grind.{common_steps}
use Rattle.pt_show.proofs.PlainTexts.{digits_are_decimal}
use Rattle.pt_show.proofs.plain.push_long.Goals as goal

pub returns : goal.returns
returns c =
    subst (λ (text : List ℕ). OnOk c.push_decimal.result
    (c.push_decimal.new.out.items ≡ c.args.out.now.items ++ (32 ∷ text)))
    (sym (digits_are_decimal c.args.number (omega arith))) (grind (arith, common_steps))
