use Rattle.std.proofs.Common.{◌≡◌, ℕ, List, ◌++◌, OnOk, subst, ap, ◌∙◌}
use Rattle.pt_show.specs.Texts.{number_text}
use Rattle.pt_show.proofs.PlainTexts.{switch_number}
use Rattle.pt_show.proofs.plain.BoolText.write.Goals as goal

pub returns : goal.returns
returns c =
    subst (λ (text : List ℕ). OnOk c.push_number.result (c.push_number.new.out.items ≡ c.args.out.now.items ++ text))
    (ap number_text c.from.ensures ∙ switch_number c.args.self.now) c.push_number.ensures
