use Rattle.std.proofs.Common.{sym, ◌∙◌, ◌==◌}
use Rattle.std.proofs.lemmas.List.{take_rest}
use Rattle.pt_text.proofs.PartsLemmas.{slice_split_place, slice_split_whole}
use Rattle.pt_text.proofs.parts.first_part.Goals as goal

pub returns-in-Some : goal.returns-in-Some
returns-in-Some c =
    rw take_rest (slice_split_place (λ b.
    b == c.args.separator) c.args.text.now c.in-Some.place (sym c.place_of.ensures ∙ c.in-Some.is))

pub returns-in-None : goal.returns-in-None
returns-in-None c =
    slice_split_whole (λ b. b == c.args.separator) c.args.text.now (sym c.place_of.ensures ∙ c.in-None.is)
