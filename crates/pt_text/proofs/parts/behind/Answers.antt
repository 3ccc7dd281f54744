use Rattle.std.proofs.Common.{arith}
use Rattle.std.proofs.lemmas.List.{take_rest}
use Rattle.pt_text.proofs.FirstNumber.{first_and_others, first_alone}
use Rattle.pt_text.proofs.parts.behind.Goals as goal

pub returns-then-count-text : goal.returns-then-count-text
returns-then-count-text c =
    rw take_rest (first_and_others c.args.text.now c.args.count c.requires c.if-count-text.true)

pub returns-else-count-text : goal.returns-else-count-text
returns-else-count-text c = first_alone c.args.text.now c.args.count c.requires (omega arith)
