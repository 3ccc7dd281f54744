use Rattle.std.proofs.Common.{◌==◌}
use Rattle.pt_text.proofs.PartsLemmas.{position_from_search}
use Rattle.pt_text.proofs.parts.far_place_of.Goals as goal

pub returns : goal.returns
returns c =
    position_from_search (λ b. b == c.args.separator) c.args.text.now c.memchr.result c.memchr.ensures
