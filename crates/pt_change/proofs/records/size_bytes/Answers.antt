use Rattle.std.proofs.Common.{◌∙◌}
use Rattle.pt_change.proofs.Listed.{low_bytes}
use Rattle.pt_change.proofs.records.size_bytes.Goals as goal

pub returns : goal.returns
returns c = c.to_le_bytes.ensures ∙ low_bytes c.args.size
