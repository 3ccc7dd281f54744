use Rattle.pt_show.proofs.DigitTables.{ones_at}
use Rattle.pt_show.proofs.plain.ones.Goals as goal

pub returns : goal.returns
returns c = ones_at c.args.number c.requires
