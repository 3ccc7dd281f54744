use Rattle.pt_show.proofs.DigitTables.{tens_at}
use Rattle.pt_show.proofs.plain.tens.Goals as goal

pub returns : goal.returns
returns c = tens_at c.args.number c.requires
