use Rattle.pt_show.proofs.Values.{texts_tell}
use Rattle.pt_show.proofs.laws.texts_tell_values.Goals as goal

pub returns : goal.returns
returns c = texts_tell
