use Rattle.pt_run.proofs.Told.{alike}
use Rattle.pt_run.proofs.laws.report_determines_run.Goals as goal

pub returns : goal.returns
returns c = alike
