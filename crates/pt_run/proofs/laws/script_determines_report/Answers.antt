use Rattle.pt_run.proofs.Determined.{only}
use Rattle.pt_run.proofs.laws.script_determines_report.Goals as goal

pub returns : goal.returns
returns c = only
