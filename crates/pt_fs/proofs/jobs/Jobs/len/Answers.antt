use Rattle.std.proofs.Common.{◌∙◌, sym}
use Rattle.pt_fs.proofs.Runs.{as_many}
use Rattle.pt_fs.proofs.jobs.Jobs.len.Goals as goal

pub returns : goal.returns
returns c = c.len.ensures ∙ sym (as_many c.self.invariant c.self.view_is)
