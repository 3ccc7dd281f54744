use Rattle.pt_job.proofs.body.AnyBodyBody.run.Goals as goal

pub returns : goal.returns
returns c = c.ended.ensures _ _ _ c.answered.ensures
