use Rattle.std.proofs.Common.{ap, arith, ◌∙◌, ◌++◌, ◌∷◌, []}
use Rattle.pt_fs.proofs.Recording.{replied}
use Rattle.pt_fs.proofs.record.VecTraceStepRecord.write_reply.Goals as goal

pub returns-clause-wrote : goal.returns-clause-wrote
returns-clause-wrote c = λ before job act was. (
  replied before.items c.args.self.now.items _ c.index_mut.result.now _ c.told_twice-copy.result c.len-last.result
      was.0 (omega (arith, c.len-last.ensures, c.args.self.now.ok.0)) c.index_mut.ensures.value
      ∙ ap (λ told. before.items ++ record { job = job; act = act; reply = told } ∷ []) c.told_twice-copy.ensures.same,
  was.1,
)
