use Rattle.std.proofs.Common.{inl}
use Rattle.pt_fs.proofs.RootRefused.{refused_root}
use Rattle.pt_fs.proofs.passthrough.PassthroughFs.new.Goals as goal

pub returns-in_err-root-clause-call : goal.returns-in_err-root-clause-call
returns-in_err-root-clause-call g c =
    let asked = c.in_err-root.ensures.call in
    let result = c.from_residual-in_err-root.result in
    inl (
      c.in_ok-plan.ensures.mapped,
      (asked.0, asked.1, refused_root asked.0 result _ c.from_residual-in_err-root.ensures.1 asked.2),
    )
