use Rattle.std.proofs.Common.{refl, inl}
use Rattle.pt_handles.specs.Serial.{mount_differs}
use Rattle.pt_handles.specs.declared.serializable.EqualError.TheVariants.{Memory}
use Rattle.pt_handles.proofs.Passing.{is_err}
use Rattle.pt_handles.proofs.serializable.SerializableFileHandle.require_equal.Goals as goal

pub returns-in_err-text-clause-err : goal.returns-in_err-text-clause-err
returns-in_err-text-clause-err c =
    rw (is_err c.from_residual.result Memory c.from_residual.ensures.1)
    (mount_differs c.args.self.now.mnt_id c.args.other.now.mnt_id, inl (c.if-one-two.true, refl))
