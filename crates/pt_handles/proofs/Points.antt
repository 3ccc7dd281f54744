-- Proof. The calls by which a mount point is opened, with the closing of what was opened first.
use Rattle.std.proofs.Common.{◌≡◌, ℕ, List, [], ◌∷◌, ◌++◌, None, Result, Ok, Err}
use Rattle.std.specs.Prelude.{◌==◌, position}
use Rattle.pt_host.specs.declared.ids.Fd.{Fd}
use Rattle.pt_host.specs.declared.op.KeptHostOp.TheVariants as call
use Rattle.pt_handles.specs.Calls.{CallMade, Opens, Closes}
use Rattle.pt_handles.specs.MountCalls.{OpensPoint, by_path}
use Rattle.pt_handles.specs.MountSteps.{OpensFit}
use Rattle.pt_handles.specs.declared.mount_cause.MountCause.{MountCause}

pub closing_point : (id : ℕ) (point : List ℕ) (fd : Fd) (opening closing : CallMade) (made : List CallMade)
    (result : Result Fd MountCause) → position (λ byte. byte == 0) point ≡ None →
    Opens opening (call.OpenRoot point by_path) fd → Closes closing fd → OpensFit id fd made result →
    OpensPoint id point (opening ∷ (made ++ closing ∷ [])) result
closing_point id point fd opening closing [] result clean opens closes fit = absurd fit
closing_point id point fd opening closing (looking ∷ []) (Ok other) clean opens closes fit = absurd fit
closing_point id point fd opening closing (looking ∷ []) (Err why) clean opens closes fit =
    (fd, clean, opens, fit.0, fit.1, closes)
closing_point id point fd opening closing (looking ∷ reopening ∷ []) result clean opens closes fit =
    (fd, fit.0, clean, opens, fit.1, fit.2, fit.3, fit.4, fit.5, closes)
closing_point id point fd opening closing (one ∷ two ∷ three ∷ more) result clean opens closes fit = absurd fit
