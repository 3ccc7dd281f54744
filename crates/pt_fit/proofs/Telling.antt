-- What was told of a descriptor, and what stays so.
use Rattle.std.proofs.Common.{◌≡◌, List, ◌∷◌, Bool, true, false, Some, None, refl, ap, ◌==◌, if◌then◌else◌}
use Rattle.pt_host.specs.declared.ids.Fd.{Fd}
use Rattle.pt_host.specs.declared.ids.ObjIds.{ObjIds}
use Rattle.pt_law.specs.Discipline.{Told, told_as, told_of}
use Rattle.pt_fit.proofs.Holds.{same}

-- what was told last
pub told_here : (fd : Fd) (ids : ObjIds) (told : List Told) → told_of (told_as fd (Some ids) ∷ told) fd ≡ Some ids
told_here fd ids told = ap (λ (b : Bool). if b then Some ids else told_of told fd) (same fd.0)

-- and what was told before, where another descriptor was opened and looked at, or one of the same number and object
pub told_past : (fd new : Fd) (ids : ObjIds) (told : List Told) → told_of told fd ≡ Some ids →
    told_of (told_as new (Some ids) ∷ told_as new None ∷ told) fd ≡ Some ids
told_past fd new ids told e = go (new.0 == fd.0)
  where
    go : (again : Bool) → (if again then Some ids else if again then None else told_of told fd) ≡ Some ids
    go true = refl
    go false = e
