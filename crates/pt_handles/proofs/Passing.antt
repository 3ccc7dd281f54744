-- Proof. An error that is passed on, and what is there or not.
use Rattle.std.proofs.Common.{◌≡◌, ◌⊎◌, ap, refl, inl, inr, Option, Some, None}
use Rattle.std.specs.Prelude.{Result, Ok, Err, IsErrAnd}

pub is_err : {T E : Type 0} (told : Result T E) (error : E) → IsErrAnd told (λ one. one ≡ error) → told ≡ Err error
is_err (Ok done) error is = absurd is
is_err (Err one) error is = ap (λ e. Err e) is

pub is_some_or_none : {A : Type 0} (found : Option A) → (found ≡ None) ⊎ ((one : A) × (found ≡ Some one))
is_some_or_none None = inl refl
is_some_or_none (Some one) = inr (one, refl)
