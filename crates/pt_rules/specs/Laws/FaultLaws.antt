-- Proof. What a call that fails as planned leaves, and that it may fail so.
use Rattle.std.proofs.Common.{◌≡◌, ◌≢◌, ◌≤◌, ◌+◌, ◌-◌, ◌^◌, ◌||◌, nat_lt, ℕ, Bool, true, false, min, cond, Some, refl}
use Rattle.std.proofs.Common.{ap, sym, ◌∙◌, subst, arith}
use Rattle.std.proofs.lemmas.Bool.{ltb-false}
use Rattle.std.specs.Cmp.{signed_Decides}
use Rattle.std.proofs.lemmas.Option.{same_Some}
use Rattle.pt_host.specs.Call.{Call}
use Rattle.pt_host.specs.Errno.{eio, eopnotsupp, eoverflow}
use Rattle.pt_host.specs.Promises.{HasRisen, MayFault}
use Rattle.pt_host.specs.declared.ids.Errno.{Errno}
use Rattle.pt_host.specs.declared.op.KeptHostOp.TheVariants as call
use Rattle.pt_rules.specs.Faults.{after_failing, eio_where, failure, faulted, is_errno}
use Rattle.pt_rules.specs.State.{State}
use Rattle.pt_rules.specs.Laws.Opens.{errnos_apart}

pub failing_faults : (state : State) (asked : Call) → (after_failing state asked).faults ≡ state.faults
failing_faults state (call.Close fd) = refl
failing_faults state asked = refl

risen_where : (below : Bool) (faults : ℕ) → (below ≡ false → 2 ^ 64 - 1 ≤ faults) →
    min (faults + 1) (2 ^ 64 - 1) ≤ cond below (faults + 1) faults
risen_where true faults past = omega arith
risen_where false faults past = let end = past refl in omega arith

-- one more failure is counted, up to where the count ends
pub faults_rise : (state : State) → HasRisen state.faults (faulted state).faults
faults_rise state = risen_where (nat_lt state.faults (2 ^ 64 - 1)) state.faults (λ is. ltb-false _ _ is)

fallen_where : (below : Bool) (faults : ℕ) → faults ≤ cond below (faults + 1) faults
fallen_where true faults = omega arith
fallen_where false faults = omega arith

pub faults_never_fall : (state : State) → state.faults ≤ (faulted state).faults
faults_never_fall state = fallen_where (nat_lt state.faults (2 ^ 64 - 1)) state.faults

-- ---- `HandleOf` never fails with an error that tells that there is no handle

no_such : (errno other : Errno) → is_errno errno other ≡ false → errno ≢ other
no_such errno other is same =
    (let e : true ≡ false = sym ((signed_Decides errno.0 other.0).1 (ap (λ (n : Errno). n.0) same)) ∙ is in cc)

neither : (a b : Bool) → (a || b) ≡ false → (a ≡ false) × (b ≡ false)
neither true b is = cc
neither false b is = (refl, is)

eio_apart : (eio ≢ eopnotsupp) × (eio ≢ eoverflow)
eio_apart = (errnos_apart 5 95 refl, errnos_apart 5 75 refl)

failed_where : (told : Bool) (planned errno : Errno) →
    (told ≡ false → (planned ≢ eopnotsupp) × (planned ≢ eoverflow)) → eio_where told planned ≡ errno →
    (errno ≢ eopnotsupp) × (errno ≢ eoverflow)
failed_where true planned errno other is = subst (λ (e : Errno). (e ≢ eopnotsupp) × (e ≢ eoverflow)) is eio_apart
failed_where false planned errno other is = subst (λ (e : Errno). (e ≢ eopnotsupp) × (e ≢ eoverflow)) is (other refl)

pub may_fail : (asked : Call) (planned errno : Errno) → failure asked planned ≡ Some errno → MayFault asked errno
may_fail (call.SetUmask mask) planned errno is = cc
may_fail (call.HandleOf fd) planned errno is =
    failed_where (is_errno planned eopnotsupp || is_errno planned eoverflow) planned errno
    (λ none. let both = neither (is_errno planned eopnotsupp) (is_errno planned eoverflow) none in
    (no_such planned eopnotsupp both.0, no_such planned eoverflow both.1))
    (same_Some _ errno is)
may_fail asked planned errno is = tt
