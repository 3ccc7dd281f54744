-- What a test of a key says of keys.
use Rattle.std.proofs.Common.{◌≡◌, ◌≢◌, ◌⊎◌, inl, inr, ℕ, Bool, true, false, cond, Option, refl, sym, ap, ◌∙◌}
use Rattle.std.specs.Ordering.{nat_cmp, is_eq, ordering_then}
use Rattle.std.specs.declared.cmp.Ordering.{Ordering}
use Rattle.std.specs.declared.cmp.Ordering.TheVariants.{Less, Equal, Greater}
use Rattle.std.specs.BTreeMap.{is_at}
use Rattle.std.specs.Cmp.{nat_cmp_is}
use Rattle.std.proofs.lemmas.Bool.{false≢true}
use Rattle.std.proofs.lemmas.Map.Lookups.{CmpEqualImpliesEq, exact_unsigned}
use Rattle.pt_rows.specs.Index.{Puts}

equal_from : (r : Ordering) → is_eq r ≡ true → r ≡ Equal
equal_from Less e = absurd (false≢true e)
equal_from Equal e = refl
equal_from Greater e = absurd (false≢true e)

pub nat_same : (k : ℕ) → nat_cmp k k ≡ Equal
nat_same k = sym (nat_cmp_is k k Equal refl)

module _ {K X : Type 0} (cmp : K → K → Ordering) (exact : CmpEqualImpliesEq cmp) (same : (k : K) → cmp k k ≡ Equal)
    (key : K) (value : Option X) (old new : K → Option X) where
  puts_one : (other : K) (b : Bool) → is_at (cmp key) other ≡ b → new other ≡ cond b value (old other) →
      ((other ≡ key) × (new other ≡ value)) ⊎ ((other ≢ key) × (new other ≡ old other))
  puts_one other true t e = inl (sym (exact key other (equal_from (cmp key other) t)), e)
  puts_one other false t e = inr ((λ s. false≢true (sym t ∙ ap is_eq (ap (cmp key) s ∙ same key))), e)

  pub puts_from : ((other : K) → new other ≡ cond (is_at (cmp key) other) value (old other)) → Puts key value old new
  puts_from h = λ other. puts_one other (is_at (cmp key) other) refl (h other)

pub at_same : (serial key : ℕ) → is_at (nat_cmp serial) key ≡ true → key ≡ serial
at_same serial key t = sym (exact_unsigned serial key (equal_from (nat_cmp serial key) t))

pub at_below : (serial key : ℕ) → serial ≡ key → is_at (nat_cmp serial) key ≡ true
at_below serial key e = ap is_eq (ap (nat_cmp serial) (sym e) ∙ nat_same serial)

at_other_by : (serial key : ℕ) (b : Bool) → is_at (nat_cmp serial) key ≡ b → key ≢ serial → b ≡ false
at_other_by serial key true t n = absurd (n (at_same serial key t))
at_other_by serial key false t n = refl

pub at_other : (serial key : ℕ) → key ≢ serial → is_at (nat_cmp serial) key ≡ false
at_other serial key n = at_other_by serial key (is_at (nat_cmp serial) key) refl n

pub puts_number : {X : Type 0} (key : ℕ) (value : Option X) (old new : ℕ → Option X) →
    ((other : ℕ) → new other ≡ cond (is_at (nat_cmp key) other) value (old other)) → Puts key value old new
puts_number key value old new h = puts_from nat_cmp exact_unsigned nat_same key value old new h

pub then_same : (p q : Ordering) → p ≡ Equal → q ≡ Equal → ordering_then p q ≡ Equal
then_same p q e f = rw (e, f) refl
