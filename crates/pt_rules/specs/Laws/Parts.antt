-- Proof. What an option was made of.
use Rattle.std.proofs.Common.{◌≡◌, Option, Some, None, option_map, option_and_then, refl}
use Rattle.std.proofs.lemmas.Option.{same_Some}

pub map_some : {A B : Type 0} (f : A → B) (o : Option A) (b : B) → option_map f o ≡ Some b →
    (a : A) × (o ≡ Some a) × (f a ≡ b)
map_some f None b is = cc
map_some f (Some a) b is = (a, refl, same_Some (f a) b is)

pub and_then_some : {A B : Type 0} (f : A → Option B) (o : Option A) (b : B) → option_and_then f o ≡ Some b →
    (a : A) × (o ≡ Some a) × (f a ≡ Some b)
and_then_some f None b is = cc
and_then_some f (Some a) b is = (a, refl, is)
