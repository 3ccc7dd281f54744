-- What a test of an object's key says of such keys.
use Rattle.std.proofs.Common.{◌≡◌, ℕ, cond, Option}
use Rattle.std.specs.Ordering.{nat_cmp}
use Rattle.std.specs.declared.cmp.Ordering.TheVariants.{Equal}
use Rattle.std.specs.BTreeMap.{is_at}
use Rattle.std.proofs.lemmas.Map.Lookups.{exact_unsigned, exact_pairs}
use Rattle.pt_rows.specs.Index.{Puts}
use Rattle.pt_rows.proofs.Orders.{nat_same, puts_from, then_same}
use Rattle.pt_tables.specs.Index.{ObjectKey, pair_cmp, object_cmp}

object_same : (k : ObjectKey) → object_cmp k k ≡ Equal
object_same k = then_same (pair_cmp k.0 k.0) (nat_cmp k.1 k.1)
    (then_same (nat_cmp k.0.0 k.0.0) (nat_cmp k.0.1 k.0.1) (nat_same k.0.0) (nat_same k.0.1)) (nat_same k.1)

pub puts_object : {X : Type 0} (key : ObjectKey) (value : Option X) (old new : ObjectKey → Option X) →
    ((other : ObjectKey) → new other ≡ cond (is_at (object_cmp key) other) value (old other)) → Puts key value old new
puts_object key value old new h =
    puts_from object_cmp
    (exact_pairs pair_cmp nat_cmp
    (exact_pairs nat_cmp nat_cmp exact_unsigned exact_unsigned) exact_unsigned) object_same key value old new h
