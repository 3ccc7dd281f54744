-- The options that a guest is granted are bits of their own.
use Rattle.std.proofs.Common.{◌≡◌, ◌+◌, Bool, true, false, refl}
use Rattle.std.specs.Prelude.{bit_or}
use Rattle.pt_req.specs.Options.{bits_if, readdirplus_bits, writeback_cache, handle_killpriv_v2, acl_bits}
use Rattle.pt_req.specs.Options.{security_ctx, direct_io_allow_mmap}

pub joined : (plus back kill lists labels map : Bool) →
    bit_or (bit_or (bit_or (bit_or (bit_or (bits_if plus readdirplus_bits) (bits_if back writeback_cache))
    (bits_if kill handle_killpriv_v2)) (bits_if lists acl_bits)) (bits_if labels security_ctx))
    (bits_if map direct_io_allow_mmap)
    ≡ bits_if plus readdirplus_bits + bits_if back writeback_cache + bits_if kill handle_killpriv_v2
    + bits_if lists acl_bits + bits_if labels security_ctx + bits_if map direct_io_allow_mmap
joined true true true true true true = refl
joined true true true true true false = refl
joined true true true true false true = refl
joined true true true true false false = refl
joined true true true false true true = refl
joined true true true false true false = refl
joined true true true false false true = refl
joined true true true false false false = refl
joined true true false true true true = refl
joined true true false true true false = refl
joined true true false true false true = refl
joined true true false true false false = refl
joined true true false false true true = refl
joined true true false false true false = refl
joined true true false false false true = refl
joined true true false false false false = refl
joined true false true true true true = refl
joined true false true true true false = refl
joined true false true true false true = refl
joined true false true true false false = refl
joined true false true false true true = refl
joined true false true false true false = refl
joined true false true false false true = refl
joined true false true false false false = refl
joined true false false true true true = refl
joined true false false true true false = refl
joined true false false true false true = refl
joined true false false true false false = refl
joined true false false false true true = refl
joined true false false false true false = refl
joined true false false false false true = refl
joined true false false false false false = refl
joined false true true true true true = refl
joined false true true true true false = refl
joined false true true true false true = refl
joined false true true true false false = refl
joined false true true false true true = refl
joined false true true false true false = refl
joined false true true false false true = refl
joined false true true false false false = refl
joined false true false true true true = refl
joined false true false true true false = refl
joined false true false true false true = refl
joined false true false true false false = refl
joined false true false false true true = refl
joined false true false false true false = refl
joined false true false false false true = refl
joined false true false false false false = refl
joined false false true true true true = refl
joined false false true true true false = refl
joined false false true true false true = refl
joined false false true true false false = refl
joined false false true false true true = refl
joined false false true false true false = refl
joined false false true false false true = refl
joined false false true false false false = refl
joined false false false true true true = refl
joined false false false true true false = refl
joined false false false true false true = refl
joined false false false true false false = refl
joined false false false false true true = refl
joined false false false false true false = refl
joined false false false false false true = refl
joined false false false false false false = refl
