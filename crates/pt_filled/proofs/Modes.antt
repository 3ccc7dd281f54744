-- Proof. What the flags that the daemon passes on ask for.
use Rattle.std.specs.Prelude.{◌&&◌}
use Rattle.std.specs.Int.Bits.{and_zero_r, bit_or, or_add_and}
use Rattle.std.proofs.Common.{◌≡◌, ℕ, ◌-◌, ◌^◌, ◌%◌, ◌==◌, Bool, true, false, refl, sym, ap, ◌∙◌, cond, bit_and, arith}
use Rattle.std.proofs.lemmas.Nat.{and_assoc, and_mask, and_or_apart}
use Rattle.pt_tables.specs.declared.form.Negotiated.{Negotiated}
use Rattle.pt_req.specs.Options.{cleaned, inode_flags, making_flags, o_append, o_cloexec, o_direct, o_noatime, o_nofollow}
use Rattle.pt_req.specs.Options.{passed_on, readable, with_bits, without_bits, without_nofollow, written_back}
use Rattle.pt_req.specs.declared.plan.Config.{Config}
use Rattle.pt_req.specs.declared.plan.Plan.{Plan}
use Rattle.pt_filled.specs.Accesses.{asked_for, opened_for}

-- flags beside the access mode
asks_without : (flags bits : ℕ) → bit_and (2 ^ 32 - 1 - bits) 3 ≡ 3 → asked_for (without_bits flags bits) ≡ asked_for
    flags
asks_without flags bits e = and_assoc 3 flags (2 ^ 32 - 1 - bits) ∙ ap (bit_and flags) e

asks_with : (flags bits : ℕ) → bit_and bits 3 ≡ 0 → asked_for (with_bits flags bits) ≡ asked_for flags
asks_with flags bits e = and_or_apart 3 flags bits e

asks_cleaned : (config : Config) (flags : ℕ) → asked_for (cleaned config flags) ≡ asked_for flags
asks_cleaned config flags = go config.clean_noatime
  where
    go : (b : Bool) → asked_for (cond b (without_bits (without_bits flags o_append) o_noatime)
        (without_bits flags o_append)) ≡ asked_for flags
    go true = asks_without (without_bits flags o_append) o_noatime refl ∙ asks_without flags o_append refl
    go false = asks_without flags o_append refl

asks_passed : (config : Config) (flags : ℕ) → asked_for (passed_on config flags) ≡ asked_for flags
asks_passed config flags =
    asks_with (cond config.allow_direct_io flags (without_bits flags o_direct)) o_cloexec refl
    ∙ go config.allow_direct_io
  where
    go : (b : Bool) → asked_for (cond b flags (without_bits flags o_direct)) ≡ asked_for flags
    go true = refl
    go false = asks_without flags o_direct refl

-- reading and writing in the place of writing alone
both_low : (flags : ℕ) → asked_for (with_bits (without_bits flags 3) 2) ≡ 2
both_low flags =
    let x : ℕ = without_bits flags 3 in
    let none : bit_and x 2 ≡ 0 = and_assoc 2 flags (2 ^ 32 - 1 - 3) ∙ and_zero_r flags in
    let low : x % 4 ≡ 0 = sym (and_mask x 2) ∙ and_assoc 3 flags (2 ^ 32 - 1 - 3) ∙ and_zero_r flags in
    let sum = or_add_and x 2 in
    and_mask (bit_or x 2) 2 ∙ omega (arith, none, low, sum)

asks_readable : (flags : ℕ) → asked_for (readable flags) ≡ cond (asked_for flags == 1) 2 (asked_for flags)
asks_readable flags = go (asked_for flags == 1)
  where
    go : (b : Bool) → asked_for (cond b (with_bits (without_bits flags 3) 2) flags) ≡ cond b 2 (asked_for flags)
    go true = both_low flags
    go false = refl

asks_back : (agreed : Negotiated) (flags : ℕ) → asked_for (written_back agreed flags) ≡ opened_for agreed flags
asks_back agreed flags = go agreed.writeback
  where
    go : (b : Bool) → asked_for (cond b (without_bits (readable flags) o_append) flags)
        ≡ cond (b && (asked_for flags == 1)) 2 (asked_for flags)
    go true = asks_without (readable flags) o_append refl ∙ asks_readable flags
    go false = refl

-- what a number is opened by
pub asks_opened : (plan : Plan) (agreed : Negotiated) (flags : ℕ) →
    bit_and (without_nofollow (inode_flags plan.config agreed (cleaned plan.config flags))).0 3
    ≡ opened_for agreed flags
asks_opened plan agreed flags =
    let a : ℕ = cleaned plan.config flags in
    asks_without (passed_on plan.config (written_back agreed a)) o_nofollow refl
    ∙ asks_passed plan.config (written_back agreed a) ∙ asks_back agreed a
    ∙ ap (λ (n : ℕ). cond (agreed.writeback && (n == 1)) 2 n) (asks_cleaned plan.config flags)

-- and what a file is made by
pub asks_made : (flags : ℕ) → bit_and (making_flags flags).0 3 ≡ asked_for flags
asks_made flags = asks_with (without_bits flags o_append) _ refl ∙ asks_without flags o_append refl

-- a flag that says nothing of the access mode
pub opened_with : (agreed : Negotiated) (flags bits : ℕ) → bit_and bits 3 ≡ 0 →
    opened_for agreed (with_bits flags bits) ≡ opened_for agreed flags
opened_with agreed flags bits e =
    ap (λ (n : ℕ). cond (agreed.writeback && (n == 1)) 2 n) (asks_with flags bits e)
