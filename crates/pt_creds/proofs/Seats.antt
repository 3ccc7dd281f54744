-- Ids that are taken on and given back, and capabilities that are raised and dropped.
use Rattle.std.proofs.Common.{◌≡◌, ◌≢◌, ◌<◌, ◌+◌, ◌-◌, ◌^◌, ℕ, Bool, true, false, ◌==◌, ◌||◌, ◌&&◌, not, cond}
use Rattle.std.proofs.Common.{Option, Some, None, refl, ap, ap₂, ◌∙◌, inl, inr, arith}
use Rattle.std.specs.Int.RustNames.{bit_and, bit_or}
use Rattle.std.specs.Int.Bits.{or_add_and}
use Rattle.std.proofs.lemmas.Bool.{eqb-true}
use Rattle.std.proofs.lemmas.Bool.Decides.{eqb_tells}
use Rattle.std.proofs.lemmas.Grind.{and-not_self}
use Rattle.std.proofs.lemmas.Nat.{and-not, and_comm}
use Rattle.pt_host.specs.Flags.{includes}
use Rattle.pt_host.specs.Seat.{kept_id, leaves_id, with_raised, with_dropped}
use Rattle.pt_host.specs.declared.flags.Caps.{Caps}
use Rattle.pt_host.specs.declared.seat.HostSeat.{HostSeat}
use Rattle.pt_creds.specs.Identity.{id_under}
use Rattle.pt_creds.specs.Steps.{id_to_set}

abbrev caps_of : ℕ → Caps
caps_of bits = record { 0 = bits }

-- what is effective is raised for nothing
pub absorbed : (a b : ℕ) → includes a b ≡ true → bit_or a b ≡ a
absorbed a b has = let all = or_add_and a b in let same = eqb-true (bit_and a b) b has in omega arith

pub raised_again : (seat : HostSeat) (caps : Caps) → includes seat.eff_caps.0 caps.0 ≡ true →
    with_raised seat caps ≡ seat
raised_again seat caps has =
    ap (λ bits. record seat { eff_caps = caps_of bits }) (absorbed seat.eff_caps.0 caps.0 has)

-- bits that are taken away and put back
put_back : (a b : ℕ) → a < 2 ^ 32 → b < 2 ^ 32 → includes a b ≡ true → bit_or (bit_and a (2 ^ 32 - 1 - b)) b ≡ a
put_back a b a_fits b_fits has =
    let rest : ℕ = bit_and a (2 ^ 32 - 1 - b) in
    let all : bit_or rest b + bit_and rest b ≡ rest + b = or_add_and rest b in
    let apart : bit_and rest b ≡ 0 = and-not_self a 4294967295 b b refl (omega arith) refl in
    let parts = and-not 32 b a b_fits a_fits in
    let turned : bit_and (2 ^ 32 - 1 - b) a ≡ rest = and_comm (2 ^ 32 - 1 - b) a in
    let held : bit_and b a ≡ b = and_comm b a ∙ eqb-true (bit_and a b) b has in
    omega arith

pub raised_back : (seat : HostSeat) (caps : Caps) → seat.eff_caps.0 < 2 ^ 32 → caps.0 < 2 ^ 32 →
    includes seat.eff_caps.0 caps.0 ≡ true →
    with_raised (with_dropped seat caps) caps ≡ seat
raised_back seat caps fits caps_fit has =
    ap (λ bits. record seat { eff_caps = caps_of bits }) (put_back seat.eff_caps.0 caps.0 fits caps_fit has)

-- Why an id is set or not, and which one is there then: it is not to be set; it leaves ids as they are; or it is
-- another one.
pub data IdCase (real id now : ℕ) : Type 0 where
  left : id_to_set id now ≡ None → id_under real id now ≡ now → IdCase real id now
  kept : id_to_set id now ≡ Some id → leaves_id real id ≡ true → id_under real id now ≡ now → IdCase real id now
  other : id_to_set id now ≡ Some id → leaves_id real id ≡ false → id_under real id now ≡ id → id ≢ 0 →
      IdCase real id now

abbrev set_if : Bool → Bool → ℕ → Option ℕ
set_if root same id = cond (root || same) None (Some id)

abbrev under_if : Bool → Bool → ℕ → ℕ → ℕ
under_if root keeps now id = cond (root || keeps) now id

either_same : (t : Bool) (now id : ℕ) → id ≡ now → cond t now id ≡ now
either_same true now id same = refl
either_same false now id same = same

-- another id, which leaves ids as they are or does not
to_set : (real id now : ℕ) → id_to_set id now ≡ Some id → (id == 0) ≡ false → id ≢ 0 → (t : Bool) →
    leaves_id real id ≡ t → IdCase real id now
to_set real id now sets no_root apart true leaves =
    kept sets leaves (ap₂ (λ r k. under_if r k now id) no_root leaves)
to_set real id now sets no_root apart false leaves =
    other sets leaves (ap₂ (λ r k. under_if r k now id) no_root leaves) apart

pub id_case : (real id now : ℕ) → IdCase real id now
id_case real id now = elim (eqb_tells id 0) [
  | inl root ↦ left (ap (λ t. set_if t (id == now) id) root.0)
      (ap (λ t. under_if t (leaves_id real id) now id) root.0)
  | inr no_root ↦ elim (eqb_tells id now) [
    | inl same ↦ left (ap₂ (λ r t. set_if r t id) no_root.0 same.0)
        (either_same (id == 0 || leaves_id real id) now id same.1)
    | inr new ↦ to_set real id now (ap₂ (λ r t. set_if r t id) no_root.0 new.0) no_root.0 no_root.1
        (leaves_id real id) refl
  ]
]

-- the real id may be taken again, whatever it is
pub own_taken : (real id : ℕ) → id ≡ real → leaves_id real id ≡ false
own_taken real id own = ap (λ one. one == kept_id && not (real == kept_id)) own ∙ both_ways (real == kept_id)
  where
    both_ways : (t : Bool) → (t && not t) ≡ false
    both_ways true = refl
    both_ways false = refl
