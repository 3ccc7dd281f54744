use Rattle.std.proofs.Common.{FitsSigned, ◌≡◌, ◌≢◌, ◌∙◌, ℕ, ℤ, Bool, true, List, refl, sym, ap, inl, inr, rules}
use Rattle.std.specs.Int.{cast_signed, cast_unsigned, w32}
use Rattle.std.specs.Prelude.{not}
use Rattle.std.specs.Str.{bytes_eq}
use Rattle.std.proofs.lemmas.Bool.{true≢false}
use Rattle.std.proofs.lemmas.Slice.Eq.{bytes_eq-Decides}
use Rattle.std.proofs.lemmas.Int.{to_z-of_z}
use Rattle.pt_handles.specs.Serial.{type_differs, bytes_differ}
use Rattle.pt_handles.specs.declared.serializable.EqualError.TheVariants.{Memory}
use Rattle.pt_handles.proofs.Passing.{is_err}
use Rattle.pt_handles.proofs.serializable.SerializableFileHandle.require_equal_without_mount_id.Goals as goal

same_kind : (one other : ℤ) → FitsSigned w32 one → FitsSigned w32 other →
    cast_unsigned w32 one ≡ cast_unsigned w32 other → one ≡ other
same_kind one other fits also is =
    sym (to_z-of_z w32 one fits) ∙ ap (λ (n : ℕ). cast_signed w32 n) is ∙ to_z-of_z w32 other also

bytes_are : (one other : List ℕ) (ne : Bool) → ne ≡ not (bytes_eq one other) → ne ≡ true → one ≢ other
bytes_are one other ne is differs = λ same.
    true≢false (sym differs ∙ is ∙ ap (λ (b : Bool). not b) ((bytes_eq-Decides one other).1 same))

pub returns-in_err-text-clause-err : goal.returns-in_err-text-clause-err
returns-in_err-text-clause-err c =
    let one = c.args.self.now in
    let other = c.args.other.now in
    let differ : one.handle_type ≢ other.handle_type = λ same.
    c.if-one-two.true (ap (λ (z : ℤ). cast_unsigned w32 z) same)
    in
    rw (is_err c.from_residual.result Memory c.from_residual.ensures.1)
    (type_differs one.handle_type other.handle_type, inl (differ, refl))

pub returns-in_err-text-2-clause-err : goal.returns-in_err-text-2-clause-err
returns-in_err-text-2-clause-err c =
    let one = c.args.self.now in
    let other = c.args.other.now in
    let same : one.handle_type ≡ other.handle_type =
    same_kind one.handle_type other.handle_type (search rules) (search rules) c.if-one-two.false
    in
    let differ = bytes_are one.handle other.handle c.ne.result c.ne.ensures c.if-ne.true in
    rw (is_err c.from_residual-in_err-text-2.result Memory c.from_residual-in_err-text-2.ensures.1)
    (bytes_differ one.handle other.handle, inr (same, differ, refl))

pub returns-then-ne-clause-err : goal.returns-then-ne-clause-err
returns-then-ne-clause-err c =
    let one = c.args.self.now in
    let other = c.args.other.now in
    let same : one.handle_type ≡ other.handle_type =
    same_kind one.handle_type other.handle_type (search rules) (search rules) c.if-one-two.false
    in
    let differ = bytes_are one.handle other.handle c.ne.result c.ne.ensures c.if-ne.true in
    let told = rw (c.as_bytes.ensures, c.as_bytes-then-ne.ensures) at c.in_ok-text-2.ensures.ok in
    inr (
      same,
      differ,
      c.from_string-then-ne.ensures ∙ told,
    )
