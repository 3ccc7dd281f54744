use Rattle.std.proofs.Common.{FitsSigned, ◌≡◌, ◌∙◌, ℤ, Some, ap, rules}
use Rattle.std.specs.Prelude.{false}
use Rattle.std.specs.Fmt.{digits, digits_output}
use Rattle.std.specs.Int.{cast_unsigned, w32}
use Rattle.std.proofs.lemmas.Int.{to_z-of_z}
use Rattle.pt_handles.proofs.serializable.SerializableFileHandleDisplay.fmt.Goals as goal

pub returns-clause-writes : goal.returns-clause-writes
returns-clause-writes g c = λ plain ok.
    let kind = c.args.self.now.handle_type in
    let fits : FitsSigned w32 kind = search rules in
    let radix : digits_output c.in_radix.result ≡ Some (digits 16 false (cast_unsigned w32 kind)) =
    c.in_radix.ensures ∙ ap (λ (z : ℤ). Some (digits 16 false (cast_unsigned w32 z))) (to_z-of_z w32 kind fits)
    in
    let wrote = rw (radix, c.as_bytes.ensures) at c.write.ensures.writes in
    wrote plain ok
