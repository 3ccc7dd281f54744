use Rattle.std.proofs.Common.{◌≡◌, ◌<◌, ◌+◌, ◌∙◌, ◌++◌, ℕ, List, [], refl, sym, ap, length, take, get_or}
use Rattle.std.proofs.Common.{flat_map}
use Rattle.std.specs.Prelude.{IsOk, false}
use Rattle.std.proofs.lemmas.Fmt.{hex_byte as two_digits}
use Rattle.std.proofs.Output.{has_written_append, has_written_of_eq}
use Rattle.std.proofs.lemmas.List.{take_more, flat_map_more}
use Rattle.pt_handles.specs.Serial.{hex_byte}
use Rattle.pt_handles.proofs.serializable.write_hex.Goals as goal

-- one byte more
hex_more : (before bytes : List ℕ) (place : ℕ) → place < length bytes →
    flat_map (λ byte. before ++ hex_byte byte) (take place bytes) ++ (before ++ hex_byte (get_or bytes place 0))
    ≡ flat_map (λ byte. before ++ hex_byte byte) (take (place + 1) bytes)
hex_more before bytes place within =
    let written = λ (byte : ℕ). before ++ hex_byte byte in
    flat_map_more written [] (take place bytes) (get_or bytes place 0)
    ∙ ap (λ (l : List ℕ). flat_map written l) (sym (take_more bytes place 0 within))

pub loop-byte-preserved : goal.loop-byte-preserved
loop-byte-preserved g c = λ plain.
    let bytes = c.args.bytes.now in
    let place = c.loop-byte.byte-index in
    let before = c.args.before.now in
    let small : get_or bytes place 0 < 256 = (c.type_inv.bytes place).fits in
    let so_far = c.loop-byte.invariant plain in
    let ok : IsOk c.write.result = rw c.in_ok-write.was refl in
    let wrote =
    rw (c.laid_out.ensures, c.in_radix.ensures, two_digits false (get_or bytes place 0) small)
    at c.write.ensures.writes
    in
    has_written_of_eq _ _ _ _ _ (hex_more before bytes place c.loop-byte-test.true)
    (has_written_append _ _ _ _ _ _ so_far (wrote so_far.plain ok))
