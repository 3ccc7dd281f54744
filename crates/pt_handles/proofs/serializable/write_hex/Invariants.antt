use Rattle.std.proofs.Common.{◌++◌, take, flat_map}
use Rattle.std.specs.Fmt.{HasWritten, IsPlainFormatter}
use Rattle.pt_handles.specs.Serial.{hex_byte}
use Rattle.pt_handles.proofs.serializable.write_hex.Given as goal

abbrev pub invariant-loop-byte : goal.invariant-loop-byte
invariant-loop-byte g l =
    IsPlainFormatter l.initial.f →
    HasWritten g.W.Write.write_str_gives l.initial.f
    (flat_map (λ byte. l.before ++ hex_byte byte) (take l.byte-index l.bytes)) l.f
