use Rattle.std.proofs.Common.{◌≡◌, ℕ, ◌+◌, min, List, length, take, drop, Some, refl, arith, sym, ◌∙◌}
use Rattle.std.proofs.lemmas.List.{take-append-drop, nil_from_length, drop-drop}
use Rattle.pt_run.specs.Streams.{IsPulled}

-- bytes copied from the front of what was left
pub IsPulled-copied : (bytes buf : List ℕ) (place count : ℕ) → count ≡ min (length (drop place bytes)) (length buf) →
    take count buf ≡ take count (drop place bytes) →
    IsPulled (Some (drop place bytes)) buf count (Some (drop (place + count) bytes))
IsPulled-copied bytes buf place count is copied = (
  drop (place + count) bytes,
  refl,
  sym (take-append-drop count (drop place bytes)) ∙ rw (copied, drop-drop) refl,
  λ none room. nil_from_length (drop place bytes) (omega arith),
)
