-- Records at the front of bytes: what is read of one is what was written.
use Rattle.std.proofs.Common.{◌≡◌, ◌≤◌, ◌<◌, ◌+◌, ◌-◌, ◌^◌, ◌∙◌, ℕ, zero, suc, List, [], ◌∷◌, ◌++◌, true}
use Rattle.std.proofs.Common.{refl, sym}
use Rattle.std.proofs.Common.{ap, length, take, drop, subst, arith, get_or, append_assoc, length-append, inl}
use Rattle.std.proofs.Common.{inr}
use Rattle.std.specs.Prelude.{◌==◌}
use Rattle.std.specs.Int.{to_le_bytes, from_le_bytes, w16, w64}
use Rattle.std.specs.List.{list_all}
use Rattle.std.proofs.Math.ListN.{replicate}
use Rattle.std.proofs.Math.Seq.{drop-append_seam, take-append_seam, drop-cons}
use Rattle.std.proofs.lemmas.List.{length-replicate, take_at, take_rest, take-append-drop, drop-drop, length-take-le}
use Rattle.std.proofs.lemmas.List.{length-drop, length-take, get_or-drop, get_or-take}
use Rattle.std.proofs.lemmas.List.{get_or_past}
use Rattle.std.proofs.lemmas.List.Folds.{drop_split}
use Rattle.std.proofs.lemmas.Bool.{true≢false, cases_lt}
use Rattle.std.proofs.Common.{lit<}
use Rattle.std.proofs.lemmas.Bool.Decides.{eqb_tells}
use Rattle.std.proofs.lemmas.Nat.{from_le_bytes-to_le_bytes_8, from_le_bytes-to_le_bytes_2, le_bytes_8, le_bytes_2}
use Rattle.pt_handles.specs.Record.{Dirent, record_size, record_head, record_of, HasNoNul, FitsRecord, BeginsWith}
use Rattle.pt_handles.specs.Dirents.{before_nul, seen_dirent}
use Rattle.pt_handles.specs.Reading.{HasRecord}
use Rattle.pt_handles.proofs.Padded.{before_nul_is, no_nul_inside}

ino_back : (entry : Dirent) (rest : List ℕ) → FitsRecord entry →
    from_le_bytes w64 (take 8 (record_of entry ++ rest)) ≡ entry.ino
ino_back entry rest fits = from_le_bytes-to_le_bytes_8 entry.ino fits.ino

offset_back : (entry : Dirent) (rest : List ℕ) → FitsRecord entry →
    from_le_bytes w64 (take 8 (drop 8 (record_of entry ++ rest))) ≡ entry.offset
offset_back entry rest fits = from_le_bytes-to_le_bytes_8 entry.offset fits.offset

pub size_back : (entry : Dirent) (rest : List ℕ) → FitsRecord entry →
    from_le_bytes w16 (take 2 (drop 16 (record_of entry ++ rest))) ≡ record_size entry.name
size_back entry rest fits = from_le_bytes-to_le_bytes_2 (record_size entry.name) fits.size

pad_front : (n m : ℕ) (rest : List ℕ) → n ≡ suc m → replicate n 0 ++ rest ≡ 0 ∷ (replicate m 0 ++ rest)
pad_front n m rest e = rw e refl

-- a NUL ends the name
pub behind_head : (entry : Dirent) (rest : List ℕ) →
    drop 19 (record_of entry ++ rest)
    ≡ entry.name ++ 0 ∷ (replicate (record_size entry.name - length entry.name - 20) 0 ++ rest)
behind_head entry rest =
    append_assoc entry.name (replicate (record_size entry.name - length entry.name - 19) 0) rest
    ∙ ap (λ l. entry.name ++ l)
    (pad_front _ (record_size entry.name - length entry.name - 20) rest (omega arith))

name_back : (entry : Dirent) (rest : List ℕ) → HasNoNul entry.name →
    before_nul (drop 19 (record_of entry ++ rest)) ≡ entry.name
name_back entry rest clean = ap before_nul (behind_head entry rest) ∙ before_nul_is entry.name _ clean

from_fields : (entry : Dirent) (ino offset kind : ℕ) (name : List ℕ) → ino ≡ entry.ino → offset ≡ entry.offset →
    kind ≡ entry.kind → name ≡ entry.name →
    (let made : Dirent = record { ino = ino; offset = offset; kind = kind; name = name } in made ≡ entry)
from_fields entry ino offset kind name i o k n = rw (i, o, k, n) refl

-- the entry of a record is read from it
pub seen_back : (entry : Dirent) (rest : List ℕ) → FitsRecord entry → seen_dirent (record_of entry ++ rest) ≡ entry
unfolding seen_dirent
seen_back entry rest fits =
    from_fields entry _ _ _ _ (ino_back entry rest fits) (offset_back entry rest fits) refl
    (name_back entry rest fits.name)

pub length_record : (entry : Dirent) → length (record_of entry) ≡ record_size entry.name
length_record entry =
    let pad = record_size entry.name - length entry.name - 19 in
    omega (arith, length-append entry.name (replicate pad 0), let z : ℕ = 0 in length-replicate pad z)

pub drop_record : (entry : Dirent) (rest : List ℕ) → drop (record_size entry.name) (record_of entry ++ rest) ≡ rest
drop_record entry rest =
    subst (λ (n : ℕ). drop n (record_of entry ++ rest) ≡ rest) (length_record entry)
    (drop-append_seam (record_of entry) rest)

pub take_record : (entry : Dirent) (rest : List ℕ) →
    take (record_size entry.name) (record_of entry ++ rest) ≡ record_of entry
take_record entry rest = take_at (record_of entry) rest (record_size entry.name) (length_record entry)

-- zeros
pub zeros_are : (bytes : List ℕ) → list_all (λ byte. byte == 0) bytes ≡ true → bytes ≡ replicate (length bytes) 0
zeros_are [] all = refl
zeros_are (byte ∷ bytes) all =
    elim (eqb_tells byte 0) [
      | inl is ↦ rw is.1 (ap (λ l. 0 ∷ l) (zeros_are bytes (let rest = rw is.0 at all in rest)))
      | inr is ↦ absurd (let rest = rw is.0 at all in true≢false (sym rest))
    ]

pub zeros_pass : (n : ℕ) → list_all (λ byte. byte == 0) (replicate n 0) ≡ true
zeros_pass zero = refl
zeros_pass (suc n) = zeros_pass n

pub no_name : (bytes : List ℕ) (entry : Dirent) (rest : List ℕ) → BeginsWith bytes entry rest →
    HasNoNul (take (length bytes - 19) (drop 19 bytes)) → ⊥
no_name bytes entry rest begins clean =
    no_nul_inside entry.name _
    (subst HasNoNul (take_rest bytes 19 ∙ ap (λ l. drop 19 l) begins.front ∙ behind_head entry rest) clean)

-- the name that is read is the entry's
pub same_name : (bytes name behind : List ℕ) (entry : Dirent) (rest : List ℕ) → BeginsWith bytes entry rest →
    HasNoNul name → take (length bytes - 19) (drop 19 bytes) ≡ name ++ 0 ∷ behind → name ≡ entry.name
same_name bytes name behind entry rest begins clean split =
    sym (before_nul_is name behind clean)
    ∙ ap before_nul (sym split ∙ take_rest bytes 19 ∙ ap (λ l. drop 19 l) begins.front ∙ behind_head entry rest)
    ∙ before_nul_is entry.name _ begins.fits.name

-- an entry that was read by its places
pub seen_read : (bytes name behind : List ℕ) (ino offset kind : ℕ) → HasNoNul name →
    take (length bytes - 19) (drop 19 bytes) ≡ name ++ 0 ∷ behind →
    ino ≡ from_le_bytes w64 (take 8 bytes) → offset ≡ from_le_bytes w64 (take 8 (drop 8 bytes)) →
    kind ≡ get_or bytes 18 0 →
    (let made : Dirent = record { ino = ino; offset = offset; kind = kind; name = name } in made ≡ seen_dirent bytes)
unfolding seen_dirent
seen_read bytes name behind ino offset kind clean split i o k =
    from_fields (seen_dirent bytes) ino offset kind name i o k
    (sym (before_nul_is name behind clean) ∙ ap before_nul (sym split ∙ take_rest bytes 19))

-- the size that is told is the entry's
pub same_size : (bytes : List ℕ) (entry : Dirent) (rest : List ℕ) → BeginsWith bytes entry rest →
    from_le_bytes w16 (take 2 (drop 16 bytes)) ≡ record_size entry.name
same_size bytes entry rest begins =
    ap (λ l. from_le_bytes w16 (take 2 (drop 16 l))) begins.front ∙ size_back entry rest begins.fits

drop_head_name : (entry : Dirent) (rest : List ℕ) →
    drop (19 + length entry.name) (record_of entry ++ rest)
    ≡ replicate (record_size entry.name - length entry.name - 19) 0 ++ rest
drop_head_name entry rest =
    let pad = replicate (record_size entry.name - length entry.name - 19) 0 in
    sym (drop-drop (length entry.name) 19 (record_of entry ++ rest))
    ∙ ap (λ l. drop (length entry.name) l) (append_assoc entry.name pad rest)
    ∙ drop-append_seam entry.name (pad ++ rest)

-- behind the name there are zeros
pub zeros_inside : (bytes : List ℕ) (entry : Dirent) (rest : List ℕ) → BeginsWith bytes entry rest →
    list_all (λ byte. byte == 0)
    (take (record_size entry.name - (19 + length entry.name)) (drop (19 + length entry.name) bytes)) ≡ true
zeros_inside bytes entry rest begins =
    let pad = record_size entry.name - length entry.name - 19 in
    let zeros : List ℕ = replicate pad 0 in
    let long : record_size entry.name - (19 + length entry.name) ≡ pad = omega arith in
    let behind =
    ap (λ l. drop (19 + length entry.name) l) begins.front ∙ drop_head_name entry rest
    in
    rw (behind, long) (
    let cut : take pad (zeros ++ rest) ≡ zeros = take_at zeros rest pad (length-replicate pad _) in
    rw cut (zeros_pass pad))

le_fits : (bytes : List ℕ) → ((i : ℕ) → get_or bytes i 0 < 256) → from_le_bytes w64 bytes < 2 ^ 64
le_fits bytes fit = omega (arith, fit 0, fit 1, fit 2, fit 3, fit 4, fit 5, fit 6, fit 7)

-- the bytes of a record, from those that its parts were read of
parts_of : (bytes name behind : List ℕ) → 19 ≤ length bytes →
    take (length bytes - 19) (drop 19 bytes) ≡ name ++ 0 ∷ behind → record_size name ≤ length bytes →
    bytes
    ≡ take 8 bytes
    ++ (take 8 (drop 8 bytes)
    ++ (take 2 (drop 16 bytes)
    ++ (get_or bytes 18 0
    ∷ (name
    ++ (take (record_size name - (19 + length name)) (drop (19 + length name) bytes)
    ++ drop (record_size name) bytes)))))
parts_of bytes name behind long split within =
    let tail = drop (record_size name) bytes in
    let pad = take (record_size name - (19 + length name)) (drop (19 + length name) bytes) in
    let named : drop 19 bytes ≡ name ++ 0 ∷ behind = sym (take_rest bytes 19) ∙ split in
    let after : drop (19 + length name) bytes ≡ pad ++ tail =
    drop_split bytes (19 + length name) (record_size name) (omega arith)
    in
    let front : name ≡ take (length name) (drop 19 bytes) =
    sym (take-append_seam name (0 ∷ behind)) ∙ ap (λ l. take (length name) l) (sym named)
    in
    let s19 : drop 19 bytes ≡ name ++ (pad ++ tail) =
    sym (take-append-drop (length name) (drop 19 bytes))
    ∙ ap (λ l. l ++ drop (length name) (drop 19 bytes)) (sym front)
    ∙ ap (λ l. name ++ l) (drop-drop (length name) 19 bytes ∙ after)
    in
    let s18 : drop 18 bytes ≡ get_or bytes 18 0 ∷ (name ++ (pad ++ tail)) =
    drop-cons bytes 18 0 (omega arith) ∙ ap (λ l. get_or bytes 18 0 ∷ l) s19
    in
    let s16 : drop 16 bytes ≡ take 2 (drop 16 bytes) ++ (get_or bytes 18 0 ∷ (name ++ (pad ++ tail))) =
    sym (take-append-drop 2 (drop 16 bytes))
    ∙ ap (λ l. take 2 (drop 16 bytes) ++ l) (drop-drop 2 16 bytes ∙ s18)
    in
    let s8 : drop 8 bytes
    ≡ take 8 (drop 8 bytes) ++ (take 2 (drop 16 bytes) ++ (get_or bytes 18 0 ∷ (name ++ (pad ++ tail)))) =
    sym (take-append-drop 8 (drop 8 bytes))
    ∙ ap (λ l. take 8 (drop 8 bytes) ++ l) (drop-drop 8 8 bytes ∙ s16)
    in
    sym (take-append-drop 8 bytes) ∙ ap (λ l. take 8 bytes ++ l) s8

fits_front : (bytes : List ℕ) (place count : ℕ) → ((i : ℕ) → get_or bytes i 0 < 256) → (i : ℕ) →
    get_or (take count (drop place bytes)) i 0 < 256
fits_front bytes place count fit i =
    elim (cases_lt i count) [
      | inl within ↦
          rw (get_or-take count (drop place bytes) i 0 within, get_or-drop place bytes i 0) (fit (place + i))
      | inr past ↦
          rw (get_or_past (take count (drop place bytes)) i 0
          (omega (arith, past, length-take count (drop place bytes)))) (lit< tt)
    ]

joined_parts : (entry : Dirent) (one two three pad tail : List ℕ) → one ≡ to_le_bytes w64 entry.ino →
    two ≡ to_le_bytes w64 entry.offset → three ≡ to_le_bytes w16 (record_size entry.name) →
    pad ≡ replicate (record_size entry.name - length entry.name - 19) 0 →
    one ++ (two ++ (three ++ (entry.kind ∷ (entry.name ++ (pad ++ tail))))) ≡ record_of entry ++ tail
joined_parts entry one two three pad tail e1 e2 e3 e4 =
    rw (e1, e2, e3, e4) (ap (λ l. record_head entry ++ l) (sym (append_assoc entry.name _ tail)))

-- bytes whose parts fit each other are those of a record, and others behind it
pub assembled : (bytes name behind : List ℕ) → 19 ≤ length bytes → ((i : ℕ) → get_or bytes i 0 < 256) →
    HasNoNul name → take (length bytes - 19) (drop 19 bytes) ≡ name ++ 0 ∷ behind →
    from_le_bytes w16 (take 2 (drop 16 bytes)) ≡ record_size name → record_size name < 2 ^ 16 →
    record_size name ≤ length bytes →
    list_all (λ byte. byte == 0) (take (record_size name - (19 + length name)) (drop (19 + length name) bytes)) ≡ true →
    HasRecord bytes (record_size name)
assembled bytes name behind long fit clean split told small within zeros =
    let ino = from_le_bytes w64 (take 8 bytes) in
    let offset = from_le_bytes w64 (take 8 (drop 8 bytes)) in
    let entry : Dirent = record { ino = ino; offset = offset; kind = get_or bytes 18 0; name = name } in
    let fit_ino : (i : ℕ) → get_or (take 8 bytes) i 0 < 256 = fits_front bytes 0 8 fit in
    let fit_offset : (i : ℕ) → get_or (take 8 (drop 8 bytes)) i 0 < 256 = fits_front bytes 8 8 fit in
    let fit_size : (i : ℕ) → get_or (take 2 (drop 16 bytes)) i 0 < 256 = fits_front bytes 16 2 fit in
    let pad = take (record_size name - (19 + length name)) (drop (19 + length name) bytes) in
    let pad_length : length pad ≡ record_size name - length name - 19 =
    omega (
      arith,
      length-take-le (record_size name - (19 + length name)) (drop (19 + length name) bytes)
          (omega (arith, length-drop (19 + length name) bytes)),
    )
    in
    let e1 : take 8 bytes ≡ to_le_bytes w64 ino =
    sym (le_bytes_8 (take 8 bytes) ino (length-take-le 8 bytes (omega arith)) fit_ino refl)
    in
    let e2 : take 8 (drop 8 bytes) ≡ to_le_bytes w64 offset =
    sym (le_bytes_8 (take 8 (drop 8 bytes)) offset
    (length-take-le 8 (drop 8 bytes) (omega (arith, length-drop 8 bytes))) fit_offset refl)
    in
    let e3 : take 2 (drop 16 bytes) ≡ to_le_bytes w16 (record_size name) =
    sym (le_bytes_2 (take 2 (drop 16 bytes)) (record_size name)
    (length-take-le 2 (drop 16 bytes) (omega (arith, length-drop 16 bytes))) fit_size (sym told))
    in
    let e4 : pad ≡ replicate (record_size name - length name - 19) 0 =
    zeros_are pad zeros ∙ ap (λ (n : ℕ). replicate n 0) pad_length
    in
    record {
      entry = entry;
      begins = record {
        fits = record {
          ino = le_fits (take 8 bytes) fit_ino;
          offset = le_fits (take 8 (drop 8 bytes)) fit_offset;
          kind = fit 18;
          name = clean;
          size = small;
        };
        front = parts_of bytes name behind long split within
            ∙ joined_parts entry _ _ _ pad (drop (record_size name) bytes) e1 e2 e3 e4;
      };
      is_size = refl;
    }
