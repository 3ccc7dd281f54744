-- Listings as a whole: they are read in one way, and bytes that break are none.
use Rattle.std.proofs.Common.{◌≡◌, ◌≤◌, ◌<◌, ◌+◌, ◌∙◌, ℕ, zero, suc, List, [], ◌∷◌, ◌++◌, refl, sym, ap, subst}
use Rattle.std.proofs.Common.{length, take, drop, arith, append_assoc, length-append, Bool, true, false, ◌&&◌, ◌==◌}
use Rattle.std.proofs.Common.{not}
use Rattle.std.specs.Prelude.{nat_lt, ◌^◌}
use Rattle.std.specs.List.{list_all}
use Rattle.std.specs.Str.{bytes_eq}
use Rattle.std.proofs.lemmas.Bool.{eqb-false, eqb-true, lt-ltb, ltb-true}
use Rattle.std.proofs.lemmas.Slice.Eq.{bytes_eq-Decides}
use Rattle.std.proofs.Math.Seq.{take-add}
use Rattle.std.proofs.lemmas.Grind.{flat_map-append}
use Rattle.std.proofs.lemmas.List.{append-nil, take-append-drop, length-drop, drop-drop}
use Rattle.pt_host.specs.Words.{Each}
use Rattle.pt_handles.specs.Record.{Dirent, record_size, record_of, FitsRecord, records_of, IsListing, BeginsWith}
use Rattle.pt_handles.specs.Record.{BreaksAt, HasNoNul}
use Rattle.pt_handles.specs.Reading.{HasRecord, IsReadUpTo}
use Rattle.pt_handles.specs.Dirents.{dirents_in, dirents_within, has_room, is_listing, seen_dirent}
use Rattle.pt_handles.proofs.Records.{seen_back, length_record, drop_record, take_record}

-- the entries of records are read from them
dirents_all : (most : ℕ) (entries : List Dirent) → Each FitsRecord entries → length (records_of entries) ≤ most →
    dirents_within most (records_of entries) ≡ entries
unfolding dirents_within
dirents_all zero [] fit long = refl
dirents_all zero (entry ∷ entries) fit long = absurd (omega (arith, long))
dirents_all (suc most) [] fit long = refl
dirents_all (suc most) (entry ∷ entries) fit long =
    let rest = records_of entries in
    let seen = seen_back entry rest fit.0 in
    let left : drop (record_size (seen_dirent (record_of entry ++ rest)).name) (record_of entry ++ rest) ≡ rest =
    ap (λ (e : Dirent). drop (record_size e.name) (record_of entry ++ rest)) seen ∙ drop_record entry rest
    in
    let shorter : length rest ≤ most =
    omega (arith, long, length-append (record_of entry) rest, length_record entry)
    in
    ap (λ (e : Dirent). e ∷ dirents_within most
    (drop (record_size (seen_dirent (record_of entry ++ rest)).name) (record_of entry ++ rest))) seen
    ∙ ap (λ (l : List ℕ). entry ∷ dirents_within most l) left
    ∙ ap (λ (l : List Dirent). entry ∷ l) (dirents_all most entries fit.1 shorter)

pub listing_in : (bytes : List ℕ) (entries : List Dirent) → IsListing bytes entries → dirents_in bytes ≡ entries
unfolding dirents_in
listing_in bytes entries is =
    ap (λ (l : List ℕ). dirents_within (length l) l) is.records
    ∙ dirents_all (length (records_of entries)) entries is.fit (omega arith)

pub own_listing : (bytes : List ℕ) (entries : List Dirent) → IsListing bytes entries →
    IsListing bytes (dirents_in bytes)
own_listing bytes entries is = subst (λ (l : List Dirent). IsListing bytes l) (sym (listing_in bytes entries is)) is

each_on : (one other : List Dirent) → Each FitsRecord one → Each FitsRecord other → Each FitsRecord (one ++ other)
each_on [] other fit also = also
each_on (entry ∷ one) other fit also = (fit.0, each_on one other fit.1 also)

-- a listing up to a place, and a whole record there
pub one_more : (bytes : List ℕ) (place size : ℕ) →
    ((before : List Dirent) × IsListing (take place bytes) before) → HasRecord (drop place bytes) size →
    (after : List Dirent) × IsListing (take (place + size) bytes) after
one_more bytes place size before has =
    let entry = has.entry in
    let taken : take size (drop place bytes) ≡ record_of entry =
    ap (λ (n : ℕ). take n (drop place bytes)) has.is_size
    ∙ ap (λ (l : List ℕ). take (record_size entry.name) l) has.begins.front
    ∙ take_record entry (drop size (drop place bytes))
    in (
      before.0 ++ entry ∷ [],
      record {
        fit = each_on before.0 (entry ∷ []) before.1.fit (has.begins.fits, tt);
        records =
            take-add place size bytes
            ∙ ap (λ (l : List ℕ). l ++ take size (drop place bytes)) before.1.records
            ∙ ap (λ (l : List ℕ). records_of before.0 ++ l) (taken ∙ sym (append-nil (record_of entry)))
            ∙ sym (flat_map-append record_of before.0 (entry ∷ []));
      },
    )

pub size_above : (bytes : List ℕ) (size : ℕ) → HasRecord bytes size → 19 < size
size_above bytes size has = omega (arith, has.is_size)

-- listings that begin with the same bytes begin with the same records
clash : (before entries : List Dirent) (tail : List ℕ) → Each FitsRecord before → Each FitsRecord entries →
    records_of before ++ tail ≡ records_of entries → 0 < length tail →
    ((entry : Dirent) (rest : List ℕ) → BeginsWith tail entry rest → ⊥) → ⊥
clash [] [] tail fit also same more none = omega (arith, more, ap length same)
clash [] (entry ∷ entries) tail fit also same more none =
    none entry (records_of entries) (record { fits = also.0; front = same })
clash (one ∷ before) [] tail fit also same more none = omega (arith, ap length same)
clash (one ∷ before) (entry ∷ entries) tail fit also same more none =
    let left = records_of before ++ tail in
    let right = records_of entries in
    let lined : record_of one ++ left ≡ record_of entry ++ right =
    sym (append_assoc (record_of one) (records_of before) tail) ∙ same
    in
    let alike : one ≡ entry =
    sym (seen_back one left fit.0) ∙ ap seen_dirent lined ∙ seen_back entry right also.0
    in
    let rest : left ≡ right =
    sym (drop_record one left)
    ∙ ap (λ (l : List ℕ). drop (record_size one.name) l) lined
    ∙ ap (λ (e : Dirent). drop (record_size e.name) (record_of entry ++ right)) alike
    ∙ drop_record entry right
    in
    clash before entries tail fit.1 also.1 rest more none

pub broken_is_none : (bytes : List ℕ) (place : ℕ) → BreaksAt bytes place → (entries : List Dirent) →
    IsListing bytes entries → ⊥
broken_is_none bytes place breaks entries is =
    clash breaks.before entries (drop place bytes) breaks.whole.fit is.fit
    (ap (λ (l : List ℕ). l ++ drop place bytes) (sym breaks.whole.records) ∙ take-append-drop place bytes ∙ is.records)
    (omega (arith, breaks.within, length-drop place bytes)) breaks.broken

-- the entry that is next, of bytes that were read up to a place
pub next_begins : (bytes : List ℕ) (entries : List Dirent) → IsListing bytes entries → 0 < length bytes →
    (entry : Dirent) × (rest : List ℕ) × BeginsWith bytes entry rest
next_begins bytes [] is more = absurd (omega (arith, more, ap length is.records))
next_begins bytes (entry ∷ entries) is more =
    (entry, records_of entries, record { fits = is.fit.0; front = is.records })

-- what is left behind it
pub next_is : (bytes : List ℕ) (entries : List Dirent) → IsListing bytes entries → 0 < length bytes →
    (let size = record_size (seen_dirent bytes).name in
    (size ≤ length bytes) × IsListing (drop size bytes) (dirents_in (drop size bytes))
    × (entries ≡ seen_dirent bytes ∷ dirents_in (drop size bytes)))
next_is bytes [] is more = absurd (omega (arith, more, ap length is.records))
next_is bytes (entry ∷ entries) is more =
    let rest = records_of entries in
    let seen : seen_dirent bytes ≡ entry = ap seen_dirent is.records ∙ seen_back entry rest is.fit.0 in
    let left : drop (record_size (seen_dirent bytes).name) bytes ≡ rest =
    ap (λ (e : Dirent). drop (record_size e.name) bytes) seen
    ∙ ap (λ (l : List ℕ). drop (record_size entry.name) l) is.records
    ∙ drop_record entry rest
    in
    let size : record_size (seen_dirent bytes).name ≡ record_size entry.name =
    ap (λ (e : Dirent). record_size e.name) seen
    in
    let behind : IsListing (drop (record_size (seen_dirent bytes).name) bytes) entries =
    record { fit = is.fit.1; records = left }
    in (
      omega (arith, size, ap length is.records, length-append (record_of entry) rest, length_record entry),
      own_listing _ entries behind,
      ap (λ (e : Dirent). e ∷ entries) (sym seen)
          ∙ ap (λ (l : List Dirent). seen_dirent bytes ∷ l) (sym (listing_in _ entries behind)),
    )

-- a listing of no bytes has no entries
pub none_left : (bytes : List ℕ) (entries : List Dirent) → IsListing bytes entries → length bytes ≡ 0 → entries ≡ []
none_left bytes [] is none = refl
none_left bytes (entry ∷ entries) is none = absurd (omega (arith, none, ap length is.records))

-- one entry more is given, and its record is passed
pub next_view : (bytes : List ℕ) (current size : ℕ) (entry : Dirent) (value : List Dirent) →
    dirents_in (drop current bytes) ≡ value → IsReadUpTo bytes current → 0 < length (drop current bytes) →
    entry ≡ seen_dirent (drop current bytes) → size ≡ record_size entry.name →
    (value ≡ entry ∷ dirents_in (drop (current + size) bytes)) × IsReadUpTo bytes (current + size)
next_view bytes current size entry value view is more seen sized =
    let left = drop current bytes in
    let step = next_is left (dirents_in left) is.left more in
    let same : record_size (seen_dirent left).name ≡ size =
    ap (λ (e : Dirent). record_size e.name) (sym seen) ∙ sym sized
    in
    let passed : drop (record_size (seen_dirent left).name) left ≡ drop (current + size) bytes =
    ap (λ (n : ℕ). drop n left) same ∙ drop-drop size current bytes
    in (
      sym view ∙ step.2
          ∙ ap (λ (e : Dirent). e ∷ dirents_in (drop (record_size (seen_dirent left).name) left)) (sym seen)
          ∙ ap (λ (l : List ℕ). entry ∷ dirents_in l) passed,
      record {
        within = omega (arith, same, step.0, is.within, length-drop current bytes);
        left = subst (λ (l : List ℕ). IsListing l (dirents_in l)) passed step.1;
      },
    )

-- what has room in a record is seen to have it
both_so : (a b : Bool) → a ≡ true → b ≡ true → (a && b) ≡ true
both_so true b x y = y
both_so false b x y = absurd (cc)

both_are : (a b : Bool) → (a && b) ≡ true → (a ≡ true) × (b ≡ true)
both_are true b x = (refl, x)
both_are false b x = absurd (cc)

no_nul_so : (name : List ℕ) → HasNoNul name → list_all (λ byte. not (byte == 0)) name ≡ true
no_nul_so [] so = refl
no_nul_so (byte ∷ name) so = both_so (not (byte == 0)) _ (by (byte == 0) refl) (no_nul_so name so.1)
  where
    by : (b : Bool) → (byte == 0) ≡ b → not (byte == 0) ≡ true
    by true e = absurd (so.0 (eqb-true byte 0 e))
    by false e = ap not e

no_nul_is : (name : List ℕ) → list_all (λ byte. not (byte == 0)) name ≡ true → HasNoNul name
no_nul_is [] is = tt
no_nul_is (byte ∷ name) is =
    let both = both_are (not (byte == 0)) _ is in ((λ nul. by (byte == 0) refl both.0 nul), no_nul_is name both.1)
  where
    by : (b : Bool) → (byte == 0) ≡ b → not (byte == 0) ≡ true → byte ≡ 0 → ⊥
    by true e is nul = absurd (cc)
    by false e is nul = eqb-false byte 0 e nul

room_so : (entry : Dirent) → FitsRecord entry → has_room entry ≡ true
room_so entry fits =
    both_so _ _ (lt-ltb _ _ fits.ino) (both_so _ _ (lt-ltb _ _ fits.offset) (both_so _ _ (lt-ltb _ _ fits.kind)
    (both_so _ _ (no_nul_so entry.name fits.name) (lt-ltb _ _ fits.size))))

room_is : (entry : Dirent) → has_room entry ≡ true → FitsRecord entry
room_is entry is =
    let ino = both_are (nat_lt entry.ino (2 ^ 64)) _ is in
    let offset = both_are (nat_lt entry.offset (2 ^ 64)) _ ino.1 in
    let kind = both_are (nat_lt entry.kind (2 ^ 8)) _ offset.1 in
    let name = both_are (list_all (λ byte. not (byte == 0)) entry.name) _ kind.1 in
    record {
      ino = ltb-true _ _ ino.0;
      offset = ltb-true _ _ offset.0;
      kind = ltb-true _ _ kind.0;
      name = no_nul_is entry.name name.0;
      size = ltb-true _ _ name.1;
    }

rooms_so : (entries : List Dirent) → Each FitsRecord entries → list_all has_room entries ≡ true
rooms_so [] fit = refl
rooms_so (entry ∷ entries) fit = both_so (has_room entry) _ (room_so entry fit.0) (rooms_so entries fit.1)

rooms_are : (entries : List Dirent) → list_all has_room entries ≡ true → Each FitsRecord entries
rooms_are [] is = tt
rooms_are (entry ∷ entries) is =
    let both = both_are (has_room entry) _ is in (room_is entry both.0, rooms_are entries both.1)

same_so : (one other : List ℕ) → one ≡ other → bytes_eq one other ≡ true
same_so one other same = (bytes_eq-Decides one other).1 same

-- bytes are a listing just where they are seen to be one
pub is_a_listing : (bytes : List ℕ) (entries : List Dirent) → IsListing bytes entries → true ≡ is_listing bytes
is_a_listing bytes entries is =
    let own = own_listing bytes entries is in
    sym (both_so _ _ (rooms_so (dirents_in bytes) own.fit) (same_so bytes (records_of (dirents_in bytes)) own.records))

pub seen_listing : (bytes : List ℕ) → is_listing bytes ≡ true → IsListing bytes (dirents_in bytes)
seen_listing bytes is =
    let both = both_are (list_all has_room (dirents_in bytes)) _ is in
    record {
      fit = rooms_are (dirents_in bytes) both.0;
      records = (bytes_eq-Decides bytes (records_of (dirents_in bytes))).0 both.1;
    }

pub no_listing : (bytes : List ℕ) (place : ℕ) → BreaksAt bytes place → false ≡ is_listing bytes
no_listing bytes place breaks = by (is_listing bytes) refl
  where
    by : (b : Bool) → is_listing bytes ≡ b → false ≡ is_listing bytes
    by false e = sym e
    by true e = absurd (broken_is_none bytes place breaks (dirents_in bytes) (seen_listing bytes e))
