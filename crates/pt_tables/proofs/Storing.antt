-- How the store stays sound where a row changes, dies, ends or comes.
use Rattle.std.proofs.Common.{◌≡◌, ℕ, ◌+◌, ◌≤◌, List, [], ◌∷◌, ◌++◌, true, Option, Some, None, length, refl}
use Rattle.std.proofs.Common.{sym}
use Rattle.std.proofs.Common.{MatchOption, ap, subst, arith, length-append}
use Rattle.pt_host.specs.Words.{Takes, Replaces}
use Rattle.pt_host.specs.declared.ids.ObjIds.{ObjIds}
use Rattle.pt_tables.specs.Tables.{Row, HandleRow, Closing, HasIds}
use Rattle.pt_tables.specs.Rows.{number_rows, Kind}
use Rattle.pt_rows.specs.Rows.{IsAmong, NoneOf, IsLeast}
use Rattle.pt_rows.specs.Above.{IsLiveAbove}
use Rattle.pt_rows.specs.Same.{IsSame, IsNextRow}
use Rattle.pt_tables.specs.Index.{ObjectKey, key_of, IsSoundStore}
use Rattle.pt_rows.specs.Index.{Puts, SameAt, Leaves}
use Rattle.pt_rows.proofs.Lists.{length_takes, length_replaces, each_map}
use Rattle.pt_rows.proofs.Indexing.{puts_back}
use Rattle.pt_tables.proofs.Finding.{objects_replaced, objects_buried, objects_ended, objects_inserted, objects_same}
use Rattle.pt_tables.proofs.Finding.{object_free}

-- the next of all is the least
module _ (rows : List Row) (index : ObjectKey → Option ℕ) (handles : List HandleRow) (closing : List Closing)
    (capacity : ℕ) (sound : IsSoundStore rows index handles closing capacity) (seen : List Row) (view : rows ≡ seen)
  where
    there : (row : Row) → IsAmong row seen → IsAmong row rows
    there row among = subst (λ (z : List Row). IsAmong row z) (sym view) among

    pub store_replaced : (was now : Row) (after : List Row) → IsAmong was seen → IsSame number_rows.keyed was now →
        now.ids ≡ was.ids → Replaces was now rows after → IsSoundStore after index handles closing capacity
    store_replaced was now after among same ids r = record {
      room = let n = length_replaces r in let room = sound.room in omega (arith, n, room);
      objects = objects_replaced rows index sound.objects was now after (there was among) r same.serial ids same.live;
    }

    pub store_buried : (row : Row) (after : List Row) (index' : ObjectKey → Option ℕ) → IsAmong row seen →
        row.live ≡ true → Replaces row (number_rows.keyed.dead row) rows after →
        NoneOf (λ (other : Row). (other.serial ≡ row.serial) × (other.live ≡ true)) after →
        Leaves true (key_of row.ids) index index' → IsSoundStore after index' handles closing capacity
    store_buried row after index' among live r gone leaves = record {
      room = let n = length_replaces r in let room = sound.room in omega (arith, n, room);
      objects = objects_buried rows index sound.objects row (number_rows.keyed.dead row) after index' (there row among) live
          refl r
          gone leaves;
    }

    pub store_ended : (row : Row) (last : Closing) (after : List Row) (index' : ObjectKey → Option ℕ) → IsAmong row
        seen
        →
        Takes row rows after → NoneOf (λ (other : Row). other.serial ≡ row.serial) after →
        Leaves row.live (key_of row.ids) index index' →
        IsSoundStore after index' handles (closing ++ last ∷ []) capacity
    store_ended row last after index' among t gone leaves = record {
      room = let n = length_takes t in let room = sound.room in
          omega (arith, n, room, length-append closing (last ∷ []));
      objects = objects_ended rows index sound.objects row after index' (there row among) t gone leaves;
    }

    pub handles_replaced : (was now : HandleRow) (after : List HandleRow) → Replaces was now handles after →
        IsSoundStore rows index after closing capacity
    handles_replaced was now after r = record {
      room = let n = length_replaces r in let room = sound.room in omega (arith, n, room);
      objects = sound.objects;
    }

    pub handles_ended : (row : HandleRow) (last : Closing) (after : List HandleRow) → Takes row handles after →
        IsSoundStore rows index after (closing ++ last ∷ []) capacity
    handles_ended row last after t = record {
      room = let n = length_takes t in let room = sound.room in
          omega (arith, n, room, length-append closing (last ∷ []));
      objects = sound.objects;
    }

    -- with as much room, or more
    pub store_kept : (after : List Closing) (more : ℕ) (index' : ObjectKey → Option ℕ) → after ≡ closing →
        capacity ≤ more → SameAt index index' → IsSoundStore rows index' handles after more
    store_kept after more index' e l same = record {
      room = let room = sound.room in let n : length after ≡ length closing = ap length e in omega (
        arith,
        room,
        l,
        n,
      );
      objects = objects_same rows index sound.objects index' same;
    }

    -- what was entered left again
    pub store_refused : (ids : ObjIds) (serial : ℕ) (mid index' : ObjectKey → Option ℕ) → NoneOf (HasIds ids) seen →
        Puts (key_of ids) (Some serial) index mid → Leaves true (key_of ids) mid index' → SameAt index index'
    store_refused ids serial mid index' free enters leaves =
        puts_back (key_of ids) (Some serial) index mid index'
        (object_free rows index sound.objects ids (subst (λ (z : List Row). NoneOf (HasIds ids) z) (sym view) free))
        enters leaves

    pub store_inserted : (row : Row) (after : List Closing) (more : ℕ) (index' : ObjectKey → Option ℕ) →
        after ≡ closing → row.live ≡ true → NoneOf (HasIds row.ids) seen →
        Puts (key_of row.ids) (Some row.serial) index index' →
        length rows + 1 + length handles + length after ≤ more → IsSoundStore (row ∷ rows) index' handles after more
    store_inserted row after more index' e live free puts l = record {
      room = omega (arith, l);
      objects = objects_inserted rows index sound.objects row index' live
          (subst (λ (z : List Row). NoneOf (HasIds row.ids) z) (sym view) free) puts;
    }

    pub handle_inserted : (row : HandleRow) (after : List Closing) (more : ℕ) → after ≡ closing →
        length rows + 1 + length handles + length after ≤ more → IsSoundStore rows index (row ∷ handles) after more
    handle_inserted row after more e l = record { room = omega (arith, l); objects = sound.objects }
