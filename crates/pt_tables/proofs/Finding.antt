-- How objects are found among the rows of numbers, and how they still are where a row changes, dies, ends or comes.
use Rattle.std.proofs.Common.{◌≡◌, ◌≢◌, ◌⊎◌, ⊎_elim, inl, inr, ℕ, List, ◌∷◌, true, false, Option, Some, None}
use Rattle.std.proofs.Common.{MatchOption, refl, sym, ap, ◌∙◌}
use Rattle.std.proofs.lemmas.Option.{same_Some}
use Rattle.pt_host.specs.Words.{Each, Takes, Takes.{here, there}, Replaces, Replaces.{at, past}}
use Rattle.pt_host.specs.declared.ids.ObjIds.{ObjIds}
use Rattle.pt_tables.specs.Tables.{Row, HasIds}
use Rattle.pt_rows.specs.Rows.{IsAmong, NoneOf}
use Rattle.pt_tables.specs.Index.{ObjectKey, key_of, FindsObjects}
use Rattle.pt_rows.specs.Index.{Puts, SameAt, Leaves}
use Rattle.pt_rows.proofs.Lists.{each_taken}
use Rattle.pt_rows.proofs.Indexing.{puts_here, puts_there}
use Rattle.pt_rows.proofs.Entries.{each_from_among}

pub ids_of_key : (a b : ObjIds) → key_of a ≡ key_of b → a ≡ b
ids_of_key a b e = ap (λ (key : ObjectKey). let ids : ObjIds =
    record { ino = key.0.0; dev = key.0.1; mnt_id = key.1 } in ids) e

among_more : {A : Type 0} {x y : A} {xs : List A} → IsAmong x xs → IsAmong x (y ∷ xs)
among_more {y = y} h = (y ∷ h.0, there h.1)

-- what is there before a row goes is that row or is there after, and what is there after was there before
taken_or : {A : Type 0} {x y : A} {xs ys others : List A} → Takes y xs others → Takes x xs ys → (y ≡ x) ⊎ IsAmong y ys
taken_or here here = inl refl
taken_or (here {xs = xs}) (there t) = inr (_, here)
taken_or (there t) here = inr (_, t)
taken_or (there t) (there u) = ⊎_elim (λ e. inl e) (λ a. inr (among_more a)) (taken_or t u)

taken_from : {A : Type 0} {x y : A} {xs ys others : List A} → Takes x xs ys → Takes y ys others → IsAmong y xs
taken_from here t = among_more (_, t)
taken_from (there t) here = (_, here)
taken_from (there t) (there u) = among_more (taken_from t u)

-- the same where it changes
replaced_or : {A : Type 0} {x now y : A} {xs ys others : List A} → Takes y xs others → Replaces x now xs ys →
    (y ≡ x) ⊎ IsAmong y ys
replaced_or here at = inl refl
replaced_or here (past r) = inr (_, here)
replaced_or (there t) at = inr (among_more (_, t))
replaced_or (there t) (past r) = ⊎_elim (λ e. inl e) (λ a. inr (among_more a)) (replaced_or t r)

replaced_from : {A : Type 0} {x now y : A} {xs ys others : List A} → Replaces x now xs ys → Takes y ys others →
    (y ≡ now) ⊎ IsAmong y xs
replaced_from at here = inl refl
replaced_from at (there t) = inr (among_more (_, t))
replaced_from (past r) here = inr (_, here)
replaced_from (past r) (there t) = ⊎_elim (λ e. inl e) (λ a. inr (among_more a)) (replaced_from r t)

replaced_now : {A : Type 0} {x now : A} {xs ys : List A} → Replaces x now xs ys → IsAmong now ys
replaced_now at = (_, here)
replaced_now (past r) = among_more (replaced_now r)

module _ (rows : List Row) (objects : ObjectKey → Option ℕ) (finds : FindsObjects rows objects) where
  pub object_missed : (ids : ObjIds) → objects (key_of ids) ≡ None → NoneOf (HasIds ids) rows
  object_missed ids none = each_from_among (λ row. HasIds ids row → ⊥) rows (λ row among has.
      let found = finds.whole row among has.0 in
      absurd (let e : None ≡ Some row.serial = sym none ∙ ap objects (ap key_of (sym has.1)) ∙ found in cc))

  pub object_found : (ids : ObjIds) (serial : ℕ) (found : Option Row) → objects (key_of ids) ≡ Some serial →
      MatchOption found (NoneOf (λ row. row.serial ≡ serial) rows) (λ row. (row.serial ≡ serial) × IsAmong row rows) →
      MatchOption found (Unit {0}) (λ row. Each (λ other. other.serial ≡ serial → other ≡ row) rows) →
      MatchOption found (NoneOf (HasIds ids) rows) (λ row. HasIds ids row × IsAmong row rows)
  object_found ids serial None some none alone = let leads = finds.sound (key_of ids) serial some in
      absurd (each_taken (λ (row : Row). row.serial ≡ serial → ⊥) leads.1.1 none leads.2)
  object_found ids serial (Some row) some at_serial alone =
      let leads = finds.sound (key_of ids) serial some in
      let same : leads.0 ≡ row = each_taken (λ (other : Row). other.serial ≡ serial → other ≡ row) leads.1.1 alone
      leads.2 in (
        (
          ap (λ (r : Row). r.live) (sym same) ∙ leads.3,
          ap (λ (r : Row). r.ids) (sym same) ∙ ids_of_key leads.0.ids ids leads.4,
        ),
        at_serial.1,
      )

  pub objects_replaced : (was now : Row) (after : List Row) → IsAmong was rows → Replaces was now rows after →
      now.serial ≡ was.serial → now.ids ≡ was.ids → now.live ≡ was.live → FindsObjects after objects
  objects_replaced was now after among r s i l = record {
    sound = λ key serial e. let found = finds.sound key serial e in ⊎_elim
        (λ same. (
          now,
          replaced_now r,
          s ∙ ap (λ (z : Row). z.serial) (sym same) ∙ found.2,
          l ∙ ap (λ (z : Row). z.live) (sym same) ∙ found.3,
          ap key_of i ∙ ap (λ (z : Row). key_of z.ids) (sym same) ∙ found.4,
        ))
        (λ stays. (found.0, stays, found.2, found.3, found.4))
        (replaced_or found.1.1 r);
    whole = λ row there live. ⊎_elim
        (λ same. let was_there = finds.whole was among (sym l ∙ ap (λ (z : Row). z.live) (sym same) ∙ live) in
        ap objects (ap (λ (z : Row). key_of z.ids) same ∙ ap key_of i) ∙ was_there
        ∙ ap Some (sym s ∙ ap (λ (z : Row). z.serial) (sym same)))
        (λ before. finds.whole row before live)
        (replaced_from r there.1);
  }

  -- a live row goes, or dies: no other live row has its serial
  objects_left : (row : Row) (after : List Row) (objects' : ObjectKey → Option ℕ) → IsAmong row rows →
      row.live ≡ true → Puts (key_of row.ids) None objects objects' →
      ((other : Row) → IsAmong other rows → (other ≡ row) ⊎ IsAmong other after) →
      ((other : Row) → IsAmong other after → other.live ≡ true → (other.serial ≢ row.serial) × IsAmong other rows) →
      FindsObjects after objects'
  objects_left row after objects' among live puts on back = record {
    sound = λ key serial e. ⊎_elim
        (λ same. absurd (let e1 : None ≡ Some serial = sym same.1 ∙ e in cc))
        (λ apart. let found = finds.sound key serial (sym apart.1 ∙ e) in ⊎_elim
        (λ same. absurd (apart.0 (sym found.4 ∙ ap (λ (z : Row). key_of z.ids) same)))
        (λ stays. (found.0, stays, found.2, found.3, found.4))
        (on found.0 found.1))
        (puts key);
    whole = λ other there lives. let before = back other there lives in
        let found = finds.whole other before.1 lives in
        puts_there (key_of row.ids) None objects objects' puts (key_of other.ids) (λ (s : key_of other.ids ≡ key_of
        row.ids).
        before.0 (same_Some other.serial row.serial (sym found ∙ ap objects s ∙ finds.whole row among live))) ∙ found;
  }

  pub objects_buried : (row now : Row) (after : List Row) (objects' : ObjectKey → Option ℕ) → IsAmong row rows →
      row.live ≡ true → now.live ≡ false → Replaces row now rows after →
      NoneOf (λ other. (other.serial ≡ row.serial) × (other.live ≡ true)) after →
      Puts (key_of row.ids) None objects objects' → FindsObjects after objects'
  objects_buried row now after objects' among live dead r gone puts =
      objects_left row after objects' among live puts (λ other there. replaced_or there.1 r) (λ other there lives. (
        λ e. each_taken (λ (z : Row). (z.serial ≡ row.serial) × (z.live ≡ true) → ⊥) there.1 gone (e, lives),
        ⊎_elim (λ same. absurd (let l : now.live ≡ true = ap (λ (z : Row). z.live) (sym same) ∙ lives in cc))
            (λ before. before) (replaced_from r there.1),
      ))

  pub objects_ended : (row : Row) (after : List Row) (objects' : ObjectKey → Option ℕ) → IsAmong row rows →
      Takes row rows after → NoneOf (λ other. other.serial ≡ row.serial) after →
      Leaves row.live (key_of row.ids) objects objects' → FindsObjects after objects'
  objects_ended row after objects' among t gone leaves = by_live row.live refl leaves
    where
      by_live : (live : _) → row.live ≡ live → Leaves live (key_of row.ids) objects objects' → FindsObjects after
          objects'
      by_live true l puts =
          objects_left row after objects' among l puts (λ other there. taken_or there.1 t) (λ other there lives. (
            λ e. each_taken (λ (z : Row). z.serial ≡ row.serial → ⊥) there.1 gone e,
            taken_from t there.1,
          ))
      by_live false l same = record {
        sound = λ key serial e. let found = finds.sound key serial (sym (same key) ∙ e) in ⊎_elim
            (λ is. absurd (let live : row.live ≡ true = ap (λ (z : Row). z.live) (sym is) ∙ found.3 in cc))
            (λ stays. (found.0, stays, found.2, found.3, found.4))
            (taken_or found.1.1 t);
        whole = λ other there lives. same (key_of other.ids) ∙ finds.whole other (taken_from t there.1) lives;
      }

  pub object_free : (ids : ObjIds) → NoneOf (HasIds ids) rows → objects (key_of ids) ≡ None
  object_free ids free = free_by (objects (key_of ids)) refl
    where
      free_by : (o : Option ℕ) → objects (key_of ids) ≡ o → o ≡ None
      free_by None e = refl
      free_by (Some serial) e = let found = finds.sound (key_of ids) serial e in
          absurd (each_taken (λ (z : Row). HasIds ids z → ⊥) found.1.1 free
          (found.3, ids_of_key found.0.ids ids found.4))

  pub objects_inserted : (row : Row) (objects' : ObjectKey → Option ℕ) → row.live ≡ true → NoneOf (HasIds row.ids)
      rows →
      Puts (key_of row.ids) (Some row.serial) objects objects' → FindsObjects (row ∷ rows) objects'
  objects_inserted row objects' live free puts = record {
    sound = λ key serial e. ⊎_elim
        (λ same. (row, (rows, here), same_Some row.serial serial (sym same.1 ∙ e), live, sym same.0))
        (λ apart. let found = finds.sound key serial (sym apart.1 ∙ e) in
        (found.0, among_more found.1, found.2, found.3, found.4))
        (puts key);
    whole = λ other there lives. whole_by other there.0 there.1 lives;
  }
    where
      whole_by : (other : Row) (others : List Row) → Takes other (row ∷ rows) others → other.live ≡ true →
          objects' (key_of other.ids) ≡ Some other.serial
      whole_by other others here lives = puts_here (key_of row.ids) (Some row.serial) objects objects' puts
      whole_by other others (there t) lives =
          puts_there (key_of row.ids) (Some row.serial) objects objects' puts (key_of other.ids)
          (λ (s : key_of other.ids ≡ key_of row.ids). each_taken (λ (z : Row). HasIds row.ids z → ⊥) t free
          (lives, ids_of_key other.ids row.ids s)) ∙ finds.whole other (_, t) lives

  pub objects_same : (objects' : ObjectKey → Option ℕ) → SameAt objects objects' → FindsObjects rows objects'
  objects_same objects' same = record {
    sound = λ key serial e. finds.sound key serial (sym (same key) ∙ e);
    whole = λ row among live. same (key_of row.ids) ∙ finds.whole row among live;
  }
