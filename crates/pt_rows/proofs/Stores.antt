-- What keyed rows find, and how they stay sound where one changes, dies, ends or comes.
use Rattle.std.proofs.Common.{◌≡◌, ◌≢◌, ℕ, ◌<◌, ◌≤◌, List, ◌∷◌, ◌++◌, [], Bool, true, false, Option, Some, None}
use Rattle.std.proofs.Common.{MatchOption, reverse, sym, ap, subst, ◌∙◌, arith}
use Rattle.std.specs.Ordering.{nat_cmp}
use Rattle.std.specs.Map.{remove_entry, set_value, values_of}
use Rattle.std.specs.BTreeMap.{is_at, insert_entry}
use Rattle.std.proofs.lemmas.Option.{same_Some}
use Rattle.pt_host.specs.Words.{Each, EachTwo, Takes, Replaces}
use Rattle.pt_rows.specs.Rows.{Keyed}
use Rattle.pt_rows.specs.Rows.{IsAmong, NoneOf, HasKey, IsLeast, IsPinned}
use Rattle.pt_rows.specs.Above.{IsAbove, IsLiveAbove}
use Rattle.pt_rows.specs.Same.{IsOlder, IsSame, IsDead, IsNextRow}
use Rattle.pt_rows.specs.Index.{row_at, Puts, SameAt, Leaves, IsKeyed, IsSoundRows, IsNextIn}
use Rattle.pt_rows.proofs.Lists.{each_map, each_reverse, takes_reverse, replaces_reverse, two_takes, two_replaces, two_push}
use Rattle.pt_rows.proofs.Indexing.{puts_back, puts_here, index_same, index_inserted, index_changed, index_left}
use Rattle.pt_rows.proofs.Indexing.{index_ended}
use Rattle.pt_rows.proofs.Entries.{lookup_takes, lookup_replaces, keyed_removed, keyed_set, keyed_push, serial_at}
use Rattle.pt_rows.proofs.Entries.{among_found, each_from_among}
use Rattle.pt_rows.proofs.Seen.{among_reversed, among_seen, each_unseen, found_seen, among_at, index_misses}
use Rattle.pt_rows.proofs.Seen.{index_finds, serial_misses, serial_finds_other, next_misses, next_is, next_least}
use Rattle.pt_rows.proofs.Seen.{next_leads_in, key_free, lookup_head, keys_below, insert_newest, values_push}
use Rattle.pt_rows.proofs.Seen.{reverse_push}

module _ {R : Type 0} (keyed : Keyed R) (entries : List (ℕ × R)) (keys : ℕ → Option ℕ)
    (sound : IsSoundRows keyed entries keys) (seen : List R) (view : reverse (values_of entries) ≡ seen) where
  pub is_there : (row : R) → IsAmong row seen → row_at entries (keyed.serial row) ≡ Some row
  is_there row among =
      among_found keyed.serial row entries sound.by_serial sound.ordered
      (among_reversed row (values_of entries) seen view among)

  -- by the serial that code has of the row
  pub is_there_by : (row : R) (serial : ℕ) → serial ≡ keyed.serial row → IsAmong row seen →
      row_at entries serial ≡ Some row
  is_there_by row serial e among = ap (row_at entries) e ∙ is_there row among

  pub at_found : (serial : ℕ) (found : Option R) → found ≡ row_at entries serial →
      MatchOption found (NoneOf (λ row. keyed.serial row ≡ serial) seen) (λ row. (keyed.serial row ≡ serial)
      × IsAmong row seen)
  at_found serial None e =
      found_seen (λ row. keyed.serial row ≡ serial) None (values_of entries) seen view
      (serial_misses keyed.serial keyed.live entries sound.by_serial sound.ordered serial (λ row. keyed.serial row ≡ serial)
      (λ row p. p) (sym e))
  at_found serial (Some row) e = (
    serial_at keyed.serial entries serial row sound.by_serial (sym e),
    among_seen row (values_of entries) seen view (among_at entries serial row (sym e)),
  )

  pub at_alone : (serial : ℕ) (found : Option R) → found ≡ row_at entries serial →
      MatchOption found (Unit {0}) (λ row. Each (λ other. keyed.serial other ≡ serial → other ≡ row) seen)
  at_alone serial None e = tt
  at_alone serial (Some row) e =
      each_from_among (λ other. keyed.serial other ≡ serial → other ≡ row) seen (λ other among p.
      same_Some other row (sym (is_there_by other serial (sym p) among) ∙ sym e))

  pub key_missed : (key : ℕ) → keys key ≡ None → NoneOf (HasKey keyed key) seen
  key_missed key none =
      found_seen (HasKey keyed key) None (values_of entries) seen view
      (index_misses keyed.serial keyed.live entries sound.by_serial sound.ordered keyed.key keys key
      (HasKey keyed key) sound.keys (λ row p. p) none)

  pub key_found : (key serial : ℕ) (found : Option R) → keys key ≡ Some serial → found ≡ row_at entries serial →
      MatchOption found (NoneOf (HasKey keyed key) seen) (λ row. HasKey keyed key row × IsAmong row seen)
  key_found key serial found some e =
      found_seen (HasKey keyed key) found (values_of entries) seen view
      (subst (λ z. MatchOption z (NoneOf (HasKey keyed key) (values_of entries)) (λ row. HasKey keyed key row
      × IsAmong row (values_of entries))) (sym e)
      (index_finds keyed.serial keyed.live entries sound.by_serial sound.ordered keyed.key keys key
      (HasKey keyed key) serial sound.keys (λ row l n. (l, n)) some))

  -- a live key has one row
  pub key_alone : (key serial : ℕ) (found : Option R) → keys key ≡ Some serial → found ≡ row_at entries serial →
      MatchOption found (Unit {0}) (λ row. Each (λ other. HasKey keyed key other → other ≡ row) seen)
  key_alone key serial None some e = tt
  key_alone key serial (Some row) some e =
      each_from_among (λ other. HasKey keyed key other → other ≡ row) seen (λ other among p.
      let its = sound.keys.whole (keyed.serial other) other (is_there other among) p.0 in
      let same : serial ≡ keyed.serial other = same_Some serial (keyed.serial other) (sym some ∙ ap keys (sym p.1) ∙
      its) in
      same_Some other row (sym (is_there other among) ∙ ap (row_at entries) (sym same) ∙ sym e))

  pub pin_missed : (serial : ℕ) → row_at entries serial ≡ None → NoneOf (IsPinned keyed serial) seen
  pin_missed serial none =
      found_seen (IsPinned keyed serial) None (values_of entries) seen view
      (serial_misses keyed.serial keyed.live entries sound.by_serial sound.ordered serial (IsPinned keyed serial)
      (λ row p. p.0) none)

  pub pin_absent : (serial : ℕ) (row : R) → row_at entries serial ≡ Some row → keyed.pins row ≡ 0 →
      NoneOf (IsPinned keyed serial) seen
  pin_absent serial row some none =
      found_seen (IsPinned keyed serial) None (values_of entries) seen view
      (serial_finds_other keyed.serial keyed.live entries sound.by_serial sound.ordered serial row
      (IsPinned keyed serial) (λ other p. p.0) (λ p. p.1 none) some)

  pub pin_found : (serial : ℕ) (row : R) → row_at entries serial ≡ Some row → keyed.pins row ≢ 0 →
      IsPinned keyed serial row × IsAmong row seen
  pin_found serial row some pinned = (
    (serial_at keyed.serial entries serial row sound.by_serial some, pinned),
    among_seen row (values_of entries) seen view (among_at entries serial row some),
  )

  pub seen_replaced : (was now : R) (serial : ℕ) (after : List (ℕ × R)) → serial ≡ keyed.serial was →
      IsAmong was seen → after ≡ set_value (is_at (nat_cmp serial)) entries now →
      Replaces was now seen (reverse (values_of after))
  seen_replaced was now serial after s among e =
      subst (λ z. Replaces was now seen (reverse (values_of z))) (sym e)
      (subst (λ z. Replaces was now z (reverse (values_of (set_value (is_at (nat_cmp serial)) entries now)))) view
      (replaces_reverse (lookup_replaces (is_at (nat_cmp serial)) entries was now (is_there_by was serial s among))))

  pub seen_ended : (row : R) (serial : ℕ) (after : List (ℕ × R)) → serial ≡ keyed.serial row → IsAmong row seen →
      after ≡ remove_entry (is_at (nat_cmp serial)) entries → Takes row seen (reverse (values_of after))
  seen_ended row serial after s among e =
      subst (λ z. Takes row seen (reverse (values_of z))) (sym e)
      (subst (λ z. Takes row z (reverse (values_of (remove_entry (is_at (nat_cmp serial)) entries)))) view
      (takes_reverse (lookup_takes (is_at (nat_cmp serial)) entries row (is_there_by row serial s among))))

  set_ordered : (was now : R) (serial : ℕ) → row_at entries serial ≡ Some was → keyed.serial now ≡ keyed.serial was →
      EachTwo (IsOlder keyed.serial) (values_of (set_value (is_at (nat_cmp serial)) entries now))
  set_ordered was now serial there e =
      two_replaces (IsOlder keyed.serial) (lookup_replaces (is_at (nat_cmp serial)) entries was now there)
      (λ z h. omega (arith, e, h)) (λ z h. omega (arith, e, h)) sound.ordered

  pub sound_replaced : (was now : R) (serial : ℕ) (after : List (ℕ × R)) → serial ≡ keyed.serial was →
      IsAmong was seen → IsSame keyed was now → after ≡ set_value (is_at (nat_cmp serial)) entries now →
      Puts serial (Some now) (row_at entries) (row_at after) → IsSoundRows keyed after keys
  sound_replaced was now serial after s among same e puts = let there = is_there_by was serial s among in record {
    by_serial = subst (λ z. IsKeyed keyed.serial z) (sym e)
        (keyed_set keyed.serial serial now entries (same.serial ∙ sym s) sound.by_serial);
    ordered = subst (λ z. EachTwo (IsOlder keyed.serial) (values_of z)) (sym e)
        (set_ordered was now serial there same.serial);
    keys = index_changed keyed.live keyed.key (row_at entries) (row_at after) keys was now serial there same.live
        same.key
        puts sound.keys;
  }

  pub sound_buried : (row now : R) (serial : ℕ) (after : List (ℕ × R)) (live : Bool) (key : ℕ) (keys' : ℕ → Option ℕ)
      →
      serial ≡ keyed.serial row → live ≡ keyed.live row → key ≡ keyed.key row → IsAmong row seen →
      keyed.live row ≡ true → IsDead keyed row now → after ≡ set_value (is_at (nat_cmp serial)) entries now →
      Puts serial (Some now) (row_at entries) (row_at after) → Leaves live key keys keys' → IsSoundRows keyed after
      keys'
  sound_buried row now serial after live key keys' s l n among lives dead e puts leaves =
      let there = is_there_by row serial s among in
      let dies : (other : R) → Some now ≡ Some other → keyed.live other ≡ false =
      λ other f. ap keyed.live (sym (same_Some now other f)) ∙ dead.live in
      record {
        by_serial = subst (λ z. IsKeyed keyed.serial z) (sym e)
            (keyed_set keyed.serial serial now entries (dead.serial ∙ sym s) sound.by_serial);
        ordered = subst (λ z. EachTwo (IsOlder keyed.serial) (values_of z)) (sym e)
            (set_ordered row now serial there dead.serial);
        keys = index_left keyed.live keyed.key (row_at entries) (row_at after) keys keys' row serial (Some now) there
            lives
            dies puts (subst (λ (k : ℕ). Puts k None keys keys') n
            (subst (λ (b : Bool). Leaves b key keys keys') (l ∙ lives) leaves)) sound.keys;
      }

  pub sound_ended : (row : R) (serial : ℕ) (after : List (ℕ × R)) (live : Bool) (key : ℕ) (keys' : ℕ → Option ℕ) →
      serial ≡ keyed.serial row → live ≡ keyed.live row → key ≡ keyed.key row → IsAmong row seen →
      after ≡ remove_entry (is_at (nat_cmp serial)) entries → Puts serial None (row_at entries) (row_at after) →
      Leaves live key keys keys' → IsSoundRows keyed after keys'
  sound_ended row serial after live key keys' s l n among e puts leaves =
      let there = is_there_by row serial s among in
      let takes = lookup_takes (is_at (nat_cmp serial)) entries row there in
      record {
        by_serial = subst (λ z. IsKeyed keyed.serial z) (sym e)
            (keyed_removed keyed.serial (is_at (nat_cmp serial)) entries sound.by_serial);
        ordered = subst (λ z. EachTwo (IsOlder keyed.serial) (values_of z)) (sym e)
            (two_takes (IsOlder keyed.serial) takes sound.ordered);
        keys = index_ended keyed.live keyed.key live (row_at entries) (row_at after) keys keys' row serial there (sym l)
            puts
            (subst (λ (k : ℕ). Leaves live k keys keys') n leaves) sound.keys;
      }

  newest_entries : (row : R) → Each (λ other. keyed.serial other < keyed.serial row) seen →
      Each (λ entry. entry.0 < keyed.serial row) entries
  newest_entries row newest =
      keys_below keyed.serial entries (keyed.serial row) sound.by_serial
      (each_unseen (λ other. keyed.serial other < keyed.serial row) (values_of entries) seen view newest)

  pub is_free : (key : ℕ) → NoneOf (HasKey keyed key) seen → keys key ≡ None
  is_free key free =
      key_free keyed.serial keyed.live entries sound.by_serial sound.ordered keyed.key keys key (HasKey keyed key) sound.keys
      (λ other l n. (l, n)) (each_unseen (λ other. HasKey keyed key other → ⊥) (values_of entries) seen view free)

  pub seen_inserted : (row : R) (serial : ℕ) (after : List (ℕ × R)) → serial ≡ keyed.serial row →
      Each (λ other. keyed.serial other < keyed.serial row) seen → after ≡ insert_entry nat_cmp entries serial row →
      reverse (values_of after) ≡ row ∷ seen
  seen_inserted row serial after s newest e =
      let at_own : after ≡ insert_entry nat_cmp entries (keyed.serial row) row =
      e ∙ ap (λ n. insert_entry nat_cmp entries n row) s in
      let grown : values_of after ≡ values_of entries ++ row ∷ [] =
      ap values_of (at_own ∙ insert_newest entries (keyed.serial row) row (newest_entries row newest))
      ∙ values_push entries (keyed.serial row) row in
      ap reverse grown ∙ reverse_push (values_of entries) row ∙ ap (λ z. row ∷ z) view

  pub sound_inserted : (row : R) (serial key : ℕ) (after : List (ℕ × R)) (keys' : ℕ → Option ℕ) →
      serial ≡ keyed.serial row → key ≡ keyed.key row → keyed.live row ≡ true →
      Each (λ other. keyed.serial other < keyed.serial row) seen → NoneOf (HasKey keyed (keyed.key row)) seen →
      after ≡ insert_entry nat_cmp entries serial row → Puts serial (Some row) (row_at entries) (row_at after) →
      Puts key (Some serial) keys keys' → IsSoundRows keyed after keys'
  sound_inserted row serial key after keys' s n live newest free e puts enters =
      let below = newest_entries row newest in
      let at_own : after ≡ insert_entry nat_cmp entries (keyed.serial row) row =
      e ∙ ap (λ n. insert_entry nat_cmp entries n row) s in
      let grown : after ≡ entries ++ (keyed.serial row, row) ∷ [] =
      at_own ∙ insert_newest entries (keyed.serial row) row below in
      let absent : row_at entries serial ≡ None =
      ap (row_at entries) s ∙ lookup_head entries (keyed.serial row) below in
      record {
        by_serial = subst (λ z. IsKeyed keyed.serial z) (sym grown) (keyed_push keyed.serial entries row sound.by_serial);
        ordered = subst (λ z. EachTwo (IsOlder keyed.serial) z)
            (sym (ap values_of grown ∙ values_push entries (keyed.serial row) row))
            (two_push (IsOlder keyed.serial) (values_of entries) row sound.ordered
            (each_unseen (λ other. keyed.serial other < keyed.serial row) (values_of entries) seen view newest));
        keys = index_inserted keyed.live keyed.key (row_at entries) (row_at after) keys keys' row serial live absent
            (is_free (keyed.key row) free) puts (subst (λ (k : ℕ). Puts k (Some serial) keys keys') n enters)
            sound.keys;
      }

  pub sound_same : (keys' : ℕ → Option ℕ) → SameAt keys keys' → IsSoundRows keyed entries keys'
  sound_same keys' same = record {
    by_serial = sound.by_serial;
    ordered = sound.ordered;
    keys = index_same keyed.live keyed.key (row_at entries) keys keys' same sound.keys;
  }

  -- running out of memory left the index as it was: what was entered left again
  pub sound_refused : (key serial : ℕ) (mid keys' : ℕ → Option ℕ) → keys key ≡ None →
      Puts key (Some serial) keys mid → Leaves true key mid keys' → IsSoundRows keyed entries keys'
  sound_refused key serial mid keys' free enters leaves =
      sound_same keys' (puts_back key (Some serial) keys mid keys' free enters leaves)

  pub next_missed : (above : Option ℕ) (next : Option (ℕ × ℕ)) → next ≡ None → IsNextIn keys above next →
      NoneOf (IsLiveAbove keyed above) seen
  next_missed above next e h =
      found_seen (IsLiveAbove keyed above) None (values_of entries) seen view
      (next_misses keyed.serial keyed.live entries sound.by_serial sound.ordered keyed.key keys above
      (IsLiveAbove keyed above) sound.keys (λ row p. p) (subst (λ z. IsNextIn keys above z) e h))

  pub next_found : (above : Option ℕ) (next : Option (ℕ × ℕ)) (key serial : ℕ) (found : Option R) →
      next ≡ Some (key, serial) → found ≡ row_at entries serial → IsNextIn keys above next → IsNextRow keyed seen above
      found
  next_found above next key serial None e there h =
      absurd (next_leads_in keyed.serial keyed.live entries sound.by_serial sound.ordered keyed.key keys above key serial
      sound.keys (sym there) (subst (λ z. IsNextIn keys above z) e h))
  next_found above next key serial (Some row) e there h =
      let here_is : IsNextIn keys above (Some (key, serial)) = subst (λ z. IsNextIn keys above z) e h in
      let found = next_is keyed.serial keyed.live entries sound.by_serial sound.ordered keyed.key keys above key serial row
      sound.keys (sym there) here_is in
      let least = next_least keyed.serial keyed.live entries sound.by_serial sound.ordered keyed.key keys above key serial
      (IsLiveAbove keyed above) sound.keys (λ other p. p) here_is in
      let least_is : Each (λ other. IsLiveAbove keyed above other → keyed.key row ≤ keyed.key other) (values_of entries)
      =
      subst (λ (n : ℕ). Each (λ other. IsLiveAbove keyed above other → n ≤ keyed.key other) (values_of entries))
      (sym found.1) least in (
        (found.0, subst (IsAbove above) (sym found.1) here_is.1),
        among_seen row (values_of entries) seen view (among_at entries serial row (sym there)),
        subst (λ z. Each (λ other. IsLiveAbove keyed above other → keyed.key row ≤ keyed.key other) z) view
            (each_reverse (λ other. IsLiveAbove keyed above other → keyed.key row ≤ keyed.key other) (values_of entries)
            least_is),
      )

  -- another row has another serial
  pub ended_gone : (row : R) (serial : ℕ) (after : List (ℕ × R)) (keys' : ℕ → Option ℕ) → serial ≡ keyed.serial row →
      IsSoundRows keyed after keys' → Puts serial None (row_at entries) (row_at after) →
      NoneOf (λ other. keyed.serial other ≡ keyed.serial row) (reverse (values_of after))
  ended_gone row serial after keys' s left puts =
      each_reverse (λ other. keyed.serial other ≡ keyed.serial row → ⊥) (values_of after)
      (serial_misses keyed.serial keyed.live after left.by_serial left.ordered serial (λ other. keyed.serial other ≡
      keyed.serial row)
      (λ other p. p ∙ sym s) (puts_here serial None (row_at entries) (row_at after) puts))

  pub buried_gone : (row now : R) (serial : ℕ) (after : List (ℕ × R)) (keys' : ℕ → Option ℕ) → serial ≡ keyed.serial
      row →
      IsDead keyed row now → IsSoundRows keyed after keys' → Puts serial (Some now) (row_at entries) (row_at after) →
      NoneOf (λ other. (keyed.serial other ≡ keyed.serial row) × (keyed.live other ≡ true)) (reverse (values_of after))
  buried_gone row now serial after keys' s dead left puts =
      each_reverse (λ other. (keyed.serial other ≡ keyed.serial row) × (keyed.live other ≡ true) → ⊥) (values_of after)
      (serial_finds_other keyed.serial keyed.live after left.by_serial left.ordered serial now
      (λ other. (keyed.serial other ≡ keyed.serial row) × (keyed.live other ≡ true)) (λ other p. p.0 ∙ sym s)
      (λ p. let d = dead.live in let l = p.1 in absurd (cc)) (puts_here serial (Some now) (row_at entries) (row_at
      after) puts))

pub least : {R : Type 0} (keyed : Keyed R) (rows : List R) (found : Option R) → IsNextRow keyed rows None found →
    MatchOption found (NoneOf (λ row. keyed.live row ≡ true) rows) (λ row. IsLeast keyed rows row)
least keyed rows None h = each_map (λ row. IsLiveAbove keyed None row → ⊥) (λ row. keyed.live row ≡ true → ⊥) rows
    (λ row no live. no (live, tt)) h
least keyed rows (Some row) h = (
  h.0.0,
  h.1,
  each_map (λ other. IsLiveAbove keyed None other → keyed.key row ≤ keyed.key other)
      (λ other. keyed.live other ≡ true → keyed.key row ≤ keyed.key other) rows (λ other below live. below (live, tt))
      h.2,
)
