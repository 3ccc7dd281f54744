-- A store goes on knowing what lives.
use Rattle.std.proofs.Common.{◌≡◌, ◌≢◌, ◌<◌, ◌+◌, ◌-◌, ◌⊎◌, inl, inr, ℕ, Bool, true, false, not, cond, ◌==◌, List, []}
use Rattle.std.proofs.Common.{◌∷◌, length, Option, Some, None, slice_get, get_or, refl, ap, sym, ◌∙◌}
use Rattle.std.proofs.Common.{subst, arith}
use Rattle.std.specs.Prelude.{slice_index}
use Rattle.std.proofs.lemmas.Bool.Decides.{eqb_tells}
use Rattle.std.proofs.lemmas.List.Sums.{prefix_len_passes}
use Rattle.std.proofs.lemmas.Option.{same_Some, slice_get_within, slice_get-get_or}
use Rattle.pt_host.specs.Words.{is, set_at}
use Rattle.pt_store.specs.Kept.{AreCounts, AreNumbered, IsKept, directories_of}
use Rattle.pt_node.specs.Links.{names_of}
use Rattle.pt_node.specs.Numbers.{Counts, freed, given_up, released}
use Rattle.pt_rules.specs.Living.{AreLeastFree, IsLeastFree, IsTaken, held_by, opens_of}
use Rattle.pt_node.specs.Slots.{closed, closed_where, file_of, is_free, least_free, open_at}
use Rattle.pt_rules.specs.Sound.{IsSound}
use Rattle.pt_rules.specs.State.{State}
use Rattle.pt_node.specs.declared.node.Node.{Node}
use Rattle.pt_node.specs.declared.slots.OpenFile.{OpenFile}
use Rattle.pt_node.specs.declared.slots.Slot.{Slot}
use Rattle.pt_node.specs.declared.slots.Slot.TheVariants.{Reserved, Free, Open}
use Rattle.pt_rules.specs.Laws.Changed.{AreAlike}
use Rattle.pt_rules.specs.Laws.Opens.{least_free-closed}
use Rattle.pt_rules.specs.Laws.SlotTable.{least_free-le-length}
use Rattle.pt_node.specs.Laws.Updates.{open_slot}
use Rattle.pt_node.specs.Laws.Updates.{get-set_apart, get-set_cases, get-set_here}
use Rattle.pt_store.proofs.Counting.{at, counts_as, counts_less, counts_more, index_is, is_at_one, once_more}
use Rattle.pt_store.proofs.Holding.{is_none, is_one}
use Rattle.pt_store.proofs.Weighing.{by_object, by_place, counted, directories_alike, directories_weigh, names_weigh}
use Rattle.pt_store.proofs.Weighing.{weighed}

-- what stood at a place, and has become alike
pub alike_there : (before after : List Node) (place : ℕ) (node : Node) → AreAlike before after →
    slice_get before place ≡ Some node → (that : Node) × (slice_get after place ≡ Some that) × (that.ids ≡ node.ids)
alike_there before after place node alike is =
    let within = slice_get_within before place node is in
    let that = slice_get-get_or after place node (let long = alike.long in omega arith) in
    let was = alike.each place (get_or after place node) that in
    (get_or after place node, that, was.2.ids ∙ ap (λ n. n.ids) (same_Some was.0 node (sym was.1 ∙ is)))

-- ---- as often as before

-- what is held on the device is what was held
pub numbered_alike : (state after : State) (dev : ℕ) (numbers : List Slot) → AreNumbered state dev numbers →
    AreAlike state.nodes after.nodes →
    ((object : ℕ) (node : Node) → slice_get state.nodes object ≡ Some node → node.ids.dev ≡ dev →
    0 < held_by after object → 0 < held_by state object) →
    ((object : ℕ) (node : Node) → slice_get state.nodes object ≡ Some node → node.ids.dev ≡ dev →
    0 < held_by state object → 0 < held_by after object) →
    AreNumbered after dev numbers
numbered_alike state after dev numbers are alike back on = record {
  has = λ object node there of some.
      let was = alike.each object node there in
      let was_of : was.0.ids.dev ≡ dev = sym (ap (λ ids. ids.dev) was.2.ids) ∙ of in
      let file = are.has object was.0 was.1 was_of (back object was.0 was.1 was_of some) in
      (file.0, ap (λ ids. open_at numbers ids.ino) was.2.ids ∙ file.1, file.2);
  had = λ number file there.
      let held = are.had number file there in
      let that = alike_there state.nodes after.nodes file.object held.0 alike held.1 in (
        that.0,
        that.1,
        ap (λ ids. ids.dev) that.2 ∙ held.2,
        ap (λ ids. ids.ino) that.2 ∙ held.3,
        on file.object held.0 held.1 held.2 held.4,
      );
  from_one = are.from_one;
  no_other = are.no_other;
}

-- ---- the tables that follow the names

pub record AreLinked (nodes : List Node) (names directories : List ℕ) : Type 0 where
  pub named : AreCounts (names_of nodes) (length nodes) names
  pub nested : AreCounts (directories_of nodes) (length nodes) directories

pub linked_by : (state : State) (counts : Counts) (tables : ℕ → List Slot) → IsKept state counts tables →
    AreLinked state.nodes counts.names counts.directories
linked_by state counts tables kept = record { named = kept.named; nested = kept.nested }

pub linked_same : (nodes after : List Node) (names directories : List ℕ) → AreLinked nodes names directories →
    AreAlike nodes after →
    ((w : ℕ → ℕ → ℕ) → weighed w after ≡ weighed w nodes) → AreLinked after names directories
linked_same nodes after names directories linked alike same = record {
  named = counts_as (names_of nodes) (names_of after) (length nodes) (length after) names linked.named alike.long
      (λ o within. names_weigh after o ∙ same (by_object o) ∙ sym (names_weigh nodes o));
  nested = counts_as (directories_of nodes) (directories_of after) (length nodes) (length after) directories
      linked.nested alike.long
      (λ o within. directories_alike nodes after o alike ∙ same (by_place o (counted nodes))
      ∙ sym (directories_weigh nodes o));
}

pub kept_alike : (state after : State) (holds : Counts) (tables : ℕ → List Slot) → IsKept state holds tables →
    IsSound after → AreAlike state.nodes after.nodes →
    ((object : ℕ) → opens_of after.slots object ≡ opens_of state.slots object) →
    ((w : ℕ → ℕ → ℕ) → weighed w after.nodes ≡ weighed w state.nodes) → IsKept after holds tables
kept_alike state after holds tables kept sound alike opened same = record {
  sound = sound;
  held = counts_as (held_by state) (held_by after) (length state.nodes) (length after.nodes) holds.holds kept.held
      alike.long (λ o within. as_before o);
  named = linked.named;
  nested = linked.nested;
  numbered = λ dev. numbered_alike state after dev (tables dev) (kept.numbered dev) alike
      (λ object node there of some. subst (λ n. 0 < n) (as_before object) some)
      (λ object node there of some. subst (λ n. 0 < n) (sym (as_before object)) some);
}
  where
    as_before : (object : ℕ) → held_by after object ≡ held_by state object
    as_before object =
        let opens = opened object in
        let names = same (by_object object) in
        omega (arith, opens, names, names_weigh after.nodes object, names_weigh state.nodes object)

    linked : AreLinked after.nodes holds.names holds.directories
    linked = linked_same state.nodes after.nodes holds.names holds.directories (linked_by state holds tables kept) alike
        same

-- ---- once more

module _ (state after : State) (holds : Counts) (tables : ℕ → List Slot) (object : ℕ)
    (kept : IsKept state holds tables) (sound : IsSound after)
    (alike : AreAlike state.nodes after.nodes) where
  pub kept_more : (names directories : List ℕ) → AreLinked after.nodes names directories → 0 < held_by state object →
      ((o : ℕ) → held_by after o ≡ held_by state o + is o object) →
      IsKept after (record { holds = once_more object holds.holds; names = names; directories = directories }) tables
  kept_more names directories linked lives more = record {
    sound = sound;
    held = counts_as (λ o. held_by state o + at o object 1) (held_by after) (length state.nodes) (length after.nodes)
        (once_more object holds.holds) (counts_more (held_by state) (length state.nodes) holds.holds object 1 kept.held)
        alike.long (λ o below. let a = more o in let one = is_at_one o object in omega (arith, a, one));
    named = linked.named;
    nested = linked.nested;
    numbered = λ dev. numbered_alike state after dev (tables dev) (kept.numbered dev) alike
        (λ o node there of some. still_held o some)
        (λ o node there of some. let a = more o in omega arith);
  }
    where
      still_held : (o : ℕ) → 0 < held_by after o → 0 < held_by state o
      still_held o some = elim (eqb_tells o object) [
        | inl e ↦ subst (λ n. 0 < held_by state n) (sym e.1) lives
        | inr apart ↦ (let a = more o in let none = is_none o object apart.1 in omega arith)
      ]

-- ---- a number is free again

pub closed_apart : (file : Option OpenFile) (number : ℕ) (numbers : List Slot) (k : ℕ) → k ≢ number →
    slice_get (closed_where file number numbers) k ≡ slice_get numbers k
closed_apart None number numbers k apart = refl
closed_apart (Some file) number numbers k apart = get-set_apart numbers number Free k apart

pub shut : (file : Option OpenFile) (number : ℕ) (numbers : List Slot) → open_at numbers number ≡ file →
    open_at (closed_where file number numbers) number ≡ None
shut None number numbers there = there
shut (Some file) number numbers there =
    ap file_of (get-set_here numbers number Free
    (slice_get_within numbers number (Open file) (open_slot (slice_get numbers number) file there)))

reserved_still : (file : Option OpenFile) (number : ℕ) (numbers : List Slot) (k : ℕ) → open_at numbers number ≡ file →
    slice_get numbers k ≡ Some Reserved → slice_get (closed_where file number numbers) k ≡ Some Reserved
reserved_still None number numbers k there reserved = reserved
reserved_still (Some file) number numbers k there reserved = elim (eqb_tells k number) [
  | inl e ↦ absurd (let a : open_at numbers number ≡ None = ap file_of (sym (ap (slice_get numbers) e.1) ∙ reserved) in
      let b : Some file ≡ None = sym there ∙ a in cc)
  | inr apart ↦ get-set_apart numbers number Free k apart.1 ∙ reserved
]

pub reserved_before : (file : Option OpenFile) (number : ℕ) (numbers : List Slot) (k : ℕ) →
    slice_get (closed_where file number numbers) k ≡ Some Reserved → slice_get numbers k ≡ Some Reserved
reserved_before None number numbers k there = there
reserved_before (Some file) number numbers k there =
    elim (get-set_cases numbers number Free k Reserved there) [ inl both ↦ cc | inr before ↦ before ]

-- the number is still open on the object, or it was closed
pub still_open_at : (number k : ℕ) (numbers : List Slot) (file : OpenFile) →
    open_at (closed number numbers) k ≡ Some file → (k ≢ number) × (open_at numbers k ≡ Some file)
still_open_at number k numbers file there = elim (eqb_tells k number) [
  | inl e ↦ absurd (let a : open_at (closed number numbers) number ≡ Some file =
      sym (ap (open_at (closed number numbers)) e.1) ∙ there in
      let b : Some file ≡ None = sym a ∙ shut (open_at numbers number) number numbers refl in cc)
  | inr apart ↦ (apart.1, sym (ap file_of (closed_apart (open_at numbers number) number numbers k apart.1)) ∙ there)
]

-- ---- the table of one device changes

pub numbered_put : (state : State) (dev : ℕ) (table : List Slot) (tables : ℕ → List Slot) →
    AreNumbered state dev table →
    ((other : ℕ) → other ≢ dev → AreNumbered state other (tables other)) → (other : ℕ) →
    AreNumbered state other (set_at dev table tables other)
unfolding set_at
numbered_put state dev table tables here there other = elim (eqb_tells other dev) [
  | inl e ↦ subst (λ b.
      AreNumbered state other (cond b table (tables other))) (sym e.0)
      (subst (λ k. AreNumbered state k table) (sym e.1) here)
  | inr apart ↦ subst (λ b. AreNumbered state other (cond b table (tables other))) (sym apart.0) (there other apart.1)
]

-- ---- once less

module _ (state after : State) (holds : Counts) (tables : ℕ → List Slot) (object : ℕ) (node : Node)
    (kept : IsKept state holds tables) (sound : IsSound after)
    (alike : AreAlike state.nodes after.nodes) (here : slice_get state.nodes object ≡ Some node)
    (names directories : List ℕ) (linked : AreLinked after.nodes names directories)
    (less : (o : ℕ) → held_by after o + is o object ≡ held_by state o) where
  abbrev fewer : Counts
  fewer = record { holds = released object holds.holds; names = names; directories = directories }

  count_is : slice_index holds.holds object ≡ held_by state object
  count_is = index_is holds.holds object (held_by state object)
      (kept.held.each object (slice_get_within state.nodes object node here))

  held_less : AreCounts (held_by after) (length after.nodes) (released object holds.holds)
  held_less = counts_as (λ o. held_by state o - at o object 1) (held_by after) (length state.nodes) (length after.nodes)
      (released object holds.holds) (counts_less (held_by state) (length state.nodes) holds.holds object 1 kept.held)
      alike.long (λ o within. let a = less o in let one = is_at_one o object in omega (arith, a, one))

  more_before : (o : ℕ) → 0 < held_by after o → 0 < held_by state o
  more_before o some = let a = less o in omega arith

  -- it is still held
  kept_less : held_by state object ≢ 1 → IsKept after fewer tables
  kept_less many = record {
    sound = sound;
    held = held_less;
    named = linked.named;
    nested = linked.nested;
    numbered = λ dev. numbered_alike state after dev (tables dev) (kept.numbered dev) alike
        (λ o that there of some. more_before o some)
        (λ o that there of some. still_held o some);
  }
    where
      still_held : (o : ℕ) → 0 < held_by state o → 0 < held_by after o
      still_held o some = elim (eqb_tells o object) [
        | inl e ↦ (let a = less o in let one = is_one o object e.1 in let same = ap (held_by state) e.1 in
            let apart : held_by state o ≢ 1 = λ f. many (sym same ∙ f) in omega arith)
        | inr apart ↦ (let a = less o in let none = is_none o object apart.1 in omega arith)
      ]

  -- what stands on another device is another object
  on_other : (dev o : ℕ) (that : Node) → dev ≢ node.ids.dev → slice_get state.nodes o ≡ Some that →
      that.ids.dev ≡ dev → o ≢ object
  on_other dev o that apart there of same =
      apart (sym of ∙ ap (λ (n : Node).
      n.ids.dev) (same_Some that node (sym there ∙ ap (slice_get state.nodes) same ∙ here)))

  -- it is dead
  numbered_dead : held_by state object ≡ 1 → AreNumbered after node.ids.dev (closed node.ids.ino (tables node.ids.dev))
  numbered_dead last = record {
    has = λ o that there of some.
        let was = alike.each o that there in
        let was_of : was.0.ids.dev ≡ node.ids.dev = sym (ap (λ ids. ids.dev) was.2.ids) ∙ of in
        let file = (kept.numbered node.ids.dev).has o was.0 was.1 was_of (more_before o some) in
        let apart : was.0.ids.ino ≢ node.ids.ino = λ same. other_object o some
        (sym file.2 ∙ ap (λ (f : OpenFile).
        f.object) (same_Some file.0 mine.0 (sym file.1 ∙ ap (open_at (tables node.ids.dev)) same ∙ mine.1))
        ∙ mine.2) in (
          file.0,
          ap (λ ids. open_at (closed node.ids.ino (tables node.ids.dev)) ids.ino) was.2.ids
              ∙ ap file_of (closed_apart (open_at (tables node.ids.dev) node.ids.ino) node.ids.ino
              (tables node.ids.dev) was.0.ids.ino apart) ∙ file.1,
          file.2,
        );
    had = λ number file there.
        let open_still = still_open_at node.ids.ino number (tables node.ids.dev) file there in
        let held = (kept.numbered node.ids.dev).had number file open_still.1 in
        let that = alike_there state.nodes after.nodes file.object held.0 alike held.1 in
        let apart : file.object ≢ object =
        λ same. open_still.0 (sym held.3
        ∙ ap (λ n. n.ids.ino) (same_Some held.0 node (sym held.1 ∙ ap (slice_get state.nodes) same ∙ here))) in (
          that.0,
          that.1,
          ap (λ ids. ids.dev) that.2 ∙ held.2,
          ap (λ ids. ids.ino) that.2 ∙ held.3,
          (let a = less file.object in let none = is_none file.object object apart in let some = held.4 in omega arith),
        );
    from_one = reserved_still (open_at (tables node.ids.dev) node.ids.ino) node.ids.ino (tables node.ids.dev) 0 refl
        (kept.numbered node.ids.dev).from_one;
    no_other = λ number some there.
        (kept.numbered node.ids.dev).no_other number some
        (reserved_before (open_at (tables node.ids.dev) node.ids.ino) node.ids.ino (tables node.ids.dev) number there);
  }
    where
      mine : (file : OpenFile) × (open_at (tables node.ids.dev) node.ids.ino ≡ Some file) × (file.object ≡ object)
      mine = (kept.numbered node.ids.dev).has object node here refl (omega arith)

      other_object : (o : ℕ) → 0 < held_by after o → o ≡ object → ⊥
      other_object o some same = let a = less o in let one = is_one o object same in
          let e = ap (held_by state) same in omega arith

  kept_dead : held_by state object ≡ 1 → IsKept after fewer (freed node.ids.dev node.ids.ino tables)
  kept_dead last = record {
    sound = sound;
    held = held_less;
    named = linked.named;
    nested = linked.nested;
    numbered = numbered_put after node.ids.dev (closed node.ids.ino (tables node.ids.dev)) tables (numbered_dead last)
        (λ dev apart. numbered_alike state after dev (tables dev) (kept.numbered dev) alike
        (λ o that there of some. more_before o some)
        (λ o that there of some. let a = less o in let none = is_none o object (on_other dev o that apart there of) in
        omega arith));
  }

  by_count : (b : Bool) → (b ≡ true → held_by state object ≡ 1) → (b ≡ false → held_by state object ≢ 1) →
      IsKept after fewer (cond b (freed node.ids.dev node.ids.ino tables) tables)
  by_count true last many = kept_dead (last refl)
  by_count false last many = kept_less (many refl)

  pub kept_released : IsKept after
      (record { holds = released object holds.holds; names = names; directories = directories })
      (given_up node.ids.dev node.ids.ino object holds.holds tables)
  kept_released = elim (eqb_tells (slice_index holds.holds object) 1) [
    | inl e ↦ by_count (slice_index holds.holds object == 1) (λ _. sym count_is
        ∙ e.1) (λ f. absurd (let g : true ≡ false = sym e.0 ∙ f in cc))
    | inr apart ↦ by_count (slice_index holds.holds object == 1) (λ f.
        absurd (let g : true ≡ false = sym f ∙ apart.0 in cc)) (λ _ one. apart.1 (count_is ∙ one))
  ]

-- ---- the next number

-- a table whose numbers begin at 1 has none that is 0
pub least_not_0 : (numbers : List Slot) → slice_get numbers 0 ≡ Some Reserved → 0 < least_free numbers
least_not_0 [] there = cc
least_not_0 (Reserved ∷ numbers) there = omega arith
least_not_0 (Free ∷ numbers) there = cc
least_not_0 (Open file ∷ numbers) there = cc

taken_slot : (slot : Slot) → is_free slot ≡ false → (slot ≡ Reserved) ⊎ ((file : OpenFile) × (slot ≡ Open file))
taken_slot Reserved is = inl refl
taken_slot Free is = cc
taken_slot (Open file) is = inr (file, refl)

not_true : (b : Bool) → not b ≡ true → b ≡ false
not_true true is = cc
not_true false is = refl

taken_below : (numbers : List Slot) (k : ℕ) → k < least_free numbers →
    (slot : Slot) × (slice_get numbers k ≡ Some slot) × (is_free slot ≡ false)
taken_below numbers k low =
    let within : k < length numbers = (let le = least_free-le-length numbers in omega arith) in (
      get_or numbers k Reserved,
      slice_get-get_or numbers k Reserved within,
      not_true (is_free (get_or numbers k Reserved))
          (prefix_len_passes (λ s. not (is_free s)) numbers k Reserved low),
    )

module _ (state : State) (dev : ℕ) (numbers : List Slot) (are : AreNumbered state dev numbers) where
  taken_open : (number : ℕ) (file : OpenFile) → open_at numbers number ≡ Some file → IsTaken state dev number
  taken_open number file is_open =
      let held = are.had number file is_open in
      (file.object, held.0, held.1, held.4, held.2, held.3)

  taken_other : (number : ℕ) → 0 < number → (slot : Slot) → slice_get numbers number ≡ Some slot →
      (slot ≡ Reserved) ⊎ ((file : OpenFile) × (slot ≡ Open file)) → IsTaken state dev number
  taken_other number some slot is (inl reserved) =
      absurd (are.no_other number some (is ∙ ap (λ (s : Slot). Some s) reserved))
  taken_other number some slot is (inr (file, open_on)) =
      taken_open number file (ap file_of (is ∙ ap (λ (s : Slot). Some s) open_on))

  pub least_numbered : IsLeastFree state dev (least_free numbers)
  least_numbered = record {
    from_one = least_not_0 numbers are.from_one;
    free = λ taken.
        let file = are.has taken.0 taken.1 taken.2 taken.4 taken.3 in
        let a : open_at numbers (least_free numbers) ≡ Some file.0 = sym (ap (open_at numbers) taken.5) ∙ file.1 in
        let b : Some file.0 ≡ None = sym a ∙ least_free-closed numbers in
        cc;
    least = λ other some low.
        let slot = taken_below numbers other low in
        taken_other other some slot.0 slot.1 (taken_slot slot.0 slot.2);
  }

-- the numbers that new objects get are the least
pub next_least : (state : State) (holds : Counts) (tables : ℕ → List Slot) → IsKept state holds tables →
    AreLeastFree state (λ dev. least_free (tables dev))
next_least state holds tables kept dev = least_numbered state dev (tables dev) (kept.numbered dev)
