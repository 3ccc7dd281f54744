-- A store goes on knowing what lives where an object is made, or was nearly made.
use Rattle.std.proofs.Common.{◌≡◌, ◌≢◌, ◌<◌, ◌+◌, ◌-◌, ◌^◌, inl, inr, ℕ, true, false, cond, List, [], ◌∷◌, ◌++◌}
use Rattle.std.proofs.Common.{length, take, Some, None, slice_get, slice_set, refl, ap, sym, ◌∙◌, subst, arith}
use Rattle.std.specs.Prelude.{slice_index}
use Rattle.std.proofs.lemmas.Bool.Decides.{eqb_tells, leb_tells}
use Rattle.std.proofs.lemmas.List.{length_push}
use Rattle.std.proofs.lemmas.Option.{same_Some, slice_get_past, slice_get_within}
use Rattle.pt_host.specs.Words.{is, set_at}
use Rattle.pt_rules.specs.Edits.{with_made}
use Rattle.pt_node.specs.Entries.{is_directory_at, is_directory_where, touched, with_entry}
use Rattle.pt_store.specs.Kept.{AreCounts, AreNumbered, IsKept, directories_of, directories_where}
use Rattle.pt_node.specs.Links.{names_of}
use Rattle.pt_node.specs.Numbers.{Counts, freed, having, weight}
use Rattle.pt_rules.specs.Living.{IsLeastFree, held_by}
use Rattle.pt_rules.specs.Holds.{HasHold}
use Rattle.pt_node.specs.Node.{is_directory, name_at, names_in}
use Rattle.pt_node.specs.Slots.{closed, file_of, least_free, open_at, put_at}
use Rattle.pt_rules.specs.Sound.{IsShort, IsSound}
use Rattle.pt_rules.specs.State.{State, time_of}
use Rattle.pt_node.specs.declared.node.Node.{Node}
use Rattle.pt_node.specs.declared.slots.OpenFile.{OpenFile}
use Rattle.pt_node.specs.declared.slots.Slot.{Slot}
use Rattle.pt_node.specs.declared.slots.Slot.TheVariants.{Reserved, Open}
use Rattle.pt_rules.specs.Laws.EditShapes.{alike_entered, entered}
use Rattle.pt_rules.specs.Laws.EditSound.{all_ordered, at_place, length_made, sound_made}
use Rattle.pt_rules.specs.Laws.Opens.{least_free-closed}
use Rattle.pt_rules.specs.Laws.SlotTable.{least_free-le-length}
use Rattle.pt_node.specs.Laws.Updates.{open_slot}
use Rattle.pt_node.specs.Laws.Updates.{get-push_apart, get-push_here, get-put_apart, get-put_cases, get-put_here}
use Rattle.pt_rules.specs.Laws.Held.{held_lives}
use Rattle.pt_store.proofs.Counting.{at, at_none, counts_as, counts_pushed, counts_raised, index_is}
use Rattle.pt_store.proofs.Holding.{get_there, is_none, is_one}
use Rattle.pt_store.proofs.Kept.{closed_apart, least_not_0, next_least, numbered_put, reserved_before, shut}
use Rattle.pt_store.proofs.KeptStore.{same_counts, with_counts}
use Rattle.pt_store.proofs.Weighing.{by_object, by_place, counted, directories_weigh, directory_alike, names_weigh}
use Rattle.pt_store.proofs.Weighing.{weighed, weighed-apart, weighed-gained, weighed-pushed}

module _ (state : State) (holds : Counts) (tables : ℕ → List Slot) (kept : IsKept state holds tables) (dir : ℕ)
    (name : List ℕ) (node parent : Node)
    (into : is_directory_at state.nodes dir ≡ true) (free : name_at state.nodes dir name
    ≡ None) (empty : names_in node.content ≡ []) (bare : node.xattrs ≡ [])
    (serial : node.serial
    ≡ length state.nodes + 1) (small : node.permissions < 4096) (good : IsShort name)
    (at_dir : slice_get state.nodes dir ≡ Some parent)
    (number : node.ids.ino
    ≡ least_free (tables node.ids.dev)) (few : length (with_made state dir name node).nodes < 2 ^ 63) where
  least : IsLeastFree state node.ids.dev node.ids.ino
  least = subst (IsLeastFree state node.ids.dev) (sym number) (next_least state holds tables kept node.ids.dev)

  sound : IsSound (with_made state dir name node)
  sound = sound_made state dir name node kept.sound into empty bare serial small least good few

  long_made : length (with_made state dir name node).nodes ≡ length state.nodes + 1
  long_made = length_made state dir name node kept.sound into empty bare serial small least

  weighed_made : (w : ℕ → ℕ → ℕ) →
      weighed w (with_made state dir name node).nodes ≡ weighed w state.nodes + w dir (length state.nodes)
  weighed_made w =
      let pushed = weighed-pushed w (entered (time_of state) dir name node state.nodes) node empty in
      let gained = weighed-gained w state.nodes dir name (length state.nodes)
      (λ at_dir. touched (time_of state) (with_entry name (length state.nodes) at_dir)) None (λ n.
      refl) (all_ordered state kept.sound) into free in
      omega (arith, pushed, gained)

  names_made : (o : ℕ) →
      names_of (with_made state dir name node).nodes o ≡ names_of state.nodes o + is o (length state.nodes)
  names_made o =
      let more = weighed_made (by_object o) in
      omega (arith, more, names_weigh (with_made state dir name node).nodes o, names_weigh state.nodes o)

  held_made : (o : ℕ) → held_by (with_made state dir name node) o ≡ held_by state o + is o (length state.nodes)
  held_made o =
      let names = names_made o in omega (arith, names)

  not_there : HasHold state (length state.nodes) → ⊥
  not_there (inl root) = let some = slice_get_within state.nodes dir parent at_dir in absurd (omega arith)
  not_there (inr (inl has)) = let within = kept.sound.named has.0 has.1 (length state.nodes) has.2 in
      absurd (omega arith)
  not_there (inr (inr (fd, file, there, same))) = let within = kept.sound.opened fd file there in absurd (omega arith)

  unheld : held_by state (length state.nodes) ≡ 0
  unheld = elim (leb_tells (held_by state (length state.nodes)) 0) [
    | inl none ↦ (let n = none.1 in omega arith)
    | inr some ↦ absurd (not_there (held_lives state (length state.nodes) kept.sound some.1))
  ]

  pub new_held : held_by (with_made state dir name node) (length state.nodes) ≡ 1
  new_held = let a = held_made (length state.nodes) in let none = unheld in
      let one = is_one (length state.nodes) (length state.nodes) refl in omega arith

  old_held : (o : ℕ) → o < length state.nodes → held_by (with_made state dir name node) o ≡ held_by state o
  old_held o within =
      let a = held_made o in
      let apart : o ≢ length state.nodes = omega arith in
      let none = is_none o (length state.nodes) apart in
      omega arith

  table : List Slot
  table = put_at (least_free (tables node.ids.dev)) (Open (having (length state.nodes))) (tables node.ids.dev)

  has_made : (o : ℕ) (that : Node) → slice_get (with_made state dir name node).nodes o ≡ Some that →
      that.ids.dev ≡ node.ids.dev →
      0 < held_by (with_made state dir name node) o →
      (file : OpenFile) × (open_at table that.ids.ino ≡ Some file) × (file.object ≡ o)
  unfolding table
  has_made o that there of some =
      elim (at_place state dir name node kept.sound into empty bare serial small least o that there) [
        | inl new ↦ (
          having (length state.nodes),
          ap (open_at table) (ap (λ n. n.ids.ino) new.1 ∙ number)
              ∙ ap file_of (get-put_here (least_free (tables node.ids.dev)) (Open (having (length state.nodes)))
              (tables node.ids.dev) (least_free-le-length (tables node.ids.dev))),
          sym new.0,
        )
        | inr old ↦ (let within = slice_get_within state.nodes o old.0 old.1 in
            let was_of : old.0.ids.dev ≡ node.ids.dev = sym (ap (λ ids. ids.dev) old.2) ∙ of in
            let file = (kept.numbered node.ids.dev).has o old.0 old.1 was_of
            (subst (λ n. 0 < n) (old_held o within) some) in
            let apart : old.0.ids.ino ≢ least_free (tables node.ids.dev) = λ same.
            (let a : open_at (tables node.ids.dev) (least_free (tables node.ids.dev)) ≡ Some file.0 =
            sym (ap (open_at (tables node.ids.dev)) same) ∙ file.1 in
            let b : Some file.0 ≡ None = sym a ∙ least_free-closed (tables node.ids.dev) in cc) in (
              file.0,
              ap (λ ids. open_at table ids.ino) old.2
                  ∙ ap file_of (get-put_apart (least_free (tables node.ids.dev)) (Open (having (length state.nodes)))
                  (tables node.ids.dev) old.0.ids.ino apart) ∙ file.1,
              file.2,
            ))
      ]

  entered_there : (place : ℕ) (that : Node) → slice_get state.nodes place ≡ Some that →
      (now : Node) × (slice_get (with_made state dir name node).nodes place ≡ Some now) × (now.ids ≡ that.ids)
  entered_there place that there =
      let within = slice_get_within state.nodes place that there in
      let longer = long_made in
      let now = get_there (with_made state dir name node).nodes place (omega arith) in
      elim (at_place state dir name node kept.sound into empty bare serial small least place now.0 now.1) [
        | inl new ↦ absurd (let end = new.0 in omega arith)
        | inr old ↦ (now.0, now.1, old.2 ∙ ap (λ n. n.ids) (same_Some old.0 that (sym old.1 ∙ there)))
      ]

  pub new_there : slice_get (with_made state dir name node).nodes (length state.nodes) ≡ Some node
  new_there =
      let longer = long_made in
      let pushed = length_push (entered (time_of state) dir name node state.nodes) node in
      let same : length (entered (time_of state) dir name node state.nodes) ≡ length state.nodes = omega arith in
      ap (slice_get (with_made state dir name node).nodes) (sym same)
      ∙ get-push_here (entered (time_of state) dir name node state.nodes) node

  same_open : (file other : OpenFile) → Open file ≡ Open other → file ≡ other
  same_open file other is = cc

  had_made : (k : ℕ) (file : OpenFile) → open_at table k ≡ Some file →
      (that : Node) × (slice_get (with_made state dir name node).nodes file.object ≡ Some that)
      × (that.ids.dev ≡ node.ids.dev) × (that.ids.ino ≡ k)
      × (0 < held_by (with_made state dir name node) file.object)
  unfolding table
  had_made k file there =
      elim (get-put_cases (least_free (tables node.ids.dev)) (Open (having (length state.nodes)))
      (tables node.ids.dev) k (Open file) (open_slot (slice_get table k) file there)) [
        | inl new ↦ (let same = same_open file (having (length state.nodes)) new.1 in
            let object = ap (λ (f : OpenFile). f.object) same in (
              node,
              ap (slice_get (with_made state dir name node).nodes) object ∙ new_there,
              refl,
              number ∙ sym new.0,
              subst (λ o. 0 < held_by (with_made state dir name node) o) (sym object) (let one = new_held in
                  omega arith),
            ))
        | inr before ↦ (let held = (kept.numbered node.ids.dev).had k file (ap file_of before) in
            let that = entered_there file.object held.0 held.1 in (
              that.0,
              that.1,
              ap (λ ids. ids.dev) that.2 ∙ held.2,
              ap (λ ids. ids.ino) that.2 ∙ held.3,
              subst (λ n. 0 < n) (sym
                  (old_held file.object (slice_get_within state.nodes file.object held.0 held.1))) held.4,
            ))
      ]

  numbered_here : AreNumbered (with_made state dir name node) node.ids.dev table
  unfolding table
  numbered_here = record {
    has = has_made;
    had = had_made;
    from_one = get-put_apart (least_free (tables node.ids.dev)) (Open (having (length state.nodes)))
        (tables node.ids.dev) 0
        (let some = least_not_0 (tables node.ids.dev) (kept.numbered node.ids.dev).from_one in omega arith)
        ∙ (kept.numbered node.ids.dev).from_one;
    no_other = λ k some there.
        elim (get-put_cases (least_free (tables node.ids.dev)) (Open (having (length state.nodes)))
        (tables node.ids.dev) k Reserved there) [
          | inl both ↦ cc
          | inr before ↦ (kept.numbered node.ids.dev).no_other k some before
        ];
  }

  -- on another device there are the objects of before
  numbered_there : (dev : ℕ) → dev ≢ node.ids.dev → AreNumbered (with_made state dir name node) dev (tables dev)
  numbered_there dev apart = record {
    has = λ o that there of some.
        elim (at_place state dir name node kept.sound into empty bare serial small least o that there) [
          | inl new ↦ absurd (apart (sym of ∙ ap (λ n. n.ids.dev) new.1))
          | inr old ↦ (let file = (kept.numbered dev).has o old.0 old.1 (sym (ap (λ ids. ids.dev) old.2) ∙ of)
              (subst (λ n. 0 < n) (old_held o (slice_get_within state.nodes o old.0 old.1)) some) in
              (file.0, ap (λ ids. open_at (tables dev) ids.ino) old.2 ∙ file.1, file.2))
        ];
    had = λ k file there.
        let held = (kept.numbered dev).had k file there in
        let that = entered_there file.object held.0 held.1 in (
          that.0,
          that.1,
          ap (λ ids. ids.dev) that.2 ∙ held.2,
          ap (λ ids. ids.ino) that.2 ∙ held.3,
          subst (λ n. 0 < n) (sym
              (old_held file.object (slice_get_within state.nodes file.object held.0 held.1))) held.4,
        );
    from_one = (kept.numbered dev).from_one;
    no_other = (kept.numbered dev).no_other;
  }

  -- ---- how many directories there are in each

  unnamed : weighed (by_object (length state.nodes)) state.nodes ≡ 0
  unnamed =
      let none = unheld in
      omega (arith, none, names_weigh state.nodes (length state.nodes))

  directory_before : (o : ℕ) → o ≢ length state.nodes →
      is_directory_at (with_made state dir name node).nodes o ≡ is_directory_at state.nodes o
  directory_before o apart =
      let before = entered (time_of state) dir name node state.nodes in
      let alike = alike_entered (time_of state) dir name node state.nodes in
      ap is_directory_where (get-push_apart before node o (λ e. apart (e ∙ alike.long)))
      ∙ directory_alike state.nodes before o alike

  directories_made : (o : ℕ) →
      directories_of (with_made state dir name node).nodes o
      ≡ directories_of state.nodes o + at o dir (weight (is_directory node))
  directories_made o =
      let grown = (with_made state dir name node).nodes in
      let more = weighed_made (by_place o (counted grown)) in
      let same = weighed-apart (by_place o (counted grown)) (by_place o (counted state.nodes)) (length state.nodes)
      state.nodes (λ d v apart. ap (λ b. at o d (weight b)) (directory_before v apart)) unnamed in
      let here = ap (λ n. at o dir (weight (is_directory_where n))) new_there in
      omega (arith, more, same, here, directories_weigh grown o, directories_weigh state.nodes o)

  nested_before : AreCounts (directories_of state.nodes) (length (with_made state dir name node).nodes)
      (holds.directories ++ 0 ∷ [])
  nested_before =
      counts_pushed (directories_of state.nodes) (directories_of state.nodes) (length state.nodes)
      (length (with_made state dir name node).nodes) holds.directories 0 kept.nested long_made
      (ap (directories_where state.nodes) (slice_get_past state.nodes (length state.nodes) (omega arith)))
      (λ o within. refl)

  -- the count of the directory where the new object is, as code comes to it
  pub nested_made : (value : ℕ) → value ≡ slice_index holds.directories dir + weight (is_directory node) →
      AreCounts (directories_of (with_made state dir name node).nodes) (length (with_made state dir name node).nodes)
      (slice_set (holds.directories ++ 0 ∷ []) dir value)
  nested_made value is =
      let was = index_is holds.directories dir (directories_of state.nodes dir)
      (kept.nested.each dir (slice_get_within state.nodes dir parent at_dir)) in
      counts_as (λ o. directories_of state.nodes o + at o dir (weight (is_directory node)))
      (directories_of (with_made state dir name node).nodes) (length (with_made state dir name node).nodes)
      (length (with_made state dir name node).nodes) (slice_set (holds.directories ++ 0 ∷ []) dir value)
      (counts_raised (directories_of state.nodes) (length (with_made state dir name node).nodes)
      (holds.directories ++ 0 ∷ []) dir (weight (is_directory node)) value nested_before
      (λ within. omega (arith, was, is)))
      refl (λ o within. directories_made o)

  -- a new object that is no directory changes no count
  pub nested_file : is_directory node ≡ false →
      AreCounts (directories_of (with_made state dir name node).nodes) (length (with_made state dir name node).nodes)
      (holds.directories ++ 0 ∷ [])
  nested_file file =
      counts_as (directories_of state.nodes) (directories_of (with_made state dir name node).nodes)
      (length (with_made state dir name node).nodes) (length (with_made state dir name node).nodes)
      (holds.directories ++ 0 ∷ []) nested_before refl
      (λ o within. let more = directories_made o in let none = ap (λ b. at o dir (weight b)) file in
      omega (arith, more, none, at_none o dir))

  pub kept_made : (directories : List ℕ) →
      AreCounts (directories_of (with_made state dir name node).nodes) (length (with_made state dir name node).nodes)
      directories →
      IsKept (with_made state dir name node)
      (record { holds = holds.holds ++ 1 ∷ []; names = holds.names ++ 1 ∷ []; directories = directories })
      (set_at node.ids.dev
      (put_at (least_free (tables node.ids.dev)) (Open (having (length state.nodes))) (tables node.ids.dev)) tables)
  unfolding table
  kept_made directories nested = record {
    sound = sound;
    held = counts_pushed (held_by state) (held_by (with_made state dir name node)) (length state.nodes)
        (length (with_made state dir name node).nodes) holds.holds 1 kept.held long_made new_held
        (λ o within. old_held o within);
    named = counts_pushed (names_of state.nodes) (names_of (with_made state dir name node).nodes) (length state.nodes)
        (length (with_made state dir name node).nodes) holds.names 1 kept.named long_made
        (let more = names_made (length state.nodes) in let none = unheld in
        let one = is_one (length state.nodes) (length state.nodes) refl in omega (arith, more, none, one))
        (λ o within. let more = names_made o in let none = is_none o (length state.nodes) (omega (arith, within)) in
        omega (arith, more, none));
    nested = nested;
    numbered = numbered_put (with_made state dir name node) node.ids.dev table tables numbered_here numbered_there;
  }

-- ---- taken back

-- a table of the same open numbers
numbered_same : (state : State) (dev : ℕ) (numbers other : List Slot) → AreNumbered state dev numbers →
    ((k : ℕ) → open_at other k ≡ open_at numbers k) →
    slice_get other 0 ≡ Some Reserved → ((k : ℕ) → 0 < k → slice_get other k ≡ Some Reserved → ⊥) →
    AreNumbered state dev other
numbered_same state dev numbers other are same reserved none = record {
  has = λ o node there of some. let file = are.has o node there of some in (file.0, same node.ids.ino ∙ file.1, file.2);
  had = λ k file there. are.had k file (sym (same k) ∙ there);
  from_one = reserved;
  no_other = none;
}

-- the table that gave its least number and got it back
numbered_back : (state : State) (dev : ℕ) (numbers : List Slot) (file : OpenFile) → AreNumbered state dev numbers →
    AreNumbered state dev (closed (least_free numbers) (put_at (least_free numbers) (Open file) numbers))
numbered_back state dev numbers file are =
    let n = least_free numbers in
    let put = put_at (least_free numbers) (Open file) numbers in
    let some = least_not_0 numbers are.from_one in
    let not_first : 0 ≢ least_free numbers = omega arith in
    numbered_same state dev numbers (closed n put) are
    (λ k. elim (eqb_tells k n) [
      | inl e ↦ ap (open_at (closed n put)) e.1 ∙ shut (open_at put n) n put refl
          ∙ sym (ap (open_at numbers) e.1 ∙ least_free-closed numbers)
      | inr apart ↦ ap file_of (closed_apart (open_at put n) n put k apart.1
          ∙ get-put_apart n (Open file) numbers k apart.1)
    ])
    (closed_apart (open_at put n) n put 0 not_first ∙ get-put_apart n (Open file) numbers 0 not_first ∙ are.from_one)
    (λ k more there.
    elim (get-put_cases n (Open file) numbers k Reserved (reserved_before (open_at put n) n put k there)) [
      | inl both ↦ cc
      | inr before ↦ are.no_other k more before
    ])

set_here : (dev : ℕ) (table : List Slot) (tables : ℕ → List Slot) → set_at dev table tables dev ≡ table
unfolding set_at
set_here dev table tables = elim (eqb_tells dev dev) [
  | inl e ↦ ap (λ b. cond b table (tables dev)) e.0
  | inr apart ↦ absurd (apart.1 refl)
]

set_there : (dev : ℕ) (table : List Slot) (tables : ℕ → List Slot) (other : ℕ) → other ≢ dev →
    set_at dev table tables other ≡ tables other
unfolding set_at
set_there dev table tables other apart = elim (eqb_tells other dev) [
  | inl e ↦ absurd (apart e.1)
  | inr differs ↦ ap (λ b. cond b table (tables other)) differs.0
]

-- a device whose table gave its least number
abbrev pub given : ℕ → OpenFile → (ℕ → List Slot) → ℕ → List Slot
given dev file tables = set_at dev (put_at (least_free (tables dev)) (Open file) (tables dev)) tables

pub kept_back : (state : State) (holds : Counts) (tables : ℕ → List Slot) (dev : ℕ) (file : OpenFile) →
    IsKept state holds tables →
    IsKept state (with_counts (take (length (holds.holds ++ 1 ∷ []) - 1) (holds.holds ++ 1 ∷ []))
    (take (length (holds.names ++ 1 ∷ []) - 1) (holds.names ++ 1 ∷ []))
    (take (length (holds.directories ++ 0 ∷ []) - 1) (holds.directories ++ 0 ∷ [])))
    (freed dev (least_free (tables dev)) (given dev file tables))
kept_back state holds tables dev file kept =
    subst (λ (xs : Counts).
    IsKept state xs (freed dev (least_free (tables dev)) (given dev file tables)))
    (sym (same_counts holds.holds _ holds.names _ holds.directories _ (front 1 holds.holds) (front 1 holds.names)
    (front 0 holds.directories))) (record {
      sound = kept.sound;
      held = kept.held;
      named = kept.named;
      nested = kept.nested;
      numbered = numbered_put state dev (closed (least_free (tables dev)) (given dev file tables dev))
          (given dev file tables)
          (subst (λ (xs : List Slot). AreNumbered state dev (closed (least_free (tables dev)) xs))
          (sym (set_here dev (put_at (least_free (tables dev)) (Open file) (tables dev)) tables))
          (numbered_back state dev (tables dev) file (kept.numbered dev)))
          (λ other apart. subst (AreNumbered state other)
          (sym (set_there dev (put_at (least_free (tables dev)) (Open file) (tables dev)) tables other apart))
          (kept.numbered other));
    })
  where
    all_of : (last : ℕ) (xs : List ℕ) → take (length xs) (xs ++ last ∷ []) ≡ xs
    all_of last [] = refl
    all_of last (x ∷ xs) = ap (λ more. x ∷ more) (all_of last xs)

    front : (last : ℕ) (xs : List ℕ) → take (length (xs ++ last ∷ []) - 1) (xs ++ last ∷ []) ≡ xs
    front last xs =
        let pushed = length_push xs last in
        let e : length (xs ++ last ∷ []) - 1 ≡ length xs = omega arith in
        ap (λ k. take k (xs ++ last ∷ [])) e ∙ all_of last xs
