-- A store goes on knowing what lives where an object gets one name more, two objects change places, and a new file is
-- opened.
use Rattle.std.proofs.Common.{◌≡◌, ◌<◌, ◌≤◌, ◌+◌, ◌-◌, ◌^◌, inl, inr, ℕ, zero, suc, Bool, true, false, cond, List, []}
use Rattle.std.proofs.Common.{◌∷◌}
use Rattle.std.proofs.Common.{◌++◌, length, take, Option, Some, None, slice_get, slice_set, refl, ap, sym, ◌∙◌, subst}
use Rattle.std.proofs.Common.{arith, length-set}
use Rattle.std.specs.Option.{is_some}
use Rattle.std.specs.Prelude.{slice_index}
use Rattle.std.proofs.lemmas.Bool.{le-ltb, lt-ltb}
use Rattle.std.proofs.lemmas.Bool.Decides.{eqb_tells}
use Rattle.std.proofs.lemmas.List.{length_push}
use Rattle.std.proofs.lemmas.List.Sums.{passes_at_first}
use Rattle.std.proofs.lemmas.Option.{get_or_from_slice_get}
use Rattle.pt_host.specs.declared.flags.OpenFlags.{OpenFlags}
use Rattle.pt_host.specs.declared.seat.HostSeat.{HostSeat}
use Rattle.pt_rules.specs.Calls.{with_descriptor}
use Rattle.pt_rules.specs.Edits.{with_made}
use Rattle.pt_node.specs.Entries.{is_directory_at, restamped, touched, with_entry}
use Rattle.pt_store.specs.Kept.{IsKept}
use Rattle.pt_node.specs.Numbers.{Counts, having, passed, raised, swapped, weight}
use Rattle.pt_rules.specs.Holds.{HasHold}
use Rattle.pt_rules.specs.NameCalls.{with_exchanged, with_linked}
use Rattle.pt_node.specs.Node.{is_directory, name_at, names_in}
use Rattle.pt_node.specs.Slots.{closed, closed_where, file_of, is_free, least_free, open_at, put_at, taken_back}
use Rattle.pt_rules.specs.Sound.{IsShort, IsSound}
use Rattle.pt_rules.specs.State.{State, time_of}
use Rattle.pt_node.specs.declared.node.Node.{Node}
use Rattle.pt_node.specs.declared.slots.OpenFile.{OpenFile}
use Rattle.pt_node.specs.declared.slots.Slot.{Slot}
use Rattle.pt_node.specs.declared.slots.Slot.TheVariants.{Reserved, Free, Open}
use Rattle.pt_rules.specs.Laws.EditSound.{all_ordered}
use Rattle.pt_rules.specs.Laws.NamesLed.{alike_exchanged, alike_linked, leads_from, leads_still, ordered_one}
use Rattle.pt_rules.specs.Laws.NamesLed.{put_back, put_there, sound_exchanged, sound_linked, with_both, with_link}
use Rattle.pt_rules.specs.Laws.NamesLed.{with_one, with_stamp}
use Rattle.pt_rules.specs.Laws.SlotTable.{least_free-le-length}
use Rattle.pt_node.specs.Laws.Updates.{get-push_here, get-set_here, put_before, put_end}
use Rattle.pt_rules.specs.Laws.Held.{held_lives}
use Rattle.pt_rules.specs.Laws.Alive.{lives_held}
use Rattle.pt_rules.specs.Laws.Changed.{AreAlike}
use Rattle.pt_store.specs.Kept.{AreCounts, directories_of}
use Rattle.pt_store.proofs.Counting.{at, at_none, counts_as, counts_less, counts_more, is_at_one, once_more}
use Rattle.pt_store.proofs.Holding.{get_there}
use Rattle.pt_store.proofs.Kept.{AreLinked, kept_more, numbered_alike}
use Rattle.pt_store.proofs.KeptEdits.{kept_descriptor}
use Rattle.pt_store.proofs.KeptMade.{given, kept_made, nested_file, new_held, new_there}
use Rattle.pt_store.proofs.Weighing.{by_object, by_place, counted, directories_alike, directories_weigh, names_weigh}
use Rattle.pt_store.proofs.Weighing.{weighed, weighed-gained, weighed-same}
use Rattle.pt_host.specs.Words.{is}
use Rattle.pt_node.specs.Links.{names_of}
use Rattle.pt_rules.specs.Living.{held_by}

pub lives_within : (state : State) (object : ℕ) → IsSound state → 0 < length state.nodes → HasHold state object →
    object < length state.nodes
lives_within state object sound some (inl root) = omega (arith, root)
lives_within state object sound some (inr (inl has)) = sound.named has.0 has.1 object has.2
lives_within state object sound some (inr (inr (fd, file, there, same))) = let within = sound.opened fd file there in
    omega (arith, within, same)

pub some_node : (nodes : List Node) (dir : ℕ) → is_directory_at nodes dir ≡ true → 0 < length nodes
some_node [] dir into = cc
some_node (node ∷ nodes) dir into = omega arith

module _ (state : State) (holds : Counts) (tables : ℕ → List Slot) (dir : ℕ) (name : List ℕ) (object : ℕ)
    (kept : IsKept state holds tables) (into : is_directory_at state.nodes dir ≡ true)
    (free : name_at state.nodes dir name ≡ None) (good : IsShort name) (lives : HasHold state object) where
  abbrev joined : List Node
  joined = (with_linked state dir name object).nodes

  alike_joined : AreAlike state.nodes joined
  alike_joined = alike_linked (time_of state) dir name object state.nodes

  weighed_joined : (w : ℕ → ℕ → ℕ) → weighed w joined ≡ weighed w state.nodes + w dir object
  weighed_joined w =
      let now = time_of state in
      let same = weighed-same w object (restamped now) (with_link now dir name object state.nodes) (λ n. refl) in
      let gained = weighed-gained w state.nodes dir name object (λ at_dir. touched now (with_entry name object at_dir))
      None (λ n. refl) (all_ordered state kept.sound) into free in
      omega (arith, same, gained)

  named_joined : (o : ℕ) → names_of joined o ≡ names_of state.nodes o + is o object
  named_joined o =
      let more = weighed_joined (by_object o) in
      omega (arith, more, names_weigh joined o, names_weigh state.nodes o)

  linked_joined : AreLinked joined (once_more object holds.names)
      (raised dir (counted state.nodes object) holds.directories)
  linked_joined = record {
    named = counts_as (λ o. names_of state.nodes o + at o object 1) (names_of joined) (length state.nodes)
        (length joined) (once_more object holds.names)
        (counts_more (names_of state.nodes) (length state.nodes) holds.names object 1 kept.named) alike_joined.long
        (λ o within. let more = named_joined o in let one = is_at_one o object in omega (arith, more, one));
    nested = counts_as (λ o. directories_of state.nodes o + at o dir (counted state.nodes object))
        (directories_of joined) (length state.nodes) (length joined)
        (raised dir (counted state.nodes object) holds.directories)
        (counts_more (directories_of state.nodes) (length state.nodes) holds.directories dir
        (counted state.nodes object) kept.nested) alike_joined.long
        (λ o within. let more = weighed_joined (by_place o (counted state.nodes)) in
        omega (arith, more, directories_alike state.nodes joined o alike_joined, directories_weigh state.nodes o));
  }

  pub kept_linked : IsKept (with_linked state dir name object)
      (record {
        holds = once_more object holds.holds;
        names = once_more object holds.names;
        directories = raised dir (counted state.nodes object) holds.directories;
      }) tables
  kept_linked =
      kept_more state (with_linked state dir name object) holds tables object kept
      (sound_linked state dir name object kept.sound good into lives
      (lives_within state object kept.sound (some_node state.nodes dir into) lives)) alike_joined
      (once_more object holds.names) (raised dir (counted state.nodes object) holds.directories) linked_joined
      (lives_held state object lives)
      (λ o. let names = named_joined o in omega (arith, names))

-- what two counts become where each of two objects is a directory or not
counts_swapped : (f g : ℕ → ℕ) (n m : ℕ) (xs : List ℕ) (from to : ℕ) (moved back : Bool) → AreCounts f n xs → m ≡ n →
    ((k : ℕ) → g k + at k from (weight moved) + at k to (weight back)
    ≡ f k + at k from (weight back) + at k to (weight moved)) →
    AreCounts g m (swapped from to moved back xs)
counts_swapped f g n m xs from to true true are long both =
    counts_as f g n m xs are long (λ k within. let e = both k in omega (arith, e))
counts_swapped f g n m xs from to true false are long both =
    counts_as (λ k. f k + at k to 1 - at k from 1) g n m (passed from to xs)
    (counts_less (λ k. f k + at k to 1) n (raised to 1 xs) from 1 (counts_more f n xs to 1 are)) long
    (λ k within. let e = both k in omega (arith, e, at_none k from, at_none k to))
counts_swapped f g n m xs from to false true are long both =
    counts_as (λ k. f k + at k from 1 - at k to 1) g n m (passed to from xs)
    (counts_less (λ k. f k + at k from 1) n (raised from 1 xs) to 1 (counts_more f n xs from 1 are)) long
    (λ k within. let e = both k in omega (arith, e, at_none k from, at_none k to))
counts_swapped f g n m xs from to false false are long both =
    counts_as f g n m xs are long (λ k within. let e = both k in omega (arith, e))

module _ (state : State) (holds : Counts) (tables : ℕ → List Slot) (from to : ℕ × List ℕ) (object other : ℕ)
    (kept : IsKept state holds tables) (there : name_at state.nodes from.0 from.1 ≡ Some object)
    (too : name_at state.nodes to.0 to.1 ≡ Some other) where
  abbrev crossed : List Node
  crossed = (with_exchanged state from to object other).nodes

  alike_crossed : AreAlike state.nodes crossed
  alike_crossed = alike_exchanged (time_of state) from to object other state.nodes

  weighed_crossed : (w : ℕ → ℕ → ℕ) →
      weighed w crossed + w from.0 object + w to.0 other ≡ weighed w state.nodes + w from.0 other + w to.0 object
  weighed_crossed w =
      let now = time_of state in
      let nodes = state.nodes in
      let one = with_one now from to object other nodes in
      let still = leads_still now from to object other nodes there too in
      let a = weighed-same w other (restamped now) (with_stamp now from to object other nodes) (λ n. refl) in
      let b = weighed-same w object (restamped now) (with_both now from to object other nodes) (λ n. refl) in
      let c = weighed-gained w one from.0 from.1 other (put_back now from to object other nodes) (Some object) (λ n.
      refl)
      (ordered_one now from to object other nodes (all_ordered state kept.sound))
      (leads_from one from.0 from.1 object still) still in
      let d = weighed-gained w nodes to.0 to.1 object (put_there now from to object other nodes) (Some other) (λ n.
      refl)
      (all_ordered state kept.sound) (leads_from nodes to.0 to.1 other too) too in
      omega (arith, a, b, c, d)

  named_crossed : (o : ℕ) → names_of crossed o ≡ names_of state.nodes o
  named_crossed o =
      let both = weighed_crossed (by_object o) in
      omega (arith, both, names_weigh crossed o, names_weigh state.nodes o)

  pub kept_exchanged : IsKept (with_exchanged state from to object other)
      (record {
        holds = holds.holds;
        names = holds.names;
        directories = swapped from.0 to.0 (is_directory_at state.nodes object) (is_directory_at state.nodes other)
            holds.directories;
      }) tables
  kept_exchanged = record {
    sound = sound_exchanged state from to object other kept.sound there too;
    held = counts_as (held_by state) (held_by (with_exchanged state from to object other)) (length state.nodes)
        (length crossed) holds.holds kept.held alike_crossed.long
        (λ o within. let names = named_crossed o in omega (arith, names));
    named = counts_as (names_of state.nodes) (names_of crossed) (length state.nodes) (length crossed) holds.names
        kept.named alike_crossed.long (λ o within. named_crossed o);
    nested = counts_swapped (directories_of state.nodes) (directories_of crossed) (length state.nodes) (length crossed)
        holds.directories from.0 to.0 (is_directory_at state.nodes object) (is_directory_at state.nodes other)
        kept.nested alike_crossed.long
        (λ o. let both = weighed_crossed (by_place o (counted state.nodes)) in
        omega (arith, both, directories_alike state.nodes crossed o alike_crossed, directories_weigh state.nodes o));
    numbered = λ dev. numbered_alike state (with_exchanged state from to object other) dev (tables dev)
        (kept.numbered dev) alike_crossed
        (λ o node is of some. let names = named_crossed o in omega (arith, names, some))
        (λ o node is of some. let names = named_crossed o in omega (arith, names, some));
  }

-- ---- a new file, opened

pub kept_open_made : (state : State) (holds : Counts) (tables : ℕ →
    List Slot) (kept : IsKept state holds tables) (dir : ℕ) (name : List ℕ) (node parent : Node)
    (into : is_directory_at state.nodes dir ≡ true) (free : name_at state.nodes dir name
    ≡ None) (empty : names_in node.content ≡ []) (bare : node.xattrs ≡ [])
    (serial : node.serial
    ≡ length state.nodes + 1) (small : node.permissions < 4096) (good : IsShort name)
    (at_dir : slice_get state.nodes dir ≡ Some parent)
    (number : node.ids.ino
    ≡ least_free (tables node.ids.dev)) (few : length (with_made state dir name node).nodes
    < 2 ^ 63) (seat : HostSeat) (flags : OpenFlags) → is_directory node ≡ false →
    IsKept (with_descriptor (with_made state dir name node) flags (length state.nodes))
    (record {
      holds = slice_set (holds.holds ++ 1 ∷ []) (length state.nodes) 2;
      names = holds.names ++ 1 ∷ [];
      directories = holds.directories ++ 0 ∷ [];
    }) (given node.ids.dev (having (length state.nodes)) tables)
kept_open_made state holds tables kept dir name node parent into free empty bare serial small good at_dir number few seat flags
    file =
    let made = kept_made state holds tables kept dir name node parent into free empty bare serial small good at_dir number few
    (holds.directories ++ 0 ∷ [])
    (nested_file state holds tables kept dir name node parent into free empty bare serial small good at_dir number few file) in
    let there = new_there state holds tables kept dir name node parent into free empty bare serial small good at_dir number few in
    let once = new_held state holds tables kept dir name node parent into free empty bare serial small good at_dir number few in
    let some : 0 < held_by (with_made state dir name node) (length state.nodes) = omega (arith, once) in
    let lives = held_lives (with_made state dir name node) (length state.nodes) made.sound some in
    let last = ap (slice_get (holds.holds ++ 1 ∷ [])) (sym kept.held.long) ∙ get-push_here holds.holds 1 in
    let index : slice_index (holds.holds ++ 1 ∷ []) (length state.nodes) ≡ 1 =
    get_or_from_slice_get (holds.holds ++ 1 ∷ []) (length state.nodes) 1 0 last in
    let twice : slice_index (holds.holds ++ 1 ∷ []) (length state.nodes) + 1 ≡ 2 = omega (arith, index) in
    subst (λ (n : ℕ). IsKept (with_descriptor (with_made state dir name node) flags (length state.nodes))
    (record {
      holds = slice_set (holds.holds ++ 1 ∷ []) (length state.nodes) n;
      names = holds.names ++ 1 ∷ [];
      directories = holds.directories ++ 0 ∷ [];
    })
    (given node.ids.dev (having (length state.nodes)) tables)) twice
    (kept_descriptor (with_made state dir name node)
    (record {
      holds = holds.holds ++ 1 ∷ [];
      names = holds.names ++ 1 ∷ [];
      directories = holds.directories ++ 0 ∷ [];
    }) (given node.ids.dev (having (length state.nodes)) tables) seat flags (length state.nodes) node
    made there lives)

-- ---- an opening taken back

take_all : (slots : List Slot) (slot : Slot) → take (length slots) (slots ++ slot ∷ []) ≡ slots
take_all [] slot = refl
take_all (first ∷ slots) slot = ap (λ more. first ∷ more) (take_all slots slot)

set_back : (slots : List Slot) (place : ℕ) (slot was : Slot) → slice_get slots place ≡ Some was →
    slice_set (slice_set slots place slot) place was ≡ slots
set_back [] place slot was there = refl
set_back (first ∷ slots) zero slot was there = (let same : first ≡ was = cc in ap (λ s. s ∷ slots) (sym same))
set_back (first ∷ slots) (suc place) slot was there = ap (λ more. first ∷ more) (set_back slots place slot was there)

free_slot : (slot : Slot) → is_free slot ≡ true → slot ≡ Free
free_slot Reserved is = cc
free_slot Free is = refl
free_slot (Open file) is = cc

free_there : (slots : List Slot) → least_free slots < length slots → slice_get slots (least_free slots) ≡ Some Free
free_there slots within =
    let slot = get_there slots (least_free slots) within in
    slot.1 ∙ ap (λ (s : Slot). Some s) (free_slot slot.0 (let test = passes_at_first is_free slots slot.0 within in
    ap is_free (sym (get_or_from_slice_get slots (least_free slots) slot.0 slot.0 slot.1)) ∙ test))

-- the table is as it was
pub taken_back-put : (slots : List Slot) (file : OpenFile) →
    taken_back (least_free slots) (length slots) (put_at (least_free slots) (Open file) slots) ≡ slots
taken_back-put slots file = elim (eqb_tells (least_free slots) (length slots)) [
  | inl end ↦ (let pushed = put_end (least_free slots) (Open file) slots end.0 in
      let long = length_push slots (Open file) in
      let more : length slots < length (slots ++ Open file ∷ []) = omega (arith, long) in
      let less : length (slots ++ Open file ∷ []) - 1 ≡ length slots = omega (arith, long) in
      ap (taken_back (least_free slots) (length slots)) pushed
      ∙ ap (λ b. cond b (take (length (slots ++ Open file ∷ []) - 1) (slots ++ Open file ∷ []))
      (closed (least_free slots) (slots ++ Open file ∷ [])))
      (lt-ltb (length slots) (length (slots ++ Open file ∷ [])) more)
      ∙ ap (λ n. take n (slots ++ Open file ∷ [])) less ∙ take_all slots (Open file))
  | inr before ↦ (let low = least_free-le-length slots in
      let apart = before.1 in
      let within : least_free slots < length slots = omega (arith, low, apart) in
      let put = put_before (least_free slots) (Open file) slots before.0 in
      let set = slice_set slots (least_free slots) (Open file) in
      let long = length-set slots (least_free slots) (Open file) in
      let no_more : length set ≤ length slots = omega (arith, long) in
      let held = ap file_of (get-set_here slots (least_free slots) (Open file) within) in
      ap (taken_back (least_free slots) (length slots)) put
      ∙ ap (λ b. cond b (take (length set - 1) set) (closed (least_free slots) set))
      (le-ltb (length slots) (length set) no_more)
      ∙ ap (λ (f : Option OpenFile). closed_where f (least_free slots) set) held
      ∙ set_back slots (least_free slots) (Open file) Free (free_there slots within))
]

-- what was just opened is the last number where there is one number more
pub last_opened : (slots : List Slot) (file : OpenFile) →
    length slots < length (put_at (least_free slots) (Open file) slots) →
    is_some (open_at (put_at (least_free slots) (Open file) slots)
    (length (put_at (least_free slots) (Open file) slots) - 1)) ≡ true
last_opened slots file more = elim (eqb_tells (least_free slots) (length slots)) [
  | inl end ↦ (let pushed = put_end (least_free slots) (Open file) slots end.0 in
      let long = length_push slots (Open file) in
      let last : length (slots ++ Open file ∷ []) - 1 ≡ length slots = omega (arith, long) in
      ap (λ (ss : List Slot). is_some (open_at ss (length ss - 1))) pushed
      ∙ ap (λ n. is_some (open_at (slots ++ Open file ∷ []) n)) last
      ∙ ap (λ s. is_some (file_of s)) (get-push_here slots (Open file)))
  | inr before ↦ absurd (let put = ap length (put_before (least_free slots) (Open file) slots before.0) in
      let long = length-set slots (least_free slots) (Open file) in omega (arith, put, long, more))
]
