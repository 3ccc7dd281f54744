-- A store goes on knowing what lives through each call and each edit.
use Rattle.std.proofs.Common.{◌≡◌, ◌+◌, ◌-◌, ℕ, true, List, length, Option, Some, None, slice_get, slice_set}
use Rattle.std.proofs.Common.{refl, ap, sym, ◌∙◌, subst, arith}
use Rattle.pt_host.specs.Words.{is}
use Rattle.pt_host.specs.declared.flags.OpenFlags.{OpenFlags}
use Rattle.pt_host.specs.declared.seat.HostSeat.{HostSeat}
use Rattle.pt_rules.specs.Calls.{begun_on, with_descriptor, with_opened, with_node}
use Rattle.pt_rules.specs.Edits.{moved, replaced, unlinked, with_moved, with_rewritten, with_unlinked}
use Rattle.pt_host.specs.declared.ids.Time.{Time}
use Rattle.pt_node.specs.Entries.{is_directory_at, is_directory_where, restamped, rewritten}
use Rattle.pt_node.specs.Entries.{touched, without_entry}
use Rattle.pt_store.specs.Kept.{IsKept}
use Rattle.pt_node.specs.Numbers.{Counts, given_up, given_up_where, lowered, raised, released, released_where, weight}
use Rattle.pt_rules.specs.Holds.{HasHold}
use Rattle.pt_node.specs.Node.{name_at}
use Rattle.pt_node.specs.Opening.{after_opening}
use Rattle.pt_node.specs.Reading.{after_reading}
use Rattle.pt_node.specs.Slots.{closed, open_at}
use Rattle.pt_rules.specs.Sound.{IsShort, IsSound}
use Rattle.pt_rules.specs.State.{State, time_of}
use Rattle.pt_store.specs.StoreState.{device_at, device_in, device_where, node_where, number_at, number_in}
use Rattle.pt_store.specs.StoreState.{number_where}
use Rattle.pt_node.specs.declared.node.Node.{Node}
use Rattle.pt_node.specs.declared.slots.OpenFile.{OpenFile}
use Rattle.pt_node.specs.declared.slots.Slot.{Slot}
use Rattle.pt_rules.specs.Laws.Changed.{alike_itself, led_still, names-gained, names-same}
use Rattle.pt_rules.specs.Laws.EditShapes.{alike_moved, alike_rewritten, alike_unlinked, lost, first, second, third}
use Rattle.pt_rules.specs.Laws.EditShapes.{gain, lose, names_rewritten_in}
use Rattle.pt_rules.specs.Laws.EditSound.{all_ordered, sound_moved, sound_rewritten, sound_unlinked}
use Rattle.pt_rules.specs.Laws.Keeping.{keeps_opening, keeps_reading}
use Rattle.pt_rules.specs.Laws.Soundness.{alike_set, sound-closed, sound-with_descriptor, sound-with_node}
use Rattle.pt_rules.specs.Laws.Soundness.{sound-with_opened}
use Rattle.pt_rules.specs.Laws.Alive.{lives_held}
use Rattle.pt_rules.specs.Laws.Changed.{AreAlike}
use Rattle.pt_rules.specs.Living.{held_by}
use Rattle.pt_store.specs.Kept.{AreCounts, directories_of}
use Rattle.pt_store.proofs.Counting.{at, at_none, counts_as, counts_less, counts_more, is_at_one, once_more}
use Rattle.pt_store.proofs.Holding.{get_there, opens_of-closed, opens_of-put}
use Rattle.pt_store.proofs.Kept.{AreLinked, kept_alike, kept_more, kept_released, linked_by, linked_same}
use Rattle.pt_store.proofs.Kept.{numbered_alike}
use Rattle.pt_store.proofs.Weighing.{by_object, by_place, counted, directories_alike, directories_weigh, names_weigh}
use Rattle.pt_store.proofs.Weighing.{weighed, weighed-gained, weighed-lost, weighed-same, weighed-set_same}
use Rattle.pt_store.proofs.Weighing.{weighed_where}
use Rattle.pt_node.specs.Links.{names_of}

-- ---- calls

pub kept_opened : (state : State) (holds : Counts) (tables : ℕ → List Slot) (seat : HostSeat) (flags : OpenFlags)
    (object : ℕ) (node : Node) →
    IsKept state holds tables → slice_get state.nodes object ≡ Some node → HasHold state object →
    IsKept (with_opened state seat flags object node)
    (record { holds = once_more object holds.holds; names = holds.names; directories = holds.directories }) tables
kept_opened state holds tables seat flags object node kept there lives =
    let keeps = keeps_opening seat (time_of state) flags.0 node in
    let after = after_opening seat (time_of state) flags.0 node in
    let alike = alike_set state.nodes object node after there keeps in
    kept_more state (with_opened state seat flags object node) holds tables object kept
    (sound-with_opened state seat flags object node kept.sound there lives) alike holds.names holds.directories
    (linked_same state.nodes (slice_set state.nodes object after) holds.names holds.directories
    (linked_by state holds tables kept) alike
    (λ w. weighed-set_same w state.nodes object node after there keeps.names))
    (lives_held state object lives)
    (λ o.
    let names = weighed-set_same (by_object o) state.nodes object node after there keeps.names in
    let opens = opens_of-put state.slots (begun_on flags object) o in
    omega (arith, names, opens, names_weigh state.nodes o, names_weigh (slice_set state.nodes object after) o))

pub kept_descriptor : (state : State) (holds : Counts) (tables : ℕ → List Slot) (seat : HostSeat) (flags : OpenFlags)
    (object : ℕ) (node : Node) →
    IsKept state holds tables → slice_get state.nodes object ≡ Some node → HasHold state object →
    IsKept (with_descriptor state flags object)
    (record { holds = once_more object holds.holds; names = holds.names; directories = holds.directories }) tables
kept_descriptor state holds tables seat flags object node kept there lives =
    kept_more state (with_descriptor state flags object) holds tables object kept
    (sound-with_descriptor state seat flags object node kept.sound there lives) (alike_itself state.nodes)
    holds.names holds.directories (linked_by state holds tables kept) (lives_held state object lives)
    (λ o. let opens = opens_of-put state.slots (begun_on flags object) o in omega (arith, opens))

pub kept_read : (state : State) (holds : Counts) (tables : ℕ → List Slot) (object : ℕ) (node : Node) →
    IsKept state holds tables →
    slice_get state.nodes object ≡ Some node →
    IsKept (with_node state object (after_reading (time_of state) node)) holds tables
kept_read state holds tables object node kept there =
    let keeps = keeps_reading (time_of state) node in
    let after = after_reading (time_of state) node in
    kept_alike state (with_node state object (after_reading (time_of state) node)) holds tables kept
    (sound-with_node state object node after kept.sound there keeps)
    (alike_set state.nodes object node after there keeps)
    (λ o. refl)
    (λ w. weighed-set_same w state.nodes object node after there keeps.names)

pub kept_closed : (state : State) (holds : Counts) (tables : ℕ → List Slot) (fd : ℕ) (file : OpenFile) →
    IsKept state holds tables → open_at state.slots fd ≡ Some file →
    IsKept (record state { slots = closed fd state.slots })
    (record { holds = released file.object holds.holds; names = holds.names; directories = holds.directories })
    (given_up (device_at state.nodes file.object) (number_at state.nodes file.object) file.object holds.holds tables)
kept_closed state holds tables fd file kept there =
    let node = get_there state.nodes file.object (kept.sound.opened fd file there) in
    subst (λ at. IsKept (record state {
      slots =
          closed fd state.slots;
    }) (record { holds = released file.object holds.holds; names = holds.names; directories = holds.directories })
    (given_up (device_in at) (number_in at) file.object holds.holds tables))
    (sym node.1)
    (kept_released state (record state {
      slots =
          closed fd state.slots;
    }) holds tables file.object node.0 kept (sound-closed state fd kept.sound)
    (alike_itself state.nodes) node.1 holds.names holds.directories (linked_by state holds tables kept)
    (λ o. let opens = opens_of-closed state.slots fd file o there in omega (arith, opens)))

-- ---- Unlink

lives_there : (state : State) (dir : ℕ) (name : List ℕ) (object : ℕ) → IsSound state →
    name_at state.nodes dir name ≡ Some object → (node : Node) × (slice_get state.nodes object ≡ Some node)
lives_there state dir name object sound there = get_there state.nodes object (sound.named dir name object there)

module _ (state : State) (holds : Counts) (tables : ℕ → List Slot) (dir : ℕ) (name : List ℕ) (object : ℕ)
    (kept : IsKept state holds tables) (there : name_at state.nodes dir name ≡ Some object) where
  abbrev left : List Node
  left = unlinked (time_of state) dir name object state.nodes

  alike_left : AreAlike state.nodes left
  alike_left = alike_unlinked (time_of state) dir name object state.nodes

  weighed_left : (w : ℕ → ℕ → ℕ) → weighed w left + w dir object ≡ weighed w state.nodes
  weighed_left w =
      let same = weighed-same w object (restamped (time_of state)) (lost (time_of state) dir name object state.nodes)
      (λ n. refl) in
      let fewer = weighed-lost w state.nodes dir name (λ at_dir. touched (time_of state) (without_entry name at_dir))
      object (λ n. refl) there in
      omega (arith, same, fewer)

  named_left : (o : ℕ) → names_of left o + is o object ≡ names_of state.nodes o
  named_left o =
      let less = weighed_left (by_object o) in
      omega (arith, less, names_weigh left o, names_weigh state.nodes o)

  linked_left : AreLinked left (released object holds.names)
      (lowered dir (counted state.nodes object) holds.directories)
  linked_left = record {
    named = counts_as (λ o. names_of state.nodes o - at o object 1) (names_of left) (length state.nodes) (length left)
        (released object holds.names)
        (counts_less (names_of state.nodes) (length state.nodes) holds.names object 1 kept.named)
        alike_left.long (λ o within. let less = named_left o in let one = is_at_one o object in
        omega (arith, less, one));
    nested = counts_as (λ o. directories_of state.nodes o - at o dir (counted state.nodes object)) (directories_of left)
        (length state.nodes) (length left) (lowered dir (counted state.nodes object) holds.directories)
        (counts_less (directories_of state.nodes) (length state.nodes) holds.directories dir
        (counted state.nodes object) kept.nested)
        alike_left.long (λ o within. let less = weighed_left (by_place o (counted state.nodes)) in
        omega (arith, less, directories_alike state.nodes left o alike_left, directories_weigh state.nodes o));
  }

  pub kept_unlinked : IsKept (with_unlinked state dir name object)
      (record {
        holds = released object holds.holds;
        names = released object holds.names;
        directories = lowered dir (counted state.nodes object) holds.directories;
      })
      (given_up (device_at state.nodes object) (number_at state.nodes object) object holds.holds tables)
  kept_unlinked =
      let node = lives_there state dir name object kept.sound there in
      subst (λ at_object. IsKept (with_unlinked state dir name object)
      (record {
        holds = released object holds.holds;
        names = released object holds.names;
        directories = lowered dir (counted state.nodes object) holds.directories;
      })
      (given_up (device_in at_object) (number_in at_object) object holds.holds tables)) (sym node.1)
      (kept_released state (with_unlinked state dir name object) holds tables object node.0 kept
      (sound_unlinked state dir name object kept.sound)
      alike_left node.1 (released object holds.names) (lowered dir (counted state.nodes object) holds.directories)
      linked_left
      (λ o. let fewer = named_left o in omega (arith, fewer)))

-- ---- Rename

replaced_same : (w : ℕ → ℕ → ℕ) (now : Time) (target : Option ℕ) (nodes : List Node) →
    weighed w (replaced now target nodes) ≡ weighed w nodes
replaced_same w now None nodes = refl
replaced_same w now (Some target) nodes = weighed-same w target (restamped now) nodes (λ n. refl)

replaced_names : (now : Time) (target : Option ℕ) (nodes : List Node) →
    name_at (replaced now target nodes) ≡ name_at nodes
replaced_names now None nodes = refl
replaced_names now (Some target) nodes = names-same target (restamped now) nodes (λ n is. refl)

-- the directories of the two, after an object went from the one to the other in the place of the target
abbrev pub with_moved_in : List Node → ℕ → ℕ → ℕ → Option ℕ → List ℕ → List ℕ
with_moved_in nodes from to object target counts =
    lowered to (weight (is_directory_where (node_where nodes target)))
    (lowered from (counted nodes object) (raised to (counted nodes object) counts))

module _ (state : State) (holds : Counts) (tables : ℕ → List Slot) (from to : ℕ × List ℕ) (object : ℕ)
    (target : Option ℕ) (kept : IsKept state holds tables)
    (there : name_at state.nodes from.0 from.1 ≡ Some object)
    (into : is_directory_at state.nodes to.0 ≡ true) (at_target : name_at state.nodes to.0 to.1 ≡ target) where
  abbrev gone : List Node
  gone = moved (time_of state) from to object target state.nodes

  alike_gone : AreAlike state.nodes gone
  alike_gone = alike_moved (time_of state) from to object target state.nodes

  still_there : name_at (second (time_of state) from to object target state.nodes) from.0 from.1 ≡ Some object
  still_there =
      ap (λ names. names from.0 from.1)
      (replaced_names (time_of state) target (first (time_of state) from to object target state.nodes)
      ∙ names-gained (time_of state) to.0 to.1 object state.nodes into)
      ∙ led_still to.0 to.1 object (name_at state.nodes) from.0 from.1 there

  weighed_gone : (w : ℕ → ℕ → ℕ) →
      weighed w gone + w from.0 object + weighed_where (w to.0) target ≡ weighed w state.nodes + w to.0 object
  weighed_gone w =
      let a = weighed-same w object (restamped (time_of state))
      (third (time_of state) from to object target state.nodes) (λ n. refl) in
      let b = weighed-lost w (second (time_of state) from to object target state.nodes) from.0 from.1
      (lose (time_of state) from to object target state.nodes) object (λ n. refl) still_there in
      let c = replaced_same w (time_of state) target (first (time_of state) from to object target state.nodes) in
      let d = weighed-gained w state.nodes to.0 to.1 object
      (gain (time_of state) from to object target state.nodes) target (λ n.
      refl) (all_ordered state kept.sound) into at_target in
      omega (arith, a, b, c, d)

  pub named_gone : (o : ℕ) → names_of gone o + weighed_where (is o) target ≡ names_of state.nodes o
  named_gone o =
      let both = weighed_gone (by_object o) in
      omega (arith, both, names_weigh gone o, names_weigh state.nodes o)

  target_weighs : (o : ℕ) →
      weighed_where (by_place o (counted state.nodes) to.0) target
      ≡ at o to.0 (weight (is_directory_where (node_where state.nodes target)))
  target_weighs o = by_target target
    where
      by_target : (other : Option ℕ) →
          weighed_where (by_place o (counted state.nodes) to.0) other
          ≡ at o to.0 (weight (is_directory_where (node_where state.nodes other)))
      by_target None = sym (at_none o to.0)
      by_target (Some other) = refl

  nested_gone : AreCounts (directories_of gone) (length gone)
      (with_moved_in state.nodes from.0 to.0 object target holds.directories)
  nested_gone =
      let much = counted state.nodes object in
      let less = weight (is_directory_where (node_where state.nodes target)) in
      let long = length state.nodes in
      let f = directories_of state.nodes in
      let one = counts_more f long holds.directories to.0 much kept.nested in
      let two = counts_less (λ o. f o + at o to.0 much) long (raised to.0 much holds.directories) from.0 much one in
      let three = counts_less (λ o. f o + at o to.0 much - at o from.0 much) long
      (lowered from.0 much (raised to.0 much holds.directories)) to.0 less two in
      counts_as (λ o. f o + at o to.0 much - at o from.0 much - at o to.0 less) (directories_of gone) long (length gone)
      (with_moved_in state.nodes from.0 to.0 object target holds.directories) three alike_gone.long
      (λ o within.
      let both = weighed_gone (by_place o (counted state.nodes)) in
      omega (
        arith,
        both,
        target_weighs o,
        directories_alike state.nodes gone o alike_gone,
        directories_weigh state.nodes o,
      ))

pub kept_moved : (state : State) (holds : Counts) (tables : ℕ → List Slot) (from to : ℕ × List ℕ) (object : ℕ)
    (target : Option ℕ) → IsKept state holds tables →
    name_at state.nodes from.0 from.1 ≡ Some object → is_directory_at state.nodes to.0 ≡ true → IsShort to.1 →
    name_at state.nodes to.0 to.1 ≡ target →
    IsKept (with_moved state from to object target)
    (record {
      holds = released_where target holds.holds;
      names = released_where target holds.names;
      directories = with_moved_in state.nodes from.0 to.0 object target holds.directories;
    })
    (given_up_where (device_where state.nodes target) (number_where state.nodes target) target holds.holds tables)
kept_moved state holds tables from to object None kept there into good at_target =
    let alike = alike_gone state holds tables from to object None kept there into at_target in
    let named = named_gone state holds tables from to object None kept there into at_target in
    let long = length state.nodes in
    record {
      sound = sound_moved state from to object None kept.sound good there into;
      held = counts_as (held_by state) (held_by (with_moved state from to object None)) long
          (length (with_moved state from to object None).nodes) holds.holds kept.held alike.long
          (λ o within. let names = named o in omega (arith, names));
      named = counts_as (names_of state.nodes) (names_of (with_moved state from to object None).nodes) long
          (length (with_moved state from to object None).nodes) holds.names kept.named alike.long
          (λ o within. let names = named o in omega (arith, names));
      nested = nested_gone state holds tables from to object None kept there into at_target;
      numbered = λ dev. numbered_alike state (with_moved state from to object None) dev (tables dev) (kept.numbered dev)
          alike
          (λ o node is of some. let names = named o in omega (arith, names, some))
          (λ o node is of some. let names = named o in omega (arith, names, some));
    }
kept_moved state holds tables from to object (Some target) kept there into good at_target =
    let node = lives_there state to.0 to.1 target kept.sound at_target in
    let alike = alike_gone state holds tables from to object (Some target) kept there into at_target in
    let named = named_gone state holds tables from to object (Some target) kept there into at_target in
    let after = with_moved state from to object (Some target) in
    let directories = with_moved_in state.nodes from.0 to.0 object (Some target) holds.directories in
    let linked : AreLinked after.nodes (released target holds.names) directories = record {
      named = counts_as (λ o. names_of state.nodes o - at o target 1) (names_of after.nodes) (length state.nodes)
          (length after.nodes) (released target holds.names)
          (counts_less (names_of state.nodes) (length state.nodes) holds.names target 1 kept.named) alike.long
          (λ o within. let less = named o in let one = is_at_one o target in omega (arith, less, one));
      nested = nested_gone state holds tables from to object (Some target) kept there into at_target;
    } in
    subst (λ at_object. IsKept after
    (record {
      holds = released target holds.holds;
      names = released target holds.names;
      directories = directories;
    })
    (given_up (device_in at_object) (number_in at_object) target holds.holds tables)) (sym node.1)
    (kept_released state after holds tables target node.0 kept
    (sound_moved state from to object (Some target) kept.sound good there into)
    alike node.1 (released target holds.names) directories linked
    (λ o. let names = named o in omega (arith, names)))

-- ---- Write

pub kept_rewritten : (state : State) (holds : Counts) (tables : ℕ → List Slot) (object : ℕ) (bytes : List ℕ) →
    IsKept state holds tables → IsKept (with_rewritten state object bytes) holds tables
kept_rewritten state holds tables object bytes kept =
    let now = time_of state in
    kept_alike state (with_rewritten state object bytes) holds tables kept
    (sound_rewritten state object bytes kept.sound)
    (alike_rewritten now bytes object state.nodes)
    (λ o. refl)
    (λ w. weighed-same w object (rewritten now bytes) state.nodes (λ n. names_rewritten_in bytes n.content))
