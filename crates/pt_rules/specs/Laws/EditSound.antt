-- Proof. An edit leaves a sound state.
use Rattle.std.proofs.Common.{◌≡◌, ◌<◌, ◌≤◌, ◌+◌, ◌^◌, ◌⊎◌, inl, inr, ℕ, true, List, [], length, Option, Some, None}
use Rattle.std.proofs.Common.{slice_get, ap, sym, ◌∙◌, subst, arith}
use Rattle.std.proofs.lemmas.Bool.Decides.{leb_tells}
use Rattle.std.proofs.lemmas.List.{length_push}
use Rattle.std.proofs.lemmas.Option.{same_Some, slice_get_within}
use Rattle.pt_host.specs.declared.edit.Edit.{Edit}
use Rattle.pt_host.specs.declared.edit.Edit.TheVariants as edit
use Rattle.pt_rules.specs.Edits.{edited, moved, unlinked, with_made, with_moved, with_rewritten, with_unlinked}
use Rattle.pt_node.specs.Entries.{is_directory_at}
use Rattle.pt_rules.specs.Living.{AreLeastFree, IsLeastFree}
use Rattle.pt_rules.specs.Holds.{HasHold}
use Rattle.pt_node.specs.Node.{name_at, names_in}
use Rattle.pt_rules.specs.Sound.{AreApart, AreOrdered, IsMade, IsShort, IsSound}
use Rattle.pt_rules.specs.State.{State, time_of}
use Rattle.pt_node.specs.declared.node.Node.{Node}
use Rattle.pt_rules.specs.Laws.Changed.{led, led_cases}
use Rattle.pt_rules.specs.Laws.EditShapes.{alike_entered, alike_moved, alike_rewritten, alike_unlinked, entered}
use Rattle.pt_rules.specs.Laws.EditShapes.{names_grown, names_moved, names_rewritten, names_unlinked, no_names}
use Rattle.pt_rules.specs.Laws.EditShapes.{AllOrdered}
use Rattle.pt_rules.specs.Laws.Outcomes.{EditEffect, Makes, MovesTo, edit_outcome}
use Rattle.pt_rules.specs.Laws.Sounding.{NamedBefore, made_stays, named_still, opened_still, sound_after}
use Rattle.pt_node.specs.Laws.Updates.{get-push_cases}
use Rattle.pt_rules.specs.Laws.Alive.{lives_held}
use Rattle.pt_rules.specs.Laws.Held.{held_has}
use Rattle.pt_rules.specs.Living.{Lives}

pub all_ordered : (state : State) → IsSound state → AllOrdered state.nodes
all_ordered state sound place node is = (sound.made place node is).ordered

pub named_unlinked : (state : State) (dir : ℕ) (name : List ℕ) (object : ℕ) → IsSound state →
    NamedBefore state (with_unlinked state dir name object).nodes
named_unlinked state dir name object sound o (d, q, is) =
    let names = names_unlinked (time_of state) dir name object state.nodes (all_ordered state sound) in
    elim (led_cases dir name None (name_at state.nodes) d q o (sym (ap (λ at. at d q) names) ∙ is)) [
      | inl none ↦ (let e = none.0 in cc)
      | inr was ↦ named_still state sound o (d, q, was)
    ]

pub sound_unlinked : (state : State) (dir : ℕ) (name : List ℕ) (object : ℕ) → IsSound state →
    IsSound (with_unlinked state dir name object)
sound_unlinked state dir name object sound =
    sound_after state (unlinked (time_of state) dir name object state.nodes) state.slots sound
    (alike_unlinked (time_of state) dir name object state.nodes)
    (named_unlinked state dir name object sound) (opened_still state sound)

pub named_moved : (state : State) (from to : ℕ × List ℕ) (object : ℕ) (target : Option ℕ) → IsSound state →
    IsShort to.1 → name_at state.nodes from.0 from.1 ≡ Some object →
    is_directory_at state.nodes to.0 ≡ true → NamedBefore state (with_moved state from to object target).nodes
named_moved state from to object target sound good there into o (d, q, is) =
    let names = names_moved (time_of state) from to object target state.nodes (all_ordered state sound) into in
    elim (led_cases from.0 from.1 None (led to.0 to.1 (Some object) (name_at state.nodes)) d q o
    (sym (ap (λ at. at d q) names) ∙ is)) [
      | inl none ↦ (let e = none.0 in cc)
      | inr gained ↦ elim (led_cases to.0 to.1 (Some object) (name_at state.nodes) d q o gained) [
        | inl same ↦ (let was = named_still state sound o (from.0, from.1, there ∙ same.0) in
            (was.0, was.1, subst IsShort (sym same.1) good))
        | inr was ↦ named_still state sound o (d, q, was)
      ]
    ]

pub sound_moved : (state : State) (from to : ℕ × List ℕ) (object : ℕ) (target : Option ℕ) → IsSound state →
    IsShort to.1 → name_at state.nodes from.0 from.1 ≡ Some object →
    is_directory_at state.nodes to.0 ≡ true → IsSound (with_moved state from to object target)
sound_moved state from to object target sound good there into =
    sound_after state (moved (time_of state) from to object target state.nodes) state.slots sound
    (alike_moved (time_of state) from to object target state.nodes)
    (named_moved state from to object target sound good there into) (opened_still state sound)

pub sound_rewritten : (state : State) (object : ℕ) (bytes : List ℕ) → IsSound state →
    IsSound (with_rewritten state object bytes)
sound_rewritten state object bytes sound =
    let names = names_rewritten (time_of state) bytes object state.nodes in
    sound_after state (with_rewritten state object bytes).nodes state.slots sound
    (alike_rewritten (time_of state) bytes object state.nodes)
    (λ o has. named_still state sound o (has.0, has.1, sym (ap (λ at. at has.0 has.1) names) ∙ has.2))
    (opened_still state sound)

-- ---- a new object

module _ (state : State) (dir : ℕ) (name : List ℕ) (node : Node) (sound : IsSound state)
    (into : is_directory_at state.nodes dir ≡ true)
    (empty : names_in node.content ≡ []) (bare : node.xattrs ≡ []) (serial : node.serial
    ≡ length state.nodes + 1) (small : node.permissions < 4096)
    (least : IsLeastFree state node.ids.dev node.ids.ino) where
  pub length_made : length (with_made state dir name node).nodes ≡ length state.nodes + 1
  length_made =
      let longer = length_push (entered (time_of state) dir name node state.nodes) node in
      let same = (alike_entered (time_of state) dir name node state.nodes).long in
      omega arith

  -- it stands at the end, and before it what was there
  pub at_place : (place : ℕ) (that : Node) → slice_get (with_made state dir name node).nodes place ≡ Some that →
      ((place ≡ length state.nodes) × (that ≡ node))
      ⊎ ((was : Node) × (slice_get state.nodes place ≡ Some was) × (that.ids ≡ was.ids) × IsMade place that)
  at_place place that is =
      elim (get-push_cases (entered (time_of state) dir name node state.nodes) node place that is) [
        | inl new ↦ inl (new.0 ∙ (alike_entered (time_of state) dir name node state.nodes).long, new.1)
        | inr old ↦ (let was = (alike_entered (time_of state) dir name node state.nodes).each place that old in
            inr (was.0, was.1, was.2.ids, made_stays place was.0 that was.2 (sound.made place was.0 was.1)))
      ]

  -- the least number that is free is none past the number of the making
  number_made : node.ids.ino ≤ length state.nodes + 1
  number_made = elim (leb_tells node.ids.ino (length state.nodes + 1)) [
    | inl within ↦ within.1
    | inr past ↦
        (let taken = least.least (length state.nodes + 1) (omega arith) past.1 in
        let there = slice_get_within state.nodes taken.0 taken.1 taken.2 in
        let number = (sound.made taken.0 taken.1 taken.2).numbered in
        absurd (let same = taken.5 in omega (arith, there, number, same)))
  ]

  made_made : (place : ℕ) (that : Node) → slice_get (with_made state dir name node).nodes place ≡ Some that →
      IsMade place that
  made_made place that is = elim (at_place place that is) [
    | inl new ↦ (let good : IsMade place node = record {
      serial = (let end = new.0 in omega arith);
      numbered = subst (λ (n : ℕ). node.ids.ino ≤ n + 1) (sym new.0) number_made;
      permissions = small;
      ordered = subst AreOrdered (sym empty) (no_names ℕ);
      attributed = subst AreOrdered (sym bare) (no_names (List ℕ));
    } in
        subst (IsMade place) (sym new.1) good)
    | inr old ↦ old.3
  ]

  named_made : (d : ℕ) (q : List ℕ) (o : ℕ) → name_at (with_made state dir name node).nodes d q ≡ Some o →
      ((o ≡ length state.nodes) × (q ≡ name)) ⊎ (name_at state.nodes d q ≡ Some o)
  named_made d q o is =
      let names = names_grown (time_of state) dir name node state.nodes into empty in
      elim (led_cases dir name (Some (length state.nodes)) (name_at state.nodes) d q o (sym (ap (λ at. at d q) names)
      ∙ is)) [
        | inl new ↦ inl (sym (same_Some (length state.nodes) o new.0), new.1)
        | inr was ↦ inr was
      ]

  -- an object of before lived before
  lived_made : (object : ℕ) → object < length state.nodes → HasHold (with_made state dir name node) object →
      HasHold state object
  lived_made object within (inl root) = inl root
  lived_made object within (inr (inr held)) = inr (inr held)
  lived_made object within (inr (inl (d, q, is))) =
      elim (named_made d q object is) [ inl new ↦ absurd (let end = new.0 in omega (arith, end)) | inr was ↦ inr (inl (d, q, was)) ]

  lived_again : (object : ℕ) → object < length state.nodes → Lives (with_made state dir name node) object →
      Lives state object
  lived_again object within lives =
      lives_held state object
      (lived_made object within
      (held_has (with_made state dir name node) object (λ place that is. (made_made place that is).ordered) lives))

  apart_made : AreApart (with_made state dir name node)
  apart_made object another that other is too lives lives_too dev ino = elim (at_place object that is) [
    | inl new ↦ elim (at_place another other too) [
      | inl also ↦ new.0 ∙ sym also.0
      | inr old ↦ absurd (least.free (
        another,
        old.0,
        old.1,
        lived_again another (slice_get_within state.nodes another old.0 old.1) lives_too,
        sym (ap (λ ids. ids.dev) old.2) ∙ sym dev ∙ ap (λ n. n.ids.dev) new.1,
        sym (ap (λ ids. ids.ino) old.2) ∙ sym ino ∙ ap (λ n. n.ids.ino) new.1,
      ))
    ]
    | inr old ↦ elim (at_place another other too) [
      | inl new ↦ absurd (least.free (
        object,
        old.0,
        old.1,
        lived_again object (slice_get_within state.nodes object old.0 old.1) lives,
        sym (ap (λ ids. ids.dev) old.2) ∙ dev ∙ ap (λ n. n.ids.dev) new.1,
        sym (ap (λ ids. ids.ino) old.2) ∙ ino ∙ ap (λ n. n.ids.ino) new.1,
      ))
      | inr also ↦ sound.apart object another old.0 also.0 old.1 also.1
          (lived_again object (slice_get_within state.nodes object old.0 old.1) lives)
          (lived_again another (slice_get_within state.nodes another also.0 also.1) lives_too)
          (sym (ap (λ ids. ids.dev) old.2) ∙ dev ∙ ap (λ ids. ids.dev) also.2)
          (sym (ap (λ ids. ids.ino) old.2) ∙ ino ∙ ap (λ ids. ids.ino) also.2)
    ]
  ]

  pub sound_made : IsShort name → length (with_made state dir name node).nodes < 2 ^ 63 →
      IsSound (with_made state dir name node)
  sound_made good few = record {
    timely = sound.timely;
    few = few;
    made = made_made;
    named = λ d q o is.
        let long = length_made in
        elim (named_made d q o is) [
          | inl new ↦ (let end = new.0 in omega (arith, end))
          | inr was ↦
              (let within = sound.named d q o was in omega (arith, within))
        ];
    short = λ d q o is. elim (named_made d q o is) [
      | inl new ↦ subst IsShort (sym new.1) good
      | inr was ↦ sound.short d q o was
    ];
    opened = λ fd file is. let long = length_made in let within = sound.opened fd file is in omega (arith, within);
    apart = apart_made;
  }

-- ---- whatever the edit

sound_moves : (state after : State) (from to : ℕ × List ℕ) (object : ℕ) (target : Option ℕ) → IsSound state →
    IsShort to.1 → name_at state.nodes from.0 from.1 ≡ Some object →
    is_directory_at state.nodes to.0 ≡ true → MovesTo state from to object target after → IsSound after
sound_moves state after from to object target sound good there into (inl same) = subst IsSound (sym same.1) sound
sound_moves state after from to object target sound good there into (inr other) =
    subst IsSound (sym other.1) (sound_moved state from to object target sound good there into)

pub sound_makes : (state : State) (numbers : ℕ → ℕ) (after : State) → IsSound state → AreLeastFree state numbers →
    length after.nodes < 2 ^ 63 → Makes state numbers after → IsSound after
sound_makes state numbers after sound least few does =
    subst IsSound (sym does.leaves)
    (sound_made state does.dir does.name does.node sound does.into does.empty does.bare does.serial does.small
    (subst (IsLeastFree state does.node.ids.dev) (sym does.number) (least does.node.ids.dev)) does.good
    (subst (λ (s : State). length s.nodes < 2 ^ 63) does.leaves few))

pub sound_effect : (state : State) (numbers : ℕ → ℕ) (asked : Edit) (after : State) → IsSound state →
    AreLeastFree state numbers → length after.nodes < 2 ^ 63 → EditEffect state numbers asked after → IsSound after
sound_effect state numbers (edit.Unlink path) after sound least few does =
    subst IsSound (sym does.leaves) (sound_unlinked state does.dir does.name does.object sound)
sound_effect state numbers (edit.Rename old new) after sound least few does =
    sound_moves state after does.from does.to does.object does.target sound does.good does.there does.into does.moves
sound_effect state numbers (edit.File path mode uid gid bytes) after sound least few does =
    sound_makes state numbers after sound least few does
sound_effect state numbers (edit.Dir path mode uid gid) after sound least few does =
    sound_makes state numbers after sound least few does
sound_effect state numbers (edit.Write path bytes) after sound least few does =
    subst IsSound (sym does.leaves) (sound_rewritten state does.object does.bytes sound)

pub sound_edited : (state : State) (numbers : ℕ → ℕ) (asked : Edit) → IsSound state → AreLeastFree state numbers →
    length (edited state numbers asked).1.nodes < 2 ^ 63 → IsSound (edited state numbers asked).1
sound_edited state numbers asked sound least few = elim (edit_outcome state numbers asked sound) [
  | inl refused ↦ subst IsSound (sym (ap (λ both. both.1) refused.1)) sound
  | inr does ↦ subst IsSound (sym (ap (λ both. both.1) does.1))
      (sound_effect state numbers asked does.0 sound least
      (subst (λ (s : State). length s.nodes < 2 ^ 63) (ap (λ both. both.1) does.1) few) does.2)
]
