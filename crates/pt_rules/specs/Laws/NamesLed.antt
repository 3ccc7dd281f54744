-- Proof. One name more of an object, and an exchange of two names: what they leave of the objects and the names, and
-- that they leave a sound state.
use Rattle.std.proofs.Common.{◌≡◌, ◌<◌, inl, inr, ℕ, true, List, length, Some, slice_get, refl, ap, sym, ◌∙◌}
use Rattle.std.proofs.Common.{subst}
use Rattle.std.proofs.lemmas.Option.{same_Some}
use Rattle.pt_host.specs.declared.ids.Time.{Time}
use Rattle.pt_node.specs.Entries.{changed_at, is_directory_at, is_directory_where, restamped, touched}
use Rattle.pt_node.specs.Entries.{with_entry}
use Rattle.pt_rules.specs.Holds.{HasHold}
use Rattle.pt_rules.specs.NameCalls.{exchanged, linked, with_exchanged, with_linked}
use Rattle.pt_node.specs.Names.{found}
use Rattle.pt_node.specs.Node.{holds_names, name_at, names_in}
use Rattle.pt_rules.specs.Sound.{IsShort, IsSound}
use Rattle.pt_rules.specs.State.{State, time_of}
use Rattle.pt_node.specs.declared.node.Content.{Content}
use Rattle.pt_node.specs.declared.node.Content.TheVariants.{Directory}
use Rattle.pt_node.specs.declared.node.Node.{Node}
use Rattle.pt_rules.specs.Laws.Changed.{AreAlike, alike_changed, alike_on, led, led_cases, led_still}
use Rattle.pt_rules.specs.Laws.Changed.{names-gained, names-same}
use Rattle.pt_rules.specs.Laws.EditShapes.{AllOrdered, ordered_alike, stays_gained, stays_restamped}
use Rattle.pt_rules.specs.Laws.Sounding.{NamedBefore, named_still, opened_still, sound_after}
use Rattle.pt_rules.specs.Laws.WellFormed.{and_then_some}

-- ---- what a name leads from is a directory

holds_named : (name : List ℕ) (object : ℕ) (content : Content) → found name (names_in content) ≡ Some object →
    holds_names content ≡ true
holds_named name object (Directory names) there = refl
holds_named name object content there = cc

pub leads_from : (nodes : List Node) (dir : ℕ) (name : List ℕ) (object : ℕ) → name_at nodes dir name ≡ Some object →
    is_directory_at nodes dir ≡ true
leads_from nodes dir name object there =
    let at = and_then_some (λ (node : Node). found name (names_in node.content)) (slice_get nodes dir) object there in
    ap is_directory_where at.1 ∙ holds_named name object at.0.content at.2

-- ---- one name more

module _ (now : Time) (dir : ℕ) (name : List ℕ) (object : ℕ) (nodes : List Node) where
  -- the objects after the directory got the name
  abbrev pub with_link : List Node
  with_link = changed_at dir (λ at. touched now (with_entry name object at)) nodes

  pub alike_linked : AreAlike nodes (linked now dir name object nodes)
  alike_linked =
      alike_on nodes with_link (linked now dir name object nodes)
      (alike_changed dir (λ at.
      touched now (with_entry name object at)) nodes (stays_gained now name object))
      (alike_changed object (restamped now) with_link (stays_restamped now))

  pub names_linked : is_directory_at nodes dir ≡ true →
      name_at (linked now dir name object nodes) ≡ led dir name (Some object) (name_at nodes)
  names_linked into =
      names-same object (restamped now) with_link (λ node is. refl)
      ∙ names-gained now dir name object nodes into

pub named_linked : (state : State) (dir : ℕ) (name : List ℕ) (object : ℕ) → IsSound state → IsShort name →
    is_directory_at state.nodes dir ≡ true → HasHold state object →
    object < length state.nodes → NamedBefore state (with_linked state dir name object).nodes
named_linked state dir name object sound good into lives within o (d, q, is) =
    let names = names_linked (time_of state) dir name object state.nodes into in
    elim (led_cases dir name (Some object) (name_at state.nodes) d q o (sym (ap (λ at. at d q) names) ∙ is)) [
      | inl same ↦ (let e = same_Some object o same.0 in (
        subst (HasHold state) e lives,
        subst (λ n. n < length state.nodes) e within,
        subst IsShort (sym same.1) good,
      ))
      | inr was ↦ named_still state sound o (d, q, was)
    ]

pub sound_linked : (state : State) (dir : ℕ) (name : List ℕ) (object : ℕ) → IsSound state → IsShort name →
    is_directory_at state.nodes dir ≡ true → HasHold state object →
    object < length state.nodes → IsSound (with_linked state dir name object)
sound_linked state dir name object sound good into lives within =
    sound_after state (linked (time_of state) dir name object state.nodes) state.slots sound
    (alike_linked (time_of state) dir name object state.nodes)
    (named_linked state dir name object sound good into lives within) (opened_still state sound)

-- ---- two names exchanged

module _ (now : Time) (from to : ℕ × List ℕ) (object other : ℕ) (nodes : List Node) where
  abbrev pub put_there : Node → Node
  put_there dir = touched now (with_entry to.1 object dir)

  abbrev pub put_back : Node → Node
  put_back dir = touched now (with_entry from.1 other dir)

  abbrev pub with_one : List Node
  with_one = changed_at to.0 put_there nodes

  abbrev pub with_both : List Node
  with_both = changed_at from.0 put_back with_one

  abbrev pub with_stamp : List Node
  with_stamp = changed_at object (restamped now) with_both

  pub alike_one : AreAlike nodes with_one
  alike_one = alike_changed to.0 put_there nodes
      (stays_gained now to.1 object)

  pub alike_exchanged : AreAlike nodes (exchanged now from to object other nodes)
  alike_exchanged =
      alike_on nodes with_stamp (exchanged now from to object other nodes)
      (alike_on nodes with_both with_stamp
      (alike_on nodes with_one with_both alike_one
      (alike_changed from.0 put_back with_one
      (stays_gained now from.1 other)))
      (alike_changed object (restamped now) with_both (stays_restamped now)))
      (alike_changed other (restamped now) with_stamp (stays_restamped now))

  module _ (there : name_at nodes from.0 from.1 ≡ Some object) (too : name_at nodes to.0 to.1 ≡ Some other) where
    -- the first name leads to the object still, whatever the other one is
    pub leads_still : name_at with_one from.0 from.1 ≡ Some object
    leads_still =
        ap (λ names. names from.0 from.1)
        (names-gained now to.0 to.1 object nodes
        (leads_from nodes to.0 to.1 other too))
        ∙ led_still to.0 to.1 object (name_at nodes) from.0 from.1 there

    pub names_exchanged : name_at (exchanged now from to object other nodes)
        ≡ led from.0 from.1 (Some other) (led to.0 to.1 (Some object) (name_at nodes))
    names_exchanged =
        names-same other (restamped now) with_stamp (λ node is. refl)
        ∙ names-same object (restamped now) with_both (λ node is. refl)
        ∙ names-gained now from.0 from.1 other with_one
        (leads_from with_one from.0 from.1 object leads_still)
        ∙ ap (led from.0 from.1 (Some other))
        (names-gained now to.0 to.1 object nodes
        (leads_from nodes to.0 to.1 other too))

pub sound_exchanged : (state : State) (from to : ℕ × List ℕ) (object other : ℕ) → IsSound state →
    name_at state.nodes from.0 from.1 ≡ Some object →
    name_at state.nodes to.0 to.1 ≡ Some other → IsSound (with_exchanged state from to object other)
sound_exchanged state from to object other sound there too =
    sound_after state (exchanged (time_of state) from to object other state.nodes) state.slots sound
    (alike_exchanged (time_of state) from to object other state.nodes) named (opened_still state sound)
  where
    named : NamedBefore state (exchanged (time_of state) from to object other state.nodes)
    named o (d, q, is) =
        let names = names_exchanged (time_of state) from to object other state.nodes there too in
        elim (led_cases from.0 from.1 (Some other) (led to.0 to.1 (Some object) (name_at state.nodes)) d q o
        (sym (ap (λ at. at d q) names) ∙ is)) [
          | inl same ↦ (let was = named_still state sound o (to.0, to.1, too ∙ same.0) in
              (was.0, was.1, subst IsShort (sym same.1) (sound.short from.0 from.1 object there)))
          | inr gained ↦ elim (led_cases to.0 to.1 (Some object) (name_at state.nodes) d q o gained) [
            | inl same ↦ (let was = named_still state sound o (from.0, from.1, there ∙ same.0) in
                (was.0, was.1, subst IsShort (sym same.1) (sound.short to.0 to.1 other too)))
            | inr was ↦ named_still state sound o (d, q, was)
          ]
        ]

pub ordered_one : (now : Time) (from to : ℕ × List ℕ) (object other : ℕ) (nodes : List Node) → AllOrdered nodes →
    AllOrdered (with_one now from to object other nodes)
ordered_one now from to object other nodes ordered =
    ordered_alike nodes (with_one now from to object other nodes) (alike_one now from to object other nodes) ordered
