-- Proof. Openings, closings and what changes one object alone leave a sound state.
use Rattle.std.proofs.Common.{◌≡◌, ◌<◌, inl, inr, ℕ, List, length, Option, Some, None, slice_get, slice_set, subst}
use Rattle.std.proofs.Common.{ap, sym, ◌∙◌, arith, length-set}
use Rattle.std.proofs.lemmas.Option.{slice_get_within}
use Rattle.pt_host.specs.declared.ids.Errno.{Errno}
use Rattle.pt_host.specs.declared.flags.OpenFlags.{OpenFlags}
use Rattle.pt_host.specs.declared.seat.HostSeat.{HostSeat}
use Rattle.pt_rules.specs.Holds.{HasHold}
use Rattle.pt_node.specs.Names.{found}
use Rattle.pt_node.specs.Node.{name_at, names_in}
use Rattle.pt_node.specs.Slots.{open_at, file_of, closed, closed_where, least_free}
use Rattle.pt_rules.specs.State.{State, counted, time_of}
use Rattle.pt_node.specs.Opening.{after_opening}
use Rattle.pt_rules.specs.Calls.{Answered, begun_on, unless, with_descriptor, with_opened}
use Rattle.pt_rules.specs.Faults.{past_plan}
use Rattle.pt_rules.specs.Sound.{IsSound}
use Rattle.pt_node.specs.declared.node.Node.{Node}
use Rattle.pt_node.specs.declared.slots.OpenFile.{OpenFile}
use Rattle.pt_node.specs.declared.slots.Slot.{Slot}
use Rattle.pt_node.specs.declared.slots.Slot.TheVariants.{Free, Open}
use Rattle.pt_node.specs.Laws.Updates.{and_then-set_same, get-set_cases, get-put_cases, open_slot}
use Rattle.pt_rules.specs.Laws.Keeping.{KeepsNode, keeps_opening}
use Rattle.pt_rules.specs.Laws.Changed.{AreAlike, Stays, alike_itself, stays_itself}
use Rattle.pt_rules.specs.Laws.Sounding.{NamedBefore, OpenedBefore, named_still, opened_still, sound_after, stays_kept}

pub same_names : (nodes : List Node) (object : ℕ) (before after : Node) → slice_get nodes object ≡ Some before →
    KeepsNode before after →
    (dir : ℕ) (name : List ℕ) → name_at (slice_set nodes object after) dir name ≡ name_at nodes dir name
same_names nodes object before after is keeps dir name =
    and_then-set_same (λ node.
    found name (names_in node.content)) nodes object before after dir is (ap (found name) keeps.names)

-- one object has become another that keeps it
pub alike_set : (nodes : List Node) (object : ℕ) (node after : Node) → slice_get nodes object ≡ Some node →
    KeepsNode node after → AreAlike nodes (slice_set nodes object after)
alike_set nodes object node after is keeps = record {
  long = length-set nodes object after;
  each = λ place that there. elim (get-set_cases nodes object after place that there) [
    | inl both ↦ (node, ap (slice_get nodes) both.0 ∙ is, subst (Stays node) (sym both.1) (stays_kept node after keeps))
    | inr was ↦ (that, was, stays_itself that)
  ];
}

named_set : (state : State) (object : ℕ) (node after : Node) → IsSound state →
    slice_get state.nodes object ≡ Some node → KeepsNode node after →
    NamedBefore state (slice_set state.nodes object after)
named_set state object node after sound is keeps o has =
    named_still state sound o (
      has.0,
      has.1,
      sym (same_names state.nodes object node after is keeps has.0 has.1)
          ∙ has.2,
    )

pub sound-with_node : (state : State) (object : ℕ) (node after : Node) → IsSound state →
    slice_get state.nodes object ≡ Some node → KeepsNode node after →
    IsSound (record state { nodes = slice_set state.nodes object after })
sound-with_node state object node after sound is keeps =
    sound_after state (slice_set state.nodes object after) state.slots sound
    (alike_set state.nodes object node after is keeps)
    (named_set state object node after sound is keeps) (opened_still state sound)

-- a table in which each open descriptor is one of before, or on an object that lives
opened_put : (state : State) (flags : OpenFlags) (object : ℕ) (node : Node) → IsSound state →
    slice_get state.nodes object ≡ Some node → HasHold state object →
    (file : OpenFile) → Open file ≡ Open (begun_on flags object) →
    HasHold state file.object × (file.object < length state.nodes)
opened_put state flags object node sound is lives file same =
    let e : file ≡ begun_on flags object = cc in (
      subst (HasHold state) (sym (ap (λ f. f.object) e)) lives,
      subst (λ n. n < length state.nodes) (sym (ap (λ f. f.object) e)) (slice_get_within state.nodes object node is),
    )

pub opened_before : (state : State) (seat : HostSeat) (flags : OpenFlags) (object : ℕ) (node : Node) → IsSound state →
    slice_get state.nodes object ≡ Some node →
    HasHold state object → OpenedBefore state (with_opened state seat flags object node).slots
opened_before state seat flags object node sound is lives fd file there =
    elim (get-put_cases (least_free state.slots) (Open (begun_on flags object)) state.slots fd (Open file)
    (open_slot (slice_get (with_opened state seat flags object node).slots fd) file there)) [
      | inl both ↦ opened_put state flags object node sound is lives file both.1
      | inr before ↦ opened_still state sound fd file (ap file_of before)
    ]

pub sound-with_opened : (state : State) (seat : HostSeat) (flags : OpenFlags) (object : ℕ) (node : Node) →
    IsSound state →
    slice_get state.nodes object ≡ Some node → HasHold state object → IsSound (with_opened state seat flags object node)
sound-with_opened state seat flags object node sound is lives =
    let keeps = keeps_opening seat (time_of state) flags.0 node in
    let after = after_opening seat (time_of state) flags.0 node in
    sound_after state (slice_set state.nodes object after) (with_opened state seat flags object node).slots sound
    (alike_set state.nodes object node after is keeps) (named_set state object node after sound is keeps)
    (opened_before state seat flags object node sound is lives)

pub sound-with_descriptor : (state : State) (seat : HostSeat) (flags : OpenFlags) (object : ℕ) (node : Node) →
    IsSound state →
    slice_get state.nodes object ≡ Some node → HasHold state object → IsSound (with_descriptor state flags object)
sound-with_descriptor state seat flags object node sound is lives =
    sound_after state state.nodes (with_descriptor state flags object).slots sound (alike_itself state.nodes)
    (named_still state sound)
    (opened_before state seat flags object node sound is lives)

pub sound-unless : (state : State) (errno : Option Errno) (told : Answered) → IsSound state → IsSound told.1 →
    IsSound (unless state errno told).1
sound-unless state None told sound otherwise = otherwise
sound-unless state (Some errno) told sound otherwise = sound

still_open : (file : Option OpenFile) (fd : ℕ) (slots : List Slot) (other : ℕ) (held : OpenFile) →
    slice_get (closed_where file fd slots) other ≡ Some (Open held) → slice_get slots other ≡ Some (Open held)
still_open None fd slots other held is = is
still_open (Some file) fd slots other held is =
    elim (get-set_cases slots fd Free other (Open held) is) [ inl both ↦ cc | inr before ↦ before ]

pub opened_closed : (state : State) (fd : ℕ) → IsSound state → OpenedBefore state (closed fd state.slots)
opened_closed state fd sound other held is =
    opened_still state sound other held
    (ap file_of (still_open (open_at state.slots fd) fd state.slots other held
    (open_slot (slice_get (closed fd state.slots) other) held is)))

pub sound-closed : (state : State) (fd : ℕ) → IsSound state → IsSound (record state { slots = closed fd state.slots })
sound-closed state fd sound =
    sound_after state state.nodes (closed fd state.slots) sound (alike_itself state.nodes) (named_still state sound)
    (opened_closed state fd sound)

pub sound-counted : (state : State) → IsSound state → IsSound (counted (past_plan state))
sound-counted state sound = record {
  timely = omega arith;
  few = sound.few;
  made = sound.made;
  named = sound.named;
  short = sound.short;
  opened = sound.opened;
  apart = sound.apart;
}
