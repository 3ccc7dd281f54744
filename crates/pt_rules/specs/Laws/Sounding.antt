-- Proof. A state stays sound where its objects stay what they are and nothing comes to life.
use Rattle.std.proofs.Common.{◌≡◌, ◌<◌, ◌≤◌, ◌+◌, ◌^◌, inl, inr, ℕ, List, length, Some, subst, refl, ap, sym, ◌∙◌}
use Rattle.pt_host.specs.Tree.{Object}
use Rattle.pt_host.specs.declared.ids.ObjIds.{ObjIds}
use Rattle.pt_rules.specs.Holds.{HasName, HasHold}
use Rattle.pt_node.specs.Slots.{open_at}
use Rattle.pt_rules.specs.Sound.{AreOrdered, IsMade, IsShort, IsSound}
use Rattle.pt_rules.specs.State.{State}
use Rattle.pt_node.specs.declared.node.Node.{Node}
use Rattle.pt_node.specs.declared.slots.OpenFile.{OpenFile}
use Rattle.pt_node.specs.declared.slots.Slot.{Slot}
use Rattle.pt_rules.specs.Laws.Changed.{AreAlike, Stays}
use Rattle.pt_rules.specs.Laws.Keeping.{KeepsNode}
use Rattle.pt_rules.specs.Laws.Alive.{lives_held}
use Rattle.pt_rules.specs.Laws.Held.{held_has}
use Rattle.pt_rules.specs.Living.{Lives}

pub stays_kept : (before after : Node) → KeepsNode before after → Stays before after
stays_kept before after keeps = record {
  ids = keeps.ids;
  serial = keeps.serial;
  kind = ap (λ (object : Object). object.kind) keeps.object;
  permissions = keeps.permissions;
  ordered = λ ordered. subst AreOrdered (sym keeps.names) ordered;
  attributed = keeps.attributed;
}

pub made_stays : (place : ℕ) (before after : Node) → Stays before after → IsMade place before → IsMade place after
made_stays place before after stays made = record {
  serial = stays.serial ∙ made.serial;
  numbered = subst (λ (ids : ObjIds). ids.ino ≤ place + 1) (sym stays.ids) made.numbered;
  permissions = stays.permissions made.permissions;
  ordered = stays.ordered made.ordered;
  attributed = stays.attributed made.attributed;
}

-- what a name leads to lived, and is there, and the name is one
abbrev pub NamedBefore : State → List Node → Type 0
NamedBefore before nodes =
    (object : ℕ) (has : HasName nodes object) →
    HasHold before object × (object < length before.nodes) × IsShort has.1

-- what a descriptor is open on lived, and is there
abbrev pub OpenedBefore : State → List Slot → Type 0
OpenedBefore before slots =
    (fd : ℕ) (file : OpenFile) → open_at slots fd ≡ Some file →
    HasHold before file.object × (file.object < length before.nodes)

abbrev pub state_with : State → List Node → List Slot → State
state_with before nodes slots = record before { nodes = nodes; slots = slots }

pub lived : (before : State) (nodes : List Node) (slots : List Slot) (object : ℕ) → NamedBefore before nodes →
    OpenedBefore before slots → HasHold (state_with before nodes slots) object → HasHold before object
lived before nodes slots object named opened (inl root) = inl root
lived before nodes slots object named opened (inr (inl has)) = (named object has).0
lived before nodes slots object named opened (inr (inr (fd, file, is, same))) =
    subst (HasHold before) same (opened fd file is).0

lived_alike : (before : State) (nodes : List Node) (slots : List Slot) (object : ℕ) → IsSound before →
    AreAlike before.nodes nodes →
    NamedBefore before nodes → OpenedBefore before slots → Lives (state_with before nodes slots) object →
    Lives before object
lived_alike before nodes slots object sound alike named opened lives =
    lives_held before object
    (lived before nodes slots object named opened (held_has (state_with before nodes slots) object
    (λ place node is. let was = alike.each place node is in
    was.2.ordered (sound.made place was.0 was.1).ordered) lives))

pub sound_after : (before : State) (nodes : List Node) (slots : List Slot) → IsSound before →
    AreAlike before.nodes nodes → NamedBefore before nodes →
    OpenedBefore before slots → IsSound (state_with before nodes slots)
sound_after before nodes slots sound alike named opened = record {
  timely = sound.timely;
  few = subst (λ n. n < 2 ^ 63) (sym alike.long) sound.few;
  made = λ place node is.
      let was = alike.each place node is in
      made_stays place was.0 node was.2 (sound.made place was.0 was.1);
  named = λ dir name object is. subst (λ n. object < n) (sym alike.long) (named object (dir, name, is)).1;
  short = λ dir name object is. (named object (dir, name, is)).2;
  opened = λ fd file is. subst (λ n. file.object < n) (sym alike.long) (opened fd file is).1;
  apart = λ object another node that is other lives lives_too dev ino.
      let was = alike.each object node is in
      let before_that = alike.each another that other in
      sound.apart object another was.0 before_that.0 was.1 before_that.1
      (lived_alike before nodes slots object sound alike named opened lives)
      (lived_alike before nodes slots another sound alike named opened lives_too)
      (sym (ap (λ ids. ids.dev) was.2.ids) ∙ dev ∙ ap (λ ids. ids.dev) before_that.2.ids)
      (sym (ap (λ ids. ids.ino) was.2.ids) ∙ ino ∙ ap (λ ids. ids.ino) before_that.2.ids);
}

-- the names of before
pub named_still : (before : State) → IsSound before → NamedBefore before before.nodes
named_still before sound object has =
    (inr (inl has), sound.named has.0 has.1 object has.2, sound.short has.0 has.1 object has.2)

-- the descriptors of before
pub opened_still : (before : State) → IsSound before → OpenedBefore before before.slots
opened_still before sound fd file is = (inr (inr (fd, file, is, refl)), sound.opened fd file is)
