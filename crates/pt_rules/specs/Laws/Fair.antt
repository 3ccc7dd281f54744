-- Proof. What is to be shown of each call's answer, and that it holds where the call leaves the tree as it is.
use Rattle.std.proofs.Common.{◌≡◌, ◌<◌, ◌^◌, ◌⊎◌, inl, inr, ℕ, List, length, Option, Some, None, option_map}
use Rattle.std.proofs.Common.{slice_get, slice_set, refl, ap, sym, ◌∙◌, subst}
use Rattle.std.proofs.lemmas.Bool.Decides.{eqb_tells}
use Rattle.std.proofs.lemmas.Option.{slice_get_within}
use Rattle.pt_host.specs.Call.{Call}
use Rattle.pt_host.specs.Contents.{ObjectContents}
use Rattle.pt_host.specs.LawfulContents.{StaysButAccess}
use Rattle.pt_host.specs.LawfulTree.{TreeChanges}
use Rattle.pt_host.specs.Promises.{FailsFitly, FitsCall, IsAllowed}
use Rattle.pt_host.specs.Sorts.{opening_flags}
use Rattle.pt_host.specs.Tree.{Tree}
use Rattle.pt_host.specs.declared.flags.OpenFlags.{OpenFlags}
use Rattle.pt_host.specs.declared.ids.Errno.{Errno}
use Rattle.pt_host.specs.declared.reply.HostReply.TheVariants as reply
use Rattle.pt_host.specs.declared.reply.HostValue.{HostValue}
use Rattle.pt_node.specs.Slots.{file_of, open_at, placed_where}
use Rattle.pt_rules.specs.State.{State, contents_of, contents_where, opened_as, tree_of}
use Rattle.pt_rules.specs.Beside.{LeavesBeside, MayTouch}
use Rattle.pt_rules.specs.Calls.{Answered, refused, tells, with_node}
use Rattle.pt_rules.specs.ContentCalls.{with_position}
use Rattle.pt_rules.specs.Sound.{IsSound}
use Rattle.pt_node.specs.declared.node.Node.{Node}
use Rattle.pt_node.specs.declared.slots.OpenFile.{OpenFile}
use Rattle.pt_node.specs.declared.slots.Slot.{Slot}
use Rattle.pt_node.specs.declared.slots.Slot.TheVariants.{Open}
use Rattle.pt_node.specs.Laws.Updates.{same_function, open_slot, get-set_apart, get-set_here}
use Rattle.pt_rules.specs.Laws.Changed.{same_tree}
use Rattle.pt_rules.specs.Laws.Keeping.{KeepsNode}
use Rattle.pt_rules.specs.Laws.Opens.{tree-with_node}
use Rattle.pt_rules.specs.Laws.Soundness.{sound-with_node}

pub record IsFair (state : State) (asked : Call) (told : Answered) : Type 0 where
  pub sound : length told.1.nodes < 2 ^ 63 → IsSound told.1
  pub changes : TreeChanges (tree_of state) asked told.0 (tree_of told.1)
  pub contents : LeavesBeside (tree_of state) (contents_of state) asked told.0 (tree_of told.1) (contents_of told.1)
  pub allowed : (faults : ℕ) → IsAllowed faults asked told.0 faults
  pub faults : told.1.faults ≡ state.faults
  pub fails : FailsFitly asked told.0

-- a call that names nothing: it opens nothing, and where it is Ok the tree stays
pub record IsPlain (asked : Call) : Type 0 where
  pub refuses : (tree : Tree) (errno : Errno) → TreeChanges tree asked (reply.Refused errno) tree
  pub passes : (tree : Tree) (told : HostValue) → FitsCall asked told → TreeChanges tree asked (reply.Ok told) tree
  pub opens : opening_flags asked ≡ None

pub stays_same : (before after : ObjectContents) → after ≡ before → StaysButAccess before after
stays_same before after same = subst (λ (c : ObjectContents). StaysButAccess before c) (sym same) refl

pub fair_refused : (state : State) (asked : Call) (errno : Errno) → IsSound state →
    TreeChanges (tree_of state) asked (reply.Refused errno) (tree_of state) → IsFair state asked (refused state errno)
fair_refused state asked errno sound changes = record {
  sound = λ few. sound;
  changes = changes;
  contents = record { objects = λ object within. refl; descriptions = λ fd open_still. refl };
  allowed = λ faults. tt;
  faults = refl;
  fails = tt;
}

pub no_flags : (asked : Call) (flags : OpenFlags) → opening_flags asked ≡ None → opening_flags asked ≡ Some flags → ⊥
no_flags asked flags none some = (let e : None ≡ Some flags = sym none ∙ some in cc)

-- the tree and what is beside it stay
pub fair_same : (state : State) (asked : Call) (told : HostValue) → IsSound state → opening_flags asked ≡ None →
    TreeChanges (tree_of state) asked (reply.Ok told) (tree_of state) → FitsCall asked told →
    IsFair state asked (tells state told)
fair_same state asked told sound opens changes fits = record {
  sound = λ few. sound;
  changes = changes;
  contents = record {
    objects = λ object within may. stays_same _ _ refl;
    openings = λ flags object asks within may. refl;
    emptied = λ flags object asks makes. inl refl;
    positions = λ fd open_still may. refl;
    accesses = λ fd open_still. refl;
    begins = λ flags fd asks is. absurd (no_flags asked flags opens asks);
  };
  allowed = λ faults. fits;
  faults = refl;
  fails = tt;
}

-- nothing is changed
pub fair_told : (state : State) (asked : Call) (told : HostValue) → IsSound state → IsPlain asked →
    FitsCall asked told → IsFair state asked (tells state told)
fair_told state asked told sound plain fits =
    fair_same state asked told sound plain.opens (plain.passes (tree_of state) told fits) fits

-- one object is changed, which the call may change or of which the access time alone changes
module _ (state : State) (asked : Call) (told : HostValue) (object : ℕ) (node after : Node) (sound : IsSound state)
    (there : slice_get state.nodes object ≡ Some node) (keeps : KeepsNode node after) where
  objects_but : (MayTouch (tree_of state) asked told (tree_of state) object)
      ⊎ StaysButAccess (contents_where (Some node)) (contents_where (Some after)) →
      (o : ℕ) → (MayTouch (tree_of state) asked told (tree_of state) o → ⊥) →
      StaysButAccess (contents_where (slice_get state.nodes o))
      (contents_where (slice_get (slice_set state.nodes object after) o))
  objects_but (inl may) o none = elim (eqb_tells o object) [
    | inl e ↦ absurd (none (subst (MayTouch (tree_of state) asked told (tree_of state)) (sym e.1) may))
    | inr apart ↦ stays_same _ _ (ap contents_where (get-set_apart state.nodes object after o apart.1))
  ]
  objects_but (inr stays) o none = elim (eqb_tells o object) [
    | inl e ↦ subst (λ (at : Option Node).
        StaysButAccess (contents_where (slice_get state.nodes o)) (contents_where at))
        (sym (ap (slice_get (slice_set state.nodes object after)) e.1
        ∙ get-set_here state.nodes object after (slice_get_within state.nodes object node there)))
        (subst (λ (at : Option Node).
        StaysButAccess (contents_where at) (contents_where (Some after))) (sym (ap (slice_get state.nodes) e.1
        ∙ there)) stays)
    | inr apart ↦ stays_same _ _ (ap contents_where (get-set_apart state.nodes object after o apart.1))
  ]

  pub fair_node : IsPlain asked → FitsCall asked told →
      (MayTouch (tree_of state) asked told (tree_of state) object)
      ⊎ StaysButAccess (contents_where (Some node)) (contents_where (Some after)) →
      IsFair state asked (tells (with_node state object after) told)
  fair_node plain fits may =
      let same = tree-with_node state object node after there keeps in
      record {
        sound = λ few. sound-with_node state object node after sound there keeps;
        changes = subst (TreeChanges (tree_of state) asked (reply.Ok told)) (sym same)
            (plain.passes (tree_of state) told fits);
        contents = record {
          objects = λ o within none.
              objects_but may o (λ m.
              none (subst (λ (t : Tree). MayTouch (tree_of state) asked told t o) (sym same) m));
          openings = λ flags o asks within none. absurd (no_flags asked flags plain.opens asks);
          emptied = λ flags o asks makes. absurd (no_flags asked flags plain.opens asks);
          positions = λ fd open_still none. refl;
          accesses = λ fd open_still. refl;
          begins = λ flags fd asks is. absurd (no_flags asked flags plain.opens asks);
        };
        allowed = λ faults. fits;
        faults = refl;
        fails = tt;
      }

-- ---- a descriptor at another position

placed_slot : (file : Option OpenFile) (fd position : ℕ) (slots : List Slot) (k : ℕ) → open_at slots fd ≡ file →
    option_map opened_as (open_at (placed_where file fd position slots) k) ≡ option_map opened_as (open_at slots k)
placed_slot None fd position slots k is = refl
placed_slot (Some file) fd position slots k is =
    let within = slice_get_within slots fd (Open file) (open_slot (slice_get slots fd) file is) in
    elim (eqb_tells k fd) [
      | inl e ↦ ap (λ j. option_map opened_as (open_at (placed_where (Some file) fd position slots) j)) e.1
          ∙ ap (λ slot. option_map opened_as (file_of slot))
          (get-set_here slots fd (Open (record file { position = position })) within)
          ∙ sym (ap (λ j. option_map opened_as (open_at slots j)) e.1 ∙ ap (option_map opened_as) is)
      | inr apart ↦ ap (λ slot.
          option_map opened_as (file_of slot))
          (get-set_apart slots fd (Open (record file { position = position })) k apart.1)
    ]

pub tree-with_position : (state : State) (fd position : ℕ) → tree_of (with_position state fd position) ≡ tree_of state
tree-with_position state fd position =
    same_tree _ _ _ _ _ _ refl refl
    (same_function _ _ (λ k. placed_slot (open_at state.slots fd) fd position state.slots k refl))
