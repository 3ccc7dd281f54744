-- Proof. Every edit is lawful.
use Rattle.std.proofs.Common.{◌≡◌, ◌<◌, inl, inr, ℕ, Some, refl, ap, sym, ◌∙◌, subst}
use Rattle.std.proofs.lemmas.List.{length-map}
use Rattle.std.proofs.lemmas.Option.{slice_get_within}
use Rattle.pt_host.specs.Edits.{Edits}
use Rattle.pt_host.specs.Names.{MakesObject, NameMoves, MovesName, TakesName}
use Rattle.pt_host.specs.LawfulTree.{TreeChanges}
use Rattle.pt_host.specs.declared.edit.Edit.{Edit}
use Rattle.pt_host.specs.declared.edit.Edit.TheVariants as edit
use Rattle.pt_host.specs.declared.op.KeptHostOp.TheVariants as call
use Rattle.pt_host.specs.declared.reply.HostReply.{HostReply}
use Rattle.pt_rules.specs.Calls.{Answered}
use Rattle.pt_rules.specs.Does.{AnswersAs}
use Rattle.pt_rules.specs.Edits.{edited}
use Rattle.pt_node.specs.Node.{name_at, object_of}
use Rattle.pt_rules.specs.Sound.{IsSound}
use Rattle.pt_rules.specs.State.{State, time_of, tree_of}
use Rattle.pt_rules.specs.Laws.Changed.{led, same_tree}
use Rattle.pt_rules.specs.Laws.EditShapes.{names_grown, names_moved, names_rewritten, names_unlinked, objects_grown}
use Rattle.pt_rules.specs.Laws.EditShapes.{objects_moved, objects_rewritten, objects_unlinked}
use Rattle.pt_rules.specs.Laws.EditSound.{all_ordered}
use Rattle.pt_rules.specs.Laws.Outcomes.{EditEffect, Makes, MovesTo, Outcome, RenamesEntry, Rewrites, Unlinks}
use Rattle.pt_rules.specs.Laws.Outcomes.{edit_outcome}

abbrev pub takes_name : (state after : State) → IsSound state → (does : Unlinks state after) →
    TakesName (tree_of state) does.dir does.name (tree_of after)
takes_name state after sound does = record {
  object = does.object;
  there = does.there;
  takes = ap tree_of does.leaves
      ∙ same_tree _ _ _ _ _ _ (objects_unlinked (time_of state) does.dir does.name does.object state.nodes)
      (names_unlinked (time_of state) does.dir does.name does.object state.nodes (all_ordered state sound)) refl;
}

pub moves : (state after : State) (does : RenamesEntry state after) → IsSound state →
    MovesTo state does.from does.to does.object does.target after →
    NameMoves (tree_of state) does.from.0 does.from.1 does.to.0 does.to.1 does.object (tree_of after)
moves state after does sound (inl same) = inl (does.at_target ∙ same.0, ap tree_of same.1)
moves state after does sound (inr other) =
    inr (
      (λ is. other.0 (sym does.at_target ∙ is)),
      ap tree_of other.1
          ∙ same_tree _ _ _ _ _ _ (objects_moved (time_of state) does.from does.to does.object does.target state.nodes)
          (names_moved (time_of state) does.from does.to does.object does.target state.nodes
          (all_ordered state sound) does.into) refl,
    )

abbrev pub moves_name : (state after : State) → IsSound state → (does : RenamesEntry state after) →
    MovesName (tree_of state) does.from.0 does.from.1 does.to.0 does.to.1 (tree_of after)
moves_name state after sound does = record {
  object = does.object;
  there = does.there;
  moves = moves state after does sound does.moves;
}

abbrev pub makes_object : (state : State) (numbers : ℕ → ℕ) (after : State) (does : Makes state numbers after) →
    MakesObject (tree_of state) does.dir does.name (tree_of after)
makes_object state numbers after does =
    let node = does.node in
    record {
      what = object_of node;
      listed = subst (λ n. does.dir
          < n) (sym (length-map state.nodes object_of)) (slice_get_within state.nodes does.dir does.parent does.at_dir);
      free = does.free;
      makes = ap tree_of does.leaves
          ∙ same_tree _ _ _ _ _ _ (objects_grown (time_of state) does.dir does.name node state.nodes)
          (names_grown (time_of state) does.dir does.name node state.nodes does.into does.empty
          ∙ ap (λ n. led does.dir does.name (Some n) (name_at state.nodes))
          (sym (length-map state.nodes object_of))) refl;
    }

rewrites : (state after : State) → Rewrites state after → tree_of after ≡ tree_of state
rewrites state after does =
    ap tree_of does.leaves
    ∙ same_tree _ _ _ _ _ _ (objects_rewritten (time_of state) does.bytes does.object state.nodes)
    (names_rewritten (time_of state) does.bytes does.object state.nodes) refl

effect_edits : (state : State) (numbers : ℕ → ℕ) (asked : Edit) (after : State) → IsSound state →
    EditEffect state numbers asked after → Edits (tree_of state) asked (tree_of after)
effect_edits state numbers (edit.Unlink path) after sound does =
    (does.dir, does.name, takes_name state after sound does)
effect_edits state numbers (edit.Rename old new) after sound does =
    (does.from.0, does.from.1, (does.to.0, does.to.1, moves_name state after sound does))
effect_edits state numbers (edit.File path mode uid gid bytes) after sound does =
    (does.dir, does.name, makes_object state numbers after does)
effect_edits state numbers (edit.Dir path mode uid gid) after sound does =
    (does.dir, does.name, makes_object state numbers after does)
effect_edits state numbers (edit.Write path bytes) after sound does = rewrites state after does

pub outcome_changes : (state : State) (numbers : ℕ → ℕ) (asked : Edit) (told : Answered) → IsSound state →
    Outcome state told (EditEffect state numbers asked) →
    TreeChanges (tree_of state) (call.Edit asked) told.0 (tree_of told.1)
outcome_changes state numbers asked told sound (inl refused) =
    subst (λ (both : Answered).
    TreeChanges (tree_of state) (call.Edit asked) both.0 (tree_of both.1)) (sym refused.1) (tt, refl)
outcome_changes state numbers asked told sound (inr does) =
    subst (λ (both : Answered). TreeChanges (tree_of state) (call.Edit asked) both.0 (tree_of both.1)) (sym does.1)
    (effect_edits state numbers asked does.0 sound does.2)

pub edit_changes : (state : State) (numbers : ℕ → ℕ) (asked : Edit) (given : HostReply) (after : State) →
    IsSound state →
    AnswersAs (edited state numbers asked) state given after →
    TreeChanges (tree_of state) (call.Edit asked) given (tree_of after)
edit_changes state numbers asked given after sound (inl same) =
    subst (λ (both : Answered). TreeChanges (tree_of state) (call.Edit asked) both.0 (tree_of both.1)) (sym same)
    (outcome_changes state numbers asked (edited state numbers asked) sound (edit_outcome state numbers asked sound))
edit_changes state numbers asked given after sound (inr none) =
    subst (λ reply. TreeChanges (tree_of state) (call.Edit asked) reply (tree_of after)) (sym none.0)
    (ap tree_of none.1)
