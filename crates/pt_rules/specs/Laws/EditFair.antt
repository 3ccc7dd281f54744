-- Proof. The edits: what they leave of the tree and beside it.
use Rattle.std.proofs.Common.{◌≡◌, inl, inr, ℕ, List, Option, refl, ap, sym, subst}
use Rattle.pt_host.specs.declared.edit.Edit.{Edit}
use Rattle.pt_host.specs.declared.edit.Edit.TheVariants as edit
use Rattle.pt_host.specs.declared.op.KeptHostOp.TheVariants as call
use Rattle.pt_rules.specs.Calls.{done}
use Rattle.pt_rules.specs.Edits.{edited}
use Rattle.pt_rules.specs.Living.{AreLeastFree}
use Rattle.pt_rules.specs.Sound.{IsSound}
use Rattle.pt_rules.specs.State.{State, contents_of}
use Rattle.pt_node.specs.declared.slots.Slot.{Slot}
use Rattle.pt_rules.specs.Laws.EditLaws.{outcome_changes}
use Rattle.pt_rules.specs.Laws.EditSound.{sound_effect}
use Rattle.pt_rules.specs.Laws.Fair.{IsFair, fair_refused, no_flags}
use Rattle.pt_rules.specs.Laws.Outcomes.{EditEffect, MovesTo, edit_outcome}

-- an edit opens and closes nothing, and is no planned failure
pub record StaysBeside (state after : State) : Type 0 where
  pub slots : after.slots ≡ state.slots
  pub faults : after.faults ≡ state.faults

stays_as : (state after : State) (leaves : State) → after ≡ leaves → StaysBeside state leaves → StaysBeside state after
stays_as state after leaves same stays = subst (StaysBeside state) (sym same) stays

moves_beside : (state after : State) (from to : ℕ × List ℕ) (object : ℕ) (target : Option ℕ) →
    MovesTo state from to object target after → StaysBeside state after
moves_beside state after from to object target (inl same) =
    stays_as state after state same.1 (record { slots = refl; faults = refl })
moves_beside state after from to object target (inr other) =
    stays_as state after _ other.1 (record { slots = refl; faults = refl })

effect_beside : (state : State) (numbers : ℕ → ℕ) (asked : Edit) (after : State) →
    EditEffect state numbers asked after → StaysBeside state after
effect_beside state numbers (edit.Unlink path) after does =
    stays_as state after _ does.leaves (record { slots = refl; faults = refl })
effect_beside state numbers (edit.Rename old new) after does =
    moves_beside state after does.from does.to does.object does.target does.moves
effect_beside state numbers (edit.File path mode uid gid bytes) after does =
    stays_as state after _ does.leaves (record { slots = refl; faults = refl })
effect_beside state numbers (edit.Dir path mode uid gid) after does =
    stays_as state after _ does.leaves (record { slots = refl; faults = refl })
effect_beside state numbers (edit.Write path bytes) after does =
    stays_as state after _ does.leaves (record { slots = refl; faults = refl })

pub fair_edit : (state : State) (numbers : ℕ → ℕ) (asked : Edit) → IsSound state → AreLeastFree state numbers →
    IsFair state (call.Edit asked) (edited state numbers asked)
fair_edit state numbers asked sound least = elim (edit_outcome state numbers asked sound) [
  | inl refused ↦ subst (IsFair state (call.Edit asked)) (sym refused.1)
      (fair_refused state (call.Edit asked) refused.0 sound (tt, refl))
  | inr does ↦ subst (IsFair state (call.Edit asked)) (sym does.1) (
      let beside = effect_beside state numbers asked does.0 does.2 in
      record {
        sound = λ few. sound_effect state numbers asked does.0 sound least few does.2;
        changes = outcome_changes state numbers asked (done does.0) sound (inr (does.0, refl, does.2));
        contents = record {
          objects = λ o within may. absurd (may tt);
          openings = λ flags o asks within may. absurd (may tt);
          emptied = λ flags o asks makes. absurd (makes tt);
          positions = λ k open_still may.
              ap (λ (table : List Slot).
              ((contents_of (record does.0 { slots = table })).descriptions k).position) beside.slots;
          accesses = λ k open_still.
              ap (λ (table : List Slot).
              ((contents_of (record does.0 { slots = table })).descriptions k).access) beside.slots;
          begins = λ flags fd asks is. absurd (no_flags (call.Edit asked) flags refl asks);
        };
        allowed = λ faults. tt;
        faults = beside.faults;
        fails = tt;
      })
]
