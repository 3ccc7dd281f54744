-- Believed. Which step lists a job may make, and how it then ends.
use Rattle.std.specs.Prelude.{◌≡◌, ◌⊎◌, ℕ, Bool, true, false, List, [], ◌∷◌}
use Rattle.pt_frame.specs.Deed.{Deed, Step, IsStepOf, deed_of}
use Rattle.pt_frame.specs.Replies.{closings_in, inserted_by, events_in, slots_told}
use Rattle.pt_frame.specs.declared.act.ActReply.{ActReply}
use Rattle.pt_frame.specs.declared.act.Want.{Want}
use Rattle.pt_frame.specs.declared.act.Want.TheVariants as want
use Rattle.pt_frame.specs.declared.finish.Finish.{Finish}
use Rattle.pt_frame.specs.declared.hold.Hold.{Hold}
use Rattle.pt_frame.specs.declared.hold.Taken.{Taken}
use Rattle.pt_frame.specs.declared.hold.Taken.TheVariants.{Nothing}

-- what a job has to do before it may end: what a closing brought, closings that were told, holds; and whether this
-- step is to restore its seat
pub record Owed : Type 0 where
  pub restores : Bool
  pub taken : Taken
  pub closings : ℕ
  pub holds : List Hold

-- the end, a deed that is made while so much is owed, or a choice
pub data Grammar : Type 0 where
  End : Finish → Grammar
  Do : Deed → Owed → (ActReply → Grammar) → Grammar
  May : Grammar → Grammar → Grammar

abbrev pub Belongs : Grammar → List Step → Finish → Type 0
Belongs (End last) [] end = end ≡ last
Belongs (End last) (step ∷ steps) end = ⊥
Belongs (Do deed owed next) [] end = ⊥
Belongs (Do deed owed next) (step ∷ steps) end =
    IsStepOf deed step.deed step.reply × Belongs (next step.reply) steps end
Belongs (May one other) steps end = Belongs one steps end ⊎ Belongs other steps end

-- what may follow the reply
abbrev pub after : ActReply → Grammar → Grammar
after reply (End last) = End last
after reply (Do deed owed next) = next reply
after reply (May one other) = May one other

abbrev pub IsSide : Grammar → Grammar → Type 0
IsSide (End last) chosen = ⊥
IsSide (Do deed owed next) chosen = ⊥
IsSide (May one other) chosen = (chosen ≡ other) ⊎ (chosen ≡ one)

-- the same, or one side of a choice
abbrev pub IsChosen : Grammar → Grammar → Type 0
IsChosen grammar chosen = (chosen ≡ grammar) ⊎ IsSide grammar chosen

abbrev pub is_end : Grammar → Bool
is_end (End last) = true
is_end (Do deed owed next) = false
is_end (May one other) = false

-- a step is to be made
abbrev pub IsDo : Grammar → Type 0
IsDo (End last) = ⊥
IsDo (Do deed owed next) = Unit {0}
IsDo (May one other) = ⊥

-- no choice is open
abbrev pub IsSettled : Grammar → Type 0
IsSettled (End last) = Unit {0}
IsSettled (Do deed owed next) = Unit {0}
IsSettled (May one other) = ⊥

abbrev pub owing : Bool → Taken → ℕ → List Hold → Owed
owing restores brings count holds = record {
  restores = restores;
  taken = brings;
  closings = count;
  holds = holds;
}

abbrev pub owed_by : Grammar → Owed
owed_by (End last) = owing false Nothing 0 []
owed_by (Do deed owed next) = owed
owed_by (May one other) = owing false Nothing 0 []

-- the step that is to be made is to restore the seat
abbrev pub restores : Grammar → Bool
restores grammar = (owed_by grammar).restores

-- a job that is to do this wants that
abbrev pub Wants : Grammar → Want → Type 0
Wants (End last) want.Finished = Unit {0}
Wants (Do deed owed next) (want.Step act) = deed_of act ≡ deed
Wants _ _ = ⊥

-- how many closings the reply to what is done next tells
abbrev pub told_closings : Grammar → ActReply → ℕ
told_closings (End last) reply = 0
told_closings (Do deed owed next) reply = closings_in deed reply
told_closings (May one other) reply = 0

-- and how many rows it inserted
abbrev pub told_inserted : Grammar → ActReply → ℕ
told_inserted (End last) reply = 0
told_inserted (Do deed owed next) reply = inserted_by deed reply
told_inserted (May one other) reply = 0

-- whether what is done next is an event, closings aside
abbrev pub events_first : Grammar → ℕ
events_first (End last) = 0
events_first (Do deed owed next) = events_in deed
events_first (May one other) = 0

-- and how many slots its reply brought
abbrev pub told_slots : Grammar → ActReply → ℕ
told_slots (End last) reply = 0
told_slots (Do deed owed next) reply = slots_told deed reply
told_slots (May one other) reply = 0
