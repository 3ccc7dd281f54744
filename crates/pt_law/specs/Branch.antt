-- Believed. A branch of a tree: the steps of the request's own part, from the first to the answer. And how a job came
-- to its end: by a branch, as memory ran out, or as its seat was lost.
use Rattle.std.specs.Prelude.{◌≡◌, ◌⊎◌, true, List, [], ◌∷◌, Option, None, Some}
use Rattle.pt_host.specs.Sorts.{Sort, OpensWith, EndsFd, OfSeat, Plain, sort_of}
use Rattle.pt_tables.specs.Change.{Change}
use Rattle.pt_tables.specs.declared.event.KeptEvent.TheVariants as change
use Rattle.pt_iface.specs.declared.answer.Answer.{Answer}
use Rattle.pt_iface.specs.declared.answer.Answer.TheVariants as answer
use Rattle.pt_frame.specs.Deed.{Deed, Calls, Changes, Step, IsStepOf}
use Rattle.pt_frame.specs.Replies.{refusal}
use Rattle.pt_frame.specs.Tree.{RequestTree, Gives, Refuses, Asks, Opens, Bares, Brackets, Shuts, Allocates}
use Rattle.pt_frame.specs.Tree.{allocates}
use Rattle.pt_frame.specs.declared.act.ActReply.{ActReply}
use Rattle.pt_frame.specs.declared.finish.Finish.{Finish}
use Rattle.pt_frame.specs.declared.finish.Finish.TheVariants as finish
use Rattle.pt_law.specs.Told.{MayBeTold}

-- by these steps the tree comes to this answer
abbrev pub Along : RequestTree → List Step → Answer → Type 0
Along (Gives given) [] last = last ≡ given
Along (Refuses told) [] last = last ≡ refusal told
Along (Asks deed next) (step ∷ steps) last = IsStepOf deed step.deed step.reply × Along (next step.reply) steps last
Along (Opens asked scope next) (step ∷ steps) last =
    IsStepOf (Calls asked) step.deed step.reply × Along (next step.reply) steps last
Along (Bares rest) steps last = Along rest steps last
Along (Brackets rest) steps last = Along rest steps last
Along (Shuts passes rest) steps last = Along rest steps last
Along (Allocates made next) steps last = Along (next made) steps last
Along tree steps last = ⊥

-- behind the last of these steps the tree may give up
abbrev pub GivesUpAfter : RequestTree → List Step → Type 0
GivesUpAfter (Asks deed next) (step ∷ steps) =
    IsStepOf deed step.deed step.reply
    × (((steps ≡ []) × (allocates (next step.reply) ≡ true)) ⊎ GivesUpAfter (next step.reply) steps)
GivesUpAfter (Opens asked scope next) (step ∷ steps) =
    IsStepOf (Calls asked) step.deed step.reply
    × (((steps ≡ []) × (allocates (next step.reply) ≡ true)) ⊎ GivesUpAfter (next step.reply) steps)
GivesUpAfter (Bares rest) steps = GivesUpAfter rest steps
GivesUpAfter (Brackets rest) steps = GivesUpAfter rest steps
GivesUpAfter (Shuts passes rest) steps = GivesUpAfter rest steps
GivesUpAfter (Allocates made next) steps = GivesUpAfter (next made) steps
GivesUpAfter tree steps = ⊥

-- by replies that may come no part of the tree takes memory of its own
abbrev pub TakesNone : RequestTree → Type 0
TakesNone (Gives last) = Unit {0}
TakesNone (Refuses told) = Unit {0}
TakesNone (Asks deed next) = (told : ActReply) → MayBeTold deed told → TakesNone (next told)
TakesNone (Opens asked scope next) = (told : ActReply) → MayBeTold (Calls asked) told → TakesNone (next told)
TakesNone (Bares rest) = TakesNone rest
TakesNone (Brackets rest) = TakesNone rest
TakesNone (Shuts passes rest) = TakesNone rest
TakesNone (Allocates made next) = ⊥

abbrev pub ReturnsBySort : Sort → Type 0
ReturnsBySort (OpensWith flags) = ⊥
ReturnsBySort (EndsFd fd) = Unit {0}
ReturnsBySort OfSeat = Unit {0}
ReturnsBySort Plain = ⊥

abbrev pub ReturnsByEvent : Change → Type 0
ReturnsByEvent (change.Unpin row) = Unit {0}
ReturnsByEvent (change.UnpinHandle row) = Unit {0}
ReturnsByEvent (change.GiveFd class) = Unit {0}
ReturnsByEvent (change.GiveBack era number) = Unit {0}
ReturnsByEvent change.TakeClosing = Unit {0}
ReturnsByEvent asked = ⊥

-- it gives a hold back, restores the seat or takes a closing; or it was not made
abbrev pub ReturnsHold : Option Deed → Type 0
ReturnsHold (Some (Calls asked)) = ReturnsBySort (sort_of asked)
ReturnsHold (Some (Changes asked)) = ReturnsByEvent asked
ReturnsHold None = Unit {0}

-- the first are the second without some that give back
pub data AreOwn : List Step → List Step → Type 0 where
  none : AreOwn [] []
  keep : {step : Step} {own all : List Step} → AreOwn own all → AreOwn (step ∷ own) (step ∷ all)
  skip : {step : Step} {own all : List Step} → ReturnsHold step.deed → AreOwn own all → AreOwn own (step ∷ all)

-- a lost seat
abbrev pub IsLost : Finish → Type 0
IsLost (finish.Lost errno) = Unit {0}
IsLost (finish.Answer last) = ⊥

-- The job gave up for memory that ran out, behind a step of its own where the tree takes some. Its other steps are some
-- that give back.
pub record GaveUp (tree : RequestTree) (steps : List Step) (end : Finish) : Type 0 where
  pub answered : end ≡ finish.Answer answer.NoMemory
  pub path : List Step
  pub own : AreOwn path steps
  pub up : GivesUpAfter tree path

-- the answer is that of a branch, whose steps are these but for some that give back
abbrev pub IsOfBranch : RequestTree → Finish → List Step → Type 0
IsOfBranch tree end steps =
    (path : List Step) × (last : Answer) × AreOwn path steps × (end ≡ finish.Answer last) × Along tree path last

-- given up as memory ran out, or a lost seat
abbrev pub IsGivenUp : Finish → Type 0
IsGivenUp (finish.Answer answer.NoMemory) = Unit {0}
IsGivenUp (finish.Lost errno) = Unit {0}
IsGivenUp end = ⊥
