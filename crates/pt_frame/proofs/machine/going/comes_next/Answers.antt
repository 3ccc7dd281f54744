use Rattle.pt_frame.proofs.Ahead.{wants_ahead, opens_ahead, gives_ahead, moves_ahead, refuses_ahead, bares_ahead}
use Rattle.pt_frame.proofs.Ahead.{brackets_ahead, shuts_ahead, makes_ahead, ends_ahead}
use Rattle.pt_frame.proofs.machine.going.comes_next.Goals as goal

pub returns-in-Wants : goal.returns-in-Wants
returns-in-Wants c = λ told tree is. wants_ahead told tree _ (rw c.in-Wants.is at is)

pub returns-in-Opens : goal.returns-in-Opens
returns-in-Opens c = λ told tree is. opens_ahead told tree _ _ (rw c.in-Opens.is at is)

pub returns-in-Gives : goal.returns-in-Gives
returns-in-Gives c = λ told tree is. gives_ahead told tree _ (rw c.in-Gives.is at is)

pub returns-in-Moves : goal.returns-in-Moves
returns-in-Moves c = λ told tree is. moves_ahead told tree _ _ (rw c.in-Moves.is at is)

pub returns-in-Refuses : goal.returns-in-Refuses
returns-in-Refuses c = λ told tree is. rw c.refusal.ensures (refuses_ahead told tree _ (rw c.in-Refuses.is at is))

pub returns-in-Bares : goal.returns-in-Bares
returns-in-Bares c = λ told tree is. bares_ahead told tree (rw c.in-Bares.is at is)

pub returns-in-Brackets : goal.returns-in-Brackets
returns-in-Brackets c = λ told tree is. brackets_ahead told tree (rw c.in-Brackets.is at is)

pub returns-in-Shuts : goal.returns-in-Shuts
returns-in-Shuts c = λ told tree is. shuts_ahead told tree _ (rw c.in-Shuts.is at is)

pub returns-in-Makes : goal.returns-in-Makes
returns-in-Makes c = λ told tree is. makes_ahead told tree _ (rw c.in-Makes.is at is)

pub returns-in-GivesUp : goal.returns-in-GivesUp
returns-in-GivesUp c = λ told tree is. ends_ahead told tree (rw c.in-GivesUp.is at is)
