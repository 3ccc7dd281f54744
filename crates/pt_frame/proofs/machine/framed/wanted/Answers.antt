use Rattle.std.proofs.Common.{ap, sym}
use Rattle.pt_frame.specs.Machine.Walk.{deed_in}
use Rattle.pt_frame.proofs.Ahead.{wants_deed, opens_deed, gives_else, moves_else, refuses_else, bares_else}
use Rattle.pt_frame.proofs.Ahead.{brackets_else, shuts_else, makes_else, ends_else}
use Rattle.pt_frame.proofs.machine.framed.wanted.Goals as goal

pub returns-in-Wants : goal.returns-in-Wants
returns-in-Wants c = λ told tree is. wants_deed told tree _ (rw c.in-Wants.is at is)

pub returns-in-Opens : goal.returns-in-Opens
returns-in-Opens c = λ told tree is. opens_deed told tree _ _ (rw c.in-Opens.is at is)

pub returns-in-Gives : goal.returns-in-Gives
returns-in-Gives c = λ told tree is. ap deed_in (sym (gives_else told tree _ (rw c.in-Gives.is at is)))

pub returns-in-Moves : goal.returns-in-Moves
returns-in-Moves c = λ told tree is. ap deed_in (sym (moves_else told tree _ _ (rw c.in-Moves.is at is)))

pub returns-in-Refuses : goal.returns-in-Refuses
returns-in-Refuses c = λ told tree is. ap deed_in (sym (refuses_else told tree _ (rw c.in-Refuses.is at is)))

pub returns-in-Bares : goal.returns-in-Bares
returns-in-Bares c = λ told tree is. ap deed_in (sym (bares_else told tree (rw c.in-Bares.is at is)))

pub returns-in-Brackets : goal.returns-in-Brackets
returns-in-Brackets c = λ told tree is. ap deed_in (sym (brackets_else told tree (rw c.in-Brackets.is at is)))

pub returns-in-Shuts : goal.returns-in-Shuts
returns-in-Shuts c = λ told tree is. ap deed_in (sym (shuts_else told tree _ (rw c.in-Shuts.is at is)))

pub returns-in-Makes : goal.returns-in-Makes
returns-in-Makes c = λ told tree is. ap deed_in (sym (makes_else told tree _ (rw c.in-Makes.is at is)))

pub returns-in-GivesUp : goal.returns-in-GivesUp
returns-in-GivesUp c = λ told tree is. ap deed_in (sym (ends_else told tree (rw c.in-GivesUp.is at is)))
