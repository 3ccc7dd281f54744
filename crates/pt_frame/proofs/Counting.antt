-- A step is one event at most.
use Rattle.std.proofs.Common.{◌≤◌, arith}
use Rattle.pt_tables.specs.declared.event.KeptEvent.TheVariants as change
use Rattle.pt_frame.specs.Deed.{Deed, Calls, Changes}
use Rattle.pt_frame.specs.Grammar.{Grammar, End, Do, May, events_first}
use Rattle.pt_frame.specs.Replies.{events_in}

events_most : (deed : Deed) → events_in deed ≤ 1
events_most (Calls asked) = omega arith
events_most (Changes change.TakeClosing) = omega arith
events_most (Changes other) = omega arith

pub first_most : (grammar : Grammar) → events_first grammar ≤ 1
first_most (Do deed owed next) = events_most deed
first_most (End last) = omega arith
first_most (May one other) = omega arith
