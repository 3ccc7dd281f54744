-- Inner. How a request goes on between two acts.
use Rattle.std.specs.Prelude.{◌≡◌, ◌⊎◌, ◌+◌, ◌-◌, ◌<◌, ◌≤◌, ℕ, List, length, true, false, Option, None}
use Rattle.pt_host.specs.declared.ids.Errno.{Errno}
use Rattle.pt_host.specs.declared.seat.HostSeat.{HostSeat}
use Rattle.pt_iface.specs.declared.answer.Answer.TheVariants as answer
use Rattle.pt_frame.specs.Frame.{leave}
use Rattle.pt_frame.specs.Grammar.{Grammar}
use Rattle.pt_frame.specs.Past.{or_first}
use Rattle.pt_frame.specs.Tree.{RequestTree, allocates, framed}
use Rattle.pt_frame.specs.Machine.Left.{Stays, Tells, given_left, is_ready, mode_counts, mode_left}
use Rattle.pt_frame.specs.Machine.Room.{acts_spent, most_holds, most_rows, most_told, room_spent, rows_spent}
use Rattle.pt_frame.specs.Machine.Walk.{walk}
use Rattle.pt_frame.specs.declared.finish.Finish.TheVariants as finish
use Rattle.pt_frame.specs.declared.hold.Hold.{Hold}
use Rattle.pt_frame.specs.declared.machine.mode.Mode.{Mode}
use Rattle.pt_frame.specs.declared.told.Heard.{Heard}

-- What is left to do is what the request does, or it gives up where it takes memory.
abbrev pub GoesOrEnds : HostSeat → RequestTree → List Hold → List ℕ → Grammar → Type 0
GoesOrEnds seat tree holds marks left =
    (left ≡ framed seat tree holds marks)
    ⊎ ((allocates tree ≡ true) × (left ≡ leave seat holds (finish.Answer answer.NoMemory)))

-- Where so much was told and these brackets are open, a request with this tree and so many acts is in a mode in which
-- what is left is to do, once more was told.
pub record Enters (seat : HostSeat) (tree : RequestTree) (acts : ℕ) (holds : List Hold) (told : List Heard)
    (marks : List ℕ) (mode : Mode) (new : List Heard) (marks' : List ℕ) : Type 0 where
  pub left : GoesOrEnds seat (walk tree told) holds marks (mode_left seat mode (walk tree new) holds marks')
  pub ready : is_ready mode holds marks' ≡ true
  pub tells : Tells mode None
  pub acts_are : mode_counts mode (acts - acts_spent new) ≤ acts - acts_spent told
  pub stays : Stays mode (acts - acts_spent new) (length new)
  pub rows_are : mode_counts mode (most_rows - rows_spent new) ≤ most_rows - rows_spent told
  pub room : length holds + length marks' + mode_counts mode (most_holds - room_spent new) ≤ most_holds

-- a mark was passed at which nothing was to be given back
pub record Passes (seat : HostSeat) (tree : RequestTree) (holds : List Hold) (told : List Heard) (marks : List ℕ)
    (new : List Heard) (marks' : List ℕ) : Type 0 where
  pub same : framed seat (walk tree new) holds marks' ≡ framed seat (walk tree told) holds marks
  pub spares : allocates (walk tree new) ≡ false
  pub longer : length new ≡ length told + 1
  pub within : length told < most_told
  pub acts_same : acts_spent new ≡ acts_spent told
  pub rows_same : rows_spent new ≡ rows_spent told
  pub room : length holds + length marks' + (most_holds - room_spent new) ≤ most_holds

-- A hold was given back in a mode, and the seat was not lost by it.
pub record Gave (seat : HostSeat) (tree : RequestTree) (acts : ℕ) (holds : List Hold) (mode : Mode)
    (told : List Heard) (marks : List ℕ) (lost : Option Errno) (mode' : Mode) (new : List Heard) (marks' : List ℕ) :
    Type 0 where
  pub left : mode_left seat mode' (walk tree new) holds marks' ≡ given_left seat mode None (walk tree told) holds marks
  pub ready : is_ready mode' holds marks' ≡ true
  pub tells : Tells mode' (or_first None lost)
  pub acts_are : mode_counts mode' (acts - acts_spent new) ≤ mode_counts mode (acts - acts_spent told)
  pub stays : Stays mode' (acts - acts_spent new) (length new)
  pub rows_are : mode_counts mode' (most_rows - rows_spent new) ≤ mode_counts mode (most_rows - rows_spent told)
  pub room : length holds + length marks' + mode_counts mode' (most_holds - room_spent new) ≤ most_holds
