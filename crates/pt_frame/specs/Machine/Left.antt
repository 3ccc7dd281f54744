-- Inner. What is left of a job in its frame.
use Rattle.std.specs.Prelude.{◌≡◌, ℕ, zero, suc, ◌+◌, ◌-◌, ◌*◌, ◌^◌, ◌≤◌, nat_lt, not, Bool, true, false, List, []}
use Rattle.std.specs.Prelude.{◌∷◌, Option, Some, None, length}
use Rattle.pt_host.specs.declared.ids.Errno.{Errno}
use Rattle.pt_host.specs.declared.seat.HostSeat.{HostSeat}
use Rattle.pt_iface.specs.declared.answer.Answer.{Answer}
use Rattle.pt_iface.specs.declared.answer.Answer.TheVariants as answer
use Rattle.pt_frame.specs.Deed.{Deed}
use Rattle.pt_frame.specs.Held.{is_scope, held, opened}
use Rattle.pt_frame.specs.Replies.{is_cut, restored}
use Rattle.pt_frame.specs.Grammar.{Grammar, End}
use Rattle.pt_frame.specs.Frame.{close_first, leave, or_lost, bare, shut, front, behind, mark_in, outer}
use Rattle.pt_frame.specs.Tree.{RequestTree, framed}
use Rattle.pt_frame.specs.Machine.Room.{most_told}
use Rattle.pt_frame.specs.Machine.Walk.{told_on, asking}
use Rattle.pt_frame.specs.declared.act.ActReply.{ActReply}
use Rattle.pt_frame.specs.declared.finish.Finish.{Finish}
use Rattle.pt_frame.specs.declared.finish.Finish.TheVariants as finish
use Rattle.pt_frame.specs.declared.hold.Hold.{Hold}
use Rattle.pt_frame.specs.declared.hold.Taken.{Taken}
use Rattle.pt_frame.specs.declared.hold.Taken.TheVariants as taken
use Rattle.pt_frame.specs.declared.told.Heard.TheVariants as heard
use Rattle.pt_frame.specs.declared.machine.mode.Mode.{Mode}
use Rattle.pt_frame.specs.declared.machine.mode.Mode.TheVariants as mode

-- the holds after an act of a body, with the scope that it opens
abbrev pub held_by : Deed → Option Hold → ActReply → List Hold → List Hold
held_by deed None told holds = held deed told holds
held_by deed (Some scope) told holds = opened scope told holds

-- a scope lies on top
abbrev pub tops : List Hold → Bool
tops [] = false
tops (one ∷ holds) = is_scope one

-- what is left once the scopes have ended, and once the bracket has
abbrev pub bares_left : HostSeat → RequestTree → List ℕ → List Hold → Grammar
bares_left seat tree marks left = framed seat (told_on tree heard.Bares) left marks

abbrev pub shuts_left : HostSeat → RequestTree → List ℕ → List Hold → Grammar
shuts_left seat tree marks left = framed seat (told_on tree heard.Shuts) left (outer marks)

abbrev pub mode_left : HostSeat → Mode → RequestTree → List Hold → List ℕ → Grammar
mode_left seat mode.Body tree holds marks = framed seat (asking tree) holds marks
mode_left seat mode.Bares tree holds marks = bare seat holds (bares_left seat tree marks)
mode_left seat (mode.Shuts passes) tree holds marks =
    shut seat (front passes holds) (mark_in marks) (behind passes holds) (shuts_left seat tree marks)
mode_left seat (mode.Out last) tree holds marks =
    shut seat (front true holds) 0 (behind true holds) (λ left. End (finish.Answer last))
mode_left seat (mode.Leave last) tree holds marks = leave seat holds last

-- what a closing brought and the closings that are owed come first
abbrev pub left_of :
    (seat : HostSeat) →
    (brings : Taken) →
    (count : ℕ) →
    (at : Mode) →
    (tree : RequestTree) →
    (holds : List Hold) →
    (marks : List ℕ) →
    Grammar
left_of seat brings count at tree holds marks = close_first brings count holds (mode_left seat at tree holds marks)

-- the last hold passes what is given back next
abbrev pub passes_at : Mode → Bool
passes_at mode.Body = false
passes_at mode.Bares = false
passes_at (mode.Shuts passes) = passes
passes_at (mode.Out last) = true
passes_at (mode.Leave last) = false

-- a bracket has holds above its mark
abbrev pub is_above : Bool → List Hold → List ℕ → Bool
is_above passes holds marks = nat_lt (mark_in marks) (length (behind passes holds))

abbrev pub none_in : List Hold → Bool
none_in [] = true
none_in (one ∷ holds) = false

-- what gives back has something to give back; an answer with which a hold passes has that hold
abbrev pub is_ready : Mode → List Hold → List ℕ → Bool
is_ready mode.Body holds marks = true
is_ready mode.Bares holds marks = tops holds
is_ready (mode.Shuts passes) holds marks = is_above passes holds marks
is_ready (mode.Out last) holds marks = not (none_in holds)
is_ready (mode.Leave last) holds marks = true

-- nothing is left but the end
abbrev pub is_over : Mode → List Hold → Bool
is_over mode.Body holds = false
is_over mode.Bares holds = false
is_over (mode.Shuts passes) holds = false
is_over (mode.Out last) holds = none_in (behind true holds)
is_over (mode.Leave last) holds = none_in holds

abbrev pub is_all_over : Taken → ℕ → Mode → List Hold → Bool
is_all_over taken.Nothing zero at holds = is_over at holds
is_all_over taken.Nothing (suc count) at holds = false
is_all_over (taken.Slot class) count at holds = false
is_all_over (taken.Fd fd slot class) count at holds = false

-- the hold that is given back next is a scope
abbrev pub is_giving_scope : Mode → List Hold → Bool
is_giving_scope mode.Body holds = false
is_giving_scope at holds = tops (behind (passes_at at) holds)

abbrev pub is_restoring_now : Taken → ℕ → Mode → List Hold → Bool
is_restoring_now taken.Nothing zero at holds = is_giving_scope at holds
is_restoring_now taken.Nothing (suc count) at holds = false
is_restoring_now (taken.Slot class) count at holds = false
is_restoring_now (taken.Fd fd slot class) count at holds = false

-- what was lost is told at the end, unless the job was cut
abbrev pub NoneUnless : Bool → Option Errno → Type 0
NoneUnless true lost = Unit {0}
NoneUnless false lost = lost ≡ None

abbrev pub IsTold : Finish → Option Errno → Type 0
IsTold (finish.Lost errno) lost = lost ≡ Some errno
IsTold (finish.Answer told) lost = NoneUnless (is_cut told) lost

abbrev pub Tells : Mode → Option Errno → Type 0
Tells mode.Body lost = lost ≡ None
Tells mode.Bares lost = lost ≡ None
Tells (mode.Shuts passes) lost = lost ≡ None
Tells (mode.Out last) lost = lost ≡ None
Tells (mode.Leave last) lost = IsTold last lost

-- how a mode ends in which nothing is left
abbrev pub end_of : Mode → Finish
end_of mode.Body = finish.Answer answer.NoMemory
end_of mode.Bares = finish.Answer answer.NoMemory
end_of (mode.Shuts passes) = finish.Answer answer.NoMemory
end_of (mode.Out last) = finish.Answer last
end_of (mode.Leave last) = last

-- what counts of the body in a mode: nothing of one that is over
abbrev pub mode_counts : Mode → ℕ → ℕ
mode_counts mode.Body count = count
mode_counts mode.Bares count = count
mode_counts (mode.Shuts passes) count = count
mode_counts (mode.Out last) count = 0
mode_counts (mode.Leave last) count = 0

-- a body that asks has an act left, and one whose scopes or bracket end is to be told so
abbrev pub Stays : Mode → ℕ → ℕ → Type 0
Stays mode.Body acts told = 1 ≤ acts
Stays mode.Bares acts told = suc told ≤ most_told
Stays (mode.Shuts passes) acts told = suc told ≤ most_told
Stays (mode.Out last) acts told = Unit {0}
Stays (mode.Leave last) acts told = Unit {0}

abbrev pub taken_steps : Taken → ℕ
taken_steps taken.Nothing = 0
taken_steps (taken.Slot class) = 1
taken_steps (taken.Fd fd slot class) = 2

-- a bound on the steps that are left, but for closings that are yet to be told
abbrev pub bound_left : Taken → ℕ → ℕ → ℕ
bound_left brings count more = taken_steps brings + 3 * count + more

-- what falls with each step, however many closings its reply tells
abbrev pub measure_left : Taken → ℕ → ℕ → ℕ
measure_left brings count more = taken_steps brings + 3 * count + 2 ^ 66 * more

-- what is left where a hold was given back in this mode, and the seat was lost by it or not
abbrev pub given_left : HostSeat → Mode → Option Errno → RequestTree → List Hold → List ℕ → Grammar
given_left seat mode.Body fault tree holds marks = framed seat (asking tree) holds marks
given_left seat mode.Bares fault tree holds marks =
    or_lost seat fault holds (mode_left seat mode.Bares tree holds marks)
given_left seat (mode.Shuts passes) fault tree holds marks =
    or_lost seat fault holds (mode_left seat (mode.Shuts passes) tree holds marks)
given_left seat (mode.Out last) fault tree holds marks =
    or_lost seat fault holds (mode_left seat (mode.Out last) tree holds marks)
given_left seat (mode.Leave last) fault tree holds marks = leave seat holds (restored last fault)
