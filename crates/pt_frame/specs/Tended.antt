-- Inner. A grammar that restores what it changed of the seat, and a tree whose grammar does.
use Rattle.std.specs.Prelude.{◌≡◌, ℕ, zero, suc, Bool, true, false, List, [], ◌∷◌, Option, Some, None, length}
use Rattle.std.specs.Prelude.{◌≤◌}
use Rattle.pt_host.specs.Call.{Call}
use Rattle.pt_host.specs.Sorts.{Sort, OpensWith, EndsFd, OfSeat, Plain, sort_of}
use Rattle.pt_host.specs.declared.ids.Errno.{Errno}
use Rattle.pt_host.specs.declared.op.KeptHostOp.TheVariants as call
use Rattle.pt_host.specs.declared.seat.HostSeat.{HostSeat}
use Rattle.pt_iface.specs.declared.answer.Answer.{Answer}
use Rattle.pt_iface.specs.declared.answer.Answer.TheVariants as answer
use Rattle.pt_frame.specs.Deed.{Deed, Calls, Changes}
use Rattle.pt_frame.specs.Held.{is_scope}
use Rattle.pt_frame.specs.Replies.{closings_in, passes_with, is_cut}
use Rattle.pt_frame.specs.Grammar.{Grammar, End, Do, May}
use Rattle.pt_frame.specs.Frame.{giving}
use Rattle.pt_frame.specs.Tree.{RequestTree, Gives, Refuses, Asks, Opens, Bares, Brackets, Shuts, Allocates}
pub use Rattle.pt_frame.specs.Seats.{is_seats_sort}
use Rattle.pt_frame.specs.Past.{ends_scope, is_open, ended, is_restoring, worn_after, Past, past_after}
use Rattle.pt_frame.specs.declared.act.ActReply.{ActReply}
use Rattle.pt_frame.specs.declared.finish.Finish.{Finish}
use Rattle.pt_frame.specs.declared.finish.Finish.TheVariants as finish
use Rattle.pt_frame.specs.declared.hold.Hold.{Hold}
use Rattle.pt_frame.specs.declared.hold.Taken.{Taken}
use Rattle.pt_frame.specs.declared.hold.Taken.TheVariants as taken

-- the answer of a job that was not cut
abbrev pub IsUncut : Answer → Type 0
IsUncut told = is_cut told ≡ false

-- a job that is cut is answered so; one that lost its seat tells how; any other is answered
abbrev pub IsFinish : Bool → Finish → Option Errno → Type 0
IsFinish false (finish.Answer told) None = IsUncut told
IsFinish false (finish.Lost errno) (Some first) = errno ≡ first
IsFinish true (finish.Answer told) lost = told ≡ answer.Cut
IsFinish _ _ _ = ⊥

abbrev pub is_of_seat : Deed → Bool
is_of_seat (Calls asked) = is_seats_sort (sort_of asked)
is_of_seat (Changes asked) = false

-- a scope on top is worn, and under any other hold no scope is
abbrev pub WearsTop : Bool → Deed → List Call → (List Call → Type 0) → Type 0
WearsTop true (Calls asked) worn rest = (is_open asked worn ≡ true) × rest (ended asked worn)
WearsTop true (Changes asked) worn rest = ⊥
WearsTop false deed worn rest = (worn ≡ []) × rest []

-- the holds have the open scopes on top
abbrev pub Wears : HostSeat → List Hold → List Call → Type 0
Wears seat [] worn = worn ≡ []
Wears seat (one ∷ holds) worn = WearsTop (is_scope one) (giving seat one) worn (λ rest. Wears seat holds rest)

-- a restoring step gives a scope back
abbrev pub IsBack : HostSeat → Bool → Deed → Type 0
IsBack seat false deed = Unit {0}
IsBack seat true deed = (one : Hold) × (is_scope one ≡ true) × (deed ≡ giving seat one)

-- once the seat is lost no scope is opened, and a step that restores nothing finds none open
abbrev pub IsRested : Option Errno → Bool → Deed → List Call → Type 0
IsRested None restores deed worn = Unit {0}
IsRested (Some errno) true deed worn = Unit {0}
IsRested (Some errno) false deed worn = (is_of_seat deed ≡ false) × (worn ≡ [])

-- closings are owed only where no scope is open
abbrev pub ClosesBare : Taken → ℕ → List Call → Type 0
ClosesBare taken.Nothing zero worn = Unit {0}
ClosesBare taken.Nothing (suc count) worn = worn ≡ []
ClosesBare (taken.Slot class) count worn = worn ≡ []
ClosesBare (taken.Fd fd slot class) count worn = worn ≡ []

-- of a grammar, after what the job's steps so far did to its seat
abbrev pub Tended : HostSeat → Bool → Grammar → Past → Type 0
Tended seat cut (End last) past = (past.worn ≡ []) × IsFinish cut last past.lost
Tended seat cut (Do deed owed next) past =
    (owed.restores ≡ is_restoring past.worn deed)
    × IsBack seat owed.restores deed
    × IsRested past.lost owed.restores deed past.worn
    × Wears seat owed.holds past.worn
    × ClosesBare owed.taken owed.closings past.worn
    × ((told : ActReply) → Tended seat cut (next told) (past_after past deed told))
Tended seat cut (May one other) past = Tended seat cut one past × Tended seat cut other past

-- What gives the scope back ends this call's. The call is the seat's own, and no such scope is open.
abbrev pub Undoes : Deed → Call → Type 0
Undoes (Calls asked) opening = ends_scope asked opening ≡ true
Undoes (Changes asked) opening = ⊥

pub record IsOpening (seat : HostSeat) (asked : Call) (scope : Hold) (worn : List Call) : Type 0 where
  pub own : sort_of asked ≡ OfSeat
  pub scoped : is_scope scope ≡ true
  pub shut : is_open asked worn ≡ false
  pub back : Undoes (giving seat scope) asked

abbrev pub IsRaise : Call → Type 0
IsRaise (call.RaiseCap caps) = Unit {0}
IsRaise _ = ⊥

-- a call of the seat that opens no scope: within another scope, with which it ends, a capability is raised
abbrev pub IsAskedOf : Sort → Call → List Call → Type 0
IsAskedOf OfSeat asked worn = IsRaise asked × (is_open asked worn ≡ false) × (1 ≤ length worn)
IsAskedOf (OpensWith flags) asked worn = Unit {0}
IsAskedOf (EndsFd fd) asked worn = Unit {0}
IsAskedOf Plain asked worn = Unit {0}

abbrev pub IsAsked : Deed → List Call → Type 0
IsAsked (Calls asked) worn = IsAskedOf (sort_of asked) asked worn
IsAsked (Changes asked) worn = Unit {0}

-- what passes is no scope
abbrev pub PassesBare : Bool → List Call → Type 0
PassesBare true worn = worn ≡ []
PassesBare false worn = Unit {0}

-- of a tree, under the open scopes
abbrev pub Tends : HostSeat → RequestTree → List Call → Type 0
Tends seat (Gives last) worn = IsUncut last × PassesBare (passes_with last) worn
Tends seat (Refuses told) worn = Unit {0}
Tends seat (Asks deed next) worn = IsAsked deed worn × ((told : ActReply) →
    ClosesBare taken.Nothing (closings_in deed told) (worn_after worn deed told)
    × Tends seat (next told) (worn_after worn deed told))
Tends seat (Opens asked scope next) worn =
    IsOpening seat asked scope worn
    × ((told : ActReply) → Tends seat (next told) (worn_after worn (Calls asked) told))
Tends seat (Bares rest) worn = Tends seat rest []
Tends seat (Brackets rest) worn = Tends seat rest worn
Tends seat (Shuts passes rest) worn = (worn ≡ []) × Tends seat rest []
Tends seat (Allocates made next) worn = Tends seat (next made) worn
