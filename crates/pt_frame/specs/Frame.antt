-- Believed. The frame round every request: closings follow at once, holds go back last first, scopes end with their
-- call, brackets end with what was taken in them, a job may be cut. The seat is the one that the job began with.
use Rattle.std.specs.Prelude.{ℕ, zero, suc, nat_lt, Bool, true, false, if◌then◌else◌, List, [], ◌∷◌, length, Option}
use Rattle.std.specs.Prelude.{Some, None, ◌⊎◌}
use Rattle.pt_host.specs.declared.ids.Errno.{Errno}
use Rattle.pt_host.specs.declared.seat.HostSeat.{HostSeat}
use Rattle.pt_host.specs.declared.op.KeptHostOp.TheVariants as call
use Rattle.pt_tables.specs.declared.event.KeptEvent.TheVariants as change
use Rattle.pt_iface.specs.declared.answer.Answer.{Answer}
use Rattle.pt_iface.specs.declared.answer.Answer.TheVariants as answer
use Rattle.pt_frame.specs.Deed.{Deed, Calls, Changes, Step, IsStepOf}
use Rattle.pt_frame.specs.Held.{is_scope}
use Rattle.pt_frame.specs.Replies.{closings_in, taken_in, fault_if, restored, passes_with}
use Rattle.pt_frame.specs.Grammar.{Grammar, End, Do, May, Owed, owing, Belongs}
use Rattle.pt_frame.specs.declared.finish.Finish.{Finish}
use Rattle.pt_frame.specs.declared.finish.Finish.TheVariants as finish
use Rattle.pt_frame.specs.declared.hold.Hold.{Hold}
use Rattle.pt_frame.specs.declared.hold.Hold.TheVariants as hold
use Rattle.pt_frame.specs.declared.hold.Taken.{Taken}
use Rattle.pt_frame.specs.declared.hold.Taken.TheVariants as taken

-- what gives a hold back; a scope goes back to what the seat was
abbrev pub giving : HostSeat → Hold → Deed
giving seat (hold.Pin row fd) = Changes (change.Unpin row)
giving seat (hold.HandlePin row fd) = Changes (change.UnpinHandle row)
giving seat (hold.Fd fd) = Calls (call.Close fd)
giving seat (hold.Slot class) = Changes (change.GiveFd class)
giving seat (hold.Count era number) = Changes (change.GiveBack era number)
giving seat hold.Groups = Calls (call.SetGroups seat.groups)
giving seat hold.EffectiveGid = Calls (call.SetEgid seat.eff_gid)
giving seat hold.EffectiveUid = Calls (call.SetEuid seat.eff_uid)
giving seat (hold.Dropped caps) = Calls (call.RaiseCap caps)
giving seat hold.Umask = Calls (call.SetUmask seat.umask)

-- what a closing brought is given back, while so many more are owed
abbrev pub give_slot : Bool → ℕ → ℕ → List Hold → Grammar → Grammar
give_slot true class count holds rest =
    Do (Changes (change.GiveFd class)) (owing false (taken.Slot class) count holds) (λ told. rest)
give_slot false class count holds rest = rest

abbrev pub give_taken : Taken → ℕ → List Hold → Grammar → Grammar
give_taken taken.Nothing count holds rest = rest
give_taken (taken.Slot class) count holds rest = give_slot true class count holds rest
give_taken (taken.Fd fd slot class) count holds rest =
    Do (Calls (call.Close fd)) (owing false (taken.Fd fd slot class) count holds) (λ told.
    give_slot slot class count holds rest)

-- the closings of an event follow it at once, and these holds stay; where none is there to take, nothing is given
-- back
abbrev pub closings : ℕ → List Hold → Grammar → Grammar
closings zero holds next = next
closings (suc count) holds next =
    Do (Changes change.TakeClosing) (owing false taken.Nothing (suc count) holds) (λ told.
    give_taken (taken_in told) count holds (closings count holds next))

-- one of the holds is given back, and these are left; the reply is passed over, but for a scope that was not ended
abbrev pub give : HostSeat → Hold → List Hold → List Hold → (Option Errno → Grammar) → Grammar
give seat one holds left next =
    Do (giving seat one) (owing (is_scope one) taken.Nothing 0 holds) (λ told.
    closings (closings_in (giving seat one) told) left (next (fault_if (is_scope one) told)))

-- all holds are given back, the last one first, and then this is the end
abbrev pub leave : HostSeat → List Hold → Finish → Grammar
leave seat [] last = End last
leave seat (one ∷ holds) last = give seat one (one ∷ holds) holds (λ fault. leave seat holds (restored last fault))

-- a lost seat ends all
abbrev pub or_lost : HostSeat → Option Errno → List Hold → Grammar → Grammar
or_lost seat None holds next = next
or_lost seat (Some errno) holds next = leave seat holds (finish.Lost errno)

-- the open scopes, which lie on top, end
abbrev pub bare_one : HostSeat → Bool → Hold → List Hold → Grammar → (List Hold → Grammar) → Grammar
bare_one seat true one holds rest next = give seat one (one ∷ holds) holds (λ fault. or_lost seat fault holds rest)
bare_one seat false one holds rest next = next (one ∷ holds)

abbrev pub bare : HostSeat → List Hold → (List Hold → Grammar) → Grammar
bare seat [] next = next []
bare seat (one ∷ holds) next = bare_one seat (is_scope one) one holds (bare seat holds next) next

-- the last hold, where it passes, and those behind it
abbrev pub front : Bool → List Hold → Option Hold
front false holds = None
front true [] = None
front true (top ∷ holds) = Some top

abbrev pub behind : Bool → List Hold → List Hold
behind false holds = holds
behind true [] = []
behind true (top ∷ holds) = holds

abbrev pub under : Option Hold → List Hold → List Hold
under None holds = holds
under (Some top) holds = top ∷ holds

-- so many holds there were where the innermost bracket began; the request itself is one that began with none
abbrev pub mark_in : List ℕ → ℕ
mark_in [] = 0
mark_in (mark ∷ marks) = mark

abbrev pub outer : List ℕ → List ℕ
outer [] = []
outer (mark ∷ marks) = marks

-- a bracket ends: its holds are given back down to its mark, the last one first, while one hold may pass before them
abbrev pub shut : HostSeat → Option Hold → ℕ → List Hold → (List Hold → Grammar) → Grammar
shut seat passing mark [] next = next (under passing [])
shut seat passing mark (one ∷ holds) next =
    if nat_lt mark (length (one ∷ holds))
    then give seat one (under passing (one ∷ holds)) (under passing holds) (λ fault.
    or_lost seat fault (under passing holds) (shut seat passing mark holds next))
    else next (under passing (one ∷ holds))

-- a request is answered: all is given back, but what passes with the answer
abbrev pub answered_by : HostSeat → Bool → List Hold → Finish → Grammar
answered_by seat false holds last = leave seat holds last
answered_by seat true [] last = leave seat [] last
answered_by seat true (one ∷ holds) last = shut seat (Some one) 0 holds (λ left. End last)

abbrev pub answered : HostSeat → Answer → List Hold → Grammar
answered seat last holds = answered_by seat (passes_with last) holds (finish.Answer last)

-- what is owed at once, and then the rest
abbrev pub close_first : Taken → ℕ → List Hold → Grammar → Grammar
close_first brings count holds next = give_taken brings count holds (closings count holds next)

-- a job that is cut does what it owes and no more
abbrev pub cut : HostSeat → Owed → Grammar
cut seat owed =
    close_first owed.taken owed.closings owed.holds (leave seat owed.holds (finish.Answer answer.Cut))

-- After these steps of the grammar the job was cut, and made those. One that had ended is not cut.
abbrev pub CutAfter : HostSeat → Grammar → List Step → List Step → Finish → Type 0
CutAfter seat (End last) so_far steps end = ⊥
CutAfter seat (Do deed owed next) [] steps end = Belongs (cut seat owed) steps end
CutAfter seat (Do deed owed next) (step ∷ so_far) steps end =
    IsStepOf deed step.deed step.reply × CutAfter seat (next step.reply) so_far steps end
CutAfter seat (May one other) so_far steps end =
    CutAfter seat one so_far steps end ⊎ CutAfter seat other so_far steps end

-- and before it was cut it had not given up for memory that ran out
abbrev pub CutInFull : HostSeat → Grammar → List Step → List Step → Finish → Type 0
CutInFull seat (End last) so_far steps end = ⊥
CutInFull seat (Do deed owed next) [] steps end = Belongs (cut seat owed) steps end
CutInFull seat (Do deed owed next) (step ∷ so_far) steps end =
    IsStepOf deed step.deed step.reply × CutInFull seat (next step.reply) so_far steps end
CutInFull seat (May one other) so_far steps end = CutInFull seat other so_far steps end
