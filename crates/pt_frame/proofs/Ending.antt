-- How the lists of a grammar end.
use Rattle.std.proofs.Common.{◌≡◌, inl, inr, ℕ, zero, suc, nat_lt, Bool, true, false, List, [], ◌∷◌, Option, Some}
use Rattle.std.proofs.Common.{None}
use Rattle.std.proofs.Common.{refl, sym, subst, length, cond}
use Rattle.pt_host.specs.declared.ids.Errno.{Errno}
use Rattle.pt_host.specs.declared.seat.HostSeat.{HostSeat}
use Rattle.pt_iface.specs.declared.answer.Answer.TheVariants as answer
use Rattle.pt_frame.specs.Deed.{Step}
use Rattle.pt_frame.specs.Held.{is_scope, held, opened}
use Rattle.pt_frame.specs.Replies.{closings_in, taken_in, fault_if, restored, is_cut, passes_with, refusal}
use Rattle.pt_frame.specs.Grammar.{Grammar, End, Do, May, Belongs, Owed, IsChosen}
use Rattle.pt_frame.specs.Frame.{giving, give_slot, give_taken, closings, give, leave, or_lost, bare, bare_one, shut}
use Rattle.pt_frame.specs.Frame.{front, behind, under, mark_in, outer, answered_by, close_first, cut}
use Rattle.pt_frame.specs.Frame.{CutAfter}
use Rattle.pt_frame.specs.Frame.{CutInFull}
use Rattle.pt_frame.specs.Tree.{RequestTree, Gives, Refuses, Asks, Opens, Bares, Brackets, Shuts, Allocates, framed}
use Rattle.pt_frame.specs.Tree.{allocates, follows}
use Rattle.pt_frame.specs.Determined.{EndsSo, IsAnsweredInFull, IsDetermined}
use Rattle.pt_frame.specs.declared.finish.Finish.{Finish}
use Rattle.pt_frame.specs.declared.finish.Finish.TheVariants as finish
use Rattle.pt_frame.specs.declared.hold.Hold.{Hold}
use Rattle.pt_frame.specs.declared.hold.Taken.{Taken}
use Rattle.pt_frame.specs.declared.hold.Taken.TheVariants as taken

ends_slot : (P : Finish → Type 0) (slot : Bool) (class count : ℕ) (holds : List Hold) (next : Grammar) → EndsSo P next →
    EndsSo P (give_slot slot class count holds next)
ends_slot P true class count holds next so [] end belongs = absurd belongs
ends_slot P true class count holds next so (step ∷ steps) end belongs = so steps end belongs.1
ends_slot P false class count holds next so steps end belongs = so steps end belongs

ends_taken : (P : Finish → Type 0) (brings : Taken) (count : ℕ) (holds : List Hold) (next : Grammar) → EndsSo P next →
    EndsSo P (give_taken brings count holds next)
ends_taken P taken.Nothing count holds next so steps end belongs = so steps end belongs
ends_taken P (taken.Slot class) count holds next so steps end belongs =
    ends_slot P true class count holds next so steps end belongs
ends_taken P (taken.Fd fd slot class) count holds next so [] end belongs = absurd belongs
ends_taken P (taken.Fd fd slot class) count holds next so (step ∷ steps) end belongs =
    ends_slot P slot class count holds next so steps end belongs.1

pub ends_closings : (P : Finish → Type 0) (count : ℕ) (holds : List Hold) (next : Grammar) → EndsSo P next →
    EndsSo P (closings count holds next)
ends_closings P zero holds next so steps end belongs = so steps end belongs
ends_closings P (suc count) holds next so [] end belongs = absurd belongs
ends_closings P (suc count) holds next so (step ∷ steps) end belongs =
    ends_taken P (taken_in step.reply) count holds (closings count holds next)
    (ends_closings P count holds next so) steps end belongs.1

pub ends_first : (P : Finish → Type 0) (brings : Taken) (count : ℕ) (holds : List Hold) (next : Grammar) →
    EndsSo P next → EndsSo P (close_first brings count holds next)
ends_first P brings count holds next so =
    ends_taken P brings count holds (closings count holds next) (ends_closings P count holds next so)

-- giving all back keeps what no loss changes
pub ends_leave : (P : Finish → Type 0) → ((fault : Option Errno) (last : Finish) → P last → P (restored last fault)) →
    (seat : HostSeat) (holds : List Hold) (last : Finish) → P last → EndsSo P (leave seat holds last)
ends_leave P keeps seat [] last so [] end belongs = subst P (sym belongs) so
ends_leave P keeps seat [] last so (step ∷ steps) end belongs = absurd belongs
ends_leave P keeps seat (one ∷ holds) last so [] end belongs = absurd belongs
ends_leave P keeps seat (one ∷ holds) last so (step ∷ steps) end belongs =
    ends_closings P (closings_in (giving seat one) step.reply) holds
    (leave seat holds (restored last (fault_if (is_scope one) step.reply)))
    (ends_leave P keeps seat holds (restored last (fault_if (is_scope one) step.reply))
    (keeps (fault_if (is_scope one) step.reply) last so)) steps end belongs.1

-- a job that is cut says no more than that
cut_stays : (fault : Option Errno) (last : Finish) → last ≡ finish.Answer answer.Cut →
    restored last fault ≡ finish.Answer answer.Cut
cut_stays None last is = is
cut_stays (Some errno) last is =
    subst (λ (end : Finish). restored end (Some errno) ≡ finish.Answer answer.Cut) (sym is) refl

pub ends_cut : (seat : HostSeat) (owed : Owed) → EndsSo (λ end. end ≡ finish.Answer answer.Cut) (cut seat owed)
ends_cut seat owed =
    ends_first (λ end. end ≡ finish.Answer answer.Cut) owed.taken owed.closings owed.holds
    (leave seat owed.holds (finish.Answer answer.Cut))
    (ends_leave (λ end. end ≡ finish.Answer answer.Cut) cut_stays seat owed.holds (finish.Answer answer.Cut) refl)

-- a list of a job that is cut ends with the answer `Cut`
pub is_cut_off : (seat : HostSeat) (grammar : Grammar) (so_far steps : List Step) (end : Finish) →
    CutAfter seat grammar so_far steps end → end ≡ finish.Answer answer.Cut
is_cut_off seat (End last) so_far steps end belongs = absurd belongs
is_cut_off seat (Do deed owed next) [] steps end belongs = ends_cut seat owed steps end belongs
is_cut_off seat (Do deed owed next) (step ∷ so_far) steps end belongs =
    is_cut_off seat (next step.reply) so_far steps end belongs.1
is_cut_off seat (May one other) so_far steps end (inl belongs) = is_cut_off seat one so_far steps end belongs
is_cut_off seat (May one other) so_far steps end (inr belongs) = is_cut_off seat other so_far steps end belongs

-- one that had not given up was cut after the same steps
pub cut_in_full : (seat : HostSeat) (grammar : Grammar) (so_far steps : List Step) (end : Finish) →
    CutInFull seat grammar so_far steps end → CutAfter seat grammar so_far steps end
cut_in_full seat (End last) so_far steps end belongs = absurd belongs
cut_in_full seat (Do deed owed next) [] steps end belongs = belongs
cut_in_full seat (Do deed owed next) (step ∷ so_far) steps end belongs =
    (belongs.0, cut_in_full seat (next step.reply) so_far steps end belongs.1)
cut_in_full seat (May one other) so_far steps end belongs = inr (cut_in_full seat other so_far steps end belongs)

-- what belongs to a side that was chosen belongs to the choice
pub belongs_chosen : (grammar chosen : Grammar) (steps : List Step) (end : Finish) → IsChosen grammar chosen →
    Belongs chosen steps end → Belongs grammar steps end
belongs_chosen grammar chosen steps end (inl e) b = subst (λ (g : Grammar). Belongs g steps end) e b
belongs_chosen (May one other) chosen steps end (inr (inl e)) b =
    inr (subst (λ (g : Grammar). Belongs g steps end) e b)
belongs_chosen (May one other) chosen steps end (inr (inr e)) b =
    inl (subst (λ (g : Grammar). Belongs g steps end) e b)
belongs_chosen (End last) chosen steps end (inr x) b = absurd x
belongs_chosen (Do deed owed next) chosen steps end (inr x) b = absurd x

pub cut_chosen : (seat : HostSeat) (grammar chosen : Grammar) (so_far steps : List Step) (end : Finish) →
    IsChosen grammar chosen → CutAfter seat chosen so_far steps end → CutAfter seat grammar so_far steps end
cut_chosen seat grammar chosen so_far steps end (inl e) b =
    subst (λ (g : Grammar). CutAfter seat g so_far steps end) e b
cut_chosen seat (May one other) chosen so_far steps end (inr (inl e)) b =
    inr (subst (λ (g : Grammar). CutAfter seat g so_far steps end) e b)
cut_chosen seat (May one other) chosen so_far steps end (inr (inr e)) b =
    inl (subst (λ (g : Grammar). CutAfter seat g so_far steps end) e b)
cut_chosen seat (End last) chosen so_far steps end (inr x) b = absurd x
cut_chosen seat (Do deed owed next) chosen so_far steps end (inr x) b = absurd x

-- one outcome unless memory runs out

det_slot : (slot : Bool) (class count : ℕ) (holds : List Hold) (next : Grammar) → IsDetermined next →
    IsDetermined (give_slot slot class count holds next)
det_slot true class count holds next so = λ reply. so
det_slot false class count holds next so = so

det_taken : (brings : Taken) (count : ℕ) (holds : List Hold) (next : Grammar) → IsDetermined next →
    IsDetermined (give_taken brings count holds next)
det_taken taken.Nothing count holds next so = so
det_taken (taken.Slot class) count holds next so = λ reply. so
det_taken (taken.Fd fd slot class) count holds next so = λ reply. det_slot slot class count holds next so

det_closings : (count : ℕ) (holds : List Hold) (next : Grammar) → IsDetermined next →
    IsDetermined (closings count holds next)
det_closings zero holds next so = so
det_closings (suc count) holds next so =
    λ reply. det_taken (taken_in reply) count holds (closings count holds next) (det_closings count holds next so)

det_leave : (seat : HostSeat) (holds : List Hold) (last : Finish) → IsDetermined (leave seat holds last)
det_leave seat [] last = tt
det_leave seat (one ∷ holds) last = λ reply.
    det_closings (closings_in (giving seat one) reply) holds
    (leave seat holds (restored last (fault_if (is_scope one) reply)))
    (det_leave seat holds (restored last (fault_if (is_scope one) reply)))

det_or_lost : (seat : HostSeat) (fault : Option Errno) (holds : List Hold) (next : Grammar) → IsDetermined next →
    IsDetermined (or_lost seat fault holds next)
det_or_lost seat None holds next so = so
det_or_lost seat (Some errno) holds next so = det_leave seat holds (finish.Lost errno)

det_give : (seat : HostSeat) (one : Hold) (all left : List Hold) (next : Option Errno → Grammar) →
    ((fault : Option Errno) → IsDetermined (next fault)) → IsDetermined (give seat one all left next)
det_give seat one all left next so = λ reply.
    det_closings (closings_in (giving seat one) reply) left (next (fault_if (is_scope one) reply))
    (so (fault_if (is_scope one) reply))

det_bare_one : (seat : HostSeat) (b : Bool) (one : Hold) (holds : List Hold) (rest : Grammar)
    (next : List Hold → Grammar) → IsDetermined rest → IsDetermined (next (one ∷ holds)) →
    IsDetermined (bare_one seat b one holds rest next)
det_bare_one seat true one holds rest next so more =
    det_give seat one (one ∷ holds) holds (λ fault. or_lost seat fault holds rest)
    (λ fault. det_or_lost seat fault holds rest so)
det_bare_one seat false one holds rest next so more = more

det_bare : (seat : HostSeat) (holds : List Hold) (next : List Hold → Grammar) →
    ((left : List Hold) → IsDetermined (next left)) → IsDetermined (bare seat holds next)
det_bare seat [] next so = so []
det_bare seat (one ∷ holds) next so =
    det_bare_one seat (is_scope one) one holds (bare seat holds next) next (det_bare seat holds next so)
    (so (one ∷ holds))

det_if : (b : Bool) (one other : Grammar) → IsDetermined one → IsDetermined other → IsDetermined (cond b one other)
det_if true one other so more = so
det_if false one other so more = more

det_shut : (seat : HostSeat) (passing : Option Hold) (mark : ℕ) (holds : List Hold) (next : List Hold → Grammar) →
    ((left : List Hold) → IsDetermined (next left)) → IsDetermined (shut seat passing mark holds next)
det_shut seat passing mark [] next so = so (under passing [])
det_shut seat passing mark (one ∷ holds) next so =
    det_if (nat_lt mark (length (one ∷ holds)))
    (give seat one (under passing (one ∷ holds)) (under passing holds) (λ fault.
    or_lost seat fault (under passing holds) (shut seat passing mark holds next)))
    (next (under passing (one ∷ holds)))
    (det_give seat one (under passing (one ∷ holds)) (under passing holds) (λ fault.
    or_lost seat fault (under passing holds) (shut seat passing mark holds next)) (λ fault.
    det_or_lost seat fault (under passing holds) (shut seat passing mark holds next)
    (det_shut seat passing mark holds next so))) (so (under passing (one ∷ holds)))

det_answered : (seat : HostSeat) (b : Bool) (holds : List Hold) (last : Finish) →
    IsDetermined (answered_by seat b holds last)
det_answered seat false holds last = det_leave seat holds last
det_answered seat true [] last = det_leave seat [] last
det_answered seat true (one ∷ holds) last =
    det_shut seat (Some one) 0 holds (λ left. End last) (λ left. tt)

-- what is given back after memory ran out changes no answer to a better one
want_stays : (fault : Option Errno) (last : Finish) → (IsAnsweredInFull last → ⊥) →
    IsAnsweredInFull (restored last fault) → ⊥
want_stays None last so full = so full
want_stays (Some errno) (finish.Lost first) so full = full
want_stays (Some errno) (finish.Answer told) so full = go (is_cut told) full
  where
    go : (b : Bool) → IsAnsweredInFull (cond b (finish.Answer told) (finish.Lost errno)) → ⊥
    go true f = so f
    go false f = f

want_ends : (seat : HostSeat) (count : ℕ) (holds : List Hold) →
    EndsSo (λ end. IsAnsweredInFull end → ⊥) (closings count holds (leave seat holds (finish.Answer answer.NoMemory)))
want_ends seat count holds =
    ends_closings (λ end. IsAnsweredInFull end → ⊥) count holds (leave seat holds (finish.Answer answer.NoMemory))
    (ends_leave (λ end. IsAnsweredInFull end → ⊥) want_stays seat holds (finish.Answer answer.NoMemory)
    (λ full. full))

det_follows : (seat : HostSeat) (wants : Bool) (count : ℕ) (holds : List Hold) (rest : Grammar) → IsDetermined rest →
    IsDetermined (follows seat wants count holds rest)
det_follows seat true count holds rest so = (want_ends seat count holds, det_closings count holds rest so)
det_follows seat false count holds rest so = det_closings count holds rest so

pub det_framed : (seat : HostSeat) (tree : RequestTree) (holds : List Hold) (marks : List ℕ) →
    IsDetermined (framed seat tree holds marks)
det_framed seat (Gives last) holds marks = det_answered seat (passes_with last) holds (finish.Answer last)
det_framed seat (Refuses told) holds marks = det_leave seat holds (finish.Answer (refusal told))
det_framed seat (Asks deed next) holds marks = λ reply.
    det_follows seat (allocates (next reply)) (closings_in deed reply) (held deed reply holds)
    (framed seat (next reply) (held deed reply holds) marks)
    (det_framed seat (next reply) (held deed reply holds) marks)
det_framed seat (Opens asked scope next) holds marks = λ reply.
    det_follows seat (allocates (next reply)) 0 (opened scope reply holds)
    (framed seat (next reply) (opened scope reply holds) marks)
    (det_framed seat (next reply) (opened scope reply holds) marks)
det_framed seat (Bares rest) holds marks =
    det_bare seat holds (λ left. framed seat rest left marks) (λ left. det_framed seat rest left marks)
det_framed seat (Brackets rest) holds marks = det_framed seat rest holds (length holds ∷ marks)
det_framed seat (Shuts passes rest) holds marks =
    det_shut seat (front passes holds) (mark_in marks) (behind passes holds)
    (λ left. framed seat rest left (outer marks)) (λ left. det_framed seat rest left (outer marks))
det_framed seat (Allocates made next) holds marks = det_framed seat (next made) holds marks
