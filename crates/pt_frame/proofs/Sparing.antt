-- A job whose tree takes no memory of its own is answered that memory ran out only where it did, at one of its steps.
use Rattle.std.proofs.Common.{◌≡◌, ◌⊎◌, inl, inr, ℕ, zero, suc, nat_lt, Bool, true, false, ◌||◌, cond, List, []}
use Rattle.std.proofs.Common.{◌∷◌, Option, Some, None, refl, subst, length}
use Rattle.pt_host.specs.declared.ids.Errno.{Errno}
use Rattle.pt_host.specs.declared.op.KeptHostOp.TheVariants as call
use Rattle.pt_host.specs.declared.reply.HostReply.TheVariants as host
use Rattle.pt_host.specs.declared.seat.HostSeat.{HostSeat}
use Rattle.pt_tables.specs.declared.event.KeptEvent.TheVariants as change
use Rattle.pt_tables.specs.declared.reply.EventRefusal.TheVariants as refused
use Rattle.pt_tables.specs.declared.reply.EventReply.TheVariants as event
use Rattle.pt_iface.specs.declared.answer.Answer.{Answer}
use Rattle.pt_iface.specs.declared.answer.Answer.TheVariants as answer
use Rattle.pt_frame.specs.Deed.{Deed, Calls, Changes, Step, lacks_memory, LacksMemory}
use Rattle.pt_frame.specs.Held.{is_scope, held, opened}
use Rattle.pt_frame.specs.Replies.{closings_in, taken_in, fault_if, is_cut, refusal, restored, passes_with}
use Rattle.pt_frame.specs.Grammar.{Grammar, End, Do, May, Owed, owing, Belongs}
use Rattle.pt_frame.specs.Frame.{giving, give_slot, give_taken, closings, give, leave, or_lost, bare_one, bare, shut}
use Rattle.pt_frame.specs.Frame.{front, behind, under, mark_in, outer, answered_by}
use Rattle.pt_frame.specs.Memory.{RanOut}
use Rattle.pt_frame.specs.Sparing.{IsNoMemory, IsSparing}
use Rattle.pt_frame.specs.Tree.{RequestTree, Gives, Refuses, Asks, Opens, Bares, Brackets, Shuts, Allocates, framed}
use Rattle.pt_frame.specs.Tree.{allocates, follows}
use Rattle.pt_frame.specs.declared.act.ActReply.{ActReply}
use Rattle.pt_frame.specs.declared.act.ActReply.TheVariants as told
use Rattle.pt_frame.specs.declared.finish.Finish.{Finish}
use Rattle.pt_frame.specs.declared.finish.Finish.TheVariants as finish
use Rattle.pt_frame.specs.declared.hold.Hold.{Hold}
use Rattle.pt_frame.specs.declared.hold.Taken.{Taken}
use Rattle.pt_frame.specs.declared.hold.Taken.TheVariants as taken

abbrev IsOut : Finish → Type 0
IsOut (finish.Answer last) = IsNoMemory last
IsOut (finish.Lost errno) = ⊥

-- a list that ends so has a step at which memory ran out, or else this holds
abbrev OutOr : Type 0 → Grammar → Type 0
OutOr C grammar = (steps : List Step) (end : Finish) → Belongs grammar steps end → IsOut end → C ⊎ RanOut steps

out_end : {C : Type 0} (last : Finish) → (IsOut last → C) → OutOr C (End last)
out_end last so [] end b out = inl (so (subst IsOut b out))
out_end last so (step ∷ steps) end b out = absurd b

out_do : {C : Type 0} (deed : Deed) (owed : Owed) (next : ActReply → Grammar) →
    ((reply : ActReply) → OutOr C (next reply)) → OutOr C (Do deed owed next)
out_do deed owed next so [] end b out = absurd b
out_do {C} deed owed next so (step ∷ steps) end b out = later (so step.reply steps end b.1 out)
  where
    later : C ⊎ RanOut steps → C ⊎ RanOut (step ∷ steps)
    later (inl c) = inl c
    later (inr ran) = inr (inr ran)

out_may : {C : Type 0} (one other : Grammar) → OutOr C one → OutOr C other → OutOr C (May one other)
out_may one other so more steps end (inl b) out = so steps end b out
out_may one other so more steps end (inr b) out = more steps end b out

out_slot : {C : Type 0} (slot : Bool) (class count : ℕ) (holds : List Hold) (rest : Grammar) → OutOr C rest →
    OutOr C (give_slot slot class count holds rest)
out_slot true class count holds rest so =
    out_do (Changes (change.GiveFd class)) (owing false (taken.Slot class) count holds) (λ reply. rest) (λ reply. so)
out_slot false class count holds rest so = so

out_taken : {C : Type 0} (brings : Taken) (count : ℕ) (holds : List Hold) (rest : Grammar) → OutOr C rest →
    OutOr C (give_taken brings count holds rest)
out_taken taken.Nothing count holds rest so = so
out_taken (taken.Slot class) count holds rest so = out_slot true class count holds rest so
out_taken (taken.Fd fd slot class) count holds rest so =
    out_do (Calls (call.Close fd)) (owing false (taken.Fd fd slot class) count holds)
    (λ reply. give_slot slot class count holds rest)
    (λ reply. out_slot slot class count holds rest so)

out_closings : {C : Type 0} (count : ℕ) (holds : List Hold) (rest : Grammar) → OutOr C rest →
    OutOr C (closings count holds rest)
out_closings zero holds rest so = so
out_closings (suc count) holds rest so =
    out_do (Changes change.TakeClosing) (owing false taken.Nothing (suc count) holds)
    (λ reply. give_taken (taken_in reply) count holds (closings count holds rest))
    (λ reply. out_taken (taken_in reply) count holds (closings count holds rest) (out_closings count holds rest so))

out_give : {C : Type 0} (seat : HostSeat) (one : Hold) (all left : List Hold) (next : Option Errno → Grammar) →
    ((fault : Option Errno) → OutOr C (next fault)) → OutOr C (give seat one all left next)
out_give seat one all left next so =
    out_do (giving seat one) (owing (is_scope one) taken.Nothing 0 all)
    (λ reply. closings (closings_in (giving seat one) reply) left (next (fault_if (is_scope one) reply)))
    (λ reply. out_closings (closings_in (giving seat one) reply) left (next (fault_if (is_scope one) reply))
    (so (fault_if (is_scope one) reply)))

-- what is given back after the answer makes no other answer say so
still_out : (last : Finish) (fault : Option Errno) → IsOut (restored last fault) → IsOut last
still_out last None out = out
still_out (finish.Lost first) (Some errno) out = out
still_out (finish.Answer last) (Some errno) out = go (is_cut last) out
  where
    go : (b : Bool) → IsOut (cond b (finish.Answer last) (finish.Lost errno)) → IsNoMemory last
    go true out = out
    go false out = absurd out

out_leave : {C : Type 0} (seat : HostSeat) (holds : List Hold) (last : Finish) → (IsOut last → C) →
    OutOr C (leave seat holds last)
out_leave seat [] last so = out_end last so
out_leave seat (one ∷ holds) last so =
    out_give seat one (one ∷ holds) holds (λ fault. leave seat holds (restored last fault))
    (λ fault. out_leave seat holds (restored last fault) (λ out. so (still_out last fault out)))

out_or_lost : {C : Type 0} (seat : HostSeat) (fault : Option Errno) (holds : List Hold) (rest : Grammar) →
    OutOr C rest → OutOr C (or_lost seat fault holds rest)
out_or_lost seat None holds rest so = so
out_or_lost seat (Some errno) holds rest so = out_leave seat holds (finish.Lost errno) (λ no. absurd no)

out_bare_one : {C : Type 0} (seat : HostSeat) (b : Bool) (one : Hold) (holds : List Hold) (rest : Grammar)
    (next : List Hold → Grammar) → OutOr C rest → OutOr C (next (one ∷ holds)) →
    OutOr C (bare_one seat b one holds rest next)
out_bare_one seat true one holds rest next so more =
    out_give seat one (one ∷ holds) holds (λ fault. or_lost seat fault holds rest)
    (λ fault. out_or_lost seat fault holds rest so)
out_bare_one seat false one holds rest next so more = more

out_bare : {C : Type 0} (seat : HostSeat) (holds : List Hold) (next : List Hold → Grammar) →
    ((left : List Hold) → OutOr C (next left)) → OutOr C (bare seat holds next)
out_bare seat [] next so = so []
out_bare seat (one ∷ holds) next so =
    out_bare_one seat (is_scope one) one holds (bare seat holds next) next (out_bare seat holds next so)
    (so (one ∷ holds))

out_if : {C : Type 0} (b : Bool) (one other : Grammar) → OutOr C one → OutOr C other → OutOr C (cond b one other)
out_if true one other so more = so
out_if false one other so more = more

out_shut : {C : Type 0} (seat : HostSeat) (passing : Option Hold) (mark : ℕ) (holds : List Hold)
    (next : List Hold → Grammar) → ((left : List Hold) → OutOr C (next left)) →
    OutOr C (shut seat passing mark holds next)
out_shut seat passing mark [] next so = so (under passing [])
out_shut seat passing mark (one ∷ holds) next so =
    out_if (nat_lt mark (length (one ∷ holds)))
    (give seat one (under passing (one ∷ holds)) (under passing holds) (λ fault.
    or_lost seat fault (under passing holds) (shut seat passing mark holds next)))
    (next (under passing (one ∷ holds)))
    (out_give seat one (under passing (one ∷ holds)) (under passing holds) (λ fault.
    or_lost seat fault (under passing holds) (shut seat passing mark holds next)) (λ fault.
    out_or_lost seat fault (under passing holds) (shut seat passing mark holds next)
    (out_shut seat passing mark holds next so))) (so (under passing (one ∷ holds)))

out_answered : {C : Type 0} (seat : HostSeat) (passes : Bool) (holds : List Hold) (last : Answer) →
    (IsNoMemory last → C) → OutOr C (answered_by seat passes holds (finish.Answer last))
out_answered seat false holds last so = out_leave seat holds (finish.Answer last) so
out_answered seat true [] last so = out_leave seat [] (finish.Answer last) so
out_answered seat true (one ∷ holds) last so =
    out_shut seat (Some one) 0 holds (λ left. End (finish.Answer last)) (λ left. out_end (finish.Answer last) so)

-- how a refusal is answered
refused_out : (reply : ActReply) → IsNoMemory (refusal reply) → LacksMemory reply
refused_out (told.Event (event.Refused refused.Memory)) out = refl
refused_out (told.Event reply) out = absurd out
refused_out (told.Host host.NoMemory) out = refl
refused_out (told.Host reply) out = absurd out
refused_out told.NoCopy out = refl

-- the job gives up only where its tree takes memory of its own
out_follows : {C : Type 0} (may : Bool) (seat : HostSeat) (count : ℕ) (holds : List Hold) (rest : Grammar) →
    may ≡ false → OutOr C rest → OutOr C (follows seat may count holds rest)
out_follows true seat count holds rest none so = absurd (cc)
out_follows false seat count holds rest none so = out_closings count holds rest so

-- a reply that told it is that of a step
out_asked : (lacked : Bool) (deed : Deed) (owed : Owed) (next : ActReply → Grammar) →
    ((reply : ActReply) → OutOr ((lacks_memory reply || lacked) ≡ true) (next reply)) →
    OutOr (lacked ≡ true) (Do deed owed next)
out_asked lacked deed owed next so [] end b out = absurd b
out_asked lacked deed owed next so (step ∷ steps) end b out =
    here (lacks_memory step.reply) refl (so step.reply steps end b.1 out)
  where
    here : (b : Bool) → lacks_memory step.reply ≡ b → ((b || lacked) ≡ true) ⊎ RanOut steps →
        (lacked ≡ true) ⊎ RanOut (step ∷ steps)
    here b is (inr ran) = inr (inr ran)
    here true is (inl e) = inr (inl is)
    here false is (inl e) = inl e

takes_none : (lacked : Bool) (tree : RequestTree) → IsSparing lacked tree → allocates tree ≡ false
takes_none lacked (Gives last) so = refl
takes_none lacked (Refuses reply) so = refl
takes_none lacked (Asks deed next) so = refl
takes_none lacked (Opens asked scope next) so = refl
takes_none lacked (Bares rest) so = refl
takes_none lacked (Brackets rest) so = refl
takes_none lacked (Shuts passes rest) so = refl
takes_none lacked (Allocates made next) so = absurd so

out_framed : (lacked : Bool) (seat : HostSeat) (tree : RequestTree) (holds : List Hold) (marks : List ℕ) →
    IsSparing lacked tree → OutOr (lacked ≡ true) (framed seat tree holds marks)
out_framed lacked seat (Gives last) holds marks so = out_answered seat (passes_with last) holds last so
out_framed lacked seat (Refuses reply) holds marks so =
    out_leave seat holds (finish.Answer (refusal reply)) (λ out. so (refused_out reply out))
out_framed lacked seat (Asks deed next) holds marks so =
    out_asked lacked deed (owing false taken.Nothing 0 holds) (λ reply.
    follows seat (allocates (next reply)) (closings_in deed reply) (held deed reply holds)
    (framed seat (next reply) (held deed reply holds) marks)) (λ reply.
    out_follows (allocates (next reply)) seat (closings_in deed reply)
    (held deed reply holds) (framed seat (next reply) (held deed reply holds) marks)
    (takes_none (lacks_memory reply || lacked) (next reply) (so reply))
    (out_framed (lacks_memory reply || lacked) seat (next reply) (held deed reply holds) marks (so reply)))
out_framed lacked seat (Opens asked scope next) holds marks so =
    out_asked lacked (Calls asked) (owing false taken.Nothing 0 holds) (λ reply.
    follows seat (allocates (next reply)) 0 (opened scope reply holds)
    (framed seat (next reply) (opened scope reply holds) marks)) (λ reply.
    out_follows (allocates (next reply)) seat 0
    (opened scope reply holds) (framed seat (next reply) (opened scope reply holds) marks)
    (takes_none (lacks_memory reply || lacked) (next reply) (so reply))
    (out_framed (lacks_memory reply || lacked) seat (next reply) (opened scope reply holds) marks (so reply)))
out_framed lacked seat (Bares rest) holds marks so =
    out_bare seat holds (λ left. framed seat rest left marks) (λ left. out_framed lacked seat rest left marks so)
out_framed lacked seat (Brackets rest) holds marks so = out_framed lacked seat rest holds (length holds ∷ marks) so
out_framed lacked seat (Shuts passes rest) holds marks so =
    out_shut seat (front passes holds) (mark_in marks) (behind passes holds)
    (λ left. framed seat rest left (outer marks)) (λ left. out_framed lacked seat rest left (outer marks) so)
out_framed lacked seat (Allocates made next) holds marks so = absurd so

pub ran_out : (seat : HostSeat) (tree : RequestTree) (steps : List Step) → IsSparing false tree →
    Belongs (framed seat tree [] []) steps (finish.Answer answer.NoMemory) → RanOut steps
ran_out seat tree steps so b =
    at_step (out_framed false seat tree [] [] so steps (finish.Answer answer.NoMemory) b tt)
  where
    at_step : (false ≡ true) ⊎ RanOut steps → RanOut steps
    at_step (inl e) = absurd (cc)
    at_step (inr ran) = ran
