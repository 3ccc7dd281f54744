-- A job that takes no memory of its own, and none of whose steps lacked any, had not given up before it was cut.
use Rattle.std.proofs.Common.{◌≡◌, inl, inr, ℕ, zero, suc, List, [], ◌∷◌, length, Bool, true, false, Option}
use Rattle.std.proofs.Common.{Some, None, refl, sym, subst, if◌then◌else◌, nat_lt}
use Rattle.pt_host.specs.declared.ids.Errno.{Errno}
use Rattle.pt_host.specs.declared.seat.HostSeat.{HostSeat}
use Rattle.pt_iface.specs.declared.answer.Answer.TheVariants.{Cut}
use Rattle.pt_frame.specs.Deed.{Step, LacksMemory}
use Rattle.pt_frame.specs.Held.{is_scope, held, opened}
use Rattle.pt_frame.specs.Memory.{RanOut}
use Rattle.pt_frame.specs.Replies.{closings_in, taken_in, restored, refusal, passes_with, fault_if}
use Rattle.pt_frame.specs.Grammar.{Grammar, End, Do, May, Owed}
use Rattle.pt_frame.specs.Frame.{giving, closings, give_taken, give, leave, or_lost, bare_one, bare, shut, front}
use Rattle.pt_frame.specs.Frame.{behind, cut}
use Rattle.pt_frame.specs.Frame.{under, mark_in, outer, answered_by, CutAfter, CutInFull}
use Rattle.pt_frame.specs.Tree.{RequestTree, Gives, Refuses, Asks, Opens, Bares, Brackets, Shuts, Allocates, framed}
use Rattle.pt_frame.specs.Tree.{follows}
use Rattle.pt_frame.specs.Tree.{allocates, grammar_of_tree}
use Rattle.pt_frame.specs.declared.act.ActReply.{ActReply}
use Rattle.pt_frame.specs.declared.finish.Finish.{Finish}
use Rattle.pt_frame.specs.declared.finish.Finish.TheVariants as finish
use Rattle.pt_frame.specs.declared.hold.Hold.{Hold}
use Rattle.pt_frame.specs.declared.hold.Taken.{Taken}
use Rattle.pt_frame.specs.declared.hold.Taken.TheVariants as taken
use Rattle.pt_law.specs.Told.{MayBeTold, AllMayBeTold}
use Rattle.pt_law.specs.Branch.{TakesNone}
use Rattle.pt_law.proofs.Moving.{told_of}

-- by replies that may come it gives up only where one lacks memory
abbrev pub Lasting : Grammar → Type 0
Lasting (End last) = Unit {0}
Lasting (Do deed owed next) = (told : ActReply) → MayBeTold deed told → (LacksMemory told → ⊥) → Lasting (next told)
Lasting (May one other) = ⊥

in_full : (seat : HostSeat) (grammar : Grammar) (so_far steps : List Step) (end : Finish) → Lasting grammar →
    AllMayBeTold so_far → (RanOut so_far → ⊥) → CutAfter seat grammar so_far steps end →
    CutInFull seat grammar so_far steps end
in_full seat (End last) so_far steps end g t n b = absurd b
in_full seat (Do deed owed next) [] steps end g t n b = b
in_full seat (Do deed owed next) (step ∷ so_far) steps end g t n b = (
  b.0,
  in_full seat (next step.reply) so_far steps end
      (g step.reply (told_of deed step.deed step.reply b.0 t.0) (λ l. n (inl l))) t.1 (λ s. n (inr s)) b.1,
)
in_full seat (May one other) so_far steps end g t n b = absurd g

taken_lasts : (brings : Taken) (count : ℕ) (holds : List Hold) (rest : Grammar) → Lasting rest →
    Lasting (give_taken brings count holds rest)
taken_lasts taken.Nothing count holds rest g = g
taken_lasts (taken.Slot class) count holds rest g = λ told t n. g
taken_lasts (taken.Fd fd true class) count holds rest g = λ told t n other u m. g
taken_lasts (taken.Fd fd false class) count holds rest g = λ told t n. g

closings_last : (count : ℕ) (holds : List Hold) (next : Grammar) → Lasting next → Lasting (closings count holds next)
closings_last zero holds next g = g
closings_last (suc count) holds next g = λ told t n.
    taken_lasts (taken_in told) count holds (closings count holds next) (closings_last count holds next g)

give_lasts : (seat : HostSeat) (one : Hold) (holds left : List Hold) (next : Option Errno → Grammar) →
    ((fault : Option Errno) → Lasting (next fault)) → Lasting (give seat one holds left next)
give_lasts seat one holds left next f = λ told t n.
    closings_last (closings_in (giving seat one) told) left (next (fault_if (is_scope one) told))
    (f (fault_if (is_scope one) told))

leave_lasts : (seat : HostSeat) (holds : List Hold) (last : Finish) → Lasting (leave seat holds last)
leave_lasts seat [] last = tt
leave_lasts seat (one ∷ holds) last =
    give_lasts seat one (one ∷ holds) holds (λ fault. leave seat holds (restored last fault)) (λ fault.
    leave_lasts seat holds (restored last fault))

or_lost_lasts : (seat : HostSeat) (fault : Option Errno) (holds : List Hold) (next : Grammar) → Lasting next →
    Lasting (or_lost seat fault holds next)
or_lost_lasts seat None holds next g = g
or_lost_lasts seat (Some errno) holds next g = leave_lasts seat holds (finish.Lost errno)

bare_lasts : (seat : HostSeat) (holds : List Hold) (next : List Hold → Grammar) →
    ((left : List Hold) → Lasting (next left)) → Lasting (bare seat holds next)
bare_lasts seat [] next f = f []
bare_lasts seat (one ∷ holds) next f = go (is_scope one) (bare_lasts seat holds next f)
  where
    go : (b : Bool) → Lasting (bare seat holds next) → Lasting (bare_one seat b one holds (bare seat holds next) next)
    go true g = give_lasts seat one (one ∷ holds) holds (λ fault. or_lost seat fault holds (bare seat holds next))
        (λ fault. or_lost_lasts seat fault holds (bare seat holds next) g)
    go false g = f (one ∷ holds)

shut_lasts : (seat : HostSeat) (passing : Option Hold) (mark : ℕ) (holds : List Hold) (next : List Hold → Grammar) →
    ((left : List Hold) → Lasting (next left)) → Lasting (shut seat passing mark holds next)
shut_lasts seat passing mark [] next f = f (under passing [])
shut_lasts seat passing mark (one ∷ holds) next f =
    go (nat_lt mark (length (one ∷ holds))) (shut_lasts seat passing mark holds next f)
  where
    go : (b : Bool) → Lasting (shut seat passing mark holds next) →
        Lasting (if b then give seat one (under passing (one ∷ holds)) (under passing holds) (λ fault.
        or_lost seat fault (under passing holds) (shut seat passing mark holds next))
        else next (under passing (one ∷ holds)))
    go true g = give_lasts seat one (under passing (one ∷ holds)) (under passing holds) (λ fault.
        or_lost seat fault (under passing holds) (shut seat passing mark holds next)) (λ fault.
        or_lost_lasts seat fault (under passing holds) (shut seat passing mark holds next) g)
    go false g = f (under passing (one ∷ holds))

answered_lasts : (seat : HostSeat) (passes : Bool) (holds : List Hold) (last : Finish) →
    Lasting (answered_by seat passes holds last)
answered_lasts seat false holds last = leave_lasts seat holds last
answered_lasts seat true [] last = leave_lasts seat [] last
answered_lasts seat true (one ∷ holds) last = shut_lasts seat (Some one) 0 holds (λ left. End last) (λ left. tt)

none_allocates : (tree : RequestTree) → TakesNone tree → allocates tree ≡ false
none_allocates (Allocates made next) s = absurd s
none_allocates (Gives last) s = refl
none_allocates (Refuses told) s = refl
none_allocates (Asks deed next) s = refl
none_allocates (Opens asked scope next) s = refl
none_allocates (Bares rest) s = refl
none_allocates (Brackets rest) s = refl
none_allocates (Shuts passes rest) s = refl

follows_last : (seat : HostSeat) (wants : Bool) (count : ℕ) (holds : List Hold) (rest : Grammar) → wants ≡ false →
    Lasting rest → Lasting (follows seat wants count holds rest)
follows_last seat wants count holds rest e g =
    subst (λ (w : Bool). Lasting (follows seat w count holds rest)) (sym e) (closings_last count holds rest g)

pub framed_lasts : (seat : HostSeat) (tree : RequestTree) (holds : List Hold) (marks : List ℕ) → TakesNone tree →
    Lasting (framed seat tree holds marks)
framed_lasts seat (Gives last) holds marks s = answered_lasts seat (passes_with last) holds (finish.Answer last)
framed_lasts seat (Refuses told) holds marks s = leave_lasts seat holds (finish.Answer (refusal told))
framed_lasts seat (Asks deed next) holds marks s = λ told t n.
    follows_last seat (allocates (next told)) (closings_in deed told) (held deed told holds)
    (framed seat (next told) (held deed told holds) marks) (none_allocates (next told) (s told t))
    (framed_lasts seat (next told) (held deed told holds) marks (s told t))
framed_lasts seat (Opens asked scope next) holds marks s = λ told t n.
    follows_last seat (allocates (next told)) 0 (opened scope told holds)
    (framed seat (next told) (opened scope told holds) marks) (none_allocates (next told) (s told t))
    (framed_lasts seat (next told) (opened scope told holds) marks (s told t))
framed_lasts seat (Bares rest) holds marks s =
    bare_lasts seat holds (λ left. framed seat rest left marks) (λ left. framed_lasts seat rest left marks s)
framed_lasts seat (Brackets rest) holds marks s = framed_lasts seat rest holds (length holds ∷ marks) s
framed_lasts seat (Shuts passes rest) holds marks s =
    shut_lasts seat (front passes holds) (mark_in marks) (behind passes holds) (λ left.
    framed seat rest left (outer marks)) (λ left. framed_lasts seat rest left (outer marks) s)
framed_lasts seat (Allocates made next) holds marks s = absurd s

-- a job that is cut gives up no more
pub cut_lasts : (seat : HostSeat) (owed : Owed) → Lasting (cut seat owed)
cut_lasts seat owed =
    taken_lasts owed.taken owed.closings owed.holds
    (closings owed.closings owed.holds (leave seat owed.holds (finish.Answer Cut)))
    (closings_last owed.closings owed.holds (leave seat owed.holds (finish.Answer Cut))
    (leave_lasts seat owed.holds (finish.Answer Cut)))

pub cut_in_full : (seat : HostSeat) (tree : RequestTree) (so_far steps : List Step) (end : Finish) → TakesNone tree →
    AllMayBeTold so_far → (RanOut so_far → ⊥) → CutAfter seat (grammar_of_tree seat tree) so_far steps end →
    CutInFull seat (grammar_of_tree seat tree) so_far steps end
cut_in_full seat tree so_far steps end s t n b =
    in_full seat (grammar_of_tree seat tree) so_far steps end (framed_lasts seat tree [] [] s) t n b
