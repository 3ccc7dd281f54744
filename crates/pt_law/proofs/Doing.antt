-- What holds of each deed of a tree's own part, and of all that gives back, holds of each step of its job, whole or
-- cut.
use Rattle.std.proofs.Common.{inl, inr, ℕ, zero, suc, Bool, true, false, List, [], ◌∷◌, ◌++◌, length, Option}
use Rattle.std.proofs.Common.{Some, None, sym, subst, if◌then◌else◌, nat_lt}
use Rattle.pt_host.specs.Words.{Each}
use Rattle.pt_host.specs.declared.ids.Errno.{Errno}
use Rattle.pt_host.specs.declared.ids.Fd.{Fd}
use Rattle.pt_host.specs.declared.op.KeptHostOp.TheVariants as call
use Rattle.pt_host.specs.declared.seat.HostSeat.{HostSeat}
use Rattle.pt_tables.specs.declared.event.KeptEvent.TheVariants as change
use Rattle.pt_iface.specs.declared.answer.Answer.TheVariants as answer
use Rattle.pt_frame.specs.Deed.{Deed, Calls, Changes, Step, IsStepOf}
use Rattle.pt_frame.specs.Frame.{giving, closings, give_taken, give, leave, or_lost, bare_one, bare, shut, front}
use Rattle.pt_frame.specs.Frame.{behind, under, mark_in, outer, answered_by, cut, CutAfter}
use Rattle.pt_frame.specs.Grammar.{Grammar, End, Do, May, Owed, Belongs}
use Rattle.pt_frame.specs.Held.{held, is_scope, opened}
use Rattle.pt_frame.specs.Replies.{closings_in, fault_if, passes_with, refusal, restored, taken_in}
use Rattle.pt_frame.specs.Tree.{RequestTree, Gives, Refuses, Asks, Opens, Bares, Brackets, Shuts, Allocates, framed}
use Rattle.pt_frame.specs.Tree.{follows, allocates}
use Rattle.pt_frame.specs.declared.act.ActReply.{ActReply}
use Rattle.pt_frame.specs.declared.act.ActReply.TheVariants.{NoCopy}
use Rattle.pt_frame.specs.declared.finish.Finish.{Finish}
use Rattle.pt_frame.specs.declared.finish.Finish.TheVariants as finish
use Rattle.pt_frame.specs.declared.hold.Hold.{Hold}
use Rattle.pt_frame.specs.declared.hold.Taken.{Taken}
use Rattle.pt_frame.specs.declared.hold.Taken.TheVariants as taken
use Rattle.pt_law.specs.Agreed.{IfMade}

-- of each deed of the tree's own part
abbrev pub Does : (Deed → Type 0) → RequestTree → Type 0
Does P (Gives last) = Unit {0}
Does P (Refuses told) = Unit {0}
Does P (Asks deed next) = P deed × ((told : ActReply) → Does P (next told))
Does P (Opens asked scope next) = P (Calls asked) × ((told : ActReply) → Does P (next told))
Does P (Bares rest) = Does P rest
Does P (Brackets rest) = Does P rest
Does P (Shuts passes rest) = Does P rest
Does P (Allocates made next) = Does P (next made)

-- of what gives back
pub record OfReturns (P : Deed → Type 0) : Type 0 where
  pub gives : (seat : HostSeat) (one : Hold) → P (giving seat one)
  pub takes : P (Changes change.TakeClosing)
  pub slot : (class : ℕ) → P (Changes (change.GiveFd class))
  pub closes : (fd : Fd) → P (Calls (call.Close fd))

module _ (P : Deed → Type 0) (back : OfReturns P) where
  abbrev pub All : Grammar → Type 0
  All (End last) = Unit {0}
  All (Do deed owed next) = P deed × ((told : ActReply) → All (next told))
  All (May one other) = All one × All other

  all_taken : (brings : Taken) (count : ℕ) (holds : List Hold) (rest : Grammar) → All rest →
      All (give_taken brings count holds rest)
  all_taken taken.Nothing count holds rest so = so
  all_taken (taken.Slot class) count holds rest so = (back.slot class, λ told. so)
  all_taken (taken.Fd fd true class) count holds rest so = (back.closes fd, λ told. (back.slot class, λ later. so))
  all_taken (taken.Fd fd false class) count holds rest so = (back.closes fd, λ told. so)

  all_closings : (count : ℕ) (holds : List Hold) (rest : Grammar) → All rest → All (closings count holds rest)
  all_closings zero holds rest so = so
  all_closings (suc count) holds rest so = (
    back.takes,
    λ told. all_taken (taken_in told) count holds (closings count holds rest)
        (all_closings count holds rest so),
  )

  all_give : (seat : HostSeat) (one : Hold) (holds left : List Hold) (next : Option Errno → Grammar) →
      ((fault : Option Errno) → All (next fault)) → All (give seat one holds left next)
  all_give seat one holds left next so = (
    back.gives seat one,
    λ told. all_closings (closings_in (giving seat one) told) left
        (next (fault_if (is_scope one) told)) (so (fault_if (is_scope one) told)),
  )

  all_leave : (seat : HostSeat) (holds : List Hold) (last : Finish) → All (leave seat holds last)
  all_leave seat [] last = tt
  all_leave seat (one ∷ holds) last = all_give seat one (one ∷ holds) holds (λ fault. leave seat holds
      (restored last fault)) (λ fault. all_leave seat holds (restored last fault))

  all_lost : (seat : HostSeat) (fault : Option Errno) (holds : List Hold) (next : Grammar) → All next →
      All (or_lost seat fault holds next)
  all_lost seat None holds next so = so
  all_lost seat (Some errno) holds next so = all_leave seat holds (finish.Lost errno)

  all_bare_one : (seat : HostSeat) (scoped : Bool) (one : Hold) (holds : List Hold) (rest : Grammar)
      (next : List Hold → Grammar) → All rest → ((left : List Hold) → All (next left)) →
      All (bare_one seat scoped one holds rest next)
  all_bare_one seat true one holds rest next so on =
      all_give seat one (one ∷ holds) holds (λ fault. or_lost seat fault holds rest)
      (λ fault. all_lost seat fault holds rest so)
  all_bare_one seat false one holds rest next so on = on (one ∷ holds)

  all_bare : (seat : HostSeat) (holds : List Hold) (next : List Hold → Grammar) →
      ((left : List Hold) → All (next left)) → All (bare seat holds next)
  all_bare seat [] next on = on []
  all_bare seat (one ∷ holds) next on =
      all_bare_one seat (is_scope one) one holds (bare seat holds next) next (all_bare seat holds next on) on

  all_if : (b : Bool) (one other : Grammar) → All one → All other → All (if b then one else other)
  all_if true one other so also = so
  all_if false one other so also = also

  all_shut : (seat : HostSeat) (passing : Option Hold) (mark : ℕ) (holds : List Hold) (next : List Hold → Grammar) →
      ((left : List Hold) → All (next left)) → All (shut seat passing mark holds next)
  all_shut seat passing mark [] next on = on (under passing [])
  all_shut seat passing mark (one ∷ holds) next on =
      all_if (nat_lt mark (length (one ∷ holds))) _ _
      (all_give seat one (under passing (one ∷ holds)) (under passing holds) (λ fault.
      or_lost seat fault (under passing holds) (shut seat passing mark holds next)) (λ fault.
      all_lost seat fault (under passing holds) (shut seat passing mark holds next)
      (all_shut seat passing mark holds next on)))
      (on (under passing (one ∷ holds)))

  all_answered : (seat : HostSeat) (passes : Bool) (holds : List Hold) (last : Finish) →
      All (answered_by seat passes holds last)
  all_answered seat false holds last = all_leave seat holds last
  all_answered seat true [] last = tt
  all_answered seat true (one ∷ holds) last = all_shut seat (Some one) 0 holds (λ left. End last) (λ left. tt)

  all_follows : (seat : HostSeat) (wants : Bool) (count : ℕ) (holds : List Hold) (rest : Grammar) → All rest →
      All (follows seat wants count holds rest)
  all_follows seat true count holds rest so = (
    all_closings count holds (leave seat holds (finish.Answer answer.NoMemory))
        (all_leave seat holds (finish.Answer answer.NoMemory)),
    all_closings count holds rest so,
  )
  all_follows seat false count holds rest so = all_closings count holds rest so

  pub all_framed : (seat : HostSeat) (tree : RequestTree) (holds : List Hold) (marks : List ℕ) → Does P tree →
      All (framed seat tree holds marks)
  all_framed seat (Gives last) holds marks so =
      all_answered seat (passes_with last) holds (finish.Answer last)
  all_framed seat (Refuses told) holds marks so = all_leave seat holds (finish.Answer (refusal told))
  all_framed seat (Asks deed next) holds marks so = (
    so.0,
    λ told. all_follows seat (allocates (next told)) (closings_in deed told) (held deed told holds)
        (framed seat (next told) (held deed told holds) marks)
        (all_framed seat (next told) (held deed told holds) marks (so.1 told)),
  )
  all_framed seat (Opens asked scope next) holds marks so = (
    so.0,
    λ told. all_follows seat (allocates (next told)) 0 (opened scope told holds)
        (framed seat (next told) (opened scope told holds) marks)
        (all_framed seat (next told) (opened scope told holds) marks (so.1 told)),
  )
  all_framed seat (Bares rest) holds marks so =
      all_bare seat holds (λ left. framed seat rest left marks) (λ left. all_framed seat rest left marks so)
  all_framed seat (Brackets rest) holds marks so = all_framed seat rest holds (length holds ∷ marks) so
  all_framed seat (Shuts passes rest) holds marks so =
      all_shut seat (front passes holds) (mark_in marks) (behind passes holds)
      (λ left. framed seat rest left (outer marks)) (λ left. all_framed seat rest left (outer marks) so)
  all_framed seat (Allocates made next) holds marks so = all_framed seat (next made) holds marks so

  step_so : (deed : Deed) (did : Option Deed) (told : ActReply) → IsStepOf deed did told → P deed → IfMade P did
  step_so deed (Some same) NoCopy i p = subst P (sym i.0) p
  step_so deed (Some same) told i p = subst P (sym i) p
  step_so deed None told i p = tt

  pub steps_so : (grammar : Grammar) (steps : List Step) (end : Finish) → All grammar → Belongs grammar steps end →
      Each (λ step. IfMade P step.deed) steps
  steps_so (End last) [] end so b = tt
  steps_so (End last) (step ∷ steps) end so b = absurd b
  steps_so (Do deed owed next) [] end so b = absurd b
  steps_so (Do deed owed next) (step ∷ steps) end so b = (
    step_so deed step.deed step.reply b.0 so.0,
    steps_so (next step.reply) steps end (so.1 step.reply) b.1,
  )
  steps_so (May one other) steps end so (inl b) = steps_so one steps end so.0 b
  steps_so (May one other) steps end so (inr b) = steps_so other steps end so.1 b

  all_cut : (seat : HostSeat) (owed : Owed) → All (cut seat owed)
  all_cut seat owed =
      all_taken owed.taken owed.closings owed.holds _ (all_closings owed.closings owed.holds _
      (all_leave seat owed.holds (finish.Answer answer.Cut)))

  pub cut_so : (seat : HostSeat) (grammar : Grammar) (so_far rest : List Step) (end : Finish) → All grammar →
      CutAfter seat grammar so_far rest end → Each (λ step. IfMade P step.deed) (so_far ++ rest)
  cut_so seat (End last) so_far rest end so c = absurd c
  cut_so seat (Do deed owed next) [] rest end so c = steps_so (cut seat owed) rest end (all_cut seat owed) c
  cut_so seat (Do deed owed next) (step ∷ so_far) rest end so c = (
    step_so deed step.deed step.reply c.0 so.0,
    cut_so seat (next step.reply) so_far rest end (so.1 step.reply) c.1,
  )
  cut_so seat (May one other) so_far rest end so (inl c) = cut_so seat one so_far rest end so.0 c
  cut_so seat (May one other) so_far rest end so (inr c) = cut_so seat other so_far rest end so.1 c
