-- Each answer is that of a branch of the tree, or the job gave up or lost its seat.
use Rattle.std.proofs.Common.{◌≡◌, ◌⊎◌, inl, inr, ℕ, zero, suc, List, [], ◌∷◌, length, Bool, true, false, Option}
use Rattle.std.proofs.Common.{◌++◌, ap, append_assoc}
use Rattle.std.proofs.Common.{Some, None, refl, sym, subst, ◌∙◌, if◌then◌else◌, nat_lt}
use Rattle.pt_host.specs.declared.ids.Errno.{Errno}
use Rattle.pt_host.specs.declared.seat.HostSeat.{HostSeat}
use Rattle.pt_host.specs.declared.op.KeptHostOp.TheVariants as call
use Rattle.pt_tables.specs.declared.event.KeptEvent.TheVariants as change
use Rattle.pt_iface.specs.declared.answer.Answer.{Answer}
use Rattle.pt_iface.specs.declared.answer.Answer.TheVariants as answer
use Rattle.pt_frame.specs.Deed.{Deed, Calls, Changes, Step, IsStepOf}
use Rattle.pt_frame.specs.Held.{is_scope, held, opened}
use Rattle.pt_frame.specs.Replies.{closings_in, taken_in, restored, refusal, passes_with, is_cut, fault_if}
use Rattle.pt_frame.specs.Grammar.{Grammar, End, Belongs}
use Rattle.pt_frame.specs.Frame.{giving, closings, give_taken, give, leave, or_lost, bare_one, bare, shut, front}
use Rattle.pt_frame.specs.Frame.{behind}
use Rattle.pt_frame.specs.Frame.{under, mark_in, outer, answered_by}
use Rattle.pt_frame.specs.Tree.{RequestTree, Gives, Refuses, Asks, Opens, Bares, Brackets, Shuts, Allocates, framed}
use Rattle.pt_frame.specs.Tree.{follows}
use Rattle.pt_frame.specs.Tree.{allocates}
use Rattle.pt_frame.specs.declared.act.ActReply.{ActReply}
use Rattle.pt_frame.specs.declared.act.ActReply.TheVariants.{NoCopy}
use Rattle.pt_frame.specs.declared.finish.Finish.{Finish}
use Rattle.pt_frame.specs.declared.finish.Finish.TheVariants as finish
use Rattle.pt_frame.specs.declared.hold.Hold.{Hold}
use Rattle.pt_frame.specs.declared.hold.Hold.TheVariants as hold
use Rattle.pt_frame.specs.declared.hold.Taken.{Taken}
use Rattle.pt_frame.specs.declared.hold.Taken.TheVariants as taken
use Rattle.pt_law.specs.Branch.{Along, GivesUpAfter, ReturnsHold, AreOwn, AreOwn.{none, keep, skip}}
use Rattle.pt_law.specs.Branch.{IsLost, GaveUp, IsOfBranch}

-- a step of a deed that gives back
back_step : (deed : Deed) (made : Option Deed) (told : ActReply) → IsStepOf deed made told →
    ReturnsHold (Some deed) → ReturnsHold made
back_step deed (Some same) NoCopy i g = subst (λ (d : Deed). ReturnsHold (Some d)) (sym i.0) g
back_step deed (Some same) told i g = subst (λ (d : Deed). ReturnsHold (Some d)) (sym i) g
back_step deed None told i g = tt

giving_gives : (seat : HostSeat) (one : Hold) → ReturnsHold (Some (giving seat one))
giving_gives seat (hold.Pin row fd) = tt
giving_gives seat (hold.HandlePin row fd) = tt
giving_gives seat (hold.Fd fd) = tt
giving_gives seat (hold.Slot class) = tt
giving_gives seat (hold.Count era number) = tt
giving_gives seat hold.Groups = tt
giving_gives seat hold.EffectiveGid = tt
giving_gives seat hold.EffectiveUid = tt
giving_gives seat (hold.Dropped caps) = tt
giving_gives seat hold.Umask = tt

-- the later steps are the last of these, and those before them give back
pub record Backs (later steps : List Step) : Type 0 where
  pub passed : List Step
  pub are : steps ≡ passed ++ later
  pub own : (path : List Step) → AreOwn path later → AreOwn path steps

backs_none : (steps : List Step) → Backs steps steps
backs_none steps = record { passed = []; are = refl; own = λ path s. s }

backs_one : (step : Step) (later steps : List Step) → ReturnsHold step.deed → Backs later steps →
    Backs later (step ∷ steps)
backs_one step later steps g b = record {
  passed = step ∷ b.passed;
  are = ap (λ (z : List Step). step ∷ z) b.are;
  own = λ path s. skip g (b.own path s);
}

backs_on : (last later steps : List Step) → Backs last later → Backs later steps → Backs last steps
backs_on last later steps a b =
    record {
      passed = b.passed ++ a.passed;
      are = b.are ∙ ap (λ (z : List Step). b.passed ++ z) a.are ∙ sym (append_assoc b.passed a.passed last);
      own = λ path s. b.own path (a.own path s);
    }

-- the last of the steps belong to the rest, and those before them give back
pub record Reached (rest : Grammar) (steps : List Step) (end : Finish) : Type 0 where
  pub later : List Step
  pub backs : Backs later steps
  pub belongs : Belongs rest later end

reached_on : (rest more : Grammar) (steps : List Step) (end : Finish) (r : Reached more steps end) →
    Reached rest r.later end → Reached rest steps end
reached_on rest more steps end r s =
    record { later = s.later; backs = backs_on s.later r.later steps s.backs r.backs; belongs = s.belongs }

pub pass_taken : (brings : Taken) (count : ℕ) (holds : List Hold) (rest : Grammar) (steps : List Step)
    (end : Finish) →
    Belongs (give_taken brings count holds rest) steps end → Reached rest steps end
pass_taken taken.Nothing count holds rest steps end b =
    record { later = steps; backs = backs_none steps; belongs = b }
pass_taken (taken.Slot class) count holds rest [] end b = absurd b
pass_taken (taken.Slot class) count holds rest (step ∷ steps) end b = record {
  later = steps;
  backs = backs_one step steps steps (back_step (Changes (change.GiveFd class)) step.deed step.reply b.0 tt)
      (backs_none steps);
  belongs = b.1;
}
pass_taken (taken.Fd fd true class) count holds rest [] end b = absurd b
pass_taken (taken.Fd fd true class) count holds rest (step ∷ []) end b = absurd b.1
pass_taken (taken.Fd fd true class) count holds rest (step ∷ other ∷ steps) end b = record {
  later = steps;
  backs = backs_one step steps (other ∷ steps) (back_step (Calls (call.Close fd)) step.deed step.reply b.0 tt)
      (backs_one other steps steps (back_step (Changes (change.GiveFd class)) other.deed other.reply b.1.0 tt)
      (backs_none steps));
  belongs = b.1.1;
}
pass_taken (taken.Fd fd false class) count holds rest [] end b = absurd b
pass_taken (taken.Fd fd false class) count holds rest (step ∷ steps) end b = record {
  later = steps;
  backs = backs_one step steps steps (back_step (Calls (call.Close fd)) step.deed step.reply b.0 tt)
      (backs_none steps);
  belongs = b.1;
}

pub pass_closings : (count : ℕ) (holds : List Hold) (rest : Grammar) (steps : List Step) (end : Finish) →
    Belongs (closings count holds rest) steps end → Reached rest steps end
pass_closings zero holds rest steps end b = record { later = steps; backs = backs_none steps; belongs = b }
pass_closings (suc count) holds rest [] end b = absurd b
pass_closings (suc count) holds rest (step ∷ steps) end b =
    let k = pass_taken (taken_in step.reply) count holds (closings count holds rest) steps end b.1 in
    let m = pass_closings count holds rest k.later end k.belongs in
    record {
      later = m.later;
      backs = backs_one step m.later steps (back_step (Changes change.TakeClosing) step.deed step.reply b.0 tt)
          (backs_on m.later k.later steps m.backs k.backs);
      belongs = m.belongs;
    }

pub pass_give : (seat : HostSeat) (one : Hold) (holds left : List Hold) (next : Option Errno → Grammar)
    (steps : List Step) (end : Finish) → Belongs (give seat one holds left next) steps end →
    (fault : Option Errno) × Reached (next fault) steps end
pass_give seat one holds left next [] end b = absurd b
pass_give seat one holds left next (step ∷ steps) end b =
    let fault = fault_if (is_scope one) step.reply in
    let k = pass_closings (closings_in (giving seat one) step.reply) left (next fault) steps end b.1 in (
      fault,
      record {
        later = k.later;
        backs = backs_one step k.later steps
            (back_step (giving seat one) step.deed step.reply b.0 (giving_gives seat one)) k.backs;
        belongs = k.belongs;
      },
    )

-- an end that is this, or a lost seat
abbrev pub Ended : Finish → Finish → Type 0
Ended last end = (end ≡ last) ⊎ IsLost end

lost_as : (last end : Finish) → end ≡ last → IsLost last → IsLost end
lost_as last end e g = subst IsLost (sym e) g

restored_is : (last : Finish) (fault : Option Errno) → (restored last fault ≡ last) ⊎ IsLost (restored last fault)
restored_is last None = inl refl
restored_is (finish.Lost first) (Some errno) = inl refl
restored_is (finish.Answer told) (Some errno) = go (is_cut told)
  where
    go : (b : Bool) → ((if b then finish.Answer told else finish.Lost errno) ≡ finish.Answer told)
        ⊎ IsLost (if b then finish.Answer told else finish.Lost errno)
    go true = inl refl
    go false = inr tt

after_restored : (last : Finish) (fault : Option Errno) (end : Finish) → Ended (restored last fault) end →
    Ended last end
after_restored last fault end (inl e) = elim (restored_is last fault) [
  | inl same ↦ inl (e ∙ same)
  | inr g ↦ inr (lost_as (restored last fault) end e g)
]
after_restored last fault end (inr g) = inr g

own_none : (later steps : List Step) → Backs later steps → AreOwn [] later → AreOwn [] steps
own_none later steps b o = b.own [] o

pub end_leave : (seat : HostSeat) (holds : List Hold) (last : Finish) (steps : List Step) (end : Finish) →
    Belongs (leave seat holds last) steps end → Ended last end × AreOwn [] steps
end_leave seat [] last [] end b = (inl b, none)
end_leave seat [] last (step ∷ steps) end b = absurd b
end_leave seat (one ∷ holds) last steps end b =
    let k = pass_give seat one (one ∷ holds) holds (λ fault. leave seat holds (restored last fault)) steps end b in
    let l = end_leave seat holds (restored last k.0) k.1.later end k.1.belongs in
    (after_restored last k.0 end l.0, k.1.backs.own [] l.1)

-- after a fault the seat is lost, or else the rest follows
end_or_lost : (seat : HostSeat) (fault : Option Errno) (holds : List Hold) (next : Grammar) (steps : List Step)
    (end : Finish) → Belongs (or_lost seat fault holds next) steps end → IsLost end ⊎ Belongs next steps end
end_or_lost seat None holds next steps end b = inr b
end_or_lost seat (Some errno) holds next steps end b = elim (end_leave seat holds (finish.Lost errno) steps end b).0 [
  | inl e ↦ inl (lost_as (finish.Lost errno) end e tt)
  | inr g ↦ inl g
]

-- what is reached, whatever is held there
abbrev pub ReachedFrom : (List Hold → Grammar) → List Step → Finish → Type 0
ReachedFrom next steps end = IsLost end ⊎ ((left : List Hold) × Reached (next left) steps end)

reach_on : (next : List Hold → Grammar) (more : Grammar) (steps : List Step) (end : Finish)
    (r : Reached more steps end) → ReachedFrom next r.later end → ReachedFrom next steps end
reach_on next more steps end r (inl g) = inl g
reach_on next more steps end r (inr s) = inr (s.0, reached_on (next s.0) more steps end r s.1)

pub end_shut : (seat : HostSeat) (passing : Option Hold) (mark : ℕ) (holds : List Hold) (next : List Hold → Grammar)
    (steps : List Step) (end : Finish) → Belongs (shut seat passing mark holds next) steps end →
    ReachedFrom next steps end
end_shut seat passing mark [] next steps end b =
    inr (under passing [], record { later = steps; backs = backs_none steps; belongs = b })
end_shut seat passing mark (one ∷ holds) next steps end b =
    go (nat_lt mark (length (one ∷ holds))) (λ later. end_shut seat passing mark holds next later end) b
  where
    gave : (fault : Option Errno)
        × Reached (or_lost seat fault (under passing holds) (shut seat passing mark holds next)) steps end →
        ((later : List Step) → Belongs (shut seat passing mark holds next) later end → ReachedFrom next later end) →
        ReachedFrom next steps end
    gave k f = elim (end_or_lost seat k.0 (under passing holds) (shut seat passing mark holds next) k.1.later end
        k.1.belongs) [
          | inl g ↦ inl g
          | inr on ↦ reach_on next _ steps end k.1 (f k.1.later on)
        ]

    go : (b : Bool) →
        ((later : List Step) → Belongs (shut seat passing mark holds next) later end → ReachedFrom next later end) →
        Belongs (if b then give seat one (under passing (one ∷ holds)) (under passing holds) (λ fault.
        or_lost seat fault (under passing holds) (shut seat passing mark holds next))
        else next (under passing (one ∷ holds))) steps end → ReachedFrom next steps end
    go true f r = gave (pass_give seat one (under passing (one ∷ holds)) (under passing holds) (λ fault.
        or_lost seat fault (under passing holds) (shut seat passing mark holds next)) steps end r) f
    go false f r =
        inr (under passing (one ∷ holds), record { later = steps; backs = backs_none steps; belongs = r })

end_bare : (seat : HostSeat) (holds : List Hold) (next : List Hold → Grammar) (steps : List Step) (end : Finish) →
    Belongs (bare seat holds next) steps end → ReachedFrom next steps end
end_bare seat [] next steps end b =
    inr ([], record { later = steps; backs = backs_none steps; belongs = b })
end_bare seat (one ∷ holds) next steps end b =
    go (is_scope one) (λ later. end_bare seat holds next later end) b
  where
    gave : (fault : Option Errno) × Reached (or_lost seat fault holds (bare seat holds next)) steps end →
        ((later : List Step) → Belongs (bare seat holds next) later end → ReachedFrom next later end) →
        ReachedFrom next steps end
    gave k f = elim (end_or_lost seat k.0 holds (bare seat holds next) k.1.later end k.1.belongs) [
      | inl g ↦ inl g
      | inr on ↦ reach_on next _ steps end k.1 (f k.1.later on)
    ]

    go : (b : Bool) →
        ((later : List Step) → Belongs (bare seat holds next) later end → ReachedFrom next later end) →
        Belongs (bare_one seat b one holds (bare seat holds next) next) steps end → ReachedFrom next steps end
    go true f r = gave (pass_give seat one (one ∷ holds) holds (λ fault.
        or_lost seat fault holds (bare seat holds next)) steps end r) f
    go false f r = inr (one ∷ holds, record { later = steps; backs = backs_none steps; belongs = r })

pub at_end : (last : Finish) (steps : List Step) (end : Finish) → Belongs (End last) steps end →
    (end ≡ last) × AreOwn [] steps
at_end last [] end b = (b, none)
at_end last (step ∷ steps) end b = absurd b

-- how a job with this tree may come to its end
abbrev pub Comes : RequestTree → List Step → Finish → Type 0
Comes tree steps end = IsLost end ⊎ (GaveUp tree steps end ⊎ IsOfBranch tree end steps)

-- an end is the answer of a leaf, or a lost seat
at_leaf : (tree : RequestTree) (last : Answer) (steps : List Step) (end : Finish) → Along tree [] last →
    Ended (finish.Answer last) end → AreOwn [] steps → Comes tree steps end
at_leaf tree last steps end a (inl e) own = inr (inr ([], last, own, e, a))
at_leaf tree last steps end a (inr g) own = inl g

at_answer : (seat : HostSeat) (passes : Bool) (holds : List Hold) (tree : RequestTree) (last : Answer)
    (steps : List Step)
    (end : Finish) → Along tree [] last → Belongs (answered_by seat passes holds (finish.Answer last)) steps end →
    Comes tree steps end
at_answer seat true [] tree last steps end a b = let l = end_leave seat [] (finish.Answer last) steps end b in
    at_leaf tree last steps end a l.0 l.1
at_answer seat true (one ∷ holds) tree last steps end a b =
    elim (end_shut seat (Some one) 0 holds (λ left. End (finish.Answer last)) steps end b) [
      | inl g ↦ inl g
      | inr k ↦ let l = at_end (finish.Answer last) k.1.later end k.1.belongs in
          at_leaf tree last steps end a (inl l.0) (k.1.backs.own [] l.1)
    ]
at_answer seat false holds tree last steps end a b =
    let l = end_leave seat holds (finish.Answer last) steps end b in
    at_leaf tree last steps end a l.0 l.1

-- what may follow a reply: the job gives up, or goes on
end_follows : (seat : HostSeat) (wants : Bool) (count : ℕ) (holds : List Hold) (rest : Grammar) (steps : List Step)
    (end : Finish) → Belongs (follows seat wants count holds rest) steps end →
    ((wants ≡ true) × Ended (finish.Answer answer.NoMemory) end × AreOwn [] steps) ⊎ Reached rest steps end
end_follows seat false count holds rest steps end b = inr (pass_closings count holds rest steps end b)
end_follows seat true count holds rest steps end (inl b) =
    let k = pass_closings count holds (leave seat holds (finish.Answer answer.NoMemory)) steps end b in
    let l = end_leave seat holds (finish.Answer answer.NoMemory) k.later end k.belongs in
    inl (refl, l.0, k.backs.own [] l.1)
end_follows seat true count holds rest steps end (inr b) = inr (pass_closings count holds rest steps end b)

-- a step of the tree's own comes before
comes_after : (tree next : RequestTree) (step : Step) (later steps : List Step) (end : Finish) →
    ((path : List Step) (last : Answer) → Along next path last → Along tree (step ∷ path) last) →
    ((path : List Step) → GivesUpAfter next path → GivesUpAfter tree (step ∷ path)) → Backs later steps →
    Comes next later end → Comes tree (step ∷ steps) end
comes_after tree next step later steps end f g b (inl lost) = inl lost
comes_after tree next step later steps end f g b (inr (inl gave)) =
    inr (inl (record {
      answered = gave.answered;
      path = step ∷ gave.path;
      own = keep (b.own gave.path gave.own);
      up = g gave.path gave.up;
    }))
comes_after tree next step later steps end f g b (inr (inr r)) =
    inr (inr (step ∷ r.0, r.1, keep (b.own r.0 r.2), r.3, f r.0 r.1 r.4))

-- nothing of the tree's own comes before
comes_still : (tree next : RequestTree) (later steps : List Step) (end : Finish) →
    ((path : List Step) (last : Answer) → Along next path last → Along tree path last) →
    ((path : List Step) → GivesUpAfter next path → GivesUpAfter tree path) → Backs later steps →
    Comes next later end → Comes tree steps end
comes_still tree next later steps end f g b (inl lost) = inl lost
comes_still tree next later steps end f g b (inr (inl gave)) =
    inr (inl (record {
      answered = gave.answered;
      path = gave.path;
      own = b.own gave.path gave.own;
      up = g gave.path gave.up;
    }))
comes_still tree next later steps end f g b (inr (inr r)) =
    inr (inr (r.0, r.1, b.own r.0 r.2, r.3, f r.0 r.1 r.4))

-- the job gave up after a step
gives_up : (tree : RequestTree) (step : Step) (steps : List Step) (end : Finish) → GivesUpAfter tree (step ∷ []) →
    Ended (finish.Answer answer.NoMemory) end → AreOwn [] steps → Comes tree (step ∷ steps) end
gives_up tree step steps end g (inl e) own =
    inr (inl (record { answered = e; path = step ∷ []; own = keep own; up = g }))
gives_up tree step steps end g (inr lost) own = inl lost

pub branch : (seat : HostSeat) (tree : RequestTree) (holds : List Hold) (marks : List ℕ) (steps : List Step)
    (end : Finish) → Belongs (framed seat tree holds marks) steps end → Comes tree steps end
branch seat (Gives last) holds marks steps end b =
    at_answer seat (passes_with last) holds (Gives last) last steps end refl b
branch seat (Refuses told) holds marks steps end b =
    let l = end_leave seat holds (finish.Answer (refusal told)) steps end b in
    at_leaf (Refuses told) (refusal told) steps end refl l.0 l.1
branch seat (Asks deed next) holds marks [] end b = absurd b
branch seat (Asks deed next) holds marks (step ∷ steps) end b =
    elim (end_follows seat (allocates (next step.reply)) (closings_in deed step.reply)
    (held deed step.reply holds) (framed seat (next step.reply) (held deed step.reply holds) marks) steps end b.1) [
      | inl up ↦ gives_up (Asks deed next) step steps end (b.0, inl (refl, up.0)) up.1 up.2
      | inr k ↦ comes_after (Asks deed next) (next step.reply) step k.later steps end (λ path last a. (b.0, a))
          (λ path a. (b.0, inr a)) k.backs
          (branch seat (next step.reply) (held deed step.reply holds) marks k.later end k.belongs)
    ]
branch seat (Opens asked scope next) holds marks [] end b = absurd b
branch seat (Opens asked scope next) holds marks (step ∷ steps) end b =
    elim (end_follows seat (allocates (next step.reply)) 0 (opened scope step.reply holds)
    (framed seat (next step.reply) (opened scope step.reply holds) marks) steps end b.1) [
      | inl up ↦ gives_up (Opens asked scope next) step steps end (b.0, inl (refl, up.0)) up.1 up.2
      | inr k ↦ comes_after (Opens asked scope next) (next step.reply) step k.later steps end
          (λ path last a. (b.0, a)) (λ path a. (b.0, inr a)) k.backs
          (branch seat (next step.reply) (opened scope step.reply holds) marks k.later end k.belongs)
    ]
branch seat (Bares rest) holds marks steps end b =
    elim (end_bare seat holds (λ left. framed seat rest left marks) steps end b) [
      | inl g ↦ inl g
      | inr k ↦ comes_still (Bares rest) rest k.1.later steps end (λ path last a. a) (λ path a. a) k.1.backs
          (branch seat rest k.0 marks k.1.later end k.1.belongs)
    ]
branch seat (Brackets rest) holds marks steps end b =
    comes_still (Brackets rest) rest steps steps end (λ path last a. a) (λ path a. a) (backs_none steps)
    (branch seat rest holds (length holds ∷ marks) steps end b)
branch seat (Shuts passes rest) holds marks steps end b =
    elim (end_shut seat (front passes holds) (mark_in marks) (behind passes holds) (λ left.
    framed seat rest left (outer marks)) steps end b) [
      | inl g ↦ inl g
      | inr k ↦ comes_still (Shuts passes rest) rest k.1.later steps end (λ path last a. a) (λ path a. a) k.1.backs
          (branch seat rest k.0 (outer marks) k.1.later end k.1.belongs)
    ]
branch seat (Allocates made next) holds marks steps end b =
    comes_still (Allocates made next) (next made) steps steps end (λ path last a. a) (λ path a. a) (backs_none steps)
    (branch seat (next made) holds marks steps end b)
