-- A job that is answered with an entry: by which reply it went on, and that its other steps follow.
use Rattle.std.proofs.Common.{◌≡◌, ◌⊎◌, inl, inr, ℕ, List, [], ◌∷◌, Option, Some, None, Bool, true, false, refl, sym}
use Rattle.std.proofs.Common.{ap, subst, ◌∙◌, ◌++◌, length}
use Rattle.pt_host.specs.Call.{Call}
use Rattle.pt_host.specs.Sorts.{Sort, OpensWith, EndsFd, OfSeat, Plain, sort_of}
use Rattle.pt_host.specs.Words.{Each}
use Rattle.pt_host.specs.declared.ids.Errno.{Errno}
use Rattle.pt_host.specs.declared.op.KeptHostOp.TheVariants as call
use Rattle.pt_host.specs.declared.seat.HostSeat.{HostSeat}
use Rattle.pt_tables.specs.Change.{Change}
use Rattle.pt_tables.specs.declared.event.KeptEvent.TheVariants as change
use Rattle.pt_tables.specs.declared.reply.EventReply.{EventReply}
use Rattle.pt_tables.specs.declared.reply.EventReply.TheVariants as event
use Rattle.pt_tables.specs.declared.reply.EventRefusal.{EventRefusal}
use Rattle.pt_tables.specs.declared.reply.EventRefusal.TheVariants as refused
use Rattle.pt_host.specs.declared.reply.HostReply.TheVariants as host
use Rattle.pt_iface.specs.declared.answer.Answer.{Answer}
use Rattle.pt_iface.specs.declared.answer.Answer.TheVariants as answer
use Rattle.pt_frame.specs.Deed.{Deed, Calls, Changes, Step, IsStepOf}
use Rattle.pt_frame.specs.Frame.{bare, behind, front, giving, mark_in, or_lost, outer}
use Rattle.pt_frame.specs.Held.{held, is_scope, opened}
use Rattle.pt_frame.specs.Replies.{closings_in, put_by, fault_in, refusal, event_refusal, passes_with}
use Rattle.pt_frame.specs.Grammar.{Grammar, Belongs}
use Rattle.pt_frame.specs.Tree.{RequestTree, Gives, Refuses, Asks, Opens, Bares, Brackets, Shuts, framed, follows}
use Rattle.pt_frame.specs.Tree.{allocates}
use Rattle.pt_frame.specs.declared.act.ActReply.{ActReply}
use Rattle.pt_frame.specs.declared.act.ActReply.TheVariants.{Event, Host, NoCopy}
use Rattle.pt_frame.specs.declared.finish.Finish.{Finish}
use Rattle.pt_frame.specs.declared.finish.Finish.TheVariants as finish
use Rattle.pt_frame.specs.declared.hold.Hold.{Hold}
use Rattle.pt_frame.specs.declared.hold.Hold.TheVariants as hold
use Rattle.pt_law.specs.Branch.{Along, AreOwn, IsLost, IsGivenUp, ReturnsHold}
use Rattle.pt_law.proofs.Branches.{branch, end_leave, end_shut, Ended}
use Rattle.pt_law.proofs.Giving.{own_quiet}
use Rattle.pt_law.proofs.Opening.{GivesNone, InsertsNone}
use Rattle.pt_law.specs.World.{made}

pub lost_up : (end : Finish) → IsLost end → IsGivenUp end
lost_up (finish.Lost errno) l = tt
lost_up (finish.Answer last) l = absurd l

pub ended_up : (end : Finish) → Ended (finish.Answer answer.NoMemory) end → IsGivenUp end
ended_up end (inl e) = subst IsGivenUp (sym e) tt
ended_up end (inr lost) = lost_up end lost

-- what follows a reply that told no closings
pub follows_plain : (seat : HostSeat) (wants : Bool) (count : ℕ) (holds : List Hold) (rest : Grammar)
    (steps : List Step) (end : Finish) → count ≡ 0 → Belongs (follows seat wants count holds rest) steps end →
    IsGivenUp end ⊎ Belongs rest steps end
follows_plain seat wants count holds rest steps end e b =
    go wants (subst (λ n. Belongs (follows seat wants n holds rest) steps end) e b)
  where
    go : (w : Bool) → Belongs (follows seat w 0 holds rest) steps end → IsGivenUp end ⊎ Belongs rest steps end
    go false b = inr b
    go true (inl b) =
        inl (ended_up end (end_leave seat holds (finish.Answer answer.NoMemory) steps end b).0)
    go true (inr b) = inr b

-- an answer with an entry
abbrev pub HasEntry : Answer → Type 0
HasEntry last = passes_with last ≡ true

-- what refuses has none
event_no_entry : (why : EventRefusal) → HasEntry (event_refusal why) → ⊥
event_no_entry refused.Memory e = cc
event_no_entry why e = cc

pub no_refusal : (told : ActReply) → HasEntry (refusal told) → ⊥
no_refusal (Event (event.Refused why)) e = event_no_entry why e
no_refusal (Host host.NoMemory) e = cc
no_refusal told e = cc

not_given_up : (last : Answer) → HasEntry last → IsGivenUp (finish.Answer last) → ⊥
not_given_up answer.NoMemory p g = cc
not_given_up last p g = g

-- by these steps a job that is to do what the tree says comes to this answer, whatever it holds
pub record Leads (seat : HostSeat) (tree : RequestTree) (steps : List Step) (last : Answer) : Type 0 where
  pub holds : List Hold
  pub marks : List ℕ
  pub belongs : Belongs (framed seat tree holds marks) steps (finish.Answer last)

-- an answer with an entry is that of a branch, whose steps are these but for some that give back
pub on_branch : (seat : HostSeat) (tree : RequestTree) (steps : List Step) (last : Answer) → HasEntry last →
    Leads seat tree steps last → (path : List Step) × AreOwn path steps × Along tree path last
on_branch seat tree steps last p l =
    elim (branch seat tree l.holds l.marks steps (finish.Answer last) l.belongs) [
      | inl lost ↦ absurd lost
      | inr (inl up) ↦ absurd (not_given_up last p (subst IsGivenUp (sym up.answered) tt))
      | inr (inr r) ↦ let same : r.1 ≡ last = cc in (r.0, r.2, subst (Along tree r.0) same r.4)
    ]

pub of_branch : (seat : HostSeat) (tree : RequestTree) (steps : List Step) (last : Answer) → HasEntry last →
    Leads seat tree steps last → (path : List Step) × Along tree path last
of_branch seat tree steps last p l = let b = on_branch seat tree steps last p l in (b.0, b.2)

pub refused_none : (seat : HostSeat) (told : ActReply) (steps : List Step) (last : Answer) → HasEntry last →
    Leads seat (Refuses told) steps last → ⊥
refused_none seat told steps last p l = let b = of_branch seat (Refuses told) steps last p l in go b.0 b.1
  where
    go : (path : List Step) → Along (Refuses told) path last → ⊥
    go [] e = no_refusal told (ap passes_with (sym e) ∙ p)
    go (step ∷ path) e = e

pub given_none : (seat : HostSeat) (given last : Answer) (steps : List Step) → HasEntry last →
    Leads seat (Gives given) steps last → last ≡ given
given_none seat given last steps p l = let b = of_branch seat (Gives given) steps last p l in go b.0 b.1
  where
    go : (path : List Step) → Along (Gives given) path last → last ≡ given
    go [] e = e
    go (step ∷ path) e = absurd e

pub shut_none : (seat : HostSeat) (given last : Answer) (steps : List Step) → HasEntry last →
    Leads seat (Shuts true (Gives given)) steps last → last ≡ given
shut_none seat given last steps p l =
    let b = of_branch seat (Shuts true (Gives given)) steps last p l in go b.0 b.1
  where
    go : (path : List Step) → Along (Gives given) path last → last ≡ given
    go [] e = e
    go (step ∷ path) e = absurd e

-- what gives a hold back gives no number, and inserts no handle
pub returns_give : (deed : Option Deed) (told : ActReply) → ReturnsHold deed → GivesNone deed told
returns_give (Some (Changes (change.Claim claim))) told h = absurd h
returns_give (Some (Changes (change.Insert new))) told h = absurd h
returns_give (Some (Changes asked)) told h = tt
returns_give (Some (Calls asked)) told h = tt
returns_give None told h = tt

pub returns_insert : (deed : Option Deed) (told : ActReply) → ReturnsHold deed → InsertsNone deed told
returns_insert (Some (Changes (change.InsertHandle new))) told h = absurd h
returns_insert (Some (Changes asked)) told h = tt
returns_insert (Some (Calls asked)) told h = tt
returns_insert None told h = tt

-- nor does what follows a bracket behind which it is answered
pub shut_gives : (seat : HostSeat) (given last : Answer) (steps : List Step) → HasEntry last →
    Leads seat (Shuts true (Gives given)) steps last →
    Each (λ (step : Step). GivesNone step.deed step.reply) steps
shut_gives seat given last steps p l =
    let b = on_branch seat (Shuts true (Gives given)) steps last p l in go b.0 b.1 b.2
  where
    go : (path : List Step) → AreOwn path steps → Along (Shuts true (Gives given)) path last →
        Each (λ (step : Step). GivesNone step.deed step.reply) steps
    go [] o a = own_quiet GivesNone returns_give [] steps o tt
    go (step ∷ path) o a = absurd a

-- an event that tells no closings
pub none_told : (asked : Change) → ((told : EventReply) → put_by asked told ≡ 0) → (told : ActReply) →
    closings_in (Changes asked) told ≡ 0
none_told asked f (Event told) = f told
none_told asked f (Host told) = refl
none_told asked f NoCopy = refl

-- it goes on by this reply to the deed
pub record GoesOn
    (seat : HostSeat)
    (deed : Deed)
    (next : ActReply → RequestTree)
    (steps : List Step)
    (last : Answer)
    : Type 0 where
  pub told : ActReply
  pub rest : List Step
  pub are : steps ≡ made deed told ∷ rest
  pub on : Leads seat (next told) rest last

pub goes_on : (seat : HostSeat) (deed : Deed) (next : ActReply → RequestTree) (steps : List Step) (last : Answer) →
    next NoCopy ≡ Refuses NoCopy → ((told : ActReply) → closings_in deed told ≡ 0) → HasEntry last →
    Leads seat (Asks deed next) steps last → GoesOn seat deed next steps last
goes_on seat deed next [] last n none p l = absurd l.belongs
goes_on seat deed next (step ∷ steps) last n none p l =
    go step.deed step.reply l.belongs.0 (elim (follows_plain seat (allocates (next step.reply))
    (closings_in deed step.reply) (held deed step.reply l.holds)
    (framed seat (next step.reply) (held deed step.reply l.holds) l.marks) steps (finish.Answer last)
    (none step.reply) l.belongs.1) [
      | inl up ↦ absurd (not_given_up last p up)
      | inr on ↦ record { holds = held deed step.reply l.holds; marks = l.marks; belongs = on }
    ])
  where
    go : (did : Option Deed) (told : ActReply) → IsStepOf deed did told → Leads seat (next told) steps last →
        GoesOn seat deed next (record { deed = did; reply = told } ∷ steps) last
    go did NoCopy i on =
        absurd (refused_none seat NoCopy steps last p (subst (λ tree. Leads seat tree steps last) n on))
    go (Some same) told i on =
        record { told = told; rest = steps; are = ap (λ (d : Deed). made d told ∷ steps) i; on = on }
    go None told i on = absurd i

lost_none : (errno : Errno) (last : Answer) → Ended (finish.Lost errno) (finish.Answer last) → ⊥
lost_none errno last (inl e) = cc
lost_none errno last (inr lost) = lost

-- a seat that was not restored is lost, and no answer has an entry then
not_lost : (seat : HostSeat) (fault : Option Errno) (holds : List Hold) (rest : Grammar) (steps : List Step)
    (last : Answer) → Belongs (or_lost seat fault holds rest) steps (finish.Answer last) →
    Belongs rest steps (finish.Answer last)
not_lost seat None holds rest steps last b = b
not_lost seat (Some errno) holds rest steps last b =
    absurd (lost_none errno last (end_leave seat holds (finish.Lost errno) steps (finish.Answer last) b).0)

-- A step that neither opens nor ends a descriptor, and is no event.

abbrev pub StillSort : Sort → Type 0
StillSort (OpensWith flags) = ⊥
StillSort (EndsFd fd) = ⊥
StillSort OfSeat = Unit {0}
StillSort Plain = Unit {0}

abbrev pub IsStill : Option Deed → Type 0
IsStill None = Unit {0}
IsStill (Some (Calls asked)) = StillSort (sort_of asked)
IsStill (Some (Changes asked)) = ⊥

still_of : (asked : Call) (did : Option Deed) (told : ActReply) → StillSort (sort_of asked) →
    IsStepOf (Calls asked) did told → IsStill did
still_of asked None told still i = tt
still_of asked (Some same) NoCopy still i = subst (λ (d : Deed). IsStill (Some d)) (sym i.0) still
still_of asked (Some same) told still i = subst (λ (d : Deed). IsStill (Some d)) (sym i) still

-- what ends a scope
still_given : (seat : HostSeat) (scope : Hold) (did : Option Deed) (told : ActReply) → is_scope scope ≡ true →
    IsStepOf (giving seat scope) did told → IsStill did
still_given seat hold.Groups did told e i = still_of (call.SetGroups seat.groups) did told tt i
still_given seat hold.EffectiveGid did told e i = still_of (call.SetEgid seat.eff_gid) did told tt i
still_given seat hold.EffectiveUid did told e i = still_of (call.SetEuid seat.eff_uid) did told tt i
still_given seat (hold.Dropped caps) did told e i = still_of (call.RaiseCap caps) did told tt i
still_given seat hold.Umask did told e i = still_of (call.SetUmask seat.umask) did told tt i
still_given seat scope did told e i = absurd (cc)

-- a call's first step, and what follows its reply
pub record Replied
    (seat : HostSeat)
    (asked : Call)
    (next : ActReply → RequestTree)
    (steps : List Step)
    (last : Answer)
    : Type 0 where
  pub did : Option Deed
  pub told : ActReply
  pub rest : List Step
  pub are : steps ≡ record { deed = did; reply = told } ∷ rest
  pub is : IsStepOf (Calls asked) did told
  pub on : Leads seat (next told) rest last

pub replied : (seat : HostSeat) (asked : Call) (next : ActReply → RequestTree) (steps : List Step) (last : Answer) →
    HasEntry last → Leads seat (Asks (Calls asked) next) steps last → Replied seat asked next steps last
replied seat asked next [] last p l = absurd l.belongs
replied seat asked next (step ∷ steps) last p l =
    elim (follows_plain seat (allocates (next step.reply)) 0
    (held (Calls asked) step.reply l.holds)
    (framed seat (next step.reply) (held (Calls asked) step.reply l.holds) l.marks) steps (finish.Answer last)
    refl l.belongs.1) [
      | inl up ↦ absurd (not_given_up last p up)
      | inr on ↦ record {
        did = step.deed;
        told = step.reply;
        rest = steps;
        are = refl;
        is = l.belongs.0;
        on = record { holds = held (Calls asked) step.reply l.holds; marks = l.marks; belongs = on };
      }
    ]

-- What holds of the steps that are left, and of these with a still one more before them: it holds of a call's and
-- those that follow, where it holds of what follows each reply.
module _ (seat : HostSeat) (last : Answer) (p : HasEntry last) (Q : List Step → Type 0)
    (more : (step : Step) (steps : List Step) → IsStill step.deed → Q steps → Q (step ∷ steps)) where
  pub calls_on : (asked : Call) (next : ActReply → RequestTree) (steps : List Step) → StillSort (sort_of asked) →
      ((told : ActReply) (rest : List Step) → Leads seat (next told) rest last → Q rest) →
      Leads seat (Asks (Calls asked) next) steps last → Q steps
  calls_on asked next steps still f l =
      let r = replied seat asked next steps last p l in
      subst Q (sym r.are) (more (record { deed = r.did; reply = r.told }) r.rest
      (still_of asked r.did r.told still r.is) (f r.told r.rest r.on))

  -- of a call that opens a scope
  pub opens_on : (asked : Call) (scope : Hold) (next : ActReply → RequestTree) (steps : List Step) →
      StillSort (sort_of asked) →
      ((told : ActReply) (rest : List Step) → Leads seat (next told) rest last → Q rest) →
      Leads seat (Opens asked scope next) steps last → Q steps
  opens_on asked scope next [] still f l = absurd l.belongs
  opens_on asked scope next (step ∷ steps) still f l =
      elim (follows_plain seat (allocates (next step.reply)) 0 (opened scope step.reply l.holds)
      (framed seat (next step.reply) (opened scope step.reply l.holds) l.marks) steps (finish.Answer last)
      refl l.belongs.1) [
        | inl up ↦ absurd (not_given_up last p up)
        | inr on ↦ more step steps (still_of asked step.deed step.reply still l.belongs.0) (f step.reply steps
            (record { holds = opened scope step.reply l.holds; marks = l.marks; belongs = on }))
      ]

  -- and of the ends of scopes
  bared_on : (rest : RequestTree) (holds : List Hold) (marks : List ℕ) (steps : List Step) →
      ((later : List Step) → Leads seat rest later last → Q later) →
      Belongs (bare seat holds (λ left. framed seat rest left marks)) steps (finish.Answer last) → Q steps
  bared_on rest [] marks steps f b = f steps (record { holds = []; marks = marks; belongs = b })
  bared_on rest (hold.Pin row fd ∷ holds) marks steps f b =
      f steps (record { holds = hold.Pin row fd ∷ holds; marks = marks; belongs = b })
  bared_on rest (hold.HandlePin row fd ∷ holds) marks steps f b =
      f steps (record { holds = hold.HandlePin row fd ∷ holds; marks = marks; belongs = b })
  bared_on rest (hold.Fd fd ∷ holds) marks steps f b =
      f steps (record { holds = hold.Fd fd ∷ holds; marks = marks; belongs = b })
  bared_on rest (hold.Slot class ∷ holds) marks steps f b =
      f steps (record { holds = hold.Slot class ∷ holds; marks = marks; belongs = b })
  bared_on rest (hold.Count era number ∷ holds) marks steps f b =
      f steps (record { holds = hold.Count era number ∷ holds; marks = marks; belongs = b })
  bared_on rest (scope ∷ holds) marks [] f b = absurd b
  bared_on rest (scope ∷ holds) marks (step ∷ steps) f b =
      more step steps (still_given seat scope step.deed step.reply refl b.0) (bared_on rest holds marks steps f
      (not_lost seat (fault_in step.reply) holds (bare seat holds (λ left. framed seat rest left marks)) steps last
      b.1))

  pub bares_on : (rest : RequestTree) (steps : List Step) →
      ((later : List Step) → Leads seat rest later last → Q later) → Leads seat (Bares rest) steps last → Q steps
  bares_on rest steps f l = bared_on rest l.holds l.marks steps f l.belongs

-- where a bracket ends its holds go back, and then the rest follows
pub shuts_on : (seat : HostSeat) (passes : Bool) (rest : RequestTree) (steps : List Step) (last : Answer) →
    Leads seat (Shuts passes rest) steps last →
    (passed : List Step) × (later : List Step) × (steps ≡ passed ++ later) × Leads seat rest later last
shuts_on seat passes rest steps last l =
    elim (end_shut seat (front passes l.holds) (mark_in l.marks) (behind passes l.holds) (λ left.
    framed seat rest left (outer l.marks)) steps (finish.Answer last) l.belongs) [
      | inl lost ↦ absurd lost
      | inr k ↦ (
        k.1.backs.passed,
        k.1.later,
        k.1.backs.are,
        record { holds = k.0; marks = outer l.marks; belongs = k.1.belongs },
      )
    ]

-- a bracket asks nothing itself
pub in_bracket : (seat : HostSeat) (rest : RequestTree) (steps : List Step) (last : Answer) →
    Leads seat (Brackets rest) steps last → Leads seat rest steps last
in_bracket seat rest steps last l =
    record { holds = l.holds; marks = length l.holds ∷ l.marks; belongs = l.belongs }
