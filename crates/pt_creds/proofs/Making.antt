-- Lists of calls that were made, one behind the other, and what the host's promises say of them.
use Rattle.std.proofs.Common.{◌≡◌, ◌≤◌, ◌⊎◌, ℕ, List, [], ◌∷◌, ◌++◌, refl, sym, ap, ◌∙◌, subst, inl, inr, Result, Ok}
use Rattle.std.proofs.Common.{Err, arith}
use Rattle.std.specs.Result.{result_and}
use Rattle.pt_host.specs.Call.{Call}
use Rattle.pt_host.specs.Promises.{HasRisen, IsPromised}
use Rattle.pt_host.specs.SeatCalls.{seat_row}
use Rattle.pt_host.specs.SeatStep.{SeatStep, RowAnswers, row_left}
use Rattle.pt_host.specs.declared.ids.Errno.{Errno}
use Rattle.pt_host.specs.declared.seat.HostSeat.{HostSeat}
use Rattle.pt_host.specs.declared.reply.HostReply.{HostReply}
use Rattle.pt_host.specs.declared.reply.HostReply.TheVariants as reply
use Rattle.pt_host.specs.Relation.{HostRelation}
use Rattle.pt_creds.specs.Calls.{CallMade, CallsLead, asked_in, IsDone, AllDone, FailsWith}
use Rattle.pt_creds.specs.Calls.{FirstFaults}
use Rattle.pt_creds.specs.Progress.{IsOutcome, FirstFails, IsOutcomeOf}
use Rattle.pt_creds.specs.Guard.{Guarded, calls_back}
use Rattle.pt_creds.specs.Progress.{Plays, FitsSeat, TellsWhy, IsUndone}
use Rattle.pt_creds.specs.declared.error.CredError.{CredError}

-- what every host keeps
abbrev pub Law : {H : Type 0} → HostRelation H → (H → ℕ) → Type 0
Law {H} does faults =
    (host : H) (seat : HostSeat) (asked : Call) (told : HostReply) (after : H) (seat_after : HostSeat) →
    does host seat asked told after seat_after → IsPromised (faults host) seat asked told (faults after) seat_after

pub makes_on : {H : Type 0} (does : HostRelation H) (first second : List CallMade) (h0 h1 h2 : H)
    (s0 s1 s2 : HostSeat) → CallsLead does first h0 s0 h1 s1 → CallsLead does second h1 s1 h2 s2 →
    CallsLead does (first ++ second) h0 s0 h2 s2
makes_on does [] second h0 h1 h2 s0 s1 s2 before after = rw (← before.0, ← before.1) after
makes_on does (made ∷ first) second h0 h1 h2 s0 s1 s2 before after =
    (before.0, before.1, before.2, makes_on does first second before.0 h1 h2 before.1 s1 s2 before.3 after)

pub asked_on : (first second : List CallMade) → asked_in (first ++ second) ≡ asked_in first ++ asked_in second
asked_on [] second = refl
asked_on (made ∷ first) second = ap (λ asked. made.asked ∷ asked) (asked_on first second)

pub done_on : (first second : List CallMade) → AllDone first → AllDone second → AllDone (first ++ second)
done_on [] second done also = also
done_on (made ∷ first) second done also = (done.0, done_on first second done.1 also)

fails_before : (first second : List CallMade) (errno : Errno) → FirstFails first errno →
    FirstFails (first ++ second) errno
fails_before [] second errno fails = absurd fails
fails_before (made ∷ first) second errno (inl fails) = inl fails
fails_before (made ∷ first) second errno (inr later) = inr (later.0, fails_before first second errno later.1)

fails_behind : (first second : List CallMade) (errno : Errno) → AllDone first → FirstFails second errno →
    FirstFails (first ++ second) errno
fails_behind [] second errno done fails = fails
fails_behind (made ∷ first) second errno done fails = inr (done.0, fails_behind first second errno done.1 fails)

outcome_on : (first second : List CallMade) (one other : Result Unit Errno) → IsOutcomeOf first one →
    IsOutcomeOf second other →
    IsOutcomeOf (first ++ second) (result_and one other)
outcome_on first second (Ok done) (Ok also) one other = done_on first second one other
outcome_on first second (Ok done) (Err errno) one other = fails_behind first second errno one other
outcome_on first second (Err errno) other one then = fails_before first second errno one

-- calls that were all made, and then others
pub plays_on : {H : Type 0} (does : HostRelation H) (first second : List Call) (h0 h1 h2 : H) (s0 s1 s2 : HostSeat)
    (one other : Result Unit Errno) →
    Plays does first h0 s0 h1 s1 one → Plays does second h1 s1 h2 s2 other →
    Plays does (first ++ second) h0 s0 h2 s2 (result_and one other)
plays_on does first second h0 h1 h2 s0 s1 s2 one other before after = (
  before.0 ++ after.0,
  makes_on does before.0 after.0 h0 h1 h2 s0 s1 s2 before.1 after.1,
  asked_on before.0 after.0 ∙ ap (λ calls. calls ++ asked_in after.0) before.2 ∙ ap (λ calls. first ++ calls) after.2,
  outcome_on before.0 after.0 one other before.3 after.3,
)

outcome_of_one : (made : CallMade) (result : Result Unit Errno) → IsOutcome made.told result →
    IsOutcomeOf (made ∷ []) result
outcome_of_one made (Ok done) is = (is, tt)
outcome_of_one made (Err errno) is = inl is

-- one call that was made
pub plays_one : {H : Type 0} (does : HostRelation H) (asked : Call) (h0 h1 : H) (s0 s1 : HostSeat)
    (result : Result Unit Errno) →
    ((told : HostReply) × does h0 s0 asked told h1 s1 × IsOutcome told result) →
    Plays does (asked ∷ []) h0 s0 h1 s1 result
plays_one does asked h0 h1 s0 s1 result made =
    let only : CallMade = record { asked = asked; told = made.0 } in
    (only ∷ [], (h1, s1, made.1, (refl, refl)), refl, outcome_of_one only result made.2)

pub plays_none : {H : Type 0} (does : HostRelation H) (h0 : H) (s0 : HostSeat) → Plays does [] h0 s0 h0 s0 (Ok tt)
plays_none does h0 s0 = ([], (refl, refl), refl, tt)

-- a step was refused, and then everything was taken back
pub undoes : {H : Type 0} (does : HostRelation H) (asked : Call) (guard : Guarded) (h0 h1 h2 : H) (s0 s1 s2 : HostSeat)
    (errno : Errno) (why : CredError) →
    ((told : HostReply) × does h0 s0 asked told h1 s1 × IsOutcome told (Err errno)) →
    ((back : List CallMade) × CallsLead does back h1 s1 h2 s2 × (asked_in back ≡ calls_back guard) ×
    TellsWhy back errno why ×
    FitsSeat guard.groups) →
    IsUndone does (asked ∷ []) guard h0 s0 h2 s2 why
undoes does asked guard h0 h1 h2 s0 s1 s2 errno why refused back = record {
  refused = record { asked = asked; told = refused.0 };
  back = back.0;
  errno = errno;
  makes = (h1, s1, refused.1, back.1);
  only = refl;
  refusal = refused.2;
  taken_back = back.2;
  fits = back.4;
  tells = back.3;
}

-- where a call of the seat's own leads the seat; no other call does
abbrev pub goes_to : HostSeat → Call → HostSeat
goes_to seat asked = row_left seat (seat_row seat asked)

abbrev pub led : HostSeat → List Call → HostSeat
led seat [] = seat
led seat (asked ∷ calls) = led (goes_to seat asked) calls

pub went : (seat : HostSeat) (asked : Call) (told : HostReply) (after : HostSeat) →
    SeatStep seat asked told after → IsDone told → after ≡ goes_to seat asked
went seat asked (reply.Ok told) after step done = step.leaves
went seat asked (reply.Refused errno) after step done = absurd done
went seat asked (reply.Fault errno) after step done = absurd done
went seat asked reply.NoMemory after step done = absurd done

-- what is refused or fails leaves the seat
pub stayed : (seat : HostSeat) (asked : Call) (told : HostReply) (after : HostSeat) (errno : Errno) →
    SeatStep seat asked told after → FailsWith told errno → after ≡ seat
stayed seat asked (reply.Ok told) after errno step fails = absurd fails
stayed seat asked (reply.Refused why) after errno step fails = step.leaves
stayed seat asked (reply.Fault why) after errno step fails = step.leaves
stayed seat asked reply.NoMemory after errno step fails = absurd fails

-- calls that are all Ok lead the seat
pub leads : {H : Type 0} (does : HostRelation H) (faults : H → ℕ) → Law does faults →
    (made : List CallMade) (h0 h1 : H) (s0 s1 : HostSeat) →
    CallsLead does made h0 s0 h1 s1 → AllDone made → s1 ≡ led s0 (asked_in made)
leads does faults law [] h0 h1 s0 s1 makes done = makes.1
leads does faults law (made ∷ rest) h0 h1 s0 s1 makes done =
    let first = went s0 made.asked made.told makes.1 (law h0 s0 made.asked made.told makes.0 makes.1 makes.2).seats
    done.0 in
    leads does faults law rest makes.0 h1 makes.1 s1 makes.3 done.1 ∙ ap (λ seat. led seat (asked_in rest)) first

-- the count of faults never falls
pub never_falls : {H : Type 0} (does : HostRelation H) (faults : H → ℕ) → Law does faults →
    (made : List CallMade) (h0 h1 : H) (s0 s1 : HostSeat) →
    CallsLead does made h0 s0 h1 s1 → faults h0 ≤ faults h1
never_falls does faults law [] h0 h1 s0 s1 makes = let e = ap faults makes.0 in omega arith
never_falls does faults law (made ∷ rest) h0 h1 s0 s1 makes =
    let first = (law h0 s0 made.asked made.told makes.0 makes.1 makes.2).never_falls in
    let later = never_falls does faults law rest makes.0 h1 makes.1 s1 makes.3 in omega arith

risen_later : (a b c : ℕ) → HasRisen a b → b ≤ c → HasRisen a c
risen_later a b c risen later = omega arith

pub risen_before : (a b c : ℕ) → a ≤ b → HasRisen b c → HasRisen a c
risen_before a b c before risen = omega arith

-- no host may refuse it
abbrev pub IsNeverRefused : HostSeat → Call → Type 0
IsNeverRefused seat asked = (errno : Errno) → RowAnswers (seat_row seat asked) (reply.Refused errno) → ⊥

-- from this seat on none of these calls is refused, as long as those before it are Ok
abbrev pub IsSure : HostSeat → List Call → Type 0
IsSure seat [] = Unit {0}
IsSure seat (asked ∷ calls) = IsNeverRefused seat asked × IsSure (goes_to seat asked) calls

-- what the first call that fails shows, given what the later ones do
fault_at : (before mid after : ℕ) (seat : HostSeat) (asked : Call) (told : HostReply) (between : HostSeat)
    (errno : Errno) (Later Then : Type 0) →
    IsPromised before seat asked told mid between → mid ≤ after → IsNeverRefused seat asked →
    (between ≡ goes_to seat asked → Later → Then × HasRisen mid after) →
    (FailsWith told errno ⊎ (IsDone told × Later)) →
    ((told ≡ reply.Fault errno) ⊎ (IsDone told × Then)) × HasRisen before after
fault_at before mid after seat asked (reply.Ok told) between errno Later Then law falls sure later (inl fails) =
    absurd fails
fault_at before mid after seat asked (reply.Ok told) between errno Later Then law falls sure later (inr next) =
    let behind = later (went seat asked (reply.Ok told) between law.seats tt) next.1 in
    (inr (tt, behind.0), risen_before before mid after law.never_falls behind.1)
fault_at before mid after seat asked (reply.Refused why) between errno Later Then law falls sure later fails =
    absurd (sure why law.seats.answers)
fault_at before mid after seat asked (reply.Fault why) between errno Later Then law falls sure later (inl fails) =
    (inl (ap (λ e. reply.Fault e) (sym fails)), risen_later before mid after law.allowed falls)
fault_at before mid after seat asked (reply.Fault why) between errno Later Then law falls sure later (inr next) =
    absurd next.0
fault_at before mid after seat asked reply.NoMemory between errno Later Then law falls sure later (inl fails) =
    absurd fails
fault_at before mid after seat asked reply.NoMemory between errno Later Then law falls sure later (inr next) =
    absurd next.0

-- Where none of the calls may be refused, the first that is not Ok is a fault, and the host's count shows it.
pub fails_by_fault : {H : Type 0} (does : HostRelation H) (faults : H → ℕ) → Law does faults →
    (made : List CallMade) (h0 h1 : H) (s0 s1 : HostSeat) (errno : Errno) →
    CallsLead does made h0 s0 h1 s1 → IsSure s0 (asked_in made) → FirstFails made errno →
    FirstFaults made errno × HasRisen (faults h0) (faults h1)
fails_by_fault does faults law [] h0 h1 s0 s1 errno makes sure fails = absurd fails
fails_by_fault does faults law (made ∷ rest) h0 h1 s0 s1 errno makes sure fails =
    fault_at (faults h0) (faults makes.0) (faults h1) s0 made.asked made.told makes.1 errno (FirstFails rest errno)
    (FirstFaults rest errno)
    (law h0 s0 made.asked made.told makes.0 makes.1 makes.2)
    (never_falls does faults law rest makes.0 h1 makes.1 s1 makes.3) sure.0
    (λ is next. fails_by_fault does faults law rest makes.0 h1 makes.1 s1 errno makes.3
    (subst (λ seat. IsSure seat (asked_in rest)) (sym is) sure.1) next)
    fails
