-- Proof. A job that runs alone gives nothing and takes nothing of any number, but what its answer has, unless it
-- forgets.
use Rattle.std.proofs.Common.{◌≡◌, ◌≢◌, ◌⊎◌, inl, inr, ℕ, ◌+◌, ◌-◌, List, [], ◌∷◌, Option, Some, None, refl}
use Rattle.std.proofs.Common.{sym, ap, subst, ◌∙◌, arith, ⊎_elim}
use Rattle.std.proofs.lemmas.Bool.{cases_eq}
use Rattle.pt_host.specs.Words.{is, total, Each}
use Rattle.pt_tables.specs.Change.{Change}
use Rattle.pt_tables.specs.Tables.{Tables, Agree}
use Rattle.pt_tables.specs.Happens.{Happens}
use Rattle.pt_tables.proofs.Cases.{Case, cases}
use Rattle.pt_tables.specs.declared.event.KeptEvent.TheVariants as change
use Rattle.pt_tables.specs.declared.reply.EventReply.{EventReply}
use Rattle.pt_tables.specs.declared.reply.EventReply.TheVariants as event
use Rattle.pt_iface.specs.declared.answer.Answer.{Answer}
use Rattle.pt_iface.specs.declared.answer.Answer.TheVariants as answer
use Rattle.pt_host.specs.declared.seat.HostSeat.{HostSeat}
use Rattle.pt_frame.specs.Deed.{Deed, Calls, Changes, Step, IsStepOf, LacksMemory}
use Rattle.pt_frame.specs.Grammar.{Belongs}
use Rattle.pt_frame.specs.Tree.{RequestTree, Gives, Refuses, Asks, Opens, Bares, Brackets, Shuts, Allocates}
use Rattle.pt_frame.specs.Tree.{grammar_of_tree}
use Rattle.pt_frame.specs.declared.act.ActReply.{ActReply}
use Rattle.pt_frame.specs.declared.act.ActReply.TheVariants.{Event, Host, NoCopy}
use Rattle.pt_frame.specs.declared.finish.Finish.{Finish}
use Rattle.pt_frame.specs.declared.finish.Finish.TheVariants as finish
use Rattle.pt_frame.specs.declared.hold.Hold.{Hold}
use Rattle.pt_law.specs.Branch.{Along, AreOwn, AreOwn.{none, keep, skip}, ReturnsHold}
use Rattle.pt_law.specs.Discipline.{Shifts, Job, MovesIf, Disciplined, ComesToEnd, idle, entry_holds}
use Rattle.pt_law.specs.Ledger.{given_by}
use Rattle.pt_law.specs.Settled.{entry_count}
use Rattle.pt_law.specs.World.{World, turn_by, Goes}
use Rattle.pt_law.proofs.Branches.{branch}
use Rattle.pt_law.proofs.Givings.{live_count, none_other, counts_step}
use Rattle.pt_law.proofs.Ignoring.{handle_dies}
use Rattle.pt_law.proofs.Lists.{is_same, is_apart}
use Rattle.pt_law.proofs.Weighing.{weigh, weighs, gained, given_back, of_number}
use Rattle.pt_plain.proofs.Coming.{Walks}
use Rattle.pt_plain.proofs.Showing.{still_case}

-- it neither forgets nor begins a session nor opens a root
abbrev pub IsEven : Deed → Type 0
IsEven (Changes (change.Forget list)) = ⊥
IsEven (Changes change.Clear) = ⊥
IsEven (Changes (change.InsertRoot new)) = ⊥
IsEven deed = Unit {0}

abbrev pub EvenIf : Option Deed → Type 0
EvenIf None = Unit {0}
EvenIf (Some deed) = IsEven deed

abbrev stale : ℕ → ℕ → ℕ → ℕ
stale now era m = 1 - is era now

abbrev IsBack : Deed → Type 0
IsBack (Changes (change.GiveBack era number)) = Unit {0}
IsBack deed = ⊥

given_even : (n had : ℕ) (deed : Deed) (told : ActReply) → IsEven deed → (IsBack deed → ⊥) →
    given_by n had deed told ≡ had + gained (of_number n) deed told
given_even n had (Changes (change.Claim claim)) (Event (event.Claimed given)) e b = refl
given_even n had (Changes (change.Insert new)) (Event (event.Inserted given)) e b = refl
given_even n had (Changes (change.Insert new)) (Event (event.Found given)) e b = refl
given_even n had (Changes (change.InsertRoot new)) told e b = absurd e
given_even n had (Changes (change.Forget list)) told e b = absurd e
given_even n had (Changes change.Clear) told e b = absurd e
given_even n had (Changes (change.GiveBack era number)) told e b = absurd (b tt)
given_even n had deed told e b = omega arith

back_even : (f : ℕ → ℕ → ℕ) (deed : Deed) → (IsBack deed → ⊥) → given_back f deed ≡ 0
back_even f (Changes (change.GiveBack era number)) b = absurd (b tt)
back_even f deed b = refl

-- an even event stays in its era
pub same_era : (t t' : Tables) (e : Change) (r : EventReply) → IsEven (Changes e) → Case t e r t' → t'.era ≡ t.era
same_era t t' (change.Insert new) (event.Inserted given) e h = ap (λ z. z.era) h.4
same_era t t' (change.InsertHandle new) (event.Inserted given) e h = ap (λ z. z.era) h.4
same_era t t' (change.Release handle number) (event.Done closings) e h =
    handle_dies (λ z. z.era) (record { changed = λ z rows. refl; ended = λ z rows closing. refl }) t h.0 closings t'
    h.2
same_era t t' (change.InsertRoot new) r e h = absurd e
same_era t t' change.Clear r e h = absurd e
same_era t t' e r even h = (still_case (λ row. None) t t' e r tt h).era

-- what is given is given in the era of the tables
gained_now : (t t' : Tables) (e : Change) (r : EventReply) → Case t e r t' →
    gained (stale t.era) (Changes e) (Event r) ≡ 0
gained_now t t' (change.Claim claim) (event.Claimed given) h =
    let a : is claim.era t.era ≡ 1 = ap (λ x. is x t.era) h.0 ∙ is_same t.era in omega (arith, a)
gained_now t t' (change.Insert new) (event.Inserted given) h =
    let a : is new.era t.era ≡ 1 = ap (λ x. is x t.era) h.0 ∙ is_same t.era in omega (arith, a)
gained_now t t' (change.Insert new) (event.Found given) h =
    let a : is new.era t.era ≡ 1 = ap (λ x. is x t.era) h.0 ∙ is_same t.era in omega (arith, a)
gained_now t t' e r h = refl

-- Between two steps: each number's count is what it was at the start and what the job holds of it, and the job holds
-- counts of this era alone.
pub record Tallies (base : ℕ → ℕ) (t : Tables) (holds : List Hold) : Type 0 where
  pub counts : (n : ℕ) → live_count n t ≡ base n + total (weigh (of_number n)) holds
  pub fresh : total (weigh (stale t.era)) holds ≡ 0

-- giving back a count that is held is not refused
back_done : (base : ℕ → ℕ) (t t' : Tables) (era m : ℕ) (told : EventReply) (holds after : List Hold) →
    Shifts holds (Changes (change.GiveBack era m)) (Event told) after → Tallies base t holds →
    Happens t (change.GiveBack era m) told t' → (closings : ℕ) × (told ≡ event.Done closings)
back_done base t t' era m told holds after s v (inl (e, inl free)) =
    let z = none_other m t.rows free.0 in
    let c = v.counts m in
    let w = weighs (of_number m) (Changes (change.GiveBack era m)) (Event told) holds after s in
    let one = is_same m in
    absurd (omega (arith, z, c, w, one))
back_done base t t' era m told holds after s v (inl (e, inr found)) = (found.3.0, found.3.1)
back_done base t t' era m told holds after s v (inr over) =
    let w = weighs (stale t.era) (Changes (change.GiveBack era m)) (Event told) holds after s in
    let f = v.fresh in
    ⊎_elim (λ (e : era ≡ t.era). absurd (over.0 e)) (λ (e : era ≢ t.era).
    let a = is_apart era t.era e in absurd (omega (arith, w, f, a))) (cases_eq era t.era)

tally_back : (base : ℕ → ℕ) (t t' : Tables) (era m : ℕ) (told : EventReply) (holds after : List Hold) → Agree t →
    Shifts holds (Changes (change.GiveBack era m)) (Event told) after → Tallies base t holds →
    Happens t (change.GiveBack era m) told t' → Tallies base t' after
tally_back base t t' era m told holds after a s v h =
    let d = back_done base t t' era m told holds after s v h in
    let done = subst (λ r. Happens t (change.GiveBack era m) r t') d.1 h in
    let e = same_era t t' (change.GiveBack era m) (event.Done d.0) tt
    (cases t t' (change.GiveBack era m) (event.Done d.0) done) in
    record {
      counts = λ n.
          let k = counts_step n t (Some (Changes (change.GiveBack era m))) (Event (event.Done d.0)) t' a done in
          let w = weighs (of_number n) (Changes (change.GiveBack era m)) (Event told) holds after s in
          let c = v.counts n in
          omega (arith, k, w, c);
      fresh =
          let w = weighs (stale t.era) (Changes (change.GiveBack era m)) (Event told) holds after s in
          let f = v.fresh in
          let z : total (weigh (stale t.era)) after ≡ 0 = omega (arith, w, f) in
          ap (λ now. total (weigh (stale now)) after) e ∙ z;
    }

-- any other event
tally_event : (base : ℕ → ℕ) (t t' : Tables) (asked : Change) (told : EventReply) (holds after : List Hold) →
    Agree t → IsEven (Changes asked) → (IsBack (Changes asked) → ⊥) → Shifts holds (Changes asked) (Event told) after →
    Tallies base t holds → Happens t asked told t' → Tallies base t' after
tally_event base t t' asked told holds after a even b s v h =
    let e = same_era t t' asked told even (cases t t' asked told h) in
    record {
      counts = λ n.
          let k = counts_step n t (Some (Changes asked)) (Event told) t' a h in
          let g = given_even n (live_count n t) (Changes asked) (Event told) even b in
          let w = weighs (of_number n) (Changes asked) (Event told) holds after s in
          let z = back_even (of_number n) (Changes asked) b in
          let c = v.counts n in
          omega (arith, k, g, w, z, c);
      fresh =
          let w = weighs (stale t.era) (Changes asked) (Event told) holds after s in
          let g = gained_now t t' asked told (cases t t' asked told h) in
          let z = back_even (stale t.era) (Changes asked) b in
          let f = v.fresh in
          let y : total (weigh (stale t.era)) after ≡ 0 = omega (arith, w, g, z, f) in
          ap (λ now. total (weigh (stale now)) after) e ∙ y;
    }

is_back : (asked : Change) → (IsBack (Changes asked)) ⊎ (IsBack (Changes asked) → ⊥)
is_back (change.GiveBack era number) = inl tt
is_back asked = inr (λ no. no)

tally_change : (base : ℕ → ℕ) (t t' : Tables) (asked : Change) (told : EventReply) (holds after : List Hold) →
    Agree t → IsEven (Changes asked) → Shifts holds (Changes asked) (Event told) after → Tallies base t holds →
    Happens t asked told t' → Tallies base t' after
tally_change base t t' (change.GiveBack era m) told holds after a even s v h =
    tally_back base t t' era m told holds after a s v h
tally_change base t t' asked told holds after a even s v h =
    tally_event base t t' asked told holds after a even (λ no. no) s v h

-- a call
tally_call : (base : ℕ → ℕ) (t t' : Tables) (holds after : List Hold) →
    ((f : ℕ → ℕ → ℕ) → total (weigh f) after ≡ total (weigh f) holds) → Tallies base t holds → t' ≡ t →
    Tallies base t' after
tally_call base t t' holds after w v e = rw e (record {
  counts = λ n. let a = v.counts n in let b = w (of_number n) in omega (arith, a, b);
  fresh = w (stale t.era) ∙ v.fresh;
})

tally_step : (base : ℕ → ℕ) (j : ℕ) (w on : World) (step : Step) (job after : Job) → Agree w.tables →
    EvenIf step.deed → (LacksMemory step.reply → ⊥) → Goes w (turn_by j step) on →
    MovesIf job step.deed step.reply after → Tallies base w.tables job.holds → Tallies base on.tables after.holds
tally_step base j w on step job after a even n g m v = go step.deed step.reply even n g m
  where
    go : (deed : Option Deed) (told : ActReply) → EvenIf deed → (LacksMemory told → ⊥) →
        Goes w (turn_by j (record { deed = deed; reply = told })) on → MovesIf job deed told after →
        Tallies base on.tables after.holds
    go deed NoCopy even n g m = absurd (n refl)
    go None (Event told) even n g m = absurd g.made
    go None (Host told) even n g m = absurd g.made
    go (Some (Calls asked)) (Event told) even n g m = absurd g.made
    go (Some (Changes asked)) (Host told) even n g m = absurd g.made
    go (Some (Calls asked)) (Host told) even n g m =
        tally_call base w.tables on.tables job.holds after.holds (λ f.
        let k = weighs f (Calls asked) (Host told) job.holds after.holds m.0 in omega (arith, k)) v g.made.1
    go (Some (Changes asked)) (Event told) even n g m =
        tally_change base w.tables on.tables asked told job.holds after.holds a even m.0 v g.made.0

pub tally_walk : (base : ℕ → ℕ) (j : ℕ) (steps : List Step) (w w' : World) (job last : Job) →
    Each (λ (s : Step). EvenIf s.deed) steps → Walks j w steps w' → Disciplined job steps last →
    Tallies base w.tables job.holds → Tallies base w'.tables last.holds
tally_walk base j [] w w' job last even k d v =
    rw (k.1, d) v
tally_walk base j (step ∷ steps) w w' job last even k d v =
    tally_walk base j steps k.2 w' d.0 last even.1 k.4 d.2
    (tally_step base j w k.2 step job d.0 k.0.agree even.0 k.1 k.3 d.1 v)

entry_weighs : (n era : ℕ) (end : Finish) → total (weigh (of_number n)) (entry_holds era end) ≡ entry_count n end
entry_weighs n era (finish.Answer (answer.Entry entry)) = omega arith
entry_weighs n era (finish.Answer (answer.Created entry handle options)) = omega arith
entry_weighs n era end = refl

-- A tree that neither forgets nor begins a session nor opens a root.
abbrev pub Even : RequestTree → Type 0
Even (Gives last) = Unit {0}
Even (Refuses told) = Unit {0}
Even (Asks deed next) = IsEven deed × ((told : ActReply) → Even (next told))
Even (Opens asked scope next) = (told : ActReply) → Even (next told)
Even (Bares rest) = Even rest
Even (Brackets rest) = Even rest
Even (Shuts passes rest) = Even rest
Even (Allocates made next) = Even (next made)

even_made : (deed : Deed) (made : Option Deed) (told : ActReply) → IsStepOf deed made told → IsEven deed → EvenIf made
even_made deed (Some same) NoCopy i e = subst (λ (d : Deed). EvenIf (Some d)) (sym i.0) e
even_made deed (Some same) (Event told) i e = subst (λ (d : Deed). EvenIf (Some d)) (sym i) e
even_made deed (Some same) (Host told) i e = subst (λ (d : Deed). EvenIf (Some d)) (sym i) e
even_made deed None told i e = tt

even_along : (tree : RequestTree) (path : List Step) (last : Answer) → Even tree → Along tree path last →
    Each (λ (s : Step). EvenIf s.deed) path
even_along (Gives given) [] last e a = tt
even_along (Gives given) (step ∷ path) last e a = absurd a
even_along (Refuses told) [] last e a = tt
even_along (Refuses told) (step ∷ path) last e a = absurd a
even_along (Asks deed next) [] last e a = absurd a
even_along (Asks deed next) (step ∷ path) last e a =
    (even_made deed step.deed step.reply a.0 e.0, even_along (next step.reply) path last (e.1 step.reply) a.1)
even_along (Opens asked scope next) [] last e a = absurd a
even_along (Opens asked scope next) (step ∷ path) last e a =
    (even_made (Calls asked) step.deed step.reply a.0 tt, even_along (next step.reply) path last (e step.reply) a.1)
even_along (Bares rest) path last e a = even_along rest path last e a
even_along (Brackets rest) path last e a = even_along rest path last e a
even_along (Shuts passes rest) path last e a = even_along rest path last e a
even_along (Allocates made next) path last e a = even_along (next made) path last e a

back_even_deed : (deed : Option Deed) → ReturnsHold deed → EvenIf deed
back_even_deed None r = tt
back_even_deed (Some (Calls asked)) r = tt
back_even_deed (Some (Changes (change.Forget list))) r = absurd r
back_even_deed (Some (Changes change.Clear)) r = absurd r
back_even_deed (Some (Changes (change.InsertRoot new))) r = absurd r
back_even_deed (Some (Changes asked)) r = tt

even_own : {path steps : List Step} → AreOwn path steps → Each (λ (s : Step). EvenIf s.deed) path →
    Each (λ (s : Step). EvenIf s.deed) steps
even_own none e = tt
even_own (keep o) e = (e.0, even_own o e.1)
even_own (skip {step = step} r o) e = (back_even_deed step.deed r, even_own o e)

even_steps : (seat : HostSeat) (tree : RequestTree) (steps : List Step) (last : Answer) → last ≢ answer.NoMemory →
    Even tree → Belongs (grammar_of_tree seat tree) steps (finish.Answer last) →
    Each (λ (s : Step). EvenIf s.deed) steps
even_steps seat tree steps last n e b = elim (branch seat tree [] [] steps (finish.Answer last) b) [
  | inl lost ↦ absurd lost
  | inr (inl up) ↦ absurd (n (same up.answered))
  | inr (inr r) ↦ even_own r.2 (even_along tree r.0 r.1 e r.4)
]
  where
    answer_in : Finish → Answer
    answer_in (finish.Answer told) = told
    answer_in (finish.Lost errno) = last

    same : finish.Answer last ≡ finish.Answer answer.NoMemory → last ≡ answer.NoMemory
    same e = ap answer_in e

-- The count of each number is what it was, and one more for the answered entry.
pub counts_even : (j : ℕ) (seat : HostSeat) (tree : RequestTree) (w w' : World) (steps : List Step) (last : Answer) →
    last ≢ answer.NoMemory → Even tree → Belongs (grammar_of_tree seat tree) steps (finish.Answer last) →
    Walks j w steps w' → ComesToEnd idle steps (finish.Answer last) → (n : ℕ) →
    live_count n w'.tables ≡ live_count n w.tables + entry_count n (finish.Answer last)
counts_even j seat tree w w' steps last given e b k d n =
    let v = tally_walk (λ m. live_count m w.tables) j steps w w' idle _ (even_steps seat tree steps last given e b) k
    d.2 (record { counts = λ m. omega arith; fresh = refl }) in
    let c = v.counts n in
    let x = entry_weighs n d.0 (finish.Answer last) in
    omega (arith, c, x)
