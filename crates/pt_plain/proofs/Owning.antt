-- Proof. Requests that give their job no number: what they forget, clear and open as a root is told by their own steps.
use Rattle.std.proofs.Common.{◌≡◌, ◌≢◌, ℕ, List, [], ◌∷◌, Option, Some, None, inl, inr, refl, sym, ap}
use Rattle.std.proofs.Common.{subst, ◌∙◌, arith}
use Rattle.pt_host.specs.Words.{total, Each}
use Rattle.pt_host.specs.declared.ids.Errno.{Errno}
use Rattle.pt_host.specs.declared.seat.HostSeat.{HostSeat}
use Rattle.pt_tables.specs.declared.event.KeptEvent.TheVariants as change
use Rattle.pt_iface.specs.declared.answer.Answer.{Answer}
use Rattle.pt_iface.specs.declared.answer.Answer.TheVariants as answer
use Rattle.pt_frame.specs.Deed.{Deed, Calls, Changes, Step, IsStepOf, LacksMemory}
use Rattle.pt_frame.specs.Tree.{RequestTree, Gives, Refuses, Asks, Opens, Bares, Brackets, Shuts, Allocates, on}
use Rattle.pt_frame.specs.Tree.{go_on}
use Rattle.pt_frame.specs.declared.act.ActReply.{ActReply}
use Rattle.pt_frame.specs.declared.act.ActReply.TheVariants.{Event, Host, NoCopy}
use Rattle.pt_frame.specs.declared.finish.Finish.{Finish}
use Rattle.pt_frame.specs.declared.finish.Finish.TheVariants as finish
use Rattle.pt_frame.specs.declared.hold.Hold.{Hold}
use Rattle.pt_law.specs.Branch.{Along, AreOwn, AreOwn.{none, keep, skip}, ReturnsHold}
use Rattle.pt_law.specs.Discipline.{Job, MovesIf, Disciplined, idle}
use Rattle.pt_law.specs.Ledger.{after_one, given_by}
use Rattle.pt_law.specs.World.{made, turn_by, World, Goes, IsLawful}
use Rattle.pt_law.proofs.Branches.{branch}
use Rattle.pt_law.proofs.Givings.{live_count, counts_step}
use Rattle.pt_law.proofs.Lists.{is_same}
use Rattle.pt_law.proofs.Steps.{turned}
use Rattle.pt_law.proofs.Weighing.{weigh, weighs, gained, given_back, of_number}
use Rattle.pt_plain.specs.Plain.{PlainTree}
use Rattle.pt_plain.proofs.Coming.{is_made, Law, Makes, Walks}
use Rattle.pt_plain.proofs.Serving.{Alone, shows_still}
use Rattle.pt_plain.proofs.Showing.{Shows, Still, still_none, still_on}
use Rattle.pt_plain.proofs.Stilling.{IsStill, returns_still, still_goes}
use Rattle.pt_plain.proofs.Walking.{refusal_is}

-- it gives its job no number
abbrev pub IsGentle : Deed → Type 0
IsGentle (Changes (change.Claim claim)) = ⊥
IsGentle (Changes (change.Insert new)) = ⊥
IsGentle deed = Unit {0}

abbrev pub GentleIf : Option Deed → Type 0
GentleIf None = Unit {0}
GentleIf (Some deed) = IsGentle deed

abbrev pub NotBack : Option Deed → Type 0
NotBack (Some (Changes (change.GiveBack era number))) = ⊥
NotBack deed = Unit {0}

abbrev HoldsNone : List Hold → Type 0
HoldsNone holds = (f : ℕ → ℕ → ℕ) → total (weigh f) holds ≡ 0

gains_none : (f : ℕ → ℕ → ℕ) (deed : Deed) (told : ActReply) → IsGentle deed → gained f deed told ≡ 0
gains_none f (Changes (change.Claim claim)) told g = absurd g
gains_none f (Changes (change.Insert new)) told g = absurd g
gains_none f deed told g = refl

not_back : (deed : Deed) → ((f : ℕ → ℕ → ℕ) → given_back f deed ≡ 0) → NotBack (Some deed)
not_back (Changes (change.GiveBack era number)) z =
    let a = z (of_number number) in let b = is_same number in absurd (omega (arith, a, b))
not_back (Changes asked) z = tt
not_back (Calls asked) z = tt

holds_none : (job after : Job) (made : Option Deed) (told : ActReply) → GentleIf made → MovesIf job made told after →
    HoldsNone job.holds → HoldsNone after.holds × NotBack made
holds_none job after None told g m h = ((λ f. ap (λ (x : Job). total (weigh f) x.holds) m ∙ h f), tt)
holds_none job after (Some deed) told g m h = (
  (λ f. let k = weighs f deed told job.holds after.holds m.0 in let z = h f in let y = gains_none f deed told g in
      omega (arith, k, z, y)),
  not_back deed (λ f. let k = weighs f deed told job.holds after.holds m.0 in let z = h f in
      let y = gains_none f deed told g in omega (arith, k, z, y)),
)

returns_had : (n had : ℕ) (deed : Option Deed) (told : ActReply) → ReturnsHold deed → NotBack deed →
    after_one (given_by n) had deed told ≡ had
returns_had n had None told r b = refl
returns_had n had (Some (Calls asked)) told r b = refl
returns_had n had (Some (Changes (change.Unpin row))) told r b = refl
returns_had n had (Some (Changes (change.UnpinHandle row))) told r b = refl
returns_had n had (Some (Changes (change.GiveFd class))) told r b = refl
returns_had n had (Some (Changes change.TakeClosing)) told r b = refl
returns_had n had (Some (Changes (change.GiveBack era number))) told r b = absurd b
returns_had n had (Some (Changes asked)) told r b = absurd r

-- a tree that gives its job no number
abbrev pub Gentle : RequestTree → Type 0
Gentle (Gives last) = Unit {0}
Gentle (Refuses told) = Unit {0}
Gentle (Asks deed next) = IsGentle deed × ((told : ActReply) → Gentle (next told))
Gentle (Opens asked scope next) = (told : ActReply) → Gentle (next told)
Gentle (Bares rest) = Gentle rest
Gentle (Brackets rest) = Gentle rest
Gentle (Shuts passes rest) = Gentle rest
Gentle (Allocates made next) = Gentle (next made)

gentle_made : (deed : Deed) (made : Option Deed) (told : ActReply) → IsStepOf deed made told → IsGentle deed →
    GentleIf made
gentle_made deed (Some same) NoCopy i e = subst (λ (d : Deed). GentleIf (Some d)) (sym i.0) e
gentle_made deed (Some same) (Event told) i e = subst (λ (d : Deed). GentleIf (Some d)) (sym i) e
gentle_made deed (Some same) (Host told) i e = subst (λ (d : Deed). GentleIf (Some d)) (sym i) e
gentle_made deed None told i e = tt

gentle_along : (tree : RequestTree) (path : List Step) (last : Answer) → Gentle tree → Along tree path last →
    Each (λ (s : Step). GentleIf s.deed) path
gentle_along (Gives given) [] last e a = tt
gentle_along (Gives given) (step ∷ path) last e a = absurd a
gentle_along (Refuses told) [] last e a = tt
gentle_along (Refuses told) (step ∷ path) last e a = absurd a
gentle_along (Asks deed next) [] last e a = absurd a
gentle_along (Asks deed next) (step ∷ path) last e a =
    (gentle_made deed step.deed step.reply a.0 e.0, gentle_along (next step.reply) path last (e.1 step.reply) a.1)
gentle_along (Opens asked scope next) [] last e a = absurd a
gentle_along (Opens asked scope next) (step ∷ path) last e a =
    (gentle_made (Calls asked) step.deed step.reply a.0 tt, gentle_along (next step.reply) path last (e step.reply) a.1)
gentle_along (Bares rest) path last e a = gentle_along rest path last e a
gentle_along (Brackets rest) path last e a = gentle_along rest path last e a
gentle_along (Shuts passes rest) path last e a = gentle_along rest path last e a
gentle_along (Allocates made next) path last e a = gentle_along (next made) path last e a

back_gentle : (deed : Option Deed) → ReturnsHold deed → GentleIf deed
back_gentle None r = tt
back_gentle (Some (Calls asked)) r = tt
back_gentle (Some (Changes (change.Claim claim))) r = absurd r
back_gentle (Some (Changes (change.Insert new))) r = absurd r
back_gentle (Some (Changes asked)) r = tt

gentle_own : {path steps : List Step} → AreOwn path steps → Each (λ (s : Step). GentleIf s.deed) path →
    Each (λ (s : Step). GentleIf s.deed) steps
gentle_own none e = tt
gentle_own (keep o) e = (e.0, gentle_own o e.1)
gentle_own (skip {step = step} r o) e = (back_gentle step.deed r, gentle_own o e)

-- no step of such a job gives a number back
gentle_backs : (j : ℕ) (steps : List Step) (w w' : World) (job last : Job) →
    Each (λ (s : Step). GentleIf s.deed) steps → Walks j w steps w' → Disciplined job steps last →
    HoldsNone job.holds → Each (λ (s : Step). NotBack s.deed) steps
gentle_backs j [] w w' job last g k d h = tt
gentle_backs j (step ∷ steps) w w' job last g k d h =
    let one = holds_none job d.0 step.deed step.reply g.0 d.1 h in
    (one.1, gentle_backs j steps k.2 w' d.0 last g.1 k.4 d.2 one.0)

-- nothing that is seen changed
pub record Same (w on : World) : Type 0 where
  pub still : Still w on
  pub counts : (n : ℕ) → live_count n on.tables ≡ live_count n w.tables

pub same_none : (w : World) → Same w w
same_none w = record { still = still_none w; counts = λ n. refl }

pub same_on : (w mid on : World) → Same w mid → Same mid on → Same w on
same_on w mid on a b =
    record { still = still_on w mid on a.still b.still; counts = λ n. b.counts n ∙ a.counts n }

pub shows_same : (w on : World) (state : PlainTree) → Shows w state → Same w on → Shows on state
shows_same w on state s x = shows_still w on state s x.still x.counts

step_counts : (j : ℕ) (w on : World) (step : Step) → Law w → Goes w (turn_by j step) on → (n : ℕ) →
    live_count n on.tables ≡ after_one (given_by n) (live_count n w.tables) step.deed step.reply
step_counts j w on step l g n =
    counts_step n w.tables step.deed step.reply on.tables l.agree
    (turned IsLawful step.deed step.reply w.tree g.seat w.tables on.tree g.seat_after on.tables g.made)

-- a step that leaves all this, and gives and takes nothing
pub same_made : (j : ℕ) (w on : World) (deed : Deed) (told : ActReply) → Makes j w deed told on → IsStill deed told →
    ((n had : ℕ) → given_by n had deed told ≡ had) → Same w on
same_made j w on deed told m s g = record {
  still = still_goes j w on deed told s m.1 m.2;
  counts = λ n. step_counts j w on (made deed told) m.0 m.2 n ∙ g n (live_count n w.tables);
}

-- The path of own steps, with steps between that give back.
abbrev pub Paths : ℕ → World → List Step → World → Type 0
Paths j w [] w' = Same w w'
Paths j w (step ∷ path) w' =
    (from : World) × (mid : World) × Same w from × Law from × (LacksMemory step.reply → ⊥)
    × Goes from (turn_by j step) mid × Paths j mid path w'

paths_from : (j : ℕ) (w x : World) (path : List Step) (w' : World) → Same w x → Paths j x path w' → Paths j w path w'
paths_from j w x [] w' s p = same_on w x w' s p
paths_from j w x (step ∷ path) w' s p = (p.0, p.1, same_on w x p.0 s p.2, p.3, p.4, p.5, p.6)

paths_of : (j : ℕ) (w w' : World) {path steps : List Step} → AreOwn path steps → Walks j w steps w' →
    Each (λ (s : Step). NotBack s.deed) steps → Paths j w path w'
paths_of j w w' none k b = subst (λ (z : World). Same w z) (sym k.1) (same_none w)
paths_of j w w' (keep o) k b = (w, k.2, same_none w, k.0, k.1, k.3, paths_of j k.2 w' o k.4 b.1)
paths_of j w w' (skip {step = step} {own = path} r o) k b =
    paths_from j w k.2 path w' (record {
      still = returns_still j w k.2 step r k.1 k.3;
      counts = λ n. step_counts j w k.2 step k.0 k.3 n
          ∙ returns_had n (live_count n w.tables) step.deed step.reply r b.0;
    }) (paths_of j k.2 w' o k.4 b.1)

-- By its own steps the tree comes to this answer.
pub record Own (j : ℕ) (tree : RequestTree) (w : World) (last : Answer) (w' : World) : Type 0 where
  pub path : List Step
  pub along : Along tree path last
  pub paths : Paths j w path w'

pub own_of : (j : ℕ) (seat : HostSeat) (tree : RequestTree) (w : World) (last : Answer) (w' : World) →
    Alone j seat tree w last w' → Gentle tree → Own j tree w last w'
own_of j seat tree w last w' a e = elim (branch seat tree [] [] a.steps (finish.Answer last) a.belongs) [
  | inl lost ↦ absurd lost
  | inr (inl up) ↦ absurd (a.given (same up.answered))
  | inr (inr r) ↦ record {
    path = r.0;
    along = subst (Along tree r.0) (same_as r.1 (sym r.3)) r.4;
    paths = paths_of j w w' r.2 a.walks (gentle_backs j a.steps w w' idle _
        (gentle_own r.2 (gentle_along tree r.0 r.1 e r.4)) a.walks a.ends.2 (λ f. refl));
  }
]
  where
    answer_in : Finish → Answer
    answer_in (finish.Answer told) = told
    answer_in (finish.Lost errno) = last

    same : finish.Answer last ≡ finish.Answer answer.NoMemory → last ≡ answer.NoMemory
    same e = ap answer_in e

    same_as : (told : Answer) → finish.Answer told ≡ finish.Answer last → told ≡ last
    same_as told e = ap answer_in e

pub own_gives : (j : ℕ) (given : Answer) (w : World) (last : Answer) (w' : World) → Own j (Gives given) w last w' →
    (last ≡ given) × Same w w'
own_gives j given w last w' o = go o.path o.along o.paths
  where
    go : (path : List Step) → Along (Gives given) path last → Paths j w path w' → (last ≡ given) × Same w w'
    go [] a p = (a, p)
    go (step ∷ path) a p = absurd a

-- it was refused, and nothing that is seen changed
pub own_refused : (j : ℕ) (told : ActReply) (w : World) (last : Answer) (w' : World) → last ≢ answer.NoMemory →
    Own j (Refuses told) w last w' → ((errno : Errno) × (last ≡ answer.Refused errno)) × Same w w'
own_refused j told w last w' n o = go o.path o.along o.paths
  where
    go : (path : List Step) → Along (Refuses told) path last → Paths j w path w' →
        ((errno : Errno) × (last ≡ answer.Refused errno)) × Same w w'
    go [] a p = let r = refusal_is told (λ e. n (a ∙ e)) in ((r.0, a ∙ r.1), p)
    go (step ∷ path) a p = absurd a

-- A step whose reply is awaited: any other is a refusal, which is to leave all this.
pub own_ask : {G V : Type 0} (j : ℕ) (deed : Deed) (read : ActReply → Option V) (next : V → RequestTree) (w : World)
    (last : Answer) (w' : World) → last ≢ answer.NoMemory →
    ((told : ActReply) → read told ≡ None → IsStill deed told × ((n had : ℕ) → given_by n had deed told ≡ had)) →
    Own j (Asks deed (on read next)) w last w' →
    ((errno : Errno) → last ≡ answer.Refused errno → Same w w' → G) →
    ((told : ActReply) (value : V) (from mid : World) → read told ≡ Some value → Same w from →
    Makes j from deed told mid → Own j (next value) mid last w' → G) → G
unfolding on go_on
own_ask {G} {V} j deed read next w last w' n quiet o out goes = go o.path o.along o.paths
  where
    go : (path : List Step) → Along (Asks deed (on read next)) path last → Paths j w path w' → G
    go [] a p = absurd a
    go (step ∷ path) a p = by (read step.reply) refl a.1
      where
        makes : Makes j p.0 deed step.reply p.1
        makes = (
          p.3,
          p.4,
          subst (λ (s : Step). Goes p.0 (turn_by j s) p.1) (is_made deed step a.0 p.4) p.5,
        )

        by : (value : Option V) → read step.reply ≡ value → Along (go_on next step.reply value) path last → G
        by (Some value) e k =
            goes step.reply value p.0 p.1 e p.2 makes (record { path = path; along = k; paths = p.6 })
        by None e k =
            let q = quiet step.reply e in
            let r = own_refused j step.reply p.1 last w' n (record { path = path; along = k; paths = p.6 }) in
            out r.0.0 r.0.1
            (same_on w p.0 w' p.2 (same_on p.0 p.1 w' (same_made j p.0 p.1 deed step.reply makes q.0 q.1) r.1))

-- what a tree gives its job
pub gentle_on : {V : Type 0} (read : ActReply → Option V) (next : V → RequestTree) →
    ((value : V) → Gentle (next value)) →
    (told : ActReply) → Gentle (on read next told)
unfolding on go_on
gentle_on {V} read next g told = go (read told)
  where
    go : (value : Option V) → Gentle (go_on next told value)
    go (Some value) = g value
    go None = tt
