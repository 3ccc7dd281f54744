-- Traces one after the other, each job's steps, and the seats that are left.
use Rattle.std.proofs.Common.{◌≡◌, ◌≢◌, ℕ, zero, suc, ◌+◌, ◌≤◌, ◌==◌, List, [], ◌∷◌, ◌++◌, ◌∙◌, refl, ap, true, false}
use Rattle.std.proofs.Common.{cond, Option, Some, None, length, slice_get, slice_set, append-nil, eq-eqb, arith}
use Rattle.std.proofs.lemmas.Bool.{ne_eqb}
use Rattle.std.proofs.lemmas.Option.{same_Some}
use Rattle.pt_host.specs.declared.seat.HostSeat.{HostSeat}
use Rattle.pt_tables.specs.Tables.{Tables}
use Rattle.pt_frame.specs.Deed.{Deed, Step}
use Rattle.pt_host.specs.Relation.{HostRelation}
use Rattle.pt_frame.specs.Made.{Made}
use Rattle.pt_frame.specs.declared.act.ActReply.{ActReply}
use Rattle.pt_fs.specs.Order.{count_of}
use Rattle.pt_fs.specs.Jobs.{no_seat}
use Rattle.pt_fs.specs.Trace.{MadeFrom, TraceRuns, seated, steps_by, step_of, closings_told}
use Rattle.pt_fs.specs.declared.trace.TraceStep.{TraceStep}

-- two traces that meet are one
pub runs_on : {H : Type 0} (does : HostRelation H) (xs ys : List TraceStep) (h0 h1 h2 : H)
    (s0 s1 s2 : List (Option HostSeat))
    (r0 r1 r2 : Tables) → TraceRuns does xs h0 s0 r0 h1 s1 r1 → TraceRuns does ys h1 s1 r1 h2 s2 r2 →
    TraceRuns does (xs ++ ys) h0 s0 r0 h2 s2 r2
runs_on does [] ys h0 h1 h2 s0 s1 s2 r0 r1 r2 first second = rw (← first.0, ← first.1, ← first.2) second
runs_on does (x ∷ xs) ys h0 h1 h2 s0 s1 s2 r0 r1 r2 first second =
    (first.0, first.1, first.2, first.3, runs_on does xs ys first.0 h1 h2 first.1 s1 s2 first.2 r1 r2 first.4 second)

-- a step is made from some seat, a job's or none's
pub made_from : {H : Type 0} (does : HostRelation H) (deed : Option Deed) (reply : ActReply) (host : H)
    (seat : Option HostSeat) (tables : Tables) (host' : H) (seat' : Option HostSeat) (tables' : Tables) →
    MadeFrom does deed reply host seat tables host' seat' tables' →
    (here : HostSeat) × (there : HostSeat) × Made does deed reply host here tables host' there tables'
made_from does deed reply host (Some seat) tables host' (Some seat') tables' m = (seat, seat', m)
made_from does deed reply host None tables host' None tables' m = (no_seat, m.0, m.1)
made_from does deed reply host _ tables host' _ tables' m = absurd m

-- the seats of a list are that of the first, if any, and those of the rest
pub seated_one : (seat : Option HostSeat) (seats : List (Option HostSeat)) →
    seated (seat ∷ []) ++ seated seats ≡ seated (seat ∷ seats)
seated_one None seats = refl
seated_one (Some seat) seats = refl

pub seated_few : (seat : Option HostSeat) → length (seated (seat ∷ [])) ≤ 1
seated_few None = omega arith
seated_few (Some seat) = omega arith

-- who has a seat keeps one, and who has none gets none
seat_count : Option HostSeat → ℕ
seat_count None = 0
seat_count (Some seat) = 1

same_count : {H : Type 0} (does : HostRelation H) (deed : Option Deed) (reply : ActReply) (host : H)
    (seat : Option HostSeat)
    (tables : Tables) (host' : H) (seat' : Option HostSeat) (tables' : Tables) →
    MadeFrom does deed reply host seat tables host' seat' tables' → seat_count seat' ≡ seat_count seat
unfolding seat_count
same_count does deed reply host (Some seat) tables host' (Some seat') tables' m = refl
same_count does deed reply host None tables host' None tables' m = refl
same_count does deed reply host _ tables host' _ tables' m = absurd m

seated_more : (seat : Option HostSeat) (seats : List (Option HostSeat)) →
    length (seated (seat ∷ seats)) ≡ seat_count seat + length (seated seats)
unfolding seat_count
seated_more None seats = omega arith
seated_more (Some seat) seats = omega arith

seated-set : (seats : List (Option HostSeat)) (place : ℕ) (seat seat' : Option HostSeat) →
    slice_get seats place ≡ Some seat → seat_count seat' ≡ seat_count seat →
    length (seated (slice_set seats place seat')) ≡ length (seated seats)
seated-set [] place seat seat' at same = absurd (cc)
seated-set (first ∷ seats) zero seat seat' at same =
    let is = ap seat_count (same_Some first seat at) in let old = seated_more first seats in
    let new = seated_more seat' seats in omega arith
seated-set (first ∷ seats) (suc place) seat seat' at same =
    let rest = seated-set seats place seat seat' at same in let old = seated_more first seats in
    let new = seated_more first (slice_set seats place seat') in omega arith

-- as many seats are left as there were
pub seats_left : {H : Type 0} (does : HostRelation H) (xs : List TraceStep) (h0 h1 : H) (s0 s1 : List (Option HostSeat))
    (r0 r1 : Tables) → TraceRuns does xs h0 s0 r0 h1 s1 r1 → length (seated s1) ≡ length (seated s0)
seats_left does [] h0 h1 s0 s1 r0 r1 runs = ap (λ s. length (seated s)) runs.1
seats_left does (x ∷ xs) h0 h1 s0 s1 r0 r1 runs =
    let at = runs.3 in
    let one : length (seated runs.1) ≡ length (seated s0) =
    ap (λ s. length (seated s)) at.3
    ∙ seated-set s0 x.job at.0 at.1 at.2 (same_count does _ x.reply h0 at.0 r0 runs.0 at.1 runs.2 at.4) in
    seats_left does xs runs.0 h1 runs.1 s1 runs.2 r1 runs.4 ∙ one

pub steps_by-append : (job : ℕ) (xs ys : List TraceStep) → steps_by job (xs ++ ys) ≡ steps_by job xs
    ++ steps_by job ys
steps_by-append job [] ys = refl
steps_by-append job (x ∷ xs) ys = let e = steps_by-append job xs ys in
    elim (x.job == job) as (λ b. cond b (step_of x ∷ steps_by job (xs ++ ys)) (steps_by job (xs ++ ys))
    ≡ cond b (step_of x ∷ steps_by job xs) (steps_by job xs) ++ steps_by job ys) [
      | true ↦
          ap (λ s. step_of x ∷ s) e
      | false ↦ e
    ]

-- a step more of that job
pub steps_by_same : (job : ℕ) (xs : List TraceStep) (x : TraceStep) → x.job ≡ job →
    steps_by job (xs ++ x ∷ []) ≡ steps_by job xs ++ step_of x ∷ []
steps_by_same job xs x same =
    let one : steps_by job (x ∷ []) ≡ step_of x ∷ [] = rw (eq-eqb x.job job same) refl in
    steps_by-append job xs (x ∷ []) ∙ ap (λ s. steps_by job xs ++ s) one

-- a step of another job
pub steps_by_other : (job : ℕ) (xs : List TraceStep) (x : TraceStep) → x.job ≢ job →
    steps_by job (xs ++ x ∷ []) ≡ steps_by job xs
steps_by_other job xs x other =
    let none : steps_by job (x ∷ []) ≡ [] = rw (ne_eqb x.job job other) refl in
    steps_by-append job xs (x ∷ []) ∙ ap (λ s. steps_by job xs ++ s) none ∙ append-nil (steps_by job xs)

pub closings_told-append : (xs ys : List Step) → closings_told (xs ++ ys) ≡ closings_told xs + closings_told ys
closings_told-append [] ys = omega arith
closings_told-append (x ∷ xs) ys = let e = closings_told-append xs ys in omega arith

-- a job has as many steps as are its own
pub length-steps_by : (job : ℕ) (xs : List TraceStep) → length (steps_by job xs) ≡ count_of xs job
length-steps_by job [] = refl
length-steps_by job (x ∷ xs) = let e = length-steps_by job xs in
    elim (x.job == job) as (λ b. length (cond b (step_of x ∷ steps_by job xs) (steps_by job xs))
    ≡ cond b (suc (count_of xs job)) (count_of xs job)) [ true ↦ ap suc e | false ↦ e ]
