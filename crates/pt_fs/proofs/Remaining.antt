-- Jobs take their remaining steps, and each step is written down.
use Rattle.std.proofs.Common.{◌≡◌, ◌<◌, ◌≤◌, ◌+◌, ◌-◌, inl, inr, ℕ, suc, List, [], Some, Option, length, arith}
use Rattle.std.proofs.lemmas.Bool.{cases_eq}
use Rattle.std.proofs.lemmas.Option.{slice_get_within}
use Rattle.pt_host.specs.Relation.{HostRelation}
use Rattle.pt_host.specs.declared.ids.Errno.{Errno}
use Rattle.pt_tables.specs.Tables.{Tables}
use Rattle.pt_req.specs.declared.plan.Plan.{Plan}
use Rattle.pt_fs.specs.GoesOn.{GoesOn}
use Rattle.pt_fs.specs.Loses.{LostAt}
use Rattle.pt_fs.specs.Order.{rest_of}
use Rattle.pt_fs.specs.Recorded.{Wrote}
use Rattle.pt_fs.specs.Running.{Running}
use Rattle.pt_fs.specs.Took.{IsFinishedAt, NoneLost, Took}
use Rattle.pt_fs.specs.Work.{KeepsPace, work}
use Rattle.pt_fs.specs.declared.trace.TraceStep.{TraceStep}
use Rattle.pt_fs.proofs.Going.{goes_none, goes_on, goes_first, goes_next, finished_took, length_took}
use Rattle.pt_fs.proofs.Losing.{lost_on, lost_first}
use Rattle.pt_fs.proofs.Recording.{wrote_none, wrote_on, wrote_so, took_behind, goes_behind, lost_behind, paces_on}

-- the job of this place took some of its steps
pub record TookSome
    {H R : Type 0}
    (does : HostRelation H)
    (wrote : R → TraceStep → R → Type 0)
    (room : R → ℕ)
    (plan : Plan)
    (place : ℕ)
    (host : H)
    (running : List Running)
    (tables : Tables)
    (writer : R)
    (host' : H)
    (running' : List Running)
    (tables' : Tables)
    (writer' : R)
    : Type 0 where
  pub goes : (jobs : ℕ) →
      Wrote wrote writer writer' (λ steps. GoesOn does plan (rest_of (suc jobs) place) host running tables []
      (rest_of (suc jobs) place) host' running' tables' steps)
  pub others : (j : ℕ) → IsFinishedAt running j → IsFinishedAt running' j
  pub inside : place < length running'
  pub pace : KeepsPace (room writer) (work running tables) (room writer') (work running' tables')

-- none yet
pub took_none : {H R : Type 0} {does : HostRelation H} {wrote : R → TraceStep → R → Type 0} {room : R → ℕ}
    {plan : Plan} {place : ℕ} {host : H} {running : List Running} {tables : Tables} {writer : R} →
    place < length running →
    TookSome does wrote room plan place host running tables writer host running tables writer
took_none {does = does} {plan = plan} {place = place} {host = host} {running = running} {tables = tables} inside =
    record {
      goes = λ jobs. wrote_none (goes_none does plan (rest_of (suc jobs) place) host running tables []);
      others = λ j h. h;
      inside = inside;
      pace = omega arith;
    }

module _ {H R : Type 0} {does : HostRelation H} {wrote : R → TraceStep → R → Type 0} {room : R → ℕ} {plan : Plan}
    {place : ℕ} {h0 h1 : H} {s0 s1 : List Running} {r0 r1 : Tables} {w0 w1 : R}
    (some : TookSome does wrote room plan place h0 s0 r0 w0 h1 s1 r1 w1) where
  -- all, where it has finished
  pub took_all : IsFinishedAt s1 place → (jobs : ℕ) →
      Wrote wrote w0 w1 (λ steps. GoesOn does plan (rest_of (suc jobs) place) h0 s0 r0 [] (rest_of jobs (place + 1))
      h1 s1 r1 steps)
  took_all finished jobs = wrote_so (some.goes jobs) (λ xs goes.
      goes_on _ _ (rest_of (suc jobs) place) (rest_of (suc jobs) place) (rest_of jobs (place + 1)) _ _ _ _ _ _ _ _ _
      _ _ _ goes (goes_next _ _ place jobs _ _ _ _ finished))

  module _ {h2 : H} {s2 : List Running} {r2 : Tables} {w2 : R} where
    -- one more
    pub took_more : {lost : Option Errno} →
        Wrote wrote w1 w2 (λ steps. Took does plan place h1 s1 r1 [] h2 s2 r2 steps lost) →
        KeepsPace (room w1) (work s1 r1) (room w2) (work s2 r2) →
        TookSome does wrote room plan place h0 s0 r0 w0 h2 s2 r2 w2
    took_more took pace = record {
      goes = λ jobs. wrote_on (some.goes jobs) took (λ xs ys goes one.
          goes_on _ _ (rest_of (suc jobs) place) (rest_of (suc jobs) place) (rest_of (suc jobs) place) _ _ _ _ _ _ _
          _ _ _ _ _ goes (goes_first (took_behind xs one) jobs));
      others = λ j h. finished_took took.so j (some.others j h);
      inside = length_took took.so some.inside;
      pace = paces_on _ _ _ _ _ _ some.pace pace;
    }

    -- one more that loses the seat
    pub took_losing : {errno : Errno} → NoneLost s1 →
        Wrote wrote w1 w2 (λ steps. Took does plan place h1 s1 r1 [] h2 s2 r2 steps (Some errno)) → (jobs : ℕ) →
        Wrote wrote w0 w2 (λ steps. LostAt does plan (rest_of (suc jobs) place) h0 s0 r0 [] h2 s2 r2 steps place
        errno)
    took_losing calm took jobs = wrote_on (some.goes jobs) took (λ xs ys goes one.
        lost_on _ _ (rest_of (suc jobs) place) (rest_of (suc jobs) place) _ _ _ _ _ _ _ _ _ _ _ _ _ _ goes
        (lost_first calm (took_behind xs one) jobs))

one_left : (n place : ℕ) → place < n → n - place ≡ suc (n - (place + 1))
one_left n place low = omega (arith, low)

-- the jobs below this place took all their steps
pub record TookBelow
    {H R : Type 0}
    (does : HostRelation H)
    (wrote : R → TraceStep → R → Type 0)
    (room : R → ℕ)
    (plan : Plan)
    (place : ℕ)
    (host : H)
    (running : List Running)
    (tables : Tables)
    (writer : R)
    (host' : H)
    (running' : List Running)
    (tables' : Tables)
    (writer' : R)
    : Type 0 where
  pub goes : Wrote wrote writer writer' (λ steps. GoesOn does plan (rest_of (length running) 0) host running tables []
      (rest_of (length running - place) place) host' running' tables' steps)
  pub finished : (j : ℕ) → j < place → IsFinishedAt running' j
  pub pace : KeepsPace (room writer) (work running tables) (room writer') (work running' tables')

-- there is none
pub below_none : {H R : Type 0} {does : HostRelation H} {wrote : R → TraceStep → R → Type 0} {room : R → ℕ}
    {plan : Plan} {host : H} {running : List Running} {tables : Tables} {writer : R} →
    TookBelow does wrote room plan 0 host running tables writer host running tables writer
below_none {does = does} {plan = plan} {host = host} {running = running} {tables = tables} =
    let e : length running - 0 ≡ length running = omega arith in
    record {
      goes = rw e (wrote_none (goes_none does plan (rest_of (length running) 0) host running tables []));
      finished = λ j below. absurd (omega arith);
      pace = omega arith;
    }

module _ {H R : Type 0} {does : HostRelation H} {wrote : R → TraceStep → R → Type 0} {room : R → ℕ} {plan : Plan}
    {place : ℕ} {h0 h1 : H} {s0 s1 : List Running} {r0 r1 : Tables} {w0 w1 : R}
    (took : TookBelow does wrote room plan place h0 s0 r0 w0 h1 s1 r1 w1) where
  -- it is past the last one
  pub below_all : length s0 ≤ place → (j : ℕ) → IsFinishedAt s1 j
  below_all past j run at =
      let inside = slice_get_within s1 j run at in
      let same = took.goes.so.same in
      took.finished j (omega (arith, past, inside, same)) run at

  module _ {h2 : H} {s2 : List Running} {r2 : Tables} {w2 : R} (low : place < length s0) where
    -- and so did the job of this place
    pub below_more :
        ((jobs : ℕ) → Wrote wrote w1 w2 (λ steps. GoesOn does plan (rest_of (suc jobs) place) h1 s1 r1 []
        (rest_of jobs (place + 1)) h2 s2 r2 steps)) →
        IsFinishedAt s2 place → ((j : ℕ) → IsFinishedAt s1 j → IsFinishedAt s2 j) →
        KeepsPace (room w1) (work s1 r1) (room w2) (work s2 r2) →
        TookBelow does wrote room plan (place + 1) h0 s0 r0 w0 h2 s2 r2 w2
    below_more one finished others pace =
        let left = length s0 - (place + 1) in
        record {
          goes = wrote_on (rw (one_left (length s0) place low) at took.goes) (one left) (λ xs ys goes then.
              goes_on _ _ (rest_of (length s0) 0) (rest_of (suc left) place) (rest_of left (place + 1)) _ _ _ _ _ _
              _ _ _ _ _ _ goes (goes_behind xs then));
          finished = λ j below. elim (cases_eq j place) [
            | inl is ↦ rw is finished
            | inr other ↦ others j (took.finished j (omega (arith, below, other)))
          ];
          pace = paces_on _ _ _ _ _ _ took.pace pace;
        }

    -- and the job of this place lost its seat
    pub below_losing : {errno : Errno} →
        ((jobs : ℕ) → Wrote wrote w1 w2 (λ steps. LostAt does plan (rest_of (suc jobs) place) h1 s1 r1 [] h2 s2 r2
        steps place errno)) →
        Wrote wrote w0 w2 (λ steps. LostAt does plan (rest_of (length s0) 0) h0 s0 r0 [] h2 s2 r2 steps place errno)
    below_losing one =
        let left = length s0 - (place + 1) in
        wrote_on (rw (one_left (length s0) place low) at took.goes) (one left) (λ xs ys goes lost.
        lost_on _ _ (rest_of (length s0) 0) (rest_of (suc left) place) _ _ _ _ _ _ _ _ _ _ _ _ _ _ goes
        (lost_behind xs lost))
