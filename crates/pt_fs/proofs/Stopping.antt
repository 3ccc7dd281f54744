-- Steps before those of a run that stopped.
use Rattle.std.proofs.Common.{◌≡◌, ℕ, List, [], ◌++◌, ◌∙◌, Option, Some, option_map, refl, ap, length, map}
use Rattle.std.proofs.Common.{slice_get, slice_set}
use Rattle.std.specs.Prelude.{OnErr, Result, Ok, Err}
use Rattle.std.proofs.lemmas.Option.{slice_get-map}
use Rattle.pt_frame.specs.Deed.{kept_deed_of}
use Rattle.pt_host.specs.Relation.{HostRelation}
use Rattle.pt_host.specs.declared.ids.Errno.{Errno}
use Rattle.pt_host.specs.declared.seat.HostSeat.{HostSeat}
use Rattle.pt_tables.specs.Tables.{Tables}
use Rattle.pt_req.specs.declared.plan.Plan.{Plan}
use Rattle.pt_fs.specs.GoesOn.{GoesOn}
use Rattle.pt_fs.specs.Loses.{CutAll, LostAt}
use Rattle.pt_fs.specs.Recorded.{Wrote}
use Rattle.pt_fs.specs.Running.{Running}
use Rattle.pt_fs.specs.Stopped.{Stopped}
use Rattle.pt_fs.specs.Trace.{MadeFrom, TraceRuns}
use Rattle.pt_fs.specs.Went.{run_seat}
use Rattle.pt_fs.specs.declared.trace.TraceStep.{TraceStep}
use Rattle.pt_fs.proofs.Going.{goes_on}
use Rattle.pt_fs.proofs.LostStep.{cut_seat, map_same}
use Rattle.pt_fs.proofs.Recording.{writes_on, wrote_so}
use Rattle.pt_fs.proofs.Traces.{runs_on}

module _ {H R : Type 0} {does : HostRelation H} {wrote : R → TraceStep → R → Type 0} {unwritten : R → R → Type 0}
    {h0 h1 : H} {r0 r1 : Tables} {a b : R} where
  -- at its first step
  pub stopped_here : (running : List Running) (place : ℕ) (run : Running) (step : TraceStep) (seat : Option HostSeat) →
      slice_get running place ≡ Some run → step.job ≡ place →
      MadeFrom does (kept_deed_of step.act) step.reply h0 run.seat r0 h1 seat r1 → unwritten a b →
      Stopped does wrote unwritten h0 (map run_seat running) r0 a h1 r1 b
  stopped_here running place run step seat was owner made broken = record {
    steps = [];
    told = a;
    written = refl;
    broken = broken;
    mid = h0;
    stood = map run_seat running;
    there = r0;
    runs = (refl, refl, refl);
    step = step;
    left = slice_set (map run_seat running) step.job seat;
    made = (
      run.seat,
      seat,
      ap (λ k. slice_get (map run_seat running) k) owner ∙ slice_get-map run_seat running place
          ∙ ap (option_map run_seat) was,
      refl,
      made,
    );
  }

  module _ {h2 : H} {r2 : Tables} {c : R} where
    -- steps before, and then stopped, is stopped
    pub stopped_on : {s0 s1 : List (Option HostSeat)} →
        Wrote wrote a b (λ steps. TraceRuns does steps h0 s0 r0 h1 s1 r1) →
        Stopped does wrote unwritten h1 s1 r1 b h2 r2 c → Stopped does wrote unwritten h0 s0 r0 a h2 r2 c
    stopped_on {s0 = s0} {s1 = s1} first then = record {
      steps = first.steps ++ then.steps;
      told = then.told;
      written = writes_on wrote a b then.told first.steps then.steps first.written then.written;
      broken = then.broken;
      mid = then.mid;
      stood = then.stood;
      there = then.there;
      runs = runs_on does first.steps then.steps h0 h1 then.mid s0 s1 then.stood r0 r1 then.there first.so then.runs;
      step = then.step;
      left = then.left;
      made = then.made;
    }

    -- and likewise where jobs went on by them
    pub stopped_goes : {plan : Plan} {o0 o1 : (ℕ → ℕ) → List ℕ} {s0 s1 : List Running} →
        Wrote wrote a b (λ steps. GoesOn does plan o0 h0 s0 r0 [] o1 h1 s1 r1 steps) →
        Stopped does wrote unwritten h1 (map run_seat s1) r1 b h2 r2 c →
        Stopped does wrote unwritten h0 (map run_seat s0) r0 a h2 r2 c
    stopped_goes {s0 = s0} {s1 = s1} first then = stopped_on {s0 = map run_seat s0} {s1 = map run_seat s1}
        (wrote_so first (λ xs goes. rw goes.longer goes.runs)) then

    -- and where the last of them lost a seat
    pub stopped_lost : {plan : Plan} {o : (ℕ → ℕ) → List ℕ} {s0 s1 : List Running} {job : ℕ} {errno : Errno} →
        Wrote wrote a b (λ steps. LostAt does plan o h0 s0 r0 [] h1 s1 r1 steps job errno) →
        Stopped does wrote unwritten h1 (map run_seat s1) r1 b h2 r2 c →
        Stopped does wrote unwritten h0 (map run_seat s0) r0 a h2 r2 c
    stopped_lost {plan = plan} {o = o} {s0 = s0} {s1 = s1} first then = stopped_on {s0 = map run_seat s0}
        {s1 = map run_seat s1} (wrote_so first (λ xs it.
        let all = goes_on does plan o it.now it.after h0 it.mid h1 s0 it.stood s1 r0 it.left r1 [] it.so_far xs
        it.goes it.last in
        rw all.longer all.runs)) then

-- what came of what was refused, whatever that was
pub err_so : {X E : Type 0} (r : Result X E) {P : Type 0} → P → OnErr r P
err_so (Ok x) p = tt
err_so (Err error) p = p

-- a cut changes no seat
pub cut_seats : (job : ℕ) (s0 s1 : List Running) → length s1 ≡ length s0 → CutAll job s0 s1 →
    map run_seat s1 ≡ map run_seat s0
cut_seats job s0 s1 same cuts = map_same run_seat s0 s1 same (λ j run at.
    let cut = cuts j run at in (cut.0, cut.1, cut_seat job j run cut.0 cut.2))
