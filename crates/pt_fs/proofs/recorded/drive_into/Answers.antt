use Rattle.std.proofs.Common.{◌≡◌, length, ◌∙◌, ap, sym, ◌++◌, [], refl, arith}
use Rattle.std.proofs.lemmas.List.{length-map}
use Rattle.std.proofs.lemmas.Option.{slice_get_within}
use Rattle.pt_tables.specs.Pending.{pending_in}
use Rattle.pt_law.proofs.Hosts.{Tells}
use Rattle.pt_fs.specs.Went.{run_seat}
use Rattle.pt_fs.specs.Trace.{seated}
use Rattle.pt_fs.proofs.Concluding.{is_run}
use Rattle.pt_fs.proofs.Ended.{started_from, started_length, started_calm, started_fits, started_seats}
use Rattle.pt_fs.proofs.Finale.{LostEnd, came_lost, bounded_lost, spent_lost, loses_seat}
use Rattle.pt_fs.proofs.Going.{there_took}
use Rattle.pt_fs.proofs.Recording.{wrote_on, wrote_so, winds_behind}
use Rattle.pt_fs.proofs.Sharing.{shares_on}
use Rattle.pt_fs.proofs.Stopping.{stopped_lost}
use Rattle.pt_fs.proofs.Whole.{Whole, came_whole, bounded_whole, spent_whole, ends_whole}
use Rattle.pt_fs.proofs.Works.{started_bounds}
use Rattle.pt_fs.proofs.recorded.drive_into.Given as given
use Rattle.pt_fs.proofs.recorded.drive_into.Goals.{After-plan}
use Rattle.pt_fs.proofs.recorded.drive_into.Goals as goal

pub run_jobs-requires-clause-named : goal.run_jobs-requires-clause-named
run_jobs-requires-clause-named g c =
    let plan = g.F.SteppedFs.plan_of c.args.fs in
    let started = started_from plan c.args.jobs.items c.in-Ok.running c.in-Ok.ensures.waiting c.in-Ok.ensures.fits in
    let same = started_length plan c.args.jobs.items c.in-Ok.running started in
    let few = c.requires.few in
    omega (arith, same, few)

pub run_jobs-requires-clause-calm : goal.run_jobs-requires-clause-calm
run_jobs-requires-clause-calm g c =
    let plan = g.F.SteppedFs.plan_of c.args.fs in
    let started = started_from plan c.args.jobs.items c.in-Ok.running c.in-Ok.ensures.waiting c.in-Ok.ensures.fits in
    started_calm plan c.args.jobs.items c.in-Ok.running started

pub wind_up-requires-clause-few : goal.wind_up-requires-clause-few
wind_up-requires-clause-few g c =
    let lost = (rw c.in-Ok-Some.field-0-is at c.in-Ok-Some.ensures.lost).so in
    let same = lost.last.same ∙ lost.goes.same in
    let plan = g.F.SteppedFs.plan_of c.args.fs in
    let started = started_from plan c.args.jobs.items c.in-Ok.running c.in-Ok.ensures.waiting c.in-Ok.ensures.fits in
    let long = started_length plan c.args.jobs.items c.in-Ok.running started in
    let few = c.requires.few in
    omega (arith, same, long, few)

pub wind_up-requires-clause-named : goal.wind_up-requires-clause-named
wind_up-requires-clause-named g c =
    let took = (rw c.in-Ok-Some.field-0-is at c.in-Ok-Some.ensures.lost).so.took in
    slice_get_within c.run_jobs.new.running c.in-Ok-Some.loss.id.0 took.run' (there_took took)

-- what the host keeps
lawful_of : (g : given.Over) → Tells g.H.Host.does g.H.Host.tree
lawful_of g = λ from seat asked reply to seat_after made before at.
    let l = g.met.H.Host.lawful from seat asked reply to seat_after made before at in
    (l.0, l.1, l.2)

-- the run had the configuration and the tables of the file system
planned : (g : given.Over) (c : After-plan g) → c.plan.result.now ≡ g.F.SteppedFs.plan_of c.args.fs
planned g c = c.plan.ensures ∙ c.replace_session-session.ensures.plan

pub returns-in-Ok-None-clause-run : goal.returns-in-Ok-None-clause-run
returns-in-Ok-None-clause-run g c =
    let jobs = c.args.jobs.items in
    let plan = g.F.SteppedFs.plan_of c.args.fs in
    let started = started_from plan c.args.jobs.items c.in-Ok.running c.in-Ok.ensures.waiting c.in-Ok.ensures.fits in
    let running = c.in-Ok.running in
    let seats = ap seated c.finish_run.ensures.seats in
    let new = c.requires.new in
    let bounds = started_bounds _ jobs running started in
    let fits = started_fits _ jobs running started in
    let none = ap pending_in new.1 in
    let fs = c.finish_run.ensures.fs in
    let same = planned g (goal.at.returns-in-Ok-None-clause-run g c).After-plan in
    let out = c.replace_session-session.ensures.out in
    let shares = c.in-Ok-None.ensures.shares in
    rw (c.writer-1.given.1 (sym shares.writer), c.host-1.given.1 (sym shares.host))
    (wrote_so (rw out at (rw same at (rw c.in-Ok-None.field-0-is at c.in-Ok-None.ensures.goes))) (λ trace goes.
    let whole : Whole g.H.Host.does plan c.args.schedule.now c.args.host.now jobs running
    (g.F.SteppedFs.tables c.args.fs) c.run_jobs.new.run.host.now c.run_jobs.new.running
    c.run_jobs.new.run.session.now trace c.finish_run.result.answers.items =
    record {
      none = [];
      empty = refl;
      seats = c.requires.seats;
      started = started;
      goes = goes;
      finished = rw c.in-Ok-None.field-0-is at c.in-Ok-None.ensures.finished;
      calm = rw c.in-Ok-None.field-0-is at c.in-Ok-None.ensures.calm;
      answered = c.finish_run.ensures.answers;
    } in
    let spent = spent_whole whole in
    let is = is_run (came_whole whole) g.H.Host.tree g.H.Host.faults g.met.H.Host.promised (lawful_of g) new
    c.requires.seats fits _ seats
    (bounded_whole whole) (omega (arith, bounds, none, spent)) in (
      rw fs (rw (c.with_tables.ensures.tables, c.session-in-Ok-None-1.given.1 (sym shares.session)) is),
      ends_whole whole,
    )))

pub returns-in-Ok-wind_up-clause-run : goal.returns-in-Ok-wind_up-clause-run
returns-in-Ok-wind_up-clause-run g c =
    let jobs = c.args.jobs.items in
    let plan = g.F.SteppedFs.plan_of c.args.fs in
    let started = started_from plan c.args.jobs.items c.in-Ok.running c.in-Ok.ensures.waiting c.in-Ok.ensures.fits in
    let running = c.in-Ok.running in
    let seats = ap seated c.finish_run-left.ensures.seats in
    let new = c.requires.new in
    let bounds = started_bounds _ jobs running started in
    let fits = started_fits _ jobs running started in
    let none = ap pending_in new.1 in
    let fs = c.finish_run-left.ensures.fs in
    let same = planned g (goal.at.returns-in-Ok-wind_up-clause-run g c).After-plan in
    let again = c.in-Ok-Some.ensures.shares.plan ∙ same in
    let out = c.replace_session-session.ensures.out in
    let shares = shares_on c.in-Ok-Some.ensures.shares c.in-Ok-wind_up.ensures.shares in
    rw (c.writer-in-Ok-Some-1.given.1 (sym shares.writer), c.host-in-Ok-Some-1.given.1 (sym shares.host))
    (wrote_on (rw out at (rw same at (rw c.in-Ok-Some.field-0-is at c.in-Ok-Some.ensures.lost)))
    (rw again at c.in-Ok-wind_up.ensures.winds_up)
    (λ so_far back lost winds.
    let trace = so_far ++ back in
    let e : LostEnd g.H.Host.does plan c.args.schedule.now jobs c.args.host.now c.wind_up.new.run.host.now running
    c.wind_up.new.running (g.F.SteppedFs.tables c.args.fs) c.wind_up.new.run.session.now trace
    c.finish_run-left.result.answers.items c.in-Ok-Some.loss.id.0 c.in-Ok-Some.loss.errno =
    record {
      none = [];
      mid = c.run_jobs.new.run.host.now;
      stood = c.run_jobs.new.running;
      left = c.run_jobs.new.run.session.now;
      so_far = so_far;
      empty = refl;
      seats = c.requires.seats;
      started = started;
      lost = lost;
      winds = winds_behind so_far winds;
      finished = c.in-Ok-wind_up.ensures.finished;
      answered = c.finish_run-left.ensures.answers;
    } in
    let spent = spent_lost e in
    let is = is_run (came_lost e) g.H.Host.tree g.H.Host.faults g.met.H.Host.promised (lawful_of g) new
    c.requires.seats fits _ seats
    (bounded_lost e) (omega (arith, bounds, none, spent)) in (
      rw fs (rw (c.with_tables-in-Ok-wind_up.ensures.tables, c.session-in-Ok-Some-1.given.1 (sym shares.session)) is),
      loses_seat e g.H.Host.faults g.met.H.Host.promised,
    )))

pub returns-in-Err-run_jobs-clause-full : goal.returns-in-Err-run_jobs-clause-full
returns-in-Err-run_jobs-clause-full g c =
    let plan = g.F.SteppedFs.plan_of c.args.fs in
    let started = started_from plan c.args.jobs.items c.in-Ok.running c.in-Ok.ensures.waiting c.in-Ok.ensures.fits in
    let bounds = started_bounds _ c.args.jobs.items c.in-Ok.running started in
    let none = ap pending_in (c.replace_session-session.ensures.out ∙ c.requires.new.1) in
    let full = c.in-Err-run_jobs.ensures.full in
    omega (arith, bounds, none, full)

pub returns-in-Err-wind_up-clause-full : goal.returns-in-Err-wind_up-clause-full
returns-in-Err-wind_up-clause-full g c =
    let plan = g.F.SteppedFs.plan_of c.args.fs in
    let started = started_from plan c.args.jobs.items c.in-Ok.running c.in-Ok.ensures.waiting c.in-Ok.ensures.fits in
    let bounds = started_bounds _ c.args.jobs.items c.in-Ok.running started in
    let none = ap pending_in (c.replace_session-session.ensures.out ∙ c.requires.new.1) in
    let paced = c.in-Ok-Some.ensures.room in
    let full = c.in-Err-wind_up.ensures.full in
    omega (arith, bounds, none, paced, full)

pub returns-in-Ok-None-clause-one_each : goal.returns-in-Ok-None-clause-one_each
returns-in-Ok-None-clause-one_each g c =
    let plan = g.F.SteppedFs.plan_of c.args.fs in
    let started = started_from plan c.args.jobs.items c.in-Ok.running c.in-Ok.ensures.waiting c.in-Ok.ensures.fits in
    let goes = rw c.in-Ok-None.field-0-is at c.in-Ok-None.ensures.goes in
    ap length c.finish_run.ensures.seats ∙ length-map c.run_jobs.new.running run_seat ∙ goes.so.same
    ∙ started_length plan c.args.jobs.items c.in-Ok.running started

pub returns-in-Ok-wind_up-clause-one_each : goal.returns-in-Ok-wind_up-clause-one_each
returns-in-Ok-wind_up-clause-one_each g c =
    let plan = g.F.SteppedFs.plan_of c.args.fs in
    let started = started_from plan c.args.jobs.items c.in-Ok.running c.in-Ok.ensures.waiting c.in-Ok.ensures.fits in
    let lost = (rw c.in-Ok-Some.field-0-is at c.in-Ok-Some.ensures.lost).so in
    ap length c.finish_run-left.ensures.seats ∙ length-map c.wind_up.new.running run_seat
    ∙ c.in-Ok-wind_up.ensures.same ∙ lost.last.same ∙ lost.goes.same
    ∙ started_length plan c.args.jobs.items c.in-Ok.running started

pub returns-in-Err-run_jobs-clause-stopped : goal.returns-in-Err-run_jobs-clause-stopped
returns-in-Err-run_jobs-clause-stopped g c =
    let plan = g.F.SteppedFs.plan_of c.args.fs in
    let started = started_from plan c.args.jobs.items c.in-Ok.running c.in-Ok.ensures.waiting c.in-Ok.ensures.fits in
    let seats = started_seats plan c.args.jobs.items c.in-Ok.running started in
    let shares = c.in-Err-run_jobs.ensures.shares in
    rw (
      c.with_tables-in-Err-run_jobs.ensures.tables,
      c.host-in-Err-run_jobs-1.given.1 (sym shares.host),
      c.session-in-Err-run_jobs-1.given.1 (sym shares.session),
      c.writer-in-Err-run_jobs-1.given.1 (sym shares.writer),
    )
    (rw (c.replace_session-session.ensures.out, seats) at c.in-Err-run_jobs.ensures.stopped)

pub returns-in-Err-wind_up-clause-stopped : goal.returns-in-Err-wind_up-clause-stopped
returns-in-Err-wind_up-clause-stopped g c =
    let plan = g.F.SteppedFs.plan_of c.args.fs in
    let started = started_from plan c.args.jobs.items c.in-Ok.running c.in-Ok.ensures.waiting c.in-Ok.ensures.fits in
    let seats = started_seats plan c.args.jobs.items c.in-Ok.running started in
    let lost = rw c.in-Ok-Some.field-0-is at c.in-Ok-Some.ensures.lost in
    let shares = shares_on c.in-Ok-Some.ensures.shares c.in-Err-wind_up.ensures.shares in
    rw (
      c.with_tables-in-Err-wind_up.ensures.tables,
      c.host-in-Ok-Some-1.given.1 (sym shares.host),
      c.session-in-Ok-Some-1.given.1 (sym shares.session),
      c.writer-in-Ok-Some-1.given.1 (sym shares.writer),
    )
    (rw (c.replace_session-session.ensures.out, seats) at (stopped_lost lost c.in-Err-wind_up.ensures.stopped))
