use Rattle.std.proofs.Common.{◌≡◌, ◌+◌, ◌≤◌, ◌∷◌, ◌∙◌, [], List, Some, refl, slice_get, slice_set, ap, sym}
use Rattle.std.proofs.Common.{length, arith}
use Rattle.std.proofs.lemmas.List.{length-set}
use Rattle.std.proofs.lemmas.Option.{slice_get_within}
use Rattle.pt_host.specs.declared.seat.HostSeat.{HostSeat}
use Rattle.pt_frame.specs.Deed.{kept_deed_of}
use Rattle.pt_fs.specs.Laid.{runs_in, runs_of, states_in}
use Rattle.pt_fs.specs.Trace.{told_by}
use Rattle.pt_fs.specs.Work.{work}
use Rattle.pt_fs.proofs.Laying.{Through, seen_there, waked_goes, went_goes, went_laid, went_through}
use Rattle.pt_fs.proofs.Recording.{told_so, full_so, paced_so, work_left, paces}
use Rattle.pt_fs.proofs.Runs.{read_there, run_of, seats_there, set_there, within_places, within_seats}
use Rattle.pt_fs.proofs.Stopping.{stopped_here}
use Rattle.pt_fs.proofs.Through.{advances_through, loses_through, told_through}
use Rattle.pt_fs.proofs.Through.{fewer_through, within_through, spent_through}
use Rattle.pt_fs.proofs.jobs.take_step.Given.{Over}
use Rattle.pt_fs.proofs.jobs.take_step.Goals.{After-settle}
use Rattle.pt_fs.proofs.jobs.take_step.Goals as goal

pub wake-index-requires-clause-named : goal.wake-index-requires-clause-named
wake-index-requires-clause-named g c =
    within_places c.running.invariant c.running.view_is c.args.id.0 c.requires.named

pub wake-index-requires-clause-unfinished : goal.wake-index-requires-clause-unfinished
wake-index-requires-clause-unfinished g c = λ state at.
    let seats = seats_there c.running.invariant c.running.view_is c.args.id.0 state at in
    (c.requires.unfinished (run_of seats.0 seats.1 state) seats.2).0

pub start-start-requires : goal.start-start-requires
start-start-requires g c = record {
  named = slice_get_within c.wake-index.new.places.at c.args.id.0 _ c.wake-index.ensures.index;
}

pub index_mut-seat-requires : goal.index_mut-seat-requires
index_mut-seat-requires g c =
    let inside = within_seats c.running.invariant c.running.view_is c.args.id.0 c.requires.named in
    omega (arith, inside, c.running.inside.seats.ok.0)

pub index_mut-machine-requires : goal.index_mut-machine-requires
index_mut-machine-requires g c =
    let wakes = c.wake-index.ensures.wakes in
    let inside = slice_get_within c.wake-index.new.going.items c.wake-index.result wakes.it wakes.there in
    omega (arith, inside, c.wake-index.new.going.ok.0)

pub advance-lost-requires : goal.advance-lost-requires
advance-lost-requires g c =
    let wakes = c.wake-index.ensures.wakes in
    let it = seen_there c.index_mut-machine.result.now wakes c.index_mut-machine.ensures.value in
    let goes = c.requires.unfinished _ (read_there c.running.invariant c.running.view_is c.args.id.0 c.requires.named
    c.wake-index.new.places.starts c.wake-index.ensures.starts c.start-start.result.now c.start-start.ensures
    c.index_mut-seat.result.now c.index_mut-seat.ensures.value wakes.state wakes.was) in
    let on = waked_goes wakes.state wakes.it c.index_mut-machine.result.now _ c.start-start.result.now it wakes.stays
    goes in
    record { unfinished = on.0; going = on.1 }

pub settle-requires : goal.settle-requires
settle-requires g c =
    let seen = c.index_mut-machine.result.now in
    let read = c.index_mut-machine.ensures.value in
    let own = c.wake-index.ensures.index in
    let same = c.advance-lost.ensures.stepped.2.id in
    record {
      laid = went_laid seen _ c.wake-index.ensures.wakes c.wake-index.ensures.kept own read same;
      others_go = went_goes seen _ c.wake-index.ensures.wakes c.wake-index.ensures.kept own read same;
      room = rw length-set c.wake-index.ensures.kept.fit;
      index = own;
    }

pub invariant_of-running : goal.invariant_of-running
invariant_of-running g c = record {
  kept = c.settle.ensures.kept;
  each_start = ap length (c.settle.ensures.starts ∙ c.wake-index.ensures.starts) ∙ c.running.invariant.each_start
      ∙ sym (c.settle.ensures.same ∙ c.wake-index.ensures.same);
  each_seat = length-set c.running.inside.seats.items c.args.id.0 c.advance-lost.new.seat
      ∙ c.running.invariant.each_seat ∙ sym (c.settle.ensures.same ∙ c.wake-index.ensures.same);
}

-- what became of the job
went : (g : Over) (c : After-settle g) → Through
    (states_in c.running.inside.places.at c.running.inside.going.items) c.args.id.0 c.index_mut-machine.result.now
    c.advance-lost.new.machine (states_in c.settle.new.places.at c.settle.new.going.items)
went g c = went_through c.index_mut-machine.result.now c.advance-lost.new.machine c.wake-index.ensures.wakes
    c.wake-index.ensures.kept c.wake-index.ensures.index c.index_mut-machine.ensures.value
    c.advance-lost.ensures.stepped.2.id c.settle.ensures.settles

-- the job as it was
was : (g : Over) (c : After-settle g) → slice_get c.args.running.now c.args.id.0
    ≡ Some (run_of c.start-start.result.now c.index_mut-seat.result.now (went g c).state)
was g c = read_there c.running.invariant c.running.view_is c.args.id.0 c.requires.named
    c.wake-index.new.places.starts c.wake-index.ensures.starts c.start-start.result.now c.start-start.ensures
    c.index_mut-seat.result.now c.index_mut-seat.ensures.value (went g c).state (went g c).was

-- and all of them now
now : (g : Over) (c : After-settle g) →
    runs_in c.settle.new.places (slice_set c.running.inside.seats.items c.args.id.0 c.advance-lost.new.seat)
    c.settle.new.going.items
    ≡ slice_set c.args.running.now c.args.id.0
    (run_of c.start-start.result.now c.advance-lost.new.seat (went g c).state')
now g c =
    ap (λ (l : List HostSeat). runs_of l
    (slice_set c.running.inside.seats.items c.args.id.0 c.advance-lost.new.seat)
    (states_in c.settle.new.places.at c.settle.new.going.items))
    (c.settle.ensures.starts ∙ c.wake-index.ensures.starts)
    ∙ set_there c.running.invariant c.running.view_is c.args.id.0 _ c.advance-lost.new.seat (went g c).state' _
    (was g c) (went g c).runs

-- less work is left
less : (g : Over) (c : After-settle g) →
    work (runs_in c.settle.new.places
    (slice_set c.running.inside.seats.items c.args.id.0 c.advance-lost.new.seat) c.settle.new.going.items)
    c.advance-lost.new.run.session.now + 1
    ≤ work c.args.running.now c.args.run.now.session.now
less g c =
    let step = c.advance-lost.ensures.stepped.0 in
    let it = c.advance-lost.ensures.stepped.2 in
    rw (now g c) (spent_through (went g c) c.start-start.result.now g.H.Host.does (kept_deed_of step.act) step.reply
    c.args.run.now.host.now c.advance-lost.new.run.host.now c.args.running.now c.index_mut-seat.result.now
    c.advance-lost.new.seat c.args.run.now.session.now c.advance-lost.new.run.session.now (was g c) it.made it.within
    it.inserts)

pub returns-clause-took : goal.returns-clause-took
returns-clause-took g c =
    let after = (goal.at.returns-clause-took g c).After-settle in
    let th = went g after in
    let start = c.start-start.result.now in
    let step = c.advance-lost.ensures.stepped.0 in
    let it = c.advance-lost.ensures.stepped.2 in
    let plan = c.args.run.now.plan.now in
    told_so c.advance-lost.result c.advance-lost.ensures.stepped.1 c.advance-lost.ensures.told
    (λ lost wrote told. record {
      steps = step ∷ [];
      written = (c.advance-lost.new.run.writer.now, wrote, refl {a = c.advance-lost.new.run.writer.now});
      so = record {
        run = run_of start c.index_mut-seat.result.now th.state;
        run' = run_of start c.advance-lost.new.seat th.state';
        step = step;
        was = was g after;
        is = now g after;
        longer = refl;
        owner = it.owner;
        start = refl;
        unfinished = (c.requires.unfinished _ (was g after)).0;
        made = it.made;
        advances = advances_through th start plan (kept_deed_of step.act) step.reply it.advances;
        loses = loses_through th start plan step.reply it.loses;
        told = told_through th start lost told;
        fewer = fewer_through th start it.fewer;
        within = within_through th start (told_by (kept_deed_of step.act) step.reply) it.within;
        spent = less g after;
      };
    })

pub returns-clause-room : goal.returns-clause-room
returns-clause-room g c = paced_so c.advance-lost.result c.advance-lost.ensures.room
    (λ room. paces _ _ _ _ room (less g (goal.at.returns-clause-room g c).After-settle))

pub returns-clause-full : goal.returns-clause-full
returns-clause-full g c = full_so c.advance-lost.result c.advance-lost.ensures.full
    (λ full. work_left _ _ _ (less g (goal.at.returns-clause-full g c).After-settle) full)

pub returns-clause-stopped : goal.returns-clause-stopped
returns-clause-stopped g c =
    let after = (goal.at.returns-clause-stopped g c).After-settle in
    let it = c.advance-lost.ensures.stepped.2 in
    full_so c.advance-lost.result c.advance-lost.ensures.unwritten (λ broken.
    stopped_here c.args.running.now c.args.id.0
    (run_of c.start-start.result.now c.index_mut-seat.result.now (went g after).state) c.advance-lost.ensures.stepped.0
    c.advance-lost.new.seat (was g after) it.owner it.made broken)
