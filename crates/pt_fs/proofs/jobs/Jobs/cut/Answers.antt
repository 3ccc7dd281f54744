use Rattle.std.proofs.Common.{◌≡◌, ◌∙◌, List, refl, ap, sym, subst, arith}
use Rattle.std.proofs.lemmas.Option.{same_Some, slice_get_within}
use Rattle.pt_frame.specs.Frame.{cut as cut_grammar}
use Rattle.pt_frame.specs.Grammar.{Grammar, IsDo, owed_by}
use Rattle.pt_job.specs.Machine.Job.{is_finished as is_job_over}
use Rattle.pt_host.specs.declared.seat.HostSeat.{HostSeat}
use Rattle.pt_fs.specs.Laid.{runs_of, states_in}
use Rattle.pt_fs.specs.Running.{State, lost_of, owes}
use Rattle.pt_fs.specs.declared.machine.Machine.{Machine}
use Rattle.pt_fs.proofs.Laying.{seen_there, went_laid, went_goes, went_through}
use Rattle.pt_fs.proofs.Runs.{parts, run_of, seats_there, set_seen, within_places}
use Rattle.pt_fs.proofs.jobs.Jobs.cut.Goals as goal

pub wake-index-requires-clause-named : goal.wake-index-requires-clause-named
wake-index-requires-clause-named c = within_places c.self.invariant c.self.view_is c.args.id.0 c.requires.named

pub wake-index-requires-clause-unfinished : goal.wake-index-requires-clause-unfinished
wake-index-requires-clause-unfinished c = λ state at.
    let seats = seats_there c.self.invariant c.self.view_is c.args.id.0 state at in
    c.requires.unfinished (run_of seats.0 seats.1 state) seats.2

pub index_mut-requires : goal.index_mut-requires
index_mut-requires c =
    let wakes = c.wake-index.ensures.wakes in
    let inside = slice_get_within c.wake-index.new.going.items c.wake-index.result wakes.it wakes.there in
    omega (arith, inside, c.wake-index.new.going.ok.0)

pub cut-requires : goal.cut-requires
cut-requires c =
    let wakes = c.wake-index.ensures.wakes in
    let it = seen_there c.index_mut.result.now wakes c.index_mut.ensures.value in
    let seats = seats_there c.self.invariant c.self.view_is c.args.id.0 wakes.state wakes.was in
    ap (λ (g : Machine). is_job_over g.state) it ∙ wakes.stays.finished
    ∙ c.requires.unfinished (run_of seats.0 seats.1 wakes.state) seats.2

pub settle-requires-clause-laid : goal.settle-requires-clause-laid
settle-requires-clause-laid c = went_laid c.index_mut.result.now _ c.wake-index.ensures.wakes
    c.wake-index.ensures.kept c.wake-index.ensures.index c.index_mut.ensures.value refl

pub settle-requires-clause-others_go : goal.settle-requires-clause-others_go
settle-requires-clause-others_go c = went_goes c.index_mut.result.now _ c.wake-index.ensures.wakes
    c.wake-index.ensures.kept c.wake-index.ensures.index c.index_mut.ensures.value refl

pub returns : goal.returns
returns c = record {
  cut = λ run at.
      let th = went_through c.index_mut.result.now _ c.wake-index.ensures.wakes c.wake-index.ensures.kept
      c.wake-index.ensures.index c.index_mut.ensures.value refl c.settle.ensures.settles in
      let own = parts c.self.invariant c.self.view_is c.args.id.0 run at in
      let is : th.state ≡ run.state = same_Some th.state run.state (sym th.was ∙ own.state) in
      let cut = c.cut.ensures in
      let bound = th.after.bound in
      let before = th.before.bound in
      let inserts = th.after.inserts in (
        run_of run.start run.seat th.state',
        ap (λ (l : List HostSeat). runs_of l c.self.inside.seats.items
            (states_in c.settle.new.places.at c.settle.new.going.items))
            (c.settle.ensures.starts ∙ c.wake-index.ensures.starts)
            ∙ set_seen c.self.invariant c.self.view_is c.args.id.0 run th.state' _ at th.runs,
        record {
          start = refl;
          seat = refl;
          stood = λ plan seat. subst (λ (s : State). IsDo (owes plan seat s)) is
              (subst IsDo (th.before.left plan seat) (cut.stood plan seat));
          left = λ plan seat. th.after.left plan seat ∙ cut.left plan seat
              ∙ ap (λ (g : Grammar). cut_grammar seat (owed_by g)) (th.before.left plan seat)
              ∙ ap (λ (s : State). cut_grammar seat (owed_by (owes plan seat s))) is;
          lost = th.after.lost ∙ cut.lost ∙ th.before.lost ∙ ap lost_of is;
          bound = rw (← is) (omega (arith, bound, cut.bound, before));
        },
        rw (← is) (omega (arith, inserts, cut.inserts)),
      );
}
