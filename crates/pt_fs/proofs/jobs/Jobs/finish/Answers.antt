use Rattle.pt_fs.specs.Placed.{AllEnded}
use Rattle.pt_fs.specs.Laid.{state_at}
use Rattle.pt_fs.proofs.Laying.{states_at, ended_place}
use Rattle.pt_fs.proofs.Runs.{all_left, all_told, run_of, seats_there}
use Rattle.pt_fs.proofs.jobs.Jobs.finish.Goals.{After-self}
use Rattle.pt_fs.proofs.jobs.Jobs.finish.Goals as goal

-- who has finished has ended, as no machine has finished
ended : (c : After-self) → AllEnded c.self.inside.places.at
ended c j it at =
    let seats = seats_there c.self.invariant c.self.view_is j (state_at c.self.inside.going.items it)
    (states_at c.self.inside.places.at c.self.inside.going.items j it at) in
    ended_place c.self.inside.going.items c.self.invariant.kept.all_go it
    (c.requires.finished j (run_of seats.0 seats.1 (state_at c.self.inside.going.items it)) seats.2)

pub finish-requires : goal.finish-requires
finish-requires c = record { ended = ended (goal.at.finish-requires c).After-self }

pub returns-clause-answers : goal.returns-clause-answers
returns-clause-answers c = rw c.finish.ensures (all_told c.self.invariant c.self.view_is
    (ended (goal.at.returns-clause-answers c).After-self))

pub returns-clause-seats : goal.returns-clause-seats
returns-clause-seats c = all_left c.self.invariant c.self.view_is
