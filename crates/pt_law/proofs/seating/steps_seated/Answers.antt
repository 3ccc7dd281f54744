use Rattle.pt_law.proofs.seating.steps_seated.Goals as goal
use Rattle.pt_law.proofs.Seats.{alone_seat, made_seat, made_answer, alone_answers}

pub returns-clause-made : goal.returns-clause-made
returns-clause-made g c = made_seat g.H.Host.does g.H.Host.faults g.met.H.Host.promised

pub returns-clause-alone : goal.returns-clause-alone
returns-clause-alone g c = alone_seat g.H.Host.does g.H.Host.faults g.met.H.Host.promised

pub returns-clause-answers : goal.returns-clause-answers
returns-clause-answers g c = made_answer g.H.Host.does g.H.Host.faults g.met.H.Host.promised

pub returns-clause-all_answer : goal.returns-clause-all_answer
returns-clause-all_answer g c = alone_answers g.H.Host.does g.H.Host.faults g.met.H.Host.promised
