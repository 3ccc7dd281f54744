-- Written by tools/chains.
use Rattle.std.proofs.Common.{rules}
use Rattle.pt_frame.proofs.Reading.{here, stops, then}
use Rattle.pt_frame.specs.Tree.{Gives}
use Rattle.pt_req.proofs.requests.session.init.Goals as goal

pub returns-in_err-era : goal.returns-in_err-era
returns-in_err-era c =
    rw (← c.agreed_with-agreed.ensures, ← c.init_answer-answer.ensures) (stops (c.in_err-era.ensures _) (search rules))

pub returns-in_err-root_open : goal.returns-in_err-root_open
returns-in_err-root_open c =
    rw (← c.agreed_with-agreed.ensures, ← c.init_answer-answer.ensures) (then (c.in_ok-era.ensures _) (
    stops (c.in_err-root_open.ensures _) (search rules)))

pub returns : goal.returns
returns c =
    rw (← c.agreed_with-agreed.ensures, ← c.init_answer-answer.ensures) (then (c.in_ok-era.ensures _) (
    then (c.in_ok-root_open.ensures _) (here Gives)))
