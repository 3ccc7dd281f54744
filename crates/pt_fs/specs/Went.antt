-- Inner. What the steps of one job make of it: what it has to do, what was lost of its seat, how many are left.
use Rattle.std.specs.Prelude.{◌≡◌, ◌≤◌, ◌+◌, ◌*◌, List, [], ◌∷◌, Option, length}
use Rattle.pt_host.specs.declared.ids.Errno.{Errno}
use Rattle.pt_host.specs.declared.seat.HostSeat.{HostSeat}
use Rattle.pt_frame.specs.Deed.{Step}
use Rattle.pt_frame.specs.Grammar.{Grammar, restores}
use Rattle.pt_frame.specs.Past.{lost_after}
use Rattle.pt_fs.specs.Running.{owes, steps_bound, lost_of}
use Rattle.pt_req.specs.declared.plan.Plan.{Plan}
use Rattle.pt_fs.specs.Advances.{Advances}
use Rattle.pt_fs.specs.Trace.{closings_told}
use Rattle.pt_fs.specs.Running.{Running}

-- these steps lead from what is to be done, and what was lost before them, to these
abbrev pub StepsLead : List Step → Grammar → Option Errno → Grammar → Option Errno → Type 0
StepsLead [] old lost new lost' = (new ≡ old) × (lost' ≡ lost)
StepsLead (step ∷ steps) old lost new lost' =
    (mid : Grammar) × Advances old step.deed step.reply mid
    × StepsLead steps mid (lost_after lost (restores old) step.reply) new lost'

-- the job went on by these steps
pub record Went (plan : Plan) (run : Running) (steps : List Step) (run' : Running) : Type 0 where
  pub start : run'.start ≡ run.start
  pub leads : StepsLead steps (owes plan run.start run.state) (lost_of run.state)
      (owes plan run.start run'.state) (lost_of run'.state)
  -- and kept its bound
  pub within : length steps + steps_bound run'.state ≤ steps_bound run.state + 3 * closings_told steps

abbrev pub run_seat : Running → Option HostSeat
run_seat run = run.seat
