use Rattle.pt_fit.proofs.Answered.{hosts_ended, run_ended}
use Rattle.pt_fit.proofs.run.all_answered.Goals as goal

pub returns-clause-hosts : goal.returns-clause-hosts
returns-clause-hosts g c =
    λ plan bound seats asked ends turns host after tables tables_after r a.
    hosts_ended g.H.Host.does g.H.Host.faults g.met.H.Host.promised plan bound seats asked ends
    turns host tables after tables_after r a

pub returns-clause-worlds : goal.returns-clause-worlds
returns-clause-worlds g c = run_ended
