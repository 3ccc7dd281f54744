-- All that holds of a run, from how its jobs came to their ends.
use Rattle.std.proofs.Common.{◌≡◌, ◌≤◌, ℕ, List, Option, length, map}
use Rattle.pt_host.specs.Relation.{HostRelation}
use Rattle.pt_host.specs.Tree.{Tree}
use Rattle.pt_host.specs.declared.seat.HostSeat.{HostSeat}
use Rattle.pt_tables.specs.Tables.{Tables, empty_tables}
use Rattle.pt_iface.specs.declared.answer.Answer.{Answer}
use Rattle.pt_req.specs.declared.plan.Plan.{Plan}
use Rattle.pt_law.proofs.Hosts.{Tells}
use Rattle.pt_law.proofs.Told.{Promises}
use Rattle.pt_fs.specs.Jobs.{StartAll}
use Rattle.pt_fs.specs.Run.{IsRun}
use Rattle.pt_fs.specs.Running.{Running}
use Rattle.pt_fs.specs.Trace.{IsBounded, room_of, seated}
use Rattle.pt_fs.specs.Went.{run_seat}
use Rattle.pt_fs.specs.declared.job.Job.{Job}
use Rattle.pt_fs.specs.declared.trace.TraceStep.{TraceStep}
use Rattle.pt_fs.proofs.Ended.{CapsFit}
use Rattle.pt_fs.proofs.Laws.{keeps}
use Rattle.pt_fs.proofs.Objects.{keeps_told}
use Rattle.pt_fs.proofs.Whole.{Came, each_seated, ran_of, runs_jobs, seats_back}

pub is_run : {H : Type 0} {does : HostRelation H} {plan : Plan} {jobs : List Job} {trace : List TraceStep}
    {answers : List Answer} {host host' : H} {tables tables' : Tables} {running' : List Running} →
    Came does plan jobs trace answers host tables host' running' tables' → (tree : H → Option Tree) (faults : H → ℕ) →
    Promises does faults → Tells does tree → ((limits : List ℕ) × (tables ≡ empty_tables limits)) → StartAll jobs →
    CapsFit jobs → (left : List HostSeat) → left ≡ seated (map run_seat running') → IsBounded jobs trace →
    length trace ≤ room_of jobs →
    IsRun does plan jobs host (tree host) tables trace answers host' (tree host') left tables'
is_run {does = does} {plan = plan} {jobs = jobs} {trace = trace} {answers = answers} {host = host} {host' = host'}
    {tables = tables} {tables' = tables'} came tree faults p tells new starts fits left ends bounded room =
    let ran = ran_of came new in
    let steps = runs_jobs came left ends in
    let back = seats_back came faults p starts fits left ends in
    let sat = each_seated came faults p starts fits in
    let kept = keeps does faults p plan tables.limits jobs host tables trace answers host' tables' ran in
    let told = keeps_told does tree faults p tells plan tables.limits jobs host tables trace answers host' tables' ran in
    record {
      steps = steps;
      seats_back = back;
      seated = sat;
      bounded = bounded;
      room = room;
      causes = kept.causes;
      memory = kept.memory;
      gives_back = kept.gives_back;
      honoured = kept.honoured;
      reached = kept.reached;
      agree = kept.agree;
      counts = kept.counts;
      polite = kept.polite;
      handles = kept.handles;
      once = kept.once;
      options = kept.options;
      overtaken = kept.overtaken;
      shut_out = kept.shut_out;
      slots = kept.slots;
      at_rest = kept.rest;
      leads_on = told.leads_on;
      distinct = told.distinct;
      serves = told.serves;
      reopens = told.reopens;
      entries = told.entries;
      two_lookups = told.two_lookups;
      origins = told.origins;
      plain = told.plain;
      names_open = told.named;
      descriptors = told.descriptors;
      leaves_open = told.leaves;
    }
