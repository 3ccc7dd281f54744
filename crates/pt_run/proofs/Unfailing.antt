-- Proof. Over a host that plans no failure a file system is made, and no seat is lost.
use Rattle.std.proofs.Common.{◌≡◌, ◌∙◌, ◌⊎◌, inl, inr, ℕ, zero, suc, List, [], ◌∷◌, Option, Some, None, Result, Ok, Err}
use Rattle.std.proofs.Common.{ap, map, refl, sym}
use Rattle.pt_host.specs.declared.ids.Errno.{Errno}
use Rattle.pt_host.specs.declared.reply.HostReply.TheVariants.{Fault}
use Rattle.pt_host.specs.declared.seat.HostSeat.{HostSeat}
use Rattle.pt_rules.specs.Does.{Does}
use Rattle.pt_rules.specs.Laws.Unchanged.{does_fail}
use Rattle.pt_rules.specs.State.{State}
use Rattle.pt_tree.specs.Start.{StartsAs}
use Rattle.pt_maps.specs.Refusal.{IsFirstRefusal, refusal_at}
use Rattle.pt_maps.specs.declared.error.MapError.{MapError}
use Rattle.pt_tables.specs.Tables.{Tables}
use Rattle.pt_iface.specs.declared.answer.Answer.{Answer}
use Rattle.pt_frame.specs.Deed.{Deed, Calls, Changes, kept_deed_of}
use Rattle.pt_frame.specs.Made.{Made}
use Rattle.pt_frame.specs.declared.act.ActReply.{ActReply}
use Rattle.pt_frame.specs.declared.act.ActReply.TheVariants.{Event, Host, NoCopy}
use Rattle.pt_fs.specs.FileSystem.{LeavesOne, opens_root}
use Rattle.pt_fs.specs.Jobs.{no_seat, job_seat}
use Rattle.pt_fs.specs.Trace.{MadeFrom, TraceRuns}
use Rattle.pt_fs.specs.declared.job.Job.{Job}
use Rattle.pt_fs.specs.declared.trace.TraceStep.{TraceStep}
use Rattle.pt_gen.specs.Generated.{generated_tree}
use Rattle.pt_script.specs.Jobs.{start_seat}
use Rattle.pt_script.specs.Settings.{no_settings}
use Rattle.pt_script.specs.declared.settings.Settings.{Settings}
use Rattle.pt_run.specs.Run.{IsNotOpened, IsRunFrom}
use Rattle.pt_run.specs.declared.report.LostJob.{LostJob}
use Rattle.pt_run.specs.declared.status.Status.TheVariants as status
use Rattle.pt_run.proofs.Opening.{planned_refusal}
use Rattle.pt_run.proofs.Rooted.{begun_root}
use Rattle.pt_run.proofs.Started.{started_unplanned}
use Rattle.pt_run.proofs.Unplanned.{does_unplanned, fails_none}

-- ---- a run plans nothing

made_unplanned : (deed : Option Deed) (reply : ActReply) (host : State) (seat : HostSeat) (tables : Tables)
    (host' : State) (seat' : HostSeat) (tables' : Tables) → Made Does deed reply host seat tables host' seat' tables' →
    host.plans ≡ [] → host'.plans ≡ []
made_unplanned None NoCopy host seat tables host' seat' tables' made unplanned =
    ap (λ (s : State). s.plans) made.0 ∙ unplanned
made_unplanned None told host seat tables host' seat' tables' made unplanned = absurd made
made_unplanned (Some (Changes asked)) (Event told) host seat tables host' seat' tables' made unplanned =
    ap (λ (s : State). s.plans) made.1 ∙ unplanned
made_unplanned (Some (Changes asked)) told host seat tables host' seat' tables' made unplanned = absurd made
made_unplanned (Some (Calls asked)) (Host told) host seat tables host' seat' tables' made unplanned =
    does_unplanned host seat asked told host' seat' made.0 unplanned
made_unplanned (Some (Calls asked)) NoCopy host seat tables host' seat' tables' made unplanned =
    does_unplanned host seat asked made.0.0 host' seat' made.0.2 unplanned
made_unplanned (Some (Calls asked)) told host seat tables host' seat' tables' made unplanned = absurd made

from_unplanned : (deed : Option Deed) (reply : ActReply) (host : State) (seat : Option HostSeat) (tables : Tables)
    (host' : State) (seat' : Option HostSeat) (tables' : Tables) →
    MadeFrom Does deed reply host seat tables host' seat' tables' → host.plans ≡ [] → host'.plans ≡ []
from_unplanned deed reply host (Some seat) tables host' (Some seat') tables' made unplanned =
    made_unplanned deed reply host seat tables host' seat' tables' made unplanned
from_unplanned deed reply host None tables host' None tables' made unplanned =
    made_unplanned deed reply host no_seat tables host' made.0 tables' made.1 unplanned
from_unplanned deed reply host (Some seat) tables host' None tables' made unplanned = absurd made
from_unplanned deed reply host None tables host' (Some seat') tables' made unplanned = absurd made

runs_unplanned : (trace : List TraceStep) (host : State) (seats : List (Option HostSeat)) (tables : Tables)
    (host' : State) (seats' : List (Option HostSeat)) (tables' : Tables) →
    TraceRuns Does trace host seats tables host' seats' tables' → host.plans ≡ [] → host'.plans ≡ []
runs_unplanned [] host seats tables host' seats' tables' runs unplanned =
    ap (λ (s : State). s.plans) runs.0 ∙ unplanned
runs_unplanned (step ∷ trace) host seats tables host' seats' tables' runs unplanned =
    let at = runs.3 in
    runs_unplanned trace runs.0 runs.1 runs.2 host' seats' tables' runs.4
    (from_unplanned (kept_deed_of step.act) step.reply host at.0 tables runs.0 at.1 runs.2 at.4 unplanned)

-- ---- so no step fails

abbrev fault_of : Errno → ActReply
fault_of errno = Host (Fault errno)

made_no_fault : (deed : Option Deed) (reply : ActReply) (errno : Errno) (host : State) (seat : HostSeat)
    (tables : Tables) (host' : State) (seat' : HostSeat) (tables' : Tables) →
    Made Does deed reply host seat tables host' seat' tables' → reply ≡ fault_of errno → host.plans ≡ [] → ⊥
made_no_fault None NoCopy errno host seat tables host' seat' tables' made is unplanned = cc
made_no_fault None told errno host seat tables host' seat' tables' made is unplanned = made
made_no_fault (Some (Changes asked)) (Event told) errno host seat tables host' seat' tables' made is unplanned = cc
made_no_fault (Some (Changes asked)) told errno host seat tables host' seat' tables' made is unplanned = made
made_no_fault (Some (Calls asked)) (Host told) errno host seat tables host' seat' tables' made is unplanned =
    let same : told ≡ Fault errno = cc in
    let e : None ≡ Some errno =
    sym (fails_none host asked unplanned) ∙ (does_fail host seat asked told host' seat' made.0 errno).0 same in
    cc
made_no_fault (Some (Calls asked)) NoCopy errno host seat tables host' seat' tables' made is unplanned = cc
made_no_fault (Some (Calls asked)) told errno host seat tables host' seat' tables' made is unplanned = made

from_no_fault : (deed : Option Deed) (reply : ActReply) (errno : Errno) (host : State) (seat : Option HostSeat)
    (tables : Tables) (host' : State) (seat' : Option HostSeat) (tables' : Tables) →
    MadeFrom Does deed reply host seat tables host' seat' tables' → reply ≡ fault_of errno → host.plans ≡ [] → ⊥
from_no_fault deed reply errno host (Some seat) tables host' (Some seat') tables' made is unplanned =
    made_no_fault deed reply errno host seat tables host' seat' tables' made is unplanned
from_no_fault deed reply errno host None tables host' None tables' made is unplanned =
    made_no_fault deed reply errno host no_seat tables host' made.0 tables' made.1 is unplanned
from_no_fault deed reply errno host (Some seat) tables host' None tables' made is unplanned = made
from_no_fault deed reply errno host None tables host' (Some seat') tables' made is unplanned = made

pub loses_none : (settings : Settings) (start : State) (jobs : List Job) (schedule : List ℕ) (trace : List TraceStep)
    (answers : List Answer) (tables : Tables) (host : State) (lost : LostJob) → start.plans ≡ [] →
    IsRunFrom settings start jobs schedule trace answers tables host (Some lost) → ⊥
loses_none settings start jobs schedule trace answers tables host lost unplanned run =
    let seat = start_seat settings in
    let call = run.opened.call in
    let opened = does_unplanned start seat opens_root call.0 run.opened_host seat call.1 unplanned in
    let loss = run.ends in
    let rose = loss.rose in
    let at = rose.made in
    from_no_fault (kept_deed_of loss.step.act) loss.step.reply lost.errno rose.from at.0 rose.now rose.to at.1
    rose.later at.4 loss.fault
    (runs_unplanned loss.before run.opened_host (map job_seat jobs) run.fs.tables rose.from rose.seats rose.now
    rose.leads opened)

-- ---- and the root is opened

no_rules : (place : ℕ) → refusal_at [] place ≡ None
no_rules zero = refl
no_rules (suc place) = refl

none_refused : (error : MapError) → IsFirstRefusal [] error → ⊥
none_refused error refusal = let e : None ≡ Some error = sym (no_rules refusal.place) ∙ refusal.refused in cc

none_unmapped : (((error : MapError) × IsFirstRefusal [] error)
    ⊎ (((error : MapError) × IsFirstRefusal [] error) ⊎ LeavesOne None)) → ⊥
none_unmapped (inl uids) = none_refused uids.0 uids.1
none_unmapped (inr (inl gids)) = none_refused gids.0 gids.1
none_unmapped (inr (inr names)) = names

pub always_opened : (start : State) (errno : Errno) → StartsAs generated_tree start →
    IsNotOpened no_settings start (status.BadConfig errno) → ⊥
always_opened start errno starts (inl unmapped) = none_unmapped unmapped.refused
always_opened start errno starts (inr refused) =
    let root = begun_root generated_tree [] start (start, starts, refl) in
    let planned = planned_refusal no_settings start errno root.0 root.1 refused in
    let e : None ≡ Some errno = sym (fails_none start opens_root (started_unplanned generated_tree start starts)) ∙ planned in
    cc
