-- A script alone determines its report unless memory runs out.
use Rattle.std.proofs.Common.{◌≡◌, ◌≢◌, ℕ, ◌≤◌, List, [], ◌∷◌, ◌∙◌, Option, Some, None, Ok, refl, ap, sym, subst}
use Rattle.std.proofs.Common.{arith}
use Rattle.std.proofs.lemmas.Option.{same_Some}
use Rattle.pt_host.specs.declared.ids.Errno.{Errno}
use Rattle.pt_host.specs.declared.reply.HostReply.{HostReply}
use Rattle.pt_host.specs.declared.reply.HostReply.TheVariants as reply
use Rattle.pt_host.specs.declared.reply.HostValue.TheVariants as value
use Rattle.pt_host.specs.declared.seat.HostSeat.{HostSeat}
use Rattle.pt_rules.specs.Does.{Does}
use Rattle.pt_rules.specs.State.{State}
use Rattle.pt_rules.specs.Laws.Determined.{determined as host_determined}
use Rattle.pt_rules.specs.Laws.Promised.{does_promised}
use Rattle.pt_tree.specs.declared.spec.TreeLine.{TreeLine}
use Rattle.pt_tables.specs.Rows.{number_rows, handle_rows}
use Rattle.pt_rows.specs.Above.{IsLiveAbove}
use Rattle.pt_tables.specs.LiveAfter.{IsLiveAfter, IsHandleAfter}
use Rattle.pt_tables.specs.Tables.{Tables, empty_tables, Agree, AreApart, AreHandlesApart, HasNumber, HasHandle}
use Rattle.pt_tables.specs.declared.row.Row.{Row}
use Rattle.pt_tables.specs.declared.row.HandleRow.{HandleRow}
use Rattle.pt_rows.proofs.Alone.{none_taken, takes_one}
use Rattle.pt_tables.proofs.Endings.{number_one, handle_one}
use Rattle.pt_rows.proofs.Lists.{each_taken}
use Rattle.pt_iface.specs.declared.answer.Answer.{Answer}
use Rattle.pt_law.specs.World.{TablesRun}
use Rattle.pt_law.proofs.Hosts.{hosts_tables}
use Rattle.pt_law.proofs.Laws.{agree_law}
use Rattle.pt_req.specs.Plan.{moved_capability}
use Rattle.pt_req.specs.declared.plan.Config.{Config}
use Rattle.pt_req.specs.declared.plan.Plan.{Plan}
use Rattle.pt_fs.specs.Determined.{FoundMemory, NoneIsCut, EndsOrLoses, RanInOrder, AreOneRun}
use Rattle.pt_fs.specs.FileSystem.{FileSystem, opens_root, IsMadeBy}
use Rattle.pt_fs.specs.Keeps.{turns_of}
use Rattle.pt_fs.specs.declared.job.Job.{Job}
use Rattle.pt_fs.specs.declared.trace.TraceStep.{TraceStep}
use Rattle.pt_fs.proofs.Determined.{turns_determined}
use Rattle.pt_fs.proofs.Laws.{host_runs}
use Rattle.pt_script.specs.Jobs.{start_seat}
use Rattle.pt_script.specs.Begins.{planned_all, BeginsAs}
use Rattle.pt_run.specs.Configured.{IsConfigured}
use Rattle.pt_run.specs.Determined.{IsFull, IsOnly, DeterminesReport}
use Rattle.pt_run.specs.declared.report.LostJob.{LostJob}
use Rattle.pt_run.specs.Run.{IsFsOpened, EndsWholeOrLost, IsRunFrom, IsReportOf, AreLive}
use Rattle.pt_run.specs.Run.{report_of}
use Rattle.pt_script.specs.Script.{Begun}
use Rattle.pt_run.specs.TableLines.{AllAbove}
use Rattle.pt_script.specs.declared.line.PlannedFault.{PlannedFault}
use Rattle.pt_script.specs.declared.settings.Settings.{Settings}

-- what comes next is one pair at most
abbrev IsOne : (Option ℕ → Option (ℕ × ℕ) → Type 0) → Type 0
IsOne Next = (above : Option ℕ) (one other : Option (ℕ × ℕ)) → Next above one → Next above other → one ≡ other

pub all_one : (Next : Option ℕ → Option (ℕ × ℕ) → Type 0) → IsOne Next → (above : Option ℕ) (xs ys : List (ℕ × ℕ)) →
    AllAbove Next above xs → AllAbove Next above ys → xs ≡ ys
all_one Next one above [] [] h k = refl
all_one Next one above [] (y ∷ ys) h k = let e = one above None (Some y) h k.0 in absurd (cc)
all_one Next one above (x ∷ xs) [] h k = let e = one above (Some x) None h.0 k in absurd (cc)
all_one Next one above (x ∷ xs) (y ∷ ys) h k =
    let e : y ≡ x = let f = one above (Some x) (Some y) h.0 k.0 in cc in
    let rest : AllAbove Next (Some x.0) ys = subst (λ (z : ℕ × ℕ). AllAbove Next (Some z.0) ys) e k.1 in
    ap (λ (l : List (ℕ × ℕ)). x ∷ l) (all_one Next one (Some x.0) xs ys h.1 rest) ∙ ap (λ (z : ℕ × ℕ). z ∷ ys) (sym e)

pair_same : (one other : ℕ × ℕ) → one.0 ≡ other.0 → one.1 ≡ other.1 → Some one ≡ Some other
pair_same one other a b = λ i. Some (a i, b i)

pub lives_one : (tables : Tables) → Agree tables → IsOne (IsLiveAfter tables.rows)
lives_one tables agree above None None h k = refl
lives_one tables agree above None (Some found) h k =
    absurd (none_taken (IsLiveAbove number_rows.keyed above) h k.0.1.1 k.0.2)
lives_one tables agree above (Some found) None h k =
    absurd (none_taken (IsLiveAbove number_rows.keyed above) k h.0.1.1 h.0.2)
lives_one tables agree above (Some one) (Some other) h k =
    let a : one.0 ≤ k.0.0.number =
    each_taken (λ (row : Row). IsLiveAbove number_rows.keyed above row → one.0 ≤ row.number) k.0.1.1 h.1 k.0.2 in
    let b : other.0 ≤ h.0.0.number =
    each_taken (λ (row : Row). IsLiveAbove number_rows.keyed above row → other.0 ≤ row.number) h.0.1.1 k.1 h.0.2 in
    let c = h.0.3 in
    let d = k.0.3 in
    let e : k.0.0.number ≡ h.0.0.number = omega (arith, a, b, c, d) in
    let same : h.0.0 ≡ k.0.0 =
    (takes_one AreApart (HasNumber h.0.0.number) (number_one h.0.0.number) agree.apart h.0.1.1 k.0.1.1 (
      h.0.2.0,
      refl,
    ) (k.0.2.0, e)).0 in
    pair_same one other (sym c ∙ sym e ∙ d) (sym h.0.4 ∙ ap (λ (row : Row). row.count) same ∙ k.0.4)

pub handles_one : (tables : Tables) → Agree tables → IsOne (IsHandleAfter tables.handles)
handles_one tables agree above None None h k = refl
handles_one tables agree above None (Some found) h k =
    absurd (none_taken (IsLiveAbove handle_rows.keyed above) h k.0.1.1 k.0.2)
handles_one tables agree above (Some found) None h k =
    absurd (none_taken (IsLiveAbove handle_rows.keyed above) k h.0.1.1 h.0.2)
handles_one tables agree above (Some one) (Some other) h k =
    let a : one.0 ≤ k.0.0.handle =
    each_taken (λ (row : HandleRow). IsLiveAbove handle_rows.keyed above row → one.0 ≤ row.handle) k.0.1.1 h.1 k.0.2 in
    let b : other.0 ≤ h.0.0.handle =
    each_taken (λ (row : HandleRow). IsLiveAbove handle_rows.keyed above row → other.0 ≤ row.handle) h.0.1.1 k.1 h.0.2 in
    let c = h.0.3 in
    let d = k.0.3 in
    let e : k.0.0.handle ≡ h.0.0.handle = omega (arith, a, b, c, d) in
    let same : h.0.0 ≡ k.0.0 =
    (takes_one AreHandlesApart (HasHandle h.0.0.handle)
    (handle_one h.0.0.handle) agree.handles_apart h.0.1.1 k.0.1.1 (h.0.2.0, refl) (k.0.2.0, e)).0 in
    pair_same one other (sym c ∙ sym e ∙ d) (sym h.0.4 ∙ ap (λ (row : HandleRow). row.number) same ∙ k.0.4)

-- the lines tell one host
start_one : (lines : List TreeLine) (faults : List PlannedFault) (start other : State) → BeginsAs lines faults start →
    BeginsAs lines faults other → start ≡ other
start_one lines faults start other h k = let e : h.0 ≡ k.0 = let f = h.1 in let g = k.1 in cc in
    h.2 ∙ ap (planned_all faults) e ∙ sym k.2

configured_one : (settings : Settings) (config other : Config) → IsConfigured settings config →
    IsConfigured settings other → config ≡ other
configured_one settings config other h k = h ∙ sym k

made_memory : (told : HostReply) (fs : FileSystem) → IsMadeBy told (Ok fs) → told ≢ reply.NoMemory
made_memory (reply.Ok (value.Fd fd)) fs made e = cc
made_memory told fs made e = absurd (subst (λ (t : HostReply). IsMadeBy t (Ok fs)) e made)

made_root : (told : HostReply) (fs other : FileSystem) → IsMadeBy told (Ok fs) → IsMadeBy told (Ok other) →
    fs.root ≡ other.root
made_root (reply.Ok (value.Fd fd)) fs other h k = h ∙ sym k
made_root told fs other h k = absurd h

-- one file system is made
record AreOpenedAlike (fs other : FileSystem) (host host' : State) : Type 0 where
  made : fs ≡ other
  hosts : host ≡ host'

opened_one : (settings : Settings) (before : State) (fs other : FileSystem) (after after' : State) →
    IsFsOpened settings before fs after → IsFsOpened settings before other after' →
    AreOpenedAlike fs other after after'
opened_one settings before fs other after after' h k =
    let told = h.call.0 in
    let told' = k.call.0 in
    let seat = start_seat settings in
    let same = host_determined before after after' seat seat seat opens_root told told' (made_memory told fs h.call.2)
    (made_memory told' other k.call.2) h.call.1 k.call.1 in
    let made : IsMadeBy told (Ok other) = subst (λ (t : HostReply). IsMadeBy t (Ok other)) (sym same.0) k.call.2 in
    let root : fs.root ≡ other.root = made_root told fs other h.call.2 made in
    let config : fs.plan.config ≡ other.plan.config =
    configured_one settings fs.plan.config other.plan.config h.plan k.plan in
    let uids : fs.plan.uid_map ≡ other.plan.uid_map =
    h.uid_map ∙ ap (λ (c : Config). c.uid_map) config ∙ sym k.uid_map in
    let gids : fs.plan.gid_map ≡ other.plan.gid_map =
    h.gid_map ∙ ap (λ (c : Config). c.gid_map) config ∙ sym k.gid_map in
    let capability : fs.plan.capability ≡ other.plan.capability =
    h.capability ∙ ap (λ (c : Config). moved_capability c.xattrmap) config ∙ sym k.capability in
    let tables : fs.tables ≡ other.tables =
    h.tables ∙ ap (λ (c : Config). empty_tables (c.guest_fd_limit ∷ [])) config ∙ sym k.tables in
    record {
      made = λ i. record {
        plan = record { config = config i; uid_map = uids i; gid_map = gids i; capability = capability i };
        tables = tables i;
        root = root i;
      };
      hosts = same.1;
    }

-- the job and the error, where a seat was lost
abbrev parts_of : LostJob → ℕ × Errno
parts_of lost = (lost.job, lost.errno)

abbrev loss_of : Option LostJob → Option (ℕ × Errno)
loss_of None = None
loss_of (Some lost) = Some (parts_of lost)

loss_same : (lost other : Option LostJob) → loss_of lost ≡ loss_of other → lost ≡ other
loss_same None None e = refl
loss_same None (Some other) e = absurd (cc)
loss_same (Some lost) None e = absurd (cc)
loss_same (Some lost) (Some other) e =
    let both = same_Some (parts_of lost) (parts_of other) e in
    let job = ap (λ (p : ℕ × Errno). p.0) both in
    let errno = ap (λ (p : ℕ × Errno). p.1) both in
    λ i. Some (record { job = job i; errno = errno i })

ends_or_loses : (plan : Plan) (jobs : List Job) (schedule : List ℕ) (host : State) (tables : Tables)
    (trace : List TraceStep) (answers : List Answer) (lost : Option LostJob) →
    EndsWholeOrLost plan jobs schedule host tables trace answers lost →
    EndsOrLoses Does (λ (state : State). state.faults) plan jobs schedule host tables trace answers (loss_of lost)
ends_or_loses plan jobs schedule host tables trace answers None ends = ends
ends_or_loses plan jobs schedule host tables trace answers (Some lost) ends = ends

-- the run as one of jobs by a schedule
abbrev RanAs : FileSystem → List Job → List ℕ → State → List TraceStep → List Answer → Option LostJob → State →
    List HostSeat → Tables → Type 0
RanAs fs jobs schedule opened trace answers lost host seats tables =
    RanInOrder Does (λ (state : State). state.faults) fs.plan schedule jobs opened fs.tables trace answers
    (loss_of lost) host seats tables

ran_in_order : (settings : Settings) (start : State) (jobs : List Job) (schedule : List ℕ)
    (trace : List TraceStep) (answers : List Answer) (tables : Tables) (host : State) (lost : Option LostJob) →
    (run : IsRunFrom settings start jobs schedule trace answers tables host lost) → FoundMemory trace answers →
    NoneIsCut jobs answers → RanAs run.fs jobs schedule run.opened_host trace answers lost host run.seats tables
ran_in_order settings start jobs schedule trace answers tables host lost run found uncut = record {
  steps = run.run.steps;
  ends = ends_or_loses run.fs.plan jobs schedule run.opened_host run.fs.tables trace answers
      lost run.ends;
  memory = found;
  uncut = uncut;
}

pub end_agrees : (settings : Settings) (start : State) (jobs : List Job) (schedule : List ℕ)
    (trace : List TraceStep) (answers : List Answer) (tables : Tables) (host : State) (lost : Option LostJob) →
    IsRunFrom settings start jobs schedule trace answers tables host lost → Agree tables
end_agrees settings start jobs schedule trace answers tables host lost run =
    agree_law (run.fs.plan.config.guest_fd_limit ∷ []) (turns_of trace) tables
    (subst (λ (t : Tables).
    TablesRun t (turns_of trace) tables) run.opened.tables
    (hosts_tables Does (turns_of trace) run.opened_host run.fs.tables host tables
    (host_runs Does trace run.opened_host _ run.fs.tables host run.run.steps.seats tables run.run.steps.runs)))

pub runs_one : (settings : Settings) (start : State) (jobs : List Job) (schedule : List ℕ)
    (trace trace' : List TraceStep) (answers answers' : List Answer) (tables tables' : Tables) (host host' : State)
    (lost lost' : Option LostJob) →
    (run : IsRunFrom settings start jobs schedule trace answers tables host lost)
    (run' : IsRunFrom settings start jobs schedule trace' answers' tables' host' lost') →
    FoundMemory trace answers → FoundMemory trace' answers' → NoneIsCut jobs answers → NoneIsCut jobs answers' →
    AreOneRun trace trace' answers answers' (loss_of lost) (loss_of lost') host host' run.seats run'.seats tables
    tables'
runs_one settings start jobs schedule trace trace' answers answers' tables tables' host host' lost lost' run run'
    found found' uncut uncut' =
    let same = opened_one settings start run.fs run'.fs run.opened_host run'.opened_host run.opened run'.opened in
    let here = ran_in_order settings start jobs schedule trace answers tables host lost run found uncut in
    let there = ran_in_order settings start jobs schedule trace' answers' tables' host' lost' run' found'
    uncut' in
    let opened : RanAs run'.fs jobs schedule run.opened_host trace' answers' lost' host' run'.seats tables' =
    subst (λ (state : State). RanAs run'.fs jobs schedule state trace' answers' lost' host' run'.seats tables')
    (sym same.hosts) there in
    let moved : RanAs run.fs jobs schedule run.opened_host trace' answers' lost' host' run'.seats tables' =
    subst (λ (fs : FileSystem). RanAs fs jobs schedule run.opened_host trace' answers' lost' host' run'.seats tables')
    (sym same.made) opened in
    let agree : Agree run.fs.tables =
    subst Agree (sym run.opened.tables)
    (agree_law (run.fs.plan.config.guest_fd_limit ∷ []) [] (empty_tables (run.fs.plan.config.guest_fd_limit ∷ []))
    refl) in
    turns_determined Does (λ (state : State). state.faults) does_promised host_determined run.fs.plan schedule jobs
    run.opened_host run.fs.tables trace trace' answers answers' (loss_of lost) (loss_of lost') host host' run.seats
    run'.seats tables tables' agree here moved

report_same : (trace trace' : List TraceStep) (answers answers' : List Answer)
    (lives lives' handles handles' : List (ℕ × ℕ)) (seats seats' : List HostSeat) (tables tables' : Tables)
    (host host' : State) (lost lost' : Option LostJob) →
    AreOneRun trace trace' answers answers' (loss_of lost) (loss_of lost') host host' seats seats' tables tables' →
    lives ≡ lives' → handles ≡ handles' →
    report_of trace answers lives handles tables host lost
    ≡ report_of trace' answers' lives' handles' tables' host' lost'
report_same trace trace' answers answers' lives lives' handles handles' seats seats' tables tables' host host' lost
    lost' one l h =
    let loss = loss_same lost lost' one.losses in
    λ i. report_of (one.traces i) (one.answered i) (l i) (h i) (one.left i) (one.hosts i) (loss i)

determined : (bytes report other : List ℕ) (ran : IsReportOf bytes report) (again : IsReportOf bytes other) →
    IsFull ran → IsFull again → report ≡ other
determined bytes report other ran again full full' =
    let begun : again.begun ≡ ran.begun = let e = ran.script in let f = again.script in cc in
    let starts : BeginsAs ran.begun.tree ran.begun.faults again.start =
    subst (λ (b : Begun). BeginsAs b.tree b.faults again.start) begun again.starts in
    let start : again.start ≡ ran.start =
    start_one ran.begun.tree ran.begun.faults again.start ran.start starts ran.starts in
    let run : IsRunFrom ran.begun.settings ran.start ran.begun.jobs ran.begun.order again.trace again.answers
    again.tables again.host again.lost =
    subst (λ (s : State).
    IsRunFrom ran.begun.settings s ran.begun.jobs ran.begun.order again.trace again.answers again.tables again.host
    again.lost) start
    (subst (λ (b : Begun).
    IsRunFrom b.settings again.start b.jobs b.order again.trace again.answers again.tables again.host again.lost)
    begun again.run) in
    let one = runs_one ran.begun.settings ran.start ran.begun.jobs ran.begun.order ran.trace again.trace ran.answers
    again.answers ran.tables again.tables ran.host again.host ran.lost again.lost ran.run run full.0 full'.0 full.1
    (subst (λ (b : Begun). NoneIsCut b.jobs again.answers) begun full'.1) in
    let agree = end_agrees ran.begun.settings ran.start ran.begun.jobs ran.begun.order ran.trace ran.answers
    ran.tables ran.host ran.lost ran.run in
    let live : AreLive ran.tables again.lives again.handles =
    subst (λ (t : Tables). AreLive t again.lives again.handles) (sym one.left) again.live in
    let lives : ran.lives ≡ again.lives =
    all_one (IsLiveAfter ran.tables.rows)
    (lives_one ran.tables agree) None ran.lives again.lives ran.live.0 live.0 in
    let handles : ran.handles ≡ again.handles =
    all_one (IsHandleAfter ran.tables.handles)
    (handles_one ran.tables agree) None ran.handles again.handles ran.live.1 live.1 in
    ran.text ∙ report_same ran.trace again.trace ran.answers again.answers ran.lives again.lives ran.handles
    again.handles ran.run.seats run.seats ran.tables again.tables ran.host again.host ran.lost again.lost one lives
    handles ∙ sym again.text

pub only : (bytes report : List ℕ) (ran : IsReportOf bytes report) → IsOnly ran
only bytes report ran full other again full' = determined bytes other report again ran full' full

pub only_from : (left : Option (List ℕ)) → DeterminesReport left
unfolding DeterminesReport
only_from left report from = only from.0 report from.3
