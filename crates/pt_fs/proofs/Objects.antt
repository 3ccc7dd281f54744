-- The laws of whole runs that speak of objects, read for a trace over a host that tells its tree.
use Rattle.std.proofs.Common.{◌≡◌, ◌⊎◌, inl, inr, ◌++◌, ◌∙◌, ℕ, Bool, List, [], ◌∷◌, Option, Some, ap, subst, refl}
use Rattle.std.proofs.Common.{length, append_assoc, sym}
use Rattle.pt_host.specs.Tree.{Tree, IsWellFormed}
use Rattle.pt_tables.specs.Rows.{IsRow}
use Rattle.pt_tables.specs.Tables.{Tables, empty_tables}
use Rattle.pt_tables.specs.declared.row.Row.{Row}
use Rattle.pt_iface.specs.declared.answer.Answer.{Answer}
use Rattle.pt_iface.specs.declared.answer.Answer.TheVariants as answer
use Rattle.pt_iface.specs.declared.entry.Entry.{Entry}
use Rattle.pt_iface.specs.declared.flags.OpenOptions.{OpenOptions}
use Rattle.pt_iface.specs.declared.request.Extensions.{Extensions}
use Rattle.pt_iface.specs.declared.request.Context.{Context}
use Rattle.pt_iface.specs.declared.request.Request.TheVariants as request
use Rattle.pt_tables.specs.declared.event.KeptEvent.TheVariants as change
use Rattle.pt_tables.specs.declared.form.Negotiated.{Negotiated}
use Rattle.pt_tables.specs.declared.reply.EventReply.TheVariants as event
use Rattle.pt_frame.specs.Deed.{Changes, Step, kept_deed_of}
use Rattle.pt_frame.specs.declared.act.ActReply.TheVariants.{Event}
use Rattle.pt_req.specs.Parts.{by_path}
use Rattle.pt_frame.specs.Grammar.{Belongs}
use Rattle.pt_host.specs.Relation.{HostRelation}
use Rattle.pt_frame.specs.declared.finish.Finish.TheVariants as finish
use Rattle.pt_req.specs.declared.plan.Plan.{Plan}
use Rattle.pt_job.specs.Pattern.{Asked, Requests, grammar_of, grammar_for}
use Rattle.pt_law.specs.Discipline.{AreDisciplined}
use Rattle.pt_law.specs.Findings.{WasGiven}
use Rattle.pt_law.specs.Laws.{AreKept, NamesOpen, ObjectOf, Starts}
use Rattle.pt_law.specs.Origins.{ComeFromNames}
use Rattle.pt_law.specs.Reopened.{ReopensResolved, resolving}
use Rattle.pt_law.specs.Story.{no_story}
use Rattle.pt_law.specs.Told.{AllMayBeTold}
use Rattle.pt_law.specs.Uses.{StaysLive}
use Rattle.pt_law.specs.World.{Turn, World, fd_of, made, no_past, Runs as WorldRuns, steps_of}
use Rattle.pt_law.proofs.Cuts.{runs_split}
use Rattle.pt_law.proofs.Giving.{two_lookups_law}
use Rattle.pt_law.proofs.Hosts.{Tells, hosts_told, hosts_world}
use Rattle.pt_law.proofs.Laws.{ended_jobs, distinct_law, object_law, handles_law, kept_law, leaves_law}
use Rattle.pt_law.proofs.Next.{named_law}
use Rattle.pt_law.proofs.Reopened.{reopened_law}
use Rattle.pt_law.proofs.Told.{Promises}
use Rattle.pt_law.proofs.Opening.{opening, stating}
use Rattle.pt_law.proofs.Origins.{origins_law}
use Rattle.pt_fit.specs.Created.{IsCreated}
use Rattle.pt_fit.specs.Entered.{IsEntered, name_asked}
use Rattle.pt_fit.proofs.Asked.{created_asked}
use Rattle.pt_fit.proofs.Created.{file_law}
use Rattle.pt_fit.proofs.Entered.{entered_law}
use Rattle.pt_fit.proofs.Entries.{EntryBy, entry_asked}
use Rattle.pt_fit.proofs.LookedUp.{IsLookedUp}
use Rattle.pt_fit.proofs.Making.{created_parts}
use Rattle.pt_fs.specs.Jobs.{job_start, job_grammar, asked_of}
use Rattle.pt_fs.specs.Trace.{steps_by}
use Rattle.pt_fs.specs.Keeps.{turn_of, turns_of, AfterEachTold, LeadsOn, begins_in, KeepsObjects, ServesEach}
use Rattle.pt_fs.specs.Keeps.{OfEachJob, IsNamedIn, NamesOpenOnes, LeavesOpen, AgreeOnNumbers}
use Rattle.pt_fs.specs.Plain.{ServesPlain}
use Rattle.pt_fs.specs.declared.job.Job.{Job}
use Rattle.pt_fs.specs.declared.trace.TraceStep.{TraceStep}
use Rattle.pt_fs.proofs.Ended.{belongs_by}
use Rattle.pt_fs.proofs.Laws.{Comes, Ran, comes_to_end, host_runs, steps_same, ended_of, turns-append, cut_at}
use Rattle.pt_fs.proofs.Plainly.{served_plainly}
use Rattle.pt_plain.proofs.Uncalled.{AreUncalled, formed, uncalled_front, uncalled_at, no_rows, no_handles, keeps_none}
use Rattle.pt_plain.proofs.Uncalled.{leaves_none, names_none, no_call, no_objects, none_anew}

-- those that speak of objects, over a host that tells its tree
pub record KeepsTold (plan : Plan) (jobs : List Job) (told : Option Tree) (tables : Tables) (trace : List TraceStep)
    (answers : List Answer) (told' : Option Tree) (tables' : Tables) : Type 0 where
  pub leads_on : LeadsOn told tables trace told' tables'
  pub distinct : AfterEachTold told tables trace (λ start so_far now. KeepsObjects now)
  pub serves : AfterEachTold told tables trace (λ start so_far now. ServesEach now)
  pub reopens : AfterEachTold told tables trace (λ start so_far now. ReopensResolved so_far now)
  pub descriptors : AfterEachTold told tables trace (λ start so_far now. AreKept start (length jobs) so_far now)
  pub named : NamesOpenOnes told tables trace
  pub leaves : LeavesOpen told tables trace
  pub entries : OfEachJob jobs answers (IsNamedIn plan told tables trace)
  pub two_lookups : AgreeOnNumbers told tables trace
  pub origins : AfterEachTold told tables trace (λ start so_far now. ComeFromNames now)
  pub plain : ServesPlain plan jobs told tables trace answers

-- a run that was answered with an entry opened a name
no_entry : (plan : Plan) (turns : List Turn) (j parent : ℕ) (name : List ℕ) (entry : Entry) (era : ℕ)
    (agreed : Negotiated) (front own back : List Step) → AreUncalled turns →
    steps_of j turns ≡ made (Changes change.Begin) (Event (event.Began era agreed)) ∷ (front ++ (own ++ back)) →
    IsLookedUp plan era agreed parent name entry own → ⊥
no_entry plan turns j parent name entry era agreed front own back u e l =
    let begin : Step = made (Changes change.Begin) (Event (event.Began era agreed)) in
    let first : List Step = front ++ resolving parent l.resolved ∷ [] in
    let anew = opening (fd_of l.resolved.form) name by_path 0 l.fd in
    let more : List Step = stating l.fd l.stat ∷ l.giving in
    let all : steps_of j turns ≡ (begin ∷ first) ++ anew ∷ (more ++ back) =
    e ∙ ap (λ (z : List Step). begin ∷ (front ++ (z ++ back))) l.in_turn
    ∙ ap (λ (z : List Step). begin ∷ z)
    (sym (append_assoc front (resolving parent l.resolved ∷ []) (anew ∷ (more ++ back)))) in
    absurd (no_call turns j (begin ∷ first) anew (more ++ back) u all)

-- the world in which a run begins is a new one
abbrev IsNew : List ℕ → World → Type 0
IsNew limits start =
    (start.tables ≡ empty_tables limits) × (start.past ≡ no_past) × (start.story ≡ no_story)

starts_by : (limits : List ℕ) (start : World) → IsNew limits start → IsWellFormed start.tree → Starts limits start
starts_by limits start n well = record { tables = n.0; well_formed = well; past = n.1; story = n.2 }

-- an entry names what its name led to
entered_from : (limits : List ℕ) (plan : Plan) (jobs : List Job) (start end : World) (turns : List Turn) (j : ℕ)
    (asked : Asked) (entry : Entry) (by : EntryBy plan asked entry (steps_of j turns)) → IsNew limits start →
    AreUncalled turns ⊎ IsWellFormed start.tree → AreDisciplined (length jobs) turns → WorldRuns start turns end →
    IsEntered plan end (steps_of j turns) j by.parent by.name entry
entered_from limits plan jobs start end turns j asked entry by new known disciplined r = elim known [
  | inl u ↦ absurd (no_entry plan turns j by.parent by.name entry by.era by.agreed by.front by.own by.back u by.all
      by.by)
  | inr well ↦ entered_law limits (length jobs) plan turns start end j by.parent by.name entry by.era by.agreed by.front
      by.own by.back (starts_by limits start new well) disciplined r by.all by.by by.quiet
]

-- and which file a created one is
file_from : (limits : List ℕ) (plan : Plan) (jobs : List Job) (start end : World) (turns : List Turn) (j : ℕ)
    (job : Job)
    (who : Context) (parent : ℕ) (name : List ℕ) (mode : ℕ) (kill : Bool) (flags umask : ℕ) (ext : Extensions)
    (entry : Entry) (handle : ℕ) (options : OpenOptions) → IsNew limits start →
    AreUncalled turns ⊎ IsWellFormed start.tree → AreDisciplined (length jobs) turns → WorldRuns start turns end →
    asked_of job ≡ Requests who (request.Create parent name mode kill flags umask ext) →
    Belongs (job_grammar plan job) (steps_of j turns) (finish.Answer (answer.Created entry handle options)) →
    IsCreated plan end (steps_of j turns) j parent name entry handle
file_from limits plan jobs start end turns j job who parent name mode kill flags umask ext entry handle options new
    known disciplined r asked b =
    let made : Belongs (grammar_of plan (job_start job) who (request.Create parent name mode kill flags umask ext))
    (steps_of j turns) (finish.Answer (answer.Created entry handle options)) =
    subst (λ (r : Asked). Belongs (grammar_for plan (job_start job) r) (steps_of j turns)
    (finish.Answer (answer.Created entry handle options))) asked b in
    elim known [
      | inl u ↦
          let c = created_parts plan (job_start job) who parent name mode kill flags umask ext entry handle options
          (steps_of j turns) made in
          absurd (no_entry plan turns j parent name entry c.era c.agreed (resolving parent c.resolved ∷ c.before) c.own
          c.back u c.all c.looked_up)
      | inr well ↦ file_law limits (length jobs) plan (job_start job) who turns start end j parent name mode kill flags
          umask ext entry handle options (starts_by limits start new well) disciplined r made
    ]

entered_by : (limits : List ℕ) (plan : Plan) (jobs : List Job) (told : Option Tree) (tables : Tables)
    (trace : List TraceStep) → tables ≡ empty_tables limits → AreDisciplined (length jobs) (turns_of trace) →
    ((tree : Tree) → told ≡ Some tree → AreUncalled (turns_of trace) ⊎ IsWellFormed tree) →
    (j : ℕ) (job : Job) (given : Answer) → AllMayBeTold (steps_of j (turns_of trace)) →
    Comes plan job (steps_of j (turns_of trace)) given → IsNamedIn plan told tables trace j job given
entered_by limits plan jobs told tables trace begins disciplined known j job (answer.Entry entry) may (inl b) =
    let by = entry_asked plan (job_start job) (asked_of job) (steps_of j (turns_of trace)) entry may b in (
      by.parent,
      by.name,
      by.names,
      (λ tree is end r.
          subst (λ (steps : List Step). IsEntered plan end steps j by.parent by.name entry) (steps_same j trace)
          (entered_from limits plan jobs (begins_in tree tables) end (turns_of trace) j (asked_of job) entry by
          (begins, refl, refl) (known tree is) disciplined r)),
    )
entered_by limits plan jobs told tables trace begins disciplined known j job (answer.Entry entry) may (inr stops) =
    let no : answer.Entry entry ≡ answer.Cut = stops.0 in absurd (cc)
entered_by limits plan jobs told tables trace begins disciplined known j job (answer.Created entry handle options) may
    (inl b) =
    let named = created_asked plan (job_start job) (asked_of job) (steps_of j (turns_of trace)) entry handle options may
    b in (
      named.1,
      named.2,
      ap name_asked named.8,
      (λ tree is end r.
          subst (λ (steps : List Step). IsCreated plan end steps j named.1 named.2 entry handle) (steps_same j trace)
          (file_from limits plan jobs (begins_in tree tables) end (turns_of trace) j job named.0 named.1 named.2 named.3
          named.4 named.5 named.6 named.7 entry handle options (begins, refl, refl) (known tree is) disciplined r named.8
          b)),
    )
entered_by limits plan jobs told tables trace begins disciplined known j job (answer.Created entry handle options) may
    (inr stops) = let no : answer.Created entry handle options ≡ answer.Cut = stops.0 in absurd (cc)
entered_by limits plan jobs told tables trace begins disciplined known j job given may b = tt

-- where there is no row, none has an object
unobjected : (now : World) → ((row : Row) → IsRow now.tables row → ⊥) → KeepsObjects now
unobjected now none = record {
  distinct = λ number other live also apart. absurd (none live.0 live.1);
  open_on = λ row at. absurd (none row at);
}

-- what holds in the world in which the run begins, after the steps so far and the world to which they led
module _ (limits : List ℕ) (bound : ℕ) (start now : World) (trace so_far rest : List TraceStep)
    (new : IsNew limits start)
    (known : AreUncalled (turns_of trace) ⊎ IsWellFormed start.tree) (e : trace ≡ so_far ++ rest)
    (d : AreDisciplined bound (turns_of trace)) (r : WorldRuns start (turns_of so_far) now) where
  d_cut : AreDisciplined bound (turns_of so_far ++ turns_of rest)
  d_cut = cut_at bound trace so_far rest e d

  quiet : AreUncalled (turns_of trace) → AreUncalled (turns_of so_far)
  quiet u = uncalled_front (turns_of so_far) (turns_of rest)
      (subst AreUncalled (ap turns_of e ∙ turns-append so_far rest) u)

  starts : IsWellFormed start.tree → Starts limits start
  starts well = starts_by limits start new well

  pub objects_kept : KeepsObjects now
  objects_kept = elim known [
    | inl u ↦ unobjected now
        (no_rows limits bound (turns_of so_far) (turns_of rest) start now new.0 (quiet u) r d_cut)
    | inr well ↦ record {
      distinct = distinct_law limits bound (turns_of so_far) (turns_of rest) start now (starts well) d_cut r;
      open_on = λ row at.
          object_law limits bound (turns_of so_far) (turns_of rest) start now row (starts well) d_cut r at;
    }
  ]

  pub each_served : ServesEach now
  each_served row at = elim known [
    | inl u ↦ absurd
        (no_handles limits bound (turns_of so_far) (turns_of rest) start now new.0 (quiet u) r d_cut row at)
    | inr well ↦ handles_law limits bound (turns_of so_far) (turns_of rest) start now row (starts well) d_cut r at
  ]

  pub all_reopened : ReopensResolved (turns_of so_far) now
  all_reopened = elim known [
    | inl u ↦ none_anew (turns_of so_far) now (quiet u)
    | inr well ↦ reopened_law limits bound (turns_of so_far) (turns_of rest) start now (starts well) d_cut r
  ]

  pub all_kept : AreKept start bound (turns_of so_far) now
  all_kept = elim known [
    | inl u ↦ keeps_none limits bound (turns_of so_far) (turns_of rest) start now new.0 (quiet u) r d_cut
    | inr well ↦ kept_law limits bound (turns_of so_far) (turns_of rest) start now (starts well) d_cut r
  ]

  pub named_before : ComeFromNames now
  named_before = elim known [
    | inl u ↦ λ number object is.
        absurd (no_objects (turns_of so_far) start now new.1 (quiet u) r number object is)
    | inr well ↦ origins_law limits bound (turns_of so_far) (turns_of rest) start now (starts well) d_cut r
  ]

-- each call names only open descriptors
names_from : (limits : List ℕ) (bound : ℕ) (start now : World) (trace so_far : List TraceStep) (step : TraceStep)
    (rest : List TraceStep) → IsNew limits start →
    AreUncalled (turns_of trace) ⊎ IsWellFormed start.tree → trace ≡ so_far ++ step ∷ rest →
    AreDisciplined bound (turns_of trace) → WorldRuns start (turns_of so_far) now →
    NamesOpen now.tree (kept_deed_of step.act)
names_from limits bound start now trace so_far step rest new known e d r = elim known [
  | inl u ↦ names_none now.tree (kept_deed_of step.act)
      (uncalled_at (turns_of so_far) (turn_of step) (turns_of rest)
      (subst AreUncalled (ap turns_of e ∙ turns-append so_far (step ∷ rest)) u)).0
  | inr well ↦ named_law limits bound (turns_of so_far) (turn_of step) (turns_of rest) start now
      (starts_by limits start new well)
      (cut_at bound trace so_far (step ∷ rest) e d) r
]

-- two entries of one object have one number
agree_from : (limits : List ℕ) (bound : ℕ) (trace so_far between rest : List TraceStep) (start first second : World)
    (job number another object : ℕ) → IsNew limits start → AreUncalled (turns_of trace) ⊎ IsWellFormed start.tree →
    AreDisciplined bound (turns_of trace) → trace ≡ (so_far ++ between) ++ rest →
    WorldRuns start (turns_of so_far) first → WorldRuns first (turns_of between) second →
    StaysLive first (turns_of between) number → WasGiven (turns_of so_far ++ turns_of between) job another →
    ObjectOf first number object → ObjectOf second another object → another ≡ number
agree_from limits bound trace so_far between rest start first second job number another object new known d e r k live
    gave is has =
    let turns : turns_of trace ≡ (turns_of so_far ++ turns_of between) ++ turns_of rest =
    ap turns_of e ∙ turns-append (so_far ++ between) rest
    ∙ ap (λ (t : List Turn). t ++ turns_of rest) (turns-append so_far between) in
    elim known [
      | inl u ↦
          let front = uncalled_front (turns_of so_far) (turns_of between)
          (uncalled_front (turns_of so_far ++ turns_of between) (turns_of rest) (subst AreUncalled turns u)) in
          absurd (no_objects (turns_of so_far) start first new.1 front r number object is)
      | inr well ↦ two_lookups_law limits bound (turns_of so_far) (turns_of between) (turns_of rest) start first second
          job number another object (starts_by limits start new well) (subst (AreDisciplined bound) turns d) r k live
          gave is has
    ]

pub keeps_told : {H : Type 0} (does : HostRelation H) (tree : H → Option Tree) (faults : H → ℕ) → Promises does faults →
    Tells does tree → (plan : Plan) (limits : List ℕ) (jobs : List Job) (host : H) (tables : Tables)
    (trace : List TraceStep) (answers : List Answer) (host' : H) (tables' : Tables) →
    Ran does plan limits jobs host tables trace answers host' tables' →
    KeepsTold plan jobs (tree host) tables trace answers (tree host') tables'
keeps_told does tree faults p tells plan limits jobs host tables trace answers host' tables' ran =
    let runs = host_runs does trace host ran.seats tables host' ran.seats' tables' ran.runs in
    let ended = ended_of does faults p plan limits jobs host tables trace answers host' tables' ran in
    let disciplined = ended_jobs (length jobs) (turns_of trace) ended in
    let bound = length jobs in
    let world = λ (t : Tree) (is : tree host ≡ Some t).
    hosts_world does tree faults p tells (turns_of trace) (begins_in t tables) host host' tables' is runs in
    let known = λ (t : Tree) (is : tree host ≡ Some t).
    let w = world t is in formed (turns_of trace) (begins_in t tables) w.0 w.3 in
    record {
      leads_on = λ t is.
          let w = world t is in (
            w.0,
            w.1,
            w.2,
            w.3,
            (λ so_far rest e.
                runs_split (turns_of so_far) (turns_of rest) (begins_in t tables) w.0
                (subst (λ (turns : List Turn). WorldRuns (begins_in t tables) turns w.0)
                (ap turns_of e ∙ turns-append so_far rest) w.3)),
          );
      two_lookups = λ t is so_far between rest first second job number another object e r k live gave at has.
          agree_from limits bound trace so_far between rest (begins_in t tables) first second job number another object
          (ran.begins, refl, refl) (known t is) disciplined e r k live gave at has;
      origins = λ t is so_far rest now e r.
          named_before limits bound (begins_in t tables) now trace so_far rest (ran.begins, refl, refl) (known t is) e
          disciplined r;
      plain = λ ends found t is end r.
          served_plainly plan limits jobs trace answers (begins_in t tables) end
          (record { tables = ran.begins; past = refl; story = refl }) disciplined
          (λ j job given at told_at.
          let b = belongs_by plan job (steps_by j trace) given
          (ends.answers_each.in_pattern j job given at told_at) in (
            comes_to_end plan job (steps_by j trace) given
                (subst AllMayBeTold (steps_same j trace)
                (hosts_told does faults p j (turns_of trace) host tables host' tables' runs)) (inl b),
            b,
          )) ends found r;
      distinct = λ t is so_far rest now e r.
          objects_kept limits bound (begins_in t tables) now trace so_far rest (ran.begins, refl, refl) (known t is) e
          disciplined r;
      serves = λ t is so_far rest now e r.
          each_served limits bound (begins_in t tables) now trace so_far rest (ran.begins, refl, refl) (known t is) e
          disciplined r;
      reopens = λ t is so_far rest now e r.
          all_reopened limits bound (begins_in t tables) now trace so_far rest (ran.begins, refl, refl) (known t is) e
          disciplined r;
      descriptors = λ t is so_far rest now e r.
          all_kept limits bound (begins_in t tables) now trace so_far rest (ran.begins, refl, refl) (known t is) e
          disciplined r;
      named = λ t is so_far rest step now e r.
          names_from limits bound (begins_in t tables) now trace so_far step rest (ran.begins, refl, refl)
          (known t is) e
          disciplined r;
      leaves = λ t is end r. elim (known t is) [
        | inl u ↦ leaves_none limits bound (turns_of trace) (begins_in t tables) end ran.begins u r ended
        | inr well ↦ leaves_law limits bound (turns_of trace) (begins_in t tables) end
            (starts_by limits (begins_in t tables) (ran.begins, refl, refl) well) ended r
      ];
      entries = λ j job given at told_at.
          entered_by limits plan jobs (tree host) tables trace ran.begins disciplined known j job given
          (hosts_told does faults p j (turns_of trace) host tables host' tables' runs)
          (rw (steps_same j trace) (ran.comes j job given at told_at));
    }
