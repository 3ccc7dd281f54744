-- Runs over any host, and over one that tells its tree.
use Rattle.std.proofs.Common.{◌≡◌, inr, ℕ, List, [], ◌∷◌, Bool, true, false, cond, eqb, refl, sym, ap, ◌∙◌, Option}
use Rattle.std.proofs.Common.{Some, None}
use Rattle.pt_host.specs.Call.{Call}
use Rattle.pt_host.specs.Tree.{Tree}
use Rattle.pt_host.specs.LawfulStep.{LawfulStep}
use Rattle.pt_host.specs.declared.reply.HostReply.{HostReply}
use Rattle.pt_host.specs.declared.seat.HostSeat.{HostSeat}
use Rattle.pt_tables.specs.Tables.{Tables}
use Rattle.pt_frame.specs.Deed.{Deed, Calls, Changes, Step}
use Rattle.pt_host.specs.Relation.{HostRelation}
use Rattle.pt_frame.specs.Made.{Made}
use Rattle.pt_frame.specs.declared.act.ActReply.{ActReply}
use Rattle.pt_frame.specs.declared.act.ActReply.TheVariants.{Event, Host, NoCopy}
use Rattle.pt_law.specs.Told.{StepMayBeTold, AllMayBeTold}
use Rattle.pt_law.specs.World.{World, Turn, IsLawful, Runs, HostRuns, TablesRun, steps_of, settled_if, story_by}
use Rattle.pt_law.proofs.Told.{Promises, made_told, call_told, bytes_told}
use Rattle.pt_law.proofs.Steps.{turned}

pub hosts_tables : {H : Type 0} (does : HostRelation H) (turns : List Turn) (from : H) (t : Tables) (to : H)
    (t' : Tables) → HostRuns does turns from t to t' → TablesRun t turns t'
hosts_tables does [] from t to t' r = r.1
hosts_tables does (s ∷ ss) from t to t' r =
    (r.1, turned does s.step.deed s.step.reply from r.2 t r.0 r.3 r.1 r.4, hosts_tables does ss r.0 r.1 to t' r.5)

-- each job's replies are such as may come
told_if : (b : Bool) (step : Step) (steps : List Step) → StepMayBeTold step.deed step.reply → AllMayBeTold steps →
    AllMayBeTold (cond b (step ∷ steps) steps)
told_if true step steps one more = (one, more)
told_if false step steps one more = more

pub hosts_told : {H : Type 0} (does : HostRelation H) (faults : H → ℕ) → Promises does faults →
    (job : ℕ) (turns : List Turn) (from : H) (t : Tables) (to : H) (t' : Tables) → HostRuns does turns from t to t' →
    AllMayBeTold (steps_of job turns)
hosts_told does faults p job [] from t to t' r = tt
hosts_told does faults p job (s ∷ ss) from t to t' r =
    told_if (eqb s.job job) s.step (steps_of job ss)
    (made_told does faults p s.step.deed s.step.reply from r.2 t r.0 r.3 r.1 r.4)
    (hosts_told does faults p job ss r.0 r.1 to t' r.5)

-- the same of a host that is its tree
lawful_told : (deed : Option Deed) (told : ActReply) (from : Tree) (seat : HostSeat) (t : Tables) (to : Tree)
    (seat' : HostSeat) (t' : Tables) → Made IsLawful deed told from seat t to seat' t' → StepMayBeTold deed told
lawful_told (Some (Changes asked)) (Event reply) from seat t to seat' t' m = (t, t', m.0)
lawful_told (Some (Changes asked)) told from seat t to seat' t' m = absurd m
lawful_told (Some (Calls asked)) (Host reply) from seat t to seat' t' m = let p = m.0 in
    call_told p.1 p.2 asked reply p.3.allowed
lawful_told (Some (Calls asked)) NoCopy from seat t to seat' t' m = let p = m.0.2 in
    inr (bytes_told p.1 p.2 asked m.0.0 m.0.1 p.3.allowed)
lawful_told (Some (Calls asked)) told from seat t to seat' t' m = absurd m
lawful_told None told from seat t to seat' t' m = tt

pub run_told : (job : ℕ) (turns : List Turn) (start end : World) → Runs start turns end →
    AllMayBeTold (steps_of job turns)
run_told job [] start end r = tt
run_told job (s ∷ ss) start end r =
    let g = r.1 in
    told_if (eqb s.job job) s.step (steps_of job ss)
    (lawful_told s.step.deed s.step.reply start.tree g.seat start.tables r.0.tree g.seat_after r.0.tables g.made)
    (run_told job ss r.0 end r.2)

-- the host goes on telling its tree, and its steps are lawful
abbrev pub Tells : {H : Type 0} → HostRelation H → (H → Option Tree) → Type 0
Tells {H} does tree =
    (from : H) (seat : HostSeat) (asked : Call) (told : HostReply) (to : H) (seat' : HostSeat) →
    does from seat asked told to seat' → (before : Tree) → tree from ≡ Some before →
    (later : Tree) × (tree to ≡ Some later) × LawfulStep before seat asked told later seat'

made_lawful : {H : Type 0} (does : HostRelation H) (tree : H → Option Tree) (faults : H → ℕ) → Promises does faults →
    Tells does tree → (deed : Option Deed) (told : ActReply) (from : H) (seat : HostSeat) (t : Tables) (to : H)
    (seat' : HostSeat) (t' : Tables)
    (before : Tree) → tree from ≡ Some before → Made does deed told from seat t to seat' t' →
    (later : Tree) × (tree to ≡ Some later) × Made IsLawful deed told before seat t later seat' t'
made_lawful does tree faults p l (Some (Changes e)) (Event r) from seat t to seat' t' before is m =
    (before, ap tree m.1 ∙ is, (m.0, refl, m.2))
made_lawful does tree faults p l (Some (Calls a)) (Host r) from seat t to seat' t' before is m =
    let k = l from seat a r to seat' m.0 before is in
    (k.0, k.1, ((k.2, faults from, faults to, p from seat a r to seat' m.0), m.1))
made_lawful does tree faults p l (Some (Calls a)) NoCopy from seat t to seat' t' before is m =
    let k = l from seat a m.0.0 to seat' m.0.2 before is in
    (k.0, k.1, ((m.0.0, m.0.1, (k.2, faults from, faults to, p from seat a m.0.0 to seat' m.0.2)), m.1))
made_lawful does tree faults p l None NoCopy from seat t to seat' t' before is m =
    (before, ap tree m.0 ∙ is, (refl, m.1, m.2))
made_lawful does tree faults p l _ _ from seat t to seat' t' before is m = absurd m

pub hosts_world : {H : Type 0} (does : HostRelation H) (tree : H → Option Tree) (faults : H → ℕ) →
    Promises does faults →
    Tells does tree → (turns : List Turn) (start : World) (from to : H) (t' : Tables) → tree from ≡ Some start.tree →
    HostRuns does turns from start.tables to t' →
    (end : World) × (tree to ≡ Some end.tree) × (end.tables ≡ t') × Runs start turns end
hosts_world does tree faults p l [] start from to t' is r = (start, ap tree r.0 ∙ is, sym r.1, refl)
hosts_world does tree faults p l (s ∷ ss) start from to t' is r =
    let k = made_lawful does tree faults p l s.step.deed s.step.reply from r.2 start.tables r.0 r.3 r.1 start.tree is
    r.4 in
    let past = settled_if start.past s.job s.step.deed s.step.reply start.tables.next_row k.0 in
    let next : World = record {
      tree = k.0;
      tables = r.1;
      past = past;
      story = story_by start past k.0 s.job s.step.deed s.step.reply;
    } in
    let rest = hosts_world does tree faults p l ss next r.0 to t' k.1 r.5 in
    (rest.0, rest.1, rest.2, (next, record { seat = r.2; seat_after = r.3; made = k.2; past = refl; story = refl }, rest.3))
