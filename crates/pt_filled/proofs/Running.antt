-- Proof. Jobs that run whole over the tree host, one after another, are a run of the plain file system with contents.
use Rattle.std.proofs.Common.{◌≡◌, ℕ, suc, List, [], ◌∷◌, ◌++◌, Option, Some, None, refl, sym, ap, subst, map}
use Rattle.std.proofs.Common.{true, ◌∙◌, is_some}
use Rattle.std.proofs.Common.{append_assoc, append-nil}
use Rattle.pt_host.specs.Call.{Call}
use Rattle.pt_host.specs.Words.{Each}
use Rattle.pt_host.specs.declared.ids.Errno.{Errno}
use Rattle.pt_host.specs.declared.reply.HostReply.{HostReply}
use Rattle.pt_host.specs.declared.seat.HostSeat.{HostSeat}
use Rattle.pt_tables.specs.Rows.{IsHandleRow}
use Rattle.pt_tables.specs.Tables.{Tables, empty_tables}
use Rattle.pt_tables.specs.declared.row.HandleRow.{HandleRow}
use Rattle.pt_iface.specs.declared.answer.Answer.{Answer}
use Rattle.pt_frame.specs.Deed.{Deed, Calls, Changes, Step, LacksMemory}
use Rattle.pt_frame.specs.Grammar.{Belongs}
use Rattle.pt_frame.specs.Made.{Made, RunsAlone}
use Rattle.pt_frame.specs.Past.{Past as SeatPast, past_from, past_made, no_past as no_seat_past, or_first}
use Rattle.pt_frame.specs.Past.{is_restoring}
use Rattle.pt_frame.specs.Replies.{fault_if}
use Rattle.pt_frame.specs.Seats.{seat_by}
use Rattle.pt_frame.specs.declared.act.ActReply.{ActReply}
use Rattle.pt_frame.specs.declared.act.ActReply.TheVariants.{Event, Host, NoCopy}
use Rattle.pt_frame.specs.declared.finish.Finish.TheVariants as finish
use Rattle.pt_req.specs.declared.plan.Plan.{Plan}
use Rattle.pt_job.specs.Pattern.{Asked, Requests, Edits, grammar_for}
use Rattle.pt_law.specs.Discipline.{AreDisciplined}
use Rattle.pt_law.specs.Story.{no_story}
use Rattle.pt_law.specs.Under.{AreMadeAs}
use Rattle.pt_law.specs.World.{World, Turn, turn_by, Runs, IsLawful, settled_if, story_by, no_past}
use Rattle.pt_law.proofs.Cuts.{runs_append}
use Rattle.pt_fit.specs.Asker.{agreed_in, role_for}
use Rattle.pt_rules.specs.Does.{Does}
use Rattle.pt_rules.specs.State.{State, contents_of, tree_of}
use Rattle.pt_rules.specs.Laws.Lawful.{does_lawful_tree, does_lawful_seat}
use Rattle.pt_rules.specs.Laws.Promised.{does_promised}
use Rattle.pt_plain.specs.Plain.{PlainTree}
use Rattle.pt_plain.specs.Run.{IsNew, PlainJob, plain_start, turns_from}
use Rattle.pt_plain.specs.Serves.{ServesAsked}
use Rattle.pt_plain.proofs.Answering.{served}
use Rattle.pt_plain.proofs.Coming.{Law}
use Rattle.pt_plain.proofs.Editing.{served_edit}
use Rattle.pt_plain.proofs.Running.{law_at, start_shows, ends_as, told_by}
use Rattle.pt_plain.proofs.Showing.{Shows}
use Rattle.pt_filled.specs.Accesses.{AccessesStay}
use Rattle.pt_filled.specs.Contents.{FilledTree}
use Rattle.pt_filled.specs.Filled.{IsFilled}
use Rattle.pt_filled.specs.Fills.{FillsAsked}
use Rattle.pt_filled.specs.Run.{EndsFilled, RunsWhole, seated_of, start_world, filled_start, ServesFilled}
use Rattle.pt_filled.specs.Whole.{IsWhole}
use Rattle.pt_filled.proofs.Asking.{fills_request}
use Rattle.pt_filled.proofs.Editing.{fills_edit}
use Rattle.pt_filled.proofs.Filling.{filled}
use Rattle.pt_filled.proofs.Handling.{IsBelow, IsLater, lent_over, lent_row, row_for}
use Rattle.pt_filled.proofs.Hosting.{Full, Thread, Steps, world_of}
use Rattle.pt_filled.proofs.Parts.{world_walks}
use Rattle.pt_filled.proofs.Threading.{Walks}

-- ---- from the host's steps to those of its tree

does_lawful : (s : State) (seat : HostSeat) (asked : Call) (told : HostReply) (on : State) (seat' : HostSeat) →
    Does s seat asked told on seat' → IsLawful (tree_of s) seat asked told (tree_of on) seat'
does_lawful s seat asked told on seat' d = (
  record {
    trees = does_lawful_tree s seat asked told on seat' d;
    seats = does_lawful_seat s seat asked told on seat'
        d;
  },
  s.faults,
  on.faults,
  does_promised s seat asked told on seat' d,
)

lawful_made : (deed : Option Deed) (told : ActReply) (s : State) (seat : HostSeat) (t : Tables) (on : State)
    (seat' : HostSeat) (t' : Tables) → Made Does deed told s seat t on seat' t' →
    Made IsLawful deed told (tree_of s) seat t (tree_of on) seat' t'
lawful_made (Some (Changes asked)) (Event told) s seat t on seat' t' m = (m.0, ap tree_of m.1, m.2)
lawful_made (Some (Calls asked)) (Host told) s seat t on seat' t' m =
    (does_lawful s seat asked told on seat' m.0, m.1)
lawful_made (Some (Calls asked)) NoCopy s seat t on seat' t' m =
    ((m.0.0, m.0.1, does_lawful s seat asked m.0.0 on seat' m.0.2), m.1)
lawful_made None NoCopy s seat t on seat' t' m = (ap tree_of m.0, m.1, m.2)
lawful_made (Some (Changes asked)) (Host told) s seat t on seat' t' m = absurd m
lawful_made (Some (Changes asked)) NoCopy s seat t on seat' t' m = absurd m
lawful_made (Some (Calls asked)) (Event told) s seat t on seat' t' m = absurd m
lawful_made None (Event told) s seat t on seat' t' m = absurd m
lawful_made None (Host told) s seat t on seat' t' m = absurd m

-- the seat is what the steps alone say
seat_made : (deed : Option Deed) (told : ActReply) (s : State) (seat : HostSeat) (t : Tables) (on : State)
    (seat' : HostSeat) (t' : Tables) → (LacksMemory told → ⊥) → Made Does deed told s seat t on seat' t' →
    seat' ≡ seat_by seat deed told
seat_made (Some (Changes asked)) (Event told) s seat t on seat' t' n m = m.2
seat_made (Some (Calls asked)) (Host told) s seat t on seat' t' n m =
    (does_lawful_seat s seat asked told on seat' m.0).leaves
seat_made deed NoCopy s seat t on seat' t' n m = absurd (n refl)
seat_made (Some (Changes asked)) (Host told) s seat t on seat' t' n m = absurd m
seat_made (Some (Calls asked)) (Event told) s seat t on seat' t' n m = absurd m
seat_made None (Event told) s seat t on seat' t' n m = absurd m
seat_made None (Host told) s seat t on seat' t' n m = absurd m

-- a seat that was lost stays lost
still_lost : (past : SeatPast) (steps : List Step) → (past_from past steps).lost ≡ None → past.lost ≡ None
still_lost past [] e = e
still_lost past (step ∷ steps) e =
    before step.deed step.reply (still_lost (past_made past step.deed step.reply) steps e)
  where
    first : (fault lost : Option Errno) → or_first fault lost ≡ None → lost ≡ None
    first None lost e = e
    first (Some errno) None e = refl
    first (Some errno) (Some other) e = cc

    before : (deed : Option Deed) (told : ActReply) → (past_made past deed told).lost ≡ None → past.lost ≡ None
    before None told e = e
    before (Some deed) told e = first (fault_if (is_restoring past.worn deed) told) past.lost e

-- where a job led that ran alone
record Walked (j : Thread) (steps : List Step) (w : Full) (on : State) (tables : Tables) : Type 0 where
  to : Full
  walks : Walks j w steps to
  state : to.state ≡ on
  left : to.tables ≡ tables

-- the steps of a job, from where a run has come to
walks_at : (limits : List ℕ) (bound : ℕ) (j : Thread) (front : List Turn) (steps : List Step) (more : List Turn)
    (start : World)
    (w : Full) (on : State) (seat' : HostSeat) (tables : Tables) (past : SeatPast) → IsNew limits start →
    AreDisciplined bound (front ++ (map (turn_by j.job) steps ++ more)) → Runs start front (world_of w) →
    Each (λ (s : Step). LacksMemory s.reply → ⊥) steps → AreMadeAs j.role j.seat past w.seat steps →
    (past_from past steps).lost ≡ None → RunsAlone Does steps w.state w.seat w.tables on seat' tables →
    Walked j steps w on tables
walks_at limits bound j front [] more start w on seat' tables past s a r m u e k = record {
  to = w;
  walks = (law_at limits bound front more start (world_of w) s a r, refl);
  state = sym k.0;
  left = sym k.2;
}
walks_at limits bound j front (step ∷ steps) more start w on seat' tables past s a r m u e k =
    let mid : Full = record {
      state = k.0;
      tables = k.2;
      past = settled_if w.past j.job step.deed step.reply w.tables.next_row (tree_of k.0);
      story = story_by (world_of w) (settled_if w.past j.job step.deed step.reply w.tables.next_row (tree_of k.0))
          (tree_of k.0) j.job step.deed step.reply;
      seat = k.1;
    } in
    let lost = past_made past step.deed step.reply in
    let goes : Steps j w step mid = record {
      goes = record {
        seat = w.seat;
        seat_after = k.1;
        made = lawful_made step.deed step.reply w.state w.seat w.tables k.0 k.1 k.2 k.3;
        past = refl;
        story = refl;
      };
      made = k.3;
      as_asked = u.0 (still_lost past (step ∷ steps) e);
    } in
    let seat = seat_made step.deed step.reply w.state w.seat w.tables k.0 k.1 k.2 m.0 k.3 in
    let a' = subst (AreDisciplined bound) (sym (append_assoc front (turn_by j.job step ∷ [])
    (map (turn_by j.job) steps ++ more))) a in
    let rest = walks_at limits bound j (front ++ turn_by j.job step ∷ []) steps more start mid on seat' tables lost s a'
    (runs_append front (turn_by j.job step ∷ []) start (world_of w) (world_of mid) r (world_of mid, goes.goes, refl))
    m.1
    (subst (λ (x : HostSeat). AreMadeAs j.role j.seat lost x steps) (sym seat) u.1) e k.4 in record {
      to = rest.to;
      walks = (
        law_at limits bound front (turn_by j.job step ∷ (map (turn_by j.job) steps ++ more)) start (world_of w) s a r,
        m.0,
        mid,
        goes,
        rest.walks,
      );
      state = rest.state;
      left = rest.left;
    }

runs_of : (j : Thread) (steps : List Step) (w on : Full) → Walks j w steps on →
    Runs (world_of w) (map (turn_by j.job) steps) (world_of on)
runs_of j [] w on k = ap world_of k.1
runs_of j (step ∷ steps) w on k = (world_of k.2, k.3.goes, runs_of j steps k.2 on k.4)

-- ---- a job

-- what is to be shown of what a job asks
abbrev IsServedSo : Plan → HostSeat → Asked → PlainTree → Full → Answer → Full → Type 0
IsServedSo plan seat asked state w last w' =
    (after : PlainTree) × ServesAsked plan asked state last after
    × FillsAsked plan seat asked (filled state w) last (filled after w') × Shows (world_of w') after

-- a handle that is held on both sides of a job may be used as it was
accesses_stay : (w w' : Full) (state after : PlainTree) → Shows (world_of w) state → Shows (world_of w') after →
    IsLater w w' → AccessesStay (filled state w) (filled after w')
accesses_stay w w' state after s s' l handle before behind =
    let x = row_for w.past.objects handle w.tables.handles (sym (ap is_some (s.handles handle)) ∙ before) in
    let y = row_for w'.past.objects handle w'.tables.handles (sym (ap is_some (s'.handles handle)) ∙ behind) in
    l.lent handle x.0 y.0 x.1 y.1

-- the job as one of its steps
abbrev thread_of : Plan → ℕ → PlainJob → Asked → Thread
thread_of plan number job asked =
    record { job = number; role = role_for plan job.seat (agreed_in job.steps) asked; seat = job.seat }

served_job : (plan : Plan) (number : ℕ) (job : PlainJob) (w w' : Full) (state : PlainTree) → IsWhole plan job →
    Shows (world_of w) state → Law (world_of w) → Law (world_of w') →
    Walks (thread_of plan number job job.asked) w job.steps w' →
    IsServedSo plan job.seat job.asked state w job.last w'
served_job plan number job w w' state is s l l' k = go job.asked is.filled is.answered.belongs k
  where
    go : (asked : Asked) → IsFilled asked →
        Belongs (grammar_for plan job.seat asked) job.steps (finish.Answer job.last) →
        Walks (thread_of plan number job asked) w job.steps w' → IsServedSo plan job.seat asked state w job.last w'
    go (Requests who asked) f b k =
        let v = served plan number job.seat who asked (world_of w) job.last (world_of w') state s l (record {
          steps = job.steps;
          given = is.answered.given;
          belongs = b;
          walks = world_walks (thread_of plan number job (Requests who asked)) job.steps w w' k;
          ends = is.answered.ends;
          law = l';
        }) in (
          v.0,
          v.1,
          fills_request plan who asked (thread_of plan number job (Requests who asked)) w job.steps job.last w' state
              v.0
              (record { shows = s; ends = v.2 }) is.answered.given f refl v.1 b k,
          v.2,
        )
    go (Edits edit) f b k =
        let v = served_edit plan number edit job.steps (world_of w) job.last (world_of w') state s is.answered.given b
        (world_walks (thread_of plan number job (Edits edit)) job.steps w w' k) in (
          v.0,
          v.1,
          fills_edit plan edit (thread_of plan number job (Edits edit)) w job.steps job.last w' state v.0
              (record { shows = s; ends = v.2 }) is.answered.given b k,
          v.2,
        )

-- ---- one after another

record Served (plan : Plan) (number : ℕ) (jobs : List PlainJob) (w : Full) (state : PlainTree) (host : State)
    (tables : Tables) : Type 0 where
  after : PlainTree
  to : Full
  serves : ServesFilled plan (map seated_of jobs) (told_by jobs) (filled state w) (filled after to)
  runs : Runs (world_of w) (turns_from number jobs) (world_of to)
  ends : to.state ≡ host
  left : to.tables ≡ tables
  shown : Shows (world_of to) after
  below : IsBelow to

all_served : (plan : Plan) (limits : List ℕ) (bound number : ℕ) (front : List Turn) (jobs : List PlainJob)
    (start : World) (w :
    Full)
    (state : PlainTree) (host : State) (tables : Tables) → IsNew limits start →
    AreDisciplined bound (front ++ turns_from number jobs) → Runs start front (world_of w) →
    Each (IsWhole plan) jobs → Shows (world_of w) state → IsBelow w →
    RunsWhole jobs w.state w.tables host tables → Served plan number jobs w state host tables
all_served plan limits bound number front [] start w state host tables s a r e sh b k = record {
  after = state;
  to = w;
  serves = refl;
  runs = refl;
  ends = sym k.0;
  left = sym k.1;
  shown = sh;
  below = b;
}
all_served plan limits bound number front (job ∷ jobs) start w state host tables s a r e sh b k =
    let own = map (turn_by number) job.steps in
    let rest = turns_from (suc number) jobs in
    let j : Thread = thread_of plan number job job.asked in
    let v : Full = record w { seat = job.seat } in
    let walk = walks_at limits bound j front job.steps rest start v k.0 k.1 k.2 no_seat_past s a r e.0.answered.memory
    e.0.seated.made e.0.loses_none k.3 in
    let a' = subst (AreDisciplined bound) (sym (append_assoc front own rest)) a in
    let runs = runs_of j job.steps v walk.to walk.walks in
    let r' = runs_append front own start (world_of w) (world_of walk.to) r runs in
    let one = served_job plan number job v walk.to state e.0 sh
    (law_at limits bound front (own ++ rest) start (world_of w) s a r)
    (law_at limits bound (front ++ own) rest start (world_of walk.to) s a' r') walk.walks in
    let later = lent_over j v walk.to _ job.steps b e.0.answered.ends.2 walk.walks in
    let more = all_served plan limits bound (suc number) (front ++ own) jobs start walk.to one.0 host tables s a' r' e.1
    one.3 later.below (subst (λ (x : State). RunsWhole jobs x walk.to.tables host tables) (sym walk.state)
    (subst (λ (x : Tables). RunsWhole jobs k.0 x host tables) (sym walk.left) k.4)) in record {
      after = more.after;
      to = more.to;
      serves = (
        filled one.0 walk.to,
        one.1,
        one.2,
        accesses_stay v walk.to state one.0 sh one.3 later,
        more.serves,
      );
      runs = runs_append own rest (world_of w) (world_of walk.to) (world_of more.to) runs more.runs;
      ends = more.ends;
      left = more.left;
      shown = more.shown;
      below = more.below;
    }

-- each live handle's descriptor was opened for what the plain file system says
abbrev AreLent : State → Tables → FilledTree → Type 0
AreLent host tables state = (row : HandleRow) → IsHandleRow tables row → row.live ≡ true →
    state.accesses row.handle ≡ ((contents_of host).descriptions row.fd.0).access

lent_rows : (w : Full) (state : PlainTree) → Law (world_of w) → AreLent w.state w.tables (filled state w)
lent_rows w state l row r live = lent_row w row r live l

no_seat : HostSeat
no_seat = record {
  real_uid = 0;
  eff_uid = 0;
  saved_uid = 0;
  real_gid = 0;
  eff_gid = 0;
  saved_gid = 0;
  groups = [];
  eff_caps = record { 0 = 0 };
  perm_caps = record { 0 = 0 };
  umask = 0;
}

-- The jobs' answers and the end are a run of the plain file system with contents, over the jobs in order.
pub filled_run : (plan : Plan) (limits : List ℕ) (bound : ℕ) (jobs : List PlainJob) (start end : State)
    (tables : Tables) →
    AreDisciplined bound (turns_from 0 jobs) → Each (IsWhole plan) jobs →
    RunsWhole jobs start (empty_tables limits) end tables →
    (after : FilledTree) × ServesFilled plan (map seated_of jobs) (told_by jobs) (filled_start start) after
    × EndsFilled limits jobs start end tables after
filled_run plan limits bound jobs start end tables a e k =
    let begin : Full = record {
      state = start;
      tables = empty_tables limits;
      past = no_past;
      story = no_story;
      seat = no_seat;
    } in
    let starts : IsNew limits (start_world limits start) = record { tables = refl; past = refl; story = refl } in
    let all = all_served plan limits bound 0 [] jobs (start_world limits start) begin (plain_start (tree_of start)) end
    tables
    starts a refl e (start_shows limits (start_world limits start) starts) (λ handle it e. absurd (cc)) k in
    let a' = subst (AreDisciplined bound) (sym (append-nil (turns_from 0 jobs))) a in (
      filled all.after all.to,
      all.serves,
      record {
        world = world_of all.to;
        runs = all.runs;
        same_tree = ap tree_of all.ends;
        same_tables = all.left;
        plain = ends_as (world_of all.to) all.after
            (law_at limits bound (turns_from 0 jobs) [] (start_world limits start) (world_of all.to) starts a' all.runs)
            all.shown;
        contents = ap (λ (s : State). (contents_of s).objects) all.ends;
        accesses = subst (λ (p : State × Tables). AreLent p.0 p.1 (filled all.after all.to))
            (λ i. (all.ends i, all.left i))
            (lent_rows all.to all.after (law_at limits bound (turns_from 0 jobs) [] (start_world limits start)
            (world_of all.to)
            starts a' all.runs));
      },
    )
