-- What holds before and after each step, whatever the other jobs do.
use Rattle.std.proofs.Common.{◌≡◌, ◌≢◌, ⊎_elim, ℕ, ◌+◌, ◌<◌, ◌≤◌, refl, sym, ap, subst, ◌∙◌, arith, List, Option}
use Rattle.std.proofs.Common.{Some, None}
use Rattle.std.proofs.lemmas.Bool.{cases_eq}
use Rattle.pt_host.specs.Words.{total, set_at}
use Rattle.pt_host.specs.Call.{Call}
use Rattle.pt_host.specs.Sorts.{Sort, OpensWith, EndsFd, OfSeat, Plain, sort_of, fds_of}
use Rattle.pt_host.specs.Reply.{ReplyHoldsBytes}
use Rattle.pt_host.specs.Promises.{IsAllowed}
use Rattle.pt_host.specs.Tree.{Tree, IsOpenOn, IsWellFormed}
use Rattle.pt_host.specs.declared.flags.OpenFlags.{OpenFlags}
use Rattle.pt_host.specs.LawfulStep.{LawfulStep}
use Rattle.pt_host.specs.LawfulTree.{TreeChanges}
use Rattle.pt_host.specs.declared.ids.Fd.{Fd}
use Rattle.pt_host.specs.declared.seat.HostSeat.{HostSeat}
use Rattle.pt_host.specs.declared.op.KeptHostOp.TheVariants as call
use Rattle.pt_host.specs.declared.reply.HostReply.{HostReply}
use Rattle.pt_host.specs.declared.reply.HostReply.TheVariants as host
use Rattle.pt_host.specs.declared.reply.HostValue.TheVariants as value
use Rattle.pt_tables.specs.Change.{Change}
use Rattle.pt_tables.specs.Tables.{Tables, Agree}
use Rattle.pt_tables.specs.Happens.{Happens}
use Rattle.pt_tables.proofs.Cases.{Case, cases}
use Rattle.pt_tables.specs.declared.event.KeptEvent.TheVariants as change
use Rattle.pt_tables.specs.declared.reply.EventReply.{EventReply}
use Rattle.pt_tables.specs.declared.reply.EventReply.TheVariants as event
use Rattle.pt_frame.specs.Deed.{Deed, Calls, Changes}
use Rattle.pt_host.specs.Relation.{HostRelation}
use Rattle.pt_frame.specs.Made.{Made}
use Rattle.pt_frame.specs.declared.act.ActReply.{ActReply}
use Rattle.pt_frame.specs.declared.act.ActReply.TheVariants.{Event, Host, NoCopy}
use Rattle.pt_frame.specs.declared.hold.Hold.{Hold}
use Rattle.pt_law.specs.Discipline.{Job, Notes, Resolution, ShiftsCalled, JobMoves, MovesIf, MovesBy, notes_after}
use Rattle.pt_law.specs.Story.{Story}
use Rattle.pt_law.specs.World.{World, Past, Turn, TablesGo, Goes, IsLawful, settled_if, settled_by, story_by}
use Rattle.pt_law.specs.Ledger.{open_count, kept_fds, some_count, slot_given}
use Rattle.pt_law.proofs.Flows.{all_hold, fd_held}
use Rattle.pt_law.specs.Ledger.{inserted_as, weighed}
use Rattle.pt_law.specs.Ledger.{fd_ended, fd_closed}
use Rattle.pt_law.proofs.Flows.{slot_in, IsHonest, unmade}
use Rattle.pt_law.proofs.Lists.{total_takes, sum_to_set, set_at_same, set_at_other, at_each}
use Rattle.pt_law.proofs.Balance.{moved}
use Rattle.pt_law.proofs.Holding.{handed, in_tree}
use Rattle.pt_law.proofs.Counting.{Books, keeps_books, honest, part}
use Rattle.pt_law.proofs.Numbers.{Numbers, keeps_numbers}
use Rattle.pt_law.proofs.Knowing.{Knowing, one_object}
use Rattle.pt_law.proofs.RowEvents.{rows_event, handles_event}
use Rattle.pt_law.proofs.Events.{number_of, grows, knows_event, knows_other, resolved_other}
use Rattle.pt_law.proofs.Calls.{Right, keeps_call}
use Rattle.pt_law.proofs.PinnedRows.{pinned_row}
use Rattle.pt_law.proofs.Givings.{agree_step}

-- what holds of the tables, whatever host there is; `had` says how often each number was inserted
pub record Tabled (bound : ℕ) (had : ℕ → ℕ) (t : Tables) (js : ℕ → Job) : Type 0 where
  pub agree : Agree t
  pub books : Books bound t js
  pub numbers : Numbers bound had t js

-- and of a host that tells its tree; `base` says what was open before the first step
pub record Inv (bound : ℕ) (base had : ℕ → ℕ) (w : World) (js : ℕ → Job) : Type 0 where
  pub tabled : Tabled bound had w.tables js
  pub well : IsWellFormed w.tree
  pub fds : (fd : ℕ) → open_count fd w.tree ≡ kept_fds fd w.tables + all_hold bound (fd_held fd) js + base fd
  pub right : Right bound w.tree w.tables.next_row w.past w.tables.rows w.tables.handles js

pub set_self : {X : Type 0} (f : ℕ → X) (j : ℕ) (x : X) → x ≡ f j → set_at j x f ≡ f
set_self f j x e = λ i k. at k i
  where
    at : (k : ℕ) → set_at j x f k ≡ f k
    at k = ⊎_elim (λ (q : k ≡ j). ap (set_at j x f) q ∙ set_at_same f j x ∙ e
        ∙ ap f (sym q)) (λ (q : k ≢ j). set_at_other f j x k q) (cases_eq k j)

-- another count of insertions that is the same
pub recount : (bound : ℕ) (had had' : ℕ → ℕ) (t : Tables) (js : ℕ → Job) → ((n : ℕ) → had' n ≡ had n) →
    Tabled bound had t js → Tabled bound had' t js
recount bound had had' t js e v = record {
  agree = v.agree;
  books = v.books;
  numbers = record {
    once = λ n ne. let a = v.numbers.once n ne in let b = e n in omega (arith, a, b);
    fresh = λ n l. let a = v.numbers.fresh n l in let b = e n in omega (arith, a, b);
    second = v.numbers.second;
  };
}

pub keeps_tabled : (bound : ℕ) (had : ℕ → ℕ) (t : Tables) (js : ℕ →
    Job) (j : ℕ) (deed : Option Deed) (told : ActReply) (t' : Tables) (after : Job) → j < bound →
    Tabled bound had t js → TablesGo t deed told t' →
    MovesIf (js j) deed told after →
    Tabled bound (λ n. had n + weighed (inserted_as n) deed told) t' (set_at j after js)
keeps_tabled bound had t js j None told t' after lt v g m =
    rw (unmade t told t' g, set_self js j after m) (recount bound had (λ n. had n + 0) t js (λ n. omega arith) v)
keeps_tabled bound had t js j (Some deed) told t' after lt v g m = record {
  agree = agree_step t (Some deed) told t' g v.agree;
  books = keeps_books bound t js j deed told t' after lt v.agree v.books g m;
  numbers = keeps_numbers bound had t js j deed told t' after lt v.agree v.numbers g m;
}

-- no slot that a step gives back is refused
abbrev pub HasFlows : Option Deed → ActReply → Type 0
HasFlows deed told = (class : ℕ) → weighed (slot_in class) deed told ≡ weighed (slot_given class) deed told

flows_by : (t : Tables) (e : Change) (r : EventReply) (t' : Tables) → Case t e r t' →
    IsHonest (Changes e) (Event r) → HasFlows (Some (Changes e)) (Event r)
flows_by t (change.GiveFd its) event.Given t' h a = λ class. refl
flows_by t (change.GiveFd class) (event.Refused why) t' h a = absurd a
flows_by t (change.Insert new) (event.Inserted given) t' h a = λ class. refl
flows_by t (change.InsertRoot new) (event.Inserted given) t' h a = λ class. refl
flows_by t (change.InsertHandle new) (event.Inserted given) t' h a = λ class. refl
flows_by t (change.GiveFd class) _ t' h a = absurd h
flows_by t _ _ t' h a = λ class. refl

event_flows : (t : Tables) (e : Change) (r : EventReply) (t' : Tables) → Happens t e r t' →
    IsHonest (Changes e) (Event r) → HasFlows (Some (Changes e)) (Event r)
event_flows t e r t' h a = flows_by t e r t' (cases t t' e r h) a

pub has_flows : (bound : ℕ) (had : ℕ → ℕ) (t : Tables) (js : ℕ →
    Job) (j : ℕ) (deed : Option Deed) (told : ActReply) (t' : Tables) (after : Job) → j < bound →
    Tabled bound had t js → TablesGo t deed told t' → MovesIf (js j) deed told after → HasFlows deed told
has_flows bound had t js j (Some (Changes e)) (Event r) t' after lt v g m =
    event_flows t e r t' g (honest bound t js j e r t' after lt v.books g m)
has_flows bound had t js j (Some (Calls a)) (Host r) t' after lt v g m = λ class. refl
has_flows bound had t js j (Some (Calls a)) NoCopy t' after lt v g m = λ class. refl
has_flows bound had t js j None NoCopy t' after lt v g m = λ class. refl
has_flows bound had t js j _ _ t' after lt v g m = absurd g

-- what a made step does to the tables
pub turned : {H : Type 0} (does : HostRelation H) (deed : Option Deed) (told : ActReply) (from : H) (seat : HostSeat)
    (t : Tables) (to : H) (seat' : HostSeat) (t' : Tables) → Made does deed told from seat t to seat' t' →
    TablesGo t deed told t'
turned does (Some (Changes e)) (Event r) from seat t to seat' t' h = h.0
turned does (Some (Calls a)) (Host r) from seat t to seat' t' h = h.1
turned does (Some (Calls a)) NoCopy from seat t to seat' t' h = h.1
turned does None NoCopy from seat t to seat' t' h = h.2
turned does _ _ from seat t to seat' t' h = absurd h

-- what a call moves is the same where it told bytes and where these could not be copied
bytes_shift : (sort : Sort) (names : List Fd) (bytes : List ℕ) (holds after : List Hold) →
    ShiftsCalled sort names holds NoCopy after →
    ShiftsCalled sort names holds (Host (host.Ok (value.Bytes bytes))) after
bytes_shift (OpensWith flags) names bytes holds after s = s
bytes_shift (EndsFd fd) names bytes holds after s = s
bytes_shift OfSeat names bytes holds after s = s
bytes_shift Plain names bytes holds after s = s

bytes_notes : (a : Call) (bytes : List ℕ) (notes : Notes) →
    notes_after notes (Calls a) NoCopy ≡ notes_after notes (Calls a) (Host (host.Ok (value.Bytes bytes)))
bytes_notes (call.Close fd) bytes notes = refl
bytes_notes a bytes notes = refl

bytes_settled : (past : Past) (j : ℕ) (a : Call) (bytes : List ℕ) (row : ℕ) (tree : Tree) →
    settled_by past j (Calls a) NoCopy row tree
    ≡ settled_by past j (Calls a) (Host (host.Ok (value.Bytes bytes))) row tree
bytes_settled past j (call.OpenAt dir name flags mode) bytes row tree = refl
bytes_settled past j (call.OpenRoot path flags) bytes row tree = refl
bytes_settled past j a bytes row tree = refl

bytes_move : (job : Job) (a : Call) (bytes : List ℕ) (after : Job) → MovesBy job (Calls a) NoCopy after →
    MovesBy job (Calls a) (Host (host.Ok (value.Bytes bytes))) after
bytes_move job a bytes after m = (
  bytes_shift (sort_of a) (fds_of a) bytes job.holds after.holds m.0,
  m.1,
  m.2,
  m.3 ∙ bytes_notes a bytes job.notes,
)

at_most_one : (fd : ℕ) (tree : Tree) → open_count fd tree ≤ 1
at_most_one fd tree = go (tree.opened fd)
  where
    go : {A : Type 0} (x : Option A) → some_count x ≤ 1
    go None = omega arith
    go (Some x) = omega arith

-- what is closed was held
closed_held : (job : Job) (a : Call) (told : ActReply) (after : Job) → MovesBy job (Calls a) told after → (f : ℕ) →
    0 < fd_ended f (Calls a) told → 0 < total (fd_held f) job.holds
closed_held job a told after m f l = go (sort_of a) (fds_of a) m.0 l
  where
    go : (sort : Sort) (names : List Fd) → ShiftsCalled sort names job.holds told after.holds → 0 < fd_closed f sort →
        0 < total (fd_held f) job.holds
    go (EndsFd fd) names s l = let a = total_takes (fd_held f) s in omega (arith, a, l)
    go sort names s l = absurd (omega (arith, l))

keeps_event : (bound : ℕ) (base had : ℕ → ℕ) (w : World) (js : ℕ →
    Job) (j : ℕ) (e : Change) (r : EventReply) (t' : Tables) (story : Story) (after : Job) → j < bound → Inv bound base had w js →
    Happens w.tables e r t' → MovesBy (js j) (Changes e) (Event r) after →
    Inv bound base (λ n. had n
    + inserted_as n (Changes e) (Event r)) (record {
      tree = w.tree;
      tables = t';
      past =
          settled_by w.past j (Changes e) (Event r) w.tables.next_row w.tree;
      story = story;
    }) (set_at j after js)
keeps_event bound base had w js j e r t' story after lt v h m =
    let a = v.tabled.agree in
    let later = settled_by w.past j (Changes e) (Event r) w.tables.next_row w.tree in
    let case = cases w.tables t' e r h in
    let g = grows w.tree w.past w.tables j e r t' a case in
    record {
      tabled = keeps_tabled bound had w.tables js j (Some (Changes e)) (Event r) t' after lt v.tabled h m;
      well = v.well;
      fds = λ fd.
          let x = v.fds fd in
          let y = (handed (js j).holds (Changes e) (Event r) after.holds m.0).fds fd in
          let z = (moved w.tables e r t' a h (honest bound w.tables js j e r t' after lt v.tabled.books h m)).fds fd in
          let s = sum_to_set (λ (k : Job). total (fd_held fd) k.holds) js j after bound lt in
          omega (arith, x, y, z, s);
      right = record {
        handled = handles_event w.tree w.past w.tables j (js j) after e r t' a case m (v.right.knows j lt)
            v.right.handled;
        shown = rows_event w.tree w.past w.tables j (js j) after e r t' a case m (v.right.knows j lt) v.right.shown;
        knows = λ i less. at_each (Knowing w.tree t'.next_row later) js j after i
            (knows_event w.tree w.past w.tables j (js j) after e r t' v.well a case m v.right.shown v.right.handled
            (v.right.knows j lt))
            (λ other. knows_other w.tree w.past later w.tables.next_row t'.next_row i (js i) g
            (resolved_other w.past j e r w.tables.next_row w.tree i other) (v.right.knows i less));
      };
    }

keeps_host : (bound : ℕ) (base had : ℕ → ℕ) (w : World) (js : ℕ →
    Job) (j : ℕ) (a : Call) (r : HostReply) (seat seat' : HostSeat) (tree' : Tree) (story : Story) (after : Job) →
    j < bound →
    Inv bound base had w js → LawfulStep w.tree seat a r tree' seat' → MovesBy (js j) (Calls a) (Host r) after →
    Inv bound base (λ n. had n
    + inserted_as n (Calls a) (Host r)) (record {
      tree = tree';
      tables = w.tables;
      past =
          settled_by w.past j (Calls a) (Host r) w.tables.next_row tree';
      story = story;
    }) (set_at j after js)
keeps_host bound base had w js j a r seat seat' tree' story after lt v l m =
    let opened = in_tree w.tree a r tree' l.trees.changes (λ f q. let x =
    closed_held (js j) a (Host r) after m f q in let y = v.fds f in let z = part (fd_held f) js bound j lt in
    let u = at_most_one f w.tree in omega (arith, x, y, z, u)) in
    let fds : (fd : ℕ) →
    open_count fd tree' ≡ kept_fds fd w.tables + all_hold bound (fd_held fd) (set_at j after js) + base fd = (λ fd.
    let x = v.fds fd in
    let y = (handed (js j).holds (Calls a) (Host r) after.holds m.0).fds fd in
    let z = opened fd in
    let s = sum_to_set (λ (k : Job). total (fd_held fd) k.holds) js j after bound lt in
    omega (arith, x, y, z, s)) in
    record {
      tabled = keeps_tabled bound had w.tables js j (Some (Calls a)) (Host r) w.tables after lt v.tabled refl m;
      well = l.trees.formed_after;
      fds = fds;
      right = keeps_call bound w.tree w.tables.next_row w.past w.tables.rows w.tables.handles js j after a r tree' lt
          v.right l.trees.changes m
          (λ f flags object e on. judged f flags object on (subst (λ c. MovesBy (js j) (Calls c) (Host r) after) e m))
          (λ f e.
          let n : open_count f.0 tree' ≡ 0 = closed_none w.tree tree' a f r e l.trees.changes in
          let x = fds f.0 in (
            omega (arith, n, x),
            omega (arith, n, x),
            (λ i less. let y =
                part (fd_held f.0) (set_at j after js) bound i less in omega (arith, n, x, y)),
          ));
    }
  where
    judged : (f : Fd) (flags : OpenFlags) (object : ℕ) → IsOpenOn w.tree f object →
        MovesBy (js j) (Calls (call.Reopen f flags)) (Host r) after → (was : Resolution) →
        (js j).notes.resolved ≡ Some was → w.past.resolved j was.number ≡ Some object
    judged f flags object on m was u =
        let fit = m.1 in
        let p = pinned_row bound w.tree w.tables w.past js j fit.0.row f lt v.tabled.books v.right fit.3 in
        let same : was.number ≡ fit.0.number = ap (number_of 0) (sym u ∙ fit.2) in
        ap (w.past.resolved j) same ∙ sym ((v.right.knows j lt).resolved fit.0 fit.2).1 ∙ p.2
        ∙ ap Some (one_object w.tree f p.0 object p.1 on)

    closed_none : (tree tree' : Tree) (a : Call) (f : Fd) (r : HostReply) → a ≡ call.Close f →
        TreeChanges tree a r tree' → open_count f.0 tree' ≡ 0
    closed_none tree tree' a f r e h =
        let l : TreeChanges tree (call.Close f) r tree' = subst (λ c. TreeChanges tree c r tree') e h in
        none tree tree' f r l
      where
        none : (tree tree' : Tree) (f : Fd) (r : HostReply) → TreeChanges tree (call.Close f) r tree' →
            open_count f.0 tree' ≡ 0
        none tree tree' f r l = rw l (ap some_count (set_at_same tree.opened f.0 None))

-- bytes that could not be copied were read, which moves nothing
keeps_bytes : (bound : ℕ) (base had : ℕ → ℕ) (w : World) (js : ℕ →
    Job) (j : ℕ) (a : Call) (r : HostReply) (seat seat' : HostSeat) (next : World) (after : Job) (faults later : ℕ) →
    j < bound → Inv bound base had w js →
    ReplyHoldsBytes r → IsAllowed faults a r later → LawfulStep w.tree seat a r next.tree seat' →
    next.tables ≡ w.tables → next.past ≡ settled_by w.past j (Calls a) NoCopy w.tables.next_row next.tree →
    MovesBy (js j) (Calls a) NoCopy after →
    Inv bound base (λ n. had n + inserted_as n (Calls a) NoCopy) next (set_at j after js)
keeps_bytes bound base had w js j a (host.Ok (value.Bytes bytes)) seat seat' next after faults later lt v h f l t p
    m =
    let told = Host (host.Ok (value.Bytes bytes)) in
    let same : next ≡ record {
      tree = next.tree;
      tables = w.tables;
      past = settled_by w.past j (Calls a) told w.tables.next_row next.tree;
      story = next.story;
    } = λ i. record {
      tree = next.tree;
      tables = t i;
      past = (p ∙ bytes_settled w.past j a bytes w.tables.next_row next.tree) i;
      story = next.story;
    } in
    rw same (keeps_host bound base had w js j a (host.Ok (value.Bytes bytes)) seat seat' next.tree next.story after lt
    v l
    (bytes_move (js j) a bytes after m))
keeps_bytes bound base had w js j a r seat seat' next after faults later lt v h f l t p m = absurd h

keeps_by : (bound : ℕ) (base had : ℕ → ℕ) (w : World) (js : ℕ →
    Job) (j : ℕ) (deed : Option Deed) (told : ActReply) (seat seat' : HostSeat) (next : World) (after : Job) →
    j < bound → Inv bound base had w js →
    Made IsLawful deed told w.tree seat w.tables next.tree seat' next.tables →
    next.past ≡ settled_if w.past j deed told w.tables.next_row next.tree →
    next.story ≡ story_by w next.past next.tree j deed told → MovesIf (js j) deed told after →
    Inv bound base (λ n. had n + weighed (inserted_as n) deed told) next (set_at j after js)
keeps_by bound base had w js j None NoCopy seat seat' next after lt v g p y m =
    let same : next ≡ w = λ i. record { tree = g.0 i; tables = g.2 i; past = p i; story = y i } in
    rw (same, set_self js j after m) (record {
      tabled =
          recount bound had (λ n. had n + 0) w.tables js (λ n. omega arith) v.tabled;
      well = v.well;
      fds = v.fds;
      right = v.right;
    })
keeps_by bound base had w js j (Some (Changes e)) (Event r) seat seat' next after lt v g p y m =
    let past : next.past ≡ settled_by w.past j (Changes e) (Event r) w.tables.next_row w.tree =
    p ∙ ap (settled_by w.past j (Changes e) (Event r) w.tables.next_row) g.1 in
    let same : next ≡ record {
      tree = w.tree;
      tables = next.tables;
      past = settled_by w.past j (Changes e) (Event r) w.tables.next_row w.tree;
      story = next.story;
    } = λ i. record { tree = g.1 i; tables = next.tables; past = past i; story = next.story } in
    rw same (keeps_event bound base had w js j e r next.tables next.story after lt v g.0 m)
keeps_by bound base had w js j (Some (Calls a)) (Host r) seat seat' next after lt v g p y m =
    let same : next ≡ record {
      tree = next.tree;
      tables = w.tables;
      past = settled_by w.past j (Calls a) (Host r) w.tables.next_row next.tree;
      story = next.story;
    } = λ i. record { tree = next.tree; tables = g.1 i; past = p i; story = next.story } in
    rw same (keeps_host bound base had w js j a r seat seat' next.tree next.story after lt v g.0.0 m)
keeps_by bound base had w js j (Some (Calls a)) NoCopy seat seat' next after lt v g p y m =
    let l = g.0.2 in
    keeps_bytes bound base had w js j a g.0.0 seat seat' next after l.1 l.2 lt v g.0.1 l.3.allowed l.0 g.1 p m
keeps_by bound base had w js j _ _ seat seat' next after lt v g p y m = absurd g

-- Each step keeps what holds.
pub keeps : (bound : ℕ) (base had : ℕ → ℕ) (w : World) (js : ℕ → Job) (turn : Turn) (next : World) (after : Job) →
    turn.job < bound → Inv bound base had w js → Goes w turn next →
    JobMoves (js turn.job) turn.step after →
    Inv bound base (λ n. had n + weighed (inserted_as n) turn.step.deed turn.step.reply) next (set_at turn.job after js)
keeps bound base had w js turn next after lt v g m =
    keeps_by bound base had w js turn.job turn.step.deed turn.step.reply g.seat g.seat_after next after lt v g.made
    g.past g.story m
