-- A run in which all that is said of runs can be met: the shared directory gets number 1, and then two lookups of one
-- name race. Both find no number, both draw one, and the second to insert finds the number that the first inserted.
use Rattle.std.proofs.Common.{◌≡◌, ◌≢◌, ⊎_elim, inl, inr, ℕ, zero, suc, ◌<◌, List, [], ◌∷◌, true, refl, sym, ap}
use Rattle.std.proofs.Common.{subst, ◌∙◌, arith, Option, Some, None, slice_get}
use Rattle.std.proofs.lemmas.Bool.{cases_eq}
use Rattle.pt_host.specs.Words.{Each, Takes.{here, there}, Replaces.{at, past}, set_at}
use Rattle.pt_host.proofs.SeatAnswers.{unanswered}
use Rattle.pt_host.specs.Call.{Call}
use Rattle.pt_host.specs.Flags.{includes, o_path}
use Rattle.pt_host.specs.Tree.{Tree, Object, Opened, IsWellFormed, directory_kind, kind_of}
use Rattle.pt_host.specs.LawfulTree.{TreeChanges, AsksPathOnly}
use Rattle.pt_host.specs.Promises.{FitsCall}
use Rattle.pt_host.specs.SeatAnswer.{seat_answer}
use Rattle.pt_host.specs.declared.ids.Fd.{Fd}
use Rattle.pt_host.specs.declared.seat.HostSeat.{HostSeat}
use Rattle.pt_host.specs.declared.stat.Stat.{Stat}
use Rattle.pt_host.specs.declared.op.KeptHostOp.TheVariants as call
use Rattle.pt_host.specs.declared.reply.HostReply.{HostReply}
use Rattle.pt_host.specs.declared.reply.HostReply.TheVariants as host
use Rattle.pt_host.specs.declared.reply.HostValue.{HostValue}
use Rattle.pt_host.specs.declared.reply.HostValue.TheVariants as value
use Rattle.pt_tables.specs.Change.{Change}
use Rattle.pt_tables.specs.Happens.{Happens}
use Rattle.pt_tables.specs.Tables.{Tables, empty_tables, nothing_agreed}
use Rattle.pt_tables.specs.declared.row.Row.{Row}
use Rattle.pt_tables.specs.declared.form.RowForm.TheVariants.{File}
use Rattle.pt_tables.specs.declared.event.KeptEvent.TheVariants as change
use Rattle.pt_tables.specs.declared.reply.Resolved.{Resolved}
use Rattle.pt_tables.specs.declared.reply.EventReply.{EventReply}
use Rattle.pt_tables.specs.declared.reply.EventReply.TheVariants as event
use Rattle.pt_iface.specs.declared.answer.Answer.TheVariants as answer
use Rattle.pt_iface.specs.declared.request.Request.TheVariants as request
use Rattle.pt_frame.specs.Deed.{Calls, Changes}
use Rattle.pt_frame.specs.Grammar.{Belongs}
use Rattle.pt_req.specs.Entries.{entry_of}
use Rattle.pt_req.specs.Parts.{by_path, named, look_up}
use Rattle.pt_req.specs.Steps.{claim_of, new_row_of, new_root_of}
use Rattle.pt_job.specs.Pattern.{Asked, Requests, grammar_for}
use Rattle.pt_iface.specs.declared.request.Context.{Context}
use Rattle.pt_frame.specs.declared.act.ActReply.TheVariants.{Event, Host}
use Rattle.pt_frame.specs.declared.finish.Finish.{Finish}
use Rattle.pt_frame.specs.declared.finish.Finish.TheVariants as finish
use Rattle.pt_req.specs.declared.plan.Plan.{Plan}
use Rattle.pt_law.specs.World.{World, Turn, turn_by, Runs, steps_of, settled_by, story_by, no_past, made}
use Rattle.pt_law.specs.Discipline.{AreEnded}
use Rattle.pt_fit.specs.Entered.{IsEntered}
use Rattle.pt_fit.proofs.LookedUp.{again}
use Rattle.pt_law.specs.Laws.{Starts}
use Rattle.pt_fit.specs.Answered.{AreAnswered}
use Rattle.pt_law.proofs.Lists.{set_at_same, set_at_other}
use Rattle.pt_law.proofs.Laws.{ended_jobs}
use Rattle.pt_fit.proofs.Answered.{run_ended}
use Rattle.pt_fit.proofs.Entered.{entered_law}
use Rattle.pt_fit.proofs.Looking.{looked_up}
use Rattle.pt_law.specs.Story.{no_story}
use Rattle.pt_frame.specs.Tree.{on, go_on}

abbrev pub fd : ℕ → Fd
fd number = record { 0 = number }

-- the letter a
abbrev name : List ℕ
name = 97 ∷ []

-- the host: the shared directory is object 0, and each name in it leads to object 1

abbrev object : Stat → Object
object stat = record { ids = stat.ids; kind = kind_of stat.mode; handle = None }

abbrev names : ℕ → List ℕ → Option ℕ
names zero child = Some 1
names (suc dir) child = None

abbrev pub tree : Stat → Stat → (ℕ → Option Opened) → Tree
tree root file opened = record { objects = object root ∷ object file ∷ []; names = names; opened = opened }

abbrev pub IsSmall : (ℕ → Option Opened) → Type 0
IsSmall opened = (fd : ℕ) (one : Opened) → opened fd ≡ Some one → one.object < 2

pub small_none : IsSmall (λ fd. None)
small_none fd one e = absurd (cc)

small_set : (opened : ℕ → Option Opened) (k : ℕ) (x : Option Opened) →
    ((one : Opened) → x ≡ Some one → one.object < 2) → IsSmall opened → IsSmall (set_at k x opened)
small_set opened k x new h fd one e = ⊎_elim
    (λ (q : fd ≡ k). new one (sym (set_at_same opened k x) ∙ ap (set_at k x opened) (sym q) ∙ e))
    (λ (q : fd ≢ k). h fd one (sym (set_at_other opened k x fd q) ∙ e))
    (cases_eq fd k)

pub small_open : (opened : ℕ → Option Opened) (k : ℕ) (new : Opened) → new.object < 2 → IsSmall opened →
    IsSmall (set_at k (Some new) opened)
small_open opened k new l = small_set opened k (Some new) (λ one e. same one e)
  where
    same : (one : Opened) → Some new ≡ Some one → one.object < 2
    same one e = let k : new ≡ one = cc in subst (λ (z : Opened). z.object < 2) k l

small_close : (opened : ℕ → Option Opened) (k : ℕ) → IsSmall opened → IsSmall (set_at k None opened)
small_close opened k = small_set opened k None (λ one e. absurd (cc))

-- the objects have other ids
same_object : (root file : Stat) → root.ids ≢ file.ids → (n m : ℕ) (what that : Object) →
    slice_get (object root ∷ object file ∷ []) n ≡ Some what →
    slice_get (object root ∷ object file ∷ []) m ≡ Some that → what.ids ≡ that.ids → n ≡ m
same_object root file apart zero zero what that a b e = refl
same_object root file apart (suc zero) (suc zero) what that a b e = refl
same_object root file apart zero (suc zero) what that a b e =
    let x : object root ≡ what = cc in
    let y : object file ≡ that = cc in
    absurd (apart (ap (λ (o : Object). o.ids) x ∙ e ∙ ap (λ (o : Object). o.ids) (sym y)))
same_object root file apart (suc zero) zero what that a b e =
    let x : object file ≡ what = cc in
    let y : object root ≡ that = cc in
    absurd (apart (ap (λ (o : Object). o.ids) y ∙ sym e ∙ ap (λ (o : Object). o.ids) (sym x)))
same_object root file apart (suc (suc n)) m what that a b e = absurd (cc)
same_object root file apart n (suc (suc m)) what that a b e = absurd (cc)

no_handle : (root file : Stat) (n : ℕ) (what : Object) → slice_get (object root ∷ object file ∷ []) n ≡ Some what →
    what.handle ≡ None
no_handle root file zero what e = let x : object root ≡ what = cc in ap (λ (o : Object). o.handle) (sym x)
no_handle root file (suc zero) what e = let x : object file ≡ what = cc in ap (λ (o : Object). o.handle) (sym x)
no_handle root file (suc (suc n)) what e = absurd (cc)

leads : (dir : ℕ) (child : List ℕ) (o : ℕ) → names dir child ≡ Some o → (dir < 2) × (o < 2)
leads zero child o e = let k : 1 ≡ o = cc in (omega arith, omega (arith, k))
leads (suc dir) child o e = absurd (cc)

-- names lead from the shared directory alone
directory : (root file : Stat) → kind_of root.mode ≡ directory_kind → (dir : ℕ) (child : List ℕ) (o : ℕ)
    (what : Object) → names dir child ≡ Some o → slice_get (object root ∷ object file ∷ []) dir ≡ Some what →
    what.kind ≡ directory_kind
directory root file kind zero child o what e is =
    let x : object root ≡ what = cc in ap (λ (at : Object). at.kind) (sym x) ∙ kind
directory root file kind (suc dir) child o what e is = absurd (cc)

pub well : (root file : Stat) → root.ids ≢ file.ids → kind_of root.mode ≡ directory_kind →
    (opened : ℕ → Option Opened) → IsSmall opened → IsWellFormed (tree root file opened)
well root file apart kind opened small = record {
  named = leads;
  directories = directory root file kind;
  opened = small;
  apart = λ f g n m what that x y a b e. same_object root file apart n m what that a b e;
  handles = λ n m what that handle a b mount e g. let k = no_handle root file n what a in absurd (cc);
}

-- one step after another, and where they lead

pub record Leads (world : World) (turns : List Turn) : Type 0 where
  pub last : World
  pub run : Runs world turns last

abbrev after_event : World → ℕ → Change → EventReply → Tables → World
after_event world job asked told tables = record {
  tree = world.tree;
  tables = tables;
  past = settled_by world.past job (Changes asked) (Event told) world.tables.next_row world.tree;
  story = story_by world (settled_by world.past job (Changes asked) (Event told) world.tables.next_row world.tree)
      world.tree job (Some (Changes asked)) (Event told);
}

abbrev after_call : World → ℕ → Call → HostReply → Tree → World
after_call world job asked told tree = record {
  tree = tree;
  tables = world.tables;
  past = settled_by world.past job (Calls asked) (Host told) world.tables.next_row tree;
  story = story_by world (settled_by world.past job (Calls asked) (Host told) world.tables.next_row tree) tree job
      (Some (Calls asked)) (Host told);
}

event_then : (seat : HostSeat) (world : World) (job : ℕ) (asked : Change) (told : EventReply) (tables : Tables)
    (turns : List Turn) → Happens world.tables asked told tables →
    Leads (after_event world job asked told tables) turns →
    Leads world (turn_by job (made (Changes asked) (Event told)) ∷ turns)
event_then seat world job asked told tables turns h rest = record {
  last = rest.last;
  run = (
    after_event world job asked told tables,
    record {
      seat =
          seat;
      seat_after = seat;
      made = (h, refl, refl);
      past = refl;
      story = refl;
    },
    rest.run,
  );
}

-- a call that is not the seat's own and names no path-only descriptor, and is Ok
call_then : (seat : HostSeat) (world : World) (job : ℕ) (asked : Call) (what : HostValue) (tree : Tree)
    (turns : List Turn) → TreeChanges world.tree asked (host.Ok what) tree → FitsCall asked what →
    seat_answer seat asked ≡ None → (AsksPathOnly world.tree asked → ⊥) →
    IsWellFormed world.tree → IsWellFormed tree → Leads (after_call world job asked (host.Ok what) tree) turns →
    Leads world (turn_by job (made (Calls asked) (Host (host.Ok what))) ∷ turns)
call_then seat world job asked what tree turns h fits other unasked before well rest = record {
  last = rest.last;
  run = (
    after_call world job asked (host.Ok what) tree,
    record {
      seat = seat;
      seat_after = seat;
      made = (
        (
          record {
            trees = record {
              formed_before = before;
              formed_after = well;
              changes = h;
              path_only = λ asks. absurd (unasked asks);
            };
            seats = unanswered seat asked (host.Ok what) other;
          },
          0,
          0,
          record {
            never_falls = omega arith;
            allowed = fits;
            fails = tt;
            seats = unanswered seat asked (host.Ok what) other;
          },
        ),
        refl,
      );
      past = refl;
      story = refl;
    },
    rest.run,
  );
}

-- the run

abbrev row : Stat → ℕ → Row
row root pins = record {
  serial = 0;
  number = 1;
  form = File (fd 3);
  ids = root.ids;
  mode = root.mode;
  class = 0;
  count = 2;
  pins = pins;
  live = true;
}

abbrev added : Stat → ℕ → Row
added file count = record {
  serial = 1;
  number = 2;
  form = File (fd 4);
  ids = file.ids;
  mode = file.mode;
  class = 0;
  count = count;
  pins = 0;
  live = true;
}

abbrev tables : ℕ → ℕ → ℕ → List Row → Tables
tables next_number next_row slots rows = record {
  era = 0;
  next_number = next_number;
  next_handle = 0;
  next_row = next_row;
  slots = slots ∷ [];
  limits = 5 ∷ [];
  negotiated = nothing_agreed;
  rows = rows;
  handles = [];
  closing = [];
}

abbrev root_row : Stat → Resolved
root_row root = record { row = 0; form = File (fd 3); ids = root.ids; mode = root.mode; class = 0 }

abbrev event_of : ℕ → Change → EventReply → Turn
event_of job asked told = turn_by job (made (Changes asked) (Event told))

abbrev call_of : ℕ → Call → HostReply → Turn
call_of job asked told = turn_by job (made (Calls asked) (Host told))

abbrev turns : Plan → Stat → Stat → List Turn
turns plan root file =
    event_of 0 change.Begin (event.Began 0 nothing_agreed)
    ∷ call_of 0 (call.OpenRoot plan.config.root_dir by_path) (host.Ok (value.Fd (fd 3)))
    ∷ call_of 0 (call.Stat (fd 3)) (host.Ok (value.Stat root))
    ∷ event_of 0 (change.TakeFd 0) event.Taken
    ∷ event_of 0 (change.InsertRoot (new_root_of 0 (File (fd 3)) root None)) (event.Inserted 1)
    ∷ event_of 1 change.Begin (event.Began 0 nothing_agreed)
    ∷ event_of 2 change.Begin (event.Began 0 nothing_agreed)
    ∷ event_of 1 (change.Resolve 1) (event.Resolved (root_row root))
    ∷ event_of 2 (change.Resolve 1) (event.Resolved (root_row root))
    ∷ call_of 1 (call.OpenAt (fd 3) name by_path 0) (host.Ok (value.Fd (fd 4)))
    ∷ call_of 2 (call.OpenAt (fd 3) name by_path 0) (host.Ok (value.Fd (fd 5)))
    ∷ call_of 1 (call.Stat (fd 4)) (host.Ok (value.Stat file))
    ∷ call_of 2 (call.Stat (fd 5)) (host.Ok (value.Stat file))
    ∷ event_of 1 (change.Claim (claim_of 0 None file.ids)) event.Absent
    ∷ event_of 2 (change.Claim (claim_of 0 None file.ids)) event.Absent
    ∷ event_of 1 (change.TakeFd 0) event.Taken
    ∷ event_of 2 (change.TakeFd 0) event.Taken
    ∷ event_of 1 change.DrawNode (event.Drawn 2)
    ∷ event_of 2 change.DrawNode (event.Drawn 3)
    ∷ event_of 1 (change.Insert (new_row_of 0 2 (File (fd 4)) file)) (event.Inserted 2)
    ∷ event_of 2 (change.Insert (new_row_of 0 3 (File (fd 5)) file)) (event.Found (again 2 0))
    ∷ event_of 1 (change.Unpin 0) (event.Done 0)
    ∷ call_of 2 (call.Close (fd 5)) (host.Ok value.Unit)
    ∷ event_of 2 (change.GiveFd 0) event.Given
    ∷ event_of 2 (change.Unpin 0) (event.Done 0) ∷ []

-- an entry of what is opened by `by_path`
abbrev pub opened_by : ℕ → Option Opened
opened_by object = Some (record { object = object; path_only = includes by_path.0 o_path })

abbrev pub none : ℕ → Option Opened
none = λ fd. None

abbrev three : ℕ → Option Opened
three = set_at 3 (opened_by 0) none

abbrev four : ℕ → Option Opened
four = set_at 4 (opened_by 1) three

abbrev five : ℕ → Option Opened
five = set_at 5 (opened_by 1) four

abbrev closed : ℕ → Option Opened
closed = set_at 5 None five

abbrev pub start : Stat → Stat → World
start root file = record { tree = tree root file none; tables = empty_tables (5 ∷ []); past = no_past; story = no_story }

pub starts : (root file : Stat) → root.ids ≢ file.ids → kind_of root.mode ≡ directory_kind →
    Starts (5 ∷ []) (start root file)
starts root file apart kind =
    record { tables = refl; well_formed = well root file apart kind none small_none; past = refl; story = refl }

small_three : IsSmall three
small_three =
    small_open none 3 (record { object = 0; path_only = includes by_path.0 o_path }) (omega arith) small_none

small_four : IsSmall four
small_four =
    small_open three 4 (record { object = 1; path_only = includes by_path.0 o_path }) (omega arith) small_three

small_five : IsSmall five
small_five = small_open four 5 (record { object = 1; path_only = includes by_path.0 o_path }) (omega arith) small_four

pub runs : (plan : Plan) (root file : Stat) (seat : HostSeat) → root.ids ≢ file.ids →
    kind_of root.mode ≡ directory_kind → Leads (start root file) (turns plan root file)
unfolding set_at
runs plan root file seat apart kind =
    let at_none = well root file apart kind none small_none in
    let at_three = well root file apart kind three small_three in
    let at_four = well root file apart kind four small_four in
    let at_five = well root file apart kind five small_five in
    let at_end = well root file apart kind closed (small_close five 5 small_five) in
    let slot : 2 < 5 = omega arith in
    event_then seat _ 0 change.Begin (event.Began 0 nothing_agreed) (empty_tables (5 ∷ [])) _ (refl, refl) (
    call_then seat _ 0 (call.OpenRoot plan.config.root_dir by_path) (value.Fd (fd 3)) (tree root file three) _ (
      0,
      record { listed = omega arith; fresh = refl; allowed = refl; adds = refl },
    ) tt refl (λ asks. asks) at_none at_three (
    call_then seat _ 0 (call.Stat (fd 3)) (value.Stat root) (tree root file three) _ (
      0,
      object root,
      (_, refl, refl),
      refl,
      record { ids = refl; kind = refl },
      refl,
    ) tt refl (λ asks. asks) at_three at_three (
    event_then seat _ 0 (change.TakeFd 0) event.Taken (tables 2 0 4 []) _ (inl (omega arith, (refl, refl))) (
    event_then seat _ 0 (change.InsertRoot (new_root_of 0 (File (fd 3)) root None)) (event.Inserted 1)
    (tables 2 1 4 (row root 0 ∷ [])) _ (inl (refl, inl (tt, inl (omega arith, inl (refl, refl))))) (
    event_then seat _ 1 change.Begin (event.Began 0 nothing_agreed) (tables 2 1 4 (row root 0 ∷ [])) _ (refl, refl) (
    event_then seat _ 2 change.Begin (event.Began 0 nothing_agreed) (tables 2 1 4 (row root 0 ∷ [])) _ (refl, refl) (
    event_then seat _ 1 (change.Resolve 1) (event.Resolved (root_row root))
    (tables 2 1 4 (row root 1 ∷ [])) _
    (inr (row root 0, ([], here), (refl, refl), inl (omega arith, (refl, (row root 1 ∷ [], at, refl))))) (
    event_then seat _ 2 (change.Resolve 1) (event.Resolved (root_row root))
    (tables 2 1 4 (row root 2 ∷ [])) _
    (inr (row root 1, ([], here), (refl, refl), inl (omega arith, (refl, (row root 2 ∷ [], at, refl))))) (
    call_then seat _ 1 (call.OpenAt (fd 3) name by_path 0) (value.Fd (fd 4)) (tree root file four) _
    (inl (
      1,
      refl,
      (0, (_, refl, refl), refl),
      record {
        listed = omega arith;
        fresh = refl;
        allowed = refl;
        adds =
            refl;
      },
    )) tt refl (λ asks. asks) at_three at_four (
    call_then seat _ 2 (call.OpenAt (fd 3) name by_path 0) (value.Fd (fd 5)) (tree root file five) _
    (inl (
      1,
      refl,
      (0, (_, refl, refl), refl),
      record {
        listed = omega arith;
        fresh = refl;
        allowed = refl;
        adds =
            refl;
      },
    )) tt refl (λ asks. asks) at_four at_five (
    call_then seat _ 1 (call.Stat (fd 4)) (value.Stat file) (tree root file five) _ (
      1,
      object file,
      (_, refl, refl),
      refl,
      record { ids = refl; kind = refl },
      refl,
    ) tt refl (λ asks. asks) at_five at_five (
    call_then seat _ 2 (call.Stat (fd 5)) (value.Stat file) (tree root file five) _ (
      1,
      object file,
      (_, refl, refl),
      refl,
      record { ids = refl; kind = refl },
      refl,
    ) tt refl (λ asks. asks) at_five at_five (
    event_then seat _ 1 (change.Claim (claim_of 0 None file.ids)) event.Absent (tables 2 1 4 (row root 2 ∷ [])) _
    (inl (refl, inl (((λ h. apart h.1), tt), (refl, refl)))) (
    event_then seat _ 2 (change.Claim (claim_of 0 None file.ids)) event.Absent (tables 2 1 4 (row root 2 ∷ [])) _
    (inl (refl, inl (((λ h. apart h.1), tt), (refl, refl)))) (
    event_then seat _ 1 (change.TakeFd 0) event.Taken (tables 2 1 3 (row root 2 ∷ [])) _
    (inl (omega arith, (refl, refl)))
    (
    event_then seat _ 2 (change.TakeFd 0) event.Taken (tables 2 1 2 (row root 2 ∷ [])) _
    (inl (omega arith, (refl, refl)))
    (
    event_then seat _ 1 change.DrawNode (event.Drawn 2) (tables 3 1 2 (row root 2 ∷ [])) _ (inl (
      omega arith,
      (
        refl,
        refl,
      ),
    )) (
    event_then seat _ 2 change.DrawNode (event.Drawn 3) (tables 4 1 2 (row root 2 ∷ [])) _ (inl (
      omega arith,
      (
        refl,
        refl,
      ),
    )) (
    event_then seat _ 1 (change.Insert (new_row_of 0 2 (File (fd 4)) file)) (event.Inserted 2)
    (tables 4 2 2 (added file 1 ∷ row root 2 ∷ [])) _
    (inl (
      refl,
      inl (
        ((λ h. apart h.1), tt),
        inl (
          ((λ h. absurd (omega (arith, h.1))), tt),
          inl (omega arith, inl (refl, refl)),
        ),
      ),
    )) (
    event_then seat _ 2 (change.Insert (new_row_of 0 3 (File (fd 5)) file)) (event.Found (again 2 0))
    (tables 4 2 2 (added file 2 ∷ row root 2 ∷ [])) _
    (inl (
      refl,
      inr (
        added file 1,
        (row root 2 ∷ [], here),
        (refl, refl),
        inl (omega arith, (refl, (added file 2 ∷ row root 2 ∷ [], at, refl))),
      ),
    )) (
    event_then seat _ 1 (change.Unpin 0) (event.Done 0) (tables 4 2 2 (added file 2 ∷ row root 1 ∷ [])) _
    (inr (
      row root 2,
      (added file 2 ∷ [], there here),
      (refl, λ e. omega (arith, e)),
      (0, refl, inr (inl refl, refl, (added file 2 ∷ row root 1 ∷ [], past at, refl))),
    )) (
    call_then seat _ 2 (call.Close (fd 5)) value.Unit (tree root file closed) _ refl tt refl (λ asks. asks) at_five
    at_end (
    event_then seat _ 2 (change.GiveFd 0) event.Given (tables 4 2 3 (added file 2 ∷ row root 1 ∷ [])) _ (inl (
      slot,
      (
        refl,
        refl,
      ),
    )) (
    event_then seat _ 2 (change.Unpin 0) (event.Done 0) (tables 4 2 3 (added file 2 ∷ row root 0 ∷ [])) _
    (inr (
      row root 1,
      (added file 2 ∷ [], there here),
      (refl, λ e. omega (arith, e)),
      (0, refl, inr (inl refl, refl, (added file 2 ∷ row root 0 ∷ [], past at, refl))),
    )) (
    record { last = _; run = refl })))))))))))))))))))))))))

-- what the jobs asked, and how they ended

abbrev asked_by : Context → ℕ → Asked
asked_by who zero = Requests who request.Root
asked_by who (suc job) = Requests who (request.Lookup 1 name)

abbrev ends : Plan → Stat → Stat → ℕ → Finish
ends plan root file zero = finish.Answer answer.Done
ends plan root file (suc job) = finish.Answer (answer.Entry (entry_of plan nothing_agreed root.ids file 2))

pub belongs : (plan : Plan) (seat : HostSeat) (who : Context) (root file : Stat) (job : ℕ) → job < 3 →
    Belongs (grammar_for plan seat (asked_by who job)) (steps_of job (turns plan root file)) (ends plan root file job)
unfolding on go_on named look_up
belongs plan seat who root file zero l = (refl, (refl, (refl, (refl, (refl, refl)))))
belongs plan seat who root file (suc zero) l =
    (refl, (refl, (refl, (refl, (refl, (refl, (refl, (refl, (refl, refl)))))))))
belongs plan seat who root file (suc (suc zero)) l =
    (refl, (refl, (refl, (refl, (refl, (refl, (refl, (refl, (refl, (refl, (refl, refl)))))))))))
belongs plan seat who root file (suc (suc (suc job))) l = absurd (omega arith)

pub answered : (plan : Plan) (seat : HostSeat) (who : Context) (root file : Stat) →
    AreAnswered plan 3 (λ job. seat) (asked_by who) (ends plan root file) (turns plan root file)
answered plan seat who root file =
    record { owners = owners; jobs = λ job l. inl (belongs plan seat who root file job l) }
  where
    owners : Each (λ (turn : Turn). turn.job < 3) (turns plan root file)
    owners =
        let a : 0 < 3 = omega arith in
        let b : 1 < 3 = omega arith in
        let c : 2 < 3 = omega arith in (
          a,
          (
            a,
            (
              a,
              (
                a,
                (
                  a,
                  (
                    b,
                    (
                      c,
                      (
                        b,
                        (
                          c,
                          (
                            b,
                            (c, (b, (c, (b, (c, (b, (c, (b, (c, (b, (c, (b, (c, (c, (c, tt))))))))))))))),
                          ),
                        ),
                      ),
                    ),
                  ),
                ),
              ),
            ),
          ),
        )

pub ended : (plan : Plan) (root file : Stat) (seat : HostSeat) (who : Context) → root.ids ≢ file.ids →
    kind_of root.mode ≡ directory_kind → AreEnded 3 (turns plan root file)
ended plan root file seat who apart kind =
    let r = runs plan root file seat apart kind in
    run_ended plan 3 (λ job. seat) (asked_by who) (ends plan root file) (turns plan root file)
    (start root file) r.last r.run
    (answered plan seat who root file)

-- so the laws say of it what they say: the second lookup's number names object 1, which the name led to
pub entered : (plan : Plan) (root file : Stat) (seat : HostSeat) (who : Context) (apart : root.ids ≢ file.ids)
    (kind : kind_of root.mode ≡ directory_kind) →
    IsEntered plan (runs plan root file seat apart kind).last (steps_of 2 (turns plan root file)) 2 1 name
    (entry_of plan nothing_agreed root.ids file 2)
entered plan root file seat who apart kind =
    let r = runs plan root file seat apart kind in
    let entry = entry_of plan nothing_agreed root.ids file 2 in
    let e = looked_up plan seat who 1 name entry (steps_of 2 (turns plan root file))
    (belongs plan seat who root file 2 (omega arith)) in
    entered_law (5 ∷ []) 3 plan (turns plan root file) (start root file) r.last 2 1 name entry e.0 e.1 [] e.2 e.3
    (starts root file apart kind) (ended_jobs 3 (turns plan root file) (ended plan root file seat who apart kind)) r.run
    e.4 e.5 e.6
