-- Proof. A host's call that is made tells that its tree was well formed from the start on. Where none is made, no descriptor
-- is opened, so no row is inserted, and nothing is said of objects.
use Rattle.std.proofs.Common.{◌≡◌, ◌⊎◌, inl, inr, ◌∙◌, ℕ, Bool, true, false, cond, eqb, List, [], ◌∷◌, ◌++◌}
use Rattle.std.proofs.Common.{Option, Some, None, refl, ap, sym, subst, arith}
use Rattle.pt_host.specs.Words.{Each, set_at, total}
use Rattle.pt_host.specs.Tree.{Tree, IsOpenOn, IsWellFormed}
use Rattle.pt_host.specs.declared.ids.Fd.{Fd}
use Rattle.pt_host.specs.declared.seat.HostSeat.{HostSeat}
use Rattle.pt_tables.specs.Rows.{IsRow, IsHandleRow}
use Rattle.pt_tables.specs.Tables.{Tables, empty_tables}
use Rattle.pt_tables.specs.declared.event.KeptEvent.TheVariants as change
use Rattle.pt_tables.specs.declared.reply.EventReply.TheVariants as event
use Rattle.pt_tables.specs.declared.row.HandleRow.{HandleRow}
use Rattle.pt_tables.specs.declared.row.Row.{Row}
use Rattle.pt_frame.specs.Deed.{Deed, Calls, Changes, Step}
use Rattle.pt_frame.specs.Made.{Made}
use Rattle.pt_frame.specs.declared.act.ActReply.{ActReply}
use Rattle.pt_frame.specs.declared.act.ActReply.TheVariants.{Event, Host, NoCopy}
use Rattle.pt_law.specs.Discipline.{AreDisciplined, AreEnded}
use Rattle.pt_law.specs.Laws.{AreKept, LeavesRows, NamesOpen, Starts}
use Rattle.pt_law.specs.Ledger.{kept_fds, open_count, row_has, handle_has}
use Rattle.pt_law.specs.Story.{Story, no_story}
use Rattle.pt_law.specs.World.{Turn, turn_by, World, Past, no_past, settled_if, story_by, IsLawful, Runs, steps_of}
use Rattle.pt_law.specs.Reopened.{reopening, ReopensResolved}
use Rattle.pt_law.proofs.Cuts.{located}
use Rattle.pt_law.proofs.Laws.{object_law, handles_law, kept_law, leaves_law}
use Rattle.pt_law.proofs.Lists.{each_front}

-- a step of the tables, or one that was not made
abbrev pub IsUncalled : Option Deed → Type 0
IsUncalled None = Unit {0}
IsUncalled (Some (Changes asked)) = Unit {0}
IsUncalled (Some (Calls asked)) = ⊥

abbrev pub AreUncalled : List Turn → Type 0
AreUncalled turns = Each (λ turn. IsUncalled turn.step.deed) turns

pub uncalled_front : (turns more : List Turn) → AreUncalled (turns ++ more) → AreUncalled turns
uncalled_front turns more u = each_front (λ turn. IsUncalled turn.step.deed) turns more u

pub uncalled_at : (turns : List Turn) (turn : Turn) (more : List Turn) → AreUncalled (turns ++ turn ∷ more) →
    IsUncalled turn.step.deed × AreUncalled more
uncalled_at [] turn more u = u
uncalled_at (first ∷ turns) turn more u = uncalled_at turns turn more u.1

made_same : (deed : Option Deed) (told : ActReply) (tree : Tree) (seat : HostSeat) (tables : Tables) (later : Tree)
    (seat' : HostSeat) (tables' : Tables) → IsUncalled deed →
    Made IsLawful deed told tree seat tables later seat' tables' → later ≡ tree
made_same (Some (Changes asked)) (Event reply) tree seat tables later seat' tables' u m = m.1
made_same (Some (Changes asked)) told tree seat tables later seat' tables' u m = absurd m
made_same (Some (Calls asked)) told tree seat tables later seat' tables' u m = absurd u
made_same None NoCopy tree seat tables later seat' tables' u m = m.0
made_same None told tree seat tables later seat' tables' u m = absurd m

-- a call is made of a well-formed tree
formed_by : (deed : Option Deed) (told : ActReply) (tree : Tree) (seat : HostSeat) (tables : Tables) (later : Tree)
    (seat' : HostSeat) (tables' : Tables) → Made IsLawful deed told tree seat tables later seat' tables' →
    IsUncalled deed ⊎ IsWellFormed tree
formed_by None told tree seat tables later seat' tables' m = inl tt
formed_by (Some (Changes asked)) told tree seat tables later seat' tables' m = inl tt
formed_by (Some (Calls asked)) (Host reply) tree seat tables later seat' tables' m =
    let lawful = m.0 in inr lawful.0.trees.formed_before
formed_by (Some (Calls asked)) NoCopy tree seat tables later seat' tables' m =
    let lawful = m.0.2 in inr lawful.0.trees.formed_before
formed_by (Some (Calls asked)) (Event reply) tree seat tables later seat' tables' m = absurd m

pub formed : (turns : List Turn) (start end : World) → Runs start turns end →
    AreUncalled turns ⊎ IsWellFormed start.tree
formed [] start end r = inl tt
formed (turn ∷ turns) start end r =
    let goes = r.1 in
    elim (formed_by turn.step.deed turn.step.reply start.tree goes.seat start.tables r.0.tree goes.seat_after
    r.0.tables goes.made) [
      | inr well ↦ inr well
      | inl first ↦ elim (formed turns r.0 end r.2) [
        | inl rest ↦ inl (first, rest)
        | inr well ↦ inr (subst IsWellFormed
            (made_same turn.step.deed turn.step.reply start.tree goes.seat start.tables r.0.tree goes.seat_after
            r.0.tables first goes.made) well)
      ]
    ]

tree_same : (turns : List Turn) (start now : World) → AreUncalled turns → Runs start turns now → now.tree ≡ start.tree
tree_same [] start now u r = ap (λ (w : World). w.tree) r
tree_same (turn ∷ turns) start now u r =
    let goes = r.1 in
    tree_same turns r.0 now u.1 r.2
    ∙ made_same turn.step.deed turn.step.reply start.tree goes.seat start.tables r.0.tree goes.seat_after r.0.tables
    u.0 goes.made

-- a tree with nothing in it
pub no_tree : Tree
no_tree = record { objects = []; names = λ dir name. None; opened = λ fd. None }

no_tree_formed : IsWellFormed no_tree
unfolding no_tree
no_tree_formed = record {
  named = λ dir name object e. absurd (cc);
  directories = λ dir name object what e is. absurd (cc);
  opened = λ fd open_as e. absurd (cc);
  apart = λ fd other object another what that one two is also same. let no = one.1 in absurd (cc);
  handles = λ object another what that handle is also same has had. absurd (cc);
}

none_open : (tree : Tree) (fd : Fd) (object : ℕ) → tree ≡ no_tree → IsOpenOn tree fd object → ⊥
unfolding no_tree
none_open tree fd object e is =
    let found = sym (ap (λ (t : Tree). t.opened fd.0) e) ∙ is.1 in
    cc

count_none : (tree : Tree) (fd : ℕ) → tree ≡ no_tree → open_count fd tree ≡ 0
unfolding no_tree
count_none tree fd e = ap (open_count fd) e

made_anywhere : (deed : Option Deed) (told : ActReply) (tree : Tree) (seat : HostSeat) (tables : Tables)
    (later : Tree) (seat' : HostSeat) (tables' : Tables) (other : Tree) → IsUncalled deed →
    Made IsLawful deed told tree seat tables later seat' tables' →
    Made IsLawful deed told other seat tables other seat' tables'
made_anywhere (Some (Changes asked)) (Event reply) tree seat tables later seat' tables' other u m = (m.0, refl, m.2)
made_anywhere (Some (Changes asked)) told tree seat tables later seat' tables' other u m = absurd m
made_anywhere (Some (Calls asked)) told tree seat tables later seat' tables' other u m = absurd u
made_anywhere None NoCopy tree seat tables later seat' tables' other u m = (refl, m.1, m.2)
made_anywhere None told tree seat tables later seat' tables' other u m = absurd m

abbrev pub in_no_tree : Tables → Past → Story → World
in_no_tree tables past story = record { tree = no_tree; tables = tables; past = past; story = story }

-- such a run could be made of any tree
run_anywhere : (turns : List Turn) (start now : World) (past : Past) (story : Story) → AreUncalled turns →
    Runs start turns now →
    (end : World) × (end.tables ≡ now.tables) × (end.tree ≡ no_tree)
    × Runs (in_no_tree start.tables past story) turns end
run_anywhere [] start now past story u r =
    (in_no_tree start.tables past story, ap (λ (w : World). w.tables) (sym r), refl, refl)
run_anywhere (turn ∷ turns) start now past story u r =
    let goes = r.1 in
    let later = settled_if past turn.job turn.step.deed turn.step.reply start.tables.next_row no_tree in
    let next = in_no_tree r.0.tables later
    (story_by (in_no_tree start.tables past story) later no_tree turn.job turn.step.deed turn.step.reply) in
    let rest = run_anywhere turns r.0 now next.past next.story u.1 r.2 in (
      rest.0,
      rest.1,
      rest.2,
      (
        next,
        record {
          seat = goes.seat;
          seat_after = goes.seat_after;
          made = made_anywhere turn.step.deed turn.step.reply start.tree goes.seat start.tables r.0.tree
              goes.seat_after r.0.tables no_tree u.0 goes.made;
          past = refl;
          story = refl;
        },
        rest.3,
      ),
    )

module _ (limits : List ℕ) (bound : ℕ) (turns more : List Turn) (start now : World)
    (begins : start.tables ≡ empty_tables limits)
    (u : AreUncalled turns) (r : Runs start turns now) where
  pub elsewhere : (end : World) × (end.tables ≡ now.tables) × (end.tree ≡ no_tree)
      × Runs (in_no_tree start.tables no_past no_story) turns end
  elsewhere = run_anywhere turns start now no_past no_story u r

  pub starts_elsewhere : Starts limits (in_no_tree start.tables no_past no_story)
  starts_elsewhere = record { tables = begins; well_formed = no_tree_formed; past = refl; story = refl }

  pub no_rows : AreDisciplined bound (turns ++ more) → (row : Row) → IsRow now.tables row → ⊥
  no_rows d row at =
      let has = object_law limits bound turns more (in_no_tree start.tables no_past no_story)
      elsewhere.0 row starts_elsewhere d
      elsewhere.3
      (subst (λ (t : Tables). IsRow t row) (sym elsewhere.1) at) in
      none_open elsewhere.0.tree _ has.object elsewhere.2 has.open_on

  pub no_handles : AreDisciplined bound (turns ++ more) → (row : HandleRow) → IsHandleRow now.tables row → ⊥
  no_handles d row at =
      let has = handles_law limits bound turns more (in_no_tree start.tables no_past no_story)
      elsewhere.0 row starts_elsewhere d
      elsewhere.3
      (subst (λ (t : Tables). IsHandleRow t row) (sym elsewhere.1) at) in
      none_open elsewhere.0.tree _ has.0 elsewhere.2 has.2

  pub keeps_none : AreDisciplined bound (turns ++ more) → AreKept start bound turns now
  keeps_none d =
      let kept = kept_law limits bound turns more (in_no_tree start.tables no_past no_story)
      elsewhere.0 starts_elsewhere d
      elsewhere.3 in
      record {
        once = λ fd.
            let one = kept.once fd in
            let none = count_none elsewhere.0.tree fd elsewhere.2 in
            let same = ap (kept_fds fd) elsewhere.1 in
            omega (arith, one, none, same);
        all = λ fd.
            let every = kept.all fd in
            let none = count_none elsewhere.0.tree fd elsewhere.2 in
            let nothing = count_none no_tree fd refl in
            let same = ap (kept_fds fd) elsewhere.1 in
            let stays = ap (open_count fd) (tree_same turns start now u r) in
            omega (arith, every, none, nothing, same, stays);
        taken = kept.taken;
      }

pub leaves_none : (limits : List ℕ) (bound : ℕ) (turns : List Turn) (start end : World) →
    start.tables ≡ empty_tables limits →
    AreUncalled turns → Runs start turns end → AreEnded bound turns → LeavesRows start end
leaves_none limits bound turns start end begins u r ended fd =
    let there = run_anywhere turns start end no_past no_story u r in
    let left = leaves_law limits bound turns (in_no_tree start.tables no_past no_story) there.0
    (record { tables = begins; well_formed = no_tree_formed; past = refl; story = refl }) ended there.3 fd in
    let none = count_none there.0.tree fd there.2 in
    let nothing = count_none no_tree fd refl in
    let rows = ap (λ (t : Tables). total (row_has fd) t.rows) there.1 in
    let handles = ap (λ (t : Tables). total (handle_has fd) t.handles) there.1 in
    let stays = ap (open_count fd) (tree_same turns start end u r) in
    omega (arith, left, none, nothing, rows, handles, stays)

pub names_none : (tree : Tree) (deed : Option Deed) → IsUncalled deed → NamesOpen tree deed
names_none tree None u = tt
names_none tree (Some (Changes asked)) u = tt
names_none tree (Some (Calls asked)) u = absurd u

-- no job makes a call
pub no_call : (turns : List Turn) (job : ℕ) (first : List Step) (step : Step) (rest : List Step) →
    AreUncalled turns → steps_of job turns ≡ first ++ step ∷ rest → IsUncalled step.deed
no_call turns job first step rest u e =
    let x = located job turns first step rest e in
    (uncalled_at x.0 (turn_by job step) x.1 (subst AreUncalled x.2 u)).0

-- nothing of an object is settled
record Blank (past : Past) : Type 0 where
  numbers : (number : ℕ) → past.numbers number ≡ None
  latest : (job : ℕ) → past.latest job ≡ None
  roots : (job : ℕ) → past.roots job ≡ None

none_set : (key : ℕ) (value : Option ℕ) (f : ℕ → Option ℕ) → value ≡ None → ((n : ℕ) → f n ≡ None) → (n : ℕ) →
    set_at key value f n ≡ None
unfolding set_at
none_set key value f is all n = either (eqb n key)
  where
    either : (same : Bool) → cond same value (f n) ≡ None
    either true = is
    either false = all n

blank_by : (deed : Option Deed) (told : ActReply) (job row : ℕ) (tree : Tree) (past : Past) → IsUncalled deed →
    Blank past → Blank (settled_if past job deed told row tree)
blank_by (Some (Changes (change.Insert new))) (Event (event.Inserted given)) job row tree past u b =
    record {
      numbers = none_set given (past.latest job) past.numbers (b.latest job) b.numbers;
      latest = b.latest;
      roots = b.roots;
    }
blank_by (Some (Changes (change.InsertRoot new))) (Event (event.Inserted given)) job row tree past u b =
    record {
      numbers = none_set given (past.roots job) past.numbers (b.roots job) b.numbers;
      latest = b.latest;
      roots = b.roots;
    }
blank_by (Some (Changes (change.InsertHandle new))) (Event (event.Inserted given)) job row tree past u b =
    record { numbers = b.numbers; latest = b.latest; roots = b.roots }
blank_by (Some (Changes (change.Insert new))) (Event (event.Found given)) job row tree past u b =
    record { numbers = b.numbers; latest = b.latest; roots = b.roots }
blank_by (Some (Changes (change.Claim claim))) (Event (event.Claimed given)) job row tree past u b =
    record { numbers = b.numbers; latest = b.latest; roots = b.roots }
blank_by (Some (Changes (change.Resolve number)))
    (Event (event.Resolved resolved)) job row tree past u b =
    record { numbers = b.numbers; latest = b.latest; roots = b.roots }
blank_by (Some (Changes asked)) told job row tree past u b = b
blank_by (Some (Calls asked)) told job row tree past u b = absurd u
blank_by None told job row tree past u b = b

blank_run : (turns : List Turn) (start now : World) → AreUncalled turns → Runs start turns now → Blank start.past →
    Blank now.past
blank_run [] start now u r b = subst (λ (w : World). Blank w.past) (sym r) b
blank_run (turn ∷ turns) start now u r b =
    let goes = r.1 in
    blank_run turns r.0 now u.1 r.2
    (subst Blank (sym goes.past)
    (blank_by turn.step.deed turn.step.reply turn.job start.tables.next_row r.0.tree start.past u.0 b))

-- no number stands for an object
pub no_objects : (turns : List Turn) (start now : World) → start.past ≡ no_past → AreUncalled turns →
    Runs start turns now → (number object : ℕ) → now.past.numbers number ≡ Some object → ⊥
no_objects turns start now e u r number object is =
    let b = blank_run turns start now u r
    (subst Blank (sym e) (record { numbers = λ n. refl; latest = λ n. refl; roots = λ n. refl })) in
    let no = sym (b.numbers number) ∙ is in
    cc

-- nothing was opened anew
pub none_anew : (turns : List Turn) (now : World) → AreUncalled turns → ReopensResolved turns now
none_anew turns now u before job fd new flags e =
    absurd (uncalled_at before (reopening job fd flags new) [] (subst AreUncalled e u)).0
