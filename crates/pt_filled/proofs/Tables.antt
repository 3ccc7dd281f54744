-- Proof. What the table makes of contents where a call is Ok.
use Rattle.std.proofs.Common.{◌≡◌, ◌<◌, inl, inr, ℕ, List, length, Option, Some, None, refl, sym, ap, subst, ◌∙◌}
use Rattle.std.proofs.Common.{⊎_elim, ◌≢◌, slice_get, slice_set, option_map}
use Rattle.std.proofs.lemmas.Bool.{cases_eq}
use Rattle.std.proofs.lemmas.Option.{slice_get-map, slice_get_within, same_Some}
use Rattle.pt_host.specs.Call.{Call}
use Rattle.pt_host.specs.Contents.{ObjectContents}
use Rattle.pt_host.specs.Tree.{Opened, IsOpenOn}
use Rattle.pt_host.specs.SeatAnswer.{seat_answer}
use Rattle.pt_host.specs.declared.ids.Errno.{Errno}
use Rattle.pt_host.specs.declared.ids.Fd.{Fd}
use Rattle.pt_host.specs.declared.reply.HostValue.{HostValue}
use Rattle.pt_host.specs.declared.seat.HostSeat.{HostSeat}
use Rattle.pt_host.specs.declared.reply.HostReply.TheVariants as host
use Rattle.pt_law.proofs.Lists.{set_at_same, set_at_other}
use Rattle.pt_node.specs.Node.{object_of}
use Rattle.pt_node.specs.Slots.{open_at}
use Rattle.pt_node.specs.Opening.{first_refusal}
use Rattle.pt_node.specs.Laws.Updates.{get-set_here, get-set_apart}
use Rattle.pt_node.specs.declared.node.Node.{Node}
use Rattle.pt_node.specs.declared.slots.OpenFile.{OpenFile}
use Rattle.pt_rules.specs.Calls.{Answered, refused}
use Rattle.pt_rules.specs.Does.{Does, AnswersCall}
use Rattle.pt_rules.specs.Faults.{failure_of}
use Rattle.pt_rules.specs.Living.{AreLeastFree}
use Rattle.pt_rules.specs.Rows.{Row, RowEffect, Stays, Becomes, left_by, on_row, by_row}
use Rattle.pt_rules.specs.State.{State, contents_where, opened_as, tree_of}
use Rattle.pt_rules.specs.Table.{Outcome, answer, outcome_where}
use Rattle.pt_rules.specs.Laws.Cases.{by_fd, by_checks}
use Rattle.pt_filled.specs.Contents.{IsSame, with_changed}
use Rattle.pt_filled.proofs.Hosting.{Full, Alters, contents_at, objects_at}

-- the table answered so, and what it left was counted
pub record Tabled (s : State) (seat : HostSeat) (asked : Call) (told : HostValue) (on : State) : Type 0 where
  pub numbers : ℕ → ℕ
  pub least : AreLeastFree s numbers
  pub after : State
  pub answered : (host.Ok told, after) ≡ answer s numbers seat asked
  pub nodes : on.nodes ≡ after.nodes

ok_not_fault : (told : HostValue) (errno : Errno) → host.Ok told ≡ host.Fault errno → ⊥
ok_not_fault told errno e = cc

ok_not_none : (told : HostValue) → host.Ok told ≡ host.NoMemory → ⊥
ok_not_none told e = cc

pub ok_not_refused : (told : HostValue) (errno : Errno) → host.Ok told ≡ host.Refused errno → ⊥
ok_not_refused told errno e = cc

pub same_told : (told other : HostValue) → host.Ok told ≡ host.Ok other → told ≡ other
same_told told other e = cc

pub tabled : (s : State) (seat : HostSeat) (asked : Call) (told : HostValue) (on : State) (seat' : HostSeat) →
    seat_answer seat asked ≡ None → Does s seat asked (host.Ok told) on seat' → Tabled s seat asked told on
tabled s seat asked told on seat' own d = go (failure_of s asked) d.answers.answered
  where
    go : (failing : Option Errno) →
        AnswersCall failing s d.answers.numbers seat asked (host.Ok told) d.answers.state seat' →
        Tabled s seat asked told on
    go (Some errno) e = absurd (ok_not_fault told errno (ap (λ (o : Outcome). o.0) e))
    go None (inr e) = absurd (ok_not_none told (ap (λ (o : Outcome). o.0) e.1))
    go None (inl e) =
        let f = e ∙ ap (outcome_where s d.answers.numbers seat asked) own in
        record {
          numbers = d.answers.numbers;
          least = d.answers.least;
          after = d.answers.state;
          answered = (λ i. ((f i).0, (f i).1));
          nodes = ap (λ (z : State). z.nodes) d.answers.counts;
        }

-- a call by a row was not refused
pub record RowOk (s : State) (fd : Fd) (made : OpenFile → Node → Row) (told : HostValue) (after : State) : Type 0 where
  pub file : OpenFile
  pub node : Node
  pub open_as : open_at s.slots fd.0 ≡ Some file
  pub there : slice_get s.nodes file.object ≡ Some node
  pub passes : first_refusal (made file node).refusals ≡ None
  pub tells : told ≡ (made file node).told
  pub leaves : after ≡ left_by s file.object (made file node).leaves

pub row_ok : (s : State) (fd : Fd) (made : OpenFile → Node → Row) (told : HostValue) (after : State) →
    (host.Ok told, after) ≡ on_row s fd made → RowOk s fd made told after
row_ok s fd made told after =
    by_fd s P refuses fd (λ file node. by_row s file.object (made file node)) (λ file node is there.
    by_checks s P refuses (made file node).refusals
    (host.Ok (made file node).told, left_by s file.object (made file node).leaves)
    (λ none e. record {
      file = file;
      node = node;
      open_as = is;
      there = there;
      passes = none;
      tells = same_told told (made file node).told (ap (λ (a : Answered). a.0) e);
      leaves = ap (λ (a : Answered). a.1) e;
    }))
  where
    P : Answered → Type 0
    P a = (host.Ok told, after) ≡ a → RowOk s fd made told after

    refuses : (errno : Errno) → P (refused s errno)
    refuses errno e = absurd (ok_not_refused told errno (ap (λ (a : Answered). a.0) e))

-- the descriptor's object
pub opened_object : (s : State) (fd : Fd) (object : ℕ) (file : OpenFile) → IsOpenOn (tree_of s) fd object →
    open_at s.slots fd.0 ≡ Some file → file.object ≡ object
opened_object s fd object file o e =
    let f = sym (ap (option_map (λ (f : OpenFile). f.object)) e) ∙ seen (open_at s.slots fd.0) o.1 in
    same_Some file.object object (f ∙ ap (λ (n : ℕ). Some n) o.2)
  where
    seen : (there : Option OpenFile) → option_map opened_as there ≡ Some o.0 →
        option_map (λ (f : OpenFile). f.object) there ≡ Some o.0.object
    seen None e = absurd (cc)
    seen (Some file) e = ap (option_map (λ (x : Opened). x.object)) e

-- what the object is
pub object_is : (s : State) (object : ℕ) (node : Node) → slice_get s.nodes object ≡ Some node →
    slice_get (tree_of s).objects object ≡ Some (object_of node)
object_is s object node e = slice_get-map object_of s.nodes object ∙ ap (option_map object_of) e

-- what a row leaves of an object that is changed so
abbrev pub ChangesSo : (ObjectContents → ObjectContents) → Node → RowEffect → Type 0
ChangesSo change node Stays = IsSame (change (contents_where (Some node))) (contents_where (Some node))
ChangesSo change node (Becomes after) = IsSame (change (contents_where (Some node))) (contents_where (Some after))

-- one object alone is another
abbrev pub IsSetTo : List Node → ℕ → Node → List Node → Type 0
IsSetTo nodes object after later =
    (slice_get later object ≡ Some after)
    × ((other : ℕ) → other ≢ object → slice_get later other ≡ slice_get nodes other)

pub alters_set : (w on : Full) (object : ℕ) (node after : Node) (change : ObjectContents → ObjectContents) →
    objects_at on ≡ objects_at w → slice_get w.state.nodes object ≡ Some node →
    IsSetTo w.state.nodes object after on.state.nodes →
    IsSame (change (contents_where (Some node))) (contents_where (Some after)) →
    Alters w on (with_changed object change (contents_at w))
alters_set w on object node after change objects there set c = record { objects = objects; same = same }
  where
    now : ObjectContents
    now = change (contents_at w object)

    same : (other : ℕ) → other < length (objects_at w) →
        IsSame (with_changed object change (contents_at w) other) (contents_at on other)
    same other l =
        ⊎_elim
        (λ (q : other ≡ object).
        subst (λ (p : ObjectContents × ObjectContents). IsSame p.0 p.1) (λ i. (
          sym (ap (with_changed object change (contents_at w)) q ∙ set_at_same (contents_at w) object now
              ∙ ap (λ (n : Option Node). change (contents_where n)) there) i,
          sym (ap (λ (n : Option Node). contents_where n) (ap (slice_get on.state.nodes) q ∙ set.0)) i,
        )) c)
        (λ (q : other ≢ object).
        subst (λ (p : ObjectContents × ObjectContents). IsSame p.0 p.1) (λ i. (
          sym (set_at_other (contents_at w) object now other q) i,
          sym (ap (λ (n : Option Node). contents_where n) (set.1 other q)) i,
        )) refl)
        (cases_eq other object)

-- a row changes the object of its descriptor
pub alters_row : (w on : Full) (fd : Fd) (made : OpenFile → Node → Row) (told : HostValue) (after : State)
    (change : ObjectContents → ObjectContents) (object : ℕ) → objects_at on ≡ objects_at w →
    on.state.nodes ≡ after.nodes → (r : RowOk w.state fd made told after) → IsOpenOn (tree_of w.state) fd object →
    ChangesSo change r.node (made r.file r.node).leaves → Alters w on (with_changed object change (contents_at w))
alters_row w on fd made told after change object objects nodes r o c =
    go (made r.file r.node).leaves r.leaves c
  where
    e : r.file.object ≡ object
    e = opened_object w.state fd object r.file o r.open_as

    there : slice_get w.state.nodes object ≡ Some r.node
    there = ap (slice_get w.state.nodes) (sym e) ∙ r.there

    go : (leaves : RowEffect) → after ≡ left_by w.state r.file.object leaves → ChangesSo change r.node leaves →
        Alters w on (with_changed object change (contents_at w))
    go Stays l c =
        let f = nodes ∙ ap (λ (s : State). s.nodes) l in
        alters_set w on object r.node r.node change objects there
        (ap (λ (n : List Node). slice_get n object) f ∙ there, λ other q. ap (λ (n : List Node). slice_get n other) f) c
    go (Becomes node) l c =
        let f = nodes ∙ ap (λ (s : State). s.nodes) l ∙ ap (λ (o : ℕ). slice_set w.state.nodes o node) e in
        alters_set w on object r.node node change objects there (
          ap (λ (n : List Node). slice_get n object) f
              ∙ get-set_here w.state.nodes object node (slice_get_within w.state.nodes object r.node there),
          λ other q. ap (λ (n : List Node). slice_get n other) f ∙ get-set_apart w.state.nodes object node other q,
        ) c
