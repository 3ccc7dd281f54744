-- Proof. Edits of the tree beside the requests.
use Rattle.std.specs.Option.{option_and_then, ok_or}
use Rattle.std.specs.Prelude.{◌%◌, ◌||◌}
use Rattle.std.proofs.Common.{◌≡◌, ◌≢◌, ℕ, ◌==◌, List, [], ◌∷◌, length, Bool, true, false, Option, Some, None, refl}
use Rattle.std.proofs.Common.{sym, ap, subst, ◌∙◌, slice_get, cond, option_map, eq-eqb, nat_lt, Result, Ok, Err, ◌<◌}
use Rattle.pt_host.specs.Errno.{efbig, eisdir, eloop, enoent, enotdir, enxio, ebusy, eexist}
use Rattle.pt_host.specs.Tree.{Tree, Object}
use Rattle.pt_host.specs.LawfulTree.{TreeChanges}
use Rattle.pt_host.specs.declared.edit.Edit.{Edit}
use Rattle.pt_host.specs.declared.ids.Errno.{Errno}
use Rattle.pt_host.specs.declared.reply.HostReply.{HostReply}
use Rattle.pt_host.specs.declared.reply.HostValue.{HostValue}
use Rattle.pt_host.specs.declared.seat.HostSeat.{HostSeat}
use Rattle.pt_host.specs.declared.edit.Edit.TheVariants as edit
use Rattle.pt_host.specs.declared.op.KeptHostOp.TheVariants as call
use Rattle.pt_host.specs.declared.reply.HostReply.TheVariants as host
use Rattle.pt_host.specs.declared.reply.HostValue.TheVariants as value
use Rattle.pt_iface.specs.declared.answer.Answer.{Answer}
use Rattle.pt_iface.specs.declared.answer.Answer.TheVariants as answer
use Rattle.pt_frame.specs.Deed.{Deed, Calls, Step, LacksMemory}
use Rattle.pt_frame.specs.Edit.{edit_answer, edit_grammar}
use Rattle.pt_frame.specs.Grammar.{Belongs}
use Rattle.pt_frame.specs.declared.act.ActReply.{ActReply}
use Rattle.pt_frame.specs.declared.act.ActReply.TheVariants.{Event, Host, NoCopy}
use Rattle.pt_frame.specs.declared.finish.Finish.TheVariants as finish
use Rattle.pt_req.specs.declared.plan.Plan.{Plan}
use Rattle.pt_job.specs.Pattern.{Edits}
use Rattle.pt_law.specs.World.{made}
use Rattle.pt_node.specs.Entries.{changed_at, rewritten, touched, without_entry}
use Rattle.pt_node.specs.Limits.{file_max}
use Rattle.pt_node.specs.Names.{found}
use Rattle.pt_node.specs.Node.{bytes_in, kind_number, holds_names, is_directory, is_symbolic, name_at, names_in}
use Rattle.pt_node.specs.Node.{stands_for_other, size_of}
use Rattle.pt_node.specs.Opening.{first_refusal}
use Rattle.pt_node.specs.Paths.{from_root, led_on, ok_unless, parts, step_from, then_on}
use Rattle.pt_node.specs.declared.node.Node.{Node}
use Rattle.pt_node.specs.declared.node.Content.{Content}
use Rattle.pt_node.specs.declared.node.Content.TheVariants.{Directory, Regular, Link, Special}
use Rattle.pt_rules.specs.Calls.{Answered, checked, done, refused, there_in}
use Rattle.pt_rules.specs.EditPaths.{Place, judged, judged_at, judged_from, last_refusal, past, place_from, named_at}
use Rattle.pt_rules.specs.EditPaths.{path_goes_through}
use Rattle.pt_rules.specs.Edits.{at_place, edited, with_rewritten, write_at, write_checks, with_unlinked, rename_onto}
use Rattle.pt_rules.specs.Edits.{replace_checks, with_moved, make_at, make_in, new_checks, rename_judged}
use Rattle.pt_rules.specs.Edits.{rename_object, rename_placed, unlink_at, move_checks, unlink_checks}
use Rattle.pt_rules.specs.Finding.{IsThere}
use Rattle.pt_rules.specs.State.{State, contents_where, time_of, tree_of}
use Rattle.pt_rules.specs.Laws.Cases.{by_found, by_checks}
use Rattle.pt_rules.specs.Laws.Changed.{get-changed}
use Rattle.pt_rules.specs.Laws.Finding.{led_is, root_begins, step_reaches}
use Rattle.pt_rules.specs.Laws.Lawful.{does_leave_beside}
use Rattle.pt_rules.specs.Laws.Outcomes.{judged_there}
use Rattle.pt_plain.specs.Plain.{PlainTree}
use Rattle.pt_plain.proofs.Coming.{is_made}
use Rattle.pt_plain.proofs.Showing.{bare_tree}
use Rattle.pt_plain.proofs.Stilling.{NotOk}
use Rattle.pt_plain.proofs.Found.{apart}
use Rattle.pt_filled.specs.Contents.{AllStay, is_file_kind, with_changed}
use Rattle.pt_filled.specs.Fills.{FillsAsked, Leads, owner_told, PathLeads}
use Rattle.pt_filled.specs.New.{fresh}
use Rattle.pt_filled.proofs.Effects.{bytes_with, file_is, same_parts}
use Rattle.pt_filled.proofs.Filling.{become, Between, file_there, filled, objects_of}
use Rattle.pt_filled.proofs.Hosting.{Alters, Full, IsUntouching, left_same, objects_at, contents_at, Steps, Thread}
use Rattle.pt_filled.proofs.Hosting.{world_of}
use Rattle.pt_filled.proofs.Made.{made_filled}
use Rattle.pt_filled.proofs.Moving.{lost_stay, moved_stay, NodesStay, restamped_stay, stay_on}
use Rattle.pt_filled.proofs.News.{has_made, HasMade, MakeOk}
use Rattle.pt_filled.proofs.Tables.{alters_set, ok_not_refused, Tabled, tabled}
use Rattle.pt_filled.proofs.Threading.{Walks}

-- ---- where a path leads

then_ok : {A B : Type 0} (led : Result A Errno) (next : A → Result B Errno) (to : B) → then_on led next ≡ Ok to →
    (at : A) × (led ≡ Ok at) × (next at ≡ Ok to)
then_ok (Ok at) next to e = (at, refl, e)
then_ok (Err errno) next to e = cc

some_ok : {A : Type 0} (led : Option A) (errno : Errno) (to : A) → ok_or led errno ≡ Ok to → led ≡ Some to
some_ok None errno to e = cc
some_ok (Some at) errno to e = (let f : at ≡ to = cc in ap (λ x. Some x) f)

none_refused : (refusal : Option Errno) (at place : Place) → ok_unless refusal (Ok at) ≡ Ok place → at ≡ place
none_refused None at place e = cc
none_refused (Some errno) at place e = cc

abbrev placed_as : Place → Result Place Errno
placed_as place = Ok place

-- on from a directory by a name that waits, and then by these parts
abbrev LeadsOn : Tree → ℕ → List ℕ → List (List ℕ) → ℕ → Type 0
LeadsOn tree dir [] more object = Leads tree dir more object
LeadsOn tree dir (first ∷ name) more object =
    (next : ℕ) × (tree.names dir (first ∷ name) ≡ Some next) × Leads tree next more object

on_by_nothing : (tree : Tree) (dir : ℕ) (name : List ℕ) (more : List (List ℕ)) (object : ℕ) →
    LeadsOn tree dir name more object → LeadsOn tree dir name ([] ∷ more) object
on_by_nothing tree dir [] more object l = l
on_by_nothing tree dir (first ∷ name) more object l = l

module _ (s : State) where
  name_leads : (at : ℕ × Node) (name : List ℕ) (object : ℕ) → IsThere s.nodes at →
      found name (names_in at.1.content) ≡ Some object → name_at s.nodes at.0 name ≡ Some object
  name_leads at name object there e =
      ap (option_and_then (λ (node : Node). found name (names_in node.content))) there ∙ e

  -- one part more
  step_leads : (at : ℕ × Node) (name : List ℕ) (next : ℕ × Node) (more : List (List ℕ)) (object : ℕ) →
      IsThere s.nodes at → step_from s.nodes at name ≡ Ok next → Leads (tree_of s) next.0 more object →
      LeadsOn (tree_of s) at.0 name more object
  step_leads at [] next more object there e l =
      let same : at ≡ next = cc in subst (λ (p : ℕ × Node). Leads (tree_of s) p.0 more object) (sym same) l
  step_leads at (first ∷ name) next more object there e l =
      go (is_directory at.1) e
    where
      go : (dir : Bool) → cond dir (ok_or (led_on s.nodes (found (first ∷ name) (names_in at.1.content))) enoent)
          (Err enotdir) ≡ Ok next → LeadsOn (tree_of s) at.0 (first ∷ name) more object
      go false e = absurd (cc)
      go true e =
          let led = led_is s.nodes (found (first ∷ name) (names_in at.1.content)) next
          (some_ok (led_on s.nodes (found (first ∷ name) (names_in at.1.content))) enoent next e) in
          (next.0, name_leads at (first ∷ name) next.0 there led.0, l)

  place_leads : (at : Place) (more : List (List ℕ)) (to : Place) (object : ℕ) → IsThere s.nodes at.0 →
      place_from s.nodes at more ≡ Ok to → LeadsOn (tree_of s) to.0.0 to.1 [] object →
      LeadsOn (tree_of s) at.0.0 at.1 more object
  place_leads at [] to object there e l =
      let same : at ≡ to = cc in
      subst (λ (p : Place). LeadsOn (tree_of s) p.0.0 p.1 [] object) (sym same) l
  place_leads at ([] ∷ more) to object there e l =
      on_by_nothing (tree_of s) at.0.0 at.1 more object (place_leads at more to object there e l)
  place_leads at ((first ∷ part) ∷ more) to object there e l =
      let next = then_ok (past s.nodes at (first ∷ part)) (λ (p : Place). place_from s.nodes p more) to e in
      let dir = then_ok (step_from s.nodes at.0 at.1) (λ (d : ℕ × Node). Ok (d, first ∷ part)) next.0 next.1 in
      let same : (dir.0, first ∷ part) ≡ next.0 = pair dir.0 next.0 dir.2 in
      let reached = step_reaches s.nodes at.0 at.1 dir.0 there dir.1 in
      let rest = place_leads (dir.0, first ∷ part) more to object reached.1
      (ap (λ (p : Place). place_from s.nodes p more) same ∙ next.2) l in
      step_leads at.0 at.1 dir.0 ((first ∷ part) ∷ more) object there dir.1 rest
    where
      pair : (d : ℕ × Node) (p : Place) → placed_as (d, first ∷ part) ≡ placed_as p → (d, first ∷ part) ≡ p
      pair d p e = cc

  judged_leads : (path : List ℕ) (place : Place) (object : ℕ) → judged s.nodes path ≡ Ok place →
      LeadsOn (tree_of s) place.0.0 place.1 [] object → PathLeads (tree_of s) path object
  judged_leads path place object e l =
      let root = then_ok (ok_or (from_root s.nodes path) enoent) (judged_from s.nodes path) place e in
      let begins = root_begins s.nodes path root.0 (some_ok (from_root s.nodes path) enoent root.0 root.1) in
      let at = then_ok (place_from s.nodes (root.0, []) (parts path)) judged_at place root.2 in
      let same = none_refused (last_refusal at.0.0.1 at.0.1) at.0 place at.2 in
      let whole = place_leads (root.0, []) (parts path) at.0 object begins.1 at.1
      (subst (λ (p : Place). LeadsOn (tree_of s) p.0.0 p.1 [] object) (sym same) l) in
      subst (λ (d : ℕ). Leads (tree_of s) d (parts path) object) begins.0 whole

  -- ---- the table

  record WriteOk (path bytes : List ℕ) (after : State) : Type 0 where
    object : ℕ
    node : Node
    there : slice_get s.nodes object ≡ Some node
    leads : PathLeads (tree_of s) path object
    file : (kind_number node.content == 8) ≡ true
    leaves : after ≡ with_rewritten s object bytes

  regular_file : (content : Content) (rest : List (Bool × Errno)) →
      first_refusal ((holds_names content, eisdir) ∷ (is_symbolic content, eloop) ∷ (stands_for_other content, enxio)
      ∷ rest) ≡ None → (kind_number content == 8) ≡ true
  regular_file (Regular bytes) rest e = refl
  regular_file (Directory names) rest e = absurd (cc)
  regular_file (Link target) rest e = absurd (cc)
  regular_file (Special kind) rest e = absurd (cc)

  module _ (path bytes : List ℕ) (told : HostValue) (after : State) where
    abbrev Goal : Answered → Type 0
    Goal a = (host.Ok told, after) ≡ a → WriteOk path bytes after

    refuses : (errno : Errno) → Goal (refused s errno)
    refuses errno e = absurd (ok_not_refused told errno (ap (λ (a : Answered). a.0) e))

    at_it : (place : Place) → judged s.nodes path ≡ Ok place → (dir : ℕ × Node) (first : ℕ) (name : List ℕ) →
        place ≡ (dir, first ∷ name) → IsThere s.nodes dir → Goal (write_at s bytes (dir, first ∷ name))
    at_it place e dir first name is there =
        by_found s Goal refuses (there_in dir.1 (first ∷ name))
        (λ object node. checked s (write_checks node (length bytes)) (done (with_rewritten s object bytes)))
        (λ object node leads is_node.
        by_checks s Goal refuses (write_checks node (length bytes)) (done (with_rewritten s object bytes)) (λ none
        told_so.
        record {
          object = object;
          node = node;
          there = is_node;
          leads = judged_leads path (dir, first ∷ name) object (e ∙ ap (λ (p : Place). Ok p) is)
              (object, name_leads dir (first ∷ name) object there leads, refl);
          file = regular_file node.content ((nat_lt file_max (length bytes), efbig) ∷ []) none;
          leaves = ap (λ (a : Answered). a.1) told_so;
        }))

    by_place : (place : Place) → judged s.nodes path ≡ Ok place → Goal (at_place s eisdir (Ok place) (write_at s bytes))
    by_place (dir, []) e = refuses eisdir
    by_place (dir, first ∷ name) e = at_it (dir, first ∷ name) e dir first name refl (judged_there s.nodes path (
      dir,
      first ∷ name,
    ) e).0

    write_ok : (place : Result Place Errno) → judged s.nodes path ≡ place →
        Goal (at_place s eisdir place (write_at s bytes))
    write_ok (Err errno) e = refuses errno
    write_ok (Ok place) e = by_place place e

-- an edit of what a path leads to
module _ (s : State) (told : HostValue) (after : State) where
  abbrev StaysGoal : Answered → Type 0
  StaysGoal a = (host.Ok told, after) ≡ a → NodesStay s.nodes after.nodes

  stays_refuses : (errno : Errno) → StaysGoal (refused s errno)
  stays_refuses errno e = absurd (ok_not_refused told errno (ap (λ (a : Answered). a.0) e))

  stays_done : (later : State) → NodesStay s.nodes later.nodes → StaysGoal (done later)
  stays_done later k e = subst (λ (z : State). NodesStay s.nodes z.nodes) (sym (ap (λ (a : Answered). a.1) e)) k

  stays_at : (root : Errno) (place : Result Place Errno) (edits : Place → Answered) →
      ((at : Place) → StaysGoal (edits at)) → StaysGoal (at_place s root place edits)
  stays_at root (Err errno) edits k = stays_refuses errno
  stays_at root (Ok (dir, [])) edits k = stays_refuses root
  stays_at root (Ok (dir, first ∷ name)) edits k = k (dir, first ∷ name)

  unlink_stays : (at : Place) → StaysGoal (unlink_at s at)
  unlink_stays at =
      by_found s StaysGoal stays_refuses (there_in at.0.1 at.1) (λ object node. checked s (unlink_checks at.0.1 node)
      (done (with_unlinked s at.0.0 at.1 object))) (λ object node leads is.
      by_checks s StaysGoal stays_refuses (unlink_checks at.0.1 node) (done (with_unlinked s at.0.0 at.1 object))
      (λ passes. stays_done (with_unlinked s at.0.0 at.1 object)
      (stay_on s.nodes (changed_at at.0.0 (λ dir. touched (time_of s) (without_entry at.1 dir)) s.nodes)
      (with_unlinked s at.0.0 at.1 object).nodes (lost_stay (time_of s) at.0.0 at.1 s.nodes)
      (restamped_stay (time_of s) object
      (changed_at at.0.0 (λ dir. touched (time_of s) (without_entry at.1 dir)) s.nodes)))))

  onto_stays : (from to : ℕ × List ℕ) (object : ℕ) (node : Node) (target : Option (ℕ × Node)) →
      StaysGoal (rename_onto s from to object node target)
  onto_stays from to object node None =
      stays_done (with_moved s from to object None) (moved_stay (time_of s) from to object None s.nodes)
  onto_stays from to object node (Some target) = go (target.0 == object)
    where
      go : (b : Bool) → StaysGoal (cond b (done s)
          (checked s (replace_checks node target.1) (done (with_moved s from to object (Some target.0)))))
      go true = stays_done s (λ object. refl)
      go false =
          by_checks s StaysGoal stays_refuses (replace_checks node target.1)
          (done (with_moved s from to object (Some target.0)))
          (λ none. stays_done (with_moved s from to object (Some target.0))
          (moved_stay (time_of s) from to object (Some target.0) s.nodes))

  placed_stays : (new : List ℕ) (from to : Place) → StaysGoal (rename_placed s new from to)
  placed_stays new from to =
      by_found s StaysGoal stays_refuses (there_in from.0.1 from.1) (λ object node.
      rename_object s new from to object node (led_on s.nodes (there_in to.0.1 to.1))) (λ object node leads is.
      by_checks s StaysGoal stays_refuses (move_checks (path_goes_through object s.nodes new) from.0.1 to.0.1 node
      (led_on s.nodes (there_in to.0.1 to.1)))
      (rename_onto s (named_at from) (named_at to) object node (led_on s.nodes (there_in to.0.1 to.1)))
      (λ passes. onto_stays (named_at from) (named_at to) object node (led_on s.nodes (there_in to.0.1 to.1))))

  rename_edit_stays : (new : List ℕ) (from to : Result Place Errno) → StaysGoal (rename_judged s new from to)
  rename_edit_stays new (Err errno) to = stays_refuses errno
  rename_edit_stays new (Ok from) (Err errno) = stays_refuses errno
  rename_edit_stays new (Ok from) (Ok to) = go ((length from.1 == 0) || (length to.1 == 0))
    where
      go : (b : Bool) → StaysGoal (cond b (refused s ebusy) (rename_placed s new from to))
      go true = stays_refuses ebusy
      go false = placed_stays new from to

-- an edit that makes
module _ (s : State) (numbers : ℕ → ℕ) (told : HostValue) (after : State) (mode uid gid : ℕ) (content : Content) where
  abbrev NewGoal : Answered → Type 0
  NewGoal a = (host.Ok told, after) ≡ a → MakeOk s numbers (mode % 4096) uid gid 0 content after

  new_refuses : (errno : Errno) → NewGoal (refused s errno)
  new_refuses errno e = absurd (ok_not_refused told errno (ap (λ (a : Answered). a.0) e))

  new_at : (at : Place) → NewGoal (make_at s numbers mode uid gid content at)
  new_at at =
      by_checks s NewGoal new_refuses (new_checks (there_in at.0.1 at.1) (size_of content))
      (make_in s numbers at.0.0 at.1 (mode % 4096) uid gid 0 content at.0.1)
      (λ passes e. record { dir = at.0.0; name = at.1; parent = at.0.1; leaves = ap (λ (a : Answered). a.1) e })

  new_placed : (root : Errno) (place : Result Place Errno) →
      NewGoal (at_place s root place (make_at s numbers mode uid gid content))
  new_placed root (Err errno) = new_refuses errno
  new_placed root (Ok (dir, [])) = new_refuses root
  new_placed root (Ok (dir, first ∷ name)) = new_at (dir, first ∷ name)

-- an edit that wrote
edit_alters : (j : Thread) (w on : Full) (path bytes : List ℕ) (told : HostValue) → objects_at on ≡ objects_at w →
    Steps j w (made (Calls (call.Edit (edit.Write path bytes))) (Host (host.Ok told))) on →
    (object : ℕ) × PathLeads (tree_of w.state) path object × (is_file_kind (slice_get (objects_at w) object) ≡ true)
    × Alters w on (with_changed object (λ was. record was { bytes = bytes }) (contents_at w))
edit_alters j w on path bytes told objects s =
    let t = tabled w.state w.seat (call.Edit (edit.Write path bytes)) told on.state on.seat refl s.made.0 in
    let r = write_ok w.state path bytes told t.after (judged w.state.nodes path) refl t.answered in
    let node = rewritten (time_of w.state) bytes r.node in
    let nodes = t.nodes ∙ ap (λ (z : State). z.nodes) r.leaves in
    let at = λ (o : ℕ). ap (λ (n : List Node). slice_get n o) nodes
    ∙ get-changed r.object (rewritten (time_of w.state) bytes) w.state.nodes o in (
      r.object,
      r.leads,
      file_is w r.object r.node r.there ∙ r.file,
      alters_set w on r.object r.node node (λ was. record was { bytes = bytes }) objects r.there (
        at r.object ∙ ap (λ b. cond b (option_map (rewritten (time_of w.state) bytes)
            (slice_get w.state.nodes r.object)) (slice_get w.state.nodes r.object)) (eq-eqb r.object r.object refl)
            ∙ ap (option_map (rewritten (time_of w.state) bytes)) r.there,
        (λ other q. at other ∙ ap (λ b. cond b (option_map (rewritten (time_of w.state) bytes)
            (slice_get w.state.nodes r.object)) (slice_get w.state.nodes other)) (apart other r.object q)),
      )
          (same_parts (record (contents_where (Some r.node)) { bytes = bytes }) (contents_where (Some node))
          (bytes_with bytes r.node.content ∙ ap (λ (b : Bool). cond b bytes (bytes_in r.node.content)) r.file) refl refl
          refl refl refl),
    )

-- a seat of this owner
abbrev owner_seat : ℕ → ℕ → HostSeat
owner_seat uid gid = record {
  real_uid = 0;
  eff_uid = uid;
  saved_uid = 0;
  real_gid = 0;
  eff_gid = gid;
  saved_gid = 0;
  groups = [];
  eff_caps = record { 0 = 0 };
  perm_caps = record { 0 = 0 };
  umask = 0;
}

edit_makes : (j : Thread) (w on : Full) (edit : Edit) (told : HostValue) (mode uid gid : ℕ) (content : Content)
    (path : List ℕ) → ((s : State) (numbers : ℕ → ℕ) → edited s numbers edit
    ≡ at_place s eexist (judged s.nodes path) (make_at s numbers mode uid gid content)) →
    Steps j w (made (Calls (call.Edit edit)) (Host (host.Ok told))) on →
    HasMade w on (kind_number content) (fresh (owner_told uid gid) (mode % 4096) 0 (bytes_in content))
edit_makes j w on edit told mode uid gid content path is s =
    let t : Tabled w.state w.seat (call.Edit edit) told on.state =
    tabled w.state w.seat (call.Edit edit) told on.state on.seat refl s.made.0 in
    has_made w on t.numbers (owner_seat uid gid) (mode % 4096) 0 content t.after t.nodes
    (new_placed w.state t.numbers told t.after mode uid gid content eexist (judged w.state.nodes path)
    (t.answered ∙ is w.state t.numbers))

module _ (plan : Plan) (seat : HostSeat) (j : Thread) (w w' : Full) (state after : PlainTree)
    (g : Between w w' state after) where
  nodes_stay : NodesStay w.state.nodes w'.state.nodes → AllStay (filled state w) (filled after w')
  nodes_stay k object l = k object

  -- what an edit that was made makes of contents
  edit_fills : (edit : Edit) (told : HostValue) →
      Steps j w (made (Calls (call.Edit edit)) (Host (host.Ok told))) w' →
      FillsAsked plan seat (Edits edit) (filled state w) answer.Edited (filled after w')
  edit_fills (edit.Unlink path) told s =
      let t : Tabled w.state w.seat (call.Edit (edit.Unlink path)) told w'.state =
      tabled w.state w.seat (call.Edit (edit.Unlink path)) told w'.state w'.seat refl s.made.0 in
      nodes_stay (subst (λ (n : List Node). NodesStay w.state.nodes n) (sym t.nodes)
      (stays_at w.state told t.after ebusy (judged w.state.nodes path) (unlink_at w.state)
      (unlink_stays w.state told t.after) t.answered))
  edit_fills (edit.Rename old new) told s =
      let t : Tabled w.state w.seat (call.Edit (edit.Rename old new)) told w'.state =
      tabled w.state w.seat (call.Edit (edit.Rename old new)) told w'.state w'.seat refl s.made.0 in
      nodes_stay (subst (λ (n : List Node). NodesStay w.state.nodes n) (sym t.nodes)
      (rename_edit_stays w.state told t.after new (judged w.state.nodes old) (judged w.state.nodes new) t.answered))
  edit_fills (edit.File path mode uid gid bytes) told s =
      made_filled w w' state after 8 _ g
      (edit_makes j w w' (edit.File path mode uid gid bytes) told mode uid gid (Regular bytes) path
      (λ s numbers. refl) s)
  edit_fills (edit.Dir path mode uid gid) told s =
      made_filled w w' state after 4 _ g
      (edit_makes j w w' (edit.Dir path mode uid gid) told mode uid gid (Directory []) path (λ s numbers. refl) s)
  edit_fills (edit.Write path bytes) told s =
      let a = edit_alters j w w' path bytes told (same_objects told s.goes.made.0.0.trees.changes) s in (
        a.0,
        subst (λ (t : Tree). PathLeads t path a.0) (sym g.shows.tree)
            (bare_leads (tree_of w.state) 0 (parts path) a.0 a.1),
        sym (file_there w state a.0 g.shows) ∙ a.2,
        become w w' state after (with_changed a.0 (λ was. record was { bytes = bytes }) (contents_at w)) g.shows a.3,
      )
    where
      same_objects : (told : HostValue) →
          TreeChanges (world_of w).tree (call.Edit (edit.Write path bytes)) (host.Ok told) (world_of w').tree →
          objects_at w' ≡ objects_at w
      same_objects value.Unit c = ap (λ (z : Tree). z.objects) c
      same_objects told c = absurd c.0

      bare_leads : (tree : Tree) (at : ℕ) (more : List (List ℕ)) (object : ℕ) → Leads tree at more object →
          Leads (bare_tree tree) at more object
      bare_leads tree at [] object l = l
      bare_leads tree at ([] ∷ more) object l = bare_leads tree at more object l
      bare_leads tree at ((first ∷ part) ∷ more) object l = (l.0, l.1, bare_leads tree l.0 more object l.2)

  -- one that was not
  edit_stays : (edit : Edit) (told : HostReply) → NotOk told →
      Steps j w (made (Calls (call.Edit edit)) (Host told)) w' → AllStay (filled state w) (filled after w')
  edit_stays edit told o s object l =
      left_same w w' (call.Edit edit) told (untouched told o)
      (does_leave_beside w.state w.seat (call.Edit edit) told w'.state w'.seat s.made.0) object
      (subst (λ (z : List Object). object < length z) (objects_of w state g.shows) l)
    where
      untouched : (told : HostReply) → NotOk told → IsUntouching (Calls (call.Edit edit)) (Host told)
      untouched (host.Ok told) o = absurd o
      untouched (host.Refused errno) o = tt
      untouched (host.Fault errno) o = tt
      untouched host.NoMemory o = tt

pub fills_edit : (plan : Plan) (edit : Edit) (j : Thread) (w : Full) (steps : List Step) (last : Answer) (w' : Full)
    (state after : PlainTree) → Between w w' state after → last ≢ answer.NoMemory →
    Belongs (edit_grammar edit) steps (finish.Answer last) → Walks j w steps w' →
    FillsAsked plan j.seat (Edits edit) (filled state w) last (filled after w')
fills_edit plan edit j w [] last w' state after g n b k = absurd b
fills_edit plan edit j w (step ∷ second ∷ more) last w' state after g n b k = absurd b.1
fills_edit plan edit j w (step ∷ []) last w' state after g n b k =
    go step.reply k.1 (subst (λ (z : Full). Steps j w (made asked step.reply) z) (sym k.4.1)
    (subst (λ (z : Step). Steps j w z k.2) (is_made asked step b.0 k.1) k.3)) (answer_in b.1)
  where
    asked : Deed
    asked = Calls (call.Edit edit)

    answer_in : finish.Answer last ≡ finish.Answer (edit_answer step.reply) → last ≡ edit_answer step.reply
    answer_in e = cc

    by_answer : (given : Answer) → last ≡ given → FillsAsked plan j.seat (Edits edit) (filled state w) given (filled
        after w') →
        FillsAsked plan j.seat (Edits edit) (filled state w) last (filled after w')
    by_answer given e f =
        subst (λ (x : Answer). FillsAsked plan j.seat (Edits edit) (filled state w) x (filled after w')) (sym e) f

    go : (told : ActReply) → (LacksMemory told → ⊥) → Steps j w (made asked told) w' → last ≡ edit_answer told →
        FillsAsked plan j.seat (Edits edit) (filled state w) last (filled after w')
    go NoCopy m s e = absurd (m refl)
    go (Event told) m s e = absurd s.made
    go (Host host.NoMemory) m s e = absurd (m refl)
    go (Host (host.Refused errno)) m s e =
        by_answer (answer.EditRefused errno) e (edit_stays plan j.seat j w w' state after g edit (host.Refused errno)
        tt s)
    go (Host (host.Fault errno)) m s e =
        by_answer (answer.EditRefused errno) e (edit_stays plan j.seat j w w' state after g edit (host.Fault errno) tt
        s)
    go (Host (host.Ok told)) m s e =
        by_answer answer.Edited e (edit_fills plan j.seat j w w' state after g edit told s)
