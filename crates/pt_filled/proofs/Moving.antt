-- Proof. Calls on names leave contents, times aside.
use Rattle.std.specs.Prelude.{◌&&◌}
use Rattle.std.proofs.Common.{◌≡◌, inl, inr, ℕ, List, Bool, true, false, Option, Some, None, refl, sym, ap, subst}
use Rattle.std.proofs.Common.{◌∙◌, cond, eqb, option_map, slice_get, ◌==◌, not, nat_lt}
use Rattle.std.proofs.lemmas.Bool.Decides.{eqb_tells}
use Rattle.pt_host.specs.LawfulTree.{TreeChanges}
use Rattle.pt_host.specs.Tree.{Tree}
use Rattle.pt_host.specs.Errno.{einval}
use Rattle.pt_host.specs.Names.{NameMoves, Renames}
use Rattle.pt_host.specs.declared.ids.Errno.{Errno}
use Rattle.pt_host.specs.declared.ids.Fd.{Fd}
use Rattle.pt_host.specs.declared.ids.Time.{Time}
use Rattle.pt_host.specs.declared.reply.HostValue.{HostValue}
use Rattle.pt_host.specs.declared.seat.HostSeat.{HostSeat}
use Rattle.pt_host.specs.declared.op.KeptHostOp.TheVariants as call
use Rattle.pt_host.specs.declared.reply.HostReply.TheVariants as host
use Rattle.pt_host.specs.declared.reply.HostValue.TheVariants as value
use Rattle.pt_frame.specs.Deed.{Calls}
use Rattle.pt_frame.specs.declared.act.ActReply.TheVariants.{Host}
use Rattle.pt_node.specs.Entries.{changed_at, restamped, touched, without_entry, without_name, with_entry}
use Rattle.pt_node.specs.Node.{bytes_in}
use Rattle.pt_node.specs.Paths.{led_on}
use Rattle.pt_node.specs.Links.{links_of}
use Rattle.pt_node.specs.declared.node.Node.{Node}
use Rattle.pt_node.specs.declared.node.Content.{Content}
use Rattle.pt_node.specs.declared.node.Content.TheVariants.{Directory, Regular, Link, Special}
use Rattle.pt_rules.specs.Calls.{Answered, checked, done, on_found, refused, there_in, on_name}
use Rattle.pt_rules.specs.Edits.{with_unlinked, moved, on_placed, rename_onto, replace_checks, replaced, with_moved}
use Rattle.pt_rules.specs.NameCalls.{take_checks, unlink as host_unlink, exchange, exchanged, moves_into_itself}
use Rattle.pt_rules.specs.NameCalls.{rename as host_rename, rename_between, rename_checks, rename_found, rename_to}
use Rattle.pt_rules.specs.NameCalls.{with_exchanged, remove_checks, remove_dir as host_remove, link_checks, linked}
use Rattle.pt_rules.specs.NameCalls.{make_link, with_linked}
use Rattle.pt_rules.specs.State.{State, contents_where, time_of}
use Rattle.pt_rules.specs.Laws.Cases.{by_name, by_checks, by_found, by_fd}
use Rattle.pt_rules.specs.Laws.Changed.{get-changed}
use Rattle.pt_rules.specs.EditPaths.{Place, named_at}
use Rattle.pt_filled.specs.Contents.{IsSame}
use Rattle.pt_filled.proofs.Hosting.{Full, Thread, Keeps, world_of, contents_at, objects_at, same_on}
use Rattle.pt_filled.proofs.Threading.{Makes}
use Rattle.pt_filled.proofs.Tables.{Tabled, tabled, ok_not_refused}
use Rattle.pt_filled.proofs.Effects.{same_parts}
use Rattle.pt_filled.proofs.News.{parent_same}

pub bytes_unnamed : (name : List ℕ) (content : Content) → bytes_in (without_name name content) ≡ bytes_in content
bytes_unnamed name (Directory names) = refl
bytes_unnamed name (Regular bytes) = refl
bytes_unnamed name (Link target) = refl
bytes_unnamed name (Special kind) = refl

-- times of one object alone
pub changed_keeps : (place : ℕ) (f : Node → Node) (nodes : List Node) →
    ((node : Node) → IsSame (contents_where (Some node)) (contents_where (Some (f node)))) → (object : ℕ) →
    IsSame (contents_where (slice_get nodes object)) (contents_where (slice_get (changed_at place f nodes) object))
changed_keeps place f nodes k object =
    subst (λ (n : Option Node). IsSame (contents_where (slice_get nodes object)) (contents_where n))
    (sym (get-changed place f nodes object)) here
  where
    at : (there : Option Node) → IsSame (contents_where there) (contents_where (option_map f there))
    at None = refl
    at (Some node) = k node

    here : IsSame (contents_where (slice_get nodes object))
        (contents_where (cond (eqb object place) (option_map f (slice_get nodes place)) (slice_get nodes object)))
    here = elim (eqb_tells object place) [
      | inl same ↦ subst (λ (p : Bool × Option Node). IsSame (contents_where p.1)
          (contents_where (cond p.0 (option_map f (slice_get nodes place)) (slice_get nodes object))))
          (λ i. (sym same.0 i, ap (slice_get nodes) (sym same.1) i)) (at (slice_get nodes place))
      | inr other ↦ subst (λ (b : Bool). IsSame (contents_where (slice_get nodes object))
          (contents_where (cond b (option_map f (slice_get nodes place)) (slice_get nodes object)))) (sym other.0) refl
    ]

module _ (s : State) (seat : HostSeat) (told : HostValue) (after : State) where
  record UnlinkOk : Type 0 where
    dir : ℕ
    name : List ℕ
    object : ℕ
    leaves : after ≡ with_unlinked s dir name object

  abbrev UnlinkGoal : Answered → Type 0
  UnlinkGoal a = (host.Ok told, after) ≡ a → UnlinkOk

  unlink_refuses : (errno : Errno) → UnlinkGoal (refused s errno)
  unlink_refuses errno e = absurd (ok_not_refused told errno (ap (λ (a : Answered). a.0) e))

  unlink_ok : (fd : Fd) (name : List ℕ) → UnlinkGoal (host_unlink s seat fd name)
  unlink_ok fd name =
      by_name s UnlinkGoal unlink_refuses seat fd name (λ dir parent. on_found s (there_in parent name) (λ object node.
      checked s (take_checks seat parent node) (done (with_unlinked s dir name object)))) (λ at dir is there none.
      by_found s UnlinkGoal unlink_refuses (there_in dir name) (λ object node. checked s (take_checks seat dir node)
      (done (with_unlinked s at.object name object))) (λ object node leads is_node.
      by_checks s UnlinkGoal unlink_refuses (take_checks seat dir node) (done (with_unlinked s at.object name object))
      (λ passes e. record { dir = at.object; name = name; object = object; leaves = ap (λ (a : Answered). a.1) e })))

pub was_unlinked : (j : Thread) (w on : Full) (fd : Fd) (name : List ℕ) (told : HostValue) →
    Makes j w (Calls (call.Unlink fd name)) (Host (host.Ok told)) on → Keeps w on
was_unlinked j w on fd name told m = record {
  objects = objects m.2.goes.made.0.0.trees.changes;
  same = λ object l. subst (λ (n : List Node). IsSame (contents_at w object) (contents_where (slice_get n object)))
      (sym nodes) (same_on (contents_at w object) (contents_where (slice_get first object))
      (contents_where (slice_get (changed_at u.object (restamped now) first) object))
      (changed_keeps u.dir (λ (p : Node). touched now (without_entry u.name p)) w.state.nodes (λ node.
      same_parts (contents_where (Some node)) (contents_where (Some (touched now (without_entry u.name node))))
      (bytes_unnamed u.name node.content) refl refl refl refl refl) object)
      (changed_keeps u.object (restamped now) first (λ node. refl) object));
}
  where
    now : Time
    now = time_of w.state

    t : Tabled w.state w.seat (call.Unlink fd name) told on.state
    t = tabled w.state w.seat (call.Unlink fd name) told on.state on.seat refl m.2.made.0

    u : UnlinkOk w.state w.seat told t.after
    u = unlink_ok w.state w.seat told t.after fd name t.answered

    first : List Node
    first = changed_at u.dir (λ (p : Node). touched now (without_entry u.name p)) w.state.nodes

    nodes : on.state.nodes ≡ changed_at u.object (restamped now) first
    nodes = t.nodes ∙ ap (λ (z : State). z.nodes) u.leaves

    objects : TreeChanges (world_of w).tree (call.Unlink fd name) (host.Ok told) (world_of on).tree →
        objects_at on ≡ objects_at w
    objects c = unlinked_objects told c
      where
        unlinked_objects : (told : HostValue) →
            TreeChanges (world_of w).tree (call.Unlink fd name) (host.Ok told) (world_of on).tree →
            objects_at on ≡ objects_at w
        unlinked_objects value.Unit c = ap (λ (z : Tree). z.objects) c.2.takes
        unlinked_objects told c = absurd c.0

abbrev pub NodesStay : List Node → List Node → Type 0
NodesStay nodes later =
    (object : ℕ) → IsSame (contents_where (slice_get nodes object)) (contents_where (slice_get later object))

pub stay_on : (first next last : List Node) → NodesStay first next → NodesStay next last → NodesStay first last
stay_on first next last a b object =
    same_on (contents_where (slice_get first object)) (contents_where (slice_get next object))
    (contents_where (slice_get last object)) (a object) (b object)

pub restamped_stay : (now : Time) (place : ℕ) (nodes : List Node) → NodesStay nodes (changed_at place (restamped now)
    nodes)
restamped_stay now place nodes = changed_keeps place (restamped now) nodes (λ node. refl)

gained_stay : (now : Time) (place : ℕ) (name : List ℕ) (object : ℕ) (nodes : List Node) →
    NodesStay nodes (changed_at place (λ dir. touched now (with_entry name object dir)) nodes)
gained_stay now place name object nodes =
    changed_keeps place (λ dir. touched now (with_entry name object dir)) nodes (parent_same now name object)

pub lost_stay : (now : Time) (place : ℕ) (name : List ℕ) (nodes : List Node) →
    NodesStay nodes (changed_at place (λ dir. touched now (without_entry name dir)) nodes)
lost_stay now place name nodes =
    changed_keeps place (λ dir. touched now (without_entry name dir)) nodes (λ node.
    same_parts (contents_where (Some node)) (contents_where (Some (touched now (without_entry name node))))
    (bytes_unnamed name node.content) refl refl refl refl refl)

replaced_stay : (now : Time) (target : Option ℕ) (nodes : List Node) → NodesStay nodes (replaced now target nodes)
replaced_stay now None nodes = λ object. refl
replaced_stay now (Some target) nodes = restamped_stay now target nodes

pub moved_stay : (now : Time) (from to : ℕ × List ℕ) (object : ℕ) (target : Option ℕ) (nodes : List Node) →
    NodesStay nodes (moved now from to object target nodes)
moved_stay now from to object target nodes =
    let a = changed_at to.0 (λ dir. touched now (with_entry to.1 object dir)) nodes in
    let b = replaced now target a in
    let c = changed_at from.0 (λ dir. touched now (without_entry from.1 dir)) b in
    stay_on nodes a (changed_at object (restamped now) c) (gained_stay now to.0 to.1 object nodes)
    (stay_on a b (changed_at object (restamped now) c) (replaced_stay now target a)
    (stay_on b c (changed_at object (restamped now) c) (lost_stay now from.0 from.1 b) (restamped_stay now object c)))

exchanged_stay : (now : Time) (from to : ℕ × List ℕ) (object other : ℕ) (nodes : List Node) →
    NodesStay nodes (exchanged now from to object other nodes)
exchanged_stay now from to object other nodes =
    let a = changed_at to.0 (λ dir. touched now (with_entry to.1 object dir)) nodes in
    let b = changed_at from.0 (λ dir. touched now (with_entry from.1 other dir)) a in
    let c = changed_at object (restamped now) b in
    stay_on nodes a (changed_at other (restamped now) c) (gained_stay now to.0 to.1 object nodes)
    (stay_on a b (changed_at other (restamped now) c) (gained_stay now from.0 from.1 other a)
    (stay_on b c (changed_at other (restamped now) c) (restamped_stay now object b) (restamped_stay now other c)))

-- ---- the table

module _ (s : State) (seat : HostSeat) (told : HostValue) (after : State) where
  abbrev Goal : Answered → Type 0
  Goal a = (host.Ok told, after) ≡ a → NodesStay s.nodes after.nodes

  refuses : (errno : Errno) → Goal (refused s errno)
  refuses errno e = absurd (ok_not_refused told errno (ap (λ (a : Answered). a.0) e))

  by_done : (later : State) → NodesStay s.nodes later.nodes → Goal (done later)
  by_done later k e = subst (λ (z : State). NodesStay s.nodes z.nodes) (sym (ap (λ (a : Answered). a.1) e)) k

  onto : (from to : ℕ × List ℕ) (object : ℕ) (node : Node) (target : Option (ℕ × Node)) →
      Goal (rename_onto s from to object node target)
  onto from to object node None =
      by_done (with_moved s from to object None) (moved_stay (time_of s) from to object None s.nodes)
  onto from to object node (Some target) = go (target.0 == object)
    where
      go : (b : Bool) → Goal (cond b (done s)
          (checked s (replace_checks node target.1) (done (with_moved s from to object (Some target.0)))))
      go true = by_done s (λ object. refl)
      go false =
          by_checks s Goal refuses (replace_checks node target.1) (done (with_moved s from to object (Some target.0)))
          (λ none. by_done (with_moved s from to object (Some target.0))
          (moved_stay (time_of s) from to object (Some target.0) s.nodes))

  towards : (from to : ℕ × List ℕ) (object : ℕ) (node : Node) (target : Option (ℕ × Node)) (flags : ℕ) →
      Goal (rename_to s from to object node target flags)
  towards from to object node None flags = onto from to object node None
  towards from to object node (Some other) flags = go (not (other.0 == object) && (flags == exchange))
    where
      go : (b : Bool) → Goal (cond b (done (with_exchanged s from to object other.0))
          (rename_onto s from to object node (Some other)))
      go true = by_done (with_exchanged s from to object other.0) (exchanged_stay (time_of s) from to object other.0
          s.nodes)
      go false = onto from to object node (Some other)

  between : (from to : Place) (flags : ℕ) → Goal (rename_between s seat from to flags)
  between from to flags = go (nat_lt exchange flags)
    where
      go : (b : Bool) → Goal (cond b (refused s einval) (on_placed s from (λ object node.
          rename_found s seat from to flags object node (led_on s.nodes (there_in to.0.1 to.1)))))
      go true = refuses einval
      go false =
          by_found s Goal refuses (there_in from.0.1 from.1) (λ object node.
          rename_found s seat from to flags object node (led_on s.nodes (there_in to.0.1 to.1))) (λ object node leads
          is.
          by_checks s Goal refuses
          (rename_checks (moves_into_itself s.nodes from.0.0 to.0.0 object (led_on s.nodes (there_in to.0.1 to.1))
          flags)
          seat from.0.1 to.0.1 node (led_on s.nodes (there_in to.0.1 to.1)) flags)
          (rename_to s (named_at from) (named_at to) object node (led_on s.nodes (there_in to.0.1 to.1)) flags) (λ none.
          towards (named_at from) (named_at to) object node (led_on s.nodes (there_in to.0.1 to.1)) flags))

  rename_stays : (fd : Fd) (name : List ℕ) (fd2 : Fd) (name2 : List ℕ) (flags : ℕ) →
      Goal (host_rename s seat fd name fd2 name2 flags)
  rename_stays fd name fd2 name2 flags =
      by_fd s Goal refuses fd2 (λ other another. on_name s seat fd name (λ dir parent.
      on_name s seat fd2 name2 (λ dir2 parent2.
      rename_between s seat ((dir, parent), name) ((dir2, parent2), name2) flags))) (λ at node is there.
      by_name s Goal refuses seat fd name (λ dir parent. on_name s seat fd2 name2 (λ dir2 parent2.
      rename_between s seat ((dir, parent), name) ((dir2, parent2), name2) flags)) (λ a dir open_a there_a none.
      by_name s Goal refuses seat fd2 name2 (λ dir2 parent2.
      rename_between s seat ((a.object, dir), name) ((dir2, parent2), name2) flags) (λ b dir2 open_b there_b none_b.
      between ((a.object, dir), name) ((b.object, dir2), name2) flags)))

name_moves : (tree : Tree) (dir : ℕ) (name : List ℕ) (to : ℕ) (new : List ℕ) (object : ℕ) (after : Tree) →
    NameMoves tree dir name to new object after → after.objects ≡ tree.objects
name_moves tree dir name to new object after (inl e) = ap (λ (z : Tree). z.objects) e.1
name_moves tree dir name to new object after (inr e) = ap (λ (z : Tree). z.objects) e.1

pub was_renamed : (j : Thread) (w on : Full) (fd : Fd) (name : List ℕ) (fd2 : Fd) (name2 : List ℕ) (flags : ℕ)
    (told : HostValue) → Makes j w (Calls (call.Rename fd name fd2 name2 flags)) (Host (host.Ok told)) on → Keeps w on
was_renamed j w on fd name fd2 name2 flags told m = record {
  objects = objects told m.2.goes.made.0.0.trees.changes;
  same = λ object l. subst (λ (n : List Node). IsSame (contents_at w object) (contents_where (slice_get n object)))
      (sym t.nodes) (rename_stays w.state w.seat told t.after fd name fd2 name2 flags t.answered object);
}
  where
    t : Tabled w.state w.seat (call.Rename fd name fd2 name2 flags) told on.state
    t = tabled w.state w.seat (call.Rename fd name fd2 name2 flags) told on.state on.seat refl m.2.made.0

    renamed : (dir to : ℕ) → Renames (world_of w).tree dir name to name2 flags (world_of on).tree →
        objects_at on ≡ objects_at w
    renamed dir to (inl r) = name_moves _ dir name to name2 r.1.object _ r.1.moves
    renamed dir to (inr (inl r)) = name_moves _ dir name to name2 r.2.object _ r.2.moves
    renamed dir to (inr (inr r)) = ap (λ (z : Tree). z.objects) r.1.exchanges

    objects : (told : HostValue) →
        TreeChanges (world_of w).tree (call.Rename fd name fd2 name2 flags) (host.Ok told) (world_of on).tree →
        objects_at on ≡ objects_at w
    objects value.Unit c = renamed c.0 c.2.0 c.2.2
    objects told c = absurd c.0

module _ (s : State) (seat : HostSeat) (told : HostValue) (after : State) where
  record RmdirOk : Type 0 where
    dir : ℕ
    name : List ℕ
    object : ℕ
    leaves : after ≡ with_unlinked s dir name object

  abbrev RmdirGoal : Answered → Type 0
  RmdirGoal a = (host.Ok told, after) ≡ a → RmdirOk

  rmdir_refuses : (errno : Errno) → RmdirGoal (refused s errno)
  rmdir_refuses errno e = absurd (ok_not_refused told errno (ap (λ (a : Answered). a.0) e))

  rmdir_ok : (fd : Fd) (name : List ℕ) → RmdirGoal (host_remove s seat fd name)
  rmdir_ok fd name =
      by_name s RmdirGoal rmdir_refuses seat fd name (λ dir parent. on_found s (there_in parent name) (λ object node.
      checked s (remove_checks seat parent node) (done (with_unlinked s dir name object)))) (λ at dir is there none.
      by_found s RmdirGoal rmdir_refuses (there_in dir name) (λ object node. checked s (remove_checks seat dir node)
      (done (with_unlinked s at.object name object))) (λ object node leads is_node.
      by_checks s RmdirGoal rmdir_refuses (remove_checks seat dir node) (done (with_unlinked s at.object name object))
      (λ passes e. record { dir = at.object; name = name; object = object; leaves = ap (λ (a : Answered). a.1) e })))

pub was_rmdired : (j : Thread) (w on : Full) (fd : Fd) (name : List ℕ) (told : HostValue) →
    Makes j w (Calls (call.RemoveDir fd name)) (Host (host.Ok told)) on → Keeps w on
was_rmdired j w on fd name told m = record {
  objects = objects m.2.goes.made.0.0.trees.changes;
  same = λ object l. subst (λ (n : List Node). IsSame (contents_at w object) (contents_where (slice_get n object)))
      (sym nodes) (same_on (contents_at w object) (contents_where (slice_get first object))
      (contents_where (slice_get (changed_at u.object (restamped now) first) object))
      (changed_keeps u.dir (λ (p : Node). touched now (without_entry u.name p)) w.state.nodes (λ node.
      same_parts (contents_where (Some node)) (contents_where (Some (touched now (without_entry u.name node))))
      (bytes_unnamed u.name node.content) refl refl refl refl refl) object)
      (changed_keeps u.object (restamped now) first (λ node. refl) object));
}
  where
    now : Time
    now = time_of w.state

    t : Tabled w.state w.seat (call.RemoveDir fd name) told on.state
    t = tabled w.state w.seat (call.RemoveDir fd name) told on.state on.seat refl m.2.made.0

    u : RmdirOk w.state w.seat told t.after
    u = rmdir_ok w.state w.seat told t.after fd name t.answered

    first : List Node
    first = changed_at u.dir (λ (p : Node). touched now (without_entry u.name p)) w.state.nodes

    nodes : on.state.nodes ≡ changed_at u.object (restamped now) first
    nodes = t.nodes ∙ ap (λ (z : State). z.nodes) u.leaves

    objects : TreeChanges (world_of w).tree (call.RemoveDir fd name) (host.Ok told) (world_of on).tree →
        objects_at on ≡ objects_at w
    objects c = removed_objects told c
      where
        removed_objects : (told : HostValue) →
            TreeChanges (world_of w).tree (call.RemoveDir fd name) (host.Ok told) (world_of on).tree →
            objects_at on ≡ objects_at w
        removed_objects value.Unit c = ap (λ (z : Tree). z.objects) c.2.takes
        removed_objects told c = absurd c.0

-- ---- `MakeLink`

module _ (s : State) (told : HostValue) (after : State) where
  abbrev LinkGoal : Answered → Type 0
  LinkGoal a = (host.Ok told, after) ≡ a → NodesStay s.nodes after.nodes

  link_refuses : (errno : Errno) → LinkGoal (refused s errno)
  link_refuses errno e = absurd (ok_not_refused told errno (ap (λ (a : Answered). a.0) e))

  link_stays : (seat : HostSeat) (from fd : Fd) (name : List ℕ) → LinkGoal (make_link s seat from fd name)
  link_stays seat from fd name =
      by_fd s LinkGoal link_refuses from (λ file node. on_name s seat fd name (λ dir parent.
      checked s (link_checks seat (links_of s.nodes file.object node) node parent name)
      (done (with_linked s dir name file.object)))) (λ file node is there.
      by_name s LinkGoal link_refuses seat fd name (λ dir parent.
      checked s (link_checks seat (links_of s.nodes file.object node) node parent name)
      (done (with_linked s dir name file.object))) (λ at dir is_open there_dir none.
      by_checks s LinkGoal link_refuses (link_checks seat (links_of s.nodes file.object node) node dir name)
      (done (with_linked s at.object name file.object)) (λ passes e.
      subst (λ (z : State). NodesStay s.nodes z.nodes) (sym (ap (λ (a : Answered). a.1) e))
      (stay_on s.nodes (changed_at at.object (λ (p : Node). touched (time_of s) (with_entry name file.object p))
      s.nodes)
      (linked (time_of s) at.object name file.object s.nodes)
      (gained_stay (time_of s) at.object name file.object s.nodes)
      (restamped_stay (time_of s) file.object
      (changed_at at.object (λ (p : Node). touched (time_of s) (with_entry name file.object p)) s.nodes))))))

pub was_linked : (j : Thread) (w on : Full) (from fd : Fd) (name : List ℕ) (told : HostValue) →
    Makes j w (Calls (call.MakeLink from fd name)) (Host (host.Ok told)) on → Keeps w on
was_linked j w on from fd name told m = record {
  objects = objects told m.2.goes.made.0.0.trees.changes;
  same = λ object l. subst (λ (n : List Node). IsSame (contents_at w object) (contents_where (slice_get n object)))
      (sym t.nodes) (link_stays w.state told t.after w.seat from fd name t.answered object);
}
  where
    t : Tabled w.state w.seat (call.MakeLink from fd name) told on.state
    t = tabled w.state w.seat (call.MakeLink from fd name) told on.state on.seat refl m.2.made.0

    objects : (told : HostValue) →
        TreeChanges (world_of w).tree (call.MakeLink from fd name) (host.Ok told) (world_of on).tree →
        objects_at on ≡ objects_at w
    objects value.Unit c = ap (λ (z : Tree). z.objects) c.2.2.links
    objects told c = absurd c.0
