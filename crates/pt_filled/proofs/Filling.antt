-- Proof. From worlds over the tree host to the plain file system with contents.
use Rattle.std.proofs.Common.{◌≡◌, ◌<◌, ℕ, ◌+◌, ◌*◌, List, length, Option, Some, None, refl, sym, ap, subst, ◌∙◌}
use Rattle.std.proofs.Common.{arith, slice_get, option_map}
use Rattle.std.proofs.lemmas.List.{length-map}
use Rattle.std.proofs.lemmas.Option.{slice_get_within}
use Rattle.pt_host.specs.Contents.{ObjectContents}
use Rattle.pt_host.specs.Tree.{Tree, Object, Opened, IsOpenOn}
use Rattle.pt_host.specs.declared.ids.Fd.{Fd}
use Rattle.pt_host.specs.declared.seat.HostSeat.{HostSeat}
use Rattle.pt_host.specs.declared.stat.Stat.{Stat}
use Rattle.pt_iface.specs.declared.answer.Answer.{Answer}
use Rattle.pt_iface.specs.declared.request.Context.{Context}
use Rattle.pt_iface.specs.declared.request.Request.{Request}
use Rattle.pt_req.specs.declared.plan.Plan.{Plan}
use Rattle.pt_law.proofs.Givings.{live_count}
use Rattle.pt_node.specs.Links.{links_of}
use Rattle.pt_node.specs.Node.{blocks_of, object_of}
use Rattle.pt_node.specs.Slots.{open_at}
use Rattle.pt_node.specs.declared.node.Node.{Node}
use Rattle.pt_node.specs.declared.slots.OpenFile.{OpenFile}
use Rattle.pt_rules.specs.Sound.{IsSound}
use Rattle.pt_rules.specs.State.{contents_where, opened_as}
use Rattle.pt_plain.specs.Plain.{PlainTree, Stands, handled_as}
use Rattle.pt_plain.proofs.Serving.{stands}
use Rattle.pt_plain.proofs.Showing.{bare_tree, Shows, handle_at}
use Rattle.pt_plain.proofs.Walking.{Quiet, some_is}
use Rattle.pt_filled.specs.Contents.{FilledTree, IsSame, AllBecome, AllStay, is_file_kind, is_file}
use Rattle.pt_filled.specs.Fills.{Fills, FillsRefused}
use Rattle.pt_filled.specs.Told.{AreNames, IsStatOf, links_in}
use Rattle.pt_filled.proofs.Effects.{StatOk, size_is}
use Rattle.pt_filled.proofs.Handling.{accesses_at}
use Rattle.pt_filled.proofs.Hosting.{Full, Alters, Keeps, world_of, contents_at, objects_at}
use Rattle.pt_filled.proofs.Linking.{are_listed, links_are, names_listed}
use Rattle.pt_filled.proofs.Parts.{IsRefused}
use Rattle.pt_filled.proofs.Tables.{object_is}

-- the plain file system with the contents of a world, and what its handles may be used for
abbrev pub filled : PlainTree → Full → FilledTree
filled state w = record { plain = state; contents = contents_at w; accesses = accesses_at w }

pub objects_of : (w : Full) (state : PlainTree) → Shows (world_of w) state → state.tree.objects ≡ objects_at w
objects_of w state s = ap (λ (t : Tree). t.objects) s.tree

pub become : (w w' : Full) (state after : PlainTree) (are : ℕ → ObjectContents) → Shows (world_of w) state →
    Alters w w' are → AllBecome (filled state w) are (filled after w')
become w w' state after are s a object l =
    a.same object (subst (λ (o : List Object). object < length o) (objects_of w state s) l)

pub stay : (w w' : Full) (state after : PlainTree) → Shows (world_of w) state → Keeps w w' →
    AllStay (filled state w) (filled after w')
stay w w' state after s k = become w w' state after (contents_at w) s k

pub file_there : (w : Full) (state : PlainTree) (object : ℕ) → Shows (world_of w) state →
    is_file_kind (slice_get (objects_at w) object) ≡ is_file (filled state w) object
file_there w state object s =
    ap (λ (o : List Object). is_file_kind (slice_get o object)) (sym (objects_of w state s))

pub stands_from : (w mid : Full) (state : PlainTree) (number object : ℕ) → Shows (world_of w) state →
    Quiet (world_of w) (world_of mid) → mid.past.numbers number ≡ Some object → 0 < live_count number mid.tables →
    Stands state number object
stands_from w mid state number object s q e l =
    stands (world_of w) state number object s (ap (λ f. f number) (sym q.still.past) ∙ e)
    (let a = q.falls number in omega (arith, a, l))

pub handle_from : (w mid : Full) (state : PlainTree) (handle number object : ℕ) → Shows (world_of w) state →
    Quiet (world_of w) (world_of mid) → handle_at (world_of mid) handle ≡ handled_as number object →
    state.handles handle ≡ handled_as number object
handle_from w mid state handle number object s q e = s.handles handle ∙ sym (q.still.handles handle) ∙ e

-- a descriptor's object is in the list
pub there_at : (w : Full) (object : ℕ) (node : Node) → slice_get w.state.nodes object ≡ Some node →
    object < length (objects_at w)
there_at w object node e =
    slice_get_within (objects_at w) object (object_of node) (object_is w.state object node e)

pub open_within : (w : Full) (fd : Fd) (object : ℕ) → IsSound w.state → IsOpenOn (world_of w).tree fd object →
    object < length (objects_at w)
open_within w fd object s o = go (open_at w.state.slots fd.0) refl o.1
  where
    go : (there : Option OpenFile) → open_at w.state.slots fd.0 ≡ there → option_map opened_as there ≡ Some o.0 →
        object < length (objects_at w)
    go None e q = absurd (cc)
    go (Some file) e q =
        let same = ap (λ (x : Opened). x.object) (some_is q) ∙ o.2 in
        let n = length-map w.state.nodes object_of in
        let l = s.opened fd.0 file e in omega (arith, same, n, l)

-- the names that there were then, and the links by them
names_are : (d : Full) (tree : Tree) → tree ≡ bare_tree (world_of d).tree → IsSound d.state →
    AreNames tree (names_listed d.state)
names_are d tree e l = subst (λ (t : Tree). AreNames t (names_listed d.state)) (sym e) (are_listed d.state l)

links_told : (d : Full) (tree : Tree) → tree ≡ bare_tree (world_of d).tree → IsSound d.state → (object : ℕ)
    (node : Node) → slice_get d.state.nodes object ≡ Some node →
    links_of d.state.nodes object node ≡ links_in tree (names_listed d.state) object (object_of node).kind
links_told d tree e l object node there =
    links_are d.state l object node there
    ∙ ap (λ (t : Tree). links_in t (names_listed d.state) object (object_of node).kind) (sym e)

-- what was told is what is there then
pub stat_then : (d w' : Full) (after : PlainTree) (fd : Fd) (object : ℕ) (told : Stat) → Shows (world_of w') after →
    Keeps d w' → bare_tree (world_of w').tree ≡ bare_tree (world_of d).tree → StatOk d fd told object →
    IsStatOf (filled after w') object told
stat_then d w' after fd object told s k t o = record {
  what = object_of o.node;
  names = names_listed d.state;
  are_names = names_are d after.tree (s.tree ∙ t) o.sound;
  links = ap (λ (t : Stat). t.nlink) o.is ∙ links_told d after.tree (s.tree ∙ t) o.sound object o.node o.there;
  is_object = ap (λ (l : List Object). slice_get l object) (objects_of w' after s ∙ k.objects) ∙ there;
  ids = ap (λ (t : Stat). t.ids) o.is;
  mode = ap (λ (t : Stat). t.mode) o.is ∙ ap (λ (c : ObjectContents). 4096 * (object_of o.node).kind + c.mode) now
      ∙ sym (ap (λ (c : ObjectContents). 4096 * (object_of o.node).kind + c.mode) same);
  uid = ap (λ (t : Stat). t.uid) o.is ∙ ap (λ (c : ObjectContents). c.uid) now ∙ sym (ap (λ (c : ObjectContents).
      c.uid) same);
  gid = ap (λ (t : Stat). t.gid) o.is ∙ ap (λ (c : ObjectContents). c.gid) now ∙ sym (ap (λ (c : ObjectContents).
      c.gid) same);
  rdev = ap (λ (t : Stat). t.rdev) o.is ∙ ap (λ (c : ObjectContents). c.rdev) now
      ∙ sym (ap (λ (c : ObjectContents). c.rdev) same);
  size = ap (λ (t : Stat). t.size) o.is ∙ size_is o.node.content ∙ ap (λ (c : ObjectContents). length c.bytes) now
      ∙ sym (ap (λ (c : ObjectContents). length c.bytes) same);
  blksize = ap (λ (t : Stat). t.blksize) o.is;
  blocks = ap (λ (t : Stat). t.blocks) o.is ∙ ap blocks_of (size_is o.node.content)
      ∙ ap (λ (c : ObjectContents). blocks_of (length c.bytes)) now
      ∙ sym (ap (λ (c : ObjectContents). blocks_of (length c.bytes)) same);
}
  where
    there : slice_get (objects_at d) object ≡ Some (object_of o.node)
    there = object_is d.state object o.node o.there

    now : contents_where (Some o.node) ≡ contents_at d object
    now = ap contents_where (sym o.there)

    same : contents_at w' object ≡ record (contents_at d object) {
      atime = (contents_at w' object).atime;
      mtime = (contents_at w' object).mtime;
      ctime = (contents_at w' object).ctime;
    }
    same = k.same object (slice_get_within (objects_at d) object (object_of o.node) there)

-- and what was there before
pub stat_of : (w d : Full) (state : PlainTree) (fd : Fd) (object : ℕ) (told : Stat) → Shows (world_of w) state →
    Keeps w d → bare_tree (world_of d).tree ≡ bare_tree (world_of w).tree → StatOk d fd told object →
    IsStatOf (filled state w) object told
stat_of w d state fd object told s k t o = record {
  what = object_of o.node;
  names = names_listed d.state;
  are_names = names_are d state.tree (s.tree ∙ sym t) o.sound;
  links = ap (λ (t : Stat). t.nlink) o.is ∙ links_told d state.tree (s.tree ∙ sym t) o.sound object o.node o.there;
  is_object = ap (λ (l : List Object). slice_get l object) (objects_of w state s ∙ sym k.objects) ∙ there;
  ids = ap (λ (t : Stat). t.ids) o.is;
  mode = ap (λ (t : Stat). t.mode) o.is ∙ ap (λ (c : ObjectContents). 4096 * (object_of o.node).kind + c.mode) now
      ∙ ap (λ (c : ObjectContents). 4096 * (object_of o.node).kind + c.mode) same;
  uid = ap (λ (t : Stat). t.uid) o.is ∙ ap (λ (c : ObjectContents). c.uid) (now ∙ same);
  gid = ap (λ (t : Stat). t.gid) o.is ∙ ap (λ (c : ObjectContents). c.gid) (now ∙ same);
  rdev = ap (λ (t : Stat). t.rdev) o.is ∙ ap (λ (c : ObjectContents). c.rdev) (now ∙ same);
  size = ap (λ (t : Stat). t.size) o.is ∙ size_is o.node.content
      ∙ ap (λ (c : ObjectContents). length c.bytes) (now ∙ same);
  blksize = ap (λ (t : Stat). t.blksize) o.is;
  blocks = ap (λ (t : Stat). t.blocks) o.is ∙ ap blocks_of (size_is o.node.content)
      ∙ ap (λ (c : ObjectContents). blocks_of (length c.bytes)) (now ∙ same);
}
  where
    there : slice_get (objects_at d) object ≡ Some (object_of o.node)
    there = object_is d.state object o.node o.there

    now : contents_where (Some o.node) ≡ contents_at d object
    now = ap contents_where (sym o.there)

    same : contents_at d object ≡ record (contents_at w object) {
      atime = (contents_at d object).atime;
      mtime = (contents_at d object).mtime;
      ctime = (contents_at d object).ctime;
    }
    same = k.same object (subst (λ (l : List Object). object < length l) k.objects
        (slice_get_within (objects_at d) object (object_of o.node) there))

pub same_bytes : (a b : ObjectContents) → IsSame a b → b.bytes ≡ a.bytes
same_bytes a b e = ap (λ (c : ObjectContents). c.bytes) e

-- a world in the middle of a job: what the plain file system sees has not changed, and contents are these
pub record Since (w on : Full) (are : ℕ → ObjectContents) : Type 0 where
  pub quiet : Quiet (world_of w) (world_of on)
  pub alters : Alters w on are

-- a request from one world to another, and the plain file system before and behind it
pub record Between (w w' : Full) (state after : PlainTree) : Type 0 where
  pub shows : Shows (world_of w) state
  pub ends : Shows (world_of w') after

-- what is to be shown of a request
abbrev pub IsFilledBy : Plan → HostSeat → Context → Request → PlainTree → Full → Answer → PlainTree → Full → Type 0
IsFilledBy plan seat who asked state w last after w' =
    Fills plan seat who asked (filled state w) last (filled after w')

-- a refusal that left all
pub refused_fills : (plan : Plan) (seat : HostSeat) (who : Context) (asked : Request) (w w' : Full)
    (state after : PlainTree) (last : Answer) → Shows (world_of w) state →
    (AllStay (filled state w) (filled after w') → FillsRefused plan seat who asked (filled state w) (filled after w')) →
    IsRefused w last w' → IsFilledBy plan seat who asked state w last after w'
refused_fills plan seat who asked w w' state after last s f r =
    subst (λ (x : Answer). Fills plan seat who asked (filled state w) x (filled after w')) (sym r.is)
    (f (stay w w' state after s r.keeps))
