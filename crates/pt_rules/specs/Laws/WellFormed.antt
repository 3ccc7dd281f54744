-- Proof. A sound state tells a well-formed tree.
use Rattle.std.proofs.Common.{◌≡◌, ◌<◌, ◌^◌, ℕ, Bool, true, false, cond, refl, List, length, Some, None, slice_get}
use Rattle.std.proofs.Common.{subst, ap}
use Rattle.std.proofs.Common.{sym, ◌∙◌, arith, drop, inr}
use Rattle.std.proofs.lemmas.List.{length-map}
use Rattle.std.proofs.lemmas.Option.{same_Some, slice_get_within, slice_get-map}
use Rattle.std.proofs.lemmas.Nat.{from_le_bytes-to_le_bytes_8}
use Rattle.std.specs.Int.{to_le_bytes, from_le_bytes, w64}
use Rattle.pt_host.specs.Tree.{Object, Opened, IsObject, IsOpenOn, IsWellFormed, directory_kind}
use Rattle.pt_host.specs.declared.handle.CFileHandle.{CFileHandle}
use Rattle.pt_host.specs.declared.ids.Fd.{Fd}
use Rattle.pt_rules.specs.Holds.{HasHold}
use Rattle.pt_node.specs.Names.{found}
use Rattle.pt_node.specs.Node.{names_in, kind_number, object_of, handle_of}
use Rattle.pt_node.specs.Slots.{open_at}
use Rattle.pt_rules.specs.State.{State, tree_of, opened_as}
use Rattle.pt_rules.specs.Sound.{IsSound}
use Rattle.pt_node.specs.declared.node.Content.{Content}
use Rattle.pt_node.specs.declared.node.Content.TheVariants.{Directory}
use Rattle.pt_node.specs.declared.node.Node.{Node}
use Rattle.pt_node.specs.declared.slots.OpenFile.{OpenFile}
use Rattle.pt_rules.specs.Laws.Alive.{lives_held}
pub use Rattle.pt_rules.specs.Laws.Parts.{and_then_some, map_some}

-- the node that stands there for the object
pub node_of : (state : State) (place : ℕ) (what : Object) → IsObject (tree_of state) place what →
    (node : Node) × (slice_get state.nodes place ≡ Some node) × (object_of node ≡ what)
node_of state place what is =
    map_some object_of (slice_get state.nodes place) what (sym (slice_get-map object_of state.nodes place) ∙ is)

pub file_of_open : (state : State) (fd : ℕ) (open_as : Opened) → (tree_of state).opened fd ≡ Some open_as →
    (file : OpenFile) × (open_at state.slots fd ≡ Some file) × (opened_as file ≡ open_as)
file_of_open state fd open_as is = map_some opened_as (open_at state.slots fd) open_as is

handle_where : (b : Bool) (told handle : CFileHandle) → cond b (Some told) None ≡ Some handle → told ≡ handle
handle_where b told handle =
    elim b as (λ v. cond v (Some told) None ≡ Some handle →
    told ≡ handle) [ true ↦ same_Some told handle | false ↦ (λ h. cc) ]

small_serial : (state : State) (place : ℕ) (node : Node) → IsSound state → slice_get state.nodes place ≡ Some node →
    node.serial < 2 ^ 64
small_serial state place node sound is =
    let within = slice_get_within state.nodes place node is in
    omega (arith, within, sound.few, (sound.made place node is).serial)

same_number : (m n : ℕ) → m < 2 ^ 64 → n < 2 ^ 64 → to_le_bytes w64 m ≡ to_le_bytes w64 n → m ≡ n
same_number m n small less same =
    sym (from_le_bytes-to_le_bytes_8 m small) ∙ ap (from_le_bytes w64) same ∙ from_le_bytes-to_le_bytes_8 n less

same_place : (state : State) (object another : ℕ) (node that : Node) → IsSound state →
    slice_get state.nodes object ≡ Some node →
    slice_get state.nodes another ≡ Some that → node.serial ≡ that.serial → object ≡ another
same_place state object another node that sound is other same =
    omega (arith, (sound.made object node is).serial, (sound.made another that other).serial)

-- a handle tells the serial, which no other object ever gets
pub same_handle : (state : State) (object another : ℕ) (what that : Object) (handle : CFileHandle) → IsSound state →
    IsObject (tree_of state) object what →
    IsObject (tree_of state) another that → what.handle ≡ Some handle → that.handle ≡ Some handle → object ≡ another
same_handle state object another what that handle sound is other told also =
    let one = node_of state object what is in
    let two = node_of state another that other in
    let first : handle_of one.0 ≡ handle =
    handle_where one.0.has_handle (handle_of one.0) handle (ap (λ o. o.handle) one.2 ∙ told) in
    let second : handle_of two.0 ≡ handle =
    handle_where two.0.has_handle (handle_of two.0) handle (ap (λ o. o.handle) two.2 ∙ also) in
    let bytes : to_le_bytes w64 one.0.serial ≡ to_le_bytes w64 two.0.serial =
    ap (λ h. drop 8 h.bytes) (first ∙ sym second) in
    same_place state object another one.0 two.0 sound one.1 two.1
    (same_number one.0.serial two.0.serial (small_serial state object one.0 sound one.1)
    (small_serial state another two.0 sound two.1) bytes)

-- the object of an open descriptor lives
pub open_on_lives : (state : State) (fd : Fd) (object : ℕ) → IsOpenOn (tree_of state) fd object → HasHold state object
open_on_lives state fd object (open_as, is, same) =
    let file = file_of_open state fd.0 open_as is in
    inr (inr (fd.0, file.0, file.1, ap (λ (o : Opened). o.object) file.2 ∙ same))

-- what a name leads from is a directory
kind_named : (name : List ℕ) (object : ℕ) (content : Content) → found name (names_in content) ≡ Some object →
    kind_number content ≡ directory_kind
kind_named name object (Directory names) there = refl
kind_named name object content there = cc

pub well_formed : (state : State) → IsSound state → IsWellFormed (tree_of state)
well_formed state sound = record {
  named = λ dir name object is.
      let at = and_then_some (λ node. found name (names_in node.content)) (slice_get state.nodes dir) object is in
      let within = slice_get_within state.nodes dir at.0 at.1 in
      let named = sound.named dir name object is in (
        subst (λ n. dir < n) (sym (length-map state.nodes object_of)) within,
        subst (λ n. object < n) (sym (length-map state.nodes object_of)) named,
      );
  directories = λ dir name object what is at_dir.
      let named = and_then_some (λ node. found name (names_in node.content)) (slice_get state.nodes dir) object is in
      let told = node_of state dir what at_dir in
      let same : told.0 ≡ named.0 = same_Some told.0 named.0 (sym told.1 ∙ named.1) in
      sym (ap (λ (o : Object). o.kind) told.2) ∙ ap (λ (n : Node). kind_number n.content) same
      ∙ kind_named name object named.0.content named.2;
  opened = λ fd open_as is.
      let file = file_of_open state fd open_as is in
      subst (λ n. open_as.object < n) (sym (length-map state.nodes object_of))
      (subst (λ (o : Opened). o.object < length state.nodes) file.2 (sound.opened fd file.0 file.1));
  apart = λ fd other object another what that on also is too same.
      let one = node_of state object what is in
      let two = node_of state another that too in
      let ids = ap (λ o. o.ids) one.2 ∙ same ∙ sym (ap (λ o. o.ids) two.2) in
      sound.apart object another one.0 two.0 one.1 two.1 (lives_held state object (open_on_lives state fd object on))
      (lives_held state another (open_on_lives state other another also))
      (ap (λ i. i.dev) ids) (ap (λ i. i.ino) ids);
  handles = λ object another what that handle is too mount told also. same_handle state object another what that
      handle sound is too told also;
}
