-- Proof. Openings and closings: what they leave of the tree and beside it.
use Rattle.std.proofs.Common.{◌≡◌, ◌≢◌, ◌<◌, ◌/◌, ◌+◌, ◌*◌, inl, inr, ℕ, Bool, true, false, not, ◌&&◌, cond, eqb}
use Rattle.std.proofs.Common.{List, [], ◌∷◌, Option, Some, None, Result, Ok, Err, option_map, slice_get, refl}
use Rattle.std.proofs.Common.{ap, sym, ◌∙◌, subst, arith}
use Rattle.std.proofs.lemmas.Bool.Decides.{eqb_tells}
use Rattle.std.proofs.lemmas.List.{length-map}
use Rattle.std.proofs.lemmas.Option.{same_Some, slice_get_within, slice_get-map}
use Rattle.pt_host.specs.Call.{Call}
use Rattle.pt_host.specs.Errno.{ebadf, eexist, enoent}
use Rattle.pt_host.specs.Flags.{includes, o_creat, o_excl, o_path, o_trunc}
use Rattle.pt_host.specs.LawfulContents.{LeftByOpening, StaysOpen, begun, empties}
use Rattle.pt_host.specs.LawfulTree.{TreeChanges, Opens}
use Rattle.pt_host.specs.Promises.{FitsCall}
use Rattle.pt_host.specs.Sorts.{opening_flags}
use Rattle.pt_host.specs.Words.{set_at}
use Rattle.pt_host.specs.Tree.{Opened, Tree}
use Rattle.pt_host.specs.declared.flags.OpenFlags.{OpenFlags}
use Rattle.pt_host.specs.declared.ids.Errno.{Errno}
use Rattle.pt_host.specs.declared.ids.Fd.{Fd}
use Rattle.pt_host.specs.declared.seat.HostSeat.{HostSeat}
use Rattle.pt_host.specs.declared.op.KeptHostOp.TheVariants as call
use Rattle.pt_host.specs.declared.reply.HostReply.TheVariants as reply
use Rattle.pt_host.specs.declared.reply.HostValue.TheVariants as value
use Rattle.pt_node.specs.Paths.{walk_root, walk_from}
use Rattle.pt_rules.specs.Beside.{Empties, MayTouch}
use Rattle.pt_rules.specs.Calls.{begun_on, close_file, done, on_slot, opening, open_walked}
use Rattle.pt_rules.specs.Calls.{refused, reopen, tell_status, tells, unless, with_opened}
use Rattle.pt_rules.specs.Holds.{HasHold}
use Rattle.pt_rules.specs.OpeningCalls.{open_path}
use Rattle.pt_node.specs.Links.{links_of}
use Rattle.pt_node.specs.Node.{kind_number, object_of, status_of}
use Rattle.pt_node.specs.Opening.{after_opening, emptied, opening_refusal}
use Rattle.pt_node.specs.Slots.{closed, closed_where, file_of, least_free, open_at}
use Rattle.pt_rules.specs.Sound.{IsSound}
use Rattle.pt_rules.specs.State.{State, contents_where, description_where, opened_as, time_of, tree_of}
use Rattle.pt_node.specs.declared.node.Node.{Node}
use Rattle.pt_node.specs.declared.slots.OpenFile.{OpenFile}
use Rattle.pt_node.specs.declared.slots.Slot.{Slot}
use Rattle.pt_node.specs.declared.slots.Slot.TheVariants.{Free, Open}
use Rattle.pt_rules.specs.Laws.Cases.{by_checks, by_fd}
use Rattle.pt_rules.specs.Laws.Emptied.{left_by_opening}
use Rattle.pt_rules.specs.Laws.Fair.{IsFair, fair_refused, fair_same, stays_same}
use Rattle.pt_rules.specs.Laws.Finding.{IsLiving, path_lives, root_lives}
use Rattle.pt_rules.specs.Laws.Opens.{closed_tree, least_free-closed, open_there, opening_allowed}
use Rattle.pt_rules.specs.Laws.Opens.{opening_refused, opened-closed, tree-with_opened}
use Rattle.pt_rules.specs.Laws.SlotTable.{least_free-le-length}
use Rattle.pt_rules.specs.Laws.Soundness.{sound-closed, sound-with_opened}
use Rattle.pt_node.specs.Laws.Updates.{get-put_apart, get-put_here, get-set_apart, get-set_here}

-- what an opening of this object by the call has to come to
pub record OpensBy (state : State) (asked : Call) (flags : OpenFlags) (object : ℕ) : Type 0 where
  pub asks : opening_flags asked ≡ Some flags
  pub refuses : (errno : Errno) → errno ≢ enoent →
      TreeChanges (tree_of state) asked (reply.Refused errno) (tree_of state)
  pub passes : (fd : Fd) (after : Tree) → Opens (tree_of state) object flags fd after →
      TreeChanges (tree_of state) asked (reply.Ok (value.Fd fd)) after
  pub fits : (fd : Fd) → FitsCall asked (value.Fd fd)
  pub empties : (fd : Fd) (after : Tree) (o : ℕ) → Empties flags fd after o →
      MayTouch (tree_of state) asked (value.Fd fd) after o

-- the object stays as it is where it is not emptied
opened_kept : (seat : HostSeat) (state : State) (flags : OpenFlags) (node : Node) (empties : Bool) →
    (includes flags.0 o_trunc && not (includes flags.0 o_path)) ≡ empties → (empties ≡ true → ⊥) →
    cond empties (emptied seat (time_of state) node node.content) node ≡ node
opened_kept seat state flags node true is none = absurd (none refl)
opened_kept seat state flags node false is none = refl

-- ---- the new descriptor, and those that were open

abbrev pub free_fd : State → Fd
free_fd state = record { 0 = least_free state.slots }

module _ (state : State) (seat : HostSeat) (flags : OpenFlags) (object : ℕ) (node : Node) where
  abbrev opened_after : State
  opened_after = with_opened state seat flags object node

  pub new_open : open_at opened_after.slots (least_free state.slots) ≡ Some (begun_on flags object)
  new_open = ap file_of
      (get-put_here (least_free state.slots) (Open (begun_on flags object)) state.slots
      (least_free-le-length state.slots))

  -- what was open is another descriptor
  other_open : (k : ℕ) → StaysOpen (tree_of state) (tree_of opened_after) k → k ≢ least_free state.slots
  other_open k (opened_before, is, is_still) same =
      (let e : Some opened_before ≡ None =
      sym is ∙ ap (λ j. option_map opened_as (open_at state.slots j)) same
      ∙ ap (option_map opened_as) (least_free-closed state.slots) in cc)

  pub same_description : (k : ℕ) → StaysOpen (tree_of state) (tree_of opened_after) k →
      description_where (open_at opened_after.slots k) ≡ description_where (open_at state.slots k)
  same_description k open_still =
      ap (λ slot. description_where (file_of slot))
      (get-put_apart (least_free state.slots) (Open (begun_on flags object)) state.slots k
      (other_open k open_still))

  -- the new one begins as it is asked
  pub new_description : (fd : Fd) → value.Fd (free_fd state) ≡ value.Fd fd →
      description_where (open_at opened_after.slots fd.0) ≡ begun flags
  new_description fd is =
      let place : free_fd state ≡ fd = cc in
      subst (λ (f : Fd). description_where (open_at opened_after.slots f.0)
      ≡ begun flags) place (ap description_where new_open)

module _ (state : State) (seat : HostSeat) (asked : Call) (flags : OpenFlags) (object : ℕ) (node : Node)
    (sound : IsSound state)
    (there : slice_get state.nodes object
    ≡ Some node) (lives : HasHold state object) (by : OpensBy state asked flags object) where
  abbrev after : State
  after = with_opened state seat flags object node

  opened_object : (o : ℕ) → (MayTouch (tree_of state) asked (value.Fd (free_fd state)) (tree_of after) o → ⊥) →
      contents_where (slice_get after.nodes o) ≡ contents_where (slice_get state.nodes o)
  opened_object o none = elim (eqb_tells o object) [
    | inl e ↦ ap contents_where (ap (slice_get after.nodes) e.1
        ∙ get-set_here state.nodes object (after_opening seat (time_of state) flags.0 node)
        (slice_get_within state.nodes object node there)
        ∙ ap (λ n. Some n) (opened_kept seat state flags node (includes flags.0 o_trunc
        && not (includes flags.0 o_path)) refl
        (λ is. none (by.empties (free_fd state) (tree_of after) o (
          is,
          (
            opened_as (begun_on flags object),
            ap (option_map opened_as) (new_open state seat flags object node),
            sym e.1,
          ),
        ))))
        ∙ sym (ap (slice_get state.nodes) e.1 ∙ there))
    | inr apart ↦ ap contents_where
        (get-set_apart state.nodes object (after_opening seat (time_of state) flags.0 node) o apart.1)
  ]

  abbrev node_after : Node
  node_after = after_opening seat (time_of state) flags.0 node

  -- what is opened is emptied at most
  emptied_object : (o : ℕ) →
      LeftByOpening flags (contents_where (slice_get state.nodes o)) (contents_where (slice_get after.nodes o))
  emptied_object o = elim (eqb_tells o object) [
    | inl e ↦ (let was : slice_get state.nodes o ≡ Some node = ap (slice_get state.nodes) e.1 ∙ there in
        let is : slice_get after.nodes o ≡ Some node_after =
        ap (slice_get after.nodes) e.1
        ∙ get-set_here state.nodes object node_after (slice_get_within state.nodes object node there) in
        subst (λ (at : Option Node).
        LeftByOpening flags (contents_where at) (contents_where (slice_get after.nodes o))) (sym was)
        (subst (λ (at : Option Node).
        LeftByOpening flags (contents_where (Some node)) (contents_where at)) (sym is)
        (left_by_opening seat (time_of state) flags node (empties flags) refl)))
    | inr apart ↦ inl (ap contents_where (get-set_apart state.nodes object node_after o apart.1))
  ]

  opened_fair : opening_refusal seat node flags.0 ≡ None → IsFair state asked (tells after (value.Fd (free_fd state)))
  opened_fair none = record {
    sound = λ few. sound-with_opened state seat flags object node sound there lives;
    changes = by.passes (free_fd state) (tree_of after) (record {
      listed = subst (λ n. object
          < n) (sym (length-map state.nodes object_of)) (slice_get_within state.nodes object node there);
      fresh = ap (option_map opened_as) (least_free-closed state.slots);
      allowed = opening_allowed seat node flags.0 none;
      adds = tree-with_opened state seat flags object node there;
    });
    contents = record {
      objects = λ o within may. stays_same _ _ (opened_object o may);
      openings = λ asked_flags o asks within may. opened_object o may;
      emptied = λ asked_flags o asks makes.
          subst (λ (f : OpenFlags).
          LeftByOpening f (contents_where (slice_get state.nodes o)) (contents_where (slice_get after.nodes o)))
          (same_Some flags asked_flags (sym by.asks ∙ asks)) (emptied_object o);
      positions = λ k open_still may. ap (λ d. d.position) (same_description state seat flags object node k open_still);
      accesses = λ k open_still. ap (λ d. d.access) (same_description state seat flags object node k open_still);
      begins = λ asked_flags new asks is.
          new_description state seat flags object node new is
          ∙ ap begun (same_Some flags asked_flags (sym by.asks ∙ asks));
    };
    allowed = λ faults. by.fits (free_fd state);
    faults = refl;
    fails = tt;
  }

  fair_unless : (refusal : Option Errno) → opening_refusal seat node flags.0 ≡ refusal →
      IsFair state asked (unless state refusal (tells after (value.Fd (free_fd state))))
  fair_unless None is = opened_fair is
  fair_unless (Some errno) is =
      fair_refused state asked errno sound (by.refuses errno (opening_refused seat node flags.0 errno is))

-- the opening of an object that lives
pub fair_opening : (state : State) (seat : HostSeat) (asked : Call) (flags : OpenFlags) (object : ℕ) (node : Node) →
    IsSound state → slice_get state.nodes object ≡ Some node → HasHold state object →
    OpensBy state asked flags object → IsFair state asked (opening state seat flags object node)
fair_opening state seat asked flags object node sound is lives by =
    fair_unless state seat asked flags object node sound is lives by (opening_refusal seat node flags.0) refl

-- the opening of what was found
pub fair_open_walked : (state : State) (seat : HostSeat) (asked : Call) (flags : OpenFlags)
    (led : Result (ℕ × Node) Errno) →
    IsSound state →
    ((errno : Errno) → led ≡ Err errno → TreeChanges (tree_of state) asked (reply.Refused errno) (tree_of state)) →
    ((at : ℕ × Node) → led ≡ Ok at → IsLiving state at × OpensBy state asked flags at.0) →
    IsFair state asked (open_walked state seat flags led)
fair_open_walked state seat asked flags (Err errno) sound refuses leads =
    fair_refused state asked errno sound (refuses errno refl)
fair_open_walked state seat asked flags (Ok at) sound refuses leads =
    let found_at = leads at refl in
    fair_opening state seat asked flags at.0 at.1 sound found_at.0.0 found_at.0.1 found_at.1

-- ---- OpenRoot

pub fair_root : (state : State) (seat : HostSeat) (path : List ℕ) (flags : OpenFlags) → IsSound state →
    IsFair state (call.OpenRoot path flags) (open_walked state seat flags (walk_root state.nodes path))
fair_root state seat path flags sound =
    fair_open_walked state seat (call.OpenRoot path flags) flags (walk_root state.nodes path) sound (λ errno is.
    (tt, refl))
    (λ at is. (
      root_lives state path at is,
      record {
        asks = refl;
        refuses = λ errno apart. (tt, refl);
        passes = λ fd after opens. (at.0, opens);
        fits = λ fd. tt;
        empties = λ fd after o e. e;
      },
    ))

-- ---- Reopen

module _ (state : State) (seat : HostSeat) (fd : Fd) (flags : OpenFlags) (sound : IsSound state) where
  reopen_refuses : (errno : Errno) → IsFair state (call.Reopen fd flags) (refused state errno)
  reopen_refuses errno = fair_refused state (call.Reopen fd flags) errno sound (tt, refl)

  pub fair_reopen : IsFair state (call.Reopen fd flags) (reopen state seat fd flags)
  fair_reopen = by_fd state (IsFair state (call.Reopen fd flags)) reopen_refuses fd _
      (λ file node is there.
      by_checks state (IsFair state (call.Reopen fd flags)) reopen_refuses ((
        includes flags.0 o_creat
            && includes flags.0 o_excl,
        eexist,
      ) ∷ []) _
      (λ none. fair_opening state seat (call.Reopen fd flags) flags file.object node sound there
      (inr (inr (fd.0, file, is, refl)))
      (record {
        asks = refl;
        refuses = λ errno apart. (tt, refl);
        passes = λ new after opens. (file.object, open_there state fd file is, opens);
        fits = λ new. tt;
        empties = λ new after o e. e;
      })))

-- ---- Close

set_none : (k : ℕ) (f : ℕ → Option Opened) (i : ℕ) → eqb i k ≡ true → set_at k None f i ≡ None
unfolding set_at
set_none k f i same = ap (λ b. cond b None (f i)) same

closed_other : (file : Option OpenFile) (fd : ℕ) (slots : List Slot) (k : ℕ) → k ≢ fd →
    open_at (closed_where file fd slots) k ≡ open_at slots k
closed_other None fd slots k apart = refl
closed_other (Some file) fd slots k apart = ap file_of (get-set_apart slots fd Free k apart)

-- a descriptor that was open and is so after a closing is another one
pub closed_description : (state : State) (fd : Fd) (k : ℕ) →
    StaysOpen (tree_of state) (tree_of (record state { slots = closed fd.0 state.slots })) k →
    description_where (open_at (closed fd.0 state.slots) k) ≡ description_where (open_at state.slots k)
closed_description state fd k (opened_before, was, is_still) = elim (eqb_tells k fd.0) [
  | inl e ↦ absurd (let none = opened-closed (open_at state.slots fd.0) fd.0 state.slots k refl in
      let shut : set_at fd.0 None (λ j. option_map opened_as (open_at state.slots j)) k ≡ None =
      set_none fd.0 _ k e.0 in
      let f : Some opened_before ≡ None = sym is_still ∙ none ∙ shut in cc)
  | inr apart ↦ ap description_where (closed_other (open_at state.slots fd.0) fd.0 state.slots k apart.1)
]

closed_fair : (state : State) (fd : Fd) (file : OpenFile) → IsSound state → open_at state.slots fd.0 ≡ Some file →
    IsFair state (call.Close fd) (tells (record state { slots = closed fd.0 state.slots }) value.Unit)
closed_fair state fd file sound is =
    record {
      sound = λ few. sound-closed state fd.0 sound;
      changes = ap (λ (held : Option OpenFile).
          tree_of (record state { slots = closed_where held fd.0 state.slots })) is
          ∙ closed_tree state fd (Some file) is;
      contents = record {
        objects = λ o within may. stays_same _ _ refl;
        openings = λ flags o asks within may. refl;
        emptied = λ flags o asks makes. inl refl;
        positions = λ k open_still may. ap (λ d. d.position) (closed_description state fd k open_still);
        accesses = λ k open_still. ap (λ d. d.access) (closed_description state fd k open_still);
        begins = λ flags new asks told. (let e : None ≡ Some flags = asks in cc);
      };
      allowed = λ faults. tt;
      faults = refl;
      fails = tt;
    }

fair_close_file : (state : State) (fd : Fd) (file : Option OpenFile) → IsSound state → open_at state.slots fd.0 ≡ file →
    IsFair state (call.Close fd) (on_slot state file (λ held. done (record state { slots = closed fd.0 state.slots })))
fair_close_file state fd None sound is = fair_refused state (call.Close fd) ebadf sound (closed_tree state fd None is)
fair_close_file state fd (Some file) sound is = closed_fair state fd file sound is

pub fair_close : (state : State) (fd : Fd) → IsSound state → IsFair state (call.Close fd) (close_file state fd)
fair_close state fd sound = fair_close_file state fd (open_at state.slots fd.0) sound refl

-- ---- Stat

kind_from : (kind permissions : ℕ) → permissions < 4096 → (4096 * kind + permissions) / 4096 ≡ kind
kind_from kind permissions small = omega arith

pub fair_stat : (state : State) (fd : Fd) → IsSound state → IsFair state (call.Stat fd) (tell_status state fd)
fair_stat state fd sound =
    by_fd state (IsFair state (call.Stat fd)) (λ errno. fair_refused state (call.Stat fd) errno sound (tt, refl)) fd _
    (λ file node on is. fair_same state (call.Stat fd)
    (value.Stat (status_of (links_of state.nodes file.object node) node)) sound refl (
      file.object,
      object_of node,
      open_there state fd file on,
      slice_get-map object_of state.nodes file.object ∙ ap (option_map object_of) is,
      record {
        ids = refl;
        kind = kind_from (kind_number node.content) node.permissions (sound.made file.object node is).permissions;
      },
      refl,
    ) tt)

-- ---- OpenPath

pub fair_open_path : (state : State) (seat : HostSeat) (fd : Fd) (path : List ℕ) (flags : OpenFlags) → IsSound state →
    IsFair state (call.OpenPath fd path flags) (open_path state seat fd path flags)
fair_open_path state seat fd path flags sound =
    by_fd state (IsFair state (call.OpenPath fd path flags)) (λ errno.
    fair_refused state (call.OpenPath fd path flags) errno sound (tt, refl)) fd _
    (λ file node is there.
    fair_open_walked state seat (call.OpenPath fd path flags) flags (walk_from state.nodes (file.object, node) path)
    sound
    (λ errno led. (tt, refl))
    (λ at led. (
      path_lives state (file.object, node) path at (there, inr (inr (fd.0, file, is, refl))) led,
      record {
        asks = refl;
        refuses = λ errno apart. (tt, refl);
        passes = λ new after opens. (at.0, opens);
        fits = λ new. tt;
        empties = λ new after o e. e;
      },
    )))
