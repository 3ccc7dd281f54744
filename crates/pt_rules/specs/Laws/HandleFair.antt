-- Proof. The calls on handles. `HandleOf` tells the handle, and that there is none only where there is none;
-- `OpenByHandle` opens what has it.
use Rattle.std.proofs.Common.{◌≡◌, ◌≢◌, ◌<◌, ◌+◌, ◌==◌, ◌&&◌, inl, inr, ℕ, suc, ℤ, Bool, true, false, not, cond, List}
use Rattle.std.proofs.Common.{[], ◌∷◌, Option, Some, None, Ok, ok_or, option_map, slice_get, refl, ap, sym, ◌∙◌}
use Rattle.std.proofs.Common.{subst, arith}
use Rattle.std.specs.Cmp.{signed_Decides}
use Rattle.std.specs.List.{enumerate_from, find}
use Rattle.std.specs.Ordering.{int_eq}
use Rattle.std.specs.Str.{bytes_eq}
use Rattle.std.proofs.lemmas.Bool.{eqb-true, ltb-true}
use Rattle.std.proofs.lemmas.Option.{same_Some, slice_get-map}
use Rattle.std.proofs.lemmas.Slice.Eq.{bytes_eq-Decides}
use Rattle.pt_host.specs.Errno.{ebadf, eopnotsupp, eoverflow, estale}
use Rattle.pt_host.specs.LawfulTree.{HasHandle, RefusesHandle}
use Rattle.pt_host.specs.Tree.{IsObject, IsOpenOn, Object}
use Rattle.pt_host.specs.declared.flags.OpenFlags.{OpenFlags}
use Rattle.pt_host.specs.declared.handle.CFileHandle.{CFileHandle}
use Rattle.pt_host.specs.declared.ids.Errno.{Errno}
use Rattle.pt_host.specs.declared.ids.Fd.{Fd}
use Rattle.pt_host.specs.declared.seat.HostSeat.{HostSeat}
use Rattle.pt_host.specs.declared.op.KeptHostOp.TheVariants as call
use Rattle.pt_host.specs.declared.reply.HostValue.TheVariants as value
use Rattle.pt_rules.specs.Calls.{checked, on_open, open_on, refused, tells}
use Rattle.pt_rules.specs.Living.{held_by, is_alive}
use Rattle.pt_rules.specs.Holds.{HasHold}
use Rattle.pt_node.specs.Node.{handle_of, object_of}
use Rattle.pt_rules.specs.OpeningCalls.{handle_checks, handled, is_handled, open_by_handle, same_handle, tell_handle}
use Rattle.pt_rules.specs.OpeningCalls.{told_handle}
use Rattle.pt_node.specs.Slots.{open_at}
use Rattle.pt_rules.specs.Sound.{IsSound}
use Rattle.pt_rules.specs.State.{State, tree_of}
use Rattle.pt_node.specs.declared.node.Node.{Node}
use Rattle.pt_node.specs.declared.slots.OpenFile.{OpenFile}
use Rattle.pt_rules.specs.Laws.Cases.{by_checks, by_fd}
use Rattle.pt_rules.specs.Laws.Fair.{IsFair, fair_refused, fair_same}
use Rattle.pt_rules.specs.Finding.{IsThere}
use Rattle.pt_rules.specs.Laws.Held.{held_lives}
use Rattle.pt_rules.specs.Laws.OpenFair.{fair_open_walked}
use Rattle.pt_rules.specs.Laws.Opens.{errnos_apart, open_there, same_open}

abbrev handle_where : Bool → CFileHandle → Option CFileHandle
handle_where has handle = cond has (Some handle) None

other_errno : (state : State) (fd : Fd) (errno : Errno) → errno ≢ eopnotsupp → errno ≢ eoverflow →
    RefusesHandle (tree_of state) fd errno
other_errno state fd errno apart differs (inl same) = absurd (apart same)
other_errno state fd errno apart differs (inr same) = absurd (differs same)

module _ (state : State) (fd : Fd) (sound : IsSound state) where
  -- the object of the descriptor is this one
  is_told : (file : OpenFile) (node : Node) → open_at state.slots fd.0 ≡ Some file →
      slice_get state.nodes file.object ≡ Some node →
      (object : ℕ) (what : Object) → IsOpenOn (tree_of state) fd object → IsObject (tree_of state) object what →
      object_of node ≡ what
  is_told file node is there object what on is_what =
      let held = same_open state fd object on in
      let same : file ≡ held.0 = same_Some file held.0 (sym is ∙ held.1) in
      let place : file.object ≡ object = ap (λ (f : OpenFile). f.object) same ∙ held.2 in
      same_Some (object_of node) what
      (sym (slice_get-map object_of state.nodes file.object ∙ ap (option_map object_of) there)
      ∙ ap (λ o. slice_get (tree_of state).objects o) place ∙ is_what)

  told_where : (file : OpenFile) (node : Node) (has : Bool) → open_at state.slots fd.0 ≡ Some file →
      slice_get state.nodes file.object ≡ Some node →
      node.has_handle ≡ has →
      IsFair state (call.HandleOf fd)
      (checked state ((not has, eopnotsupp) ∷ []) (tells state (value.Handle (told_handle node))))
  told_where file node true is there has =
      fair_same state (call.HandleOf fd) (value.Handle (told_handle node)) sound refl (
        file.object,
        object_of node,
        open_there state fd file is,
        slice_get-map object_of state.nodes file.object ∙ ap (option_map object_of) there,
        ap (λ b. handle_where b (handle_of node)) has,
        refl,
        refl,
      ) tt
  told_where file node false is there has =
      fair_refused state (call.HandleOf fd) eopnotsupp sound (
        (λ either object what on is_what.
            ap (λ (o : Object). o.handle) (sym (is_told file node is there object what on is_what))
            ∙ ap (λ b. handle_where b (handle_of node)) has),
        refl,
      )

  node_fair : (file : OpenFile) (node : Option Node) → open_at state.slots fd.0 ≡ Some file →
      slice_get state.nodes file.object ≡ node → IsFair state (call.HandleOf fd)
      (on_open state (option_map (λ at. (file, at)) node) (λ held at.
      checked state ((not at.has_handle, eopnotsupp) ∷ []) (tells state (value.Handle (told_handle at)))))
  node_fair file None is there =
      fair_refused state (call.HandleOf fd) ebadf sound
      (other_errno state fd ebadf (errnos_apart 9 95 refl) (errnos_apart 9 75 refl), refl)
  node_fair file (Some node) is there = told_where file node node.has_handle is there refl

  file_fair : (file : Option OpenFile) → open_at state.slots fd.0 ≡ file →
      IsFair state (call.HandleOf fd)
      (on_open state (open_on state.nodes file) (λ held at.
      checked state ((not at.has_handle, eopnotsupp) ∷ []) (tells state (value.Handle (told_handle at)))))
  file_fair None is =
      fair_refused state (call.HandleOf fd) ebadf sound
      (other_errno state fd ebadf (errnos_apart 9 95 refl) (errnos_apart 9 75 refl), refl)
  file_fair (Some file) is = node_fair file (slice_get state.nodes file.object) is refl

  pub fair_handle_of : IsFair state (call.HandleOf fd) (tell_handle state fd)
  fair_handle_of = file_fair (open_at state.slots fd.0) refl

-- ---- OpenByHandle

-- the entry stands in the list at its number, counted from this one, and passes the test
record IsEntry (test : ℕ × Node → Bool) (from : ℕ) (nodes : List Node) (entry : ℕ × Node) : Type 0 where
  place : ℕ
  number : entry.0 ≡ from + place
  there : slice_get nodes place ≡ Some entry.1
  passes : test entry ≡ true

abbrev numbered : ℕ → Node → ℕ × Node
numbered n node = (n, node)

entry_where : (test : ℕ × Node → Bool) (from : ℕ) (node : Node) (nodes : List Node) (entry : ℕ
    × Node) (passes : Bool) → test (numbered from node) ≡ passes →
    cond passes (Some (numbered from node)) (find test (enumerate_from (from + 1) nodes)) ≡ Some entry →
    (find test (enumerate_from (from + 1) nodes) ≡ Some entry → IsEntry test (from + 1) nodes entry) →
    IsEntry test from (node ∷ nodes) entry
entry_where test from node nodes entry true passes is later =
    subst (IsEntry test from (node ∷ nodes)) (same_Some (numbered from node) entry is)
    (record { place = 0; number = omega arith; there = refl; passes = passes })
entry_where test from node nodes entry false passes is later =
    let at = later is in
    record {
      place = suc at.place;
      number = (let same = at.number in omega (arith, same));
      there = at.there;
      passes = at.passes;
    }

entry_of : (test : ℕ × Node → Bool) (from : ℕ) (nodes : List Node) (entry : ℕ × Node) →
    find test (enumerate_from from nodes) ≡ Some entry → IsEntry test from nodes entry
entry_of test from [] entry is = cc
entry_of test from (node ∷ nodes) entry is =
    entry_where test from node nodes entry (test (numbered from node)) refl is (λ later.
    entry_of test (from + 1) nodes entry later)

-- what is found for the handle lives, on the mount, and has it
pub record IsHandled (state : State) (mount : ℕ) (handle : CFileHandle) (at : ℕ × Node) : Type 0 where
  pub there : IsThere state.nodes at
  on_mount : at.1.ids.mnt_id ≡ mount
  with_handle : at.1.has_handle ≡ true
  same : handle_of at.1 ≡ handle
  pub lives : HasHold state at.0

both_hold : (a b : Bool) → (a && b) ≡ true → (a ≡ true) × (b ≡ true)
both_hold true b is = (refl, is)
both_hold false b is = cc

same_fields : (one other : CFileHandle) → one.handle_type ≡ other.handle_type → one.bytes ≡ other.bytes → one ≡ other
same_fields one other kind bytes =
    ap (λ (t : ℤ). record one { handle_type = t }) kind ∙ ap (λ (b : List ℕ). record other { bytes = b }) bytes

is_same_handle : (one other : CFileHandle) → same_handle one other ≡ true → one ≡ other
is_same_handle one other is =
    let both = both_hold (int_eq one.handle_type other.handle_type) (bytes_eq one.bytes other.bytes) is in
    same_fields one other ((signed_Decides one.handle_type other.handle_type).0 both.0)
    ((bytes_eq-Decides one.bytes other.bytes).0 both.1)

found_ok : (held : Option (ℕ × Node)) (errno : Errno) (at : ℕ × Node) → ok_or held errno ≡ Ok at → held ≡ Some at
found_ok None errno at is = cc
found_ok (Some other) errno at is = (let e : other ≡ at = cc in ap (λ o. Some o) e)

handled_where : (state : State) (mount : ℕ) (handle : CFileHandle) (entry : ℕ × Node) → IsSound state →
    IsEntry (is_handled state mount handle) 0 state.nodes entry → IsHandled state mount handle entry
handled_where state mount handle entry sound at =
    let alive = both_hold ((entry.1.ids.mnt_id == mount) && entry.1.has_handle
    && same_handle (handle_of entry.1) handle) (is_alive state entry.0) at.passes in
    let same = both_hold ((entry.1.ids.mnt_id == mount)
    && entry.1.has_handle) (same_handle (handle_of entry.1) handle) alive.0 in
    let placed = both_hold (entry.1.ids.mnt_id == mount) entry.1.has_handle same.0 in
    let place : at.place ≡ entry.0 = (let number = at.number in omega (arith, number)) in
    let held : 0 < held_by state entry.0 = ltb-true 0 (held_by state entry.0) alive.1 in
    record {
      there = ap (slice_get state.nodes) (sym place) ∙ at.there;
      on_mount = eqb-true entry.1.ids.mnt_id mount placed.0;
      with_handle = placed.1;
      same = is_same_handle (handle_of entry.1) handle same.1;
      lives = held_lives state entry.0 sound held;
    }

pub handled_there : (state : State) (mount : ℕ) (handle : CFileHandle) (at : ℕ × Node) → IsSound state →
    handled state mount handle ≡ Some at → IsHandled state mount handle at
handled_there state mount handle at sound is =
    handled_where state mount handle at sound
    (entry_of (is_handled state mount handle) 0 state.nodes at is)

module _ (state : State) (seat : HostSeat) (fd : Fd) (handle : CFileHandle) (flags : OpenFlags)
    (sound : IsSound state) where
  by_handle_refuses : (errno : Errno) → IsFair state (call.OpenByHandle fd handle flags) (refused state errno)
  by_handle_refuses errno = fair_refused state (call.OpenByHandle fd handle flags) errno sound (tt, refl)

  has_handle : (file : OpenFile) (node : Node) (at : ℕ × Node) → open_at state.slots fd.0 ≡ Some file →
      slice_get state.nodes file.object ≡ Some node →
      IsHandled state node.ids.mnt_id handle at → HasHandle (tree_of state) fd handle at.0
  has_handle file node at is there held = record {
    on = file.object;
    place = object_of node;
    what = object_of at.1;
    opened = open_there state fd file is;
    is_place = slice_get-map object_of state.nodes file.object ∙ ap (option_map object_of) there;
    is_object = slice_get-map object_of state.nodes at.0 ∙ ap (option_map object_of) held.there;
    has = ap (λ b. handle_where b (handle_of at.1)) held.with_handle ∙ ap (λ (h : CFileHandle). Some h) held.same;
    same_mount = held.on_mount;
  }

  pub fair_by_handle : IsFair state (call.OpenByHandle fd handle flags) (open_by_handle state seat fd handle flags)
  fair_by_handle =
      by_fd state (IsFair state (call.OpenByHandle fd handle flags)) by_handle_refuses fd _
      (λ file node is there.
      by_checks state (IsFair state (call.OpenByHandle fd handle flags)) by_handle_refuses
      (handle_checks seat file) _
      (λ none. fair_open_walked state seat (call.OpenByHandle fd handle flags) flags
      (ok_or (handled state node.ids.mnt_id handle) estale) sound
      (λ errno led. (tt, refl))
      (λ at led.
      let held = handled_there state node.ids.mnt_id handle at sound
      (found_ok (handled state node.ids.mnt_id handle) estale at led) in (
        (held.there, held.lives),
        record {
          asks = refl;
          refuses = λ errno apart. (tt, refl);
          passes = λ new after opens. (at.0, has_handle file node at is there held, opens);
          fits = λ new. tt;
          empties = λ new after o e. e;
        },
      ))))
