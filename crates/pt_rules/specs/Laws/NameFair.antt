-- Proof. The calls that make and take names: what they leave of the tree and beside it.
use Rattle.std.proofs.Common.{◌≡◌, ◌≢◌, ◌<◌, ◌-◌, ◌%◌, ◌^◌, ◌==◌, ◌||◌, nat_lt, inl, inr, ℕ, Bool, true, false, not}
use Rattle.std.proofs.Common.{cond, List, [], length, Option, Some, None, is_some, option_and_then, option_map}
use Rattle.std.proofs.Common.{slice_get, refl, ap, sym, ◌∙◌, subst, arith}
use Rattle.std.proofs.lemmas.Bool.{ltb-false}
use Rattle.std.proofs.lemmas.Bool.Decides.{eqb_tells}
use Rattle.std.proofs.lemmas.List.{length-map}
use Rattle.std.proofs.lemmas.Nat.{and_le_l}
use Rattle.std.proofs.lemmas.Option.{same_Some}
use Rattle.pt_host.specs.Call.{Call}
use Rattle.pt_host.specs.Errno.{einval}
use Rattle.pt_host.specs.LawfulTree.{TreeChanges, LeadsTo}
use Rattle.pt_host.specs.Names.{MakesObject, TakesName}
use Rattle.pt_host.specs.Promises.{FitsCall}
use Rattle.pt_host.specs.Sorts.{opening_flags}
use Rattle.pt_host.specs.Tree.{IsOpenOn, OfFd, Tree}
use Rattle.pt_host.specs.declared.ids.Errno.{Errno}
use Rattle.pt_host.specs.declared.ids.Fd.{Fd}
use Rattle.pt_host.specs.declared.seat.HostSeat.{HostSeat}
use Rattle.pt_host.specs.declared.op.KeptHostOp.TheVariants as call
use Rattle.pt_host.specs.declared.reply.HostReply.TheVariants as reply
use Rattle.pt_host.specs.declared.reply.HostValue.{HostValue}
use Rattle.pt_host.specs.declared.reply.HostValue.TheVariants as value
use Rattle.pt_rules.specs.Beside.{IsAt, LeavesBeside, MayTouch}
use Rattle.pt_rules.specs.Calls.{done, name_refusal, refused, there_in}
use Rattle.pt_rules.specs.Edits.{made, with_made, with_unlinked}
use Rattle.pt_node.specs.Entries.{changed_at, is_directory_at, is_directory_where, touched, with_entry}
use Rattle.pt_rules.specs.Living.{AreLeastFree}
use Rattle.pt_node.specs.Limits.{name_max}
use Rattle.pt_node.specs.Names.{found}
use Rattle.pt_node.specs.Permission.{may}
use Rattle.pt_node.specs.declared.permission.Right.TheVariants.{Search}
use Rattle.pt_rules.specs.NameCalls.{content_of_kind, kind_bits, make_checks, make_dir, make_in_dir, make_node}
use Rattle.pt_rules.specs.NameCalls.{make_of_kind, make_symlink, masked, node_checks, remove_checks, remove_dir}
use Rattle.pt_rules.specs.NameCalls.{special_kind, symlink_checks, take_checks, unlink}
use Rattle.pt_node.specs.Node.{is_directory, name_at, names_in, object_of}
use Rattle.pt_node.specs.Slots.{open_at}
use Rattle.pt_rules.specs.Sound.{IsShort, IsSound}
use Rattle.pt_rules.specs.State.{State, contents_of, contents_where, time_of, tree_of}
use Rattle.pt_node.specs.declared.node.Node.{Node}
use Rattle.pt_node.specs.declared.node.Content.{Content}
use Rattle.pt_node.specs.declared.node.Content.TheVariants.{Directory, Regular, Link, Special}
use Rattle.pt_node.specs.declared.node.SpecialKind.{SpecialKind}
use Rattle.pt_node.specs.declared.slots.OpenFile.{OpenFile}
use Rattle.pt_node.specs.declared.slots.Slot.{Slot}
use Rattle.pt_rules.specs.Laws.Cases.{by_checks, by_found, by_name}
use Rattle.pt_rules.specs.Laws.Changed.{get-changed, length-changed}
use Rattle.pt_rules.specs.Laws.EditLaws.{makes_object, takes_name}
use Rattle.pt_rules.specs.Laws.EditSound.{sound_makes, sound_unlinked}
use Rattle.pt_rules.specs.Laws.Fair.{IsFair, fair_refused, no_flags, stays_same}
use Rattle.pt_rules.specs.Laws.Opens.{open_there}
use Rattle.pt_rules.specs.Laws.Outcomes.{Makes, Unlinks, none_there, passes_first}
use Rattle.pt_node.specs.Laws.Updates.{get-push_apart}

pub changed_other : (place : ℕ) (f : Node → Node) (nodes : List Node) (k : ℕ) → k ≢ place →
    slice_get (changed_at place f nodes) k ≡ slice_get nodes k
changed_other place f nodes k apart = get-changed place f nodes k ∙ elim (eqb_tells k place) [
  | inl e ↦ absurd (apart e.1)
  | inr other ↦ ap (λ b. cond b (option_map f (slice_get nodes place)) (slice_get nodes k)) other.0
]

-- the objects that the call may not change stay, and so do the descriptors
pub keeps_others : (state after : State) (asked : Call) (told : HostValue) → opening_flags asked ≡ None →
    after.slots ≡ state.slots →
    ((o : ℕ) → o < length state.nodes → (MayTouch (tree_of state) asked told (tree_of after) o → ⊥) →
    slice_get after.nodes o ≡ slice_get state.nodes o) →
    LeavesBeside (tree_of state) (contents_of state) asked (reply.Ok told) (tree_of after) (contents_of after)
keeps_others state after asked told opens slots same = record {
  objects = λ o within may.
      stays_same _ _ (ap contents_where (same o (subst (λ n. o < n) (length-map state.nodes object_of) within) may));
  openings = λ flags o asks within may. absurd (no_flags asked flags opens asks);
  emptied = λ flags o asks makes. absurd (no_flags asked flags opens asks);
  positions = λ k open_still may.
      ap (λ (table : List Slot). ((contents_of (record after { slots = table })).descriptions k).position) slots;
  accesses = λ k open_still.
      ap (λ (table : List Slot). ((contents_of (record after { slots = table })).descriptions k).access) slots;
  begins = λ flags fd asks is. absurd (no_flags asked flags opens asks);
}

-- a directory that is asked for a name is one
pub is_asked : (seat : HostSeat) (dir : Node) (name : List ℕ) → name_refusal seat dir name ≡ None →
    is_directory dir ≡ true
is_asked seat dir name none = not_not (is_directory dir) (passes_first (not (is_directory dir)) _ _ none).0
  where
    not_not : (b : Bool) → not b ≡ false → b ≡ true
    not_not true is = refl
    not_not false is = cc

pub asked_named : (seat : HostSeat) (dir : Node) (name : List ℕ) → name_refusal seat dir name ≡ None → IsShort name
asked_named seat dir name none =
    let within = passes_first (not (is_directory dir)) _ _ none in
    let short = passes_first (nat_lt name_max (length name)) _ _ within.1 in
    ltb-false name_max (length name) short.0

pub asked_there : (state : State) (seat : HostSeat) (object : ℕ) (dir : Node) (name : List ℕ) →
    slice_get state.nodes object ≡ Some dir →
    name_refusal seat dir name ≡ None → is_directory_at state.nodes object ≡ true
asked_there state seat object dir name there none = ap is_directory_where there ∙ is_asked seat dir name none

-- what the name leads to from the directory
pub there_at : (state : State) (object : ℕ) (dir : Node) (name : List ℕ) → slice_get state.nodes object ≡ Some dir →
    name_at state.nodes object name ≡ there_in dir name
there_at state object dir name there = ap (option_and_then (λ node. found name (names_in node.content))) there

-- ---- a new object

pub fair_makes : (state : State) (numbers : ℕ →
    ℕ) (asked : Call) (fd : Fd) (file : OpenFile) (after : State) (does : Makes state numbers after) → IsSound state →
    AreLeastFree state numbers → open_at state.slots fd.0 ≡ Some file → file.object ≡ does.dir →
    opening_flags asked ≡ None → FitsCall asked value.Unit →
    ((later : Tree) → OfFd (tree_of state) fd (λ dir. MakesObject (tree_of state) dir does.name later) →
    TreeChanges (tree_of state) asked (reply.Ok value.Unit) later) →
    ((later : Tree) (o : ℕ) → IsOpenOn (tree_of state) fd o → MayTouch (tree_of state) asked value.Unit later o) →
    IsFair state asked (done after)
fair_makes state numbers asked fd file after does sound least is at opens fits passes may =
    let on : IsOpenOn (tree_of state) fd does.dir =
    subst (IsOpenOn (tree_of state) fd) at (open_there state fd file is) in
    record {
      sound = λ few. sound_makes state numbers after sound least few does;
      changes = passes (tree_of after) (does.dir, on, makes_object state numbers after does);
      contents = subst (λ (s : State).
          LeavesBeside (tree_of state) (contents_of state) asked (reply.Ok value.Unit) (tree_of s) (contents_of s))
          (sym does.leaves)
          (keeps_others state (with_made state does.dir does.name does.node) asked value.Unit opens refl
          (λ o within none. same_others o within (λ e.
          none (may _ o (subst (IsOpenOn (tree_of state) fd) (sym e) on)))));
      allowed = λ faults. fits;
      faults = ap (λ (s : State). s.faults) does.leaves;
      fails = tt;
    }
  where
    same_others : (o : ℕ) → o < length state.nodes → (o ≡ does.dir → ⊥) →
        slice_get (with_made state does.dir does.name does.node).nodes o ≡ slice_get state.nodes o
    same_others o within apart =
        get-push_apart (changed_at does.dir _ state.nodes) does.node o
        (λ e. let long = length-changed does.dir (λ parent.
        touched (time_of state)
        (with_entry does.name (length state.nodes) parent)) state.nodes in
        absurd (omega arith))
        ∙ changed_other does.dir _ state.nodes o apart

pub small_masked : (seat : HostSeat) (mode : ℕ) → masked seat mode < 4096
small_masked seat mode = let less = and_le_l (mode % 4096) (2 ^ 32 - 1 - seat.umask) in omega arith

-- an object that is made in the directory of the descriptor, under a name that is free
pub fair_new : (state : State) (numbers : ℕ →
    ℕ) (seat : HostSeat) (asked : Call) (fd : Fd) (name : List ℕ) (permissions rdev : ℕ) (content : Content)
    (file : OpenFile) (dir : Node) → IsSound state → AreLeastFree state numbers → permissions < 4096 →
    names_in content ≡ [] → opening_flags asked ≡ None →
    FitsCall asked value.Unit →
    ((later : Tree) → OfFd (tree_of state) fd (λ dir. MakesObject (tree_of state) dir name later) →
    TreeChanges (tree_of state) asked (reply.Ok value.Unit) later) →
    ((later : Tree) (o : ℕ) → IsOpenOn (tree_of state) fd o → MayTouch (tree_of state) asked value.Unit later o) →
    open_at state.slots fd.0 ≡ Some file → slice_get state.nodes file.object ≡ Some dir →
    name_refusal seat dir name ≡ None → there_in dir name ≡ None →
    IsFair state asked (make_in_dir state numbers seat file.object name permissions rdev content dir)
fair_new state numbers seat asked fd name permissions rdev content file dir sound least small empty opens fits passes
    may is there asks free =
    let node = made state numbers permissions seat.eff_uid seat.eff_gid rdev content dir in
    fair_makes state numbers asked fd file (with_made state file.object name node) (record {
      dir = file.object;
      name = name;
      node = node;
      parent = dir;
      into = asked_there state seat file.object dir name there asks;
      free = there_at state file.object dir name there ∙ free;
      at_dir = there;
      empty = empty;
      bare = refl;
      serial = refl;
      small = small;
      good = asked_named seat dir name asks;
      number = refl;
      leaves = refl;
    }) sound least is refl opens fits passes may

pub fair_make_dir : (state : State) (numbers : ℕ → ℕ) (seat : HostSeat) (fd : Fd) (name : List ℕ) (mode : ℕ) →
    IsSound state → AreLeastFree state numbers →
    IsFair state (call.MakeDir fd name mode) (make_dir state numbers seat fd name mode)
fair_make_dir state numbers seat fd name mode sound least =
    by_name state (IsFair state (call.MakeDir fd name mode)) refuses seat fd name _
    (λ file dir is there asks.
    by_checks state (IsFair state (call.MakeDir fd name mode)) refuses (make_checks seat dir name) _
    (λ none. fair_new state numbers seat (call.MakeDir fd name mode) fd name (masked seat mode) 0
    (Directory []) file dir sound least (small_masked seat mode) refl refl tt
    (λ later makes. makes) (λ later o on.
    on) is there asks (none_there (there_in dir name) (passes_first (is_some (there_in dir name)) _ _ none).0)))
  where
    refuses : (errno : Errno) → IsFair state (call.MakeDir fd name mode) (refused state errno)
    refuses errno = fair_refused state (call.MakeDir fd name mode) errno sound (tt, refl)

-- ---- MakeNode

no_names_where : (b : Bool) (kind : Option SpecialKind) (content : Content) →
    cond b (Some (Regular [])) (option_map (λ special. Special special) kind) ≡ Some content → names_in content ≡ []
no_names_where true kind content is = sym (ap names_in (same_Some (Regular []) content is))
no_names_where false None content is = cc
no_names_where false (Some special) content is = sym (ap names_in (same_Some (Special special) content is))

pub fair_make_node : (state : State) (numbers : ℕ → ℕ) (seat : HostSeat) (fd : Fd) (name : List ℕ) (mode rdev : ℕ) →
    IsSound state → AreLeastFree state numbers →
    IsFair state (call.MakeNode fd name mode rdev) (make_node state numbers seat fd name mode rdev)
fair_make_node state numbers seat fd name mode rdev sound least =
    by_name state (IsFair state (call.MakeNode fd name mode rdev)) refuses seat fd name _
    (λ file dir is there asks.
    by_checks state (IsFair state (call.MakeNode fd name mode rdev)) refuses
    (node_checks seat dir name (kind_bits mode)) _
    (λ none. of_kind file dir is there asks
    (none_there (there_in dir name) (passes_first (is_some (there_in dir name)) _ _ none).0)
    (content_of_kind (kind_bits mode)) refl))
  where
    refuses : (errno : Errno) → IsFair state (call.MakeNode fd name mode rdev) (refused state errno)
    refuses errno = fair_refused state (call.MakeNode fd name mode rdev) errno sound (tt, refl)

    of_kind : (file : OpenFile) (dir : Node) → open_at state.slots fd.0 ≡ Some file →
        slice_get state.nodes file.object ≡ Some dir →
        name_refusal seat dir name ≡ None → there_in dir name ≡ None → (content : Option Content) →
        content_of_kind (kind_bits mode) ≡ content →
        IsFair state (call.MakeNode fd name mode rdev)
        (make_of_kind state numbers seat file.object name (masked seat mode) rdev content dir)
    of_kind file dir is there asks free None kind = refuses einval
    of_kind file dir is there asks free (Some content) kind =
        fair_new state numbers seat (call.MakeNode fd name mode rdev) fd name
        (masked seat mode) rdev content file dir sound least (small_masked seat mode)
        (no_names_where ((kind_bits mode == 0)
        || (kind_bits mode == 8)) (special_kind (kind_bits mode)) content kind) refl tt
        (λ later makes. makes) (λ later o on. on) is there asks free

-- ---- SymLink

pub fair_symlink : (state : State) (numbers : ℕ → ℕ) (seat : HostSeat) (fd : Fd) (name target : List ℕ) →
    IsSound state → AreLeastFree state numbers →
    IsFair state (call.SymLink fd name target) (make_symlink state numbers seat fd name target)
fair_symlink state numbers seat fd name target sound least =
    by_name state (IsFair state (call.SymLink fd name target)) refuses seat fd name _
    (λ file dir is there asks.
    by_checks state (IsFair state (call.SymLink fd name target)) refuses (symlink_checks seat dir name target) _
    (λ none. fair_new state numbers seat (call.SymLink fd name target) fd name 511 0
    (Link target) file dir sound least (omega arith) refl refl tt
    (λ later makes. makes) (λ later o on. on) is there asks
    (none_there (there_in dir name) (passes_first (is_some (there_in dir name)) _ _
    (passes_first (nat_lt 4095 (length target)) _ _ (passes_first (length target == 0) _ _ none).1).1).0)))
  where
    refuses : (errno : Errno) → IsFair state (call.SymLink fd name target) (refused state errno)
    refuses errno = fair_refused state (call.SymLink fd name target) errno sound (tt, refl)

-- ---- Unlink, RemoveDir

pub fair_takes : (state : State) (asked : Call) (fd : Fd) (file : OpenFile) (after : State)
    (does : Unlinks state after) → IsSound state →
    open_at state.slots fd.0 ≡ Some file → file.object ≡ does.dir → opening_flags asked ≡ None →
    FitsCall asked value.Unit →
    ((later : Tree) → OfFd (tree_of state) fd (λ dir. TakesName (tree_of state) dir does.name later) →
    TreeChanges (tree_of state) asked (reply.Ok value.Unit) later) →
    ((later : Tree) (o : ℕ) → IsAt (tree_of state) fd does.name o →
    MayTouch (tree_of state) asked value.Unit later o) → IsFair state asked (done after)
fair_takes state asked fd file after does sound is at opens fits passes may =
    let on : IsOpenOn (tree_of state) fd does.dir =
    subst (IsOpenOn (tree_of state) fd) at (open_there state fd file is) in
    record {
      sound = λ few. subst IsSound (sym does.leaves) (sound_unlinked state does.dir does.name does.object sound);
      changes = passes (tree_of after) (does.dir, on, takes_name state after sound does);
      contents = subst (λ (s : State).
          LeavesBeside (tree_of state) (contents_of state) asked (reply.Ok value.Unit) (tree_of s) (contents_of s))
          (sym does.leaves)
          (keeps_others state (with_unlinked state does.dir does.name does.object) asked value.Unit opens refl
          (λ o within none.
          changed_other does.object _ (changed_at does.dir _ state.nodes) o
          (λ e. none (may _ o
          (inr (subst (λ k. LeadsTo (tree_of state) fd does.name k) (sym e) (does.dir, on, does.there)))))
          ∙ changed_other does.dir _ state.nodes o (λ e.
          none (may _ o (inl (subst (IsOpenOn (tree_of state) fd) (sym e) on))))));
      allowed = λ faults. fits;
      faults = ap (λ (s : State). s.faults) does.leaves;
      fails = tt;
    }

pub fair_unlink : (state : State) (seat : HostSeat) (fd : Fd) (name : List ℕ) → IsSound state →
    IsFair state (call.Unlink fd name) (unlink state seat fd name)
fair_unlink state seat fd name sound =
    by_name state (IsFair state (call.Unlink fd name)) refuses seat fd name _
    (λ file dir is there asks. by_found state (IsFair state (call.Unlink fd name)) refuses (there_in dir name) _
    (λ object node found_there at_node.
    by_checks state (IsFair state (call.Unlink fd name)) refuses (take_checks seat dir node) _
    (λ none. fair_takes state (call.Unlink fd name) fd file (with_unlinked state file.object name object) (record {
      dir = file.object;
      name = name;
      object = object;
      there = there_at state file.object dir name there ∙ found_there;
      leaves = refl;
    }) sound is refl refl tt (λ later takes. takes) (λ later o at. at))))
  where
    refuses : (errno : Errno) → IsFair state (call.Unlink fd name) (refused state errno)
    refuses errno = fair_refused state (call.Unlink fd name) errno sound (tt, refl)

pub fair_remove_dir : (state : State) (seat : HostSeat) (fd : Fd) (name : List ℕ) → IsSound state →
    IsFair state (call.RemoveDir fd name) (remove_dir state seat fd name)
fair_remove_dir state seat fd name sound =
    by_name state (IsFair state (call.RemoveDir fd name)) refuses seat fd name _
    (λ file dir is there asks. by_found state (IsFair state (call.RemoveDir fd name)) refuses (there_in dir name) _
    (λ object node found_there at_node.
    by_checks state (IsFair state (call.RemoveDir fd name)) refuses (remove_checks seat dir node) _
    (λ none. fair_takes state (call.RemoveDir fd name) fd file (with_unlinked state file.object name object) (record {
      dir = file.object;
      name = name;
      object = object;
      there = there_at state file.object dir name there ∙ found_there;
      leaves = refl;
    }) sound is refl refl tt (λ later takes. takes) (λ later o at. at))))
  where
    refuses : (errno : Errno) → IsFair state (call.RemoveDir fd name) (refused state errno)
    refuses errno = fair_refused state (call.RemoveDir fd name) errno sound (tt, refl)
