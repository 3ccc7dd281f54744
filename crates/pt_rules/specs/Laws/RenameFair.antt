-- Proof. `Rename`: a name is moved, or two names are exchanged, and what that leaves beside the names.
use Rattle.std.proofs.Common.{◌≡◌, ◌≢◌, ◌<◌, ◌≤◌, ◌^◌, ◌==◌, ◌&&◌, ◌||◌, ◌⊎◌, inl, inr, ℕ, Bool, true, false, not}
use Rattle.std.proofs.Common.{cond, List, length, map, Option, Some, None, is_none, is_some, option_map, slice_get}
use Rattle.std.proofs.Common.{refl, ap, sym, ◌∙◌, subst, arith, nat_lt}
use Rattle.std.proofs.lemmas.Bool.{eqb-true, ltb-false}
use Rattle.std.proofs.lemmas.Bool.Decides.{eqb_tells}
use Rattle.std.proofs.lemmas.Option.{same_Some}
use Rattle.pt_host.specs.LawfulTree.{LeadsTo}
use Rattle.pt_host.specs.Names.{ExchangesNames, MovesName, Renames}
use Rattle.pt_host.specs.Tree.{IsOpenOn}
use Rattle.pt_host.specs.Errno.{einval}
use Rattle.pt_host.specs.declared.ids.Errno.{Errno}
use Rattle.pt_host.specs.declared.ids.Fd.{Fd}
use Rattle.pt_host.specs.declared.ids.Time.{Time}
use Rattle.pt_host.specs.declared.seat.HostSeat.{HostSeat}
use Rattle.pt_host.specs.declared.op.KeptHostOp.TheVariants as call
use Rattle.pt_host.specs.declared.reply.HostValue.TheVariants as value
use Rattle.pt_rules.specs.Beside.{IsAt}
use Rattle.pt_rules.specs.Calls.{checked, done, refused, there_in}
use Rattle.pt_rules.specs.EditPaths.{Place}
use Rattle.pt_rules.specs.Edits.{moved, on_placed, rename_onto, replace_checks, replaced, with_moved}
use Rattle.pt_node.specs.Entries.{is_directory_at, restamped}
use Rattle.pt_rules.specs.NameCalls.{cannot_write, exchange, exchanged, moves_into_itself, noreplace, rename}
use Rattle.pt_rules.specs.NameCalls.{rename_checks, rename_found, rename_to, with_exchanged}
use Rattle.pt_node.specs.Node.{name_at, object_of}
use Rattle.pt_node.specs.Opening.{first_refusal}
use Rattle.pt_node.specs.Paths.{led_on}
use Rattle.pt_node.specs.Slots.{open_at}
use Rattle.pt_rules.specs.Sound.{IsShort, IsSound}
use Rattle.pt_rules.specs.State.{State, time_of, tree_of}
use Rattle.pt_node.specs.declared.node.Node.{Node}
use Rattle.pt_node.specs.declared.slots.OpenFile.{OpenFile}
use Rattle.pt_rules.specs.Laws.Cases.{by_checks, by_fd, by_found, by_name}
use Rattle.pt_rules.specs.Laws.Changed.{led, led_same, objects-changed, same_tree}
use Rattle.pt_rules.specs.Laws.EditLaws.{moves_name}
use Rattle.pt_rules.specs.Laws.EditShapes.{first, object_gained, second, third}
use Rattle.pt_rules.specs.Laws.EditSound.{sound_moved}
use Rattle.pt_rules.specs.Laws.Fair.{IsFair, fair_refused}
use Rattle.pt_rules.specs.Laws.NameFair.{asked_named, asked_there, changed_other, keeps_others, there_at}
use Rattle.pt_rules.specs.Laws.NamesLed.{names_exchanged, put_back, put_there, sound_exchanged, with_both, with_one}
use Rattle.pt_rules.specs.Laws.NamesLed.{with_stamp}
use Rattle.pt_rules.specs.Laws.Opens.{open_there}
use Rattle.pt_rules.specs.Laws.Outcomes.{MovesTo, RenamesEntry as Moved, passes_first, target_is}

-- ---- two names exchanged

module _ (now : Time) (from to : ℕ × List ℕ) (object other : ℕ) (nodes : List Node) where
  abbrev stamped : List Node
  stamped = with_stamp now from to object other nodes

  abbrev crossed : List Node
  crossed = with_both now from to object other nodes

  abbrev given : List Node
  given = with_one now from to object other nodes

  objects_exchanged : map object_of (exchanged now from to object other nodes) ≡ map object_of nodes
  objects_exchanged =
      objects-changed other (restamped now) stamped (λ node is. refl)
      ∙ objects-changed object (restamped now) crossed (λ node is. refl)
      ∙ objects-changed from.0 (put_back now from to object other nodes) given
      (λ node is. object_gained now from.1 other node)
      ∙ objects-changed to.0 (put_there now from to object other nodes) nodes
      (λ node is. object_gained now to.1 object node)

  -- none else is changed
  exchanged_other : (o : ℕ) → o ≢ from.0 → o ≢ to.0 → o ≢ object → o ≢ other →
      slice_get (exchanged now from to object other nodes) o ≡ slice_get nodes o
  exchanged_other o a b c d =
      changed_other other (restamped now) stamped o d ∙ changed_other object (restamped now) crossed o c
      ∙ changed_other from.0 (put_back now from to object other nodes) given o a
      ∙ changed_other to.0 (put_there now from to object other nodes) nodes o b

-- ---- one name moved

replaced_other : (now : Time) (target : Option ℕ) (nodes : List Node) (o : ℕ) → target ≢ Some o →
    slice_get (replaced now target nodes) o ≡ slice_get nodes o
replaced_other now None nodes o apart = refl
replaced_other now (Some target) nodes o apart =
    changed_other target (restamped now) nodes o (λ e. apart (ap (λ k. Some k) (sym e)))

moved_other : (now : Time) (from to : ℕ × List ℕ) (object : ℕ) (target : Option ℕ) (nodes : List Node) (o : ℕ) →
    o ≢ from.0 → o ≢ to.0 → o ≢ object →
    target ≢ Some o → slice_get (moved now from to object target nodes) o ≡ slice_get nodes o
moved_other now from to object target nodes o a b c d =
    changed_other object (restamped now) (third now from to object target nodes) o c
    ∙ changed_other from.0 _ (second now from to object target nodes) o a
    ∙ replaced_other now target (first now from to object target nodes) o d
    ∙ changed_other to.0 _ nodes o b

-- ---- what is refused

-- a name that is not to be replaced is free, and one to be exchanged is there
pub record FitsFlags (target : Option ℕ) (flags : ℕ) : Type 0 where
  pub keeps : flags ≡ 1 → target ≡ None
  pub trades : flags ≡ 2 → is_none target ≡ false

second_false : (a b : Bool) → a ≡ true → (a && b) ≡ false → b ≡ false
second_false true b is none = none
second_false false b is none = cc

second_holds : (a b : Bool) → (a && b) ≡ true → b ≡ true
second_holds true b is = is
second_holds false b is = cc

other_than : (m n : ℕ) → (m == n) ≡ false → m ≢ n
other_than m n is same = (let e : true ≡ false = sym (ap (λ k. k == n) same ∙ equal n) ∙ is in cc)
  where
    equal : (n : ℕ) → (n == n) ≡ true
    equal n = elim (eqb_tells n n) [ inl e ↦ e.0 | inr apart ↦ absurd (apart.1 refl) ]

fits_flags : (into_itself : Bool) (seat : HostSeat) (from to node : Node) (target : Option (ℕ × Node)) (flags : ℕ) →
    first_refusal (rename_checks into_itself seat from to node target flags) ≡ None →
    FitsFlags (option_map (λ (at : ℕ × Node). at.0) target) flags
fits_flags into_itself seat from to node target flags none =
    let writes = passes_first (cannot_write seat from || cannot_write seat to) _ _ none in
    let mount = passes_first (not (from.ids.mnt_id == to.ids.mnt_id)) _ _ writes.1 in
    let there = passes_first ((flags == noreplace) && is_some target) _ _ mount.1 in
    let absent = passes_first ((flags == exchange) && is_none target) _ _ there.1 in
    record {
      keeps = λ one. none_led target
          (second_false (flags == noreplace) (is_some target) (ap (λ n. n == noreplace) one) there.0);
      trades = λ two. some_led target
          (second_false (flags == exchange) (is_none target) (ap (λ n. n == exchange) two) absent.0);
    }
  where
    none_led : (target : Option (ℕ × Node)) → is_some target ≡ false →
        option_map (λ (at : ℕ × Node). at.0) target ≡ None
    none_led None is = refl
    none_led (Some at) is = cc

    some_led : (target : Option (ℕ × Node)) → is_none target ≡ false →
        is_none (option_map (λ (at : ℕ × Node). at.0) target) ≡ false
    some_led None is = cc
    some_led (Some at) is = refl

-- ---- the call, from one name to another

module _ (state : State) (seat : HostSeat) (fd : Fd) (name : List ℕ) (fd2 : Fd) (name2 : List ℕ) (flags : ℕ)
    (sound : IsSound state)
    (file file2 : OpenFile) (is : open_at state.slots fd.0 ≡ Some file) (too : open_at state.slots fd2.0 ≡ Some file2)
    (out : is_directory_at state.nodes file.object ≡ true) (into : is_directory_at state.nodes file2.object
    ≡ true) (good : IsShort name2) where
  abbrev from : ℕ × List ℕ
  from = (file.object, name)

  abbrev to : ℕ × List ℕ
  to = (file2.object, name2)

  on : IsOpenOn (tree_of state) fd file.object
  on = open_there state fd file is

  on_other : IsOpenOn (tree_of state) fd2 file2.object
  on_other = open_there state fd2 file2 too

  -- what the call may change of an object that it does not name
  abbrev Unnamed : ℕ → Type 0
  Unnamed o = IsAt (tree_of state) fd name o ⊎ IsAt (tree_of state) fd2 name2 o → ⊥

  apart_from : (o : ℕ) → Unnamed o → o ≢ file.object
  apart_from o none same = none (inl (inl (subst (IsOpenOn (tree_of state) fd) (sym same) on)))

  apart_to : (o : ℕ) → Unnamed o → o ≢ file2.object
  apart_to o none same = none (inr (inl (subst (IsOpenOn (tree_of state) fd2) (sym same) on_other)))

  apart_object : (object o : ℕ) → name_at state.nodes file.object name ≡ Some object → Unnamed o → o ≢ object
  apart_object object o there none same =
      none (inl (inr (subst (LeadsTo (tree_of state) fd name) (sym same) (file.object, on, there))))

  apart_target : (target : Option ℕ) (o : ℕ) → name_at state.nodes file2.object name2 ≡ target → Unnamed o →
      target ≢ Some o
  apart_target target o at none same = none (inr (inr (file2.object, on_other, at ∙ same)))

  -- what is to be shown of the state that the call leaves
  fair_renamed : (after : State) → (length after.nodes < 2 ^ 63 → IsSound after) →
      Renames (tree_of state) file.object name file2.object name2 flags (tree_of after) →
      after.slots ≡ state.slots → after.faults ≡ state.faults →
      ((o : ℕ) → Unnamed o → slice_get after.nodes o ≡ slice_get state.nodes o) →
      IsFair state (call.Rename fd name fd2 name2 flags) (done after)
  fair_renamed after still renames slots faults others = record {
    sound = still;
    changes = (file.object, on, (file2.object, on_other, renames));
    contents = keeps_others state after (call.Rename fd name fd2 name2 flags) value.Unit refl slots (λ o within none.
        others o none);
    allowed = λ n. tt;
    faults = faults;
    fails = tt;
  }

  module _ (object : ℕ) (there : name_at state.nodes file.object name ≡ Some object) where
    -- a name that is moved, as the flags let it be
    moves_at : (target : Option ℕ) (after : State) → name_at state.nodes file2.object name2 ≡ target →
        MovesTo state from to object target after →
        MovesName (tree_of state) file.object name file2.object name2 (tree_of after)
    moves_at target after at moves =
        let does : Moved state after =
        record {
          from = from;
          to = to;
          object = object;
          target = target;
          there = there;
          into = into;
          good = good;
          at_target = at;
          moves = moves;
        } in
        moves_name state after sound does

    by_flags : (target : Option ℕ) (after : State) → flags ≤ 2 → FitsFlags target flags →
        name_at state.nodes file2.object name2 ≡ target →
        (flags ≡ 2 → ExchangesNames (tree_of state) file.object name file2.object name2 (tree_of after)) →
        MovesTo state from to object target after →
        Renames (tree_of state) file.object name file2.object name2 flags (tree_of after)
    by_flags target after few fits at exchanges moves = elim (eqb_tells flags 0) [
      | inl zero ↦ inl (zero.1, moves_at target after at moves)
      | inr some ↦ elim (eqb_tells flags 1) [
        | inl one ↦ inr (inl (one.1, at ∙ fits.keeps one.1, moves_at target after at moves))
        | inr more ↦ (let two : flags ≡ 2 = (let a = some.1 in let b = more.1 in omega arith) in
            inr (inr (two, exchanges two)))
      ]
    ]

    fair_moved : (target : Option ℕ) → flags ≤ 2 → flags ≢ 2 → FitsFlags target flags →
        name_at state.nodes file2.object name2 ≡ target → target ≢ Some object →
        IsFair state (call.Rename fd name fd2 name2 flags) (done (with_moved state from to object target))
    fair_moved target few other fits at apart =
        fair_renamed (with_moved state from to object target)
        (λ n. sound_moved state from to object target sound good there into)
        (by_flags target (with_moved state from to object target) few fits at (λ two.
        absurd (other two)) (inr (apart, refl)))
        refl refl
        (λ o none. moved_other (time_of state) from to object target state.nodes o (apart_from o none) (apart_to o none)
        (apart_object object o there none) (apart_target target o at none))

    -- both names lead to one object
    fair_same_object : flags ≤ 2 → FitsFlags (Some object) flags →
        name_at state.nodes file2.object name2 ≡ Some object →
        IsFair state (call.Rename fd name fd2 name2 flags) (done state)
    fair_same_object few fits at =
        fair_renamed state (λ n. sound)
        (by_flags (Some object) state few fits at
        (λ two. record {
          object = object;
          another = object;
          there = there;
          also = at;
          exchanges = ap (λ (names : ℕ → List ℕ → Option ℕ). record (tree_of state) { names = names })
              (sym (ap (led file.object name (Some object))
              (led_same file2.object name2 (Some object) (name_at state.nodes) at)
              ∙ led_same file.object name (Some object) (name_at state.nodes) there));
        })
        (inl (refl, refl))) refl refl (λ o none. refl)

    fair_exchanged : (other : ℕ) → flags ≡ 2 → name_at state.nodes file2.object name2 ≡ Some other →
        IsFair state (call.Rename fd name fd2 name2 flags) (done (with_exchanged state from to object other))
    fair_exchanged other two at =
        fair_renamed (with_exchanged state from to object other)
        (λ n. sound_exchanged state from to object other sound there at)
        (inr (inr (
          two,
          record {
            object = object;
            another = other;
            there = there;
            also = at;
            exchanges = same_tree _ _ _ _ _ _ (objects_exchanged (time_of state) from to object other state.nodes)
                (names_exchanged (time_of state) from to object other state.nodes there at) refl;
          },
        )))
        refl refl
        (λ o none. exchanged_other (time_of state) from to object other state.nodes o (apart_from o none)
        (apart_to o none)
        (apart_object object o there none) (λ same. apart_target (Some other) o at none (ap (λ k. Some k) (sym same))))

    rename_refuses : (errno : Errno) → IsFair state (call.Rename fd name fd2 name2 flags) (refused state errno)
    rename_refuses errno = fair_refused state (call.Rename fd name fd2 name2 flags) errno sound (tt, refl)

    -- another object has to make way, unless both names lead to one
    fair_onto : (node : Node) (other : ℕ × Node) → flags ≤ 2 → FitsFlags (Some other.0) flags →
        name_at state.nodes file2.object name2 ≡ Some other.0 → (same : Bool) →
        (other.0 == object) ≡ same → (not same && (flags == exchange)) ≡ false →
        IsFair state (call.Rename fd name fd2 name2 flags)
        (cond same (done state)
        (checked state (replace_checks node other.1) (done (with_moved state from to object (Some other.0)))))
    fair_onto node other few fits at true is trades =
        let same : other.0 ≡ object = eqb-true other.0 object is in
        fair_same_object few (subst (λ o. FitsFlags (Some o) flags) same fits) (at ∙ ap (λ o. Some o) same)
    fair_onto node other few fits at false is trades =
        by_checks state (IsFair state (call.Rename fd name fd2 name2 flags)) rename_refuses
        (replace_checks node other.1)
        (done (with_moved state from to object (Some other.0)))
        (λ none. fair_moved (Some other.0) few (other_than flags exchange trades) fits at
        (λ same. other_than other.0 object is (same_Some other.0 object same)))

    fair_traded : (node : Node) (other : ℕ × Node) → flags ≤ 2 → FitsFlags (Some other.0) flags →
        name_at state.nodes file2.object name2 ≡ Some other.0 → (trades : Bool) →
        (not (other.0 == object) && (flags == exchange)) ≡ trades →
        IsFair state (call.Rename fd name fd2 name2 flags)
        (cond trades (done (with_exchanged state from to object other.0))
        (rename_onto state from to object node (Some other)))
    fair_traded node other few fits at true is =
        fair_exchanged other.0
        (eqb-true flags exchange (second_holds (not (other.0 == object)) (flags == exchange) is)) at
    fair_traded node other few fits at false is = fair_onto node other few fits at (other.0 == object) refl is

    fair_to : (node : Node) (target : Option (ℕ × Node)) → flags ≤ 2 →
        FitsFlags (option_map (λ (at : ℕ × Node). at.0) target) flags →
        name_at state.nodes file2.object name2 ≡ option_map (λ (at : ℕ × Node). at.0) target →
        IsFair state (call.Rename fd name fd2 name2 flags) (rename_to state from to object node target flags)
    fair_to node None few fits at =
        fair_moved None few (λ two. (let e : true ≡ false = fits.trades two in cc)) fits at (λ same. cc)
    fair_to node (Some other) few fits at =
        fair_traded node other few fits at (not (other.0 == object) && (flags == exchange)) refl

  -- both directories are there
  module _ (dir dir2 : Node) (there : slice_get state.nodes file.object ≡ Some dir)
      (there2 : slice_get state.nodes file2.object ≡ Some dir2) where
    abbrev place : Place
    place = ((file.object, dir), name)

    abbrev place2 : Place
    place2 = ((file2.object, dir2), name2)

    fair_rename_found : (object : ℕ) (node : Node) → flags ≤ 2 → name_at state.nodes file.object name ≡ Some object →
        IsFair state (call.Rename fd name fd2 name2 flags)
        (rename_found state seat place place2 flags object node (led_on state.nodes (there_in dir2 name2)))
    fair_rename_found object node few leads =
        let target = led_on state.nodes (there_in dir2 name2) in
        by_checks state (IsFair state (call.Rename fd name fd2 name2 flags)) (λ errno.
        fair_refused state (call.Rename fd name fd2 name2 flags) errno sound (tt, refl))
        (rename_checks (moves_into_itself state.nodes file.object file2.object object target flags) seat dir dir2 node
        target flags)
        (rename_to state from to object node target flags)
        (λ none. fair_to object leads node target few
        (fits_flags (moves_into_itself state.nodes file.object file2.object object target flags) seat dir dir2 node
        target flags none) (target_is state place2 target sound there2 refl))

    fair_between : (unknown : Bool) → nat_lt exchange flags ≡ unknown →
        IsFair state (call.Rename fd name fd2 name2 flags)
        (cond unknown (refused state einval)
        (on_placed state place (λ object node.
        rename_found state seat place place2 flags object node (led_on state.nodes (there_in dir2 name2)))))
    fair_between true is = fair_refused state (call.Rename fd name fd2 name2 flags) einval sound (tt, refl)
    fair_between false is =
        by_found state (IsFair state (call.Rename fd name fd2 name2 flags)) (λ errno.
        fair_refused state (call.Rename fd name fd2 name2 flags) errno sound (tt, refl)) (there_in dir name) _
        (λ object node leads at. fair_rename_found object node (ltb-false exchange flags is)
        (there_at state file.object dir name there ∙ leads))

module _ (state : State) (seat : HostSeat) (fd : Fd) (name : List ℕ) (fd2 : Fd) (name2 : List ℕ) (flags : ℕ)
    (sound : IsSound state) where
  refuses : (errno : Errno) → IsFair state (call.Rename fd name fd2 name2 flags) (refused state errno)
  refuses errno = fair_refused state (call.Rename fd name fd2 name2 flags) errno sound (tt, refl)

  pub fair_rename : IsFair state (call.Rename fd name fd2 name2 flags) (rename state seat fd name fd2 name2 flags)
  fair_rename =
      by_fd state (IsFair state (call.Rename fd name fd2 name2 flags)) refuses fd2 _
      (λ other another open_first there_first.
      by_name state (IsFair state (call.Rename fd name fd2 name2 flags)) refuses seat fd name _
      (λ file dir is there asks.
      by_name state (IsFair state (call.Rename fd name fd2 name2 flags)) refuses seat fd2 name2 _
      (λ file2 dir2 too there2 asks2. fair_between state seat fd name fd2 name2 flags sound file file2 is too
      (asked_there state seat file.object dir name there asks)
      (asked_there state seat file2.object dir2 name2 there2 asks2) (asked_named seat dir2 name2 asks2)
      dir dir2 there there2 (nat_lt exchange flags) refl)))
