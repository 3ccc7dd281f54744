-- A store whose tree is described line by line goes on knowing what lives, and gives the numbers of each device
-- without a gap.
use Rattle.std.proofs.Common.{◌≡◌, ◌<◌, ◌+◌, ◌^◌, ◌==◌, inl, inr, ℕ, suc, Bool, true, false, cond, eqb, List, [], ◌∷◌}
use Rattle.std.proofs.Common.{◌++◌, length, Some, None, slice_get, slice_set, refl, ap, sym, ◌∙◌, subst, arith}
use Rattle.std.specs.Prelude.{count_by, slice_index}
use Rattle.std.proofs.lemmas.Bool.{true≢false}
use Rattle.std.proofs.lemmas.Bool.Decides.{eqb_tells}
use Rattle.std.proofs.lemmas.List.{length_push}
use Rattle.std.proofs.lemmas.List.Folds.{position_or_len_push}
use Rattle.std.proofs.lemmas.List.Sums.{sum_by-cons, sum_by_push}
use Rattle.std.proofs.lemmas.Option.{same_Some}
use Rattle.pt_host.specs.Words.{set_at}
use Rattle.pt_rules.specs.Edits.{with_made}
use Rattle.pt_node.specs.Entries.{is_directory_at}
use Rattle.pt_store.specs.Kept.{IsKept}
use Rattle.pt_node.specs.Numbers.{Counts, having, raised, weight}
use Rattle.pt_rules.specs.Holds.{HasHold}
use Rattle.pt_node.specs.Mounts.{has_device}
use Rattle.pt_rules.specs.NameCalls.{with_linked}
use Rattle.pt_node.specs.Node.{is_directory, name_at, names_in}
use Rattle.pt_node.specs.Slots.{is_free, least_free, put_at}
use Rattle.pt_node.specs.Attributes.{with_value}
use Rattle.pt_rules.specs.Building.{next_number, with_xattr}
use Rattle.pt_rules.specs.Sound.{IsShort}
use Rattle.pt_rules.specs.State.{State, time_of}
use Rattle.pt_store.specs.StoreState.{IsDense, IsStarted}
use Rattle.pt_node.specs.declared.node.Node.{Node}
use Rattle.pt_node.specs.declared.slots.Slot.{Slot}
use Rattle.pt_node.specs.declared.slots.Slot.TheVariants.{Open}
use Rattle.pt_rules.specs.Laws.Changed.{AreAlike, alike_changed}
use Rattle.pt_rules.specs.Laws.EditShapes.{alike_entered, entered}
use Rattle.pt_rules.specs.Laws.NameTable.{ordered-named}
use Rattle.pt_rules.specs.Laws.NamesLed.{alike_linked}
use Rattle.pt_node.specs.Laws.Updates.{get-push_cases, put_end}
use Rattle.pt_store.proofs.Counting.{once_more}
use Rattle.pt_store.proofs.KeptCalls.{kept_changed}
use Rattle.pt_store.proofs.KeptLinks.{kept_linked}
use Rattle.pt_store.proofs.KeptMade.{given, kept_made, nested_made}
use Rattle.pt_store.proofs.Weighing.{counted}

abbrev is_on : ℕ → Node → Bool
is_on dev node = node.ids.dev == dev

pub started_as : (state after : State) (holds held : Counts) (tables others : ℕ → List Slot) → after ≡ state →
    held ≡ holds → others ≡ tables → IsStarted state holds tables → IsStarted after held others
started_as state after holds held tables others same counts numbers started =
    subst (λ (s : State). IsStarted s held others) (sym same)
    (subst (λ (xs : Counts).
    IsStarted state xs others) (sym counts)
    (subst (λ (xs : ℕ → List Slot). IsStarted state holds xs) (sym numbers) started))

-- ---- as many objects on each device

alike_tail : (first next : Node) (before after : List Node) → AreAlike (first ∷ before) (next ∷ after) →
    AreAlike before after
alike_tail first next before after alike = record {
  long = (let long = alike.long in omega (arith, long));
  each = λ place node is. alike.each (suc place) node is;
}

count_alike : (before after : List Node) (dev : ℕ) → AreAlike before after →
    count_by (is_on dev) after ≡ count_by (is_on dev) before
count_alike [] [] dev alike = refl
count_alike [] (next ∷ after) dev alike = absurd (let long = alike.long in omega (arith, long))
count_alike (first ∷ before) [] dev alike = absurd (let long = alike.long in omega (arith, long))
count_alike (first ∷ before) (next ∷ after) dev alike =
    let was = alike.each 0 next refl in
    let same = was.2.ids ∙ ap (λ (n : Node). n.ids) (sym (same_Some first was.0 was.1)) in
    let here = ap (λ ids. weight (ids.dev == dev)) same in
    let rest = count_alike before after dev (alike_tail first next before after alike) in
    let a = sum_by-cons (λ (n : Node). weight (is_on dev n)) next after in
    let b = sum_by-cons (λ (n : Node). weight (is_on dev n)) first before in
    omega (arith, here, rest, a, b)

next_alike : (before after : List Node) (dev : ℕ) → AreAlike before after →
    next_number after dev ≡ next_number before dev
next_alike before after dev alike = ap (λ n. 1 + n) (count_alike before after dev alike)

-- ---- what leaves each object the one that it is

module _ (state : State) (holds : Counts) (tables : ℕ → List Slot) (started : IsStarted state holds tables) where
  pub started_alike : (after : State) (held : Counts) → IsKept after held tables → after.calls ≡ 0 →
      after.mounts ≡ state.mounts → AreAlike state.nodes after.nodes → IsStarted after held tables
  started_alike after held kept begun same alike = record {
    kept = kept;
    begun = begun;
    dense = λ dev. subst (IsDense (tables dev)) (sym (next_alike state.nodes after.nodes dev alike))
        (started.dense dev);
    mounted = λ place node there.
        let was = alike.each place node there in
        ap (λ ids. has_device ids.dev after.mounts) was.2.ids ∙ ap (has_device was.0.ids.dev) same
        ∙ started.mounted place was.0 was.1;
  }

  pub started_linked : (dir : ℕ) (name : List ℕ) (object : ℕ) → is_directory_at state.nodes dir ≡ true →
      name_at state.nodes dir name ≡ None → IsShort name → HasHold state object →
      IsStarted (with_linked state dir name object)
      (record {
        holds = once_more object holds.holds;
        names = once_more object holds.names;
        directories = raised dir (counted state.nodes object) holds.directories;
      }) tables
  started_linked dir name object into free good lives =
      started_alike (with_linked state dir name object)
      (record {
        holds = once_more object holds.holds;
        names = once_more object holds.names;
        directories = raised dir (counted state.nodes object) holds.directories;
      })
      (kept_linked state holds tables dir name object started.kept into free good lives) started.begun refl
      (alike_linked (time_of state) dir name object state.nodes)

  pub started_xattr : (name bytes : List ℕ) (object : ℕ) → IsStarted (with_xattr state name bytes object) holds tables
  started_xattr name bytes object =
      started_alike (with_xattr state name bytes object) holds
      (kept_changed state holds tables started.kept object (λ node.
      record node { xattrs = with_value name bytes node.xattrs })
      (λ node. record {
        ids = refl;
        serial = refl;
        object = refl;
        names = refl;
        permissions = λ small. small;
        attributed = λ ordered. ordered-named name bytes node.xattrs ordered;
      }))
      started.begun refl
      (alike_changed object (λ node. record node { xattrs = with_value name bytes node.xattrs }) state.nodes
      (λ node. record {
        ids = refl;
        serial = refl;
        kind = refl;
        permissions = λ small. small;
        ordered = λ ordered. ordered;
        attributed = λ ordered. ordered-named name bytes node.xattrs ordered;
      }))

-- ---- one object more

pushed_free : (numbers : List Slot) (object : ℕ) (next : ℕ) → IsDense numbers next →
    IsDense (put_at (least_free numbers) (Open (having object)) numbers) (next + 1)
pushed_free numbers object next dense =
    let end : least_free numbers ≡ length numbers = dense.full ∙ sym dense.long in
    let test = elim (eqb_tells (least_free numbers) (length numbers)) as (λ _.
    eqb (least_free numbers) (length numbers) ≡ true) [
      | inl e ↦ e.0
      | inr apart ↦ absurd (apart.1 end)
    ] in
    let put = put_end (least_free numbers) (Open (having object)) numbers test in
    let long = length_push numbers (Open (having object)) in
    let was = dense.long in
    record {
      long = ap length put
          ∙ (let e : length (numbers ++ Open (having object) ∷ []) ≡ next + 1 = omega (arith, long, was) in e);
      full = ap least_free put ∙ position_or_len_push is_free numbers (Open (having object))
          ∙ ap (λ b. cond b (length numbers + 1) (least_free numbers)) test
          ∙ (let e : length numbers + 1 ≡ next + 1 = omega (arith, was) in e);
    }

module _ (state : State) (holds : Counts) (tables : ℕ → List Slot) (started : IsStarted state holds tables) (dir : ℕ)
    (name : List ℕ) (node : Node) where
  count_made : (dev : ℕ) →
      next_number (with_made state dir name node).nodes dev ≡ next_number state.nodes dev + weight (is_on dev node)
  count_made dev =
      let pushed = sum_by_push (λ (n : Node).
      weight (is_on dev n)) (entered (time_of state) dir name node state.nodes) node in
      let alike = count_alike state.nodes (entered (time_of state) dir name node state.nodes) dev
      (alike_entered (time_of state) dir name node state.nodes) in
      omega (arith, pushed, alike)

  dense_made : (dev : ℕ) →
      IsDense (given node.ids.dev (having (length state.nodes)) tables dev)
      (next_number (with_made state dir name node).nodes dev)
  unfolding set_at
  dense_made dev = elim (eqb_tells dev node.ids.dev) [
    | inl e ↦ (let one = elim (eqb_tells node.ids.dev dev) as (λ _. weight (is_on dev node) ≡ 1) [
      | inl same ↦ ap weight same.0
      | inr apart ↦ absurd (apart.1 (sym e.1))
    ] in
        let next : next_number state.nodes node.ids.dev + 1 ≡ next_number (with_made state dir name node).nodes dev =
        ap (λ d. next_number state.nodes d + 1) (sym e.1) ∙ ap (λ n. next_number state.nodes dev + n) (sym one)
        ∙ sym (count_made dev) in
        subst (λ b. IsDense
        (cond b (put_at (least_free (tables node.ids.dev)) (Open (having (length state.nodes)))
        (tables node.ids.dev)) (tables dev))
        (next_number (with_made state dir name node).nodes dev)) (sym e.0)
        (subst (IsDense (put_at (least_free (tables node.ids.dev)) (Open (having (length state.nodes)))
        (tables node.ids.dev))) next
        (pushed_free (tables node.ids.dev) (length state.nodes) (next_number state.nodes node.ids.dev)
        (started.dense node.ids.dev))))
    | inr apart ↦ (let none = elim (eqb_tells node.ids.dev dev) as (λ _. weight (is_on dev node) ≡ 0) [
      | inl same ↦ absurd (apart.1 (sym same.1))
      | inr differs ↦ ap weight differs.0
    ] in
        let made = count_made dev in
        let next : next_number state.nodes dev ≡ next_number (with_made state dir name node).nodes dev =
        omega (arith, made, none) in
        subst (λ b. IsDense
        (cond b (put_at (least_free (tables node.ids.dev)) (Open (having (length state.nodes)))
        (tables node.ids.dev)) (tables dev))
        (next_number (with_made state dir name node).nodes dev)) (sym apart.0)
        (subst (IsDense (tables dev)) next (started.dense dev)))
  ]

  pub started_made : (parent : Node) → is_directory_at state.nodes dir ≡ true → name_at state.nodes dir name ≡ None →
      names_in node.content ≡ [] → node.xattrs ≡ [] →
      node.serial ≡ length state.nodes + 1 → node.permissions < 4096 → IsShort name → slice_get state.nodes dir ≡ Some parent →
      node.ids.ino ≡ least_free (tables node.ids.dev) → length (with_made state dir name node).nodes < 2 ^ 63 →
      has_device node.ids.dev state.mounts ≡ true →
      (value : ℕ) → value ≡ slice_index holds.directories dir + weight (is_directory node) →
      IsStarted (with_made state dir name node)
      (record {
        holds = holds.holds ++ 1 ∷ [];
        names = holds.names ++ 1 ∷ [];
        directories = slice_set (holds.directories ++ 0 ∷ []) dir value;
      }) (given node.ids.dev (having (length state.nodes)) tables)
  started_made parent into free empty bare serial small good at_dir number few on_device value is = record {
    kept = kept_made state holds tables started.kept dir name node parent into free empty bare serial small good at_dir number few
        (slice_set (holds.directories ++ 0 ∷ []) dir value)
        (nested_made state holds tables started.kept dir name node parent into free empty bare serial small good at_dir number few
        value is);
    begun = started.begun;
    dense = dense_made;
    mounted = λ place that there.
        elim (get-push_cases (entered (time_of state) dir name node state.nodes) node place that there) [
          | inl new ↦ ap (λ (n : Node). has_device n.ids.dev state.mounts) new.1 ∙ on_device
          | inr old ↦ (let was = (alike_entered (time_of state) dir name node state.nodes).each place that old in
              ap (λ ids. has_device ids.dev state.mounts) was.2.ids ∙ started.mounted place was.0 was.1)
        ];
  }

-- ---- a device of its own

none_on : (nodes : List Node) (dev : ℕ) →
    ((place : ℕ) (node : Node) → slice_get nodes place ≡ Some node → is_on dev node ≡ false) →
    count_by (is_on dev) nodes ≡ 0
none_on [] dev apart = refl
none_on (node ∷ nodes) dev apart =
    let here = ap weight (apart 0 node refl) in
    let rest = none_on nodes dev (λ place that there. apart (suc place) that there) in
    let sums = sum_by-cons (λ (n : Node). weight (is_on dev n)) node nodes in
    omega (arith, here, rest, sums)

-- the first number of a device without a mount is 1
pub first_number : (state : State) (holds : Counts) (tables : ℕ → List Slot) (dev : ℕ) →
    IsStarted state holds tables → has_device dev state.mounts ≡ false → least_free (tables dev) ≡ 1
first_number state holds tables dev started new =
    (started.dense dev).full
    ∙ ap (λ n. 1 + n) (none_on state.nodes dev (λ place node there. elim (eqb_tells node.ids.dev dev) [
      | inl same ↦ absurd (true≢false (sym (started.mounted place node there)
          ∙ ap (λ d. has_device d state.mounts) same.1 ∙ new))
      | inr apart ↦ apart.0
    ]))
