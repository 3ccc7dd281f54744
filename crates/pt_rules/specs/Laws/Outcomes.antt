-- Proof. What an edit comes to: it is refused and changes nothing, or it is made and does as its like call.
use Rattle.std.proofs.Common.{◌≡◌, ◌≢◌, ◌<◌, ◌+◌, ◌%◌, ◌⊎◌, inl, inr, ℕ, Bool, true, false, not, ◌||◌, cond, List, []}
use Rattle.std.proofs.Common.{◌∷◌, length, nat_lt, Option, Some, None, Result, Ok, Err, is_some, ok_or, option_map, slice_get}
use Rattle.std.proofs.Common.{option_and_then, refl, ap, sym, ◌∙◌, ◌==◌, subst, arith}
use Rattle.std.proofs.lemmas.Bool.{ltb-false}
use Rattle.std.proofs.lemmas.Bool.Decides.{eqb_tells}
use Rattle.std.proofs.lemmas.Option.{same_Some}
use Rattle.pt_host.specs.Errno.{enoent, eexist}
use Rattle.pt_host.specs.declared.edit.Edit.{Edit}
use Rattle.pt_host.specs.declared.edit.Edit.TheVariants as edit
use Rattle.pt_host.specs.declared.ids.Errno.{Errno}
use Rattle.pt_node.specs.Entries.{is_directory_at, is_directory_where}
use Rattle.pt_node.specs.Limits.{name_max}
use Rattle.pt_node.specs.Names.{found}
use Rattle.pt_node.specs.Node.{is_directory, name_at, names_in, size_of}
use Rattle.pt_node.specs.Opening.{first_refusal}
use Rattle.pt_node.specs.Paths.{from_root, led_on, ok_unless, parts, step_from, then_on}
use Rattle.pt_rules.specs.Calls.{Answered, checked, done, on_led, refused, there_in, unless}
use Rattle.pt_rules.specs.EditPaths.{Place, judged, judged_at, judged_from, last_refusal, named_at, past, place_from}
use Rattle.pt_rules.specs.EditPaths.{path_goes_through}
use Rattle.pt_rules.specs.Edits.{at_name, at_place, edited, made, make_at, make_in, move_checks, new_checks}
use Rattle.pt_rules.specs.Edits.{rename_judged, rename_onto, rename_placed, replace_checks, unlink_at, unlink_checks}
use Rattle.pt_rules.specs.Edits.{with_made, with_moved, with_rewritten, with_unlinked, write_at, write_checks}
use Rattle.pt_rules.specs.Sound.{IsShort, IsSound}
use Rattle.pt_rules.specs.State.{State}
use Rattle.pt_rules.specs.Finding.{IsPlaced, IsThere}
use Rattle.pt_rules.specs.Laws.Finding.{led_is, named_none, root_begins, step_reaches}
use Rattle.pt_node.specs.declared.node.Node.{Node}
use Rattle.pt_node.specs.declared.node.Content.{Content}
use Rattle.pt_node.specs.declared.node.Content.TheVariants.{Directory, Regular}

pub record Unlinks (state after : State) : Type 0 where
  pub dir : ℕ
  pub name : List ℕ
  pub object : ℕ
  pub there : name_at state.nodes dir name ≡ Some object
  pub leaves : after ≡ with_unlinked state dir name object

abbrev pub MovesTo : State → ℕ × List ℕ → ℕ × List ℕ → ℕ → Option ℕ → State → Type 0
MovesTo state from to object target after =
    ((target ≡ Some object) × (after ≡ state))
    ⊎ ((target ≢ Some object) × (after ≡ with_moved state from to object target))

pub record RenamesEntry (state after : State) : Type 0 where
  pub from : ℕ × List ℕ
  pub to : ℕ × List ℕ
  pub object : ℕ
  pub target : Option ℕ
  pub there : name_at state.nodes from.0 from.1 ≡ Some object
  pub into : is_directory_at state.nodes to.0 ≡ true
  pub good : IsShort to.1
  pub at_target : name_at state.nodes to.0 to.1 ≡ target
  pub moves : MovesTo state from to object target after

pub record Makes (state : State) (numbers : ℕ → ℕ) (after : State) : Type 0 where
  pub dir : ℕ
  pub name : List ℕ
  pub node : Node
  pub parent : Node
  pub into : is_directory_at state.nodes dir ≡ true
  pub free : name_at state.nodes dir name ≡ None
  pub at_dir : slice_get state.nodes dir ≡ Some parent
  pub empty : names_in node.content ≡ []
  pub bare : node.xattrs ≡ []
  pub serial : node.serial ≡ length state.nodes + 1
  pub small : node.permissions < 4096
  pub good : IsShort name
  pub number : node.ids.ino ≡ numbers node.ids.dev
  pub leaves : after ≡ with_made state dir name node

pub record Rewrites (state after : State) : Type 0 where
  pub object : ℕ
  pub bytes : List ℕ
  pub leaves : after ≡ with_rewritten state object bytes

-- what the edit has done where it is made
abbrev pub EditEffect : State → (ℕ → ℕ) → Edit → State → Type 0
EditEffect state numbers (edit.Unlink path) after = Unlinks state after
EditEffect state numbers (edit.Rename old new) after = RenamesEntry state after
EditEffect state numbers (edit.File path mode uid gid bytes) after = Makes state numbers after
EditEffect state numbers (edit.Dir path mode uid gid) after = Makes state numbers after
EditEffect state numbers (edit.Write path bytes) after = Rewrites state after

abbrev pub Outcome : State → Answered → (State → Type 0) → Type 0
Outcome state told effect =
    ((errno : Errno) × (told ≡ refused state errno)) ⊎ ((after : State) × (told ≡ done after) × effect after)

-- ---- through the table

unless_refused : (state : State) (refusal : Option Errno) (told : Answered) (effect : State → Type 0) →
    (refusal ≡ None → Outcome state told effect) → Outcome state (unless state refusal told) effect
unless_refused state None told effect then = then refl
unless_refused state (Some errno) told effect then = inl (errno, refl)

if_not : (state : State) (b : Bool) (errno : Errno) (told : Answered) (effect : State → Type 0) →
    Outcome state told effect → Outcome state (cond b (refused state errno) told) effect
if_not state true errno told effect then = inl (errno, refl)
if_not state false errno told effect then = then

by_name : (state : State) (root : Errno) (place : Place) (next : Place → Answered) (effect : State → Type 0) →
    Outcome state (next place) effect → Outcome state (at_name state root place next) effect
by_name state root (dir, []) next effect then = inl (root, refl)
by_name state root (dir, first ∷ name) next effect then = then

by_place : (state : State) (root : Errno) (place : Result Place Errno) (next : Place →
    Answered) (effect : State → Type 0) →
    ((at : Place) → place ≡ Ok at → Outcome state (next at) effect) →
    Outcome state (at_place state root place next) effect
by_place state root (Err errno) next effect then = inl (errno, refl)
by_place state root (Ok at) next effect then = by_name state root at next effect (then at refl)

by_led : (state : State) (held : Option (ℕ × Node)) (rest : ℕ → Node → Answered) (effect : State → Type 0) →
    ((at : ℕ × Node) → held ≡ Some at → Outcome state (rest at.0 at.1) effect) →
    Outcome state (on_led state held rest) effect
by_led state None rest effect then = inl (enoent, refl)
by_led state (Some at) rest effect then = then at refl

-- ---- a place that was judged is in a directory that is there

abbrev placed : Place → Result Place Errno
placed place = Ok place

then_placed : {A : Type 0} (led : Result A Errno) (next : A → Result Place Errno) (place : Place) →
    then_on led next ≡ placed place → (at : A) × (led ≡ Ok at) × (next at ≡ placed place)
then_placed (Ok at) next place is = (at, refl, is)
then_placed (Err errno) next place is = cc

none_refused : (refusal : Option Errno) (at place : Place) → ok_unless refusal (placed at) ≡ placed place →
    (refusal ≡ None) × (at ≡ place)
none_refused None at place is = (refl, cc)
none_refused (Some errno) at place is = cc

pub passes_first : (b : Bool) (errno : Errno) (rest : Option Errno) → cond b (Some errno) rest ≡ None →
    (b ≡ false) × (rest ≡ None)
passes_first true errno rest is = cc
passes_first false errno rest is = (refl, is)

not_not : (b : Bool) → not b ≡ false → b ≡ true
not_not true is = refl
not_not false is = cc

last_directory : (dir : Node) (name : List ℕ) → last_refusal dir name ≡ None → is_directory dir ≡ true
last_directory dir name is = not_not (is_directory dir) (passes_first (not (is_directory dir)) _ _ is).0

-- the last name of a path is one
last_named : (dir : Node) (name : List ℕ) → last_refusal dir name ≡ None → IsShort name
last_named dir name is =
    let within = passes_first (not (is_directory dir)) _ _ is in
    let short = passes_first (nat_lt name_max (length name)) _ _ within.1 in
    ltb-false name_max (length name) short.0

past_there : (nodes : List Node) (at : Place) (part : List ℕ) (next : Place) → IsThere nodes at.0 →
    past nodes at part ≡ placed next → IsThere nodes next.0
past_there nodes at [] next there is =
    (let same : at ≡ next = cc in subst (λ (p : Place). IsThere nodes p.0) same there)
past_there nodes at (first ∷ part) next there is =
    let led = then_placed (step_from nodes at.0 at.1) (λ dir. Ok (dir, first ∷ part)) next is in
    let same : led.0 ≡ next.0 = dir_of led.0 next led.2 in
    subst (IsThere nodes) same (step_reaches nodes at.0 at.1 led.0 there led.1).1
  where
    dir_of : (dir : ℕ × Node) (next : Place) → placed (dir, first ∷ part) ≡ placed next → dir ≡ next.0
    dir_of dir next is = (let e : (dir, first ∷ part) ≡ next = cc in ap (λ (p : Place). p.0) e)

from_there : (nodes : List Node) (at : Place) (names : List (List ℕ)) (place : Place) → IsThere nodes at.0 →
    place_from nodes at names ≡ placed place → IsThere nodes place.0
from_there nodes at [] place there is =
    (let same : at ≡ place = cc in subst (λ (p : Place). IsThere nodes p.0) same there)
from_there nodes at (part ∷ more) place there is =
    let next = then_placed (past nodes at part) (λ to. place_from nodes to more) place is in
    from_there nodes next.0 more place (past_there nodes at part next.0 there next.1) next.2

root_found : (held : Option (ℕ × Node)) (root : ℕ × Node) → ok_or held enoent ≡ Ok root → held ≡ Some root
root_found None root is = cc
root_found (Some other) root is = (let e : other ≡ root = cc in ap (λ o. Some o) e)

judged_both : (nodes : List Node) (path : List ℕ) (place : Place) → judged nodes path ≡ Ok place →
    IsPlaced nodes place × IsShort place.1
judged_both nodes path place is =
    let root = then_placed (ok_or (from_root nodes path) enoent) (judged_from nodes path) place is in
    let begins = root_begins nodes path root.0 (root_found (from_root nodes path) root.0 root.1) in
    let at = then_placed (place_from nodes (root.0, []) (parts path)) judged_at place root.2 in
    let none = none_refused (last_refusal at.0.0.1 at.0.1) at.0 place at.2 in
    subst (λ (p : Place). IsPlaced nodes p × IsShort p.1) none.1 (
      (
        from_there nodes (root.0, []) (parts path) at.0 begins.1 at.1,
        last_directory at.0.0.1 at.0.1 none.0,
      ),
      last_named at.0.0.1 at.0.1 none.0,
    )

pub judged_there : (nodes : List Node) (path : List ℕ) (place : Place) → judged nodes path ≡ Ok place →
    IsPlaced nodes place
judged_there nodes path place is = (judged_both nodes path place is).0

pub judged_named : (nodes : List Node) (path : List ℕ) (place : Place) → judged nodes path ≡ Ok place → IsShort place.1
judged_named nodes path place is = (judged_both nodes path place is).1

-- ---- each edit

-- what a name leads to from a place that is there
leads_from : (nodes : List Node) (place : Place) (held : Option ℕ) → IsThere nodes place.0 →
    there_in place.0.1 place.1 ≡ held → name_at nodes place.0.0 place.1 ≡ held
leads_from nodes place held there is =
    ap (option_and_then (λ (node : Node). found place.1 (names_in node.content))) there ∙ is

unlink_outcome : (state : State) (place : Place) → IsPlaced state.nodes place →
    Outcome state (unlink_at state place) (Unlinks state)
unlink_outcome state place at =
    by_led state (led_on state.nodes (there_in place.0.1 place.1)) _ (Unlinks state)
    (λ led is. unless_refused state (first_refusal (unlink_checks place.0.1 led.1))
    (done (with_unlinked state place.0.0 place.1 led.0)) (Unlinks state)
    (λ _. inr (
      with_unlinked state place.0.0 place.1 led.0,
      refl,
      record {
        dir = place.0.0;
        name = place.1;
        object = led.0;
        there = leads_from state.nodes place (Some led.0) at.0
            (led_is state.nodes (there_in place.0.1 place.1) led is).0;
        leaves = refl;
      },
    )))

module _ (state : State) (from to : ℕ × List ℕ) (object : ℕ) (there : name_at state.nodes from.0 from.1 ≡ Some object)
    (into : is_directory_at state.nodes to.0 ≡ true) (good : IsShort to.1) where
  renames : (target : Option ℕ) (after : State) → name_at state.nodes to.0 to.1 ≡ target →
      MovesTo state from to object target after → RenamesEntry state after
  renames target after is moves =
      record {
        from = from;
        to = to;
        object = object;
        target = target;
        there = there;
        into = into;
        good = good;
        at_target = is;
        moves = moves;
      }

  onto_another : (node : Node) (target : ℕ × Node) → name_at state.nodes to.0 to.1 ≡ Some target.0 → (b : Bool) →
      (b ≡ true → target.0 ≡ object) → (b ≡ false → target.0 ≢ object) →
      Outcome state (cond b (done state)
      (checked state (replace_checks node target.1)
      (done (with_moved state from to object (Some target.0))))) (RenamesEntry state)
  onto_another node target is true same apart =
      inr (state, refl, renames (Some target.0) state is (inl (ap (λ t. Some t) (same refl), refl)))
  onto_another node target is false same apart =
      unless_refused state (first_refusal (replace_checks node target.1))
      (done (with_moved state from to object (Some target.0))) (RenamesEntry state)
      (λ _. inr (
        with_moved state from to object (Some target.0),
        refl,
        renames (Some target.0) (with_moved state from to object (Some target.0)) is
            (inr ((λ e. apart refl (same_Some target.0 object e)), refl)),
      ))

  onto_outcome : (node : Node) (target : Option (ℕ × Node)) →
      name_at state.nodes to.0 to.1 ≡ option_map (λ (at : ℕ × Node). at.0) target →
      Outcome state (rename_onto state from to object node target) (RenamesEntry state)
  onto_outcome node None is =
      inr (
        with_moved state from to object None,
        refl,
        renames None (with_moved state from to object None) is (inr ((λ e. cc), refl)),
      )
  onto_outcome node (Some target) is = elim (eqb_tells target.0 object) [
    | inl same ↦ onto_another node target is (target.0 == object) (λ _. same.1) (λ e.
        absurd (let f : true ≡ false = sym same.0 ∙ e in cc))
    | inr apart ↦ onto_another node target is (target.0 == object) (λ e.
        absurd (let f : true ≡ false = sym e ∙ apart.0 in cc)) (λ _. apart.1)
  ]

-- the name of a place leads to what is there
pub target_is : (state : State) (place : Place) (target : Option (ℕ × Node)) → IsSound state →
    IsThere state.nodes place.0 →
    led_on state.nodes (there_in place.0.1 place.1) ≡ target →
    name_at state.nodes place.0.0 place.1 ≡ option_map (λ (at : ℕ × Node). at.0) target
target_is state place None sound there is =
    let leads = leads_from state.nodes place (there_in place.0.1 place.1) there refl in
    leads ∙ named_none state place.0.0 place.1 (there_in place.0.1 place.1) sound leads is
target_is state place (Some at) sound there is =
    leads_from state.nodes place (Some at.0) there (led_is state.nodes (there_in place.0.1 place.1) at is).0

rename_outcome : (state : State) (new : List ℕ) (from to : Place) → IsSound state →
    IsPlaced state.nodes from → IsPlaced state.nodes to → IsShort to.1 →
    Outcome state (rename_placed state new from to) (RenamesEntry state)
rename_outcome state new from to sound at into good =
    by_led state (led_on state.nodes (there_in from.0.1 from.1)) _ (RenamesEntry state)
    (λ led is.
    let target = led_on state.nodes (there_in to.0.1 to.1) in
    unless_refused state
    (first_refusal (move_checks (path_goes_through led.0 state.nodes new) from.0.1 to.0.1 led.1 target))
    (rename_onto state (named_at from) (named_at to) led.0 led.1 target) (RenamesEntry state)
    (λ _. onto_outcome state (named_at from) (named_at to) led.0
    (leads_from state.nodes from (Some led.0) at.0 (led_is state.nodes (there_in from.0.1 from.1) led is).0)
    (ap is_directory_where into.0 ∙ into.1) good led.1 target (target_is state to target sound into.0 refl)))

renamed_outcome : (state : State) (new : List ℕ) (from to : Result Place Errno) → IsSound state →
    ((place : Place) → from ≡ Ok place → IsPlaced state.nodes place) →
    ((place : Place) → to ≡ Ok place → IsPlaced state.nodes place × IsShort place.1) →
    Outcome state (rename_judged state new from to) (RenamesEntry state)
renamed_outcome state new (Err errno) to sound at into = inl (errno, refl)
renamed_outcome state new (Ok from) (Err errno) sound at into = inl (errno, refl)
renamed_outcome state new (Ok from) (Ok to) sound at into =
    if_not state ((length from.1 == 0) || (length to.1 == 0)) _ (rename_placed state new from to) (RenamesEntry state)
    (rename_outcome state new from to sound (at from refl) (into to refl).0 (into to refl).1)

pub none_there : (there : Option ℕ) → is_some there ≡ false → there ≡ None
none_there None is = refl
none_there (Some object) is = cc

made_in : (state : State) (numbers : ℕ → ℕ) (permissions uid gid rdev : ℕ) (content : Content) (place : Place) →
    permissions < 4096 → IsPlaced state.nodes place → IsShort place.1 → there_in place.0.1 place.1 ≡ None → names_in content ≡ [] →
    Outcome state (make_in state numbers place.0.0 place.1 permissions uid gid rdev content place.0.1)
    (Makes state numbers)
made_in state numbers permissions uid gid rdev content place small at good free empty =
    inr (
      with_made state place.0.0 place.1 (made state numbers permissions uid gid rdev content place.0.1),
      refl,
      record {
        dir = place.0.0;
        name = place.1;
        node = made state numbers permissions uid gid rdev content place.0.1;
        parent = place.0.1;
        into = ap is_directory_where at.0 ∙ at.1;
        free = leads_from state.nodes place None at.0 free;
        at_dir = at.0;
        empty = empty;
        bare = refl;
        serial = refl;
        small = small;
        good = good;
        number = refl;
        leaves = refl;
      },
    )

make_outcome : (state : State) (numbers : ℕ → ℕ) (mode uid gid : ℕ) (content : Content) (place : Place) →
    IsPlaced state.nodes place → IsShort place.1 → names_in content ≡ [] →
    Outcome state (make_at state numbers mode uid gid content place) (Makes state numbers)
make_outcome state numbers mode uid gid content place at good empty =
    let there = there_in place.0.1 place.1 in
    unless_refused state (first_refusal (new_checks there (size_of content)))
    (make_in state numbers place.0.0 place.1 (mode % 4096) uid gid 0 content place.0.1) (Makes state numbers)
    (λ none. made_in state numbers (mode % 4096) uid gid 0 content place (omega arith) at good
    (none_there there (passes_first (is_some there) eexist _ none).0) empty)

write_outcome : (state : State) (bytes : List ℕ) (place : Place) →
    Outcome state (write_at state bytes place) (Rewrites state)
write_outcome state bytes place =
    by_led state (led_on state.nodes (there_in place.0.1 place.1)) _ (Rewrites state)
    (λ led is. unless_refused state (first_refusal (write_checks led.1 (length bytes)))
    (done (with_rewritten state led.0 bytes)) (Rewrites state)
    (λ none. inr (
      with_rewritten state led.0 bytes,
      refl,
      record {
        object = led.0;
        bytes = bytes;
        leaves = refl;
      },
    )))

pub edit_outcome : (state : State) (numbers : ℕ → ℕ) (asked : Edit) → IsSound state →
    Outcome state (edited state numbers asked) (EditEffect state numbers asked)
edit_outcome state numbers (edit.Unlink path) sound =
    by_place state _ (judged state.nodes path) (unlink_at state) (Unlinks state)
    (λ at is. unlink_outcome state at (judged_there state.nodes path at is))
edit_outcome state numbers (edit.Rename old new) sound =
    renamed_outcome state new (judged state.nodes old) (judged state.nodes new) sound
    (λ place is. judged_there state.nodes old place is) (λ place is. judged_both state.nodes new place is)
edit_outcome state numbers (edit.File path mode uid gid bytes) sound =
    by_place state _ (judged state.nodes path) (make_at state numbers mode uid gid (Regular bytes))
    (Makes state numbers)
    (λ at is. let there = judged_both state.nodes path at is in
    make_outcome state numbers mode uid gid (Regular bytes) at there.0 there.1 refl)
edit_outcome state numbers (edit.Dir path mode uid gid) sound =
    by_place state _ (judged state.nodes path) (make_at state numbers mode uid gid (Directory []))
    (Makes state numbers)
    (λ at is. let there = judged_both state.nodes path at is in
    make_outcome state numbers mode uid gid (Directory []) at there.0 there.1 refl)
edit_outcome state numbers (edit.Write path bytes) sound =
    by_place state _ (judged state.nodes path) (write_at state bytes) (Rewrites state)
    (λ at is. write_outcome state bytes at)
