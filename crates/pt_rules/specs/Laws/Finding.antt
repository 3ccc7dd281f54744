-- Proof. What is found is there and lives: at the end of a path, under a name, by a descriptor.
use Rattle.std.proofs.Common.{◌≡◌, ◌<◌, ◌⊎◌, inl, inr, ℕ, Bool, true, false, cond, ◌==◌, List, [], ◌∷◌, length}
use Rattle.std.proofs.Common.{Option, Some, None, Result, Ok, Err, ok_or, slice_get, option_map, option_and_then}
use Rattle.std.proofs.Common.{refl, ap, sym, ◌∙◌, subst, arith}
use Rattle.std.proofs.lemmas.Option.{same_Some, slice_get_cases}
use Rattle.pt_host.specs.Errno.{ebadf, enoent, enotdir}
use Rattle.pt_host.specs.declared.flags.OpenFlags.{OpenFlags}
use Rattle.pt_host.specs.declared.ids.Errno.{Errno}
use Rattle.pt_host.specs.declared.ids.Fd.{Fd}
use Rattle.pt_host.specs.declared.seat.HostSeat.{HostSeat}
use Rattle.pt_rules.specs.Finding.{IsThere}
use Rattle.pt_rules.specs.Holds.{HasName, HasHold}
use Rattle.pt_node.specs.Names.{found}
use Rattle.pt_node.specs.Node.{is_directory, name_at, names_in}
use Rattle.pt_node.specs.Slots.{open_at}
use Rattle.pt_rules.specs.Sound.{IsSound}
use Rattle.pt_rules.specs.State.{State}
use Rattle.pt_rules.specs.Calls.{name_refusal, on_found, on_led, on_open, open_on, open_walked, opening, there_in}
use Rattle.pt_rules.specs.Calls.{unless}
use Rattle.pt_rules.specs.OpeningCalls.{open_named}
use Rattle.pt_node.specs.Paths.{from_here, from_root, led_on, ok_unless, parts, step_from, then_on, walk, walk_from}
use Rattle.pt_node.specs.Paths.{walk_root}
use Rattle.pt_node.specs.declared.node.Node.{Node}
use Rattle.pt_node.specs.declared.slots.OpenFile.{OpenFile}

abbrev found_as : ℕ → Node → Option (ℕ × Node)
found_as object node = Some (object, node)

-- what a name leads to is there
pub led_is : (nodes : List Node) (held : Option ℕ) (at : ℕ × Node) → led_on nodes held ≡ Some at →
    (held ≡ Some at.0) × IsThere nodes at
led_is nodes None at is = cc
led_is nodes (Some object) at is = by_node (slice_get nodes object) refl is
  where
    by_node : (node : Option Node) → slice_get nodes object ≡ node →
        option_map (λ found_node. (object, found_node)) node ≡ Some at → (Some object ≡ Some at.0) × IsThere nodes at
    by_node None there is = cc
    by_node (Some node) there is =
        let same = same_Some (object, node) at is in (
          ap (λ (both : ℕ × Node). Some both.0) same,
          subst (IsThere nodes) same there,
        )

-- so many objects are there
pub there_within : (nodes : List Node) (object : ℕ) → object < length nodes →
    (node : Node) × (slice_get nodes object ≡ Some node)
there_within nodes object within = elim (slice_get_cases nodes object).1 [
  | inl there ↦ (there.0, there.2)
  | inr past ↦ absurd (let few = past.0 in omega (arith, few, within))
]

-- and where it leads to no object there is none of that name
pub led_none : (nodes : List Node) (held : Option ℕ) → ((object : ℕ) → held ≡ Some object → object < length nodes) →
    led_on nodes held ≡ None → held ≡ None
led_none nodes None within none = refl
led_none nodes (Some object) within none =
    let there = there_within nodes object (within object refl) in
    let led : found_as object there.0 ≡ None =
    sym (ap (option_map (λ (node : Node). (object, node))) there.1) ∙ none in cc

-- a name of a sound tree
pub named_none : (state : State) (dir : ℕ) (name : List ℕ) (held : Option ℕ) → IsSound state →
    name_at state.nodes dir name ≡ held → led_on state.nodes held ≡ None → held ≡ None
named_none state dir name held sound is none =
    led_none state.nodes held (λ object has. sound.named dir name object (is ∙ has)) none

-- ---- what a name leads to from the directory of a descriptor

abbrev pub find_in : List Node → HostSeat → List ℕ → Option (OpenFile × Node) → Result (ℕ × Node) Errno
find_in nodes seat name None = Err ebadf
find_in nodes seat name (Some at) =
    ok_unless (name_refusal seat at.1 name) (ok_or (led_on nodes (there_in at.1 name)) enoent)

abbrev pub find_name : List Node → HostSeat → List ℕ → Option OpenFile → Result (ℕ × Node) Errno
find_name nodes seat name held = find_in nodes seat name (open_on nodes held)

found_where : (refusal : Option Errno) (held : Option (ℕ × Node)) (at : ℕ × Node) →
    ok_unless refusal (ok_or held enoent) ≡ Ok at → held ≡ Some at
found_where (Some errno) held at is = cc
found_where None None at is = cc
found_where None (Some other) at is = (let e : other ≡ at = cc in ap (λ o. Some o) e)

found_in : (nodes : List Node) (seat : HostSeat) (name : List ℕ) (at : ℕ × Node) (file : OpenFile)
    (dir : Option Node) →
    find_in nodes seat name (option_map (λ node. (file, node)) dir) ≡ Ok at →
    (option_and_then (λ node. found name (names_in node.content)) dir ≡ Some at.0) × IsThere nodes at
found_in nodes seat name at file None is = cc
found_in nodes seat name at file (Some dir) is =
    led_is nodes (there_in dir name) at
    (found_where (name_refusal seat dir name) (led_on nodes (there_in dir name)) at is)

-- what was found by a name
pub record IsNamed (nodes : List Node) (name : List ℕ) (file : Option OpenFile) (at : ℕ × Node) : Type 0 where
  pub dir : OpenFile
  pub held : file ≡ Some dir
  pub leads : name_at nodes dir.object name ≡ Some at.0
  pub there : IsThere nodes at

pub found_name : (nodes : List Node) (seat : HostSeat) (name : List ℕ) (at : ℕ × Node) (file : Option OpenFile) →
    find_name nodes seat name file ≡ Ok at → IsNamed nodes name file at
found_name nodes seat name at None is = cc
found_name nodes seat name at (Some dir) is =
    let both = found_in nodes seat name at dir (slice_get nodes dir.object) is in
    record { dir = dir; held = refl; leads = both.0; there = both.1 }

pub name_lives : (state : State) (seat : HostSeat) (name : List ℕ) (at : ℕ × Node) (file : Option OpenFile) →
    find_name state.nodes seat name file ≡ Ok at → HasHold state at.0
name_lives state seat name at file is =
    let named = found_name state.nodes seat name at file is in inr (inl (named.dir.object, name, named.leads))

-- ---- the end of a path

abbrev led_to : ℕ × Node → Result (ℕ × Node) Errno
led_to at = Ok at

abbrev led_nowhere : Errno → Result (ℕ × Node) Errno
led_nowhere errno = Err errno

next_found : (directory : Bool) (held : Option (ℕ × Node)) (next : ℕ × Node) →
    cond directory (ok_or held enoent) (led_nowhere enotdir) ≡ led_to next → held ≡ Some next
next_found true None next is = cc
next_found true (Some at) next is = (let e : at ≡ next = cc in ap (λ o. Some o) e)
next_found false held next is = cc

-- the object is there, and is the one that the walk began at or has a name
abbrev pub IsReached : List Node → ℕ → ℕ × Node → Type 0
IsReached nodes from at = ((at.0 ≡ from) ⊎ HasName nodes at.0) × IsThere nodes at

pub step_reaches : (nodes : List Node) (at : ℕ × Node) (part : List ℕ) (next : ℕ × Node) → IsThere nodes at →
    step_from nodes at part ≡ led_to next → IsReached nodes at.0 next
step_reaches nodes at [] next there is =
    let same : at ≡ next = cc in
    (inl (ap (λ (a : ℕ × Node). a.0) (sym same)), subst (IsThere nodes) same there)
step_reaches nodes at (first ∷ part) next there is =
    let led = led_is nodes (found (first ∷ part) (names_in at.1.content)) next
    (next_found (is_directory at.1) (led_on nodes (found (first ∷ part) (names_in at.1.content))) next is) in (
      inr (
        at.0,
        first ∷ part,
        ap (option_and_then (λ (node : Node). found (first ∷ part) (names_in node.content))) there ∙ led.0,
      ),
      led.1,
    )

then_led : {A : Type 0} (led : Result A Errno) (rest : A → Result (ℕ × Node) Errno) (at : ℕ × Node) →
    then_on led rest ≡ led_to at → (next : A) × (led ≡ Ok next) × (rest next ≡ led_to at)
then_led (Ok next) rest at is = (next, refl, is)
then_led (Err errno) rest at is = cc

has_from : (nodes : List Node) (from : ℕ) (next at : ℕ × Node) → IsReached nodes from next →
    IsReached nodes next.0 at → IsReached nodes from at
has_from nodes from next at (inl same, there) (inl is, is_there) = (inl (is ∙ same), is_there)
has_from nodes from next at (inr has, there) (inl is, is_there) = (inr (subst (HasName nodes) (sym is) has), is_there)
has_from nodes from next at step (inr has, is_there) = (inr has, is_there)

pub walk_reaches : (nodes : List Node) (from : ℕ × Node) (path : List (List ℕ)) (at : ℕ × Node) →
    IsThere nodes from → walk nodes from path ≡ led_to at → IsReached nodes from.0 at
walk_reaches nodes from [] at there is =
    let same : from ≡ at = cc in
    (inl (ap (λ (a : ℕ × Node). a.0) (sym same)), subst (IsThere nodes) same there)
walk_reaches nodes from (part ∷ more) at there is =
    let next = then_led (step_from nodes from part) (λ to. walk nodes to more) at is in
    let reached = step_reaches nodes from part next.0 there next.1 in
    has_from nodes from.0 next.0 at reached (walk_reaches nodes next.0 more at reached.1 next.2)

begun_some : (held : Option (ℕ × Node)) (at : ℕ × Node) → ok_or held enoent ≡ led_to at → held ≡ Some at
begun_some None at is = cc
begun_some (Some other) at is = (let e : other ≡ at = cc in ap (λ o. Some o) e)

if_begun : (slash : Bool) (held other : Option (ℕ × Node)) (at : ℕ × Node) → cond slash held other ≡ Some at →
    (held ≡ Some at) ⊎ (other ≡ Some at)
if_begun true held other at is = inl is
if_begun false held other at is = inr is

-- a path that has to begin with a slash begins at the root
pub root_begins : (nodes : List Node) (path : List ℕ) (root : ℕ × Node) → from_root nodes path ≡ Some root →
    (root.0 ≡ 0) × IsThere nodes root
root_begins nodes [] root is = cc
root_begins nodes (first ∷ path) root is = elim (if_begun (first == 47) (led_on nodes (Some 0)) None root is) [
  | inl begun ↦ (
      let led = led_is nodes (Some 0) root begun in (sym (same_Some 0 root.0 led.0), led.1)
      )
  | inr none ↦ cc
]

-- ---- what is found lives

has_lives : (state : State) (from object : ℕ) → HasHold state from →
    (object ≡ from) ⊎ HasName state.nodes object → HasHold state object
has_lives state from object lives (inl same) = subst (HasHold state) (sym same) lives
has_lives state from object lives (inr has) = inr (inl has)

-- it is there and lives
abbrev pub IsLiving : State → ℕ × Node → Type 0
IsLiving state at = IsThere state.nodes at × HasHold state at.0

walked_lives : (state : State) (held : Option (ℕ × Node)) (path : List (List ℕ)) (at : ℕ × Node) →
    ((from : ℕ × Node) → held ≡ Some from → IsLiving state from) →
    then_on (ok_or held enoent) (λ from. walk state.nodes from path) ≡ led_to at → IsLiving state at
walked_lives state held path at begins is =
    let from = then_led (ok_or held enoent) (λ to. walk state.nodes to path) at is in
    let begun = begins from.0 (begun_some held from.0 from.1) in
    let reached = walk_reaches state.nodes from.0 path at begun.0 from.2 in
    (reached.1, has_lives state from.0.0 at.0 begun.1 reached.0)

pub root_lives : (state : State) (path : List ℕ) (at : ℕ × Node) → walk_root state.nodes path ≡ Ok at →
    IsLiving state at
root_lives state path at is =
    walked_lives state (from_root state.nodes path) (parts path) at (λ root begun.
    let begins = root_begins state.nodes path root begun in (begins.1, inl begins.0)) is

here_begins : (state : State) (here : ℕ × Node) (path : List ℕ) (from : ℕ × Node) → IsLiving state here →
    from_here state.nodes here path ≡ Some from → IsLiving state from
here_begins state here [] from lives is = cc
here_begins state here (first ∷ path) from lives is =
    elim (if_begun (first == 47) (led_on state.nodes (Some 0)) (Some here) from is) [
      | inl begun ↦ (
          let led = led_is state.nodes (Some 0) from begun in (led.1, inl (sym (same_Some 0 from.0 led.0)))
          )
      | inr same ↦ subst (IsLiving state) (same_Some here from same) lives
    ]

pub path_lives : (state : State) (here : ℕ × Node) (path : List ℕ) (at : ℕ × Node) → IsLiving state here →
    walk_from state.nodes here path ≡ Ok at → IsLiving state at
path_lives state here path at lives is =
    walked_lives state (from_here state.nodes here path) (parts path) at (λ from begun.
    here_begins state here path from lives begun) is

-- ---- an opening by a name is that of what the name leads to

named_where : (state : State) (seat : HostSeat) (flags : OpenFlags) (refusal : Option Errno)
    (held : Option (ℕ × Node)) →
    unless state refusal (on_led state held (opening state seat flags))
    ≡ open_walked state seat flags (ok_unless refusal (ok_or held enoent))
named_where state seat flags None None = refl
named_where state seat flags None (Some at) = refl
named_where state seat flags (Some errno) held = refl

named_in : (state : State) (seat : HostSeat) (name : List ℕ) (flags : OpenFlags) (at : Option (OpenFile × Node)) →
    on_open state at (λ held parent.
    unless state (name_refusal seat parent name)
    (on_found state (there_in parent name) (opening state seat flags)))
    ≡ open_walked state seat flags (find_in state.nodes seat name at)
named_in state seat name flags None = refl
named_in state seat name flags (Some at) =
    named_where state seat flags (name_refusal seat at.1 name) (led_on state.nodes (there_in at.1 name))

pub named_is : (state : State) (seat : HostSeat) (fd : Fd) (name : List ℕ) (flags : OpenFlags) →
    open_named state seat fd name flags
    ≡ open_walked state seat flags (find_name state.nodes seat name (open_at state.slots fd.0))
named_is state seat fd name flags = named_in state seat name flags (open_on state.nodes (open_at state.slots fd.0))
