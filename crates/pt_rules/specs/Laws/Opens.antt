-- Proof. What openings and closings leave of the tree, and what they are refused for.
use Rattle.std.proofs.Common.{◌≡◌, ◌≢◌, ◌+◌, inl, inr, ℕ, suc, Bool, true, false, not, ◌&&◌, cond, eqb}
use Rattle.std.proofs.Common.{List, [], ◌∷◌, Option, Some, None, Result, Err, ok_or, slice_get, slice_set}
use Rattle.std.proofs.Common.{option_map, option_and_then, subst, refl, ap, sym, ◌∙◌, arith, pos}
use Rattle.std.proofs.lemmas.Option.{same_Some, slice_get_within}
use Rattle.std.proofs.lemmas.Bool.Decides.{eqb_tells}
use Rattle.pt_host.specs.Words.{set_at}
use Rattle.pt_host.specs.Flags.{includes, o_path, o_tmpfile}
use Rattle.pt_host.specs.Errno.{errno_of, enoent, eopnotsupp}
use Rattle.pt_host.specs.Tree.{Opened, IsOpenOn}
use Rattle.pt_host.specs.LawfulTree.{opened_on, closed_at}
use Rattle.pt_host.specs.declared.ids.Errno.{Errno}
use Rattle.pt_host.specs.declared.ids.Fd.{Fd}
use Rattle.pt_host.specs.declared.flags.OpenFlags.{OpenFlags}
use Rattle.pt_host.specs.declared.seat.HostSeat.{HostSeat}
use Rattle.pt_node.specs.Names.{found}
use Rattle.pt_node.specs.Node.{name_at, names_in, object_of}
use Rattle.pt_node.specs.Slots.{open_at, file_of, least_free, put_at, closed_where}
use Rattle.pt_rules.specs.State.{State, tree_of, opened_as, time_of}
use Rattle.pt_node.specs.Opening.{first_refusal, path_checks, open_checks, opening_refusal, after_opening}
use Rattle.pt_rules.specs.Calls.{begun_on, with_descriptor, with_opened, name_refusal, name_checks}
use Rattle.pt_rules.specs.Sound.{IsSound}
use Rattle.pt_node.specs.Paths.{led_on, ok_unless}
use Rattle.pt_node.specs.declared.node.Node.{Node}
use Rattle.pt_node.specs.declared.slots.OpenFile.{OpenFile}
use Rattle.pt_node.specs.declared.slots.Slot.{Slot}
use Rattle.pt_node.specs.declared.slots.Slot.TheVariants.{Reserved, Free, Open}
use Rattle.pt_rules.specs.Laws.Cases.{NoneTells, refused_otherwise}
use Rattle.pt_rules.specs.Laws.SlotTable.{least_free-le-length}
use Rattle.pt_node.specs.Laws.Updates.{map-set_same, get-put_here, get-put_apart, get-set_here, get-set_apart}
use Rattle.pt_node.specs.Laws.Updates.{same_function, open_slot}
use Rattle.pt_rules.specs.Laws.Keeping.{KeepsNode, keeps_opening}
use Rattle.pt_rules.specs.Laws.Changed.{same_tree}
use Rattle.pt_rules.specs.Laws.Finding.{find_in, find_name, named_none}
use Rattle.pt_rules.specs.Laws.Soundness.{same_names}
use Rattle.pt_rules.specs.Laws.WellFormed.{file_of_open}

one_more : (n : ℕ) → 1 + n ≡ suc n
one_more n = omega arith

-- the least free number is not open
pub least_free-closed : (slots : List Slot) → open_at slots (least_free slots) ≡ None
least_free-closed [] = refl
least_free-closed (Reserved ∷ slots) =
    ap (λ k. open_at (Reserved ∷ slots) k) (one_more (least_free slots)) ∙ least_free-closed slots
least_free-closed (Free ∷ slots) = refl
least_free-closed (Open file ∷ slots) =
    ap (λ k. open_at (Open file ∷ slots) k) (one_more (least_free slots)) ∙ least_free-closed slots

pub opened-put : (file : OpenFile) (slots : List Slot) (fd : ℕ) →
    option_map opened_as (open_at (put_at (least_free slots) (Open file) slots) fd)
    ≡ set_at (least_free slots) (Some (opened_as file)) (λ k. option_map opened_as (open_at slots k)) fd
unfolding set_at
opened-put file slots fd = elim (eqb_tells fd (least_free slots)) [
  | inl same ↦ ap (λ k. option_map opened_as (open_at (put_at (least_free slots) (Open file) slots) k)) same.1
      ∙ ap (λ slot. option_map opened_as (file_of slot))
      (get-put_here (least_free slots) (Open file) slots (least_free-le-length slots))
      ∙ sym (ap (λ b. cond b (Some (opened_as file)) (option_map opened_as (open_at slots fd))) same.0)
  | inr apart ↦ ap (λ slot.
      option_map opened_as (file_of slot)) (get-put_apart (least_free slots) (Open file) slots fd apart.1)
      ∙ sym (ap (λ b. cond b (Some (opened_as file)) (option_map opened_as (open_at slots fd))) apart.0)
]

leads_kept : (nodes : List Node) (object : ℕ) (node after : Node) → slice_get nodes object ≡ Some node →
    KeepsNode node after → name_at (slice_set nodes object after) ≡ name_at nodes
leads_kept nodes object node after is keeps =
    same_function (name_at (slice_set nodes object after)) (name_at nodes)
    (λ dir. same_function (name_at (slice_set nodes object after) dir) (name_at nodes dir) (λ name.
    same_names nodes object node after is keeps dir name))

-- the tree does not tell the object from what it has become
pub tree-with_node : (state : State) (object : ℕ) (node after : Node) → slice_get state.nodes object ≡ Some node →
    KeepsNode node after → tree_of (record state { nodes = slice_set state.nodes object after }) ≡ tree_of state
tree-with_node state object node after is keeps =
    same_tree _ _ _ _ _ _ (map-set_same object_of state.nodes object node after is keeps.object)
    (leads_kept state.nodes object node after is keeps) refl

pub tree-with_opened : (state : State) (seat : HostSeat) (flags : OpenFlags) (object : ℕ) (node : Node) →
    slice_get state.nodes object ≡ Some node →
    tree_of (with_opened state seat flags object node)
    ≡ opened_on (tree_of state) object flags (record { 0 = least_free state.slots })
tree-with_opened state seat flags object node is =
    let after = after_opening seat (time_of state) flags.0 node in
    let keeps = keeps_opening seat (time_of state) flags.0 node in
    same_tree _ _ _ _ _ _
    (map-set_same object_of state.nodes object node after is keeps.object)
    (leads_kept state.nodes object node after is keeps)
    (same_function _ _ (λ fd. opened-put (begun_on flags object) state.slots fd))

pub tree-with_descriptor : (state : State) (flags : OpenFlags) (object : ℕ) →
    tree_of (with_descriptor state flags object)
    ≡ opened_on (tree_of state) object flags (record { 0 = least_free state.slots })
tree-with_descriptor state flags object =
    same_tree _ _ _ _ _ _ refl refl (same_function _ _ (λ fd. opened-put (begun_on flags object) state.slots fd))

-- errors of different numbers are different
pub errnos_apart : (m n : ℕ) → eqb m n ≡ false → errno_of m ≢ errno_of n
errnos_apart m n apart same =
    let e : errno_of m ≡ errno_of n = same in
    let numbers : pos m ≡ pos n = ap (λ errno. errno.0) e in
    let equal : m ≡ n = cc in
    apart_from m n apart equal
  where
    apart_from : (m n : ℕ) → eqb m n ≡ false → m ≡ n → ⊥
    apart_from m n apart equal =
        elim (eqb_tells m n) [
          | inl same ↦ (let e : true ≡ false = sym same.0 ∙ apart in cc)
          | inr differ ↦
              differ.1 equal
        ]

either : (b : Bool) (one other : Option Errno) (errno : Errno) → (one ≡ Some errno → errno ≢ enoent) →
    (other ≡ Some errno → errno ≢ enoent) → cond b one other ≡ Some errno → errno ≢ enoent
either true one other errno first second is = first is
either false one other errno first second is = second is

pub opening_refused : (seat : HostSeat) (node : Node) (flags : ℕ) (errno : Errno) →
    opening_refusal seat node flags ≡ Some errno → errno ≢ enoent
opening_refused seat node flags errno is =
    let for_path : NoneTells enoent (path_checks node flags) = (errnos_apart 20 2 refl, tt) in
    let for_other : NoneTells enoent (open_checks seat node flags) = (
      errnos_apart 95 2 refl,
      (
        errnos_apart 22 2 refl,
        (
          errnos_apart 40 2 refl,
          (
            errnos_apart 20 2 refl,
            (errnos_apart 21 2 refl, (errnos_apart 6 2 refl, (errnos_apart 13 2 refl, (errnos_apart 13 2 refl, tt)))),
          ),
        ),
      ),
    ) in
    either (includes flags o_path) (first_refusal (path_checks node flags))
    (first_refusal (open_checks seat node flags)) errno
    (refused_otherwise enoent (path_checks node flags) errno for_path)
    (refused_otherwise enoent (open_checks seat node flags) errno for_other)
    is

allowed_where : (path tmpfile : Bool) (one rest : Option Errno) (errno : Errno) →
    cond path one (cond tmpfile (Some errno) rest) ≡ None → (tmpfile && not path) ≡ false
allowed_where true true one rest errno is = refl
allowed_where true false one rest errno is = refl
allowed_where false true one rest errno is = cc
allowed_where false false one rest errno is = refl

pub opening_allowed : (seat : HostSeat) (node : Node) (flags : ℕ) → opening_refusal seat node flags ≡ None →
    (includes flags o_tmpfile && not (includes flags o_path)) ≡ false
opening_allowed seat node flags is = allowed_where (includes flags o_path) (includes flags o_tmpfile) _ _ eopnotsupp is

abbrev failed : Errno → Result (ℕ × Node) Errno
failed errno = Err errno

same_error : (errno other : Errno) → failed errno ≡ failed other → errno ≡ other
same_error errno other is = cc

missing_where : (checks : List (Bool × Errno)) (refusal : Option Errno) (held : Option (ℕ × Node)) →
    NoneTells enoent checks →
    first_refusal checks ≡ refusal → ok_unless refusal (ok_or held enoent) ≡ failed enoent → held ≡ None
missing_where checks (Some errno) held none first is =
    absurd (refused_otherwise enoent checks errno none first (same_error errno enoent is))
missing_where checks None None none first is = refl
missing_where checks None (Some other) none first is = cc

missing_in : (nodes : List Node) (seat : HostSeat) (name : List ℕ) (file : OpenFile) (dir : Option Node) →
    find_in nodes seat name (option_map (λ node. (file, node)) dir) ≡ failed enoent →
    led_on nodes (option_and_then (λ node. found name (names_in node.content)) dir) ≡ None
missing_in nodes seat name file None is = refl
missing_in nodes seat name file (Some dir) is =
    let none : NoneTells enoent (name_checks seat dir name) =
    (errnos_apart 20 2 refl, (errnos_apart 36 2 refl, (errnos_apart 13 2 refl, tt))) in
    missing_where (name_checks seat dir name) (name_refusal seat dir name)
    (led_on nodes (found name (names_in dir.content))) none refl is

pub missing_name : (state : State) (seat : HostSeat) (name : List ℕ) (file : Option OpenFile) → IsSound state →
    find_name state.nodes seat name file ≡ Err enoent →
    (dir : OpenFile) → file ≡ Some dir → name_at state.nodes dir.object name ≡ None
missing_name state seat name None sound is dir held = cc
missing_name state seat name (Some other) sound is dir held =
    let same : other ≡ dir = same_Some other dir held in
    subst (λ (file : OpenFile). name_at state.nodes file.object name ≡ None) same
    (named_none state other.object name (name_at state.nodes other.object name) sound refl
    (missing_in state.nodes seat name other (slice_get state.nodes other.object) is))

-- the descriptor's own object
pub open_there : (state : State) (fd : Fd) (file : OpenFile) → open_at state.slots fd.0 ≡ Some file →
    IsOpenOn (tree_of state) fd file.object
open_there state fd file is = (opened_as file, ap (option_map opened_as) is, refl)

pub same_open : (state : State) (fd : Fd) (dir : ℕ) → IsOpenOn (tree_of state) fd dir →
    (file : OpenFile) × (open_at state.slots fd.0 ≡ Some file) × (file.object ≡ dir)
same_open state fd dir (open_as, is, object) =
    let held = file_of_open state fd.0 open_as is in
    (held.0, held.1, ap (λ (o : Opened). o.object) held.2 ∙ object)

none_opened : (o : Option OpenFile) → o ≡ None → option_map opened_as o ≡ None
none_opened o is = ap (option_map opened_as) is

pub opened-closed : (file : Option OpenFile) (fd : ℕ) (slots : List Slot) (k : ℕ) → open_at slots fd ≡ file →
    option_map opened_as (open_at (closed_where file fd slots) k)
    ≡ set_at fd None (λ j. option_map opened_as (open_at slots j)) k
unfolding set_at
opened-closed None fd slots k is = elim (eqb_tells k fd) [
  | inl same ↦ ap (λ j. option_map opened_as (open_at slots j)) same.1 ∙ none_opened (open_at slots fd) is
      ∙ sym (ap (λ b. cond b None (option_map opened_as (open_at slots k))) same.0)
  | inr apart ↦ sym (ap (λ b. cond b None (option_map opened_as (open_at slots k))) apart.0)
]
opened-closed (Some file) fd slots k is =
    let within = slice_get_within slots fd (Open file) (open_slot (slice_get slots fd) file is) in
    elim (eqb_tells k fd) [
      | inl same ↦ ap (λ j. option_map opened_as (open_at (slice_set slots fd Free) j)) same.1
          ∙ ap (λ slot. option_map opened_as (file_of slot)) (get-set_here slots fd Free within)
          ∙ sym (ap (λ b. cond b None (option_map opened_as (open_at slots k))) same.0)
      | inr apart ↦ ap (λ slot. option_map opened_as (file_of slot)) (get-set_apart slots fd Free k apart.1)
          ∙ sym (ap (λ b. cond b None (option_map opened_as (open_at slots k))) apart.0)
    ]

pub closed_tree : (before : State) (fd : Fd) (file : Option OpenFile) → open_at before.slots fd.0 ≡ file →
    tree_of (record before { slots = closed_where file fd.0 before.slots }) ≡ closed_at (tree_of before) fd
closed_tree before fd file is =
    same_tree _ _ _ _ _ _ refl refl (same_function _ _ (λ k. opened-closed file fd.0 before.slots k is))
