-- A store goes on knowing what lives through the calls that make, take and lead no name.
use Rattle.std.proofs.Common.{◌≡◌, inl, inr, ℕ, List}
use Rattle.std.proofs.Common.{[], ◌∷◌, length, Option, Some, None, slice_get, refl, ap}
use Rattle.std.proofs.Common.{sym, subst, arith}
use Rattle.std.proofs.lemmas.List.Sums.{sum_by-set}
use Rattle.std.proofs.lemmas.Option.{slice_get_within, get_or_from_slice_get}
use Rattle.pt_node.specs.Numbers.{Counts}
use Rattle.pt_host.specs.declared.ids.Errno.{Errno}
use Rattle.pt_host.specs.declared.ids.Fd.{Fd}
use Rattle.pt_host.specs.declared.seat.HostSeat.{HostSeat}
use Rattle.pt_host.specs.declared.reply.HostReply.{HostReply}
use Rattle.pt_rules.specs.Calls.{Answered, with_node}
use Rattle.pt_rules.specs.ContentCalls.{after_writing, copied, copy_checks, copy_range, with_position, with_written}
use Rattle.pt_rules.specs.Does.{AnswersAs}
use Rattle.pt_rules.specs.Faults.{past_plan}
use Rattle.pt_node.specs.Entries.{changed_at, changed_where}
use Rattle.pt_store.specs.Kept.{IsKept}
use Rattle.pt_node.specs.Reading.{after_reading}
use Rattle.pt_node.specs.Slots.{open_at, placed_where}
use Rattle.pt_rules.specs.State.{State, counted, time_of}
use Rattle.pt_node.specs.declared.node.Node.{Node}
use Rattle.pt_node.specs.declared.slots.OpenFile.{OpenFile}
use Rattle.pt_node.specs.declared.slots.Slot.{Slot}
use Rattle.pt_node.specs.declared.slots.Slot.TheVariants.{Open}
use Rattle.pt_rules.specs.Laws.Cases.{by_checks, by_fd}
use Rattle.pt_rules.specs.Laws.Changed.{alike_itself}
use Rattle.pt_rules.specs.Laws.Keeping.{KeepsNode, keeps_reading}
use Rattle.pt_rules.specs.Laws.MoveFair.{sound-with_position}
use Rattle.pt_rules.specs.Laws.PlainCalls.{keeps_refilled}
use Rattle.pt_rules.specs.Laws.Soundness.{alike_set, sound-counted, sound-with_node}
use Rattle.pt_node.specs.Laws.Updates.{open_slot}
use Rattle.pt_store.proofs.Kept.{kept_alike}
use Rattle.pt_store.proofs.KeptStore.{nodes_in}
use Rattle.pt_store.proofs.Weighing.{weighed-set_same}
use Rattle.pt_rules.specs.Living.{opens, opens_of}

-- ---- what an answer leaves is kept where what the table leaves is

pub kept_told : (told : Answered) (given : HostReply) (after : State) (holds : Counts) (tables : ℕ → List Slot) →
    (given, after) ≡ told → IsKept told.1 holds tables → IsKept after holds tables
kept_told told given after holds tables is kept =
    subst (λ (s : State). IsKept s holds tables) (sym (ap (λ (both : Answered). both.1) is)) kept

pub kept_answer : (told : Answered) (before : State) (given : HostReply) (after : State) (holds : Counts)
    (tables : ℕ → List Slot) → AnswersAs told before given after →
    IsKept before holds tables → IsKept told.1 holds tables → IsKept after holds tables
kept_answer told before given after holds tables (inl is) kept by_table =
    kept_told told given after holds tables is by_table
kept_answer told before given after holds tables (inr none) kept by_table =
    subst (λ (s : State). IsKept s holds tables) (sym none.1) kept

-- ---- another position

opens_of-placed : (file : Option OpenFile) (fd position : ℕ) (slots : List Slot) (object : ℕ) →
    open_at slots fd ≡ file → opens_of (placed_where file fd position slots) object ≡ opens_of slots object
opens_of-placed None fd position slots object is = refl
opens_of-placed (Some file) fd position slots object is =
    let slot = open_slot (slice_get slots fd) file is in
    let sums = sum_by-set (opens object) slots fd (Open (record file { position = position })) (Open file)
    (slice_get_within slots fd (Open file) slot) in
    let was = ap (opens object) (get_or_from_slice_get slots fd (Open file) (Open file) slot) in
    omega (arith, sums, was)

-- ---- call by call

module _ (state : State) (holds : Counts) (tables : ℕ → List Slot) (kept : IsKept state holds tables) where
  -- one object has become another that keeps it
  pub kept_node : (object : ℕ) (node after : Node) → slice_get state.nodes object ≡ Some node → KeepsNode node after →
      IsKept (with_node state object after) holds tables
  kept_node object node after there keeps =
      kept_alike state (with_node state object after) holds tables kept
      (sound-with_node state object node after kept.sound there keeps)
      (alike_set state.nodes object node after there keeps)
      (λ o. refl)
      (λ w. weighed-set_same w state.nodes object node after there keeps.names)

  pub kept_placed : (fd position : ℕ) → IsKept (with_position state fd position) holds tables
  kept_placed fd position =
      kept_alike state (with_position state fd position) holds tables kept
      (sound-with_position state fd position kept.sound) (alike_itself state.nodes)
      (λ o. opens_of-placed (open_at state.slots fd) fd position state.slots o refl) (λ w. refl)

  kept_where : (object : ℕ) (f : Node → Node) → ((node : Node) → KeepsNode node (f node)) → (at : Option Node) →
      slice_get state.nodes object ≡ at → IsKept (nodes_in state (changed_where at object f state.nodes)) holds tables
  kept_where object f keeps None is = kept
  kept_where object f keeps (Some node) is = kept_node object node (f node) is (keeps node)

  pub kept_changed : (object : ℕ) (f : Node → Node) → ((node : Node) → KeepsNode node (f node)) →
      IsKept (nodes_in state (changed_at object f state.nodes)) holds tables
  kept_changed object f keeps = kept_where object f keeps (slice_get state.nodes object) refl

  -- what is planned, counted and told beside the tree
  pub kept_counted : IsKept (counted (past_plan state)) holds tables
  kept_counted = kept_alike state (counted (past_plan state)) holds tables kept (sound-counted state kept.sound)
      (alike_itself state.nodes) (λ o. refl) (λ o. refl)

  pub kept_beside : (plans : List (ℕ × Errno)) (faults : ℕ) →
      IsKept (record state { plans = plans; faults = faults }) holds tables
  kept_beside plans faults =
      kept_alike state (record state { plans = plans; faults = faults }) holds tables kept (record {
        timely = kept.sound.timely;
        few = kept.sound.few;
        made = kept.sound.made;
        named = kept.sound.named;
        short = kept.sound.short;
        opened = kept.sound.opened;
        apart = kept.sound.apart;
      })
      (alike_itself state.nodes) (λ o. refl) (λ o. refl)

  pub kept_written : (seat : HostSeat) (object start : ℕ) (bytes : List ℕ) →
      IsKept (with_written state seat object start bytes) holds tables
  kept_written seat object start [] = kept
  kept_written seat object start (byte ∷ bytes) =
      kept_where object (after_writing seat (time_of state) start (byte ∷ bytes))
      (λ node. keeps_refilled seat (time_of state) _ node) (slice_get state.nodes object) refl

  abbrev IsLeft : Answered → Type 0
  IsLeft told = IsKept told.1 holds tables

-- ---- calls of two steps

module _ (state : State) (holds : Counts) (tables : ℕ → List Slot) (kept : IsKept state holds tables) where
  pub kept_copy_range : (seat : HostSeat) (fd : Fd) (offset : ℕ) (fd2 : Fd) (offset2 size flags : ℕ) →
      IsKept (copy_range state seat fd offset fd2 offset2 size flags).1 holds tables
  kept_copy_range seat fd offset fd2 offset2 size flags =
      by_fd state (λ (told : Answered). IsKept told.1 holds tables) (λ errno. kept) fd _
      (λ file node is there. by_fd state (λ (told : Answered). IsKept told.1 holds tables) (λ errno. kept) fd2 _
      (λ file2 node2 is2 there2. by_checks state (λ (told : Answered). IsKept told.1 holds tables) (λ errno. kept)
      (copy_checks file node file2 offset offset2 (length (copied offset size node)) flags) _
      (λ none. kept_written (with_node state file.object (after_reading (time_of state) node)) holds tables
      (kept_node state holds tables kept file.object node (after_reading (time_of state) node) there
      (keeps_reading (time_of state) node))
      seat file2.object offset2 (copied offset size node))))
