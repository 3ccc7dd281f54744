use Rattle.std.proofs.Common.{◌≡◌, ◌<◌, ◌+◌, ◌^◌, ◌-◌, ℕ, inl, inr, List, [], ◌∷◌, ◌++◌, length, take, refl}
use Rattle.std.proofs.Common.{slice_get, slice_set, ap, sym, ◌∙◌, arith, rules}
use Rattle.std.specs.Option.{is_some}
use Rattle.std.proofs.lemmas.Option.{same_Some}
use Rattle.pt_host.specs.Words.{set_at}
use Rattle.pt_host.specs.declared.ids.Fd.{Fd}
use Rattle.pt_host.specs.declared.ids.Time.{Time}
use Rattle.pt_host.specs.declared.reply.HostReply.TheVariants as reply
use Rattle.pt_host.specs.declared.reply.HostValue.TheVariants as value
use Rattle.pt_rules.specs.Calls.{begun_on, tells, with_descriptor}
use Rattle.pt_rules.specs.Edits.{grown, made, with_made}
use Rattle.pt_node.specs.Entries.{new_object}
use Rattle.pt_node.specs.Numbers.{counts_of, freed, having, table_in}
use Rattle.pt_rules.specs.OpeningCalls.{open_new}
use Rattle.pt_node.specs.Slots.{least_free, open_at, put_at, taken_back}
use Rattle.pt_rules.specs.State.{time_of}
use Rattle.pt_store.specs.StoreState.{numbers_of, state_of}
use Rattle.pt_node.specs.declared.node.Node.{Node}
use Rattle.pt_node.specs.declared.node.Content.TheVariants.{Regular}
use Rattle.pt_node.specs.declared.slots.OpenFile.{OpenFile}
use Rattle.pt_node.specs.declared.slots.Slot.{Slot}
use Rattle.pt_node.specs.declared.slots.Slot.TheVariants.{Open}
use Rattle.pt_node.specs.Laws.Updates.{same_function}
use Rattle.pt_store.proofs.KeptLinks.{kept_open_made, last_opened, taken_back-put}
use Rattle.pt_store.proofs.KeptMade.{given, kept_back}
use Rattle.pt_store.proofs.KeptStore.{kept_as, parts_in, same_counts, with_counts}
use Rattle.pt_store.proofs.store.Store.open_made.Goals as goal

abbrev at_fd : ℕ → Fd
at_fd n = record { 0 = n }

pub returns-in-Ok-add_node-clause-kept : goal.returns-in-Ok-add_node-clause-kept
returns-in-Ok-add_node-clause-kept c =
    let state = state_of c.args.self.now in
    let holds = counts_of c.args.self.now.inodes in
    let tables = table_in c.args.self.now.inodes.tables.items in
    let seat = c.args.seat.now in
    let flags = c.args.flags in
    let parent = c.node_at-parent.result.now in
    let dev = parent.ids.dev in
    let node = made state (numbers_of c.args.self.now) c.args.permissions seat.eff_uid seat.eff_gid 0
    (Regular []) parent in
    let at_dir = ap (λ (ns : List Node). slice_get ns c.args.dir) (sym c.deref.ensures.value)
    ∙ c.node_at-parent.ensures in
    let name : c.in-Ok.name.items ≡ c.args.name.now = search rules in
    let object = c.len-object.ensures ∙ c.args.self.now.nodes.ok.0 in
    let new = c.new_object-node.ensures
    ∙ ap (λ (bytes : List ℕ).
    new_object c.now-now.result c.in-Ok-add.number (c.len-object.result
    + 1) parent c.args.permissions seat.eff_uid seat.eff_gid 0 (Regular bytes)) c.new.ensures
    ∙ ap (λ (now : Time).
    new_object now c.in-Ok-add.number (c.len-object.result
    + 1) parent c.args.permissions seat.eff_uid seat.eff_gid 0 (Regular [])) c.now-now.ensures
    ∙ ap (λ (n : ℕ). new_object (time_of state) n (c.len-object.result
    + 1) parent c.args.permissions seat.eff_uid seat.eff_gid 0 (Regular [])) c.in-Ok-add.ensures.number
    ∙ ap (λ (n : ℕ). new_object (time_of state) (least_free (tables dev)) (n
    + 1) parent c.args.permissions seat.eff_uid seat.eff_gid 0 (Regular [])) object in
    let nodes = c.in-Ok-add_node.ensures.ok
    ∙ ap (λ (n : Node). grown c.now-now.result c.args.dir c.in-Ok.name.items n state.nodes) new
    ∙ ap (λ (now : Time). grown now c.args.dir c.in-Ok.name.items node state.nodes) c.now-now.ensures
    ∙ ap (λ (q : List ℕ). grown (time_of state) c.args.dir q node state.nodes) name in
    let long = ap length nodes in
    let few : length (with_made state c.args.dir c.args.name.now node).nodes < 2 ^ 63 =
    omega (arith, long, c.add_node.new.nodes.ok.0, c.add_node.new.nodes.ok.1, c.add_node.new.nodes.small) in
    let grows = with_made state c.args.dir c.args.name.now node in
    let slots = c.in-Ok-open.ensures.ok
    ∙ ap (λ (file : OpenFile). put_at c.in-Ok-open.fd.0 (Open file) state.slots) c.begun_on.ensures
    ∙ ap (λ (n : ℕ). put_at n (Open (begun_on flags c.len-object.result)) state.slots) c.in-Ok-open.ensures.fd
    ∙ ap (λ (o : ℕ). put_at (least_free state.slots) (Open (begun_on flags o)) state.slots) object in
    kept_as (with_descriptor grows flags (length state.nodes)) _
    (with_counts (slice_set (holds.holds ++ 1 ∷ []) (length state.nodes) 2) (holds.names ++ 1 ∷ [])
    (holds.directories ++ 0 ∷ [])) _ (given dev (having (length state.nodes)) tables) _
    (ap (λ (ns : List Node). parts_in state ns c.open.new.self) nodes
    ∙ ap (λ (ss : List Slot). parts_in state grows.nodes ss) slots)
    (same_counts _ _ _ _ _ _ (ap (λ (hs : List ℕ). slice_set hs c.len-object.result 2) c.in-Ok-add.ensures.holds
    ∙ ap (λ (o : ℕ). slice_set (holds.holds ++ 1 ∷ []) o 2) object) c.in-Ok-add.ensures.names
    c.in-Ok-add.ensures.directories)
    (same_function _ _ c.in-Ok-add.ensures.tables
    ∙ ap (λ (n : ℕ). set_at dev
    (put_at n (Open (having c.len-object.result)) (tables dev)) tables) c.in-Ok-add.ensures.number
    ∙ ap (λ (o : ℕ). given dev (having o) tables) object)
    (kept_open_made state holds tables c.requires.kept c.args.dir c.args.name.now node parent c.requires.into
    c.requires.free refl refl refl c.requires.small c.requires.good at_dir
    refl few seat flags refl)

pub returns-in-Ok-add_node-clause-answers : goal.returns-in-Ok-add_node-clause-answers
returns-in-Ok-add_node-clause-answers c = λ asked there.
    let state = state_of c.args.self.now in
    let holds = counts_of c.args.self.now.inodes in
    let tables = table_in c.args.self.now.inodes.tables.items in
    let seat = c.args.seat.now in
    let flags = c.args.flags in
    let parent = c.node_at-parent.result.now in
    let dev = parent.ids.dev in
    let node = made state (numbers_of c.args.self.now) c.args.permissions seat.eff_uid seat.eff_gid 0
    (Regular []) parent in
    let at_dir = ap (λ (ns : List Node). slice_get ns c.args.dir) (sym c.deref.ensures.value)
    ∙ c.node_at-parent.ensures in
    let name : c.in-Ok.name.items ≡ c.args.name.now = search rules in
    let object = c.len-object.ensures ∙ c.args.self.now.nodes.ok.0 in
    let new = c.new_object-node.ensures
    ∙ ap (λ (bytes : List ℕ).
    new_object c.now-now.result c.in-Ok-add.number (c.len-object.result
    + 1) parent c.args.permissions seat.eff_uid seat.eff_gid 0 (Regular bytes)) c.new.ensures
    ∙ ap (λ (now : Time).
    new_object now c.in-Ok-add.number (c.len-object.result
    + 1) parent c.args.permissions seat.eff_uid seat.eff_gid 0 (Regular [])) c.now-now.ensures
    ∙ ap (λ (n : ℕ). new_object (time_of state) n (c.len-object.result
    + 1) parent c.args.permissions seat.eff_uid seat.eff_gid 0 (Regular [])) c.in-Ok-add.ensures.number
    ∙ ap (λ (n : ℕ). new_object (time_of state) (least_free (tables dev)) (n
    + 1) parent c.args.permissions seat.eff_uid seat.eff_gid 0 (Regular [])) object in
    let nodes = c.in-Ok-add_node.ensures.ok
    ∙ ap (λ (n : Node). grown c.now-now.result c.args.dir c.in-Ok.name.items n state.nodes) new
    ∙ ap (λ (now : Time). grown now c.args.dir c.in-Ok.name.items node state.nodes) c.now-now.ensures
    ∙ ap (λ (q : List ℕ). grown (time_of state) c.args.dir q node state.nodes) name in
    let long = ap length nodes in
    let few : length (with_made state c.args.dir c.args.name.now node).nodes < 2 ^ 63 =
    omega (arith, long, c.add_node.new.nodes.ok.0, c.add_node.new.nodes.ok.1, c.add_node.new.nodes.small) in
    let grows = with_made state c.args.dir c.args.name.now node in
    let slots = c.in-Ok-open.ensures.ok
    ∙ ap (λ (file : OpenFile). put_at c.in-Ok-open.fd.0 (Open file) state.slots) c.begun_on.ensures
    ∙ ap (λ (n : ℕ). put_at n (Open (begun_on flags c.len-object.result)) state.slots) c.in-Ok-open.ensures.fd
    ∙ ap (λ (o : ℕ). put_at (least_free state.slots) (Open (begun_on flags o)) state.slots) object in
    let fd = ap at_fd c.in-Ok-open.ensures.fd in
    let after = with_descriptor grows flags (length state.nodes) in
    inl (ap (λ (ns : List Node). (reply.Ok (value.Fd c.in-Ok-open.fd), parts_in state ns c.open.new.self)) nodes
    ∙ ap (λ (ss : List Slot). (reply.Ok (value.Fd c.in-Ok-open.fd), parts_in state grows.nodes ss)) slots
    ∙ ap (λ (f : Fd). tells after (value.Fd f)) fd
    ∙ ap (open_new state (numbers_of c.args.self.now) seat flags c.args.permissions c.args.dir c.args.name.now)
    (same_Some parent asked (sym at_dir ∙ there)))

pub returns-in-Err-clause-kept : goal.returns-in-Err-clause-kept
returns-in-Err-clause-kept c =
    let state = state_of c.args.self.now in
    let holds = counts_of c.args.self.now.inodes in
    let tables = table_in c.args.self.now.inodes.tables.items in
    let dev = c.node_at-parent.result.now.ids.dev in
    let file = having c.len-object.result in
    let slots = c.take_back-in-Err-2.ensures
    ∙ ap (λ (n : ℕ). taken_back c.in-Ok-open.fd.0 n c.open.new.self) c.len-length.ensures
    ∙ ap (λ (ss : List Slot). taken_back c.in-Ok-open.fd.0 (length state.slots) ss) c.in-Ok-open.ensures.ok
    ∙ ap (λ (n : ℕ). taken_back n (length state.slots)
    (put_at n (Open c.begun_on.result) state.slots)) c.in-Ok-open.ensures.fd
    ∙ taken_back-put state.slots c.begun_on.result in
    kept_as state _ (with_counts (take (length (holds.holds ++ 1 ∷ []) - 1) (holds.holds ++ 1 ∷ []))
    (take (length (holds.names ++ 1 ∷ []) - 1) (holds.names ++ 1 ∷ []))
    (take (length (holds.directories ++ 0 ∷ []) - 1) (holds.directories ++ 0 ∷ []))) _
    (freed dev (least_free (tables dev)) (given dev file tables)) _
    (ap (λ (ns : List Node). parts_in state ns c.take_back-in-Err-2.new.self) c.in-Err.ensures.err
    ∙ ap (parts_in state state.nodes) slots)
    (same_counts _ _ _ _ _ _
    (c.take_back-in-Err.ensures.holds ∙ ap (λ (xs : List ℕ). take (length xs - 1) xs) c.in-Ok-add.ensures.holds)
    (c.take_back-in-Err.ensures.names ∙ ap (λ (xs : List ℕ). take (length xs - 1) xs) c.in-Ok-add.ensures.names)
    (c.take_back-in-Err.ensures.directories
    ∙ ap (λ (xs : List ℕ). take (length xs - 1) xs) c.in-Ok-add.ensures.directories))
    (same_function _ _ c.take_back-in-Err.ensures.tables
    ∙ ap (freed dev c.in-Ok-add.number)
    (same_function _ _ c.in-Ok-add.ensures.tables
    ∙ ap (λ (n : ℕ). set_at dev (put_at n (Open file) (tables dev)) tables) c.in-Ok-add.ensures.number)
    ∙ ap (λ (n : ℕ). freed dev n (given dev file tables)) c.in-Ok-add.ensures.number)
    (kept_back state holds tables dev file c.requires.kept)

pub returns-in-Err-clause-answers : goal.returns-in-Err-clause-answers
returns-in-Err-clause-answers c = λ asked there.
    let state = state_of c.args.self.now in
    let slots = c.take_back-in-Err-2.ensures
    ∙ ap (λ (n : ℕ). taken_back c.in-Ok-open.fd.0 n c.open.new.self) c.len-length.ensures
    ∙ ap (λ (ss : List Slot). taken_back c.in-Ok-open.fd.0 (length state.slots) ss) c.in-Ok-open.ensures.ok
    ∙ ap (λ (n : ℕ). taken_back n (length state.slots)
    (put_at n (Open c.begun_on.result) state.slots)) c.in-Ok-open.ensures.fd
    ∙ taken_back-put state.slots c.begun_on.result in
    inr (
      refl,
      ap (λ (ns : List Node). parts_in state ns c.take_back-in-Err-2.new.self) c.in-Err.ensures.err
          ∙ ap (parts_in state state.nodes) slots,
    )

pub take_back-requires-in-Err-2 : goal.take_back-requires-in-Err-2
take_back-requires-in-Err-2 c =
    let state = state_of c.args.self.now in
    let is = c.in-Ok-open.ensures.ok
    ∙ ap (λ (n : ℕ). put_at n (Open c.begun_on.result) state.slots) c.in-Ok-open.ensures.fd in
    λ more. ap (λ (ss : List Slot). is_some (open_at ss (length ss - 1))) is
    ∙ last_opened state.slots c.begun_on.result (let one = c.len-length.ensures in let two = ap length is in
    omega (arith, one, two, more))

pub returns-in_default-add-clause-kept : goal.returns-in_default-add-clause-kept
returns-in_default-add-clause-kept c =
    let state = state_of c.args.self.now in
    let holds = counts_of c.args.self.now.inodes in
    let tables = table_in c.args.self.now.inodes.tables.items in
    let slots = c.take_back.ensures
    ∙ ap (λ (n : ℕ). taken_back c.in-Ok-open.fd.0 n c.open.new.self) c.len-length.ensures
    ∙ ap (λ (ss : List Slot). taken_back c.in-Ok-open.fd.0 (length state.slots) ss) c.in-Ok-open.ensures.ok
    ∙ ap (λ (n : ℕ). taken_back n (length state.slots)
    (put_at n (Open c.begun_on.result) state.slots)) c.in-Ok-open.ensures.fd
    ∙ taken_back-put state.slots c.begun_on.result in
    kept_as state _ holds _ tables _ (ap (parts_in state state.nodes) slots)
    (same_counts _ _ _ _ _ _ c.in_default-add.ensures.same_holds c.in_default-add.ensures.same_names
    c.in_default-add.ensures.same_directories)
    (same_function _ _ c.in_default-add.ensures.same_tables) c.requires.kept

pub returns-in_default-add-clause-answers : goal.returns-in_default-add-clause-answers
returns-in_default-add-clause-answers c = λ asked there.
    let state = state_of c.args.self.now in
    let slots = c.take_back.ensures
    ∙ ap (λ (n : ℕ). taken_back c.in-Ok-open.fd.0 n c.open.new.self) c.len-length.ensures
    ∙ ap (λ (ss : List Slot). taken_back c.in-Ok-open.fd.0 (length state.slots) ss) c.in-Ok-open.ensures.ok
    ∙ ap (λ (n : ℕ). taken_back n (length state.slots)
    (put_at n (Open c.begun_on.result) state.slots)) c.in-Ok-open.ensures.fd
    ∙ taken_back-put state.slots c.begun_on.result in
    inr (refl, ap (parts_in state state.nodes) slots)
