-- Proof. `CopyRange`: the time of access of what is read, and then what is written.
use Rattle.std.proofs.Common.{◌≡◌, ◌<◌, inl, inr, ℕ, List, [], ◌∷◌, length, Option, Some, slice_get, slice_set, refl}
use Rattle.std.proofs.Common.{ap, sym, ◌∙◌, subst}
use Rattle.std.proofs.lemmas.Bool.Decides.{eqb_tells}
use Rattle.std.proofs.lemmas.Option.{slice_get_within}
use Rattle.pt_host.specs.Contents.{ObjectContents}
use Rattle.pt_host.specs.LawfulTree.{TreeChanges}
use Rattle.pt_host.specs.Tree.{IsOpenOn, Tree}
use Rattle.pt_host.specs.declared.ids.Errno.{Errno}
use Rattle.pt_host.specs.declared.ids.Fd.{Fd}
use Rattle.pt_host.specs.declared.seat.HostSeat.{HostSeat}
use Rattle.pt_host.specs.declared.op.KeptHostOp.TheVariants as call
use Rattle.pt_host.specs.declared.reply.HostReply.TheVariants as reply
use Rattle.pt_host.specs.declared.reply.HostValue.TheVariants as value
use Rattle.pt_rules.specs.Calls.{refused, tells, with_node}
use Rattle.pt_rules.specs.ContentCalls.{after_writing, copied, copy_checks, copy_range, with_copied}
use Rattle.pt_node.specs.Entries.{changed_where}
use Rattle.pt_node.specs.Reading.{after_reading}
use Rattle.pt_node.specs.Slots.{open_at}
use Rattle.pt_rules.specs.Sound.{IsSound}
use Rattle.pt_rules.specs.State.{State, contents_of, time_of, tree_of}
use Rattle.pt_node.specs.declared.node.Node.{Node}
use Rattle.pt_node.specs.declared.slots.OpenFile.{OpenFile}
use Rattle.pt_rules.specs.Laws.Cases.{by_checks, by_fd}
use Rattle.pt_rules.specs.Laws.Fair.{IsFair, IsPlain, fair_node, fair_refused, no_flags}
use Rattle.pt_rules.specs.Laws.Keeping.{keeps_reading}
use Rattle.pt_rules.specs.Laws.Opens.{open_there, tree-with_node}
use Rattle.pt_rules.specs.Laws.PlainCalls.{keeps_refilled}
use Rattle.pt_rules.specs.Laws.Soundness.{sound-with_node}
use Rattle.pt_node.specs.Laws.Updates.{get-set_apart, get-set_here}

module _ (state : State) (seat : HostSeat) (fd : Fd) (offset : ℕ) (fd2 : Fd) (offset2 size flags : ℕ)
    (sound : IsSound state) where
  plain_copy : IsPlain (call.CopyRange fd offset fd2 offset2 size flags)
  plain_copy = record { refuses = λ tree errno. (tt, refl); passes = λ tree told fits. (fits, refl); opens = refl }

  copy_refuses : (errno : Errno) → IsFair state (call.CopyRange fd offset fd2 offset2 size flags) (refused state errno)
  copy_refuses errno = fair_refused state (call.CopyRange fd offset fd2 offset2 size flags) errno sound (tt, refl)

  -- what is written is there after the reading too
  still_there : (object : ℕ) (node after : Node) → slice_get state.nodes object ≡ Some node →
      (object2 : ℕ) (node2 : Node) →
      slice_get state.nodes object2 ≡ Some node2 →
      (n : Node) × (slice_get (slice_set state.nodes object after) object2 ≡ Some n)
  still_there object node after there object2 node2 there2 = elim (eqb_tells object2 object) [
    | inl e ↦ (
      after,
      ap (slice_get (slice_set state.nodes object after)) e.1
          ∙ get-set_here state.nodes object after (slice_get_within state.nodes object node there),
    )
    | inr apart ↦ (node2, get-set_apart state.nodes object after object2 apart.1 ∙ there2)
  ]

  copied_fair : (file : OpenFile) (node : Node) → slice_get state.nodes file.object ≡ Some node →
      (file2 : OpenFile) (node2 : Node) → open_at state.slots fd2.0 ≡ Some file2 →
      slice_get state.nodes file2.object ≡ Some node2 → (count : ℕ) (bytes : List ℕ) →
      IsFair state (call.CopyRange fd offset fd2 offset2 size flags)
      (tells (with_copied state seat file.object node file2.object offset2 bytes) (value.Count count))
  copied_fair file node there file2 node2 is2 there2 count [] =
      fair_node state (call.CopyRange fd offset fd2 offset2 size flags) (value.Count count) file.object node
      (after_reading (time_of state) node) sound there
      (keeps_reading (time_of state) node) plain_copy tt (inr refl)
  copied_fair file node there file2 node2 is2 there2 count (byte ∷ more) =
      let read = after_reading (time_of state) node in
      let keeps = keeps_reading (time_of state) node in
      let between = with_node state file.object read in
      let same = tree-with_node state file.object node read there keeps in
      let first = fair_node state (call.CopyRange fd offset fd2 offset2 size flags)
      (value.Count count) file.object node read sound there
      keeps plain_copy tt (inr refl) in
      let held = still_there file.object node read there file2.object node2 there2 in
      let after = after_writing seat (time_of state) offset2 (byte ∷ more) in
      let second = fair_node between (call.CopyRange fd offset fd2 offset2 size flags)
      (value.Count count) file2.object held.0 (after held.0)
      (sound-with_node state file.object node read sound there keeps) held.1
      (keeps_refilled seat (time_of state) _ held.0) plain_copy tt (inl (open_there between fd2 file2 is2)) in
      let last = with_node between file2.object (after held.0) in
      subst (λ (nodes : List Node).
      IsFair state (call.CopyRange fd offset fd2 offset2 size flags)
      (tells (record between { nodes = nodes }) (value.Count count)))
      (sym (ap (λ (at : Option Node). changed_where at file2.object after between.nodes) held.1))
      (record {
        sound = λ few. second.sound few;
        changes = subst (λ (t : Tree).
            TreeChanges t (call.CopyRange fd offset fd2 offset2 size flags) (reply.Ok (value.Count count))
            (tree_of last)) same second.changes;
        contents = record {
          objects = λ o within may.
              second.contents.objects o (subst (λ (t : Tree). o < length t.objects) (sym same) within)
              (λ m. may (subst (λ (t : Tree). IsOpenOn t fd2 o) same m))
              ∙ ap (λ (c : ObjectContents).
              record c { atime = ((contents_of last).objects o).atime }) (first.contents.objects o within may);
          openings = λ flags2 o asks within may.
              absurd (no_flags (call.CopyRange fd offset fd2 offset2 size flags) flags2 refl asks);
          emptied = λ flags2 o asks makes. absurd (makes tt);
          positions = λ k open_still none. refl;
          accesses = λ k open_still. refl;
          begins = λ flags2 opened asks is.
              absurd (no_flags (call.CopyRange fd offset fd2 offset2 size flags) flags2 refl asks);
        };
        allowed = λ faults. tt;
        faults = refl;
        fails = tt;
      })

  pub fair_copy : IsFair state (call.CopyRange fd offset fd2 offset2 size flags)
      (copy_range state seat fd offset fd2 offset2 size flags)
  fair_copy =
      by_fd state (IsFair state (call.CopyRange fd offset fd2 offset2 size flags)) copy_refuses fd _
      (λ file node is there.
      by_fd state (IsFair state (call.CopyRange fd offset fd2 offset2 size flags)) copy_refuses fd2 _
      (λ file2 node2 is2 there2.
      by_checks state (IsFair state (call.CopyRange fd offset fd2 offset2 size flags)) copy_refuses
      (copy_checks file node file2 offset offset2 (length (copied offset size node)) flags) _
      (λ none. copied_fair file node there file2 node2 is2 there2 (length (copied offset size node))
      (copied offset size node))))
