-- Proof. `MakeLink`: what it leaves of the tree and beside it.
use Rattle.std.proofs.Common.{◌≡◌, ◌==◌, inl, inr, ℕ, not, List, map, Some, None, is_some, slice_get}
use Rattle.std.proofs.Common.{refl, sym, ◌∙◌, subst}
use Rattle.pt_host.specs.Tree.{IsOpenOn}
use Rattle.pt_host.specs.declared.ids.Errno.{Errno}
use Rattle.pt_host.specs.declared.ids.Fd.{Fd}
use Rattle.pt_host.specs.declared.ids.Time.{Time}
use Rattle.pt_host.specs.declared.seat.HostSeat.{HostSeat}
use Rattle.pt_host.specs.declared.op.KeptHostOp.TheVariants as call
use Rattle.pt_host.specs.declared.reply.HostValue.TheVariants as value
use Rattle.pt_rules.specs.Calls.{done, name_refusal, refused, there_in}
use Rattle.pt_node.specs.Entries.{changed_at, restamped, touched, with_entry}
use Rattle.pt_node.specs.Links.{links_of}
use Rattle.pt_rules.specs.NameCalls.{link_checks, linked, make_link, with_linked}
use Rattle.pt_node.specs.Node.{is_directory, object_of}
use Rattle.pt_node.specs.Slots.{open_at}
use Rattle.pt_rules.specs.Sound.{IsSound}
use Rattle.pt_rules.specs.State.{State, time_of, tree_of}
use Rattle.pt_node.specs.declared.node.Node.{Node}
use Rattle.pt_node.specs.declared.slots.OpenFile.{OpenFile}
use Rattle.pt_rules.specs.Laws.Cases.{by_checks, by_fd, by_name}
use Rattle.pt_rules.specs.Laws.Changed.{objects-changed, same_tree}
use Rattle.pt_rules.specs.Laws.EditShapes.{object_gained}
use Rattle.pt_rules.specs.Laws.Fair.{IsFair, fair_refused}
use Rattle.pt_rules.specs.Laws.NameFair.{asked_named, asked_there, changed_other, keeps_others, there_at}
use Rattle.pt_rules.specs.Laws.NamesLed.{names_linked, sound_linked, with_link}
use Rattle.pt_rules.specs.Laws.Opens.{open_there}
use Rattle.pt_rules.specs.Laws.Outcomes.{none_there, passes_first}

module _ (now : Time) (dir : ℕ) (name : List ℕ) (object : ℕ) (nodes : List Node) where
  objects_linked : map object_of (linked now dir name object nodes) ≡ map object_of nodes
  objects_linked =
      objects-changed object (restamped now) (with_link now dir name object nodes) (λ node is. refl)
      ∙ objects-changed dir (λ at. touched now (with_entry name object at)) nodes (λ node is.
      object_gained now name object node)

module _ (state : State) (seat : HostSeat) (from fd : Fd) (name : List ℕ) (sound : IsSound state) where
  link_refuses : (errno : Errno) → IsFair state (call.MakeLink from fd name) (refused state errno)
  link_refuses errno = fair_refused state (call.MakeLink from fd name) errno sound (tt, refl)

  linked_fair : (file at : OpenFile) (dir : Node) → open_at state.slots from.0 ≡ Some file →
      open_at state.slots fd.0 ≡ Some at →
      slice_get state.nodes at.object ≡ Some dir → name_refusal seat dir name ≡ None → there_in dir name ≡ None →
      IsFair state (call.MakeLink from fd name) (done (with_linked state at.object name file.object))
  linked_fair file at dir source is there asks free =
      let into = asked_there state seat at.object dir name there asks in
      let on = open_there state fd at is in
      let linked_on = open_there state from file source in
      let within = sound.opened from.0 file source in
      record {
        sound = λ few. sound_linked state at.object name file.object sound (asked_named seat dir name asks) into
            (inr (inr (from.0, file, source, refl))) within;
        changes = (
          file.object,
          linked_on,
          (
            at.object,
            on,
            record {
              free = there_at state at.object dir name there ∙ free;
              links = same_tree _ _ _ _ _ _ (objects_linked (time_of state) at.object name file.object state.nodes)
                  (names_linked (time_of state) at.object name file.object state.nodes into) refl;
            },
          ),
        );
        contents = keeps_others state (with_linked state at.object name file.object)
            (call.MakeLink from fd name) value.Unit refl refl
            (λ o within none.
            changed_other file.object _ (changed_at at.object _ state.nodes) o (λ e.
            none (inl (subst (IsOpenOn (tree_of state) from) (sym e) linked_on)))
            ∙ changed_other at.object _ state.nodes o (λ e.
            none (inr (subst (IsOpenOn (tree_of state) fd) (sym e) on))));
        allowed = λ faults. tt;
        faults = refl;
        fails = tt;
      }

  pub fair_make_link : IsFair state (call.MakeLink from fd name) (make_link state seat from fd name)
  fair_make_link =
      by_fd state (IsFair state (call.MakeLink from fd name)) link_refuses from _
      (λ file node source node_there.
      by_name state (IsFair state (call.MakeLink from fd name)) link_refuses seat fd name _
      (λ at dir is there asks.
      by_checks state (IsFair state (call.MakeLink from fd name)) link_refuses
      (link_checks seat (links_of state.nodes file.object node) node dir name) _
      (λ none. linked_fair file at dir source is there asks
      (none_there (there_in dir name) (passes_first (is_some (there_in dir name)) _ _
      (passes_first (links_of state.nodes file.object node == 0) _ _
      (passes_first (not (node.ids.mnt_id == dir.ids.mnt_id)) _ _
      (passes_first (is_directory node) _ _ none).1).1).1).0))))
