-- A file that is created, as the code comes to it.
use Rattle.std.proofs.Common.{◌≡◌, ℕ, List, Option, Some, None, option_map, ap, sym, ◌∙◌, slice_get}
use Rattle.pt_host.specs.declared.flags.OpenFlags.{OpenFlags}
use Rattle.pt_host.specs.declared.ids.Errno.{Errno}
use Rattle.pt_host.specs.declared.ids.Fd.{Fd}
use Rattle.pt_host.specs.declared.seat.HostSeat.{HostSeat}
use Rattle.pt_node.specs.Paths.{led_on}
use Rattle.pt_rules.specs.Calls.{Answered, checked, name_refusal, on_open, open_on, opening, refused, there_in}
use Rattle.pt_rules.specs.Calls.{unless}
use Rattle.pt_rules.specs.NameCalls.{masked}
use Rattle.pt_node.specs.Opening.{first_refusal}
use Rattle.pt_rules.specs.OpeningCalls.{create_or_open, created_checks, creating_checks, open_creating, open_new}
use Rattle.pt_node.specs.Slots.{open_at}
use Rattle.pt_rules.specs.State.{State}
use Rattle.pt_node.specs.declared.node.Node.{Node}
use Rattle.pt_node.specs.declared.slots.OpenFile.{OpenFile}

module _ (state : State) (numbers : ℕ → ℕ) (seat : HostSeat) (fd : Fd) (name : List ℕ) (flags : OpenFlags) (mode : ℕ)
    (file : OpenFile) (dir : Node)
    (is : open_at state.slots fd.0 ≡ Some file) (at : slice_get state.nodes file.object
    ≡ Some dir) (asks : name_refusal seat dir name ≡ None)
    (passes : first_refusal (creating_checks flags.0 (there_in dir name)) ≡ None) where
  -- the call, once it is seen what the name leads to
  abbrev goes : Option (ℕ × Node) → Answered
  goes there = create_or_open state numbers seat flags mode file.object dir name there

  abbrev rest : ℕ → Node → Answered
  rest place parent =
      checked state (creating_checks flags.0 (there_in parent name))
      (create_or_open state numbers seat flags mode place parent name (led_on state.nodes (there_in parent name)))

  creating_is : open_creating state numbers seat fd name flags mode ≡ goes (led_on state.nodes (there_in dir name))
  creating_is =
      ap (λ (f : Option OpenFile).
      on_open state (open_on state.nodes f) (λ o d. unless state (name_refusal seat d name) (rest o.object d))) is
      ∙ ap (λ (n : Option Node). on_open state (option_map (λ d. (file, d)) n)
      (λ o d. unless state (name_refusal seat d name) (rest o.object d))) at
      ∙ ap (λ (refusal : Option Errno). unless state refusal (rest file.object dir)) asks
      ∙ ap (λ (refusal : Option Errno). unless state refusal (goes (led_on state.nodes (there_in dir name)))) passes

  -- what is there is opened
  pub opens_there : (object : ℕ) (node : Node) → there_in dir name ≡ Some object →
      slice_get state.nodes object ≡ Some node →
      open_creating state numbers seat fd name flags mode ≡ opening state seat flags object node
  opens_there object node has there =
      creating_is ∙ ap (λ (held : Option ℕ). goes (led_on state.nodes held)) has
      ∙ ap (λ (found_node : Option Node). goes (option_map (λ n. (object, n)) found_node)) there

  -- a free name gets a new file
  new_is : there_in dir name ≡ None →
      open_creating state numbers seat fd name flags mode
      ≡ checked state (created_checks seat dir flags.0)
      (open_new state numbers seat flags (masked seat mode) file.object name dir)
  new_is free = creating_is ∙ ap (λ (held : Option ℕ). goes (led_on state.nodes held)) free

  pub refuses_new : (errno : Errno) → there_in dir name ≡ None →
      first_refusal (created_checks seat dir flags.0) ≡ Some errno →
      open_creating state numbers seat fd name flags mode ≡ refused state errno
  refuses_new errno free fails =
      new_is free
      ∙ ap (λ (refusal : Option Errno).
      unless state refusal (open_new state numbers seat flags (masked seat mode) file.object name dir)) fails

  pub makes_new : (permissions : ℕ) → there_in dir name ≡ None →
      first_refusal (created_checks seat dir flags.0) ≡ None → permissions ≡ masked seat mode →
      open_creating state numbers seat fd name flags mode
      ≡ open_new state numbers seat flags permissions file.object name dir
  makes_new permissions free none small =
      new_is free
      ∙ ap (λ (refusal : Option Errno).
      unless state refusal (open_new state numbers seat flags (masked seat mode) file.object name dir)) none
      ∙ ap (λ (p : ℕ). open_new state numbers seat flags p file.object name dir) (sym small)
