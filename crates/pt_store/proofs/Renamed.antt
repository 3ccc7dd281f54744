-- What a rename goes on with, as code comes to it.
use Rattle.std.proofs.Common.{◌≡◌, ◌≢◌, ◌⊎◌, inl, inr, ◌==◌, ◌&&◌, ℕ, Bool, true, false, not, cond, eq-eqb, List}
use Rattle.std.proofs.Common.{Option, Some, None, option_map, slice_get, refl, ap, sym, ◌∙◌}
use Rattle.std.proofs.lemmas.Bool.Decides.{eqb_tells}
use Rattle.pt_host.specs.declared.ids.Errno.{Errno}
use Rattle.pt_node.specs.Opening.{first_refusal}
use Rattle.pt_node.specs.Paths.{led_on}
use Rattle.pt_node.specs.declared.node.Node.{Node}
use Rattle.pt_rules.specs.Calls.{done, on_led, there_in, unless}
use Rattle.pt_rules.specs.EditPaths.{Place, named_at, path_goes_through}
use Rattle.pt_rules.specs.Edits.{move_checks, rename_object, rename_onto, rename_placed}
use Rattle.pt_rules.specs.NameCalls.{exchange, rename_to, with_exchanged}
use Rattle.pt_rules.specs.State.{State}

abbrev found_at : ℕ → Node → Option (ℕ × Node)
found_at object node = Some (object, node)

-- an edit that is not refused moves the name
pub placed_onto : (state : State) (new : List ℕ) (from to : Place) (object : ℕ) (node : Node) (there : Option ℕ) →
    led_on state.nodes (there_in from.0.1 from.1) ≡ found_at object node → there_in to.0.1 to.1 ≡ there →
    first_refusal (move_checks (path_goes_through object state.nodes new) from.0.1 to.0.1 node
    (led_on state.nodes there)) ≡ None →
    rename_onto state (named_at from) (named_at to) object node (led_on state.nodes there)
    ≡ rename_placed state new from to
placed_onto state new from to object node there led has none =
    sym (ap (λ (held : Option (ℕ × Node)).
    on_led state held (λ o n.
    rename_object state new from to o n (led_on state.nodes (there_in to.0.1 to.1)))) led
    ∙ ap (λ (held : Option ℕ). rename_object state new from to object node (led_on state.nodes held)) has
    ∙ ap (λ (refusal : Option Errno).
    unless state refusal (rename_onto state (named_at from) (named_at to) object node (led_on state.nodes there)))
    none)

not_exchange : (b : Bool) (flags : ℕ) → flags ≢ exchange → (b && (flags == exchange)) ≡ false
not_exchange b flags other = elim (eqb_tells flags exchange) [
  | inl same ↦ absurd (other same.1)
  | inr apart ↦ ap (λ (is : Bool). b && is) apart.0 ∙ never b
]
  where
    never : (b : Bool) → (b && false) ≡ false
    never true = refl
    never false = refl

-- the names are not exchanged where both lead to one object, and by no other flags
pub not_traded : (other object flags : ℕ) → (other ≡ object) ⊎ (flags ≢ exchange) →
    (not (other == object) && (flags == exchange)) ≡ false
not_traded other object flags (inl same) =
    ap (λ (is : Bool). not is && (flags == exchange)) (eq-eqb other object same)
not_traded other object flags (inr apart) = not_exchange (not (other == object)) flags apart

-- then the name is moved
pub moves_onto : (state : State) (from to : ℕ × List ℕ) (object : ℕ) (node : Node) (target : Option ℕ) (flags : ℕ) →
    ((other : ℕ) → target ≡ Some other → (not (other == object) && (flags == exchange)) ≡ false) →
    rename_onto state from to object node (led_on state.nodes target)
    ≡ rename_to state from to object node (led_on state.nodes target) flags
moves_onto state from to object node None flags untraded = refl
moves_onto state from to object node (Some other) flags untraded = by_node (slice_get state.nodes other)
  where
    by_node : (there : Option Node) →
        rename_onto state from to object node (option_map (λ (n : Node). (other, n)) there)
        ≡ rename_to state from to object node (option_map (λ (n : Node). (other, n)) there) flags
    by_node None = refl
    by_node (Some there) =
        sym (ap (λ (trades : Bool). cond trades (done (with_exchanged state from to object other))
        (rename_onto state from to object node (found_at other there))) (untraded other refl))

-- and else the two objects change places
pub trades_both : (state : State) (from to : ℕ × List ℕ) (object : ℕ) (node : Node) (target : Option ℕ) (flags : ℕ)
    (other : ℕ) (there : Node) →
    target ≡ Some other → slice_get state.nodes other ≡ Some there → other ≢ object → flags ≡ exchange →
    done (with_exchanged state from to object other)
    ≡ rename_to state from to object node (led_on state.nodes target) flags
trades_both state from to object node target flags other there is at apart trades =
    sym (ap (λ (held : Option ℕ). rename_to state from to object node (led_on state.nodes held) flags) is
    ∙ ap (λ (n : Option Node).
    rename_to state from to object node (option_map (λ (one : Node). (other, one)) n) flags) at
    ∙ ap (λ (same : Bool). cond (not same && (flags == exchange)) (done (with_exchanged state from to object other))
    (rename_onto state from to object node (found_at other there))) (differs (eqb_tells other object))
    ∙ ap (λ (flag : Bool). cond flag (done (with_exchanged state from to object other))
    (rename_onto state from to object node (found_at other there))) (eq-eqb flags exchange trades))
  where
    differs : (((other == object) ≡ true) × (other ≡ object)) ⊎ (((other == object) ≡ false) × (other ≢ object)) →
        (other == object) ≡ false
    differs (inl same) = absurd (apart same.1)
    differs (inr other_than) = other_than.0
