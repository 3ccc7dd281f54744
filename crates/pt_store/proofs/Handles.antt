-- Which object a handle stands for.
use Rattle.std.proofs.Common.{◌≡◌, ◌<◌, ◌+◌, ◌^◌, ◌==◌, ◌&&◌, ℕ, Bool, true, false, List, drop, Option, Some, None}
use Rattle.std.proofs.Common.{option_map, slice_get, refl, ap, sym, ◌∙◌, subst, arith}
use Rattle.std.specs.Int.{from_le_bytes, w64}
use Rattle.std.specs.Ordering.{int_eq}
use Rattle.std.specs.Str.{bytes_eq}
use Rattle.std.proofs.lemmas.Bool.{and_parts}
use Rattle.std.proofs.lemmas.Nat.{from_le_bytes-to_le_bytes_8}
use Rattle.std.proofs.lemmas.Option.{slice_get_within}
use Rattle.std.proofs.lemmas.Slice.Eq.{bytes_eq-Decides}
use Rattle.pt_host.specs.declared.handle.CFileHandle.{CFileHandle}
use Rattle.pt_rules.specs.Living.{is_alive}
use Rattle.pt_node.specs.Node.{handle_bytes, handle_of}
use Rattle.pt_rules.specs.OpeningCalls.{handled, handled_where, is_handled, same_handle}
use Rattle.pt_rules.specs.Sound.{IsSound}
use Rattle.pt_rules.specs.State.{State}
use Rattle.pt_node.specs.declared.node.Node.{Node}
use Rattle.pt_store.proofs.Enumerated.{find_none, find_place}

-- the second half of a handle's bytes tells the serial
serials_same : (ino serial other_ino other : ℕ) → serial < 2 ^ 64 → other < 2 ^ 64 →
    handle_bytes ino serial ≡ handle_bytes other_ino other → serial ≡ other
serials_same ino serial other_ino other small small_too same =
    sym (from_le_bytes-to_le_bytes_8 serial small) ∙ ap (λ (bytes : List ℕ). from_le_bytes w64 (drop 8 bytes)) same
    ∙ from_le_bytes-to_le_bytes_8 other small_too

-- the number of what has the handle
abbrev pub handled_number : State → ℕ → CFileHandle → Option ℕ
handled_number state mount handle = option_map (λ (at : ℕ × Node). at.0) (handled state mount handle)

module _ (state : State) (mount : ℕ) (handle : CFileHandle) (sound : IsSound state) where
  -- an object that has the handle tells by it where it stands
  pub handle_tells : (place : ℕ) (node : Node) → slice_get state.nodes place ≡ Some node →
      is_handled state mount handle (place, node) ≡ true → handle.bytes ≡ handle_bytes node.ids.ino (place + 1)
  handle_tells place node there is =
      let alive = and_parts ((node.ids.mnt_id == mount) && node.has_handle
      && same_handle (handle_of node) handle) (is_alive state place) is in
      let alike = and_parts ((node.ids.mnt_id == mount)
      && node.has_handle) (same_handle (handle_of node) handle) alive.0 in
      let both = and_parts (int_eq (handle_of node).handle_type handle.handle_type)
      (bytes_eq (handle_of node).bytes handle.bytes) alike.1 in
      let bytes = (bytes_eq-Decides (handle_of node).bytes handle.bytes).0 both.1 in
      sym bytes ∙ ap (handle_bytes node.ids.ino) (sound.made place node there).serial

  small_place : (place : ℕ) (node : Node) → slice_get state.nodes place ≡ Some node → place + 1 < 2 ^ 64
  small_place place node there = let within = slice_get_within state.nodes place node there in let few = sound.few in
      omega (arith, within, few)

  pub handled_at : (place : ℕ) (node : Node) → slice_get state.nodes place ≡ Some node →
      is_handled state mount handle (place, node) ≡ true → handled_number state mount handle ≡ Some place
  handled_at place node there is =
      let z : 0 + place ≡ place = omega arith in
      ap (option_map (λ (entry : ℕ × Node). entry.0))
      (find_place (is_handled state mount handle) 0 state.nodes place node there
      (subst (λ n. is_handled state mount handle (n, node) ≡ true) (sym z) is)
      (λ j other less at. earlier j other less at)
      ∙ ap (λ n. Some (n, node)) z)
    where
      apart : (j : ℕ) (other : Node) → j < place → slice_get state.nodes j ≡ Some other → (b : Bool) →
          is_handled state mount handle (j, other) ≡ b → b ≡ false
      apart j other less at false is_too = refl
      apart j other less at true is_too =
          let a = handle_tells place node there is in
          let b = handle_tells j other at is_too in
          let e = serials_same node.ids.ino (place + 1) other.ids.ino (j
          + 1) (small_place place node there) (small_place j other at) (sym a ∙ b) in
          absurd (omega (arith, e, less))

      earlier : (j : ℕ) (other : Node) → j < place → slice_get state.nodes j ≡ Some other →
          is_handled state mount handle (0 + j, other) ≡ false
      earlier j other less at =
          let z : 0 + j ≡ j = omega arith in
          subst (λ n. is_handled state mount handle (n, other)
          ≡ false) (sym z) (apart j other less at (is_handled state mount handle (j, other)) refl)

  pub handled_none : ((place : ℕ) (node : Node) → slice_get state.nodes place ≡ Some node →
      is_handled state mount handle (place, node) ≡ false) → handled_number state mount handle ≡ None
  handled_none none =
      ap (option_map (λ (entry : ℕ × Node). entry.0))
      (find_none (is_handled state mount handle) 0 state.nodes
      (λ place node there.
      (let z : 0 + place ≡ place = omega arith in
      subst (λ n. is_handled state mount handle (n, node) ≡ false) (sym z) (none place node there))))

  -- what the code knows: which serial a handle of an object tells
  abbrev pub Tells : Option ℕ → Type 0
  Tells told = (ino serial : ℕ) → serial < 2 ^ 64 → handle.bytes ≡ handle_bytes ino serial → told ≡ Some serial

  -- a place to which the handle does not lead has no object of it
  pub not_handled : (told : Option ℕ) → Tells told → (place : ℕ) (node : Node) →
      slice_get state.nodes place ≡ Some node →
      (told ≡ Some (place + 1) → is_handled state mount handle (place, node) ≡ false) →
      is_handled state mount handle (place, node) ≡ false
  not_handled told tells place node there otherwise = by_test (is_handled state mount handle (place, node)) refl
    where
      by_test : (b : Bool) → is_handled state mount handle (place, node) ≡ b → b ≡ false
      by_test false is = refl
      by_test true is =
          let e = handle_tells place node there is in
          let f = otherwise (tells node.ids.ino (place + 1) (small_place place node there) e) in
          sym is ∙ f

  pub handled_none_told : Tells None → handled_number state mount handle ≡ None
  handled_none_told tells = handled_none (λ place node there. not_handled None tells place node there (λ e. cc))

  pub handled_zero : Tells (Some 0) → handled_number state mount handle ≡ None
  handled_zero tells =
      handled_none (λ place node there.
      not_handled (Some 0) tells place node there (λ e. absurd (let f : 0 ≡ place + 1 = cc in omega (arith, f))))

  -- the one place to which it leads
  pub handled_there : (serial place : ℕ) → Tells (Some serial) → place + 1 ≡ serial →
      handled_where state mount handle place (slice_get state.nodes place) ≡ true →
      handled_number state mount handle ≡ Some place
  handled_there serial place tells next is = by_node (slice_get state.nodes place) refl is
    where
      by_node : (at : Option Node) → slice_get state.nodes place ≡ at →
          handled_where state mount handle place at ≡ true → handled_number state mount handle ≡ Some place
      by_node None there has = cc
      by_node (Some node) there has = handled_at place node there has

  pub handled_nowhere : (serial place : ℕ) → Tells (Some serial) → place + 1 ≡ serial →
      handled_where state mount handle place (slice_get state.nodes place) ≡ false →
      handled_number state mount handle ≡ None
  handled_nowhere serial place tells next is =
      handled_none (λ other node there. not_handled (Some serial) tells other node there
      (λ e. (let f : serial ≡ other + 1 = cc in let same : other ≡ place = omega (arith, f, next) in
      subst (λ n. is_handled state mount handle (n, node) ≡ false) (sym same)
      (sym (ap (handled_where state mount handle place) (sym (ap (slice_get state.nodes) same) ∙ there)) ∙ is))))
