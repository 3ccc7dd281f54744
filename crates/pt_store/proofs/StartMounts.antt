-- A store whose tree is described gets one mount more.
use Rattle.std.proofs.Common.{◌≡◌, ◌==◌, ◌||◌, ◌&&◌, nat_lt, not, inl, inr, ℕ, Bool, true, false, cond, List, [], ◌∷◌}
use Rattle.std.proofs.Common.{Option, Some, None, refl, ap, sym, ◌∙◌}
use Rattle.std.specs.BTreeMap.{insert_entry}
use Rattle.std.specs.List.{list_all, list_any}
use Rattle.std.specs.Map.{values_of}
use Rattle.std.specs.Option.{is_none}
use Rattle.std.specs.Ordering.{match_ordering, nat_cmp}
use Rattle.std.specs.declared.cmp.Ordering.{Ordering}
use Rattle.std.specs.declared.cmp.Ordering.TheVariants.{Less, Equal, Greater}
use Rattle.std.proofs.lemmas.Bool.{and_parts}
use Rattle.std.proofs.lemmas.Bool.Decides.{eqb_tells}
use Rattle.std.proofs.lemmas.Cmp.{ranked}
use Rattle.pt_node.specs.Numbers.{Counts}
use Rattle.pt_node.specs.Mounts.{has_device, mount_of}
use Rattle.pt_rules.specs.Building.{is_new_mount, is_printed, mounted}
use Rattle.pt_rules.specs.State.{State}
use Rattle.pt_store.specs.StoreState.{IsStarted}
use Rattle.pt_node.specs.declared.mounts.Mount.{Mount}
use Rattle.pt_node.specs.declared.slots.Slot.{Slot}
use Rattle.pt_rules.specs.Laws.Changed.{alike_itself}
use Rattle.pt_store.proofs.Kept.{kept_alike}

-- a new mount has an id and a device of its own
pub new_mount : (mounts : List (ℕ × Mount)) (id dev : ℕ) (path : List ℕ) → is_new_mount mounts id dev path ≡ true →
    (mount_of id mounts ≡ None) × (has_device dev mounts ≡ false)
new_mount mounts id dev path is =
    let numbered = nat_lt 0 id && nat_lt 0 dev in
    let a = and_parts ((numbered && is_none (mount_of id mounts))
    && not (has_device dev mounts)) (list_all is_printed path) is in
    let b = and_parts (numbered && is_none (mount_of id mounts)) (not (has_device dev mounts)) a.0 in
    let c = and_parts numbered (is_none (mount_of id mounts)) b.0 in
    (none_of (mount_of id mounts) c.1, not_true (has_device dev mounts) b.1)
  where
    none_of : (held : Option Mount) → is_none held ≡ true → held ≡ None
    none_of None is = refl
    none_of (Some mount) is = cc

    not_true : (b : Bool) → not b ≡ true → b ≡ false
    not_true true is = cc
    not_true false is = refl

swapped : (a b c : Bool) → (b || (a || c)) ≡ (a || (b || c))
swapped true true c = refl
swapped true false c = refl
swapped false true c = refl
swapped false false c = refl

-- an id that none of them has
none_here : (id : ℕ) (mount : ℕ × Mount) (mounts : List (ℕ × Mount)) → mount_of id (mount ∷ mounts) ≡ None →
    (id == mount.0) ≡ false
none_here id mount mounts none = by_test (id == mount.0) none
  where
    by_test : (b : Bool) → cond b (Some mount.1) (mount_of id mounts) ≡ None → b ≡ false
    by_test true is = cc
    by_test false is = refl

none_later : (id : ℕ) (mount : ℕ × Mount) (mounts : List (ℕ × Mount)) → mount_of id (mount ∷ mounts) ≡ None →
    mount_of id mounts ≡ None
none_later id mount mounts none = by_test (id == mount.0) none
  where
    by_test : (b : Bool) → cond b (Some mount.1) (mount_of id mounts) ≡ None → mount_of id mounts ≡ None
    by_test true is = cc
    by_test false is = is

any_at : (test : Mount → Bool) (o : Ordering) (id : ℕ) (new : Mount) (mount : ℕ × Mount) (mounts : List (ℕ × Mount)) →
    nat_cmp id mount.0 ≡ o → (id == mount.0) ≡ false →
    list_any test (values_of (insert_entry nat_cmp mounts id new)) ≡ (test new || list_any test (values_of mounts)) →
    list_any test (values_of
    (match_ordering o ((id, new) ∷ mount ∷ mounts) ((mount.0, new) ∷ mounts) (mount
    ∷ insert_entry nat_cmp mounts id new)))
    ≡ (test new || list_any test (values_of (mount ∷ mounts)))
any_at test Less id new mount mounts is apart later = refl
any_at test Equal id new mount mounts is apart later = absurd (elim (eqb_tells id mount.0) [
  | inl e ↦ (let f : true ≡ false = sym e.0 ∙ apart in cc)
  | inr differs ↦ differs.1 (ranked id mount.0 Equal (sym is))
])
any_at test Greater id new mount mounts is apart later =
    ap (λ (b : Bool). test mount.1 || b) later ∙ swapped (test new) (test mount.1) (list_any test (values_of mounts))

any_inserted : (test : Mount → Bool) (id : ℕ) (new : Mount) (mounts : List (ℕ × Mount)) → mount_of id mounts ≡ None →
    list_any test (values_of (insert_entry nat_cmp mounts id new)) ≡ (test new || list_any test (values_of mounts))
any_inserted test id new [] none = refl
any_inserted test id new (mount ∷ mounts) none =
    any_at test (nat_cmp id mount.0) id new mount mounts refl (none_here id mount mounts none)
    (any_inserted test id new mounts (none_later id mount mounts none))

either : (a b : Bool) → b ≡ true → (a || b) ≡ true
either true b is = refl
either false b is = is

first : (a b : Bool) → a ≡ true → (a || b) ≡ true
first true b is = refl
first false b is = cc

module _ (state : State) (holds : Counts) (tables : ℕ → List Slot) (parent id dev : ℕ) (path : List ℕ)
    (new : mount_of id state.mounts ≡ None) where
  -- the device of the mount has one then
  pub own_device : has_device dev (mounted state parent id dev path).mounts ≡ true
  own_device =
      any_inserted (λ (m : Mount).
      m.dev == dev) id (record { parent = parent; dev = dev; path = path }) state.mounts new
      ∙ first (dev == dev) (has_device dev state.mounts)
      (elim (eqb_tells dev dev) as (λ _. (dev == dev) ≡ true) [ inl e ↦ e.0 | inr apart ↦ absurd (apart.1 refl) ])

  pub started_mounted : IsStarted state holds tables → IsStarted (mounted state parent id dev path) holds tables
  started_mounted started = record {
    kept = kept_alike state (mounted state parent id dev path) holds tables started.kept (record {
      timely = started.kept.sound.timely;
      few = started.kept.sound.few;
      made = started.kept.sound.made;
      named = started.kept.sound.named;
      short = started.kept.sound.short;
      opened = started.kept.sound.opened;
      apart = started.kept.sound.apart;
    })
        (alike_itself state.nodes) (λ o. refl) (λ w. refl);
    begun = started.begun;
    dense = started.dense;
    mounted = λ place node there.
        any_inserted (λ (m : Mount).
        m.dev == node.ids.dev) id (record { parent = parent; dev = dev; path = path }) state.mounts new
        ∙ either (dev == node.ids.dev) (has_device node.ids.dev state.mounts) (started.mounted place node there);
  }
