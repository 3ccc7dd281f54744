-- A store with the root alone.
use Rattle.std.proofs.Common.{◌≡◌, ◌≢◌, ◌<◌, ◌≤◌, ◌+◌, ◌||◌, inl, inr, ℕ, zero, suc, Bool, true, false, cond, List, []}
use Rattle.std.proofs.Common.{◌∷◌, Some, slice_get, refl, ap, sym, ◌∙◌, subst, arith}
use Rattle.std.proofs.lemmas.Bool.Decides.{eqb_tells}
use Rattle.std.proofs.lemmas.Option.{same_Some}
use Rattle.pt_host.specs.Words.{set_at}
use Rattle.pt_store.specs.Kept.{AreNumbered, IsKept, directories_of}
use Rattle.pt_node.specs.Numbers.{having}
use Rattle.pt_node.specs.Mounts.{has_device}
use Rattle.pt_node.specs.Node.{name_at, names_in}
use Rattle.pt_node.specs.Slots.{least_free, no_files, no_numbers, open_at, put_at}
use Rattle.pt_rules.specs.Sound.{AreOrdered, IsSound}
use Rattle.pt_rules.specs.Building.{mount_root, mounted, next_number, start_with}
use Rattle.pt_rules.specs.State.{State}
use Rattle.pt_store.specs.StoreState.{IsDense, IsStarted}
use Rattle.pt_node.specs.declared.node.Node.{Node}
use Rattle.pt_node.specs.declared.slots.OpenFile.{OpenFile}
use Rattle.pt_node.specs.declared.slots.Slot.{Slot}
use Rattle.pt_node.specs.declared.slots.Slot.TheVariants.{Reserved, Open}
use Rattle.pt_rules.specs.Laws.EditShapes.{no_names}
use Rattle.pt_store.proofs.Holding.{is_one}
use Rattle.pt_node.specs.Links.{names_of}
use Rattle.pt_rules.specs.Living.{held_by}

module _ (id dev : ℕ) (path : List ℕ) (handles : Bool) where
  abbrev root : Node
  root = mount_root id dev 1 handles

  abbrev state : State
  state = mounted (start_with root) 0 id dev path

  -- the numbers of its device, and of any other
  abbrev pub root_tables : ℕ → List Slot
  root_tables = set_at dev (put_at (least_free no_numbers) (Open (having 0)) no_numbers) (λ other. no_numbers)

  only_root : (place : ℕ) (node : Node) → slice_get state.nodes place ≡ Some node → (place ≡ 0) × (node ≡ root)
  only_root zero node there = (refl, sym (same_Some root node there))
  only_root (suc place) node there = cc

  none_at : (dir : ℕ) (name : List ℕ) (object : ℕ) → name_at state.nodes dir name ≡ Some object → ⊥
  none_at zero name object there = cc
  none_at (suc dir) name object there = cc

  none_named : (dir : ℕ) (name : List ℕ) (object : ℕ) → name_at state.nodes dir name ≡ Some object → object < 1
  none_named dir name object there = absurd (none_at dir name object there)

  none_opened : (fd : ℕ) (file : OpenFile) → open_at no_files fd ≡ Some file → file.object < 1
  none_opened zero file there = cc
  none_opened (suc zero) file there = cc
  none_opened (suc (suc zero)) file there = cc
  none_opened (suc (suc (suc fd))) file there = cc

  sound : IsSound state
  sound = record {
    timely = omega arith;
    few = omega arith;
    made = λ place node there.
        let at = only_root place node there in
        record {
          serial = ap (λ (n : Node). n.serial) at.1 ∙ (let p = at.0 in let e : 1 ≡ place + 1 = omega arith in e);
          numbered = subst (λ (n : Node). n.ids.ino ≤ place + 1) (sym at.1) (omega arith);
          permissions = subst (λ (n : Node). n.permissions < 4096) (sym at.1) (omega arith);
          ordered = subst (λ (n : Node). AreOrdered (names_in n.content)) (sym at.1) (no_names ℕ);
          attributed = subst (λ (n : Node). AreOrdered n.xattrs) (sym at.1) (no_names (List ℕ));
        };
    named = none_named;
    short = λ dir name object there. absurd (none_at dir name object there);
    opened = none_opened;
    apart = λ object another node that there too lives lives_too same_dev same_ino. (only_root object node there).0
        ∙ sym (only_root another that too).0;
  }

  held_once : held_by state 0 ≡ 1
  held_once = let one = is_one 0 0 refl in omega (arith, one)

  numbered_here : AreNumbered state dev (Reserved ∷ Open (having 0) ∷ [])
  numbered_here = record {
    has = λ object node there of some.
        let at = only_root object node there in
        (having 0, ap (λ (n : Node). open_at (Reserved ∷ Open (having 0) ∷ []) n.ids.ino) at.1, sym at.0);
    had = had_here;
    from_one = refl;
    no_other = none_reserved;
  }
    where
      had_here : (number : ℕ) (file : OpenFile) → open_at (Reserved ∷ Open (having 0) ∷ []) number ≡ Some file →
          (node : Node) × (slice_get state.nodes file.object ≡ Some node) × (node.ids.dev ≡ dev)
          × (node.ids.ino ≡ number) × (0 < held_by state file.object)
      had_here zero file there = cc
      had_here (suc zero) file there =
          let same = same_Some (having 0) file there in (
            root,
            ap (λ (f : OpenFile). slice_get state.nodes f.object) (sym same),
            refl,
            refl,
            subst (λ (f : OpenFile). 0 < held_by state f.object) same (let one = held_once in omega (arith, one)),
          )
      had_here (suc (suc number)) file there = cc

      none_reserved : (number : ℕ) → 0 < number → slice_get (Reserved ∷ Open (having 0) ∷ []) number ≡ Some Reserved → ⊥
      none_reserved zero some there = absurd (omega arith)
      none_reserved (suc zero) some there = cc
      none_reserved (suc (suc number)) some there = cc

  numbered_there : (other : ℕ) → other ≢ dev → AreNumbered state other no_numbers
  numbered_there other apart = record {
    has = λ object node there of some.
        absurd (apart (sym of ∙ ap (λ (n : Node). n.ids.dev) (only_root object node there).1));
    had = had_none;
    from_one = refl;
    no_other = none_reserved;
  }
    where
      had_none : (number : ℕ) (file : OpenFile) → open_at no_numbers number ≡ Some file →
          (node : Node) × (slice_get state.nodes file.object ≡ Some node) × (node.ids.dev ≡ other)
          × (node.ids.ino ≡ number) × (0 < held_by state file.object)
      had_none zero file there = cc
      had_none (suc number) file there = cc

      none_reserved : (number : ℕ) → 0 < number → slice_get no_numbers number ≡ Some Reserved → ⊥
      none_reserved zero some there = absurd (omega arith)
      none_reserved (suc number) some there = cc

  held_all : (object : ℕ) → object < 1 → slice_get (1 ∷ []) object ≡ Some (held_by state object)
  held_all zero within = ap (λ (n : ℕ). Some n) (sym held_once)
  held_all (suc object) within = absurd (omega arith)

  unnamed : (object : ℕ) → object < 1 → slice_get (0 ∷ []) object ≡ Some (names_of state.nodes object)
  unnamed zero within = refl
  unnamed (suc object) within = absurd (omega arith)

  unnested : (object : ℕ) → object < 1 → slice_get (0 ∷ []) object ≡ Some (directories_of state.nodes object)
  unnested zero within = refl
  unnested (suc object) within = absurd (omega arith)

  kept : IsKept state (record { holds = 1 ∷ []; names = 0 ∷ []; directories = 0 ∷ [] }) root_tables
  unfolding set_at
  kept = record {
    sound = sound;
    held = record { long = refl; each = held_all };
    named = record { long = refl; each = unnamed };
    nested = record { long = refl; each = unnested };
    numbered = λ other. elim (eqb_tells other dev) [
      | inl e ↦ subst (λ b. AreNumbered state other (cond b (Reserved ∷ Open (having 0) ∷ []) no_numbers)) (sym e.0)
          (subst (λ d. AreNumbered state d (Reserved ∷ Open (having 0) ∷ [])) (sym e.1) numbered_here)
      | inr apart ↦ subst (λ b.
          AreNumbered state other (cond b (Reserved ∷ Open (having 0) ∷ []) no_numbers)) (sym apart.0)
          (numbered_there other apart.1)
    ];
  }

  dense : (other : ℕ) → IsDense (root_tables other) (next_number state.nodes other)
  unfolding set_at
  dense other = elim (eqb_tells other dev) [
    | inl e ↦ elim (eqb_tells dev other) [
      | inl same ↦ subst (λ b.
          IsDense (cond b (Reserved ∷ Open (having 0) ∷ []) no_numbers) (next_number state.nodes other)) (sym e.0)
          (subst (λ b. IsDense (Reserved ∷ Open (having 0) ∷ []) (1 + (0 + cond b 1 0))) (sym same.0) (record {
            long =
                refl;
            full = refl;
          }))
      | inr apart ↦ absurd (apart.1 (sym e.1))
    ]
    | inr apart ↦ elim (eqb_tells dev other) [
      | inl same ↦ absurd (apart.1 (sym same.1))
      | inr differs ↦ subst (λ b.
          IsDense (cond b (Reserved ∷ Open (having 0) ∷ []) no_numbers) (next_number state.nodes other)) (sym apart.0)
          (subst (λ b. IsDense no_numbers (1 + (0 + cond b 1 0))) (sym differs.0) (record { long = refl; full = refl }))
    ]
  ]

  pub started_root : IsStarted state (record { holds = 1 ∷ []; names = 0 ∷ []; directories = 0 ∷ [] }) root_tables
  started_root = record {
    kept = kept;
    begun = refl;
    dense = dense;
    mounted = λ place node there. ap (λ (n : Node). has_device n.ids.dev state.mounts) (only_root place node there).1
        ∙ own_device;
  }
    where
      own_device : has_device dev state.mounts ≡ true
      own_device = elim (eqb_tells dev dev) [ inl e ↦ ap (λ b. b || false) e.0 | inr apart ↦ absurd (apart.1 refl) ]
