-- Proof. Answers and states that the plain file system refuses.
use Rattle.std.proofs.Common.{◌≡◌, ℕ, ◌+◌, ◌≤◌, Bool, List, [], ◌∷◌, Option, Some, None, inl, inr, refl, sym, ap, subst}
use Rattle.std.proofs.Common.{◌∙◌, arith, if◌then◌else◌}
use Rattle.std.specs.Str.{bytes_eq}
use Rattle.pt_host.specs.Names.{NameMoves, Renames}
use Rattle.pt_host.specs.Tree.{Tree}
use Rattle.pt_host.specs.Words.{set_at}
use Rattle.pt_host.specs.declared.ids.Errno.{Errno}
use Rattle.pt_tables.specs.Tables.{nothing_agreed}
use Rattle.pt_tables.specs.declared.form.Negotiated.{Negotiated}
use Rattle.pt_iface.specs.declared.answer.Answer.TheVariants as answer
use Rattle.pt_iface.specs.declared.flags.OpenOptions.{OpenOptions}
use Rattle.pt_iface.specs.declared.request.Extensions.{Extensions}
use Rattle.pt_iface.specs.declared.request.Request.TheVariants as request
use Rattle.pt_req.specs.declared.plan.Plan.{Plan}
use Rattle.pt_plain.specs.Plain.{Gives, Numbered, PlainTree, numbered_as}
use Rattle.pt_plain.specs.Serves.{LeavesMade, Serves}

abbrev count_in : Option Numbered → ℕ
count_in None = 0
count_in (Some it) = it.count

abbrev object_in : Option Numbered → ℕ
object_in None = 0
object_in (Some it) = it.object

module _ (plan : Plan) (agreed : Negotiated) where
  -- Every name leads to object 1. The root is object 0, by number 1; object 1 is held once, by number 2; numbers up
  -- to 8 were given.
  abbrev held : PlainTree
  held = record {
    tree = record { objects = []; names = λ dir name. Some 1; opened = λ fd. None };
    numbers = set_at 1 (numbered_as 0 2) (set_at 2 (numbered_as 1 1) (λ number. None));
    handles = λ handle. None;
    numbers_below = 9;
    handles_below = 4;
    agreed = agreed;
  }

  -- an entry of the root's number, for what is another object
  another_object : (after : PlainTree) → Gives held 1 1 after → ⊥
  unfolding set_at
  another_object after (inl old) = absurd (let e : 0 ≡ 1 = ap object_in old.1 in omega (arith, e))
  another_object after (inr new) = absurd (let e : 9 ≤ 1 = new.1 in omega (arith, e))

  -- a number that was given before, and is free
  given_before : (after : PlainTree) → Gives held 1 5 after → ⊥
  unfolding set_at
  given_before after (inl old) = absurd (let e : None ≡ numbered_as 1 old.0 = old.1 in cc)
  given_before after (inr new) = absurd (let e = new.1 in omega (arith, e))

  -- an object that has a number gets no other
  second_number : (after : PlainTree) → Gives held 1 9 after → ⊥
  unfolding set_at
  second_number after (inl old) = absurd (let e : None ≡ numbered_as 1 old.0 = old.1 in cc)
  second_number after (inr new) = new.0 2 (1, refl)

  -- a count that is one too high
  too_high : (after : PlainTree) → Gives held 1 2 after → after.numbers 2 ≡ numbered_as 1 3 → ⊥
  unfolding set_at
  too_high after (inl old) e =
      let a : 1 ≡ old.0 = ap count_in old.1 in
      let b : 3 ≡ old.0 + 1 = ap count_in (sym e ∙ ap (λ (x : PlainTree). x.numbers 2) old.2) in
      absurd (omega (arith, a, b))
  too_high after (inr new) e = absurd (let a : 9 ≤ 2 = new.1 in omega (arith, a))

  -- a handle of a number that is not held
  free_number : (kill : Bool) (flags handle : ℕ) (options : OpenOptions) (after : PlainTree) →
      Serves plan (request.Open 5 kill flags) held (answer.Opened handle options) after → ⊥
  unfolding set_at
  free_number kill flags handle options after k = absurd (let e : None ≡ numbered_as k.1.0 k.1.1.0 = k.1.1.1 in cc)

  -- a handle that was given before
  handle_again : (kill : Bool) (flags : ℕ) (options : OpenOptions) (after : PlainTree) →
      Serves plan (request.Open 2 kill flags) held (answer.Opened 3 options) after → ⊥
  handle_again kill flags options after k = absurd (let e = k.1.2.0 in omega (arith, e))

  -- a refused `getattr` that changes a count
  refused_changes : (errno : Errno) (after : PlainTree) →
      Serves plan (request.GetAttr 1) held (answer.Refused errno) after → after.numbers 1 ≡ numbered_as 0 3 → ⊥
  unfolding set_at
  refused_changes errno after k e =
      let a : 3 ≡ 2 = ap count_in (sym e ∙ ap (λ (x : PlainTree). x.numbers 1) k) in absurd (omega (arith, a))

-- The root is object 0, by number 1, and holds one name, that of object 1.
abbrev old : List ℕ
old = 97 ∷ []

abbrev new : List ℕ
new = 98 ∷ []

abbrev only_old : Tree
only_old = record {
  objects = [];
  names = λ dir name. if bytes_eq name old then Some 1 else None;
  opened = λ fd. None;
}

-- a name that was moved leads nowhere
moved_away : (tree : Tree) → Renames only_old 0 old 0 new 0 tree → tree.names 0 old ≡ None
unfolding set_at
moved_away tree (inl (flags, m)) = go m.moves
  where
    go : NameMoves only_old 0 old 0 new m.object tree → tree.names 0 old ≡ None
    go (inl (same, is)) = absurd (cc)
    go (inr (other, is)) = ap (λ (t : Tree). t.names 0 old) is
moved_away tree (inr (inl (flags, free, m))) = absurd (omega (arith, flags))
moved_away tree (inr (inr (flags, m))) = absurd (omega (arith, flags))

module _ (plan : Plan) (agreed : Negotiated) where
  abbrev named : PlainTree
  named = record {
    tree = only_old;
    numbers = set_at 1 (numbered_as 0 2) (λ number. None);
    handles = λ handle. None;
    numbers_below = 9;
    handles_below = 4;
    agreed = agreed;
  }

  -- a rename that leaves its old name
  old_name_stays : (after : PlainTree) →
      Serves plan (request.Rename 1 old 1 new 0) named answer.Done after → after.tree.names 0 old ≡ Some 1 → ⊥
  unfolding set_at
  old_name_stays after k there =
      let from : 0 ≡ k.0 = ap object_in k.1.1 in
      let to : 0 ≡ k.2.0 = ap object_in k.2.1.1 in
      let moved : Renames only_old 0 old 0 new 0 k.2.2.0 =
      subst (λ (d : ℕ). Renames only_old d old 0 new 0 k.2.2.0) (sym from)
      (subst (λ (d : ℕ). Renames only_old k.0 old d new 0 k.2.2.0) (sym to) k.2.2.1) in
      let gone : ◌≡◌ {A = Option ℕ} None (Some 1) =
      sym (moved_away k.2.2.0 moved) ∙ sym (ap (λ (x : PlainTree). x.tree.names 0 old) k.2.2.2) ∙ there in
      absurd (cc)

-- a refused `create` leaves no handle
no_handle : (state after : PlainTree) (parent : ℕ) (name : List ℕ) → LeavesMade state parent name after →
    after.handles ≡ state.handles
no_handle state after parent name (inl e) = ap (λ (x : PlainTree). x.handles) e
no_handle state after parent name (inr (dir, stood, (made, makes, inl e))) = ap (λ (x : PlainTree). x.handles) e
no_handle state after parent name (inr (dir, stood, (made, makes, inr t))) = ap (λ (x : PlainTree). x.handles) t.2

refused_create : (plan : Plan) (parent : ℕ) (name : List ℕ) (mode : ℕ) (kill : Bool) (flags umask : ℕ)
    (ext : Extensions)
    (errno : Errno) (state after : PlainTree) →
    Serves plan (request.Create parent name mode kill flags umask ext) state (answer.Refused errno) after →
    after.handles ≡ state.handles
refused_create plan parent name mode kill flags umask ext errno state after k = no_handle state after parent name k

-- a destroyed session leaves no options
no_options : (plan : Plan) (state after : PlainTree) → Serves plan request.Destroy state answer.NoReply after →
    after.agreed ≡ nothing_agreed
no_options plan state after k = ap (λ (x : PlainTree). x.agreed) k
