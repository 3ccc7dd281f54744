-- Proof. What `create` makes and gives, by its steps.
use Rattle.std.proofs.Common.{◌≡◌, ◌≢◌, ◌<◌, ◌≤◌, ◌⊎◌, inl, inr, ℕ, suc, ◌+◌, List, length, Bool, true, false, Option}
use Rattle.std.proofs.Common.{Some, None, refl, sym, ap, subst, ◌∙◌, arith, ⊎_elim}
use Rattle.std.specs.Prelude.{◌&&◌, if◌then◌else◌}
use Rattle.std.proofs.lemmas.Bool.{cases_eq}
use Rattle.pt_host.specs.Flags.{includes, o_path}
use Rattle.pt_host.specs.LawfulTree.{TreeChanges}
use Rattle.pt_host.specs.Names.{MakesObject}
use Rattle.pt_host.specs.Tree.{Tree, Opened, IsOpenOn}
use Rattle.pt_host.specs.Words.{is, set_at}
use Rattle.pt_host.specs.declared.ids.Fd.{Fd}
use Rattle.pt_host.specs.declared.op.KeptHostOp.TheVariants as call
use Rattle.pt_host.specs.declared.reply.HostReply.TheVariants as host
use Rattle.pt_host.specs.declared.reply.HostValue.TheVariants as value
use Rattle.pt_iface.specs.declared.answer.Answer.{Answer}
use Rattle.pt_iface.specs.declared.answer.Answer.TheVariants as answer
use Rattle.pt_frame.specs.Deed.{Deed, Calls}
use Rattle.pt_frame.specs.Tree.{RequestTree, Refuses, go_on, on}
use Rattle.pt_frame.specs.declared.act.ActReply.{ActReply}
use Rattle.pt_frame.specs.declared.act.ActReply.TheVariants.{Event, Host, NoCopy}
use Rattle.pt_req.proofs.Flags.{creates, excludes}
use Rattle.pt_req.specs.Options.{making_flags}
use Rattle.pt_req.specs.Steps.{is_there, made_in, make_at}
use Rattle.pt_req.specs.declared.replies.Made.{Made}
use Rattle.pt_req.specs.declared.replies.Made.TheVariants.{New, Old}
use Rattle.pt_law.specs.World.{World}
use Rattle.pt_law.proofs.Givings.{live_count}
use Rattle.pt_law.proofs.Knowing.{stays_open}
use Rattle.pt_law.proofs.Lists.{set_at_same, set_at_other}
use Rattle.pt_plain.specs.Plain.{PlainTree, Gives, numbered_as, handled_as}
use Rattle.pt_plain.specs.Serves.{OpensNumber}
use Rattle.pt_plain.proofs.Coming.{Comes, Law, Makes}
use Rattle.pt_plain.proofs.Entering.{IsNumbered}
use Rattle.pt_plain.proofs.Opening.{IsNewHandle}
use Rattle.pt_plain.proofs.Serving.{gives_number}
use Rattle.pt_plain.proofs.Showing.{bare_tree, found, number_at, numbered, Shows}
use Rattle.pt_plain.proofs.Steady.{Steady}
use Rattle.pt_plain.proofs.Walking.{At, At.{by}, IsRefused, Quiet, quiet_goes, refused_at}

-- An object was given and given back, so nothing is seen of that.
pub shown_back : (w w' : World) (state : PlainTree) (object number : ℕ) → Shows w state →
    ((n : ℕ) → w.tables.next_number ≤ n → live_count n w.tables ≡ 0) → IsNumbered w w' object number →
    ((n : ℕ) → live_count n w'.tables ≡ live_count n w.tables) → Shows w' state
shown_back w w' state object number s low i c =
    let a = s.numbers_below in let b = i.next_number in let d = s.handles_below in let e = i.next_handle in record {
      tree = s.tree ∙ sym i.tree;
      numbers = λ n. s.numbers n ∙ same n i.past;
      handles = λ h. s.handles h ∙ sym (i.handles h);
      numbers_below = omega (arith, a, b);
      handles_below = omega (arith, d, e);
      agreed = s.agreed ∙ sym i.agreed;
    }
  where
    gone : (count : ℕ) (one other : Option ℕ) → count ≡ 0 → numbered count one ≡ numbered count other
    gone count one other e = ap (λ n. numbered n one) e ∙ sym (ap (λ n. numbered n other) e)

    same : (n : ℕ) → (((w'.past.numbers ≡ w.past.numbers) × (w.past.numbers number ≡ Some object)
        × (0 < live_count number w.tables))
        ⊎ ((w'.past.numbers ≡ set_at number (Some object) w.past.numbers) × (w.tables.next_number ≤ number)
        × (suc number ≤ w'.tables.next_number))) → number_at w n ≡ number_at w' n
    same n (inl old) = λ k. numbered (sym (c n) k) (sym old.0 k n)
    same n (inr new) = ⊎_elim
        (λ (q : n ≡ number).
        gone (live_count n w.tables) (w.past.numbers n) (w'.past.numbers n)
        (ap (λ z. live_count z w.tables) q ∙ low number new.1)
        ∙ ap (λ z. numbered z (w'.past.numbers n)) (sym (c n)))
        (λ (q : n ≢ number).
        (λ k. numbered (sym (c n) k)
        (sym (ap (λ f. f n) new.0 ∙ set_at_other w.past.numbers number (Some object) n q) k)))
        (cases_eq n number)

-- the number that was given is the object's
pub number_is : (w g : World) (object number : ℕ) → IsNumbered w g object number → g.past.numbers number ≡ Some object
number_is w g object number i = elim i.past [
  | inl old ↦ ap (λ f. f number) old.0 ∙ old.1
  | inr new ↦ ap (λ f. f number) new.0 ∙ set_at_same w.past.numbers number (Some object)
]

-- the world at the start as if the handles of the end were there
abbrev with_handles : World → World → World
with_handles w later =
    record w {
      tables = record w.tables { handles = later.tables.handles; next_handle = later.tables.next_handle };
      past = record w.past { objects = later.past.objects };
    }

abbrev handled_so : PlainTree → ℕ → ℕ → ℕ → PlainTree
handled_so state handle number object = record state {
  handles = set_at handle (handled_as number object) state.handles;
  handles_below = handle + 1;
}

-- An object was given, and a new handle is open on it.
pub created_so : (w g w' : World) (state : PlainTree) (object number handle : ℕ) → Shows w state →
    ((n : ℕ) → w.tables.next_number ≤ n → live_count n w.tables ≡ 0) → Law w' → IsNumbered w g object number →
    IsNewHandle g w' number object handle →
    ((n : ℕ) → live_count n w'.tables ≡ live_count n w.tables + is number n) →
    (mid : PlainTree) × Gives state object number mid × ((after : PlainTree) × OpensNumber mid number handle after
    × Shows w' after)
created_so w g w' state object number handle s low law i h c =
    go (gives_number x w' (handled_so state handle number object) object number shown low law given c)
  where
    x : World
    x = with_handles w w'

    shown : Shows x (handled_so state handle number object)
    shown = record {
      tree = s.tree;
      numbers = s.numbers;
      handles = λ k. (λ t. set_at handle (handled_as number object) (λ y. (s.handles y ∙ sym (i.handles y)) t) k)
          ∙ sym (h.handles k);
      numbers_below = s.numbers_below;
      handles_below = (let z = h.high in omega (arith, z));
      agreed = s.agreed;
    }

    past : ((g.past.numbers ≡ w.past.numbers) × (w.past.numbers number ≡ Some object)
        × (0 < live_count number w.tables))
        ⊎ ((g.past.numbers ≡ set_at number (Some object) w.past.numbers) × (w.tables.next_number ≤ number)
        × (suc number ≤ g.tables.next_number)) →
        ((w'.past.numbers ≡ w.past.numbers) × (w.past.numbers number ≡ Some object)
        × (0 < live_count number w.tables))
        ⊎ ((w'.past.numbers ≡ set_at number (Some object) w.past.numbers) × (w.tables.next_number ≤ number)
        × (suc number ≤ w'.tables.next_number))
    past (inl old) = inl (h.past ∙ old.0, old.1, old.2)
    past (inr new) = let a = new.2 in let b = h.next_number in inr (h.past ∙ new.0, new.1, omega (arith, a, b))

    given : IsNumbered x w' object number
    given = record {
      tree = h.tree ∙ i.tree;
      handles = λ k. refl;
      next_number = (let a = i.next_number in let b = h.next_number in omega (arith, a, b));
      next_handle = omega arith;
      agreed = h.agreed ∙ i.agreed;
      past = past i.past;
    }

    low_handle : state.handles_below ≤ handle
    low_handle = let a = s.handles_below in let b = i.next_handle in let d = h.low in omega (arith, a, b, d)

    opened : (state2 after : PlainTree) (count : ℕ) → after ≡ handled_so state2 handle number object →
        state2.handles_below ≤ handle → state2.numbers number ≡ numbered_as object count →
        OpensNumber state2 number handle after
    opened state2 after count e l n = (object, (count, n), (l, e))

    go : (after : PlainTree) × Gives (handled_so state handle number object) object number after × Shows w' after →
        (mid : PlainTree) × Gives state object number mid × ((after : PlainTree) × OpensNumber mid number handle after
        × Shows w' after)
    go (after, inl old, shows) =
        let mid : PlainTree = record state { numbers = set_at number (numbered_as object (old.0 + 1)) state.numbers }
        in (
          mid,
          inl (old.0, old.1, refl),
          (
            after,
            opened mid after (old.0 + 1) old.2 low_handle
                (set_at_same state.numbers number (numbered_as object (old.0 + 1))),
            shows,
          ),
        )
    go (after, inr new, shows) =
        let mid : PlainTree = record state {
          numbers = set_at number (numbered_as object 1) state.numbers;
          numbers_below = number + 1;
        } in (
          mid,
          inr (new.0, new.1, refl),
          (
            after,
            opened mid after 1 new.2 low_handle (set_at_same state.numbers number (numbered_as object 1)),
            shows,
          ),
        )

-- a file was made, and is open
pub record IsMadeOpen (w on : World) (dir : Fd) (name : List ℕ) : Type 0 where
  pub at : ℕ
  pub dir_open : IsOpenOn w.tree dir at
  pub later : Tree
  pub makes : MakesObject w.tree at name later
  pub tree : bare_tree on.tree ≡ bare_tree later
  pub keeps : (fd : Fd) (object : ℕ) → IsOpenOn w.tree fd object → IsOpenOn on.tree fd object
  pub tables : on.tables ≡ w.tables
  pub numbers : on.past.numbers ≡ w.past.numbers
  pub objects : on.past.objects ≡ w.past.objects

made_open : (j : ℕ) (w on : World) (dir : Fd) (name : List ℕ) (flags mode : ℕ) (fd : Fd) →
    Makes j w (Calls (call.OpenAt dir name (making_flags flags) mode)) (Host (host.Ok (value.Fd fd))) on →
    IsMadeOpen w on dir name
made_open j w on dir name flags mode fd m = go m.2.made.0.0.trees.changes
  where
    both : (a b : Bool) → a ≡ true → b ≡ true → (a && b) ≡ false → ⊥
    both a b e f z = (let x : true ≡ false = sym (λ i. (e i && f i)) ∙ z in absurd (cc))

    stays : (t : Tree) (x : Option Opened) → t.opened fd.0 ≡ None → (other : Fd) (object : ℕ) →
        IsOpenOn t other object →
        IsOpenOn (record t { opened = set_at fd.0 x t.opened }) other object
    stays t x free other object p =
        stays_open t fd.0 x other object (λ q. none (sym free ∙ ap t.opened (sym q) ∙ p.1)) p
      where
        none : None ≡ Some p.0 → ⊥
        none z = cc

    go : TreeChanges w.tree (call.OpenAt dir name (making_flags flags) mode) (host.Ok (value.Fd fd)) on.tree →
        IsMadeOpen w on dir name
    go (inl c) = absurd (both _ _ (creates flags) (excludes flags) c.1)
    go (inr c) = record {
      at = c.2.0;
      dir_open = c.2.1;
      later = c.0;
      makes = c.2.2;
      tree = ap bare_tree c.3.adds;
      keeps = λ other object o. subst (λ (t : Tree). IsOpenOn t other object) (sym c.3.adds)
          (stays c.0 (Some (record {
            object = length w.tree.objects;
            path_only = includes (making_flags flags).0 o_path;
          })) c.3.fresh
          other object (subst (λ (t : Tree). IsOpenOn t other object) (sym c.2.2.makes) o));
      tables = m.2.made.1;
      numbers = ap (λ p. p.numbers) m.2.past;
      objects = ap (λ p. p.objects) m.2.past;
    }

pub steady_open : (w mid on : World) (dir : Fd) (name : List ℕ) → Quiet w mid → IsMadeOpen mid on dir name → Steady w on
steady_open w mid on dir name q m =
    let t = m.tables in
    let a = ap (λ z. z.next_number) t in
    let b = ap (λ z. z.next_handle) t in
    let c = q.still.next_number in
    let d = q.still.next_handle in
    record {
      past = m.numbers ∙ q.still.past;
      handles = λ h. (λ i. found (m.objects i) h (t i).handles) ∙ q.still.handles h;
      next_number = omega (arith, a, c);
      next_handle = omega (arith, b, d);
      agreed = ap (λ z. z.negotiated) t ∙ q.still.agreed;
      falls = λ n. (let e = ap (live_count n) t in let f = q.falls n in omega (arith, e, f));
    }

-- it was made, or its name was there, or it was refused
pub walk_make_at : {G : Type 0} (j : ℕ) (dir : Fd) (name : List ℕ) (flags mode : ℕ) (may_be : Bool)
    (next : Made → RequestTree) (w : World) (last : Answer) (w' : World) → last ≢ answer.NoMemory →
    At j (make_at dir name (making_flags flags) mode may_be next) w last w' → (IsRefused w last w' → G) →
    ((fd : Fd) (on : World) → IsMadeOpen w on dir name → At j (next (New fd)) on last w' → G) →
    ((on : World) → Quiet w on → (may_be ≡ true) → At j (next Old) on last w' → G) → G
unfolding on go_on
walk_make_at {G} j dir name flags mode may_be next w last w' n (by c) out goes old = go c.0 c.3 c.4 c.5
  where
    asked : Deed
    asked = Calls (call.OpenAt dir name (making_flags flags) mode)

    second : (a b : Bool) → (a && b) ≡ true → b ≡ true
    second true b e = e
    second false b e = absurd (cc)

    other : (told : ActReply) → Quiet w c.1 → c.2 ≡ c.1 → (b : Bool) → (is_there told && may_be) ≡ b →
        Comes j (go_on next told (if b then Some Old else None)) c.2 last w' → G
    other told q i true e k =
        old c.1 q (second (is_there told) may_be e) (by (subst (λ z. Comes j (next Old) z last w') i k))
    other told q i false e k =
        out (refused_at j w c.1 told last w' n q (subst (λ z. Comes j (Refuses told) z last w') i k))

    go : (told : ActReply) → Makes j w asked told c.1 → c.2 ≡ c.1 →
        Comes j (on (made_in may_be) next told) c.2 last w' → G
    go (Host (host.Ok (value.Fd fd))) m i k =
        goes fd c.1 (made_open j w c.1 dir name flags mode fd m)
        (by (subst (λ z. Comes j (next (New fd)) z last w') i k))
    go (Host (host.Ok told)) m i k = absurd m.2.made.0.3.allowed
    go (Host (host.Refused errno)) m i k =
        other (Host (host.Refused errno)) (quiet_goes j w c.1 asked _ m (inl tt) tt) i
        (is_there (Host (host.Refused errno)) && may_be) refl k
    go (Host (host.Fault errno)) m i k =
        other (Host (host.Fault errno)) (quiet_goes j w c.1 asked _ m (inl tt) tt) i
        (is_there (Host (host.Fault errno)) && may_be) refl k
    go (Host host.NoMemory) m i k = absurd (m.1 refl)
    go (Event told) m i k = absurd m.2.made
    go NoCopy m i k = absurd (m.1 refl)
