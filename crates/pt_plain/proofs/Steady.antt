-- Proof. Calls by which names and objects change, and nothing else that a world shows.
use Rattle.std.proofs.Common.{◌≡◌, ◌≢◌, inl, inr, ℕ, ◌≤◌, List, Option, Some, None, refl, sym, ap}
use Rattle.std.proofs.Common.{subst, ◌∙◌, arith}
use Rattle.pt_host.specs.Call.{Call}
use Rattle.pt_host.specs.LawfulTree.{TreeChanges}
use Rattle.pt_host.specs.Names.{MakesObject}
use Rattle.pt_host.specs.Tree.{Tree}
use Rattle.pt_host.specs.Words.{set_at}
use Rattle.pt_host.specs.declared.op.KeptHostOp.TheVariants as call
use Rattle.pt_host.specs.declared.reply.HostReply.{HostReply}
use Rattle.pt_host.specs.declared.reply.HostReply.TheVariants as host
use Rattle.pt_host.specs.declared.reply.HostValue.{HostValue}
use Rattle.pt_iface.specs.declared.answer.Answer.{Answer}
use Rattle.pt_iface.specs.declared.answer.Answer.TheVariants as answer
use Rattle.pt_frame.specs.Deed.{Calls}
use Rattle.pt_frame.specs.Tree.{RequestTree}
use Rattle.pt_frame.specs.declared.act.ActReply.{ActReply}
use Rattle.pt_frame.specs.declared.act.ActReply.TheVariants.{Event, Host, NoCopy}
use Rattle.pt_req.specs.Steps.{ok_in}
use Rattle.pt_attr.specs.Steps.{do_call, make}
use Rattle.pt_law.specs.World.{made, turn_by, World, Goes}
use Rattle.pt_law.proofs.Givings.{live_count}
use Rattle.pt_plain.specs.Plain.{PlainTree, Numbered, numbered_as, Stands}
use Rattle.pt_plain.specs.Serves.{named_by}
use Rattle.pt_plain.proofs.Coming.{Makes}
use Rattle.pt_plain.proofs.Entering.{IsLooked, IsNumbered}
use Rattle.pt_plain.proofs.Showing.{bare_tree, found, handle_at, numbered, Shows}
use Rattle.pt_plain.proofs.Stilling.{IsStill, IsStillCall, NotOk}
use Rattle.pt_plain.proofs.Walking.{At, At.{by}, GivesNone, IsRefused, Quiet, walk_ask}

-- a call that changes names, and adds objects, alone
abbrev pub IsNaming : Call → Type 0
IsNaming (call.MakeDir dir name mode) = Unit {0}
IsNaming (call.MakeNode dir name mode rdev) = Unit {0}
IsNaming (call.SymLink dir name target) = Unit {0}
IsNaming (call.MakeLink from dir name) = Unit {0}
IsNaming (call.Unlink dir name) = Unit {0}
IsNaming (call.RemoveDir dir name) = Unit {0}
IsNaming (call.Rename dir name to new flags) = Unit {0}
IsNaming asked = ⊥

not_ok : (asked : Call) (told : HostReply) → IsNaming asked → NotOk told → IsStillCall asked told
not_ok (call.MakeDir dir name mode) told n o = o
not_ok (call.MakeNode dir name mode rdev) told n o = o
not_ok (call.SymLink dir name target) told n o = o
not_ok (call.MakeLink from dir name) told n o = o
not_ok (call.Unlink dir name) told n o = o
not_ok (call.RemoveDir dir name) told n o = o
not_ok (call.Rename dir name to new flags) told n o = o
not_ok asked told n o = absurd n

naming_past : (asked : Call) (j : ℕ) (w on : World) (told : HostReply) → IsNaming asked →
    Goes w (turn_by j (made (Calls asked) (Host told))) on → on.past ≡ w.past
naming_past (call.MakeDir dir name mode) j w on told n g = g.past
naming_past (call.MakeNode dir name mode rdev) j w on told n g = g.past
naming_past (call.SymLink dir name target) j w on told n g = g.past
naming_past (call.MakeLink from dir name) j w on told n g = g.past
naming_past (call.Unlink dir name) j w on told n g = g.past
naming_past (call.RemoveDir dir name) j w on told n g = g.past
naming_past (call.Rename dir name to new flags) j w on told n g = g.past
naming_past asked j w on told n g = absurd n

-- it succeeded
pub record IsNamed (w on : World) (asked : Call) : Type 0 where
  pub told : HostValue
  pub changes : TreeChanges w.tree asked (host.Ok told) on.tree
  pub tables : on.tables ≡ w.tables
  pub past : on.past ≡ w.past

pub not_ok_still : (asked : Call) (told : ActReply) → IsNaming asked → ok_in told ≡ None →
    IsStill (Calls asked) told × GivesNone (Calls asked) told
not_ok_still asked (Host (host.Ok told)) is e = absurd (cc)
not_ok_still asked (Host (host.Refused errno)) is e = (not_ok asked (host.Refused errno) is tt, tt)
not_ok_still asked (Host (host.Fault errno)) is e = (not_ok asked (host.Fault errno) is tt, tt)
not_ok_still asked (Host host.NoMemory) is e = (not_ok asked host.NoMemory is tt, tt)
not_ok_still asked (Event told) is e = (tt, tt)
not_ok_still asked NoCopy is e = (tt, tt)

pub named_ok : (j : ℕ) (asked : Call) (w on : World) (told : HostValue) → IsNaming asked →
    Makes j w (Calls asked) (Host (host.Ok told)) on → IsNamed w on asked
named_ok j asked w on told is m = record {
  told = told;
  changes = m.2.made.0.0.trees.changes;
  tables = m.2.made.1;
  past = naming_past asked j w on _ is m.2;
}

pub walk_naming : {G : Type 0} (j : ℕ) (asked : Call) (next : RequestTree) (w : World) (last : Answer) (w' : World) →
    IsNaming asked → last ≢ answer.NoMemory → At j (do_call asked next) w last w' → (IsRefused w last w' → G) →
    ((on : World) → IsNamed w on asked → At j next on last w' → G) → G
walk_naming {G} j asked next w last w' is n c out goes =
    walk_ask j (Calls asked) ok_in (λ done. next) w last w' n (λ told e. not_ok_still asked told is e) c out go
  where
    go : (told : ActReply) (done : Unit {0}) (mid on : World) → ok_in told ≡ Some done →
        Makes j w (Calls asked) told mid →
        on ≡ mid → At j next on last w' → G
    go (Host (host.Ok told)) done mid on e m i k =
        goes on (subst (λ (z : World). IsNamed w z asked) (sym i) (named_ok j asked w mid told is m)) k
    go told done mid on e m i k = absurd (cc)

-- where the scopes of a making end is not seen
pub made_at : (j : ℕ) (making : Call) (next : RequestTree) (w : World) (last : Answer) (w' : World) →
    At j (make making next) w last w' → At j (do_call making next) w last w'
made_at j making next w last w' (by c) = by c

-- The world at the start with the names of a later one: counts, numbers' objects and handles are compared with this.
abbrev pub with_tree : World → Tree → World
with_tree w tree = record w { tree = tree }

-- all but names and objects is as it was, but that counts may have fallen
pub record Steady (w on : World) : Type 0 where
  pub past : on.past.numbers ≡ w.past.numbers
  pub handles : (handle : ℕ) → handle_at on handle ≡ handle_at w handle
  pub next_number : w.tables.next_number ≤ on.tables.next_number
  pub next_handle : w.tables.next_handle ≤ on.tables.next_handle
  pub agreed : on.tables.negotiated ≡ w.tables.negotiated
  pub falls : (n : ℕ) → live_count n on.tables ≤ live_count n w.tables

-- a call that changes names is one of these
pub steady_named : (w mid on : World) (asked : Call) → Quiet w mid → IsNamed mid on asked → Steady w on
steady_named w mid on asked q m =
    let t = m.tables in
    let a = ap (λ z. z.next_number) t in
    let b = ap (λ z. z.next_handle) t in
    let c = q.still.next_number in
    let d = q.still.next_handle in
    record {
      past = ap (λ p. p.numbers) m.past ∙ q.still.past;
      handles = λ h. (λ i. found (m.past i).objects h (t i).handles) ∙ q.still.handles h;
      next_number = omega (arith, a, c);
      next_handle = omega (arith, b, d);
      agreed = ap (λ z. z.negotiated) t ∙ q.still.agreed;
      falls = λ n. (let e = ap (live_count n) t in let f = q.falls n in omega (arith, e, f));
    }

-- one after another
pub steady_then : (w mid on : World) (asked : Call) → Steady w mid → IsNamed mid on asked → Steady w on
steady_then w mid on asked q m =
    let t = m.tables in
    let a = ap (λ z. z.next_number) t in
    let b = ap (λ z. z.next_handle) t in
    let c = q.next_number in
    let d = q.next_handle in
    record {
      past = ap (λ p. p.numbers) m.past ∙ q.past;
      handles = λ h. (λ i. found (m.past i).objects h (t i).handles) ∙ q.handles h;
      next_number = omega (arith, a, c);
      next_handle = omega (arith, b, d);
      agreed = ap (λ z. z.negotiated) t ∙ q.agreed;
      falls = λ n. (let e = ap (live_count n) t in let f = q.falls n in omega (arith, e, f));
    }

-- and what follows
pub steady_on : (w mid on : World) → Steady w mid → Quiet mid on → Steady w on
steady_on w mid on s q =
    let a = s.next_number in let b = q.still.next_number in let c = s.next_handle in let d = q.still.next_handle in
    record {
      past = q.still.past ∙ s.past;
      handles = λ h. q.still.handles h ∙ s.handles h;
      next_number = omega (arith, a, b);
      next_handle = omega (arith, c, d);
      agreed = q.still.agreed ∙ s.agreed;
      falls = λ n. (let e = s.falls n in let f = q.falls n in omega (arith, e, f));
    }

pub steady_numbered : (w mid on : World) (object number : ℕ) → Steady w mid → IsNumbered mid on object number →
    IsNumbered (with_tree w mid.tree) on object number
steady_numbered w mid on object number q s =
    let n = q.next_number in let m = s.next_number in let h = q.next_handle in let k = s.next_handle in
    record {
      tree = s.tree;
      handles = λ x. s.handles x ∙ q.handles x;
      next_number = omega (arith, n, m);
      next_handle = omega (arith, h, k);
      agreed = s.agreed ∙ q.agreed;
      past = elim s.past [
        | inl old ↦ inl (
          old.0 ∙ q.past,
          ap (λ f. f number) (sym q.past) ∙ old.1,
          (let a = q.falls number in let b = old.2 in omega (arith, a, b)),
        )
        | inr new ↦ inr (
          new.0 ∙ ap (set_at number (Some object)) q.past,
          (let a = new.1 in omega (arith, a, n)),
          new.2,
        )
      ];
    }

pub steady_looked : (w mid on : World) (parent : ℕ) (name : List ℕ) (number : ℕ) → Steady w mid →
    IsLooked mid on parent name number → IsLooked (with_tree w mid.tree) on parent name number
steady_looked w mid on parent name number q l = record {
  dir = l.dir;
  is_dir = ap (λ f. f parent) (sym q.past) ∙ l.is_dir;
  live = (let a = q.falls parent in let b = l.live in omega (arith, a, b));
  object = l.object;
  leads = l.leads;
  numbered = steady_numbered w mid on l.object number q l.numbered;
}

pub shows_with : (w : World) (state : PlainTree) (tree : Tree) → Shows w state →
    Shows (with_tree w tree) (named_by state (bare_tree tree))
shows_with w state tree s = record {
  tree = refl;
  numbers = s.numbers;
  handles = s.handles;
  numbers_below = s.numbers_below;
  handles_below = s.handles_below;
  agreed = s.agreed;
}

-- a making is one of names alone
pub bare_makes : (tree : Tree) (at : ℕ) (name : List ℕ) (after : Tree) → MakesObject tree at name after →
    MakesObject (bare_tree tree) at name (bare_tree after)
bare_makes tree at name after m =
    record { what = m.what; listed = m.listed; free = m.free; makes = ap bare_tree m.makes }

-- a number stands for one object
pub stands_once : (state : PlainTree) (tree : Tree) (number object other : ℕ) →
    Stands (named_by state tree) number object →
    Stands state number other → object ≡ other
stands_once state tree number object other a b = some_object (sym a.1 ∙ b.1)
  where
    object_in : Option Numbered → ℕ
    object_in None = 0
    object_in (Some it) = it.object

    some_object : numbered_as object a.0 ≡ numbered_as other b.0 → object ≡ other
    some_object e = ap object_in e

-- it is refused behind the making
pub refused_behind : (w mid w' : World) (state : PlainTree) → Shows w state → Steady w mid → Quiet mid w' →
    ((n : ℕ) → live_count n w'.tables ≡ live_count n w.tables) → Shows w' (named_by state (bare_tree mid.tree))
refused_behind w mid w' state s q r c =
    let a = s.numbers_below in let b = q.next_number in let d = r.still.next_number in
    let e = s.handles_below in let f = q.next_handle in let g = r.still.next_handle in
    record {
      tree = sym r.still.tree;
      numbers = λ n. s.numbers n ∙ (λ i. numbered (sym (c n) i) (sym (r.still.past ∙ q.past) i n));
      handles = λ h. s.handles h ∙ sym (r.still.handles h ∙ q.handles h);
      numbers_below = omega (arith, a, b, d);
      handles_below = omega (arith, e, f, g);
      agreed = s.agreed ∙ sym (r.still.agreed ∙ q.agreed);
    }
