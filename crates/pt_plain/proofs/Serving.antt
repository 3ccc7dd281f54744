-- Proof. A request that runs alone is served by the plain file system.
use Rattle.std.proofs.Common.{◌≡◌, ◌≢◌, ◌⊎◌, inl, inr, ℕ, zero, suc, ◌+◌, ◌<◌, ◌≤◌, List, [], Option, Some, None}
use Rattle.std.proofs.Common.{refl, sym, ap, ◌∙◌, arith, ⊎_elim}
use Rattle.std.proofs.lemmas.Bool.{cases_eq}
use Rattle.pt_host.specs.Tree.{Tree}
use Rattle.pt_host.specs.Words.{is, set_at}
use Rattle.pt_host.specs.declared.seat.HostSeat.{HostSeat}
use Rattle.pt_iface.specs.declared.answer.Answer.{Answer}
use Rattle.pt_iface.specs.declared.answer.Answer.TheVariants as answer
use Rattle.pt_iface.specs.declared.request.Request.{Request}
use Rattle.pt_frame.specs.Deed.{Step}
use Rattle.pt_frame.specs.Grammar.{Belongs}
use Rattle.pt_frame.specs.Tree.{RequestTree, grammar_of_tree}
use Rattle.pt_frame.specs.declared.finish.Finish.TheVariants as finish
use Rattle.pt_req.specs.declared.plan.Plan.{Plan}
use Rattle.pt_law.specs.Discipline.{ComesToEnd, idle}
use Rattle.pt_law.specs.Settled.{entry_count}
use Rattle.pt_law.specs.World.{World}
use Rattle.pt_law.proofs.Givings.{live_count}
use Rattle.pt_law.proofs.Laws.{counted}
use Rattle.pt_law.proofs.Lists.{is_same, is_apart, set_at_same, set_at_other}
use Rattle.pt_plain.specs.Plain.{PlainTree, Numbered, numbered_as, Stands, OfNumber, Gives}
use Rattle.pt_plain.specs.Serves.{Serves, Looks}
use Rattle.pt_iface.specs.declared.entry.Entry.{Entry}
use Rattle.pt_plain.proofs.Coming.{comes, Law, Walks}
use Rattle.pt_plain.proofs.Counting.{counts_even, Even}
use Rattle.pt_plain.proofs.Entering.{IsLooked, IsNumbered}
use Rattle.pt_plain.proofs.Showing.{number_at, numbered, Shows, Still}
use Rattle.pt_plain.proofs.Walking.{At, At.{by}, IsRefused, some_is}

-- One job that ran alone, by this tree, and was answered: neither for want of memory nor cut, its seat not lost.
pub record Alone (j : ℕ) (seat : HostSeat) (tree : RequestTree) (w : World) (last : Answer) (w' : World) : Type 0 where
  pub steps : List Step
  pub given : last ≢ answer.NoMemory
  pub belongs : Belongs (grammar_of_tree seat tree) steps (finish.Answer last)
  pub walks : Walks j w steps w'
  pub ends : ComesToEnd idle steps (finish.Answer last)
  -- what is known of the world behind it
  pub law : Law w'

pub walked : (j : ℕ) (seat : HostSeat) (tree : RequestTree) (w : World) (last : Answer) (w' : World) →
    Alone j seat tree w last w' → At j tree w last w'
walked j seat tree w last w' a = by (comes j seat tree [] [] w a.steps last w' a.given a.belongs a.walks)

pub counts : (j : ℕ) (seat : HostSeat) (tree : RequestTree) (w : World) (last : Answer) (w' : World) →
    Alone j seat tree w last w' → Even tree → (n : ℕ) →
    live_count n w'.tables ≡ live_count n w.tables + entry_count n (finish.Answer last)
counts j seat tree w last w' a e = counts_even j seat tree w w' a.steps last a.given e a.belongs a.walks a.ends

-- the state that the request leaves
abbrev pub IsServed : Plan → Request → PlainTree → Answer → World → Type 0
IsServed plan asked state last w' = (after : PlainTree) × Serves plan asked state last after × Shows w' after

pub numbered_is : (count object : ℕ) (had : Option ℕ) → 0 < count → had ≡ Some object →
    numbered count had ≡ numbered_as object count
numbered_is zero object had l e = absurd (omega (arith, l))
numbered_is (suc count) object had l e = ap (numbered (suc count)) e

is_numbered : (count object k : ℕ) (had : Option ℕ) → numbered count had ≡ numbered_as object k →
    (0 < count) × (had ≡ Some object)
is_numbered zero object k had e = absurd (cc)
is_numbered (suc count) object k None e = absurd (cc)
is_numbered (suc count) object k (Some same) e = (omega arith, ap (object_in) e)
  where
    object_in : Option Numbered → Option ℕ
    object_in None = None
    object_in (Some it) = Some it.object

pub stands : (w : World) (state : PlainTree) (number object : ℕ) → Shows w state → w.past.numbers number ≡ Some object →
    0 < live_count number w.tables → Stands state number object
stands w state number object s e l =
    (live_count number w.tables, s.numbers number ∙ numbered_is (live_count number w.tables) object _ l e)

same_number : (w w' : World) (n : ℕ) → live_count n w'.tables ≡ live_count n w.tables →
    w'.past.numbers ≡ w.past.numbers → number_at w' n ≡ number_at w n
same_number w w' n c p = λ i. numbered (c i) (p i n)

-- nothing that is seen changed
pub shows_still : (w w' : World) (state : PlainTree) → Shows w state → Still w w' →
    ((n : ℕ) → live_count n w'.tables ≡ live_count n w.tables) → Shows w' state
shows_still w w' state s q c =
    let a = s.numbers_below in let b = q.next_number in let d = s.handles_below in let e = q.next_handle in record {
      tree = s.tree ∙ sym q.tree;
      numbers = λ n. s.numbers n ∙ sym (same_number w w' n (c n) q.past);
      handles = λ h. s.handles h ∙ sym (q.handles h);
      numbers_below = omega (arith, a, b);
      handles_below = omega (arith, d, e);
      agreed = s.agreed ∙ sym q.agreed;
    }

pub refused_counts : (w w' : World) (last : Answer) → IsRefused w last w' →
    ((n : ℕ) → live_count n w'.tables ≡ live_count n w.tables + entry_count n (finish.Answer last)) →
    (n : ℕ) → live_count n w'.tables ≡ live_count n w.tables
refused_counts w w' last r c n =
    let k = c n in let z = ap (λ (a : Answer). entry_count n (finish.Answer a)) r.is in omega (arith, k, z)

-- an object's number is given once more, or a new one
pub gives_number : (w w' : World) (state : PlainTree) (object number : ℕ) → Shows w state →
    ((n : ℕ) → w.tables.next_number ≤ n → live_count n w.tables ≡ 0) → Law w' → IsNumbered w w' object number →
    ((n : ℕ) → live_count n w'.tables ≡ live_count n w.tables + is number n) →
    (after : PlainTree) × Gives state object number after × Shows w' after
gives_number w w' state object number s low law i c = go i.past
  where
    had : ℕ
    had = live_count number w.tables

    now : live_count number w'.tables ≡ had + 1
    now = let a = c number in let b = is_same number in omega (arith, a, b)

    others : (n : ℕ) → n ≢ number → live_count n w'.tables ≡ live_count n w.tables
    others n e = let a = c n in let b = is_apart number n (λ x. e (sym x)) in omega (arith, a, b)

    shown : (after : PlainTree) (count : ℕ) → after.tree ≡ state.tree → ((h : ℕ) → after.handles h ≡ state.handles h) →
        after.agreed ≡ state.agreed → after.handles_below ≡ state.handles_below →
        after.numbers_below ≤ w'.tables.next_number →
        after.numbers ≡ set_at number (numbered_as object count) state.numbers →
        live_count number w'.tables ≡ count → w'.past.numbers number ≡ Some object →
        ((n : ℕ) → n ≢ number → w'.past.numbers n ≡ w.past.numbers n) → Shows w' after
    shown after count t h a b l e k p q = record {
      tree = t ∙ s.tree ∙ sym i.tree;
      numbers = λ n. ⊎_elim
          (λ (x : n ≡ number).
          ap (λ f. f n) e ∙ ap (set_at number (numbered_as object count) state.numbers) x
          ∙ set_at_same state.numbers number (numbered_as object count)
          ∙ sym (numbered_is count object (Some object) (let m = now in omega (arith, m, k)) refl)
          ∙ (λ y. numbered (sym k y) (sym p y)) ∙ ap (number_at w') (sym x))
          (λ (x : n ≢ number).
          ap (λ f. f n) e ∙ set_at_other state.numbers number (numbered_as object count) n x ∙ s.numbers n
          ∙ (λ y. numbered (sym (others n x) y) (sym (q n x) y)))
          (cases_eq n number);
      handles = λ x. h x ∙ s.handles x ∙ sym (i.handles x);
      numbers_below = l;
      handles_below = (let d = s.handles_below in let g = i.next_handle in omega (arith, b, d, g));
      agreed = a ∙ s.agreed ∙ sym i.agreed;
    }

    go : (((w'.past.numbers ≡ w.past.numbers) × (w.past.numbers number ≡ Some object) × (0 < had))
        ⊎ ((w'.past.numbers ≡ set_at number (Some object) w.past.numbers) × (w.tables.next_number ≤ number)
        × (suc number ≤ w'.tables.next_number))) →
        (after : PlainTree) × Gives state object number after × Shows w' after
    go (inl old) =
        let after : PlainTree = record state { numbers = set_at number (numbered_as object (had + 1)) state.numbers } in
        let z = s.numbers_below in let y = i.next_number in (
          after,
          inl (had, s.numbers number ∙ numbered_is had object _ old.2 old.1, refl),
          shown after (had + 1) refl (λ h. refl) refl refl (omega (arith, z, y)) refl now
              (ap (λ f. f number) old.0 ∙ old.1) (λ n x. ap (λ f. f n) old.0),
        )
    go (inr new) =
        let after : PlainTree = record state {
          numbers = set_at number (numbered_as object 1) state.numbers;
          numbers_below = number + 1;
        } in
        let none = low number new.1 in
        let z = s.numbers_below in let y = new.1 in let x = new.2 in
        let there = ap (λ f. f number) new.0 ∙ set_at_same w.past.numbers number (Some object) in (
          after,
          inr (alone, omega (arith, z, y), refl),
          shown after 1 refl (λ h. refl) refl refl (omega (arith, x)) refl (let a = now in omega (arith, a, none)) there
              (λ n q. ap (λ f. f n) new.0 ∙ set_at_other w.past.numbers number (Some object) n q),
        )
      where
        alone : (other : ℕ) → Stands state other object → ⊥
        alone other st =
            let has = is_numbered (live_count other w.tables) object st.0 (w.past.numbers other)
            (sym (s.numbers other) ∙ st.1) in
            let none = low number new.1 in
            let apart : other ≢ number = λ e. (let a = ap (λ n. live_count n w.tables) e in let b = has.0 in
            absurd (omega (arith, a, b, none))) in
            let still = others other apart in
            let one = (counted other w'.tables law.agree).live (let b = has.0 in omega (arith, still, b)) in
            let two = (counted number w'.tables law.agree).live (let a = now in omega (arith, a)) in
            let d = law.distinct other number (one.0, one.1, one.2) (two.0, two.1, two.2) apart in
            let first = ap (λ f. f other) new.0 ∙ set_at_other w.past.numbers number (Some object) other apart ∙ has.1
            in
            let second = ap (λ f. f number) new.0 ∙ set_at_same w.past.numbers number (Some object) in
            d.4 (some_is (sym d.2 ∙ first ∙ sym second ∙ d.3))

-- the entry that is answered counts
pub entry_counts : (w w' : World) (last : Answer) (entry : Entry) → last ≡ answer.Entry entry →
    ((n : ℕ) → live_count n w'.tables ≡ live_count n w.tables + entry_count n (finish.Answer last)) → (n : ℕ) →
    live_count n w'.tables ≡ live_count n w.tables + is entry.inode n
entry_counts w w' last entry e c n =
    let k = c n in let z = ap (λ (a : Answer). entry_count n (finish.Answer a)) e in omega (arith, k, z)

-- A name that was looked up is looked up in the plain file system.
pub looks : (w w' : World) (state : PlainTree) (parent : ℕ) (name : List ℕ) (number : ℕ) → Shows w state →
    ((n : ℕ) → w.tables.next_number ≤ n → live_count n w.tables ≡ 0) → Law w' → IsLooked w w' parent name number →
    ((n : ℕ) → live_count n w'.tables ≡ live_count n w.tables + is number n) →
    (after : PlainTree) × OfNumber state parent (λ dir. Looks state dir name number after) × Shows w' after
looks w w' state parent name number s low law i c =
    let g = gives_number w w' state i.object number s low law i.numbered c in (
      g.0,
      (
        i.dir,
        stands w state parent i.dir s i.is_dir i.live,
        (i.object, ap (λ (t : Tree). t.names i.dir name) s.tree ∙ i.leads, g.1),
      ),
      g.2,
    )
