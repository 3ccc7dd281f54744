-- Calls of the host keep what is known of open descriptors.
use Rattle.std.proofs.Common.{◌≡◌, inl, inr, ℕ, ◌<◌, ◌≤◌, List, ◌∷◌, Bool, true, false, refl, sym, ap, subst, ◌∙◌}
use Rattle.std.proofs.Common.{arith, Option}
use Rattle.std.proofs.Common.{Some, None, length, if◌then◌else◌}
use Rattle.pt_host.specs.Words.{total, Each, Takes, set_at}
use Rattle.pt_host.specs.Call.{Call}
use Rattle.pt_host.specs.Flags.{includes, o_creat, o_path}
use Rattle.pt_host.specs.Tree.{Tree, Opened, IsOpenOn}
use Rattle.pt_host.specs.LawfulTree.{TreeChanges, opened_on, closed_at}
use Rattle.pt_host.specs.declared.ids.Fd.{Fd}
use Rattle.pt_host.specs.declared.flags.OpenFlags.{OpenFlags}
use Rattle.pt_host.specs.declared.op.KeptHostOp.TheVariants as call
use Rattle.pt_host.specs.declared.reply.HostReply.{HostReply}
use Rattle.pt_host.specs.declared.reply.HostReply.TheVariants as host
use Rattle.pt_host.specs.declared.reply.HostValue.TheVariants as value
use Rattle.pt_tables.specs.declared.row.Row.{Row}
use Rattle.pt_tables.specs.declared.row.HandleRow.{HandleRow}
use Rattle.pt_frame.specs.Deed.{Calls}
use Rattle.pt_frame.specs.declared.act.ActReply.TheVariants.{Host}
use Rattle.pt_frame.specs.declared.hold.Hold.{Hold}
use Rattle.pt_frame.specs.declared.hold.Hold.TheVariants as hold
use Rattle.pt_law.specs.Discipline.{Job, Notes, Given, Told, told_as, newly, found_by, with_root, ended, unless}
use Rattle.pt_law.specs.Discipline.{MovesBy, Resolution}
use Rattle.pt_law.specs.World.{Past, settled_by, object_of, first_of}
use Rattle.pt_law.specs.Ledger.{row_has, handle_has}
use Rattle.pt_law.proofs.Flows.{fd_held}
use Rattle.pt_law.proofs.Lists.{total_takes, is_same, is_apart, set_at_same, set_at_other, at_each}
use Rattle.pt_law.proofs.Lists.{each_map, each_takes, each_put}
use Rattle.pt_law.proofs.Growing.{Grows, call_grows, makes_object, rows_on, handles_on, knows_on}
use Rattle.pt_law.proofs.Knowing.{Shows, RowOpen, HandleOpen, Tells, ToldRight, PinRight, NotedOpen, NotedRight}
use Rattle.pt_law.proofs.Knowing.{IdsRight, GivenRight, Knowing, given_open, given_closed, told_more, given_more}
use Rattle.pt_law.proofs.Knowing.{told_ended, given_ended, stat_right}
use Rattle.pt_law.proofs.Knowing.{with_entry, rows_open, handles_open, told_open, noted_open, rows_closed}
use Rattle.pt_law.proofs.Knowing.{handles_closed, told_closed, noted_closed, unless_apart}

-- what is known of rows and jobs is right
pub record Right (bound : ℕ) (tree : Tree) (next : ℕ) (past : Past) (rows : List Row) (handles : List HandleRow)
    (js : ℕ → Job) : Type 0 where
  pub shown : Each (RowOpen tree past) rows
  pub handled : Each (HandleOpen tree past) handles
  pub knows : (j : ℕ) → j < bound → Knowing tree next past j (js j)

-- nothing was opened or closed
quiet : (bound : ℕ) (tree : Tree) (next : ℕ) (past : Past) (rows : List Row) (handles : List HandleRow) (js : ℕ →
    Job) (j : ℕ) (after : Job) (given : Option Given) (told : List Told) → j < bound →
    Right bound tree next past rows handles js → after.notes ≡ record (js j).notes { given = given; told = told } →
    after.holds ≡ (js j).holds → Each (ToldRight tree (Tells after.notes)) (js j).holds →
    GivenRight tree (Tells after.notes) given (past.resolved j) (js j).holds →
    Right bound tree next past rows handles (set_at j after js)
quiet bound tree next past rows handles js j after given told lt h n same right ids = record {
  shown = h.shown;
  handled = h.handled;
  knows = λ i less. at_each (Knowing tree next past) js j after i (
      let k = h.knows j lt in
      record {
        told = rw same right;
        pins = rw same k.pins;
        latest = λ fd e. rw same (k.latest fd (sym (ap (λ (z : Notes). z.latest) n) ∙ e));
        root = λ fd e. rw same (k.root fd (sym (ap (λ (z : Notes). z.root) n) ∙ e));
        unrooted = λ e. k.unrooted (sym (ap (λ (z : Notes). z.rooted) n) ∙ e);
        resolved = λ was e. k.resolved was (sym (ap (λ (z : Notes). z.resolved) n) ∙ e);
        reopened = λ was u fd e. rw same
            (k.reopened was (sym (ap (λ (z : Notes). z.resolved) n) ∙ u) fd (sym (ap (λ (z : Notes). z.reopened) n)
            ∙ e));
        given = λ one e. rw same (ids one (sym (ap (λ (z : Notes). z.given) n) ∙ e));
      }) (λ _. h.knows i less);
}

same_holds : (bound : ℕ) (tree : Tree) (next : ℕ) (past : Past) (rows : List Row) (handles : List HandleRow) (js : ℕ →
    Job) (j : ℕ) (after : Job) → j < bound → Right bound tree next past rows handles js → after.notes ≡ (js j).notes →
    after.holds ≡ (js j).holds → Right bound tree next past rows handles (set_at j after js)
same_holds bound tree next past rows handles js j after lt h n e =
    quiet bound tree next past rows handles js j after (js j).notes.given (js j).notes.told lt h n e
    (rw n (h.knows j lt).told) (rw n (h.knows j lt).given)

-- what another job knows, where a descriptor was opened
elsewhere : (tree : Tree) (next : ℕ) (past later : Past) (i : ℕ) (job : Job) (f : ℕ) (x : Option Opened) →
    tree.opened f ≡ None → later.fds ≡ past.fds → later.latest i ≡ past.latest i → later.roots i ≡ past.roots i →
    later.objects ≡ past.objects → later.resolved ≡ past.resolved →
    Knowing tree next past i job → Knowing (with_entry tree f x) next later i job
elsewhere tree next past later i job f x n e l r o q k = record {
  told = told_open tree (Tells job.notes) f x job.holds n k.told;
  pins = rw e k.pins;
  latest = rw l (noted_open tree f x job.notes.latest (past.latest i) job.holds job.holds n (λ fd.
      omega arith) k.latest);
  root = rw r (noted_open tree f x job.notes.root (past.roots i) job.holds job.holds n (λ fd. omega arith) k.root);
  unrooted = λ u. r ∙ k.unrooted u;
  resolved = λ was u. let a = k.resolved was u in
      (a.0, ap (λ z. z was.row) o ∙ a.1 ∙ sym (ap (λ (z : ℕ → ℕ → Option ℕ). z i was.number) q));
  reopened = λ was u.
      rw (ap (λ (z : ℕ → ℕ → Option ℕ). z i was.number) q)
      (noted_open tree f x job.notes.reopened (past.resolved i was.number) job.holds job.holds n (λ fd.
      omega arith) (k.reopened was u));
  given = rw (ap (λ (z : ℕ → ℕ → Option ℕ). z i) q)
      (given_open tree (Tells job.notes) f x job.notes.given (past.resolved i) job.holds n k.given);
}

found_is : (flags : OpenFlags) (new fd : Fd) → found_by flags new ≡ Some fd → new ≡ fd
found_is flags new fd e = go (includes flags.0 o_creat) e
  where
    go : (b : Bool) → (if b then None else Some new) ≡ Some fd → new ≡ fd
    go true e = absurd (cc)
    go false e = cc

more_held : {one : Hold} {holds after : List Hold} → Takes one after holds → (fd : ℕ) →
    total (fd_held fd) holds ≤ total (fd_held fd) after
more_held t fd = let a = total_takes (fd_held fd) t in omega (arith, a)

-- the descriptor that was just opened
just_opened : (tree : Tree) (object : ℕ) (flags : OpenFlags) (new fd : Fd)
    (was : Option ℕ) {holds after : List Hold} → new ≡ fd → Takes (hold.Fd new) after holds → was ≡ Some object →
    NotedOpen (opened_on tree object flags new) fd was after
just_opened tree object flags new fd was {after = after} e t w =
    subst (λ z. NotedOpen (opened_on tree object flags new) z was after) e (record {
      held = let a = total_takes (fd_held new.0) t in let b = is_same new.0 in omega (arith, a, b);
      object = object;
      open_on = (
        record {
          object = object;
          path_only = includes flags.0 o_path;
        },
        set_at_same tree.opened new.0 (Some (record { object = object; path_only = includes flags.0 o_path })),
        refl,
      );
      judged = w;
    })

object_opened : (tree : Tree) (object : ℕ) (flags : OpenFlags) (new : Fd) →
    object_of ((opened_on tree object flags new).opened new.0) ≡ Some object
object_opened tree object flags new =
    ap object_of (set_at_same tree.opened new.0
    (Some (record { object = object; path_only = includes flags.0 o_path })))

abbrev opened_latest : Past → ℕ → Option ℕ → Past
opened_latest past j o = record past { latest = set_at j o past.latest }

abbrev opened_root : Past → ℕ → Option ℕ → Past
opened_root past j o = record past { roots = set_at j (first_of (past.roots j) o) past.roots }

opens_at : (bound : ℕ) (tree : Tree) (next : ℕ) (past : Past) (rows : List Row) (handles : List HandleRow) (js : ℕ →
    Job) (j : ℕ) (after : Job) (object : ℕ) (flags : OpenFlags) (new : Fd) → j < bound →
    Right bound tree next past rows handles js →
    tree.opened new.0 ≡ None → Takes (hold.Fd new) after.holds (js j).holds →
    after.notes ≡ record (newly new (js j).notes) { latest = found_by flags new } →
    (o : Option ℕ) → o ≡ Some object →
    Right bound (opened_on tree object flags new) next (opened_latest past j o) rows handles (set_at j after js)
opens_at bound tree next past rows handles js j after object flags new lt h free t n o judged =
    let x : Option Opened = Some (record { object = object; path_only = includes flags.0 o_path }) in
    let later = opened_latest past j o in
    record {
      shown = rows_open tree past new.0 x rows free h.shown;
      handled = handles_open tree past new.0 x handles free h.handled;
      knows = λ i less. at_each (Knowing (opened_on tree object flags new) next later) js j after i (
          let k = h.knows j lt in
          record {
            told = rw n (told_more tree x (js j).notes new free t k.told);
            pins = each_put (PinRight next past.fds) t tt k.pins;
            latest = λ fd e. just_opened tree object flags new fd (later.latest j)
                (found_is flags new fd (sym (ap (λ (z : Notes). z.latest) n) ∙ e)) t
                (set_at_same past.latest j o ∙ judged);
            root = rw (ap (λ (z : Notes). z.root) n)
                (noted_open tree new.0 x (js j).notes.root (past.roots j) (js j).holds after.holds free
                (more_held t) k.root);
            unrooted = λ e. k.unrooted (sym (ap (λ (z : Notes). z.rooted) n) ∙ e);
            resolved = λ was e. k.resolved was (sym (ap (λ (z : Notes). z.resolved) n) ∙ e);
            reopened = λ was u.
                rw (ap (λ (z : Notes). z.reopened) n)
                (noted_open tree new.0 x (js j).notes.reopened (past.resolved j was.number)
                (js j).holds after.holds free (more_held t) (k.reopened was (sym (ap (λ (z : Notes). z.resolved) n)
                ∙ u)));
            given = rw n (given_more tree x (js j).notes (js j).notes.given (past.resolved j) new free t k.given);
          })
          (λ other. elsewhere tree next past later i (js i) new.0 x free refl
          (set_at_other past.latest j o i other) refl refl refl (h.knows i less));
    }

-- the first root stays the first
root_after : (tree : Tree) (object : ℕ) (flags : OpenFlags) (new : Fd) (notes : Notes) (was o : Option ℕ)
    (holds after : List Hold) → tree.opened new.0 ≡ None → Takes (hold.Fd new) after holds → o ≡ Some object →
    NotedRight tree notes.root was holds → (notes.rooted ≡ false → was ≡ None) → (b : Bool) → notes.rooted ≡ b →
    NotedRight (opened_on tree object flags new) (with_root new (record notes { rooted = b })).root
    (first_of was o) after × ((with_root new (record notes { rooted = b })).rooted ≡ true)
root_after tree object flags new notes was o holds after free t judged h u true e = (
  (λ fd q. let a = noted_open tree new.0
      (Some (record { object = object; path_only = includes flags.0 o_path })) notes.root was holds after free
      (more_held t) h fd q in
      record { held = a.held; object = a.object; open_on = a.open_on; judged = ap (λ z. first_of z o) a.judged }),
  refl,
)
root_after tree object flags new notes was o holds after free t judged h u false e = (
  (λ fd q. just_opened tree object flags new fd (first_of was o) (cc) t (ap (λ z. first_of z o) (u e) ∙ judged)),
  refl,
)

opens_root : (bound : ℕ) (tree : Tree) (next : ℕ) (past : Past) (rows : List Row) (handles : List HandleRow) (js : ℕ →
    Job) (j : ℕ) (after : Job) (object : ℕ) (flags : OpenFlags) (new : Fd) → j < bound →
    Right bound tree next past rows handles js →
    tree.opened new.0 ≡ None → Takes (hold.Fd new) after.holds (js j).holds →
    after.notes ≡ with_root new (newly new (js j).notes) →
    (o : Option ℕ) → o ≡ Some object →
    Right bound (opened_on tree object flags new) next (opened_root past j o) rows handles (set_at j after js)
opens_root bound tree next past rows handles js j after object flags new lt h free t m o judged =
    let x : Option Opened = Some (record { object = object; path_only = includes flags.0 o_path }) in
    let later = opened_root past j o in
    let first = first_of (past.roots j) o in
    let n = m ∙ root_alone new (newly new (js j).notes) in
    record {
      shown = rows_open tree past new.0 x rows free h.shown;
      handled = handles_open tree past new.0 x handles free h.handled;
      knows = λ i less. at_each (Knowing (opened_on tree object flags new) next later) js j after i (
          let k = h.knows j lt in
          let r = root_after tree object flags new (newly new (js j).notes) (past.roots j) o
          (js j).holds after.holds free t judged k.root k.unrooted (js j).notes.rooted refl in
          let now : later.roots j ≡ first = set_at_same past.roots j first in
          record {
            told = rw n (told_more tree x (js j).notes new free t k.told);
            pins = each_put (PinRight next past.fds) t tt k.pins;
            latest = rw (ap (λ (z : Notes). z.latest) n)
                (noted_open tree new.0 x (js j).notes.latest (past.latest j) (js j).holds after.holds free
                (more_held t) k.latest);
            root = rw (ap (λ (z : Notes). z.root) n, now) r.0;
            unrooted = λ e. let a = ap (λ (z : Notes). z.rooted) n in let b = r.1 in absurd (cc);
            resolved = λ was e.
                k.resolved was (sym (ap (λ (z : Notes). z.resolved) n) ∙ e);
            reopened = λ was u.
                rw (ap (λ (z : Notes). z.reopened) n)
                (noted_open tree new.0 x (js j).notes.reopened (past.resolved j was.number)
                (js j).holds after.holds free (more_held t)
                (k.reopened was (sym (ap (λ (z : Notes). z.resolved) n) ∙ u)));
            given = rw n (given_more tree x (js j).notes (js j).notes.given (past.resolved j) new free t k.given);
          })
          (λ other. elsewhere tree next past later i (js i) new.0 x free refl refl
          (set_at_other past.roots j first i other) refl refl (h.knows i less));
    }
  where
    root_alone : (fd : Fd) (notes : Notes) →
        with_root fd notes ≡ record notes { root = (with_root fd notes).root; rooted = (with_root fd notes).rooted }
    root_alone fd notes = go notes.rooted
      where
        go : (b : Bool) → with_root fd (record notes { rooted = b })
            ≡ record notes {
              root = (with_root fd (record notes { rooted = b })).root;
              rooted = (with_root fd (record notes { rooted = b })).rooted;
            }
        go true = refl
        go false = refl

-- what was resolved last is opened anew
opens_anew : (bound : ℕ) (tree : Tree) (next : ℕ) (past : Past) (rows : List Row) (handles : List HandleRow) (js : ℕ →
    Job) (j : ℕ) (after : Job) (object : ℕ) (flags : OpenFlags) (new : Fd) → j < bound →
    Right bound tree next past rows handles js →
    tree.opened new.0 ≡ None → Takes (hold.Fd new) after.holds (js j).holds →
    after.notes ≡ record (newly new (js j).notes) { reopened = Some new } →
    ((was : Resolution) → (js j).notes.resolved ≡ Some was → past.resolved j was.number ≡ Some object) →
    Right bound (opened_on tree object flags new) next past rows handles (set_at j after js)
opens_anew bound tree next past rows handles js j after object flags new lt h free t n judged =
    let x : Option Opened = Some (record { object = object; path_only = includes flags.0 o_path }) in
    record {
      shown = rows_open tree past new.0 x rows free h.shown;
      handled = handles_open tree past new.0 x handles free h.handled;
      knows = λ i less. at_each (Knowing (opened_on tree object flags new) next past) js j after i (
          let k = h.knows j lt in
          record {
            told = rw n (told_more tree x (js j).notes new free t k.told);
            pins = each_put (PinRight next past.fds) t tt k.pins;
            latest = rw (ap (λ (z : Notes). z.latest) n)
                (noted_open tree new.0 x (js j).notes.latest (past.latest j) (js j).holds after.holds free
                (more_held t) k.latest);
            root = rw (ap (λ (z : Notes). z.root) n)
                (noted_open tree new.0 x (js j).notes.root (past.roots j) (js j).holds after.holds free
                (more_held t) k.root);
            unrooted = λ e. k.unrooted (sym (ap (λ (z : Notes). z.rooted) n) ∙ e);
            resolved = λ was e. k.resolved was (sym (ap (λ (z : Notes). z.resolved) n) ∙ e);
            reopened = λ was u fd e.
                just_opened tree object flags new fd (past.resolved j was.number) (let a =
                ap (λ (z : Notes). z.reopened) n in cc) t (judged was (sym (ap (λ (z : Notes). z.resolved) n) ∙ u));
            given = rw n (given_more tree x (js j).notes (js j).notes.given (past.resolved j) new free t k.given);
          })
          (λ other. elsewhere tree next past past i (js i) new.0 x free refl refl refl refl refl (h.knows i less));
    }

-- an opening that is noted nowhere
opens_other : (bound : ℕ) (tree : Tree) (next : ℕ) (past : Past) (rows : List Row) (handles : List HandleRow)
    (js : ℕ → Job) (j : ℕ) (after : Job) (object : ℕ) (flags : OpenFlags) (new : Fd) → j < bound →
    Right bound tree next past rows handles js →
    tree.opened new.0 ≡ None → Takes (hold.Fd new) after.holds (js j).holds →
    after.notes ≡ newly new (js j).notes →
    Right bound (opened_on tree object flags new) next past rows handles (set_at j after js)
opens_other bound tree next past rows handles js j after object flags new lt h free t n =
    let x : Option Opened = Some (record { object = object; path_only = includes flags.0 o_path }) in
    record {
      shown = rows_open tree past new.0 x rows free h.shown;
      handled = handles_open tree past new.0 x handles free h.handled;
      knows = λ i less. at_each (Knowing (opened_on tree object flags new) next past) js j after i (
          let k = h.knows j lt in
          record {
            told = rw n (told_more tree x (js j).notes new free t k.told);
            pins = each_put (PinRight next past.fds) t tt k.pins;
            latest = rw (ap (λ (z : Notes). z.latest) n)
                (noted_open tree new.0 x (js j).notes.latest (past.latest j) (js j).holds after.holds free
                (more_held t) k.latest);
            root = rw (ap (λ (z : Notes). z.root) n)
                (noted_open tree new.0 x (js j).notes.root (past.roots j) (js j).holds after.holds free
                (more_held t) k.root);
            unrooted = λ e. k.unrooted (sym (ap (λ (z : Notes). z.rooted) n) ∙ e);
            resolved = λ was e. k.resolved was (sym (ap (λ (z : Notes). z.resolved) n) ∙ e);
            reopened = λ was u.
                rw (ap (λ (z : Notes). z.reopened) n)
                (noted_open tree new.0 x (js j).notes.reopened (past.resolved j was.number)
                (js j).holds after.holds free (more_held t) (k.reopened was (sym (ap (λ (z : Notes). z.resolved) n)
                ∙ u)));
            given = rw n (given_more tree x (js j).notes (js j).notes.given (past.resolved j) new free t k.given);
          })
          (λ other. elsewhere tree next past past i (js i) new.0 x free refl refl refl refl refl (h.knows i less));
    }

-- a descriptor was closed that no row and no job has after
closes : (bound : ℕ) (tree : Tree) (next : ℕ) (past : Past) (rows : List Row) (handles : List HandleRow) (js : ℕ →
    Job) (j : ℕ) (after : Job) (f : Fd) → j < bound →
    Right bound tree next past rows handles js →
    Takes (hold.Fd f) (js j).holds after.holds → after.notes ≡ ended f (js j).notes →
    total (row_has f.0) rows ≡ 0 → total (handle_has f.0) handles ≡ 0 →
    ((i : ℕ) → i < bound → total (fd_held f.0) (set_at j after js i).holds ≡ 0) →
    Right bound (closed_at tree f) next past rows handles (set_at j after js)
closes bound tree next past rows handles js j after f lt h t n z y none = record {
  shown = rows_closed tree past f.0 rows z h.shown;
  handled = handles_closed tree past f.0 handles y h.handled;
  knows = λ i less. at_each (λ i job. total (fd_held f.0) job.holds ≡ 0 →
      Knowing (closed_at tree f) next past i job) js j after i
      (λ y.
      let k = h.knows j lt in
      record {
        told = rw n (told_ended (closed_at tree f) (js j).notes f after.holds y
            (told_closed tree (Tells (js j).notes) f.0 after.holds y
            (each_takes (ToldRight tree (Tells (js j).notes)) t k.told)));
        pins = each_takes (PinRight next past.fds) t k.pins;
        latest = noted_closed tree f.0 after.notes.latest (past.latest j) after.holds y
            (left (js j).notes.latest after.notes.latest (past.latest j) (ap (λ (z : Notes). z.latest) n) k.latest);
        root = noted_closed tree f.0 after.notes.root (past.roots j) after.holds y
            (left (js j).notes.root after.notes.root (past.roots j) (ap (λ (z : Notes). z.root) n) k.root);
        unrooted = λ e. k.unrooted (sym (ap (λ (z : Notes). z.rooted) n) ∙ e);
        resolved = λ was e. k.resolved was (sym (ap (λ (z : Notes). z.resolved) n) ∙ e);
        reopened = λ was u.
            noted_closed tree f.0 after.notes.reopened (past.resolved j was.number) after.holds y
            (left (js j).notes.reopened after.notes.reopened (past.resolved j was.number)
            (ap (λ (z : Notes). z.reopened) n) (k.reopened was (sym (ap (λ (z : Notes). z.resolved) n) ∙ u)));
        given = rw n (given_ended (closed_at tree f) (js j).notes f (js j).notes.given (past.resolved j) after.holds y
            (given_closed tree (Tells (js j).notes) f.0 (js j).notes.given (past.resolved j) after.holds y (λ one e.
            each_takes (IdsRight tree (Tells (js j).notes) one.ids (past.resolved j one.number)) t
            (k.given one e))));
      })
      (λ other y.
      let k = h.knows i less in
      record {
        told = told_closed tree (Tells (js i).notes) f.0 (js i).holds y k.told;
        pins = k.pins;
        latest = noted_closed tree f.0 (js i).notes.latest (past.latest i) (js i).holds y k.latest;
        root = noted_closed tree f.0 (js i).notes.root (past.roots i) (js i).holds y k.root;
        unrooted = k.unrooted;
        resolved = k.resolved;
        reopened = λ was u.
            noted_closed tree f.0 (js i).notes.reopened (past.resolved i was.number) (js i).holds y
            (k.reopened was u);
        given = given_closed tree (Tells (js i).notes) f.0 (js i).notes.given (past.resolved i) (js i).holds y
            k.given;
      })
      (none i less);
}
  where
    left : (noted noted' : Option Fd) (was : Option ℕ) → noted' ≡ unless f noted →
        NotedRight tree noted was (js j).holds → NotedRight tree noted' was after.holds
    left noted noted' was e k fd q =
        let s = unless_apart f noted fd (sym e ∙ q) in
        let a = k fd s.0 in
        record {
          held = let b = a.held in let c = total_takes (fd_held fd.0) t in let d = is_apart f.0 fd.0 s.1 in
              omega (arith, b, c, d);
          object = a.object;
          open_on = a.open_on;
          judged = a.judged;
        }

-- what opens and closes nothing
grown : (bound : ℕ) (tree after : Tree) (next : ℕ) (past : Past) (rows : List Row) (handles : List HandleRow)
    (js : ℕ → Job) → Grows tree after → Right bound tree next past rows handles js →
    Right bound after next past rows handles js
grown bound tree after next past rows handles js g h = record {
  shown = rows_on g past rows h.shown;
  handled = handles_on g past handles h.handled;
  knows = λ j lt. knows_on g next past j (js j) (h.knows j lt);
}

-- Each call keeps what is known, where what it closes is no row's and nobody's after, and what it opens anew is what
-- was resolved last.
pub keeps_call : (bound : ℕ) (tree : Tree) (next : ℕ) (past : Past) (rows : List Row) (handles : List HandleRow)
    (js : ℕ → Job) (j : ℕ) (after : Job) (a : Call) (r : HostReply) (tree' : Tree) → j < bound →
    Right bound tree next past rows handles js →
    TreeChanges tree a r tree' → MovesBy (js j) (Calls a) (Host r) after →
    ((f : Fd) (flags : OpenFlags) (object : ℕ) → a ≡ call.Reopen f flags → IsOpenOn tree f object →
    (was : Resolution) → (js j).notes.resolved ≡ Some was → past.resolved j was.number ≡ Some object) →
    ((f : Fd) → a ≡ call.Close f → (total (row_has f.0) rows ≡ 0) × (total (handle_has f.0) handles ≡ 0)
    × ((i : ℕ) → i < bound → total (fd_held f.0) (set_at j after js i).holds ≡ 0)) →
    Right bound tree' next (settled_by past j (Calls a) (Host r) next tree') rows handles (set_at j after js)
keeps_call bound tree next past rows handles js j after (call.OpenRoot path flags)
    (host.Ok (value.Fd new)) tree' lt h l m b c =
    let o = l.1 in
    rw o.adds (opens_root bound tree next past rows handles js j after l.0 flags new lt h o.fresh m.0.1 m.3
    (object_of ((opened_on tree l.0 flags new).opened new.0)) (object_opened tree l.0 flags new))
keeps_call bound tree next past rows handles js j after (call.OpenAt dir name flags mode)
    (host.Ok (value.Fd new)) tree' lt h (inl f) m b c =
    let o = f.3 in
    rw o.adds (opens_at bound tree next past rows handles js j after f.0 flags new lt h o.fresh m.0.1 m.3
    (object_of ((opened_on tree f.0 flags new).opened new.0)) (object_opened tree f.0 flags new))
keeps_call bound tree next past rows handles js j after (call.OpenAt dir name flags mode)
    (host.Ok (value.Fd new)) tree' lt h (inr g) m b c =
    let there = grown bound tree g.0 next past rows handles js (makes_object tree g.2.0 name g.0 g.2.2) h in
    let object = length tree.objects in
    let o = g.3 in
    rw o.adds (opens_at bound g.0 next past rows handles js j after object flags new lt there o.fresh m.0.1 m.3
    (object_of ((opened_on g.0 object flags new).opened new.0)) (object_opened g.0 object flags new))
keeps_call bound tree next past rows handles js j after (call.Reopen f flags)
    (host.Ok (value.Fd new)) tree' lt h l m b c =
    let o = l.2 in
    rw o.adds (opens_anew bound tree next past rows handles js j after l.0 flags new lt h o.fresh m.0.1 m.3
    (b f flags l.0 refl l.1))
keeps_call bound tree next past rows handles js j after (call.OpenPath dir path flags)
    (host.Ok (value.Fd new)) tree' lt h l m b c =
    let o = l.1 in
    rw o.adds (opens_other bound tree next past rows handles js j after l.0 flags new lt h o.fresh m.0.1 m.3)
keeps_call bound tree next past rows handles js j after (call.OpenByHandle dir handle flags)
    (host.Ok (value.Fd new)) tree' lt h l m b c =
    let o = l.2 in
    rw o.adds (opens_other bound tree next past rows handles js j after l.0 flags new lt h o.fresh m.0.1 m.3)
keeps_call bound tree next past rows handles js j after (call.Stat f) (host.Ok (value.Stat stat)) tree' lt h l m b c =
    let shown : Shows tree f l.0 stat.ids =
    record { open_on = l.2; what = l.1; is_object = l.3; same_ids = sym l.4.ids } in
    rw l.5 (quiet bound tree next past rows handles js j after None
    (told_as f (Some stat.ids) ∷ (js j).notes.told) lt h m.3 m.0.1
    (rw m.3 (each_map (ToldRight tree (Tells (js j).notes)) (ToldRight tree (Tells
    (record (js j).notes { given = None; told = told_as f (Some stat.ids) ∷ (js j).notes.told }))) (js j).holds
    (λ one. stat_right tree f l.0 stat.ids (js j).notes one shown) (h.knows j lt).told)) (λ one e. absurd (cc)))
keeps_call bound tree next past rows handles js j after (call.Close f) told tree' lt h l m b c =
    let e = c f refl in
    rw l (closes bound tree next past rows handles js j after f lt h m.0 m.3 e.0 e.1 e.2)
keeps_call bound tree next past rows handles js j after asked told tree' lt h l m b c =
    grown bound tree tree' next past rows handles (set_at j after js) (call_grows tree asked told tree' l tt)
    (same_holds bound tree next past rows handles js j after lt h m.3 m.0.1)
