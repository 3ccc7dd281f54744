-- What is open on what: of the rows, and of what each job holds.
use Rattle.std.proofs.Common.{◌≡◌, ◌≢◌, ⊎_elim, ℕ, ◌<◌, ◌≤◌, ◌==◌, List, ◌∷◌, Bool, true, false, refl, sym, ap}
use Rattle.std.proofs.Common.{subst, if◌then◌else◌, ◌∙◌, arith, Option, Some, None}
use Rattle.std.proofs.lemmas.Bool.{cases_eq}
use Rattle.pt_host.specs.Words.{is, total, Each, Takes, set_at}
use Rattle.pt_host.specs.Tree.{Tree, Object, Opened, IsObject, IsOpenOn}
use Rattle.pt_host.specs.declared.ids.Fd.{Fd}
use Rattle.pt_host.specs.declared.ids.ObjIds.{ObjIds}
use Rattle.pt_tables.specs.declared.row.Row.{Row}
use Rattle.pt_tables.specs.declared.row.HandleRow.{HandleRow}
use Rattle.pt_law.specs.World.{fd_of}
use Rattle.pt_frame.specs.declared.hold.Hold.{Hold}
use Rattle.pt_frame.specs.declared.hold.Hold.TheVariants as hold
use Rattle.pt_law.specs.Discipline.{Job, Notes, Resolution, Given, unless, ended, newly, told_of, told_as}
use Rattle.pt_law.specs.World.{Past}
use Rattle.pt_law.specs.Ledger.{row_has, handle_has}
use Rattle.pt_law.proofs.Flows.{fd_held}
use Rattle.pt_law.proofs.Lists.{none_weighs, is_none, set_at_other, each_map, each_both, each_put}
use Rattle.pt_law.proofs.Moving.{same_number, same_fd}
use Rattle.pt_law.proofs.Effects.{Later}

-- the descriptor is open on this object, which has these ids
pub record Shows (tree : Tree) (fd : Fd) (object : ℕ) (ids : ObjIds) : Type 0 where
  pub open_on : IsOpenOn tree fd object
  pub what : Object
  pub is_object : IsObject tree object what
  pub same_ids : what.ids ≡ ids

-- the row's descriptor is open on the row's object, which is the one of its number
pub record RowShows (tree : Tree) (numbers objects : ℕ → Option ℕ) (fds : ℕ → Option Fd) (row : Row) : Type 0 where
  pub object : ℕ
  pub shows : Shows tree (fd_of row.form) object row.ids
  pub numbered : row.live ≡ true → numbers row.number ≡ Some object
  pub placed : objects row.serial ≡ Some object
  pub kept_by : fds row.serial ≡ Some (fd_of row.form)

abbrev pub RowOpen : Tree → Past → Row → Type 0
RowOpen tree past row = RowShows tree past.numbers past.objects past.fds row

-- a handle's descriptor is open on the object that its number had when it was resolved for its opening
pub record HandleShows (tree : Tree) (objects : ℕ → Option ℕ) (fds : ℕ → Option Fd) (row : HandleRow) : Type 0 where
  pub object : ℕ
  pub open_on : IsOpenOn tree row.fd object
  pub placed : objects row.serial ≡ Some object
  pub kept_by : fds row.serial ≡ Some row.fd

abbrev pub HandleOpen : Tree → Past → HandleRow → Type 0
HandleOpen tree past row = HandleShows tree past.objects past.fds row

-- `Stat` told these ids of the descriptor, and no closing brought it
abbrev pub Tells : Notes → Fd → ObjIds → Type 0
Tells notes fd ids = (told_of notes.told fd ≡ Some ids) × (notes.brought ≢ Some fd)

-- what is told of a descriptor that is held is right
abbrev pub ToldRight : Tree → (Fd → ObjIds → Type 0) → Hold → Type 0
ToldRight tree tells (hold.Fd fd) = (ids : ObjIds) → tells fd ids → (object : ℕ) × Shows tree fd object ids
ToldRight tree tells _ = Unit {0}

-- a pinned row was inserted, with the pin's descriptor
abbrev pub PinRight : ℕ → (ℕ → Option Fd) → Hold → Type 0
PinRight next fds (hold.Pin row kept) = (row < next) × (fds row ≡ kept)
PinRight next fds (hold.HandlePin row fd) = (row < next) × (fds row ≡ Some fd)
PinRight next fds _ = Unit {0}

-- a noted descriptor is held, and open on the object that its opening answered
pub record NotedOpen (tree : Tree) (fd : Fd) (was : Option ℕ) (holds : List Hold) : Type 0 where
  pub held : 0 < total (fd_held fd.0) holds
  pub object : ℕ
  pub open_on : IsOpenOn tree fd object
  pub judged : was ≡ Some object

abbrev pub NotedRight : Tree → Option Fd → Option ℕ → List Hold → Type 0
NotedRight tree noted was holds = (fd : Fd) → noted ≡ Some fd → NotedOpen tree fd was holds

-- what the job holds, and was told these ids of, is open on this object
abbrev pub IdsRight : Tree → (Fd → ObjIds → Type 0) → ObjIds → Option ℕ → Hold → Type 0
IdsRight tree tells ids was (hold.Fd fd) =
    tells fd ids → (object : ℕ) × IsOpenOn tree fd object × (was ≡ Some object)
IdsRight tree tells ids was _ = Unit {0}

-- what has the ids that the job was given a number for is open on the object that it was given
abbrev pub GivenRight : Tree → (Fd → ObjIds → Type 0) → Option Given → (ℕ → Option ℕ) → List Hold → Type 0
GivenRight tree tells noted numbers holds =
    (given : Given) → noted ≡ Some given → Each (IdsRight tree tells given.ids (numbers given.number)) holds

-- what one job knows is right
pub record Knowing (tree : Tree) (next : ℕ) (past : Past) (j : ℕ) (job : Job) : Type 0 where
  pub told : Each (ToldRight tree (Tells job.notes)) job.holds
  pub pins : Each (PinRight next past.fds) job.holds
  pub latest : NotedRight tree job.notes.latest (past.latest j) job.holds
  pub root : NotedRight tree job.notes.root (past.roots j) job.holds
  pub unrooted : job.notes.rooted ≡ false → past.roots j ≡ None
  -- the row that was resolved last has the object that its number had then, and what was opened anew is open on it
  pub resolved : (was : Resolution) → job.notes.resolved ≡ Some was →
      (was.row < next) × (past.objects was.row ≡ past.resolved j was.number)
  pub reopened : (was : Resolution) → job.notes.resolved ≡ Some was →
      NotedRight tree job.notes.reopened (past.resolved j was.number) job.holds
  pub given : GivenRight tree (Tells job.notes) job.notes.given (past.resolved j) job.holds

-- the tree with another entry for this descriptor
abbrev pub with_entry : Tree → ℕ → Option Opened → Tree
with_entry tree f x = record tree { opened = set_at f x tree.opened }

-- a descriptor is open on one object
pub one_object : (tree : Tree) (fd : Fd) (object other : ℕ) → IsOpenOn tree fd object → IsOpenOn tree fd other →
    object ≡ other
one_object tree fd object other a b = let e : a.0 ≡ b.0 = (let x = a.1 in let y = b.1 in cc) in
    sym a.2 ∙ ap (λ (z : Opened). z.object) e ∙ b.2

-- an object has one set of ids
pub one_ids : (tree : Tree) (fd other : Fd) (object : ℕ) (ids that : ObjIds) → Shows tree fd object ids →
    Shows tree other object that → ids ≡ that
one_ids tree fd other object ids that a b =
    let e : a.what ≡ b.what = (let x = a.is_object in let y = b.is_object in cc) in
    sym a.same_ids ∙ ap (λ (z : Object). z.ids) e ∙ b.same_ids

-- an open descriptor stays open where the entry of another changes
pub stays_open : (tree : Tree) (f : ℕ) (x : Option Opened) (fd : Fd) (object : ℕ) → fd.0 ≢ f →
    IsOpenOn tree fd object → IsOpenOn (with_entry tree f x) fd object
stays_open tree f x fd object e h = (h.0, set_at_other tree.opened f x fd.0 e ∙ h.1, h.2)

pub other_than : (tree : Tree) (f : ℕ) (fd : Fd) (object : ℕ) → tree.opened f ≡ None → IsOpenOn tree fd object →
    fd.0 ≢ f
other_than tree f fd object n h e = let k = ap tree.opened e in let l = h.1 in absurd (cc)

pub stays_shown : (tree : Tree) (f : ℕ) (x : Option Opened) (fd : Fd) (object : ℕ) (ids : ObjIds) → fd.0 ≢ f →
    Shows tree fd object ids → Shows (with_entry tree f x) fd object ids
stays_shown tree f x fd object ids e h =
    record {
      open_on = stays_open tree f x fd object e h.open_on;
      what = h.what;
      is_object = h.is_object;
      same_ids = h.same_ids;
    }

row_stays : (tree : Tree) (past : Past) (f : ℕ) (x : Option Opened) (row : Row) → (fd_of row.form).0 ≢ f →
    RowOpen tree past row → RowOpen (with_entry tree f x) past row
row_stays tree past f x row e h =
    record {
      object = h.object;
      shows = stays_shown tree f x (fd_of row.form) h.object row.ids e h.shows;
      numbered = h.numbered;
      placed = h.placed;
      kept_by = h.kept_by;
    }

handle_stays : (tree : Tree) (past : Past) (f : ℕ) (x : Option Opened) (row : HandleRow) → row.fd.0 ≢ f →
    HandleOpen tree past row → HandleOpen (with_entry tree f x) past row
handle_stays tree past f x row e h =
    record {
      object = h.object;
      open_on = stays_open tree f x row.fd h.object e h.open_on;
      placed = h.placed;
      kept_by = h.kept_by;
    }

pub handles_open : (tree : Tree) (past : Past) (f : ℕ) (x : Option Opened) (rows : List HandleRow) →
    tree.opened f ≡ None → Each (HandleOpen tree past) rows → Each (HandleOpen (with_entry tree f x) past) rows
handles_open tree past f x rows n = each_map (HandleOpen tree past) (HandleOpen (with_entry tree f x) past) rows
    (λ r h. handle_stays tree past f x r (other_than tree f r.fd h.object n h.open_on) h)

-- a descriptor is opened that was not open
pub rows_open : (tree : Tree) (past : Past) (f : ℕ) (x : Option Opened) (rows : List Row) → tree.opened f ≡ None →
    Each (RowOpen tree past) rows → Each (RowOpen (with_entry tree f x) past) rows
rows_open tree past f x rows n = each_map (RowOpen tree past) (RowOpen (with_entry tree f x) past) rows
    (λ r h. row_stays tree past f x r (other_than tree f (fd_of r.form) h.object n h.shows.open_on) h)

told_stays : (tree : Tree) (tells : Fd → ObjIds → Type 0) (f : ℕ) (x : Option Opened) (one : Hold) →
    ((fd : Fd) (object : ℕ) → fd_held f one ≡ is fd.0 f → IsOpenOn tree fd object → fd.0 ≢ f) →
    ToldRight tree tells one → ToldRight (with_entry tree f x) tells one
told_stays tree tells f x (hold.Fd fd) e h = λ ids q. let a = h ids q in
    (a.0, stays_shown tree f x fd a.0 ids (e fd a.0 refl a.1.open_on) a.1)
told_stays tree tells f x one e h = tt

pub told_open : (tree : Tree) (tells : Fd → ObjIds → Type 0) (f : ℕ) (x : Option Opened) (holds : List Hold) →
    tree.opened f ≡ None → Each (ToldRight tree tells) holds → Each (ToldRight (with_entry tree f x) tells) holds
told_open tree tells f x holds n =
    each_map (ToldRight tree tells) (ToldRight (with_entry tree f x) tells) holds (λ one.
    told_stays tree tells f x one (λ fd object e o. other_than tree f fd object n o))

-- what is right of more is right of less
pub told_less : (tree : Tree) (was now : Fd → ObjIds → Type 0) (one : Hold) →
    ((fd : Fd) (ids : ObjIds) → one ≡ hold.Fd fd → now fd ids → was fd ids) → ToldRight tree was one →
    ToldRight tree now one
told_less tree was now (hold.Fd fd) w h = λ ids q. h ids (w fd ids refl q)
told_less tree was now one w h = tt

pub ids_less : (tree : Tree) (was now : Fd → ObjIds → Type 0) (ids : ObjIds) (object : Option ℕ) (one : Hold) →
    ((fd : Fd) → one ≡ hold.Fd fd → now fd ids → was fd ids) → IdsRight tree was ids object one →
    IdsRight tree now ids object one
ids_less tree was now ids object (hold.Fd fd) w h = λ q. h (w fd refl q)
ids_less tree was now ids object one w h = tt

pub noted_open : (tree : Tree) (f : ℕ) (x : Option Opened) (noted : Option Fd) (was : Option ℕ)
    (holds after : List Hold) → tree.opened f ≡ None →
    ((fd : ℕ) → total (fd_held fd) holds ≤ total (fd_held fd) after) →
    NotedRight tree noted was holds → NotedRight (with_entry tree f x) noted was after
noted_open tree f x noted was holds after n more h fd e =
    let a = h fd e in
    record {
      held = let b = a.held in let c = more fd.0 in omega (arith, b, c);
      object = a.object;
      open_on = stays_open tree f x fd a.object (other_than tree f fd a.object n a.open_on) a.open_on;
      judged = a.judged;
    }

ids_stay : (tree : Tree) (tells : Fd → ObjIds → Type 0) (f : ℕ) (x : Option Opened) (ids : ObjIds)
    (was : Option ℕ) (one : Hold) →
    ((fd : Fd) (object : ℕ) → fd_held f one ≡ is fd.0 f → IsOpenOn tree fd object → fd.0 ≢ f) →
    IdsRight tree tells ids was one → IdsRight (with_entry tree f x) tells ids was one
ids_stay tree tells f x ids was (hold.Fd fd) e h =
    λ q. let a = h q in (a.0, stays_open tree f x fd a.0 (e fd a.0 refl a.1) a.1, a.2)
ids_stay tree tells f x ids was one e h = tt

pub given_open : (tree : Tree) (tells : Fd → ObjIds → Type 0) (f : ℕ) (x : Option Opened) (noted : Option Given)
    (numbers : ℕ → Option ℕ) (holds : List Hold) → tree.opened f ≡ None → GivenRight tree tells noted numbers holds →
    GivenRight (with_entry tree f x) tells noted numbers holds
given_open tree tells f x noted numbers holds n h given e =
    each_map (IdsRight tree tells given.ids (numbers given.number))
    (IdsRight (with_entry tree f x) tells given.ids (numbers given.number)) holds
    (λ one. ids_stay tree tells f x given.ids (numbers given.number) one
    (λ fd object e o. other_than tree f fd object n o)) (h given e)

-- a descriptor is closed that is neither a row's nor held after
pub rows_closed : (tree : Tree) (past : Past) (f : ℕ) (rows : List Row) → total (row_has f) rows ≡ 0 →
    Each (RowOpen tree past) rows → Each (RowOpen (with_entry tree f None) past) rows
rows_closed tree past f rows z h =
    each_both (RowOpen tree past) (λ r. row_has f r ≡ 0) (RowOpen (with_entry tree f None) past) rows
    (λ r a b. row_stays tree past f None r (is_none (fd_of r.form).0 f b) a) h (none_weighs (row_has f) rows z)

pub handles_closed : (tree : Tree) (past : Past) (f : ℕ) (rows : List HandleRow) → total (handle_has f) rows ≡ 0 →
    Each (HandleOpen tree past) rows → Each (HandleOpen (with_entry tree f None) past) rows
handles_closed tree past f rows z h =
    each_both (HandleOpen tree past) (λ r. handle_has f r ≡ 0) (HandleOpen (with_entry tree f None) past) rows
    (λ r a b. handle_stays tree past f None r (is_none r.fd.0 f b) a) h (none_weighs (handle_has f) rows z)

pub told_closed : (tree : Tree) (tells : Fd → ObjIds → Type 0) (f : ℕ) (holds : List Hold) →
    total (fd_held f) holds ≡ 0 → Each (ToldRight tree tells) holds →
    Each (ToldRight (with_entry tree f None) tells) holds
told_closed tree tells f holds z t =
    each_both (ToldRight tree tells) (λ one. fd_held f one ≡ 0) (ToldRight (with_entry tree f None) tells) holds
    (λ one a b. told_stays tree tells f None one (λ fd object e o. is_none fd.0 f (sym e ∙ b)) a) t
    (none_weighs (fd_held f) holds z)

-- a descriptor that is held is another than one that is not
pub held_apart : (f : ℕ) (fd : Fd) (holds : List Hold) → total (fd_held f) holds ≡ 0 →
    0 < total (fd_held fd.0) holds → fd.0 ≢ f
held_apart f fd holds z h e = let a = ap (λ g. total (fd_held g) holds) e in absurd (omega (arith, a, z, h))

pub noted_closed : (tree : Tree) (f : ℕ) (noted : Option Fd) (was : Option ℕ) (holds : List Hold) →
    total (fd_held f) holds ≡ 0 → NotedRight tree noted was holds →
    NotedRight (with_entry tree f None) noted was holds
noted_closed tree f noted was holds z h fd e =
    let a = h fd e in
    record {
      held = a.held;
      object = a.object;
      open_on = stays_open tree f None fd a.object (held_apart f fd holds z a.held) a.open_on;
      judged = a.judged;
    }

-- what stays noted is another descriptor
pub unless_apart : (f : Fd) (noted : Option Fd) (fd : Fd) → unless f noted ≡ Some fd →
    (noted ≡ Some fd) × (f.0 ≢ fd.0)
unless_apart f None fd e = absurd (cc)
unless_apart f (Some n) fd e = ⊎_elim
    (λ (q : n.0 ≡ f.0). let k = gone f n q in absurd (cc))
    (λ (q : n.0 ≢ f.0). let k = left f n q in let l : Some n ≡ Some fd = sym k ∙ e in
    (l, (λ x. q (ap (λ (z : Option Fd). number f.0 z) l ∙ sym x))))
    (cases_eq n.0 f.0)
  where
    number : ℕ → Option Fd → ℕ
    number k None = k
    number k (Some z) = z.0

    gone : (f n : Fd) → n.0 ≡ f.0 → unless f (Some n) ≡ None
    gone f n q = grind arith

    left : (f n : Fd) → n.0 ≢ f.0 → unless f (Some n) ≡ Some n
    left f n q = grind arith

-- a row that is later the same stays so
pub row_later : (tree : Tree) (past : Past) (row later : Row) → Later row later → RowOpen tree past row →
    RowOpen tree past later
row_later tree past row later l h = record {
  object = h.object;
  shows = rw (l.form, l.ids) h.shows;
  numbered = λ x. ap past.numbers l.number ∙ h.numbered (l.live x);
  placed = ap past.objects l.serial ∙ h.placed;
  kept_by = ap past.fds l.serial ∙ h.kept_by ∙ ap (λ f. Some (fd_of f)) (sym l.form);
}

pub given_closed : (tree : Tree) (tells : Fd → ObjIds → Type 0) (f : ℕ) (noted : Option Given)
    (numbers : ℕ → Option ℕ) (holds : List Hold) → total (fd_held f) holds ≡ 0 →
    GivenRight tree tells noted numbers holds → GivenRight (with_entry tree f None) tells noted numbers holds
given_closed tree tells f noted numbers holds z h given e =
    each_both (IdsRight tree tells given.ids (numbers given.number)) (λ one. fd_held f one ≡ 0)
    (IdsRight (with_entry tree f None) tells given.ids (numbers given.number)) holds
    (λ one a b. ids_stay tree tells f None given.ids (numbers given.number) one
    (λ fd object e o. is_none fd.0 f (sym e ∙ b)) a) (h given e) (none_weighs (fd_held f) holds z)

-- another descriptor that a closing brought stays noted
unless_other : (f : Fd) (noted : Option Fd) (fd : Fd) → fd.0 ≢ f.0 → noted ≡ Some fd → unless f noted ≡ Some fd
unless_other f noted fd a e = ap (unless f) e ∙ left fd a
  where
    left : (n : Fd) → n.0 ≢ f.0 → unless f (Some n) ≡ Some n
    left n q = grind arith

-- of the others no more is told after a closing
ended_less : (notes : Notes) (f : Fd) (one : Hold) → fd_held f.0 one ≡ 0 → (fd : Fd) (ids : ObjIds) →
    one ≡ hold.Fd fd → Tells (ended f notes) fd ids → Tells notes fd ids
ended_less notes f one z fd ids e q = (
  q.0,
  λ b. q.1 (unless_other f notes.brought fd (is_none fd.0 f.0 (sym (ap (fd_held f.0) e) ∙ z)) b),
)

pub told_ended : (tree : Tree) (notes : Notes) (f : Fd) (holds : List Hold) → total (fd_held f.0) holds ≡ 0 →
    Each (ToldRight tree (Tells notes)) holds → Each (ToldRight tree (Tells (ended f notes))) holds
told_ended tree notes f holds z t =
    each_both (ToldRight tree (Tells notes)) (λ one. fd_held f.0 one ≡ 0) (ToldRight tree (Tells (ended f notes)))
    holds (λ one a b. told_less tree (Tells notes) (Tells (ended f notes)) one (ended_less notes f one b) a) t
    (none_weighs (fd_held f.0) holds z)

pub given_ended : (tree : Tree) (notes : Notes) (f : Fd) (noted : Option Given) (numbers : ℕ → Option ℕ)
    (holds : List Hold) → total (fd_held f.0) holds ≡ 0 → GivenRight tree (Tells notes) noted numbers holds →
    GivenRight tree (Tells (ended f notes)) noted numbers holds
given_ended tree notes f noted numbers holds z h given e =
    each_both (IdsRight tree (Tells notes) given.ids (numbers given.number)) (λ one. fd_held f.0 one ≡ 0)
    (IdsRight tree (Tells (ended f notes)) given.ids (numbers given.number)) holds
    (λ one a b. ids_less tree (Tells notes) (Tells (ended f notes)) given.ids (numbers given.number) one
    (λ fd same q. ended_less notes f one b fd given.ids same q) a) (h given e) (none_weighs (fd_held f.0) holds z)

-- nothing is told yet of what was opened, and no more of the others
new_told : (new : Fd) (notes : Notes) (ids : ObjIds) → Tells (newly new notes) new ids → ⊥
new_told new notes ids q = go (new.0 == new.0) (same_number new.0) q.0
  where
    go : (b : Bool) → b ≡ true → (if b then None else told_of notes.told new) ≡ Some ids → ⊥
    go true s e = absurd (cc)
    go false s e = absurd (cc)

newly_less : (new : Fd) (notes : Notes) (fd : Fd) (ids : ObjIds) → Tells (newly new notes) fd ids →
    Tells notes fd ids
newly_less new notes fd ids q = (go (new.0 == fd.0) q.0, q.1)
  where
    go : (b : Bool) → (if b then None else told_of notes.told fd) ≡ Some ids → told_of notes.told fd ≡ Some ids
    go true e = absurd (cc)
    go false e = e

pub told_more : (tree : Tree) (x : Option Opened) (notes : Notes) (new : Fd) {holds after : List Hold} →
    tree.opened new.0 ≡ None → Takes (hold.Fd new) after holds → Each (ToldRight tree (Tells notes)) holds →
    Each (ToldRight (with_entry tree new.0 x) (Tells (newly new notes))) after
told_more tree x notes new {holds = holds} n t h =
    let later = with_entry tree new.0 x in
    each_put (ToldRight later (Tells (newly new notes))) t (λ ids q. absurd (new_told new notes ids q))
    (each_map (ToldRight later (Tells notes)) (ToldRight later (Tells (newly new notes))) holds
    (λ one. told_less later (Tells notes) (Tells (newly new notes)) one (λ fd ids e q.
    newly_less new notes fd ids q)) (told_open tree (Tells notes) new.0 x holds n h))

pub given_more : (tree : Tree) (x : Option Opened) (notes : Notes) (noted : Option Given) (numbers : ℕ → Option ℕ)
    (new : Fd) {holds after : List Hold} → tree.opened new.0 ≡ None → Takes (hold.Fd new) after holds →
    GivenRight tree (Tells notes) noted numbers holds →
    GivenRight (with_entry tree new.0 x) (Tells (newly new notes)) noted numbers after
given_more tree x notes noted numbers new {holds = holds} n t h given e =
    let later = with_entry tree new.0 x in
    let was = numbers given.number in
    each_put (IdsRight later (Tells (newly new notes)) given.ids was) t (λ q.
    absurd (new_told new notes given.ids q))
    (each_map (IdsRight later (Tells notes) given.ids was) (IdsRight later (Tells (newly new notes)) given.ids was)
    holds (λ one. ids_less later (Tells notes) (Tells (newly new notes)) given.ids was one (λ fd e q.
    newly_less new notes fd given.ids q)) (given_open tree (Tells notes) new.0 x noted numbers holds n h given e))

-- what `Stat` tells is right, and so is what was told before
pub stat_right : (tree : Tree) (f : Fd) (object : ℕ) (its : ObjIds) (notes : Notes) (one : Hold) →
    Shows tree f object its → ToldRight tree (Tells notes) one →
    ToldRight tree (Tells (record notes { given = None; told = told_as f (Some its) ∷ notes.told })) one
stat_right tree f object its notes (hold.Fd fd) s h = λ ids q. go ids (f.0 == fd.0) refl q.0 q.1
  where
    go : (ids : ObjIds) (b : Bool) → (f.0 == fd.0) ≡ b →
        (if b then Some its else told_of notes.told fd) ≡ Some ids → (notes.brought ≢ Some fd) →
        (object : ℕ) × Shows tree fd object ids
    go ids true e q r =
        let same : its ≡ ids = cc in
        (object, subst (λ z. Shows tree z object ids) (same_fd f fd e) (subst (λ z. Shows tree f object z) same s))
    go ids false e q r = h ids (q, r)
stat_right tree f object its notes one s h = tt
