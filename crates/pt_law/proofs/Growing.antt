-- What a call does to a tree by its sort: one that opens and closes nothing leaves open descriptors and all objects
-- that there were.
use Rattle.std.proofs.Common.{◌≡◌, ◌⊎◌, inl, inr, ℕ, zero, suc, List, [], ◌∷◌, ◌++◌, refl, sym, ap, subst, ◌∙◌}
use Rattle.std.proofs.Common.{Option}
use Rattle.std.proofs.Common.{Some, slice_get, length}
use Rattle.pt_host.specs.Words.{Each}
use Rattle.pt_host.specs.Tree.{Tree, Object, IsObject, IsOpenOn}
use Rattle.pt_host.specs.Call.{Call}
use Rattle.pt_host.specs.LawfulTree.{TreeChanges, Opens, OpensFound, OpensMade, closed_at}
use Rattle.pt_host.specs.Names.{TakesName, MakesObject, NameMoves, LinksName, ExchangesNames, Renames}
use Rattle.pt_host.specs.Edits.{Edits}
use Rattle.pt_host.specs.Sorts.{Sort, OpensWith, EndsFd, OfSeat, Plain, sort_of}
use Rattle.pt_host.specs.declared.flags.OpenFlags.{OpenFlags}
use Rattle.pt_host.specs.declared.op.KeptHostOp.TheVariants as call
use Rattle.pt_host.specs.declared.reply.HostReply.{HostReply}
use Rattle.pt_host.specs.declared.reply.HostReply.TheVariants as host
use Rattle.pt_host.specs.declared.reply.HostValue.TheVariants as value
use Rattle.pt_host.specs.declared.edit.Edit.{Edit}
use Rattle.pt_host.specs.declared.edit.Edit.TheVariants as edit
use Rattle.pt_host.specs.declared.ids.Fd.{Fd}
use Rattle.pt_host.specs.declared.ids.ObjIds.{ObjIds}
use Rattle.pt_tables.specs.declared.row.Row.{Row}
use Rattle.pt_tables.specs.declared.row.HandleRow.{HandleRow}
use Rattle.pt_law.specs.World.{fd_of}
use Rattle.pt_frame.specs.declared.hold.Hold.{Hold}
use Rattle.pt_frame.specs.declared.hold.Hold.TheVariants as hold
use Rattle.pt_law.specs.Discipline.{Job, Given}
use Rattle.pt_law.specs.World.{Past}
use Rattle.pt_law.proofs.Lists.{each_map}
use Rattle.pt_law.proofs.Knowing.{Shows, RowOpen, HandleOpen, Tells, ToldRight, NotedRight, IdsRight, GivenRight}
use Rattle.pt_law.proofs.Knowing.{Knowing}

pub record Grows (tree after : Tree) : Type 0 where
  pub same_open : after.opened ≡ tree.opened
  pub stays : (object : ℕ) (what : Object) → IsObject tree object what → IsObject after object what

-- what stands in a list stands at the same place of a longer one
stays_within : (objects more : List Object) (k : ℕ) (what : Object) → slice_get objects k ≡ Some what →
    slice_get (objects ++ more) k ≡ Some what
stays_within [] more k what e = absurd (cc)
stays_within (x ∷ objects) more zero what e = e
stays_within (x ∷ objects) more (suc k) what e = stays_within objects more k what e

grows_same : (tree after : Tree) → after ≡ tree → Grows tree after
grows_same tree after e =
    subst (λ (t : Tree). Grows tree t) (sym e) (record { same_open = refl; stays = λ object what is. is })

takes_name : (tree : Tree) (dir : ℕ) (name : List ℕ) (after : Tree) → TakesName tree dir name after → Grows tree after
takes_name tree dir name after h =
    subst (λ (t : Tree). Grows tree t) (sym h.takes) (record { same_open = refl; stays = λ object what is. is })

pub makes_object : (tree : Tree) (dir : ℕ) (name : List ℕ) (after : Tree) → MakesObject tree dir name after →
    Grows tree after
makes_object tree dir name after h =
    subst (λ (t : Tree).
    Grows tree t) (sym h.makes) (record {
      same_open = refl;
      stays =
          λ object what is. stays_within tree.objects (h.what ∷ []) object what is;
    })

moves_name : (tree : Tree) (dir : ℕ) (name : List ℕ) (to : ℕ) (new : List ℕ) (object : ℕ) (after : Tree) →
    NameMoves tree dir name to new object after → Grows tree after
moves_name tree dir name to new object after (inl m) = grows_same tree after m.1
moves_name tree dir name to new object after (inr m) =
    subst (λ (t : Tree). Grows tree t) (sym m.1) (record { same_open = refl; stays = λ object what is. is })

pub edit_grows : (tree : Tree) (asked : Edit) (after : Tree) → Edits tree asked after → Grows tree after
edit_grows tree (edit.Unlink path) after h = takes_name tree h.0 h.1 after h.2
edit_grows tree (edit.Rename old new) after h =
    moves_name tree h.0 h.1 h.2.0 h.2.1 h.2.2.object after h.2.2.moves
edit_grows tree (edit.File path mode uid gid bytes) after h = makes_object tree h.0 h.1 after h.2
edit_grows tree (edit.Dir path mode uid gid) after h = makes_object tree h.0 h.1 after h.2
edit_grows tree (edit.Write path bytes) after h = grows_same tree after h

-- what a call does by its sort

links_name : (tree : Tree) (object dir : ℕ) (name : List ℕ) (after : Tree) → LinksName tree object dir name after →
    Grows tree after
links_name tree object dir name after h =
    subst (λ (t : Tree). Grows tree t) (sym h.links) (record { same_open = refl; stays = λ object what is. is })

exchanges : (tree : Tree) (dir : ℕ) (name : List ℕ) (to : ℕ) (new : List ℕ) (after : Tree) →
    ExchangesNames tree dir name to new after → Grows tree after
exchanges tree dir name to new after h =
    subst (λ (t : Tree). Grows tree t) (sym h.exchanges) (record { same_open = refl; stays = λ object what is. is })

renames : (tree : Tree) (dir : ℕ) (name : List ℕ) (to : ℕ) (new : List ℕ) (flags : ℕ) (after : Tree) →
    Renames tree dir name to new flags after → Grows tree after
renames tree dir name to new flags after (inl h) = moves_name tree dir name to new h.1.object after h.1.moves
renames tree dir name to new flags after (inr (inl h)) = moves_name tree dir name to new h.2.object after h.2.moves
renames tree dir name to new flags after (inr (inr h)) = exchanges tree dir name to new after h.1

-- it opens and closes nothing
abbrev pub IsQuiet : Sort → HostReply → Type 0
IsQuiet (OpensWith flags) (host.Ok (value.Fd fd)) = ⊥
IsQuiet (OpensWith flags) told = Unit {0}
IsQuiet (EndsFd fd) told = ⊥
IsQuiet OfSeat told = Unit {0}
IsQuiet Plain told = Unit {0}

pub call_grows : (tree : Tree) (a : Call) (r : HostReply) (after : Tree) → TreeChanges tree a r after →
    IsQuiet (sort_of a) r → Grows tree after
call_grows tree (call.Close fd) r after l q = absurd q
call_grows tree (call.OpenRoot path flags) (host.Ok (value.Fd new)) after l q = absurd q
call_grows tree (call.OpenPath fd path flags) (host.Ok (value.Fd new)) after l q = absurd q
call_grows tree (call.OpenAt fd name flags mode) (host.Ok (value.Fd new)) after l q = absurd q
call_grows tree (call.Reopen fd flags) (host.Ok (value.Fd new)) after l q = absurd q
call_grows tree (call.OpenByHandle fd handle flags) (host.Ok (value.Fd new)) after l q = absurd q
call_grows tree (call.Stat fd) (host.Ok (value.Stat stat)) after l q = grows_same tree after l.5
call_grows tree (call.HandleOf fd) (host.Ok (value.Handle handle)) after l q = grows_same tree after l.6
call_grows tree (call.MakeDir fd name mode) (host.Ok value.Unit) after l q = makes_object tree l.0 name after l.2
call_grows tree (call.MakeNode fd name mode rdev) (host.Ok value.Unit) after l q =
    makes_object tree l.0 name after l.2
call_grows tree (call.SymLink fd name target) (host.Ok value.Unit) after l q = makes_object tree l.0 name after l.2
call_grows tree (call.MakeLink from fd name) (host.Ok value.Unit) after l q =
    links_name tree l.0 l.2.0 name after l.2.2
call_grows tree (call.Unlink fd name) (host.Ok value.Unit) after l q = takes_name tree l.0 name after l.2
call_grows tree (call.RemoveDir fd name) (host.Ok value.Unit) after l q = takes_name tree l.0 name after l.2
call_grows tree (call.Rename fd name fd2 name2 flags) (host.Ok value.Unit) after l q =
    renames tree l.0 name l.2.0 name2 flags after l.2.2
call_grows tree (call.Edit edit) (host.Ok value.Unit) after l q = edit_grows tree edit after l
call_grows tree a (host.Ok told) after l q = grows_same tree after l.1
call_grows tree a (host.Refused e) after l q = grows_same tree after l.1
call_grows tree a told after l q = grows_same tree after l

-- an opening opens an object that is there, or that it made
abbrev pub OpensSome : Tree → OpenFlags → Fd → Tree → Type 0
OpensSome tree flags fd after =
    (made : Tree) × (object : ℕ) × (made.opened ≡ tree.opened) × Opens made object flags fd after

there : (tree : Tree) (object : ℕ) (same flags : OpenFlags) (fd : Fd) (after : Tree) →
    OpensWith same ≡ OpensWith flags → Opens tree object same fd after → OpensSome tree flags fd after
there tree object same flags fd after e o =
    let k : same ≡ flags = cc in
    subst (λ f. OpensSome tree f fd after) k (tree, object, refl, o)

found_or_made : (tree : Tree) (dir : Fd) (name : List ℕ) (same flags : OpenFlags) (fd : Fd) (after : Tree) →
    OpensWith same ≡ OpensWith flags →
    OpensFound tree dir name same fd after ⊎ OpensMade tree dir name same fd after → OpensSome tree flags fd after
found_or_made tree dir name same flags fd after e (inl f) = there tree f.0 same flags fd after e f.3
found_or_made tree dir name same flags fd after e (inr m) =
    let k : same ≡ flags = cc in
    let g = makes_object tree m.2.0 name m.0 m.2.2 in
    subst (λ f. OpensSome tree f fd after) k (m.0, length tree.objects, g.same_open, m.3)

pub opening_does : (tree : Tree) (a : Call) (flags : OpenFlags) (fd : Fd) (after : Tree) →
    sort_of a ≡ OpensWith flags → TreeChanges tree a (host.Ok (value.Fd fd)) after → OpensSome tree flags fd after
opening_does tree (call.OpenRoot path same) flags fd after e l = there tree l.0 same flags fd after e l.1
opening_does tree (call.OpenPath dir path same) flags fd after e l = there tree l.0 same flags fd after e l.1
opening_does tree (call.OpenAt dir name same mode) flags fd after e l =
    found_or_made tree dir name same flags fd after e l
opening_does tree (call.Reopen dir same) flags fd after e l = there tree l.0 same flags fd after e l.2
opening_does tree (call.OpenByHandle dir handle same) flags fd after e l = there tree l.0 same flags fd after e l.2
opening_does tree a flags fd after e l = absurd (cc)

pub closing_does : (tree : Tree) (a : Call) (fd : Fd) (r : HostReply) (after : Tree) → sort_of a ≡ EndsFd fd →
    TreeChanges tree a r after → after ≡ closed_at tree fd
closing_does tree (call.Close same) fd r after e l =
    let k : same ≡ fd = cc in subst (λ f. after ≡ closed_at tree f) k l
closing_does tree a fd r after e l = absurd (cc)

open_on : {tree after : Tree} → Grows tree after → (fd : Fd) (object : ℕ) → IsOpenOn tree fd object →
    IsOpenOn after fd object
open_on g fd object h = (h.0, ap (λ o. o fd.0) g.same_open ∙ h.1, h.2)

shown_on : {tree after : Tree} → Grows tree after → (fd : Fd) (object : ℕ) (ids : ObjIds) → Shows tree fd object ids →
    Shows after fd object ids
shown_on g fd object ids h =
    record {
      open_on = open_on g fd object h.open_on;
      what = h.what;
      is_object = g.stays object h.what h.is_object;
      same_ids = h.same_ids;
    }

pub rows_on : {tree after : Tree} → Grows tree after → (past : Past) (rows : List Row) →
    Each (RowOpen tree past) rows → Each (RowOpen after past) rows
rows_on {tree = tree} {after = after} g past rows = each_map (RowOpen tree past) (RowOpen after past) rows
    (λ r h. record {
      object = h.object;
      shows = shown_on g (fd_of r.form) h.object r.ids h.shows;
      numbered = h.numbered;
      placed = h.placed;
      kept_by = h.kept_by;
    })

pub handles_on : {tree after : Tree} → Grows tree after → (past : Past) (rows : List HandleRow) →
    Each (HandleOpen tree past) rows → Each (HandleOpen after past) rows
handles_on {tree = tree} {after = after} g past rows = each_map (HandleOpen tree past) (HandleOpen after past) rows
    (λ r h. record {
      object = h.object;
      open_on = open_on g r.fd h.object h.open_on;
      placed = h.placed;
      kept_by = h.kept_by;
    })

told_on : {tree after : Tree} → Grows tree after → (tells : Fd → ObjIds → Type 0) (one : Hold) →
    ToldRight tree tells one → ToldRight after tells one
told_on g tells (hold.Fd fd) h = λ ids q. let a = h ids q in (a.0, shown_on g fd a.0 ids a.1)
told_on g tells one h = tt

noted_on : {tree after : Tree} → Grows tree after → (noted : Option Fd) (was : Option ℕ) (holds : List Hold) →
    NotedRight tree noted was holds → NotedRight after noted was holds
noted_on g noted was holds h fd e = let a = h fd e in
    record { held = a.held; object = a.object; open_on = open_on g fd a.object a.open_on; judged = a.judged }

ids_on : {tree after : Tree} → Grows tree after → (tells : Fd → ObjIds → Type 0) (ids : ObjIds) (was : Option ℕ)
    (one : Hold) → IdsRight tree tells ids was one → IdsRight after tells ids was one
ids_on g tells ids was (hold.Fd fd) h = λ q. let a = h q in (a.0, open_on g fd a.0 a.1, a.2)
ids_on g tells ids was one h = tt

given_on : {tree after : Tree} → Grows tree after → (tells : Fd → ObjIds → Type 0) (noted : Option Given)
    (numbers : ℕ → Option ℕ) (holds : List Hold) → GivenRight tree tells noted numbers holds →
    GivenRight after tells noted numbers holds
given_on {tree = tree} {after = after} g tells noted numbers holds h given e =
    each_map (IdsRight tree tells given.ids (numbers given.number))
    (IdsRight after tells given.ids (numbers given.number)) holds
    (ids_on g tells given.ids (numbers given.number)) (h given e)

pub knows_on : {tree after : Tree} → Grows tree after → (next : ℕ) (past : Past) (j : ℕ) (job : Job) →
    Knowing tree next past j job → Knowing after next past j job
knows_on {tree = tree} {after = after} g next past j job k = record {
  told = each_map (ToldRight tree (Tells job.notes)) (ToldRight after (Tells job.notes)) job.holds
      (told_on g (Tells job.notes)) k.told;
  pins = k.pins;
  latest = noted_on g job.notes.latest (past.latest j) job.holds k.latest;
  root = noted_on g job.notes.root (past.roots j) job.holds k.root;
  unrooted = k.unrooted;
  resolved = k.resolved;
  reopened = λ was u. noted_on g job.notes.reopened (past.resolved j was.number) job.holds (k.reopened was u);
  given = given_on g (Tells job.notes) job.notes.given (past.resolved j) job.holds k.given;
}
