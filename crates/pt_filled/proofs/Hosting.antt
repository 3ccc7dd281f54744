-- Proof. Worlds over the tree host: its state in step with tables and what is settled, and which steps leave contents.
use Rattle.std.proofs.Common.{◌≡◌, ◌<◌, ℕ, List, length, Option, Some, None, refl, sym, ap, subst, ◌∙◌, ⊎_elim, ◌≢◌}
use Rattle.std.proofs.lemmas.Bool.{cases_eq}
use Rattle.pt_host.specs.Call.{Call}
use Rattle.pt_host.specs.Contents.{ObjectContents}
use Rattle.pt_host.specs.LawfulContents.{StaysButAccess}
use Rattle.pt_host.specs.Sorts.{EndsFd, sort_of}
use Rattle.pt_host.specs.Tree.{Tree, Object}
use Rattle.pt_host.specs.declared.ids.Fd.{Fd}
use Rattle.pt_host.specs.declared.reply.HostReply.{HostReply}
use Rattle.pt_host.specs.declared.seat.HostSeat.{HostSeat}
use Rattle.pt_host.specs.declared.op.KeptHostOp.TheVariants as call
use Rattle.pt_host.specs.declared.reply.HostReply.TheVariants as host
use Rattle.pt_tables.specs.Tables.{Tables}
use Rattle.pt_frame.specs.Deed.{Deed, Calls, Changes, Step, LacksMemory}
use Rattle.pt_frame.specs.Made.{Made}
use Rattle.pt_frame.specs.declared.act.ActReply.{ActReply}
use Rattle.pt_frame.specs.declared.act.ActReply.TheVariants.{Event, Host, NoCopy}
use Rattle.pt_law.specs.Branch.{ReturnsHold, ReturnsBySort}
use Rattle.pt_law.specs.Story.{Story}
use Rattle.pt_law.specs.Under.{Role, IsMadeAs}
use Rattle.pt_law.specs.World.{made, World, Past, turn_by, Goes}
use Rattle.pt_law.proofs.Lists.{set_at_same, set_at_other}
use Rattle.pt_rules.specs.Beside.{MayTouch, LeavesBeside}
use Rattle.pt_rules.specs.Does.{Does}
use Rattle.pt_rules.specs.State.{State, contents_of, tree_of}
use Rattle.pt_rules.specs.Laws.Lawful.{does_leave_beside}
use Rattle.pt_plain.proofs.Coming.{Law, IsSeats, seat_stays}
use Rattle.pt_plain.proofs.Stilling.{IsStill, still_goes, returns_still}
use Rattle.pt_filled.specs.Contents.{IsSame, with_changed}
use Rattle.pt_filled.proofs.Descriptors.{KeepsFds, fds_call, fds_none, fds_on}

-- the host's state, with all that a world has beside its tree, and the seat of the job that runs
pub record Full : Type 0 where
  pub state : State
  pub tables : Tables
  pub past : Past
  pub story : Story
  pub seat : HostSeat

abbrev pub world_of : Full → World
world_of w = record { tree = tree_of w.state; tables = w.tables; past = w.past; story = w.story }

-- a job: its number, as whom it makes its calls, and the seat with which it begins
pub record Thread : Type 0 where
  pub job : ℕ
  pub role : Role
  pub seat : HostSeat

-- A step over the tree host: it is one of its world, by the host's own rules, and from the right seat.
pub record Steps (j : Thread) (w : Full) (step : Step) (on : Full) : Type 0 where
  pub goes : Goes (world_of w) (turn_by j.job step) (world_of on)
  pub made : Made Does step.deed step.reply w.state w.seat w.tables on.state on.seat on.tables
  pub as_asked : IsMadeAs j.role j.seat w.seat step.deed

abbrev pub contents_at : Full → ℕ → ObjectContents
contents_at w = (contents_of w.state).objects

abbrev pub objects_at : Full → List Object
objects_at w = (tree_of w.state).objects

-- no object was made, and each that there was has become this, times aside
pub record Alters (w on : Full) (are : ℕ → ObjectContents) : Type 0 where
  pub objects : objects_at on ≡ objects_at w
  pub same : (object : ℕ) → object < length (objects_at w) → IsSame (are object) (contents_at on object)

abbrev pub Keeps : Full → Full → Type 0
Keeps w on = Alters w on (contents_at w)

pub same_on : (a b c : ObjectContents) → IsSame a b → IsSame b c → IsSame a c
same_on a b c e f =
    f ∙ ap (λ (x : ObjectContents). record x { atime = c.atime; mtime = c.mtime; ctime = c.ctime }) e

pub keeps_none : (w : Full) → Keeps w w
keeps_none w = record { objects = refl; same = λ object l. refl }

pub within_on : (w on : Full) (object : ℕ) → objects_at on ≡ objects_at w → object < length (objects_at w) →
    object < length (objects_at on)
within_on w on object e l = subst (λ (n : ℕ). object < n) (sym (ap (length {A = Object}) e)) l

-- what comes behind leaves it
pub alters_then : (w mid on : Full) (are : ℕ → ObjectContents) → Alters w mid are → Keeps mid on → Alters w on are
alters_then w mid on are a k = record {
  objects = k.objects ∙ a.objects;
  same = λ object l. same_on (are object) (contents_at mid object) (contents_at on object) (a.same object l)
      (k.same object (within_on w mid object a.objects l));
}

-- a change that looks at no time
abbrev pub Respects : (ObjectContents → ObjectContents) → Type 0
Respects change = (a b : ObjectContents) → IsSame a b → IsSame (change a) (change b)

pub changed_same : (object : ℕ) (change : ObjectContents → ObjectContents) (are been : ℕ → ObjectContents) (other : ℕ) →
    Respects change → IsSame (are object) (been object) → IsSame (are other) (been other) →
    IsSame (with_changed object change are other) (with_changed object change been other)
changed_same object change are been other r here there =
    ⊎_elim
    (λ (q : other ≡ object).
    subst (λ (p : ObjectContents × ObjectContents). IsSame p.0 p.1) (λ i. (
      sym (ap (with_changed object change are) q ∙ set_at_same are object (change (are object))) i,
      sym (ap (with_changed object change been) q ∙ set_at_same been object (change (been object))) i,
    )) (r (are object) (been object) here))
    (λ (q : other ≢ object).
    subst (λ (p : ObjectContents × ObjectContents). IsSame p.0 p.1) (λ i. (
      sym (set_at_other are object (change (are object)) other q) i,
      sym (set_at_other been object (change (been object)) other q) i,
    )) there)
    (cases_eq other object)

-- a change of what it had become
pub alters_on : (w mid on : Full) (are : ℕ → ObjectContents) (object : ℕ) (change : ObjectContents → ObjectContents) →
    object < length (objects_at w) → Respects change → Alters w mid are →
    Alters mid on (with_changed object change (contents_at mid)) → Alters w on (with_changed object change are)
alters_on w mid on are object change within r a b = record {
  objects = b.objects ∙ a.objects;
  same = λ other l. same_on (with_changed object change are other) (with_changed object change (contents_at mid) other)
      (contents_at on other)
      (changed_same object change are (contents_at mid) other r (a.same object within) (a.same other l))
      (b.same other (within_on w mid other a.objects l));
}

-- a step that changes nothing but times of objects
abbrev pub IsUntouching : Deed → ActReply → Type 0
IsUntouching (Calls asked) (Host (host.Ok told)) =
    (tree after : Tree) (object : ℕ) → MayTouch tree asked told after object → ⊥
IsUntouching deed told = Unit {0}

access_same : (a b : ObjectContents) → StaysButAccess a b → IsSame a b
access_same a b e = e ∙ ap (λ (x : ObjectContents). record a { atime = b.atime; mtime = x.mtime; ctime = x.ctime })
    (sym e)

pub left_same : (w on : Full) (asked : Call) (told : HostReply) → IsUntouching (Calls asked) (Host told) →
    LeavesBeside (tree_of w.state) (contents_of w.state) asked told (tree_of on.state) (contents_of on.state) →
    (object : ℕ) → object < length (objects_at w) → IsSame (contents_at w object) (contents_at on object)
left_same w on asked (host.Ok told) u k object l =
    access_same (contents_at w object) (contents_at on object) (k.objects object l
    (u (tree_of w.state) (tree_of on.state) object))
left_same w on asked (host.Refused errno) u k object l =
    ap (λ (x : ObjectContents). record x {
      atime = (contents_at on object).atime;
      mtime = (contents_at on
          object).mtime;
      ctime = (contents_at on object).ctime;
    }) (k.objects object l)
left_same w on asked (host.Fault errno) u k object l =
    ap (λ (x : ObjectContents). record x {
      atime = (contents_at on object).atime;
      mtime = (contents_at on
          object).mtime;
      ctime = (contents_at on object).ctime;
    }) (k.objects object l)
left_same w on asked host.NoMemory u k object l =
    ap (λ (x : ObjectContents). record x {
      atime = (contents_at on object).atime;
      mtime = (contents_at on
          object).mtime;
      ctime = (contents_at on object).ctime;
    }) (k.objects object l)

-- no event changes the host
same_state : (w on : Full) → on.state ≡ w.state → (object : ℕ) → IsSame (contents_at w object) (contents_at on object)
same_state w on e object =
    subst (λ (s : State). IsSame (contents_at w object) ((contents_of s).objects object)) (sym e) refl

pub keeps_state : (w on : Full) → on.state ≡ w.state → Keeps w on
keeps_state w on e = record {
  objects = ap (λ (s : State). (tree_of s).objects) e;
  same = λ object l. same_state w on e object;
}

pub keeps_goes : (j : Thread) (w on : Full) (deed : Deed) (told : ActReply) → IsStill deed told → IsUntouching deed
    told →
    (LacksMemory told → ⊥) → Steps j w (made deed told) on → Keeps w on
keeps_goes j w on deed told s u n g = record {
  objects = ap (λ (t : Tree). t.objects) (still_goes j.job (world_of w) (world_of on) deed told s n g.goes).tree;
  same = go deed told u n g;
}
  where
    go : (deed : Deed) (told : ActReply) → IsUntouching deed told → (LacksMemory told → ⊥) →
        Steps j w (made deed told) on → (object : ℕ) → object < length (objects_at w) →
        IsSame (contents_at w object) (contents_at on object)
    go deed NoCopy u n g = absurd (n refl)
    go (Calls asked) (Event told) u n g = absurd g.made
    go (Changes asked) (Host told) u n g = absurd g.made
    go (Changes asked) (Event told) u n g = λ object l. same_state w on g.made.1 object
    go (Calls asked) (Host told) u n g =
        left_same w on asked told u (does_leave_beside w.state w.seat asked told on.state on.seat g.made.0)

-- what gives back touches nothing
returns_call : (asked : Call) (told : HostReply) → ReturnsBySort (sort_of asked) →
    IsUntouching (Calls asked) (Host told)
returns_call asked (host.Refused errno) r = tt
returns_call asked (host.Fault errno) r = tt
returns_call asked host.NoMemory r = tt
returns_call (call.Close fd) (host.Ok told) r = λ tree after object no. no
returns_call (call.SetGroups list) (host.Ok told) r = λ tree after object no. no
returns_call (call.SetEgid gid) (host.Ok told) r = λ tree after object no. no
returns_call (call.SetEuid uid) (host.Ok told) r = λ tree after object no. no
returns_call (call.RaiseCap caps) (host.Ok told) r = λ tree after object no. no
returns_call (call.DropCap caps) (host.Ok told) r = λ tree after object no. no
returns_call (call.SetUmask mask) (host.Ok told) r = λ tree after object no. no
returns_call asked (host.Ok told) r = absurd r

pub keeps_returns : (j : Thread) (w on : Full) (step : Step) → ReturnsHold step.deed → (LacksMemory step.reply → ⊥) →
    Steps j w step on → Keeps w on
keeps_returns j w on step r n g = record {
  objects = ap (λ (t : Tree). t.objects) (returns_still j.job (world_of w) (world_of on) step r n g.goes).tree;
  same = go step.deed step.reply r n g;
}
  where
    go : (deed : Option Deed) (told : ActReply) → ReturnsHold deed → (LacksMemory told → ⊥) →
        Steps j w (record { deed = deed; reply = told }) on → (object : ℕ) → object < length (objects_at w) →
        IsSame (contents_at w object) (contents_at on object)
    go deed NoCopy r n g = absurd (n refl)
    go None (Event told) r n g = absurd g.made
    go None (Host told) r n g = absurd g.made
    go (Some (Calls asked)) (Event told) r n g = absurd g.made
    go (Some (Changes asked)) (Host told) r n g = absurd g.made
    go (Some (Changes asked)) (Event told) r n g = λ object l. same_state w on g.made.1 object
    go (Some (Calls asked)) (Host told) r n g =
        left_same w on asked told (returns_call asked told r)
        (does_leave_beside w.state w.seat asked told on.state on.seat g.made.0)

-- scopes end: no world shows that, and contents and descriptors stay
pub record Bared (j : Thread) (w on : Full) : Type 0 where
  pub world : world_of on ≡ world_of w
  pub keeps : Keeps w on
  pub fds : KeepsFds w.state on.state

pub bared_none : (j : Thread) (w : Full) → Law (world_of w) → Bared j w w
bared_none j w l = record { world = refl; keeps = keeps_none w; fds = fds_none w.state w.state refl }

seats_still : (asked : Call) (told : HostReply) → IsSeats asked → IsUntouching (Calls asked) (Host told)
seats_still asked (host.Refused errno) r = tt
seats_still asked (host.Fault errno) r = tt
seats_still asked host.NoMemory r = tt
seats_still (call.SetGroups list) (host.Ok told) r = λ tree after object no. no
seats_still (call.SetEgid gid) (host.Ok told) r = λ tree after object no. no
seats_still (call.SetEuid uid) (host.Ok told) r = λ tree after object no. no
seats_still (call.RaiseCap caps) (host.Ok told) r = λ tree after object no. no
seats_still (call.DropCap caps) (host.Ok told) r = λ tree after object no. no
seats_still (call.SetUmask mask) (host.Ok told) r = λ tree after object no. no
seats_still asked (host.Ok told) r = absurd r

seats_close : (asked : Call) → IsSeats asked → (fd : Fd) → sort_of asked ≡ EndsFd fd → ⊥
seats_close (call.SetGroups list) r fd e = cc
seats_close (call.SetEgid gid) r fd e = cc
seats_close (call.SetEuid uid) r fd e = cc
seats_close (call.RaiseCap caps) r fd e = cc
seats_close (call.DropCap caps) r fd e = cc
seats_close (call.SetUmask mask) r fd e = cc
seats_close asked r fd e = absurd r

-- one call on the seat
pub seat_bares : (j : Thread) (w mid : Full) (asked : Call) (told : ActReply) → IsSeats asked →
    (LacksMemory told → ⊥) → Steps j w (made (Calls asked) told) mid → Bared j w mid
seat_bares j w mid asked told s n g =
    let e = seat_stays asked j.job (world_of w) (world_of mid) told s n g.goes in record {
      world = e;
      keeps = record {
        objects = ap (λ (v : World). v.tree.objects) e;
        same = go told n g;
      };
      fds = fds told n g;
    }
  where
    go : (told : ActReply) → (LacksMemory told → ⊥) → Steps j w (made (Calls asked) told) mid →
        (object : ℕ) → object < length (objects_at w) → IsSame (contents_at w object) (contents_at mid object)
    go NoCopy n g = absurd (n refl)
    go (Event told) n g = absurd g.made
    go (Host told) n g =
        left_same w mid asked told (seats_still asked told s)
        (does_leave_beside w.state w.seat asked told mid.state mid.seat g.made.0)

    fds : (told : ActReply) → (LacksMemory told → ⊥) → Steps j w (made (Calls asked) told) mid →
        KeepsFds w.state mid.state
    fds NoCopy n g = absurd (n refl)
    fds (Event told) n g = absurd g.made
    fds (Host told) n g = fds_call w.state w.seat asked told mid.state mid.seat g.made.0 (seats_close asked s)

pub bared_on : (j : Thread) (w mid on : Full) → Bared j w mid → Bared j mid on → Bared j w on
bared_on j w mid on a b = record {
  world = b.world ∙ a.world;
  keeps = alters_then w mid on (contents_at w) a.keeps b.keeps;
  fds = fds_on w.state mid.state on.state a.fds b.fds;
}

pub bared_step : (j : Thread) (w mid on : Full) (asked : Call) (told : ActReply) → IsSeats asked → Law (world_of w) →
    (LacksMemory told → ⊥) → Steps j w (made (Calls asked) told) mid → Bared j mid on → Bared j w on
bared_step j w mid on asked told s l n g r = bared_on j w mid on (seat_bares j w mid asked told s n g) r
