-- Proof. The parts of requests, walked over the tree host.
use Rattle.std.specs.Prelude.{if◌then◌else◌}
use Rattle.std.proofs.Common.{◌≡◌, ◌≢◌, ℕ, zero, suc, List, [], ◌∷◌, Bool, true, false, Option, Some, None, refl, sym}
use Rattle.std.proofs.Common.{ap, subst, ◌∙◌, slice_get}
use Rattle.pt_host.specs.Call.{Call}
use Rattle.pt_host.specs.Errno.{einval}
use Rattle.pt_host.specs.Promises.{FitsCall}
use Rattle.pt_host.specs.Tree.{Object, IsOpenOn}
use Rattle.pt_host.specs.Words.{Each}
use Rattle.pt_host.specs.declared.ids.Errno.{Errno}
use Rattle.pt_host.specs.declared.ids.Fd.{Fd}
use Rattle.pt_host.specs.declared.flags.OpenFlags.{OpenFlags}
use Rattle.pt_host.specs.declared.reply.HostValue.{HostValue}
use Rattle.pt_host.specs.declared.stat.Stat.{Stat}
use Rattle.pt_host.specs.declared.op.KeptHostOp.TheVariants as call
use Rattle.pt_host.specs.declared.reply.HostReply.TheVariants as host
use Rattle.pt_host.specs.declared.reply.HostValue.TheVariants as value
use Rattle.pt_tables.specs.declared.form.RowForm.{RowForm}
use Rattle.pt_tables.specs.declared.form.RowForm.TheVariants.{File}
use Rattle.pt_tables.specs.declared.reply.Resolved.{Resolved}
use Rattle.pt_tables.specs.declared.event.KeptEvent.TheVariants as change
use Rattle.pt_tables.specs.declared.reply.EventReply.TheVariants as event
use Rattle.pt_tables.proofs.Cases.{cases}
use Rattle.pt_iface.specs.declared.answer.Answer.{Answer}
use Rattle.pt_iface.specs.declared.answer.Answer.TheVariants as answer
use Rattle.pt_frame.specs.Deed.{Deed, Calls, Changes, Step}
use Rattle.pt_frame.specs.Replies.{bytes_of, closings_in}
use Rattle.pt_frame.specs.Tree.{RequestTree, Gives, Refuses, Asks, Opens, Bares, Brackets, Shuts, Allocates, on}
use Rattle.pt_frame.specs.Tree.{go_on}
use Rattle.pt_frame.specs.declared.act.ActReply.{ActReply}
use Rattle.pt_frame.specs.declared.act.ActReply.TheVariants.{Event, Host, NoCopy}
use Rattle.pt_req.specs.Entries.{is_bad_name, is_bad_offset}
use Rattle.pt_req.specs.Parts.{file_of, named, placed}
use Rattle.pt_req.specs.Steps.{begin, began_in, resolve, resolved_in, ok_in, stat}
use Rattle.pt_req.specs.Steps.{stat_in, pin_handle, pinned_in, reopen, fd_in}
use Rattle.pt_req.specs.declared.begun.BegunSession.{BegunSession}
use Rattle.pt_attr.specs.Parts.{files_by, two_files}
use Rattle.pt_attr.specs.Steps.{count_of, count_in, do_call}
use Rattle.pt_attr.specs.declared.parts.TwoFiles.{TwoFiles}
use Rattle.pt_law.specs.Branch.{ReturnsHold}
use Rattle.pt_law.specs.World.{made, World, fd_of}
use Rattle.pt_law.proofs.Knowing.{HandleOpen, one_object, RowOpen}
use Rattle.pt_law.proofs.Lists.{each_replaced, each_taken}
use Rattle.pt_rules.specs.State.{State, tree_of}
use Rattle.pt_plain.specs.Plain.{handled_as}
use Rattle.pt_plain.proofs.Coming.{Walks as WorldWalks, IsSeats}
use Rattle.pt_plain.proofs.Found.{pinned_row}
use Rattle.pt_plain.proofs.Showing.{bare_tree, handle_at, handled}
use Rattle.pt_plain.proofs.Stilling.{IsStill, still_goes}
use Rattle.pt_plain.proofs.Walking.{Quiet, quiet_none, quiet_on, quiet_goes, idles_quiet, GivesNone, refusal_is}
use Rattle.pt_plain.proofs.Walking.{some_is, IsResolved as IsResolvedThere, resolved_row}
use Rattle.pt_filled.proofs.Descriptors.{access_in}
use Rattle.pt_filled.proofs.Handling.{EndsNone, KeepsLent, access_by, access_of, accesses_at, lent_goes, lent_none}
use Rattle.pt_filled.proofs.Handling.{lent_returns, lent_same, lent_then}
use Rattle.pt_filled.proofs.Hosting.{Full, Thread, Keeps, Bared, IsUntouching, world_of, keeps_none, keeps_goes}
use Rattle.pt_filled.proofs.Hosting.{keeps_returns, keeps_state, alters_then, contents_at, objects_at, seat_bares}
use Rattle.pt_filled.proofs.Threading.{Walks, Idles, IdlesBy, Makes, Comes}

-- neither what the plain file system sees changed, but that counts may have fallen, nor contents, nor what handles may
-- be used for
pub record Calm (w on : Full) : Type 0 where
  pub quiet : Quiet (world_of w) (world_of on)
  pub keeps : Keeps w on
  pub lent : KeepsLent w on

pub keeps_on : (w mid on : Full) → Keeps w mid → Keeps mid on → Keeps w on
keeps_on w mid on a b = alters_then w mid on (contents_at w) a b

pub calm_none : (w : Full) → Calm w w
calm_none w = record { quiet = quiet_none (world_of w); keeps = keeps_none w; lent = lent_none w }

pub calm_on : (w mid on : Full) → Calm w mid → Calm mid on → Calm w on
calm_on w mid on a b = record {
  quiet = quiet_on (world_of w) (world_of mid) (world_of on) a.quiet b.quiet;
  keeps = keeps_on w mid on a.keeps b.keeps;
  lent = lent_then w mid on a.lent b.lent;
}

pub quiet_makes : (j : Thread) (w on : Full) (deed : Deed) (told : ActReply) → Makes j w deed told on →
    IsStill deed told → GivesNone deed told → Quiet (world_of w) (world_of on)
quiet_makes j w on deed told m s g = quiet_goes j.job (world_of w) (world_of on) deed told (m.0, m.1, m.2.goes) s g

pub calm_goes : (j : Thread) (w on : Full) (deed : Deed) (told : ActReply) → Makes j w deed told on →
    IsStill deed told → IsUntouching deed told → GivesNone deed told → EndsNone deed → Calm w on
calm_goes j w on deed told m s u g e = record {
  quiet = quiet_makes j w on deed told m s g;
  keeps = keeps_goes j w on deed told s u m.1 m.2;
  lent = lent_goes j w on deed told m.0 s e m.1 m.2;
}

pub world_walks : (j : Thread) (steps : List Step) (w on : Full) → Walks j w steps on →
    WorldWalks j.job (world_of w) steps (world_of on)
world_walks j [] w on k = (k.0, ap world_of k.1)
world_walks j (step ∷ steps) w on k = (k.0, k.1, world_of k.2, k.3.goes, world_walks j steps k.2 on k.4)

walks_keep : (j : Thread) (steps : List Step) (w on : Full) → Each (λ (s : Step). ReturnsHold s.deed) steps →
    Walks j w steps on → Keeps w on
walks_keep j [] w on r k = subst (λ (z : Full). Keeps w z) (sym k.1) (keeps_none w)
walks_keep j (step ∷ steps) w on r k =
    keeps_on w k.2 on (keeps_returns j w k.2 step r.0 k.1 k.3) (walks_keep j steps k.2 on r.1 k.4)

pub idles_calm : (j : Thread) (w on : Full) → Idles j w on → Calm w on
idles_calm j w on i = record {
  quiet = idles_quiet j.job (world_of w) (world_of on) (i.0, i.1, world_walks j i.0 w on i.2);
  keeps = walks_keep j i.0 w on i.1 i.2;
  lent = lent_returns j w on i.0 i.1 i.2;
}

pub by_calm : (j : Thread) (count : ℕ) (w on : Full) → IdlesBy j count w on → Calm w on
by_calm j zero w on i = subst (λ (z : Full). Calm w z) (sym i) (calm_none w)
by_calm j (suc count) w on i = idles_calm j w on i

pub bared_calm : (j : Thread) (w on : Full) → Bared j w on → Calm w on
bared_calm j w on b = record {
  quiet = subst (λ (z : World). Quiet (world_of w) z) (sym b.world) (quiet_none (world_of w));
  keeps = b.keeps;
  lent = lent_same w on b.world b.fds;
}

-- ---- what holds of each deed of a tree

-- on each path each deed and its reply are so, and scopes are of the seat alone
abbrev pub Throughout : (Deed → ActReply → Type 0) → RequestTree → Type 0
Throughout P (Gives last) = Unit {0}
Throughout P (Refuses told) = Unit {0}
Throughout P (Asks deed next) = (told : ActReply) → P deed told × Throughout P (next told)
Throughout P (Opens asked scope next) = IsSeats asked × ((told : ActReply) → Throughout P (next told))
Throughout P (Bares rest) = Throughout P rest
Throughout P (Brackets rest) = Throughout P rest
Throughout P (Shuts passes rest) = Throughout P rest
Throughout P (Allocates made next) = Throughout P (next made)

-- a relation of worlds that such deeds keep, and the frame too
pub record Carries (j : Thread) (P : Deed → ActReply → Type 0) (R : Full → Full → Type 0) : Type 0 where
  pub none : (w : Full) → R w w
  pub more : (w mid on : Full) → R w mid → R mid on → R w on
  pub makes : (w on : Full) (deed : Deed) (told : ActReply) → Makes j w deed told on → P deed told → R w on
  pub calm : (w on : Full) → Calm w on → R w on

pub carried : (j : Thread) (P : Deed → ActReply → Type 0) (R : Full → Full → Type 0) → Carries j P R →
    (tree : RequestTree) (w : Full) (last : Answer) (w' : Full) → Throughout P tree → Comes j tree w last w' → R w w'
carried j P R r (Gives given) w last w' t c = r.calm w w' (idles_calm j w w' c.1)
carried j P R r (Refuses told) w last w' t c = r.calm w w' (idles_calm j w w' c.1)
carried j P R r (Asks deed next) w last w' t c =
    r.more w c.1 w' (r.makes w c.1 deed c.0 c.3 (t c.0).0)
    (r.more c.1 c.2 w' (r.calm c.1 c.2 (by_calm j (closings_in deed c.0) c.1 c.2 c.4))
    (carried j P R r (next c.0) c.2 last w' (t c.0).1 c.5))
carried j P R r (Opens asked scope next) w last w' t c =
    r.more w c.1 w' (r.calm w c.1 (bared_calm j w c.1 (seat_bares j w c.1 asked c.0 t.0 c.2.1 c.2.2)))
    (carried j P R r (next c.0) c.1 last w' (t.1 c.0) c.3)
carried j P R r (Bares rest) w last w' t c =
    r.more w c.0 w' (r.calm w c.0 (bared_calm j w c.0 c.1)) (carried j P R r rest c.0 last w' t c.2)
carried j P R r (Brackets rest) w last w' t c = carried j P R r rest w last w' t c
carried j P R r (Shuts passes rest) w last w' t c =
    r.more w c.0 w' (r.calm w c.0 (idles_calm j w c.0 c.1)) (carried j P R r rest c.0 last w' t c.2)
carried j P R r (Allocates made next) w last w' t c = carried j P R r (next made) w last w' t c

-- deeds that leave contents, as each event does
abbrev pub Leaves : Deed → ActReply → Type 0
Leaves (Changes asked) told = Unit {0}
Leaves (Calls asked) told = IsStill (Calls asked) told × IsUntouching (Calls asked) told

pub leaves_keeps : (j : Thread) (w on : Full) (deed : Deed) (told : ActReply) → Makes j w deed told on → Leaves deed
    told →
    Keeps w on
leaves_keeps j w on (Calls asked) told m p = keeps_goes j w on (Calls asked) told p.0 p.1 m.1 m.2
leaves_keeps j w on (Changes asked) (Event told) m p = keeps_state w on m.2.made.1
leaves_keeps j w on (Changes asked) (Host told) m p = absurd m.2.made
leaves_keeps j w on (Changes asked) NoCopy m p = absurd (m.1 refl)

pub carries_keeps : (j : Thread) → Carries j Leaves Keeps
carries_keeps j = record {
  none = keeps_none;
  more = keeps_on;
  makes = leaves_keeps j;
  calm = λ w on c. c.keeps;
}

pub keeps_throughout : (j : Thread) (tree : RequestTree) (w : Full) (last : Answer) (w' : Full) →
    Throughout Leaves tree → Comes j tree w last w' → Keeps w w'
keeps_throughout j tree w last w' t c = carried j Leaves Keeps (carries_keeps j) tree w last w' t c

-- names too
leaves_tree : (j : Thread) (w on : Full) (deed : Deed) (told : ActReply) → Makes j w deed told on → Leaves deed told →
    bare_tree (world_of on).tree ≡ bare_tree (world_of w).tree
leaves_tree j w on (Calls asked) told m p =
    (still_goes j.job (world_of w) (world_of on) (Calls asked) told p.0 m.1 m.2.goes).tree
leaves_tree j w on (Changes asked) (Event told) m p = ap (λ (s : State). bare_tree (tree_of s)) m.2.made.1
leaves_tree j w on (Changes asked) (Host told) m p = absurd m.2.made
leaves_tree j w on (Changes asked) NoCopy m p = absurd (m.1 refl)

abbrev SameNames : Full → Full → Type 0
SameNames w on = bare_tree (world_of on).tree ≡ bare_tree (world_of w).tree

pub tree_throughout : (j : Thread) (tree : RequestTree) (w : Full) (last : Answer) (w' : Full) →
    Throughout Leaves tree → Comes j tree w last w' → bare_tree (world_of w').tree ≡ bare_tree (world_of w).tree
tree_throughout j tree w last w' t c = carried j Leaves SameNames (record {
  none = λ w. refl;
  more = λ w mid on a b. b ∙ a;
  makes = leaves_tree j;
  calm = λ w on c. c.quiet.still.tree;
}) tree w last w' t c

-- ---- the parts

-- a type of its own, from which the tree can be told
pub data At (j : Thread) (tree : RequestTree) (w : Full) (last : Answer) (w' : Full) : Type 0 where
  by : Comes j tree w last w' → At j tree w last w'

pub comes_at : {j : Thread} {tree : RequestTree} {w w' : Full} {last : Answer} → At j tree w last w' →
    Comes j tree w last w'
comes_at (by c) = c

-- it was refused, and left contents
pub record IsRefused (w : Full) (last : Answer) (w' : Full) : Type 0 where
  pub errno : Errno
  pub is : last ≡ answer.Refused errno
  pub keeps : Keeps w w'

pub refused_at : (j : Thread) (w on : Full) (told : ActReply) (last : Answer) (w' : Full) → last ≢ answer.NoMemory →
    Keeps w on → Comes j (Refuses told) on last w' → IsRefused w last w'
refused_at j w on told last w' n q c =
    let r = refusal_is told (λ e. n (c.0 ∙ e)) in
    record { errno = r.0; is = c.0 ∙ r.1; keeps = keeps_on w on w' q (idles_calm j on w' c.1).keeps }

pub refused_with : (j : Thread) (w : Full) (errno : Errno) (last : Answer) (w' : Full) →
    Comes j (Gives (answer.Refused errno)) w last w' → IsRefused w last w'
refused_with j w errno last w' c = record { errno = errno; is = c.0; keeps = (idles_calm j w w' c.1).keeps }

pub refused_from : (w mid : Full) (last : Answer) (w' : Full) → Keeps w mid → IsRefused mid last w' → IsRefused w last
    w'
refused_from w mid last w' q r = record { errno = r.errno; is = r.is; keeps = keeps_on w mid w' q r.keeps }

-- A step whose reply is awaited: any other is a refusal, which is to leave contents.
pub walk_ask : {G V : Type 0} (j : Thread) (deed : Deed) (read : ActReply → Option V) (next : V → RequestTree) (w :
    Full)
    (last : Answer) (w' : Full) → last ≢ answer.NoMemory →
    ((told : ActReply) → read told ≡ None → Leaves deed told) →
    At j (Asks deed (on read next)) w last w' → (IsRefused w last w' → G) →
    ((told : ActReply) (value : V) (mid on : Full) → read told ≡ Some value → Makes j w deed told mid →
    IdlesBy j (closings_in deed told) mid on → At j (next value) on last w' → G) → G
unfolding on go_on
walk_ask {G} {V} j deed read next w last w' n leaves (by c) out goes = go (read c.0) refl c.5
  where
    go : (value : Option V) → read c.0 ≡ value → Comes j (go_on next c.0 value) c.2 last w' → G
    go (Some value) e k = goes c.0 value c.1 c.2 e c.3 c.4 (by k)
    go None e k =
        out (refused_at j w c.2 c.0 last w' n (keeps_on w c.1 c.2 (leaves_keeps j w c.1 deed c.0 c.3 (leaves c.0 e))
        (by_calm j (closings_in deed c.0) c.1 c.2 c.4).keeps) k)

-- a check
pub walk_if : {G : Type 0} (j : Thread) (is_bad : Bool) (errno : Errno) (next : RequestTree) (w : Full) (last : Answer)
    (w' : Full) → At j (if is_bad then Gives (answer.Refused errno) else next) w last w' →
    (IsRefused w last w' → G) → (At j next w last w' → G) → G
walk_if j true errno next w last w' (by c) out goes = out (refused_with j w errno last w' c)
walk_if j false errno next w last w' c out goes = goes c

pub walk_unless : {G : Type 0} (j : Thread) (is_good : Bool) (errno : Errno) (next : RequestTree) (w : Full)
    (last : Answer) (w' : Full) → At j (if is_good then next else Gives (answer.Refused errno)) w last w' →
    (IsRefused w last w' → G) → (is_good ≡ true → At j next w last w' → G) → G
walk_unless j false errno next w last w' (by c) out goes = out (refused_with j w errno last w' c)
walk_unless j true errno next w last w' c out goes = goes refl c

pub walk_named : {G : Type 0} (j : Thread) (name : List ℕ) (next : RequestTree) (w : Full) (last : Answer) (w' : Full) →
    At j (named name next) w last w' → (IsRefused w last w' → G) → (At j next w last w' → G) → G
unfolding named
walk_named j name next w last w' c out goes = walk_if j (is_bad_name name) einval next w last w' c out goes

pub walk_placed : {G : Type 0} (j : Thread) (offset : ℕ) (next : RequestTree) (w : Full) (last : Answer) (w' : Full) →
    At j (placed offset next) w last w' → (IsRefused w last w' → G) → (At j next w last w' → G) → G
unfolding placed
walk_placed j offset next w last w' c out goes = walk_if j (is_bad_offset offset) einval next w last w' c out goes

-- a step by an event that leaves all but counts, which may fall
calm_ask : (j : Thread) (w mid on : Full) (deed : Deed) (told : ActReply) → IsStill deed told → IsUntouching deed told →
    GivesNone deed told → EndsNone deed → Makes j w deed told mid → IdlesBy j (closings_in deed told) mid on → Calm w on
calm_ask j w mid on deed told s u g e m i =
    calm_on w mid on (calm_goes j w mid deed told m s u g e) (by_calm j (closings_in deed told) mid on i)

-- a session goes on as it stands
pub walk_begin : {G : Type 0} (j : Thread) (next : BegunSession → RequestTree) (w : Full) (last : Answer) (w' : Full) →
    last ≢ answer.NoMemory → At j (begin next) w last w' → (IsRefused w last w' → G) →
    ((session : BegunSession) (on : Full) → Calm w on → session.agreed ≡ w.tables.negotiated →
    At j (next session) on last w' → G) → G
walk_begin {G} j next w last w' n c out goes =
    walk_ask j (Changes change.Begin) began_in next w last w' n (λ told e. tt) c out go
  where
    go : (told : ActReply) (session : BegunSession) (mid on : Full) → began_in told ≡ Some session →
        Makes j w (Changes change.Begin) told mid → IdlesBy j (closings_in (Changes change.Begin) told) mid on →
        At j (next session) on last w' → G
    go (Event (event.Began era agreed)) session mid on e m i k =
        let h = cases w.tables mid.tables change.Begin (event.Began era agreed) m.2.goes.made.0 in
        goes session on (calm_ask j w mid on (Changes change.Begin) _ tt tt tt tt m i)
        (sym (ap (λ (s : BegunSession). s.agreed) (some_is e)) ∙ h.1) k
    go told session mid on e m i k = absurd (cc)

-- the number was found, its descriptor is open on its object, and its ids are the object's
pub record IsResolved (j : Thread) (w on : Full) (number : ℕ) (row : Resolved) : Type 0 where
  pub calm : Calm w on
  pub state : on.state ≡ w.state
  pub there : IsResolvedThere j.job (world_of w) (world_of on) number (fd_of row.form)
  pub what : Object
  pub is_what : slice_get (objects_at w) there.object ≡ Some what
  pub ids : what.ids ≡ row.ids

resolved_so : (j : Thread) (w on : Full) (number : ℕ) (row : Resolved) →
    Makes j w (Changes (change.Resolve number)) (Event (event.Resolved row)) on → IsResolved j w on number row
resolved_so j w on number row m =
    let h = cases w.tables on.tables (change.Resolve number) (event.Resolved row) m.2.goes.made.0 in
    let o = each_taken (RowOpen (world_of w).tree w.past) h.6.1 m.0.shown in
    let r = resolved_row j.job (world_of w) (world_of on) number row (m.0, m.1, m.2.goes) in
    let same = one_object (world_of w).tree (fd_of row.form) o.object r.object
    (subst (λ (f : RowForm). IsOpenOn (world_of w).tree (fd_of f) o.object) h.3 o.shows.open_on) r.open_on in record {
      calm = calm_goes j w on (Changes (change.Resolve number)) _ m tt tt tt tt;
      state = m.2.made.1;
      there = r;
      what = o.shows.what;
      is_what = subst (λ (z : ℕ). slice_get (objects_at w) z ≡ Some o.shows.what) same o.shows.is_object;
      ids = o.shows.same_ids ∙ h.4;
    }

pub walk_resolve : {G : Type 0} (j : Thread) (number : ℕ) (next : Resolved → RequestTree) (w : Full) (last : Answer)
    (w' : Full) → last ≢ answer.NoMemory → At j (resolve number next) w last w' → (IsRefused w last w' → G) →
    ((row : Resolved) (on : Full) → IsResolved j w on number row → At j (next row) on last w' → G) → G
walk_resolve {G} j number next w last w' n c out goes =
    walk_ask j (Changes (change.Resolve number)) resolved_in next w last w' n (λ told e. tt) c out go
  where
    go : (told : ActReply) (row : Resolved) (mid on : Full) → resolved_in told ≡ Some row →
        Makes j w (Changes (change.Resolve number)) told mid →
        IdlesBy j (closings_in (Changes (change.Resolve number)) told) mid on → At j (next row) on last w' → G
    go (Event (event.Resolved given)) row mid on e m i k =
        goes row on (subst (λ (r : Resolved). IsResolved j w on number r) (some_is e)
        (subst (λ (z : Full). IsResolved j w z number given) (sym i) (resolved_so j w mid number given m))) k
    go told row mid on e m i k = absurd (cc)

pub walk_file : {G : Type 0} (j : Thread) (form : RowForm) (next : Fd → RequestTree) (w : Full) (last : Answer)
    (w' : Full) → At j (file_of form next) w last w' → (At j (next (fd_of form)) w last w' → G) → G
walk_file j (File fd) next w last w' (by c) goes = goes (by c)

-- the handle was found, and its descriptor is open on its object
pub record IsPinned (w on : Full) (handle number : ℕ) (fd : Fd) : Type 0 where
  pub calm : Calm w on
  pub tree : (world_of on).tree ≡ (world_of w).tree
  pub state : on.state ≡ w.state
  pub object : ℕ
  pub was : handle_at (world_of w) handle ≡ handled_as number object
  pub open_on : IsOpenOn (world_of w).tree fd object
  pub lends : accesses_at w handle ≡ access_in on.state fd

pub walk_pin : {G : Type 0} (j : Thread) (handle number : ℕ) (next : Fd → RequestTree) (w : Full) (last : Answer)
    (w' : Full) → last ≢ answer.NoMemory → At j (pin_handle handle number next) w last w' →
    (IsRefused w last w' → G) →
    ((fd : Fd) (on : Full) → IsPinned w on handle number fd → At j (next fd) on last w' → G) → G
walk_pin {G} j handle number next w last w' n c out goes =
    walk_ask j (Changes (change.PinHandle handle number)) pinned_in next w last w' n (λ told e. tt) c out go
  where
    pinned : (serial : ℕ) (fd : Fd) (mid : Full) →
        Makes j w (Changes (change.PinHandle handle number)) (Event (event.Pinned serial fd)) mid →
        IsPinned w mid handle number fd
    pinned serial fd mid m =
        let h = cases w.tables mid.tables (change.PinHandle handle number) (event.Pinned serial fd) m.2.goes.made.0 in
        let o = each_replaced (HandleOpen (world_of w).tree w.past) h.5.1 m.0.handled in
        let f = pinned_row w.past.objects handle h.5.1 h.1.0 h.1.1 m.0.agree.handles_apart in record {
          calm = calm_goes j w mid (Changes (change.PinHandle handle number)) _ m tt tt tt tt;
          tree = m.2.goes.made.1;
          state = m.2.made.1;
          object = o.object;
          was = f ∙ ap (handled h.0.number) o.placed ∙ ap (λ (x : ℕ). handled_as x o.object) h.1.2;
          open_on = subst (λ (f : Fd). IsOpenOn (world_of w).tree f o.object) h.3 o.open_on;
          lends = ap (access_by w)
              (pinned_row (λ serial. Some serial) handle h.5.1 h.1.0 h.1.1 m.0.agree.handles_apart)
              ∙ ap (access_of w.state) (o.kept_by ∙ ap (λ (f : Fd). Some f) h.3)
              ∙ ap (λ (s : State). access_in s fd) (sym m.2.made.1);
        }

    go : (told : ActReply) (fd : Fd) (mid on : Full) → pinned_in told ≡ Some fd →
        Makes j w (Changes (change.PinHandle handle number)) told mid →
        IdlesBy j (closings_in (Changes (change.PinHandle handle number)) told) mid on → At j (next fd) on last w' → G
    go (Event (event.Pinned serial given)) fd mid on e m i k =
        goes fd on (subst (λ (f : Fd). IsPinned w on handle number f) (some_is e)
        (subst (λ (z : Full). IsPinned w z handle number given) (sym i) (pinned serial given mid m))) k
    go told fd mid on e m i k = absurd (cc)

-- A call that is not Ok leaves contents, whatever it is.
pub not_ok : (asked : Call) (told : ActReply) → IsStill (Calls asked) told → IsUntouching (Calls asked) told →
    Leaves (Calls asked) told
not_ok asked told s u = (s, u)

-- what the call was, where it was Ok, is told to what follows
pub walk_do : {G : Type 0} (j : Thread) (asked : Call) (next : RequestTree) (w : Full) (last : Answer) (w' : Full) →
    last ≢ answer.NoMemory → ((told : ActReply) → ok_in told ≡ None → IsStill (Calls asked) told) →
    At j (do_call asked next) w last w' → (IsRefused w last w' → G) →
    ((told : HostValue) (on : Full) → Makes j w (Calls asked) (Host (host.Ok told)) on → At j next on last w' → G) → G
walk_do {G} j asked next w last w' n s c out goes =
    walk_ask j (Calls asked) ok_in (λ done. next) w last w' n (λ told e. (s told e, untouched told e)) c out go
  where
    untouched : (told : ActReply) → ok_in told ≡ None → IsUntouching (Calls asked) told
    untouched (Host (host.Ok told)) e = absurd (cc)
    untouched (Host (host.Refused errno)) e = tt
    untouched (Host (host.Fault errno)) e = tt
    untouched (Host host.NoMemory) e = tt
    untouched (Event told) e = tt
    untouched NoCopy e = tt

    go : (told : ActReply) (done : Unit {0}) (mid on : Full) → ok_in told ≡ Some done →
        Makes j w (Calls asked) told mid → IdlesBy j (closings_in (Calls asked) told) mid on → At j next on last w' → G
    go (Host (host.Ok told)) done mid on e m i k =
        goes told on (subst (λ (z : Full). Makes j w (Calls asked) (Host (host.Ok told)) z) (sym i) m) k
    go told done mid on e m i k = absurd (cc)

-- the same where a number is awaited, and nothing else fits
pub walk_count : {G : Type 0} (j : Thread) (asked : Call) (next : ℕ → RequestTree) (w : Full) (last : Answer)
    (w' : Full) → last ≢ answer.NoMemory → ((told : ActReply) → IsStill (Calls asked) told) →
    ((told : HostValue) → FitsCall asked told → (count : ℕ) × (told ≡ value.Count count)) →
    At j (count_of asked next) w last w' → (IsRefused w last w' → G) →
    ((count : ℕ) (on : Full) → Makes j w (Calls asked) (Host (host.Ok (value.Count count))) on →
    At j (next count) on last w' → G) → G
unfolding on go_on
walk_count {G} j asked next w last w' n s fits (by c) out goes = go c.0 c.3 c.4 c.5
  where
    refuse : (told : ActReply) → Makes j w (Calls asked) told c.1 → IsUntouching (Calls asked) told → c.2 ≡ c.1 →
        Comes j (Refuses told) c.2 last w' → G
    refuse told m u i k = out (refused_at j w c.1 told last w' n (leaves_keeps j w c.1 (Calls asked) told m (s told, u))
        (subst (λ z. Comes j (Refuses told) z last w') i k))

    counted : (told : HostValue) (f : (count : ℕ) × (told ≡ value.Count count)) →
        Makes j w (Calls asked) (Host (host.Ok told)) c.1 → c.2 ≡ c.1 →
        Comes j (on count_in next (Host (host.Ok told))) c.2 last w' → G
    counted told f m i k =
        goes f.0 c.1 (subst (λ (t : HostValue). Makes j w (Calls asked) (Host (host.Ok t)) c.1) f.1 m)
        (by (subst (λ z. Comes j (next f.0) z last w') i
        (subst (λ (t : HostValue). Comes j (on count_in next (Host (host.Ok t))) c.2 last w') f.1 k)))

    go : (told : ActReply) → Makes j w (Calls asked) told c.1 → c.2 ≡ c.1 →
        Comes j (on count_in next told) c.2 last w' → G
    go (Host (host.Ok told)) m i k = counted told (fits told m.2.goes.made.0.3.allowed) m i k
    go (Host (host.Refused errno)) m i k = refuse (Host (host.Refused errno)) m tt i k
    go (Host (host.Fault errno)) m i k = refuse (Host (host.Fault errno)) m tt i k
    go (Host host.NoMemory) m i k = refuse (Host host.NoMemory) m tt i k
    go (Event told) m i k = refuse (Event told) m tt i k
    go NoCopy m i k = refuse NoCopy m tt i k

-- A call that touches nothing, and of which this is read.
pub walk_read : {G V : Type 0} (j : Thread) (asked : Call) (read : ActReply → Option V) (next : V → RequestTree) (w :
    Full)
    (last : Answer) (w' : Full) → last ≢ answer.NoMemory → ((told : ActReply) → Leaves (Calls asked) told) →
    ((told : ActReply) (value : V) → read told ≡ Some value → (said : HostValue) × (told ≡ Host (host.Ok said))) →
    At j (Asks (Calls asked) (on read next)) w last w' → (IsRefused w last w' → G) →
    ((value : V) (said : HostValue) (on : Full) → read (Host (host.Ok said)) ≡ Some value →
    Makes j w (Calls asked) (Host (host.Ok said)) on → Keeps w on → At j (next value) on last w' → G) → G
walk_read {G} {V} j asked read next w last w' n l ok c out goes =
    walk_ask j (Calls asked) read next w last w' n (λ told e. l told) c out go
  where
    go : (told : ActReply) (value : V) (mid on : Full) → read told ≡ Some value → Makes j w (Calls asked) told mid →
        on ≡ mid → At j (next value) on last w' → G
    go told value mid on e m i k =
        let s = ok told value e in
        let m' = subst (λ (t : ActReply). Makes j w (Calls asked) t mid) s.1 m in
        goes value s.0 mid (ap read (sym s.1) ∙ e) m'
        (leaves_keeps j w mid (Calls asked) (Host (host.Ok s.0)) m' (l (Host (host.Ok s.0))))
        (subst (λ (z : Full). At j (next value) z last w') i k)

-- the call and what it is told touch nothing
pub leaves_read : (asked : Call) → ((told : ActReply) → IsStill (Calls asked) told) →
    ((told : HostValue) → IsUntouching (Calls asked) (Host (host.Ok told))) → (told : ActReply) →
    Leaves (Calls asked) told
leaves_read asked s u (Host (host.Ok told)) = (s (Host (host.Ok told)), u told)
leaves_read asked s u (Host (host.Refused errno)) = (s (Host (host.Refused errno)), tt)
leaves_read asked s u (Host (host.Fault errno)) = (s (Host (host.Fault errno)), tt)
leaves_read asked s u (Host host.NoMemory) = (s (Host host.NoMemory), tt)
leaves_read asked s u (Event told) = (s (Event told), tt)
leaves_read asked s u NoCopy = (s NoCopy, tt)

stat_leaves : (fd : Fd) (told : ActReply) → Leaves (Calls (call.Stat fd)) told
stat_leaves fd = leaves_read (call.Stat fd) still (λ told tree after object no. no)
  where
    still : (told : ActReply) → IsStill (Calls (call.Stat fd)) told
    still (Host told) = tt
    still (Event told) = tt
    still NoCopy = tt

pub walk_stat : {G : Type 0} (j : Thread) (fd : Fd) (next : Stat → RequestTree) (w : Full) (last : Answer) (w' : Full) →
    last ≢ answer.NoMemory → At j (stat fd next) w last w' → (IsRefused w last w' → G) →
    ((told : Stat) (on : Full) → Makes j w (Calls (call.Stat fd)) (Host (host.Ok (value.Stat told))) on →
    At j (next told) on last w' → G) → G
walk_stat {G} j fd next w last w' n c out goes =
    walk_read j (Calls_is) stat_in next w last w' n (stat_leaves fd) ok c out go
  where
    Calls_is : Call
    Calls_is = call.Stat fd

    ok : (told : ActReply) (value : Stat) → stat_in told ≡ Some value → (said : HostValue) × (told ≡ Host (host.Ok
        said))
    ok (Host (host.Ok said)) value e = (said, refl)
    ok told value e = absurd (cc)

    go : (value : Stat) (said : HostValue) (on : Full) → stat_in (Host (host.Ok said)) ≡ Some value →
        Makes j w (Calls (call.Stat fd)) (Host (host.Ok said)) on → Keeps w on → At j (next value) on last w' → G
    go stat (value.Stat told) on e m k c =
        goes stat on (subst (λ (s : Stat). Makes j w (Calls (call.Stat fd)) (Host (host.Ok (value.Stat s))) on)
        (some_is e) m) c
    go stat said on e m k c = absurd (cc)

pub walk_bytes : {G : Type 0} (j : Thread) (asked : Call) (next : List ℕ → RequestTree) (w : Full)
    (last : Answer) (w' : Full) → last ≢ answer.NoMemory → ((told : ActReply) → Leaves (Calls asked) told) →
    At j (Asks (Calls asked) (on bytes_of next)) w last w' → (IsRefused w last w' → G) →
    ((bytes : List ℕ) (on : Full) → Makes j w (Calls asked) (Host (host.Ok (value.Bytes bytes)))
    on → Keeps w on → At j (next bytes) on last w' → G) → G
walk_bytes {G} j asked next w last w' n l c out goes = walk_read j asked bytes_of next w last w' n l ok c out go
  where
    ok : (told : ActReply) (bytes : List ℕ) → bytes_of told ≡ Some bytes →
        (said : HostValue) × (told ≡ Host (host.Ok said))
    ok (Host (host.Ok said)) bytes e = (said, refl)
    ok told bytes e = absurd (cc)

    go : (bytes : List ℕ) (said : HostValue) (on : Full) → bytes_of (Host (host.Ok said)) ≡ Some bytes →
        Makes j w (Calls asked) (Host (host.Ok said)) on → Keeps w on → At j (next bytes) on last w' → G
    go bytes (value.Bytes told) on e m k c =
        goes bytes on (subst (λ (s : List ℕ). Makes j w (Calls asked) (Host (host.Ok (value.Bytes s))) on) (some_is e)
        m) k c
    go bytes said on e m k c = absurd (cc)

-- what is open is opened anew
pub walk_reopen : {G : Type 0} (j : Thread) (fd : Fd) (flags : OpenFlags) (next : Fd → RequestTree) (w : Full)
    (last : Answer) (w' : Full) → last ≢ answer.NoMemory → At j (reopen fd flags next) w last w' →
    (IsRefused w last w' → G) →
    ((new : Fd) (on : Full) → Makes j w (Calls (call.Reopen fd flags)) (Host (host.Ok (value.Fd new))) on →
    At j (next new) on last w' → G) → G
unfolding on go_on
walk_reopen {G} j fd flags next w last w' n (by c) out goes = go c.0 c.3 c.4 c.5
  where
    asked : Deed
    asked = Calls (call.Reopen fd flags)

    refuse : (told : ActReply) → Makes j w asked told c.1 → Leaves asked told → c.2 ≡ c.1 →
        Comes j (Refuses told) c.2 last w' → G
    refuse told m l i k = out (refused_at j w c.1 told last w' n (leaves_keeps j w c.1 asked told m l)
        (subst (λ z. Comes j (Refuses told) z last w') i k))

    go : (told : ActReply) → Makes j w asked told c.1 → c.2 ≡ c.1 → Comes j (on fd_in next told) c.2 last w' → G
    go (Host (host.Ok (value.Fd new))) m i k = goes new c.1 m (by (subst (λ z. Comes j (next new) z last w') i k))
    go (Host (host.Ok told)) m i k = absurd m.2.goes.made.0.3.allowed
    go (Host (host.Refused errno)) m i k = refuse (Host (host.Refused errno)) m (tt, tt) i k
    go (Host (host.Fault errno)) m i k = refuse (Host (host.Fault errno)) m (tt, tt) i k
    go (Host host.NoMemory) m i k = refuse (Host host.NoMemory) m (tt, tt) i k
    go (Event told) m i k = refuse (Event told) m (tt, tt) i k
    go NoCopy m i k = refuse NoCopy m (tt, tt) i k

-- the files of two numbers
pub walk_files : {G : Type 0} (j : Thread) (first second : ℕ) (next : TwoFiles → RequestTree) (w : Full) (last : Answer)
    (w' : Full) → last ≢ answer.NoMemory → At j (files_by first second next) w last w' → (IsRefused w last w' → G) →
    ((from to : Fd) (on : Full) → Calm w on → At j (next (two_files from to)) on last w' → G) → G
unfolding files_by
walk_files j first second next w last w' n c out goes =
    walk_resolve j first _ w last w' n c out (λ one b r k.
    walk_resolve j second _ b last w' n k (λ x. out (refused_from w b last w' r.calm.keeps x)) (λ other d s k.
    walk_file j one.form _ d last w' k (λ k.
    walk_file j other.form _ d last w' k (λ k.
    goes (fd_of one.form) (fd_of other.form) d (calm_on w b d r.calm s.calm) k))))
