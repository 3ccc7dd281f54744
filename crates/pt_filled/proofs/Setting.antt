-- Proof. `setattr`: the attributes one after another.
use Rattle.std.specs.Prelude.{if◌then◌else◌}
use Rattle.std.proofs.Common.{◌≡◌, ◌≢◌, ℕ, List, Bool, true, false, Option, Some, None, refl, sym, ap}
use Rattle.std.proofs.Common.{subst, ◌∙◌, slice_get, ◌%◌}
use Rattle.pt_host.specs.Contents.{ObjectContents}
use Rattle.pt_host.specs.Tree.{Tree, Object, IsOpenOn}
use Rattle.pt_host.specs.Flags.{includes, o_path}
use Rattle.pt_host.specs.Errno.{ebadf, eperm}
use Rattle.pt_host.specs.LawfulTree.{TreeChanges}
use Rattle.pt_host.specs.Call.{Call}
use Rattle.pt_host.specs.Sorts.{EndsFd, sort_of}
use Rattle.pt_host.specs.declared.ids.Fd.{Fd}
use Rattle.pt_host.specs.declared.reply.HostValue.{HostValue}
use Rattle.pt_host.specs.declared.flags.OpenFlags.{OpenFlags}
use Rattle.pt_host.specs.declared.flags.Caps.{Caps}
use Rattle.pt_host.specs.declared.ids.TimeSet.{TimeSet}
use Rattle.pt_host.specs.declared.op.KeptHostOp.TheVariants as call
use Rattle.pt_host.specs.declared.reply.HostReply.TheVariants as host
use Rattle.pt_host.specs.declared.reply.HostValue.TheVariants as value
use Rattle.pt_tables.specs.declared.form.RowForm.{RowForm}
use Rattle.pt_tables.specs.declared.form.RowForm.TheVariants.{File}
use Rattle.pt_tables.specs.declared.reply.Resolved.{Resolved}
use Rattle.pt_iface.specs.declared.answer.Answer.{Answer}
use Rattle.pt_iface.specs.declared.flags.SetattrValid.{SetattrValid}
use Rattle.pt_iface.specs.declared.answer.Answer.TheVariants as answer
use Rattle.pt_frame.specs.Deed.{Calls}
use Rattle.pt_frame.specs.Tree.{Gives, RequestTree, Bares}
use Rattle.pt_frame.specs.declared.act.ActReply.{ActReply}
use Rattle.pt_frame.specs.declared.act.ActReply.TheVariants.{Event, Host, NoCopy}
use Rattle.pt_req.specs.Capability.{capability_cleared, drops_fsetid, without_fsetid}
use Rattle.pt_req.specs.Entries.{can_open}
use Rattle.pt_req.specs.Options.{without_nofollow}
use Rattle.pt_req.specs.Parts.{open_form, open_row, file_of}
use Rattle.pt_req.specs.declared.plan.Plan.{Plan}
use Rattle.pt_attr.specs.Setting.{cut_if, do_if, file_set, opens_anew, own_if, setting_flags}
use Rattle.pt_attr.specs.Steps.{do_call}
use Rattle.pt_law.specs.World.{World, fd_of}
use Rattle.pt_law.specs.Under.{seat_lacking}
use Rattle.pt_law.proofs.Lists.{set_at_same}
use Rattle.pt_law.proofs.Knowing.{one_object}
use Rattle.pt_fit.specs.Asker.{fsetid_if}
use Rattle.pt_rules.specs.Beside.{MayTouch}
use Rattle.pt_rules.specs.ContentCalls.{resized}
use Rattle.pt_plain.proofs.Stilling.{IsStill}
use Rattle.pt_plain.proofs.Walking.{Quiet, quiet_none, quiet_on}
use Rattle.pt_filled.specs.Contents.{IsSame, is_file_kind, keeps_set_id, with_changed, uncapped, uncapped_if, owned_as}
use Rattle.pt_filled.specs.Contents.{refilled}
use Rattle.pt_filled.specs.Accesses.{writes}
use Rattle.pt_filled.proofs.Descriptors.{KeepsFds, access_in, fds_call, fds_none, fds_on}
use Rattle.pt_filled.proofs.Hosting.{Full, Keeps, Thread, contents_at, world_of, Alters, Bared, alters_on}
use Rattle.pt_filled.proofs.Hosting.{alters_then, objects_at}
use Rattle.pt_filled.proofs.Parts.{At, Calm, IsRefused, comes_at, refused_from, bared_calm, calm_on, walk_do}
use Rattle.pt_filled.proofs.Parts.{walk_reopen, walk_unless, calm_goes, quiet_makes, refused_with, walk_file}
use Rattle.pt_filled.proofs.Scopes.{unbare}
use Rattle.pt_filled.proofs.Threading.{Makes, comes_law}
use Rattle.pt_filled.proofs.Using.{was_resizable}
use Rattle.pt_filled.proofs.Writing.{keeps_by, walk_without}
use Rattle.pt_filled.proofs.Clearing.{alters_idle, Cleared, idle_at, walk_clear, within_at}
use Rattle.pt_filled.proofs.Effects.{was_moded, was_owned, was_sized, was_timed}

pub still_mode : (fd : Fd) (through : Bool) (mode : ℕ) (told : ActReply) → IsStill (Calls (call.ChMod fd through
    mode)) told
still_mode fd through mode (Host told) = tt
still_mode fd through mode (Event told) = tt
still_mode fd through mode NoCopy = tt

still_owner : (fd : Fd) (uid gid : ℕ) (told : ActReply) → IsStill (Calls (call.ChOwn fd uid gid)) told
still_owner fd uid gid (Host told) = tt
still_owner fd uid gid (Event told) = tt
still_owner fd uid gid NoCopy = tt

still_size : (fd : Fd) (size : ℕ) (told : ActReply) → IsStill (Calls (call.Truncate fd size)) told
still_size fd size (Host told) = tt
still_size fd size (Event told) = tt
still_size fd size NoCopy = tt

still_times : (fd : Fd) (through : Bool) (atime mtime : TimeSet) (told : ActReply) →
    IsStill (Calls (call.SetTimes fd through atime mtime)) told
still_times fd through atime mtime (Host told) = tt
still_times fd through atime mtime (Event told) = tt
still_times fd through atime mtime NoCopy = tt

pub keeps_idle : (w x : Full) (object : ℕ) → Alters w x (with_changed object (λ was. was) (contents_at w)) → Keeps w x
keeps_idle w x object a = record {
  objects = a.objects;
  same = λ other l. subst (λ (c : ObjectContents). IsSame c (contents_at x other)) (idle_at object (contents_at w)
      other)
      (a.same other l);
}

fds_made : (j : Thread) (x y : Full) (asked : Call) (told : HostValue) →
    Makes j x (Calls asked) (Host (host.Ok told)) y → ((fd : Fd) → sort_of asked ≡ EndsFd fd → ⊥) →
    KeepsFds x.state y.state
fds_made j x y asked told m none = fds_call x.state x.seat asked (host.Ok told) y.state y.seat m.2.made.0 none

-- from one world to a later one, in which what was open is so, and contents are these
pub record Reaches (w x y : Full) (are : ℕ → ObjectContents) : Type 0 where
  pub tree : (world_of y).tree ≡ (world_of x).tree
  pub quiet : Quiet (world_of x) (world_of y)
  pub alters : Alters w y are
  pub fds : KeepsFds x.state y.state

reaches_none : (w x : Full) (are : ℕ → ObjectContents) → Alters w x are → Reaches w x x are
reaches_none w x are a =
    record { tree = refl; quiet = quiet_none (world_of x); alters = a; fds = fds_none x.state x.state refl }

abbrev pub moded_if : Bool → ℕ → ObjectContents → ObjectContents
moded_if b mode was = if b then record was { mode = mode % 4096 } else was

pub walk_mode : {G : Type 0} (b : Bool) (j : Thread) (fd : Fd) (through : Bool) (mode : ℕ) (next : RequestTree)
    (w x : Full) (are : ℕ → ObjectContents) (target : ℕ) (last : Answer) (w' : Full) → last ≢ answer.NoMemory →
    IsOpenOn (world_of x).tree fd target → Alters w x are →
    At j (do_if b (call.ChMod fd through mode) next) x last w' → (IsRefused x last w' → G) →
    ((y : Full) → Reaches w x y (with_changed target (moded_if b mode) are) → At j next y last w' → G) → G
walk_mode false j fd through mode next w x are target last w' n o a c out goes =
    goes x (reaches_none w x (with_changed target (λ was. was) are) (alters_idle w x are target a)) c
walk_mode true j fd through mode next w x are target last w' n o a c out goes =
    walk_do j (call.ChMod fd through mode) next x last w' n (λ told e. still_mode fd through mode told) c out
    (λ told y m cy. goes y (record {
      tree = m.2.goes.made.0.0.trees.changes.1;
      quiet = quiet_makes j x y (Calls (call.ChMod fd through mode)) _ m tt tt;
      alters = alters_on w x y are target (moded_if true mode) (within_at w x are fd target a m.2.made.0.sound o)
          (λ p q e. ap (λ (z : ObjectContents). record (moded_if true mode z) {
            atime = q.atime;
            mtime = q.mtime;
            ctime = q.ctime;
          }) e) a (was_moded j x y fd through mode told target m.2 o);
      fds = fds_made j x y (call.ChMod fd through mode) told m (λ fd e. cc);
    }) cy)

abbrev pub owned_if : Bool → Option ℕ → Option ℕ → ObjectContents → ObjectContents
owned_if b uid gid was = if b then owned_as uid gid was else was

pub walk_owner : {G : Type 0} (b : Bool) (j : Thread) (name : Option (List ℕ)) (fd : Fd) (uid gid : Option ℕ)
    (next : RequestTree) (w x : Full) (are : ℕ → ObjectContents) (object : ℕ) (last : Answer) (w' : Full) →
    last ≢ answer.NoMemory → IsOpenOn (world_of x).tree fd object → Alters w x are →
    At j (own_if b name fd uid gid next) x last w' → (IsRefused x last w' → G) →
    ((y : Full) → Alters w y (with_changed object (uncapped_if b name) are) → IsRefused y last w' → G) →
    ((y : Full) → Reaches w x y (with_changed object (owned_if b uid gid) (with_changed object (uncapped_if b name)
    are)) → At j next y last w' → G) → G
walk_owner false j name fd uid gid next w x are object last w' n o a c out behind goes =
    let idle = alters_idle w x are object a in
    goes x (reaches_none w x (with_changed object (λ was. was) (with_changed object (λ was. was) are))
    (alters_idle w x (with_changed object (λ was. was) are) object idle)) c
walk_owner true j name fd (Some uid) (Some gid) next w x are object last w' n o a c out behind goes =
    walk_clear j name fd true _ w x are object last w' n o a c out (λ y u c.
    let oy = subst (λ (t : Tree). IsOpenOn t fd object) (sym u.tree) o in
    let bare : ℕ → ObjectContents = with_changed object (uncapped name) are in
    walk_do j (call.ChOwn fd uid gid) next y last w' n (λ told e. still_owner fd uid gid told) c
    (λ r. behind y u.alters r)
    (λ told z m cz. goes z (record {
      tree = m.2.goes.made.0.0.trees.changes.1 ∙ u.tree;
      quiet = quiet_on (world_of x) (world_of y) (world_of z) u.quiet
          (quiet_makes j y z (Calls (call.ChOwn fd uid gid)) _ m tt tt);
      alters = alters_on w y z bare object (owned_if true (Some uid) (Some gid))
          (within_at w y bare fd object u.alters m.2.made.0.sound oy)
          (λ p q e. ap (λ (z : ObjectContents). record (owned_if true (Some uid) (Some gid) z) {
            atime = q.atime;
            mtime = q.mtime;
            ctime = q.ctime;
          }) e) u.alters (was_owned j y z fd uid gid told object m.2 oy);
      fds = fds_on x.state y.state z.state u.fds (fds_made j y z (call.ChOwn fd uid gid) told m (λ fd e. cc));
    }) cz))
walk_owner true j name fd (Some uid) None next w x are object last w' n o a c out behind goes =
    out (refused_with j x eperm last w' (comes_at c))
walk_owner true j name fd None gid next w x are object last w' n o a c out behind goes =
    out (refused_with j x eperm last w' (comes_at c))

abbrev pub sized_if : Bool → Bool → Bool → ℕ → ObjectContents → ObjectContents
sized_if b keeps file size was = if b then refilled keeps file (resized size was.bytes) was else was

pub walk_size : {G : Type 0} (b : Bool) (plan : Plan) (kill : Bool) (j : Thread) (name : Option (List ℕ)) (fd : Fd)
    (size : ℕ) (next : RequestTree) (w x : Full) (are : ℕ → ObjectContents) (target : ℕ) (last : Answer) (w' : Full) →
    last ≢ answer.NoMemory →
    j.role.lacks (call.Truncate fd size) ≡ fsetid_if (drops_fsetid plan j.seat kill) →
    IsOpenOn (world_of x).tree fd target → Alters w x are →
    At j (cut_if b (drops_fsetid plan j.seat kill) name fd size next) x last w' → (IsRefused x last w' → G) →
    ((y : Full) → Alters w y (with_changed target (uncapped_if b name) are) → IsRefused y last w' → G) →
    ((y : Full) → Reaches w x y (with_changed target (sized_if b (keeps_set_id plan j.seat kill)
    (is_file_kind (slice_get (objects_at w) target)) size) (with_changed target (uncapped_if b name) are)) →
    (b ≡ true → writes (access_in x.state fd) ≡ true) → At j next y last w' → G) → G
walk_size false plan kill j name fd size next w x are target last w' n lacks o a c out behind goes =
    let idle = alters_idle w x are target a in
    goes x (reaches_none w x (with_changed target (λ was. was) (with_changed target (λ was. was) are))
    (alters_idle w x (with_changed target (λ was. was) are) target idle)) (λ e. absurd (cc)) c
walk_size true plan kill j name fd size next w x are target last w' n lacks o a c out behind goes =
    walk_without j (drops_fsetid plan j.seat kill) clears x last w' n c out (λ d bd cd.
    let od = subst (λ (t : Tree). IsOpenOn t fd target) (sym (ap (λ (v : World). v.tree) bd.world)) o in
    walk_clear j name fd false sizes w d are target last w' n od (alters_then w x d are a bd.keeps) cd
    (λ r. out (refused_from x d last w' bd.keeps r)) (λ v u cv.
    walk_do j (call.Truncate fd size) (Bares next) v last w' n (λ told e. still_size fd size told) cv
    (λ r. behind v u.alters r) (λ told e m ce.
    unbare ce (λ y by' cy. goes y (reached d v e y told bd u m by') (λ e'. may d v e told bd u m) cy))))
    (comes_law j (without_fsetid (drops_fsetid plan j.seat kill) clears) x last w' (comes_at c))
  where
    sizes : RequestTree
    sizes = do_call (call.Truncate fd size) (Bares next)

    clears : RequestTree
    clears = capability_cleared name fd false sizes

    keeps : Bool
    keeps = keeps_set_id plan j.seat kill

    may : (d v e : Full) (told : HostValue) → Bared j x d → Cleared w d v target name are →
        Makes j v (Calls (call.Truncate fd size)) (Host (host.Ok told)) e → writes (access_in x.state fd) ≡ true
    may d v e told bd u m =
        ap writes (sym (fds_on x.state d.state v.state bd.fds u.fds fd o.0 o.1).1) ∙ was_resizable j v e fd told size m.2

    reached : (d v e y : Full) (told : HostValue) → Bared j x d → Cleared w d v target name are →
        Makes j v (Calls (call.Truncate fd size)) (Host (host.Ok told)) e → Bared j e y →
        Reaches w x y (with_changed target (sized_if true keeps (is_file_kind (slice_get (objects_at w) target)) size)
        (with_changed target (uncapped name) are))
    reached d v e y told bd u m by' =
        let od = subst (λ (t : Tree). IsOpenOn t fd target) (sym (ap (λ (v : World). v.tree) bd.world)) o in
        let ov = subst (λ (t : Tree). IsOpenOn t fd target) (sym u.tree) od in
        let by_seat = subst (λ (z : Option Caps). v.seat ≡ seat_lacking z j.seat) lacks m.2.as_asked in
        let was = was_sized j v e fd size told target keeps m.2 ov (keeps_by plan j.seat v.seat kill by_seat) in
        let file = ap (λ (z : List Object). is_file_kind (slice_get z target)) u.alters.objects in
        let so : Alters v e (with_changed target (sized_if true keeps (is_file_kind (slice_get (objects_at w) target))
        size)
        (contents_at v)) =
        subst (λ (f : Bool). Alters v e (with_changed target (sized_if true keeps f size) (contents_at v))) file was in
        let whole = alters_on w v e (with_changed target (uncapped name) are) target
        (sized_if true keeps (is_file_kind (slice_get (objects_at w) target)) size)
        (within_at w v (with_changed target (uncapped name) are) fd target u.alters m.2.made.0.sound ov)
        (λ p q z. ap (λ (c : ObjectContents). record (sized_if true keeps (is_file_kind (slice_get (objects_at w)
        target))
        size c) { atime = q.atime; mtime = q.mtime; ctime = q.ctime }) z) u.alters so in
        record {
          tree = ap (λ (v : World). v.tree) by'.world ∙ m.2.goes.made.0.0.trees.changes.1 ∙ u.tree
              ∙ ap (λ (v : World). v.tree) bd.world;
          quiet = quiet_on (world_of x) (world_of d) (world_of y) (bared_calm j x d bd).quiet
              (quiet_on (world_of d) (world_of v) (world_of y) u.quiet
              (quiet_on (world_of v) (world_of e) (world_of y)
              (quiet_makes j v e (Calls (call.Truncate fd size)) _ m tt tt) (bared_calm j e y by').quiet));
          alters = alters_then w e y _ whole by'.keeps;
          fds = fds_on x.state v.state y.state (fds_on x.state d.state v.state bd.fds u.fds)
              (fds_on v.state e.state y.state (fds_made j v e (call.Truncate fd size) told m (λ fd e. cc)) by'.fds);
        }

pub walk_times : {G : Type 0} (b : Bool) (j : Thread) (fd : Fd) (through : Bool) (atime mtime : TimeSet)
    (next : RequestTree) (w x : Full) (are : ℕ → ObjectContents) (target : ℕ) (last : Answer) (w' : Full) →
    last ≢ answer.NoMemory → IsOpenOn (world_of x).tree fd target → Alters w x are →
    At j (do_if b (call.SetTimes fd through atime mtime) next) x last w' → (IsRefused x last w' → G) →
    ((y : Full) → Reaches w x y are → At j next y last w' → G) → G
walk_times false j fd through atime mtime next w x are target last w' n o a c out goes =
    goes x (reaches_none w x are a) c
walk_times true j fd through atime mtime next w x are target last w' n o a c out goes =
    walk_do j (call.SetTimes fd through atime mtime) next x last w' n (λ told e. still_times fd through atime mtime
    told) c
    out (λ told y m cy. goes y (record {
      tree = m.2.goes.made.0.0.trees.changes.1;
      quiet = quiet_makes j x y (Calls (call.SetTimes fd through atime mtime)) _ m tt tt;
      alters = alters_then w x y are a (keeps_idle x y target (was_timed j x y fd through atime mtime told target m.2
          o));
      fds = fds_made j x y (call.SetTimes fd through atime mtime) told m (λ fd e. cc);
    }) cy)

-- ---- what is opened for a size

pub opened_anew : (j : Thread) (x y : Full) (fd new : Fd) (object : ℕ) (flags : OpenFlags) →
    Makes j x (Calls (call.Reopen fd flags)) (Host (host.Ok (value.Fd new))) y →
    IsOpenOn (world_of x).tree fd object → IsOpenOn (world_of y).tree new object
opened_anew j x y fd new object flags m o = go m.2.goes.made.0.0.trees.changes
  where
    go : TreeChanges (world_of x).tree (call.Reopen fd flags) (host.Ok (value.Fd new)) (world_of y).tree →
        IsOpenOn (world_of y).tree new object
    go c =
        let same = one_object (world_of x).tree fd c.0 object c.1 o in
        subst (λ (t : Tree). IsOpenOn t new object) (sym c.2.adds) (
          record { object = c.0; path_only = includes flags.0 o_path },
          set_at_same (world_of x).tree.opened new.0
              (Some (record { object = c.0; path_only = includes flags.0 o_path })),
          same,
        )

reopen_untouches : (fd new : Fd) (tree after : Tree) (object : ℕ) →
    MayTouch tree (call.Reopen fd (without_nofollow setting_flags)) (value.Fd new) after object → ⊥
reopen_untouches fd new tree after object m = (let x : true ≡ false = sym m.0 in absurd (cc))

-- a file is a number's, or is opened for that
pub walk_file_set : {G : Type 0} (handle : Option ℕ) (valid : SetattrValid) (j : Thread) (row : Resolved)
    (next : Fd → RequestTree) (w x : Full) (object : ℕ) (last : Answer) (w' : Full) → last ≢ answer.NoMemory →
    IsOpenOn (world_of x).tree (fd_of row.form) object → Calm w x → At j (file_set handle valid row next) x last w' →
    (IsRefused w last w' → G) →
    ((file : Fd) (y : Full) → Calm w y → IsOpenOn (world_of y).tree file object → At j (next file) y last w' → G) → G
unfolding file_set open_row
walk_file_set {G} handle valid j row next w x object last w' n o q c out goes = go (opens_anew handle valid) c
  where
    opens : (form : RowForm) → IsOpenOn (world_of x).tree (fd_of form) object →
        At j (open_form form setting_flags next) x last w' → G
    opens (File fd) o c =
        walk_reopen j fd (without_nofollow setting_flags) next x last w' n c (λ r. out (refused_from w x last w'
        q.keeps r))
        (λ new y m cy. goes new y (calm_on w x y q (calm_goes j x y (Calls (call.Reopen fd (without_nofollow
        setting_flags)))
        _ m tt (reopen_untouches fd new) tt (λ fd e. cc))) (opened_anew j x y fd new object (without_nofollow setting_flags) m o) cy)

    go : (anew : Bool) → At j (if anew then (if can_open row.mode then open_form row.form setting_flags next
        else Gives (answer.Refused ebadf)) else file_of row.form next) x last w' → G
    go true c = walk_unless j (can_open row.mode) ebadf (open_form row.form setting_flags next) x last w' c
        (λ r. out (refused_from w x last w' q.keeps r)) (λ can c. opens row.form o c)
    go false c = walk_file j row.form next x last w' c (λ c. goes (fd_of row.form) x q o c)
