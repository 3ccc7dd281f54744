-- Proof. A lookup over the tree host: which object its number stands for, and what is told of it.
use Rattle.std.proofs.Common.{◌≡◌, ◌≢◌, ◌<◌, ℕ, List, true, Option, Some, None, refl, sym, ap, subst, ◌∙◌, slice_get}
use Rattle.std.proofs.Common.{inr, ◌≤◌, arith}
use Rattle.pt_host.specs.Tree.{Tree, Object, IsObject, IsOpenOn}
use Rattle.pt_host.specs.declared.ids.Fd.{Fd}
use Rattle.pt_host.specs.declared.ids.ObjIds.{ObjIds}
use Rattle.pt_host.specs.declared.reply.HostValue.{HostValue}
use Rattle.pt_host.specs.declared.stat.Stat.{Stat}
use Rattle.pt_host.specs.declared.op.KeptHostOp.TheVariants as call
use Rattle.pt_host.specs.declared.reply.HostReply.TheVariants as host
use Rattle.pt_host.specs.declared.reply.HostValue.TheVariants as value
use Rattle.pt_tables.specs.Change.{Change}
use Rattle.pt_tables.specs.declared.form.Negotiated.{Negotiated}
use Rattle.pt_tables.specs.declared.form.RowForm.TheVariants.{File}
use Rattle.pt_tables.specs.declared.reply.Resolved.{Resolved}
use Rattle.pt_tables.specs.declared.event.KeptEvent.TheVariants as change
use Rattle.pt_tables.specs.declared.reply.EventReply.TheVariants as event
use Rattle.pt_tables.proofs.Cases.{cases}
use Rattle.pt_iface.specs.declared.answer.Answer.{Answer}
use Rattle.pt_iface.specs.declared.entry.Entry.{Entry}
use Rattle.pt_iface.specs.declared.answer.Answer.TheVariants as answer
use Rattle.pt_frame.specs.Deed.{Calls, Changes}
use Rattle.pt_frame.specs.Replies.{closings_in}
use Rattle.pt_frame.specs.Tree.{RequestTree, Shuts}
use Rattle.pt_frame.specs.declared.act.ActReply.{ActReply}
use Rattle.pt_frame.specs.declared.act.ActReply.TheVariants.{Event, Host}
use Rattle.pt_req.specs.Entries.{entry_of}
use Rattle.pt_req.specs.Parts.{by_path, look_up, looked_of, numbered, numbered_anew, numbered_as}
use Rattle.pt_req.specs.Steps.{claim_of, claimed_in, draw_node, drawn_in, fd_in, insert, new_row_of, numbered_in}
use Rattle.pt_req.specs.Steps.{stat, taken_in}
use Rattle.pt_req.specs.declared.begun.BegunSession.{BegunSession}
use Rattle.pt_req.specs.declared.parts.looked.Looked.{Looked}
use Rattle.pt_req.specs.declared.plan.Plan.{Plan}
use Rattle.pt_law.specs.World.{fd_of}
use Rattle.pt_law.proofs.Givings.{live_count}
use Rattle.pt_law.proofs.Knowing.{Shows as ShowsFd, one_object}
use Rattle.pt_law.proofs.Lists.{set_at_same}
use Rattle.pt_plain.specs.Plain.{PlainTree}
use Rattle.pt_rules.specs.State.{State, tree_of}
use Rattle.pt_plain.proofs.Entering.{given_object}
use Rattle.pt_plain.proofs.Showing.{bare_tree, Shows}
use Rattle.pt_plain.proofs.Stilling.{still_goes}
use Rattle.pt_plain.proofs.Walking.{opened_name, some_is}
use Rattle.pt_filled.specs.Told.{NamesEntry}
use Rattle.pt_filled.proofs.Descriptors.{LeavesFds, fds_leave, fds_none, fds_on}
use Rattle.pt_filled.proofs.Effects.{StatOk, was_seen}
use Rattle.pt_filled.proofs.Filling.{filled, objects_of, stands_from, stat_then}
use Rattle.pt_filled.proofs.Handling.{fds_goes}
use Rattle.pt_filled.proofs.Hosting.{Full, Keeps, Thread, objects_at, world_of}
use Rattle.pt_filled.proofs.Parts.{At, Calm, IsRefused, IsResolved, keeps_on, leaves_keeps}
use Rattle.pt_filled.proofs.Parts.{refused_from, walk_ask, walk_file, walk_read, walk_resolve, walk_stat}
use Rattle.pt_filled.proofs.Scopes.{after_shut_fds, in_bracket}
use Rattle.pt_filled.proofs.Tails.{named_leaves, stat_leaves}
use Rattle.pt_filled.proofs.Threading.{IdlesBy, Makes}

-- an event that neither tree nor past shows
record IsHidden (w on : Full) : Type 0 where
  keeps : Keeps w on
  state : on.state ≡ w.state
  past : on.past ≡ w.past

hidden_by : (j : Thread) (w mid on : Full) (asked : Change) (told : ActReply) → Makes j w (Changes asked) told mid →
    mid.state ≡ w.state → mid.past ≡ w.past → on ≡ mid → IsHidden w on
hidden_by j w mid on asked told m s p i = subst (λ (z : Full). IsHidden w z) (sym i)
    (record { keeps = leaves_keeps j w mid (Changes asked) told m tt; state = s; past = p })

shows_by : (w on : Full) (fd : Fd) (object : ℕ) (ids : ObjIds) → on.state ≡ w.state →
    ShowsFd (world_of w).tree fd object ids → ShowsFd (world_of on).tree fd object ids
shows_by w on fd object ids e s = subst (λ (z : State). ShowsFd (tree_of z) fd object ids) (sym e) s

shows_on : (w on : Full) (fd : Fd) (object : ℕ) (ids : ObjIds) → (world_of on).tree ≡ (world_of w).tree →
    ShowsFd (world_of w).tree fd object ids → ShowsFd (world_of on).tree fd object ids
shows_on w on fd object ids e s = subst (λ (t : Tree). ShowsFd t fd object ids) (sym e) s

module _ (G : Type 0) (j : Thread) (session : BegunSession) (fd : Fd) (seen : Stat) (next : ℕ → RequestTree)
    (last : Answer) (w' : Full) (object : ℕ) (n : last ≢ answer.NoMemory) where
  -- the number stands for the object of what was opened
  abbrev Goes : Full → Type 0
  Goes w = (number : ℕ) (on : Full) → Keeps w on → on.state ≡ w.state → on.past.numbers number ≡ Some object →
      At j (next number) on last w' → G

  abbrev new_row : ℕ → Change
  new_row fresh = change.Insert (new_row_of session.era fresh (File fd) seen)

  walk_insert : (fresh : ℕ) (w : Full) → ShowsFd (world_of w).tree fd object seen.ids →
      w.past.latest j.job ≡ Some object → At j (insert session fresh (File fd) seen next) w last w' →
      (IsRefused w last w' → G) → Goes w → G
  walk_insert fresh w sh latest c out goes =
      walk_ask j (Changes (new_row fresh)) numbered_in next w last w' n (λ told e. tt) c out inserted
    where
      inserted : (told : ActReply) (number : ℕ) (mid on : Full) → numbered_in told ≡ Some number →
          Makes j w (Changes (new_row fresh)) told mid → IdlesBy j (closings_in (Changes (new_row fresh)) told) mid on →
          At j (next number) on last w' → G
      inserted (Event (event.Inserted given)) number mid on e m i k =
          let is = ap (λ p. p.numbers given) m.2.goes.past ∙ set_at_same w.past.numbers given (w.past.latest j.job)
          ∙ latest in
          goes number on
          (subst (λ (z : Full). Keeps w z) (sym i) (leaves_keeps j w mid (Changes (new_row fresh)) _ m tt))
          (ap (λ (z : Full). z.state) i ∙ m.2.made.1)
          (subst (λ (z : Full). z.past.numbers number ≡ Some object) (sym i)
          (subst (λ (z : ℕ). mid.past.numbers z ≡ Some object) (some_is e) is)) k
      inserted (Event (event.Found given)) number mid on e m i k =
          let h = cases w.tables mid.tables (new_row fresh) (event.Found given) m.2.goes.made.0 in
          let is = ap (λ p. p.numbers given.number) m.2.goes.past ∙ given_object j.job (world_of w) (world_of mid)
          (Changes (new_row fresh)) _ fd object given.number seen.ids (m.0, m.1, m.2.goes) sh h.1 in
          goes number on
          (subst (λ (z : Full). Keeps w z) (sym i) (leaves_keeps j w mid (Changes (new_row fresh)) _ m tt))
          (ap (λ (z : Full). z.state) i ∙ m.2.made.1)
          (subst (λ (z : Full). z.past.numbers number ≡ Some object) (sym i)
          (subst (λ (z : ℕ). mid.past.numbers z ≡ Some object) (some_is e) is)) k
      inserted told number mid on e m i k = absurd (cc)

  walk_anew : (w : Full) → ShowsFd (world_of w).tree fd object seen.ids → w.past.latest j.job ≡ Some object →
      At j (numbered_anew session (File fd) seen next) w last w' → (IsRefused w last w' → G) → Goes w → G
  walk_anew w sh latest c out goes =
      walk_ask j (Changes (change.TakeFd 0)) taken_in _ w last w' n (λ told e. tt) c out taken
    where
      drawn : (a : Full) → IsHidden w a → (told : ActReply) (fresh : ℕ) (mid on : Full) → drawn_in told ≡ Some fresh →
          Makes j a (Changes change.DrawNode) told mid → IdlesBy j (closings_in (Changes change.DrawNode) told) mid on →
          At j (insert session fresh (File fd) seen next) on last w' → G
      drawn a h (Event (event.Drawn number)) fresh mid on e m i k =
          let g = hidden_by j a mid on change.DrawNode _ m m.2.made.1 m.2.goes.past i in
          let kept = keeps_on w a on h.keeps g.keeps in
          walk_insert fresh on (shows_by w on fd object seen.ids (g.state ∙ h.state) sh)
          (ap (λ p. p.latest j.job) (g.past ∙ h.past) ∙ latest) k (λ r. out (refused_from w on last w' kept r))
          (λ number b x s y z. goes number b (keeps_on w on b kept x) (s ∙ g.state ∙ h.state) y z)
      drawn a h told fresh mid on e m i k = absurd (cc)

      taken : (told : ActReply) (done : Unit {0}) (mid on : Full) → taken_in told ≡ Some done →
          Makes j w (Changes (change.TakeFd 0)) told mid → IdlesBy j (closings_in (Changes (change.TakeFd 0)) told)
          mid on →
          At j (draw_node (λ fresh. insert session fresh (File fd) seen next)) on last w' → G
      taken (Event event.Taken) done mid on e m i k =
          let h = hidden_by j w mid on (change.TakeFd 0) _ m m.2.made.1 m.2.goes.past i in
          walk_ask j (Changes change.DrawNode) drawn_in _ on last w' n (λ told e. tt) k
          (λ r. out (refused_from w on last w' h.keeps r)) (drawn on h)
      taken told done mid on e m i k = absurd (cc)

  walk_numbered : (w : Full) → ShowsFd (world_of w).tree fd object seen.ids → w.past.latest j.job ≡ Some object →
      At j (numbered session (File fd) seen next) w last w' → (IsRefused w last w' → G) → Goes w → G
  walk_numbered w sh latest c out goes =
      walk_ask j (Changes asked) claimed_in _ w last w' n (λ told e. tt) c out claimed
    where
      asked : Change
      asked = change.Claim (claim_of session.era None seen.ids)

      claimed : (told : ActReply) (given : Option ℕ) (mid on : Full) → claimed_in told ≡ Some given →
          Makes j w (Changes asked) told mid → IdlesBy j (closings_in (Changes asked) told) mid on →
          At j (numbered_as session (File fd) seen given next) on last w' → G
      claimed (Event (event.Claimed given)) number mid on e m i k =
          let h = cases w.tables mid.tables asked (event.Claimed given) m.2.goes.made.0 in
          let is = ap (λ p. p.numbers given.number) m.2.goes.past ∙ given_object j.job (world_of w) (world_of mid)
          (Changes asked) _ fd object given.number seen.ids (m.0, m.1, m.2.goes) sh h.1 in
          goes given.number on
          (subst (λ (z : Full). Keeps w z) (sym i) (leaves_keeps j w mid (Changes asked) _ m tt))
          (ap (λ (z : Full). z.state) i ∙ m.2.made.1)
          (subst (λ (z : Full). z.past.numbers given.number ≡ Some object) (sym i) is)
          (subst (λ (x : Option ℕ). At j (numbered_as session (File fd) seen x next) on last w') (sym (some_is e)) k)
      claimed (Event event.Absent) given mid on e m i k =
          let h = hidden_by j w mid on asked _ m m.2.made.1 m.2.goes.past i in
          walk_anew on (shows_by w on fd object seen.ids h.state sh) (ap (λ p. p.latest j.job) h.past ∙ latest)
          (subst (λ (x : Option ℕ). At j (numbered_as session (File fd) seen x next) on last w') (sym (some_is e)) k)
          (λ r. out (refused_from w on last w' h.keeps r)) (λ number b x s y z.
          goes number b (keeps_on w on b h.keeps x) (s ∙ h.state) y z)
      claimed told given mid on e m i k = absurd (cc)

-- A name was looked up in the directory of its parent; its object has this number now, and this was told of it.
pub record IsLooked (plan : Plan) (agreed : Negotiated) (w on : Full) (parent : ℕ) (name : List ℕ) (entry : Entry)
    : Type 0 where
  pub keeps : Keeps w on
  pub dir : ℕ
  pub is_dir : w.past.numbers parent ≡ Some dir
  pub live : 0 < live_count parent w.tables
  pub object : ℕ
  pub leads : (world_of w).tree.names dir name ≡ Some object
  pub stands : on.past.numbers entry.inode ≡ Some object
  pub told : Stat
  pub at : Full
  pub fd : Fd
  pub seen : StatOk at fd told object
  pub before : Keeps w at
  pub tree_at : bare_tree (world_of at).tree ≡ bare_tree (world_of w).tree
  pub behind : Keeps at on
  pub parent_is : Object
  pub is_parent : slice_get (objects_at w) dir ≡ Some parent_is
  pub is_entry : entry ≡ entry_of plan agreed parent_is.ids told entry.inode
  pub fds : LeavesFds w.state on.state

pub walk_look_up : {G : Type 0} (j : Thread) (plan : Plan) (session : BegunSession) (parent : ℕ) (name : List ℕ)
    (next : Looked → RequestTree) (w : Full) (last : Answer) (w' : Full) → last ≢ answer.NoMemory →
    At j (look_up plan session parent name next) w last w' → (IsRefused w last w' → G) →
    ((looked : Looked) (told : Stat) (on : Full) (l : IsLooked plan session.agreed w on parent name looked.entry) →
    looked.ids ≡ l.told.ids → At j (next looked) on last w' → G) → G
unfolding look_up
walk_look_up {G} j plan session parent name next w last w' n c out goes =
    walk_resolve j parent _ w last w' n (in_bracket c) out (λ directory a ra ca.
    walk_file j directory.form _ a last w' ca (λ cf.
    walk_read j (call.OpenAt (fd_of directory.form) name by_path 0) fd_in _ a last w' n
    (named_leaves (fd_of directory.form) name) is_fd cf (λ r. out (refused_from w a last w' ra.calm.keeps r))
    (λ fd said b e mb kb cb. opened directory a ra fd said b e mb kb cb)))
  where
    is_fd : (told : ActReply) (fd : Fd) → fd_in told ≡ Some fd → (said : HostValue) × (told ≡ Host (host.Ok said))
    is_fd (Host (host.Ok said)) fd e = (said, refl)
    is_fd told fd e = absurd (cc)

    numbers : Resolved → Stat → ℕ → RequestTree
    numbers directory told number = Shuts true (next (looked_of plan session directory.ids told number))

    sees : Resolved → Fd → RequestTree
    sees directory fd = stat fd (λ told. numbered session (File fd) told (numbers directory told))

    opened : (directory : Resolved) (a : Full) → IsResolved j w a parent directory → (fd : Fd) (said : HostValue)
        (b : Full) → fd_in (Host (host.Ok said)) ≡ Some fd →
        Makes j a (Calls (call.OpenAt (fd_of directory.form) name by_path 0)) (Host (host.Ok said)) b → Keeps a b →
        At j (sees directory fd) b last w' → G
    opened directory a ra fd (value.Fd given) b e mb kb cb =
        let m = subst (λ (f : Fd). Makes j a (Calls (call.OpenAt (fd_of directory.form) name by_path 0))
        (Host (host.Ok (value.Fd f))) b) (some_is e) mb in
        let kab = keeps_on w a b ra.calm.keeps kb in
        walk_stat j fd _ b last w' n cb (λ r. out (refused_from w b last w' kab r)) (λ told d md cd.
        looked directory a b d fd told ra m kab md cd)
      where
        looked : (directory : Resolved) (a b d : Full) (fd : Fd) (told : Stat) → IsResolved j w a parent directory →
            Makes j a (Calls (call.OpenAt (fd_of directory.form) name by_path 0)) (Host (host.Ok (value.Fd fd))) b →
            Keeps w b → Makes j b (Calls (call.Stat fd)) (Host (host.Ok (value.Stat told))) d →
            At j (numbered session (File fd) told (numbers directory told)) d last w' → G
        looked directory a b d fd told ra mb kb md cd =
            let o = opened_name j.job (world_of a) (world_of b) (fd_of directory.form) name fd (mb.0, mb.1, mb.2.goes)
            in
            let s = md.2.goes.made.0.0.trees.changes in
            let same = one_object (world_of b).tree fd s.0 o.object s.2 o.open_on in
            let shows : ShowsFd (world_of b).tree fd o.object told.ids = record {
              open_on = o.open_on;
              what = s.1;
              is_object = subst (λ (z : ℕ). IsObject (world_of b).tree z s.1) same s.3;
              same_ids = sym s.4.ids;
            } in
            let at = one_object (world_of a).tree (fd_of directory.form) o.at ra.there.object o.dir_open
            (subst (λ (t : Tree). IsOpenOn t (fd_of directory.form) ra.there.object) (sym ra.there.tree)
            ra.there.open_on) in
            let kbd = leaves_keeps j b d (Calls (call.Stat fd)) (Host (host.Ok (value.Stat told))) md
            (stat_leaves fd (Host (host.Ok (value.Stat told)))) in
            let kd = keeps_on w b d kb kbd in
            let ok = was_seen j b d fd told o.object md.2 o.open_on in
            walk_numbered G j session fd told (numbers directory told) last w' o.object n d
            (shows_on b d fd o.object told.ids s.5 shows) (ap (λ p. p.latest j.job) md.2.goes.past ∙ o.latest) cd
            (λ r. out (refused_from w d last w' kd r)) (λ number x ke same_state is ce.
            after_shut_fds ce (λ f idle had cf.
            goes (looked_of plan session directory.ids told number) told f (record {
              keeps = keeps_on w d f kd (keeps_on d x f ke idle.keeps);
              dir = ra.there.object;
              is_dir = ra.there.is_object;
              live = ra.there.live;
              object = o.object;
              leads = ap (λ (t : Tree). t.names ra.there.object name) (sym ra.there.tree)
                  ∙ ap (λ z. (world_of a).tree.names z name) (sym at) ∙ o.leads;
              stands = ap (λ f. f number) idle.quiet.still.past ∙ is;
              told = told;
              at = b;
              fd = fd;
              seen = ok;
              before = kb;
              tree_at = (still_goes j.job (world_of a) (world_of b) (Calls (call.OpenAt (fd_of directory.form) name
                  by_path 0)) (Host (host.Ok (value.Fd fd))) (inr refl) mb.1 mb.2.goes).tree
                  ∙ ap bare_tree ra.there.tree;
              behind = keeps_on b d f kbd (keeps_on d x f ke idle.keeps);
              parent_is = ra.what;
              is_parent = ra.is_what;
              is_entry = ap (λ (ids : ObjIds). entry_of plan session.agreed ids told number) (sym ra.ids);
              fds = fds_leave w.state x.state f.state (fds_on w.state b.state x.state
                  (fds_on w.state a.state b.state (fds_none w.state a.state ra.state) (fds_goes j a b
                  (Calls (call.OpenAt (fd_of directory.form) name by_path 0)) _ (λ fd e. cc) mb.1 mb.2))
                  (fds_on b.state d.state x.state (fds_goes j b d (Calls (call.Stat fd)) _ (λ fd e. cc) md.1 md.2)
                  (fds_none d.state x.state same_state))) had;
            }) refl cf))
    opened directory a ra fd said b e mb kb cb = absurd (cc)

-- The entry is of what the name has at the end, and tells what is there. The lookup began in the second world, where
-- numbers are those of the first, and counts may have fallen.
pub record IsToldSo (plan : Plan) (w : Full) (agreed : Negotiated) (parent : ℕ) (name : List ℕ) (entry : Entry)
    (w' : Full) : Type 0 where
  pub e : Full
  pub calm : Calm w e
  pub g : Full
  pub on : Full
  pub numbers : g.past.numbers ≡ e.past.numbers
  pub falls : (n : ℕ) → live_count n g.tables ≤ live_count n e.tables
  pub looked : IsLooked plan agreed g on parent name entry
  pub tree : bare_tree (world_of w').tree ≡ bare_tree (world_of g).tree
  pub later : Keeps on w'

pub told_entry : (plan : Plan) (w w' : Full) (state after : PlainTree) (agreed : Negotiated) (parent : ℕ)
    (name : List ℕ) (entry : Entry) → Shows (world_of w) state → Shows (world_of w') after → after.agreed ≡ agreed →
    IsToldSo plan w agreed parent name entry w' → NamesEntry plan (filled state w) parent name entry (filled after w')
told_entry plan w w' state after agreed parent name entry s s' a t =
    let l = t.looked in (
      l.dir,
      stands_from w t.e state parent l.dir s t.calm.quiet (ap (λ f. f parent) (sym t.numbers) ∙ l.is_dir)
          (let a = t.falls parent in let b = l.live in omega (arith, a, b)),
      (
        l.object,
        ap (λ (z : Tree). z.names l.dir name) (s'.tree ∙ t.tree) ∙ l.leads,
        (
          l.told,
          stat_then l.at w' after l.fd l.object l.told s' (keeps_on l.at t.on w' l.behind t.later)
              (t.tree ∙ sym l.tree_at) l.seen,
          l.parent_is,
          ap (λ (o : List Object). slice_get o l.dir) (objects_of w' after s' ∙ ap (λ (z : Tree). z.objects) t.tree)
              ∙ l.is_parent,
          l.is_entry ∙ ap (λ (x : Negotiated). entry_of plan x l.parent_is.ids l.told entry.inode) (sym a),
        ),
      ),
    )
