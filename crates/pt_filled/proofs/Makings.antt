-- Proof. A directory, a node or a symbolic link is made, and looked up.
use Rattle.std.specs.Prelude.{◌⊎◌}
use Rattle.std.specs.List.{list_any}
use Rattle.std.proofs.Common.{inl, inr, [], ◌∷◌, ◌≡◌, ◌≢◌, ℕ, List, Bool, true, false, Option, Some, None, refl, ap}
use Rattle.std.proofs.Common.{sym, subst, ◌∙◌, length, arith}
use Rattle.pt_host.specs.Call.{Call}
use Rattle.pt_host.specs.Contents.{ObjectContents}
use Rattle.pt_host.specs.Errno.{einval, eperm}
use Rattle.pt_host.specs.LawfulTree.{TreeChanges}
use Rattle.pt_host.specs.Names.{MakesObject}
use Rattle.pt_host.specs.Tree.{Tree, Object, IsOpenOn, OfFd}
use Rattle.pt_host.specs.declared.ids.Errno.{Errno}
use Rattle.pt_host.specs.declared.ids.Fd.{Fd}
use Rattle.pt_host.specs.declared.reply.HostValue.{HostValue}
use Rattle.pt_host.specs.declared.reply.HostReply.{HostReply}
use Rattle.pt_host.specs.declared.op.KeptHostOp.TheVariants as call
use Rattle.pt_host.specs.declared.reply.HostReply.TheVariants as host
use Rattle.pt_host.specs.declared.reply.HostValue.TheVariants as value
use Rattle.pt_creds.specs.Identity.{Credentials, override_cap}
use Rattle.pt_creds.specs.Steps.{cred_steps}
use Rattle.pt_tables.specs.declared.form.Negotiated.{Negotiated}
use Rattle.pt_tables.specs.declared.reply.Resolved.{Resolved}
use Rattle.pt_iface.specs.declared.answer.Answer.{Answer}
use Rattle.pt_iface.specs.declared.entry.Entry.{Entry}
use Rattle.pt_iface.specs.declared.request.SecContext.{SecContext}
use Rattle.pt_iface.specs.declared.answer.Answer.TheVariants as answer
use Rattle.pt_frame.specs.Deed.{Deed, Calls}
use Rattle.pt_frame.specs.Tree.{Gives, RequestTree, go_on, on, Refuses}
use Rattle.pt_frame.specs.declared.act.ActReply.{ActReply}
use Rattle.pt_frame.specs.declared.act.ActReply.TheVariants.{Event, Host, NoCopy}
use Rattle.pt_frame.specs.declared.hold.Hold.{Hold}
use Rattle.pt_frame.specs.declared.hold.Hold.TheVariants as hold
use Rattle.pt_req.specs.Steps.{begin, ok_in, open_scope}
use Rattle.pt_req.specs.Parts.{look_up, file_of}
use Rattle.pt_req.specs.Asker.{as_asker, asker_of, cap_raised, egid_set, euid_set, group_set, umask_of, under_umask}
use Rattle.pt_req.specs.Attributes.{Label}
use Rattle.pt_req.specs.declared.begun.BegunSession.{BegunSession}
use Rattle.pt_req.specs.declared.plan.Plan.{Plan}
use Rattle.pt_req.specs.declared.parts.looked.Looked.{Looked}
use Rattle.pt_attr.specs.Making.{ObjectAsked, is_nul, labelled_at, make_object, targeted}
use Rattle.pt_attr.specs.Steps.{make}
use Rattle.pt_law.specs.World.{World, fd_of}
use Rattle.pt_law.specs.Under.{Identity, identity_of}
use Rattle.pt_law.proofs.Givings.{live_count}
use Rattle.pt_law.proofs.Knowing.{one_object}
use Rattle.pt_plain.proofs.Coming.{Law, IsSeats}
use Rattle.pt_plain.proofs.Showing.{bare_tree}
use Rattle.pt_plain.proofs.Making.{checked, make_named, making_call, undoing_call, What}
use Rattle.pt_plain.proofs.Stilling.{IsStillCall, NotOk}
use Rattle.pt_filled.proofs.Hosting.{Full, Keeps, Thread, world_of, Bared, bared_none, bared_on, objects_at}
use Rattle.pt_filled.proofs.Labelling.{IsLabelOf, IsLeftBare, IsMadeWhole, IsUndoing, Labelled, led_new, left_bare}
use Rattle.pt_filled.proofs.Labelling.{walk_label, walk_labelled_at}
use Rattle.pt_filled.proofs.Parts.{At, Calm, IsRefused, comes_at, idles_calm, keeps_on, leaves_keeps, refused_from}
use Rattle.pt_filled.proofs.Parts.{walk_begin, bared_calm, calm_on, walk_named, At.{by}, refused_at}
use Rattle.pt_filled.proofs.Parts.{refused_with, walk_if, walk_resolve, walk_file, IsResolved}
use Rattle.pt_filled.proofs.Scopes.{walk_scope, walk_try}
use Rattle.pt_filled.proofs.Threading.{Comes, Makes, comes_law}
use Rattle.pt_filled.proofs.Looking.{IsLooked, IsToldSo, walk_look_up}
use Rattle.pt_filled.proofs.Entries.{looked_tree}
use Rattle.pt_filled.proofs.News.{HasMade, made_from, made_then, new_contents, new_kind, was_made}

-- the seat of whoever asks is seen in no world
module _ {G : Type 0} (j : Thread) (w : Full) (last : Answer) (w' : Full) (n : last ≢ answer.NoMemory)
    (out : IsRefused w last w' → G) where
  seat_on : (d e : Full) → Bared j w d → Bared j d e → Bared j w e
  seat_on d e a b = bared_on j w d e a b

  walk_seat : (asked : Call) (scope : Hold) (next : RequestTree) (d : Full) → IsSeats asked → Bared j w d →
      At j (open_scope asked scope next) d last w' → ((e : Full) → Bared j w e → At j next e last w' → G) → G
  walk_seat asked scope next d i b c goes =
      walk_scope j asked scope next d last w' i n c (λ r. out (refused_from w d last w' b.keeps r)) (λ e x k.
      goes e (seat_on d e b x) k)

  walk_group : (group : Option ℕ) (next : RequestTree) (d : Full) → Bared j w d → At j (group_set group next) d last
      w' →
      ((e : Full) → Bared j w e → At j next e last w' → G) → G
  walk_group None next d b c goes = goes d b c
  walk_group (Some group) next d b c goes = walk_seat (call.SetGroups (group ∷ [])) hold.Groups next d tt b c goes

  walk_egid : (id : Option ℕ) (next : RequestTree) (d : Full) → Bared j w d → At j (egid_set id next) d last w' →
      ((e : Full) → Bared j w e → At j next e last w' → G) → G
  walk_egid None next d b c goes = goes d b c
  walk_egid (Some id) next d b c goes = walk_seat (call.SetEgid id) hold.EffectiveGid next d tt b c goes

  walk_euid : (id : Option ℕ) (next : RequestTree) (d : Full) → Bared j w d → At j (euid_set id next) d last w' →
      ((e : Full) → Bared j w e → At j next e last w' → G) → G
  walk_euid None next d b c goes = goes d b c
  walk_euid (Some id) next d b c goes = walk_seat (call.SetEuid id) hold.EffectiveUid next d tt b c goes

  walk_raised : (raises : Bool) (next : RequestTree) (d : Full) → Bared j w d → At j (cap_raised raises next) d last
      w' →
      ((e : Full) → Bared j w e → At j next e last w' → G) → G
  walk_raised false next d b c goes = goes d b c
  walk_raised true next d b c goes =
      walk_try j (call.RaiseCap override_cap) next d last w' tt n c (λ r. out (refused_from w d last w' b.keeps r))
      (λ e x k. goes e (seat_on d e b x) k)

  walk_umask : (umask : Option ℕ) (next : RequestTree) (d : Full) → Bared j w d →
      At j (under_umask umask next) d last w' → ((e : Full) → Bared j w e → At j next e last w' → G) → G
  walk_umask None next d b c goes = goes d b c
  walk_umask (Some mask) next d b c goes = walk_seat (call.SetUmask mask) hold.Umask next d tt b c goes

  -- whoever asks is taken on
  pub walk_asker : (asker : Option Credentials) (umask : Option ℕ) (next : RequestTree) → Law (world_of w) →
      At j (as_asker j.seat asker (under_umask umask next)) w last w' →
      ((e : Full) → Bared j w e → At j next e last w' → G) → G
  walk_asker None umask next l c goes = out (refused_with j w eperm last w' (comes_at c))
  walk_asker (Some creds) umask next l c goes =
      let steps = cred_steps creds j.seat in
      walk_group steps.groups _ w (bared_none j w l) c (λ d b k.
      walk_egid steps.egid _ d b k (λ e b k.
      walk_euid steps.euid _ e b k (λ f b k.
      walk_raised steps.raise _ f b k (λ h b k.
      walk_umask umask next h b k goes))))

pub walk_checked : {G : Type 0} (j : Thread) (what : What) (next : RequestTree) (w : Full) (last : Answer) (w' : Full) →
    At j (checked what next) w last w' → (IsRefused w last w' → G) → (At j next w last w' → G) → G
unfolding targeted
walk_checked j (What.Directory mode) next w last w' c out goes = goes c
walk_checked j (What.Node mode rdev) next w last w' c out goes = goes c
walk_checked j (What.Link target) next w last w' c out goes =
    walk_if j (list_any is_nul target) einval next w last w' c out goes

not_ok_still : (what : What) (dir : Fd) (name : List ℕ) (told : HostReply) → NotOk told →
    IsStillCall (making_call what dir name) told
not_ok_still (What.Directory mode) dir name told o = o
not_ok_still (What.Node mode rdev) dir name told o = o
not_ok_still (What.Link target) dir name told o = o

-- an object is made, and scopes end
walk_make : {G : Type 0} (j : Thread) (what : What) (dir : Fd) (name : List ℕ) (next : RequestTree) (w : Full)
    (last : Answer) (w' : Full) → last ≢ answer.NoMemory → At j (make (making_call what dir name) next) w last w' →
    (IsRefused w last w' → G) → ((told : HostValue) (mid on : Full) →
    Makes j w (Calls (making_call what dir name)) (Host (host.Ok told)) mid → Bared j mid on → At j next on last w' →
    G) →
    G
unfolding on go_on
walk_make {G} j what dir name next w last w' n (by c) out goes = go c.0 c.3 c.4 c.5
  where
    asked : Deed
    asked = Calls (making_call what dir name)

    refuse : (told : ActReply) → Makes j w asked told c.1 → Keeps w c.1 → c.2 ≡ c.1 → (on : Full) → Bared j c.2 on →
        Comes j (Refuses told) on last w' → G
    refuse told m q i on b k = out (refused_at j w on told last w' n
        (keeps_on w c.1 on q (subst (λ (z : Full). Keeps z on) i b.keeps)) k)

    go : (told : ActReply) → Makes j w asked told c.1 → c.2 ≡ c.1 →
        ((mid : Full) × Bared j c.2 mid × Comes j (on ok_in (λ done. next) told) mid last w') → G
    go (Host (host.Ok told)) m i k =
        goes told c.1 k.0 m (subst (λ (z : Full). Bared j z k.0) i k.1) (by k.2)
    go (Host (host.Refused errno)) m i k =
        refuse (Host (host.Refused errno)) m
        (leaves_keeps j w c.1 asked _ m (not_ok_still what dir name (host.Refused errno) tt, tt)) i k.0 k.1 k.2
    go (Host (host.Fault errno)) m i k =
        refuse (Host (host.Fault errno)) m
        (leaves_keeps j w c.1 asked _ m (not_ok_still what dir name (host.Fault errno) tt, tt)) i k.0 k.1 k.2
    go (Host host.NoMemory) m i k = absurd (m.1 refl)
    go (Event told) m i k = absurd m.2.made
    go NoCopy m i k = absurd (m.1 refl)

-- a making settles no number
pub making_keeps : (what : What) (dir : Fd) (name : List ℕ) (j : Thread) (w mid : Full) (told : HostValue) →
    Makes j w (Calls (making_call what dir name)) (Host (host.Ok told)) mid →
    (mid.past.numbers ≡ w.past.numbers) × (mid.tables ≡ w.tables)
making_keeps (What.Directory mode) dir name j w mid told m = (ap (λ p. p.numbers) m.2.goes.past, m.2.goes.made.1)
making_keeps (What.Node mode rdev) dir name j w mid told m = (ap (λ p. p.numbers) m.2.goes.past, m.2.goes.made.1)
making_keeps (What.Link target) dir name j w mid told m = (ap (λ p. p.numbers) m.2.goes.past, m.2.goes.made.1)

making_seat : (what : What) (dir : Fd) (name : List ℕ) (j : Thread) (w mid : Full) (told : HostValue) →
    Makes j w (Calls (making_call what dir name)) (Host (host.Ok told)) mid → j.role.asker ≡ Some (identity_of w.seat)
making_seat (What.Directory mode) dir name j w mid told m = m.2.as_asked
making_seat (What.Node mode rdev) dir name j w mid told m = m.2.as_asked
making_seat (What.Link target) dir name j w mid told m = m.2.as_asked

is_undoing : (what : What) (dir : Fd) (name : List ℕ) → IsUndoing (undoing_call what dir name)
is_undoing (What.Directory mode) dir name = tt
is_undoing (What.Node mode rdev) dir name = tt
is_undoing (What.Link target) dir name = tt

-- the object was made in some directory
abbrev MakesIn : Tree → Fd → List ℕ → Tree → Type 0
MakesIn tree dir name after = OfFd tree dir (λ at. MakesObject tree at name after)

making_names : (what : What) (dir : Fd) (name : List ℕ) (told : HostValue) (tree after : Tree) →
    TreeChanges tree (making_call what dir name) (host.Ok told) after → MakesIn tree dir name after
making_names (What.Directory mode) dir name value.Unit tree after c = c
making_names (What.Node mode rdev) dir name value.Unit tree after c = c
making_names (What.Link target) dir name value.Unit tree after c = c
making_names (What.Directory mode) dir name told tree after c = absurd c.0
making_names (What.Node mode rdev) dir name told tree after c = absurd c.0
making_names (What.Link target) dir name told tree after c = absurd c.0

-- the directory is open there still, and the name leads to what was made
record IsPlaced (w h : Full) (dir : Fd) (at : ℕ) (name : List ℕ) : Type 0 where
  open_on : IsOpenOn (world_of h).tree dir at
  leads : (world_of h).tree.names at name ≡ Some (length (objects_at w))

placed : (w e f h : Full) (dir : Fd) (at : ℕ) (name : List ℕ) → objects_at e ≡ objects_at w →
    IsOpenOn (world_of e).tree dir at → MakesIn (world_of e).tree dir name (world_of f).tree →
    world_of h ≡ world_of f → IsPlaced w h dir at name
placed w e f h dir at name same o m b = record {
  open_on = subst (λ (v : World). IsOpenOn v.tree dir at) (sym b)
      (subst (λ (t : Tree). IsOpenOn t dir at) (sym m.2.makes) o);
  leads = ap (λ (v : World). v.tree.names at name) b
      ∙ ap (λ (d : ℕ). (world_of f).tree.names d name) (one_object (world_of e).tree dir at m.0 o m.1)
      ∙ led_new (world_of e).tree (world_of f).tree m.0 name m.2
      ∙ ap (λ (l : List Object). Some (length l)) same;
}

-- it was refused, or answered with such an entry
abbrev pub EndsSo : (Entry → Type 0) → Answer → Type 0
EndsSo P last = ((errno : Errno) × (last ≡ answer.Refused errno)) ⊎ ((entry : Entry) × (last ≡ answer.Entry entry) × P
    entry)

-- What a making leaves of contents, however it ends.
abbrev pub MakesSo :
    Thread → Plan → Negotiated → Option SecContext → ℕ → List ℕ → What → Full → Answer → Full → Type 0
MakesSo j plan agreed brought parent name what w last w' =
    IsRefused w last w'
    ⊎ ((by_whom : Identity) × (j.role.asker ≡ Some by_whom)
    × (IsLeftBare brought w last w' (new_kind what) (new_contents by_whom what)
    ⊎ (IsMadeWhole plan agreed brought w w' (new_kind what) (new_contents by_whom what) parent name
    × EndsSo (λ entry. IsToldSo plan w agreed parent name entry w') last)))

pub makes_so : (plan : Plan) (asked : ObjectAsked) (what : What) (j : Thread) (w : Full) (last : Answer) (w' : Full) →
    last ≢ answer.NoMemory → Law (world_of w) →
    At j (begin (make_named plan j.seat asked what)) w last w' →
    MakesSo j plan w.tables.negotiated asked.ext.secctx asked.parent asked.name what w last w'
unfolding make_object
makes_so plan asked what j w last w' n l c =
    walk_begin j _ w last w' n c out (λ session b q z k.
    walk_named j asked.name _ b last w' k (λ r. out (refused_from w b last w' q.keeps r)) (λ k.
    walk_checked j what _ b last w' k (λ r. out (refused_from w b last w' q.keeps r)) (λ k.
    walk_resolve j asked.parent _ b last w' n k (λ r. out (refused_from w b last w' q.keeps r)) (λ directory d rd k.
    let qd = calm_on w b d q rd.calm in
    walk_label j plan session.agreed asked.ext.secctx (λ label. file_of directory.form (in_dir session label)) d last
    w' k (λ label il k.
    walk_file j directory.form (in_dir session label) d last w' k (λ k.
    walk_asker j d last w' n (λ r. out (refused_from w d last w' qd.keeps r))
    (asker_of plan session asked.who asked.ext.sup_gid) (umask_of session asked.umask)
    (makes session label (fd_of directory.form))
    (comes_law j (in_dir session label (fd_of directory.form)) d last w' (comes_at k)) k (λ e x k.
    let qe = calm_on w d e qd (bared_calm j d e x) in
    walk_make j what (fd_of directory.form) asked.name _ e last w' n k
    (λ r. out (refused_from w e last w' qe.keeps r)) (λ told f h m y k.
    made_behind session label directory b d e f h told
    (subst (λ (a : Negotiated). IsLabelOf plan a asked.ext.secctx label) z il) rd q x qe z m y k))))))))
  where
    brought : Option SecContext
    brought = asked.ext.secctx

    Goal : Type 0
    Goal = MakesSo j plan w.tables.negotiated brought asked.parent asked.name what w last w'

    out : IsRefused w last w' → Goal
    out r = inl r

    entry : Looked → RequestTree
    entry looked = Gives (answer.Entry looked.entry)

    looks : BegunSession → RequestTree
    looks session = look_up plan session asked.parent asked.name entry

    makes : BegunSession → Option Label → Fd → RequestTree
    makes session label dir =
        make (making_call what dir asked.name) (labelled_at dir asked.name (undoing_call what dir asked.name) label
        (looks session))

    in_dir : BegunSession → Option Label → Fd → RequestTree
    in_dir session label dir =
        as_asker j.seat (asker_of plan session asked.who asked.ext.sup_gid)
        (under_umask (umask_of session asked.umask) (makes session label dir))

    made_behind : (session : BegunSession) (label : Option Label) (directory : Resolved) (b d e f h : Full)
        (told : HostValue) → IsLabelOf plan w.tables.negotiated brought label →
        IsResolved j b d asked.parent directory → Calm w b → Bared j d e → Calm w e →
        session.agreed ≡ w.tables.negotiated →
        Makes j e (Calls (making_call what (fd_of directory.form) asked.name)) (Host (host.Ok told)) f → Bared j f h →
        At j (labelled_at (fd_of directory.form) asked.name (undoing_call what (fd_of directory.form) asked.name) label
        (looks session)) h last w' → Goal
    made_behind session label directory b d e f h told il rd q x qe z m y c =
        walk_labelled_at Goal plan w.tables.negotiated j w h (new_kind what) is there last w' n dir rd.there.object
        asked.name (undoing_call what dir asked.name) brought label il (is_undoing what dir asked.name) (looks session)
        place.open_on place.leads c
        (λ r b. inr (who_is, asker, inl (left_bare brought w h last w' (new_kind what) is there b r)))
        looked_behind
      where
        dir : Fd
        dir = fd_of directory.form

        who_is : Identity
        who_is = identity_of e.seat

        asker : j.role.asker ≡ Some who_is
        asker = making_seat what dir asked.name j e f told m

        is : ObjectContents
        is = new_contents who_is what

        there : HasMade w h (new_kind what) is
        there = made_then w f h (new_kind what) is
            (made_from w e f (new_kind what) is qe.keeps (was_made j e f what dir asked.name told m.2)) y.keeps

        dir_open : IsOpenOn (world_of e).tree dir rd.there.object
        dir_open = subst (λ (t : Tree). IsOpenOn t dir rd.there.object)
            (sym (ap (λ (v : World). v.tree) x.world ∙ rd.there.tree)) rd.there.open_on

        place : IsPlaced w h dir rd.there.object asked.name
        place = placed w e f h dir rd.there.object asked.name qe.keeps.objects dir_open
            (making_names what dir asked.name told (world_of e).tree (world_of f).tree
            m.2.goes.made.0.0.trees.changes) y.world

        made_end : (g : Full) → Labelled plan w.tables.negotiated brought w h g (new_kind what) is → Keeps g w' →
            bare_tree (world_of w').tree ≡ bare_tree (world_of g).tree →
            EndsSo (λ entry. IsToldSo plan w w.tables.negotiated asked.parent asked.name entry w') last → Goal
        made_end g made kept tree end = inr (
          who_is,
          asker,
          inr (
            record {
              is = made.is;
              in_context = made.in_context;
              made = made_then w g w' (new_kind what) made.is made.made kept;
              named = record {
                e = b;
                calm = q;
                dir = rd.there.object;
                is_dir = rd.there.is_object;
                live = rd.there.live;
                leads = ap (λ (t : Tree). t.names rd.there.object asked.name) (tree ∙ made.quiet.still.tree)
                    ∙ place.leads;
              };
            },
            end,
          ),
        )

        told_end : (g : Full) → Labelled plan w.tables.negotiated brought w h g (new_kind what) is → (looked : Looked)
            (on : Full) → IsLooked plan session.agreed g on asked.parent asked.name looked.entry →
            Comes j (entry looked) on last w' → bare_tree (world_of w').tree ≡ bare_tree (world_of g).tree → Goal
        told_end g made looked on l k tree =
            let later = (idles_calm j on w' k.1).keeps in
            let kept = making_keeps what dir asked.name j e f told m in
            made_end g made (keeps_on g on w' l.keeps later) tree (inr (
              looked.entry,
              k.0,
              record {
                e = e;
                calm = qe;
                g = g;
                on = on;
                numbers = made.quiet.still.past ∙ ap (λ (v : World). v.past.numbers) y.world ∙ kept.0;
                falls = λ n. (let a = made.quiet.falls n in
                    let b = ap (live_count n) (ap (λ (v : World). v.tables) y.world ∙ kept.1) in omega (arith, a, b));
                looked = subst (λ (a : Negotiated). IsLooked plan a g on asked.parent asked.name looked.entry) z l;
                tree = tree;
                later = later;
              },
            ))

        looked_behind : (g : Full) → Labelled plan w.tables.negotiated brought w h g (new_kind what) is →
            At j (looks session) g last w' → Goal
        looked_behind g made c =
            let tree = looked_tree j plan session asked.parent asked.name g last w' c in
            walk_look_up j plan session asked.parent asked.name entry g last w' n c
            (λ r. made_end g made r.keeps tree (inl (r.errno, r.is)))
            (λ looked seen on l ids k. told_end g made looked on l (comes_at k) tree)
