-- Proof. The context of security of what was made: it is had, or what was made goes again.
use Rattle.std.proofs.Common.{◌≡◌, ◌≢◌, ℕ, ◌<◌, List, length, Bool, true, false, Option, Some, None, Result, Ok, Err}
use Rattle.std.proofs.Common.{refl, sym, ap, subst, ◌∙◌, is_some}
use Rattle.pt_host.specs.Call.{Call}
use Rattle.pt_host.specs.Contents.{ObjectContents}
use Rattle.pt_host.specs.Names.{MakesObject}
use Rattle.pt_host.specs.Tree.{Tree, IsOpenOn}
use Rattle.pt_host.specs.declared.ids.Errno.{Errno}
use Rattle.pt_host.specs.declared.ids.Fd.{Fd}
use Rattle.pt_host.specs.declared.op.KeptHostOp.TheVariants as call
use Rattle.pt_host.specs.declared.reply.HostReply.{HostReply}
use Rattle.pt_host.specs.declared.reply.HostReply.TheVariants as host
use Rattle.pt_host.specs.declared.reply.HostValue.TheVariants as value
use Rattle.pt_tables.specs.declared.form.Negotiated.{Negotiated}
use Rattle.pt_iface.specs.declared.answer.Answer.{Answer}
use Rattle.pt_iface.specs.declared.answer.Answer.TheVariants as answer
use Rattle.pt_iface.specs.declared.request.SecContext.{SecContext}
use Rattle.pt_frame.specs.Deed.{Calls}
use Rattle.pt_frame.specs.Tree.{RequestTree, Gives, Shuts}
use Rattle.pt_frame.specs.declared.act.ActReply.{ActReply}
use Rattle.pt_frame.specs.declared.act.ActReply.TheVariants.{Event, Host, NoCopy}
use Rattle.pt_req.specs.Attributes.{Label, host_label}
use Rattle.pt_req.specs.Parts.{by_path}
use Rattle.pt_req.specs.Steps.{or_refused, refused_in, set_xattr, tried_in}
use Rattle.pt_req.specs.declared.plan.Plan.{Plan}
use Rattle.pt_attr.specs.Creating.{labelled, labelled_by, undone}
use Rattle.pt_attr.specs.Making.{label_at, labelled_at, set_opened}
use Rattle.pt_attr.specs.Steps.{opened_in}
use Rattle.pt_law.proofs.Givings.{live_count}
use Rattle.pt_law.proofs.Knowing.{one_object}
use Rattle.pt_rules.specs.Laws.Changed.{led_here}
use Rattle.pt_plain.proofs.Walking.{opened_name, Quiet, quiet_none, quiet_on, some_is}
use Rattle.pt_filled.specs.Contents.{valued, with_changed}
use Rattle.pt_filled.specs.New.{IsInContext}
use Rattle.pt_filled.specs.Told.{name_held}
use Rattle.pt_filled.proofs.Descriptors.{KeepsFds, fds_none}
use Rattle.pt_filled.proofs.Handling.{fds_goes}
use Rattle.pt_filled.proofs.Hosting.{Alters, Full, Keeps, Respects, Thread, contents_at, objects_at, world_of}
use Rattle.pt_filled.proofs.Moving.{was_rmdired, was_unlinked}
use Rattle.pt_filled.proofs.News.{HasMade, made_changed, made_then}
use Rattle.pt_filled.proofs.Parts.{At, At.{by}, Calm, IsRefused, Leaves, calm_goes, calm_none, idles_calm}
use Rattle.pt_filled.proofs.Parts.{keeps_on, leaves_keeps, quiet_makes, refused_from, walk_ask}
use Rattle.pt_filled.proofs.Scopes.{after_shut, in_bracket}
use Rattle.pt_filled.proofs.Tails.{named_leaves}
use Rattle.pt_filled.proofs.Threading.{Makes}
use Rattle.pt_filled.proofs.Valued.{IsHeldAs, walk_name}
use Rattle.pt_filled.proofs.Valuing.{was_set}

-- ---- what goes again

abbrev pub IsUndoing : Call → Type 0
IsUndoing (call.Unlink dir name) = Unit {0}
IsUndoing (call.RemoveDir dir name) = Unit {0}
IsUndoing asked = ⊥

undoing_keeps : (j : Thread) (undoing : Call) (w on : Full) (told : HostReply) → IsUndoing undoing →
    Makes j w (Calls undoing) (Host told) on → Keeps w on
undoing_keeps j (call.Unlink dir name) w on (host.Ok told) is m = was_unlinked j w on dir name told m
undoing_keeps j (call.Unlink dir name) w on (host.Refused errno) is m =
    leaves_keeps j w on (Calls (call.Unlink dir name)) (Host (host.Refused errno)) m (tt, tt)
undoing_keeps j (call.Unlink dir name) w on (host.Fault errno) is m =
    leaves_keeps j w on (Calls (call.Unlink dir name)) (Host (host.Fault errno)) m (tt, tt)
undoing_keeps j (call.Unlink dir name) w on host.NoMemory is m = absurd (m.1 refl)
undoing_keeps j (call.RemoveDir dir name) w on (host.Ok told) is m = was_rmdired j w on dir name told m
undoing_keeps j (call.RemoveDir dir name) w on (host.Refused errno) is m =
    leaves_keeps j w on (Calls (call.RemoveDir dir name)) (Host (host.Refused errno)) m (tt, tt)
undoing_keeps j (call.RemoveDir dir name) w on (host.Fault errno) is m =
    leaves_keeps j w on (Calls (call.RemoveDir dir name)) (Host (host.Fault errno)) m (tt, tt)
undoing_keeps j (call.RemoveDir dir name) w on host.NoMemory is m = absurd (m.1 refl)
undoing_keeps j undoing w on told is m = absurd is

-- Contents stay, whatever the host says of it.
walk_undone : (j : Thread) (undoing : Call) (errno : Errno) (w : Full) (last : Answer) (w' : Full) →
    IsUndoing undoing → last ≢ answer.NoMemory → At j (undone undoing (answer.Refused errno)) w last w' →
    IsRefused w last w'
walk_undone j undoing errno w last w' is n c =
    walk_ask j (Calls undoing) tried_in (λ done. Gives (answer.Refused errno)) w last w' n leaves c (λ r. r) go
  where
    leaves : (told : ActReply) → tried_in told ≡ None → Leaves (Calls undoing) told
    leaves (Host told) e = absurd (cc)
    leaves (Event told) e = (tt, tt)
    leaves NoCopy e = (tt, tt)

    go : (told : ActReply) (done : Unit {0}) (mid on : Full) → tried_in told ≡ Some done →
        Makes j w (Calls undoing) told mid → on ≡ mid → At j (Gives (answer.Refused errno)) on last w' →
        IsRefused w last w'
    go (Host told) done mid on e m i (by k) = record {
      errno = errno;
      is = k.0;
      keeps = keeps_on w on w' (subst (λ (z : Full). Keeps w z) (sym i) (undoing_keeps j undoing w mid told is m))
          (idles_calm j on w' k.1).keeps;
    }
    go (Event told) done mid on e m i k = absurd (cc)
    go NoCopy done mid on e m i k = absurd (cc)

-- ---- an attribute of what was made

walk_set : {G : Type 0} (j : Thread) (fd : Fd) (through : Bool) (name bytes : List ℕ)
    (next : Option Answer → RequestTree) (w : Full) (last : Answer) (w' : Full) (object : ℕ) →
    last ≢ answer.NoMemory → IsOpenOn (world_of w).tree fd object →
    At j (set_xattr fd through name bytes 0 next) w last w' → (IsRefused w last w' → G) →
    ((on : Full) → Quiet (world_of w) (world_of on) → KeepsFds w.state on.state →
    Alters w on (with_changed object (valued name (Some bytes)) (contents_at w)) → At j (next None) on last w' → G) →
    ((errno : Errno) (on : Full) → Keeps w on → At j (next (Some (answer.Refused errno))) on last w' → G) → G
walk_set {G} j fd through name bytes next w last w' object n o c out goes undo =
    walk_ask j (Calls (call.SetXattr fd through name bytes 0)) refused_in next w last w' n leaves c out go
  where
    leaves : (told : ActReply) → refused_in told ≡ None → Leaves (Calls (call.SetXattr fd through name bytes 0)) told
    leaves (Host (host.Ok told)) e = absurd (cc)
    leaves (Host (host.Refused errno)) e = (tt, tt)
    leaves (Host (host.Fault errno)) e = (tt, tt)
    leaves (Host host.NoMemory) e = (tt, tt)
    leaves (Event told) e = (tt, tt)
    leaves NoCopy e = (tt, tt)

    refuse : (told : ActReply) (errno : Errno) (refused : Option Answer) (mid on : Full) →
        Some (answer.Refused errno) ≡ refused → Makes j w (Calls (call.SetXattr fd through name bytes 0)) told mid →
        Leaves (Calls (call.SetXattr fd through name bytes 0)) told → on ≡ mid → At j (next refused) on last w' → G
    refuse told errno refused mid on e m l i k =
        undo errno on
        (subst (λ (z : Full). Keeps w z) (sym i)
        (leaves_keeps j w mid (Calls (call.SetXattr fd through name bytes 0)) told m l))
        (subst (λ (r : Option Answer). At j (next r) on last w') (sym e) k)

    go : (told : ActReply) (refused : Option Answer) (mid on : Full) → refused_in told ≡ Some refused →
        Makes j w (Calls (call.SetXattr fd through name bytes 0)) told mid → on ≡ mid →
        At j (next refused) on last w' → G
    go (Host (host.Ok told)) refused mid on e m i k =
        goes on
        (subst (λ (z : Full). Quiet (world_of w) (world_of z)) (sym i)
        (quiet_makes j w mid (Calls (call.SetXattr fd through name bytes 0)) (Host (host.Ok told)) m tt tt))
        (subst (λ (z : Full). KeepsFds w.state z.state) (sym i)
        (fds_goes j w mid (Calls (call.SetXattr fd through name bytes 0)) (Host (host.Ok told)) (λ fd e. cc) m.1 m.2))
        (subst (λ (z : Full). Alters w z (with_changed object (valued name (Some bytes)) (contents_at w))) (sym i)
        (was_set j w mid fd through name bytes 0 told object m.2 o).1)
        (subst (λ (r : Option Answer). At j (next r) on last w') (sym (some_is e)) k)
    go (Host (host.Refused errno)) refused mid on e m i k =
        refuse (Host (host.Refused errno)) errno refused mid on (some_is e) m (tt, tt) i k
    go (Host (host.Fault errno)) refused mid on e m i k =
        refuse (Host (host.Fault errno)) errno refused mid on (some_is e) m (tt, tt) i k
    go (Host host.NoMemory) refused mid on e m i k = absurd (m.1 refl)
    go (Event told) refused mid on e m i k = absurd (cc)
    go NoCopy refused mid on e m i k = absurd (m.1 refl)

-- ---- the context

-- what it is set by: its value, and the host's name of its attribute, where the guest may use that
abbrev pub IsLabelOf : Plan → Negotiated → Option SecContext → Option Label → Type 0
IsLabelOf plan agreed None None = Unit {0}
IsLabelOf plan agreed None (Some label) = ⊥
IsLabelOf plan agreed (Some brought) None = ⊥
IsLabelOf plan agreed (Some brought) (Some label) =
    (label.value ≡ brought.value) × IsHeldAs plan agreed brought.name label.name

pub walk_label : {G : Type 0} (j : Thread) (plan : Plan) (agreed : Negotiated) (brought : Option SecContext)
    (next : Option Label → RequestTree) (w : Full) (last : Answer) (w' : Full) →
    At j (host_label plan agreed brought next) w last w' →
    ((label : Option Label) → IsLabelOf plan agreed brought label → At j (next label) w last w' → G) → G
walk_label j plan agreed None next w last w' c goes = goes None tt c
walk_label j plan agreed (Some brought) next w last w' c goes =
    walk_name j plan agreed brought.name (λ name. next (Some (record { name = name; value = brought.value }))) w last
    w' c (λ found is k. goes (Some (record { name = found; value = brought.value })) (refl, is) k)

-- what was made is in its context in this world
pub record Labelled (plan : Plan) (agreed : Negotiated) (brought : Option SecContext) (w h on : Full) (kind : ℕ)
    (was : ObjectContents) : Type 0 where
  pub quiet : Quiet (world_of h) (world_of on)
  pub is : ObjectContents
  pub in_context : IsInContext plan agreed brought was is
  pub made : HasMade w on kind is

respects_value : (name bytes : List ℕ) → Respects (valued name (Some bytes))
respects_value name bytes a b e =
    ap (λ (c : ObjectContents). record (valued name (Some bytes) c) {
      atime = b.atime;
      mtime = b.mtime;
      ctime = b.ctime;
    }) e

-- the bracket of an opening ends
abbrev shuts_with : Call → RequestTree → Option Answer → RequestTree
shuts_with undoing next refused = Shuts false (or_refused (undone undoing) next refused)

module _ (G : Type 0) (plan : Plan) (agreed : Negotiated) (j : Thread) (w h : Full) (kind : ℕ) (was : ObjectContents)
    (m : HasMade w h kind was) (last : Answer) (w' : Full) (n : last ≢ answer.NoMemory) where
  abbrev Goes : Option SecContext → RequestTree → Type 0
  Goes brought next = (on : Full) → Labelled plan agreed brought w h on kind was → At j next on last w' → G

  -- what was open stays so
  abbrev GoesOpen : Full → Option SecContext → RequestTree → Type 0
  GoesOpen x brought next = (on : Full) → Labelled plan agreed brought w h on kind was → KeepsFds x.state on.state →
      At j next on last w' → G

  -- it is bare, and the request is refused
  abbrev Lacks : Option SecContext → Type 0
  Lacks brought = IsRefused h last w' → is_some brought ≡ true → G

  -- what was made has none where none is brought
  bare : Labelled plan agreed None w h h kind was
  bare = record { quiet = quiet_none (world_of h); is = was; in_context = refl; made = m }

  labelled_on : (brought : Option SecContext) (x y : Full) → Labelled plan agreed brought w h x kind was → Calm x y →
      Labelled plan agreed brought w h y kind was
  labelled_on brought x y l q = record {
    quiet = quiet_on (world_of h) (world_of x) (world_of y) l.quiet q.quiet;
    is = l.is;
    in_context = l.in_context;
    made = made_then w x y kind l.is l.made q.keeps;
  }

  -- by what is open on it
  walk_kept : (brought : SecContext) (held : List ℕ) → name_held plan agreed brought.name ≡ Some held → (fd : Fd)
      (through : Bool) (bytes : List ℕ) → bytes ≡ brought.value → (next : Option Answer → RequestTree) (x : Full) →
      Calm h x → IsOpenOn (world_of x).tree fd (length (objects_at w)) →
      At j (set_xattr fd through held bytes 0 next) x last w' → (IsRefused h last w' → G) →
      GoesOpen x (Some brought) (next None) →
      ((errno : Errno) (on : Full) → Keeps h on → At j (next (Some (answer.Refused errno))) on last w' → G) → G
  walk_kept brought held is fd through bytes same next x q o c out goes undo =
      walk_set j fd through held bytes next x last w' (length (objects_at w)) n o c
      (λ r. out (refused_from h x last w' q.keeps r))
      (λ on quiet fds a k. goes on (record {
        quiet = quiet_on (world_of h) (world_of x) (world_of on) q.quiet quiet;
        is = valued held (Some bytes) was;
        in_context = (held, is, ap (λ (v : List ℕ). valued held (Some v) was) same);
        made = made_changed w x on kind was (valued held (Some bytes)) (respects_value held bytes)
            (made_then w h x kind was m q.keeps) a;
      }) fds k)
      (λ errno on kept k. undo errno on (keeps_on h x on q.keeps kept) k)

  -- by the descriptor of a file that was made
  pub walk_labelled : (fd : Fd) (undoing : Call) (brought : Option SecContext) (label : Option Label) →
      IsLabelOf plan agreed brought label → IsUndoing undoing → (next : RequestTree) →
      IsOpenOn (world_of h).tree fd (length (objects_at w)) → At j (labelled fd undoing label next) h last w' →
      Lacks brought → GoesOpen h brought next → G
  walk_labelled fd undoing None None l u next o c out goes = goes h bare (fds_none h.state h.state refl) c
  walk_labelled fd undoing None (Some label) l u next o c out goes = absurd l
  walk_labelled fd undoing (Some brought) None l u next o c out goes = absurd l
  walk_labelled fd undoing (Some brought) (Some label) l u next o c out goes = by_name label.name l.1 c
    where
      by_name : (found : Result (List ℕ) Errno) → IsHeldAs plan agreed brought.name found →
          At j (labelled_by fd undoing label.value found next) h last w' → G
      by_name (Err errno) is k = out (walk_undone j undoing errno h last w' u n k) refl
      by_name (Ok held) is k =
          walk_kept brought held (is held refl) fd false label.value l.0 (or_refused (undone undoing) next) h
          (calm_none h) o k (λ r. out r refl) goes (λ errno x kept k.
          out (refused_from h x last w' kept (walk_undone j undoing errno x last w' u n k)) refl)

  -- by the name of what was made
  pub walk_labelled_at : (dir : Fd) (at : ℕ) (name : List ℕ) (undoing : Call) (brought : Option SecContext)
      (label : Option Label) → IsLabelOf plan agreed brought label → IsUndoing undoing → (next : RequestTree) →
      IsOpenOn (world_of h).tree dir at → (world_of h).tree.names at name ≡ Some (length (objects_at w)) →
      At j (labelled_at dir name undoing label next) h last w' → Lacks brought → Goes brought next → G
  walk_labelled_at dir at name undoing None None l u next o leads c out goes = goes h bare c
  walk_labelled_at dir at name undoing None (Some label) l u next o leads c out goes = absurd l
  walk_labelled_at dir at name undoing (Some brought) None l u next o leads c out goes = absurd l
  walk_labelled_at dir at name undoing (Some brought) (Some label) l u next o leads c out goes =
      by_name label.name l.1 c
    where
      asked : Call
      asked = call.OpenAt dir name by_path 0

      shuts : Option Answer → RequestTree
      shuts = shuts_with undoing next

      -- the bracket ends
      undo : (errno : Errno) (x : Full) → Keeps h x →
          At j (Shuts false (undone undoing (answer.Refused errno))) x last w' → G
      undo errno x kept k = after_shut k (λ y q k. out (refused_from h y last w' (keeps_on h x y kept q.keeps)
          (walk_undone j undoing errno y last w' u n k)) refl)

      had : Goes (Some brought) (Shuts false next)
      had x l k = after_shut k (λ y q k. goes y (labelled_on (Some brought) x y l q) k)

      calm : (told : ActReply) (mid on : Full) → Makes j h (Calls asked) told mid → on ≡ mid → Calm h on
      calm told mid on z i = subst (λ (x : Full). Calm h x) (sym i)
          (calm_goes j h mid (Calls asked) told z (named_leaves dir name told).0 (named_leaves dir name told).1 tt
          (λ fd e. cc))

      refuse : (held : List ℕ) (told : ActReply) (errno : Errno) (opened : Result Fd Answer) (mid on : Full) →
          Err (answer.Refused errno) ≡ opened → Makes j h (Calls asked) told mid → on ≡ mid →
          At j (set_opened held label.value opened shuts) on last w' → G
      refuse held told errno opened mid on e z i k =
          undo errno on (calm told mid on z i).keeps
          (subst (λ (r : Result Fd Answer). At j (set_opened held label.value r shuts) on last w') (sym e) k)

      tried : (held : List ℕ) → name_held plan agreed brought.name ≡ Some held → (told : ActReply)
          (opened : Result Fd Answer) (mid on : Full) → opened_in told ≡ Some opened →
          Makes j h (Calls asked) told mid → on ≡ mid → At j (set_opened held label.value opened shuts) on last w' → G
      tried held is (Host (host.Ok (value.Fd fd))) opened mid on e z i k =
          let x = opened_name j.job (world_of h) (world_of mid) dir name fd (z.0, z.1, z.2.goes) in
          let same : x.object ≡ length (objects_at w) = some_is (sym x.leads
          ∙ ap (λ (d : ℕ). (world_of h).tree.names d name) (one_object (world_of h).tree dir x.at at x.dir_open o)
          ∙ leads) in
          walk_kept brought held is fd true label.value l.0 shuts on
          (calm (Host (host.Ok (value.Fd fd))) mid on z i)
          (subst (λ (y : Full). IsOpenOn (world_of y).tree fd (length (objects_at w))) (sym i)
          (subst (λ (object : ℕ). IsOpenOn (world_of mid).tree fd object) same x.open_on))
          (subst (λ (r : Result Fd Answer). At j (set_opened held label.value r shuts) on last w') (sym (some_is e)) k)
          (λ r. out r refl) (λ x l fds k. had x l k) undo
      tried held is (Host (host.Refused errno)) opened mid on e z i k =
          refuse held (Host (host.Refused errno)) errno opened mid on (some_is e) z i k
      tried held is (Host (host.Fault errno)) opened mid on e z i k =
          refuse held (Host (host.Fault errno)) errno opened mid on (some_is e) z i k
      tried held is (Host host.NoMemory) opened mid on e z i k = absurd (z.1 refl)
      tried held is NoCopy opened mid on e z i k = absurd (z.1 refl)
      tried held is told opened mid on e z i k = absurd (cc)

      by_name : (found : Result (List ℕ) Errno) → IsHeldAs plan agreed brought.name found →
          At j (label_at dir name undoing label.value found next) h last w' → G
      by_name (Err errno) is k = out (walk_undone j undoing errno h last w' u n k) refl
      by_name (Ok held) is k =
          walk_ask j (Calls asked) opened_in (λ opened. set_opened held label.value opened shuts) h last w' n
          (λ told e. named_leaves dir name told) (in_bracket k) (λ r. out r refl) (tried held (is held refl))

-- ---- what stays of what was made

-- a name leads to what was made under it
pub led_new : (tree made : Tree) (at : ℕ) (name : List ℕ) → MakesObject tree at name made →
    made.names at name ≡ Some (length tree.objects)
led_new tree made at name m =
    ap (λ (t : Tree). t.names at name) m.makes ∙ led_here at name (Some (length tree.objects)) tree.names

-- the name of what was made leads to it at the end
pub record IsNamedStill (w w' : Full) (parent : ℕ) (name : List ℕ) : Type 0 where
  pub e : Full
  pub calm : Calm w e
  pub dir : ℕ
  pub is_dir : e.past.numbers parent ≡ Some dir
  pub live : 0 < live_count parent e.tables
  pub leads : (world_of w').tree.names dir name ≡ Some (length (objects_at w))

-- it is there, in its context, and under its name
pub record IsMadeWhole (plan : Plan) (agreed : Negotiated) (brought : Option SecContext) (w w' : Full) (kind : ℕ)
    (was : ObjectContents) (parent : ℕ) (name : List ℕ) : Type 0 where
  pub is : ObjectContents
  pub in_context : IsInContext plan agreed brought was is
  pub made : HasMade w w' kind is
  pub named : IsNamedStill w w' parent name

-- it is there, and the request was refused before it had its context
pub record IsLeftBare (brought : Option SecContext) (w : Full) (last : Answer) (w' : Full) (kind : ℕ)
    (was : ObjectContents) : Type 0 where
  pub brings : is_some brought ≡ true
  pub errno : Errno
  pub is_refused : last ≡ answer.Refused errno
  pub made : HasMade w w' kind was

pub left_bare : (brought : Option SecContext) (w h : Full) (last : Answer) (w' : Full) (kind : ℕ)
    (was : ObjectContents) → HasMade w h kind was → is_some brought ≡ true → IsRefused h last w' →
    IsLeftBare brought w last w' kind was
left_bare brought w h last w' kind was m b r =
    record { brings = b; errno = r.errno; is_refused = r.is; made = made_then w h w' kind was m r.keeps }
