-- Proof. A file is made and opened, or one whose name is there is opened: what that makes of contents.
use Rattle.std.specs.Prelude.{if◌then◌else◌, ◌⊎◌, ◌&&◌, ◌||◌}
use Rattle.std.proofs.Common.{inl, inr, [], ◌≡◌, ◌≢◌, ◌<◌, ℕ, List, Bool, true, false, Option, Some, None, refl, sym}
use Rattle.std.proofs.Common.{ap, subst, ◌∙◌, slice_get, cond, length, arith}
use Rattle.pt_host.specs.Contents.{ObjectContents}
use Rattle.pt_host.specs.Flags.{includes, o_creat, o_directory, o_excl, o_path, o_trunc}
use Rattle.pt_host.specs.LawfulTree.{TreeChanges}
use Rattle.pt_host.specs.Tree.{Tree, Object, Opened, IsOpenOn}
use Rattle.pt_host.specs.Errno.{eexist, einval, estale}
use Rattle.pt_host.specs.declared.ids.Errno.{Errno}
use Rattle.pt_host.specs.declared.ids.Fd.{Fd}
use Rattle.pt_host.specs.declared.reply.HostValue.{HostValue}
use Rattle.pt_host.specs.declared.stat.Stat.{Stat}
use Rattle.pt_host.specs.declared.seat.HostSeat.{HostSeat}
use Rattle.pt_host.specs.declared.flags.OpenFlags.{OpenFlags}
use Rattle.pt_host.specs.declared.op.KeptHostOp.TheVariants as call
use Rattle.pt_host.specs.declared.reply.HostReply.TheVariants as host
use Rattle.pt_host.specs.declared.reply.HostValue.TheVariants as value
use Rattle.pt_tables.specs.declared.form.Negotiated.{Negotiated}
use Rattle.pt_tables.specs.declared.reply.Resolved.{Resolved}
use Rattle.pt_iface.specs.declared.answer.Answer.{Answer}
use Rattle.pt_iface.specs.declared.entry.Entry.{Entry}
use Rattle.pt_iface.specs.declared.request.SecContext.{SecContext}
use Rattle.pt_iface.specs.declared.flags.OpenOptions.{OpenOptions}
use Rattle.pt_iface.specs.declared.answer.Answer.TheVariants as answer
use Rattle.pt_frame.specs.Deed.{Deed, Calls}
use Rattle.pt_frame.specs.Tree.{Gives, RequestTree, go_on, on}
use Rattle.pt_frame.specs.declared.act.ActReply.{ActReply}
use Rattle.pt_frame.specs.declared.act.ActReply.TheVariants.{Event, Host, NoCopy}
use Rattle.pt_req.specs.Steps.{begin, is_there, make_at, made_in, stat}
use Rattle.pt_req.specs.Capability.{drops_fsetid}
use Rattle.pt_req.specs.Parts.{named, look_up, file_of, handled, open_num}
use Rattle.pt_req.specs.Asker.{as_asker, asker_of, umask_of, under_umask}
use Rattle.pt_req.specs.Attributes.{Label}
use Rattle.pt_req.specs.Options.{create_options, making_flags}
use Rattle.pt_req.specs.declared.begun.BegunSession.{BegunSession}
use Rattle.pt_req.specs.declared.plan.Plan.{Plan}
use Rattle.pt_req.specs.declared.parts.looked.Looked.{Looked}
use Rattle.pt_req.specs.declared.replies.Made.{Made as MadeFile}
use Rattle.pt_req.specs.declared.replies.Made.TheVariants.{New, Old}
use Rattle.pt_req.proofs.Flags.{creates, excludes}
use Rattle.pt_attr.specs.Creating.{are_same, create, FileAsked, if_same, made_file, make_file, named_handle, new_file}
use Rattle.pt_attr.specs.Creating.{labelled, old_file, takes_old}
use Rattle.pt_attr.specs.declared.parts.creating.NamedHandle.{NamedHandle}
use Rattle.pt_law.specs.World.{World, fd_of}
use Rattle.pt_law.specs.Under.{Identity, identity_of, IsCalledAs}
use Rattle.pt_law.proofs.Givings.{live_count}
use Rattle.pt_law.proofs.Knowing.{one_object}
use Rattle.pt_law.proofs.Lists.{set_at_same}
use Rattle.pt_fit.specs.Asker.{fsetid_if}
use Rattle.pt_node.specs.Paths.{led_on}
use Rattle.pt_node.specs.declared.node.Node.{Node}
use Rattle.pt_node.specs.declared.node.Content.TheVariants.{Regular}
use Rattle.pt_rules.specs.State.{State}
use Rattle.pt_rules.specs.Laws.Cases.{by_checks, by_name}
use Rattle.pt_rules.specs.Calls.{Answered, checked, refused, there_in}
use Rattle.pt_rules.specs.Edits.{made as made_node, with_made}
use Rattle.pt_rules.specs.NameCalls.{masked}
use Rattle.pt_rules.specs.OpeningCalls.{create_or_open, created_checks, creating_checks, open_at_name, open_creating}
use Rattle.pt_rules.specs.OpeningCalls.{open_named, open_new}
use Rattle.pt_plain.proofs.Showing.{bare_tree}
use Rattle.pt_filled.specs.Accesses.{asked_for, opened_for}
use Rattle.pt_filled.specs.Contents.{is_file_kind}
use Rattle.pt_filled.specs.New.{fresh, permitted}
use Rattle.pt_filled.proofs.Hosting.{Full, Keeps, Thread, world_of, Bared, objects_at}
use Rattle.pt_filled.proofs.Parts.{At, Calm, IsRefused, comes_at, keeps_on, leaves_keeps, refused_from, walk_begin}
use Rattle.pt_filled.proofs.Parts.{walk_stat, bared_calm, calm_on, walk_named, tree_throughout, At.{by}, refused_at}
use Rattle.pt_filled.proofs.Parts.{walk_resolve, walk_file, calm_goes, IsResolved}
use Rattle.pt_filled.proofs.Tables.{ok_not_refused, tabled}
use Rattle.pt_filled.proofs.Threading.{Comes, Makes, comes_law}
use Rattle.pt_filled.proofs.Labelling.{IsLabelOf, IsLeftBare, IsMadeWhole, IsNamedStill, Labelled, led_new, left_bare}
use Rattle.pt_filled.proofs.Labelling.{walk_label, walk_labelled}
use Rattle.pt_filled.proofs.Looking.{IsLooked, IsToldSo, walk_look_up}
use Rattle.pt_filled.proofs.Tails.{Leaving, leaving_look_up, leaving_handled, leaving_stat, leaving_unless, stat_leaves}
use Rattle.pt_filled.proofs.News.{HasMade, made_from, made_then, has_made, MakeOk}
use Rattle.pt_filled.proofs.Descriptors.{GoesOn, IsOpenAs, KeepsFds, access_in, fds_on, opened_as_asked}
use Rattle.pt_filled.proofs.Handling.{fds_goes}
use Rattle.pt_filled.proofs.Lending.{LendsFd, LentTo, lends_handled, lent_none, lent_so}
use Rattle.pt_filled.proofs.Modes.{asks_made}
use Rattle.pt_filled.proofs.Endings.{Ending, ending_handled, ending_open_num, ends_with}
use Rattle.pt_filled.proofs.Opened.{ClearsSo, emptied_so, OpensSo, opens_so}
use Rattle.pt_filled.proofs.Makings.{walk_asker}
use Rattle.pt_filled.proofs.Staying.{left_by}

-- ---- the table: a new file

module _ (s : State) (numbers : ℕ → ℕ) (seat : HostSeat) (flags : ℕ) (mode : ℕ) (told : HostValue) (after : State) where
  -- what was made, descriptors aside
  record CreateOk : Type 0 where
    later : State
    makes : MakeOk s numbers (masked seat mode) seat.eff_uid seat.eff_gid 0 (Regular []) later
    nodes : after.nodes ≡ later.nodes

  abbrev CreateGoal : Answered → Type 0
  CreateGoal a = (host.Ok told, after) ≡ a → CreateOk

  create_refuses : (errno : Errno) → CreateGoal (refused s errno)
  create_refuses errno e = absurd (ok_not_refused told errno (ap (λ (a : Answered). a.0) e))

  there_refused : (path excl : Bool) → excl ≡ true →
      cond path (Some einval) (cond (true && excl) (Some eexist) None) ≡ None → ⊥
  there_refused true excl e n = cc
  there_refused false true e n = cc
  there_refused false false e n = cc

  new_or_there : (dir : ℕ) (parent : Node) (name : List ℕ) (there : Option ℕ) →
      CreateGoal (checked s (creating_checks (making_flags flags).0 there)
      (create_or_open s numbers seat (making_flags flags) mode dir parent name (led_on s.nodes there)))
  new_or_there dir parent name None =
      by_checks s CreateGoal create_refuses (creating_checks (making_flags flags).0 None)
      (create_or_open s numbers seat (making_flags flags) mode dir parent name None) (λ first.
      by_checks s CreateGoal create_refuses (created_checks seat parent (making_flags flags).0)
      (open_new s numbers seat (making_flags flags) (masked seat mode) dir name parent) (λ second e. record {
        later = with_made s dir name
            (made_node s numbers (masked seat mode) seat.eff_uid seat.eff_gid 0 (Regular []) parent);
        makes = record { dir = dir; name = name; parent = parent; leaves = refl };
        nodes = ap (λ (a : Answered). a.1.nodes) e;
      }))
  new_or_there dir parent name (Some object) =
      by_checks s CreateGoal create_refuses (creating_checks (making_flags flags).0 (Some object))
      (create_or_open s numbers seat (making_flags flags) mode dir parent name (led_on s.nodes (Some object))) (λ none.
      absurd (there_refused (includes (making_flags flags).0 o_path || includes (making_flags flags).0 o_directory)
      (includes (making_flags flags).0 o_excl) (excludes flags) none))

  create_ok : (fd : Fd) (name : List ℕ) →
      (host.Ok told, after) ≡ open_at_name s numbers seat fd name (making_flags flags) mode → CreateOk
  create_ok fd name e =
      by_name s CreateGoal create_refuses seat fd name
      (λ dir parent. checked s (creating_checks (making_flags flags).0 (there_in parent name))
      (create_or_open s numbers seat (making_flags flags) mode dir parent name
      (led_on s.nodes (there_in parent name))))
      (λ at dir is there none. new_or_there at.object dir name (there_in dir name))
      (e ∙ ap (λ (b : Bool). cond b (open_creating s numbers seat fd name (making_flags flags) mode)
      (open_named s seat fd name (making_flags flags))) (creates flags))

was_created : (j : Thread) (w on : Full) (dir : Fd) (name : List ℕ) (flags mode : ℕ) (told : HostValue) →
    Makes j w (Calls (call.OpenAt dir name (making_flags flags) mode)) (Host (host.Ok told)) on →
    HasMade w on 8 (fresh (identity_of w.seat) (masked w.seat mode) 0 [])
was_created j w on dir name flags mode told m =
    let t = tabled w.state w.seat (call.OpenAt dir name (making_flags flags) mode) told on.state on.seat refl
    m.2.made.0 in
    let k = create_ok w.state t.numbers w.seat flags mode told t.after dir name t.answered in
    has_made w on t.numbers w.seat (masked w.seat mode) 0 (Regular []) k.later (t.nodes ∙ k.nodes) k.makes

-- its name leads to what was made, and its descriptor is open on it
record IsCreated (e f : Full) (dir : Fd) (name : List ℕ) (fd : Fd) : Type 0 where
  at : ℕ
  dir_open : IsOpenOn (world_of e).tree dir at
  leads : (world_of f).tree.names at name ≡ Some (length (objects_at e))
  open_on : IsOpenOn (world_of f).tree fd (length (objects_at e))

created : (e f : Full) (dir : Fd) (name : List ℕ) (flags mode : ℕ) (fd : Fd) →
    TreeChanges (world_of e).tree (call.OpenAt dir name (making_flags flags) mode) (host.Ok (value.Fd fd))
    (world_of f).tree → IsCreated e f dir name fd
created e f dir name flags mode fd (inl found) =
    absurd (clash (includes (making_flags flags).0 o_creat) (includes (making_flags flags).0 o_excl) (creates flags)
    (excludes flags) found.1)
  where
    clash : (a b : Bool) → a ≡ true → b ≡ true → (a && b) ≡ false → ⊥
    clash true true p q r = cc
    clash true false p q r = cc
    clash false b p q r = cc
created e f dir name flags mode fd (inr made) = record {
  at = made.2.0;
  dir_open = made.2.1;
  leads = ap (λ (t : Tree). t.names made.2.0 name) made.3.adds
      ∙ led_new (world_of e).tree made.0 made.2.0 name made.2.2;
  open_on = subst (λ (t : Tree). IsOpenOn t fd (length (objects_at e))) (sym made.3.adds) (
    record { object = length (objects_at e); path_only = includes (making_flags flags).0 o_path },
    set_at_same made.0.opened fd.0
        (Some (record { object = length (objects_at e); path_only = includes (making_flags flags).0 o_path })),
    refl,
  );
}

-- ---- the opening that makes

walk_make_at : {G : Type 0} (j : Thread) (dir : Fd) (name : List ℕ) (flags mode : ℕ) (may_be : Bool)
    (next : MadeFile → RequestTree) (w : Full) (last : Answer) (w' : Full) → last ≢ answer.NoMemory →
    At j (make_at dir name (making_flags flags) mode may_be next) w last w' → (IsRefused w last w' → G) →
    ((fd : Fd) (mid on : Full) →
    Makes j w (Calls (call.OpenAt dir name (making_flags flags) mode)) (Host (host.Ok (value.Fd fd))) mid →
    Bared j mid on → At j (next (New fd)) on last w' → G) →
    ((mid on : Full) → Calm w on → At j (next Old) on last w' → G) → G
unfolding on go_on
walk_make_at {G} j dir name flags mode may_be next w last w' n (by c) out goes old = go c.0 c.3 c.4 c.5
  where
    asked : Deed
    asked = Calls (call.OpenAt dir name (making_flags flags) mode)

    other : (told : ActReply) → Calm w c.1 → c.2 ≡ c.1 → (mid : Full) → Bared j c.2 mid → (b : Bool) →
        Comes j (go_on next told (if b then Some Old else None)) mid last w' → G
    other told q i mid bd true k =
        old mid mid (calm_on w c.1 mid q (subst (λ (z : Full). Calm z mid) i (bared_calm j c.2 mid bd))) (by k)
    other told q i mid bd false k =
        out (refused_at j w mid told last w' n
        (keeps_on w c.1 mid q.keeps (subst (λ (z : Full). Keeps z mid) i bd.keeps)) k)

    go : (told : ActReply) → Makes j w asked told c.1 → c.2 ≡ c.1 →
        ((mid : Full) × Bared j c.2 mid × Comes j (on (made_in may_be) next told) mid last w') → G
    go (Host (host.Ok (value.Fd fd))) m i k =
        goes fd c.1 k.0 m (subst (λ (z : Full). Bared j z k.0) i k.1) (by k.2)
    go (Host (host.Ok told)) m i k = absurd m.2.goes.made.0.3.allowed
    go (Host (host.Refused errno)) m i k =
        other (Host (host.Refused errno)) (calm_goes j w c.1 asked _ m (inl tt) tt tt (λ fd e. cc)) i k.0 k.1
        (is_there (Host (host.Refused errno)) && may_be) k.2
    go (Host (host.Fault errno)) m i k =
        other (Host (host.Fault errno)) (calm_goes j w c.1 asked _ m (inl tt) tt tt (λ fd e. cc)) i k.0 k.1
        (is_there (Host (host.Fault errno)) && may_be) k.2
    go (Host host.NoMemory) m i k = absurd (m.1 refl)
    go (Event told) m i k = absurd m.2.made
    go NoCopy m i k = absurd (m.1 refl)

-- ---- the parts

module _ (plan : Plan) (asked : FileAsked) where
  abbrev ends_in : NamedHandle → RequestTree
  ends_in named = Gives (answer.Created named.entry named.handle (create_options plan.config))

  abbrev handles_in : BegunSession → Fd → Looked → RequestTree
  handles_in session fd looked =
      handled session looked.entry.inode fd (λ handle. ends_in (named_handle looked.entry handle))

  abbrev same_in : BegunSession → Fd → Stat → Looked → RequestTree
  same_in session fd told looked = if_same told.ids looked.ids (handles_in session fd looked)

  abbrev looks_in : BegunSession → Fd → Stat → RequestTree
  looks_in session fd told = look_up plan session asked.parent asked.name (same_in session fd told)

  same_leaves : (session : BegunSession) (fd : Fd) (told : Stat) (looked : Looked) →
      Leaving (same_in session fd told looked)
  unfolding if_same
  same_leaves session fd told looked =
      leaving_unless (are_same told.ids looked.ids) estale (handles_in session fd looked)
      (leaving_handled session looked.entry.inode fd _ (λ handle. record { by = tt }))

  same_ends : (Q : Answer → Type 0) (session : BegunSession) (fd : Fd) (told : Stat) (looked : Looked) →
      Q (answer.Refused estale) →
      ((handle : ℕ) → Q (answer.Created looked.entry handle (create_options plan.config))) →
      Ending Q (same_in session fd told looked)
  unfolding if_same
  same_ends Q session fd told looked r q = go (are_same told.ids looked.ids)
    where
      go : (are : Bool) → Ending Q (if are then handles_in session fd looked else Gives (answer.Refused estale))
      go true = ending_handled session looked.entry.inode fd _ (λ handle. record { by = q handle })
      go false = record { by = r }

  -- what its handle may be used for
  same_lends : (j : Thread) (session : BegunSession) (fd : Fd) (told : Stat) (looked : Looked) (w : Full)
      (last : Answer) (w' : Full) → last ≢ answer.NoMemory → At j (same_in session fd told looked) w last w' →
      LendsFd j w.state fd (λ handle. ends_in (named_handle looked.entry handle)) last w'
  unfolding if_same
  same_lends j session fd told looked w last w' n c = go (are_same told.ids looked.ids) c
    where
      go : (are : Bool) → At j (if are then handles_in session fd looked else Gives (answer.Refused estale)) w last
          w' → LendsFd j w.state fd (λ handle. ends_in (named_handle looked.entry handle)) last w'
      go true c = lends_handled j session looked.entry.inode fd (λ handle. ends_in (named_handle looked.entry handle))
          last w' n w c
      go false c = inl (estale, (comes_at c).0)

  -- a file that was made: its number is that of its name, unless it is stale
  new_of : {G : Type 0} (j : Thread) (session : BegunSession) (label : Option Label) (dir fd : Fd) (w : Full)
      (last : Answer) (w' : Full) → last ≢ answer.NoMemory →
      At j (new_file plan session asked label dir fd ends_in) w last w' → (IsRefused w last w' → G) →
      ((told : Stat) (on : Full) → Makes j w (Calls (call.Stat fd)) (Host (host.Ok (value.Stat told))) on →
      At j (labelled fd (call.Unlink dir asked.name) label (looks_in session fd told)) on last w' → G) → G
  unfolding new_file
  new_of j session label dir fd w last w' n c out goes = walk_stat j fd _ w last w' n c out goes

  -- names stay where it gets no context
  bare_tree_of : (j : Thread) (session : BegunSession) (dir fd : Fd) (w : Full) (last : Answer) (w' : Full) →
      At j (new_file plan session asked None dir fd ends_in) w last w' →
      bare_tree (world_of w').tree ≡ bare_tree (world_of w).tree
  unfolding new_file
  bare_tree_of j session dir fd w last w' c =
      tree_throughout j (stat fd (looks_in session fd)) w last w'
      (leaving_stat fd (looks_in session fd) (λ told. leaving_look_up plan session asked.parent asked.name _
      (same_leaves session fd told))).by (comes_at c)

  old_of : (j : Thread) (session : BegunSession) (w : Full) (last : Answer) (w' : Full) →
      At j (old_file plan j.seat session asked ends_in) w last w' →
      At j (look_up plan session asked.parent asked.name (λ looked.
      open_num plan j.seat session looked.entry.inode asked.kill asked.flags (λ handle.
      ends_in (named_handle looked.entry handle)))) w last w'
  unfolding old_file
  old_of j session w last w' c = c

-- ---- the request

-- it was refused, or answered with such an entry
abbrev pub EndsSo : (Entry → Type 0) → Answer → Type 0
EndsSo P last = ((errno : Errno) × (last ≡ answer.Refused errno))
    ⊎ ((entry : Entry) × (handle : ℕ) × (options : OpenOptions) × (last ≡ answer.Created entry handle options) × P
    entry)

-- What a creation leaves of contents, however it ends.
abbrev pub CreatesSo :
    Thread → Plan → Negotiated → Option SecContext → ℕ → List ℕ → ℕ → Bool → ℕ → Full → Answer → Full → Type 0
CreatesSo j plan agreed brought parent name mode kill flags w last w' =
    IsRefused w last w'
    ⊎ (((by_whom : Identity) × (j.role.asker ≡ Some by_whom)
    × (IsLeftBare brought w last w' 8 (fresh by_whom (permitted by_whom mode) 0 [])
    ⊎ (IsMadeWhole plan agreed brought w w' 8 (fresh by_whom (permitted by_whom mode) 0 []) parent name
    × EndsSo (λ entry. IsToldSo plan w agreed parent name entry w') last × LentTo (asked_for flags) last w')))
    ⊎ ((dir : ℕ) × (object : ℕ) × (e : Full) × Calm w e × (e.past.numbers parent ≡ Some dir)
    × (0 < live_count parent e.tables) × ((world_of e).tree.names dir name ≡ Some object)
    × ClearsSo (includes flags o_trunc) plan.capability w last w' object
    (emptied_so plan j.seat kill flags (is_file_kind (slice_get (objects_at w) object)))
    × EndsSo (λ entry. (g : Full) × IsLooked plan agreed e g parent name entry) last
    × LentTo (opened_for agreed flags) last w'))

some_same : {one other : ℕ} → Some one ≡ Some other → one ≡ other
some_same e = cc

pub creates_so : (plan : Plan) (asked : FileAsked) (j : Thread) (w : Full) (last : Answer) (w' : Full) →
    last ≢ answer.NoMemory →
    ((fd : Fd) (how : OpenFlags) → j.role.lacks (call.Reopen fd how) ≡ fsetid_if (drops_fsetid plan j.seat
    asked.kill)) →
    At j (begin (create plan j.seat asked)) w last w' →
    CreatesSo j plan w.tables.negotiated asked.ext.secctx asked.parent asked.name asked.mode asked.kill asked.flags w
    last w'
unfolding make_file
creates_so plan asked j w last w' n lacks c =
    walk_begin j _ w last w' n c inl (λ session b q z k.
    walk_named j asked.name _ b last w' k (λ r. inl (refused_from w b last w' q.keeps r)) (λ k.
    walk_resolve j asked.parent _ b last w' n k (λ r. inl (refused_from w b last w' q.keeps r)) (λ directory d rd k.
    let qd = calm_on w b d q rd.calm in
    walk_label j plan session.agreed brought (λ label. file_of directory.form (in_dir session label)) d last w' k
    (λ label il k.
    walk_file j directory.form (in_dir session label) d last w' k (λ k.
    walk_asker j d last w' n (λ r. inl (refused_from w d last w' qd.keeps r))
    (asker_of plan session asked.who asked.ext.sup_gid) (umask_of session (Some asked.umask))
    (makes session label (fd_of directory.form))
    (comes_law j (in_dir session label (fd_of directory.form)) d last w' (comes_at k)) k (λ e x k.
    let qe = calm_on w d e qd (bared_calm j d e x) in
    walk_make_at j (fd_of directory.form) asked.name asked.flags asked.mode (takes_old asked.flags) _ e last w' n k
    (λ r. inl (refused_from w e last w' qe.keeps r))
    (λ fd f h m y k. made_new session label directory b d e f h fd
    (subst (λ (a : Negotiated). IsLabelOf plan a brought label) z il) rd q x qe z m y k)
    (λ mid f qf k. found_old session f (calm_on w e f qe qf) z k)))))))
  where
    brought : Option SecContext
    brought = asked.ext.secctx

    Goal : Type 0
    Goal = CreatesSo j plan w.tables.negotiated brought asked.parent asked.name asked.mode asked.kill asked.flags w last
        w'

    makes : BegunSession → Option Label → Fd → RequestTree
    makes session label dir = make_at dir asked.name (making_flags asked.flags) asked.mode (takes_old asked.flags)
        (λ made. made_file plan j.seat session asked label dir made (ends_in plan asked))

    in_dir : BegunSession → Option Label → Fd → RequestTree
    in_dir session label dir =
        as_asker j.seat (asker_of plan session asked.who asked.ext.sup_gid)
        (under_umask (umask_of session (Some asked.umask)) (makes session label dir))

    made_new : (session : BegunSession) (label : Option Label) (directory : Resolved) (b d e f h : Full) (fd : Fd) →
        IsLabelOf plan w.tables.negotiated brought label → IsResolved j b d asked.parent directory → Calm w b →
        Bared j d e → Calm w e → session.agreed ≡ w.tables.negotiated →
        Makes j e (Calls (call.OpenAt (fd_of directory.form) asked.name (making_flags asked.flags) asked.mode))
        (Host (host.Ok (value.Fd fd))) f → Bared j f h →
        At j (new_file plan session asked label (fd_of directory.form) fd (ends_in plan asked)) h last w' → Goal
    made_new session label directory b d e f h fd il rd q x qe z m y c =
        new_of plan asked j session label dir fd h last w' n c (λ r. stat_refused brought label il c r) (λ told i mi ci.
        let ki = leaves_keeps j h i (Calls (call.Stat fd)) (Host (host.Ok (value.Stat told))) mi
        (stat_leaves fd (Host (host.Ok (value.Stat told)))) in
        let same : (world_of i).tree ≡ (world_of f).tree = mi.2.goes.made.0.0.trees.changes.5
        ∙ ap (λ (v : World). v.tree) y.world in
        walk_labelled Goal plan w.tables.negotiated j w i 8 is (made_then w h i 8 is there ki) last w' n fd
        (call.Unlink dir asked.name) brought label il tt (looks_in plan asked session fd told)
        (subst (λ (t : Tree). IsOpenOn t fd (length (objects_at w))) (sym same) open_on) ci
        (λ r b. inr (inl (
          who_is,
          asked_as,
          inl (left_bare brought w i last w' 8 is (made_then w h i 8 is there ki) b
              r),
        ))) (λ g made fds k. looked_behind told i mi same g made fds k))
      where
        dir : Fd
        dir = fd_of directory.form

        who_is : Identity
        who_is = identity_of e.seat

        is : ObjectContents
        is = fresh who_is (permitted who_is asked.mode) 0 []

        asked_as : j.role.asker ≡ Some who_is
        asked_as = subst (λ (b : Bool). IsCalledAs j.role j.seat e.seat
            (call.OpenAt dir asked.name (making_flags asked.flags) asked.mode) false b) (creates asked.flags)
            m.2.as_asked

        there : HasMade w h 8 is
        there = made_then w f h 8 is (made_from w e f 8 is qe.keeps
            (was_created j e f dir asked.name asked.flags asked.mode (value.Fd fd) m)) y.keeps

        new : IsCreated e f dir asked.name fd
        new = created e f dir asked.name asked.flags asked.mode fd m.2.goes.made.0.0.trees.changes

        long : length (objects_at e) ≡ length (objects_at w)
        long = ap (length {A = Object}) qe.keeps.objects

        open_on : IsOpenOn (world_of f).tree fd (length (objects_at w))
        open_on = subst (λ (object : ℕ). IsOpenOn (world_of f).tree fd object) long new.open_on

        dir_open : IsOpenOn (world_of e).tree dir rd.there.object
        dir_open = subst (λ (t : Tree). IsOpenOn t dir rd.there.object)
            (sym (ap (λ (v : World). v.tree) x.world ∙ rd.there.tree)) rd.there.open_on

        leads : (world_of f).tree.names rd.there.object asked.name ≡ Some (length (objects_at w))
        leads = ap (λ (o : ℕ). (world_of f).tree.names o asked.name)
            (one_object (world_of e).tree dir rd.there.object new.at dir_open new.dir_open) ∙ new.leads
            ∙ ap (λ (o : ℕ). Some o) long

        still_named : bare_tree (world_of w').tree ≡ bare_tree (world_of f).tree →
            IsNamedStill w w' asked.parent asked.name
        still_named same = record {
          e = b;
          calm = q;
          dir = rd.there.object;
          is_dir = rd.there.is_object;
          live = rd.there.live;
          leads = ap (λ (t : Tree). t.names rd.there.object asked.name) same ∙ leads;
        }

        -- its attributes were not told: it has no context yet
        stat_refused : (context : Option SecContext) (label : Option Label) →
            IsLabelOf plan w.tables.negotiated context label →
            At j (new_file plan session asked label dir fd (ends_in plan asked)) h last w' → IsRefused h last w' →
            CreatesSo j plan w.tables.negotiated context asked.parent asked.name asked.mode asked.kill asked.flags w
            last w'
        stat_refused None None l c r = inr (inl (
          who_is,
          asked_as,
          inr (
            record {
              is = is;
              in_context = refl;
              made = made_then w h w' 8 is there r.keeps;
              named = still_named (bare_tree_of plan asked j session dir fd h last w' c
                  ∙ ap (λ (v : World). bare_tree v.tree) y.world);
            },
            inl (r.errno, r.is),
            lent_none (asked_for asked.flags) last w' (r.errno, r.is),
          ),
        ))
        stat_refused (Some context) (Some label) l c r =
            inr (inl (who_is, asked_as, inl (left_bare (Some context) w h last w' 8 is there refl r)))
        stat_refused None (Some label) l c r = absurd l
        stat_refused (Some context) None l c r = absurd l

        made_end : (i g : Full) → (world_of i).tree ≡ (world_of f).tree →
            Labelled plan w.tables.negotiated brought w i g 8 is → Keeps g w' →
            bare_tree (world_of w').tree ≡ bare_tree (world_of g).tree →
            EndsSo (λ entry. IsToldSo plan w w.tables.negotiated asked.parent asked.name entry w') last →
            LentTo (asked_for asked.flags) last w' → Goal
        made_end i g same made k tree end lent = inr (inl (
          who_is,
          asked_as,
          inr (
            record {
              is = made.is;
              in_context = made.in_context;
              made = made_then w g w' 8 made.is made.made k;
              named = still_named (tree ∙ made.quiet.still.tree ∙ ap bare_tree same);
            },
            end,
            lent,
          ),
        ))

        -- what it was opened for, and that it is open
        opened_fd : ((opened : Opened) × IsOpenAs f.state fd opened)
            × (access_in f.state fd ≡ asked_for asked.flags)
        opened_fd =
            let s = opened_as_asked e.state e.seat (call.OpenAt dir asked.name (making_flags asked.flags) asked.mode)
            (host.Ok (value.Fd fd)) f.state f.seat m.2.made.0 fd (making_flags asked.flags) refl refl in
            (s.0, s.1 ∙ asks_made asked.flags)

        -- its handle may be used for that
        lent_new : (told : Stat) (i g on : Full) →
            Makes j h (Calls (call.Stat fd)) (Host (host.Ok (value.Stat told))) i → KeepsFds i.state g.state →
            (looked : Looked) → IsLooked plan session.agreed g on asked.parent asked.name looked.entry →
            At j (same_in plan asked session fd told looked) on last w' → LentTo (asked_for asked.flags) last w'
        lent_new told i g on mi fds looked l k = go (same_lends plan asked j session fd told looked on last w' n k)
          where
            at : GoesOn f.state g.state fd opened_fd.0.0
            at = fds_on f.state h.state g.state y.fds (fds_on h.state i.state g.state
                (fds_goes j h i (Calls (call.Stat fd)) (Host (host.Ok (value.Stat told))) (λ fd e. cc) mi.1 mi.2) fds)
                fd opened_fd.0.0 opened_fd.0.1

            go : LendsFd j on.state fd (λ handle. ends_in plan asked (named_handle looked.entry handle)) last w' →
                LentTo (asked_for asked.flags) last w'
            go (inl r) = lent_none (asked_for asked.flags) last w' r
            go (inr (handle, x, a, opened, o, c)) =
                lent_so j (asked_for asked.flags) looked.entry (create_options plan.config) last w'
                (inr (handle, x, a ∙ l.fds fd opened_fd.0.0 opened at.0 o ∙ at.1 ∙ opened_fd.1, c))

        told_end : (told : Stat) (i : Full) → Makes j h (Calls (call.Stat fd)) (Host (host.Ok (value.Stat told))) i →
            (world_of i).tree ≡ (world_of f).tree → (g : Full) →
            Labelled plan w.tables.negotiated brought w i g 8 is → KeepsFds i.state g.state → (looked : Looked)
            (on : Full) →
            IsLooked plan session.agreed g on asked.parent asked.name looked.entry →
            At j (same_in plan asked session fd told looked) on last w' →
            bare_tree (world_of w').tree ≡ bare_tree (world_of g).tree → Goal
        told_end told i mi same g made fds looked on l k tree =
            let later = left_by j (same_in plan asked session fd told looked) on last w'
            (same_leaves plan asked session fd told looked) k in
            let tables = mi.2.goes.made.1 ∙ ap (λ (v : World). v.tables) y.world ∙ m.2.goes.made.1 in
            let so : IsToldSo plan w w.tables.negotiated asked.parent asked.name looked.entry w' = record {
              e = e;
              calm = qe;
              g = g;
              on = on;
              numbers = made.quiet.still.past ∙ ap (λ p. p.numbers) mi.2.goes.past
                  ∙ ap (λ (v : World). v.past.numbers) y.world ∙ ap (λ p. p.numbers) m.2.goes.past;
              falls = λ n. (let a = made.quiet.falls n in let b = ap (live_count n) tables in omega (arith, a, b));
              looked = subst (λ (a : Negotiated). IsLooked plan a g on asked.parent asked.name looked.entry) z l;
              tree = tree;
              later = later;
            } in
            made_end i g same made (keeps_on g on w' l.keeps later) tree
            (ends_with (EndsSo (λ entry. IsToldSo plan w w.tables.negotiated asked.parent asked.name entry w'))
            (λ errno. inl (errno, refl)) j (same_in plan asked session fd told looked) on last w' n
            (same_ends plan asked
            (EndsSo (λ entry. IsToldSo plan w w.tables.negotiated asked.parent asked.name entry w')) session fd told
            looked
            (inl (estale, refl)) (λ handle. inr (looked.entry, handle, create_options plan.config, refl, so))).by
            (comes_at k)) (lent_new told i g on mi fds looked l k)

        looked_behind : (told : Stat) (i : Full) →
            Makes j h (Calls (call.Stat fd)) (Host (host.Ok (value.Stat told))) i →
            (world_of i).tree ≡ (world_of f).tree → (g : Full) →
            Labelled plan w.tables.negotiated brought w i g 8 is → KeepsFds i.state g.state →
            At j (looks_in plan asked session fd told) g last w' → Goal
        looked_behind told i mi same g made fds c =
            let tree = tree_throughout j (looks_in plan asked session fd told) g last w'
            (leaving_look_up plan session asked.parent asked.name _ (same_leaves plan asked session fd told)).by
            (comes_at c) in
            walk_look_up j plan session asked.parent asked.name _ g last w' n c
            (λ r. made_end i g same made r.keeps tree (inl (r.errno, r.is))
            (lent_none (asked_for asked.flags) last w' (r.errno, r.is)))
            (λ looked seen on l ids k. told_end told i mi same g made fds looked on l k tree)

    opens : BegunSession → Looked → RequestTree
    opens session looked = open_num plan j.seat session looked.entry.inode asked.kill asked.flags (λ handle.
        ends_in plan asked (named_handle looked.entry handle))

    found_old : (session : BegunSession) (e : Full) → Calm w e → session.agreed ≡ w.tables.negotiated →
        At j (old_file plan j.seat session asked (ends_in plan asked)) e last w' → Goal
    found_old session e qe z c =
        walk_look_up j plan session asked.parent asked.name (opens session) e last w' n
        (old_of plan asked j session e last w' c)
        (λ r. inl (refused_from w e last w' qe.keeps r)) (λ looked seen g l ids cg.
        let l' = subst (λ (a : Negotiated). IsLooked plan a e g asked.parent asked.name looked.entry) z l in
        opened looked g l' (ends_with (EndsSo (λ entry. (g : Full)
        × IsLooked plan w.tables.negotiated e g asked.parent asked.name entry))
        (λ errno. inl (errno, refl)) j (opens session looked) g last w' n
        (ending_open_num plan j.seat session looked.entry.inode asked.kill asked.flags _ (λ errno. inl (errno, refl))
        (λ handle. record { by = inr (looked.entry, handle, create_options plan.config, refl, (g, l')) })).by
        (comes_at cg))
        (subst (λ (a : Negotiated). OpensSo j plan a asked.kill asked.flags looked.entry.inode (named_in looked) w g
        last w') z (opens_so plan session looked.entry.inode asked.kill asked.flags (named_in looked) j w g last w' n
        lacks (λ handle. record { by = tt }) (keeps_on w e g qe.keeps l'.keeps) cg)))
      where
        named_in : Looked → ℕ → RequestTree
        named_in looked handle = ends_in plan asked (named_handle looked.entry handle)

        opened : (looked : Looked) (g : Full) →
            IsLooked plan w.tables.negotiated e g asked.parent asked.name looked.entry →
            EndsSo (λ entry. (g : Full) × IsLooked plan w.tables.negotiated e g asked.parent asked.name entry) last →
            OpensSo j plan w.tables.negotiated asked.kill asked.flags looked.entry.inode (named_in looked) w g last w' →
            Goal
        opened looked g l end (inl k) = inl (record { errno = k.0; is = k.1; keeps = k.2 })
        opened looked g l end (inr o) =
            let same = some_same (sym (ap (λ f. f looked.entry.inode) o.2.quiet.still.past ∙ l.stands) ∙ o.3) in
            inr (inr (
              l.dir,
              o.0,
              e,
              qe,
              l.is_dir,
              l.live,
              l.leads ∙ ap (λ (z : ℕ). Some z) same,
              o.5,
              end,
              lent_so j (opened_for w.tables.negotiated asked.flags) looked.entry (create_options plan.config) last w'
                  o.7,
            ))
