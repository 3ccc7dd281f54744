-- Proof. `create`: a file is made, looked up and opened by a handle, or one that is there is looked up and opened.
use Rattle.std.proofs.Common.{◌≡◌, ◌≤◌, inl, inr, ℕ, ◌+◌, List, Bool, true, false, Option, Some, refl}
use Rattle.std.proofs.Common.{sym, ap, subst, ◌∙◌, arith}
use Rattle.std.specs.Prelude.{not, if◌then◌else◌}
use Rattle.pt_host.specs.Errno.{estale}
use Rattle.pt_host.specs.Flags.{includes, o_excl}
use Rattle.pt_host.specs.Names.{MakesObject, TakesName}
use Rattle.pt_host.specs.Tree.{Tree, IsOpenOn}
use Rattle.pt_host.specs.Words.{is}
use Rattle.pt_host.specs.declared.ids.Errno.{Errno}
use Rattle.pt_host.specs.declared.ids.Fd.{Fd}
use Rattle.pt_host.specs.declared.op.KeptHostOp.TheVariants as call
use Rattle.pt_host.specs.declared.seat.HostSeat.{HostSeat}
use Rattle.pt_host.specs.declared.stat.Stat.{Stat}
use Rattle.pt_tables.specs.declared.reply.Resolved.{Resolved}
use Rattle.pt_iface.specs.declared.answer.Answer.{Answer}
use Rattle.pt_iface.specs.declared.answer.Answer.TheVariants as answer
use Rattle.pt_iface.specs.declared.entry.Entry.{Entry}
use Rattle.pt_iface.specs.declared.request.Context.{Context}
use Rattle.pt_iface.specs.declared.request.Extensions.{Extensions}
use Rattle.pt_iface.specs.declared.request.Request.{Request}
use Rattle.pt_iface.specs.declared.request.Request.TheVariants as request
use Rattle.pt_frame.specs.Tree.{RequestTree, Bares, Gives as GivesAnswer, on}
use Rattle.pt_frame.specs.declared.act.ActReply.{ActReply}
use Rattle.pt_frame.specs.declared.finish.Finish.TheVariants as finish
use Rattle.pt_req.specs.Asker.{asker_of, umask_of, under_umask}
use Rattle.pt_req.specs.Attributes.{Label, host_label}
use Rattle.pt_req.specs.Options.{create_options, making_flags}
use Rattle.pt_req.specs.Parts.{file_of, handled as gets_handle, look_up, named, open_num}
use Rattle.pt_req.specs.Steps.{begin, made_in, make_at, resolve}
use Rattle.pt_req.specs.declared.begun.BegunSession.{BegunSession}
use Rattle.pt_req.specs.declared.parts.looked.Looked.{Looked}
use Rattle.pt_req.specs.declared.plan.Plan.{Plan}
use Rattle.pt_req.specs.declared.replies.Made.{Made}
use Rattle.pt_req.specs.declared.replies.Made.TheVariants.{New, Old}
use Rattle.pt_attr.specs.Creating.{FileAsked, are_same, create, file_asked, if_same, labelled, made_file, make_file}
use Rattle.pt_attr.specs.Creating.{named_handle, new_file, old_file, takes_old}
use Rattle.pt_attr.specs.declared.parts.creating.NamedHandle.{NamedHandle}
use Rattle.pt_law.specs.Settled.{entry_count}
use Rattle.pt_law.specs.World.{World, fd_of}
use Rattle.pt_law.proofs.Givings.{live_count}
use Rattle.pt_law.proofs.Knowing.{one_object}
use Rattle.pt_plain.specs.Plain.{PlainTree, Gives, Stands}
use Rattle.pt_plain.specs.Serves.{LeavesMade, OpensNumber, Serves, named_by}
use Rattle.pt_plain.proofs.Coming.{Law}
use Rattle.pt_plain.proofs.Counting.{IsEven}
use Rattle.pt_plain.proofs.Created.{created_so, IsMadeOpen, number_is, shown_back, steady_open, walk_make_at}
use Rattle.pt_plain.proofs.Entering.{IsLooked, IsNumbered, looked_from, numbered_on, walk_look_up}
use Rattle.pt_plain.proofs.Labelling.{IsPassed, IsUndone, walk_label, walk_labelled, walk_undone}
use Rattle.pt_plain.proofs.Making.{walk_asker, walk_umask}
use Rattle.pt_plain.proofs.Naming.{takes_bare, unlink_takes}
use Rattle.pt_plain.proofs.Opening.{handle_between, IsNewHandle, IsOpenedBy, walk_handled, walk_open_num}
use Rattle.pt_plain.proofs.Passing.{ends, even_also, even_passes, Passes, passes_asker, passes_bares, passes_begin}
use Rattle.pt_plain.proofs.Passing.{passes_file, passes_handled, passes_label, passes_labelled, passes_look_up}
use Rattle.pt_plain.proofs.Passing.{passes_named, passes_on, passes_open_num, passes_resolve, passes_stat}
use Rattle.pt_plain.proofs.Passing.{passes_umask, passes_unless}
use Rattle.pt_plain.proofs.Serving.{Alone, counts, IsServed, shows_still, stands, walked}
use Rattle.pt_plain.proofs.Showing.{bare_tree, Shows}
use Rattle.pt_plain.proofs.Steady.{bare_makes, refused_behind, shows_with, Steady, steady_looked, steady_on}
use Rattle.pt_plain.proofs.Steady.{steady_then, with_tree}
use Rattle.pt_plain.proofs.Through.{Stood}
use Rattle.pt_plain.proofs.Walking.{At, At.{by}, idles_quiet, IsRefused, IsResolved, Quiet, quiet_none, quiet_on}
use Rattle.pt_plain.proofs.Walking.{refused_from, refused_with, some_is, walk_begin, walk_file, walk_named}
use Rattle.pt_plain.proofs.Walking.{walk_resolve, walk_stat}

-- The opening that makes.

-- Counts.
even_create : (plan : Plan) (seat : HostSeat) (asked : FileAsked) (state : PlainTree) →
    Passes IsEven state (λ last. Unit {0}) (begin (create plan seat asked))
unfolding make_file new_file old_file if_same
even_create plan seat asked state =
    passes_begin even_also _ (λ session. passes_named even_also asked.name tt (
    passes_resolve even_also asked.parent _ (λ row. passes_label even_also plan session.agreed asked.ext.secctx _
    (λ label. passes_file even_also row.form _ (λ dir.
    passes_asker even_also seat (asker_of plan session asked.who asked.ext.sup_gid) (λ k. tt) (
    passes_umask even_also (umask_of session (Some asked.umask)) (
    record { by = (tt, λ told. (passes_told session label dir told).by) })))))))
  where
    ends_so : NamedHandle → RequestTree
    ends_so file = GivesAnswer (answer.Created file.entry file.handle (create_options plan.config))

    either : BegunSession → Option Label → Fd → Made → RequestTree
    either session label dir made = made_file plan seat session asked label dir made ends_so

    even_made : (session : BegunSession) (label : Option Label) (dir : Fd) (made : Made) →
        Passes IsEven state (λ last. Stood state asked.parent → Unit {0}) (either session label dir made)
    even_made session label dir (New fd) =
        passes_stat even_also fd _ (λ told.
        passes_labelled even_also (λ last k. tt) fd (call.Unlink dir asked.name) label tt (
        passes_look_up even_also plan session asked.parent asked.name _ (λ told. tt) (λ fresh fd told. tt) (λ looked.
        passes_unless even_also (are_same told.ids looked.ids) estale (λ k l. tt) (
        passes_handled even_also session looked.entry.inode fd _ (λ handle. tt) (λ handle.
        ends even_also (λ k l. tt))))))
    even_made session label dir Old =
        passes_look_up even_also plan session asked.parent asked.name _ (λ told. tt) (λ fresh fd told. tt) (λ looked.
        passes_open_num even_also plan seat session looked.entry.inode asked.kill asked.flags _ (λ k l m. tt)
        (λ handle fd. tt) (λ handle. ends even_also (λ k l m. tt)))

    passes_told : (session : BegunSession) (label : Option Label) (dir : Fd) (told : ActReply) →
        Passes IsEven state (λ last. Stood state asked.parent → Unit {0})
        (Bares (on (made_in (takes_old asked.flags)) (either session label dir) told))
    passes_told session label dir told = passes_bares even_also (record {
      by = passes_on {state = state} even_also (made_in (takes_old asked.flags)) (either session label dir)
          (even_made session label dir) told;
    })

pub served_create : (plan : Plan) (j : ℕ) (seat : HostSeat) (who : Context) (parent : ℕ) (name : List ℕ) (mode : ℕ)
    (kill : Bool) (flags umask : ℕ) (ext : Extensions) (w : World) (last : Answer) (w' : World) (state : PlainTree) →
    Shows w state → Law w →
    Alone j seat (begin (create plan seat (file_asked who parent name mode kill flags umask ext))) w last w' →
    IsServed plan (request.Create parent name mode kill flags umask ext) state last w'
unfolding make_file new_file old_file if_same
served_create plan j seat who parent name mode kill flags umask ext w last w' state s low a =
    walk_begin j asks w last w' a.given (walked j seat (begin asks) w last w' a) out (λ session b qb cb.
    walk_named j name (resolve parent (in_row session)) b last w' cb (λ r. out (refused_from w b last w' qb r)) (λ cn.
    walk_resolve j parent (in_row session) b last w' a.given cn (λ r. out (refused_from w b last w' qb r))
    (λ row d rd cd.
    let qd = quiet_on w b d qb rd.quiet in
    walk_label j plan session.agreed ext.secctx (λ label. file_of row.form (in_dir session label)) d last w' cd
    (λ label cl.
    walk_file j row.form (in_dir session label) d last w' cl (λ cf.
    walk_asker j d last w' a.given (λ r. out (refused_from w d last w' qd r)) seat
    (asker_of plan session who ext.sup_gid) (masked session label (fd_of row.form)) cf (λ cm.
    walk_umask j d last w' a.given (λ r. out (refused_from w d last w' qd r)) (umask_of session (Some umask))
    (makes session label (fd_of row.form)) cm (λ ck.
    walk_make_at j (fd_of row.form) name flags mode (takes_old flags) (either session label (fd_of row.form)) d last w'
    a.given ck (λ r. out (refused_from w d last w' qd r))
    (λ fd e m ce. made_new session label b d e row rd fd m qb qd ce)
    (λ e qe no_excl ce. found_old session e (quiet_on w d e qd qe) no_excl ce))))))))
  where
    file : FileAsked
    file = file_asked who parent name mode kill flags umask ext

    asked : Request
    asked = request.Create parent name mode kill flags umask ext

    ends_so : NamedHandle → RequestTree
    ends_so named = GivesAnswer (answer.Created named.entry named.handle (create_options plan.config))

    opens : BegunSession → Looked → RequestTree
    opens session looked = open_num plan seat session looked.entry.inode kill flags (λ handle.
        ends_so (named_handle looked.entry handle))

    olds : BegunSession → RequestTree
    olds session = look_up plan session parent name (opens session)

    gets : BegunSession → Fd → Entry → RequestTree
    gets session fd entry = gets_handle session entry.inode fd (λ handle. ends_so (named_handle entry handle))

    same : BegunSession → Fd → Stat → Looked → RequestTree
    same session fd told looked = if_same told.ids looked.ids (gets session fd looked.entry)

    looks_up : BegunSession → Fd → Stat → RequestTree
    looks_up session fd told = look_up plan session parent name (same session fd told)

    seen : BegunSession → Option Label → Fd → Fd → Stat → RequestTree
    seen session label dir fd told = labelled fd (call.Unlink dir name) label (looks_up session fd told)

    either : BegunSession → Option Label → Fd → Made → RequestTree
    either session label dir made = made_file plan seat session file label dir made ends_so

    makes : BegunSession → Option Label → Fd → RequestTree
    makes session label dir = make_at dir name (making_flags flags) mode (takes_old flags) (either session label dir)

    masked : BegunSession → Option Label → Fd → RequestTree
    masked session label dir = under_umask (umask_of session (Some umask)) (makes session label dir)

    in_dir : BegunSession → Option Label → Fd → RequestTree
    in_dir session label dir = make_file plan seat session file label dir ends_so

    in_row : BegunSession → Resolved → RequestTree
    in_row session row = host_label plan session.agreed ext.secctx (λ label. file_of row.form (in_dir session label))

    asks : BegunSession → RequestTree
    asks session = create plan seat file session

    all : (n : ℕ) → live_count n w'.tables ≡ live_count n w.tables + entry_count n (finish.Answer last)
    all = counts j seat (begin asks) w last w' a (even_passes (even_create plan seat file state))

    refuse : (errno : Errno) → last ≡ answer.Refused errno → (after : PlainTree) → LeavesMade state parent name after →
        Shows w' after → IsServed plan asked state last w'
    refuse errno e after l sh = (after, subst (λ (x : Answer). Serves plan asked state x after) (sym e) l, sh)

    none_given : (errno : Errno) → last ≡ answer.Refused errno → (n : ℕ) →
        live_count n w'.tables ≡ live_count n w.tables
    none_given errno e n =
        let k = all n in let z = ap (λ (x : Answer). entry_count n (finish.Answer x)) e in omega (arith, k, z)

    one_given : (entry : Entry) (handle : ℕ) → last ≡ answer.Created entry handle (create_options plan.config) →
        (n : ℕ) →
        live_count n w'.tables ≡ live_count n w.tables + is entry.inode n
    one_given entry handle e n =
        let k = all n in let z = ap (λ (x : Answer). entry_count n (finish.Answer x)) e in omega (arith, k, z)

    out : IsRefused w last w' → IsServed plan asked state last w'
    out r = refuse r.errno r.is state (inl refl) (shows_still w w' state s r.quiet.still (none_given r.errno r.is))

    -- a handle for what was looked up, from a world in which it was given
    gives_handle : (v g : World) (state1 : PlainTree) (session : BegunSession) (fd : Fd) (entry : Entry) (object : ℕ) →
        Shows v state1 → ((n : ℕ) → live_count n v.tables ≡ live_count n w.tables) →
        ((n : ℕ) → v.tables.next_number ≤ n → live_count n v.tables ≡ 0) → IsNumbered v g object entry.inode →
        (g.past.resolved j entry.inode ≡ Some object) →
        ((errno : Errno) → last ≡ answer.Refused errno → Shows w' state1 → IsServed plan asked state last w') →
        ((handle : ℕ) → last ≡ answer.Created entry handle (create_options plan.config) → (mid : PlainTree) →
        Gives state1 object entry.inode mid → (after : PlainTree) → OpensNumber mid entry.inode handle after →
        Shows w' after → IsServed plan asked state last w') →
        At j (gets session fd entry) g last w' → IsServed plan asked state last w'
    gives_handle v g state1 session fd entry object sv cv lv i noted bad good c =
        walk_handled j session entry.inode object fd (λ handle. ends_so (named_handle entry handle)) g last w' a.given
        noted c
        (λ r. bad r.errno r.is (shown_back v w' state1 object entry.inode sv lv
        (numbered_on v g w' object entry.inode i r.quiet) (λ n.
        let x = none_given r.errno r.is n in let y = cv n in omega (arith, x, y))))
        (λ handle f h cf. answered handle f h cf)
      where
        answered : (handle : ℕ) (f : World) → IsNewHandle g f entry.inode object handle →
            At j (ends_so (named_handle entry handle)) f last w' → IsServed plan asked state last w'
        answered handle f h (by k) =
            let made = created_so v g w' state1 object entry.inode handle sv lv a.law i
            (handle_between g g f w' entry.inode object handle (quiet_none g) h (idles_quiet j f w' k.1))
            (λ n. let x = one_given entry handle k.0 n in let y = cv n in omega (arith, x, y)) in
            good handle k.0 made.0 made.1 made.2.0 made.2.1 made.2.2

    -- A new file.

    made_new : (session : BegunSession) (label : Option Label) (b d e : World) (row : Resolved) →
        (rd : IsResolved j b d parent (fd_of row.form)) (fd : Fd) → (m : IsMadeOpen d e (fd_of row.form) name) →
        Quiet w b → Quiet w d → At j (either session label (fd_of row.form) (New fd)) e last w' →
        IsServed plan asked state last w'
    made_new session label b d e row rd fd m qb qd c =
        walk_stat j fd (seen session label dir fd) e last w' a.given c (λ r. behind r.errno r.is r.quiet)
        (λ told f sf cf.
        walk_labelled j dir rd.object fd (call.Unlink dir name) label (looks_up session fd told) f last w' a.given
        (subst (λ (t : Tree). IsOpenOn t dir rd.object) (sym sf.tree) (m.keeps dir rd.object dir_open)) cf
        (λ r. behind r.errno r.is (quiet_on e f w' sf.quiet r.quiet))
        (λ x qx tx cx. named_new session fd told x (quiet_on e f x sf.quiet qx) (tx ∙ sf.tree) cx)
        (λ given x r p cx. walk_undone j (call.Unlink dir name) given x last w' tt r a.given cx
        (λ y. behind y.errno y.is (quiet_on e x w' (quiet_on e f x sf.quiet p.quiet) y.quiet))
        (λ u. undone_so f sf.quiet x p u)))
      where
        dir : Fd
        dir = fd_of row.form

        q : Steady w e
        q = steady_open w d e dir name qd m

        state1 : PlainTree
        state1 = named_by state (bare_tree e.tree)

        is_dir : w.past.numbers parent ≡ Some rd.object
        is_dir = ap (λ f. f parent) (sym qb.still.past) ∙ rd.is_object

        stood : Stands state parent rd.object
        stood = stands w state parent rd.object s is_dir
            (let x = qb.falls parent in let y = rd.live in omega (arith, x, y))

        dir_open : IsOpenOn d.tree dir rd.object
        dir_open = subst (λ (t : Tree). IsOpenOn t dir rd.object) (sym rd.tree) rd.open_on

        at : m.at ≡ rd.object
        at = one_object d.tree dir m.at rd.object m.dir_open dir_open

        new : MakesObject state.tree rd.object name (bare_tree e.tree)
        new = subst (λ o. MakesObject state.tree o name (bare_tree e.tree)) at
            (subst (λ (t : Tree). MakesObject t m.at name (bare_tree e.tree)) (qd.still.tree ∙ sym s.tree)
            (subst (λ (t : Tree). MakesObject (bare_tree d.tree) m.at name t) (sym m.tree)
            (bare_makes d.tree m.at name m.later m.makes)))

        left : LeavesMade state parent name state1
        left = inr (rd.object, stood, (bare_tree e.tree, new, inl refl))

        behind : (errno : Errno) → last ≡ answer.Refused errno → Quiet e w' → IsServed plan asked state last w'
        behind errno er r = refuse errno er state1 left (refused_behind w e w' state s q r (none_given errno er))

        undone_so : (f : World) → Quiet e f → (x : World) → IsPassed f x dir rd.object →
            IsUndone x w' (call.Unlink dir name) last → IsServed plan asked state last w'
        undone_so f qf x p u = elim u.goes [
          | inl r ↦ behind u.errno u.is (quiet_on e x w' (quiet_on e f x qf p.quiet) r)
          | inr g ↦
              let t = unlink_takes x g.0 dir name g.1 in
              let qx = quiet_on e f x qf p.quiet in
              refuse u.errno u.is (named_by state (bare_tree g.0.tree))
              (inr (
                rd.object,
                stood,
                (
                  bare_tree e.tree,
                  new,
                  inr (
                    bare_tree g.0.tree,
                    subst (λ (y : Tree). TakesName y rd.object name (bare_tree g.0.tree)) qx.still.tree
                        (subst (λ o. TakesName (bare_tree x.tree) o name (bare_tree g.0.tree)) (p.at t.0 t.1)
                        (takes_bare x.tree t.0 name g.0.tree t.2)),
                    refl,
                  ),
                ),
              ))
              (refused_behind w g.0 w' state s (steady_then w x g.0 (call.Unlink dir name) (steady_on w e x q qx) g.1)
              g.2
              (none_given u.errno u.is))
        ]

        -- its name is looked up in this world, which has the tree that the making left
        named_new : (session : BegunSession) (fd : Fd) (told : Stat) (x : World) → Quiet e x → x.tree ≡ e.tree →
            At j (looks_up session fd told) x last w' → IsServed plan asked state last w'
        named_new session fd told x qx tx cx =
            walk_look_up j plan session parent name (same session fd told) x last w' a.given cx
            (λ r. behind r.errno r.is (quiet_on e x w' qx r.quiet)) (λ looked g l noted cg.
            is_it looked g l noted (are_same told.ids looked.ids) cg)
          where
            v : World
            v = with_tree w e.tree

            number : (looked : Looked) (g : World) → IsLooked x g parent name looked.entry.inode →
                IsLooked v g parent name looked.entry.inode
            number looked g l = steady_looked w e g parent name looked.entry.inode q
                (looked_from e x g parent name looked.entry.inode qx l)

            entered : (looked : Looked) (g : World) → (i : IsLooked v g parent name looked.entry.inode) → (handle : ℕ) →
                last ≡ answer.Created looked.entry handle (create_options plan.config) → (mid : PlainTree) →
                Gives state1 i.object looked.entry.inode mid → (after : PlainTree) →
                OpensNumber mid looked.entry.inode handle after → Shows w' after → IsServed plan asked state last w'
            entered looked g i handle er mid gives after opens sh =
                let dir = some_is (sym i.is_dir ∙ is_dir) in (
                  after,
                  subst (λ (y : Answer). Serves plan asked state y after) (sym er) (
                    mid,
                    inl (
                      rd.object,
                      stood,
                      (
                        bare_tree e.tree,
                        new,
                        (i.object, ap (λ o. e.tree.names o name) (sym dir) ∙ i.leads, gives),
                      ),
                    ),
                    refl,
                    opens,
                  ),
                  sh,
                )

            is_it : (looked : Looked) (g : World) → (l : IsLooked x g parent name looked.entry.inode) →
                (g.past.resolved j looked.entry.inode ≡ Some l.object) → (are : Bool) →
                At j (if are then gets session fd looked.entry else GivesAnswer (answer.Refused estale)) g last w' →
                IsServed plan asked state last w'
            is_it looked g l noted false (by c) =
                let r = refused_with j g estale last w' c in
                let i = number looked g l in
                refuse r.errno r.is state1 left (shown_back v w' state1 i.object looked.entry.inode
                (shows_with w state e.tree s) low.drawn
                (numbered_on v g w' i.object looked.entry.inode i.numbered r.quiet)
                (none_given r.errno r.is))
            is_it looked g l noted true c =
                let i = number looked g l in
                let same = some_is (sym (number_is x g l.object looked.entry.inode l.numbered)
                ∙ number_is v g i.object looked.entry.inode i.numbered) in
                gives_handle v g state1 session fd looked.entry i.object (shows_with w state e.tree s) (λ n. refl)
                low.drawn
                i.numbered (noted ∙ ap (λ (z : ℕ). Some z) same) (λ errno er sh. refuse errno er state1 left sh)
                (λ handle er mid gives after opens sh. entered looked g i handle er mid gives after opens sh) c

    -- A file that was there.

    found_old : (session : BegunSession) (e : World) → Quiet w e → takes_old flags ≡ true →
        At j (olds session) e last w' → IsServed plan asked state last w'
    found_old session e qe no_excl c =
        walk_look_up j plan session parent name (opens session) e last w' a.given c
        (λ r. out (refused_from w e last w' qe r)) (λ looked g l noted cg.
        let i = looked_from w e g parent name looked.entry.inode qe l in
        walk_open_num j plan seat session looked.entry.inode kill flags (λ handle.
        ends_so (named_handle looked.entry handle)) g last w' a.given cg
        (λ r. refuse r.errno r.is state (inl refl) (shown_back w w' state i.object looked.entry.inode s low.drawn
        (numbered_on w g w' i.object looked.entry.inode i.numbered r.quiet) (none_given r.errno r.is)))
        (λ handle x o cx. answered looked g x i handle o cx))
      where
        not_set : (b : Bool) → not b ≡ true → b ≡ false
        not_set true e = absurd (cc)
        not_set false e = refl

        answered : (looked : Looked) (g x : World) → (i : IsLooked w g parent name looked.entry.inode) → (handle : ℕ) →
            IsOpenedBy g x looked.entry.inode handle → At j (ends_so (named_handle looked.entry handle)) x last w' →
            IsServed plan asked state last w'
        answered looked g x i handle o (by k) =
            let number = looked.entry.inode in
            let same = some_is (sym (number_is w g i.object number i.numbered) ∙ o.is_object) in
            let h = subst (λ (z : ℕ). IsNewHandle g x number z handle) (sym same) o.new in
            let made = created_so w g w' state i.object number handle s low.drawn a.law i.numbered
            (handle_between g g x w' number i.object handle (quiet_none g) h (idles_quiet j x w' k.1))
            (one_given looked.entry handle k.0) in (
              made.2.0,
              subst (λ (y : Answer). Serves plan asked state y made.2.0) (sym k.0) (
                made.0,
                inr (
                  not_set (includes flags o_excl) no_excl,
                  (
                    i.dir,
                    stands w state parent i.dir s i.is_dir i.live,
                    (i.object, ap (λ (t : Tree). t.names i.dir name) s.tree ∙ i.leads, made.1),
                  ),
                ),
                refl,
                made.2.1,
              ),
              made.2.2,
            )
