-- Proof. `link`: an object gets one more name, which is looked up; where that is refused, the name stays.
use Rattle.std.proofs.Common.{◌≡◌, inl, inr, ℕ, ◌+◌, List, refl, sym, ap, subst, ◌∙◌, arith}
use Rattle.pt_host.specs.LawfulTree.{TreeChanges}
use Rattle.pt_host.specs.Names.{LinksName}
use Rattle.pt_host.specs.Tree.{Tree, IsOpenOn}
use Rattle.pt_host.specs.declared.ids.Fd.{Fd}
use Rattle.pt_host.specs.declared.seat.HostSeat.{HostSeat}
use Rattle.pt_host.specs.declared.op.KeptHostOp.TheVariants as call
use Rattle.pt_host.specs.declared.reply.HostReply.TheVariants as host
use Rattle.pt_host.specs.declared.reply.HostValue.{HostValue}
use Rattle.pt_host.specs.declared.reply.HostValue.TheVariants as value
use Rattle.pt_tables.specs.declared.reply.Resolved.{Resolved}
use Rattle.pt_iface.specs.declared.answer.Answer.{Answer}
use Rattle.pt_iface.specs.declared.answer.Answer.TheVariants as answer
use Rattle.pt_iface.specs.declared.request.Request.TheVariants as request
use Rattle.pt_frame.specs.Tree.{RequestTree, Gives as GivesAnswer}
use Rattle.pt_frame.specs.declared.finish.Finish.TheVariants as finish
use Rattle.pt_req.specs.Parts.{file_of, look_up, named}
use Rattle.pt_req.specs.Steps.{begin, ok_in, resolve}
use Rattle.pt_req.specs.declared.begun.BegunSession.{BegunSession}
use Rattle.pt_req.specs.declared.plan.Plan.{Plan}
use Rattle.pt_attr.specs.Parts.{files_by}
use Rattle.pt_attr.specs.Requests.{link}
use Rattle.pt_attr.specs.Steps.{do_call}
use Rattle.pt_law.specs.Settled.{entry_count}
use Rattle.pt_law.specs.World.{World, fd_of}
use Rattle.pt_law.proofs.Givings.{live_count}
use Rattle.pt_law.proofs.Knowing.{one_object}
use Rattle.pt_plain.specs.Plain.{PlainTree, Stands}
use Rattle.pt_plain.specs.Serves.{Looks, Serves, named_by}
use Rattle.pt_plain.proofs.Coming.{Law}
use Rattle.pt_plain.proofs.Counting.{IsEven}
use Rattle.pt_plain.proofs.Making.{walk_entry}
use Rattle.pt_plain.proofs.Passing.{ends, even_also, even_passes, Passes, passes_begin, passes_call, passes_file}
use Rattle.pt_plain.proofs.Passing.{passes_look_up, passes_named, passes_resolve}
use Rattle.pt_plain.proofs.Serving.{Alone, counts, IsServed, refused_counts, shows_still, stands, walked}
use Rattle.pt_plain.proofs.Showing.{bare_tree, Shows}
use Rattle.pt_plain.proofs.Steady.{IsNamed, stands_once, steady_named, walk_naming}
use Rattle.pt_plain.proofs.Walking.{At, IsRefused, IsResolved, Quiet, quiet_on, refused_from, walk_begin, walk_file}
use Rattle.pt_plain.proofs.Walking.{walk_named, walk_resolve}

links_bare : (tree : Tree) (object dir : ℕ) (name : List ℕ) (after : Tree) → LinksName tree object dir name after →
    LinksName (bare_tree tree) object dir name (bare_tree after)
links_bare tree object dir name after l = record { free = l.free; links = ap bare_tree l.links }

pub served_link : (plan : Plan) (j : ℕ) (seat : HostSeat) (inode newparent : ℕ) (newname : List ℕ) (w : World)
    (last : Answer) (w' : World) (state : PlainTree) → Shows w state → Law w →
    Alone j seat (begin (link plan inode newparent newname)) w last w' →
    IsServed plan (request.Link inode newparent newname) state last w'
unfolding files_by
served_link plan j seat inode newparent newname w last w' state s low a =
    walk_begin j asks w last w' a.given (walked j seat (begin asks) w last w' a) out (λ session b qb cb.
    walk_named j newname (by_numbers session) b last w' cb (λ r. out (refused_from w b last w' qb r)) (λ cn.
    walk_resolve j inode (in_one session) b last w' a.given cn (λ r. out (refused_from w b last w' qb r))
    (λ one d rd cd.
    let qd = quiet_on w b d qb rd.quiet in
    walk_resolve j newparent (in_other session one) d last w' a.given cd (λ r. out (refused_from w d last w' qd r))
    (λ other e re ce.
    let qe = quiet_on w d e qd re.quiet in
    walk_file j one.form (from_file session other) e last w' ce (λ cf.
    walk_file j other.form (calls session (fd_of one.form)) e last w' cf (λ ck.
    walk_naming j (call.MakeLink (fd_of one.form) (fd_of other.form) newname) (looks_up session) e last w' tt a.given ck
    (λ r. out (refused_from w e last w' qe r)) (λ f m cf. behind session b d e f one other qb qd rd re qe m cf)))))))
  where
    looks_up : BegunSession → RequestTree
    looks_up session = look_up plan session newparent newname (λ looked. GivesAnswer (answer.Entry looked.entry))

    calls : BegunSession → Fd → Fd → RequestTree
    calls session from to = do_call (call.MakeLink from to newname) (looks_up session)

    from_file : BegunSession → Resolved → Fd → RequestTree
    from_file session other from = file_of other.form (calls session from)

    in_other : BegunSession → Resolved → Resolved → RequestTree
    in_other session one other = file_of one.form (from_file session other)

    in_one : BegunSession → Resolved → RequestTree
    in_one session one = resolve newparent (in_other session one)

    by_numbers : BegunSession → RequestTree
    by_numbers session = files_by inode newparent (λ files. calls session files.from files.to)

    asks : BegunSession → RequestTree
    asks session = named newname (by_numbers session)

    even : Passes IsEven state (λ last. Unit {0}) (begin asks)
    even = passes_begin even_also _ (λ session. passes_named even_also newname tt (
        passes_resolve even_also inode _ (λ one. passes_resolve even_also newparent _ (λ other.
        passes_file even_also one.form _ (λ from. passes_file even_also other.form _ (λ to.
        passes_call even_also (call.MakeLink from to newname) ok_in _ tt (λ done.
        passes_look_up even_also plan session newparent newname _ (λ told. tt) (λ fresh fd told. tt) (λ looked.
        ends even_also (λ k l m. tt)))))))))

    all : (n : ℕ) → live_count n w'.tables ≡ live_count n w.tables + entry_count n (finish.Answer last)
    all = counts j seat (begin asks) w last w' a (even_passes even)

    served : (given : Answer) → last ≡ given → (after : PlainTree) →
        Serves plan (request.Link inode newparent newname) state given after → Shows w' after →
        IsServed plan (request.Link inode newparent newname) state last w'
    served given e after k sh =
        (after, subst (λ (x : Answer). Serves plan (request.Link inode newparent newname) state x after) (sym e) k, sh)

    out : IsRefused w last w' → IsServed plan (request.Link inode newparent newname) state last w'
    out r = served (answer.Refused r.errno) r.is state (inl refl)
        (shows_still w w' state s r.quiet.still (refused_counts w w' last r all))

    behind : (session : BegunSession) (b d e f : World) (one other : Resolved) → Quiet w b → Quiet w d →
        (rd : IsResolved j b d inode (fd_of one.form)) → (re : IsResolved j d e newparent (fd_of other.form)) →
        Quiet w e →
        IsNamed e f (call.MakeLink (fd_of one.form) (fd_of other.form) newname) → At j (looks_up session) f last w' →
        IsServed plan (request.Link inode newparent newname) state last w'
    behind session b d e f one other qb qd rd re qe m c =
        elim (walk_entry plan j session newparent newname w f last w' state s low a.law all
        (steady_named w e f (call.MakeLink (fd_of one.form) (fd_of other.form) newname) qe m) a.given c) [
          | inl r ↦ served (answer.Refused r.0) r.1 named_state
              (inr (rd.object, first, (re.object, second, (bare_tree f.tree, linked, refl)))) r.2
          | inr g ↦ served (answer.Entry g.0) g.1 g.2.0 (
            rd.object,
            first,
            (
              re.object,
              second,
              (
                bare_tree f.tree,
                linked,
                subst (λ o. Looks named_state o newname g.0.inode g.2.0)
                    (stands_once state (bare_tree f.tree) newparent g.2.1.0 re.object g.2.1.1 second) g.2.1.2,
              ),
            ),
          ) g.2.2
        ]
      where
        named_state : PlainTree
        named_state = named_by state (bare_tree f.tree)

        first : Stands state inode rd.object
        first = stands w state inode rd.object s (ap (λ f. f inode) (sym qb.still.past) ∙ rd.is_object)
            (let x = qb.falls inode in let y = rd.live in omega (arith, x, y))

        second : Stands state newparent re.object
        second = stands w state newparent re.object s (ap (λ f. f newparent) (sym qd.still.past) ∙ re.is_object)
            (let x = qd.falls newparent in let y = re.live in omega (arith, x, y))

        made : (object : ℕ) × IsOpenOn e.tree (fd_of one.form) object ×
            ((dir : ℕ) × IsOpenOn e.tree (fd_of other.form) dir
            × LinksName e.tree object dir newname f.tree)
        made = go m.told m.changes
          where
            go : (told : HostValue) →
                TreeChanges e.tree (call.MakeLink (fd_of one.form) (fd_of other.form) newname) (host.Ok told) f.tree →
                (object : ℕ) × IsOpenOn e.tree (fd_of one.form) object
                × ((dir : ℕ) × IsOpenOn e.tree (fd_of other.form) dir × LinksName e.tree object dir newname f.tree)
            go value.Unit c = c
            go told c = absurd c.0

        from : made.0 ≡ rd.object
        from = one_object e.tree (fd_of one.form) made.0 rd.object made.1
            (subst (λ (x : Tree). IsOpenOn x (fd_of one.form) rd.object) (sym (re.tree ∙ rd.tree)) rd.open_on)

        to : made.2.0 ≡ re.object
        to = one_object e.tree (fd_of other.form) made.2.0 re.object made.2.1
            (subst (λ (x : Tree). IsOpenOn x (fd_of other.form) re.object) (sym re.tree) re.open_on)

        linked : LinksName state.tree rd.object re.object newname (bare_tree f.tree)
        linked = subst (λ o. LinksName state.tree o re.object newname (bare_tree f.tree)) from
            (subst (λ o. LinksName state.tree made.0 o newname (bare_tree f.tree)) to
            (subst (λ (x : Tree). LinksName x made.0 made.2.0 newname (bare_tree f.tree)) (qe.still.tree ∙ sym s.tree)
            (links_bare e.tree made.0 made.2.0 newname f.tree made.2.2)))
