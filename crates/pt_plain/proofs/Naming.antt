-- Proof. `unlink`, `rmdir`, `rename`: names alone change. An object that lost its name keeps its number and its
-- handles.
use Rattle.std.proofs.Common.{◌≡◌, ◌⊎◌, inl, inr, ℕ, ◌+◌, ◌<◌, List, Some, refl, sym, ap, subst, ◌∙◌, arith}
use Rattle.pt_host.specs.Call.{Call}
use Rattle.pt_host.specs.LawfulTree.{TreeChanges}
use Rattle.pt_host.specs.Names.{TakesName, Renames, MovesName, NameMoves}
use Rattle.pt_host.specs.Tree.{Tree, IsOpenOn}
use Rattle.pt_host.specs.declared.ids.Errno.{Errno}
use Rattle.pt_host.specs.declared.ids.Fd.{Fd}
use Rattle.pt_host.specs.declared.seat.HostSeat.{HostSeat}
use Rattle.pt_host.specs.declared.op.KeptHostOp.TheVariants as call
use Rattle.pt_host.specs.declared.reply.HostReply.TheVariants as host
use Rattle.pt_host.specs.declared.reply.HostValue.{HostValue}
use Rattle.pt_host.specs.declared.reply.HostValue.TheVariants as value
use Rattle.pt_tables.specs.declared.reply.Resolved.{Resolved}
use Rattle.pt_iface.specs.declared.answer.Answer.{Answer}
use Rattle.pt_iface.specs.declared.answer.Answer.TheVariants as answer
use Rattle.pt_frame.specs.Tree.{RequestTree, Gives}
use Rattle.pt_frame.specs.declared.finish.Finish.TheVariants as finish
use Rattle.pt_req.specs.Parts.{named, file_of}
use Rattle.pt_req.specs.Steps.{begin, ok_in, resolve}
use Rattle.pt_req.specs.declared.begun.BegunSession.{BegunSession}
use Rattle.pt_attr.specs.Parts.{file_by, files_by}
use Rattle.pt_attr.specs.Requests.{rename, rmdir, unlink}
use Rattle.pt_attr.specs.Steps.{do_call}
use Rattle.pt_law.specs.Settled.{entry_count}
use Rattle.pt_law.specs.World.{World, fd_of}
use Rattle.pt_law.proofs.Givings.{live_count}
use Rattle.pt_law.proofs.Knowing.{one_object}
use Rattle.pt_plain.specs.Plain.{PlainTree, Stands, OfNumber}
use Rattle.pt_plain.specs.Serves.{ByNames, named_by}
use Rattle.pt_plain.proofs.Counting.{IsEven}
use Rattle.pt_plain.proofs.Passing.{ends, even_also, even_passes, Passes, passes_begin, passes_call, passes_file}
use Rattle.pt_plain.proofs.Passing.{passes_named, passes_resolve}
use Rattle.pt_plain.proofs.Serving.{Alone, counts, refused_counts, shows_still, stands, walked}
use Rattle.pt_plain.proofs.Showing.{bare_tree, Shows}
use Rattle.pt_plain.proofs.Steady.{IsNamed, IsNaming, refused_behind, steady_named, walk_naming}
use Rattle.pt_plain.proofs.Walking.{At, At.{by}, idles_quiet, IsRefused, IsResolved, Quiet, quiet_on, refused_from}
use Rattle.pt_plain.proofs.Walking.{walk_begin, walk_file, walk_named, walk_resolve}

pub takes_bare : (tree : Tree) (at : ℕ) (name : List ℕ) (after : Tree) → TakesName tree at name after →
    TakesName (bare_tree tree) at name (bare_tree after)
takes_bare tree at name after t = record { object = t.object; there = t.there; takes = ap bare_tree t.takes }

-- by this call the name was taken away
abbrev pub IsTaken : World → World → Fd → Call → List ℕ → Type 0
IsTaken d e fd asked name = IsNamed d e asked → (at : ℕ) × IsOpenOn d.tree fd at × TakesName d.tree at name e.tree

-- a name of a directory is taken away by such a call
abbrev pub taking : (Fd → Call) → ℕ → List ℕ → BegunSession → RequestTree
taking calling parent name session = named name (file_by parent (λ dir. do_call (calling dir) (Gives answer.Done)))

-- what that leaves, where it is answered or was refused
served_taking : (calling : Fd → Call) (name : List ℕ) → ((fd : Fd) → IsNaming (calling fd)) →
    ((d e : World) (fd : Fd) → IsTaken d e fd (calling fd) name) →
    (j : ℕ) (seat : HostSeat) (parent : ℕ) (w : World) (last : Answer) (w' : World) (state : PlainTree) →
    Shows w state →
    Alone j seat (begin (taking calling parent name)) w last w' →
    ((errno : Errno) × (last ≡ answer.Refused errno) × Shows w' state)
    ⊎ ((last ≡ answer.Done) × ((after : PlainTree)
    × OfNumber state parent (λ dir. ByNames state (TakesName state.tree dir name) after) × Shows w' after))
served_taking calling name is taken j seat parent w last w' state s a =
    walk_begin j asks w last w' a.given (walked j seat (begin (taking calling parent name)) w last w' a) out
    (λ session b qb cb.
    walk_named j name by_number b last w' cb (λ r. out (refused_from w b last w' qb r)) (λ cn.
    walk_resolve j parent in_row b last w' a.given cn (λ r. out (refused_from w b last w' qb r)) (λ row d rd cd.
    let qd = quiet_on w b d qb rd.quiet in
    walk_file j row.form calls d last w' cd (λ cf.
    walk_naming j (calling (fd_of row.form)) (Gives answer.Done) d last w' (is (fd_of row.form)) a.given cf
    (λ r. out (refused_from w d last w' qd r)) (λ e m ce. answered b d e row qb rd m qd ce)))))
  where
    calls : Fd → RequestTree
    calls dir = do_call (calling dir) (Gives answer.Done)

    in_row : Resolved → RequestTree
    in_row row = file_of row.form calls

    by_number : RequestTree
    by_number = file_by parent calls

    asks : BegunSession → RequestTree
    asks session = named name by_number

    Goal : Type 0
    Goal = ((errno : Errno) × (last ≡ answer.Refused errno) × Shows w' state)
        ⊎ ((last ≡ answer.Done) × ((after : PlainTree)
        × OfNumber state parent (λ dir. ByNames state (TakesName state.tree dir name) after) × Shows w' after))

    even : Passes IsEven state (λ last. Unit {0}) (begin asks)
    even = passes_begin even_also _ (λ session. passes_named even_also name tt (
        passes_resolve even_also parent _ (λ row. passes_file even_also row.form _ (λ dir.
        passes_call even_also (calling dir) ok_in _ tt (λ done. ends even_also (λ k. tt))))))

    all : (n : ℕ) → live_count n w'.tables ≡ live_count n w.tables + entry_count n (finish.Answer last)
    all = counts j seat (begin asks) w last w' a (even_passes even)

    out : IsRefused w last w' → Goal
    out r = inl (r.errno, r.is, shows_still w w' state s r.quiet.still (refused_counts w w' last r all))

    answered : (b d e : World) (row : Resolved) → Quiet w b → IsResolved j b d parent (fd_of row.form) →
        IsNamed d e (calling (fd_of row.form)) → Quiet w d → At j (Gives answer.Done) e last w' → Goal
    answered b d e row qb rd m qd (by k) =
        let t = taken d e (fd_of row.form) m in
        let at = one_object d.tree (fd_of row.form) t.0 rd.object t.1
        (subst (λ (x : Tree). IsOpenOn x (fd_of row.form) rd.object) (sym rd.tree) rd.open_on) in
        let is_dir = ap (λ f. f parent) (sym qb.still.past) ∙ rd.is_object in
        let live = (let x = qb.falls parent in let y = rd.live in (let z : 0 < live_count parent w.tables =
        omega (arith, x, y) in z)) in
        let start : bare_tree d.tree ≡ state.tree = qd.still.tree ∙ sym s.tree in
        let new = subst (λ o. TakesName state.tree o name (bare_tree e.tree)) at
        (subst (λ (x : Tree). TakesName x t.0 name (bare_tree e.tree)) start (takes_bare d.tree t.0 name e.tree t.2)) in
        inr (
          k.0,
          (
            named_by state (bare_tree e.tree),
            (rd.object, stands w state parent rd.object s is_dir live, (bare_tree e.tree, new, refl)),
            refused_behind w e w' state s (steady_named w d e (calling (fd_of row.form)) qd m)
                (idles_quiet j e w' k.1) (λ n. let x = all n in
                let z = ap (λ (y : Answer). entry_count n (finish.Answer y)) k.0 in omega (arith, x, z)),
          ),
        )

pub unlink_takes : (d e : World) (fd : Fd) (name : List ℕ) → IsTaken d e fd (call.Unlink fd name) name
unlink_takes d e fd name m = go m.told m.changes
  where
    go : (told : HostValue) → TreeChanges d.tree (call.Unlink fd name) (host.Ok told) e.tree →
        (at : ℕ) × IsOpenOn d.tree fd at × TakesName d.tree at name e.tree
    go value.Unit c = c
    go told c = absurd c.0

pub rmdir_takes : (d e : World) (fd : Fd) (name : List ℕ) → IsTaken d e fd (call.RemoveDir fd name) name
rmdir_takes d e fd name m = go m.told m.changes
  where
    go : (told : HostValue) → TreeChanges d.tree (call.RemoveDir fd name) (host.Ok told) e.tree →
        (at : ℕ) × IsOpenOn d.tree fd at × TakesName d.tree at name e.tree
    go value.Unit c = c
    go told c = absurd c.0

pub served_unlink : (j : ℕ) (seat : HostSeat) (parent : ℕ) (name : List ℕ) (w : World) (last : Answer) (w' : World)
    (state : PlainTree) → Shows w state → Alone j seat (begin (unlink parent name)) w last w' →
    ((errno : Errno) × (last ≡ answer.Refused errno) × Shows w' state)
    ⊎ ((last ≡ answer.Done) × ((after : PlainTree)
    × OfNumber state parent (λ dir. ByNames state (TakesName state.tree dir name) after) × Shows w' after))
served_unlink j seat parent name =
    served_taking (λ dir. call.Unlink dir name) name (λ dir. tt) (λ d e fd. unlink_takes d e fd name) j seat parent

pub served_rmdir : (j : ℕ) (seat : HostSeat) (parent : ℕ) (name : List ℕ) (w : World) (last : Answer) (w' : World)
    (state : PlainTree) → Shows w state → Alone j seat (begin (rmdir parent name)) w last w' →
    ((errno : Errno) × (last ≡ answer.Refused errno) × Shows w' state)
    ⊎ ((last ≡ answer.Done) × ((after : PlainTree)
    × OfNumber state parent (λ dir. ByNames state (TakesName state.tree dir name) after) × Shows w' after))
served_rmdir j seat parent name =
    served_taking (λ dir. call.RemoveDir dir name) name (λ dir. tt) (λ d e fd. rmdir_takes d e fd name) j seat parent

moves_bare : (tree : Tree) (dir : ℕ) (name : List ℕ) (to : ℕ) (new : List ℕ) (object : ℕ) (after : Tree) →
    NameMoves tree dir name to new object after →
    NameMoves (bare_tree tree) dir name to new object (bare_tree after)
moves_bare tree dir name to new object after (inl m) = inl (m.0, ap bare_tree m.1)
moves_bare tree dir name to new object after (inr m) = inr (m.0, ap bare_tree m.1)

pub name_bare : (tree : Tree) (dir : ℕ) (name : List ℕ) (to : ℕ) (new : List ℕ) (after : Tree) →
    MovesName tree dir name to new after → MovesName (bare_tree tree) dir name to new (bare_tree after)
name_bare tree dir name to new after m = record {
  object = m.object;
  there = m.there;
  moves = moves_bare tree dir name to new m.object after m.moves;
}

renames_bare : (tree : Tree) (dir : ℕ) (name : List ℕ) (to : ℕ) (new : List ℕ) (flags : ℕ) (after : Tree) →
    Renames tree dir name to new flags after → Renames (bare_tree tree) dir name to new flags (bare_tree after)
renames_bare tree dir name to new flags after (inl r) = inl (r.0, name_bare tree dir name to new after r.1)
renames_bare tree dir name to new flags after (inr (inl r)) =
    inr (inl (r.0, r.1, name_bare tree dir name to new after r.2))
renames_bare tree dir name to new flags after (inr (inr r)) = inr (inr (
  r.0,
  record {
    object = r.1.object;
    another = r.1.another;
    there = r.1.there;
    also = r.1.also;
    exchanges = ap bare_tree r.1.exchanges;
  },
))

-- what `rename` leaves, where it is answered or was refused
pub served_rename : (j : ℕ) (seat : HostSeat) (olddir : ℕ) (oldname : List ℕ) (newdir : ℕ) (newname : List ℕ)
    (flags : ℕ) (w : World) (last : Answer) (w' : World) (state : PlainTree) → Shows w state →
    Alone j seat (begin (rename olddir oldname newdir newname flags)) w last w' →
    ((errno : Errno) × (last ≡ answer.Refused errno) × Shows w' state)
    ⊎ ((last ≡ answer.Done) × ((after : PlainTree)
    × OfNumber state olddir (λ dir. OfNumber state newdir (λ to.
    ByNames state (Renames state.tree dir oldname to newname flags) after)) × Shows w' after))
unfolding files_by
served_rename j seat olddir oldname newdir newname flags w last w' state s a =
    walk_begin j asks w last w' a.given
    (walked j seat (begin (rename olddir oldname newdir newname flags)) w last w' a) out
    (λ session b qb cb.
    walk_named j oldname second b last w' cb (λ r. out (refused_from w b last w' qb r)) (λ cn.
    walk_named j newname by_numbers b last w' cn (λ r. out (refused_from w b last w' qb r)) (λ cm.
    walk_resolve j olddir in_one b last w' a.given cm (λ r. out (refused_from w b last w' qb r)) (λ one d rd cd.
    let qd = quiet_on w b d qb rd.quiet in
    walk_resolve j newdir (in_other one) d last w' a.given cd (λ r. out (refused_from w d last w' qd r))
    (λ other e re ce.
    let qe = quiet_on w d e qd re.quiet in
    walk_file j one.form (from_file other) e last w' ce (λ cf.
    walk_file j other.form (calls (fd_of one.form)) e last w' cf (λ ck.
    walk_naming j (call.Rename (fd_of one.form) oldname (fd_of other.form) newname flags) (Gives answer.Done) e last w'
    tt a.given ck (λ r. out (refused_from w e last w' qe r)) (λ f m cf.
    answered b d e f one other qb rd re qd qe m cf))))))))
  where
    calls : Fd → Fd → RequestTree
    calls from to = do_call (call.Rename from oldname to newname flags) (Gives answer.Done)

    from_file : Resolved → Fd → RequestTree
    from_file other from = file_of other.form (calls from)

    in_other : Resolved → Resolved → RequestTree
    in_other one other = file_of one.form (from_file other)

    in_one : Resolved → RequestTree
    in_one one = resolve newdir (in_other one)

    by_numbers : RequestTree
    by_numbers = files_by olddir newdir (λ files. calls files.from files.to)

    second : RequestTree
    second = named newname by_numbers

    asks : BegunSession → RequestTree
    asks session = named oldname second

    Goal : Type 0
    Goal = ((errno : Errno) × (last ≡ answer.Refused errno) × Shows w' state)
        ⊎ ((last ≡ answer.Done) × ((after : PlainTree)
        × OfNumber state olddir (λ dir. OfNumber state newdir (λ to.
        ByNames state (Renames state.tree dir oldname to newname flags) after)) × Shows w' after))

    even : Passes IsEven state (λ last. Unit {0}) (begin asks)
    even = passes_begin even_also _ (λ session. passes_named even_also oldname tt (passes_named even_also newname tt (
        passes_resolve even_also olddir _ (λ one. passes_resolve even_also newdir _ (λ other.
        passes_file even_also one.form _ (λ from. passes_file even_also other.form _ (λ to.
        passes_call even_also (call.Rename from oldname to newname flags) ok_in _ tt
        (λ done. ends even_also (λ k l. tt)))))))))

    all : (n : ℕ) → live_count n w'.tables ≡ live_count n w.tables + entry_count n (finish.Answer last)
    all = counts j seat (begin asks) w last w' a (even_passes even)

    out : IsRefused w last w' → Goal
    out r = inl (r.errno, r.is, shows_still w w' state s r.quiet.still (refused_counts w w' last r all))

    renamed : (e f : World) (from to : Fd) → IsNamed e f (call.Rename from oldname to newname flags) →
        (at : ℕ) × IsOpenOn e.tree from at × ((other : ℕ) × IsOpenOn e.tree to other
        × Renames e.tree at oldname other newname flags f.tree)
    renamed e f from to m = go m.told m.changes
      where
        go : (told : HostValue) → TreeChanges e.tree (call.Rename from oldname to newname flags) (host.Ok told) f.tree →
            (at : ℕ) × IsOpenOn e.tree from at × ((other : ℕ) × IsOpenOn e.tree to other
            × Renames e.tree at oldname other newname flags f.tree)
        go value.Unit c = c
        go told c = absurd c.0

    stood : (b c : World) (number : ℕ) (fd : Fd) → Quiet w b → IsResolved j b c number fd → (r : ℕ) →
        b.past.numbers number ≡ Some r → Stands state number r
    stood b c number fd q i r e = stands w state number r s (ap (λ f. f number) (sym q.still.past) ∙ e)
        (let x = q.falls number in let y = i.live in omega (arith, x, y))

    answered : (b d e f : World) (one other : Resolved) → Quiet w b → (rd : IsResolved j b d olddir (fd_of one.form)) →
        (re : IsResolved j d e newdir (fd_of other.form)) → Quiet w d → Quiet w e →
        IsNamed e f (call.Rename (fd_of one.form) oldname (fd_of other.form) newname flags) →
        At j (Gives answer.Done) f last w' → Goal
    answered b d e f one other qb rd re qd qe m (by k) =
        let t = renamed e f (fd_of one.form) (fd_of other.form) m in
        let at = one_object e.tree (fd_of one.form) t.0 rd.object t.1
        (subst (λ (x : Tree). IsOpenOn x (fd_of one.form) rd.object) (sym (re.tree ∙ rd.tree)) rd.open_on) in
        let to = one_object e.tree (fd_of other.form) t.2.0 re.object t.2.1
        (subst (λ (x : Tree). IsOpenOn x (fd_of other.form) re.object) (sym re.tree) re.open_on) in
        let start : bare_tree e.tree ≡ state.tree = qe.still.tree ∙ sym s.tree in
        let new = subst (λ o. Renames state.tree o oldname re.object newname flags (bare_tree f.tree)) at
        (subst (λ o. Renames state.tree t.0 oldname o newname flags (bare_tree f.tree)) to
        (subst (λ (x : Tree). Renames x t.0 oldname t.2.0 newname flags (bare_tree f.tree)) start
        (renames_bare e.tree t.0 oldname t.2.0 newname flags f.tree t.2.2))) in
        inr (
          k.0,
          (
            named_by state (bare_tree f.tree),
            (
              rd.object,
              stood b d olddir (fd_of one.form) qb rd rd.object rd.is_object,
              (
                re.object,
                stood d e newdir (fd_of other.form) qd re re.object re.is_object,
                (bare_tree f.tree, new, refl),
              ),
            ),
            refused_behind w f w' state s
                (steady_named w e f (call.Rename (fd_of one.form) oldname (fd_of other.form) newname flags) qe m)
                (idles_quiet j f w' k.1) (λ n. let x = all n in
                let z = ap (λ (y : Answer). entry_count n (finish.Answer y)) k.0 in omega (arith, x, z)),
          ),
        )
