-- Proof. `mkdir`, `mknod`, `symlink`: an object is made as whoever asks, and looked up; where it is refused halfway the
-- object stays, or its name is taken away again.
use Rattle.std.proofs.Common.{◌≡◌, ◌≢◌, ◌⊎◌, inl, inr, ℕ, ◌+◌, List, [], ◌∷◌, Bool, true, false, Option}
use Rattle.std.proofs.Common.{Some, None, refl, sym, ap, subst, ◌∙◌, arith}
use Rattle.std.specs.List.{list_any}
use Rattle.pt_host.specs.Call.{Call}
use Rattle.pt_host.specs.Errno.{einval, eperm}
use Rattle.pt_host.specs.LawfulTree.{TreeChanges}
use Rattle.pt_host.specs.Names.{MakesObject, TakesName}
use Rattle.pt_host.specs.Tree.{Tree, IsOpenOn}
use Rattle.pt_host.specs.declared.ids.Errno.{Errno}
use Rattle.pt_host.specs.declared.ids.Fd.{Fd}
use Rattle.pt_host.specs.declared.seat.HostSeat.{HostSeat}
use Rattle.pt_host.specs.declared.op.KeptHostOp.TheVariants as call
use Rattle.pt_host.specs.declared.reply.HostReply.TheVariants as host
use Rattle.pt_host.specs.declared.reply.HostValue.{HostValue}
use Rattle.pt_host.specs.declared.reply.HostValue.TheVariants as value
use Rattle.pt_creds.specs.Identity.{Credentials, override_cap}
use Rattle.pt_creds.specs.Steps.{cred_steps}
use Rattle.pt_tables.specs.declared.reply.Resolved.{Resolved}
use Rattle.pt_iface.specs.declared.answer.Answer.{Answer}
use Rattle.pt_iface.specs.declared.answer.Answer.TheVariants as answer
use Rattle.pt_iface.specs.declared.entry.Entry.{Entry}
use Rattle.pt_frame.specs.Deed.{Calls}
use Rattle.pt_frame.specs.Tree.{RequestTree, Bares, Gives as GivesAnswer, Refuses, go_on, on}
use Rattle.pt_frame.specs.declared.act.ActReply.{ActReply}
use Rattle.pt_frame.specs.declared.finish.Finish.TheVariants as finish
use Rattle.pt_frame.specs.declared.hold.Hold.TheVariants as hold
use Rattle.pt_req.specs.Asker.{as_asker, asker_of, cap_raised, egid_set, euid_set, group_set, umask_of, under_umask}
use Rattle.pt_req.specs.Attributes.{Label, host_label}
use Rattle.pt_req.specs.Parts.{file_of, look_up, named}
use Rattle.pt_req.specs.Steps.{begin, ok_in, resolve, tried_in, try_call}
use Rattle.pt_req.specs.declared.begun.BegunSession.{BegunSession}
use Rattle.pt_req.specs.declared.parts.looked.Looked.{Looked}
use Rattle.pt_req.specs.declared.plan.Plan.{Plan}
use Rattle.pt_attr.specs.Making.{ObjectAsked, is_nul, labelled_at, make_object, targeted}
use Rattle.pt_attr.specs.Steps.{make}
use Rattle.pt_law.specs.Settled.{entry_count}
use Rattle.pt_law.specs.World.{World, fd_of}
use Rattle.pt_law.proofs.Givings.{live_count}
use Rattle.pt_law.proofs.Knowing.{one_object}
use Rattle.pt_plain.specs.Plain.{PlainTree, OfNumber, Stands}
use Rattle.pt_plain.specs.Serves.{Looks, LeavesMade, MakesEntry, named_by}
use Rattle.pt_plain.proofs.Coming.{Comes, IsSeats, Law, seat_stays}
use Rattle.pt_plain.proofs.Counting.{IsEven}
use Rattle.pt_plain.proofs.Entering.{IsLooked, looked_on, walk_look_up}
use Rattle.pt_plain.proofs.Labelling.{IsPassed, IsUndone, walk_label, walk_labelled_at, walk_undone}
use Rattle.pt_plain.proofs.Naming.{rmdir_takes, takes_bare, unlink_takes}
use Rattle.pt_plain.proofs.Opening.{walk_scope}
use Rattle.pt_plain.proofs.Passing.{ends, even_also, even_passes, Passes, passes_asker, passes_bares, passes_begin}
use Rattle.pt_plain.proofs.Passing.{passes_file, passes_if, passes_label, passes_labelled_at, passes_look_up}
use Rattle.pt_plain.proofs.Passing.{passes_named, passes_on, passes_resolve, passes_umask}
use Rattle.pt_plain.proofs.Serving.{Alone, counts, entry_counts, looks, refused_counts, shows_still, stands, walked}
use Rattle.pt_plain.proofs.Showing.{bare_tree, Shows}
use Rattle.pt_plain.proofs.Steady.{bare_makes, IsNamed, IsNaming, made_at, refused_behind, shows_with, stands_once}
use Rattle.pt_plain.proofs.Steady.{Steady, steady_looked, steady_named, steady_on, steady_then, walk_naming}
use Rattle.pt_plain.proofs.Steady.{with_tree}
use Rattle.pt_plain.proofs.Through.{Stood}
use Rattle.pt_plain.proofs.Walking.{At, At.{by}, idles_quiet, IsRefused, IsResolved, Quiet, quiet_none, quiet_on}
use Rattle.pt_plain.proofs.Walking.{refused_at, refused_from, refused_with, walk_begin, walk_file, walk_if}
use Rattle.pt_plain.proofs.Walking.{walk_named, walk_resolve}

-- the seat of whoever asks is seen in no world
walk_try : {G : Type 0} (j : ℕ) (asked : Call) (next : RequestTree) (w : World) (last : Answer) (w' : World) →
    IsSeats asked → last ≢ answer.NoMemory → At j (try_call asked next) w last w' → (IsRefused w last w' → G) →
    (At j next w last w' → G) → G
unfolding on go_on
walk_try {G} j asked next w last w' s n (by c) out goes = go (tried_in c.0) c.5
  where
    same : c.2 ≡ w
    same = c.4 ∙ seat_stays asked j w c.1 c.0 s c.3.1 c.3.2

    go : (value : Option (Unit {0})) → Comes j (go_on (λ done. next) c.0 value) c.2 last w' → G
    go (Some done) k = goes (by (subst (λ z. Comes j next z last w') same k))
    go None k =
        out (refused_at j w w c.0 last w' n (quiet_none w) (subst (λ z. Comes j (Refuses c.0) z last w') same k))

module _ {G : Type 0} (j : ℕ) (w : World) (last : Answer) (w' : World) (n : last ≢ answer.NoMemory)
    (out : IsRefused w last w' → G) where
  walk_group : (group : Option ℕ) (next : RequestTree) → At j (group_set group next) w last w' →
      (At j next w last w' → G) → G
  walk_group None next c goes = goes c
  walk_group (Some group) next c goes =
      walk_scope j (call.SetGroups (group ∷ [])) hold.Groups next w last w' tt n c out goes

  walk_egid : (id : Option ℕ) (next : RequestTree) → At j (egid_set id next) w last w' → (At j next w last w' → G) → G
  walk_egid None next c goes = goes c
  walk_egid (Some id) next c goes =
      walk_scope j (call.SetEgid id) hold.EffectiveGid next w last w' tt n c out goes

  walk_euid : (id : Option ℕ) (next : RequestTree) → At j (euid_set id next) w last w' → (At j next w last w' → G) → G
  walk_euid None next c goes = goes c
  walk_euid (Some id) next c goes =
      walk_scope j (call.SetEuid id) hold.EffectiveUid next w last w' tt n c out goes

  walk_raised : (raises : Bool) (next : RequestTree) → At j (cap_raised raises next) w last w' →
      (At j next w last w' → G) → G
  walk_raised false next c goes = goes c
  walk_raised true next c goes = walk_try j (call.RaiseCap override_cap) next w last w' tt n c out goes

  pub walk_umask : (umask : Option ℕ) (next : RequestTree) → At j (under_umask umask next) w last w' →
      (At j next w last w' → G) → G
  walk_umask None next c goes = goes c
  walk_umask (Some mask) next c goes = walk_scope j (call.SetUmask mask) hold.Umask next w last w' tt n c out goes

  pub walk_asker : (seat : HostSeat) (asker : Option Credentials) (next : RequestTree) →
      At j (as_asker seat asker next) w last w' → (At j next w last w' → G) → G
  walk_asker seat None next (by c) goes = out (refused_with j w eperm last w' c)
  walk_asker seat (Some creds) next c goes =
      let steps = cred_steps creds seat in
      walk_group steps.groups (egid_set steps.egid (euid_set steps.euid (cap_raised steps.raise next))) c (λ a.
      walk_egid steps.egid (euid_set steps.euid (cap_raised steps.raise next)) a (λ b.
      walk_euid steps.euid (cap_raised steps.raise next) b (λ d. walk_raised steps.raise next d goes)))

-- how a name that is new is entered: it is refused, and stays; or its object is given
abbrev pub IsEntered : PlainTree → ℕ → List ℕ → Answer → World → Type 0
IsEntered named parent name last w' =
    ((errno : Errno) × (last ≡ answer.Refused errno) × Shows w' named)
    ⊎ ((entry : Entry) × (last ≡ answer.Entry entry) × ((after : PlainTree)
    × OfNumber named parent (λ dir. Looks named dir name entry.inode after) × Shows w' after))

pub walk_entry : (plan : Plan) (j : ℕ) (session : BegunSession) (parent : ℕ) (name : List ℕ) (w e : World)
    (last : Answer) (w' : World) (state : PlainTree) → Shows w state → Law w → Law w' →
    ((n : ℕ) → live_count n w'.tables ≡ live_count n w.tables + entry_count n (finish.Answer last)) → Steady w e →
    last ≢ answer.NoMemory →
    At j (look_up plan session parent name (λ looked. GivesAnswer (answer.Entry looked.entry))) e last w' →
    IsEntered (named_by state (bare_tree e.tree)) parent name last w'
walk_entry plan j session parent name w e last w' state s low law all q n c =
    walk_look_up j plan session parent name entry e last w' n c
    (λ r. inl (
      r.errno,
      r.is,
      refused_behind w e w' state s q r.quiet (λ n. let k = all n in
          let z = ap (λ (x : Answer). entry_count n (finish.Answer x)) r.is in omega (arith, k, z)),
    ))
    (λ looked f l noted k. answered looked f l k)
  where
    entry : Looked → RequestTree
    entry looked = GivesAnswer (answer.Entry looked.entry)

    answered : (looked : Looked) (f : World) → IsLooked e f parent name looked.entry.inode →
        At j (entry looked) f last w' → IsEntered (named_by state (bare_tree e.tree)) parent name last w'
    answered looked f l (by k) =
        let lw = looked_on (with_tree w e.tree) f w' parent name looked.entry.inode
        (steady_looked w e f parent name looked.entry.inode q l) (idles_quiet j f w' k.1) in
        let g = looks (with_tree w e.tree) w' (named_by state (bare_tree e.tree)) parent name looked.entry.inode
        (shows_with w state e.tree s) low.drawn law lw (entry_counts w w' last looked.entry k.0 all) in
        inr (looked.entry, k.0, (g.0, g.1, g.2))

-- What is made, by which call, and by which that is undone.
pub data What : Type 0 where
  Directory : ℕ → What
  Node : ℕ → ℕ → What
  Link : List ℕ → What

abbrev pub making_call : What → Fd → List ℕ → Call
making_call (Directory mode) dir name = call.MakeDir dir name mode
making_call (Node mode rdev) dir name = call.MakeNode dir name mode rdev
making_call (Link target) dir name = call.SymLink dir name target

abbrev pub undoing_call : What → Fd → List ℕ → Call
undoing_call (Directory mode) dir name = call.RemoveDir dir name
undoing_call (Node mode rdev) dir name = call.Unlink dir name
undoing_call (Link target) dir name = call.Unlink dir name

abbrev pub checked : What → RequestTree → RequestTree
checked (Directory mode) next = next
checked (Node mode rdev) next = next
checked (Link target) next = targeted target next

abbrev pub make_named : Plan → HostSeat → ObjectAsked → What → BegunSession → RequestTree
make_named plan seat asked what session =
    named asked.name (checked what (resolve asked.parent (λ row.
    host_label plan session.agreed asked.ext.secctx (λ label. file_of row.form (λ dir.
    make_object plan seat session asked label dir (making_call what dir asked.name)
    (undoing_call what dir asked.name))))))

is_naming : (what : What) (dir : Fd) (name : List ℕ) → IsNaming (making_call what dir name)
is_naming (Directory mode) dir name = tt
is_naming (Node mode rdev) dir name = tt
is_naming (Link target) dir name = tt

walk_checked : {G : Type 0} (j : ℕ) (what : What) (next : RequestTree) (w : World) (last : Answer) (w' : World) →
    At j (checked what next) w last w' → (IsRefused w last w' → G) → (At j next w last w' → G) → G
unfolding targeted
walk_checked j (Directory mode) next w last w' c out goes = goes c
walk_checked j (Node mode rdev) next w last w' c out goes = goes c
walk_checked j (Link target) next w last w' c out goes =
    walk_if j (list_any is_nul target) einval next w last w' c out goes

passes_checked : {state : PlainTree} (what : What) {next : RequestTree} →
    Passes IsEven state (λ last. Unit {0}) next → Passes IsEven state (λ last. Unit {0}) (checked what next)
unfolding targeted
passes_checked (Directory mode) t = t
passes_checked (Node mode rdev) t = t
passes_checked (Link target) t = passes_if even_also (list_any is_nul target) einval tt t

is_undoing : (what : What) (dir : Fd) (name : List ℕ) → IsNaming (undoing_call what dir name)
is_undoing (Directory mode) dir name = tt
is_undoing (Node mode rdev) dir name = tt
is_undoing (Link target) dir name = tt

even_make : (what : What) (dir : Fd) (name : List ℕ) → IsEven (Calls (making_call what dir name))
even_make (Directory mode) dir name = tt
even_make (Node mode rdev) dir name = tt
even_make (Link target) dir name = tt

even_undo : (what : What) (dir : Fd) (name : List ℕ) → IsEven (Calls (undoing_call what dir name))
even_undo (Directory mode) dir name = tt
even_undo (Node mode rdev) dir name = tt
even_undo (Link target) dir name = tt

-- its name was taken away again
undone_tree : (f m : World) (what : What) (dir : Fd) (name : List ℕ) → IsNamed f m (undoing_call what dir name) →
    (at : ℕ) × IsOpenOn f.tree dir at × TakesName f.tree at name m.tree
undone_tree f m (Directory mode) dir name u = rmdir_takes f m dir name u
undone_tree f m (Node mode rdev) dir name u = unlink_takes f m dir name u
undone_tree f m (Link target) dir name u = unlink_takes f m dir name u

-- a making leaves what is open
made_open : (tree : Tree) (at : ℕ) (name : List ℕ) (t : Tree) (dir : Fd) (object : ℕ) → MakesObject tree at name t →
    IsOpenOn tree dir object → IsOpenOn t dir object
made_open tree at name t dir object m o = subst (λ (x : Tree). IsOpenOn x dir object) (sym m.makes) o

-- an object was made
record IsMade (w on : World) (dir : Fd) (name : List ℕ) : Type 0 where
  at : ℕ
  dir_open : IsOpenOn w.tree dir at
  makes : MakesObject w.tree at name on.tree

made_tree : (w on : World) (what : What) (dir : Fd) (name : List ℕ) → IsNamed w on (making_call what dir name) →
    IsMade w on dir name
made_tree w on (Directory mode) dir name m = go m.told m.changes
  where
    go : (told : HostValue) → TreeChanges w.tree (call.MakeDir dir name mode) (host.Ok told) on.tree →
        IsMade w on dir name
    go value.Unit c = record { at = c.0; dir_open = c.1; makes = c.2 }
    go told c = absurd c.0
made_tree w on (Node mode rdev) dir name m = go m.told m.changes
  where
    go : (told : HostValue) → TreeChanges w.tree (call.MakeNode dir name mode rdev) (host.Ok told) on.tree →
        IsMade w on dir name
    go value.Unit c = record { at = c.0; dir_open = c.1; makes = c.2 }
    go told c = absurd c.0
made_tree w on (Link target) dir name m = go m.told m.changes
  where
    go : (told : HostValue) → TreeChanges w.tree (call.SymLink dir name target) (host.Ok told) on.tree →
        IsMade w on dir name
    go value.Unit c = record { at = c.0; dir_open = c.1; makes = c.2 }
    go told c = absurd c.0

-- What a making leaves, where its answer is an entry, or it was refused before or behind the making.
abbrev pub IsMaking : PlainTree → ℕ → List ℕ → Answer → World → Type 0
IsMaking state parent name last w' =
    ((errno : Errno) × (last ≡ answer.Refused errno) × ((after : PlainTree) × LeavesMade state parent name after
    × Shows w' after))
    ⊎ ((entry : Entry) × (last ≡ answer.Entry entry) × ((after : PlainTree)
    × MakesEntry state parent name entry.inode after × Shows w' after))

pub served_making : (plan : Plan) (j : ℕ) (seat : HostSeat) (asked : ObjectAsked) (what : What) (w : World)
    (last : Answer) (w' : World) (state : PlainTree) → Shows w state → Law w →
    Alone j seat (begin (make_named plan seat asked what)) w last w' →
    IsMaking state asked.parent asked.name last w'
unfolding make_object
served_making plan j seat asked what w last w' state s low a =
    walk_begin j asks w last w' a.given (walked j seat (begin asks) w last w' a) out (λ session b qb cb.
    walk_named j asked.name (checked what (found session)) b last w' cb (λ r. out (refused_from w b last w' qb r))
    (λ cn.
    walk_checked j what (found session) b last w' cn (λ r. out (refused_from w b last w' qb r)) (λ ct.
    walk_resolve j asked.parent (in_row session) b last w' a.given ct (λ r. out (refused_from w b last w' qb r))
    (λ row d rd cd.
    let qd = quiet_on w b d qb rd.quiet in
    walk_label j plan session.agreed asked.ext.secctx (λ label. file_of row.form (in_dir session label)) d last w' cd
    (λ label cl.
    walk_file j row.form (in_dir session label) d last w' cl (λ cf.
    walk_asker j d last w' a.given (λ r. out (refused_from w d last w' qd r)) seat
    (asker_of plan session asked.who asked.ext.sup_gid) (masked session label (fd_of row.form)) cf (λ cm.
    walk_umask j d last w' a.given (λ r. out (refused_from w d last w' qd r)) (umask_of session asked.umask)
    (makes session label (fd_of row.form)) cm (λ ck.
    walk_naming j (making_call what (fd_of row.form) asked.name) (labels session label (fd_of row.form)) d last w'
    (is_naming what (fd_of row.form) asked.name) a.given
    (made_at j (making_call what (fd_of row.form) asked.name) (labels session label (fd_of row.form)) d last w' ck)
    (λ r. out (refused_from w d last w' qd r)) (λ e m ce. behind session label b d e row rd qb qd m ce)))))))))
  where
    looks_up : BegunSession → RequestTree
    looks_up session = look_up plan session asked.parent asked.name (λ looked. GivesAnswer (answer.Entry looked.entry))

    labels : BegunSession → Option Label → Fd → RequestTree
    labels session label dir = labelled_at dir asked.name (undoing_call what dir asked.name) label (looks_up session)

    makes : BegunSession → Option Label → Fd → RequestTree
    makes session label dir = make (making_call what dir asked.name) (labels session label dir)

    masked : BegunSession → Option Label → Fd → RequestTree
    masked session label dir = under_umask (umask_of session asked.umask) (makes session label dir)

    in_dir : BegunSession → Option Label → Fd → RequestTree
    in_dir session label dir = make_object plan seat session asked label dir (making_call what dir asked.name)
        (undoing_call what dir asked.name)

    in_row : BegunSession → Resolved → RequestTree
    in_row session row =
        host_label plan session.agreed asked.ext.secctx (λ label. file_of row.form (in_dir session label))

    found : BegunSession → RequestTree
    found session = resolve asked.parent (in_row session)

    asks : BegunSession → RequestTree
    asks session = make_named plan seat asked what session

    even_labels : {Q : Answer → Type 0} (label : Option Label) (dir : Fd) {next : RequestTree} →
        ((last : Answer) → Q last) → Passes IsEven state Q next →
        Passes IsEven state Q (labelled_at dir asked.name (undoing_call what dir asked.name) label next)
    even_labels label dir any t =
        passes_labelled_at even_also any dir asked.name (undoing_call what dir asked.name) label
        (even_undo what dir asked.name) t

    even : Passes IsEven state (λ last. Unit {0}) (begin asks)
    even = passes_begin even_also _ (λ session. passes_named even_also asked.name tt (passes_checked what (
        passes_resolve even_also asked.parent _ (λ row. passes_label even_also plan session.agreed asked.ext.secctx _
        (λ label. passes_file even_also row.form _ (λ dir.
        passes_asker even_also seat (asker_of plan session asked.who asked.ext.sup_gid) (λ k. tt) (
        passes_umask even_also (umask_of session asked.umask) (
        record { by = (even_make what dir asked.name, λ told. (passes_made session label dir told).by) }))))))))
      where
        passes_made : (session : BegunSession) (label : Option Label) (dir : Fd) (told : ActReply) →
            Passes IsEven state (λ last. Stood state asked.parent → Unit {0})
            (Bares (on ok_in (λ done. labels session label dir) told))
        passes_made session label dir told = passes_bares even_also (record {
          by = passes_on {state = state} even_also ok_in (λ done. labels session label dir) (λ done.
              even_labels label dir (λ last k. tt) (
              passes_look_up even_also plan session asked.parent asked.name _ (λ told. tt) (λ fresh fd told. tt)
              (λ looked. ends even_also (λ k l. tt)))) told;
        })

    all : (n : ℕ) → live_count n w'.tables ≡ live_count n w.tables + entry_count n (finish.Answer last)
    all = counts j seat (begin asks) w last w' a (even_passes even)

    out : IsRefused w last w' → IsMaking state asked.parent asked.name last w'
    out r = inl (
      r.errno,
      r.is,
      (state, inl refl, shows_still w w' state s r.quiet.still (refused_counts w w' last r all)),
    )

    behind : (session : BegunSession) (label : Option Label) (b d e : World) (row : Resolved) →
        (rd : IsResolved j b d asked.parent (fd_of row.form)) → Quiet w b → Quiet w d →
        IsNamed d e (making_call what (fd_of row.form) asked.name) →
        At j (labels session label (fd_of row.form)) e last w' →
        IsMaking state asked.parent asked.name last w'
    behind session label b d e row rd qb qd m c =
        walk_labelled_at j dir rd.object asked.name (undoing_call what dir asked.name) label (looks_up session) e last
        w'
        a.given (made_open d.tree made.at asked.name e.tree dir rd.object made.makes dir_open) c
        (λ r. left r.errno r.is (λ n. same r.errno r.is n) r.quiet)
        (λ f q cf. elim (walk_entry plan j session asked.parent asked.name w f last w' state s low a.law all
        (steady_on w e f steady q) a.given cf) [
          | inl r ↦ inl (
            r.0,
            r.1,
            (
              named_state,
              inr (rd.object, stood, (bare_tree e.tree, new, inl refl)),
              subst (Shows w') (same_names f q)
                  r.2,
            ),
          )
          | inr g ↦ inr (
            g.0,
            g.1,
            (
              g.2.0,
              (
                rd.object,
                stood,
                (
                  bare_tree e.tree,
                  new,
                  subst (λ o. Looks named_state o asked.name g.0.inode g.2.0)
                      (stands_once state (bare_tree e.tree) asked.parent g.2.1.0 rd.object
                      (subst (λ (z : PlainTree). Stands z asked.parent g.2.1.0) (same_names f q) g.2.1.1) stood)
                      (subst (λ (z : PlainTree). Looks z g.2.1.0 asked.name g.0.inode g.2.0) (same_names f q) g.2.1.2),
                ),
              ),
              g.2.2,
            ),
          )
        ])
        (λ given f r p cf. walk_undone j (undoing_call what dir asked.name) given f last w'
        (is_undoing what dir asked.name) r
        a.given cf (λ x. left x.errno x.is (λ n. same x.errno x.is n) (quiet_on e f w' p.quiet x.quiet))
        (λ u. undone_so f p u))
      where
        dir : Fd
        dir = fd_of row.form

        named_state : PlainTree
        named_state = named_by state (bare_tree e.tree)

        steady : Steady w e
        steady = steady_named w d e (making_call what dir asked.name) qd m

        same_names : (f : World) → Quiet e f → named_by state (bare_tree f.tree) ≡ named_state
        same_names f q = λ i. named_by state (q.still.tree i)

        same : (errno : Errno) → last ≡ answer.Refused errno → (n : ℕ) → live_count n w'.tables ≡ live_count n w.tables
        same errno is n = let k = all n in let z = ap (λ (x : Answer). entry_count n (finish.Answer x)) is in
            omega (arith, k, z)

        made : IsMade d e dir asked.name
        made = made_tree d e what dir asked.name m

        dir_open : IsOpenOn d.tree dir rd.object
        dir_open = subst (λ (t : Tree). IsOpenOn t dir rd.object) (sym rd.tree) rd.open_on

        at : made.at ≡ rd.object
        at = one_object d.tree dir made.at rd.object made.dir_open dir_open

        stood : Stands state asked.parent rd.object
        stood = stands w state asked.parent rd.object s (ap (λ f. f asked.parent) (sym qb.still.past) ∙ rd.is_object)
            (let x = qb.falls asked.parent in let y = rd.live in omega (arith, x, y))

        new : MakesObject state.tree rd.object asked.name (bare_tree e.tree)
        new = subst (λ o. MakesObject state.tree o asked.name (bare_tree e.tree)) at
            (subst (λ (t : Tree). MakesObject t made.at asked.name (bare_tree e.tree))
            (qd.still.tree ∙ sym s.tree) (bare_makes d.tree made.at asked.name e.tree made.makes))

        -- the object stays
        left : (errno : Errno) → last ≡ answer.Refused errno →
            ((n : ℕ) → live_count n w'.tables ≡ live_count n w.tables) → Quiet e w' →
            IsMaking state asked.parent asked.name last w'
        left errno is c q = inl (
          errno,
          is,
          (
            named_state,
            inr (rd.object, stood, (bare_tree e.tree, new, inl refl)),
            refused_behind w e w' state s steady q c,
          ),
        )

        -- or its name went again
        undone_so : (f : World) → IsPassed e f dir rd.object → IsUndone f w' (undoing_call what dir asked.name) last →
            IsMaking state asked.parent asked.name last w'
        undone_so f p u = elim u.goes [
          | inl q ↦ left u.errno u.is (λ n. same u.errno u.is n) (quiet_on e f w' p.quiet q)
          | inr g ↦
              let t = undone_tree f g.0 what dir asked.name g.1 in inl (
                u.errno,
                u.is,
                (
                  named_by state (bare_tree g.0.tree),
                  inr (
                    rd.object,
                    stood,
                    (
                      bare_tree e.tree,
                      new,
                      inr (
                        bare_tree g.0.tree,
                        subst (λ (x : Tree). TakesName x rd.object asked.name (bare_tree g.0.tree)) p.quiet.still.tree
                            (subst (λ o. TakesName (bare_tree f.tree) o asked.name (bare_tree g.0.tree)) (p.at t.0 t.1)
                            (takes_bare f.tree t.0 asked.name g.0.tree t.2)),
                        refl,
                      ),
                    ),
                  ),
                  refused_behind w g.0 w' state s
                      (steady_then w f g.0 (undoing_call what dir asked.name) (steady_on w e f steady p.quiet) g.1) g.2
                      (λ n. same u.errno u.is n),
                ),
              )
        ]
