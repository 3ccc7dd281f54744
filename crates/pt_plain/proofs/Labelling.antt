-- Proof. A context of security of what was made: it is had, or what was made goes again, in the same directory.
use Rattle.std.proofs.Common.{◌≡◌, ◌≢◌, ◌⊎◌, inl, inr, ℕ, Bool, true, false, if◌then◌else◌, List, [], ◌∷◌, Option}
use Rattle.std.proofs.Common.{Some, None, Result, Ok, Err, refl, sym, ap, subst, ◌∙◌, ⊎_elim}
use Rattle.std.proofs.lemmas.Bool.{cases_eq}
use Rattle.pt_host.specs.Call.{Call}
use Rattle.pt_host.specs.Flags.{includes, o_path}
use Rattle.pt_host.specs.LawfulTree.{TreeChanges}
use Rattle.pt_host.specs.Tree.{Tree, Opened, IsOpenOn}
use Rattle.pt_host.specs.Words.{Each, set_at}
use Rattle.pt_host.specs.declared.ids.Errno.{Errno}
use Rattle.pt_host.specs.declared.ids.Fd.{Fd}
use Rattle.pt_host.specs.declared.op.KeptHostOp.TheVariants as call
use Rattle.pt_host.specs.declared.reply.HostReply.{HostReply}
use Rattle.pt_host.specs.declared.reply.HostReply.TheVariants as host
use Rattle.pt_host.specs.declared.reply.HostValue.TheVariants as value
use Rattle.pt_iface.specs.declared.answer.Answer.{Answer}
use Rattle.pt_iface.specs.declared.answer.Answer.TheVariants as answer
use Rattle.pt_frame.specs.Deed.{Deed, Calls, Changes, Step, LacksMemory}
use Rattle.pt_frame.specs.Tree.{RequestTree, Gives, Shuts}
use Rattle.pt_frame.specs.declared.act.ActReply.{ActReply}
use Rattle.pt_frame.specs.declared.act.ActReply.TheVariants.{Event, Host, NoCopy}
use Rattle.pt_host.specs.Errno.{eopnotsupp, eperm}
use Rattle.pt_maps.specs.MappedNames.{client_name}
use Rattle.pt_maps.specs.declared.xattr_map.AppliedRule.{AppliedRule}
use Rattle.pt_maps.specs.declared.xattr_map.AppliedRule.TheVariants as applied
use Rattle.pt_maps.specs.declared.xattr_rule.XattrRule.{XattrRule}
use Rattle.pt_tables.specs.declared.form.Negotiated.{Negotiated}
use Rattle.pt_iface.specs.declared.request.SecContext.{SecContext}
use Rattle.pt_req.specs.Attributes.{Label, by_rule, by_rules, host_label, host_name, is_blocked}
use Rattle.pt_req.specs.declared.plan.Plan.{Plan}
use Rattle.pt_req.specs.Parts.{by_path}
use Rattle.pt_req.specs.Steps.{ok_in, or_refused, refused_in, set_xattr, tried_in}
use Rattle.pt_attr.specs.Creating.{labelled, labelled_by, undone}
use Rattle.pt_attr.specs.Making.{label_at, labelled_at, set_opened}
use Rattle.pt_attr.specs.Steps.{opened_in}
use Rattle.pt_law.specs.Branch.{ReturnsHold}
use Rattle.pt_law.specs.World.{turn_by, World, Goes}
use Rattle.pt_law.proofs.Knowing.{one_object, stays_open}
use Rattle.pt_law.proofs.Lists.{set_at_same, set_at_other}
use Rattle.pt_plain.proofs.Coming.{Makes, seat_same, Walks}
use Rattle.pt_plain.proofs.Steady.{IsNamed, IsNaming, named_ok, not_ok_still}
use Rattle.pt_plain.proofs.Stilling.{IsStill}
use Rattle.pt_plain.proofs.Walking.{At, At.{by}, GivesNone, idles_quiet, in_bracket, IsRefused, mild_still, Quiet}
use Rattle.pt_plain.proofs.Walking.{quiet_goes, quiet_mild, quiet_none, quiet_on, refused_from, some_is, walk_ask}

abbrev err_in : Answer → Result Fd Answer → Answer
err_in last (Ok fd) = last
err_in last (Err given) = given

-- what is open there was open here
abbrev Pulls : Tree → Tree → Type 0
Pulls here there = (fd : Fd) (object : ℕ) → IsOpenOn there fd object → IsOpenOn here fd object

pulls_same : (here there : Tree) → there ≡ here → Pulls here there
pulls_same here there e fd object o = subst (λ (t : Tree). IsOpenOn t fd object) e o

pulls_closed : (here : Tree) (ended : Fd) → Pulls here (record here { opened = set_at ended.0 None here.opened })
pulls_closed here ended fd object o = ⊎_elim
    (λ (q : fd.0 ≡ ended.0). absurd (none (sym (ap (set_at ended.0 None here.opened) q
    ∙ set_at_same here.opened ended.0 None) ∙ o.1)))
    (λ (q : fd.0 ≢ ended.0). (o.0, sym (set_at_other here.opened ended.0 None fd.0 q) ∙ o.1, o.2))
    (cases_eq fd.0 ended.0)
  where
    none : None ≡ Some o.0 → ⊥
    none e = cc

-- what gives back opens nothing
back_call : (tree : Tree) (asked : Call) (told : HostReply) (after : Tree) → ReturnsHold (Some (Calls asked)) →
    TreeChanges tree asked told after → Pulls tree after
back_call tree (call.Close fd) told after r c = subst (λ (t : Tree). Pulls tree t) (sym c) (pulls_closed tree fd)
back_call tree (call.SetGroups list) told after r c =
    pulls_same tree after (seat_same tree (call.SetGroups list) told after tt c)
back_call tree (call.SetEgid gid) told after r c =
    pulls_same tree after (seat_same tree (call.SetEgid gid) told after tt c)
back_call tree (call.SetEuid uid) told after r c =
    pulls_same tree after (seat_same tree (call.SetEuid uid) told after tt c)
back_call tree (call.RaiseCap caps) told after r c =
    pulls_same tree after (seat_same tree (call.RaiseCap caps) told after tt c)
back_call tree (call.DropCap caps) told after r c =
    pulls_same tree after (seat_same tree (call.DropCap caps) told after tt c)
back_call tree (call.SetUmask mask) told after r c =
    pulls_same tree after (seat_same tree (call.SetUmask mask) told after tt c)
back_call tree asked told after r c = absurd r

walks_pull : (j : ℕ) (steps : List Step) (w on : World) → Each (λ (s : Step). ReturnsHold s.deed) steps →
    Walks j w steps on → Pulls w.tree on.tree
walks_pull j [] w on r k = pulls_same w.tree on.tree (ap (λ (z : World). z.tree) k.1)
walks_pull j (step ∷ steps) w on r k = λ fd object o.
    one step.deed step.reply r.0 k.1 k.3 fd object (walks_pull j steps k.2 on r.1 k.4 fd object o)
  where
    one : (deed : Option Deed) (told : ActReply) → ReturnsHold deed → (LacksMemory told → ⊥) →
        Goes w (turn_by j (record { deed = deed; reply = told })) k.2 → Pulls w.tree k.2.tree
    one deed NoCopy r n g = absurd (n refl)
    one None (Event told) r n g = absurd g.made
    one None (Host told) r n g = absurd g.made
    one (Some (Calls asked)) (Event told) r n g = absurd g.made
    one (Some (Changes asked)) (Host told) r n g = absurd g.made
    one (Some (Calls asked)) (Host told) r n g = back_call w.tree asked told k.2.tree r g.made.0.0.trees.changes
    one (Some (Changes asked)) (Event told) r n g = pulls_same w.tree k.2.tree g.made.1

-- Nothing is seen, and the descriptor is open on that object still, if it is open.
pub record IsPassed (e f : World) (dir : Fd) (object : ℕ) : Type 0 where
  pub quiet : Quiet e f
  pub at : (other : ℕ) → IsOpenOn f.tree dir other → other ≡ object

passed_none : (e : World) (dir : Fd) (object : ℕ) → IsOpenOn e.tree dir object → IsPassed e e dir object
passed_none e dir object o =
    record { quiet = quiet_none e; at = λ other p. one_object e.tree dir other object p o }

-- how a refusal is answered
abbrev pub IsRefusal : Answer → Type 0
IsRefusal given = (given ≡ answer.NoMemory) ⊎ ((errno : Errno) × (given ≡ answer.Refused errno))

-- What was made goes again, whatever the host says of it.
pub record IsUndone (f w' : World) (undoing : Call) (last : Answer) : Type 0 where
  pub errno : Errno
  pub is : last ≡ answer.Refused errno
  pub goes : Quiet f w' ⊎ ((m : World) × IsNamed f m undoing × Quiet m w')

pub walk_undone : {G : Type 0} (j : ℕ) (undoing : Call) (given : Answer) (f : World) (last : Answer) (w' : World) →
    IsNaming undoing → IsRefusal given → last ≢ answer.NoMemory → At j (undone undoing given) f last w' →
    (IsRefused f last w' → G) → (IsUndone f w' undoing last → G) → G
walk_undone {G} j undoing given f last w' is refusal n c out goes =
    walk_ask j (Calls undoing) tried_in (λ done. Gives given) f last w' n refuses c out go
  where
    refuses : (told : ActReply) → tried_in told ≡ None → IsStill (Calls undoing) told × GivesNone (Calls undoing) told
    refuses (Host told) e = absurd (cc)
    refuses (Event told) e = (tt, tt)
    refuses NoCopy e = (tt, tt)

    ends : last ≡ given → (errno : Errno) × (last ≡ answer.Refused errno)
    ends e = elim refusal [
      | inl m ↦ absurd (n (e ∙ m))
      | inr r ↦ (r.0, e ∙ r.1)
    ]

    still : (told : HostReply) (mid on : World) → (ok_in (Host told) ≡ None) →
        Makes j f (Calls undoing) (Host told) mid →
        on ≡ mid → At j (Gives given) on last w' → G
    still told mid on z m i (by k) =
        let s = not_ok_still undoing (Host told) is z in
        let q = subst (λ (x : World). Quiet f x) (sym i) (quiet_goes j f mid (Calls undoing) (Host told) m s.0 s.1) in
        let r = ends k.0 in
        goes (record { errno = r.0; is = r.1; goes = inl (quiet_on f on w' q (idles_quiet j on w' k.1)) })

    go : (told : ActReply) (done : Unit {0}) (mid on : World) → tried_in told ≡ Some done →
        Makes j f (Calls undoing) told mid → on ≡ mid → At j (Gives given) on last w' → G
    go (Host (host.Ok told)) done mid on e m i (by k) =
        let r = ends k.0 in
        goes (record {
          errno = r.0;
          is = r.1;
          goes = inr (
            on,
            subst (λ (x : World). IsNamed f x undoing) (sym i) (named_ok j undoing f mid told is m),
            idles_quiet j on w' k.1,
          );
        })
    go (Host (host.Refused errno)) done mid on e m i k = still (host.Refused errno) mid on refl m i k
    go (Host (host.Fault errno)) done mid on e m i k = still (host.Fault errno) mid on refl m i k
    go (Host host.NoMemory) done mid on e m i k = still host.NoMemory mid on refl m i k
    go (Event told) done mid on e m i k = absurd (cc)
    go NoCopy done mid on e m i k = absurd (cc)

-- what a setting of an attribute is told
refused_so : (told : ActReply) (last : Answer) → refused_in told ≡ Some (Some last) → IsRefusal last
refused_so (Host (host.Ok told)) last e = absurd (let x : None ≡ Some last = some_is e in cc)
refused_so (Host (host.Refused errno)) last e = inr (errno, sym (some_is (some_is e)))
refused_so (Host (host.Fault errno)) last e = inr (errno, sym (some_is (some_is e)))
refused_so (Host host.NoMemory) last e = inl (sym (some_is (some_is e)))
refused_so NoCopy last e = inl (sym (some_is (some_is e)))
refused_so (Event told) last e = absurd (cc)

-- a setting of an attribute leaves the tree
set_same : (j : ℕ) (w on : World) (fd : Fd) (through : Bool) (name bytes : List ℕ) (flags : ℕ) (told : ActReply) →
    Makes j w (Calls (call.SetXattr fd through name bytes flags)) told on → on.tree ≡ w.tree
set_same j w on fd through name bytes flags (Host (host.Ok told)) m = m.2.made.0.0.trees.changes.1
set_same j w on fd through name bytes flags (Host (host.Refused errno)) m = m.2.made.0.0.trees.changes.1
set_same j w on fd through name bytes flags (Host (host.Fault errno)) m = m.2.made.0.0.trees.changes
set_same j w on fd through name bytes flags (Host host.NoMemory) m = m.2.made.0.0.trees.changes
set_same j w on fd through name bytes flags (Event told) m = absurd m.2.made
set_same j w on fd through name bytes flags NoCopy m = absurd (m.1 refl)

-- the setting of an attribute: it is Ok, or is refused so
walk_set : {G : Type 0} (j : ℕ) (fd : Fd) (through : Bool) (name bytes : List ℕ) (next : Option Answer → RequestTree)
    (w : World) (last : Answer) (w' : World) → last ≢ answer.NoMemory →
    At j (set_xattr fd through name bytes 0 next) w last w' → (IsRefused w last w' → G) →
    ((refused : Option Answer) (on : World) → ((last : Answer) → refused ≡ Some last → IsRefusal last) → Quiet w on →
    on.tree ≡ w.tree → At j (next refused) on last w' → G) → G
walk_set j fd through name bytes next w last w' n c out goes =
    walk_ask j (Calls (call.SetXattr fd through name bytes 0)) refused_in next w last w' n
    (λ told e. (mild_still (Calls (call.SetXattr fd through name bytes 0)) told tt, tt)) c out
    (λ told refused mid on e m i k. goes refused on
    (λ last r. refused_so told last (e ∙ ap (λ (z : Option Answer). Some z) r))
    (subst (λ (z : World). Quiet w z) (sym i)
    (quiet_mild j w mid (Calls (call.SetXattr fd through name bytes 0)) told tt m))
    (ap (λ (z : World). z.tree) i ∙ set_same j w mid fd through name bytes 0 told m) k)

-- by the descriptor of a file that was made
pub walk_labelled : {G : Type 0} (j : ℕ) (dir : Fd) (object : ℕ) (fd : Fd) (undoing : Call) (label : Option Label)
    (next : RequestTree) (e : World) (last : Answer) (w' : World) → last ≢ answer.NoMemory →
    IsOpenOn e.tree dir object →
    At j (labelled fd undoing label next) e last w' → (IsRefused e last w' → G) →
    ((f : World) → Quiet e f → f.tree ≡ e.tree → At j next f last w' → G) →
    ((given : Answer) (f : World) → IsRefusal given → IsPassed e f dir object → At j (undone undoing given) f last w' →
    G) → G
walk_labelled j dir object fd undoing None next e last w' n o c out goes undo = goes e (quiet_none e) refl c
walk_labelled {G} j dir object fd undoing (Some label) next e last w' n o c out goes undo = by_name label.name c
  where
    set : (refused : Option Answer) (f : World) → ((last : Answer) → refused ≡ Some last → IsRefusal last) → Quiet e f →
        f.tree ≡ e.tree → At j (or_refused (undone undoing) next refused) f last w' → G
    set None f r q t k = goes f q t k
    set (Some given) f r q t k = undo given f (r given refl) (record {
      quiet = q;
      at = λ other p. one_object e.tree dir other object (subst (λ (x : Tree). IsOpenOn x dir other) t p) o;
    }) k

    by_name : (name : Result (List ℕ) Errno) → At j (labelled_by fd undoing label.value name next) e last w' → G
    by_name (Err errno) k = undo (answer.Refused errno) e (inr (errno, refl)) (passed_none e dir object o) k
    by_name (Ok name) k = walk_set j fd false name label.value (or_refused (undone undoing) next) e last w' n k out set

-- the opening by a name of what was made
record IsTried (e a : World) (dir : Fd) (object : ℕ) : Type 0 where
  quiet : Quiet e a
  open_on : IsOpenOn a.tree dir object

tried : (j : ℕ) (e a : World) (dir : Fd) (name : List ℕ) (told : ActReply) (object : ℕ) →
    Makes j e (Calls (call.OpenAt dir name by_path 0)) told a → IsOpenOn e.tree dir object → IsTried e a dir object
tried j e a dir name told object m o = record {
  quiet = quiet_mild j e a (Calls (call.OpenAt dir name by_path 0)) told refl m;
  open_on = go told m;
}
  where
    opened : (t : Tree) (fd : Fd) (x : Option Opened) → t.opened fd.0 ≡ None → IsOpenOn t dir object →
        IsOpenOn (record t { opened = set_at fd.0 x t.opened }) dir object
    opened t fd x free p = stays_open t fd.0 x dir object (λ q. none (sym free ∙ ap t.opened (sym q) ∙ p.1)) p
      where
        none : None ≡ Some p.0 → ⊥
        none z = cc

    same : a.tree ≡ e.tree → IsOpenOn a.tree dir object
    same t = subst (λ (x : Tree). IsOpenOn x dir object) (sym t) o

    go : (told : ActReply) → Makes j e (Calls (call.OpenAt dir name by_path 0)) told a → IsOpenOn a.tree dir object
    go (Host (host.Ok (value.Fd fd))) m = by m.2.made.0.0.trees.changes
      where
        by : TreeChanges e.tree (call.OpenAt dir name by_path 0) (host.Ok (value.Fd fd)) a.tree →
            IsOpenOn a.tree dir object
        by (inl found) =
            subst (λ (x : Tree). IsOpenOn x dir object) (sym found.3.adds) (opened e.tree fd
            (Some (record { object = found.0; path_only = includes by_path.0 o_path })) found.3.fresh o)
        by (inr made) = absurd (let z = made.1 in cc)
    go (Host (host.Ok told)) m = absurd m.2.made.0.0.trees.changes.0
    go (Host (host.Refused errno)) m = same m.2.made.0.0.trees.changes.1
    go (Host (host.Fault errno)) m = same m.2.made.0.0.trees.changes
    go (Host host.NoMemory) m = same m.2.made.0.0.trees.changes
    go (Event told) m = absurd m.2.made
    go NoCopy m = absurd (m.1 refl)

opened_so : (told : ActReply) (last : Answer) → opened_in told ≡ Some (Err last) → IsRefusal last
opened_so (Host (host.Ok (value.Fd fd))) last e = absurd (let x : Ok fd ≡ Err last = some_is e in cc)
opened_so (Host (host.Refused errno)) last e = inr (errno, sym (ap (err_in last) (some_is e)))
opened_so (Host (host.Fault errno)) last e = inr (errno, sym (ap (err_in last) (some_is e)))
opened_so (Host host.NoMemory) last e = inl (sym (ap (err_in last) (some_is e)))
opened_so NoCopy last e = inl (sym (ap (err_in last) (some_is e)))
opened_so told last e = absurd (cc)

-- by the name of what was made
pub walk_labelled_at : {G : Type 0} (j : ℕ) (dir : Fd) (object : ℕ) (name : List ℕ) (undoing : Call)
    (label : Option Label) (next : RequestTree) (e : World) (last : Answer) (w' : World) → last ≢ answer.NoMemory →
    IsOpenOn e.tree dir object → At j (labelled_at dir name undoing label next) e last w' → (IsRefused e last w' → G) →
    ((f : World) → Quiet e f → At j next f last w' → G) →
    ((given : Answer) (f : World) → IsRefusal given → IsPassed e f dir object → At j (undone undoing given) f last w' →
    G) → G
walk_labelled_at j dir object name undoing None next e last w' n o c out goes undo = goes e (quiet_none e) c
walk_labelled_at {G} j dir object name undoing (Some label) next e last w' n o c out goes undo = by_name label.name c
  where
    -- the bracket ends
    shuts : (a f : World) → IsTried e a dir object → Quiet a f → f.tree ≡ a.tree → (refused : Option Answer) →
        ((last : Answer) → refused ≡ Some last → IsRefusal last) →
        At j (Shuts false (or_refused (undone undoing) next refused)) f last w' → G
    shuts a f t q same None r (by k) = goes k.0
        (quiet_on e f k.0 (quiet_on e a f t.quiet q) (idles_quiet j f k.0 k.1)) (by k.2)
    shuts a f t q same (Some given) r (by k) = undo given k.0 (r given refl) (record {
      quiet = quiet_on e f k.0 (quiet_on e a f t.quiet q) (idles_quiet j f k.0 k.1);
      at = λ other p. one_object a.tree dir other object
          (subst (λ (x : Tree). IsOpenOn x dir other) same (walks_pull j k.1.0 f k.0 k.1.1 k.1.2 dir other p))
          t.open_on;
    }) (by k.2)

    err_of : Answer → Result Fd Answer
    err_of given = Err given

    attribute_set : (attribute : List ℕ) (a : World) → IsTried e a dir object → (opened : Result Fd Answer) →
        ((last : Answer) → opened ≡ Err last → IsRefusal last) →
        At j (set_opened attribute label.value opened
        (λ refused. Shuts false (or_refused (undone undoing) next refused))) a
        last w' → G
    attribute_set attribute a t (Ok fd) r k =
        walk_set j fd true attribute label.value (λ refused. Shuts false (or_refused (undone undoing) next refused)) a
        last
        w' n k (λ x. out (refused_from e a last w' t.quiet x)) (λ refused f s q same m. shuts a f t q same refused s m)
    attribute_set attribute a t (Err given) r k =
        shuts a a t (quiet_none a) refl (Some given) (λ last z. r last (ap err_of (some_is z))) k

    by_name : (found : Result (List ℕ) Errno) → At j (label_at dir name undoing label.value found next) e last w' → G
    by_name (Err errno) k = undo (answer.Refused errno) e (inr (errno, refl)) (passed_none e dir object o) k
    by_name (Ok attribute) k =
        walk_ask j (Calls (call.OpenAt dir name by_path 0)) opened_in
        (λ opened. set_opened attribute label.value opened (λ refused.
        Shuts false (or_refused (undone undoing) next refused))) e last w' n
        (λ told z. (mild_still (Calls (call.OpenAt dir name by_path 0)) told refl, tt)) (in_bracket k) out
        (λ told opened mid on z m i x. attribute_set attribute on
        (subst (λ (v : World). IsTried e v dir object) (sym i) (tried j e mid dir name told object m o)) opened
        (λ last y. opened_so told last (z ∙ ap (λ (v : Result Fd Answer). Some v) y)) x)

-- The host's name of the attribute is made.
walk_rule : {G : Type 0} (j : ℕ) (fate : Option AppliedRule) (next : Result (List ℕ) Errno → RequestTree) (w : World)
    (last : Answer) (w' : World) → At j (by_rule fate next) w last w' →
    ((name : Result (List ℕ) Errno) → At j (next name) w last w' → G) → G
walk_rule j (Some (applied.Pass made)) next w last w' (by c) goes = goes (Ok made) (by c)
walk_rule j (Some applied.Deny) next w last w' c goes = goes (Err eperm) c
walk_rule j (Some applied.Unsupported) next w last w' c goes = goes (Err eopnotsupp) c
walk_rule j None next w last w' c goes = goes (Err eopnotsupp) c

walk_rules : {G : Type 0} (j : ℕ) (rules : Option (List XattrRule)) (name : List ℕ)
    (next : Result (List ℕ) Errno → RequestTree) (w : World) (last : Answer) (w' : World) →
    At j (by_rules rules name next) w last w' → ((name : Result (List ℕ) Errno) → At j (next name) w last w' → G) → G
walk_rules j None name next w last w' c goes = goes (Ok name) c
walk_rules j (Some rules) name next w last w' c goes = walk_rule j (client_name rules name) next w last w' c goes

walk_name : {G : Type 0} (j : ℕ) (plan : Plan) (agreed : Negotiated) (name : List ℕ)
    (next : Result (List ℕ) Errno → RequestTree) (w : World) (last : Answer) (w' : World) →
    At j (host_name plan agreed name next) w last w' →
    ((name : Result (List ℕ) Errno) → At j (next name) w last w' → G) → G
unfolding host_name
walk_name {G} j plan agreed name next w last w' c goes = go (is_blocked agreed name) c
  where
    go : (blocked : Bool) →
        At j (if blocked then next (Err eopnotsupp) else by_rules plan.config.xattrmap name next) w last w' → G
    go true k = goes (Err eopnotsupp) k
    go false k = walk_rules j plan.config.xattrmap name next w last w' k goes

pub walk_label : {G : Type 0} (j : ℕ) (plan : Plan) (agreed : Negotiated) (brought : Option SecContext)
    (next : Option Label → RequestTree) (w : World) (last : Answer) (w' : World) →
    At j (host_label plan agreed brought next) w last w' → ((label : Option Label) → At j (next label) w last w' → G) →
    G
walk_label j plan agreed None next w last w' c goes = goes None c
walk_label j plan agreed (Some label) next w last w' c goes =
    walk_name j plan agreed label.name (λ name. next (Some (record { name = name; value = label.value }))) w last w' c
    (λ name k. goes (Some (record { name = name; value = label.value })) k)
