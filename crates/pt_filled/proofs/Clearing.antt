-- Proof. An extended attribute goes, and the capabilities of a file where rules give their attribute another name.
use Rattle.std.specs.Prelude.{◌||◌, if◌then◌else◌}
use Rattle.std.specs.Map.{update}
use Rattle.std.specs.Str.{bytes_eq}
use Rattle.std.proofs.Common.{[], ◌∷◌, ◌≡◌, ◌≢◌, ◌<◌, ℕ, List, length, Bool, true, false, Option, Some, None, refl, sym}
use Rattle.std.proofs.Common.{ap, subst, ◌∙◌, cond, is_none, inl, inr, option_and_then, option_map}
use Rattle.std.proofs.Common.{slice_get, ⊎_elim}
use Rattle.std.proofs.lemmas.Bool.{cases_eq}
use Rattle.std.proofs.lemmas.Option.{slice_get_within}
use Rattle.pt_host.specs.Contents.{ObjectContents}
use Rattle.pt_host.specs.Errno.{ebadf, enodata, eopnotsupp}
use Rattle.pt_host.specs.LawfulTree.{TreeChanges}
use Rattle.pt_host.specs.Tree.{IsOpenOn, Object, Tree}
use Rattle.pt_host.specs.declared.ids.Errno.{Errno}
use Rattle.pt_host.specs.declared.ids.Fd.{Fd}
use Rattle.pt_host.specs.declared.reply.HostReply.{HostReply}
use Rattle.pt_host.specs.declared.seat.HostSeat.{HostSeat}
use Rattle.pt_host.specs.declared.op.KeptHostOp.TheVariants as call
use Rattle.pt_host.specs.declared.reply.HostReply.TheVariants as host
use Rattle.pt_host.specs.declared.reply.HostValue.TheVariants as value
use Rattle.pt_iface.specs.declared.answer.Answer.{Answer}
use Rattle.pt_iface.specs.declared.answer.Answer.TheVariants as answer
use Rattle.pt_frame.specs.Deed.{Calls, LacksMemory}
use Rattle.pt_frame.specs.Replies.{closings_in}
use Rattle.pt_frame.specs.Tree.{RequestTree}
use Rattle.pt_frame.specs.declared.act.ActReply.{ActReply}
use Rattle.pt_frame.specs.declared.act.ActReply.TheVariants.{Event, Host, NoCopy}
use Rattle.pt_req.specs.Capability.{capability_cleared}
use Rattle.pt_req.specs.Steps.{gone_in, is_gone}
use Rattle.pt_law.specs.World.{made}
use Rattle.pt_law.proofs.Lists.{set_at_same, set_at_other}
use Rattle.pt_node.specs.Attributes.{value_of, without_value}
use Rattle.pt_node.specs.Changes.{unvalued}
use Rattle.pt_node.specs.Entries.{restamped}
use Rattle.pt_node.specs.Opening.{first_refusal}
use Rattle.pt_node.specs.Slots.{open_at}
use Rattle.pt_node.specs.Laws.Updates.{get-set_apart, get-set_here}
use Rattle.pt_node.specs.declared.node.Node.{Node}
use Rattle.pt_node.specs.declared.slots.OpenFile.{OpenFile}
use Rattle.pt_rules.specs.AttributeCalls.{does_not_serve, remove_xattr_row, with_status}
use Rattle.pt_rules.specs.Calls.{Answered, on_open, open_on, tells, unless}
use Rattle.pt_rules.specs.Does.{AnswersCall, Does}
use Rattle.pt_rules.specs.Faults.{eio_where, failure, failure_of, is_errno, next_call, plan_for}
use Rattle.pt_rules.specs.Rows.{by_row, on_row}
use Rattle.pt_rules.specs.Sound.{AreOrdered, IsSound}
use Rattle.pt_rules.specs.State.{State, contents_where, time_of, tree_of}
use Rattle.pt_rules.specs.Table.{Outcome}
use Rattle.pt_rules.specs.Laws.NameTable.{found-unnamed}
use Rattle.pt_plain.proofs.Stilling.{still_goes}
use Rattle.pt_plain.proofs.Walking.{Quiet, quiet_none, some_is}
use Rattle.pt_filled.specs.Contents.{IsSame, uncapped, valued, with_changed}
use Rattle.pt_filled.proofs.Effects.{same_parts}
use Rattle.pt_filled.proofs.Filling.{open_within}
use Rattle.pt_filled.proofs.Descriptors.{KeepsFds, fds_call, fds_none}
use Rattle.pt_filled.proofs.Hosting.{Alters, alters_on, contents_at, Full, objects_at, Respects, Steps}
use Rattle.pt_filled.proofs.Hosting.{Thread, world_of}
use Rattle.pt_filled.proofs.Parts.{At, IsRefused, Leaves, quiet_makes, walk_ask}
use Rattle.pt_filled.proofs.Tables.{alters_set, IsSetTo, opened_object}
use Rattle.pt_filled.proofs.Threading.{IdlesBy, Makes}

-- ---- what a name has once it is taken away

pub values_without : (name : List ℕ) (values : List (List ℕ × List ℕ)) → AreOrdered values →
    ◌≡◌ {A = List ℕ → Option (List ℕ)} (λ q. value_of q (without_value name values))
    (update bytes_eq (λ k. value_of k values) name None)
values_without name values ordered = λ i q. found-unnamed q name values ordered i

-- where it has none, nothing is taken
none_first : (name : List ℕ) (b : Bool) (entry : List ℕ × List ℕ) (more : List (List ℕ × List ℕ)) →
    cond b (Some entry.1) (value_of name more) ≡ None →
    (value_of name more ≡ None → without_value name more ≡ more) →
    cond b more (entry ∷ without_value name more) ≡ entry ∷ more
none_first name true entry more e later = absurd (cc)
none_first name false entry more e later = ap (λ (m : List (List ℕ × List ℕ)). entry ∷ m) (later e)

none_taken : (name : List ℕ) (values : List (List ℕ × List ℕ)) → value_of name values ≡ None →
    without_value name values ≡ values
none_taken name [] e = refl
none_taken name (entry ∷ more) e =
    none_first name (bytes_eq name entry.0) entry more e (λ later. none_taken name more later)

-- ---- the call, where it tells that the attribute is gone

clash : false ≡ true → ⊥
clash e = cc

refused_gone : (told : HostReply) (s after : State) → ◌≡◌ {A = Answered} (told, after) (host.Refused ebadf, s) →
    is_gone (Host told) ≡ true → ⊥
refused_gone told s after e g = clash (sym (ap (λ (a : Answered). is_gone (Host a.0)) e) ∙ g)

-- a planned failure never tells so
fault_gone : (fd : Fd) (through : Bool) (name : List ℕ) (planned : Option Errno) (errno : Errno) →
    option_and_then (failure (call.RemoveXattr fd through name)) planned ≡ Some errno →
    is_gone (Host (host.Fault errno)) ≡ true → ⊥
fault_gone fd through name None errno q g = absurd (cc)
fault_gone fd through name (Some was) errno q g = by (is_errno was enodata || is_errno was eopnotsupp) refl q
  where
    by : (t : Bool) → (is_errno was enodata || is_errno was eopnotsupp) ≡ t →
        ◌≡◌ {A = Option Errno} (Some (eio_where t was)) (Some errno) → ⊥
    by true r q = clash (ap (λ (x : Errno). is_gone (Host (host.Fault x))) (some_is q) ∙ g)
    by false r q = clash (sym r ∙ ap (λ (x : Errno). is_gone (Host (host.Fault x))) (some_is q) ∙ g)

has_memory : (told : HostReply) → is_gone (Host told) ≡ true → LacksMemory (Host told) → ⊥
has_memory (host.Ok told) g e = cc
has_memory (host.Refused errno) g e = cc
has_memory (host.Fault errno) g e = cc
has_memory host.NoMemory g e = cc

-- the table answered it
record Answers (s : State) (fd : Fd) (through : Bool) (name : List ℕ) (told : HostReply) (on : State) : Type 0 where
  after : State
  answered : (told, after) ≡ on_row s fd (remove_xattr_row s through name)
  nodes : on.nodes ≡ after.nodes

answers : (s : State) (seat : HostSeat) (fd : Fd) (through : Bool) (name : List ℕ) (told : HostReply) (on : State)
    (seat' : HostSeat) → Does s seat (call.RemoveXattr fd through name) told on seat' → is_gone (Host told) ≡ true →
    Answers s fd through name told on
answers s seat fd through name told on seat' d g =
    go (failure_of s (call.RemoveXattr fd through name)) refl d.answers.answered
  where
    go : (failing : Option Errno) → failure_of s (call.RemoveXattr fd through name) ≡ failing →
        AnswersCall failing s d.answers.numbers seat (call.RemoveXattr fd through name) told d.answers.state seat' →
        Answers s fd through name told on
    go (Some errno) q e = absurd (fault_gone fd through name (plan_for (next_call s) s.plans) errno q
        (sym (ap (λ (o : Outcome). is_gone (Host o.0)) e) ∙ g))
    go None q (inr e) = absurd e.0
    go None q (inl e) = record {
      after = d.answers.state;
      answered = (λ i. ((e i).0, (e i).1));
      nodes = ap (λ (z : State). z.nodes) d.answers.counts;
    }

-- the descriptor's object is without it
record Without (s : State) (fd : Fd) (name : List ℕ) (after : State) : Type 0 where
  file : OpenFile
  node : Node
  open_as : open_at s.slots fd.0 ≡ Some file
  there : slice_get s.nodes file.object ≡ Some node
  later : Node
  set : IsSetTo s.nodes file.object later after.nodes
  is : IsSame (valued name None (contents_where (Some node))) (contents_where (Some later))

without_it : (s : State) (fd : Fd) (through : Bool) (name : List ℕ) (told : HostReply) (after : State) → IsSound s →
    (told, after) ≡ on_row s fd (remove_xattr_row s through name) → is_gone (Host told) ≡ true →
    Without s fd name after
without_it s fd through name told after sound e g = by_file (open_at s.slots fd.0) refl e
  where
    rest : OpenFile → Node → Answered
    rest file node = by_row s file.object (remove_xattr_row s through name file node)

    by_checks : (file : OpenFile) (node : Node) → open_at s.slots fd.0 ≡ Some file →
        slice_get s.nodes file.object ≡ Some node → (b : Bool) (had : Option (List ℕ)) →
        value_of name node.xattrs ≡ had → (told, after) ≡ unless s
        (first_refusal ((b, ebadf) ∷ (is_none had, enodata) ∷ []))
        (tells (with_status s file.object (unvalued name node)) value.Unit) → Without s fd name after
    by_checks file node is there true value v e = absurd (refused_gone told s after e g)
    by_checks file node is there false None v e =
        let same = ap (λ (a : Answered). a.1.nodes) e in
        let untaken : ◌≡◌ {A = List ℕ → Option (List ℕ)} (λ q. value_of q node.xattrs)
        (λ q. value_of q (without_value name node.xattrs)) =
        λ i q. value_of q (sym (none_taken name node.xattrs v) i) in record {
          file = file;
          node = node;
          open_as = is;
          there = there;
          later = node;
          set = (
            ap (λ (n : List Node). slice_get n file.object) same ∙ there,
            λ other q. ap (λ (n : List Node). slice_get n other) same,
          );
          is = same_parts (valued name None (contents_where (Some node))) _ refl refl refl refl refl
              (untaken ∙ values_without name node.xattrs (sound.made file.object node there).attributed);
        }
    by_checks file node is there false (Some bytes) v e =
        let same = ap (λ (a : Answered). a.1.nodes) e in
        let later = restamped (time_of s) (unvalued name node) in record {
          file = file;
          node = node;
          open_as = is;
          there = there;
          later = later;
          set = (
            ap (λ (n : List Node). slice_get n file.object) same
                ∙ get-set_here s.nodes file.object later (slice_get_within s.nodes file.object node there),
            λ other q. ap (λ (n : List Node). slice_get n other) same
                ∙ get-set_apart s.nodes file.object later other q,
          );
          is = same_parts (valued name None (contents_where (Some node))) _ refl refl refl refl refl
              (values_without name node.xattrs (sound.made file.object node there).attributed);
        }

    by_node : (file : OpenFile) (node : Option Node) → open_at s.slots fd.0 ≡ Some file →
        slice_get s.nodes file.object ≡ node →
        (told, after) ≡ on_open s (option_map (λ (at : Node). (file, at)) node) rest → Without s fd name after
    by_node file None is there e = absurd (refused_gone told s after e g)
    by_node file (Some node) is there e =
        by_checks file node is there (does_not_serve file through) (value_of name node.xattrs) refl e

    by_file : (file : Option OpenFile) → open_at s.slots fd.0 ≡ file →
        (told, after) ≡ on_open s (open_on s.nodes file) rest → Without s fd name after
    by_file None is e = absurd (refused_gone told s after e g)
    by_file (Some file) is e = by_node file (slice_get s.nodes file.object) is refl e

was_cleared : (j : Thread) (d on : Full) (fd : Fd) (through : Bool) (name : List ℕ) (told : HostReply) (object : ℕ) →
    Steps j d (made (Calls (call.RemoveXattr fd through name)) (Host told)) on → is_gone (Host told) ≡ true →
    IsSound d.state → IsOpenOn (tree_of d.state) fd object →
    Alters d on (with_changed object (valued name None) (contents_at d))
was_cleared j d on fd through name told object s g sound o =
    let a = answers d.state d.seat fd through name told on.state on.seat s.made.0 g in
    let r = without_it d.state fd through name told a.after sound a.answered g in
    let e = opened_object d.state fd object r.file o r.open_as in
    let still = still_goes j.job (world_of d) (world_of on) (Calls (call.RemoveXattr fd through name)) (Host told) tt
    (has_memory told g) s.goes in
    alters_set d on object r.node r.later (valued name None) (ap (λ (t : Tree). t.objects) still.tree)
    (ap (slice_get d.state.nodes) (sym e) ∙ r.there)
    (subst (λ (nodes : List Node). IsSetTo d.state.nodes object r.later nodes) (sym a.nodes)
    (subst (λ (place : ℕ). IsSetTo d.state.nodes place r.later a.after.nodes) e r.set)) r.is

-- the call leaves the tree
tree_still : (tree after : Tree) (fd : Fd) (through : Bool) (name : List ℕ) (told : HostReply) →
    TreeChanges tree (call.RemoveXattr fd through name) told after → after ≡ tree
tree_still tree after fd through name (host.Ok told) c = c.1
tree_still tree after fd through name (host.Refused errno) c = c.1
tree_still tree after fd through name (host.Fault errno) c = c
tree_still tree after fd through name host.NoMemory c = c

-- ---- the capabilities go

-- an object that is changed to what it was
pub idle_at : (object : ℕ) (are : ℕ → ObjectContents) (other : ℕ) →
    with_changed object (λ was. was) are other ≡ are other
idle_at object are other = ⊎_elim
    (λ (q : other ≡ object).
    ap (with_changed object (λ was. was) are) q ∙ set_at_same are object (are object) ∙ ap are (sym q))
    (λ (q : other ≢ object). set_at_other are object (are object) other q) (cases_eq other object)

pub alters_idle : (w x : Full) (are : ℕ → ObjectContents) (object : ℕ) → Alters w x are →
    Alters w x (with_changed object (λ was. was) are)
alters_idle w x are object a = record {
  objects = a.objects;
  same = λ other l. subst (λ (c : ObjectContents). IsSame c (contents_at x other)) (sym (idle_at object are other))
      (a.same other l);
}

-- the object of a descriptor was there as the job began
pub within_at : (w x : Full) (are : ℕ → ObjectContents) (fd : Fd) (object : ℕ) → Alters w x are → IsSound x.state →
    IsOpenOn (world_of x).tree fd object → object < length (objects_at w)
within_at w x are fd object a s o =
    subst (λ (z : List Object). object < length z) a.objects (open_within x fd object s o)

-- one object is changed twice
changed_twice : (object : ℕ) (one later : ObjectContents → ObjectContents) (are : ℕ → ObjectContents) (other : ℕ) →
    with_changed object later (with_changed object one are) other
    ≡ with_changed object (λ was. later (one was)) are other
changed_twice object one later are other = ⊎_elim
    (λ (q : other ≡ object). ap (with_changed object later (with_changed object one are)) q
    ∙ set_at_same (with_changed object one are) object (later (with_changed object one are object))
    ∙ ap later (set_at_same are object (one (are object)))
    ∙ sym (ap (with_changed object (λ was. later (one was)) are) q
    ∙ set_at_same are object (later (one (are object)))))
    (λ (q : other ≢ object).
    set_at_other (with_changed object one are) object (later (with_changed object one are object)) other q
    ∙ set_at_other are object (one (are object)) other q
    ∙ sym (set_at_other are object (later (one (are object))) other q))
    (cases_eq other object)

pub alters_twice : (w x : Full) (object : ℕ) (one later : ObjectContents → ObjectContents) →
    Alters w x (with_changed object later (with_changed object one (contents_at w))) →
    Alters w x (with_changed object (λ was. later (one was)) (contents_at w))
alters_twice w x object one later a = record {
  objects = a.objects;
  same = λ other l. subst (λ (c : ObjectContents). IsSame c (contents_at x other))
      (changed_twice object one later (contents_at w) other) (a.same other l);
}

respects_none : (name : List ℕ) → Respects (valued name None)
respects_none name a b e =
    ap (λ (c : ObjectContents). record (valued name None c) { atime = b.atime; mtime = b.mtime; ctime = b.ctime }) e

-- from one world to a later one, in which what was open is so, and contents are these without the capabilities
pub record Cleared (w x y : Full) (object : ℕ) (name : Option (List ℕ)) (are : ℕ → ObjectContents) : Type 0 where
  pub tree : (world_of y).tree ≡ (world_of x).tree
  pub quiet : Quiet (world_of x) (world_of y)
  pub alters : Alters w y (with_changed object (uncapped name) are)
  pub fds : KeepsFds x.state y.state

still_gone : (fd : Fd) (through : Bool) (name : List ℕ) (told : ActReply) → gone_in told ≡ None →
    Leaves (Calls (call.RemoveXattr fd through name)) told
still_gone fd through name (Host (host.Ok told)) e = absurd (cc)
still_gone fd through name (Host (host.Refused errno)) e = (tt, tt)
still_gone fd through name (Host (host.Fault errno)) e = (tt, tt)
still_gone fd through name (Host host.NoMemory) e = (tt, tt)
still_gone fd through name (Event told) e = (tt, tt)
still_gone fd through name NoCopy e = (tt, tt)

told_gone : (b : Bool) (done : Unit {0}) → ◌≡◌ {A = Option (Unit {0})} (if b then Some tt else None) (Some done) →
    b ≡ true
told_gone true done e = refl
told_gone false done e = absurd (cc)

pub walk_clear : {G : Type 0} (j : Thread) (name : Option (List ℕ)) (fd : Fd) (through : Bool) (next : RequestTree)
    (w x : Full) (are : ℕ → ObjectContents) (object : ℕ) (last : Answer) (w' : Full) → last ≢ answer.NoMemory →
    IsOpenOn (world_of x).tree fd object → Alters w x are → At j (capability_cleared name fd through next) x last w' →
    (IsRefused x last w' → G) → ((y : Full) → Cleared w x y object name are → At j next y last w' → G) → G
walk_clear j None fd through next w x are object last w' n o a c out goes =
    goes x (record {
      tree = refl;
      quiet = quiet_none (world_of x);
      alters = alters_idle w x are object a;
      fds = fds_none x.state x.state refl;
    }) c
walk_clear {G} j (Some name) fd through next w x are object last w' n o a c out goes =
    walk_ask j (Calls (call.RemoveXattr fd through name)) gone_in (λ done. next) x last w' n
    (still_gone fd through name) c out go
  where
    cleared : (told : HostReply) (y : Full) → is_gone (Host told) ≡ true →
        Makes j x (Calls (call.RemoveXattr fd through name)) (Host told) y → Cleared w x y object (Some name) are
    cleared told y g m =
        let sound = m.2.made.0.sound in record {
          tree = tree_still (world_of x).tree (world_of y).tree fd through name told m.2.goes.made.0.0.trees.changes;
          quiet = quiet_makes j x y (Calls (call.RemoveXattr fd through name)) (Host told) m tt tt;
          alters = alters_on w x y are object (valued name None) (within_at w x are fd object a sound o)
              (respects_none name) a (was_cleared j x y fd through name told object m.2 g sound o);
          fds = fds_call x.state x.seat (call.RemoveXattr fd through name) told y.state y.seat m.2.made.0
              (λ fd e. cc);
        }

    go : (told : ActReply) (done : Unit {0}) (mid on : Full) → gone_in told ≡ Some done →
        Makes j x (Calls (call.RemoveXattr fd through name)) told mid →
        IdlesBy j (closings_in (Calls (call.RemoveXattr fd through name)) told) mid on → At j next on last w' → G
    go (Host told) done mid on e m i k =
        goes on (subst (λ (z : Full). Cleared w x z object (Some name) are) (sym i)
        (cleared told mid (told_gone (is_gone (Host told)) done e) m)) k
    go (Event told) done mid on e m i k = absurd (cc)
    go NoCopy done mid on e m i k = absurd (cc)
