-- Proof. `copyfilerange`.
use Rattle.std.specs.Prelude.{◌||◌, take, drop}
use Rattle.std.proofs.Common.{[], ◌∷◌, ◌≡◌, ◌≢◌, ◌<◌, ℕ, List, length, Bool, true, false, Option, Some, None, refl}
use Rattle.std.proofs.Common.{sym, ap, nat_lt}
use Rattle.std.proofs.Common.{subst, ◌∙◌, slice_get, ◌==◌, slice_set, ⊎_elim}
use Rattle.std.proofs.lemmas.Bool.{cases_eq}
use Rattle.std.proofs.lemmas.Option.{slice_get_within}
use Rattle.pt_host.specs.Call.{Call}
use Rattle.pt_host.specs.Contents.{ObjectContents}
use Rattle.pt_host.specs.Errno.{ebadf, einval}
use Rattle.pt_host.specs.Tree.{Tree, Object, IsOpenOn}
use Rattle.pt_host.specs.Promises.{FitsCall}
use Rattle.pt_host.specs.Flags.{includes}
use Rattle.pt_host.specs.declared.ids.Errno.{Errno}
use Rattle.pt_host.specs.declared.ids.Fd.{Fd}
use Rattle.pt_host.specs.declared.reply.HostValue.{HostValue}
use Rattle.pt_host.specs.declared.seat.HostSeat.{HostSeat}
use Rattle.pt_host.specs.declared.ids.Time.{Time}
use Rattle.pt_host.specs.declared.op.KeptHostOp.TheVariants as call
use Rattle.pt_host.specs.declared.reply.HostReply.TheVariants as host
use Rattle.pt_host.specs.declared.reply.HostValue.TheVariants as value
use Rattle.pt_tables.specs.declared.form.Negotiated.{Negotiated}
use Rattle.pt_iface.specs.declared.answer.Answer.{Answer}
use Rattle.pt_iface.specs.declared.request.Context.{Context}
use Rattle.pt_iface.specs.declared.request.Request.{Request}
use Rattle.pt_iface.specs.declared.answer.Answer.TheVariants as answer
use Rattle.pt_iface.specs.declared.request.Request.TheVariants as request
use Rattle.pt_frame.specs.Deed.{Calls}
use Rattle.pt_frame.specs.Tree.{Gives}
use Rattle.pt_frame.specs.declared.act.ActReply.{ActReply}
use Rattle.pt_frame.specs.declared.act.ActReply.TheVariants.{Event, Host, NoCopy}
use Rattle.pt_req.specs.Steps.{begin}
use Rattle.pt_req.specs.declared.plan.Plan.{Plan}
use Rattle.pt_attr.specs.Contents.{copyfilerange}
use Rattle.pt_law.specs.World.{made}
use Rattle.pt_law.specs.Under.{Role, seat_lacking}
use Rattle.pt_law.proofs.Lists.{set_at_same, set_at_other}
use Rattle.pt_fit.specs.Asker.{role_in}
use Rattle.pt_node.specs.Node.{kind_number}
use Rattle.pt_node.specs.Slots.{open_at}
use Rattle.pt_node.specs.Entries.{changed_where}
use Rattle.pt_node.specs.Opening.{first_refusal, wants_read, wants_write}
use Rattle.pt_node.specs.Reading.{after_reading}
use Rattle.pt_node.specs.Laws.Updates.{get-set_here, get-set_apart}
use Rattle.pt_node.specs.declared.node.Node.{Node}
use Rattle.pt_node.specs.declared.slots.OpenFile.{OpenFile}
use Rattle.pt_rules.specs.Calls.{Answered, checked, refused, on_fd, tells}
use Rattle.pt_rules.specs.ContentCalls.{after_writing, copied, copy_checks, copy_range, is_path_only, is_unreadable}
use Rattle.pt_rules.specs.ContentCalls.{is_unwritable, with_copied, with_written}
use Rattle.pt_rules.specs.State.{State, contents_where, tree_of, time_of}
use Rattle.pt_rules.specs.Laws.Cases.{by_fd, by_checks}
use Rattle.pt_plain.specs.Plain.{PlainTree, handled_as}
use Rattle.pt_plain.proofs.Stilling.{IsStill}
use Rattle.pt_filled.specs.Accesses.{reads, writes}
use Rattle.pt_filled.specs.Contents.{IsSame, is_file, is_file_kind, overwritten, with_changed}
use Rattle.pt_filled.specs.Fills.{Fills}
use Rattle.pt_filled.proofs.Descriptors.{access_in, file_access}
use Rattle.pt_filled.proofs.Effects.{file_is, none_of, objects_still, ok_has, writes_so}
use Rattle.pt_filled.proofs.Handling.{accesses_at}
use Rattle.pt_filled.proofs.Writing.{changed_all, respects_write}
use Rattle.pt_filled.proofs.Filling.{Between, filled, IsFilledBy, refused_fills, become, file_there}
use Rattle.pt_filled.proofs.Finding.{Held, pinned_held, same_at}
use Rattle.pt_filled.proofs.Hosting.{Full, Steps, Thread, contents_at, world_of, Alters, objects_at, changed_same}
use Rattle.pt_filled.proofs.Hosting.{same_on}
use Rattle.pt_filled.proofs.Parts.{At, IsRefused, comes_at, idles_calm, refused_from, walk_begin, walk_count}
use Rattle.pt_filled.proofs.Parts.{walk_placed, walk_pin}
use Rattle.pt_filled.proofs.Tables.{opened_object, ok_not_refused, tabled, Tabled, IsSetTo, same_told}
use Rattle.pt_filled.proofs.Threading.{Comes, Makes}
use Rattle.pt_filled.proofs.Using.{readable_as, unless_not, writable_as}

-- ---- the table

record CopyOk (s : State) (seat : HostSeat) (fd : Fd) (offset : ℕ) (fd2 : Fd) (offset2 size : ℕ) (told : HostValue)
    (after : State) : Type 0 where
  file : OpenFile
  node : Node
  open_as : open_at s.slots fd.0 ≡ Some file
  there : slice_get s.nodes file.object ≡ Some node
  file2 : OpenFile
  node2 : Node
  open_as2 : open_at s.slots fd2.0 ≡ Some file2
  readable : wants_read file.flags.0 ≡ true
  writable : wants_write file2.flags.0 ≡ true
  there2 : slice_get s.nodes file2.object ≡ Some node2
  tells : told ≡ value.Count (length (copied offset size node))
  leaves : after ≡ with_copied s seat file.object node file2.object offset2 (copied offset size node)

neither : (a b : Bool) → (a || b) ≡ false → (a ≡ false) × (b ≡ false)
neither false b e = (refl, e)
neither true b e = absurd (cc)

copy_ok : (s : State) (seat : HostSeat) (fd : Fd) (offset : ℕ) (fd2 : Fd) (offset2 size flags : ℕ) (told : HostValue)
    (after : State) → (host.Ok told, after) ≡ copy_range s seat fd offset fd2 offset2 size flags →
    CopyOk s seat fd offset fd2 offset2 size told after
copy_ok s seat fd offset fd2 offset2 size flags told after =
    by_fd s P refuses fd (λ file node. on_fd s fd2 (second file node)) (λ file node is there.
    by_fd s P refuses fd2 (second file node) (λ file2 node2 is2 there2.
    by_checks s P refuses (copy_checks file node file2 offset offset2 (length (copied offset size node)) flags)
    (copies file node file2) (λ none e. record {
      file = file;
      node = node;
      open_as = is;
      there = there;
      file2 = file2;
      node2 = node2;
      open_as2 = is2;
      readable = (may_copy file node file2 none).0;
      writable = (may_copy file node file2 none).1;
      there2 = there2;
      tells = same_told told (value.Count (length (copied offset size node))) (ap (λ (a : Answered). a.0) e);
      leaves = ap (λ (a : Answered). a.1) e;
    })))
  where
    P : Answered → Type 0
    P a = (host.Ok told, after) ≡ a → CopyOk s seat fd offset fd2 offset2 size told after

    refuses : (errno : Errno) → P (refused s errno)
    refuses errno e = absurd (ok_not_refused told errno (ap (λ (a : Answered). a.0) e))

    may_copy : (file : OpenFile) (node : Node) (file2 : OpenFile) →
        first_refusal (copy_checks file node file2 offset offset2 (length (copied offset size node)) flags) ≡ None →
        (wants_read file.flags.0 ≡ true) × (wants_write file2.flags.0 ≡ true)
    may_copy file node file2 none =
        let k = neither (is_unreadable file) (is_unwritable file2)
        (none_of (is_unreadable file || is_unwritable file2) ebadf _ (none_of (nat_lt 0 flags) einval _ none).1).0 in (
          unless_not (is_path_only file) (wants_read file.flags.0) k.0,
          unless_not (is_path_only file2) (wants_write file2.flags.0) k.1,
        )

    copies : OpenFile → Node → OpenFile → Answered
    copies file node file2 =
        tells (with_copied s seat file.object node file2.object offset2 (copied offset size node))
        (value.Count (length (copied offset size node)))

    second : OpenFile → Node → OpenFile → Node → Answered
    second file node file2 node2 =
        checked s (copy_checks file node file2 offset offset2 (length (copied offset size node)) flags)
        (copies file node file2)

-- ---- what it leaves

abbrev held : List Node → ℕ → ObjectContents
held nodes object = contents_where (slice_get nodes object)

-- the source is read
read_stays : (now : Time) (object : ℕ) (node : Node) (nodes : List Node) → slice_get nodes object ≡ Some node →
    object < length nodes → (other : ℕ) → IsSame (held nodes other) (held (slice_set nodes object (after_reading now
    node)) other)
read_stays now object node nodes there within other =
    ⊎_elim
    (λ (q : other ≡ object).
    subst (λ (p : Option Node × Option Node). IsSame (contents_where p.0) (contents_where p.1)) (λ i. (
      sym (ap (slice_get nodes) q ∙ there) i,
      sym (ap (slice_get (slice_set nodes object (after_reading now node))) q
          ∙ get-set_here nodes object (after_reading now node) within) i,
    )) refl)
    (λ (q : other ≢ object).
    subst (λ (n : Option Node). IsSame (held nodes other) (contents_where n))
    (sym (get-set_apart nodes object (after_reading now node) other q)) refl)
    (cases_eq other object)

-- the target is there as before, access aside
record Target (nodes : List Node) (object : ℕ) (node : Node) : Type 0 where
  is : Node
  there : slice_get nodes object ≡ Some is
  kind : kind_number is.content ≡ kind_number node.content

target_there : (now : Time) (object : ℕ) (node : Node) (target : ℕ) (node2 : Node) (nodes : List Node) →
    slice_get nodes object ≡ Some node → object < length nodes → slice_get nodes target ≡ Some node2 →
    Target (slice_set nodes object (after_reading now node)) target node2
target_there now object node target node2 nodes there within there2 =
    ⊎_elim
    (λ (q : target ≡ object). record {
      is = after_reading now node;
      there = ap (slice_get (slice_set nodes object (after_reading now node))) q
          ∙ get-set_here nodes object (after_reading now node) within;
      kind = ap (λ (n : Node). kind_number n.content) (same_node node node2 (sym there ∙ ap (slice_get nodes) (sym q)
          ∙ there2));
    })
    (λ (q : target ≢ object). record {
      is = node2;
      there = get-set_apart nodes object (after_reading now node) target q ∙ there2;
      kind = refl;
    })
    (cases_eq target object)
  where
    same_node : (one other : Node) → Some one ≡ Some other → one ≡ other
    same_node one other e = cc

set_changes : (nodes later : List Node) (target : ℕ) (node after : Node) (change : ObjectContents → ObjectContents) →
    slice_get nodes target ≡ Some node → IsSetTo nodes target after later →
    IsSame (change (contents_where (Some node))) (contents_where (Some after)) → (other : ℕ) →
    IsSame (with_changed target change (held nodes) other) (held later other)
set_changes nodes later target node after change there set c other =
    ⊎_elim
    (λ (q : other ≡ target).
    subst (λ (p : ObjectContents × ObjectContents). IsSame p.0 p.1) (λ i. (
      sym (ap (with_changed target change (held nodes)) q ∙ set_at_same (held nodes) target (change (held nodes target))
          ∙ ap (λ (n : Option Node). change (contents_where n)) there) i,
      sym (ap (λ (n : Option Node). contents_where n) (ap (slice_get later) q ∙ set.0)) i,
    )) c)
    (λ (q : other ≢ target).
    subst (λ (p : ObjectContents × ObjectContents). IsSame p.0 p.1) (λ i. (
      sym (set_at_other (held nodes) target (change (held nodes target)) other q) i,
      sym (ap (λ (n : Option Node). contents_where n) (set.1 other q)) i,
    )) refl)
    (cases_eq other target)

-- bytes are written where there are any
writes_at : (s : State) (seat : HostSeat) (keeps : Bool) (target start : ℕ) (bytes : List ℕ) (node : Node) →
    slice_get s.nodes target ≡ Some node → target < length s.nodes → includes seat.eff_caps.0 16 ≡ keeps → (other : ℕ) →
    IsSame (with_changed target (overwritten keeps (kind_number node.content == 8) start bytes) (held s.nodes) other)
    (held (with_written s seat target start bytes).nodes other)
writes_at s seat keeps target start [] node there within e other =
    set_changes s.nodes s.nodes target node node (overwritten keeps (kind_number node.content == 8) start []) there
    (there, λ other q. refl) refl other
writes_at s seat keeps target start (byte ∷ bytes) node there within e other =
    let f = after_writing seat (time_of s) start (byte ∷ bytes) in
    let later = ap (λ (n : Option Node). changed_where n target f s.nodes) there in
    set_changes s.nodes (with_written s seat target start (byte ∷ bytes)).nodes target node (f node)
    (overwritten keeps (kind_number node.content == 8) start (byte ∷ bytes)) there (
      ap (λ (n : List Node). slice_get n target) later ∙ get-set_here s.nodes target (f node) within,
      λ other q. ap (λ (n : List Node). slice_get n other) later ∙ get-set_apart s.nodes target (f node) other q,
    ) (writes_so s seat keeps false start (byte ∷ bytes) node e) other

-- what is copied of the source
abbrev taken : Full → ℕ → ℕ → ℕ → List ℕ
taken w offset size object = take size (drop offset (contents_at w object).bytes)

-- the source may be read, and the target written
was_copiable : (j : Thread) (w on : Full) (fd : Fd) (offset : ℕ) (fd2 : Fd) (offset2 size flags : ℕ)
    (told : HostValue) → Steps j w (made (Calls (call.CopyRange fd offset fd2 offset2 size flags)) (Host (host.Ok
    told))) on → (reads (access_in w.state fd) ≡ true) × (writes (access_in w.state fd2) ≡ true)
was_copiable j w on fd offset fd2 offset2 size flags told s =
    let t = tabled w.state w.seat (call.CopyRange fd offset fd2 offset2 size flags) told on.state on.seat refl s.made.0
    in
    let r = copy_ok w.state w.seat fd offset fd2 offset2 size flags told t.after t.answered in (
      readable_as w fd r.file (file_access w.state fd r.file r.open_as) r.readable,
      writable_as w fd2 r.file2 (file_access w.state fd2 r.file2 r.open_as2) r.writable,
    )

was_copied : (j : Thread) (w on : Full) (fd : Fd) (offset : ℕ) (fd2 : Fd) (offset2 size flags : ℕ) (told : HostValue)
    (object target : ℕ) (keeps : Bool) →
    Steps j w (made (Calls (call.CopyRange fd offset fd2 offset2 size flags)) (Host (host.Ok told))) on →
    IsOpenOn (tree_of w.state) fd object → IsOpenOn (tree_of w.state) fd2 target → includes w.seat.eff_caps.0 16 ≡
    keeps →
    (told ≡ value.Count (length (taken w offset size object)))
    × Alters w on (with_changed target (overwritten keeps (is_file_kind (slice_get (objects_at w) target)) offset2
    (taken w offset size object)) (contents_at w))
was_copied j w on fd offset fd2 offset2 size flags told object target keeps s o o2 e = (
  r.tells ∙ ap (λ (b : List ℕ). value.Count (length b)) (sym source),
  record {
    objects = objects_still j w on asked told tt (ok_has told) s;
    same = λ other l. subst (λ (n : List Node). IsSame (with_changed target (so file (taken w offset size object))
        (contents_at w) other)
        (held n other)) (sym left) (all other);
  },
)
  where
    asked : Call
    asked = call.CopyRange fd offset fd2 offset2 size flags

    t : Tabled w.state w.seat asked told on.state
    t = tabled w.state w.seat asked told on.state on.seat refl s.made.0

    r : CopyOk w.state w.seat fd offset fd2 offset2 size told t.after
    r = copy_ok w.state w.seat fd offset fd2 offset2 size flags told t.after t.answered

    is_source : r.file.object ≡ object
    is_source = opened_object w.state fd object r.file o r.open_as

    is_target : r.file2.object ≡ target
    is_target = opened_object w.state fd2 target r.file2 o2 r.open_as2

    there : slice_get w.state.nodes object ≡ Some r.node
    there = ap (slice_get w.state.nodes) (sym is_source) ∙ r.there

    there2 : slice_get w.state.nodes target ≡ Some r.node2
    there2 = ap (slice_get w.state.nodes) (sym is_target) ∙ r.there2

    source : taken w offset size object ≡ copied offset size r.node
    source = ap (λ (n : Option Node). take size (drop offset (contents_where n).bytes)) there

    file : Bool
    file = is_file_kind (slice_get (objects_at w) target)

    so : Bool → List ℕ → ObjectContents → ObjectContents
    so file bytes = overwritten keeps file offset2 bytes

    read : State
    read = record w.state { nodes = slice_set w.state.nodes object (after_reading (time_of w.state) r.node) }

    found : Target read.nodes target r.node2
    found = target_there (time_of w.state) object r.node target r.node2 w.state.nodes there
        (slice_get_within w.state.nodes object r.node there) there2

    left : on.state.nodes ≡ (with_written read w.seat target offset2 (copied offset size r.node)).nodes
    left = t.nodes ∙ ap (λ (z : State). z.nodes) r.leaves ∙ (λ i. (with_copied w.state w.seat (is_source i) r.node
        (is_target i) offset2 (copied offset size r.node)).nodes)

    is_file_now : file ≡ (kind_number found.is.content == 8)
    is_file_now = file_is w target r.node2 there2 ∙ ap (λ (n : ℕ). n == 8) (sym found.kind)

    stays : (other : ℕ) → IsSame (held w.state.nodes other) (held read.nodes other)
    stays = read_stays (time_of w.state) object r.node w.state.nodes there
        (slice_get_within w.state.nodes object r.node there)

    wrote : (other : ℕ) → IsSame (with_changed target (so file (taken w offset size object)) (held read.nodes) other)
        (held (with_written read w.seat target offset2 (copied offset size r.node)).nodes other)
    wrote other = subst (λ (p : Bool × List ℕ). IsSame (with_changed target (so p.0 p.1) (held read.nodes) other)
        (held (with_written read w.seat target offset2 (copied offset size r.node)).nodes other))
        (λ i. (sym is_file_now i, sym source i))
        (writes_at read w.seat keeps target offset2 (copied offset size r.node) found.is found.there
        (slice_get_within read.nodes target found.is found.there) e other)

    all : (other : ℕ) → IsSame (with_changed target (so file (taken w offset size object)) (contents_at w) other)
        (held (with_written read w.seat target offset2 (copied offset size r.node)).nodes other)
    all other = same_on (with_changed target (so file (taken w offset size object)) (contents_at w) other)
        (with_changed target (so file (taken w offset size object)) (held read.nodes) other)
        (held (with_written read w.seat target offset2 (copied offset size r.node)).nodes other)
        (changed_same target (so file (taken w offset size object)) (held w.state.nodes) (held read.nodes) other
        (respects_write keeps file false offset2 (taken w offset size object)) (stays target) (stays other)) (wrote
        other)

-- ---- the request

copy_counts : (fd : Fd) (offset : ℕ) (fd2 : Fd) (offset2 size flags : ℕ) (told : HostValue) →
    FitsCall (call.CopyRange fd offset fd2 offset2 size flags) told → (count : ℕ) × (told ≡ value.Count count)
copy_counts fd offset fd2 offset2 size flags (value.Count count) f = (count, refl)
copy_counts fd offset fd2 offset2 size flags told f = absurd f

still_copy : (fd : Fd) (offset : ℕ) (fd2 : Fd) (offset2 size flags : ℕ) (told : ActReply) →
    IsStill (Calls (call.CopyRange fd offset fd2 offset2 size flags)) told
still_copy fd offset fd2 offset2 size flags (Host told) = tt
still_copy fd offset fd2 offset2 size flags (Event told) = tt
still_copy fd offset fd2 offset2 size flags NoCopy = tt

module _ (plan : Plan) (who : Context) (agreed : Negotiated) (j : Thread) (w : Full) (last : Answer) (w' : Full)
    (state after : PlainTree) (g : Between w w' state after) (n : last ≢ answer.NoMemory) where
  pub fills_copy : (inode handle offset inode2 handle2 offset2 size flags : ℕ) →
      j.role ≡ role_in plan j.seat who agreed
      (request.CopyFileRange inode handle offset inode2 handle2 offset2 size flags) →
      At j (begin (copyfilerange inode handle offset inode2 handle2 offset2 size flags)) w last w' →
      IsFilledBy plan j.seat who (request.CopyFileRange inode handle offset inode2 handle2 offset2 size flags) state w
      last
      after w'
  fills_copy inode handle offset inode2 handle2 offset2 size flags role c =
      walk_begin j _ w last w' n c out (λ session b q z k.
      walk_placed j offset _ b last w' k (λ r. out (refused_from w b last w' q.keeps r)) (λ k.
      walk_placed j offset2 _ b last w' k (λ r. out (refused_from w b last w' q.keeps r)) (λ k.
      walk_placed j size _ b last w' k (λ r. out (refused_from w b last w' q.keeps r)) (λ k.
      walk_pin j handle inode _ b last w' n k (λ r. out (refused_from w b last w' q.keeps r)) (λ from c pc k.
      let f = pinned_held w b c state handle inode from g.shows q pc in
      walk_pin j handle2 inode2 _ c last w' n k (λ r. out (refused_from w c last w' f.calm.keeps r)) (λ to d pd k.
      let h = pinned_held w c d state handle2 inode2 to g.shows f.calm pd in
      walk_count j (makes from to) _ d last w' n (still_copy from offset to offset2 size flags)
      (copy_counts from offset to offset2 size flags) k (λ r. out (refused_from w d last w' h.calm.keeps r)) (λ count
      e m k.
      answered d e from to count f.object f.held (subst (λ (t : Tree). IsOpenOn t from f.object) (sym pd.tree)
      f.open_on) (f.lends ∙ ap (λ (s : State). access_in s from) (sym pd.state)) h m (comes_at k))))))))
    where
      makes : Fd → Fd → Call
      makes from to = call.CopyRange from offset to offset2 size flags

      asked : Request
      asked = request.CopyFileRange inode handle offset inode2 handle2 offset2 size flags

      out : IsRefused w last w' → IsFilledBy plan j.seat who asked state w last after w'
      out = refused_fills plan j.seat who asked w w' state after last g.shows (λ k. k)

      same_count : (one other : ℕ) → value.Count one ≡ value.Count other → one ≡ other
      same_count one other e = cc

      answered : (d e : Full) (from to : Fd) (count object : ℕ) → state.handles handle ≡ handled_as inode object →
          IsOpenOn (world_of d).tree from object → accesses_at w handle ≡ access_in d.state from →
          (h : Held w d state handle2 inode2 to) →
          Makes j d (Calls (makes from to)) (Host (host.Ok (value.Count count))) e →
          Comes j (Gives (answer.Wrote count)) e last w' → IsFilledBy plan j.seat who asked state w last after w'
      answered d e from to count object held o lends h m k =
          let target = h.object in
          let keeps = includes j.seat.eff_caps.0 16 in
          let by_seat = subst (λ (r : Role). d.seat ≡ seat_lacking (r.lacks (makes from to)) j.seat) role m.2.as_asked
          in
          let wrote = was_copied j d e from offset to offset2 size flags (value.Count count) object target keeps m.2 o
          h.open_on (ap (λ (z : HostSeat). includes z.eff_caps.0 16) by_seat) in
          let source : taken d offset size object ≡ taken w offset size object =
          ap (λ (c : ObjectContents). take size (drop offset c.bytes)) (same_at w d from object h.calm
          m.2.made.0.sound o) in
          let file = ap (λ (l : List Object). is_file_kind (slice_get l target)) h.calm.keeps.objects
          ∙ file_there w state target g.shows in
          let so : ObjectContents → ObjectContents =
          overwritten keeps (is_file (filled state w) target) offset2 (taken w offset size object) in
          let there : Alters d e (with_changed target so (contents_at d)) =
          subst (λ (p : Bool × List ℕ). Alters d e (with_changed target (overwritten keeps p.0 offset2 p.1)
          (contents_at d))) (λ i. (file i, source i)) wrote.1 in
          let all = changed_all j w d e w' to target so h.calm.keeps m.2.made.0.sound h.open_on
          (respects_write keeps (is_file (filled state w) target) false offset2 (taken w offset size object)) there
          (idles_calm j e w' k.1).keeps in
          let may = was_copiable j d e from offset to offset2 size flags (value.Count count) m.2 in
          subst (λ (x : Answer). Fills plan j.seat who asked (filled state w) x (filled after w')) (sym k.0) (
            (
              object,
              held,
              (
                target,
                h.held,
                (
                  same_count count (length (taken w offset size object)) (wrote.0
                      ∙ ap (λ (b : List ℕ). value.Count (length b)) source),
                  become w w' state after _ g.shows all,
                ),
              ),
            ),
            ap reads lends ∙ may.0,
            ap writes h.lends ∙ may.1,
          )
