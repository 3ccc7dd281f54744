-- Proof. What each call that is Ok makes of contents.
use Rattle.std.specs.Prelude.{take, drop, ◌&&◌}
use Rattle.std.proofs.Common.{◌≡◌, ℕ, ◌%◌, ◌==◌, List, [], ◌∷◌, length, Bool, true, false, Option, Some, None, refl}
use Rattle.std.proofs.Common.{sym, ap, subst, ◌∙◌, slice_get, slice_set, cond, not}
use Rattle.std.proofs.lemmas.Option.{slice_get_within}
use Rattle.pt_host.specs.Call.{Call}
use Rattle.pt_host.specs.Contents.{ObjectContents}
use Rattle.pt_host.specs.Errno.{eexist, eopnotsupp, enotdir, einval, eloop}
use Rattle.pt_host.specs.Flags.{includes, o_creat, o_directory, o_excl, o_tmpfile, o_path}
use Rattle.pt_host.specs.Tree.{Tree, IsOpenOn}
use Rattle.pt_host.specs.SeatAnswer.{seat_answer}
use Rattle.pt_host.specs.declared.ids.Errno.{Errno}
use Rattle.pt_host.specs.declared.ids.Fd.{Fd}
use Rattle.pt_host.specs.declared.ids.Time.{Time}
use Rattle.pt_host.specs.declared.ids.TimeSet.{TimeSet}
use Rattle.pt_host.specs.declared.flags.OpenFlags.{OpenFlags}
use Rattle.pt_host.specs.declared.reply.HostValue.{HostValue}
use Rattle.pt_host.specs.declared.seat.HostSeat.{HostSeat}
use Rattle.pt_host.specs.declared.stat.Stat.{Stat}
use Rattle.pt_host.specs.declared.op.KeptHostOp.TheVariants as call
use Rattle.pt_host.specs.declared.reply.HostReply.TheVariants as host
use Rattle.pt_host.specs.declared.reply.HostValue.TheVariants as value
use Rattle.pt_frame.specs.Deed.{Calls, LacksMemory}
use Rattle.pt_frame.specs.declared.act.ActReply.TheVariants.{Host}
use Rattle.pt_law.specs.World.{made}
use Rattle.pt_node.specs.Node.{holds_names, is_directory, is_link, bytes_in, size_of, kind_number, status_of}
use Rattle.pt_node.specs.Changes.{id_after}
use Rattle.pt_node.specs.Entries.{with_bytes}
use Rattle.pt_node.specs.Links.{links_of}
use Rattle.pt_node.specs.Slots.{least_free, open_at}
use Rattle.pt_node.specs.Opening.{after_opening, first_refusal, permissions_after, opening_refusal}
use Rattle.pt_node.specs.Opening.{emptied as node_emptied, misses_directory, open_checks, path_checks}
use Rattle.pt_node.specs.Laws.Updates.{get-set_here, get-set_apart}
use Rattle.pt_node.specs.declared.node.Node.{Node}
use Rattle.pt_node.specs.declared.node.Content.{Content}
use Rattle.pt_node.specs.declared.node.Content.TheVariants.{Directory, Regular, Link, Special}
use Rattle.pt_node.specs.declared.node.SpecialKind.TheVariants.{Pipe, CharDevice, BlockDevice, Socket}
use Rattle.pt_node.specs.declared.slots.OpenFile.{OpenFile}
use Rattle.pt_rules.specs.AttributeCalls.{chmod_row, chown_row, times_row}
use Rattle.pt_rules.specs.Calls.{Answered, checked, refused, opening, reopen, tells, with_opened, tell_status}
use Rattle.pt_rules.specs.ContentCalls.{written, resized, write_row, write_start, truncate_row, read_row}
use Rattle.pt_rules.specs.ContentCalls.{becomes_written}
use Rattle.pt_rules.specs.Rows.{Row, on_row}
use Rattle.pt_rules.specs.State.{State, contents_where, time_of, tree_of}
use Rattle.pt_rules.specs.Sound.{IsSound}
use Rattle.pt_rules.specs.Table.{answer}
use Rattle.pt_rules.specs.Laws.Cases.{by_fd, by_checks, by_refusal}
use Rattle.pt_plain.proofs.Stilling.{IsStill, still_goes}
use Rattle.pt_filled.specs.Contents.{IsSame, with_changed, is_file_kind, mode_kept, refilled, overwritten, start_of}
use Rattle.pt_filled.specs.Contents.{emptied, truncates}
use Rattle.pt_filled.proofs.Hosting.{Full, Thread, Steps, Alters, contents_at, objects_at, world_of}
use Rattle.pt_filled.proofs.Tables.{tabled, RowOk, row_ok, opened_object, object_is, ChangesSo, alters_row}
use Rattle.pt_filled.proofs.Tables.{alters_set, same_told, ok_not_refused}

pub same_parts : (a b : ObjectContents) → b.bytes ≡ a.bytes → b.mode ≡ a.mode → b.uid ≡ a.uid → b.gid ≡ a.gid →
    b.rdev ≡ a.rdev → b.xattrs ≡ a.xattrs → IsSame a b
same_parts a b e f g h k x =
    λ i. record b { bytes = e i; mode = f i; uid = g i; gid = h i; rdev = k i; xattrs = x i }

pub bytes_with : (bytes : List ℕ) (content : Content) →
    bytes_in (with_bytes bytes content) ≡ cond (kind_number content == 8) bytes (bytes_in content)
bytes_with bytes (Regular old) = refl
bytes_with bytes (Directory names) = refl
bytes_with bytes (Link target) = refl
bytes_with bytes (Special Pipe) = refl
bytes_with bytes (Special CharDevice) = refl
bytes_with bytes (Special BlockDevice) = refl
bytes_with bytes (Special Socket) = refl

pub size_is : (content : Content) → size_of content ≡ length (bytes_in content)
size_is (Regular old) = refl
size_is (Directory names) = refl
size_is (Link target) = refl
size_is (Special kind) = refl

-- a row's object, and what it is
pub file_is : (w : Full) (object : ℕ) (node : Node) → slice_get w.state.nodes object ≡ Some node →
    is_file_kind (slice_get (objects_at w) object) ≡ (kind_number node.content == 8)
file_is w object node e = ap is_file_kind (object_is w.state object node e)

-- a step by a row that was Ok
pub record Rowed (w on : Full) (fd : Fd) (row : OpenFile → Node → Row) (told : HostValue) : Type 0 where
  pub after : State
  pub ok : RowOk w.state fd row told after
  pub nodes : on.state.nodes ≡ after.nodes

pub rowed : (j : Thread) (w on : Full) (asked : Call) (fd : Fd) (row : OpenFile → Node → Row) (told : HostValue) →
    seat_answer w.seat asked ≡ None →
    ((numbers : ℕ → ℕ) → answer w.state numbers w.seat asked ≡ on_row w.state fd row) →
    Steps j w (made (Calls asked) (Host (host.Ok told))) on → Rowed w on fd row told
rowed j w on asked fd row told own is s =
    let t = tabled w.state w.seat asked told on.state on.seat own s.made.0 in record {
      after = t.after;
      ok = row_ok w.state fd row told t.after (t.answered ∙ is t.numbers);
      nodes = t.nodes;
    }

pub row_there : (w on : Full) (fd : Fd) (row : OpenFile → Node → Row) (told : HostValue) (object : ℕ) →
    (r : Rowed w on fd row told) → IsOpenOn (tree_of w.state) fd object →
    slice_get w.state.nodes object ≡ Some r.ok.node
row_there w on fd row told object r o =
    ap (slice_get w.state.nodes) (sym (opened_object w.state fd object r.ok.file o r.ok.open_as)) ∙ r.ok.there

pub objects_still : (j : Thread) (w on : Full) (asked : Call) (told : HostValue) →
    IsStill (Calls asked) (Host (host.Ok told)) → (LacksMemory (Host (host.Ok told)) → ⊥) →
    Steps j w (made (Calls asked) (Host (host.Ok told))) on → objects_at on ≡ objects_at w
objects_still j w on asked told s n g =
    ap (λ (t : Tree). t.objects)
    (still_goes j.job (world_of w) (world_of on) (Calls asked) (Host (host.Ok told)) s n g.goes).tree

pub ok_has : (told : HostValue) → LacksMemory (Host (host.Ok told)) → ⊥
ok_has told e = cc

-- the mode that is left by this seat
kept_is : (seat : HostSeat) (keeps : Bool) (mode : ℕ) → includes seat.eff_caps.0 16 ≡ keeps →
    permissions_after seat mode ≡ mode_kept keeps mode
kept_is seat keeps mode e = ap (λ (b : Bool). mode_kept b mode) e

-- ---- ReadAt

pub was_read : (j : Thread) (w on : Full) (fd : Fd) (offset size : ℕ) (bytes : List ℕ) (object : ℕ) →
    Steps j w (made (Calls (call.ReadAt fd offset size)) (Host (host.Ok (value.Bytes bytes)))) on →
    IsOpenOn (tree_of w.state) fd object → value.Bytes bytes ≡ value.Bytes (take size (drop offset (contents_at w
    object).bytes))
was_read j w on fd offset size bytes object s o =
    let r = rowed j w on (call.ReadAt fd offset size) fd (read_row w.state offset size) (value.Bytes bytes) refl
    (λ numbers. refl) s in
    r.ok.tells ∙ ap (λ (n : Option Node). value.Bytes (take size (drop offset (contents_where n).bytes)))
    (sym (row_there w on fd (read_row w.state offset size) (value.Bytes bytes) object r o))

-- ---- WriteAt

abbrev pub written_so : Bool → Bool → Bool → ℕ → List ℕ → ObjectContents → ObjectContents
written_so keeps file append offset bytes was = overwritten keeps file (start_of append offset was) bytes was

write_start_is : (append : Bool) (offset : ℕ) (node : Node) →
    start_of append offset (contents_where (Some node)) ≡ write_start offset append node
write_start_is true offset node = sym (size_is node.content)
write_start_is false offset node = refl

pub writes_so : (s : State) (seat : HostSeat) (keeps append : Bool) (offset : ℕ) (bytes : List ℕ) (node : Node) →
    includes seat.eff_caps.0 16 ≡ keeps →
    ChangesSo (written_so keeps (kind_number node.content == 8) append offset bytes) node
    (becomes_written s seat (write_start offset append node) bytes node)
writes_so s seat keeps append offset [] node e = refl
writes_so s seat keeps append offset (byte ∷ bytes) node e =
    same_parts
    (written_so keeps (kind_number node.content == 8) append offset (byte ∷ bytes) (contents_where (Some node)))
    _
    (bytes_with (written (write_start offset append node) (byte ∷ bytes) (bytes_in node.content)) node.content
    ∙ ap (λ (start : ℕ). cond (kind_number node.content == 8) (written start (byte ∷ bytes) (bytes_in node.content))
    (bytes_in node.content)) (sym (write_start_is append offset node)))
    (kept_is seat keeps node.permissions e) refl refl refl refl

pub was_written : (j : Thread) (w on : Full) (fd : Fd) (offset : ℕ) (bytes : List ℕ) (append : Bool)
    (told : HostValue) (object : ℕ) (keeps : Bool) →
    Steps j w (made (Calls (call.WriteAt fd offset bytes append)) (Host (host.Ok told))) on →
    IsOpenOn (tree_of w.state) fd object → includes w.seat.eff_caps.0 16 ≡ keeps →
    (told ≡ value.Count (length bytes))
    × Alters w on (with_changed object (written_so keeps (is_file_kind (slice_get (objects_at w) object)) append offset
    bytes) (contents_at w))
was_written j w on fd offset bytes append told object keeps s o e =
    let row : OpenFile → Node → Row = write_row w.state w.seat offset bytes append in
    let r = rowed j w on (call.WriteAt fd offset bytes append) fd row told refl (λ numbers. refl) s in
    let f = file_is w object r.ok.node (row_there w on fd row told object r o) in (
      r.ok.tells,
      alters_row w on fd row told r.after
          (written_so keeps (is_file_kind (slice_get (objects_at w) object)) append offset bytes) object
          (objects_still j w on (call.WriteAt fd offset bytes append) told tt (ok_has told) s) r.nodes r.ok o
          (subst (λ (b : Bool). ChangesSo (written_so keeps b append offset bytes) r.ok.node
          (becomes_written w.state w.seat (write_start offset append r.ok.node) bytes r.ok.node)) (sym f)
          (writes_so w.state w.seat keeps append offset bytes r.ok.node e)),
    )

-- ---- Truncate

pub was_sized : (j : Thread) (w on : Full) (fd : Fd) (size : ℕ) (told : HostValue) (object : ℕ) (keeps : Bool) →
    Steps j w (made (Calls (call.Truncate fd size)) (Host (host.Ok told))) on →
    IsOpenOn (tree_of w.state) fd object → includes w.seat.eff_caps.0 16 ≡ keeps →
    Alters w on (with_changed object (λ was. refilled keeps (is_file_kind (slice_get (objects_at w) object))
    (resized size was.bytes) was) (contents_at w))
was_sized j w on fd size told object keeps s o e =
    let row : OpenFile → Node → Row = truncate_row w.state w.seat size in
    let r = rowed j w on (call.Truncate fd size) fd row told refl (λ numbers. refl) s in
    let f = file_is w object r.ok.node (row_there w on fd row told object r o) in
    let old = bytes_in r.ok.node.content in
    alters_row w on fd row told r.after
    (λ was. refilled keeps (is_file_kind (slice_get (objects_at w) object)) (resized size was.bytes) was) object
    (objects_still j w on (call.Truncate fd size) told tt (ok_has told) s) r.nodes r.ok o
    (same_parts (refilled keeps (is_file_kind (slice_get (objects_at w) object)) (resized size old)
    (contents_where (Some r.ok.node))) _
    (bytes_with (resized size old) r.ok.node.content ∙ ap (λ (b : Bool). cond b (resized size old) old) (sym f))
    (kept_is w.seat keeps r.ok.node.permissions e) refl refl refl refl)

-- ---- ChMod, ChOwn, SetTimes

pub was_moded : (j : Thread) (w on : Full) (fd : Fd) (through : Bool) (mode : ℕ) (told : HostValue) (object : ℕ) →
    Steps j w (made (Calls (call.ChMod fd through mode)) (Host (host.Ok told))) on → IsOpenOn (tree_of w.state) fd
    object →
    Alters w on (with_changed object (λ was. record was { mode = mode % 4096 }) (contents_at w))
was_moded j w on fd through mode told object s o =
    let row : OpenFile → Node → Row = chmod_row w.state w.seat through mode in
    let r = rowed j w on (call.ChMod fd through mode) fd row told refl (λ numbers. refl) s in
    alters_row w on fd row told r.after (λ was. record was { mode = mode % 4096 }) object
    (objects_still j w on (call.ChMod fd through mode) told tt (ok_has told) s) r.nodes r.ok o refl

pub was_owned : (j : Thread) (w on : Full) (fd : Fd) (uid gid : ℕ) (told : HostValue) (object : ℕ) →
    Steps j w (made (Calls (call.ChOwn fd uid gid)) (Host (host.Ok told))) on → IsOpenOn (tree_of w.state) fd object →
    Alters w on (with_changed object (λ was. record was { uid = id_after was.uid uid; gid = id_after was.gid gid })
    (contents_at w))
was_owned j w on fd uid gid told object s o =
    let row : OpenFile → Node → Row = chown_row w.state w.seat uid gid in
    let r = rowed j w on (call.ChOwn fd uid gid) fd row told refl (λ numbers. refl) s in
    alters_row w on fd row told r.after (λ was. record was { uid = id_after was.uid uid; gid = id_after was.gid gid })
    object (objects_still j w on (call.ChOwn fd uid gid) told tt (ok_has told) s) r.nodes r.ok o refl

pub was_timed : (j : Thread) (w on : Full) (fd : Fd) (through : Bool) (atime mtime : TimeSet) (told : HostValue)
    (object : ℕ) → Steps j w (made (Calls (call.SetTimes fd through atime mtime)) (Host (host.Ok told))) on →
    IsOpenOn (tree_of w.state) fd object → Alters w on (with_changed object (λ was. was) (contents_at w))
was_timed j w on fd through atime mtime told object s o =
    let row : OpenFile → Node → Row = times_row w.state w.seat through atime mtime in
    let r = rowed j w on (call.SetTimes fd through atime mtime) fd row told refl (λ numbers. refl) s in
    alters_row w on fd row told r.after (λ was. was) object
    (objects_still j w on (call.SetTimes fd through atime mtime) told tt (ok_has told) s) r.nodes r.ok o refl

-- ---- Reopen

abbrev new_asked : OpenFlags → List (Bool × Errno)
new_asked flags = (includes flags.0 o_creat && includes flags.0 o_excl, eexist) ∷ []

record ReopenOk (s : State) (seat : HostSeat) (fd : Fd) (flags : OpenFlags) (after : State) : Type 0 where
  file : OpenFile
  node : Node
  open_as : open_at s.slots fd.0 ≡ Some file
  there : slice_get s.nodes file.object ≡ Some node
  passes : opening_refusal seat node flags.0 ≡ None
  leaves : after ≡ with_opened s seat flags file.object node

reopen_ok : (s : State) (seat : HostSeat) (fd : Fd) (flags : OpenFlags) (told : HostValue) (after : State) →
    (host.Ok told, after) ≡ reopen s seat fd flags → ReopenOk s seat fd flags after
reopen_ok s seat fd flags told after =
    by_fd s P refuses fd (λ file node. checked s (new_asked flags) (opening s seat flags file.object node))
    (λ file node is there.
    by_checks s P refuses (new_asked flags) (opening s seat flags file.object node) (λ first.
    by_refusal s P refuses (opening_refusal seat node flags.0)
    (tells (with_opened s seat flags file.object node) (value.Fd (record { 0 = least_free s.slots })))
    (λ none e. record {
      file = file;
      node = node;
      open_as = is;
      there = there;
      passes = none;
      leaves = ap (λ (a : Answered). a.1) e;
    })))
  where
    P : Answered → Type 0
    P a = (host.Ok told, after) ≡ a → ReopenOk s seat fd flags after

    refuses : (errno : Errno) → P (refused s errno)
    refuses errno e = absurd (ok_not_refused told errno (ap (λ (a : Answered). a.0) e))

empties_so : (seat : HostSeat) (now : Time) (keeps : Bool) (flags : ℕ) (node : Node) → includes seat.eff_caps.0 16 ≡
    keeps →
    IsSame (emptied keeps ((kind_number node.content == 8) && truncates flags) (contents_where (Some node)))
    (contents_where (Some (after_opening seat now flags node)))
empties_so seat now keeps flags node e = go (truncates flags) node.content refl
  where
    go : (t : Bool) (content : Content) → node.content ≡ content →
        IsSame (emptied keeps ((kind_number content == 8) && t) (contents_where (Some node)))
        (contents_where (Some (cond t (node_emptied seat now node content) node)))
    go true (Regular bytes) c =
        same_parts (emptied keeps true (contents_where (Some node))) _ refl (kept_is seat keeps node.permissions e)
        refl refl
        refl refl
    go true (Directory names) c = refl
    go true (Link target) c = refl
    go true (Special Pipe) c = refl
    go true (Special CharDevice) c = refl
    go true (Special BlockDevice) c = refl
    go true (Special Socket) c = refl
    go false (Regular bytes) c = refl
    go false (Directory names) c = refl
    go false (Link target) c = refl
    go false (Special Pipe) c = refl
    go false (Special CharDevice) c = refl
    go false (Special BlockDevice) c = refl
    go false (Special Socket) c = refl

pub was_reopened : (j : Thread) (w on : Full) (fd : Fd) (flags : OpenFlags) (told : HostValue) (object : ℕ) (keeps :
    Bool) →
    Steps j w (made (Calls (call.Reopen fd flags)) (Host (host.Ok told))) on →
    IsOpenOn (tree_of w.state) fd object → includes w.seat.eff_caps.0 16 ≡ keeps →
    Alters w on (with_changed object (emptied keeps
    (is_file_kind (slice_get (objects_at w) object) && truncates flags.0)) (contents_at w))
was_reopened j w on fd flags told object keeps s o e =
    let t = tabled w.state w.seat (call.Reopen fd flags) told on.state on.seat refl s.made.0 in
    let r = reopen_ok w.state w.seat fd flags told t.after t.answered in
    let same = opened_object w.state fd object r.file o r.open_as in
    let there = ap (slice_get w.state.nodes) (sym same) ∙ r.there in
    let node = after_opening w.seat (time_of w.state) flags.0 r.node in
    let change : ObjectContents → ObjectContents = λ was.
    emptied keeps (is_file_kind (slice_get (objects_at w) object) && truncates flags.0) was in
    let nodes = t.nodes ∙ ap (λ (z : State). z.nodes) r.leaves ∙ ap (λ (k : ℕ). slice_set w.state.nodes k node) same in
    let f = file_is w object r.node there in
    alters_set w on object r.node node change
    (objects_still j w on (call.Reopen fd flags) told tt (ok_has told) s) there (
      ap (λ (n : List Node). slice_get n object) nodes
          ∙ get-set_here w.state.nodes object node (slice_get_within w.state.nodes object r.node there),
      λ other q. ap (λ (n : List Node). slice_get n other) nodes ∙ get-set_apart w.state.nodes object node other q,
    )
    (subst (λ (b : Bool). IsSame (emptied keeps (b && truncates flags.0) (contents_where (Some r.node)))
    (contents_where (Some node))) (sym f) (empties_so w.seat (time_of w.state) keeps flags.0 r.node e))

-- ---- Reopen with `O_DIRECTORY`

pub none_of : (b : Bool) (errno : Errno) (rest : Option Errno) → cond b (Some errno) rest ≡ None → (b ≡ false) × (rest ≡
    None)
none_of true errno rest e = absurd (cc)
none_of false errno rest e = (refl, e)

both_not : (a b : Bool) → a ≡ true → (a && not b) ≡ false → b ≡ true
both_not true true e f = refl
both_not true false e f = absurd (cc)
both_not false b e f = absurd (cc)

passes_directory : (seat : HostSeat) (node : Node) (flags : ℕ) → includes flags o_directory ≡ true →
    opening_refusal seat node flags ≡ None → is_directory node ≡ true
passes_directory seat node flags e q =
    both_not (includes flags o_directory) (is_directory node) e (go (includes flags o_path) q)
  where
    go : (b : Bool) → cond b (first_refusal (path_checks node flags)) (first_refusal (open_checks seat node flags)) ≡
        None →
        misses_directory node flags ≡ false
    go true q = (none_of (misses_directory node flags) enotdir None q).0
    go false q =
        let a = none_of (includes flags o_tmpfile) eopnotsupp _ q in
        let b = none_of (flags % 4 == 3) einval _ a.1 in
        let c = none_of (is_link node) eloop _ b.1 in
        (none_of (misses_directory node flags) enotdir _ c.1).0

no_file : (content : Content) → holds_names content ≡ true → (kind_number content == 8) ≡ false
no_file (Directory names) e = refl
no_file (Regular bytes) e = absurd (cc)
no_file (Link target) e = absurd (cc)
no_file (Special kind) e = absurd (cc)

-- what was opened so is no regular file
pub reopened_directory : (j : Thread) (w on : Full) (fd : Fd) (flags : OpenFlags) (told : HostValue) (object : ℕ) →
    Steps j w (made (Calls (call.Reopen fd flags)) (Host (host.Ok told))) on → IsOpenOn (tree_of w.state) fd object →
    includes flags.0 o_directory ≡ true → is_file_kind (slice_get (objects_at w) object) ≡ false
reopened_directory j w on fd flags told object s o e =
    let t = tabled w.state w.seat (call.Reopen fd flags) told on.state on.seat refl s.made.0 in
    let r = reopen_ok w.state w.seat fd flags told t.after t.answered in
    let same = opened_object w.state fd object r.file o r.open_as in
    file_is w object r.node (ap (slice_get w.state.nodes) (sym same) ∙ r.there)
    ∙ no_file r.node.content (passes_directory w.seat r.node flags.0 e r.passes)

-- ---- Stat

pub record StatOk (w : Full) (fd : Fd) (stat : Stat) (object : ℕ) : Type 0 where
  pub node : Node
  pub there : slice_get w.state.nodes object ≡ Some node
  pub sound : IsSound w.state
  pub is : stat ≡ status_of (links_of w.state.nodes object node) node

same_stat : (a b : Stat) → value.Stat a ≡ value.Stat b → a ≡ b
same_stat a b e = cc

pub was_seen : (j : Thread) (w on : Full) (fd : Fd) (stat : Stat) (object : ℕ) →
    Steps j w (made (Calls (call.Stat fd)) (Host (host.Ok (value.Stat stat)))) on →
    IsOpenOn (tree_of w.state) fd object → StatOk w fd stat object
was_seen j w on fd stat object s o =
    let t = tabled w.state w.seat (call.Stat fd) (value.Stat stat) on.state on.seat refl s.made.0 in
    seen t.after t.answered
  where
    P : State → Answered → Type 0
    P after a = (host.Ok (value.Stat stat), after) ≡ a → StatOk w fd stat object

    refuses : (after : State) (errno : Errno) → P after (refused w.state errno)
    refuses after errno e = absurd (ok_not_refused (value.Stat stat) errno (ap (λ (a : Answered). a.0) e))

    seen : (after : State) → P after (tell_status w.state fd)
    seen after = by_fd w.state (P after) (refuses after) fd
        (λ file node. (host.Ok (value.Stat (status_of (links_of w.state.nodes file.object node) node)), w.state))
        (λ file node is there e.
        let same = opened_object w.state fd object file o is in record {
          node = node;
          there = ap (slice_get w.state.nodes) (sym same) ∙ there;
          sound = s.made.0.sound;
          is = same_stat stat (status_of (links_of w.state.nodes file.object node) node)
              (same_told (value.Stat stat) (value.Stat (status_of (links_of w.state.nodes file.object node) node))
              (ap (λ (a : Answered). a.0) e)) ∙ ap (λ (n : ℕ). status_of (links_of w.state.nodes n node) node) same;
        })
