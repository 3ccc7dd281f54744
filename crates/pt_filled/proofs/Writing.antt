-- Proof. `write` and `fallocate`.
use Rattle.std.specs.Prelude.{if◌then◌else◌}
use Rattle.std.proofs.Common.{inl, inr, [], ◌∷◌, ◌≡◌, ◌≢◌, ◌<◌, ℕ, List, length, Bool, true, false, Option, Some, None}
use Rattle.std.proofs.Common.{refl, sym, ap, subst, ◌∙◌, slice_get, ◌+◌, ◌==◌, cond}
use Rattle.pt_host.specs.Call.{Call}
use Rattle.pt_host.specs.Contents.{ObjectContents}
use Rattle.pt_host.specs.Tree.{Tree, Object, IsOpenOn}
use Rattle.pt_host.specs.Promises.{FitsCall}
use Rattle.pt_host.specs.Flags.{includes}
use Rattle.pt_host.specs.declared.ids.Fd.{Fd}
use Rattle.pt_host.specs.declared.reply.HostValue.{HostValue}
use Rattle.pt_host.specs.declared.seat.HostSeat.{HostSeat}
use Rattle.pt_host.specs.declared.op.KeptHostOp.TheVariants as call
use Rattle.pt_host.specs.declared.reply.HostReply.TheVariants as host
use Rattle.pt_host.specs.declared.reply.HostValue.TheVariants as value
use Rattle.pt_tables.specs.declared.form.Negotiated.{Negotiated}
use Rattle.pt_iface.specs.declared.answer.Answer.{Answer}
use Rattle.pt_iface.specs.declared.request.Context.{Context}
use Rattle.pt_iface.specs.declared.request.Request.{Request}
use Rattle.pt_iface.specs.declared.answer.Answer.TheVariants as answer
use Rattle.pt_iface.specs.declared.request.Request.TheVariants as request
use Rattle.pt_frame.specs.Deed.{Calls}
use Rattle.pt_frame.specs.Tree.{Gives, RequestTree, Bares}
use Rattle.pt_frame.specs.declared.act.ActReply.{ActReply}
use Rattle.pt_frame.specs.declared.act.ActReply.TheVariants.{Event, Host, NoCopy}
use Rattle.pt_frame.specs.declared.hold.Hold.TheVariants as hold
use Rattle.pt_req.specs.Steps.{begin, ok_in}
use Rattle.pt_req.specs.Capability.{capability_cleared, drops_fsetid, fsetid, without_fsetid}
use Rattle.pt_req.specs.declared.plan.Plan.{Plan}
use Rattle.pt_attr.specs.Contents.{appends, fallocate, write}
use Rattle.pt_attr.specs.Steps.{count_of}
use Rattle.pt_law.specs.World.{made, World}
use Rattle.pt_law.specs.Under.{Role, seat_lacking}
use Rattle.pt_fit.specs.Asker.{fsetid_if, role_in}
use Rattle.pt_node.specs.Node.{size_of, bytes_in, kind_number}
use Rattle.pt_node.specs.Entries.{rewritten}
use Rattle.pt_node.specs.declared.node.Node.{Node}
use Rattle.pt_node.specs.declared.slots.OpenFile.{OpenFile}
use Rattle.pt_rules.specs.State.{State, contents_where, tree_of, time_of}
use Rattle.pt_rules.specs.ContentCalls.{allocate_row, lengthens, padded}
use Rattle.pt_rules.specs.Rows.{Row, RowEffect, Stays, Becomes}
use Rattle.pt_rules.specs.Sound.{IsSound}
use Rattle.pt_plain.specs.Plain.{PlainTree}
use Rattle.pt_plain.proofs.Stilling.{IsStill}
use Rattle.pt_plain.proofs.Coming.{Law}
use Rattle.pt_filled.specs.Accesses.{writes}
use Rattle.pt_filled.specs.Fills.{Fills}
use Rattle.pt_filled.specs.Contents.{IsSame, is_file, is_file_kind, keeps_set_id, lengthened, overwritten, start_of}
use Rattle.pt_filled.specs.Contents.{uncapped, with_changed, Becomes as BecomesThere}
use Rattle.pt_filled.proofs.Clearing.{alters_twice, walk_clear, within_at}
use Rattle.pt_filled.proofs.Descriptors.{KeepsFds, fds_on}
use Rattle.pt_filled.proofs.Effects.{rowed, row_there, size_is, bytes_with, file_is, objects_still, ok_has}
use Rattle.pt_filled.proofs.Effects.{same_parts, was_written, written_so}
use Rattle.pt_filled.proofs.Filling.{Between, filled, IsFilledBy, refused_fills, become, file_there, open_within}
use Rattle.pt_filled.proofs.Finding.{Held, walk_held}
use Rattle.pt_filled.proofs.Hosting.{Full, Keeps, Steps, Thread, contents_at, world_of, Alters, Bared, Respects}
use Rattle.pt_filled.proofs.Hosting.{alters_on, alters_then, bared_none, objects_at}
use Rattle.pt_filled.proofs.Parts.{At, Calm, IsRefused, comes_at, idles_calm, keeps_on, refused_from, walk_begin}
use Rattle.pt_filled.proofs.Parts.{walk_count, walk_placed, bared_calm, walk_do}
use Rattle.pt_filled.proofs.Scopes.{unbare, walk_scope}
use Rattle.pt_filled.proofs.Threading.{Comes, Makes, comes_law}
use Rattle.pt_filled.proofs.Tables.{alters_row}
use Rattle.pt_filled.proofs.Using.{was_lengthenable, was_writable}

pub walk_without : {G : Type 0} (j : Thread) (drops : Bool) (next : RequestTree) (w : Full) (last : Answer) (w' :
    Full) →
    last ≢ answer.NoMemory → At j (without_fsetid drops next) w last w' → (IsRefused w last w' → G) →
    ((on : Full) → Bared j w on → At j next on last w' → G) → Law (world_of w) → G
walk_without j true next w last w' n c out goes l =
    walk_scope j (call.DropCap fsetid) (hold.Dropped fsetid) next w last w' tt n c out goes
walk_without j false next w last w' n c out goes l = goes w (bared_none j w l) c

-- whether the set-id bits stay, by the seat of the call
pub keeps_by : (plan : Plan) (seat now : HostSeat) (kill : Bool) →
    now ≡ seat_lacking (fsetid_if (drops_fsetid plan seat kill)) seat →
    includes now.eff_caps.0 16 ≡ keeps_set_id plan seat kill
keeps_by plan seat now kill e = ap (λ (z : HostSeat). includes z.eff_caps.0 16) e

write_counts : (fd : Fd) (offset : ℕ) (bytes : List ℕ) (append : Bool) (told : HostValue) →
    FitsCall (call.WriteAt fd offset bytes append) told → (count : ℕ) × (told ≡ value.Count count)
write_counts fd offset bytes append (value.Count count) f = (count, refl)
write_counts fd offset bytes append told f = absurd f

still_write : (fd : Fd) (offset : ℕ) (bytes : List ℕ) (append : Bool) (told : ActReply) →
    IsStill (Calls (call.WriteAt fd offset bytes append)) told
still_write fd offset bytes append (Host told) = tt
still_write fd offset bytes append (Event told) = tt
still_write fd offset bytes append NoCopy = tt

pub respects_write : (keeps file append : Bool) (offset : ℕ) (bytes : List ℕ) → Respects (written_so keeps file append
    offset bytes)
respects_write keeps file append offset [] a b e = e
respects_write keeps file true offset (byte ∷ bytes) a b e =
    ap (λ (c : ObjectContents). record (written_so keeps file true offset (byte ∷ bytes) c) {
      atime = b.atime;
      mtime = b.mtime;
      ctime = b.ctime;
    }) e
respects_write keeps file false offset (byte ∷ bytes) a b e =
    ap (λ (c : ObjectContents). record (written_so keeps file false offset (byte ∷ bytes) c) {
      atime = b.atime;
      mtime = b.mtime;
      ctime = b.ctime;
    }) e

abbrev ChangesAt : ObjectContents → Node → RowEffect → Type 0
ChangesAt is node Stays = IsSame is (contents_where (Some node))
ChangesAt is node (Becomes after) = IsSame is (contents_where (Some after))

allocates_by : (s : State) (end : ℕ) (node : Node) (b : Bool) →
    ChangesAt (if b then record (contents_where (Some node)) {
      bytes = if (kind_number node.content == 8) then padded end (bytes_in node.content) else bytes_in node.content;
    } else contents_where (Some node)) node
    (if b then Becomes (rewritten (time_of s) (padded end (bytes_in node.content)) node) else Stays)
allocates_by s end node false = refl
allocates_by s end node true =
    same_parts (record (contents_where (Some node)) {
      bytes = if (kind_number node.content == 8) then padded end (bytes_in node.content) else bytes_in node.content;
    }) (contents_where (Some (rewritten (time_of s) (padded end (bytes_in node.content)) node)))
    (bytes_with (padded end (bytes_in node.content)) node.content) refl refl refl refl refl

was_allocated : (j : Thread) (w on : Full) (fd : Fd) (mode offset size : ℕ) (told : HostValue) (object : ℕ) →
    Steps j w (made (Calls (call.Allocate fd mode offset size)) (Host (host.Ok told))) on →
    IsOpenOn (tree_of w.state) fd object →
    Alters w on (with_changed object (lengthened (is_file_kind (slice_get (objects_at w) object)) mode (offset + size))
    (contents_at w))
was_allocated j w on fd mode offset size told object s o =
    let row : OpenFile → Node → Row = allocate_row w.state mode offset size in
    let r = rowed j w on (call.Allocate fd mode offset size) fd row told refl (λ numbers. refl) s in
    let node = r.ok.node in
    let f = file_is w object node (row_there w on fd row told object r o) in
    alters_row w on fd row told r.after
    (lengthened (is_file_kind (slice_get (objects_at w) object)) mode (offset + size)) object
    (objects_still j w on (call.Allocate fd mode offset size) told tt (ok_has told) s) r.nodes r.ok o
    (subst (λ (b : Bool). ChangesAt (lengthened b mode (offset + size) (contents_where (Some node))) node
    (r_effect w.state mode (offset + size) node)) (sym f)
    (subst (λ (n : ℕ). ChangesAt (lengthened (kind_number node.content == 8) mode (offset + size)
    (contents_where (Some node))) node (if lengthens mode n (offset + size)
    then Becomes (rewritten (time_of w.state) (padded (offset + size) (bytes_in node.content)) node) else Stays))
    (sym (size_is node.content))
    (allocates_by w.state (offset + size) node (lengthens mode (length (bytes_in node.content)) (offset + size)))))
  where
    r_effect : State → ℕ → ℕ → Node → RowEffect
    r_effect s mode end node = if lengthens mode (size_of node.content) end
        then Becomes (rewritten (time_of s) (padded end (bytes_in node.content)) node) else Stays

respects_length : (file : Bool) (mode end : ℕ) → Respects (lengthened file mode end)
respects_length file mode end x y e = by_test (lengthens mode (length x.bytes) end) refl
  where
    same_length : lengthens mode (length y.bytes) end ≡ lengthens mode (length x.bytes) end
    same_length = ap (λ (c : ObjectContents). lengthens mode (length c.bytes) end) e

    longer : ObjectContents → ObjectContents
    longer c = record c { bytes = if file then padded end c.bytes else c.bytes }

    by_test : (t : Bool) → lengthens mode (length x.bytes) end ≡ t →
        IsSame (lengthened file mode end x) (lengthened file mode end y)
    by_test t z = subst (λ (p : ObjectContents × ObjectContents). IsSame p.0 p.1) (λ i. (
      cond (sym z i) (longer x) x,
      cond (sym (same_length ∙ z) i) (longer y) y,
    )) (by_value t)
      where
        by_value : (t : Bool) → IsSame (cond t (longer x) x) (cond t (longer y) y)
        by_value false = e
        by_value true =
            ap (λ (c : ObjectContents). record (longer c) { atime = y.atime; mtime = y.mtime; ctime = y.ctime }) e

-- what was open is so in a later world with the same tree
open_still : (x y : Full) (fd : Fd) (object : ℕ) → (world_of y).tree ≡ (world_of x).tree →
    IsOpenOn (world_of x).tree fd object → IsOpenOn (world_of y).tree fd object
open_still x y fd object e o = subst (λ (t : Tree). IsOpenOn t fd object) (sym e) o

-- where a write begins, with capabilities or without
same_start : (append : Bool) (offset : ℕ) (name : Option (List ℕ)) (was : ObjectContents) →
    start_of append offset (uncapped name was) ≡ start_of append offset was
same_start append offset None was = refl
same_start append offset (Some name) was = refl

-- a change of what a descriptor is open on in the middle of a job, and the end
pub changed_all : (j : Thread) (w d e w' : Full) (fd : Fd) (object : ℕ) (change : ObjectContents → ObjectContents) →
    Keeps w d → IsSound d.state → IsOpenOn (world_of d).tree fd object → Respects change →
    Alters d e (with_changed object change (contents_at d)) → Keeps e w' →
    Alters w w' (with_changed object change (contents_at w))
changed_all j w d e w' fd object change k l o r a b =
    alters_then w e w' (with_changed object change (contents_at w))
    (alters_on w d e (contents_at w) object change
    (subst (λ (l : List Object). object < length l) k.objects (open_within d fd object l o)) r k a) b

module _ (plan : Plan) (who : Context) (agreed : Negotiated) (j : Thread) (w : Full) (last : Answer) (w' : Full)
    (state after : PlainTree) (g : Between w w' state after) (n : last ≢ answer.NoMemory) where
  pub fills_write : (inode handle offset : ℕ) (bytes : List ℕ) (delayed kill : Bool) (flags : ℕ) →
      j.role ≡ role_in plan j.seat who agreed (request.Write inode handle offset bytes delayed kill flags) →
      At j (begin (write plan j.seat inode handle offset bytes delayed kill flags)) w last w' →
      IsFilledBy plan j.seat who (request.Write inode handle offset bytes delayed kill flags) state w last after w'
  fills_write inode handle offset bytes delayed kill flags role c =
      walk_begin j _ w last w' n c out (λ session b q z k.
      walk_placed j offset _ b last w' k (λ r. out (refused_from w b last w' q.keeps r)) (λ k.
      walk_held j w last w' state g.shows n out handle inode _ b q k (λ fd d f k.
      walk_without j (drops_fsetid plan j.seat kill) _ d last w' n k (λ r. out (refused_from w d last w' f.calm.keeps
      r))
      (λ e x k.
      let kept = keeps_on w d e f.calm.keeps x.keeps in
      let o = open_still d e fd f.object (ap (λ (v : World). v.tree) x.world) f.open_on in
      walk_clear j plan.capability fd false _ w e (contents_at w) f.object last w' n o kept k
      (λ r. out (refused_from w e last w' kept r)) (λ y u k.
      walk_count j (makes fd) _ y last w' n (still_write fd offset bytes append) (write_counts fd offset bytes append) k
      (left d y fd f u.alters) (λ count h m k.
      unbare k (λ i v k. answered d y h i fd count f (open_still e y fd f.object u.tree o) u.alters
      (fds_on d.state e.state y.state x.fds u.fds) m
      (bared_calm j h i v) (comes_at k)))))
      (comes_law j (drops fd) d last w' (comes_at k)))))
    where
      asked : Request
      asked = request.Write inode handle offset bytes delayed kill flags

      append : Bool
      append = appends delayed flags

      makes : Fd → Call
      makes fd = call.WriteAt fd offset bytes append

      drops : Fd → RequestTree
      drops fd = without_fsetid (drops_fsetid plan j.seat kill) (capability_cleared plan.capability fd false
          (count_of (makes fd) (λ count. Bares (Gives (answer.Wrote count)))))

      out : IsRefused w last w' → IsFilledBy plan j.seat who asked state w last after w'
      out = refused_fills plan j.seat who asked w w' state after last g.shows (λ k. inl k)

      same_count : (one other : ℕ) → value.Count one ≡ value.Count other → one ≡ other
      same_count one other e = cc

      -- refused behind the end of the capabilities
      left : (d y : Full) (fd : Fd) (f : Held w d state handle inode fd) →
          Alters w y (with_changed f.object (uncapped plan.capability) (contents_at w)) → IsRefused y last w' →
          IsFilledBy plan j.seat who asked state w last after w'
      left d y fd f a r =
          subst (λ (x : Answer). Fills plan j.seat who asked (filled state w) x (filled after w')) (sym r.is)
          (inr (f.object, f.held, become w w' state after _ g.shows (alters_then w y w' _ a r.keeps)))

      answered : (d y h i : Full) (fd : Fd) (count : ℕ) (f : Held w d state handle inode fd) →
          IsOpenOn (world_of y).tree fd f.object →
          Alters w y (with_changed f.object (uncapped plan.capability) (contents_at w)) → KeepsFds d.state y.state →
          Makes j y (Calls (makes fd)) (Host (host.Ok (value.Count count))) h → Calm h i →
          Comes j (Gives (answer.Wrote count)) i last w' → IsFilledBy plan j.seat who asked state w last after w'
      answered d y h i fd count f o a fds m q k =
          let by_seat = subst (λ (r : Role). y.seat ≡ seat_lacking (r.lacks (makes fd)) j.seat) role m.2.as_asked in
          let keeps = keeps_set_id plan j.seat kill in
          let wrote = was_written j y h fd offset bytes append (value.Count count) f.object keeps m.2 o
          (keeps_by plan j.seat y.seat kill by_seat) in
          let kind = ap (λ (l : List Object). is_file_kind (slice_get l f.object)) a.objects
          ∙ file_there w state f.object g.shows in
          let file = is_file (filled state w) f.object in
          let so : Bool → ObjectContents → ObjectContents = λ file. written_so keeps file append offset bytes in
          let there : Alters y h (with_changed f.object (so file) (contents_at y)) =
          subst (λ (x : Bool). Alters y h (with_changed f.object (so x) (contents_at y))) kind wrote.1 in
          let cleared : ℕ → ObjectContents = with_changed f.object (uncapped plan.capability) (contents_at w) in
          let on = alters_on w y h cleared f.object (so file) (within_at w y cleared fd f.object a m.2.made.0.sound o)
          (respects_write keeps file append offset bytes) a there in
          let all = alters_twice w w' f.object (uncapped plan.capability) (so file)
          (alters_then w h w' (with_changed f.object (so file) cleared) on
          (keeps_on h i w' q.keeps (idles_calm j i w' k.1).keeps)) in
          subst (λ (x : Answer). Fills plan j.seat who asked (filled state w) x (filled after w')) (sym k.0) (
            (
              f.object,
              f.held,
              (
                same_count count (length bytes) wrote.0,
                subst (λ (change : ObjectContents → ObjectContents). BecomesThere (filled state w) f.object change
                    (filled after w')) (λ i was. overwritten keeps file (same_start append offset plan.capability was
                    i) bytes (uncapped plan.capability was)) (become w w' state after _ g.shows all),
              ),
            ),
            ap writes (f.lends ∙ sym (fds fd f.open_on.0 f.open_on.1).1)
                ∙ was_writable j y h fd (value.Count count) offset bytes append m.2,
          )

  pub fills_fallocate : (inode handle mode offset size : ℕ) →
      At j (begin (fallocate inode handle mode offset size)) w last w' →
      IsFilledBy plan j.seat who (request.Fallocate inode handle mode offset size) state w last after w'
  fills_fallocate inode handle mode offset size c =
      walk_begin j _ w last w' n c out (λ session b q z k.
      walk_placed j offset _ b last w' k (λ r. out (refused_from w b last w' q.keeps r)) (λ k.
      walk_placed j size _ b last w' k (λ r. out (refused_from w b last w' q.keeps r)) (λ k.
      walk_held j w last w' state g.shows n out handle inode _ b q k (λ fd d f k.
      walk_do j (makes fd) _ d last w' n (still fd) k (λ r. out (refused_from w d last w' f.calm.keeps r)) (λ told e m
      k.
      answered d e fd told f m (comes_at k))))))
    where
      asked : Request
      asked = request.Fallocate inode handle mode offset size

      makes : Fd → Call
      makes fd = call.Allocate fd mode offset size

      still : (fd : Fd) (told : ActReply) → ok_in told ≡ None → IsStill (Calls (makes fd)) told
      still fd (Host told) e = tt
      still fd (Event told) e = tt
      still fd NoCopy e = tt

      out : IsRefused w last w' → IsFilledBy plan j.seat who asked state w last after w'
      out = refused_fills plan j.seat who asked w w' state after last g.shows (λ k. k)

      answered : (d e : Full) (fd : Fd) (told : HostValue) (f : Held w d state handle inode fd) →
          Makes j d (Calls (makes fd)) (Host (host.Ok told)) e → Comes j (Gives answer.Done) e last w' →
          IsFilledBy plan j.seat who asked state w last after w'
      answered d e fd told f m k =
          let file = ap (λ (l : List Object). is_file_kind (slice_get l f.object)) f.calm.keeps.objects
          ∙ file_there w state f.object g.shows in
          let so : Bool → ObjectContents → ObjectContents = λ file. lengthened file mode (offset + size) in
          let there : Alters d e (with_changed f.object (so (is_file (filled state w) f.object)) (contents_at d)) =
          subst (λ (x : Bool). Alters d e (with_changed f.object (so x) (contents_at d))) file
          (was_allocated j d e fd mode offset size told f.object m.2 f.open_on) in
          let all = changed_all j w d e w' fd f.object (so (is_file (filled state w) f.object)) f.calm.keeps
          m.2.made.0.sound f.open_on
          (respects_length (is_file (filled state w) f.object) mode (offset + size)) there (idles_calm j e w'
          k.1).keeps in
          subst (λ (x : Answer). Fills plan j.seat who asked (filled state w) x (filled after w')) (sym k.0) (
            (f.object, f.held, become w w' state after _ g.shows all),
            ap writes f.lends ∙ was_lengthenable j d e fd told mode offset size m.2,
          )
