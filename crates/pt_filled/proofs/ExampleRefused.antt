-- Proof. Answers and contents that the plain file system refuses.
use Rattle.std.proofs.Common.{◌≡◌, ◌≢◌, ◌<◌, ℕ, List, [], ◌∷◌, length, Bool, true, false, Option, Some, None, sym, ap}
use Rattle.std.proofs.Common.{◌∙◌, arith, is_some, slice_get, subst, refl, inl, inr}
use Rattle.std.specs.Prelude.{◌&&◌, if◌then◌else◌}
use Rattle.std.specs.Str.{bytes_eq}
use Rattle.std.proofs.lemmas.Map.{update_same}
use Rattle.std.proofs.lemmas.Slice.Eq.{bytes_eq-Decides}
use Rattle.pt_host.specs.Contents.{ObjectContents}
use Rattle.pt_host.specs.Tree.{Object}
use Rattle.pt_host.specs.declared.ids.Errno.{Errno}
use Rattle.pt_host.specs.declared.seat.HostSeat.{HostSeat}
use Rattle.pt_iface.specs.declared.entry.Attr.{Attr}
use Rattle.pt_iface.specs.declared.entry.Entry.{Entry}
use Rattle.pt_iface.specs.declared.entry.Timeout.{Timeout}
use Rattle.pt_iface.specs.declared.flags.OpenOptions.{OpenOptions}
use Rattle.pt_iface.specs.declared.request.Context.{Context}
use Rattle.pt_iface.specs.declared.request.Extensions.{Extensions}
use Rattle.pt_iface.specs.declared.request.SecContext.{SecContext}
use Rattle.pt_iface.specs.declared.answer.Answer.TheVariants as answer
use Rattle.pt_iface.specs.declared.request.Request.TheVariants as request
use Rattle.pt_req.specs.declared.plan.Plan.{Plan}
use Rattle.pt_law.specs.Under.{Identity}
use Rattle.pt_law.proofs.Lists.{set_at_other}
use Rattle.pt_fit.specs.Asker.{asker_in}
use Rattle.pt_plain.specs.Plain.{Handled, handled_as, numbered_as, Numbered}
use Rattle.pt_filled.specs.Accesses.{opened_for, writes}
use Rattle.pt_filled.specs.Contents.{FilledTree, is_file, keeps_set_id, overwritten, with_changed, uncapped}
use Rattle.pt_filled.specs.Fills.{Fills}
use Rattle.pt_filled.specs.New.{contents_made, IsInContext, next_object}

abbrev object_in : Option Handled → ℕ
object_in None = 0
object_in (Some it) = it.object

module _ (plan : Plan) (seat : HostSeat) (who : Context) (state after : FilledTree) where
  -- what a write at 0 of one byte makes of an object
  abbrev put : Bool → ℕ → ObjectContents → ObjectContents
  put kill object was =
      overwritten (keeps_set_id plan seat kill) (is_file state object) 0 (2 ∷ []) (uncapped plan.capability was)

  -- bytes that are written to another file
  another_file : (inode handle object other : ℕ) (kill : Bool) → state.plain.handles handle ≡ handled_as inode object →
      other ≢ object → other < length state.plain.tree.objects → (state.contents other).bytes ≡ [] →
      (after.contents other).bytes ≡ 2 ∷ [] →
      Fills plan seat who (request.Write inode handle 0 (2 ∷ []) false kill 0) state (answer.Wrote 1) after → ⊥
  another_file inode handle object other kill h apart l old new f =
      let same : f.0.0 ≡ object = ap object_in (sym f.0.1 ∙ h) in
      let here = ap (λ (o : ℕ). (with_changed o (put kill o) state.contents other).bytes) same
      ∙ ap (λ (c : ObjectContents). c.bytes)
      (set_at_other state.contents object (put kill object (state.contents object)) other apart) in
      clash (sym new ∙ ap (λ (c : ObjectContents). c.bytes) (f.0.2.1 other l) ∙ here ∙ old)
    where
      clash : ◌≡◌ {A = List ℕ} (2 ∷ []) [] → ⊥
      clash e = (let l = ap (λ (b : List ℕ). length b) e in absurd (omega (arith, l)))

  -- a write that tells another count than that of its bytes
  another_count : (inode handle : ℕ) (kill : Bool) →
      Fills plan seat who (request.Write inode handle 0 (2 ∷ []) false kill 0) state (answer.Wrote 7) after → ⊥
  another_count inode handle kill f = absurd (let e : 7 ≡ 1 = f.0.2.0 in omega (arith, e))

  -- a write by a handle that was opened to read
  another_use : (inode handle : ℕ) (kill : Bool) → state.accesses handle ≡ 0 →
      Fills plan seat who (request.Write inode handle 0 (2 ∷ []) false kill 0) state (answer.Wrote 1) after → ⊥
  another_use inode handle kill reads f = clash (sym f.1 ∙ ap writes reads)
    where
      clash : true ≡ false → ⊥
      clash e = cc

  -- what is opened to read may be used to write
  another_access : (inode handle : ℕ) (kill : Bool) (options : OpenOptions) → state.plain.agreed.writeback ≡ false →
      after.accesses handle ≡ 1 →
      Fills plan seat who (request.Open inode kill 0) state (answer.Opened handle options) after → ⊥
  another_access inode handle kill options plainly to_write f =
      let e : opened_for state.plain.agreed 0 ≡ 0 = ap (λ (b : Bool). if (b && false) then 2 else 0) plainly in
      let one = sym to_write ∙ f.1 in absurd (omega (arith, e, one))

  -- a directory that is a file
  another_kind : (parent : ℕ) (name : List ℕ) (mode umask : ℕ) (ext : Extensions) (entry : Entry) (what : Object) →
      slice_get after.plain.tree.objects (next_object state) ≡ Some what → what.kind ≡ 8 →
      Fills plan seat who (request.Mkdir parent name mode umask ext) state (answer.Entry entry) after → ⊥
  another_kind parent name mode umask ext entry what is kind f =
      let new = f.0.4.1 in
      let same : what ≡ new.0 = some_same (sym is ∙ new.1) in
      let four = ap (λ (o : Object). o.kind) same ∙ new.2 in
      absurd (omega (arith, four, kind))
    where
      some_same : {one other : Object} → Some one ≡ Some other → one ≡ other
      some_same e = cc

  -- a device of somebody else
  another_owner : (parent : ℕ) (name : List ℕ) (mode rdev umask : ℕ) (ext : Extensions) (entry : Entry)
      (asker : Identity) →
      asker_in plan seat who state.plain.agreed (request.Mknod parent name mode rdev umask ext) ≡ Some asker →
      (after.contents (next_object state)).uid ≢ asker.uid →
      Fills plan seat who (request.Mknod parent name mode rdev umask ext) state (answer.Entry entry) after → ⊥
  another_owner parent name mode rdev umask ext entry asker is other f =
      let made : ObjectContents = contents_made (request.Mknod parent name mode rdev umask ext) f.0.0 in
      other (ap (λ (c : ObjectContents). c.uid) f.0.4.1.3 ∙ same_owner ext.secctx made f.0.2 f.0.3
      ∙ ap (λ (i : Identity). i.uid) (some_same (sym f.0.1 ∙ is)))
    where
      some_same : {one other : Identity} → Some one ≡ Some other → one ≡ other
      some_same e = cc

      same_owner : (context : Option SecContext) (was it : ObjectContents) →
          IsInContext plan state.plain.agreed context was it → it.uid ≡ was.uid
      same_owner None was it k = ap (λ (c : ObjectContents). c.uid) k
      same_owner (Some context) was it k = ap (λ (c : ObjectContents). c.uid) k.2

  -- a directory without the context that the guest brings for it
  another_context : (parent : ℕ) (name : List ℕ) (mode umask : ℕ) (ext : Extensions) (entry : Entry)
      (context : SecContext) → ext.secctx ≡ Some context →
      ((held : List ℕ) → (after.contents (next_object state)).xattrs held ≡ None) →
      Fills plan seat who (request.Mkdir parent name mode umask ext) state (answer.Entry entry) after → ⊥
  another_context parent name mode umask ext entry context brings bare f =
      let made : ObjectContents = contents_made (request.Mkdir parent name mode umask ext) f.0.0 in
      let c : IsInContext plan state.plain.agreed (Some context) made f.0.2 =
      subst (λ (x : Option SecContext). IsInContext plan state.plain.agreed x made f.0.2) brings f.0.3 in
      clash (sym (bare c.0) ∙ ap (λ (o : ObjectContents). o.xattrs c.0) f.0.4.1.3
      ∙ ap (λ (o : ObjectContents). o.xattrs c.0) c.2
      ∙ update_same bytes_eq made.xattrs c.0 (Some context.value) c.0 ((bytes_eq-Decides c.0 c.0).1 refl))
    where
      clash : ◌≡◌ {A = Option (List ℕ)} None (Some context.value) → ⊥
      clash e = cc

  -- a refused directory in its context, without its name
  another_undoing : (parent : ℕ) (name : List ℕ) (mode umask : ℕ) (ext : Extensions) (errno : Errno) (held : List ℕ) →
      next_object state < next_object after →
      is_some ((after.contents (next_object state)).xattrs held) ≡ true →
      ((dir : ℕ) → after.plain.tree.names dir name ≡ None) →
      Fills plan seat who (request.Mkdir parent name mode umask ext) state (answer.Refused errno) after → ⊥
  another_undoing parent name mode umask ext errno held more has gone (inl k) =
      let same = k.1 in absurd (omega (arith, more, same))
  another_undoing parent name mode umask ext errno held more has gone (inr (inl k)) =
      clash (sym (gone k.1.0) ∙ k.1.2)
    where
      clash : None ≡ Some (next_object state) → ⊥
      clash e = cc
  another_undoing parent name mode umask ext errno held more has gone (inr (inr k)) =
      clash (sym (ap (λ (c : ObjectContents). is_some (c.xattrs held)) k.1.2.1.3) ∙ has)
    where
      clash : false ≡ true → ⊥
      clash e = cc

  -- attributes of another size
  another_size : (inode object count : ℕ) (attr : Attr) (valid : Timeout) →
      state.plain.numbers inode ≡ numbered_as object count → (state.contents object).bytes ≡ [] → attr.size ≡ 7 →
      Fills plan seat who (request.GetAttr inode) state (answer.Attr attr valid) after → ⊥
  another_size inode object count attr valid n empty seven f =
      let same : f.0.0 ≡ object = ap number_in (sym f.0.1.1 ∙ n) in
      let told = f.0.2 in
      let size = ap (λ (a : Attr). a.size) told.2 ∙ told.1.size in
      let none = ap (λ (o : ℕ). length (state.contents o).bytes) same ∙ ap (λ (b : List ℕ). length b) empty in
      absurd (omega (arith, size, seven, none))
    where
      number_in : Option Numbered → ℕ
      number_in None = 0
      number_in (Some it) = it.object

  -- an attribute that is taken from where there is none
  none_taken : (inode : ℕ) (name : List ℕ) →
      ((object : ℕ) (held : List ℕ) → (state.contents object).xattrs held ≡ None) →
      Fills plan seat who (request.RemoveXattr inode name) state answer.Done after → ⊥
  none_taken inode name bare f =
      clash (sym (ap (λ (value : Option (List ℕ)). is_some value) (bare f.0 f.2.0)) ∙ f.2.2.0)
    where
      clash : false ≡ true → ⊥
      clash e = cc

  -- a refused `getattr` that changes what a file holds
  refused_changes : (inode object : ℕ) (errno : Errno) → object < length state.plain.tree.objects →
      (state.contents object).bytes ≡ [] → (after.contents object).bytes ≡ 2 ∷ [] →
      Fills plan seat who (request.GetAttr inode) state (answer.Refused errno) after → ⊥
  refused_changes inode object errno l old new f =
      clash (sym new ∙ ap (λ (c : ObjectContents). c.bytes) (f object l) ∙ old)
    where
      clash : ◌≡◌ {A = List ℕ} (2 ∷ []) [] → ⊥
      clash e = (let l = ap (λ (b : List ℕ). length b) e in absurd (omega (arith, l)))
