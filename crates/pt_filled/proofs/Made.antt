-- Proof. `mkdir`, `mknod`, `symlink`.
use Rattle.std.specs.Prelude.{◌⊎◌}
use Rattle.std.proofs.Common.{inl, inr, ◌≡◌, ◌≢◌, ◌<◌, ℕ, List, length, Some, None, refl, sym, ap, subst, ◌∙◌}
use Rattle.std.proofs.Common.{slice_get}
use Rattle.pt_host.specs.Contents.{ObjectContents}
use Rattle.pt_host.specs.Tree.{Object, Tree}
use Rattle.pt_host.specs.declared.ids.Errno.{Errno}
use Rattle.pt_tables.specs.declared.form.Negotiated.{Negotiated}
use Rattle.pt_iface.specs.declared.answer.Answer.{Answer}
use Rattle.pt_iface.specs.declared.request.Context.{Context}
use Rattle.pt_iface.specs.declared.request.Request.{Request}
use Rattle.pt_iface.specs.declared.entry.Entry.{Entry}
use Rattle.pt_iface.specs.declared.request.Extensions.{Extensions}
use Rattle.pt_iface.specs.declared.answer.Answer.TheVariants as answer
use Rattle.pt_iface.specs.declared.request.Request.TheVariants as request
use Rattle.pt_req.specs.Steps.{begin}
use Rattle.pt_req.specs.declared.plan.Plan.{Plan}
use Rattle.pt_attr.specs.Making.{mkdir, mknod, symlink}
use Rattle.pt_job.specs.Requests.{object_asked}
use Rattle.pt_law.specs.Under.{Role, Identity}
use Rattle.pt_fit.specs.Asker.{role_in, asker_in}
use Rattle.pt_plain.specs.Plain.{PlainTree}
use Rattle.pt_plain.specs.Serves.{MakesEntry, Serves}
use Rattle.pt_plain.proofs.Making.{What}
use Rattle.pt_filled.specs.Contents.{AllStay, IsSame}
use Rattle.pt_filled.specs.Fills.{Fills, LeavesNew, NamesNew}
use Rattle.pt_filled.specs.New.{contents_made, context_of, IsInContext, kind_made, Makes as MakesNew, MakesAsked}
use Rattle.pt_filled.specs.New.{MakesBare, next_object}
use Rattle.pt_filled.specs.Told.{NamesEntry}
use Rattle.pt_filled.proofs.Filling.{Between, filled, IsFilledBy, stay, objects_of, stands_from}
use Rattle.pt_filled.proofs.Hosting.{Full, Keeps, Thread, contents_at, objects_at}
use Rattle.pt_filled.proofs.Parts.{At, comes_at}
use Rattle.pt_filled.proofs.Threading.{comes_law}
use Rattle.pt_filled.proofs.Labelling.{IsLeftBare, IsMadeWhole, IsNamedStill}
use Rattle.pt_filled.proofs.Looking.{IsToldSo, told_entry}
use Rattle.pt_filled.proofs.Entries.{entry_agreed}
use Rattle.pt_filled.proofs.News.{HasMade, new_contents, new_kind}
use Rattle.pt_filled.proofs.Makings.{makes_so, MakesSo}

-- what was made is new in the plain file system
pub made_filled : (w w' : Full) (state after : PlainTree) (kind : ℕ) (is : ObjectContents) →
    Between w w' state after → HasMade w w' kind is → MakesNew (filled state w) kind is (filled after w')
made_filled w w' state after kind is g m =
    let n = ap (length {A = Object}) (objects_of w state g.shows) in (
      (λ object l. m.same object (subst (λ (k : ℕ). object < k) n l)),
      (
        m.what,
        ap (slice_get (after.tree.objects)) n
            ∙ ap (λ (o : List Object). slice_get o (length (objects_at w))) (objects_of w' after g.ends) ∙ m.is_what,
        m.is_kind,
        subst (λ (k : ℕ). IsSame is (contents_at w' k)) (sym n) m.new,
      ),
    )

-- its name leads to it
pub names_new : (w w' : Full) (state after : PlainTree) (parent : ℕ) (name : List ℕ) → Between w w' state after →
    IsNamedStill w w' parent name → NamesNew (filled state w) parent name (filled after w')
names_new w w' state after parent name g t = (
  t.dir,
  stands_from w t.e state parent t.dir g.shows t.calm.quiet t.is_dir t.live,
  ap (λ (z : Tree). z.names t.dir name) g.ends.tree ∙ t.leads
      ∙ sym (ap (λ (o : List Object). Some (length o)) (objects_of w state g.shows)),
)

-- nothing was made
pub stayed_filled : (w w' : Full) (state after : PlainTree) → Between w w' state after → Keeps w w' →
    AllStay (filled state w) (filled after w')
    × (next_object (filled after w') ≡ next_object (filled state w))
stayed_filled w w' state after g k = (
  stay w w' state after g.shows k,
  ap (length {A = Object}) (objects_of w' after g.ends ∙ k.objects ∙ sym (objects_of w state g.shows)),
)

module _ (plan : Plan) (who : Context) (agreed : Negotiated) (j : Thread) (w : Full) (last : Answer) (w' : Full)
    (state after : PlainTree) (g : Between w w' state after) (n : last ≢ answer.NoMemory)
    (a : agreed ≡ w.tables.negotiated) where
  -- how a making is answered, and what it made
  abbrev Made : Request → ℕ → List ℕ → Type 0
  Made asked parent name =
      ((errno : Errno) × (last ≡ answer.Refused errno)
      × LeavesNew plan j.seat who asked parent name (filled state w) (filled after w'))
      ⊎ ((entry : Entry) × (last ≡ answer.Entry entry)
      × MakesAsked plan j.seat who asked (filled state w) (filled after w')
      × IsToldSo plan w w.tables.negotiated parent name entry w')

  made_so : (asked : Request) (what : What) (parent : ℕ) (name : List ℕ) →
      j.role ≡ role_in plan j.seat who agreed asked → kind_made asked ≡ new_kind what →
      ((by_whom : Identity) → contents_made asked by_whom ≡ new_contents by_whom what) →
      MakesSo j plan w.tables.negotiated (context_of asked) parent name what w last w' → Made asked parent name
  made_so asked what parent name role kind is (inl r) =
      inl (r.errno, r.is, inl (stayed_filled w w' state after g r.keeps))
  made_so asked what parent name role kind is (inr m) = go m.2
    where
      asker : asker_in plan j.seat who state.agreed asked ≡ Some m.0
      asker = ap (λ (x : Negotiated). asker_in plan j.seat who x asked) (g.shows.agreed ∙ sym a)
          ∙ sym (ap (λ (r : Role). r.asker) role) ∙ m.1

      made : (it : ObjectContents) → HasMade w w' (new_kind what) it →
          MakesNew (filled state w) (kind_made asked) it (filled after w')
      made it h = subst (λ (k : ℕ). MakesNew (filled state w) k it (filled after w')) (sym kind)
          (made_filled w w' state after (new_kind what) it g h)

      bare : HasMade w w' (new_kind what) (new_contents m.0 what) →
          MakesBare plan j.seat who asked (filled state w) (filled after w')
      bare h = (
        m.0,
        asker,
        made (contents_made asked m.0) (subst (HasMade w w' (new_kind what)) (sym (is m.0)) h),
      )

      whole : IsMadeWhole plan w.tables.negotiated (context_of asked) w w' (new_kind what) (new_contents m.0 what)
          parent name → MakesAsked plan j.seat who asked (filled state w) (filled after w')
      whole t = (
        m.0,
        asker,
        t.is,
        in_context_there t.is t.in_context,
        made t.is t.made,
      )
        where
          in_context_there : (it : ObjectContents) →
              IsInContext plan w.tables.negotiated (context_of asked) (new_contents m.0 what) it →
              IsInContext plan state.agreed (context_of asked) (contents_made asked m.0) it
          in_context_there it k =
              subst (λ (x : Negotiated). IsInContext plan x (context_of asked) (contents_made asked m.0) it)
              (sym g.shows.agreed)
              (subst (λ (c : ObjectContents). IsInContext plan w.tables.negotiated (context_of asked) c it)
              (sym (is m.0)) k)

      go : IsLeftBare (context_of asked) w last w' (new_kind what) (new_contents m.0 what)
          ⊎ (IsMadeWhole plan w.tables.negotiated (context_of asked) w w' (new_kind what) (new_contents m.0 what) parent
          name
          × (((errno : Errno) × (last ≡ answer.Refused errno))
          ⊎ ((entry : Entry) × (last ≡ answer.Entry entry)
          × IsToldSo plan w w.tables.negotiated parent name entry w'))) → Made asked parent name
      go (inl t) = inl (t.errno, t.is_refused, inr (inr (t.brings, bare t.made)))
      go (inr (t, inl r)) =
          inl (r.0, r.1, inr (inl (whole t, names_new w w' state after parent name g t.named)))
      go (inr (t, inr e)) = inr (e.0, e.1, whole t, e.2)

  -- the entry tells what there is then
  told_so : (asked : Request) (parent : ℕ) (name : List ℕ) (entry : Entry) →
      MakesEntry state parent name entry.inode after → IsToldSo plan w w.tables.negotiated parent name entry w' →
      NamesEntry plan (filled state w) parent name entry (filled after w')
  told_so asked parent name entry v t =
      told_entry plan w w' state after w.tables.negotiated parent name entry g.shows g.ends
      (entry_agreed state parent name entry.inode after v ∙ g.shows.agreed) t

  pub fills_mkdir : (parent : ℕ) (name : List ℕ) (mode umask : ℕ) (ext : Extensions) →
      j.role ≡ role_in plan j.seat who agreed (request.Mkdir parent name mode umask ext) →
      Serves plan (request.Mkdir parent name mode umask ext) state last after →
      At j (begin (mkdir plan j.seat (object_asked who parent name (Some umask) ext) mode)) w last w' →
      IsFilledBy plan j.seat who (request.Mkdir parent name mode umask ext) state w last after w'
  fills_mkdir parent name mode umask ext role v c =
      elim (made_so asked (What.Directory mode) parent name role refl (λ by_whom. refl)
      (makes_so plan (object_asked who parent name (Some umask) ext) (What.Directory mode) j w last w' n
      (comes_law j (begin (mkdir plan j.seat (object_asked who parent name (Some umask) ext) mode)) w last w'
      (comes_at c))
      c)) [
        | inl r ↦ subst (λ (x : Answer). Fills plan j.seat who asked (filled state w) x (filled after w')) (sym r.1) r.2
        | inr e ↦ subst (λ (x : Answer). Fills plan j.seat who asked (filled state w) x (filled after w')) (sym e.1)
            (e.2, told_so asked parent name e.0 (subst (λ (x : Answer). Serves plan asked state x after) e.1 v) e.3)
      ]
    where
      asked : Request
      asked = request.Mkdir parent name mode umask ext

  pub fills_mknod : (parent : ℕ) (name : List ℕ) (mode rdev umask : ℕ) (ext : Extensions) →
      j.role ≡ role_in plan j.seat who agreed (request.Mknod parent name mode rdev umask ext) →
      Serves plan (request.Mknod parent name mode rdev umask ext) state last after →
      At j (begin (mknod plan j.seat (object_asked who parent name (Some umask) ext) mode rdev)) w last w' →
      IsFilledBy plan j.seat who (request.Mknod parent name mode rdev umask ext) state w last after w'
  fills_mknod parent name mode rdev umask ext role v c =
      elim (made_so asked (What.Node mode rdev) parent name role refl (λ by_whom. refl)
      (makes_so plan (object_asked who parent name (Some umask) ext) (What.Node mode rdev) j w last w' n
      (comes_law j (begin (mknod plan j.seat (object_asked who parent name (Some umask) ext) mode rdev)) w last w'
      (comes_at c)) c)) [
        | inl r ↦ subst (λ (x : Answer). Fills plan j.seat who asked (filled state w) x (filled after w')) (sym r.1) r.2
        | inr e ↦ subst (λ (x : Answer). Fills plan j.seat who asked (filled state w) x (filled after w')) (sym e.1)
            (e.2, told_so asked parent name e.0 (subst (λ (x : Answer). Serves plan asked state x after) e.1 v) e.3)
      ]
    where
      asked : Request
      asked = request.Mknod parent name mode rdev umask ext

  pub fills_symlink : (target : List ℕ) (parent : ℕ) (name : List ℕ) (ext : Extensions) →
      j.role ≡ role_in plan j.seat who agreed (request.Symlink target parent name ext) →
      Serves plan (request.Symlink target parent name ext) state last after →
      At j (begin (symlink plan j.seat (object_asked who parent name None ext) target)) w last w' →
      IsFilledBy plan j.seat who (request.Symlink target parent name ext) state w last after w'
  fills_symlink target parent name ext role v c =
      elim (made_so asked (What.Link target) parent name role refl (λ by_whom. refl)
      (makes_so plan (object_asked who parent name None ext) (What.Link target) j w last w' n
      (comes_law j (begin (symlink plan j.seat (object_asked who parent name None ext) target)) w last w' (comes_at
      c)) c)) [
        | inl r ↦ subst (λ (x : Answer). Fills plan j.seat who asked (filled state w) x (filled after w')) (sym r.1) r.2
        | inr e ↦ subst (λ (x : Answer). Fills plan j.seat who asked (filled state w) x (filled after w')) (sym e.1)
            (e.2, told_so asked parent name e.0 (subst (λ (x : Answer). Serves plan asked state x after) e.1 v) e.3)
      ]
    where
      asked : Request
      asked = request.Symlink target parent name ext
