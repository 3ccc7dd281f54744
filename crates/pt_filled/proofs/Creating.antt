-- Proof. `create`.
use Rattle.std.proofs.Common.{inl, inr, [], ◌≡◌, ◌≢◌, ◌<◌, ℕ, List, length, Bool, Some, refl, sym, ap, subst, ◌∙◌}
use Rattle.std.proofs.Common.{slice_get}
use Rattle.pt_host.specs.Tree.{Tree, Object}
use Rattle.pt_host.specs.Contents.{ObjectContents}
use Rattle.pt_host.specs.Flags.{includes, o_trunc}
use Rattle.pt_host.specs.declared.ids.Errno.{Errno}
use Rattle.pt_host.specs.declared.op.KeptHostOp.TheVariants as call
use Rattle.pt_tables.specs.declared.form.Negotiated.{Negotiated}
use Rattle.pt_iface.specs.declared.answer.Answer.{Answer}
use Rattle.pt_iface.specs.declared.request.Context.{Context}
use Rattle.pt_iface.specs.declared.request.Request.{Request}
use Rattle.pt_iface.specs.declared.entry.Entry.{Entry}
use Rattle.pt_iface.specs.declared.request.Extensions.{Extensions}
use Rattle.pt_iface.specs.declared.flags.OpenOptions.{OpenOptions}
use Rattle.pt_iface.specs.declared.answer.Answer.TheVariants as answer
use Rattle.pt_iface.specs.declared.request.Request.TheVariants as request
use Rattle.pt_req.specs.Steps.{begin}
use Rattle.pt_req.specs.Entries.{entry_of}
use Rattle.pt_req.specs.declared.plan.Plan.{Plan}
use Rattle.pt_attr.specs.Creating.{create, file_asked}
use Rattle.pt_law.specs.Under.{Role, Identity}
use Rattle.pt_law.proofs.Givings.{live_count}
use Rattle.pt_fit.specs.Asker.{role_in, asker_in}
use Rattle.pt_plain.specs.Plain.{PlainTree}
use Rattle.pt_plain.specs.Serves.{Serves}
use Rattle.pt_filled.specs.Accesses.{opened_for}
use Rattle.pt_filled.specs.Fills.{Fills, IsNamed}
use Rattle.pt_filled.specs.Contents.{is_file, is_file_kind, with_changed, uncapped_if, Becomes as BecomesThere}
use Rattle.pt_filled.specs.New.{fresh, IsInContext, MakesAsked, MakesBare, next_object, permitted}
use Rattle.pt_filled.specs.Told.{NamesEntry}
use Rattle.pt_filled.proofs.Filling.{Between, filled, IsFilledBy, stat_of, become, file_there, objects_of}
use Rattle.pt_filled.proofs.Filling.{stands_from}
use Rattle.pt_filled.proofs.Hosting.{Full, Thread, contents_at, world_of, Alters, objects_at}
use Rattle.pt_filled.proofs.Parts.{At, Calm, keeps_on}
use Rattle.pt_filled.proofs.Labelling.{IsMadeWhole}
use Rattle.pt_filled.proofs.Looking.{IsLooked, IsToldSo, told_entry}
use Rattle.pt_filled.proofs.Entries.{entry_agreed, gives_agreed}
use Rattle.pt_filled.proofs.News.{HasMade}
use Rattle.pt_filled.proofs.Creations.{CreatesSo, creates_so, EndsSo}
use Rattle.pt_filled.proofs.Made.{made_filled, names_new, stayed_filled}
use Rattle.pt_filled.proofs.Opened.{emptied_so}

not_created : (errno : Errno) (entry : Entry) (handle : ℕ) (options : OpenOptions) →
    answer.Created entry handle options ≡ answer.Refused errno → ⊥
not_created errno entry handle options e = cc

same_created : (entry other : Entry) (handle another : ℕ) (options more : OpenOptions) →
    answer.Created entry handle options ≡ answer.Created other another more → entry ≡ other
same_created entry other handle another options more e = cc

module _ (plan : Plan) (who : Context) (agreed : Negotiated) (j : Thread) (w : Full) (last : Answer) (w' : Full)
    (state after : PlainTree) (g : Between w w' state after) (n : last ≢ answer.NoMemory)
    (a : agreed ≡ w.tables.negotiated) where
  pub fills_create : (parent : ℕ) (name : List ℕ) (mode : ℕ) (kill : Bool) (flags umask : ℕ) (ext : Extensions) →
      j.role ≡ role_in plan j.seat who agreed (request.Create parent name mode kill flags umask ext) →
      Serves plan (request.Create parent name mode kill flags umask ext) state last after →
      At j (begin (create plan j.seat (file_asked who parent name mode kill flags umask ext))) w last w' →
      IsFilledBy plan j.seat who (request.Create parent name mode kill flags umask ext) state w last after w'
  fills_create parent name mode kill flags umask ext role v c =
      fills last refl v (creates_so plan (file_asked who parent name mode kill flags umask ext) j w last w' n
      (λ fd how. ap (λ (r : Role). r.lacks (call.Reopen fd how)) role) c)
    where
      asked : Request
      asked = request.Create parent name mode kill flags umask ext

      -- what it makes, before it has a context
      was : Identity → ObjectContents
      was by_whom = fresh by_whom (permitted by_whom mode) 0 []

      asker : (by_whom : Identity) → j.role.asker ≡ Some by_whom →
          asker_in plan j.seat who state.agreed asked ≡ Some by_whom
      asker by_whom e = ap (λ (x : Negotiated). asker_in plan j.seat who x asked) (g.shows.agreed ∙ sym a)
          ∙ sym (ap (λ (r : Role). r.asker) role) ∙ e

      bares : (by_whom : Identity) → j.role.asker ≡ Some by_whom → HasMade w w' 8 (was by_whom) →
          MakesBare plan j.seat who asked (filled state w) (filled after w')
      bares by_whom e m = (by_whom, asker by_whom e, made_filled w w' state after 8 (was by_whom) g m)

      news : (by_whom : Identity) → j.role.asker ≡ Some by_whom →
          IsMadeWhole plan w.tables.negotiated ext.secctx w w' 8 (was by_whom) parent name →
          MakesAsked plan j.seat who asked (filled state w) (filled after w')
      news by_whom e t = (
        by_whom,
        asker by_whom e,
        t.is,
        subst (λ (x : Negotiated). IsInContext plan x ext.secctx (was by_whom) t.is) (sym g.shows.agreed) t.in_context,
        made_filled w w' state after 8 t.is g t.made,
      )

      -- the file that has the name, as it has become
      olds : (dir object : ℕ) (change : Bool → ObjectContents → ObjectContents) (e : Full) → Calm w e →
          e.past.numbers parent ≡ Some dir → 0 < live_count parent e.tables →
          (world_of e).tree.names dir name ≡ Some object →
          Alters w w' (with_changed object (change (is_file_kind (slice_get (objects_at w) object)))
          (contents_at w)) →
          (object : ℕ) × IsNamed state parent name object
          × BecomesThere (filled state w) object (change (is_file (filled state w) object)) (filled after w')
      olds dir object change e q is live leads al = (
        object,
        (
          dir,
          stands_from w e state parent dir g.shows q.quiet is live,
          ap (λ (t : Tree). t.names dir name) (g.shows.tree ∙ sym q.quiet.still.tree) ∙ leads,
        ),
        become w w' state after _ g.shows (subst (λ (x : Bool). Alters w w' (with_changed object (change x)
            (contents_at w))) (file_there w state object g.shows) al),
      )

      whole : Bool → ObjectContents → ObjectContents
      whole file was =
          uncapped_if (includes flags o_trunc) plan.capability (emptied_so plan j.seat kill flags file was)

      none_new : objects_at w' ≡ objects_at w → next_object (filled after w') ≡ next_object (filled state w)
      none_new same =
          ap (length {A = Object}) (objects_of w' after g.ends ∙ same ∙ sym (objects_of w state g.shows))

      fills : (told : Answer) → last ≡ told → Serves plan asked state told after →
          CreatesSo j plan w.tables.negotiated ext.secctx parent name mode kill flags w last w' →
          Fills plan j.seat who asked (filled state w) told (filled after w')
      fills (answer.Refused errno) e v (inl r) = inl (inl (stayed_filled w w' state after g r.keeps))
      fills (answer.Refused errno) e v (inr (inl (by_whom, asks, inl t))) =
          inl (inr (inr (t.brings, bares by_whom asks t.made)))
      fills (answer.Refused errno) e v (inr (inl (by_whom, asks, inr m))) =
          inl (inr (inl (news by_whom asks m.0, names_new w w' state after parent name g m.0.named)))
      fills (answer.Refused errno) e v (inr (inr (dir, object, f, q, is, live, leads, inl z, end, lent))) =
          let k = olds dir object (emptied_so plan j.seat kill flags) f q is live leads z.1 in
          inr ((k.0, k.1, inl k.2), none_new z.1.objects)
      fills (answer.Refused errno) e v (inr (inr (dir, object, f, q, is, live, leads, inr z, end, lent))) =
          let k = olds dir object whole f q is live leads z in inr ((k.0, k.1, inr k.2), none_new z.objects)
      fills (answer.Created entry handle options) e v (inl r) =
          absurd (not_created r.errno entry handle options (sym e ∙ r.is))
      fills (answer.Created entry handle options) e v (inr (inl (by_whom, asks, inl t))) =
          absurd (not_created t.errno entry handle options (sym e ∙ t.is_refused))
      fills (answer.Created entry handle options) e v (inr (inl (by_whom, asks, inr m))) =
          inl (news by_whom asks m.0, told_new m.1, m.2 entry handle options e)
        where
          agreed_there : after.agreed ≡ w.tables.negotiated
          agreed_there = created_agreed ∙ g.shows.agreed
            where
              created_agreed : after.agreed ≡ state.agreed
              created_agreed = ap (λ (s : PlainTree). s.agreed) v.3.2.1 ∙ elim v.1 [
                | inl k ↦ entry_agreed state parent name entry.inode v.0 k
                | inr k ↦ gives_agreed state k.1.2.0 entry.inode v.0 k.1.2.2
              ]

          told_new : EndsSo (λ entry. IsToldSo plan w w.tables.negotiated parent name entry w') last →
              NamesEntry plan (filled state w) parent name entry (filled after w')
          told_new (inl r) = absurd (not_created r.0 entry handle options (sym e ∙ r.1))
          told_new (inr t) = subst (λ (z : Entry). NamesEntry plan (filled state w) parent name z (filled after w'))
              (sym (same_created entry t.0 handle t.1 options t.2 (sym e ∙ t.3)))
              (told_entry plan w w' state after w.tables.negotiated parent name t.0 g.shows g.ends agreed_there t.4)
      fills (answer.Created entry handle options) e v (inr (inr (dir, object, f, q, is, live, leads, inl z, end, lent))) =
          absurd (not_created z.0.0 entry handle options (sym e ∙ z.0.1))
      fills (answer.Created entry handle options) e v (inr (inr (dir, object, f, q, is, live, leads, inr z, end, lent))) =
          inr (
            olds dir object whole f q is live leads z,
            told_old f q end,
            lent entry handle options e ∙ ap (λ (x : Negotiated). opened_for x flags) (sym g.shows.agreed),
          )
        where
          told_old : (f : Full) → Calm w f →
              EndsSo (λ entry. (g : Full) × IsLooked plan w.tables.negotiated f g parent name entry) last →
              NamesEntry plan (filled state w) parent name entry (filled state w)
          told_old f q (inl r) = absurd (not_created r.0 entry handle options (sym e ∙ r.1))
          told_old f q (inr t) =
              let l = t.4.1 in
              subst (λ (z : Entry). NamesEntry plan (filled state w) parent name z (filled state w))
              (sym (same_created entry t.0 handle t.1 options t.2 (sym e ∙ t.3))) (
                l.dir,
                stands_from w f state parent l.dir g.shows q.quiet l.is_dir l.live,
                (
                  l.object,
                  ap (λ (z : Tree). z.names l.dir name) (g.shows.tree ∙ sym q.quiet.still.tree) ∙ l.leads,
                  (
                    l.told,
                    stat_of w l.at state l.fd l.object l.told g.shows (keeps_on w f l.at q.keeps l.before)
                        (l.tree_at ∙ q.quiet.still.tree) l.seen,
                    l.parent_is,
                    ap (λ (o : List Object). slice_get o l.dir) (objects_of w state g.shows ∙ sym q.keeps.objects)
                        ∙ l.is_parent,
                    l.is_entry ∙ ap (λ (x : Negotiated). entry_of plan x l.parent_is.ids l.told t.0.inode)
                        (sym g.shows.agreed),
                  ),
                ),
              )
      fills told e v o = absurd v
