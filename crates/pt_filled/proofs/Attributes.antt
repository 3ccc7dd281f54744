-- Proof. `setattr`.
use Rattle.std.specs.Prelude.{◌||◌}
use Rattle.std.proofs.Common.{inl, inr, ◌≡◌, ◌≢◌, ℕ, Bool, true, false, Option, Some, None, refl, sym, ap, subst}
use Rattle.std.proofs.Common.{◌∙◌}
use Rattle.pt_host.specs.Contents.{ObjectContents}
use Rattle.pt_host.specs.Tree.{Tree, IsOpenOn}
use Rattle.pt_host.specs.Errno.{einval}
use Rattle.pt_host.specs.declared.ids.Fd.{Fd}
use Rattle.pt_host.specs.declared.stat.Stat.{Stat}
use Rattle.pt_host.specs.declared.op.KeptHostOp.TheVariants as call
use Rattle.pt_host.specs.declared.reply.HostReply.TheVariants as host
use Rattle.pt_host.specs.declared.reply.HostValue.TheVariants as value
use Rattle.pt_maps.specs.Translated.{to_host}
use Rattle.pt_tables.specs.declared.form.Negotiated.{Negotiated}
use Rattle.pt_tables.specs.declared.reply.Resolved.{Resolved}
use Rattle.pt_iface.specs.declared.answer.Answer.{Answer}
use Rattle.pt_iface.specs.declared.request.Context.{Context}
use Rattle.pt_iface.specs.declared.flags.SetattrValid.{SetattrValid}
use Rattle.pt_iface.specs.declared.request.SetattrIn.{SetattrIn}
use Rattle.pt_iface.specs.declared.answer.Answer.TheVariants as answer
use Rattle.pt_iface.specs.declared.request.Request.TheVariants as request
use Rattle.pt_frame.specs.Deed.{Calls}
use Rattle.pt_frame.specs.Tree.{Gives, RequestTree}
use Rattle.pt_frame.specs.declared.act.ActReply.TheVariants.{Host}
use Rattle.pt_req.specs.Entries.{attr_of}
use Rattle.pt_req.specs.Steps.{begin}
use Rattle.pt_req.specs.declared.plan.Plan.{Plan}
use Rattle.pt_attr.specs.Parts.{tell_attr}
use Rattle.pt_attr.specs.Setting.{atime_set, id_set, kills_suidgid, mtime_set, set_mode, set_owner, set_size}
use Rattle.pt_attr.specs.Setting.{set_times, setattr, sets_atime, sets_gid, sets_mode, sets_mtime, sets_size}
use Rattle.pt_attr.specs.Setting.{sets_uid, sized as size_checked, is_missized, target_as, target_of}
use Rattle.pt_law.specs.World.{fd_of}
use Rattle.pt_law.specs.Under.{Role}
use Rattle.pt_fit.specs.Asker.{role_in}
use Rattle.pt_plain.specs.Plain.{PlainTree, Stands}
use Rattle.pt_plain.proofs.Showing.{bare_tree}
use Rattle.pt_plain.proofs.Walking.{Quiet, quiet_on}
use Rattle.pt_filled.specs.Accesses.{MayWriteBy, writes}
use Rattle.pt_filled.specs.Fills.{Fills, MaySize, OfTarget, set_to, Sets, sized, Stage}
use Rattle.pt_filled.specs.Fills.{Stage.{Bared as BaredStage}}
use Rattle.pt_filled.specs.Fills.{Stage.{Disowned, Moded, Owned, Sized, Untouched}}
use Rattle.pt_filled.specs.Contents.{keeps_set_id, AllBecome}
use Rattle.pt_filled.proofs.Descriptors.{access_in, fds_on}
use Rattle.pt_filled.proofs.Effects.{was_seen}
use Rattle.pt_filled.proofs.Filling.{Between, filled, IsFilledBy, refused_fills, become, file_there, stands_from}
use Rattle.pt_filled.proofs.Filling.{handle_from, stat_then}
use Rattle.pt_filled.proofs.Hosting.{Full, Thread, contents_at, world_of, Alters, alters_then}
use Rattle.pt_filled.proofs.Parts.{At, Calm, IsRefused, comes_at, idles_calm, keeps_on, leaves_keeps, refused_from}
use Rattle.pt_filled.proofs.Parts.{walk_begin, walk_stat, calm_on, IsResolved, walk_resolve, walk_file, walk_pin}
use Rattle.pt_filled.proofs.Parts.{walk_if}
use Rattle.pt_filled.proofs.Threading.{Comes, Makes}
use Rattle.pt_filled.proofs.Finding.{walk_found}
use Rattle.pt_filled.proofs.Tails.{stat_leaves}
use Rattle.pt_filled.proofs.Setting.{walk_file_set, walk_mode, walk_owner, walk_size, walk_times}

module _ (plan : Plan) (who : Context) (agreed : Negotiated) (inode : ℕ) (handle : Option ℕ) (valid : SetattrValid)
    (attr : SetattrIn) (j : Thread) (w : Full) (last : Answer) (w' : Full) (state after : PlainTree)
    (g : Between w w' state after) (n : last ≢ answer.NoMemory)
    (role : j.role ≡ role_in plan j.seat who agreed (request.SetAttr inode handle valid attr)) where
  abbrev Whole : Type 0
  Whole = IsFilledBy plan j.seat who (request.SetAttr inode handle valid attr) state w last after w'

  -- what each object has become, at this stage
  abbrev set_at : ℕ → ℕ → Stage → ℕ → ObjectContents
  set_at object target stage = set_to plan j.seat valid attr (filled state w) object target stage

  -- the target, by the number's object
  abbrev Aims : ℕ → ℕ → Type 1
  Aims object target = (P : ℕ → Type 0) → P target → OfTarget state inode object handle P

  out : IsRefused w last w' → Whole
  out r = refused_fills plan j.seat who (request.SetAttr inode handle valid attr) w w' state after last g.shows
      (λ k. inl k) r

  -- the size is set by a handle that may be used to write
  abbrev MayBe : Stage → Type 0
  MayBe stage = MaySize (filled state w) handle valid stage

  sets_so : (object target : ℕ) → Stands state inode object → Aims object target → (stage : Stage) →
      Alters w w' (set_at object target stage) →
      Sets plan j.seat inode handle valid attr (filled state w) stage (filled after w')
  sets_so object target st of stage al = (
    object,
    st,
    of (λ t. AllBecome (filled state w) (set_at object t stage) (filled after w'))
        (become w w' state after (set_at object target stage) g.shows al),
  )

  front : (object target : ℕ) → Stands state inode object → Aims object target → (stage : Stage) → MayBe stage →
      (x : Full) → Alters w x (set_at object target stage) → IsRefused x last w' → Whole
  front object target st of stage may x al r =
      subst (λ (x : Answer). Fills plan j.seat who (request.SetAttr inode handle valid attr) (filled state w) x
      (filled after w')) (sym r.is) (inr (
        stage,
        sets_so object target st of stage (alters_then w x w' (set_at object target stage) al r.keeps),
        may,
      ))

  -- at last the attributes are told
  told_at : (object target : ℕ) → Stands state inode object → Aims object target → MayBe Sized → (v : Full) →
      Quiet (world_of w) (world_of v) → Alters w v (set_at object target Sized) →
      At j (tell_attr plan inode) v last w' → Whole
  told_at object target st of may v qv al c =
      walk_resolve j inode _ v last w' n c (λ r. front object target st of Sized may v al r) (λ row u ru cu.
      walk_file j row.form _ u last w' cu (λ cf.
      walk_stat j (fd_of row.form) _ u last w' n cf
      (λ r. front object target st of Sized may v al (refused_from v u last w' ru.calm.keeps r)) (λ told t m ct.
      answered row u t told ru m (comes_at ct))))
    where
      answered : (row : Resolved) (u t : Full) (told : Stat) → IsResolved j v u inode row →
          Makes j u (Calls (call.Stat (fd_of row.form))) (Host (host.Ok (value.Stat told))) t →
          Comes j (Gives (answer.Attr (attr_of plan told 0) plan.config.attr_timeout)) t last w' → Whole
      answered row u t told ru m k =
          let o = subst (λ (z : Tree). IsOpenOn z (fd_of row.form) ru.there.object) (sym ru.there.tree)
          ru.there.open_on in
          let seen = was_seen j u t (fd_of row.form) told ru.there.object m.2 o in
          let behind = keeps_on u t w' (leaves_keeps j u t (Calls (call.Stat (fd_of row.form)))
          (Host (host.Ok (value.Stat told))) m (stat_leaves (fd_of row.form) (Host (host.Ok (value.Stat told)))))
          (idles_calm j t w' k.1).keeps in
          let final = alters_then w u w' (set_at object target Sized)
          (alters_then w v u (set_at object target Sized) al ru.calm.keeps) behind in
          subst (λ (x : Answer). Fills plan j.seat who (request.SetAttr inode handle valid attr) (filled state w) x
          (filled after w')) (sym k.0) (
            sets_so object target st of Sized final,
            may,
            (
              ru.there.object,
              stands_from w v state inode ru.there.object g.shows qv ru.there.is_object ru.there.live,
              (
                told,
                stat_then u w' after (fd_of row.form) ru.there.object told g.ends behind
                    ((idles_calm j t w' k.1).quiet.still.tree ∙ ap bare_tree m.2.goes.made.0.0.trees.changes.5) seen,
                refl,
              ),
            ),
            refl,
          )

  open_later : (x y : Full) (fd : Fd) (object : ℕ) → (world_of y).tree ≡ (world_of x).tree →
      IsOpenOn (world_of x).tree fd object → IsOpenOn (world_of y).tree fd object
  open_later x y fd object e o = subst (λ (t : Tree). IsOpenOn t fd object) (sym e) o

  sized_to : (object target : ℕ) → Stands state inode object → Aims object target → MayBe Sized → (v : Full) →
      Quiet (world_of w) (world_of v) → (tfd : Fd) (through : Bool) → IsOpenOn (world_of v).tree tfd target →
      Alters w v (set_at object target Sized) →
      At j (set_times valid attr (target_as tfd through) (tell_attr plan inode)) v last w' → Whole
  sized_to object target st of may v qv tfd through ot al c =
      walk_times (sets_atime valid || sets_mtime valid) j tfd through (atime_set valid attr) (mtime_set valid attr)
      (tell_attr plan inode) w v (set_at object target Sized) target last w' n ot al c
      (λ r. front object target st of Sized may v al r) (λ u ru cu.
      told_at object target st of may u (quiet_on (world_of w) (world_of v) (world_of u) qv ru.quiet) ru.alters cu)

  abbrev timed : Fd → Bool → RequestTree
  timed tfd through = set_times valid attr (target_as tfd through) (tell_attr plan inode)

  abbrev sizing : Fd → Bool → RequestTree
  sizing tfd through = set_size plan j.seat valid attr (target_as tfd through) (timed tfd through)

  abbrev owning : Fd → Fd → Bool → RequestTree
  owning file tfd through = set_owner plan valid attr file (sizing tfd through)

  set_from : (object target : ℕ) → Stands state inode object → Aims object target → (file tfd : Fd) (through : Bool)
      (x : Full) → Calm w x → IsOpenOn (world_of x).tree file object → IsOpenOn (world_of x).tree tfd target →
      (writes (access_in x.state tfd) ≡ true → MayWriteBy (filled state w) handle) →
      At j (set_mode valid attr (target_as tfd through) (owning file tfd through)) x last w' → Whole
  set_from object target st of file tfd through x qx o ot may c =
      walk_mode (sets_mode valid) j tfd through attr.mode (owning file tfd through) w x (contents_at w) target last w'
      n ot
      qx.keeps c (λ r. front object target st of Untouched tt x qx.keeps r) (λ y ry cy.
      walk_owner (sets_uid valid || sets_gid valid) j plan.capability file
      (id_set (sets_uid valid) (to_host plan.uid_map attr.uid)) (id_set (sets_gid valid) (to_host plan.gid_map
      attr.gid))
      (sizing tfd through) w y (set_at object target Moded) object last w' n
      (open_later x y file object ry.tree o) ry.alters cy (λ r. front object target st of Moded tt y ry.alters r)
      (λ v av r. front object target st of Disowned tt v av r) (λ z rz cz.
      walk_size (sets_size valid) plan (kills_suidgid valid) j plan.capability tfd attr.size (timed tfd through) w z
      (set_at object target Owned) target last w' n
      (ap (λ (r : Role). r.lacks (call.Truncate tfd attr.size)) role)
      (open_later y z tfd target rz.tree (open_later x y tfd target ry.tree ot)) rz.alters cz
      (λ r. front object target st of Owned tt z rz.alters r)
      (λ v av r. front object target st of BaredStage tt v av r) (λ v rv sizes cv.
      sized_to object target st of (λ e. may (ap writes (sym
      (fds_on x.state y.state z.state ry.fds rz.fds tfd ot.0 ot.1).1) ∙ sizes e)) v (quiet_on (world_of w) (world_of x) (world_of v) qx.quiet
      (quiet_on (world_of x) (world_of y) (world_of v) ry.quiet (quiet_on (world_of y) (world_of z) (world_of v)
      rz.quiet
      rv.quiet))) tfd through
      (open_later z v tfd target rv.tree (open_later y z tfd target rz.tree (open_later x y tfd target ry.tree ot)))
      (subst (λ (f : Bool). Alters w v (sized (keeps_set_id plan j.seat (kills_suidgid valid)) f valid attr target
      (set_at object target BaredStage))) (file_there w state target g.shows) rv.alters) cv)))

  -- the target is the handle's, or the file
  at_target : (given : Option ℕ) → handle ≡ given → (object : ℕ) → Stands state inode object → (file : Fd) (x : Full) →
      Calm w x → IsOpenOn (world_of x).tree file object →
      At j (target_of inode given file (λ target. set_mode valid attr target
      (set_owner plan valid attr file (set_size plan j.seat valid attr target
      (set_times valid attr target (tell_attr plan inode)))))) x last w' → Whole
  unfolding target_of
  at_target None e object st file x qx o c =
      set_from object object st (λ P p. subst (λ (h : Option ℕ). OfTarget state inode object h P) (sym e) p) file file
      true x qx o o (λ u. subst (λ (h : Option ℕ). MayWriteBy (filled state w) h) (sym e) tt) c
  at_target (Some given) e object st file x qx o c =
      walk_pin j given inode _ x last w' n c (λ r. out (refused_from w x last w' qx.keeps r)) (λ fd y py cy.
      set_from object py.object st (λ P p. subst (λ (h : Option ℕ). OfTarget state inode object h P) (sym e)
      (py.object, handle_from w x state given inode py.object g.shows qx.quiet py.was, p)) file fd false y
      (calm_on w x y qx py.calm) (open_later x y file object py.tree o) (open_later x y fd py.object py.tree py.open_on)
      (λ u. subst (λ (h : Option ℕ). MayWriteBy (filled state w) h) (sym e)
      (ap writes (sym (qx.lent given).1 ∙ py.lends) ∙ u)) cy)

  pub fills_setattr : At j (begin (setattr plan j.seat inode handle valid attr)) w last w' → Whole
  unfolding size_checked
  fills_setattr c =
      walk_begin j _ w last w' n c out (λ session b q z k.
      walk_if j (is_missized valid attr) einval _ b last w' k (λ r. out (refused_from w b last w' q.keeps r)) (λ k.
      walk_found j w last w' state g.shows n out inode _ b q k (λ row d f k.
      walk_file_set handle valid j row _ w d f.object last w' n f.open_on f.calm k out (λ file x qx ox cx.
      at_target handle refl f.object f.stands file x qx ox cx))))
