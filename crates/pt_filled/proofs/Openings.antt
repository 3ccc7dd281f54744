-- Proof. `open` and `opendir`.
use Rattle.std.specs.Prelude.{◌&&◌}
use Rattle.std.proofs.Common.{inl, inr, ◌≡◌, ◌≢◌, ◌<◌, ℕ, Bool, true, false, Some, None, refl, sym, ap, subst, ◌∙◌}
use Rattle.std.proofs.Common.{slice_get, ◌==◌}
use Rattle.std.proofs.lemmas.Nat.{and_or_self}
use Rattle.pt_host.specs.Contents.{ObjectContents}
use Rattle.pt_host.specs.Flags.{includes, o_directory, o_trunc}
use Rattle.pt_host.specs.declared.ids.Errno.{Errno}
use Rattle.pt_host.specs.declared.ids.Fd.{Fd}
use Rattle.pt_host.specs.declared.flags.OpenFlags.{OpenFlags}
use Rattle.pt_host.specs.declared.op.KeptHostOp.TheVariants as call
use Rattle.pt_tables.specs.declared.form.Negotiated.{Negotiated}
use Rattle.pt_iface.specs.declared.answer.Answer.{Answer}
use Rattle.pt_iface.specs.declared.request.Context.{Context}
use Rattle.pt_iface.specs.declared.request.Request.{Request}
use Rattle.pt_iface.specs.declared.flags.OpenOptions.{OpenOptions}
use Rattle.pt_iface.specs.declared.answer.Answer.TheVariants as answer
use Rattle.pt_iface.specs.declared.request.Request.TheVariants as request
use Rattle.pt_frame.specs.Tree.{Gives, RequestTree}
use Rattle.pt_req.specs.Steps.{begin}
use Rattle.pt_req.specs.Capability.{drops_fsetid}
use Rattle.pt_req.specs.Options.{open_options, with_bits}
use Rattle.pt_req.specs.Requests.{open_file, open_dir}
use Rattle.pt_req.specs.Parts.{open_num}
use Rattle.pt_req.specs.declared.begun.BegunSession.{BegunSession}
use Rattle.pt_req.specs.declared.plan.Plan.{Plan}
use Rattle.pt_law.specs.Under.{Role}
use Rattle.pt_law.proofs.Givings.{live_count}
use Rattle.pt_fit.specs.Asker.{fsetid_if, role_in}
use Rattle.pt_plain.specs.Plain.{PlainTree, OfNumber}
use Rattle.pt_plain.specs.Serves.{Serves}
use Rattle.pt_filled.specs.Accesses.{opened_for}
use Rattle.pt_filled.specs.Fills.{Fills, IsOpenedDir}
use Rattle.pt_filled.specs.Contents.{is_file, is_file_kind, with_changed, uncapped_if, Becomes as BecomesThere}
use Rattle.pt_filled.proofs.Filling.{Between, filled, IsFilledBy, stay, become, file_there, stands_from}
use Rattle.pt_filled.proofs.Handling.{accesses_at}
use Rattle.pt_filled.proofs.Hosting.{Full, Thread, contents_at, Alters, objects_at}
use Rattle.pt_filled.proofs.Lending.{Lends}
use Rattle.pt_filled.proofs.Modes.{opened_with}
use Rattle.pt_filled.proofs.Parts.{At, Calm, calm_none, calm_on, comes_at, idles_calm, walk_begin}
use Rattle.pt_filled.proofs.Opened.{emptied_so, OpensSo, opens_so, with_same}
use Rattle.pt_filled.proofs.Setting.{keeps_idle}

same_handle : (one other : ℕ) (options others : OpenOptions) → answer.Opened one options ≡ answer.Opened other others →
    one ≡ other
same_handle one other options others e = cc

not_refused : (last : Answer) (errno : Errno) (handle : ℕ) (options : OpenOptions) → last ≡ answer.Refused errno →
    last ≡ answer.Opened handle options → ⊥
not_refused last errno handle options e f = cc

module _ (plan : Plan) (who : Context) (agreed : Negotiated) (j : Thread) (w : Full) (last : Answer) (w' : Full)
    (state after : PlainTree) (g : Between w w' state after) (n : last ≢ answer.NoMemory) where
  abbrev ends : ℕ → ℕ → RequestTree
  ends flags handle = Gives (answer.Opened handle (open_options plan.config flags))

  -- the handle that was answered may be used so
  lent_to : (access flags handle : ℕ) (options : OpenOptions) → last ≡ answer.Opened handle options →
      Lends j access (ends flags) last w' → accesses_at w' handle ≡ access
  lent_to access flags handle options e (inl r) = absurd (not_refused last r.0 handle options r.1 e)
  lent_to access flags handle options e (inr (given, on, a, c)) =
      let k = comes_at c in
      ap (accesses_at w') (same_handle handle given options (open_options plan.config flags) (sym e ∙ k.0))
      ∙ ((idles_calm j on w' k.1).lent given).1 ∙ a

  -- where it began, and what it left
  abbrev Opening : ℕ → Bool → ℕ → Type 0
  Opening inode kill flags = (b : Full) × Calm w b
      × OpensSo j plan w.tables.negotiated kill flags inode (ends flags) w b last w'

  opening : (inode : ℕ) (kill : Bool) (flags : ℕ) →
      ((fd : Fd) (how : OpenFlags) → j.role.lacks (call.Reopen fd how) ≡ fsetid_if (drops_fsetid plan j.seat kill)) →
      At j (begin (open_file plan j.seat inode kill flags)) w last w' → Opening inode kill flags
  opening inode kill flags lacks c =
      walk_begin j opens w last w' n c (λ r. (w, calm_none w, inl (r.errno, r.is, r.keeps))) (λ session b q z k. (
        b,
        q,
        subst (λ (a : Negotiated). OpensSo j plan a kill flags inode (ends flags) w b last w') z
            (opens_so plan session inode kill flags (ends flags) j w b last w' n lacks
            (λ handle. record { by = tt }) q.keeps k),
      ))
    where
      opens : BegunSession → RequestTree
      opens session = open_num plan j.seat session inode kill flags (ends flags)

  opened_in : (inode object : ℕ) (change : Bool → ObjectContents → ObjectContents) (b d : Full) → Calm w b →
      Calm b d → d.past.numbers inode ≡ Some object → 0 < live_count inode d.tables →
      Alters w w' (with_changed object (change (is_file_kind (slice_get (objects_at w) object))) (contents_at w)) →
      OfNumber state inode (λ object. BecomesThere (filled state w) object (change (is_file (filled state w) object))
      (filled after w'))
  opened_in inode object change b d q h e l a = (
    object,
    stands_from w d state inode object g.shows (calm_on w b d q h).quiet e l,
    become w w' state after _ g.shows (subst (λ (x : Bool). Alters w w' (with_changed object (change x) (contents_at
        w))) (file_there w state object g.shows) a),
  )

  pub fills_open : (inode : ℕ) (kill : Bool) (flags : ℕ) →
      j.role ≡ role_in plan j.seat who agreed (request.Open inode kill flags) →
      Serves plan (request.Open inode kill flags) state last after →
      At j (begin (open_file plan j.seat inode kill flags)) w last w' →
      IsFilledBy plan j.seat who (request.Open inode kill flags) state w last after w'
  fills_open inode kill flags role v c =
      by_opening (opening inode kill flags (λ fd how. ap (λ (r : Role). r.lacks (call.Reopen fd how)) role) c)
    where
      asked : Request
      asked = request.Open inode kill flags

      may : (handle : ℕ) (options : OpenOptions) → last ≡ answer.Opened handle options →
          Lends j (opened_for w.tables.negotiated flags) (ends flags) last w' →
          accesses_at w' handle ≡ opened_for state.agreed flags
      may handle options e lends = lent_to _ flags handle options e lends
          ∙ ap (λ (a : Negotiated). opened_for a flags) (sym g.shows.agreed)

      whole : Bool → ObjectContents → ObjectContents
      whole file was =
          uncapped_if (includes flags o_trunc) plan.capability (emptied_so plan j.seat kill flags file was)

      answered : (told : Answer) → last ≡ told → Serves plan asked state told after → Opening inode kill flags →
          Fills plan j.seat who asked (filled state w) told (filled after w')
      answered (answer.Refused errno) e v (b, q, inl r) = inl (stay w w' state after g.shows r.2)
      answered (answer.Refused errno) e v (b, q, inr (object, d, h, is, live, inl z, dir, lends)) =
          let k = opened_in inode object (emptied_so plan j.seat kill flags) b d q h is live z.1 in
          inr (k.0, k.1, inl k.2)
      answered (answer.Refused errno) e v (b, q, inr (object, d, h, is, live, inr z, dir, lends)) =
          let k = opened_in inode object whole b d q h is live z in inr (k.0, k.1, inr k.2)
      answered (answer.Opened handle options) e v (b, q, inl r) =
          absurd (not_refused last r.0 handle options r.1 e)
      answered (answer.Opened handle options) e v (b, q, inr (object, d, h, is, live, inl z, dir, lends)) =
          absurd (not_refused last z.0.0 handle options z.0.1 e)
      answered (answer.Opened handle options) e v (b, q, inr (object, d, h, is, live, inr z, dir, lends)) =
          (opened_in inode object whole b d q h is live z, may handle options e lends)
      answered told e v o = absurd v

      by_opening : Opening inode kill flags → IsFilledBy plan j.seat who asked state w last after w'
      by_opening o = answered last refl v o

  pub fills_open_dir : (inode flags : ℕ) → j.role ≡ role_in plan j.seat who agreed (request.OpenDir inode flags) →
      Serves plan (request.OpenDir inode flags) state last after →
      At j (begin (open_dir plan j.seat inode flags)) w last w' →
      IsFilledBy plan j.seat who (request.OpenDir inode flags) state w last after w'
  fills_open_dir inode flags role v c =
      answered last refl v (opening inode false how (λ fd given.
      ap (λ (r : Role). r.lacks (call.Reopen fd given)) role
      ∙ no_caps plan.config.killpriv_v2 (includes j.seat.eff_caps.0 16)) c)
    where
      asked : Request
      asked = request.OpenDir inode flags

      how : ℕ
      how = with_bits flags o_directory

      may : (handle : ℕ) (options : OpenOptions) → last ≡ answer.Opened handle options →
          Lends j (opened_for w.tables.negotiated how) (ends how) last w' →
          accesses_at w' handle ≡ opened_for state.agreed how
      may handle options e lends = lent_to _ how handle options e lends
          ∙ ap (λ (a : Negotiated). opened_for a how) (sym g.shows.agreed)

      asks : includes how o_directory ≡ true
      asks = ap (λ (n : ℕ). n == o_directory) (and_or_self o_directory flags)

      no_caps : (b c : Bool) → None ≡ fsetid_if (b && false && c)
      no_caps true c = refl
      no_caps false c = refl

      same_trunc : includes how o_trunc ≡ includes flags o_trunc
      same_trunc = ap (λ (n : ℕ). n == o_trunc) (with_same flags o_directory o_trunc refl)

      -- a directory is no file
      on_dir : (object : ℕ) → is_file_kind (slice_get (objects_at w) object) ≡ false →
          (change : (ObjectContents → ObjectContents) → ObjectContents → ObjectContents) →
          Alters w w' (with_changed object (change (emptied_so plan j.seat false how (is_file_kind (slice_get
          (objects_at w) object)))) (contents_at w)) →
          Alters w w' (with_changed object (change (λ was. was)) (contents_at w))
      on_dir object dir change a =
          subst (λ (x : Bool). Alters w w' (with_changed object (change (emptied_so plan j.seat false how x))
          (contents_at w))) dir a

      opened_there : (b d : Full) (object : ℕ) → Calm w b → Calm b d → d.past.numbers inode ≡ Some object →
          0 < live_count inode d.tables → Alters w w' (with_changed object (λ was. uncapped_if (includes how o_trunc)
          plan.capability (emptied_so plan j.seat false how (is_file_kind (slice_get (objects_at w) object)) was))
          (contents_at w)) →
          is_file_kind (slice_get (objects_at w) object) ≡ false →
          OfNumber state inode (λ object. IsOpenedDir plan flags (filled state w) object (filled after w'))
      opened_there b d object q h e l a dir = (
        object,
        stands_from w d state inode object g.shows (calm_on w b d q h).quiet e l,
        (
          sym (file_there w state object g.shows) ∙ dir,
          become w w' state after _ g.shows (subst (λ (x : Bool). Alters w w' (with_changed object
              (uncapped_if x plan.capability) (contents_at w))) same_trunc
              (on_dir object dir (λ f was. uncapped_if (includes how o_trunc) plan.capability (f was)) a)),
        ),
      )

      answered : (told : Answer) → last ≡ told → Serves plan asked state told after → Opening inode false how →
          Fills plan j.seat who asked (filled state w) told (filled after w')
      answered (answer.Refused errno) e v (b, q, inl r) = inl (stay w w' state after g.shows r.2)
      answered (answer.Refused errno) e v (b, q, inr (object, d, h, is, live, inl z, dir, lends)) =
          inl (stay w w' state after g.shows (keeps_idle w w' object (on_dir object (dir asks) (λ f. f) z.1)))
      answered (answer.Refused errno) e v (b, q, inr (object, d, h, is, live, inr z, dir, lends)) =
          inr (opened_there b d object q h is live z (dir asks))
      answered (answer.Opened handle options) e v (b, q, inl r) =
          absurd (not_refused last r.0 handle options r.1 e)
      answered (answer.Opened handle options) e v (b, q, inr (object, d, h, is, live, inl z, dir, lends)) =
          absurd (not_refused last z.0.0 handle options z.0.1 e)
      answered (answer.Opened handle options) e v (b, q, inr (object, d, h, is, live, inr z, dir, lends)) = (
        opened_there b d object q h is live z (dir asks),
        may handle options e lends ∙ opened_with state.agreed flags o_directory refl,
      )
      answered told e v o = absurd v
