-- The request `setattr` is fit.
use Rattle.std.proofs.Common.{◌≡◌, ◌⊎◌, ◌∷◌, [], inl, inr, ℕ, Bool, true, false, List, Option, None, Some, refl}
use Rattle.std.proofs.Common.{if◌then◌else◌, subst, sym}
use Rattle.std.specs.Prelude.{◌||◌}
use Rattle.pt_host.specs.Call.{Call}
use Rattle.pt_host.specs.Words.{Takes.{here, there}}
use Rattle.pt_host.specs.declared.ids.Fd.{Fd}
use Rattle.pt_host.specs.declared.op.KeptHostOp.TheVariants as call
use Rattle.pt_host.specs.declared.seat.HostSeat.{HostSeat}
use Rattle.pt_maps.specs.Translated.{to_host}
use Rattle.pt_iface.specs.declared.answer.Answer.TheVariants as answer
use Rattle.pt_iface.specs.declared.flags.SetattrValid.{SetattrValid}
use Rattle.pt_iface.specs.declared.request.Context.{Context}
use Rattle.pt_iface.specs.declared.request.Request.{Request}
use Rattle.pt_iface.specs.declared.request.Request.TheVariants as request
use Rattle.pt_iface.specs.declared.request.SetattrIn.{SetattrIn}
use Rattle.pt_frame.specs.Deed.{Calls}
use Rattle.pt_frame.specs.Held.{row_fd}
use Rattle.pt_frame.specs.Tree.{RequestTree}
use Rattle.pt_frame.specs.declared.hold.Hold.{Hold}
use Rattle.pt_frame.specs.declared.hold.Hold.TheVariants as hold
use Rattle.pt_req.specs.Capability.{drops_fsetid}
use Rattle.pt_req.specs.Entries.{attr_of}
use Rattle.pt_req.specs.Parts.{file_of, open_row}
use Rattle.pt_req.specs.Steps.{begin}
use Rattle.pt_tables.specs.declared.reply.Resolved.{Resolved}
use Rattle.pt_req.specs.declared.plan.Plan.{Plan}
use Rattle.pt_attr.specs.Setting.{atime_set, do_if, file_set, id_set, is_missized, mtime_set, opens_anew, own_as}
use Rattle.pt_attr.specs.Setting.{set_mode, set_owner, set_size, set_times, setattr, setting_flags, sets_atime}
use Rattle.pt_attr.specs.Setting.{kills_suidgid, sets_gid, sets_mode, sets_mtime, sets_size, sets_uid, target_of}
use Rattle.pt_attr.specs.Setting.{cut_if, own_if, sized, target_as}
use Rattle.pt_attr.specs.Parts.{tell_attr}
use Rattle.pt_attr.specs.declared.parts.setting.Target.{Target}
use Rattle.pt_law.specs.Discipline.{Knows, Notes, blank}
use Rattle.pt_law.specs.Keeps.{MayMake, unscoped}
use Rattle.pt_fit.specs.Cause.{Asking, IsForbiddenOwner, asking}
use Rattle.pt_fit.proofs.Calling.{IsStillCall, fit_do_call, fit_look_at}
use Rattle.pt_fit.proofs.Holds.{IsBare, nothing_bare, over, unscoped_over}
use Rattle.pt_fit.proofs.Joined.{after_any_step, fit_file_by, fit_gives, fit_open_row}
use Rattle.pt_fit.proofs.Parts.{FitOn, GoesAfter, Seen, fit_begin, fit_checked, fit_file_of, fit_pin_handle}
use Rattle.pt_fit.proofs.Parts.{fit_resolve, noting, resolution}
use Rattle.pt_fit.proofs.Scopes.{fit_bares, fit_cleared, fit_without_fsetid}
use Rattle.pt_fit.proofs.Refused.{IsHeeded}

fit_do_if : {asked : Asking} {seen : List Seen} {holds : List Hold} {marks : List ℕ} {notes : Notes} (is : Bool)
    (did : Call) (next : RequestTree) → IsStillCall did → MayMake (Calls did) holds notes →
    IsHeeded asked (Calls did) holds → FitOn asked seen next holds marks notes →
    FitOn asked seen (do_if is did next) holds marks notes
fit_do_if true did next same may heeds f = fit_do_call did next same may heeds f
fit_do_if false did next same may heeds f = f

module _ (plan : Plan) (seat : HostSeat) (who : Context) (inode : ℕ) (handle : Option ℕ) (valid : SetattrValid)
    (attr : SetattrIn) where
  abbrev what : Request
  what = request.SetAttr inode handle valid attr

  abbrev asks : Asking
  asks = asking plan who what

  -- what is held lets calls be made on the file and on what they go to
  record Sets (holds : List Hold) (file target : Fd) : Type 0 where
    bare : IsBare holds
    files : Knows (unscoped holds) file
    targets : Knows (unscoped holds) target

  -- the attributes are told, whatever is held
  fit_tell : {seen : List Seen} {holds : List Hold} {marks : List ℕ} {notes : Notes} → IsBare holds →
      FitOn asks seen (tell_attr plan inode) holds marks notes
  fit_tell b =
      fit_file_by inode _ b (λ row fd.
      fit_look_at fd _ (((hold.Pin row (Some fd), _, here, refl), tt), tt) (λ told.
      after_any_step (
      fit_gives (answer.Attr (attr_of plan told 0) plan.config.attr_timeout) (λ path. (tt, tt, tt)))))

  fit_owns : {seen : List Seen} {holds : List Hold} {marks : List ℕ} {notes : Notes} (file target : Fd)
      (next : RequestTree) → Sets holds file target → (uid gid : Option ℕ) →
      ((uid ≡ None) ⊎ (gid ≡ None) → IsForbiddenOwner plan valid attr) →
      FitOn asks seen next holds marks notes →
      FitOn asks seen (own_as plan.capability file uid gid next) holds marks notes
  fit_owns file target next s (Some uid) (Some gid) bars f =
      fit_cleared plan.capability file true _ s.files (
      fit_do_call (call.ChOwn file uid gid) next (record { holds = λ told these. refl; notes = λ told these. refl })
      ((s.files, tt), tt) (λ errno. refl) f)
  fit_owns file target next s (Some uid) None bars f =
      record { on = λ path told. (tt, inl (inr (bars (inr refl), refl)), tt) }
  fit_owns file target next s None gid bars f =
      record { on = λ path told. (tt, inl (inr (bars (inl refl), refl)), tt) }

  none_set : (is : Bool) (mapped : Option ℕ) → id_set is mapped ≡ None → (is ≡ true) × (mapped ≡ None)
  none_set true mapped e = (refl, e)
  none_set false mapped e = absurd (cc)

  forbidden : (id_set (sets_uid valid) (to_host plan.uid_map attr.uid) ≡ None)
      ⊎ (id_set (sets_gid valid) (to_host plan.gid_map attr.gid) ≡ None) → IsForbiddenOwner plan valid attr
  forbidden (inl e) = inl (none_set (sets_uid valid) (to_host plan.uid_map attr.uid) e)
  forbidden (inr e) = inr (none_set (sets_gid valid) (to_host plan.gid_map attr.gid) e)

  fit_owner : {seen : List Seen} {holds : List Hold} {marks : List ℕ} {notes : Notes} (file target : Fd)
      (next : RequestTree) → Sets holds file target → FitOn asks seen next holds marks notes →
      FitOn asks seen (set_owner plan valid attr file next) holds marks notes
  fit_owner {seen = seen} {holds = holds} {marks = marks} {notes = notes} file target next s f =
      at (sets_uid valid || sets_gid valid)
    where
      at : (is : Bool) → FitOn asks seen
          (own_if is plan.capability file (id_set (sets_uid valid) (to_host plan.uid_map attr.uid))
          (id_set (sets_gid valid) (to_host plan.gid_map attr.gid)) next) holds marks notes
      at true = fit_owns file target next s _ _ forbidden f
      at false = f

  -- from the mode on
  abbrev sets_all : Fd → Target → RequestTree
  sets_all file target =
      set_mode valid attr target (
      set_owner plan valid attr file (
      set_size plan seat valid attr target (
      set_times valid attr target (
      tell_attr plan inode))))

  -- a size is set in a scope, or in none
  fit_size : {seen : List Seen} {holds : List Hold} {marks : List ℕ} {notes : Notes} (file : Fd)
      (target : Target) (next : RequestTree) → Sets holds file target.fd → FitOn asks seen next holds marks notes →
      FitOn asks seen (set_size plan seat valid attr target next) holds marks notes
  fit_size {seen = seen} {holds = holds} {marks = marks} {notes = notes} file target next s f = at (sets_size valid)
    where
      dropped : Bool
      dropped = drops_fsetid plan seat (kills_suidgid valid)

      knows : Knows (unscoped (over dropped holds)) target.fd
      knows = subst (λ (all : List Hold). Knows all target.fd) (sym (unscoped_over dropped holds)) s.targets

      at : (is : Bool) → FitOn asks seen
          (cut_if is dropped plan.capability target.fd attr.size next)
          holds marks notes
      at true =
          fit_without_fsetid dropped _ (
          fit_cleared plan.capability target.fd false _ knows (
          fit_do_call (call.Truncate target.fd attr.size) _
          (record { holds = λ told these. refl; notes = λ told these. refl }) ((knows, tt), tt) (λ errno. refl)
          (fit_bares dropped next s.bare f)))
      at false = f

  fit_sets : {seen : List Seen} {holds : List Hold} {marks : List ℕ} {notes : Notes} (file : Fd)
      (target : Target) → Sets holds file target.fd →
      FitOn asks seen (sets_all file target) holds marks notes
  fit_sets file target s =
      fit_do_if (sets_mode valid) (call.ChMod target.fd target.through attr.mode) _
      (record { holds = λ told these. refl; notes = λ told these. refl }) ((s.targets, tt), tt) (λ errno. refl)
      (fit_owner file target.fd _ s
      (fit_size file target _ s
      (fit_do_if (sets_atime valid || sets_mtime valid)
      (call.SetTimes target.fd target.through (atime_set valid attr) (mtime_set valid attr)) _
      (record { holds = λ told these. refl; notes = λ told these. refl }) ((s.targets, tt), tt) (λ errno. refl)
      (fit_tell s.bare))))

  -- by the file, which is held itself or by its row
  fit_opened : {seen : List Seen} {marks : List ℕ} {notes : Notes} (row : ℕ) (dir new : Fd) →
      (given : Option ℕ) → opens_anew given valid ≡ true →
      FitOn asks seen (target_of inode given new (sets_all new)) (hold.Fd new ∷ hold.Pin row (Some dir) ∷ [])
      marks notes
  unfolding target_of
  fit_opened row dir new (Some number) e = absurd (cc)
  fit_opened row dir new None e =
      fit_sets new (target_as new true) (record {
        bare = λ one. refl;
        files = (hold.Fd new, _, here, refl);
        targets = (hold.Fd new, _, here, refl);
      })

  fit_filed : {seen : List Seen} {marks : List ℕ} {notes : Notes} (row : ℕ) (file : Fd) (given : Option ℕ) →
      FitOn asks seen (target_of inode given file (sets_all file)) (hold.Pin row (Some file) ∷ []) marks notes
  unfolding target_of
  fit_filed row file (Some number) =
      fit_pin_handle number inode _ (λ one. refl) (λ other fd.
      fit_sets file (target_as fd false) (record {
        bare = λ one. refl;
        files = (hold.Pin row (Some file), _, there here, refl);
        targets = (hold.HandlePin other fd, _, here, refl);
      }))
  fit_filed row file None =
      fit_sets file (target_as file true) (record {
        bare = λ one. refl;
        files = (hold.Pin row (Some file), _, here, refl);
        targets = (hold.Pin row (Some file), _, here, refl);
      })

  -- from the file on
  abbrev sets_file : Fd → RequestTree
  sets_file file = target_of inode handle file (sets_all file)

  fit_row : {seen : List Seen} {marks : List ℕ} (notes : Notes) (row : Resolved) →
      GoesAfter (resolution inode row) asks seen (file_set handle valid row sets_file)
      (hold.Pin row.row (row_fd row.form) ∷ []) marks (noting inode row.row notes)
  unfolding file_set
  fit_row {seen = seen} {marks = marks} notes row = at (opens_anew handle valid) refl
    where
      at : (anew : Bool) → opens_anew handle valid ≡ anew →
          GoesAfter (resolution inode row) asks seen
          (if anew then open_row row setting_flags sets_file else file_of row.form sets_file)
          (hold.Pin row.row (row_fd row.form) ∷ []) marks (noting inode row.row notes)
      at true e =
          fit_open_row [] false notes inode setting_flags row sets_file e
          (λ dir new. fit_opened row.row dir new handle e)
      at false e =
          after_any_step (fit_file_of row.row row.form sets_file (λ file. fit_filed row.row file handle))

  fit_sized : {seen : List Seen} {holds : List Hold} {marks : List ℕ} {notes : Notes} (next : RequestTree) →
      FitOn asks seen next holds marks notes → FitOn asks seen (sized valid attr next) holds marks notes
  unfolding sized
  fit_sized next f = fit_checked (is_missized valid attr) next (λ bad. inl (bad, refl)) f

  pub fit_setattr : FitOn asks [] (begin (setattr plan seat inode handle valid attr)) [] [] blank
  fit_setattr = fit_begin _ refl (λ session.
      fit_sized _
      (fit_resolve inode _ nothing_bare (λ row. fit_row (record blank { era = Some session.era }) row)))
