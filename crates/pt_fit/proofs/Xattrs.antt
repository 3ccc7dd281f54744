-- The requests of extended attributes and of listings are fit.
use Rattle.std.proofs.Common.{◌≡◌, ◌≢◌, ◌==◌, ℕ, Bool, true, false, List, [], ◌∷◌, Option, Some, None, Result, Ok, Err}
use Rattle.std.proofs.Common.{ap, inl, inr, refl, sym, subst, if◌then◌else◌}
use Rattle.std.proofs.lemmas.Bool.{eqb-false, eqb-true}
use Rattle.std.specs.List.{list_any}
use Rattle.std.specs.Prelude.{◌^◌, nat_lt}
use Rattle.pt_host.specs.Call.{Call}
use Rattle.pt_host.specs.Errno.{einval, eio, enosys, eoverflow}
use Rattle.pt_host.specs.Promises.{FitsCall}
use Rattle.pt_host.specs.Words.{Takes.{here}}
use Rattle.pt_host.specs.declared.ids.Errno.{Errno}
use Rattle.pt_host.specs.declared.ids.Fd.{Fd}
use Rattle.pt_host.specs.declared.op.KeptHostOp.TheVariants as call
use Rattle.pt_host.specs.declared.reply.HostReply.TheVariants as host
use Rattle.pt_host.specs.declared.reply.HostValue.{HostValue}
use Rattle.pt_host.specs.declared.reply.HostValue.TheVariants as value
use Rattle.pt_tables.specs.declared.form.Negotiated.{Negotiated}
use Rattle.pt_tables.specs.declared.reply.Resolved.{Resolved}
use Rattle.pt_handles.specs.Dirents.{is_listing}
use Rattle.pt_iface.specs.declared.answer.Answer.{Answer}
use Rattle.pt_iface.specs.declared.answer.Answer.TheVariants as answer
use Rattle.pt_iface.specs.declared.answer.GetxattrReply.TheVariants as xattr
use Rattle.pt_iface.specs.declared.answer.ListxattrReply.TheVariants as xattrs
use Rattle.pt_iface.specs.declared.directory.DirEntry.{DirEntry}
use Rattle.pt_iface.specs.declared.flags.SetxattrFlags.{SetxattrFlags}
use Rattle.pt_iface.specs.declared.request.Context.{Context}
use Rattle.pt_iface.specs.declared.request.Request.TheVariants as request
use Rattle.pt_frame.specs.Deed.{Calls, Step}
use Rattle.pt_frame.specs.Held.{held, row_fd}
use Rattle.pt_frame.specs.Replies.{bytes_of}
use Rattle.pt_frame.specs.Tree.{Gives, RequestTree, go_on, make_bytes, make_entries, on}
use Rattle.pt_frame.specs.declared.act.ActReply.{ActReply}
use Rattle.pt_frame.specs.declared.act.ActReply.TheVariants.{Event, Host, NoCopy}
use Rattle.pt_frame.specs.declared.hold.Hold.{Hold}
use Rattle.pt_frame.specs.declared.hold.Hold.TheVariants as hold
use Rattle.pt_req.specs.Attributes.{refused_name}
use Rattle.pt_req.specs.Entries.{can_open}
use Rattle.pt_req.specs.Parts.{file_of, open_inode}
use Rattle.pt_req.specs.Steps.{begin}
use Rattle.pt_req.specs.declared.begun.BegunSession.{BegunSession}
use Rattle.pt_req.specs.declared.plan.Plan.{Plan}
use Rattle.pt_attr.specs.Steps.{count_in, count_of, do_call}
use Rattle.pt_xattr.specs.Listed.{entries_of, names_told}
use Rattle.pt_xattr.specs.Parts.{allowed, allowed_to_read, as_missing, counted, file_by, kills_sgid, list_length}
use Rattle.pt_xattr.specs.Parts.{list_told, list_whole, nul_free, sgid_killed, value_length, value_told, value_whole}
use Rattle.pt_xattr.specs.Parts.{with_xattr, without_sgid, xattr_file}
use Rattle.pt_xattr.specs.Requests.{getxattr, listed_from, listing, listxattr, readdir, removexattr, setxattr}
use Rattle.pt_xattr.specs.Steps.{bytes_told}
use Rattle.pt_xattr.specs.declared.parts.XattrFile.{XattrFile}
use Rattle.pt_law.specs.Discipline.{Knows, Notes, blank, notes_after}
use Rattle.pt_law.specs.Keeps.{MayMake, unscoped}
use Rattle.pt_law.specs.World.{made}
use Rattle.pt_fit.specs.Cause.{Asking, HasCause, OpensFile, OwnCause, asking, refused_to_read}
use Rattle.pt_fit.specs.Fit.{Fit}
use Rattle.pt_fit.proofs.Calling.{IsStillCall, TellsCount, fit_do_call, fit_look_at}
use Rattle.pt_fit.proofs.Holds.{IsBare, nothing_bare}
use Rattle.pt_fit.proofs.Joined.{after_any_step, fit_gives, fit_open_inode}
use Rattle.pt_fit.proofs.Labelling.{fit_host_name}
use Rattle.pt_fit.proofs.Parts.{Agreed, FitOn, GoesAfter, Seen, Told, blocked_by, fit_begin, fit_file_of, fit_pin_handle}
use Rattle.pt_fit.proofs.Parts.{fit_place, fit_resolve, held_as, still}
use Rattle.pt_fit.proofs.Refused.{IsHeeded, refused_by}
use Rattle.pt_fit.proofs.Scopes.{fit_cleared}

-- checks
fit_checks : {asked : Asking} {seen : List Seen} {holds : List Hold} {marks : List ℕ} {notes : Notes} (bad : Bool)
    (errno : Errno) (next : RequestTree) → (bad ≡ true → OwnCause asked.plan asked.who asked.request errno) →
    FitOn asked seen next holds marks notes →
    FitOn asked seen (if bad then Gives (answer.Refused errno) else next) holds marks notes
fit_checks true errno next c f = record { on = λ path s. (tt, inl (c refl), tt) }
fit_checks false errno next c f = f

fit_unless : {asked : Asking} {seen : List Seen} {holds : List Hold} {marks : List ℕ} {notes : Notes} (good : Bool)
    (errno : Errno) (next : RequestTree) → (good ≡ false → OwnCause asked.plan asked.who asked.request errno) →
    FitOn asked seen next holds marks notes →
    FitOn asked seen (if good then next else Gives (answer.Refused errno)) holds marks notes
fit_unless true errno next c f = f
fit_unless false errno next c f = record { on = λ path s. (tt, inl (c refl), tt) }

fit_with_xattr : {asked : Asking} {seen : List Seen} {holds : List Hold} {marks : List ℕ} {notes : Notes} (plan : Plan)
    (next : RequestTree) → (plan.config.xattr ≡ false → OwnCause asked.plan asked.who asked.request enosys) →
    FitOn asked seen next holds marks notes → FitOn asked seen (with_xattr plan next) holds marks notes
unfolding with_xattr
fit_with_xattr plan next c f = fit_unless plan.config.xattr enosys next c f

fit_nul_free : {asked : Asking} {seen : List Seen} {holds : List Hold} {marks : List ℕ} {notes : Notes}
    (name : List ℕ) (next : RequestTree) →
    (list_any (λ byte. byte == 0) name ≡ true → OwnCause asked.plan asked.who asked.request einval) →
    FitOn asked seen next holds marks notes → FitOn asked seen (nul_free name next) holds marks notes
unfolding nul_free
fit_nul_free name next c f = fit_checks (list_any (λ byte. byte == 0) name) einval next c f

-- what is made is gone on with
fit_make_bytes : {asked : Asking} {seen : List Seen} {holds : List Hold} {marks : List ℕ} {notes : Notes}
    (bytes : List ℕ) (next : List ℕ → RequestTree) → FitOn asked seen (next bytes) holds marks notes →
    FitOn asked seen (make_bytes bytes next) holds marks notes
fit_make_bytes bytes next f = record { on = λ path s. f.on path s }

fit_make_entries : {asked : Asking} {seen : List Seen} {holds : List Hold} {marks : List ℕ} {notes : Notes}
    (entries : List DirEntry) (next : List DirEntry → RequestTree) → FitOn asked seen (next entries) holds marks notes →
    FitOn asked seen (make_entries entries next) holds marks notes
fit_make_entries entries next f = record { on = λ path s. f.on path s }

fit_may : {asked : Asking} {seen : List Seen} {holds : List Hold} {marks : List ℕ} {notes : Notes} (name : List ℕ)
    (next : List ℕ → RequestTree) → FitOn asked seen (next name) holds marks notes →
    FitOn asked seen (allowed (Ok name) next) holds marks notes
unfolding allowed
fit_may name next f = f

fit_may_not : {asked : Asking} {seen : List Seen} {holds : List Hold} {marks : List ℕ} {notes : Notes}
    (errno : Errno) (next : List ℕ → RequestTree) → ((path : List Step) → Told seen path → HasCause asked path errno) →
    FitOn asked seen (allowed (Err errno) next) holds marks notes
unfolding allowed
fit_may_not errno next c = record { on = λ path s. (tt, c path s, tt) }

fit_may_read : {asked : Asking} {seen : List Seen} {holds : List Hold} {marks : List ℕ} {notes : Notes}
    (name : List ℕ) (next : List ℕ → RequestTree) → FitOn asked seen (next name) holds marks notes →
    FitOn asked seen (allowed_to_read (Ok name) next) holds marks notes
unfolding allowed_to_read
fit_may_read name next f = f

fit_may_not_read : {asked : Asking} {seen : List Seen} {holds : List Hold} {marks : List ℕ} {notes : Notes}
    (errno : Errno) (next : List ℕ → RequestTree) →
    ((path : List Step) → Told seen path → HasCause asked path (as_missing errno)) →
    FitOn asked seen (allowed_to_read (Err errno) next) holds marks notes
unfolding allowed_to_read
fit_may_not_read errno next c = record { on = λ path s. (tt, c path s, tt) }

-- what attributes are asked by, which is held then
fit_xattr_file : {asked : Asking} {seen : List Seen} {marks : List ℕ} {notes : Notes} (plan : Plan)
    (session : BegunSession) (row : Resolved) (number : ℕ) (next : XattrFile → RequestTree) →
    OpensFile asked.request →
    ((file : XattrFile) (holds : List Hold) (later : Notes) → Knows (unscoped holds) file.fd →
    FitOn asked seen (next file) holds marks later) →
    FitOn asked seen (xattr_file plan session row number next) (hold.Pin row.row (row_fd row.form) ∷ []) marks notes
unfolding xattr_file
fit_xattr_file {asked = asked} {seen = seen} {marks = marks} {notes = notes} plan session row number next o f =
    either (can_open row.mode)
  where
    either : (can : Bool) → FitOn asked seen
        (if can then open_inode plan session number 2048 (λ fd. next (file_by false fd))
        else file_of row.form (λ fd. next (file_by true fd))) (hold.Pin row.row (row_fd row.form) ∷ []) marks notes
    either true = fit_open_inode false plan session number 2048 _ o (λ top. refl) (λ other dir fd.
        f (file_by false fd) _ _ (hold.Fd fd, _, here, refl))
    either false = fit_file_of row.row row.form _ (λ fd.
        f (file_by true fd) _ _ (hold.Pin row.row (Some fd), _, here, refl))

-- the set-group-id bit goes, if it is to go
fit_sgid_killed : {asked : Asking} {seen : List Seen} {holds : List Hold} {marks : List ℕ} {notes : Notes}
    (kills : Bool) (file : XattrFile) (next : RequestTree) → Knows (unscoped holds) file.fd →
    ((mode : ℕ) → IsHeeded asked (Calls (call.ChMod file.fd file.through mode)) holds) →
    ((later : Notes) → FitOn asked seen next holds marks later) →
    FitOn asked seen (sgid_killed kills file next) holds marks notes
fit_sgid_killed false file next k heeds f = f _
fit_sgid_killed true file next k heeds f =
    fit_look_at file.fd _ ((k, tt), tt) (λ told. after_any_step (
    fit_do_call (call.ChMod file.fd file.through (without_sgid told.mode)) _
    (record { holds = λ told these. refl; notes = λ told these. refl }) ((k, tt), tt) (heeds (without_sgid told.mode))
    (f _)))

-- a call that tells a number, which is known behind it
fit_counts : {asked : Asking} {seen : List Seen} {holds : List Hold} {marks : List ℕ} {notes : Notes} (did : Call)
    (next : ℕ → RequestTree) → TellsCount did → IsStillCall did → MayMake (Calls did) holds notes →
    IsHeeded asked (Calls did) holds →
    ((count : ℕ) → GoesAfter (made (Calls did) (Host (host.Ok (value.Count count)))) asked seen (next count) holds
    marks notes) →
    FitOn asked seen (count_of did next) holds marks notes
unfolding on go_on
fit_counts {asked = asked} {holds = holds} {marks = marks} {notes = notes} did next only same may heeds f = record {
  on = λ path s. (
    may,
    elim [
      | Host (host.Ok (value.Count count)) ↦ λ m.
          let reply : ActReply = Host (host.Ok (value.Count count)) in
          subst (λ (later : Notes).
          Fit asked (next count) (held (Calls did) reply holds) marks later (made (Calls did) reply ∷ path))
          (sym (same.notes reply notes))
          (held_as asked (next count) (held (Calls did) reply holds) holds marks notes _ (same.holds reply holds)
          ((f count).on path s))
      | Host (host.Ok told) ↦ λ m. refused_by asked (Calls did) (Host (host.Ok told)) holds path heeds m (only told)
      | told ↦ λ m. refused_by asked (Calls did) told holds path heeds m (λ no. no)
    ],
  );
}

-- a call that tells bytes, and nothing else where it is Ok
abbrev IsBytes : HostValue → Type 0
IsBytes (value.Bytes bytes) = Unit {0}
IsBytes told = ⊥

abbrev TellsBytes : Call → Type 0
TellsBytes did = (told : HostValue) → FitsCall did told → IsBytes told

fit_bytes : {asked : Asking} {seen : List Seen} {holds : List Hold} {marks : List ℕ} {notes : Notes} (did : Call)
    (next : List ℕ → RequestTree) → TellsBytes did → IsStillCall did → MayMake (Calls did) holds notes →
    IsHeeded asked (Calls did) holds →
    ((bytes : List ℕ) → GoesAfter (made (Calls did) (Host (host.Ok (value.Bytes bytes)))) asked seen (next bytes) holds
    marks notes) →
    FitOn asked seen (bytes_told did next) holds marks notes
unfolding on go_on
fit_bytes {asked = asked} {holds = holds} {marks = marks} {notes = notes} did next only same may heeds f = record {
  on = λ path s. (
    may,
    elim [
      | Host (host.Ok (value.Bytes bytes)) ↦ λ m.
          let reply : ActReply = Host (host.Ok (value.Bytes bytes)) in
          subst (λ (later : Notes).
          Fit asked (next bytes) (held (Calls did) reply holds) marks later (made (Calls did) reply ∷ path))
          (sym (same.notes reply notes))
          (held_as asked (next bytes) (held (Calls did) reply holds) holds marks notes _ (same.holds reply holds)
          ((f bytes).on path s))
      | Host (host.Ok told) ↦ λ m. refused_by asked (Calls did) (Host (host.Ok told)) holds path heeds m (only told)
      | told ↦ λ m. refused_by asked (Calls did) told holds path heeds m (λ no. no)
    ],
  );
}

-- a number of bytes fits 32 bits, or is the cause that it is refused
fit_counted : {step : Step} {asked : Asking} {seen : List Seen} {holds : List Hold} {marks : List ℕ} {notes : Notes}
    (count : ℕ) (last : Answer) →
    ((path : List Step) → Fit asked (Gives last) holds marks notes path) →
    (nat_lt count (2 ^ 32) ≡ false → (path : List Step) → HasCause asked (step ∷ path) eoverflow) →
    GoesAfter step asked seen (Gives (counted count last)) holds marks notes
fit_counted {step = step} {asked = asked} {seen = seen} {holds = holds} {marks = marks} {notes = notes} count last
    gives c = either (nat_lt count (2 ^ 32)) refl
  where
    either : (fits : Bool) → nat_lt count (2 ^ 32) ≡ fits →
        GoesAfter step asked seen (Gives (if fits then last else answer.Refused eoverflow)) holds marks notes
    either true e = record { on = λ path s. gives (step ∷ path) }
    either false e = record { on = λ path s. (tt, c e path, tt) }

-- by a size that is none a length is told, and else bytes
tells_length : (fd : Fd) (through : Bool) (name : List ℕ) (size : ℕ) → size ≡ 0 →
    TellsCount (call.GetXattr fd through name size)
tells_length fd through name size zero (value.Count count) f = tt
tells_length fd through name size zero (value.Bytes bytes) f = absurd (f zero)
tells_length fd through name size zero told f = absurd f

tells_value : (fd : Fd) (through : Bool) (name : List ℕ) (size : ℕ) → size ≢ 0 →
    TellsBytes (call.GetXattr fd through name size)
tells_value fd through name size some (value.Bytes bytes) f = tt
tells_value fd through name size some (value.Count count) f = absurd (some f)
tells_value fd through name size some told f = absurd f

tells_list_length : (fd : Fd) (through : Bool) (size : ℕ) → size ≡ 0 → TellsCount (call.ListXattr fd through size)
tells_list_length fd through size zero (value.Count count) f = tt
tells_list_length fd through size zero (value.Bytes bytes) f = absurd (f zero)
tells_list_length fd through size zero told f = absurd f

tells_list : (fd : Fd) (through : Bool) (size : ℕ) → size ≢ 0 → TellsBytes (call.ListXattr fd through size)
tells_list fd through size some (value.Bytes bytes) f = tt
tells_list fd through size some (value.Count count) f = absurd (some f)
tells_list fd through size some told f = absurd f

tells_records : (fd : Fd) (offset size : ℕ) → TellsBytes (call.ListAt fd (Some offset) size)
tells_records fd offset size (value.Bytes bytes) f = tt
tells_records fd offset size told f = absurd f

module _ (plan : Plan) (who : Context) where
  fit_value_told : {seen : List Seen} {holds : List Hold} {marks : List ℕ} {notes : Notes} (inode : ℕ)
      (name : List ℕ) (size : ℕ) (file : XattrFile) (named : List ℕ) → Knows (unscoped holds) file.fd →
      FitOn (asking plan who (request.GetXattr inode name size)) seen (value_told file named size) holds marks notes
  unfolding value_told
  fit_value_told {seen = seen} {holds = holds} {marks = marks} {notes = notes} inode name size file named k =
      either (size == 0) refl
    where
      either : (none : Bool) → (size == 0) ≡ none → FitOn (asking plan who (request.GetXattr inode name size)) seen
          (if none then value_length file named size else value_whole file named size) holds marks notes
      either true e =
          fit_counts (call.GetXattr file.fd file.through named size) _
          (tells_length file.fd file.through named size (eqb-true size 0 e))
          (record { holds = λ told these. refl; notes = λ told these. refl }) ((k, tt), tt) (λ errno. refl) (λ count.
          fit_counted count (answer.Xattr (xattr.Count count)) (λ path. (tt, tt, tt)) (λ long path.
          inr (inr ((file.fd, file.through, named, count, inl (refl, refl), long), refl))))
      either false e =
          fit_bytes (call.GetXattr file.fd file.through named size) _
          (tells_value file.fd file.through named size (eqb-false size 0 e))
          (record { holds = λ told these. refl; notes = λ told these. refl }) ((k, tt), tt) (λ errno. refl) (λ value.
          after_any_step (fit_gives (answer.Xattr (xattr.Value value)) (λ path. (tt, tt, tt))))

  fit_list_told : {seen : List Seen} {holds : List Hold} {marks : List ℕ} {notes : Notes} (inode size : ℕ)
      (agreed : Negotiated) (file : XattrFile) → Knows (unscoped holds) file.fd →
      FitOn (asking plan who (request.ListXattr inode size)) seen (list_told plan agreed file size) holds marks notes
  unfolding list_told
  fit_list_told {seen = seen} {holds = holds} {marks = marks} {notes = notes} inode size agreed file k =
      either (size == 0) refl
    where
      either : (none : Bool) → (size == 0) ≡ none → FitOn (asking plan who (request.ListXattr inode size)) seen
          (if none then list_length file size else list_whole plan agreed file size) holds marks notes
      either true e =
          fit_counts (call.ListXattr file.fd file.through size) _
          (tells_list_length file.fd file.through size (eqb-true size 0 e))
          (record { holds = λ told these. refl; notes = λ told these. refl }) ((k, tt), tt) (λ errno. refl) (λ count.
          fit_counted count (answer.Xattrs (xattrs.Count count)) (λ path. (tt, tt, tt)) (λ long path.
          inr (inr ((file.fd, file.through, [], count, inl (refl, refl), long), refl))))
      either false e =
          fit_bytes (call.ListXattr file.fd file.through size) _
          (tells_list file.fd file.through size (eqb-false size 0 e))
          (record { holds = λ told these. refl; notes = λ told these. refl }) ((k, tt), tt) (λ errno. refl) (λ list.
          after_any_step (fit_make_bytes (names_told plan agreed list) _ (
          fit_gives (answer.Xattrs (xattrs.Names (names_told plan agreed list))) (λ path. (tt, tt, tt)))))

  pub fit_setxattr : (inode : ℕ) (name value : List ℕ) (flags : ℕ) (extra : SetxattrFlags) →
      FitOn (asking plan who (request.SetXattr inode name value flags extra)) []
      (begin (setxattr plan inode name value flags extra)) [] [] blank
  fit_setxattr inode name value flags extra = fit_begin _ refl (λ session.
      fit_with_xattr plan _ (λ off. inl (off, refl))
      (fit_nul_free name _ (λ bad. inr (bad, refl))
      (fit_resolve inode _ nothing_bare (λ row. after_any_step (
      fit_host_name _ (λ named. fit_may named _ (
      fit_xattr_file plan session row inode _ tt (λ file holds later k.
      fit_cleared plan.capability file.fd file.through _ k (
      fit_sgid_killed (kills_sgid session.agreed extra named) file _ k (λ mode errno. refl) (λ last.
      fit_do_call (call.SetXattr file.fd file.through named value flags) _
      (record { holds = λ told these. refl; notes = λ told these. refl }) ((k, tt), tt) (λ errno. refl)
      (fit_gives answer.Done (λ path. (tt, tt, tt))))))))
      plan session.agreed name
      (λ errno refuses. fit_may_not errno _ (λ path s. inr (inl (
      blocked_by (asking plan who (request.SetXattr inode name value flags extra)) path session.agreed errno refuses
      s.each.0)))))))))

  pub fit_getxattr : (inode : ℕ) (name : List ℕ) (size : ℕ) →
      FitOn (asking plan who (request.GetXattr inode name size)) [] (begin (getxattr plan inode name size)) [] [] blank
  fit_getxattr inode name size = fit_begin _ refl (λ session.
      fit_with_xattr plan _ (λ off. inl (off, refl))
      (fit_nul_free name _ (λ bad. inr (bad, refl))
      (fit_host_name _ (λ named. fit_may_read named _ (
      fit_resolve inode _ nothing_bare (λ row. after_any_step (
      fit_xattr_file plan session row inode _ tt (λ file holds later k.
      fit_value_told inode name size file named k)))))
      plan session.agreed name
      (λ errno refuses. fit_may_not_read errno _ (λ path s. inr (inl (
      blocked_by (asking plan who (request.GetXattr inode name size)) path session.agreed (as_missing errno)
      (ap refused_to_read refuses) s.each.0)))))))

  pub fit_listxattr : (inode size : ℕ) →
      FitOn (asking plan who (request.ListXattr inode size)) [] (begin (listxattr plan inode size)) [] [] blank
  fit_listxattr inode size = fit_begin _ refl (λ session.
      fit_with_xattr plan _ (λ off. (off, refl))
      (fit_resolve inode _ nothing_bare (λ row. after_any_step (
      fit_xattr_file plan session row inode _ tt (λ file holds later k.
      fit_list_told inode size session.agreed file k)))))

  pub fit_removexattr : (inode : ℕ) (name : List ℕ) →
      FitOn (asking plan who (request.RemoveXattr inode name)) [] (begin (removexattr plan inode name)) [] [] blank
  fit_removexattr inode name = fit_begin _ refl (λ session.
      fit_with_xattr plan _ (λ off. inl (off, refl))
      (fit_nul_free name _ (λ bad. inr (bad, refl))
      (fit_resolve inode _ nothing_bare (λ row. after_any_step (
      fit_host_name _ (λ named. fit_may named _ (
      fit_xattr_file plan session row inode _ tt (λ file holds later k.
      fit_do_call (call.RemoveXattr file.fd file.through named) _
      (record { holds = λ told these. refl; notes = λ told these. refl }) ((k, tt), tt) (λ errno. refl)
      (fit_gives answer.Done (λ path. (tt, tt, tt))))))
      plan session.agreed name
      (λ errno refuses. fit_may_not errno _ (λ path s. inr (inl (
      blocked_by (asking plan who (request.RemoveXattr inode name)) path session.agreed errno refuses s.each.0)))))))))

  -- what was told to be listed is a listing, or is the cause that it is refused
  fit_listing : {holds : List Hold} {marks : List ℕ} {notes : Notes} {seen : List Seen}
      (inode handle size offset : ℕ) (fd : Fd) (bytes : List ℕ) →
      GoesAfter (made (Calls (call.ListAt fd (Some offset) size)) (Host (host.Ok (value.Bytes bytes))))
      (asking plan who (request.ReadDir inode handle size offset)) seen (listing (entries_of bytes)) holds marks notes
  fit_listing {holds = holds} {marks = marks} {notes = notes} {seen = seen} inode handle size offset fd bytes =
      either (is_listing bytes) refl
    where
      asked : Asking
      asked = asking plan who (request.ReadDir inode handle size offset)

      either : (is : Bool) → is_listing bytes ≡ is →
          GoesAfter (made (Calls (call.ListAt fd (Some offset) size)) (Host (host.Ok (value.Bytes bytes)))) asked seen
          (listing (entries_of bytes)) holds marks notes
      either true e = rw e (after_any_step (fit_make_entries _ _ (
          fit_gives (answer.Listing _) (λ path. (tt, tt, tt)))))
      either false e = rw e (record {
        on = λ path s. (tt, inr (inr ((fd, bytes, inl (refl, refl), e), refl)), tt);
      })

  pub fit_readdir : (inode handle size offset : ℕ) →
      FitOn (asking plan who (request.ReadDir inode handle size offset)) []
      (begin (readdir inode handle size offset)) [] [] blank
  unfolding readdir
  fit_readdir inode handle size offset = fit_begin _ refl (λ session. either (size == 0))
    where
      either : {seen : List Seen} {notes : Notes} (none : Bool) →
          FitOn (asking plan who (request.ReadDir inode handle size offset)) seen
          (if none then Gives (answer.Listing []) else listed_from inode handle size offset) [] [] notes
      either true = fit_gives (answer.Listing []) (λ path. (tt, tt, tt))
      either false =
          fit_place offset _ (λ bad. (bad, refl))
          (fit_pin_handle handle inode _ nothing_bare (λ row fd.
          fit_bytes (call.ListAt fd (Some offset) size) _ (tells_records fd offset size)
          (record { holds = λ told these. refl; notes = λ told these. refl })
          (((hold.HandlePin row fd, _, here, refl), tt), tt) (λ errno. refl) (λ bytes.
          fit_listing inode handle size offset fd bytes)))
