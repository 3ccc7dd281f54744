-- `create` is fit: as whoever asks a file is made, or one that is there is opened.
use Rattle.std.proofs.Common.{◌≡◌, ◌∷◌, ◌⊎◌, ◌∙◌, ◌&&◌, [], if◌then◌else◌, ℕ, Bool, List, None, Option, Some}
use Rattle.std.proofs.Common.{ap, false, inl, inr, is_some, not, refl, true}
use Rattle.std.proofs.Common.{◌==◌}
use Rattle.std.proofs.lemmas.Bool.{eqb-true}
use Rattle.pt_host.specs.Errno.{eperm, estale}
use Rattle.pt_host.specs.Flags.{includes, o_excl}
use Rattle.pt_host.specs.Words.{Takes.{here, there}}
use Rattle.pt_host.specs.declared.ids.Errno.{Errno}
use Rattle.pt_host.specs.declared.ids.Fd.{Fd}
use Rattle.pt_host.specs.declared.ids.ObjIds.{ObjIds}
use Rattle.pt_host.specs.declared.op.KeptHostOp.TheVariants as call
use Rattle.pt_host.specs.declared.seat.HostSeat.{HostSeat}
use Rattle.pt_creds.specs.Identity.{Credentials, override_cap}
use Rattle.pt_creds.specs.Steps.{id_to_set}
use Rattle.pt_iface.specs.declared.answer.Answer.TheVariants as answer
use Rattle.pt_iface.specs.declared.request.Context.{Context}
use Rattle.pt_iface.specs.declared.request.Extensions.{Extensions}
use Rattle.pt_iface.specs.declared.request.Request.{Request}
use Rattle.pt_iface.specs.declared.request.Request.TheVariants as request
use Rattle.pt_frame.specs.Deed.{Step}
use Rattle.pt_frame.specs.Tree.{Gives, RequestTree}
use Rattle.pt_frame.specs.declared.hold.Hold.{Hold}
use Rattle.pt_frame.specs.declared.hold.Hold.TheVariants as hold
use Rattle.pt_req.specs.Asker.{as_asker, asker_from, asker_of, cap_raised, egid_set, euid_set, group_set}
use Rattle.pt_req.specs.Asker.{umask_of, under_umask}
use Rattle.pt_req.specs.Attributes.{Label, refused_label}
use Rattle.pt_req.specs.Options.{create_options, making_flags}
use Rattle.pt_req.specs.Parts.{by_path}
use Rattle.pt_req.specs.declared.begun.BegunSession.{BegunSession}
use Rattle.pt_req.specs.declared.plan.Plan.{Plan}
use Rattle.pt_attr.specs.declared.parts.creating.NamedHandle.{NamedHandle}
use Rattle.pt_attr.specs.Creating.{FileAsked, are_same, if_same, make_file, new_file, old_file, takes_old, file_asked}
use Rattle.pt_job.specs.Pattern.{tree_of}
use Rattle.pt_law.specs.Discipline.{Notes, blank}
use Rattle.pt_fit.specs.Cause.{Asking, IsStale, OwnCause, TellsCause, asking}
use Rattle.pt_fit.proofs.Holds.{nothing_bare}
use Rattle.pt_fit.proofs.Joined.{after_any_step, fit_gives, fit_look_up, fit_open_num}
use Rattle.pt_fit.proofs.Labelling.{FailsBy, fit_host_label, fit_labelled}
use Rattle.pt_fit.proofs.Parts.{Agreed, FitOn, Ids, IsSeen, Opened, Seen, Told, blocked_by, fit_begin, fit_name}
use Rattle.pt_fit.proofs.Parts.{fit_draw_handle, fit_file_of, opens_on}
use Rattle.pt_fit.proofs.Parts.{fit_insert_given, fit_resolve, fit_stat}
use Rattle.pt_fit.proofs.Parts.{fit_take_under}
use Rattle.pt_fit.proofs.Scopes.{Covers, fit_make_at, fit_open_scope, fit_raise}
use Rattle.pt_fit.proofs.Telling.{told_here}

-- scopes lie on what holds none
pub covers_none : (row : ℕ) (dir : Fd) → Covers (hold.Pin row (Some dir) ∷ []) (hold.Pin row (Some dir) ∷ [])
covers_none row dir = record { uncovers = refl; unscopes = refl; lays = λ fd. refl }

-- and one more
covers_groups : {holds bare : List Hold} → Covers holds bare → Covers (hold.Groups ∷ holds) bare
covers_groups c = record { uncovers = c.uncovers; unscopes = c.unscopes; lays = λ fd. c.lays fd }

covers_egid : {holds bare : List Hold} → Covers holds bare → Covers (hold.EffectiveGid ∷ holds) bare
covers_egid c = record { uncovers = c.uncovers; unscopes = c.unscopes; lays = λ fd. c.lays fd }

covers_euid : {holds bare : List Hold} → Covers holds bare → Covers (hold.EffectiveUid ∷ holds) bare
covers_euid c = record { uncovers = c.uncovers; unscopes = c.unscopes; lays = λ fd. c.lays fd }

covers_umask : {holds bare : List Hold} → Covers holds bare → Covers (hold.Umask ∷ holds) bare
covers_umask c = record { uncovers = c.uncovers; unscopes = c.unscopes; lays = λ fd. c.lays fd }

-- An identity is taken on by these steps, and what follows is fit under their scopes.
module _ {asked : Asking} {seen : List Seen} {bare : List Hold} {marks : List ℕ} {notes : Notes}
    (rest : RequestTree) (f : (holds : List Hold) → Covers holds bare → FitOn asked seen rest holds marks notes) where
  fit_raises : (raise : Bool) (holds : List Hold) → Covers holds bare →
      FitOn asked seen (cap_raised raise rest) holds marks notes
  fit_raises true holds c = fit_raise override_cap rest (f holds c)
  fit_raises false holds c = f holds c

  fit_euid : (euid : Option ℕ) (raise : Bool) (holds : List Hold) → Covers holds bare →
      FitOn asked seen (euid_set euid (cap_raised raise rest)) holds marks notes
  fit_euid None raise holds c = fit_raises raise holds c
  fit_euid (Some uid) raise holds c =
      fit_open_scope (call.SetEuid uid) hold.EffectiveUid (cap_raised raise rest) (λ errno. refl) refl
      (fit_raises raise (hold.EffectiveUid ∷ holds) (covers_euid c))

  fit_egid : (egid euid : Option ℕ) (raise : Bool) (holds : List Hold) → Covers holds bare →
      FitOn asked seen (egid_set egid (euid_set euid (cap_raised raise rest))) holds marks notes
  fit_egid None euid raise holds c = fit_euid euid raise holds c
  fit_egid (Some gid) euid raise holds c =
      fit_open_scope (call.SetEgid gid) hold.EffectiveGid (euid_set euid (cap_raised raise rest))
      (λ errno. refl) refl (fit_euid euid raise (hold.EffectiveGid ∷ holds) (covers_egid c))

  fit_steps : (groups egid euid : Option ℕ) (raise : Bool) (holds : List Hold) → Covers holds bare →
      FitOn asked seen
      (group_set groups (egid_set egid (euid_set euid (cap_raised raise rest))))
      holds marks notes
  fit_steps None egid euid raise holds c = fit_egid egid euid raise holds c
  fit_steps (Some group) egid euid raise holds c =
      fit_open_scope (call.SetGroups (group ∷ [])) hold.Groups
      (egid_set egid (euid_set euid (cap_raised raise rest))) (λ errno. refl) refl
      (fit_egid egid euid raise (hold.Groups ∷ holds) (covers_groups c))

  -- by whoever asks, where no id is forbidden
  pub fit_as_asker : (seat : HostSeat) (asker : Option Credentials) (holds : List Hold) → Covers holds bare →
      (asker ≡ None → OwnCause asked.plan asked.who asked.request eperm) →
      FitOn asked seen (as_asker seat asker rest) holds marks notes
  fit_as_asker seat None holds c forbids = fit_gives (answer.Refused eperm) (λ path. (tt, inl (forbids refl), tt))
  fit_as_asker seat (Some creds) holds c forbids =
      fit_steps creds.sup_gid (id_to_set creds.gid seat.eff_gid) (id_to_set creds.uid seat.eff_uid)
      (creds.keep_capability && is_some (id_to_set creds.uid seat.eff_uid)) holds c

  -- under a umask, if one is to be set
  pub fit_umask : (umask : Option ℕ) (holds : List Hold) → Covers holds bare →
      FitOn asked seen (under_umask umask rest) holds marks notes
  fit_umask None holds c = f holds c
  fit_umask (Some mask) holds c =
      fit_open_scope (call.SetUmask mask) hold.Umask rest (λ errno. refl) refl (f (hold.Umask ∷ holds) (covers_umask c))

-- who asks has an id that is forbidden
pub forbidden_from : (uid gid : Option ℕ) (group : Option (Option ℕ)) (keeps : Bool) →
    asker_from uid gid group keeps ≡ None → (uid ≡ None) ⊎ (gid ≡ None) ⊎ (group ≡ None)
forbidden_from None gid group keeps e = inl refl
forbidden_from (Some uid) None group keeps e = inr (inl refl)
forbidden_from (Some uid) (Some gid) None keeps e = inr (inr refl)
forbidden_from (Some uid) (Some gid) (Some group) keeps e = absurd (cc)

both : (a b : Bool) → (a && b) ≡ true → (a ≡ true) × (b ≡ true)
both true b e = (refl, e)
both false b e = absurd (cc)

pub same_ids : (one other : ObjIds) → are_same one other ≡ true → one ≡ other
same_ids one other e =
    let most = both ((one.ino == other.ino) && (one.dev == other.dev)) (one.mnt_id == other.mnt_id) e in
    let first = both (one.ino == other.ino) (one.dev == other.dev) most.0 in
    let ino = eqb-true one.ino other.ino first.0 in
    let dev = eqb-true one.dev other.dev first.1 in
    let mnt = eqb-true one.mnt_id other.mnt_id most.1 in
    λ i. record { ino = ino i; dev = dev i; mnt_id = mnt i }

not_set : (set : Bool) → not set ≡ true → set ≡ false
not_set true e = absurd (cc)
not_set false e = refl

-- an object of the same ids goes on, and another one is stale
fit_if_same : {asked : Asking} {seen : List Seen} {holds : List Hold} {marks : List ℕ} {notes : Notes}
    (made found : ObjIds) (next : RequestTree) →
    (are_same made found ≡ false → (path : List Step) → Told seen path →
    TellsCause asked.plan asked.who asked.request path estale) →
    (made ≡ found → FitOn asked seen next holds marks notes) →
    FitOn asked seen (if_same made found next) holds marks notes
unfolding if_same
fit_if_same {asked = asked} {seen = seen} {holds = holds} {marks = marks} {notes = notes} made found next stale f =
    go (are_same made found) refl
  where
    go : (same : Bool) → are_same made found ≡ same →
        FitOn asked seen (if same then next else Gives (answer.Refused estale)) holds marks notes
    go true e = f (same_ids made found e)
    go false e = record { on = λ path s. (tt, inr (inr (stale e path s)), tt) }

module _ (plan : Plan) (who : Context) (parent : ℕ) (name : List ℕ) (mode : ℕ) (kill : Bool) (flags umask : ℕ)
    (ext : Extensions) where
  abbrev what : Request
  what = request.Create parent name mode kill flags umask ext

  abbrev asks : Asking
  asks = asking plan who what

  abbrev file : FileAsked
  file = file_asked who parent name mode kill flags umask ext

  abbrev answers : NamedHandle → RequestTree
  answers named = Gives (answer.Created named.entry named.handle (create_options plan.config))

  -- what was made under the name is not what was found there
  stale : (ids others : ObjIds) (fd found : Fd) (path : List Step) →
      IsSeen path (Opened name (making_flags flags) mode fd) → IsSeen path (Ids fd ids) →
      IsSeen path (Opened name by_path 0 found) → IsSeen path (Ids found others) → are_same ids others ≡ false →
      IsStale name mode flags path
  stale ids others fd found path making made finding leads differ = (
    ids,
    others,
    opens_on path name (making_flags flags) mode fd ids making made,
    opens_on path name by_path 0 found others finding leads,
    differ,
  )

  -- the making call is heeded but where the name is there and the guest takes what is there
  taken : (passed making : Bool) (errno : Errno) → passed ≡ false →
      (if passed && making then None else Some errno) ≡ Some errno
  taken true making errno e = absurd (cc)
  taken false making errno e = refl

  -- a context that fails does so by its cause
  abbrev Fails : BegunSession → Option Label → Type 0
  Fails session label =
      (errno : Errno) → FailsBy label errno → refused_label plan session.agreed ext.secctx ≡ Some errno

  -- what was made gets its context, is what its name leads to, and gets a handle by its number
  fit_new : {marks : List ℕ} {notes : Notes} (session : BegunSession) (label : Option Label) (row : ℕ) (dir fd : Fd) →
      Fails session label → notes.era ≡ Some session.era → notes.brought ≡ None →
      FitOn asks (Opened name (making_flags flags) mode fd ∷ Agreed session.agreed ∷ [])
      (new_file plan session file label dir fd answers)
      (hold.Fd fd ∷ hold.Pin row (Some dir) ∷ []) marks notes
  unfolding new_file
  fit_new session label row dir fd c e n =
      fit_stat fd _ (λ made.
      fit_labelled fd dir name label _
      ((hold.Fd fd, _, here, refl), tt) ((hold.Pin row (Some dir), _, there here, refl), tt)
      (λ errno fails path s. blocked_by asks path session.agreed errno (c errno fails) s.each.1.1.0)
      (fit_look_up plan session parent name _ (λ one. refl) e n (λ looked found later l.
      fit_if_same made.ids looked.ids _
      (λ differ path s. (
        stale made.ids looked.ids fd found path s.each.1.1.1.0 s.each.1.1.0 s.each.1.0 s.each.0 differ,
        refl,
      )) (λ same.
      fit_draw_handle _ (λ handle.
      fit_take_under session.era looked.entry.inode fd _
      (fit_insert_given session handle session.era looked.entry.inode fd looked.ids _ (l.era ∙ e) refl l.given
      (l.told fd (told_here fd made.ids _ ∙ ap (λ (ids : ObjIds). Some ids) same, n))
      (fit_gives (answer.Created looked.entry handle (create_options plan.config)) (λ path. (refl, tt, tt)))))))))

  -- what was there gets one by its own
  fit_old : {marks : List ℕ} {notes : Notes} (seat : HostSeat) (session : BegunSession) (row : ℕ) (dir : Fd) →
      notes.era ≡ Some session.era → notes.brought ≡ None → takes_old flags ≡ true →
      FitOn asks (Agreed session.agreed ∷ []) (old_file plan seat session file answers)
      (hold.Pin row (Some dir) ∷ []) marks notes
  unfolding old_file
  fit_old seat session row dir e n takes =
      fit_look_up plan session parent name _ (λ one. refl) e n (λ looked found later l.
      fit_open_num plan seat session looked.entry.inode kill flags _ (not_set (includes flags o_excl) takes)
      (λ one. refl) (l.era ∙ e) (λ handle last.
      fit_gives (answer.Created looked.entry handle (create_options plan.config)) (λ path. (refl, tt, tt))))

  fit_making : {marks : List ℕ} {notes : Notes} (seat : HostSeat) (session : BegunSession) (label : Option Label)
      (row : ℕ) (dir : Fd) → Fails session label → notes.era ≡ Some session.era → notes.brought ≡ None →
      notes.resolved ≡ Some (record { number = parent; row = row }) →
      FitOn asks (Agreed session.agreed ∷ []) (make_file plan seat session file label dir answers)
      (hold.Pin row (Some dir) ∷ []) marks notes
  unfolding make_file
  fit_making seat session label row dir c e n r =
      fit_as_asker _
      (fit_umask _
      (λ holds covers. fit_make_at holds [] dir name (making_flags flags) mode row parent _ _ covers r
      (λ errno no. taken _ _ errno no)
      (λ fd. fit_new session label row dir fd c e n) (fit_old seat session row dir e n))
      (umask_of session (Some umask)))
      seat (asker_of plan session who ext.sup_gid) _ (covers_none row dir)
      (λ none. inr (forbidden_from _ _ _ _ none, refl))

  pub fit_create : (seat : HostSeat) → FitOn asks [] (tree_of plan seat who what) [] [] blank
  fit_create seat = fit_begin _ refl (λ session.
      fit_name name _ (λ bad. inl (bad, refl))
      (fit_resolve parent _ nothing_bare (λ row. after_any_step (
      fit_host_label plan session.agreed ext.secctx _ (λ label c.
      fit_file_of row.row row.form _ (λ dir.
      fit_making seat session label row.row dir c refl refl refl))))))
