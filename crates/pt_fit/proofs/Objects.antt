-- The making of an object under a name is fit: as whoever asks it is made, gets its context, and is looked up.
use Rattle.std.proofs.Common.{◌≡◌, ◌++◌, ◌∷◌, ◌∙◌, [], inl, inr, ℕ, false, true, List, None}
use Rattle.std.proofs.Common.{Option, Some, Result, Ok, Err, length, refl, subst, sym}
use Rattle.std.specs.List.{list_any}
use Rattle.pt_host.specs.Call.{Call}
use Rattle.pt_host.specs.Errno.{einval, eperm}
use Rattle.pt_host.specs.Words.{Takes.{here}}
use Rattle.pt_host.specs.declared.ids.Errno.{Errno}
use Rattle.pt_host.specs.declared.ids.Fd.{Fd}
use Rattle.pt_host.specs.declared.op.KeptHostOp.TheVariants as call
use Rattle.pt_host.specs.declared.reply.HostReply.TheVariants as host
use Rattle.pt_host.specs.declared.reply.HostValue.TheVariants as value
use Rattle.pt_host.specs.declared.seat.HostSeat.{HostSeat}
use Rattle.pt_tables.specs.declared.form.Negotiated.{Negotiated}
use Rattle.pt_iface.specs.declared.answer.Answer.{Answer}
use Rattle.pt_iface.specs.declared.answer.Answer.TheVariants as answer
use Rattle.pt_iface.specs.declared.entry.Entry.{Entry}
use Rattle.pt_iface.specs.declared.request.Context.{Context}
use Rattle.pt_iface.specs.declared.request.Request.{Request}
use Rattle.pt_frame.specs.Deed.{Calls, Step}
use Rattle.pt_frame.specs.Tree.{Bares, Gives, RequestTree, Shuts, on, go_on}
use Rattle.pt_frame.specs.declared.act.ActReply.{ActReply}
use Rattle.pt_frame.specs.declared.act.ActReply.TheVariants.{Event, Host, NoCopy}
use Rattle.pt_frame.specs.declared.hold.Hold.{Hold}
use Rattle.pt_frame.specs.declared.hold.Hold.TheVariants as hold
use Rattle.pt_req.specs.Asker.{asker_of, umask_of}
use Rattle.pt_req.specs.Attributes.{Label, refused_label}
use Rattle.pt_req.specs.Entries.{is_bad_name}
use Rattle.pt_req.specs.Parts.{by_path}
use Rattle.pt_req.specs.Steps.{begin, ok_in, or_refused, set_xattr}
use Rattle.pt_req.specs.declared.begun.BegunSession.{BegunSession}
use Rattle.pt_req.specs.declared.plan.Plan.{Plan}
use Rattle.pt_attr.specs.Creating.{undone}
use Rattle.pt_attr.specs.Making.{ObjectAsked, label_at, labelled_at, make_object, set_opened, targeted}
use Rattle.pt_attr.specs.Making.{is_nul}
use Rattle.pt_attr.specs.Steps.{make, try_open_at}
use Rattle.pt_law.specs.Discipline.{KnowsAll, Notes, blank}
use Rattle.pt_law.specs.Keeps.{Lasts, unscoped}
use Rattle.pt_law.specs.Told.{MayBeTold}
use Rattle.pt_fit.specs.Cause.{Asking, OwnCause, SomeShows, asking, caused, name_refused}
use Rattle.pt_fit.specs.Fit.{Fit, MayAnswer}
use Rattle.pt_fit.proofs.ObjectKinds.{Kind, Directory, Node, Link, is_bad_target, make_kind, make_named, making_call}
use Rattle.pt_fit.proofs.ObjectKinds.{targeted_as, unmaking_call}
use Rattle.pt_fit.proofs.Creating.{covers_none, fit_as_asker, fit_umask}
use Rattle.pt_fit.proofs.Holds.{down_over, nothing_bare}
use Rattle.pt_fit.proofs.Joined.{after_any_step, fit_gives, fit_look_up}
use Rattle.pt_fit.proofs.Labelling.{FailsBy, fit_host_label}
use Rattle.pt_fit.proofs.Parts.{FitOn, Seen, Told, Agreed, blocked_by, fit_begin, fit_checked, fit_file_of, fit_name}
use Rattle.pt_fit.proofs.Parts.{fit_resolve, still}
use Rattle.pt_fit.proofs.Scopes.{Covers}
use Rattle.pt_fit.proofs.Refused.{path_heeded, refused_by}
use Rattle.pt_law.specs.World.{made as step_made}

-- The object is made, and the scopes end.
module _ {asked : Asking} {seen : List Seen} {marks : List ℕ} {notes : Notes} (holds bare : List Hold)
    (row : ℕ) (dir : Fd) (name : List ℕ) (next : RequestTree) (c : Covers holds (hold.Pin row (Some dir) ∷ bare))
    (f : FitOn asked seen next (hold.Pin row (Some dir) ∷ bare) marks notes) where
  knows_dir : KnowsAll (unscoped holds) (dir ∷ [])
  knows_dir = subst (λ (all : List Hold). KnowsAll all (dir ∷ [])) (sym c.unscopes)
      ((hold.Pin row (Some dir), _, here, refl), tt)

  -- what follows the call
  fit_told : (making : Call) (path : List Step) (told : ActReply) → Told seen path →
      ((errno : Errno) → caused asked making errno ≡ Some errno) → MayBeTold (Calls making) told →
      Fit asked (Bares (on ok_in (λ done. next) told)) holds marks notes (step_made (Calls making) told ∷ path)
  unfolding on go_on
  fit_told making path (Host (host.Ok got)) s heeded m =
      subst (λ (z : List Hold). Fit asked next z marks notes (step_made (Calls making) (Host (host.Ok got)) ∷ path))
      (sym c.uncovers) (f.on _ (still s))
  fit_told making path told s heeded m = refused_by asked (Calls making) told holds path heeded m (λ no. no)

  fit_make : (what : Kind) → FitOn asked seen (make (making_call what dir name) next) holds marks notes
  fit_make (Directory mode) = record {
    on = λ path s. (
      (knows_dir, tt),
      λ told m. fit_told (call.MakeDir dir name mode) path told s (λ errno. refl) m,
    );
  }
  fit_make (Node mode rdev) = record {
    on = λ path s. (
      (knows_dir, tt),
      λ told m. fit_told (call.MakeNode dir name mode rdev) path told s (λ errno. refl) m,
    );
  }
  fit_make (Link target) = record {
    on = λ path s. (
      (knows_dir, tt),
      λ told m. fit_told (call.SymLink dir name target) path told s (λ errno. refl) m,
    );
  }

-- Its name goes again, and so the request is answered.

module _ (asked : Asking) (holds : List Hold) (marks : List ℕ) (dir : Fd) (name : List ℕ)
    (k : KnowsAll (unscoped holds) (dir ∷ [])) where
  fit_undone : (what : Kind) (last : Answer) (notes : Notes) (path : List Step) →
      ((step : Step) → Fit asked (Gives last) holds marks notes (step ∷ path)) →
      Fit asked (undone (unmaking_call what dir name) last) holds marks notes path
  unfolding on go_on
  fit_undone (Directory mode) last notes path f = (
    (k, tt),
    elim [
      | Host told ↦ λ m. f (step_made (Calls (unmaking_call (Directory mode) dir name)) (Host told))
      | Event told ↦ λ m. absurd m
      | NoCopy ↦ λ m. tt
    ],
  )
  fit_undone (Node mode rdev) last notes path f = (
    (k, tt),
    elim [
      | Host told ↦ λ m. f (step_made (Calls (unmaking_call (Node mode rdev) dir name)) (Host told))
      | Event told ↦ λ m. absurd m
      | NoCopy ↦ λ m. tt
    ],
  )
  fit_undone (Link target) last notes path f = (
    (k, tt),
    elim [
      | Host told ↦ λ m. f (step_made (Calls (unmaking_call (Link target) dir name)) (Host told))
      | Event told ↦ λ m. absurd m
      | NoCopy ↦ λ m. tt
    ],
  )

  fit_refused : (what : Kind) (errno : Errno) (notes : Notes) (path : List Step) →
      SomeShows asked path errno →
      Fit asked (undone (unmaking_call what dir name) (answer.Refused errno)) holds marks notes path
  fit_refused what errno notes path s =
      fit_undone what (answer.Refused errno) notes path (λ step. (tt, inr (inl (inr s)), tt))

  fit_out : (what : Kind) (notes : Notes) (path : List Step) →
      Fit asked (undone (unmaking_call what dir name) answer.NoMemory) holds marks notes path
  fit_out what notes path = fit_undone what answer.NoMemory notes path (λ step. (tt, tt, tt))

-- behind the end of a bracket
shut_so : (asked : Asking) (rest : RequestTree) (front holds : List Hold) (marks : List ℕ) (notes : Notes)
    (path : List Step) → ((later : Notes) → Lasts notes later → Fit asked rest holds marks later path) →
    Fit asked (Shuts false rest) (front ++ holds) (length holds ∷ marks) notes path
shut_so asked rest front holds marks notes path f = λ later l.
    subst (λ (z : List Hold). Fit asked rest z marks later path) (sym (down_over front holds)) (f later l)

-- What was made gets its context, in a directory that is pinned.

abbrev pinned : ℕ → Fd → List Hold
pinned row dir = hold.Pin row (Some dir) ∷ []

knows : (row : ℕ) (dir : Fd) → KnowsAll (unscoped (pinned row dir)) (dir ∷ [])
knows row dir = ((hold.Pin row (Some dir), _, here, refl), tt)

abbrev shut_by : Kind → Fd → List ℕ → Answer → RequestTree
shut_by what dir name last = Shuts false (undone (unmaking_call what dir name) last)

-- what follows the attempt, by what it is to be answered
abbrev shutting : Kind → Fd → List ℕ → RequestTree → Option Answer → RequestTree
shutting what dir name next refused = Shuts false (or_refused (undone (unmaking_call what dir name)) next refused)

-- in the bracket in which that is done
abbrev inner : ℕ → Fd → List ℕ → List ℕ
inner row dir marks = length (pinned row dir) ∷ marks

module _ (asked : Asking) (marks : List ℕ) (row : ℕ) (dir : Fd) (name : List ℕ) (what : Kind) where
  refused_so : (front : List Hold) (errno : Errno) (these : Notes) (path : List Step) →
      SomeShows asked path errno →
      Fit asked (shut_by what dir name (answer.Refused errno)) (front ++ pinned row dir) (inner row dir marks) these
      path
  refused_so front errno these path s =
      shut_so asked (undone (unmaking_call what dir name) (answer.Refused errno)) front (pinned row dir) marks these
      path (λ later l. fit_refused asked (pinned row dir) marks dir name (knows row dir) what errno later path s)

  out_so : (front : List Hold) (these : Notes) (path : List Step) →
      Fit asked (shut_by what dir name answer.NoMemory) (front ++ pinned row dir) (inner row dir marks) these path
  out_so front these path =
      shut_so asked (undone (unmaking_call what dir name) answer.NoMemory) front (pinned row dir) marks these path
      (λ later l. fit_out asked (pinned row dir) marks dir name (knows row dir) what later path)

module _ (asked : Asking) (seen : List Seen) (marks : List ℕ) (notes : Notes)
    (row number : ℕ) (dir : Fd) (name : List ℕ) (what : Kind) (next : RequestTree)
    (f : (later : Notes) → later.era ≡ notes.era → later.brought ≡ None →
    FitOn asked seen next (pinned row dir) marks later) where
  -- by its descriptor
  fit_set : (fd : Fd) (attribute bytes : List ℕ) (these : Notes) → these.era ≡ notes.era →
      FitOn asked seen (set_xattr fd true attribute bytes 0 (shutting what dir name next))
      (hold.Fd fd ∷ pinned row dir) (inner row dir marks) these
  unfolding on go_on
  fit_set fd attribute bytes these same = record {
    on = λ path s. (
      (((hold.Fd fd, _, here, refl), tt), tt),
      elim [
        | Host (host.Ok told) ↦ λ m. shut_so asked next own (pinned row dir) marks these
            (labelling (Host (host.Ok told)) ∷ path) (λ later l. (f later (l.0 ∙ same) l.4).on _ (still s))
        | Host (host.Refused errno) ↦ λ m. refused_so asked marks row dir name what own errno these
            (labelling (Host (host.Refused errno)) ∷ path) (inl refl)
        | Host (host.Fault errno) ↦ λ m. refused_so asked marks row dir name what own errno these
            (labelling (Host (host.Fault errno)) ∷ path) (inl refl)
        | Host host.NoMemory ↦
            λ m. out_so asked marks row dir name what own these (labelling (Host host.NoMemory) ∷ path)
        | Event told ↦ λ m. absurd m
        | NoCopy ↦ λ m. out_so asked marks row dir name what own these (labelling NoCopy ∷ path)
      ],
    );
  }
    where
      own : List Hold
      own = hold.Fd fd ∷ []

      labelling : ActReply → Step
      labelling told = step_made (Calls (call.SetXattr fd true attribute bytes 0)) told

  -- its name is opened
  fit_opened : (attribute bytes : List ℕ) → notes.resolved ≡ Some (record { number = number; row = row }) →
      FitOn asked seen (try_open_at dir name by_path (λ told.
      set_opened attribute bytes told (shutting what dir name next))) (pinned row dir)
      (inner row dir marks) notes
  unfolding on go_on
  fit_opened attribute bytes r = record {
    on = λ path s. (
      (((hold.Pin row (Some dir), _, here, refl), tt), (record { number = number; row = row }, _, r, here)),
      elim [
        | Host (host.Ok (value.Fd fd)) ↦ λ m. (fit_set fd attribute bytes _ refl).on _ (still s)
        | Host (host.Refused errno) ↦ λ m. refused_so asked marks row dir name what [] errno notes
            (opening (Host (host.Refused errno)) ∷ path) (inl (path_heeded asked dir name errno))
        | Host (host.Fault errno) ↦ λ m. refused_so asked marks row dir name what [] errno notes
            (opening (Host (host.Fault errno)) ∷ path) (inl (path_heeded asked dir name errno))
        | Host host.NoMemory ↦
            λ m. out_so asked marks row dir name what [] notes (opening (Host host.NoMemory) ∷ path)
        | NoCopy ↦ λ m. out_so asked marks row dir name what [] notes (opening NoCopy ∷ path)
        | told ↦ λ m. refused_by asked (Calls (call.OpenAt dir name by_path 0)) told (pinned row dir) path
            (path_heeded asked dir name) m (λ no. no)
      ],
    );
  }
    where
      opening : ActReply → Step
      opening told = step_made (Calls (call.OpenAt dir name by_path 0)) told

  fit_label_at : (value : List ℕ) (attribute : Result (List ℕ) Errno) →
      notes.resolved ≡ Some (record { number = number; row = row }) →
      ((errno : Errno) → attribute ≡ Err errno → (path : List Step) → Told seen path → SomeShows asked path errno) →
      FitOn asked seen (label_at dir name (unmaking_call what dir name) value attribute next) (pinned row dir) marks
      notes
  fit_label_at value (Err errno) r c = record {
    on = λ path s. fit_refused asked (pinned row dir) marks dir name (knows row dir) what errno notes path
        (c errno refl path s);
  }
  fit_label_at value (Ok attribute) r c = record { on = (fit_opened attribute value r).on }

  fit_labelled_at : (label : Option Label) → notes.resolved ≡ Some (record { number = number; row = row }) →
      notes.brought ≡ None →
      ((errno : Errno) → FailsBy label errno → (path : List Step) → Told seen path → SomeShows asked path errno) →
      FitOn asked seen (labelled_at dir name (unmaking_call what dir name) label next) (pinned row dir) marks notes
  fit_labelled_at None r n c = f notes refl n
  fit_labelled_at (Some label) r n c = fit_label_at label.value label.name r c

-- as whoever asks, in a directory that was resolved
fit_kind : {marks : List ℕ} {notes : Notes} (plan : Plan) (seat : HostSeat) (who : Context) (what : Request)
    (session : BegunSession) (object : ObjectAsked) (its : Kind) (label : Option Label) (row : ℕ) (dir : Fd) →
    ((errno : Errno) → FailsBy label errno → name_refused plan session.agreed what ≡ Some errno) →
    notes.era ≡ Some session.era → notes.brought ≡ None →
    notes.resolved ≡ Some (record { number = object.parent; row = row }) →
    (asker_of plan session object.who object.ext.sup_gid ≡ None → OwnCause plan who what eperm) →
    ((entry : Entry) → MayAnswer (answer.Entry entry) what) →
    FitOn (asking plan who what) (Agreed session.agreed ∷ []) (make_kind plan seat session object its label dir)
    (pinned row dir) marks notes
unfolding make_object
fit_kind plan seat who what session object its label row dir fails era none resolved forbids answers =
    fit_as_asker _
    (fit_umask _
    (λ holds c. fit_make holds [] row dir object.name _ c
    (fit_labelled_at _ _ _ _ row object.parent dir object.name its _
    (λ later same none.
    fit_look_up plan session object.parent object.name _ (λ one. refl) (same ∙ era) none (λ looked found last l.
    fit_gives (answer.Entry looked.entry) (λ path. (refl, tt, answers looked.entry))))
    label resolved none
    (λ errno failed path s. blocked_by (asking plan who what) path session.agreed errno (fails errno failed) s.each.0))
    its)
    (umask_of session object.umask))
    seat (asker_of plan session object.who object.ext.sup_gid) _ (covers_none row dir) forbids

fit_target : {asked : Asking} {seen : List Seen} {holds : List Hold} {marks : List ℕ} {notes : Notes} (its : Kind)
    (next : RequestTree) → (is_bad_target its ≡ true → OwnCause asked.plan asked.who asked.request einval) →
    FitOn asked seen next holds marks notes → FitOn asked seen (targeted_as its next) holds marks notes
unfolding targeted
fit_target (Directory mode) next c f = f
fit_target (Node mode rdev) next c f = f
fit_target (Link target) next c f = fit_checked (list_any is_nul target) next c f

-- its name and its target are checked first
pub fit_named : (plan : Plan) (seat : HostSeat) (who : Context) (what : Request) (object : ObjectAsked) (its : Kind) →
    (is_bad_name object.name ≡ true → OwnCause plan who what einval) →
    (is_bad_target its ≡ true → OwnCause plan who what einval) →
    ((session : BegunSession) → asker_of plan session object.who object.ext.sup_gid ≡ None →
    OwnCause plan who what eperm) →
    ((agreed : Negotiated) → refused_label plan agreed object.ext.secctx ≡ name_refused plan agreed what) →
    ((entry : Entry) → MayAnswer (answer.Entry entry) what) →
    FitOn (asking plan who what) [] (begin (make_named plan seat object its)) [] [] blank
fit_named plan seat who what object its misnamed mistargeted forbids refuses answers =
    fit_begin _ refl (λ session.
    fit_name object.name _ misnamed (
    fit_target its _ mistargeted (
    fit_resolve object.parent _ nothing_bare (λ row. after_any_step (
    fit_host_label plan session.agreed object.ext.secctx _ (λ label fails.
    fit_file_of row.row row.form _ (λ dir.
    fit_kind plan seat who what session object its label row.row dir
    (λ errno failed. sym (refuses session.agreed) ∙ fails errno failed) refl refl refl (forbids session)
    answers)))))))
