-- Each step of a request: what may follow its awaited reply is fit, and any other reply refuses the request.
use Rattle.std.proofs.Common.{◌≡◌, inl, inr, ℕ, List, [], ◌∷◌, ◌++◌, Bool, true, false, Option, Some, None, refl, ap}
use Rattle.std.proofs.Common.{◌⊎◌, sym}
use Rattle.std.proofs.Common.{◌∙◌, subst, if◌then◌else◌, length}
use Rattle.pt_host.specs.Words.{Each, Takes.{here, there}}
use Rattle.pt_host.specs.Errno.{einval}
use Rattle.pt_host.specs.declared.ids.Errno.{Errno}
use Rattle.pt_host.specs.declared.ids.Fd.{Fd}
use Rattle.pt_host.specs.declared.ids.ObjIds.{ObjIds}
use Rattle.pt_host.specs.declared.stat.Stat.{Stat}
use Rattle.pt_host.specs.declared.flags.OpenFlags.{OpenFlags}
use Rattle.pt_host.specs.declared.op.KeptHostOp.TheVariants as call
use Rattle.pt_host.specs.declared.reply.HostReply.TheVariants as host
use Rattle.pt_host.specs.declared.reply.HostValue.TheVariants as value
use Rattle.pt_tables.specs.declared.form.RowForm.{RowForm}
use Rattle.pt_tables.specs.declared.form.RowForm.TheVariants.{File}
use Rattle.pt_tables.specs.declared.form.Negotiated.{Negotiated}
use Rattle.pt_tables.specs.declared.event.KeptEvent.TheVariants as change
use Rattle.pt_tables.specs.declared.reply.EventReply.TheVariants as event
use Rattle.pt_iface.specs.declared.answer.Answer.TheVariants as answer
use Rattle.pt_frame.specs.Deed.{Deed, Calls, Changes, Step}
use Rattle.pt_frame.specs.Held.{row_fd, laid}
use Rattle.pt_frame.specs.Tree.{RequestTree, Gives, Brackets, Shuts, on, go_on}
use Rattle.pt_frame.specs.declared.act.ActReply.{ActReply}
use Rattle.pt_frame.specs.declared.act.ActReply.TheVariants.{Event, Host}
use Rattle.pt_frame.specs.declared.hold.Hold.{Hold}
use Rattle.pt_frame.specs.declared.hold.Hold.TheVariants as hold
use Rattle.pt_tables.specs.declared.reply.Resolved.{Resolved}
use Rattle.pt_req.specs.Steps.{session_of, begin, clear, resolve, open_root, open_at, reopen, stat}
use Rattle.pt_req.specs.Steps.{claim, take_fd, draw_node, draw_handle, insert, insert_root, insert_handle, pin_handle}
use Rattle.pt_req.specs.Entries.{is_bad_name, is_bad_offset}
use Rattle.pt_req.specs.Parts.{file_of, named, placed}
use Rattle.pt_req.specs.Steps.{forget_all, release_handle, claim_of, new_row_of, new_root_of, new_handle_of}
use Rattle.pt_req.specs.declared.begun.BegunSession.{BegunSession}
use Rattle.pt_law.specs.Discipline.{Notes, with_root, unnoted, found_by, given_for, with_given, KnowsAll, PinsLatest}
use Rattle.pt_law.specs.Discipline.{at_job, newly, told_as, told_of}
use Rattle.pt_law.specs.Keeps.{Lasts, LiesOnSlot.{here as lies, there as under}, down_to}
use Rattle.pt_law.proofs.Sounds.{after_any}
use Rattle.pt_fit.specs.Cause.{Asking, OpensOn, OwnCause, Shows, SomeShows, WasTold, caused, name_refused}
use Rattle.pt_fit.specs.Fit.{Fit}
use Rattle.pt_fit.proofs.Holds.{IsBare, handed_top, down_over, over, laid_over, unscoped_over}
use Rattle.pt_fit.proofs.Refused.{refused_by}
use Rattle.pt_law.specs.World.{made}

-- what was told: a name was opened so, a descriptor is open on what has these ids, or this was agreed on
pub data Seen : Type 0 where
  Opened : List ℕ → OpenFlags → ℕ → Fd → Seen
  Ids : Fd → ObjIds → Seen
  Agreed : Negotiated → Seen

-- a step by which a job began told that this was agreed on
abbrev pub SomeBegins : List Step → Negotiated → Type 0
SomeBegins [] agreed = ⊥
SomeBegins (step ∷ path) agreed =
    ((step.deed ≡ Some (Changes change.Begin)) × ((era : ℕ) × (step.reply ≡ Event (event.Began era agreed))))
    ⊎ SomeBegins path agreed

abbrev pub IsSeen : List Step → Seen → Type 0
IsSeen path (Opened name flags mode fd) =
    (dir : Fd) × WasTold (call.OpenAt dir name flags mode) (value.Fd fd) path
IsSeen path (Ids fd ids) = (stat : Stat) × WasTold (call.Stat fd) (value.Stat stat) path × (stat.ids ≡ ids)
IsSeen path (Agreed agreed) = SomeBegins path agreed

-- what was opened so is open on that
pub opens_on : (path : List Step) (name : List ℕ) (flags : OpenFlags) (mode : ℕ) (fd : Fd) (ids : ObjIds) →
    IsSeen path (Opened name flags mode fd) → IsSeen path (Ids fd ids) → OpensOn name flags mode ids path
opens_on path name flags mode fd ids (dir, opened) (stat, looked, are) = (dir, fd, stat, opened, looked, are)

-- on this path that was told
pub record Told (seen : List Seen) (path : List Step) : Type 0 where
  pub each : Each (IsSeen path) seen

told_still : (step : Step) (path : List Step) (seen : List Seen) → Each (IsSeen path) seen →
    Each (IsSeen (step ∷ path)) seen
told_still step path [] t = tt
told_still step path (Opened name flags mode fd ∷ seen) t = ((t.0.0, inr t.0.1), told_still step path seen t.1)
told_still step path (Ids fd ids ∷ seen) t = ((t.0.0, inr t.0.1, t.0.2), told_still step path seen t.1)
told_still step path (Agreed agreed ∷ seen) t = (inr t.0, told_still step path seen t.1)

pub still : {step : Step} {seen : List Seen} {path : List Step} → Told seen path → Told seen (step ∷ path)
still {step = step} {seen = seen} {path = path} t = record { each = told_still step path seen t.each }

-- a name was opened
pub opened_so : {seen : List Seen} {path : List Step} (dir : Fd) (name : List ℕ) (flags : OpenFlags) (mode : ℕ)
    (fd : Fd) → Told seen path →
    Told (Opened name flags mode fd ∷ seen)
    (made (Calls (call.OpenAt dir name flags mode)) (Host (host.Ok (value.Fd fd))) ∷ path)
opened_so {seen = seen} {path = path} dir name flags mode fd t =
    let step = made (Calls (call.OpenAt dir name flags mode)) (Host (host.Ok (value.Fd fd))) in
    record { each = ((dir, inl (refl, refl)), told_still step path seen t.each) }

-- a descriptor was looked at
looked_at : {seen : List Seen} {path : List Step} (fd : Fd) (told : Stat) → Told seen path →
    Told (Ids fd told.ids ∷ seen) (made (Calls (call.Stat fd)) (Host (host.Ok (value.Stat told))) ∷ path)
looked_at {seen = seen} {path = path} fd told t =
    let step = made (Calls (call.Stat fd)) (Host (host.Ok (value.Stat told))) in
    record { each = ((told, inl (refl, refl), refl), told_still step path seen t.each) }

-- it began
began_with : {seen : List Seen} {path : List Step} (era : ℕ) (agreed : Negotiated) → Told seen path →
    Told (Agreed agreed ∷ seen) (made (Changes change.Begin) (Event (event.Began era agreed)) ∷ path)
began_with {seen = seen} {path = path} era agreed t =
    let step = made (Changes change.Begin) (Event (event.Began era agreed)) in
    record { each = (inl (refl, (era, refl)), told_still step path seen t.each) }

-- what was agreed on so is the cause that a name is refused
pub blocked_by : (asked : Asking) (path : List Step) (agreed : Negotiated) (errno : Errno) →
    name_refused asked.plan agreed asked.request ≡ Some errno → SomeBegins path agreed → SomeShows asked path errno
blocked_by asked [] agreed errno refuses s = absurd s
blocked_by asked (step ∷ path) agreed errno refuses (inl begun) =
    inl (subst (λ (deed : Option Deed). Shows asked deed step.reply errno) (sym begun.0)
    (subst (λ (told : ActReply). Shows asked (Some (Changes change.Begin)) told errno) (sym begun.1.1) refuses))
blocked_by asked (step ∷ path) agreed errno refuses (inr later) =
    inr (blocked_by asked path agreed errno refuses later)

-- fit whatever the path to it was, if this was told on it
pub record FitOn
    (asked : Asking)
    (seen : List Seen)
    (tree : RequestTree)
    (holds : List Hold)
    (marks : List ℕ)
    (notes : Notes)
    : Type 0 where
  pub on : (path : List Step) → Told seen path → Fit asked tree holds marks notes path

-- fit after this step, whatever the path to it was
pub record GoesAfter
    (step : Step)
    (asked : Asking)
    (seen : List Seen)
    (tree : RequestTree)
    (holds : List Hold)
    (marks : List ℕ)
    (notes : Notes)
    : Type 0 where
  pub on : (path : List Step) → Told seen path → Fit asked tree holds marks notes (step ∷ path)

-- with what is held written in another way
pub held_as : (asked : Asking) (tree : RequestTree) (these those : List Hold) (marks : List ℕ) (notes : Notes)
    (path : List Step) → these ≡ those → Fit asked tree those marks notes path → Fit asked tree these marks notes path
held_as asked tree these those marks notes path e f =
    subst (λ (z : List Hold). Fit asked tree z marks notes path) (sym e) f

pub fit_begin : {asked : Asking} {seen : List Seen} {holds : List Hold} {marks : List ℕ}
    {notes : Notes}
    (next : BegunSession → RequestTree) → notes.era ≡ None →
    ((session : BegunSession) → FitOn asked (Agreed session.agreed ∷ seen) (next session) holds marks
    (record notes { era = Some session.era })) →
    FitOn asked seen (begin next) holds marks notes
unfolding on go_on
fit_begin {asked = asked} {holds = holds} next none f = record {
  on = λ path s. (
    (tt, none),
    elim [
      | Event (event.Began era agreed) ↦ λ m. (f (session_of era agreed)).on _ (began_with era agreed s)
      | told ↦ λ m. refused_by asked (Changes change.Begin) told holds path tt m (λ no. no)
    ],
  );
}

pub fit_clear : {asked : Asking} {seen : List Seen} {holds : List Hold} {marks : List ℕ}
    {notes : Notes} (next : ℕ → RequestTree) →
    notes.era ≡ None → notes.brought ≡ None →
    ((era : ℕ) (later : Notes) → Lasts (record notes { era = Some era }) later →
    FitOn asked seen (next era) holds marks later) →
    FitOn asked seen (clear next) holds marks notes
unfolding on go_on
fit_clear {asked = asked} {holds = holds} {notes = notes} next none n f = record {
  on = λ path s. (
    (tt, none),
    elim [
      | Event (event.Cleared era closings) ↦
          λ m. after_any closings _ (record notes { era = Some era }) n (λ later l. (f era later l).on _ (still s))
      | told ↦ λ m. refused_by asked (Changes change.Clear) told holds path tt m (λ no. no)
    ],
  );
}

-- what is noted where a descriptor was looked at
abbrev pub looked_by : Fd → ObjIds → Notes → Notes
looked_by fd ids notes = record notes { given = None; told = told_as fd (Some ids) ∷ notes.told }

-- these ids were told of it last, and nothing that a closing brought is to be closed
abbrev pub IsToldLast : Notes → Fd → ObjIds → Type 0
IsToldLast notes fd ids = (told_of notes.told fd ≡ Some ids) × (notes.brought ≡ None)

-- the step that resolved it so
abbrev pub resolution : ℕ → Resolved → Step
resolution number row =
    made (Changes (change.Resolve number)) (Event (event.Resolved row))

-- what is noted where a number was resolved
abbrev pub noting : ℕ → ℕ → Notes → Notes
noting number row notes = record notes {
  resolved = Some (record { number = number; row = row });
  reopened = None;
  given = None;
}

pub fit_resolve_over : {asked : Asking} {seen : List Seen} {holds : List Hold} {marks : List ℕ}
    {notes : Notes} (dropped : Bool) (number : ℕ)
    (next : Resolved → RequestTree) → IsBare holds →
    ((row : Resolved) → GoesAfter (resolution number row) asked seen (next row)
    (over dropped (hold.Pin row.row (row_fd row.form) ∷ holds)) marks (noting number row.row notes)) →
    FitOn asked seen (resolve number next) (over dropped holds) marks notes
unfolding on go_on
fit_resolve_over {asked = asked} {holds = holds} dropped number next b f = record {
  on = λ path s. (
    (tt, tt),
    elim [
      | Event (event.Resolved resolved) ↦
          λ m. held_as asked (next resolved) _ _ _ _ _
          (laid_over dropped (hold.Pin resolved.row (row_fd resolved.form)) holds
          ∙ ap (λ (z : List Hold). over dropped z) (b (hold.Pin resolved.row (row_fd resolved.form))))
          ((f resolved).on path s)
      | told ↦ λ m. refused_by asked (Changes (change.Resolve number)) told (over dropped holds) path tt m (λ no. no)
    ],
  );
}

pub fit_resolve : {asked : Asking} {seen : List Seen} {holds : List Hold} {marks : List ℕ}
    {notes : Notes} (number : ℕ)
    (next : Resolved → RequestTree) → IsBare holds →
    ((row : Resolved) → GoesAfter (resolution number row) asked seen (next row)
    (hold.Pin row.row (row_fd row.form) ∷ holds) marks (noting number row.row notes)) →
    FitOn asked seen (resolve number next) holds marks notes
fit_resolve number next b f = fit_resolve_over false number next b f

pub fit_open_root : {asked : Asking} {seen : List Seen} {holds : List Hold} {marks : List ℕ}
    {notes : Notes} (dir : List ℕ)
    (flags : OpenFlags) (next : Fd → RequestTree) → IsBare holds →
    ((fd : Fd) → FitOn asked seen (next fd) (hold.Fd fd ∷ holds) marks (with_root fd (newly fd notes))) →
    FitOn asked seen (open_root dir flags next) holds marks notes
unfolding on go_on
fit_open_root {asked = asked} {holds = holds} dir flags next b f = record {
  on = λ path s. (
    (tt, tt),
    elim [
      | Host (host.Ok (value.Fd fd)) ↦
          λ m. held_as asked (next fd) _ _ _ _ _ (b (hold.Fd fd)) ((f fd).on _ (still s))
      | told ↦ λ m. refused_by asked (Calls (call.OpenRoot dir flags)) told holds path (λ errno. refl) m (λ no. no)
    ],
  );
}

-- the file of a row that was resolved
pub fit_file_of : {asked : Asking} {seen : List Seen} {holds : List Hold} {marks : List ℕ}
    {notes : Notes} (row : ℕ) (form : RowForm)
    (next : Fd → RequestTree) →
    ((dir : Fd) → FitOn asked seen (next dir) (hold.Pin row (Some dir) ∷ holds) marks notes) →
    FitOn asked seen (file_of form next) (hold.Pin row (row_fd form) ∷ holds) marks notes
fit_file_of row (File dir) next f = f dir

pub fit_open_at : {asked : Asking} {seen : List Seen} {holds : List Hold} {marks : List ℕ}
    {notes : Notes} (dir : Fd) (name : List ℕ)
    (flags : OpenFlags) (row number : ℕ) (next : Fd → RequestTree) →
    notes.resolved ≡ Some (record { number = number; row = row }) →
    ((errno : Errno) → caused asked (call.OpenAt dir name flags 0) errno ≡ Some errno) →
    ((fd : Fd) → FitOn asked (Opened name flags 0 fd ∷ seen) (next fd)
    (hold.Fd fd ∷ hold.Pin row (Some dir) ∷ holds) marks
    (record (newly fd notes) { latest = found_by flags fd })) →
    FitOn asked seen (open_at dir name flags next) (hold.Pin row (Some dir) ∷ holds) marks notes
unfolding on go_on
fit_open_at {asked = asked} {holds = holds} dir name flags row number next r h f = record {
  on = λ path s. (
    (((hold.Pin row (Some dir), _, here, refl), tt), (record { number = number; row = row }, _, r, here)),
    elim [
      | Host (host.Ok (value.Fd fd)) ↦ λ m. (f fd).on _ (opened_so dir name flags 0 fd s)
      | told ↦ λ m. refused_by asked (Calls (call.OpenAt dir name flags 0)) told holds path h m (λ no. no)
    ],
  );
}

pub fit_reopen : {asked : Asking} {seen : List Seen} {marks : List ℕ} {notes : Notes} (holds : List Hold)
    (dropped : Bool) (fd : Fd) (flags : OpenFlags)
    (row number : ℕ) (next : Fd → RequestTree) → notes.resolved ≡ Some (record { number = number; row = row }) →
    ((new : Fd) → FitOn asked seen (next new) (over dropped (hold.Fd new ∷ hold.Pin row (Some fd) ∷ holds)) marks
    (record (newly new notes) { reopened = Some new })) →
    FitOn asked seen (reopen fd flags next) (over dropped (hold.Pin row (Some fd) ∷ holds)) marks notes
unfolding on go_on
fit_reopen {asked = asked} {notes = notes} holds dropped fd flags row number next r f = record {
  on = λ path s. (
    subst (λ (all : List Hold). KnowsAll all (fd ∷ []) × PinsLatest (at_job all notes) fd)
        (sym (unscoped_over dropped (hold.Pin row (Some fd) ∷ holds)))
        (((hold.Pin row (Some fd), _, here, refl), tt), (record { number = number; row = row }, _, r, here)),
    elim [
      | Host (host.Ok (value.Fd new)) ↦
          λ m. held_as asked (next new) _ _ _ _ _
          (laid_over dropped (hold.Fd new) (hold.Pin row (Some fd) ∷ holds))
          ((f new).on _ (still s))
      | told ↦ λ m. refused_by asked (Calls (call.Reopen fd flags)) told
          (over dropped (hold.Pin row (Some fd) ∷ holds)) path (λ errno. refl) m (λ no. no)
    ],
  );
}

pub fit_stat : {asked : Asking} {seen : List Seen} {holds : List Hold} {marks : List ℕ}
    {notes : Notes} (fd : Fd) (next : Stat → RequestTree) →
    ((told : Stat) → FitOn asked (Ids fd told.ids ∷ seen) (next told) (hold.Fd fd ∷ holds) marks
    (looked_by fd told.ids notes)) →
    FitOn asked seen (stat fd next) (hold.Fd fd ∷ holds) marks notes
unfolding on go_on
fit_stat {asked = asked} {holds = holds} fd next f = record {
  on = λ path s. (
    (((hold.Fd fd, _, here, refl), tt), tt),
    elim [
      | Host (host.Ok (value.Stat told)) ↦
          λ m. (f told).on _ (looked_at fd told s)
      | told ↦ λ m. refused_by asked (Calls (call.Stat fd)) told holds path (λ errno. refl) m (λ no. no)
    ],
  );
}

pub fit_claim : {asked : Asking} {seen : List Seen} {holds : List Hold} {marks : List ℕ}
    {notes : Notes} (session : BegunSession)
    (fd : Fd) (ids : ObjIds) (next : Option ℕ → RequestTree) →
    notes.era ≡ Some session.era → notes.latest ≡ Some fd → IsToldLast notes fd ids →
    ((number : ℕ) → FitOn asked seen (next (Some number)) (hold.Count session.era number ∷ hold.Fd fd ∷ holds)
    marks (with_given number ids notes)) →
    FitOn asked seen (next None) (hold.Fd fd ∷ holds) marks notes →
    FitOn asked seen (claim session None ids next) (hold.Fd fd ∷ holds) marks notes
unfolding on go_on
fit_claim {asked = asked} {holds = holds} session fd ids next e l t f g = record {
  on = λ path s. (
    (tt, (fd, e, l, (_, here, t.0, t.1))),
    elim [
      | Event (event.Claimed given) ↦ λ m. (f given.number).on _ (still s)
      | Event event.Absent ↦ λ m. g.on _ (still s)
      | told ↦ λ m. refused_by asked (Changes (change.Claim (claim_of session.era None ids))) told holds path tt m
          (λ no. no)
    ],
  );
}

pub fit_take_fd : {asked : Asking} {seen : List Seen} {holds : List Hold} {marks : List ℕ}
    {notes : Notes} (fd : Fd) (next : RequestTree) →
    FitOn asked seen next (hold.Fd fd ∷ hold.Slot 0 ∷ holds) marks notes →
    FitOn asked seen (take_fd next) (hold.Fd fd ∷ holds) marks notes
unfolding on go_on
fit_take_fd {asked = asked} {holds = holds} fd next f = record {
  on = λ path s. (
    (tt, tt),
    elim [
      | Event event.Taken ↦ λ m. f.on _ (still s)
      | told ↦ λ m. refused_by asked (Changes (change.TakeFd 0)) told holds path tt m (λ no. no)
    ],
  );
}

pub fit_draw_node : {asked : Asking} {seen : List Seen} {holds : List Hold} {marks : List ℕ}
    {notes : Notes} (next : ℕ → RequestTree) →
    ((number : ℕ) → FitOn asked seen (next number) holds marks (record notes { drawn = Some number })) →
    FitOn asked seen (draw_node next) holds marks notes
unfolding on go_on
fit_draw_node {asked = asked} {holds = holds} next f = record {
  on = λ path s. (
    (tt, tt),
    elim [
      | Event (event.Drawn number) ↦ λ m. (f number).on _ (still s)
      | told ↦ λ m. refused_by asked (Changes change.DrawNode) told holds path tt m (λ no. no)
    ],
  );
}

pub fit_draw_handle : {asked : Asking} {seen : List Seen} {holds : List Hold} {marks : List ℕ}
    {notes : Notes} (next : ℕ → RequestTree) →
    ((handle : ℕ) → FitOn asked seen (next handle) holds marks (record notes { handle = Some handle })) →
    FitOn asked seen (draw_handle next) holds marks notes
unfolding on go_on
fit_draw_handle {asked = asked} {holds = holds} next f = record {
  on = λ path s. (
    (tt, tt),
    elim [
      | Event (event.Drawn handle) ↦ λ m. (f handle).on _ (still s)
      | told ↦ λ m. refused_by asked (Changes change.DrawHandle) told holds path tt m (λ no. no)
    ],
  );
}

-- a new row takes the descriptor on top and its slot; or the object has a number
pub fit_insert : {asked : Asking} {seen : List Seen} {holds : List Hold} {marks : List ℕ}
    {notes : Notes} (session : BegunSession)
    (fresh : ℕ) (fd : Fd) (told : Stat) (next : ℕ → RequestTree) → IsBare holds → notes.era ≡ Some session.era →
    notes.latest ≡ Some fd → notes.drawn ≡ Some fresh → IsToldLast notes fd told.ids →
    ((number : ℕ) → FitOn asked seen (next number) (hold.Count session.era number ∷ holds) marks
    (record (with_given number told.ids (unnoted fd notes)) { drawn = None })) →
    ((number : ℕ) → FitOn asked seen (next number)
    (hold.Count session.era number ∷ hold.Fd fd ∷ hold.Slot 0 ∷ holds) marks
    (with_given number told.ids notes)) →
    FitOn asked seen (insert session fresh (File fd) told next)
    (hold.Fd fd ∷ hold.Slot 0 ∷ holds) marks notes
unfolding on go_on
fit_insert {asked = asked} {holds = holds} session fresh fd told next b e l d t f g = record {
  on = λ path s. (
    (lies, (e, l, d, (_, here, t.0, t.1))),
    elim [
      | Event (event.Inserted number) ↦
          λ m. held_as asked (next number) _ _ _ _ _
          (ap (laid (hold.Count session.era number)) (handed_top fd holds)
          ∙ b (hold.Count session.era number)) ((f number).on _ (still s))
      | Event (event.Found given) ↦ λ m. (g given.number).on _ (still s)
      | reply ↦ λ m. refused_by asked
          (Changes (change.Insert (new_row_of session.era fresh (File fd) told))) reply
          (hold.Fd fd ∷ hold.Slot 0 ∷ holds) path lies m (λ no. no)
    ],
  );
}

pub fit_insert_root : {asked : Asking} {seen : List Seen} {holds : List Hold} {marks : List ℕ}
    {notes : Notes} (session : BegunSession)
    (fd : Fd) (told : Stat) (agreed : Option Negotiated) (next : RequestTree) → notes.era ≡ Some session.era →
    notes.root ≡ Some fd → IsToldLast notes fd told.ids → FitOn asked seen next holds marks (unnoted fd notes) →
    FitOn asked seen (insert_root session (File fd) told agreed next)
    (hold.Fd fd ∷ hold.Slot 0 ∷ holds) marks notes
unfolding on go_on
fit_insert_root {asked = asked} {holds = holds} session fd told agreed next e r t f = record {
  on = λ path s. (
    (lies, (e, r, (_, here, t.0, t.1))),
    elim [
      | Event (event.Inserted number) ↦
          λ m. held_as asked next _ _ _ _ _ (handed_top fd holds) (f.on _ (still s))
      | reply ↦ λ m. refused_by asked
          (Changes (change.InsertRoot (new_root_of session.era (File fd) told agreed))) reply
          (hold.Fd fd ∷ hold.Slot 0 ∷ holds) path lies m (λ no. no)
    ],
  );
}

pub fit_insert_handle : {asked : Asking} {seen : List Seen} {holds : List Hold} {marks : List ℕ}
    {notes : Notes}
    (session : BegunSession) (handle number row : ℕ) (fd : Fd) (next : RequestTree) →
    notes.era ≡ Some session.era → notes.handle ≡ Some handle →
    notes.resolved ≡ Some (record { number = number; row = row }) →
    notes.reopened ≡ Some fd → FitOn asked seen next holds marks (record (unnoted fd notes) { handle = None }) →
    FitOn asked seen (insert_handle session handle number fd next) (hold.Fd fd ∷ hold.Slot 0 ∷ holds) marks notes
unfolding on go_on
fit_insert_handle {asked = asked} {holds = holds} session handle number row fd next e h r o f = record {
  on = λ path s. (
    (lies, (e, h, inl (row, r, o))),
    elim [
      | Event (event.Inserted given) ↦ λ m. held_as asked next _ _ _ _ _ (handed_top fd holds) (f.on _ (still s))
      | reply ↦ λ m. refused_by asked (Changes (change.InsertHandle (new_handle_of session.era handle number fd))) reply
          (hold.Fd fd ∷ hold.Slot 0 ∷ holds) path lies m (λ no. no)
    ],
  );
}

pub fit_pin_handle : {asked : Asking} {seen : List Seen} {holds : List Hold} {marks : List ℕ}
    {notes : Notes} (handle number : ℕ)
    (next : Fd → RequestTree) → IsBare holds →
    ((row : ℕ) (fd : Fd) → FitOn asked seen (next fd) (hold.HandlePin row fd ∷ holds) marks notes) →
    FitOn asked seen (pin_handle handle number next) holds marks notes
unfolding on go_on
fit_pin_handle {asked = asked} {holds = holds} handle number next b f = record {
  on = λ path s. (
    (tt, tt),
    elim [
      | Event (event.Pinned row fd) ↦
          λ m. held_as asked (next fd) _ _ _ _ _ (b (hold.HandlePin row fd)) ((f row fd).on _ (still s))
      | told ↦ λ m. refused_by asked (Changes (change.PinHandle handle number)) told holds path tt m (λ no. no)
    ],
  );
}

pub fit_forget_all : {asked : Asking} {seen : List Seen} {holds : List Hold} {marks : List ℕ}
    {notes : Notes} (list : List (ℕ × ℕ))
    (next : RequestTree) → notes.brought ≡ None →
    ((later : Notes) → Lasts notes later → FitOn asked seen next holds marks later) →
    FitOn asked seen (forget_all list next) holds marks notes
unfolding on go_on
fit_forget_all {asked = asked} {holds = holds} {notes = notes} list next n f = record {
  on = λ path s. (
    (tt, tt),
    elim [
      | Event (event.Done closings) ↦ λ m. after_any closings _ notes n (λ later l. (f later l).on _ (still s))
      | told ↦ λ m. refused_by asked (Changes (change.Forget list)) told holds path tt m (λ no. no)
    ],
  );
}

pub fit_release_handle : {asked : Asking} {seen : List Seen} {holds : List Hold} {marks : List ℕ}
    {notes : Notes} (handle number : ℕ)
    (next : RequestTree) → notes.brought ≡ None →
    ((later : Notes) → Lasts notes later → FitOn asked seen next holds marks later) →
    FitOn asked seen (release_handle handle number next) holds marks notes
unfolding on go_on
fit_release_handle {asked = asked} {holds = holds} {notes = notes} handle number next n f = record {
  on = λ path s. (
    (tt, tt),
    elim [
      | Event (event.Done closings) ↦ λ m. after_any closings _ notes n (λ later l. (f later l).on _ (still s))
      | told ↦ λ m. refused_by asked (Changes (change.Release handle number)) told holds path tt m (λ no. no)
    ],
  );
}

-- a check of the request's own, which is refused with this cause
pub fit_checked : {asked : Asking} {seen : List Seen} {holds : List Hold} {marks : List ℕ}
    {notes : Notes} (bad : Bool)
    (next : RequestTree) → (bad ≡ true → OwnCause asked.plan asked.who asked.request einval) →
    FitOn asked seen next holds marks notes →
    FitOn asked seen (if bad then Gives (answer.Refused einval) else next) holds marks notes
fit_checked true next c f = record { on = λ path s. (tt, inl (c refl), tt) }
fit_checked false next c f = f

-- a name that is none, an offset that is none
pub fit_name : {asked : Asking} {seen : List Seen} {holds : List Hold} {marks : List ℕ}
    {notes : Notes} (name : List ℕ)
    (next : RequestTree) → (is_bad_name name ≡ true → OwnCause asked.plan asked.who asked.request einval) →
    FitOn asked seen next holds marks notes → FitOn asked seen (named name next) holds marks notes
unfolding named
fit_name name next c f = fit_checked (is_bad_name name) next c f

pub fit_place : {asked : Asking} {seen : List Seen} {holds : List Hold} {marks : List ℕ}
    {notes : Notes} (offset : ℕ)
    (next : RequestTree) → (is_bad_offset offset ≡ true → OwnCause asked.plan asked.who asked.request einval) →
    FitOn asked seen next holds marks notes → FitOn asked seen (placed offset next) holds marks notes
unfolding placed
fit_place offset next c f = fit_checked (is_bad_offset offset) next c f

-- the newest descriptor gets a slot, where a count lies on it
pub fit_take_under : {asked : Asking} {seen : List Seen} {holds : List Hold} {marks : List ℕ}
    {notes : Notes} (era number : ℕ) (fd : Fd) (next : RequestTree) →
    FitOn asked seen next (hold.Count era number ∷ hold.Fd fd ∷ hold.Slot 0 ∷ holds) marks notes →
    FitOn asked seen (take_fd next) (hold.Count era number ∷ hold.Fd fd ∷ holds) marks notes
unfolding on go_on
fit_take_under {asked = asked} {holds = holds} era number fd next f = record {
  on = λ path s. (
    (tt, tt),
    elim [
      | Event event.Taken ↦ λ m. f.on _ (still s)
      | told ↦ λ m. refused_by asked (Changes (change.TakeFd 0)) told holds path tt m (λ no. no)
    ],
  );
}

-- what has the ids for which the number was given gets a handle by it
pub fit_insert_given : {asked : Asking} {seen : List Seen} {holds : List Hold} {marks : List ℕ}
    {notes : Notes} (session : BegunSession) (handle era number : ℕ) (fd : Fd) (ids : ObjIds) (next : RequestTree) →
    notes.era ≡ Some session.era → notes.handle ≡ Some handle → notes.given ≡ Some (given_for number ids) →
    IsToldLast notes fd ids →
    FitOn asked seen next (hold.Count era number ∷ holds) marks (record (unnoted fd notes) { handle = None }) →
    FitOn asked seen (insert_handle session handle number fd next)
    (hold.Count era number ∷ hold.Fd fd ∷ hold.Slot 0 ∷ holds) marks notes
unfolding on go_on
fit_insert_given {asked = asked} {holds = holds} session handle era number fd ids next e h g t f = record {
  on = λ path s. (
    (under refl lies, (e, h, inr (ids, g, (_, there here, t.0, t.1)))),
    elim [
      | Event (event.Inserted given) ↦
          λ m. held_as asked next _ _ _ _ _
          (ap (λ (z : List Hold). hold.Count era number ∷ z) (handed_top fd holds)) (f.on _ (still s))
      | reply ↦ λ m. refused_by asked (Changes (change.InsertHandle (new_handle_of session.era handle number fd))) reply
          (hold.Count era number ∷ hold.Fd fd ∷ hold.Slot 0 ∷ holds) path (under refl lies) m
          (λ no. no)
    ],
  );
}

-- a bracket begins; where it ends, what was taken in it is given back, and the last hold may pass
pub fit_brackets : {asked : Asking} {seen : List Seen} {holds : List Hold} {marks : List ℕ}
    {notes : Notes} (rest : RequestTree) →
    FitOn asked seen rest holds (length holds ∷ marks) notes → FitOn asked seen (Brackets rest) holds marks notes
fit_brackets rest f = record { on = f.on }

pub fit_shuts : {asked : Asking} {seen : List Seen} {marks : List ℕ} {notes : Notes} (rest : RequestTree)
    (front holds : List Hold) →
    ((later : Notes) → Lasts notes later → FitOn asked seen rest holds marks later) →
    FitOn asked seen (Shuts false rest) (front ++ holds) (length holds ∷ marks) notes
fit_shuts {asked = asked} {marks = marks} rest front holds f = record {
  on = λ path s later l. held_as asked rest (down_to (length holds) (front ++ holds)) holds marks later path
      (down_over front holds) ((f later l).on path s);
}

pub fit_shuts_passing : {asked : Asking} {seen : List Seen} {marks : List ℕ} {notes : Notes} (rest : RequestTree)
    (one : Hold) (front holds : List Hold) →
    ((later : Notes) → Lasts notes later → FitOn asked seen rest (one ∷ holds) marks later) →
    FitOn asked seen (Shuts true rest) (one ∷ (front ++ holds)) (length holds ∷ marks) notes
fit_shuts_passing {asked = asked} {marks = marks} rest one front holds f = record {
  on = λ path s later l. held_as asked rest (one ∷ down_to (length holds) (front ++ holds)) (one ∷ holds) marks later
      path (ap (λ (z : List Hold). one ∷ z) (down_over front holds)) ((f later l).on path s);
}
