-- The parts of requests are fit, for whatever follows.
use Rattle.std.proofs.Common.{◌≡◌, ◌++◌, ◌∷◌, ◌∙◌, [], if◌then◌else◌, ℕ, Bool, List, None, Option, Some, ap, false}
use Rattle.std.proofs.Common.{inl, inr, refl, true}
use Rattle.pt_host.specs.Errno.{ebadf, errno_of}
use Rattle.pt_host.specs.Flags.{includes, o_trunc}
use Rattle.pt_host.specs.Words.{Takes.{here}}
use Rattle.pt_host.specs.declared.ids.Fd.{Fd}
use Rattle.pt_host.specs.declared.ids.ObjIds.{ObjIds}
use Rattle.pt_host.specs.declared.seat.HostSeat.{HostSeat}
use Rattle.pt_host.specs.declared.stat.Stat.{Stat}
use Rattle.pt_tables.specs.declared.form.Negotiated.{Negotiated}
use Rattle.pt_tables.specs.declared.form.RowForm.{RowForm}
use Rattle.pt_tables.specs.declared.form.RowForm.TheVariants.{File}
use Rattle.pt_iface.specs.declared.answer.Answer.{Answer}
use Rattle.pt_iface.specs.declared.answer.Answer.TheVariants as answer
use Rattle.pt_frame.specs.Deed.{Step}
use Rattle.pt_frame.specs.Held.{row_fd}
use Rattle.pt_frame.specs.Tree.{Gives, RequestTree}
use Rattle.pt_frame.specs.declared.hold.Hold.{Hold}
use Rattle.pt_frame.specs.declared.hold.Hold.TheVariants as hold
use Rattle.pt_req.specs.Capability.{drops_fsetid}
use Rattle.pt_req.specs.Entries.{can_open}
use Rattle.pt_req.specs.Options.{cleaned, inode_flags, without_nofollow}
use Rattle.pt_req.specs.Parts.{by_path, file_of, look_up, looked_of, numbered, open_form, open_num, open_row}
use Rattle.pt_req.specs.Parts.{open_inode, root_open}
use Rattle.pt_req.specs.Requests.{unserved}
use Rattle.pt_req.specs.Steps.{begin}
use Rattle.pt_tables.specs.declared.reply.Resolved.{Resolved}
use Rattle.pt_req.specs.declared.begun.BegunSession.{BegunSession}
use Rattle.pt_req.specs.declared.parts.looked.Looked.{Looked}
use Rattle.pt_req.specs.declared.plan.Plan.{Plan}
use Rattle.pt_attr.specs.Parts.{file_by, files_by, two_files}
use Rattle.pt_attr.specs.declared.parts.TwoFiles.{TwoFiles}
use Rattle.pt_law.specs.Discipline.{Notes, Told, blank, given_for, newly, told_of, with_root}
use Rattle.pt_law.specs.Keeps.{Lasts}
use Rattle.pt_fit.specs.Cause.{Asking, OpensFile, OwnCause}
use Rattle.pt_fit.specs.Fit.{Fit}
use Rattle.pt_fit.proofs.Holds.{IsBare, nothing_bare, over}
use Rattle.pt_fit.proofs.Parts.{FitOn, GoesAfter, fit_begin, fit_brackets, fit_claim, fit_draw_handle, fit_draw_node}
use Rattle.pt_fit.proofs.Parts.{fit_file_of, fit_insert, fit_insert_handle, fit_insert_root, fit_open_at}
use Rattle.pt_fit.proofs.Parts.{fit_open_root, fit_reopen, fit_resolve, fit_resolve_over, fit_shuts}
use Rattle.pt_fit.proofs.Parts.{fit_shuts_passing, fit_stat, fit_take_fd, noting, resolution}
use Rattle.pt_fit.proofs.Parts.{still, Ids, IsToldLast, Opened, Seen}
use Rattle.pt_fit.proofs.Refused.{path_heeded}
use Rattle.pt_fit.proofs.Scopes.{fit_bares, fit_cleared_if, fit_without_fsetid}
use Rattle.pt_fit.proofs.Telling.{told_here, told_past}

-- a leaf
pub fit_gives : {asked : Asking} {seen : List Seen} {holds : List Hold} {marks : List ℕ} {notes : Notes}
    (last : Answer) → ((path : List Step) → Fit asked (Gives last) holds marks notes path) →
    FitOn asked seen (Gives last) holds marks notes
fit_gives last f = record { on = λ path s. f path }

pub after_any_step : {step : Step} {asked : Asking} {seen : List Seen} {tree : RequestTree} {holds : List Hold}
    {marks : List ℕ} {notes : Notes} → FitOn asked seen tree holds marks notes →
    GoesAfter step asked seen tree holds marks notes
after_any_step {step = step} f = record { on = λ path s. f.on (step ∷ path) (still s) }

-- the job is in its session still, and was given this number for what has these ids
pub record WasGiven (notes : Notes) (number : ℕ) (ids : ObjIds) (later : Notes) : Type 0 where
  pub era : later.era ≡ notes.era
  pub given : later.given ≡ Some (given_for number ids)
  -- what was told to have these ids is so still
  pub told : (fd : Fd) → IsToldLast notes fd ids → IsToldLast later fd ids

-- what follows a number that was had, whatever lies between its count and what was held before
abbrev Numbered : Asking → List Seen → ℕ → ObjIds → (ℕ → RequestTree) → List Hold → List ℕ → Notes → Type 0
Numbered asked seen era ids next holds marks notes =
    (number : ℕ) (front : List Hold) (later : Notes) → WasGiven notes number ids later →
    FitOn asked seen (next number) (hold.Count era number ∷ (front ++ holds)) marks later

fit_numbered : {asked : Asking} {seen : List Seen} {holds : List Hold} {marks : List ℕ} {notes : Notes}
    (session : BegunSession) (fd : Fd) (told : Stat) (next : ℕ → RequestTree) (row : ℕ) (dir : Fd) →
    notes.era ≡ Some session.era → notes.latest ≡ Some fd → IsToldLast notes fd told.ids →
    Numbered asked seen session.era told.ids next holds marks notes →
    FitOn asked seen (numbered session (File fd) told next)
    (hold.Fd fd ∷ hold.Pin row (Some dir) ∷ holds) marks notes
fit_numbered session fd told next row dir e l t f =
    let top = hold.Fd fd in
    let pin = hold.Pin row (Some dir) in
    fit_claim session fd told.ids _ e l t
    (λ number. f number (top ∷ pin ∷ []) _ (record { era = refl; given = refl; told = λ other is. is }))
    (fit_take_fd fd _
    (fit_draw_node _ (λ fresh.
    fit_insert session fresh fd told next (λ one. refl) e l refl t
    (λ number. f number (pin ∷ []) _ (record { era = refl; given = refl; told = λ other is. is }))
    (λ number. f number (top ∷ hold.Slot 0 ∷ pin ∷ []) _ (record {
      era = refl;
      given = refl;
      told = λ other is. is;
    })))))

-- the file of a number, whose row is pinned then
pub fit_file_by : {asked : Asking} {seen : List Seen} {holds : List Hold} {marks : List ℕ} {notes : Notes}
    (number : ℕ) (next : Fd → RequestTree) → IsBare holds →
    ((row : ℕ) (fd : Fd) → FitOn asked seen (next fd) (hold.Pin row (Some fd) ∷ holds) marks
    (noting number row notes)) →
    FitOn asked seen (file_by number next) holds marks notes
fit_file_by number next b f =
    fit_resolve number _ b (λ row. after_any_step (fit_file_of row.row row.form next (f row.row)))

-- a file whose row lies under one more hold
under_top : {asked : Asking} {seen : List Seen} {holds : List Hold} {marks : List ℕ} {notes : Notes}
    (top : Hold) (row : ℕ) (form : RowForm) (next : Fd → RequestTree) →
    ((fd : Fd) → FitOn asked seen (next fd) (top ∷ hold.Pin row (Some fd) ∷ holds) marks notes) →
    FitOn asked seen (file_of form next) (top ∷ hold.Pin row (row_fd form) ∷ holds) marks notes
under_top top row (File fd) next f = f fd

-- the files of two numbers, whose rows are pinned then
pub fit_files_by : {asked : Asking} {seen : List Seen} {marks : List ℕ} {notes : Notes} (first second : ℕ)
    (next : TwoFiles → RequestTree) →
    ((one other : ℕ) (from to : Fd) →
    FitOn asked seen (next (two_files from to)) (hold.Pin other (Some to) ∷ hold.Pin one (Some from) ∷ []) marks
    (noting second other (noting first one notes))) →
    FitOn asked seen (files_by first second next) [] marks notes
unfolding files_by
fit_files_by first second next f =
    fit_resolve first _ nothing_bare (λ one. after_any_step (
    fit_resolve second _ (λ top. refl) (λ other. after_any_step (
    under_top (hold.Pin other.row (row_fd other.form)) one.row one.form _ (λ from.
    fit_file_of other.row other.form _ (λ to. f one.row other.row from to))))))

-- what was told lasts
told_lasts : (notes later : Notes) (fd : Fd) (ids : ObjIds) → Lasts notes later → IsToldLast notes fd ids →
    IsToldLast later fd ids
told_lasts notes later fd ids l is = (ap (λ (told : List Told). told_of told fd) l.3 ∙ is.0, l.4)

-- A lookup gives an entry, whose count is the last hold.
abbrev pub Looks : Asking → List Seen → BegunSession → List ℕ → (Looked → RequestTree) → List Hold → List ℕ → Notes →
    Type 0
Looks asked seen session name next holds marks notes =
    (looked : Looked) (found : Fd) (later : Notes) → WasGiven notes looked.entry.inode looked.ids later →
    FitOn asked (Ids found looked.ids ∷ Opened name by_path 0 found ∷ seen) (next looked)
    (hold.Count session.era looked.entry.inode ∷ holds) marks later

pub fit_look_up : {asked : Asking} {seen : List Seen} {holds : List Hold} {marks : List ℕ} {notes : Notes}
    (plan : Plan) (session : BegunSession) (parent : ℕ) (name : List ℕ) (next : Looked → RequestTree) → IsBare holds →
    notes.era ≡ Some session.era → notes.brought ≡ None → Looks asked seen session name next holds marks notes →
    FitOn asked seen (look_up plan session parent name next) holds marks notes
unfolding look_up
fit_look_up {asked = asked} {holds = holds} {notes = notes} plan session parent name next b e n f =
    fit_brackets _ (fit_resolve parent _ b (λ row. after_any_step (fit_file_of row.row row.form _ (λ dir.
    fit_open_at dir name by_path row.row parent _ refl (path_heeded asked dir name) (λ fd.
    fit_stat fd _ (λ told.
    fit_numbered session fd told _ row.row dir e refl (told_here fd told.ids (newly fd notes).told, n)
    (λ number front later l.
    fit_shuts_passing _ (hold.Count session.era number) front holds (λ last m.
    f (looked_of plan session row.ids told number) fd last (record {
      era = m.0 ∙ l.era;
      given = m.2 ∙ l.given;
      told = λ other is.
          told_lasts later last other told.ids m (l.told other (told_past other fd told.ids notes.told is.0, is.1));
    })))))))))

-- the first root that is opened
first_root : (fd : Fd) (notes : Notes) → notes.rooted ≡ false → (with_root fd notes).root ≡ Some fd
first_root fd notes r =
    ap (λ (b : Bool). (if b then notes else record notes { root = Some fd; rooted = true }).root) r

root_lasts : (rooted : Bool) (fd : Fd) (notes : Notes) →
    ((if rooted then notes else record notes { root = Some fd; rooted = true }).era ≡ notes.era)
    × ((if rooted then notes else record notes { root = Some fd; rooted = true }).brought ≡ notes.brought)
root_lasts true fd notes = (refl, refl)
root_lasts false fd notes = (refl, refl)

pub fit_root_open : {asked : Asking} {seen : List Seen} {holds : List Hold} {marks : List ℕ} {notes : Notes}
    (plan : Plan) (session : BegunSession) (agreed : Option Negotiated) (next : RequestTree) → IsBare holds →
    notes.era ≡ Some session.era → notes.rooted ≡ false → notes.brought ≡ None →
    ((fd : Fd) (told : Stat) (later : Notes) → FitOn asked (Ids fd told.ids ∷ seen) next holds marks later) →
    FitOn asked seen (root_open plan session agreed next) holds marks notes
fit_root_open {notes = notes} plan session agreed next b e r n f =
    fit_open_root _ _ _ b (λ fd.
    fit_stat fd _ (λ told.
    let lasts = root_lasts notes.rooted fd (newly fd notes) in
    fit_take_fd fd _
    (fit_insert_root session fd told agreed next (lasts.0 ∙ e) (first_root fd (newly fd notes) r)
    (told_here fd told.ids _, lasts.1 ∙ n) (f fd told _))))

-- what is no regular file and no directory is not opened
fit_open_form : {asked : Asking} {seen : List Seen} {marks : List ℕ} {notes : Notes} (holds : List Hold)
    (dropped : Bool) (row number flags : ℕ) (form : RowForm) (next : Fd → RequestTree) →
    notes.resolved ≡ Some (record { number = number; row = row }) →
    ((dir new : Fd) → FitOn asked seen (next new) (over dropped (hold.Fd new ∷ hold.Pin row (Some dir) ∷ holds))
    marks (record (newly new notes) { reopened = Some new })) →
    FitOn asked seen (open_form form flags next) (over dropped (hold.Pin row (row_fd form) ∷ holds)) marks notes
fit_open_form holds dropped row number flags (File dir) next r f =
    fit_reopen holds dropped dir (without_nofollow flags) row number next r (f dir)

pub fit_open_row : {asked : Asking} {seen : List Seen} {marks : List ℕ} (holds : List Hold) (dropped : Bool)
    (notes : Notes) (number flags : ℕ) (row : Resolved) (next : Fd → RequestTree) → OpensFile asked.request →
    ((dir new : Fd) → FitOn asked seen (next new)
    (over dropped (hold.Fd new ∷ hold.Pin row.row (Some dir) ∷ holds)) marks
    (record (newly new (noting number row.row notes)) { reopened = Some new })) →
    GoesAfter (resolution number row) asked seen (open_row row flags next)
    (over dropped (hold.Pin row.row (row_fd row.form) ∷ holds)) marks (noting number row.row notes)
unfolding open_row
fit_open_row {asked = asked} {seen = seen} {marks = marks} holds dropped notes number flags row next o f =
    kind (can_open row.mode) refl
  where
    kind : (can : Bool) → can_open row.mode ≡ can →
        GoesAfter (resolution number row) asked seen
        (if can then open_form row.form flags next else Gives (answer.Refused ebadf))
        (over dropped (hold.Pin row.row (row_fd row.form) ∷ holds)) marks (noting number row.row notes)
    kind true e = after_any_step (fit_open_form holds dropped row.row number flags row.form next refl f)
    kind false e = record { on = λ path s. (tt, inr (inl (inl (o, e, refl))), tt) }

-- A number is opened anew, in a scope or in none.
pub fit_open_inode : {asked : Asking} {seen : List Seen} {holds : List Hold} {marks : List ℕ} {notes : Notes}
    (dropped : Bool) (plan : Plan) (session : BegunSession) (number flags : ℕ) (next : Fd → RequestTree) →
    OpensFile asked.request → IsBare holds →
    ((row : ℕ) (dir new : Fd) → FitOn asked seen (next new)
    (over dropped (hold.Fd new ∷ hold.Pin row (Some dir) ∷ holds)) marks
    (record (newly new (noting number row notes)) { reopened = Some new })) →
    FitOn asked seen (open_inode plan session number flags next) (over dropped holds) marks notes
fit_open_inode {holds = holds} {notes = notes} dropped plan session number flags next o b f =
    fit_resolve_over dropped number _ b (λ row.
    fit_open_row holds dropped notes number (inode_flags plan.config session.agreed flags) row next o (f row.row))

-- A number is opened by a handle, in a bracket that leaves what was held before.
pub fit_open_num : {asked : Asking} {seen : List Seen} {holds : List Hold} {marks : List ℕ} {notes : Notes}
    (plan : Plan) (seat : HostSeat) (session : BegunSession) (number : ℕ) (kill : Bool) (flags : ℕ)
    (next : ℕ → RequestTree) → OpensFile asked.request → IsBare holds → notes.era ≡ Some session.era →
    ((handle : ℕ) (later : Notes) → FitOn asked seen (next handle) holds marks later) →
    FitOn asked seen (open_num plan seat session number kill flags next) holds marks notes
fit_open_num {holds = holds} plan seat session number kill flags next o b e f =
    let dropped = drops_fsetid plan seat kill in
    fit_brackets _ (fit_without_fsetid dropped _ (
    fit_open_inode dropped plan session number (cleaned plan.config flags) _ o b (λ row dir fd.
    fit_bares dropped _ (λ one. refl) (
    fit_cleared_if (includes flags o_trunc) plan.capability fd _ (hold.Fd fd, _, here, refl) (
    fit_draw_handle _ (λ handle.
    fit_take_fd fd _
    (fit_insert_handle session handle number row fd _ e refl refl refl
    (fit_shuts _ (hold.Pin row (Some dir) ∷ []) holds (λ later l. f handle later)))))))))

-- the function is not there
pub fit_unserved : (asked : Asking) → OwnCause asked.plan asked.who asked.request (errno_of 38) →
    FitOn asked [] (begin unserved) [] [] blank
fit_unserved asked own = fit_begin _ refl (λ session.
    fit_gives (answer.Refused (errno_of 38)) (λ path. (tt, inl own, tt)))
