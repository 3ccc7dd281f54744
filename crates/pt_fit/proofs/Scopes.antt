-- A scope that a call of the seat opens, what is asked within it, and its end: each is fit.
use Rattle.std.proofs.Common.{◌≡◌, ℕ, List, [], ◌∷◌, Bool, true, false, ◌&&◌, if◌then◌else◌, Option, Some, None}
use Rattle.std.proofs.Common.{inl, inr, refl, subst, sym}
use Rattle.pt_host.specs.Words.{Takes.{here}}
use Rattle.pt_host.specs.Call.{Call}
use Rattle.pt_host.specs.declared.ids.Errno.{Errno}
use Rattle.pt_host.specs.declared.ids.Fd.{Fd}
use Rattle.pt_host.specs.Sorts.{sort_of}
use Rattle.pt_host.specs.declared.flags.Caps.{Caps}
use Rattle.pt_host.specs.declared.flags.OpenFlags.{OpenFlags}
use Rattle.pt_host.specs.declared.op.KeptHostOp.TheVariants as call
use Rattle.pt_host.specs.declared.reply.HostReply.TheVariants as host
use Rattle.pt_host.specs.declared.reply.HostValue.TheVariants as value
use Rattle.pt_frame.specs.Deed.{Deed, Calls, Step}
use Rattle.pt_frame.specs.Held.{laid}
use Rattle.pt_frame.specs.Replies.{refusal}
use Rattle.pt_frame.specs.Tree.{RequestTree, Bares, on, go_on}
use Rattle.pt_frame.specs.declared.act.ActReply.{ActReply}
use Rattle.pt_frame.specs.declared.act.ActReply.TheVariants.{Event, Host, NoCopy}
use Rattle.pt_frame.specs.declared.hold.Hold.{Hold}
use Rattle.pt_frame.specs.declared.hold.Hold.TheVariants as hold
use Rattle.pt_req.specs.Capability.{capability_cleared, cleared_if, fsetid, without_fsetid}
use Rattle.pt_req.specs.Steps.{open_scope, try_call, is_gone, is_there, make_at}
use Rattle.pt_req.specs.declared.replies.Made.{Made}
use Rattle.pt_req.specs.declared.replies.Made.TheVariants.{New, Old}
use Rattle.pt_law.specs.Discipline.{Notes, found_by, newly, Knows, KnowsAll, PinsLatest, at_job}
use Rattle.pt_law.specs.Keeps.{MayOpen, uncovered, unscoped}
use Rattle.pt_fit.specs.Cause.{Asking, caused}
use Rattle.pt_fit.specs.Fit.{Fit, IsCausedLeaf}
use Rattle.pt_fit.proofs.Holds.{IsBare, over, uncovered_over}
use Rattle.pt_fit.proofs.Parts.{FitOn, Opened, Seen, Told, held_as, opened_so, still}
use Rattle.pt_fit.proofs.Refused.{refused_by, clearing_heeded}
use Rattle.pt_law.specs.World.{made}

-- a scope is open where its call was Ok
pub fit_open_scope : {asked : Asking} {seen : List Seen} {holds : List Hold} {marks : List ℕ}
    {notes : Notes} (call : Call) (scope : Hold) (next : RequestTree) →
    ((errno : Errno) → caused asked call errno ≡ Some errno) → MayOpen (sort_of call) scope →
    FitOn asked seen next (scope ∷ holds) marks notes →
    FitOn asked seen (open_scope call scope next) holds marks notes
unfolding on go_on
fit_open_scope {asked = asked} {holds = holds} call scope next h may f = record {
  on = λ path s. (
    may,
    elim [
      | Host (host.Ok answered) ↦ λ m. f.on _ (still s)
      | told ↦ λ m. refused_by asked (Calls call) told holds path h m (λ no. no)
    ],
  );
}

-- The scope of the capability opens, where it is to be dropped, and ends behind its call.
pub fit_without_fsetid : {asked : Asking} {seen : List Seen} {holds : List Hold} {marks : List ℕ}
    {notes : Notes} (dropped : Bool) (next : RequestTree) → FitOn asked seen next (over dropped holds) marks notes →
    FitOn asked seen (without_fsetid dropped next) holds marks notes
fit_without_fsetid true next f =
    fit_open_scope (call.DropCap fsetid) (hold.Dropped fsetid) next (λ errno. refl) refl f
fit_without_fsetid false next f = f

pub fit_bares : {asked : Asking} {seen : List Seen} {holds : List Hold} {marks : List ℕ} {notes : Notes}
    (dropped : Bool) (next : RequestTree) → IsBare holds → FitOn asked seen next holds marks notes →
    FitOn asked seen (Bares next) (over dropped holds) marks notes
fit_bares {asked = asked} {holds = holds} {marks = marks} {notes = notes} dropped next b f = record {
  on = λ path s. held_as asked next (uncovered (over dropped holds)) holds marks notes path
      (uncovered_over dropped holds b) (f.on path s);
}

-- A file's capabilities go, whatever is held; that it had none is passed over.
pub fit_cleared : {asked : Asking} {seen : List Seen} {holds : List Hold} {marks : List ℕ} {notes : Notes}
    (name : Option (List ℕ)) (fd : Fd) (through : Bool) (next : RequestTree) → Knows (unscoped holds) fd →
    FitOn asked seen next holds marks notes →
    FitOn asked seen (capability_cleared name fd through next) holds marks notes
unfolding on go_on
fit_cleared None fd through next k f = f
fit_cleared {asked = asked} {seen = seen} {holds = holds} {marks = marks} {notes = notes} (Some name) fd through next k
    f = record {
      on = λ path s. (
        ((k, tt), tt),
        elim [
          | Host (host.Ok told) ↦ λ m. f.on _ (still s)
          | Host (host.Refused errno) ↦
              λ m. or_refused (Host (host.Refused errno)) (is_gone (Host (host.Refused errno))) path s
              (λ no. inr (inl (inl (clearing_heeded asked fd through name errno no))))
          | Host (host.Fault errno) ↦
              λ m. or_refused (Host (host.Fault errno)) (is_gone (Host (host.Refused errno))) path s
              (λ no. inr (inl (inl (clearing_heeded asked fd through name errno no))))
          | Host host.NoMemory ↦ λ m. tt
          | NoCopy ↦ λ m. tt
          | Event told ↦ λ m. absurd m
        ],
      );
    }
  where
    asks : Deed
    asks = Calls (call.RemoveXattr fd through name)

    or_refused : (told : ActReply) (gone : Bool) (path : List Step) → Told seen path →
        (gone ≡ false → IsCausedLeaf asked (made asks told ∷ path) (refusal told)) →
        Fit asked (go_on (λ done. next) told (if gone then Some (tt {0}) else None)) holds marks notes
        (made asks told ∷ path)
    or_refused told true path s caused = f.on (made asks told ∷ path) (still s)
    or_refused told false path s caused = caused refl

-- of a file that an opening emptied
pub fit_cleared_if : {asked : Asking} {seen : List Seen} {holds : List Hold} {marks : List ℕ} {notes : Notes}
    (emptied : Bool) (name : Option (List ℕ)) (fd : Fd) (next : RequestTree) → Knows (unscoped holds) fd →
    FitOn asked seen next holds marks notes → FitOn asked seen (cleared_if emptied name fd next) holds marks notes
fit_cleared_if false name fd next k f = f
fit_cleared_if true name fd next k f = fit_cleared name fd false next k f

-- a capability is raised, or done without
pub fit_raise : {asked : Asking} {seen : List Seen} {holds : List Hold} {marks : List ℕ}
    {notes : Notes} (caps : Caps) (next : RequestTree) → FitOn asked seen next holds marks notes →
    FitOn asked seen (try_call (call.RaiseCap caps) next) holds marks notes
unfolding on go_on
fit_raise caps next f = record {
  on = λ path s. (
    (tt, tt),
    elim [
      | Host told ↦ λ m. f.on _ (still s)
      | Event told ↦ λ m. absurd m
      | NoCopy ↦ λ m. tt
    ],
  );
}

-- scopes lie on these, and nothing else
pub record Covers (holds bare : List Hold) : Type 0 where
  pub uncovers : uncovered holds ≡ bare
  pub unscopes : unscoped holds ≡ bare
  pub lays : (fd : Fd) → uncovered (laid (hold.Fd fd) holds) ≡ hold.Fd fd ∷ bare

-- As whoever asks a name is made in what was resolved last, and the scopes end; or it was there.
pub fit_make_at : {asked : Asking} {seen : List Seen} {marks : List ℕ} {notes : Notes}
    (holds bare : List Hold) (dir : Fd) (name : List ℕ) (flags : OpenFlags) (mode row number : ℕ)
    (may_be : Bool) (next : Made → RequestTree) →
    Covers holds (hold.Pin row (Some dir) ∷ bare) → notes.resolved ≡ Some (record { number = number; row = row }) →
    ((errno : Errno) → (is_there (Host (host.Refused errno)) && may_be) ≡ false →
    caused asked (call.OpenAt dir name flags mode) errno ≡ Some errno) →
    ((fd : Fd) → FitOn asked (Opened name flags mode fd ∷ seen) (next (New fd))
    (hold.Fd fd ∷ hold.Pin row (Some dir) ∷ bare) marks (record (newly fd notes) { latest = found_by flags fd })) →
    (may_be ≡ true → FitOn asked seen (next Old) (hold.Pin row (Some dir) ∷ bare) marks notes) →
    FitOn asked seen (make_at dir name flags mode may_be next) holds marks notes
unfolding on go_on
fit_make_at {asked = asked} {seen = seen} {marks = marks} {notes = notes} holds bare dir name flags mode row number
    may_be next c r h f g = record {
      on = λ path s. (
        subst (λ (all : List Hold). KnowsAll all (dir ∷ []) × PinsLatest (at_job all notes) dir) (sym c.unscopes)
            (((hold.Pin row (Some dir), _, here, refl), tt), (record { number = number; row = row }, _, r, here)),
        elim [
          | Host (host.Ok (value.Fd fd)) ↦ λ m. held_as asked (next (New fd)) _ _ _ _ _ (c.lays fd)
              ((f fd).on _ (opened_so dir name flags mode fd s))
          | Host (host.Refused errno) ↦
              λ m. or_old (Host (host.Refused errno)) (is_there (Host (host.Refused errno))) may_be refl path s
              (λ no. inr (inl (inl (h errno no))))
          | Host (host.Fault errno) ↦
              λ m. or_old (Host (host.Fault errno)) (is_there (Host (host.Fault errno))) may_be refl path s
              (λ no. inr (inl (inl (h errno no))))
          | Host host.NoMemory ↦ λ m. tt
          | NoCopy ↦ λ m. tt
          | told ↦ λ m. absurd m
        ],
      );
    }
  where
    asks : Deed
    asks = Calls (call.OpenAt dir name flags mode)

    or_old : (told : ActReply) (there may : Bool) → may_be ≡ may → (path : List Step) → Told seen path →
        ((there && may) ≡ false → IsCausedLeaf asked (made asks told ∷ path) (refusal told)) →
        Fit asked (go_on next told (if there && may then Some Old else None)) (uncovered holds) marks notes
        (made asks told ∷ path)
    or_old told true true may path s caused =
        held_as asked (next Old) (uncovered holds) (hold.Pin row (Some dir) ∷ bare) marks notes (made asks told ∷ path)
        c.uncovers ((g may).on (made asks told ∷ path) (still s))
    or_old told true false may path s caused = caused refl
    or_old told false other may path s caused = caused refl
