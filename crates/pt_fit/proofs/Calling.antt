-- The calls on what is open: what may follow the awaited reply is fit, and any other reply refuses the request.
use Rattle.std.proofs.Common.{◌≡◌, ℕ, List, ◌∷◌, Some, refl, sym, subst}
use Rattle.pt_host.specs.Call.{Call}
use Rattle.pt_host.specs.Promises.{FitsCall}
use Rattle.pt_host.specs.Words.{Takes.{here}}
use Rattle.pt_host.specs.declared.ids.Fd.{Fd}
use Rattle.pt_host.specs.declared.op.KeptHostOp.TheVariants as call
use Rattle.pt_host.specs.declared.reply.HostReply.TheVariants as host
use Rattle.pt_host.specs.declared.reply.HostValue.{HostValue}
use Rattle.pt_host.specs.declared.reply.HostValue.TheVariants as value
use Rattle.pt_host.specs.declared.stat.FsStat.{FsStat}
use Rattle.pt_host.specs.declared.stat.Stat.{Stat}
use Rattle.pt_frame.specs.Deed.{Calls}
use Rattle.pt_frame.specs.Held.{held}
use Rattle.pt_frame.specs.Tree.{RequestTree, on, go_on}
use Rattle.pt_frame.specs.declared.act.ActReply.{ActReply}
use Rattle.pt_frame.specs.declared.act.ActReply.TheVariants.{Host}
use Rattle.pt_frame.specs.declared.hold.Hold.{Hold}
use Rattle.pt_frame.specs.declared.hold.Hold.TheVariants as hold
use Rattle.pt_req.specs.Steps.{read_at, stat}
use Rattle.pt_attr.specs.Steps.{count_of, do_call, read_link, stat_fs}
use Rattle.pt_law.specs.Discipline.{Notes, notes_after}
use Rattle.pt_law.specs.Keeps.{MayMake}
use Rattle.pt_fit.specs.Cause.{Asking}
use Rattle.pt_fit.specs.Fit.{Fit}
use Rattle.pt_fit.proofs.Parts.{FitOn, GoesAfter, Seen, held_as, looked_by, still}
use Rattle.pt_fit.proofs.Refused.{IsHeeded, refused_by}
use Rattle.pt_law.specs.World.{made}

pub fit_read_at : {asked : Asking} {seen : List Seen} {holds : List Hold} {marks : List ℕ}
    {notes : Notes} (fd : Fd)
    (offset size row : ℕ) (next : List ℕ → RequestTree) →
    ((bytes : List ℕ) → FitOn asked seen (next bytes) (hold.HandlePin row fd ∷ holds) marks notes) →
    FitOn asked seen (read_at fd offset size next) (hold.HandlePin row fd ∷ holds) marks notes
unfolding on go_on
fit_read_at {asked = asked} {holds = holds} fd offset size row next f = record {
  on = λ path s. (
    (((hold.HandlePin row fd, _, here, refl), tt), tt),
    elim [
      | Host (host.Ok (value.Bytes bytes)) ↦ λ m. (f bytes).on _ (still s)
      | told ↦ λ m. refused_by asked (Calls (call.ReadAt fd offset size)) told holds path (λ errno. refl) m (λ no. no)
    ],
  );
}

pub fit_read_link : {asked : Asking} {seen : List Seen} {holds : List Hold} {marks : List ℕ}
    {notes : Notes} (fd : Fd) (row : ℕ) (next : List ℕ → RequestTree) →
    ((target : List ℕ) → FitOn asked seen (next target) (hold.Pin row (Some fd) ∷ holds) marks notes) →
    FitOn asked seen (read_link fd next) (hold.Pin row (Some fd) ∷ holds) marks notes
unfolding on go_on
fit_read_link {asked = asked} {holds = holds} fd row next f = record {
  on = λ path s. (
    (((hold.Pin row (Some fd), _, here, refl), tt), tt),
    elim [
      | Host (host.Ok (value.Bytes target)) ↦ λ m. (f target).on _ (still s)
      | told ↦ λ m. refused_by asked (Calls (call.ReadLink fd)) told (hold.Pin row (Some fd) ∷ holds) path
          (λ errno. refl) m (λ no. no)
    ],
  );
}

pub fit_stat_fs : {asked : Asking} {seen : List Seen} {holds : List Hold} {marks : List ℕ}
    {notes : Notes} (fd : Fd) (row : ℕ) (next : FsStat → RequestTree) →
    ((told : FsStat) → FitOn asked seen (next told) (hold.Pin row (Some fd) ∷ holds) marks notes) →
    FitOn asked seen (stat_fs fd next) (hold.Pin row (Some fd) ∷ holds) marks notes
unfolding on go_on
fit_stat_fs {asked = asked} {holds = holds} fd row next f = record {
  on = λ path s. (
    (((hold.Pin row (Some fd), _, here, refl), tt), tt),
    elim [
      | Host (host.Ok (value.FsStat told)) ↦ λ m. (f told).on _ (still s)
      | told ↦ λ m. refused_by asked (Calls (call.StatFs fd)) told (hold.Pin row (Some fd) ∷ holds) path
          (λ errno. refl) m (λ no. no)
    ],
  );
}

-- a file is looked at, whatever descriptors are held
pub fit_look_at : {asked : Asking} {seen : List Seen} {holds : List Hold} {marks : List ℕ}
    {notes : Notes} (fd : Fd) (next : Stat → RequestTree) → MayMake (Calls (call.Stat fd)) holds notes →
    ((told : Stat) → GoesAfter (made (Calls (call.Stat fd)) (Host (host.Ok (value.Stat told)))) asked seen (next told)
    holds marks (looked_by fd told.ids notes)) →
    FitOn asked seen (stat fd next) holds marks notes
unfolding on go_on
fit_look_at {asked = asked} {holds = holds} fd next may f = record {
  on = λ path s. (
    may,
    elim [
      | Host (host.Ok (value.Stat told)) ↦ λ m. (f told).on path s
      | told ↦ λ m. refused_by asked (Calls (call.Stat fd)) told holds path (λ errno. refl) m (λ no. no)
    ],
  );
}

-- a call that leaves what is held and noted, whatever it is told
pub record IsStillCall (did : Call) : Type 0 where
  pub holds : (told : ActReply) (these : List Hold) → held (Calls did) told these ≡ these
  pub notes : (told : ActReply) (these : Notes) → notes_after these (Calls did) told ≡ these

pub fit_do_call : {asked : Asking} {seen : List Seen} {holds : List Hold} {marks : List ℕ}
    {notes : Notes} (did : Call) (next : RequestTree) → IsStillCall did → MayMake (Calls did) holds notes →
    IsHeeded asked (Calls did) holds → FitOn asked seen next holds marks notes →
    FitOn asked seen (do_call did next) holds marks notes
unfolding on go_on
fit_do_call {asked = asked} {holds = holds} {marks = marks} {notes = notes} did next same may heeds f = record {
  on = λ path s. (
    may,
    elim [
      | Host (host.Ok told) ↦ λ m.
          let reply : ActReply = Host (host.Ok told) in
          subst (λ (later : Notes).
          Fit asked next (held (Calls did) reply holds) marks later (made (Calls did) reply ∷ path))
          (sym (same.notes reply notes))
          (held_as asked next (held (Calls did) reply holds) holds marks notes _ (same.holds reply holds)
          (f.on _ (still s)))
      | told ↦ λ m. refused_by asked (Calls did) told holds path heeds m (λ no. no)
    ],
  );
}

-- a call that is told a number, and nothing else where it is Ok
abbrev IsCount : HostValue → Type 0
IsCount (value.Count count) = Unit {0}
IsCount told = ⊥

abbrev pub TellsCount : Call → Type 0
TellsCount did = (told : HostValue) → FitsCall did told → IsCount told

pub fit_count_of : {asked : Asking} {seen : List Seen} {holds : List Hold} {marks : List ℕ}
    {notes : Notes} (did : Call) (next : ℕ → RequestTree) → TellsCount did → IsStillCall did →
    MayMake (Calls did) holds notes → IsHeeded asked (Calls did) holds →
    ((count : ℕ) → FitOn asked seen (next count) holds marks notes) →
    FitOn asked seen (count_of did next) holds marks notes
unfolding on go_on
fit_count_of {asked = asked} {holds = holds} {marks = marks} {notes = notes} did next only same may heeds f = record {
  on = λ path s. (
    may,
    elim [
      | Host (host.Ok (value.Count count)) ↦ λ m.
          let reply : ActReply = Host (host.Ok (value.Count count)) in
          subst (λ (later : Notes).
          Fit asked (next count) (held (Calls did) reply holds) marks later (made (Calls did) reply ∷ path))
          (sym (same.notes reply notes))
          (held_as asked (next count) (held (Calls did) reply holds) holds marks notes _ (same.holds reply holds)
          ((f count).on _ (still s)))
      | Host (host.Ok told) ↦ λ m. refused_by asked (Calls did) (Host (host.Ok told)) holds path heeds m (only told)
      | told ↦ λ m. refused_by asked (Calls did) told holds path heeds m (λ no. no)
    ],
  );
}
