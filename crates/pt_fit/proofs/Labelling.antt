-- What was made gets its context, or goes again: its refusal has its cause.
use Rattle.std.proofs.Common.{◌≡◌, ◌∙◌, ◌∷◌, [], if◌then◌else◌, inl, inr, ℕ, Bool, true, false, List, Option, Some}
use Rattle.std.proofs.Common.{None, Result, Ok, Err, ap, refl}
use Rattle.pt_host.specs.Errno.{eopnotsupp, eperm}
use Rattle.pt_host.specs.declared.ids.Errno.{Errno}
use Rattle.pt_host.specs.declared.ids.Fd.{Fd}
use Rattle.pt_host.specs.declared.op.KeptHostOp.TheVariants as call
use Rattle.pt_host.specs.declared.reply.HostReply.TheVariants as host
use Rattle.pt_iface.specs.declared.answer.Answer.TheVariants as answer
use Rattle.pt_iface.specs.declared.request.SecContext.{SecContext}
use Rattle.pt_frame.specs.Deed.{Calls, Step}
use Rattle.pt_frame.specs.Tree.{RequestTree, on, go_on}
use Rattle.pt_frame.specs.declared.act.ActReply.{ActReply}
use Rattle.pt_frame.specs.declared.act.ActReply.TheVariants.{Event, Host, NoCopy}
use Rattle.pt_frame.specs.declared.hold.Hold.{Hold}
use Rattle.pt_maps.specs.MappedNames.{client_name}
use Rattle.pt_maps.specs.declared.xattr_map.AppliedRule.{AppliedRule}
use Rattle.pt_maps.specs.declared.xattr_map.AppliedRule.TheVariants as applied
use Rattle.pt_maps.specs.declared.xattr_rule.XattrRule.{XattrRule}
use Rattle.pt_tables.specs.declared.form.Negotiated.{Negotiated}
use Rattle.pt_req.specs.Attributes.{Label, by_rule, by_rules, host_label, host_name, is_blocked, refused_by_rule}
use Rattle.pt_req.specs.Attributes.{refused_by_rules, refused_label, refused_name}
use Rattle.pt_req.specs.declared.plan.Plan.{Plan}
use Rattle.pt_attr.specs.Creating.{labelled, labelled_by, undone}
use Rattle.pt_law.specs.Discipline.{KnowsAll, Notes}
use Rattle.pt_law.specs.Keeps.{unscoped}
use Rattle.pt_fit.specs.Cause.{Asking, SomeShows}
use Rattle.pt_fit.specs.Fit.{Fit}
use Rattle.pt_fit.proofs.Parts.{FitOn, Seen, Told, still}
use Rattle.pt_law.specs.World.{made}

-- A refusal, or that memory ran out, is answered behind the call that takes the name away, whatever the host says of
-- it; where that call could not be copied memory ran out.
module _ (asked : Asking) (holds : List Hold) (marks : List ℕ) (notes : Notes) (dir : Fd) (name : List ℕ)
    (k : KnowsAll (unscoped holds) (dir ∷ [])) (path : List Step) where
  fit_undone : (errno : Errno) → SomeShows asked path errno →
      Fit asked (undone (call.Unlink dir name) (answer.Refused errno)) holds marks notes path
  unfolding on go_on
  fit_undone errno s = (
    (k, tt),
    elim [
      | Host told ↦ λ m. (tt, inr (inl (inr s)), tt)
      | Event told ↦ λ m. absurd m
      | NoCopy ↦ λ m. tt
    ],
  )

  fit_ran_out : Fit asked (undone (call.Unlink dir name) answer.NoMemory) holds marks notes path
  unfolding on go_on
  fit_ran_out = (
    (k, tt),
    elim [
      | Host told ↦ λ m. (tt, tt, tt)
      | Event told ↦ λ m. absurd m
      | NoCopy ↦ λ m. tt
    ],
  )

-- the host's name of an attribute, or why the guest may not use its own
module _ {asked : Asking} {seen : List Seen} {holds : List Hold} {marks : List ℕ} {notes : Notes}
    (next : Result (List ℕ) Errno → RequestTree)
    (good : (made : List ℕ) → FitOn asked seen (next (Ok made)) holds marks notes) where
  fit_by_rule : (fate : Option AppliedRule) →
      ((errno : Errno) → refused_by_rule fate ≡ Some errno → FitOn asked seen (next (Err errno)) holds marks notes) →
      FitOn asked seen (by_rule fate next) holds marks notes
  fit_by_rule (Some (applied.Pass made)) bad = record { on = λ path s. (good made).on path s }
  fit_by_rule (Some applied.Deny) bad = bad eperm refl
  fit_by_rule (Some applied.Unsupported) bad = bad eopnotsupp refl
  fit_by_rule None bad = bad eopnotsupp refl

  fit_by_rules : (rules : Option (List XattrRule)) (name : List ℕ) →
      ((errno : Errno) → refused_by_rules rules name ≡ Some errno →
      FitOn asked seen (next (Err errno)) holds marks notes) →
      FitOn asked seen (by_rules rules name next) holds marks notes
  fit_by_rules None name bad = good name
  fit_by_rules (Some rules) name bad = fit_by_rule (client_name rules name) bad

  pub fit_host_name : (plan : Plan) (agreed : Negotiated) (name : List ℕ) →
      ((errno : Errno) → refused_name plan agreed name ≡ Some errno →
      FitOn asked seen (next (Err errno)) holds marks notes) →
      FitOn asked seen (host_name plan agreed name next) holds marks notes
  unfolding host_name
  fit_host_name plan agreed name bad = go (is_blocked agreed name) refl
    where
      go : (blocked : Bool) → is_blocked agreed name ≡ blocked →
          FitOn asked seen (if blocked then next (Err eopnotsupp) else by_rules plan.config.xattrmap name next) holds
          marks notes
      go true e = bad eopnotsupp
          (ap (λ (b : Bool). if b then Some eopnotsupp else refused_by_rules plan.config.xattrmap name) e)
      go false e = fit_by_rules plan.config.xattrmap name (λ errno r. bad errno
          (ap (λ (b : Bool). if b then Some eopnotsupp else refused_by_rules plan.config.xattrmap name) e ∙ r))

-- a context fails by this error
abbrev pub FailsBy : Option Label → Errno → Type 0
FailsBy None errno = ⊥
FailsBy (Some label) errno = label.name ≡ Err errno

-- a context by the host's name, which fails by its cause
pub fit_host_label : {asked : Asking} {seen : List Seen} {holds : List Hold} {marks : List ℕ} {notes : Notes}
    (plan : Plan) (agreed : Negotiated) (brought : Option SecContext) (next : Option Label → RequestTree) →
    ((label : Option Label) →
    ((errno : Errno) → FailsBy label errno → refused_label plan agreed brought ≡ Some errno) →
    FitOn asked seen (next label) holds marks notes) →
    FitOn asked seen (host_label plan agreed brought next) holds marks notes
fit_host_label plan agreed None next f = f None (λ errno fails. absurd fails)
fit_host_label plan agreed (Some label) next f =
    fit_host_name (λ name. next (as_label name)) (λ made. f (as_label (Ok made)) (λ errno fails. absurd (cc))) plan
    agreed label.name (λ errno r. f (as_label (Err errno)) (λ other fails.
    r ∙ ap Some (same (Err errno) errno other refl fails)))
  where
    as_label : Result (List ℕ) Errno → Option Label
    as_label name = Some (record { name = name; value = label.value })

    same : (told : Result (List ℕ) Errno) (one other : Errno) → told ≡ Err one → told ≡ Err other → one ≡ other
    same told one other e k = cc

pub fit_labelled_by : {asked : Asking} {seen : List Seen} {holds : List Hold} {marks : List ℕ} {notes : Notes}
    (fd dir : Fd) (name value : List ℕ) (attribute : Result (List ℕ) Errno) (next : RequestTree) →
    KnowsAll (unscoped holds) (fd ∷ []) → KnowsAll (unscoped holds) (dir ∷ []) →
    ((errno : Errno) → attribute ≡ Err errno → (path : List Step) → Told seen path → SomeShows asked path errno) →
    FitOn asked seen next holds marks notes →
    FitOn asked seen (labelled_by fd (call.Unlink dir name) value attribute next) holds marks notes
unfolding on go_on
fit_labelled_by {asked = asked} {holds = holds} {marks = marks} {notes = notes} fd dir name value (Err errno) next k l
    c f = record { on = λ path s. fit_undone asked holds marks notes dir name l path errno (c errno refl path s) }
fit_labelled_by {asked = asked} {holds = holds} {marks = marks} {notes = notes} fd dir name value (Ok attribute) next k
    l c f = record {
      on = λ path s. (
        (k, tt),
        elim [
          | Host (host.Ok told) ↦ λ m. f.on _ (still s)
          | Host (host.Refused errno) ↦ λ m.
              fit_undone asked holds marks notes dir name l (labelling (Host (host.Refused errno)) ∷ path) errno
              (inl refl)
          | Host (host.Fault errno) ↦ λ m.
              fit_undone asked holds marks notes dir name l (labelling (Host (host.Fault errno)) ∷ path) errno
              (inl refl)
          | Host host.NoMemory ↦
              λ m. fit_ran_out asked holds marks notes dir name l (labelling (Host host.NoMemory) ∷ path)
          | Event told ↦ λ m. absurd m
          | NoCopy ↦ λ m. fit_ran_out asked holds marks notes dir name l (labelling NoCopy ∷ path)
        ],
      );
    }
  where
    -- the step by which the context is set
    labelling : ActReply → Step
    labelling told = made (Calls (call.SetXattr fd false attribute value 0)) told

pub fit_labelled : {asked : Asking} {seen : List Seen} {holds : List Hold} {marks : List ℕ} {notes : Notes}
    (fd dir : Fd) (name : List ℕ) (label : Option Label) (next : RequestTree) →
    KnowsAll (unscoped holds) (fd ∷ []) → KnowsAll (unscoped holds) (dir ∷ []) →
    ((errno : Errno) → FailsBy label errno → (path : List Step) → Told seen path → SomeShows asked path errno) →
    FitOn asked seen next holds marks notes →
    FitOn asked seen (labelled fd (call.Unlink dir name) label next) holds marks notes
fit_labelled fd dir name None next k l c f = f
fit_labelled fd dir name (Some label) next k l c f = fit_labelled_by fd dir name label.value label.name next k l c f
