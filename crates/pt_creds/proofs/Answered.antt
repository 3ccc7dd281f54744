-- How a `set` ends, by how far it came.
use Rattle.std.proofs.Common.{◌≡◌, ℕ, List, Option, Result, Ok, Err, sym, ap, ◌∙◌, subst, subst₂}
use Rattle.pt_host.specs.declared.seat.HostSeat.{HostSeat}
use Rattle.pt_host.specs.Relation.{HostRelation}
use Rattle.pt_creds.specs.Calls.{CallMade, CallsLead, asked_in}
use Rattle.pt_creds.specs.Identity.{Credentials, IsWhole}
use Rattle.pt_creds.specs.Guard.{Guarded, if_any, euid_calls, egid_calls}
use Rattle.pt_creds.specs.Steps.{cred_steps, group_calls, raise_calls}
use Rattle.pt_creds.specs.Progress.{no_change, TakesStep, IsUndone, keeping_uid, keeping_gid, keeping_groups}
use Rattle.pt_creds.specs.declared.credentials.CredSteps.{CredSteps}
use Rattle.pt_creds.specs.declared.error.CredError.{CredError}
use Rattle.pt_creds.proofs.Making.{Law}
use Rattle.pt_creds.proofs.Settings.{Settled, Halfway, halfway, failed_at_group, failed_at_gid, failed_at_uid}
use Rattle.pt_creds.proofs.Settings.{succeeded}

module _ {H : Type 0} (does : HostRelation H) (faults : H →
    ℕ) (law : Law does faults) (creds : Credentials) (steps : CredSteps) (h0 : H) (s0 : HostSeat) (whole : IsWhole s0)
    (planned : steps ≡ cred_steps creds s0) (new : Guarded) (empty : new ≡ no_change) where
  pub no_group : (h1 : H) (s1 : HostSeat) (why : CredError) (result : Result (Option Guarded) CredError) →
      IsUndone does (group_calls steps.groups) new h0 s0 h1 s1 why → result ≡ Err why →
      Settled does faults creds h0 s0 h1 s1 result
  no_group h1 s1 why result u is =
      subst (λ r. Settled does faults creds h0 s0 h1 s1 r) (sym is)
      (failed_at_group does faults law creds h0 h1 s0 s1 why whole
      (subst₂ (λ (t : CredSteps) (n : Guarded). IsUndone does (group_calls t.groups) n h0 s0 h1 s1 why) planned empty
      u))

  pub no_gid : (first : Guarded) (h1 h2 : H) (s1 s2 : HostSeat) (why : CredError)
      (result : Result (Option Guarded) CredError) →
      TakesStep does (group_calls steps.groups) new (keeping_groups steps.groups s0 new) h0 s0 h1 s1 (Ok first) →
      IsUndone does (egid_calls steps.egid) first h1 s1 h2 s2 why → result ≡ Err why →
      Settled does faults creds h0 s0 h2 s2 result
  no_gid first h1 h2 s1 s2 why result group u is =
      let one = subst₂ (λ (t : CredSteps) (n : Guarded). TakesStep does (group_calls t.groups) n
      (keeping_groups t.groups s0 n) h0 s0 h1 s1 (Ok first)) planned empty group in
      subst (λ r. Settled does faults creds h0 s0 h2 s2 r) (sym is)
      (failed_at_gid does faults law creds first h0 h1 h2 s0 s1 s2 why whole one.0 one.1
      (subst (λ (t : CredSteps). IsUndone does (egid_calls t.egid) first h1 s1 h2 s2 why) planned u))

  half : (first second : Guarded) (h1 h2 : H) (s1 s2 : HostSeat) →
      TakesStep does (group_calls steps.groups) new (keeping_groups steps.groups s0 new) h0 s0 h1 s1 (Ok first) →
      TakesStep does (egid_calls steps.egid) first (keeping_gid steps.egid s1 first) h1 s1 h2 s2 (Ok second) →
      Halfway does creds second h0 h2 s0 s2
  half first second h1 h2 s1 s2 group gid =
      let one = subst₂ (λ (t : CredSteps) (n : Guarded). TakesStep does (group_calls t.groups) n
      (keeping_groups t.groups s0 n) h0 s0 h1 s1 (Ok first)) planned empty group in
      let two = subst (λ (t : CredSteps). TakesStep does (egid_calls t.egid) first (keeping_gid t.egid s1 first) h1 s1
      h2 s2
      (Ok second)) planned gid in
      halfway does faults law creds first second h0 h1 h2 s0 s1 s2 one.0 one.1 two.0 two.1

  pub no_uid : (first second : Guarded) (h1 h2 h3 : H) (s1 s2 s3 : HostSeat) (why : CredError)
      (result : Result (Option Guarded) CredError) →
      TakesStep does (group_calls steps.groups) new (keeping_groups steps.groups s0 new) h0 s0 h1 s1 (Ok first) →
      TakesStep does (egid_calls steps.egid) first (keeping_gid steps.egid s1 first) h1 s1 h2 s2 (Ok second) →
      IsUndone does (euid_calls steps.euid) second h2 s2 h3 s3 why → result ≡ Err why →
      Settled does faults creds h0 s0 h3 s3 result
  no_uid first second h1 h2 h3 s1 s2 s3 why result group gid u is =
      subst (λ r. Settled does faults creds h0 s0 h3 s3 r) (sym is)
      (failed_at_uid does faults law creds second h0 h2 h3 s0 s2 s3 why whole
      (half first second h1 h2 s1 s2 group gid)
      (subst (λ (t : CredSteps). IsUndone does (euid_calls t.euid) second h2 s2 h3 s3 why) planned u))

  pub all_taken : (first second guard : Guarded) (result : Option Guarded) (h1 h2 h3 h4 : H) (s1 s2 s3 s4 : HostSeat)
      →
      TakesStep does (group_calls steps.groups) new (keeping_groups steps.groups s0 new) h0 s0 h1 s1 (Ok first) →
      TakesStep does (egid_calls steps.egid) first (keeping_gid steps.egid s1 first) h1 s1 h2 s2 (Ok second) →
      TakesStep does (euid_calls steps.euid) second (keeping_uid steps.euid s2 second) h2 s2 h3 s3 (Ok guard) →
      ((made : List CallMade) × CallsLead does made h3 s3 h4 s4 × (asked_in made ≡ raise_calls steps.raise)) →
      result ≡ if_any guard →
      Settled does faults creds h0 s0 h4 s4 (Ok result)
  all_taken first second guard result h1 h2 h3 h4 s1 s2 s3 s4 group gid uid last is =
      let three = subst (λ (t : CredSteps). TakesStep does (euid_calls t.euid) second (keeping_uid t.euid s2 second)
      h2 s2 h3
      s3 (Ok guard)) planned uid in
      succeeded does faults law creds second guard result last.0 h0 h2 h3 h4 s0 s2 s3 s4 whole
      (half first second h1 h2 s1 s2 group gid) three.0 three.1 last.1
      (last.2 ∙ ap (λ (t : CredSteps). raise_calls t.raise) planned) is
