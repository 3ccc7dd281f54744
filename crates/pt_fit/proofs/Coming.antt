-- A job comes by still steps to a tree: it takes on an identity, ends scopes, or sets the context of what it made.
use Rattle.std.proofs.Common.{◌≡◌, ◌++◌, ◌∷◌, ◌∙◌, [], if◌then◌else◌, ℕ, Bool, List, None}
use Rattle.std.proofs.Common.{Err, Ok, Option, Result, Some, ap, append_assoc, false, refl, sym, true}
use Rattle.pt_host.specs.Call.{Call}
use Rattle.pt_host.specs.Errno.{eopnotsupp, eperm}
use Rattle.pt_host.specs.Sorts.{sort_of}
use Rattle.pt_host.specs.Words.{Each}
use Rattle.pt_host.specs.declared.ids.Errno.{Errno}
use Rattle.pt_host.specs.declared.ids.Fd.{Fd}
use Rattle.pt_host.specs.declared.op.KeptHostOp.TheVariants as call
use Rattle.pt_host.specs.declared.reply.HostReply.TheVariants as host
use Rattle.pt_host.specs.declared.seat.HostSeat.{HostSeat}
use Rattle.pt_creds.specs.Identity.{override_cap}
use Rattle.pt_creds.specs.declared.credentials.CredSteps.{CredSteps}
use Rattle.pt_maps.specs.MappedNames.{client_name}
use Rattle.pt_maps.specs.declared.xattr_map.AppliedRule.{AppliedRule}
use Rattle.pt_maps.specs.declared.xattr_map.AppliedRule.TheVariants as applied
use Rattle.pt_maps.specs.declared.xattr_rule.XattrRule.{XattrRule}
use Rattle.pt_tables.specs.declared.form.Negotiated.{Negotiated}
use Rattle.pt_iface.specs.declared.answer.Answer.{Answer}
use Rattle.pt_iface.specs.declared.answer.Answer.TheVariants as answer
use Rattle.pt_iface.specs.declared.request.SecContext.{SecContext}
use Rattle.pt_frame.specs.Deed.{Step}
use Rattle.pt_frame.specs.Replies.{passes_with}
use Rattle.pt_frame.specs.Tree.{Bares, Gives, RequestTree, on, go_on}
use Rattle.pt_frame.specs.declared.act.ActReply.{ActReply}
use Rattle.pt_frame.specs.declared.act.ActReply.TheVariants.{Event, Host, NoCopy}
use Rattle.pt_frame.specs.declared.hold.Hold.{Hold}
use Rattle.pt_frame.specs.declared.hold.Hold.TheVariants as hold
use Rattle.pt_req.specs.Asker.{cap_raised, egid_set, euid_set, group_set, taken_on, under_umask}
use Rattle.pt_req.specs.Attributes.{Label, by_rule, by_rules, host_label, host_name, is_blocked}
use Rattle.pt_req.specs.Steps.{ok_in, open_scope, or_refused, refused_in, tried_in}
use Rattle.pt_req.specs.declared.plan.Plan.{Plan}
use Rattle.pt_attr.specs.Creating.{labelled, labelled_by, undone}
use Rattle.pt_fit.proofs.Handling.{each_join}
use Rattle.pt_fit.proofs.Leading.{HasEntry, IsStill, Leads, StillSort, bares_on, calls_on, given_none, opens_on}
use Rattle.pt_fit.proofs.Leading.{refused_none}

-- By some still steps the job comes to this tree.
pub record Comes (seat : HostSeat) (last : Answer) (tree : RequestTree) (steps : List Step) : Type 0 where
  pub front : List Step
  pub rest : List Step
  pub are : steps ≡ front ++ rest
  pub still : Each (λ (step : Step). IsStill step.deed) front
  pub on : Leads seat tree rest last

module _ (seat : HostSeat) (last : Answer) (p : HasEntry last) where
  comes_now : (tree : RequestTree) (steps : List Step) → Leads seat tree steps last → Comes seat last tree steps
  comes_now tree steps l = record { front = []; rest = steps; are = refl; still = tt; on = l }

  comes_more : (tree : RequestTree) (step : Step) (steps : List Step) → IsStill step.deed →
      Comes seat last tree steps → Comes seat last tree (step ∷ steps)
  comes_more tree step steps still c = record {
    front = step ∷ c.front;
    rest = c.rest;
    are = ap (λ (z : List Step). step ∷ z) c.are;
    still = (still, c.still);
    on = c.on;
  }

  -- the ends of scopes
  pub bare_comes : (tree : RequestTree) (steps : List Step) → Leads seat (Bares tree) steps last →
      Comes seat last tree steps
  bare_comes tree steps l =
      bares_on seat last p (Comes seat last tree) (comes_more tree) tree steps (comes_now tree) l

  -- the calls by which an identity is taken on
  pub set_on : (next : RequestTree) (told : ActReply) (rest : List Step) →
      Leads seat (on ok_in (λ done. next) told) rest last → Leads seat next rest last
  unfolding on go_on
  set_on next (Host (host.Ok answered)) rest l = l
  set_on next told rest l = absurd (refused_none seat told rest last p l)

  pub tried_on : (next : RequestTree) (told : ActReply) (rest : List Step) →
      Leads seat (on tried_in (λ done. next) told) rest last → Leads seat next rest last
  unfolding on go_on
  tried_on next (Host answered) rest l = l
  tried_on next told rest l = absurd (refused_none seat told rest last p l)

  set_comes : (next tree : RequestTree) (asked : Call) (scope : Hold) → StillSort (sort_of asked) →
      ((steps : List Step) → Leads seat tree steps last → Comes seat last next steps) → (steps : List Step) →
      Leads seat (open_scope asked scope tree) steps last → Comes seat last next steps
  set_comes next tree asked scope still f steps l =
      opens_on seat last p (Comes seat last next) (comes_more next) asked scope (on ok_in (λ done. tree)) steps still
      (λ told rest m. f rest (set_on tree told rest m)) l

  module _ (next : RequestTree) where
    raise_comes : (raise : Bool) (steps : List Step) → Leads seat (cap_raised raise next) steps last →
        Comes seat last next steps
    raise_comes false steps l = comes_now next steps l
    raise_comes true steps l =
        calls_on seat last p (Comes seat last next) (comes_more next) (call.RaiseCap override_cap)
        (on tried_in (λ done. next)) steps tt (λ told rest m. comes_now next rest (tried_on next told rest m)) l

    euid_comes : (raise : Bool) (euid : Option ℕ) (steps : List Step) →
        Leads seat (euid_set euid (cap_raised raise next)) steps last → Comes seat last next steps
    euid_comes raise None steps l = raise_comes raise steps l
    euid_comes raise (Some uid) steps l =
        set_comes next (cap_raised raise next) (call.SetEuid uid) hold.EffectiveUid tt (raise_comes raise) steps l

    egid_comes : (raise : Bool) (euid egid : Option ℕ) (steps : List Step) →
        Leads seat (egid_set egid (euid_set euid (cap_raised raise next))) steps last → Comes seat last next steps
    egid_comes raise euid None steps l = euid_comes raise euid steps l
    egid_comes raise euid (Some gid) steps l =
        set_comes next (euid_set euid (cap_raised raise next)) (call.SetEgid gid) hold.EffectiveGid tt
        (euid_comes raise euid) steps l

    group_comes : (raise : Bool) (euid egid groups : Option ℕ) (steps : List Step) →
        Leads seat (group_set groups (egid_set egid (euid_set euid (cap_raised raise next)))) steps last →
        Comes seat last next steps
    group_comes raise euid egid None steps l = egid_comes raise euid egid steps l
    group_comes raise euid egid (Some group) steps l =
        set_comes next (egid_set egid (euid_set euid (cap_raised raise next))) (call.SetGroups (group ∷ []))
        hold.Groups tt (egid_comes raise euid egid) steps l

  -- by one tree to another
  comes_on : (tree next : RequestTree) (steps : List Step) → Comes seat last tree steps →
      ((rest : List Step) → Leads seat tree rest last → Comes seat last next rest) → Comes seat last next steps
  comes_on tree next steps c f =
      let d = f c.rest c.on in
      record {
        front = c.front ++ d.front;
        rest = d.rest;
        are = c.are ∙ ap (λ (z : List Step). c.front ++ z) d.are ∙ sym (append_assoc c.front d.front d.rest);
        still = each_join (λ (step : Step). IsStill step.deed) c.front d.front c.still d.still;
        on = d.on;
      }

  umask_comes : (umask : Option ℕ) (next : RequestTree) (steps : List Step) →
      Leads seat (under_umask umask next) steps last → Comes seat last next steps
  umask_comes None next steps l = comes_now next steps l
  umask_comes (Some mask) next steps l =
      set_comes next next (call.SetUmask mask) hold.Umask tt (comes_now next) steps l

  -- under a umask, if one is to be set
  pub taken_comes : (taking : CredSteps) (umask : Option ℕ) (next : RequestTree) (steps : List Step) →
      Leads seat (taken_on taking (under_umask umask next)) steps last → Comes seat last next steps
  taken_comes taking umask next steps l =
      comes_on (under_umask umask next) next steps
      (group_comes (under_umask umask next) taking.raise taking.euid taking.egid taking.groups steps l)
      (umask_comes umask next)

-- The context of what was made comes first.
module _ (seat : HostSeat) (last : Answer) (p : HasEntry last) (fd dir : Fd) (name : List ℕ)
    (next : RequestTree) where
  abbrev undoing : Call
  undoing = call.Unlink dir name

  -- where what was made goes again, no entry is answered
  undone_comes : (given : Answer) → passes_with given ≡ false → (steps : List Step) →
      Leads seat (undone undoing given) steps last → Comes seat last next steps
  undone_comes given none steps l =
      calls_on seat last p (Comes seat last next) (comes_more seat last p next) undoing
      (on tried_in (λ done. Gives given)) steps tt (λ told rest m.
      let l : Leads seat (Gives given) rest last = tried_on seat last p (Gives given) told rest m in
      let some : passes_with given ≡ true = ap passes_with (sym (given_none seat given last rest p l)) ∙ p in
      absurd (cc)) l

  abbrev by_set : Option Answer → RequestTree
  by_set refused = or_refused (undone undoing) next refused

  set_told : (told : ActReply) (rest : List Step) → Leads seat (on refused_in by_set told) rest last →
      Comes seat last next rest
  unfolding on go_on
  set_told (Host (host.Ok got)) rest m = comes_now seat last p next rest m
  set_told (Host (host.Refused errno)) rest m = undone_comes (answer.Refused errno) refl rest m
  set_told (Host (host.Fault errno)) rest m = undone_comes (answer.Refused errno) refl rest m
  set_told (Host host.NoMemory) rest m = undone_comes answer.NoMemory refl rest m
  set_told NoCopy rest m = undone_comes answer.NoMemory refl rest m
  set_told (Event got) rest m = absurd (refused_none seat (Event got) rest last p m)

  label_comes : (value : List ℕ) (attribute : Result (List ℕ) Errno) (steps : List Step) →
      Leads seat (labelled_by fd undoing value attribute next) steps last → Comes seat last next steps
  label_comes value (Err errno) steps m = undone_comes (answer.Refused errno) refl steps m
  label_comes value (Ok attribute) steps m =
      calls_on seat last p (Comes seat last next) (comes_more seat last p next)
      (call.SetXattr fd false attribute value 0) (on refused_in by_set) steps tt set_told m

  pub labelled_comes : (label : Option Label) (steps : List Step) →
      Leads seat (labelled fd undoing label next) steps last → Comes seat last next steps
  labelled_comes None steps l = comes_now seat last p next steps l
  labelled_comes (Some label) steps l = label_comes label.value label.name steps l

-- The host's name of a context was had before.
module _ (seat : HostSeat) (steps : List Step) (last : Answer) where
  by_rule_found : (fate : Option AppliedRule) (next : Result (List ℕ) Errno → RequestTree) →
      Leads seat (by_rule fate next) steps last →
      (name : Result (List ℕ) Errno) × Leads seat (next name) steps last
  by_rule_found (Some (applied.Pass made)) next l =
      (Ok made, record { holds = l.holds; marks = l.marks; belongs = l.belongs })
  by_rule_found (Some applied.Deny) next l = (Err eperm, l)
  by_rule_found (Some applied.Unsupported) next l = (Err eopnotsupp, l)
  by_rule_found None next l = (Err eopnotsupp, l)

  by_rules_found : (rules : Option (List XattrRule)) (name : List ℕ) (next : Result (List ℕ) Errno → RequestTree) →
      Leads seat (by_rules rules name next) steps last →
      (host : Result (List ℕ) Errno) × Leads seat (next host) steps last
  by_rules_found None name next l = (Ok name, l)
  by_rules_found (Some rules) name next l = by_rule_found (client_name rules name) next l

  name_found : (plan : Plan) (agreed : Negotiated) (name : List ℕ) (next : Result (List ℕ) Errno → RequestTree) →
      Leads seat (host_name plan agreed name next) steps last →
      (host : Result (List ℕ) Errno) × Leads seat (next host) steps last
  unfolding host_name
  name_found plan agreed name next l = go (is_blocked agreed name) l
    where
      go : (bad : Bool) →
          Leads seat (if bad then next (Err eopnotsupp) else by_rules plan.config.xattrmap name next) steps last →
          (host : Result (List ℕ) Errno) × Leads seat (next host) steps last
      go true l = (Err eopnotsupp, l)
      go false l = by_rules_found plan.config.xattrmap name next l

  pub label_found : (plan : Plan) (agreed : Negotiated) (brought : Option SecContext)
      (next : Option Label → RequestTree) → Leads seat (host_label plan agreed brought next) steps last →
      (label : Option Label) × Leads seat (next label) steps last
  label_found plan agreed None next l = (None, l)
  label_found plan agreed (Some label) next l =
      let n = name_found plan agreed label.name _ l in (Some (record { name = n.0; value = label.value }), n.1)
