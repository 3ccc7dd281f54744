-- What a job says to be agreed on is what it decides, for a session that it begins itself.
use Rattle.std.proofs.Common.{inl, inr, Bool, true, false, List, [], ◌∷◌, ◌++◌, Option, refl, sym, subst}
use Rattle.std.proofs.Common.{ℕ, Some, None}
use Rattle.pt_host.specs.Call.{Call}
use Rattle.pt_host.specs.declared.op.KeptHostOp.TheVariants as call
use Rattle.pt_host.specs.declared.reply.HostReply.TheVariants as host
use Rattle.pt_host.specs.declared.seat.HostSeat.{HostSeat}
use Rattle.pt_creds.specs.Steps.{cred_steps}
use Rattle.pt_creds.specs.declared.credentials.CredSteps.{CredSteps}
use Rattle.pt_tables.specs.declared.event.KeptEvent.TheVariants as change
use Rattle.pt_tables.specs.declared.form.Negotiated.{Negotiated}
use Rattle.pt_iface.specs.declared.request.Context.{Context}
use Rattle.pt_iface.specs.declared.request.Request.{Request}
use Rattle.pt_iface.specs.declared.request.Request.TheVariants as request
use Rattle.pt_frame.specs.Deed.{Deed, Calls, Changes, Step}
use Rattle.pt_frame.specs.Frame.{giving, CutAfter}
use Rattle.pt_iface.specs.declared.answer.Answer.TheVariants as answer
use Rattle.pt_frame.specs.Grammar.{Belongs}
use Rattle.pt_frame.specs.Tree.{RequestTree, Gives, Refuses, Asks, Opens, Bares, Brackets, Shuts, Allocates}
use Rattle.pt_frame.specs.declared.act.ActReply.{ActReply}
use Rattle.pt_frame.specs.declared.act.ActReply.TheVariants.{Host}
use Rattle.pt_frame.specs.declared.finish.Finish.{Finish}
use Rattle.pt_frame.specs.declared.hold.Hold.{Hold}
use Rattle.pt_frame.specs.declared.hold.Hold.TheVariants as hold
use Rattle.pt_req.specs.Asker.{cap_raised, egid_set, euid_set, group_set, taken_on, under_umask}
use Rattle.pt_req.specs.Steps.{open_scope}
use Rattle.pt_req.specs.declared.plan.Plan.{Plan}
use Rattle.pt_req.proofs.Replying.{if_set, if_tried}
use Rattle.pt_req.proofs.Walking.{InScope, OfDeed, Walk}
use Rattle.pt_job.specs.Pattern.{Asked, Requests, Edits, grammar_for, tree_of}
use Rattle.pt_job.proofs.Walking.{OfScopes, each_request, of_any, of_memory}
use Rattle.pt_law.specs.Agreed.{Says, Begins, Decides}
use Rattle.pt_law.proofs.Doing.{Does, OfReturns, All, all_framed, steps_so, cut_so}
use Rattle.pt_fit.specs.Answered.{ComesToAnswer}
use Rattle.pt_fit.specs.Decided.{decides}

-- no step that gives back says anything
giving_says : (decided : Option Negotiated) (seat : HostSeat) (one : Hold) → Says decided (giving seat one)
giving_says decided seat (hold.Pin row fd) = tt
giving_says decided seat (hold.HandlePin row fd) = tt
giving_says decided seat (hold.Fd fd) = tt
giving_says decided seat (hold.Slot class) = tt
giving_says decided seat (hold.Count era number) = tt
giving_says decided seat hold.Groups = tt
giving_says decided seat hold.EffectiveGid = tt
giving_says decided seat hold.EffectiveUid = tt
giving_says decided seat (hold.Dropped caps) = tt
giving_says decided seat hold.Umask = tt

returns : (decided : Option Negotiated) → OfReturns (Says decided)
returns decided = record { gives = giving_says decided; takes = tt; slot = λ class. tt; closes = λ fd. tt }

module _ (decided : Option Negotiated) where
  abbrev Saying : RequestTree → Type 0
  Saying tree = Does (Says decided) tree

  abbrev SaysSo : Bool → Deed → Type 0
  SaysSo dropped deed = Says decided deed

  deed_says : (dropped : Bool) (deed : Deed) → OfDeed SaysSo dropped deed → Says decided deed
  deed_says dropped (Calls asked) may = tt
  deed_says dropped (Changes (change.InsertRoot new)) may = may
  deed_says dropped (Changes asked) may = tt

  in_scope : (told : ActReply) (tree : RequestTree) → InScope SaysSo true Saying told tree → Saying tree
  in_scope told (Gives last) so = tt
  in_scope told (Refuses same) so = tt
  in_scope told (Asks deed next) so = (deed_says true deed so.2, λ later. in_scope later (next later) (so.4 later))
  in_scope told (Bares rest) so = so
  in_scope told (Opens asked scope next) so = absurd so
  in_scope told (Brackets rest) so = absurd so
  in_scope told (Shuts passes rest) so = absurd so
  in_scope told (Allocates made next) so = absurd so

  opens_saying : (asked : Call) (scope : Hold) (next : RequestTree) → Saying next →
      Saying (open_scope asked scope next)
  opens_saying asked scope next so = (tt, if_set (λ told tree. Saying tree) next (λ told. tt) (λ told. so))

  raises : (raise : Bool) (next : RequestTree) → Saying next → Saying (cap_raised raise next)
  raises false next so = so
  raises true next so = (tt, if_tried (λ told tree. Saying tree) next (λ told. tt) (λ told. so))

  sets_euid : (euid : Option ℕ) (next : RequestTree) → Saying next → Saying (euid_set euid next)
  sets_euid None next so = so
  sets_euid (Some uid) next so = opens_saying (call.SetEuid uid) hold.EffectiveUid next so

  sets_egid : (egid : Option ℕ) (next : RequestTree) → Saying next → Saying (egid_set egid next)
  sets_egid None next so = so
  sets_egid (Some gid) next so = opens_saying (call.SetEgid gid) hold.EffectiveGid next so

  sets_group : (groups : Option ℕ) (next : RequestTree) → Saying next → Saying (group_set groups next)
  sets_group None next so = so
  sets_group (Some group) next so = opens_saying (call.SetGroups (group ∷ [])) hold.Groups next so

  as_asker : (steps : CredSteps) (next : RequestTree) → Saying next → Saying (taken_on steps next)
  as_asker steps next so =
      let raised : RequestTree = cap_raised steps.raise next in
      let under_uid : RequestTree = euid_set steps.euid raised in
      sets_group steps.groups (egid_set steps.egid under_uid)
      (sets_egid steps.egid under_uid (sets_euid steps.euid raised (raises steps.raise next so)))

  sets_umask : (umask : Option ℕ) (next : RequestTree) → Saying next → Saying (under_umask umask next)
  sets_umask None next so = so
  sets_umask (Some mask) next so = opens_saying (call.SetUmask mask) hold.Umask next so

  saying : (seat : HostSeat) → Walk seat (λ creds umask. Unit {0}) SaysSo Saying (λ told tree. Saying tree)
  saying seat = record {
    gives = λ last is. tt;
    refuses = λ told. tt;
    had = λ told tree so. so;
    asks = λ deed next own none may so. (deed_says false deed may, so);
    ran_out = λ told deed lacks own none may. (
      deed_says false deed may,
      if_tried (λ later tree. Saying tree) (Gives answer.NoMemory) (λ later. tt) (λ later. tt),
    );
    brackets = λ rest so. so;
    shuts = λ passes rest so. so;
    shuts_after = λ told passes rest so. so;
    makes_as = λ creds umask making next is may so.
        as_asker (cred_steps creds seat) (under_umask umask (Asks (Calls making) (λ told. Bares (next told))))
        (sets_umask umask (Asks (Calls making) (λ told. Bares (next told))) (tt, so));
    bares = λ rest so. so;
    drops = λ rest has so. (
      tt,
      if_set (λ told tree. Saying tree) rest (λ told. tt)
          (λ told. in_scope (Host (host.Ok told)) rest (so (Host (host.Ok told)))),
    );
  }

-- `init` alone says what it decides
of_said : (plan : Plan) (seat : HostSeat) (who : Context) (asked : Request) →
    OfScopes (SaysSo (decides plan (Requests who asked))) plan seat asked
of_said plan seat who (request.Init capable) = λ era form told. refl
of_said plan seat who request.Root = λ era form told. refl
of_said plan seat who (request.Open inode kill flags) = ((λ fd how. tt), (λ fd name. tt))
of_said plan seat who (request.OpenDir inode flags) = ((λ fd how. tt), (λ fd name. tt))
of_said plan seat who (request.Create parent name mode kill flags umask ext) = ((λ fd how. tt), (λ fd name. tt))
of_said plan seat who (request.Write inode handle offset bytes delayed kill flags) =
    ((λ fd at told append. tt), (λ fd name. tt))
of_said plan seat who (request.SetAttr inode handle valid attr) =
    (((λ fd size. tt), (λ fd name. tt)), (λ fd how. tt), (λ fd name. tt))
of_said plan seat who (request.SyncFs inode) = λ fd how. tt
of_said plan seat who (request.SetXattr inode name value flags extra) = ((λ fd how. tt), (λ through fd named. tt))
of_said plan seat who (request.GetXattr inode name size) = λ fd how. tt
of_said plan seat who (request.ListXattr inode size) = λ fd how. tt
of_said plan seat who (request.RemoveXattr inode name) = ((λ fd how. tt), (λ through fd named. tt))
of_said plan seat who asked = tt

asked_says : (plan : Plan) (seat : HostSeat) (asked : Asked) →
    All (Says (decides plan asked)) (returns (decides plan asked)) (grammar_for plan seat asked)
asked_says plan seat (Requests who asked) =
    let decided = decides plan (Requests who asked) in
    all_framed (Says decided) (returns decided) seat (tree_of plan seat who asked) [] []
    (each_request (saying decided seat) plan who asked (of_any plan who asked) (of_said plan seat who asked)
    (of_memory (λ tree. Does (Says decided) tree) (λ made next so. so made) asked))
asked_says plan seat (Edits edit) = (tt, λ told. tt)

asked_begins : (plan : Plan) (seat : HostSeat) (asked : Asked) (steps : List Step) (end : Finish) →
    Belongs (grammar_for plan seat asked) steps end → Begins (decides plan asked) steps
asked_begins plan seat (Requests who (request.Init capable)) [] end b = tt
asked_begins plan seat (Requests who (request.Init capable)) (step ∷ steps) end b = b.0
asked_begins plan seat asked steps end b = tt

cut_begins : (plan : Plan) (seat : HostSeat) (asked : Asked) (so_far rest : List Step) (end : Finish) →
    CutAfter seat (grammar_for plan seat asked) so_far rest end → Begins (decides plan asked) (so_far ++ rest)
cut_begins plan seat (Requests who (request.Init capable)) [] [] end c = tt
cut_begins plan seat (Requests who (request.Init capable)) [] (step ∷ rest) end c = absurd c
cut_begins plan seat (Requests who (request.Init capable)) (step ∷ so_far) rest end c = c.0
cut_begins plan seat asked so_far rest end c = tt

-- whole or cut
pub job_decides : (plan : Plan) (seat : HostSeat) (asked : Asked) (steps : List Step) (end : Finish) →
    ComesToAnswer plan seat asked steps end → Decides (decides plan asked) steps
job_decides plan seat asked steps end (inl b) =
    let decided = decides plan asked in
    record {
      says = steps_so (Says decided) (returns decided) (grammar_for plan seat asked) steps end
          (asked_says plan seat asked) b;
      begins = asked_begins plan seat asked steps end b;
    }
job_decides plan seat asked steps end (inr c) =
    let decided = decides plan asked in
    subst (Decides decided) (sym c.2) (record {
      says = cut_so (Says decided) (returns decided) seat (grammar_for plan seat asked) c.0 c.1 end
          (asked_says plan seat asked) c.3;
      begins = cut_begins plan seat asked c.0 c.1 end c.3;
    })
