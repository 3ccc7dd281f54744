-- The making of an object under a name that is answered with an entry came to it by a lookup of that name.
use Rattle.std.proofs.Common.{◌≡◌, ◌++◌, ◌∷◌, ◌∙◌, [], ℕ, true, false, List, Option, Some, None}
use Rattle.std.proofs.Common.{Err, Ok, Result, ap, append_assoc, refl, subst, sym}
use Rattle.std.specs.List.{list_any}
use Rattle.pt_host.specs.Call.{Call}
use Rattle.pt_host.specs.Errno.{eperm}
use Rattle.pt_host.specs.declared.ids.Errno.{Errno}
use Rattle.pt_host.specs.declared.ids.Fd.{Fd}
use Rattle.pt_host.specs.declared.op.KeptHostOp.TheVariants as call
use Rattle.pt_host.specs.declared.reply.HostReply.TheVariants as host
use Rattle.pt_host.specs.declared.reply.HostValue.TheVariants as value
use Rattle.pt_host.specs.declared.seat.HostSeat.{HostSeat}
use Rattle.pt_creds.specs.Identity.{Credentials}
use Rattle.pt_creds.specs.Steps.{cred_steps}
use Rattle.pt_tables.specs.declared.event.KeptEvent.TheVariants as change
use Rattle.pt_tables.specs.declared.form.Negotiated.{Negotiated}
use Rattle.pt_tables.specs.declared.reply.EventReply.TheVariants as event
use Rattle.pt_iface.specs.declared.answer.Answer.{Answer}
use Rattle.pt_iface.specs.declared.answer.Answer.TheVariants as answer
use Rattle.pt_iface.specs.declared.entry.Entry.{Entry}
use Rattle.pt_frame.specs.Deed.{Calls, Changes, Step}
use Rattle.pt_frame.specs.Grammar.{Belongs}
use Rattle.pt_frame.specs.Replies.{passes_with}
use Rattle.pt_frame.specs.Tree.{Asks, Bares, Gives, RequestTree, Shuts, grammar_of_tree, on, go_on}
use Rattle.pt_frame.specs.declared.act.ActReply.{ActReply}
use Rattle.pt_frame.specs.declared.act.ActReply.TheVariants.{Event, Host, NoCopy}
use Rattle.pt_frame.specs.declared.finish.Finish.TheVariants as finish
use Rattle.pt_req.specs.Asker.{as_asker, asker_of, umask_of, under_umask}
use Rattle.pt_req.specs.Attributes.{Label, host_label}
use Rattle.pt_req.specs.Parts.{by_path, file_of, look_up, named}
use Rattle.pt_req.specs.Steps.{begin, began_in, ok_in, or_refused, refused_in, resolve, resolved_in, session_of}
use Rattle.pt_req.specs.Steps.{set_xattr, tried_in}
use Rattle.pt_tables.specs.declared.reply.Resolved.{Resolved}
use Rattle.pt_req.specs.declared.begun.BegunSession.{BegunSession}
use Rattle.pt_req.specs.declared.parts.looked.Looked.{Looked}
use Rattle.pt_req.specs.declared.plan.Plan.{Plan}
use Rattle.pt_attr.specs.Creating.{undone}
use Rattle.pt_attr.specs.Making.{ObjectAsked, is_nul, label_at, labelled_at, make_object, set_opened}
use Rattle.pt_attr.specs.Making.{targeted}
use Rattle.pt_attr.specs.Steps.{make, opened_in, try_open_at}
use Rattle.pt_law.specs.World.{fd_of, made}
use Rattle.pt_fit.proofs.LookedUp.{IsLookedUp}
use Rattle.pt_fit.proofs.ObjectKinds.{Kind, Directory, Link, Node, make_kind, make_named, making_call, targeted_as}
use Rattle.pt_fit.proofs.ObjectKinds.{unmaking_call}
use Rattle.pt_fit.proofs.Coming.{bare_comes, label_found, set_on, taken_comes, tried_on}
use Rattle.pt_fit.proofs.Leading.{HasEntry, Leads, given_none, goes_on, in_bracket, none_told, refused_none, replied}
use Rattle.pt_fit.proofs.Leading.{shut_gives, shut_none, shuts_on}
use Rattle.pt_host.specs.Words.{Each}
use Rattle.pt_law.proofs.Opening.{GivesNone}
use Rattle.pt_fit.proofs.Looking.{began, filed, good_name, good_named, looks, resolved, then_step}
use Rattle.pt_law.specs.Reopened.{resolving}

-- By some steps the job comes to this tree.
record Reaches (seat : HostSeat) (last : Answer) (tree : RequestTree) (steps : List Step) : Type 0 where
  front : List Step
  rest : List Step
  are : steps ≡ front ++ rest
  on : Leads seat tree rest last

module _ (seat : HostSeat) (last : Answer) (p : HasEntry last) where
  reaches_now : (tree : RequestTree) (steps : List Step) → Leads seat tree steps last → Reaches seat last tree steps
  reaches_now tree steps l = record { front = []; rest = steps; are = refl; on = l }

  reaches_behind : (tree : RequestTree) (steps passed later : List Step) → steps ≡ passed ++ later →
      Reaches seat last tree later → Reaches seat last tree steps
  reaches_behind tree steps passed later e r = record {
    front = passed ++ r.front;
    rest = r.rest;
    are = e ∙ ap (λ (z : List Step). passed ++ z) r.are ∙ sym (append_assoc passed r.front r.rest);
    on = r.on;
  }

  -- a call's step comes first
  calls_reach : (tree : RequestTree) (asked : Call) (next : ActReply → RequestTree) (steps : List Step) →
      ((told : ActReply) (rest : List Step) → Leads seat (next told) rest last → Reaches seat last tree rest) →
      Leads seat (Asks (Calls asked) next) steps last → Reaches seat last tree steps
  calls_reach tree asked next steps f l =
      let r = replied seat asked next steps last p l in
      reaches_behind tree steps (record { deed = r.did; reply = r.told } ∷ []) r.rest r.are (f r.told r.rest r.on)

  shut_reaches : (tree : RequestTree) (steps : List Step) → Leads seat (Shuts false tree) steps last →
      Reaches seat last tree steps
  shut_reaches tree steps l =
      let s = shuts_on seat false tree steps last l in
      reaches_behind tree steps s.0 s.1 s.2 (reaches_now tree s.1 s.3)

  -- where its name goes again no entry is answered
  undone_none : (undoing : Call) (given : Answer) → passes_with given ≡ false → (steps : List Step) →
      Leads seat (undone undoing given) steps last → ⊥
  undone_none undoing given none steps l =
      let r = replied seat undoing (on tried_in (λ done. Gives given)) steps last p l in
      let on : Leads seat (Gives given) r.rest last = tried_on seat last p (Gives given) r.told r.rest r.on in
      let some : passes_with given ≡ true = ap passes_with (sym (given_none seat given last r.rest p on)) ∙ p in
      absurd (cc)

  shut_undone_none : (undoing : Call) (given : Answer) → passes_with given ≡ false → (steps : List Step) →
      Leads seat (Shuts false (undone undoing given)) steps last → ⊥
  shut_undone_none undoing given none steps l =
      let s = shuts_on seat false (undone undoing given) steps last l in undone_none undoing given none s.1 s.3

  module _ (undoing : Call) (next : RequestTree) where
    abbrev shut : Option Answer → RequestTree
    shut refused = Shuts false (or_refused (undone undoing) next refused)

    set_told : (told : ActReply) (rest : List Step) → Leads seat (on refused_in shut told) rest last →
        Reaches seat last next rest
    unfolding on go_on
    set_told (Host (host.Ok got)) rest m = shut_reaches next rest m
    set_told (Host (host.Refused errno)) rest m =
        absurd (shut_undone_none undoing (answer.Refused errno) refl rest m)
    set_told (Host (host.Fault errno)) rest m =
        absurd (shut_undone_none undoing (answer.Refused errno) refl rest m)
    set_told (Host host.NoMemory) rest m = absurd (shut_undone_none undoing answer.NoMemory refl rest m)
    set_told NoCopy rest m = absurd (shut_undone_none undoing answer.NoMemory refl rest m)
    set_told (Event got) rest m = absurd (refused_none seat (Event got) rest last p m)

    set_reaches : (fd : Fd) (name bytes : List ℕ) (steps : List Step) →
        Leads seat (set_xattr fd true name bytes 0 shut) steps last → Reaches seat last next steps
    set_reaches fd name bytes steps l =
        calls_reach next (call.SetXattr fd true name bytes 0) (on refused_in shut) steps set_told l

    abbrev sets : List ℕ → List ℕ → Result Fd Answer → RequestTree
    sets attribute bytes opened = set_opened attribute bytes opened shut

    opened_told : (attribute bytes : List ℕ) (told : ActReply) (rest : List Step) →
        Leads seat (on opened_in (sets attribute bytes) told) rest last → Reaches seat last next rest
    unfolding on go_on
    opened_told attribute bytes (Host (host.Ok (value.Fd fd))) rest m = set_reaches fd attribute bytes rest m
    opened_told attribute bytes (Host (host.Refused errno)) rest m =
        absurd (shut_undone_none undoing (answer.Refused errno) refl rest m)
    opened_told attribute bytes (Host (host.Fault errno)) rest m =
        absurd (shut_undone_none undoing (answer.Refused errno) refl rest m)
    opened_told attribute bytes (Host host.NoMemory) rest m =
        absurd (shut_undone_none undoing answer.NoMemory refl rest m)
    opened_told attribute bytes NoCopy rest m = absurd (shut_undone_none undoing answer.NoMemory refl rest m)
    opened_told attribute bytes told rest m = absurd (refused_none seat told rest last p m)

    opened_reaches : (dir : Fd) (name attribute bytes : List ℕ) (steps : List Step) →
        Leads seat (try_open_at dir name by_path (sets attribute bytes)) steps last → Reaches seat last next steps
    opened_reaches dir name attribute bytes steps l =
        calls_reach next (call.OpenAt dir name by_path 0) (on opened_in (sets attribute bytes)) steps
        (opened_told attribute bytes) l

    label_reaches : (dir : Fd) (name bytes : List ℕ) (attribute : Result (List ℕ) Errno) (steps : List Step) →
        Leads seat (label_at dir name undoing bytes attribute next) steps last → Reaches seat last next steps
    label_reaches dir name bytes (Err errno) steps m = absurd (undone_none undoing (answer.Refused errno) refl steps m)
    label_reaches dir name bytes (Ok attribute) steps m =
        opened_reaches dir name attribute bytes steps
        (in_bracket seat (try_open_at dir name by_path (sets attribute bytes)) steps last m)

    labelled_reaches : (dir : Fd) (name : List ℕ) (label : Option Label) (steps : List Step) →
        Leads seat (labelled_at dir name undoing label next) steps last → Reaches seat last next steps
    labelled_reaches dir name None steps l = reaches_now next steps l
    labelled_reaches dir name (Some label) steps l = label_reaches dir name label.value label.name steps l

  -- the object was made, and the scopes ended
  made_reaches : (making : Call) (next : RequestTree) (steps : List Step) →
      Leads seat (make making next) steps last → Reaches seat last next steps
  made_reaches making next steps l =
      calls_reach next making (λ told. Bares (on ok_in (λ done. next) told)) steps (λ told rest m.
      let b = bare_comes seat last p (on ok_in (λ done. next) told) rest m in
      reaches_behind next rest b.front b.rest b.are
      (reaches_now next b.rest (set_on seat last p next told b.rest b.on))) l

  -- as whoever asks
  asker_reaches : (asker : Option Credentials) (umask : Option ℕ) (making : Call) (next : RequestTree)
      (steps : List Step) → Leads seat (as_asker seat asker (under_umask umask (make making next))) steps last →
      Reaches seat last next steps
  asker_reaches None umask making next steps l =
      let no : passes_with (answer.Refused eperm) ≡ true =
      ap passes_with (sym (given_none seat (answer.Refused eperm) last steps p l)) ∙ p in absurd (cc)
  asker_reaches (Some creds) umask making next steps l =
      let t = taken_comes seat last p (cred_steps creds seat) umask (make making next) steps l in
      reaches_behind next steps t.front t.rest t.are (made_reaches making next t.rest t.on)

-- in its directory it came to a lookup of its name
kind_reaches : (plan : Plan) (seat : HostSeat) (session : BegunSession) (object : ObjectAsked) (its : Kind)
    (label : Option Label) (dir : Fd) (last : Answer) (p : HasEntry last) (steps : List Step) →
    Leads seat (make_kind plan seat session object its label dir) steps last →
    Reaches seat last (look_up plan session object.parent object.name (λ looked. Gives (answer.Entry looked.entry)))
    steps
unfolding make_object
kind_reaches plan seat session object its label dir last p steps l =
    let looking : RequestTree = look_up plan session object.parent object.name (λ looked.
    Gives (answer.Entry looked.entry)) in
    let undoing = unmaking_call its dir object.name in
    let m = asker_reaches seat last p (asker_of plan session object.who object.ext.sup_gid)
    (umask_of session object.umask)
    (making_call its dir object.name) (labelled_at dir object.name undoing label looking) steps l in
    let k = labelled_reaches seat last p undoing looking dir object.name label m.rest m.on in
    reaches_behind seat last p looking steps m.front m.rest m.are k

target_good : (seat : HostSeat) (its : Kind) (next : RequestTree) (steps : List Step) (last : Answer) →
    HasEntry last → Leads seat (targeted_as its next) steps last → Leads seat next steps last
unfolding targeted
target_good seat (Directory mode) next steps last p a = a
target_good seat (Node mode rdev) next steps last p a = a
target_good seat (Link target) next steps last p a = good_name seat (list_any is_nul target) next steps last p a

-- it began, and came by some steps to those of a lookup
pub made_by : (plan : Plan) (seat : HostSeat) (object : ObjectAsked) (its : Kind) (entry : Entry) (steps : List Step) →
    Belongs (grammar_of_tree seat (begin (make_named plan seat object its))) steps
    (finish.Answer (answer.Entry entry)) →
    (era : ℕ) × (agreed : Negotiated) × (front : List Step) × (own : List Step) × (back : List Step)
    × (steps ≡ made (Changes change.Begin) (Event (event.Began era agreed)) ∷ (front ++ (own ++ back)))
    × IsLookedUp plan era agreed object.parent object.name entry own
    × Each (λ (step : Step). GivesNone step.deed step.reply) back
unfolding on go_on
made_by plan seat object its entry steps b = found (record { holds = []; marks = []; belongs = b })
  where
    last : Answer
    last = answer.Entry entry

    answers : Looked → RequestTree
    answers looked = Gives (answer.Entry looked.entry)

    looking : BegunSession → RequestTree
    looking session = look_up plan session object.parent object.name answers

    in_dir : BegunSession → Option Label → Fd → RequestTree
    in_dir session label dir = make_kind plan seat session object its label dir

    in_parent : BegunSession → Resolved → RequestTree
    in_parent session directory =
        host_label plan session.agreed object.ext.secctx (λ label. file_of directory.form (in_dir session label))

    Found : Type 0
    Found = (era : ℕ) × (agreed : Negotiated) × (front : List Step) × (own : List Step) × (back : List Step)
        × (steps ≡ made (Changes change.Begin) (Event (event.Began era agreed)) ∷ (front ++ (own ++ back)))
        × IsLookedUp plan era agreed object.parent object.name entry own
        × Each (λ (step : Step). GivesNone step.deed step.reply) back

    same_entry : {given : Entry} → answer.Entry entry ≡ answer.Entry given → given ≡ entry
    same_entry e = cc

    looked : (session : BegunSession) (front rest : List Step) →
        steps ≡ made (Changes change.Begin) (Event (event.Began session.era session.agreed)) ∷ (front ++ rest) →
        Leads seat (looking session) rest last → Found
    looked session front rest e l =
        let f = looks seat plan session object.parent object.name answers rest last refl l in
        let begun = made (Changes change.Begin) (Event (event.Began session.era session.agreed)) in
        let same : f.looked.entry ≡ entry =
        same_entry (shut_none seat (answer.Entry f.looked.entry) last f.rest refl f.on) in (
          session.era,
          session.agreed,
          front,
          f.own,
          f.rest,
          e ∙ ap (λ (z : List Step). begun ∷ (front ++ z)) f.are,
          subst (λ (one : Entry).
              IsLookedUp plan session.era session.agreed object.parent object.name one f.own) same f.by,
          shut_gives seat (answer.Entry f.looked.entry) last f.rest refl f.on,
        )

    dir_found : (session : BegunSession) (label : Option Label) (row : Resolved) (rest : List Step) →
        steps ≡ made (Changes change.Begin) (Event (event.Began session.era session.agreed))
        ∷ resolving object.parent row ∷ rest →
        Leads seat (in_dir session label (fd_of row.form)) rest last → Found
    dir_found session label row rest e l =
        let r = kind_reaches plan seat session object its label (fd_of row.form) last refl rest l in
        let a = resolving object.parent row in
        let begun = made (Changes change.Begin) (Event (event.Began session.era session.agreed)) in
        looked session (a ∷ r.front) r.rest (e ∙ ap (λ (z : List Step). begun ∷ a ∷ z) r.are) r.on

    begins : BegunSession → RequestTree
    begins session = named object.name (targeted_as its (resolve object.parent (in_parent session)))

    found : Leads seat (begin begins) steps last → Found
    found l =
        let g = goes_on seat (Changes change.Begin) (on began_in begins) steps last refl
        (none_told change.Begin (λ t. refl)) refl l in
        let k = began seat begins g.told g.rest last refl g.on in
        let this = session_of k.0 k.1 in
        let asks = change.Resolve object.parent in
        let tree = resolve object.parent (in_parent this) in
        let r = goes_on seat (Changes asks) (on resolved_in (in_parent this)) g.rest last refl
        (none_told asks (λ t. refl)) refl
        (target_good seat its tree g.rest last refl
        (good_named seat object.name (targeted_as its tree) g.rest last refl k.3)) in
        let d = resolved seat (in_parent this) r.told r.rest last refl r.on in
        let c = label_found seat r.rest last plan this.agreed object.ext.secctx _ d.2 in
        dir_found this c.0 d.0 r.rest (then_step g.are k.2 (then_step r.are d.1 refl))
        (filed seat d.0.form (in_dir this c.0) r.rest last c.1)
