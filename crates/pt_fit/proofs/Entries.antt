-- A request that is answered with an entry comes to a lookup of the name that it asks for, whatever it did before.
use Rattle.std.proofs.Common.{◌≡◌, ℕ, List, [], ◌∷◌, ◌++◌, None, Some, refl, ap, subst, ◌∙◌}
use Rattle.pt_host.specs.Words.{Each}
use Rattle.pt_host.specs.declared.ids.Fd.{Fd}
use Rattle.pt_host.specs.declared.seat.HostSeat.{HostSeat}
use Rattle.pt_host.specs.declared.op.KeptHostOp.TheVariants as call
use Rattle.pt_host.specs.declared.reply.HostReply.TheVariants as host
use Rattle.pt_tables.specs.declared.form.RowForm.{RowForm}
use Rattle.pt_tables.specs.declared.form.RowForm.TheVariants.{File}
use Rattle.pt_tables.specs.declared.form.Negotiated.{Negotiated}
use Rattle.pt_tables.specs.declared.event.KeptEvent.TheVariants as change
use Rattle.pt_tables.specs.declared.reply.EventReply.TheVariants as event
use Rattle.pt_iface.specs.declared.answer.Answer.{Answer}
use Rattle.pt_iface.specs.declared.answer.Answer.TheVariants as answer
use Rattle.pt_iface.specs.declared.entry.Entry.{Entry}
use Rattle.pt_iface.specs.declared.request.Context.{Context}
use Rattle.pt_iface.specs.declared.request.Request.{Request}
use Rattle.pt_iface.specs.declared.request.Request.TheVariants as request
use Rattle.pt_frame.specs.Deed.{Calls, Changes, Step}
use Rattle.pt_frame.specs.Grammar.{Belongs}
use Rattle.pt_frame.specs.Tree.{RequestTree, Gives, grammar_of_tree, on, go_on}
use Rattle.pt_frame.specs.declared.act.ActReply.{ActReply}
use Rattle.pt_frame.specs.declared.act.ActReply.TheVariants.{Event, Host}
use Rattle.pt_frame.specs.declared.finish.Finish.TheVariants as finish
use Rattle.pt_req.specs.Parts.{file_of, look_up, named}
use Rattle.pt_req.specs.Steps.{resolve, session_of, began_in, ok_in, resolved_in, begin}
use Rattle.pt_tables.specs.declared.reply.Resolved.{Resolved}
use Rattle.pt_req.specs.declared.begun.BegunSession.{BegunSession}
use Rattle.pt_req.specs.declared.parts.looked.Looked.{Looked}
use Rattle.pt_req.specs.declared.plan.Plan.{Plan}
use Rattle.pt_job.specs.Pattern.{Asked, Edits, Requests, grammar_for, grammar_of}
use Rattle.pt_attr.specs.Making.{ObjectAsked}
use Rattle.pt_attr.specs.Parts.{files_by, two_files}
use Rattle.pt_attr.specs.Steps.{do_call}
use Rattle.pt_attr.specs.declared.parts.TwoFiles.{TwoFiles}
use Rattle.pt_job.specs.Requests.{object_asked}
use Rattle.pt_law.specs.Discipline.{AreDisciplined}
use Rattle.pt_law.specs.Laws.{Starts}
use Rattle.pt_law.specs.Told.{AllMayBeTold}
use Rattle.pt_law.specs.World.{Turn, World, Runs, steps_of, made}
use Rattle.pt_fit.specs.Entered.{IsEntered, name_asked}
use Rattle.pt_fit.specs.Fit.{MayAnswer}
use Rattle.pt_law.proofs.Opening.{GivesNone}
use Rattle.pt_fit.proofs.LookedUp.{IsLookedUp}
use Rattle.pt_fit.proofs.Asked.{edit_passes_none, request_right}
use Rattle.pt_fit.proofs.Entered.{entered_law}
use Rattle.pt_fit.proofs.ObjectKinds.{Kind, Directory, Link, Node, make_named}
use Rattle.pt_fit.proofs.Leading.{HasEntry, Leads, goes_on, none_told, refused_none, shut_gives, shut_none}
use Rattle.pt_fit.proofs.Looking.{began, good_named, looked_up, looks, resolved, then_step}
use Rattle.pt_fit.proofs.ObjectEntries.{made_by}

-- What was asked names a parent and a name. The job's steps begin it, come to a lookup of these, and go on.
pub record EntryBy (plan : Plan) (asked : Asked) (entry : Entry) (steps : List Step) : Type 0 where
  pub parent : ℕ
  pub name : List ℕ
  pub names : name_asked asked ≡ Some (parent, name)
  pub era : ℕ
  pub agreed : Negotiated
  pub front : List Step
  pub own : List Step
  pub back : List Step
  pub all : steps ≡ made (Changes change.Begin) (Event (event.Began era agreed)) ∷ (front ++ (own ++ back))
  pub by : IsLookedUp plan era agreed parent name entry own
  pub quiet : Each (λ (step : Step). GivesNone step.deed step.reply) back

-- a call that tells nothing was Ok
pub done_on : (seat : HostSeat) (next : RequestTree) (told : ActReply) (rest : List Step) (last : Answer) →
    HasEntry last → Leads seat (on ok_in (λ done. next) told) rest last → Leads seat next rest last
unfolding on go_on
done_on seat next (Host (host.Ok value)) rest last p l = l
done_on seat next told rest last p l = absurd (refused_none seat told rest last p l)

-- two numbers were resolved
record Both (seat : HostSeat) (next : TwoFiles → RequestTree) (steps : List Step) (last : Answer) : Type 0 where
  one : Step
  other : Step
  rest : List Step
  are : steps ≡ one ∷ other ∷ rest
  from : Fd
  to : Fd
  on : Leads seat (next (two_files from to)) rest last

both : (seat : HostSeat) (first second : ℕ) (next : TwoFiles → RequestTree) (steps : List Step) (last : Answer) →
    HasEntry last → Leads seat (files_by first second next) steps last → Both seat next steps last
unfolding on go_on files_by
both seat first second next steps last p l =
    let files : RowForm → Resolved → RequestTree =
    λ form other. file_of form (λ from. file_of other.form (λ to. next (two_files from to))) in
    let then : Resolved → RequestTree = λ one. resolve second (files one.form) in
    let r = goes_on seat (Changes (change.Resolve first)) (on resolved_in then) steps last refl
    (none_told (change.Resolve first) (λ t. refl)) p l in
    let k = resolved seat then r.told r.rest last p r.on in
    let s = goes_on seat (Changes (change.Resolve second)) (on resolved_in (files k.0.form)) r.rest last refl
    (none_told (change.Resolve second) (λ t. refl)) p k.2 in
    let m = resolved seat (files k.0.form) s.told s.rest last p s.on in
    let d = at k.0.form m.0.form s.rest m.2 in
    record {
      one = made (Changes (change.Resolve first)) r.told;
      other = made (Changes (change.Resolve second)) s.told;
      rest = s.rest;
      are = r.are ∙ ap (λ (z : List Step). made (Changes (change.Resolve first)) r.told ∷ z) s.are;
      from = d.0;
      to = d.1;
      on = d.2;
    }
  where
    at : (form also : RowForm) (rest : List Step) →
        Leads seat (file_of form (λ from. file_of also (λ to. next (two_files from to)))) rest last →
        (from : Fd) × (to : Fd) × Leads seat (next (two_files from to)) rest last
    at (File from) (File to) rest a = (from, to, a)

linked_up : (plan : Plan) (seat : HostSeat) (who : Context) (inode newparent : ℕ) (newname : List ℕ) (entry : Entry)
    (steps : List Step) →
    Belongs (grammar_of plan seat who (request.Link inode newparent newname)) steps
    (finish.Answer (answer.Entry entry)) →
    EntryBy plan (Requests who (request.Link inode newparent newname)) entry steps
unfolding on go_on
linked_up plan seat who inode newparent newname entry steps b =
    let last : Answer = answer.Entry entry in
    let answers : Looked → RequestTree = λ looked. Gives (answer.Entry looked.entry) in
    let links : BegunSession → TwoFiles → RequestTree =
    λ session both. do_call (call.MakeLink both.from both.to newname)
    (look_up plan session newparent newname answers) in
    let begins : BegunSession → RequestTree =
    λ session. named newname (files_by inode newparent (links session)) in
    let g = goes_on seat (Changes change.Begin) (on began_in begins) steps last refl
    (none_told change.Begin (λ t. refl)) refl (record { holds = []; marks = []; belongs = b }) in
    let k = began seat begins g.told g.rest last refl g.on in
    let this = session_of k.0 k.1 in
    let m = both seat inode newparent (links this) g.rest last refl
    (good_named seat newname (files_by inode newparent (links this)) g.rest last refl k.3) in
    let finds : RequestTree = look_up plan this newparent newname answers in
    let c = goes_on seat (Calls (call.MakeLink m.from m.to newname)) (on ok_in (λ done. finds)) m.rest last refl
    (λ t. refl) refl m.on in
    let l = looks seat plan this newparent newname answers c.rest last refl
    (done_on seat finds c.told c.rest last refl c.on) in
    let link : Step = made (Calls (call.MakeLink m.from m.to newname)) c.told in
    let same : l.looked.entry ≡ entry =
    same_entry (shut_none seat (answer.Entry l.looked.entry) last l.rest refl l.on) in
    record {
      parent = newparent;
      name = newname;
      names = refl;
      era = k.0;
      agreed = k.1;
      front = m.one ∷ m.other ∷ link ∷ [];
      own = l.own;
      back = l.rest;
      all = then_step g.are k.2 (m.are
          ∙ ap (λ (z : List Step). m.one ∷ m.other ∷ z) (c.are ∙ ap (λ (z : List Step). link ∷ z) l.are));
      by = subst (λ (e : Entry). IsLookedUp plan k.0 k.1 newparent newname e l.own) same l.by;
      quiet = shut_gives seat (answer.Entry l.looked.entry) last l.rest refl l.on;
    }
  where
    same_entry : {given : Entry} → answer.Entry entry ≡ answer.Entry given → given ≡ entry
    same_entry e = cc

lookup_by : (plan : Plan) (seat : HostSeat) (who : Context) (parent : ℕ) (name : List ℕ) (entry : Entry)
    (steps : List Step) →
    Belongs (grammar_of plan seat who (request.Lookup parent name)) steps (finish.Answer (answer.Entry entry)) →
    EntryBy plan (Requests who (request.Lookup parent name)) entry steps
lookup_by plan seat who parent name entry steps b =
    let e = looked_up plan seat who parent name entry steps b in
    record {
      parent = parent;
      name = name;
      names = refl;
      era = e.0;
      agreed = e.1;
      front = [];
      own = e.2;
      back = e.3;
      all = e.4;
      by = e.5;
      quiet = e.6;
    }

made_up : (plan : Plan) (seat : HostSeat) (asked : Asked) (object : ObjectAsked) (its : Kind) (entry : Entry)
    (steps : List Step) →
    name_asked asked ≡ Some (object.parent, object.name) →
    Belongs (grammar_of_tree seat (begin (make_named plan seat object its))) steps
    (finish.Answer (answer.Entry entry)) →
    EntryBy plan asked entry steps
made_up plan seat asked object its entry steps names b =
    let e = made_by plan seat object its entry steps b in
    record {
      parent = object.parent;
      name = object.name;
      names = names;
      era = e.0;
      agreed = e.1;
      front = e.2;
      own = e.3;
      back = e.4;
      all = e.5;
      by = e.6;
      quiet = e.7;
    }

-- each request that may be answered with an entry
pub entry_by : (plan : Plan) (seat : HostSeat) (who : Context) (what : Request) (entry : Entry) (steps : List Step) →
    MayAnswer (answer.Entry entry) what →
    Belongs (grammar_of plan seat who what) steps (finish.Answer (answer.Entry entry)) →
    EntryBy plan (Requests who what) entry steps
entry_by plan seat who (request.Lookup parent name) entry steps m b =
    lookup_by plan seat who parent name entry steps b
entry_by plan seat who (request.Link inode newparent newname) entry steps m b =
    linked_up plan seat who inode newparent newname entry steps b
entry_by plan seat who (request.Mkdir parent name mode umask ext) entry steps m b =
    made_up plan seat (Requests who (request.Mkdir parent name mode umask ext))
    (object_asked who parent name (Some umask) ext) (Directory mode) entry steps refl b
entry_by plan seat who (request.Mknod parent name mode rdev umask ext) entry steps m b =
    made_up plan seat (Requests who (request.Mknod parent name mode rdev umask ext))
    (object_asked who parent name (Some umask) ext) (Node mode rdev) entry steps refl b
entry_by plan seat who (request.Symlink target parent name ext) entry steps m b =
    made_up plan seat (Requests who (request.Symlink target parent name ext))
    (object_asked who parent name None ext) (Link target) entry steps refl b
entry_by plan seat who what entry steps m b = absurd m

-- whatever is asked
pub entry_asked : (plan : Plan) (seat : HostSeat) (asked : Asked) (steps : List Step) (entry : Entry) →
    AllMayBeTold steps → Belongs (grammar_for plan seat asked) steps (finish.Answer (answer.Entry entry)) →
    EntryBy plan asked entry steps
entry_asked plan seat (Requests who what) steps entry t b =
    entry_by plan seat who what entry steps (request_right plan seat who what steps (answer.Entry entry) t b).1 b
entry_asked plan seat (Edits edit) steps entry t b =
    absurd (edit_passes_none edit steps (answer.Entry entry) refl b)

pub entry_named : (plan : Plan) (seat : HostSeat) (asked : Asked) (steps : List Step) (entry : Entry) →
    AllMayBeTold steps → Belongs (grammar_for plan seat asked) steps (finish.Answer (answer.Entry entry)) →
    (parent : ℕ) × (name : List ℕ) × (name_asked asked ≡ Some (parent, name))
entry_named plan seat asked steps entry t b =
    let e = entry_asked plan seat asked steps entry t b in (e.parent, e.name, e.names)

-- at the end of a run
pub entry_entered : (limits : List ℕ) (bound : ℕ) (plan : Plan) (seat : HostSeat) (asked : Asked) (turns : List Turn)
    (start end : World) (j : ℕ) (entry : Entry) → Starts limits start → AreDisciplined bound turns →
    AllMayBeTold (steps_of j turns) →
    Belongs (grammar_for plan seat asked) (steps_of j turns) (finish.Answer (answer.Entry entry)) →
    (parent : ℕ) × (name : List ℕ) × (name_asked asked ≡ Some (parent, name))
    × (Runs start turns end → IsEntered plan end (steps_of j turns) j parent name entry)
entry_entered limits bound plan seat asked turns start end j entry s d t b =
    let e = entry_asked plan seat asked (steps_of j turns) entry t b in (
      e.parent,
      e.name,
      e.names,
      (λ r. entered_law limits bound plan turns start end j e.parent e.name entry e.era e.agreed e.front e.own e.back s
          d r e.all e.by e.quiet),
    )
