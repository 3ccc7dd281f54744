-- `create` that is answered with an entry came to it by a lookup of the name, behind which it inserted the handle:
-- before that it made the file, or nothing.
use Rattle.std.proofs.Common.{◌≡◌, ◌⊎◌, inl, inr, ◌++◌, ◌∷◌, ◌∙◌, ◌&&◌, [], if◌then◌else◌, ℕ, Bool, List, None}
use Rattle.std.proofs.Common.{Option, Some, ap, append_assoc, false, refl, subst, sym, true}
use Rattle.pt_host.specs.Call.{Call}
use Rattle.pt_host.specs.Errno.{eperm}
use Rattle.pt_host.specs.Words.{Each}
use Rattle.pt_host.specs.declared.flags.OpenFlags.{OpenFlags}
use Rattle.pt_host.specs.declared.ids.Fd.{Fd}
use Rattle.pt_host.specs.declared.ids.ObjIds.{ObjIds}
use Rattle.pt_host.specs.declared.op.KeptHostOp.TheVariants as call
use Rattle.pt_host.specs.declared.reply.HostReply.TheVariants as host
use Rattle.pt_host.specs.declared.reply.HostValue.TheVariants as value
use Rattle.pt_host.specs.declared.seat.HostSeat.{HostSeat}
use Rattle.pt_host.specs.declared.stat.Stat.{Stat}
use Rattle.pt_creds.specs.Identity.{Credentials}
use Rattle.pt_creds.specs.Steps.{cred_steps}
use Rattle.pt_tables.specs.declared.event.KeptEvent.TheVariants as change
use Rattle.pt_tables.specs.declared.form.Negotiated.{Negotiated}
use Rattle.pt_tables.specs.declared.reply.EventReply.TheVariants as event
use Rattle.pt_iface.specs.declared.answer.Answer.{Answer}
use Rattle.pt_iface.specs.declared.answer.Answer.TheVariants as answer
use Rattle.pt_iface.specs.declared.entry.Entry.{Entry}
use Rattle.pt_iface.specs.declared.flags.OpenOptions.{OpenOptions}
use Rattle.pt_iface.specs.declared.request.Context.{Context}
use Rattle.pt_iface.specs.declared.request.Extensions.{Extensions}
use Rattle.pt_iface.specs.declared.request.Request.TheVariants as request
use Rattle.pt_frame.specs.Deed.{Calls, Changes, Deed, IsStepOf, Step}
use Rattle.pt_frame.specs.Grammar.{Belongs}
use Rattle.pt_frame.specs.Replies.{passes_with}
use Rattle.pt_frame.specs.Tree.{Bares, RequestTree, Shuts, on, go_on}
use Rattle.pt_frame.specs.declared.act.ActReply.{ActReply}
use Rattle.pt_frame.specs.declared.act.ActReply.TheVariants.{Event, Host}
use Rattle.pt_frame.specs.declared.finish.Finish.TheVariants as finish
use Rattle.pt_req.specs.Asker.{as_asker, asker_of, umask_of, under_umask}
use Rattle.pt_req.specs.Attributes.{Label, host_label}
use Rattle.pt_req.specs.Options.{making_flags}
use Rattle.pt_req.specs.Parts.{file_of, handled, look_up, named, open_num}
use Rattle.pt_req.specs.Steps.{begin, began_in, is_there, made_in, make_at}
use Rattle.pt_req.specs.Steps.{resolve, resolved_in, session_of, stat_in}
use Rattle.pt_tables.specs.declared.reply.Resolved.{Resolved}
use Rattle.pt_req.specs.declared.begun.BegunSession.{BegunSession}
use Rattle.pt_req.specs.declared.replies.Made.{Made}
use Rattle.pt_req.specs.declared.replies.Made.TheVariants.{Old}
use Rattle.pt_req.specs.declared.parts.looked.Looked.{Looked}
use Rattle.pt_req.specs.declared.plan.Plan.{Plan}
use Rattle.pt_job.specs.Pattern.{grammar_of}
use Rattle.pt_law.specs.World.{fd_of, made}
use Rattle.pt_fit.proofs.LookedUp.{IsLookedUp}
use Rattle.pt_fit.proofs.Coming.{Comes, bare_comes, label_found, labelled_comes, taken_comes}
use Rattle.pt_fit.proofs.Creating.{same_ids}
use Rattle.pt_req.proofs.Flags.{creates, excludes}
use Rattle.pt_attr.specs.Creating.{FileAsked, if_same, labelled, made_file, make_file, named_handle, new_file, old_file}
use Rattle.pt_attr.specs.Creating.{takes_old, file_asked}
use Rattle.pt_fit.proofs.Handling.{Inserted, InsertedNew, answers, each_join, inserted_by, inserted_new}
use Rattle.pt_fit.proofs.Handling.{opened_num_along, same_along}
use Rattle.pt_fit.proofs.Leading.{HasEntry, IsStill, Leads, given_none, goes_on}
use Rattle.pt_fit.proofs.Leading.{none_told, on_branch, refused_none, replied}
use Rattle.pt_fit.proofs.Looking.{began, filed, good_named, looks, resolved, stated, then_step}
use Rattle.pt_fit.proofs.Still.{all_still_make, unmade}
use Rattle.pt_law.proofs.Opening.{opening, stating, MakesNone}
use Rattle.pt_law.specs.Reopened.{resolving}
use Rattle.pt_law.proofs.Found.{MakesNew}

-- what follows a lookup of what was made, and of what was there
abbrev then_handled : Plan → BegunSession → Fd → Stat → Looked → RequestTree
then_handled plan session fd stat looked =
    if_same stat.ids looked.ids (handled session looked.entry.inode fd (λ handle.
    answers plan (named_handle looked.entry handle)))

abbrev then_opened : Plan → HostSeat → BegunSession → FileAsked → Looked → RequestTree
then_opened plan seat session asked looked =
    open_num plan seat session looked.entry.inode asked.kill asked.flags
    (λ handle. answers plan (named_handle looked.entry handle))

-- What was made is looked at, and by still steps its name comes to be looked up.
record NewFile
    (plan : Plan)
    (seat : HostSeat)
    (session : BegunSession)
    (asked : FileAsked)
    (last : Answer)
    (fd : Fd)
    (steps : List Step)
    : Type 0 where
  stat : Stat
  to_stat : List Step
  past_stat : List Step
  rest : List Step
  are : steps ≡ to_stat ++ stating fd stat ∷ (past_stat ++ rest)
  still_to : Each (λ (step : Step). IsStill step.deed) to_stat
  still_past : Each (λ (step : Step). IsStill step.deed) past_stat
  on : Leads seat (look_up plan session asked.parent asked.name (then_handled plan session fd stat)) rest last

-- Behind some still steps the file is made.
record MadeNew
    (plan : Plan)
    (seat : HostSeat)
    (session : BegunSession)
    (asked : FileAsked)
    (last : Answer)
    (steps : List Step)
    : Type 0 where
  first : List Step
  dir : Fd
  how : ℕ
  fd : Fd
  later : List Step
  are : steps ≡ first ++ opening dir asked.name (making_flags asked.flags) how fd ∷ later
  still : Each (λ (step : Step). IsStill step.deed) first
  new : NewFile plan seat session asked last fd later

-- By steps that make nothing the job comes to a lookup of what was there.
record FoundOld
    (plan : Plan)
    (seat : HostSeat)
    (session : BegunSession)
    (asked : FileAsked)
    (last : Answer)
    (steps : List Step)
    : Type 0 where
  front : List Step
  rest : List Step
  are : steps ≡ front ++ rest
  makes_none : Each (λ (step : Step). MakesNone step.deed step.reply) front
  on : Leads seat (look_up plan session asked.parent asked.name (then_opened plan seat session asked)) rest last

module _ (plan : Plan) (seat : HostSeat) (session : BegunSession) (asked : FileAsked) (label : Option Label)
    (last : Answer) (p : HasEntry last) where
  abbrev new_tree : Fd → Fd → RequestTree
  new_tree dir fd = new_file plan session asked label dir fd (answers plan)

  abbrev Ways : List Step → Type 0
  Ways steps = MadeNew plan seat session asked last steps ⊎ FoundOld plan seat session asked last steps

  new_found : (dir fd : Fd) (steps : List Step) → Comes seat last (new_tree dir fd) steps →
      NewFile plan seat session asked last fd steps
  unfolding on go_on new_file
  new_found dir fd steps c =
      let looking : Stat → RequestTree =
      λ stat. look_up plan session asked.parent asked.name (then_handled plan session fd stat) in
      let behind : Stat → RequestTree =
      λ stat. labelled fd (call.Unlink dir asked.name) label (looking stat) in
      let s = goes_on seat (Calls (call.Stat fd)) (on stat_in behind) c.rest last refl (λ t. refl) p c.on in
      let was = stated seat behind s.told s.rest last p s.on in
      let l = labelled_comes seat last p fd dir asked.name (looking was.0) label s.rest was.2 in
      record {
        stat = was.0;
        to_stat = c.front;
        past_stat = l.front;
        rest = l.rest;
        are = c.are ∙ ap (λ (z : List Step). c.front ++ z) (then_step s.are was.1 l.are);
        still_to = c.still;
        still_past = l.still;
        on = l.on;
      }

  abbrev file_made : Fd → Made → RequestTree
  file_made dir it = made_file plan seat session asked label dir it (answers plan)

  old_found : (dir : Fd) (did : Option Deed) (told : ActReply) (there : Bool) (rest : List Step) →
      MakesNone did told →
      Comes seat last (go_on (file_made dir) told (if there then Some Old else None)) rest →
      FoundOld plan seat session asked last (record { deed = did; reply = told } ∷ rest)
  unfolding go_on old_file
  old_found dir did told true rest none c = record {
    front = record { deed = did; reply = told } ∷ c.front;
    rest = c.rest;
    are = ap (λ (z : List Step). record { deed = did; reply = told } ∷ z) c.are;
    makes_none = (none, all_still_make c.front c.still);
    on = c.on;
  }
  old_found dir did told false rest none c = absurd (refused_none seat told c.rest last p c.on)

  -- the making, as whoever asks
  abbrev told_made : Fd → ActReply → RequestTree
  told_made dir told = on (made_in (takes_old asked.flags)) (file_made dir) told

  abbrev making : Fd → Call
  making dir = call.OpenAt dir asked.name (making_flags asked.flags) asked.mode

  -- it gave a descriptor, or nothing was made
  abbrev Gave : Fd → Step → List Step → Type 0
  Gave dir step rest =
      ((fd : Fd) × (step ∷ rest ≡ opening dir asked.name (making_flags asked.flags) asked.mode fd ∷ rest)
      × NewFile plan seat session asked last fd rest)
      ⊎ FoundOld plan seat session asked last (step ∷ rest)

  made_or_not : (dir : Fd) (did : Option Deed) (told : ActReply) (rest : List Step) →
      IsStepOf (Calls (making dir)) did told → Leads seat (Bares (told_made dir told)) rest last →
      Gave dir (record { deed = did; reply = told }) rest
  unfolding on go_on
  made_or_not dir (Some same) (Host (host.Ok (value.Fd fd))) rest i l =
      inl (
        fd,
        ap (λ (d : Deed). made d (Host (host.Ok (value.Fd fd))) ∷ rest) i,
        new_found dir fd rest (bare_comes seat last p (new_tree dir fd) rest l),
      )
  made_or_not dir None (Host (host.Ok (value.Fd fd))) rest i l = absurd i
  made_or_not dir did (Host (host.Refused errno)) rest i l =
      let told = Host (host.Refused errno) in
      inr (old_found dir did told (is_there told && takes_old asked.flags) rest
      (unmade dir asked.name (making_flags asked.flags) asked.mode did told i tt)
      (bare_comes seat last p (told_made dir told) rest l))
  made_or_not dir did (Host (host.Fault errno)) rest i l =
      let told = Host (host.Fault errno) in
      inr (old_found dir did told (is_there told && takes_old asked.flags) rest
      (unmade dir asked.name (making_flags asked.flags) asked.mode did told i tt)
      (bare_comes seat last p (told_made dir told) rest l))
  made_or_not dir did told rest i l =
      inr (old_found dir did told (is_there told && takes_old asked.flags) rest
      (unmade dir asked.name (making_flags asked.flags) asked.mode did told i tt)
      (bare_comes seat last p (told_made dir told) rest l))

  making_found : (dir : Fd) (steps : List Step) →
      Comes seat last
      (make_at dir asked.name (making_flags asked.flags) asked.mode (takes_old asked.flags) (file_made dir)) steps →
      Ways steps
  making_found dir steps c =
      let r = replied seat (making dir) (λ told. Bares (told_made dir told)) c.rest last p c.on in
      elim (made_or_not dir r.did r.told r.rest r.is r.on) [
        | inl k ↦ inl (record {
          first = c.front;
          dir = dir;
          how = asked.mode;
          fd = k.0;
          later = r.rest;
          are = c.are ∙ ap (λ (z : List Step). c.front ++ z) (r.are ∙ k.1);
          still = c.still;
          new = k.2;
        })
        | inr o ↦ inr (record {
          front = c.front ++ o.front;
          rest = o.rest;
          are = c.are ∙ ap (λ (z : List Step). c.front ++ z) (r.are ∙ o.are)
              ∙ sym (append_assoc c.front o.front o.rest);
          makes_none = each_join (λ (step : Step). MakesNone step.deed step.reply) c.front o.front
              (all_still_make c.front c.still) o.makes_none;
          on = o.on;
        })
      ]

  asker_found : (asker : Option Credentials) (umask : Option ℕ) (dir : Fd) (steps : List Step) →
      Leads seat (as_asker seat asker (under_umask umask
      (make_at dir asked.name (making_flags asked.flags) asked.mode (takes_old asked.flags) (file_made dir)))) steps
      last → Ways steps
  asker_found None umask dir steps l =
      let no : passes_with (answer.Refused eperm) ≡ true =
      ap passes_with (sym (given_none seat (answer.Refused eperm) last steps p l)) ∙ p in absurd (cc)
  asker_found (Some creds) umask dir steps l =
      making_found dir steps (taken_comes seat last p (cred_steps creds seat) umask
      (make_at dir asked.name (making_flags asked.flags) asked.mode (takes_old asked.flags) (file_made dir)) steps l)

module _ (plan : Plan) (seat : HostSeat) (session : BegunSession) (asked : FileAsked) (label : Option Label)
    (last : Answer) (p : HasEntry last) where
  -- so it is of the request
  file_found : (dir : Fd) (steps : List Step) →
      Leads seat (make_file plan seat session asked label dir (answers plan)) steps last →
      Ways plan seat session asked label last p steps
  unfolding make_file
  file_found dir steps l =
      asker_found plan seat session asked label last p (asker_of plan session asked.who asked.ext.sup_gid)
      (umask_of session (Some asked.umask)) dir steps l

-- The file was made by these steps before the lookup, and behind it got the handle; what was looked up has its ids.
pub record NewWay
    (name : List ℕ)
    (ids : ObjIds)
    (number handle : ℕ)
    (before back : List Step)
    : Type 0 where
  pub first : List Step
  pub dir : Fd
  pub flags : OpenFlags
  pub how : ℕ
  pub fd : Fd
  pub stat : Stat
  pub to_stat : List Step
  pub past_stat : List Step
  pub are : before ≡ first ++ opening dir name flags how fd ∷ (to_stat ++ stating fd stat ∷ past_stat)
  pub still_first : Each (λ (step : Step). IsStill step.deed) first
  pub still_to : Each (λ (step : Step). IsStill step.deed) to_stat
  pub still_past : Each (λ (step : Step). IsStill step.deed) past_stat
  pub makes : MakesNew flags
  pub same_ids : stat.ids ≡ ids
  pub inserts : InsertedNew fd number handle back

-- Nothing was made before the lookup nor behind it, where a handle was inserted.
pub record OldWay (number handle : ℕ) (before back : List Step) : Type 0 where
  pub makes_none : Each (λ (step : Step). MakesNone step.deed step.reply) before
  pub inserts : Inserted number handle back

-- `create` began, resolved the parent, came to a lookup of the name, and inserted this handle.
pub record CreatedBy
    (plan : Plan)
    (parent : ℕ)
    (name : List ℕ)
    (entry : Entry)
    (handle : ℕ)
    (steps : List Step)
    : Type 0 where
  pub era : ℕ
  pub agreed : Negotiated
  pub resolved : Resolved
  pub before : List Step
  pub own : List Step
  pub back : List Step
  pub all : steps ≡ made (Changes change.Begin) (Event (event.Began era agreed))
      ∷ ((resolving parent resolved ∷ before) ++ (own ++ back))
  pub looked_up : IsLookedUp plan era agreed parent name entry own
  pub way : NewWay name looked_up.stat.ids entry.inode handle before back ⊎ OldWay entry.inode handle before back

-- more steps behind two that stand apart
behind_two : (first to past rest : List Step) (a b : Step) →
    (first ++ a ∷ (to ++ b ∷ past)) ++ rest ≡ first ++ a ∷ (to ++ b ∷ (past ++ rest))
behind_two first to past rest a b =
    append_assoc first (a ∷ (to ++ b ∷ past)) rest
    ∙ ap (λ (z : List Step). first ++ a ∷ z) (append_assoc to (b ∷ past) rest)

-- what stands behind the parent's resolving
module _ (plan : Plan) (seat : HostSeat) (session : BegunSession) (asked : FileAsked) (entry : Entry) (handle : ℕ)
    (options : OpenOptions) (row : Resolved) (steps : List Step) where
  abbrev created : Answer
  created = answer.Created entry handle options

  abbrev begun : List Step → List Step
  begun rest = made (Changes change.Begin) (Event (event.Began session.era session.agreed))
      ∷ resolving asked.parent row ∷ rest

  new_created : (rest : List Step) → steps ≡ begun rest → MadeNew plan seat session asked created rest →
      CreatedBy plan asked.parent asked.name entry handle steps
  new_created rest e n =
      let file = n.new in
      let found = looks seat plan session asked.parent asked.name (then_handled plan session n.fd file.stat) file.rest
      created refl file.on in
      let way = on_branch seat (Shuts true (then_handled plan session n.fd file.stat found.looked)) found.rest created
      refl found.on in
      let h = same_along plan session n.fd found.looked.entry entry handle options file.stat.ids found.looked.ids way.0
      way.2 in
      let a = opening n.dir asked.name (making_flags asked.flags) n.how n.fd in
      let t = stating n.fd file.stat in
      let behind = found.own ++ found.rest in
      let are : rest ≡ (n.first ++ a ∷ (file.to_stat ++ t ∷ file.past_stat)) ++ behind =
      n.are ∙ ap (λ (z : List Step). n.first ++ a ∷ z) (file.are
      ∙ ap (λ (z : List Step). file.to_stat ++ t ∷ (file.past_stat ++ z)) found.are)
      ∙ sym (behind_two n.first file.to_stat file.past_stat behind a t) in
      let by : CreatedBy plan asked.parent asked.name found.looked.entry handle steps = record {
        era = session.era;
        agreed = session.agreed;
        resolved = row;
        before = n.first ++ a ∷ (file.to_stat ++ t ∷ file.past_stat);
        own = found.own;
        back = found.rest;
        all = e ∙ ap begun are;
        looked_up = found.by;
        way = inl (record {
          first = n.first;
          dir = n.dir;
          flags = making_flags asked.flags;
          how = n.how;
          fd = n.fd;
          stat = file.stat;
          to_stat = file.to_stat;
          past_stat = file.past_stat;
          are = refl;
          still_first = n.still;
          still_to = file.still_to;
          still_past = file.still_past;
          makes = (creates asked.flags, excludes asked.flags);
          same_ids = same_ids file.stat.ids found.looked.ids h.0 ∙ found.same_ids;
          inserts = inserted_new n.fd found.looked.entry.inode handle way.0 found.rest way.1 h.2;
        });
      } in
      subst (λ (z : Entry). CreatedBy plan asked.parent asked.name z handle steps) h.1 by

  old_created : (rest : List Step) → steps ≡ begun rest → FoundOld plan seat session asked created rest →
      CreatedBy plan asked.parent asked.name entry handle steps
  old_created rest e o =
      let found = looks seat plan session asked.parent asked.name (then_opened plan seat session asked) o.rest created
      refl
      o.on in
      let way = on_branch seat (Shuts true (then_opened plan seat session asked found.looked)) found.rest created refl
      found.on in
      let h = opened_num_along plan seat session asked.kill asked.flags found.looked.entry entry handle options way.0
      way.2 in
      let are : rest ≡ o.front ++ (found.own ++ found.rest) =
      o.are ∙ ap (λ (z : List Step). o.front ++ z) found.are in
      let by : CreatedBy plan asked.parent asked.name found.looked.entry handle steps = record {
        era = session.era;
        agreed = session.agreed;
        resolved = row;
        before = o.front;
        own = found.own;
        back = found.rest;
        all = e ∙ ap begun are;
        looked_up = found.by;
        way = inr (record {
          makes_none = o.makes_none;
          inserts = inserted_by found.looked.entry.inode handle way.0 found.rest way.1 h.1;
        });
      } in
      subst (λ (z : Entry). CreatedBy plan asked.parent asked.name z handle steps) h.0 by

-- `create` that is answered with an entry and a handle
pub created_parts : (plan : Plan) (seat : HostSeat) (who : Context) (parent : ℕ) (name : List ℕ) (mode : ℕ)
    (kill : Bool) (flags umask : ℕ) (ext : Extensions) (entry : Entry) (handle : ℕ) (options : OpenOptions)
    (steps : List Step) →
    Belongs (grammar_of plan seat who (request.Create parent name mode kill flags umask ext)) steps
    (finish.Answer (answer.Created entry handle options)) → CreatedBy plan parent name entry handle steps
unfolding on go_on
created_parts plan seat who parent name mode kill flags umask ext entry handle options steps b =
    found (record { holds = []; marks = []; belongs = b })
  where
    last : Answer
    last = answer.Created entry handle options

    file : FileAsked
    file = file_asked who parent name mode kill flags umask ext

    -- what follows the directory
    in_dir : BegunSession → Option Label → Fd → RequestTree
    in_dir session label dir = make_file plan seat session file label dir (answers plan)

    in_parent : BegunSession → Resolved → RequestTree
    in_parent session directory =
        host_label plan session.agreed ext.secctx (λ label. file_of directory.form (in_dir session label))

    dir_found : (session : BegunSession) (label : Option Label) (row : Resolved) (rest : List Step) →
        steps ≡ made (Changes change.Begin) (Event (event.Began session.era session.agreed))
        ∷ resolving parent row ∷ rest →
        Leads seat (in_dir session label (fd_of row.form)) rest last → CreatedBy plan parent name entry handle steps
    dir_found session label row rest e l =
        elim (file_found plan seat session file label last refl (fd_of row.form) rest l) [
          | inl n ↦ new_created plan seat session file entry handle options row steps rest e n
          | inr o ↦ old_created plan seat session file entry handle options row steps rest e o
        ]

    begins : BegunSession → RequestTree
    begins session = named name (resolve parent (in_parent session))

    found : Leads seat (begin begins) steps last → CreatedBy plan parent name entry handle steps
    found l =
        let g = goes_on seat (Changes change.Begin) (on began_in begins) steps last refl
        (none_told change.Begin (λ t. refl)) refl l in
        let k = began seat begins g.told g.rest last refl g.on in
        let this = session_of k.0 k.1 in
        let asks = change.Resolve parent in
        let r = goes_on seat (Changes asks) (on resolved_in (in_parent this)) g.rest last refl
        (none_told asks (λ t. refl)) refl
        (good_named seat name (resolve parent (in_parent this)) g.rest last refl k.3) in
        let d = resolved seat (in_parent this) r.told r.rest last refl r.on in
        let c = label_found seat r.rest last plan this.agreed ext.secctx _ d.2 in
        dir_found this c.0 d.0 r.rest (then_step g.are k.2 (then_step r.are d.1 refl))
        (filed seat d.0.form (in_dir this c.0) r.rest last c.1)
