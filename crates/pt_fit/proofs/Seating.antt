-- Each job makes its calls under the right seats.
use Rattle.std.proofs.Common.{◌≡◌, ◌<◌, ◌^◌, ◌&&◌, inl, inr, ℕ, Bool, true, false, List, [], ◌∷◌, ◌++◌, length}
use Rattle.std.proofs.Common.{Option, Some, None, refl, sym, ap, subst, ◌∙◌, arith}
use Rattle.std.proofs.Common.{not, if◌then◌else◌}
use Rattle.pt_host.specs.Call.{Call}
use Rattle.pt_host.specs.Flags.{includes}
use Rattle.pt_host.specs.Seat.{IsStartingSeat, with_dropped}
use Rattle.pt_host.specs.declared.edit.Edit.{Edit}
use Rattle.pt_host.specs.declared.flags.Caps.{Caps}
use Rattle.pt_host.specs.declared.op.KeptHostOp.TheVariants as call
use Rattle.pt_host.specs.declared.reply.HostReply.TheVariants as host
use Rattle.pt_host.specs.declared.seat.HostSeat.{HostSeat}
use Rattle.pt_maps.specs.Translated.{to_host}
use Rattle.pt_creds.specs.Identity.{Credentials, IsWhole}
use Rattle.pt_creds.proofs.Seats.{raised_back}
use Rattle.pt_tables.specs.Tables.{nothing_agreed}
use Rattle.pt_tables.specs.declared.event.KeptEvent.TheVariants as change
use Rattle.pt_tables.specs.declared.form.Negotiated.{Negotiated}
use Rattle.pt_iface.specs.declared.answer.Answer.TheVariants as answer
use Rattle.pt_iface.specs.declared.request.Context.{Context}
use Rattle.pt_iface.specs.declared.request.Extensions.{Extensions}
use Rattle.pt_iface.specs.declared.request.Request.{Request}
use Rattle.pt_iface.specs.declared.request.Request.TheVariants as request
use Rattle.pt_iface.specs.declared.request.SecContext.{SecContext}
use Rattle.pt_frame.specs.Deed.{Deed, Calls, Changes, Step, IsStepOf}
use Rattle.pt_frame.specs.Edit.{edit_grammar}
use Rattle.pt_frame.specs.Frame.{CutAfter}
use Rattle.pt_frame.specs.Grammar.{Belongs}
use Rattle.pt_frame.specs.Past.{no_past, past_of, KeepsGroups}
use Rattle.pt_frame.specs.Tended.{Tends, is_of_seat}
use Rattle.pt_frame.specs.Tree.{RequestTree, Gives, Refuses, Asks, Opens, Bares, Brackets, Shuts, Allocates, on}
use Rattle.pt_frame.specs.Tree.{grammar_of_tree}
use Rattle.pt_frame.specs.declared.act.ActReply.{ActReply}
use Rattle.pt_frame.specs.declared.act.ActReply.TheVariants.{Event, Host, NoCopy}
use Rattle.pt_frame.specs.declared.finish.Finish.{Finish}
use Rattle.pt_frame.specs.declared.hold.Hold.TheVariants as hold
use Rattle.pt_req.specs.Asker.{asker_from, group_of, umask_of}
use Rattle.pt_req.specs.Capability.{fsetid, without_fsetid}
use Rattle.pt_req.specs.Steps.{began_in, begin, session_of, tried_in}
use Rattle.pt_req.specs.declared.begun.BegunSession.{BegunSession}
use Rattle.pt_req.specs.declared.plan.Plan.{Plan}
use Rattle.pt_req.proofs.Replying.{if_began, if_tried}
use Rattle.pt_req.proofs.Walking.{InScope, OfAskerIn, OfDeed, OfLabel, Scoped, Walk, is_making}
use Rattle.pt_attr.specs.Creating.{file_asked}
use Rattle.pt_attr.proofs.Walking.{makes_dir_in, makes_node_in, makes_symlink_in}
use Rattle.pt_attr.proofs.Walking.{creates_in}
use Rattle.pt_job.specs.Pattern.{Asked, Requests, Edits, grammar_for, tree_of}
use Rattle.pt_job.proofs.Answering.{requests_tend}
use Rattle.pt_job.specs.Requests.{in_session, object_asked}
use Rattle.pt_job.proofs.Walking.{OfMakings, OfScopes, each_request, of_label, of_memory}
use Rattle.pt_law.specs.Told.{AllMayBeTold}
use Rattle.pt_law.specs.Under.{Role, lacking, seat_lacking, makes_object, IsCalledAs, IsMadeAs, IsUnrefused, IsSeated}
use Rattle.pt_law.specs.Under.{AllSeatsAnswer}
use Rattle.pt_law.specs.Wearing.{Unwinds, Seats}
use Rattle.pt_law.proofs.Seated.{job_seated, job_seated_cut}
use Rattle.pt_law.proofs.Wearing.{step_seat, step_made, deed_leaves}
use Rattle.pt_fit.specs.Asker.{agreed_told, agreed_in, umask_by, identity_by, asker_by, fsetid_if, role_in, role_for}
use Rattle.pt_fit.proofs.Guises.{identity_under, masked, guised, opens_so}

pub is_whole : (seat : HostSeat) → IsStartingSeat seat → IsWhole seat
is_whole seat s = record {
  eff_uid = s.eff_uid;
  saved_uid = s.saved_uid;
  eff_gid = s.eff_gid;
  saved_gid = s.saved_gid;
  caps = s.caps;
}

-- a seat without groups needs no memory to get them back
few_groups : (seat : HostSeat) → IsStartingSeat seat → KeepsGroups seat
few_groups seat s h = let e = ap length s.groups in absurd (omega (arith, e, h))

-- a step that makes no object is made as the job began
same_making : (asked : Call) → makes_object asked ≡ is_making (Calls asked)
same_making (call.OpenAt dir name flags mode) = refl
same_making (call.MakeDir dir name mode) = refl
same_making (call.MakeNode dir name mode rdev) = refl
same_making (call.SymLink dir name target) = refl
same_making asked = refl

-- what is to hold of a making: it is made as whoever asks
abbrev MadeBy : Role → HostSeat → Credentials → Option ℕ → Type 0
MadeBy role seat creds umask = role.asker ≡ Some (identity_under creds umask seat)

-- and of a call by which set-id bits may go: it lacks the capability exactly where that was dropped
abbrev LacksSo : Role → Bool → Deed → Type 0
LacksSo role dropped (Calls asked) = role.lacks asked ≡ fsetid_if dropped
LacksSo role dropped (Changes asked) = Unit {0}

-- no other call lacks it
abbrev LacksFew : Role → Type 0
LacksFew role = (asked : Call) → OfDeed (λ dropped deed. ⊥) false (Calls asked) → role.lacks asked ≡ None

making_plain : (making : Call) → is_making (Calls making) ≡ true → is_of_seat (Calls making) ≡ false
making_plain (call.OpenAt dir name flags mode) is = refl
making_plain (call.MakeDir dir name mode) is = refl
making_plain (call.MakeNode dir name mode rdev) is = refl
making_plain (call.SymLink dir name target) is = refl
making_plain asked is = absurd (cc)

-- where it lies in no scope
lacks_none : (role : Role) → LacksFew role → (asked : Call) → OfDeed (LacksSo role) false (Calls asked) →
    lacking role asked ≡ None
lacks_none role few (call.Close fd) may = refl
lacks_none role few (call.Reopen fd flags) may = may
lacks_none role few (call.WriteAt fd offset bytes append) may = may
lacks_none role few (call.Truncate fd size) may = may
lacks_none role few (call.RemoveXattr fd through name) may = may
lacks_none role few asked may = few asked may

called_plainly : (role : Role) (seat now : HostSeat) (asked : Call) → is_of_seat (Calls asked) ≡ false →
    is_making (Calls asked) ≡ false → now ≡ seat_lacking (lacking role asked) seat →
    IsMadeAs role seat now (Some (Calls asked))
called_plainly role seat now asked own none so =
    subst (λ (b : Bool). IsCalledAs role seat now asked b (makes_object asked)) (sym own)
    (subst (λ (b : Bool). IsCalledAs role seat now asked false b) (sym (same_making asked ∙ none)) so)

made_plainly : (role : Role) (seat : HostSeat) → LacksFew role → (deed : Deed) → is_of_seat deed ≡ false →
    is_making deed ≡ false → OfDeed (LacksSo role) false deed → IsMadeAs role seat seat (Some deed)
made_plainly role seat few (Changes asked) own none may = refl
made_plainly role seat few (Calls asked) own none may =
    called_plainly role seat seat asked own none
    (ap (λ (o : Option Caps). seat_lacking o seat) (sym (lacks_none role few asked may)))

-- and where it lies in one
lacks_some : (role : Role) (asked : Call) → OfDeed (LacksSo role) true (Calls asked) →
    lacking role asked ≡ Some fsetid
lacks_some role (call.Reopen fd flags) may = may
lacks_some role (call.WriteAt fd offset bytes append) may = may
lacks_some role (call.Truncate fd size) may = may
lacks_some role (call.RemoveXattr fd through name) may = may
lacks_some role asked may = absurd (cc)

asked_plainly : (role : Role) (seat : HostSeat) → LacksFew role → (deed : Deed) (next : ActReply → RequestTree) →
    is_of_seat deed ≡ false → is_making deed ≡ false → OfDeed (LacksSo role) false deed →
    ((told : ActReply) → Seats role seat (next told) [] seat) → Seats role seat (Asks deed next) [] seat
asked_plainly role seat few deed next own none may so = (
  refl,
  made_plainly role seat few deed own none may,
  λ told m a. (
    inl refl,
    subst (λ (z : HostSeat). Seats role seat (next told) [] z) (sym (deed_leaves seat deed told own)) (so told),
  ),
)

-- The capability was effective and permitted, so it comes back where it was dropped.
module _
    (role : Role)
    (seat : HostSeat)
    (starts : IsStartingSeat seat)
    (fits : seat.eff_caps.0 < 2 ^ 32)
    (few : LacksFew role)
    (has : includes seat.eff_caps.0 fsetid.0 ≡ true)
  where
    abbrev less : HostSeat
    less = with_dropped seat fsetid

    comes_back : Unwinds seat (hold.Dropped fsetid ∷ []) less
    comes_back = (
      refl,
      ap (λ (caps : Caps). includes caps.0 fsetid.0) (sym starts.caps) ∙ has,
      raised_back seat fsetid fits (omega arith) has,
    )

    made_less : (deed : Deed) → is_of_seat deed ≡ false → is_making deed ≡ false →
        OfDeed (LacksSo role) true deed → IsMadeAs role seat less (Some deed)
    made_less (Changes asked) own none may = refl
    made_less (Calls asked) own none may =
        called_plainly role seat less asked own none
        (ap (λ (o : Option Caps). seat_lacking o seat) (sym (lacks_some role asked may)))

    -- until its scope ends, calls lack it
    in_scope : (told : ActReply) (tree : RequestTree) →
        InScope (LacksSo role) true (λ rest. Seats role seat rest [] seat) told tree →
        Seats role seat tree (hold.Dropped fsetid ∷ []) less
    in_scope told (Gives last) so = (comes_back, λ passes. let no : true ≡ false = sym passes ∙ so.1 in absurd (cc))
    in_scope told (Refuses same) so = comes_back
    in_scope told (Asks deed next) so = (
      comes_back,
      made_less deed so.0 so.1 so.2,
      λ later m a. (
        inr (so.3 later),
        subst (λ (z : HostSeat). Seats role seat (next later) (hold.Dropped fsetid ∷ []) z)
            (sym (deed_leaves less deed later so.0)) (in_scope later (next later) (so.4 later)),
      ),
    )
    in_scope told (Bares rest) so = (comes_back, so)
    in_scope told (Opens asked scope next) so = absurd so
    in_scope told (Brackets rest) so = absurd so
    in_scope told (Shuts passes rest) so = absurd so
    in_scope told (Allocates made next) so = absurd so

    drops_so : (rest : RequestTree) → Scoped (LacksSo role) true (λ tree. Seats role seat tree [] seat) rest →
        Seats role seat (without_fsetid true rest) [] seat
    drops_so rest so =
        opens_so role seat seat [] (call.DropCap fsetid) (hold.Dropped fsetid) rest refl refl
        (λ got a. in_scope NoCopy rest (so NoCopy))

-- under no scope
no_scope : (role : Role) (seat : HostSeat) → IsStartingSeat seat → seat.eff_caps.0 < 2 ^ 32 → LacksFew role →
    Walk seat (MadeBy role seat) (LacksSo role) (λ tree. Seats role seat tree [] seat)
    (λ told tree. Seats role seat tree [] seat)
no_scope role seat starts fits few = record {
  gives = λ last is. (refl, λ e. refl);
  refuses = λ told. refl;
  had = λ told tree so. so;
  asks = λ deed next own none may so. asked_plainly role seat few deed next own none may so;
  ran_out = λ told deed lacks own none may.
      asked_plainly role seat few deed (on tried_in (λ done. Gives answer.NoMemory)) own none may
      (if_tried (λ later tree. Seats role seat tree [] seat) (Gives answer.NoMemory) (λ later. refl)
      (λ later. (refl, λ e. refl)));
  brackets = λ rest so. so;
  shuts = λ passes rest so. (refl, refl, so);
  shuts_after = λ told passes rest so. (refl, refl, so);
  makes_as = λ creds umask making next is may so.
      guised role seat creds umask making next (is_whole seat starts) (few_groups seat starts) (making_plain making is)
      (same_making making ∙ is) may so;
  bares = λ rest so. (refl, so);
  drops = λ rest has so. drops_so role seat starts fits few has rest so;
}

-- as whom it is made
asked_by : (seat : HostSeat) (uid gid : Option ℕ) (group : Option (Option ℕ)) (keeps : Bool) (creds : Credentials)
    (umask : Option ℕ) → asker_from uid gid group keeps ≡ Some creds →
    identity_by seat uid gid group (masked umask seat.umask) ≡ Some (identity_under creds umask seat)
asked_by seat (Some uid) (Some gid) (Some group) keeps creds umask e =
    ap (λ (c : Credentials). Some (identity_under c umask seat)) (some_same e)
  where
    some_same : {a b : Credentials} → Some a ≡ Some b → a ≡ b
    some_same e = cc
asked_by seat (Some uid) (Some gid) None keeps creds umask e = absurd (cc)
asked_by seat (Some uid) None group keeps creds umask e = absurd (cc)
asked_by seat None gid group keeps creds umask e = absurd (cc)

-- by what was agreed on
masked_so : (session : BegunSession) (umask : Option ℕ) (own : ℕ) →
    umask_by session.agreed umask own ≡ masked (umask_of session umask) own
masked_so session None own = none session.agreed.posix_acl
  where
    none : (lists : Bool) → own ≡ masked (if lists then None else None) own
    none true = refl
    none false = refl
masked_so session (Some umask) own = some session.agreed.posix_acl
  where
    some : (lists : Bool) → (if lists then umask else own) ≡ masked (if lists then Some umask else None) own
    some true = refl
    some false = refl

of_asker : (plan : Plan) (seat : HostSeat) (who : Context) (session : BegunSession) (group umask : Option ℕ) →
    OfAskerIn (λ creds mask. asker_by plan seat who group (umask_by session.agreed umask seat.umask)
    ≡ Some (identity_under creds mask seat)) plan session who group umask
of_asker plan seat who session group umask = λ creds e.
    subst (λ mask. asker_by plan seat who group mask ≡ Some (identity_under creds (umask_of session umask) seat))
    (sym (masked_so session umask seat.umask))
    (asked_by seat (to_host plan.uid_map who.uid) (to_host plan.gid_map who.gid) (group_of plan group)
    (not session.agreed.sup_group) creds (umask_of session umask) e)

-- an opening of a directory asks for nothing to go
none_dropped : (switch has : Bool) → None ≡ fsetid_if (switch && false && has)
none_dropped true has = refl
none_dropped false has = refl

of_scopes : (plan : Plan) (seat : HostSeat) (who : Context) (agreed : Negotiated) (asked : Request) →
    OfScopes (LacksSo (role_in plan seat who agreed asked)) plan seat asked
of_scopes plan seat who agreed (request.Init capable) = λ era form told. tt
of_scopes plan seat who agreed request.Root = λ era form told. tt
of_scopes plan seat who agreed (request.Open inode kill flags) = ((λ fd how. refl), (λ fd name. refl))
of_scopes plan seat who agreed (request.OpenDir inode flags) = (
  (λ fd how. none_dropped plan.config.killpriv_v2 (includes seat.eff_caps.0 fsetid.0)),
  (λ fd name. refl),
)
of_scopes plan seat who agreed (request.Create parent name mode kill flags umask ext) =
    ((λ fd how. refl), (λ fd name. refl))
of_scopes plan seat who agreed (request.Write inode handle offset bytes delayed kill flags) =
    ((λ fd at told append. refl), (λ fd name. refl))
of_scopes plan seat who agreed (request.SetAttr inode handle valid attr) =
    (((λ fd size. refl), (λ fd name. refl)), (λ fd how. refl), (λ fd name. refl))
of_scopes plan seat who agreed (request.SyncFs inode) = λ fd how. refl
of_scopes plan seat who agreed (request.SetXattr inode name value flags extra) =
    ((λ fd how. refl), (λ through fd named. refl))
of_scopes plan seat who agreed (request.GetXattr inode name size) = λ fd how. refl
of_scopes plan seat who agreed (request.ListXattr inode size) = λ fd how. refl
of_scopes plan seat who agreed (request.RemoveXattr inode name) = ((λ fd how. refl), (λ through fd named. refl))
of_scopes plan seat who agreed asked = tt

lacks_few : (plan : Plan) (seat : HostSeat) (who : Context) (agreed : Negotiated) (asked : Request) →
    LacksFew (role_in plan seat who agreed asked)
lacks_few plan seat who agreed (request.Open inode kill flags) (call.Reopen fd how) may = absurd may
lacks_few plan seat who agreed (request.Create parent name mode kill flags umask ext) (call.Reopen fd how) may =
    absurd may
lacks_few plan seat who agreed (request.Write inode handle offset bytes delayed kill flags)
    (call.WriteAt fd at told append) may = absurd may
lacks_few plan seat who agreed (request.Write inode handle offset bytes delayed kill flags)
    (call.RemoveXattr fd through name) may = absurd may
lacks_few plan seat who agreed (request.SetAttr inode handle valid attr) (call.Truncate fd size) may = absurd may
lacks_few plan seat who agreed (request.SetAttr inode handle valid attr) (call.RemoveXattr fd through name) may =
    absurd may
lacks_few plan seat who agreed asked made may = refl

-- What makes no object makes its calls under the right seats, whatever was agreed on.
request_seats : (plan : Plan) (seat : HostSeat) (who : Context) (agreed : Negotiated) (asked : Request) →
    IsStartingSeat seat → seat.eff_caps.0 < 2 ^ 32 →
    OfMakings (MadeBy (role_in plan seat who agreed asked) seat) plan who asked →
    Seats (role_in plan seat who agreed asked) seat (tree_of plan seat who asked) [] seat
request_seats plan seat who agreed asked starts fits may =
    each_request
    (no_scope (role_in plan seat who agreed asked) seat starts fits (lacks_few plan seat who agreed asked)) plan who
    asked may (of_scopes plan seat who agreed asked)
    (of_memory (λ tree. Seats (role_in plan seat who agreed asked) seat tree [] seat) (λ made next so. so made) asked)

-- What makes an object does so in each session by what was agreed on in it.
abbrev SeatsIn : Plan → HostSeat → Context → Request → Type 0
SeatsIn plan seat who asked =
    (session : BegunSession) →
    Seats (role_in plan seat who session.agreed asked) seat (in_session plan seat who asked session) [] seat

module _ (plan : Plan) (seat : HostSeat) (who : Context) (starts : IsStartingSeat seat)
    (fits : seat.eff_caps.0 < 2 ^ 32) where
  walk_in : (agreed : Negotiated) (asked : Request) →
      Walk seat (MadeBy (role_in plan seat who agreed asked) seat) (LacksSo (role_in plan seat who agreed asked))
      (λ tree. Seats (role_in plan seat who agreed asked) seat tree [] seat)
      (λ told tree. Seats (role_in plan seat who agreed asked) seat tree [] seat)
  walk_in agreed asked =
      no_scope (role_in plan seat who agreed asked) seat starts fits (lacks_few plan seat who agreed asked)

  -- the host's name of a context is made under the seat that there is
  named_in : (agreed : Negotiated) (asked : Request) (brought : Option SecContext) →
      OfLabel (λ tree. Seats (role_in plan seat who agreed asked) seat tree [] seat) brought
  named_in agreed asked brought =
      of_label (λ tree. Seats (role_in plan seat who agreed asked) seat tree [] seat) (λ made next so. so made) brought

  create_seats : (parent : ℕ) (name : List ℕ) (mode : ℕ) (kill : Bool) (flags umask : ℕ) (ext : Extensions) →
      SeatsIn plan seat who (request.Create parent name mode kill flags umask ext)
  create_seats parent name mode kill flags umask ext session =
      creates_in (walk_in session.agreed (request.Create parent name mode kill flags umask ext)) plan
      (file_asked who parent name mode kill flags umask ext) session
      (of_asker plan seat who session ext.sup_gid (Some umask)) ((λ fd how. refl), (λ fd name. refl))
      (named_in session.agreed (request.Create parent name mode kill flags umask ext) ext.secctx)

  mkdir_seats : (parent : ℕ) (name : List ℕ) (mode umask : ℕ) (ext : Extensions) →
      SeatsIn plan seat who (request.Mkdir parent name mode umask ext)
  mkdir_seats parent name mode umask ext session =
      makes_dir_in (walk_in session.agreed (request.Mkdir parent name mode umask ext)) plan
      (object_asked who parent name (Some umask) ext) mode session
      (of_asker plan seat who session ext.sup_gid (Some umask))
      (named_in session.agreed (request.Mkdir parent name mode umask ext) ext.secctx)

  mknod_seats : (parent : ℕ) (name : List ℕ) (mode rdev umask : ℕ) (ext : Extensions) →
      SeatsIn plan seat who (request.Mknod parent name mode rdev umask ext)
  mknod_seats parent name mode rdev umask ext session =
      makes_node_in (walk_in session.agreed (request.Mknod parent name mode rdev umask ext)) plan
      (object_asked who parent name (Some umask) ext) mode rdev session
      (of_asker plan seat who session ext.sup_gid (Some umask))
      (named_in session.agreed (request.Mknod parent name mode rdev umask ext) ext.secctx)

  symlink_seats : (target : List ℕ) (parent : ℕ) (name : List ℕ) (ext : Extensions) →
      SeatsIn plan seat who (request.Symlink target parent name ext)
  symlink_seats target parent name ext session =
      makes_symlink_in (walk_in session.agreed (request.Symlink target parent name ext)) plan
      (object_asked who parent name None ext) target session (of_asker plan seat who session ext.sup_gid None)
      (named_in session.agreed (request.Symlink target parent name ext) ext.secctx)

none_seated : (role : Role) (seat : HostSeat) → IsSeated role seat []
none_seated role seat = record { made = tt; unrefused = tt; ends = λ e. refl }

-- Steps that begin in a session go on as it tells. What they go on by is that one reply, so they are as those of a tree
-- that goes on so by whatever reply.
module _ (role : Negotiated → Role) (seat : HostSeat) (kept : KeepsGroups seat) (next : BegunSession → RequestTree)
    (tends : Tends seat (begin next) [])
    (seats : (session : BegunSession) → Seats (role session.agreed) seat (next session) [] seat) where
  abbrev told_so : ActReply → RequestTree
  told_so told = Asks (Changes change.Begin) (λ other. on began_in next told)

  tends_so : (told : ActReply) → Tends seat (told_so told) []
  tends_so told = (tt, λ other. ((tends.1 other).0, (tends.1 told).1))

  seats_so : (told : ActReply) → Seats (role (agreed_told told)) seat (told_so told) [] seat
  seats_so told = (
    refl,
    refl,
    λ other m a. (
      inl refl,
      if_began (λ reply tree. Seats (role (agreed_told reply)) seat tree [] seat) next (λ reply. refl)
          (λ era agreed. seats (session_of era agreed)) told,
    ),
  )

  begun_seated : (steps : List Step) (end : Finish) → AllMayBeTold steps → AllSeatsAnswer seat steps →
      Belongs (grammar_of_tree seat (begin next)) steps end → IsSeated (role (agreed_in steps)) seat steps
  begun_seated [] end m a b = absurd b
  begun_seated (step ∷ steps) end m a b =
      job_seated (role (agreed_told step.reply)) seat (told_so step.reply) (step ∷ steps) end kept
      (tends_so step.reply) (seats_so step.reply) m a b

  begun_seated_cut : (so_far steps : List Step) (end : Finish) → AllMayBeTold (so_far ++ steps) →
      AllSeatsAnswer seat (so_far ++ steps) → (past_of so_far).lost ≡ None →
      CutAfter seat (grammar_of_tree seat (begin next)) so_far steps end →
      IsSeated (role (agreed_in (so_far ++ steps))) seat (so_far ++ steps)
  begun_seated_cut [] [] end m a n c = none_seated (role nothing_agreed) seat
  begun_seated_cut [] (step ∷ steps) end m a n c = absurd c
  begun_seated_cut (step ∷ so_far) steps end m a n c =
      job_seated_cut (role (agreed_told step.reply)) seat (told_so step.reply) (step ∷ so_far) steps end kept
      (tends_so step.reply) (seats_so step.reply) m a n c

-- an edit is one call, which is not the seat's
edit_seated : (plan : Plan) (seat : HostSeat) (agreed : Negotiated) (edit : Edit) (steps : List Step)
    (end : Finish) → Belongs (edit_grammar edit) steps end →
    IsSeated (role_for plan seat agreed (Edits edit)) seat steps
edit_seated plan seat agreed edit [] end b = absurd b
edit_seated plan seat agreed edit (step ∷ []) end b = record {
  made = (
    (λ e. step_made (role_for plan seat agreed (Edits edit)) seat seat (Calls (call.Edit edit)) step.deed step.reply b.0
        refl),
    tt,
  );
  unrefused = ((λ e. edit_unrefused step.deed step.reply b.0), tt);
  ends = λ e. step_seat seat (Calls (call.Edit edit)) step.deed step.reply b.0
      ∙ deed_leaves seat (Calls (call.Edit edit)) step.reply refl;
}
  where
    edit_unrefused : (deed : Option Deed) (told : ActReply) → IsStepOf (Calls (call.Edit edit)) deed told →
        IsUnrefused no_past deed told
    edit_unrefused (Some (Calls asked)) (Host (host.Refused errno)) i = refl
    edit_unrefused (Some (Changes asked)) (Host (host.Refused errno)) i = refl
    edit_unrefused (Some deed) (Host (host.Ok got)) i = tt
    edit_unrefused (Some deed) (Host (host.Fault errno)) i = tt
    edit_unrefused (Some deed) (Host host.NoMemory) i = tt
    edit_unrefused (Some deed) (Event got) i = tt
    edit_unrefused (Some deed) NoCopy i = tt
    edit_unrefused None told i = tt
edit_seated plan seat agreed edit (step ∷ more ∷ steps) end b = absurd b.1

-- whatever is asked, whole
pub asked_seated : (plan : Plan) (seat : HostSeat) (asked : Asked) (steps : List Step) (end : Finish) →
    IsStartingSeat seat → seat.eff_caps.0 < 2 ^ 32 → AllMayBeTold steps → AllSeatsAnswer seat steps →
    Belongs (grammar_for plan seat asked) steps end →
    IsSeated (role_for plan seat (agreed_in steps) asked) seat steps
asked_seated plan seat (Edits edit) steps end starts fits m a b =
    edit_seated plan seat (agreed_in steps) edit steps end b
asked_seated plan seat (Requests who (request.Create parent name mode kill flags umask ext)) steps end starts fits m a
    b =
    let asked = request.Create parent name mode kill flags umask ext in
    begun_seated (λ agreed. role_in plan seat who agreed asked) seat (few_groups seat starts)
    (in_session plan seat who asked) (requests_tend plan seat who asked)
    (create_seats plan seat who starts fits parent name mode kill flags umask ext) steps end m a b
asked_seated plan seat (Requests who (request.Mkdir parent name mode umask ext)) steps end starts fits m a b =
    let asked = request.Mkdir parent name mode umask ext in
    begun_seated (λ agreed. role_in plan seat who agreed asked) seat (few_groups seat starts)
    (in_session plan seat who asked) (requests_tend plan seat who asked)
    (mkdir_seats plan seat who starts fits parent name mode umask ext) steps end m a b
asked_seated plan seat (Requests who (request.Mknod parent name mode rdev umask ext)) steps end starts fits m a b =
    let asked = request.Mknod parent name mode rdev umask ext in
    begun_seated (λ agreed. role_in plan seat who agreed asked) seat (few_groups seat starts)
    (in_session plan seat who asked) (requests_tend plan seat who asked)
    (mknod_seats plan seat who starts fits parent name mode rdev umask ext) steps end m a b
asked_seated plan seat (Requests who (request.Symlink target parent name ext)) steps end starts fits m a b =
    let asked = request.Symlink target parent name ext in
    begun_seated (λ agreed. role_in plan seat who agreed asked) seat (few_groups seat starts)
    (in_session plan seat who asked) (requests_tend plan seat who asked)
    (symlink_seats plan seat who starts fits target parent name ext) steps end m a b
asked_seated plan seat (Requests who asked) steps end starts fits m a b =
    job_seated (role_in plan seat who (agreed_in steps) asked) seat (tree_of plan seat who asked) steps end
    (few_groups seat starts) (requests_tend plan seat who asked)
    (request_seats plan seat who (agreed_in steps) asked starts fits tt) m a b

-- and cut
pub asked_seated_cut : (plan : Plan) (seat : HostSeat) (asked : Asked) (so_far steps : List Step) (end : Finish) →
    IsStartingSeat seat → seat.eff_caps.0 < 2 ^ 32 → AllMayBeTold (so_far ++ steps) →
    AllSeatsAnswer seat (so_far ++ steps) →
    (past_of so_far).lost ≡ None → CutAfter seat (grammar_for plan seat asked) so_far steps end →
    IsSeated (role_for plan seat (agreed_in (so_far ++ steps)) asked) seat (so_far ++ steps)
asked_seated_cut plan seat (Edits edit) [] [] end starts fits m a n c =
    none_seated (role_for plan seat nothing_agreed (Edits edit)) seat
asked_seated_cut plan seat (Edits edit) [] (step ∷ steps) end starts fits m a n c = absurd c
asked_seated_cut plan seat (Edits edit) (step ∷ so_far) steps end starts fits m a n c = absurd c.1
asked_seated_cut plan seat (Requests who (request.Create parent name mode kill flags umask ext)) so_far steps end
    starts fits m a n c =
    let asked = request.Create parent name mode kill flags umask ext in
    begun_seated_cut (λ agreed. role_in plan seat who agreed asked) seat (few_groups seat starts)
    (in_session plan seat who asked) (requests_tend plan seat who asked)
    (create_seats plan seat who starts fits parent name mode kill flags umask ext) so_far steps end m a n c
asked_seated_cut plan seat (Requests who (request.Mkdir parent name mode umask ext)) so_far steps end starts fits m a
    n c =
    let asked = request.Mkdir parent name mode umask ext in
    begun_seated_cut (λ agreed. role_in plan seat who agreed asked) seat (few_groups seat starts)
    (in_session plan seat who asked) (requests_tend plan seat who asked)
    (mkdir_seats plan seat who starts fits parent name mode umask ext) so_far steps end m a n c
asked_seated_cut plan seat (Requests who (request.Mknod parent name mode rdev umask ext)) so_far steps end starts fits
    m a n c =
    let asked = request.Mknod parent name mode rdev umask ext in
    begun_seated_cut (λ agreed. role_in plan seat who agreed asked) seat (few_groups seat starts)
    (in_session plan seat who asked) (requests_tend plan seat who asked)
    (mknod_seats plan seat who starts fits parent name mode rdev umask ext) so_far steps end m a n c
asked_seated_cut plan seat (Requests who (request.Symlink target parent name ext)) so_far steps end starts fits m a n
    c =
    let asked = request.Symlink target parent name ext in
    begun_seated_cut (λ agreed. role_in plan seat who agreed asked) seat (few_groups seat starts)
    (in_session plan seat who asked) (requests_tend plan seat who asked)
    (symlink_seats plan seat who starts fits target parent name ext) so_far steps end m a n c
asked_seated_cut plan seat (Requests who asked) so_far steps end starts fits m a n c =
    job_seated_cut (role_in plan seat who (agreed_in (so_far ++ steps)) asked) seat (tree_of plan seat who asked) so_far
    steps end (few_groups seat starts) (requests_tend plan seat who asked)
    (request_seats plan seat who (agreed_in (so_far ++ steps)) asked starts fits tt) m a n c
