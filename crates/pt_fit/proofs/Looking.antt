-- A lookup that led to an entry, whatever request it is a part of and whatever follows it: its steps.
use Rattle.std.proofs.Common.{◌≡◌, ◌⊎◌, inl, inr, ℕ, List, [], ◌∷◌, ◌++◌, Bool, true, false, Option, Some, None, refl}
use Rattle.std.proofs.Common.{sym, ap, subst, ◌∙◌, if◌then◌else◌}
use Rattle.pt_host.specs.Errno.{einval}
use Rattle.pt_host.specs.Words.{Each}
use Rattle.pt_host.specs.declared.ids.Fd.{Fd}
use Rattle.pt_host.specs.declared.ids.ObjIds.{ObjIds}
use Rattle.pt_host.specs.declared.seat.HostSeat.{HostSeat}
use Rattle.pt_host.specs.declared.stat.Stat.{Stat}
use Rattle.pt_host.specs.declared.op.KeptHostOp.TheVariants as call
use Rattle.pt_host.specs.declared.reply.HostReply.TheVariants as host
use Rattle.pt_host.specs.declared.reply.HostValue.TheVariants as value
use Rattle.pt_tables.specs.declared.form.RowForm.{RowForm}
use Rattle.pt_tables.specs.declared.form.RowForm.TheVariants.{File}
use Rattle.pt_tables.specs.declared.form.Negotiated.{Negotiated}
use Rattle.pt_tables.specs.declared.event.KeptEvent.TheVariants as change
use Rattle.pt_tables.specs.declared.reply.EventReply.TheVariants as event
use Rattle.pt_iface.specs.declared.answer.Answer.{Answer}
use Rattle.pt_iface.specs.declared.answer.Answer.TheVariants as answer
use Rattle.pt_iface.specs.declared.entry.Entry.{Entry}
use Rattle.pt_iface.specs.declared.request.Context.{Context}
use Rattle.pt_iface.specs.declared.request.Request.TheVariants as request
use Rattle.pt_frame.specs.Deed.{Deed, Calls, Changes, Step}
use Rattle.pt_frame.specs.Grammar.{Belongs}
use Rattle.pt_frame.specs.Replies.{passes_with}
use Rattle.pt_frame.specs.Tree.{RequestTree, Gives, Shuts, on, go_on}
use Rattle.pt_frame.specs.declared.act.ActReply.{ActReply}
use Rattle.pt_frame.specs.declared.act.ActReply.TheVariants.{Event, Host}
use Rattle.pt_frame.specs.declared.finish.Finish.TheVariants as finish
use Rattle.pt_req.specs.Entries.{is_bad_name}
use Rattle.pt_req.specs.Parts.{by_path, named, file_of, numbered_as, numbered, looked_of, look_up}
use Rattle.pt_req.specs.Steps.{session_of, resolve, open_at, stat, draw_node, insert, began_in, drawn_in}
use Rattle.pt_req.specs.Steps.{claimed_in}
use Rattle.pt_req.specs.Steps.{fd_in, numbered_in, resolved_in, stat_in, taken_in}
use Rattle.pt_tables.specs.declared.reply.Resolved.{Resolved}
use Rattle.pt_req.specs.declared.begun.BegunSession.{BegunSession}
use Rattle.pt_req.specs.declared.parts.looked.Looked.{Looked}
use Rattle.pt_req.specs.declared.plan.Plan.{Plan}
use Rattle.pt_job.specs.Pattern.{grammar_of}
use Rattle.pt_law.specs.World.{fd_of, made}
use Rattle.pt_law.proofs.Opening.{GivesNone}
use Rattle.pt_fit.proofs.LookedUp.{claiming, adding, again, inserting, InsertionGives, Numbers, IsLookedUp}
use Rattle.pt_fit.proofs.Leading.{HasEntry, Leads, refused_none, given_none, shut_none, shut_gives, goes_on, none_told}
use Rattle.pt_fit.proofs.Leading.{in_bracket}

-- one step further
pub then_step : {deed : Deed} {told one : ActReply} {steps rest more : List Step} → steps ≡ made deed told ∷ rest →
    told ≡ one → rest ≡ more → steps ≡ made deed one ∷ more
then_step {deed = deed} e t r = e ∙ (λ i. made deed (t i) ∷ r i)

pub began : (seat : HostSeat) (next : BegunSession → RequestTree) (told : ActReply) (rest : List Step)
    (last : Answer) → HasEntry last → Leads seat (on began_in next told) rest last →
    (era : ℕ) × (agreed : Negotiated) × (told ≡ Event (event.Began era agreed))
    × Leads seat (next (session_of era agreed)) rest last
unfolding on go_on
began seat next (Event (event.Began era agreed)) rest last p a = (era, agreed, refl, a)
began seat next told rest last p a = absurd (refused_none seat told rest last p a)

pub resolved : (seat : HostSeat) (next : Resolved → RequestTree) (told : ActReply) (rest : List Step)
    (last : Answer) → HasEntry last → Leads seat (on resolved_in next told) rest last →
    (row : Resolved) × (told ≡ Event (event.Resolved row)) × Leads seat (next row) rest last
unfolding on go_on
resolved seat next (Event (event.Resolved row)) rest last p a = (row, refl, a)
resolved seat next told rest last p a = absurd (refused_none seat told rest last p a)

-- the file of a row that was resolved
pub filed : (seat : HostSeat) (form : RowForm) (next : Fd → RequestTree) (rest : List Step) (last : Answer) →
    Leads seat (file_of form next) rest last → Leads seat (next (fd_of form)) rest last
filed seat (File dir) next rest last a = a

opened : (seat : HostSeat) (next : Fd → RequestTree) (told : ActReply) (rest : List Step) (last : Answer) →
    HasEntry last → Leads seat (on fd_in next told) rest last →
    (fd : Fd) × (told ≡ Host (host.Ok (value.Fd fd))) × Leads seat (next fd) rest last
unfolding on go_on
opened seat next (Host (host.Ok (value.Fd fd))) rest last p a = (fd, refl, a)
opened seat next told rest last p a = absurd (refused_none seat told rest last p a)

pub stated : (seat : HostSeat) (next : Stat → RequestTree) (told : ActReply) (rest : List Step) (last : Answer) →
    HasEntry last → Leads seat (on stat_in next told) rest last →
    (was : Stat) × (told ≡ Host (host.Ok (value.Stat was))) × Leads seat (next was) rest last
unfolding on go_on
stated seat next (Host (host.Ok (value.Stat was))) rest last p a = (was, refl, a)
stated seat next told rest last p a = absurd (refused_none seat told rest last p a)

claimed : (seat : HostSeat) (next : Option ℕ → RequestTree) (told : ActReply) (rest : List Step) (last : Answer) →
    HasEntry last → Leads seat (on claimed_in next told) rest last →
    ((number : ℕ) × (class : ℕ) × (told ≡ Event (event.Claimed (again number class)))
    × Leads seat (next (Some number)) rest last)
    ⊎ ((told ≡ Event event.Absent) × Leads seat (next None) rest last)
unfolding on go_on
claimed seat next (Event (event.Claimed given)) rest last p a = inl (given.number, given.class, refl, a)
claimed seat next (Event event.Absent) rest last p a = inr (refl, a)
claimed seat next told rest last p a = absurd (refused_none seat told rest last p a)

taken : (seat : HostSeat) (next : RequestTree) (told : ActReply) (rest : List Step) (last : Answer) → HasEntry last →
    Leads seat (on taken_in (λ done. next) told) rest last → (told ≡ Event event.Taken) × Leads seat next rest last
unfolding on go_on
taken seat next (Event event.Taken) rest last p a = (refl, a)
taken seat next told rest last p a = absurd (refused_none seat told rest last p a)

drawn : (seat : HostSeat) (next : ℕ → RequestTree) (told : ActReply) (rest : List Step) (last : Answer) →
    HasEntry last → Leads seat (on drawn_in next told) rest last →
    (number : ℕ) × (told ≡ Event (event.Drawn number)) × Leads seat (next number) rest last
unfolding on go_on
drawn seat next (Event (event.Drawn number)) rest last p a = (number, refl, a)
drawn seat next told rest last p a = absurd (refused_none seat told rest last p a)

inserted : (seat : HostSeat) (next : ℕ → RequestTree) (told : ActReply) (rest : List Step) (last : Answer) →
    HasEntry last → Leads seat (on numbered_in next told) rest last →
    (number : ℕ) × InsertionGives number told × Leads seat (next number) rest last
unfolding on go_on
inserted seat next (Event (event.Inserted number)) rest last p a = (number, inl refl, a)
inserted seat next (Event (event.Found given)) rest last p a = (given.number, inr (given.class, refl), a)
inserted seat next told rest last p a = absurd (refused_none seat told rest last p a)

-- the number of what is open there was had by the first of these steps
record Gave
    (seat : HostSeat)
    (session : BegunSession)
    (fd : Fd)
    (told : Stat)
    (next : ℕ → RequestTree)
    (steps : List Step)
    (last : Answer)
    : Type 0 where
  number : ℕ
  own : List Step
  rest : List Step
  are : steps ≡ own ++ rest
  gives : Numbers session.era fd told number own
  on : Leads seat (next number) rest last

gave : (seat : HostSeat) (session : BegunSession) (fd : Fd) (told : Stat) (next : ℕ → RequestTree) (steps : List Step)
    (last : Answer) → HasEntry last → Leads seat (numbered session (File fd) told next) steps last →
    Gave seat session fd told next steps last
unfolding on go_on
gave seat session fd told next steps last p a =
    let inserts : ℕ → RequestTree = λ fresh. insert session fresh (File fd) told next in
    let given : Option ℕ → RequestTree = λ given. numbered_as session (File fd) told given next in
    let asks = claiming session.era told in
    let c = goes_on seat (Changes asks) (on claimed_in given) steps last refl
    (none_told asks (λ t. refl)) p a in
    elim (claimed seat given c.told c.rest last p c.on) [
      | inl k ↦ record {
        number = k.0;
        own = made (Changes asks) (Event (event.Claimed (again k.0 k.1))) ∷ [];
        rest = c.rest;
        are = then_step c.are k.2 refl;
        gives = inl (k.1, refl);
        on = k.3;
      }
      | inr k ↦
          let t = goes_on seat (Changes (change.TakeFd 0)) (on taken_in (λ done. draw_node inserts)) c.rest last refl
          (none_told (change.TakeFd 0) (λ t. refl)) p k.1 in
          let slot = taken seat (draw_node inserts) t.told t.rest last p t.on in
          let d = goes_on seat (Changes change.DrawNode) (on drawn_in inserts) t.rest last refl
          (none_told change.DrawNode (λ t. refl)) p slot.1 in
          let fresh = drawn seat inserts d.told d.rest last p d.on in
          let adds = adding session.era fd told fresh.0 in
          let i = goes_on seat (Changes adds) (on numbered_in next) d.rest last refl (none_told adds (λ t. refl)) p
          fresh.2 in
          let given = inserted seat next i.told i.rest last p i.on in record {
            number = given.0;
            own = inserting session.era fd told fresh.0 i.told;
            rest = i.rest;
            are = then_step c.are k.0 (then_step t.are slot.0 (then_step d.are fresh.1 i.are));
            gives = inr (fresh.0, i.told, given.1, refl);
            on = given.2;
          }
    ]

-- what follows the number, the status, the opening and the parent
abbrev handing : Plan → BegunSession → ObjIds → (Looked → RequestTree) → Fd → Stat → ℕ → RequestTree
handing plan session ids next fd told number = Shuts true (next (looked_of plan session ids told number))

abbrev numbering : Plan → BegunSession → ObjIds → (Looked → RequestTree) → Fd → Stat → RequestTree
numbering plan session ids next fd told = numbered session (File fd) told (handing plan session ids next fd told)

abbrev stating : Plan → BegunSession → ObjIds → (Looked → RequestTree) → Fd → RequestTree
stating plan session ids next fd = stat fd (numbering plan session ids next fd)

abbrev opening : Plan → BegunSession → ObjIds → List ℕ → (Looked → RequestTree) → Fd → RequestTree
opening plan session ids name next dir = open_at dir name by_path (stating plan session ids next)

abbrev resolving : Plan → BegunSession → List ℕ → (Looked → RequestTree) → Resolved → RequestTree
resolving plan session name next directory =
    file_of directory.form (opening plan session directory.ids name next)

-- a lookup came to an entry by the first of these steps, and handed it on
pub record Looks
    (seat : HostSeat)
    (plan : Plan)
    (session : BegunSession)
    (parent : ℕ)
    (name : List ℕ)
    (next : Looked → RequestTree)
    (steps : List Step)
    (last : Answer)
    : Type 0 where
  pub looked : Looked
  pub own : List Step
  pub rest : List Step
  pub are : steps ≡ own ++ rest
  pub by : IsLookedUp plan session.era session.agreed parent name looked.entry own
  pub same_ids : looked.ids ≡ by.stat.ids
  pub on : Leads seat (Shuts true (next looked)) rest last

pub looks : (seat : HostSeat) (plan : Plan) (session : BegunSession) (parent : ℕ) (name : List ℕ)
    (next : Looked → RequestTree) (steps : List Step) (last : Answer) → HasEntry last →
    Leads seat (look_up plan session parent name next) steps last →
    Looks seat plan session parent name next steps last
unfolding on go_on look_up
looks seat plan session parent name next steps last p a =
    let asks = change.Resolve parent in
    let r = goes_on seat (Changes asks) (on resolved_in (resolving plan session name next)) steps last refl
    (none_told asks (λ t. refl)) p
    (in_bracket seat (resolve parent (resolving plan session name next)) steps last a) in
    let k = resolved seat (resolving plan session name next) r.told r.rest last p r.on in
    go k.0 r.rest (then_step r.are k.1 refl)
    (filed seat k.0.form (opening plan session k.0.ids name next) r.rest last k.2)
  where
    go : (row : Resolved) (rest : List Step) →
        steps ≡ made (Changes (change.Resolve parent)) (Event (event.Resolved row)) ∷ rest →
        Leads seat (opening plan session row.ids name next (fd_of row.form)) rest last →
        Looks seat plan session parent name next steps last
    go row rest e a =
        let dir = fd_of row.form in
        let ids = row.ids in
        let o = goes_on seat (Calls (call.OpenAt dir name by_path 0)) (on fd_in (stating plan session ids next)) rest
        last refl (λ t. refl) p a in
        let fd = opened seat (stating plan session ids next) o.told o.rest last p o.on in
        let s = goes_on seat (Calls (call.Stat fd.0)) (on stat_in (numbering plan session ids next fd.0)) o.rest last
        refl (λ t. refl) p fd.2 in
        let was = stated seat (numbering plan session ids next fd.0) s.told s.rest last p s.on in
        let given = gave seat session fd.0 was.0 (handing plan session ids next fd.0 was.0) s.rest last p was.2 in
        record {
          looked = looked_of plan session ids was.0 given.number;
          own = made (Changes (change.Resolve parent)) (Event (event.Resolved row))
              ∷ made (Calls (call.OpenAt dir name by_path 0)) (Host (host.Ok (value.Fd fd.0)))
              ∷ made (Calls (call.Stat fd.0)) (Host (host.Ok (value.Stat was.0))) ∷ given.own;
          rest = given.rest;
          are = then_step e refl (then_step o.are fd.1 (then_step s.are was.1 given.are));
          by = record {
            resolved = row;
            fd = fd.0;
            stat = was.0;
            giving = given.own;
            in_turn = refl;
            numbered = given.gives;
            told = refl;
          };
          same_ids = refl;
          on = given.on;
        }

pub good_name : (seat : HostSeat) (bad : Bool) (next : RequestTree) (steps : List Step) (last : Answer) →
    HasEntry last → Leads seat (if bad then Gives (answer.Refused einval) else next) steps last →
    Leads seat next steps last
good_name seat true next steps last p a =
    let no : passes_with (answer.Refused einval) ≡ true =
    ap passes_with (sym (given_none seat (answer.Refused einval) last steps p a)) ∙ p in absurd (cc)
good_name seat false next steps last p a = a

pub good_named : (seat : HostSeat) (name : List ℕ) (next : RequestTree) (steps : List Step) (last : Answer) →
    HasEntry last → Leads seat (named name next) steps last → Leads seat next steps last
unfolding named
good_named seat name next steps last p a = good_name seat (is_bad_name name) next steps last p a

-- a lookup that is answered with an entry begins, looks up, and then gives back
pub looked_up : (plan : Plan) (seat : HostSeat) (who : Context) (parent : ℕ) (name : List ℕ) (entry : Entry)
    (steps : List Step) →
    Belongs (grammar_of plan seat who (request.Lookup parent name)) steps (finish.Answer (answer.Entry entry)) →
    (era : ℕ) × (agreed : Negotiated) × (own : List Step) × (back : List Step)
    × (steps ≡ made (Changes change.Begin) (Event (event.Began era agreed)) ∷ (own ++ back))
    × IsLookedUp plan era agreed parent name entry own
    × Each (λ (step : Step). GivesNone step.deed step.reply) back
unfolding on go_on
looked_up plan seat who parent name entry steps b =
    let next : Looked → RequestTree = λ looked. Gives (answer.Entry looked.entry) in
    let begins : BegunSession → RequestTree = λ session. named name (look_up plan session parent name next) in
    let g = goes_on seat (Changes change.Begin) (on began_in begins) steps (answer.Entry entry) refl
    (none_told change.Begin (λ t. refl)) refl (record { holds = []; marks = []; belongs = b }) in
    let k = began seat begins g.told g.rest (answer.Entry entry) refl g.on in
    let this = session_of k.0 k.1 in
    let l = looks seat plan this parent name next g.rest (answer.Entry entry) refl
    (good_named seat name (look_up plan this parent name next) g.rest (answer.Entry entry) refl k.3) in
    let same : l.looked.entry ≡ entry =
    same_entry (shut_none seat (answer.Entry l.looked.entry) (answer.Entry entry) l.rest refl l.on) in (
      k.0,
      k.1,
      l.own,
      l.rest,
      then_step g.are k.2 l.are,
      subst (λ (e : Entry). IsLookedUp plan k.0 k.1 parent name e l.own) same l.by,
      shut_gives seat (answer.Entry l.looked.entry) (answer.Entry entry) l.rest refl l.on,
    )
  where
    same_entry : {given : Entry} → answer.Entry entry ≡ answer.Entry given → given ≡ entry
    same_entry e = cc
