-- An entry that a job came to by a lookup names what its name led to.
use Rattle.std.proofs.Common.{◌≡◌, ◌⊎◌, ⊎_elim, inl, inr, ℕ, ◌<◌, List, [], ◌∷◌, ◌++◌, Bool, refl, sym, ap}
use Rattle.std.proofs.Common.{subst, ◌∙◌, append-nil, Option, Some, None, if◌then◌else◌}
use Rattle.pt_host.specs.Words.{Each}
use Rattle.pt_host.specs.declared.ids.Fd.{Fd}
use Rattle.pt_host.specs.declared.ids.ObjIds.{ObjIds}
use Rattle.pt_host.specs.declared.op.KeptHostOp.TheVariants as call
use Rattle.pt_host.specs.declared.reply.HostReply.TheVariants as host
use Rattle.pt_host.specs.declared.reply.HostValue.TheVariants as value
use Rattle.pt_host.specs.declared.stat.Stat.{Stat}
use Rattle.pt_tables.specs.declared.form.Negotiated.{Negotiated}
use Rattle.pt_tables.specs.declared.event.KeptEvent.TheVariants as change
use Rattle.pt_tables.specs.declared.reply.EventReply.TheVariants as event
use Rattle.pt_iface.specs.declared.entry.Entry.{Entry}
use Rattle.pt_frame.specs.Deed.{Calls, Changes, Step}
use Rattle.pt_frame.specs.declared.act.ActReply.{ActReply}
use Rattle.pt_frame.specs.declared.act.ActReply.TheVariants.{Event, Host}
use Rattle.pt_req.specs.Entries.{entry_of}
use Rattle.pt_req.specs.Parts.{by_path}
use Rattle.pt_req.specs.declared.plan.Plan.{Plan}
use Rattle.pt_law.specs.Discipline.{AreDisciplined}
use Rattle.pt_law.specs.Laws.{Starts}
use Rattle.pt_law.specs.Reopened.{resolving}
use Rattle.pt_law.specs.Story.{Findings, Giving, Opening, Sought, nothing_found}
use Rattle.pt_law.specs.World.{World, Turn, Runs, fd_of, made, stated, steps_of}
use Rattle.pt_law.proofs.Cuts.{located}
use Rattle.pt_law.proofs.Leaving.{given_stays}
use Rattle.pt_law.proofs.Moving.{same_number}
use Rattle.pt_law.proofs.Next.{owner_of}
use Rattle.pt_law.proofs.Opening.{GivesBy, GivesNone, OpensNone, opening}
use Rattle.pt_law.proofs.Origins.{givings_law}
use Rattle.pt_law.proofs.Saying.{bare_given, bare_giving, bare_latest, bare_opening, bare_sought, said, said_append}
use Rattle.pt_law.proofs.Saying.{said_law, said_stays, says}
use Rattle.pt_fit.specs.Entered.{IsEntered}
use Rattle.pt_fit.proofs.LookedUp.{claiming, adding, again, inserting, InsertionGives, IsLookedUp}

-- the steps of an entry behind its opening: the last one gives the number, and none before it opens a name
pub record Giver (era number : ℕ) (ids : ObjIds) (steps : List Step) : Type 0 where
  pub middle : List Step
  pub give : Step
  pub quiet : Each (λ (step : Step). OpensNone step.deed step.reply) middle
  pub gives : GivesBy era number ids give.deed give.reply
  pub are : steps ≡ middle ++ give ∷ []

given_so : (era : ℕ) (fd : Fd) (stat : Stat) (number fresh : ℕ) (told : ActReply) → InsertionGives number told →
    GivesBy era number stat.ids (Some (Changes (adding era fd stat fresh))) told
given_so era fd stat number fresh told (inl e) =
    subst (λ t. GivesBy era number stat.ids (Some (Changes (adding era fd stat fresh))) t) (sym e) (refl, refl, refl)
given_so era fd stat number fresh told (inr h) =
    subst (λ t. GivesBy era number stat.ids (Some (Changes (adding era fd stat fresh))) t) (sym h.1) (refl, refl, refl)

pub giver_of : (plan : Plan) (era : ℕ) (agreed : Negotiated) (parent : ℕ) (name : List ℕ) (entry : Entry)
    (own : List Step) (l : IsLookedUp plan era agreed parent name entry own) →
    Giver era entry.inode l.stat.ids (made (Calls (call.Stat l.fd)) (Host (host.Ok (value.Stat l.stat))) ∷ l.giving)
giver_of plan era agreed parent name entry own l = ⊎_elim claimed others l.numbered
  where
    stat : Step
    stat = made (Calls (call.Stat l.fd)) (Host (host.Ok (value.Stat l.stat)))

    claimed : (class : ℕ)
        × (l.giving ≡ made (Changes (claiming era l.stat)) (Event (event.Claimed (again entry.inode class))) ∷ []) →
        Giver era entry.inode l.stat.ids (stat ∷ l.giving)
    claimed h = record {
      middle = stat ∷ [];
      give = made (Changes (claiming era l.stat)) (Event (event.Claimed (again entry.inode h.0)));
      quiet = (tt, tt);
      gives = (refl, refl, refl);
      are = ap (λ z. stat ∷ z) h.1;
    }

    others : (fresh : ℕ) × (told : ActReply) × InsertionGives entry.inode told
        × (l.giving ≡ inserting era l.fd l.stat fresh told) → Giver era entry.inode l.stat.ids (stat ∷ l.giving)
    others h = record {
      middle = stat
          ∷ made (Changes (claiming era l.stat)) (Event event.Absent)
          ∷ made (Changes (change.TakeFd 0)) (Event event.Taken)
          ∷ made (Changes change.DrawNode) (Event (event.Drawn h.0)) ∷ [];
      give = made (Changes (adding era l.fd l.stat h.0)) h.1;
      quiet = (tt, (tt, (tt, (tt, tt))));
      gives = given_so era l.fd l.stat entry.inode h.0 h.1 h.2;
      are = ap (λ z. stat ∷ z) h.3;
    }

-- what a lookup's own steps say, whatever was said before

abbrev sought_by : ℕ → ObjIds → Sought
sought_by number ids = record { number = number; ids = ids; object = None }

abbrev opened_by : Sought → List ℕ → Fd → Option Stat → Opening
opened_by sought name fd stat = record {
  parent = Some sought;
  directory = None;
  name = name;
  led_to = None;
  objects = 0;
  object = None;
  fd = fd;
  stat = stat;
}

abbrev given_as : ℕ → ℕ → ObjIds → Option Opening → Giving
given_as era number ids opening =
    record { era = era; number = number; ids = ids; object = None; opening = opening }

stated_same : (sought : Sought) (name : List ℕ) (fd : Fd) (stat : Stat) →
    stated fd stat (Some (opened_by sought name fd None)) ≡ Some (opened_by sought name fd (Some stat))
stated_same sought name fd stat = ap (λ (b : Bool).
    if b then Some (opened_by sought name fd (Some stat)) else Some (opened_by sought name fd None))
    (same_number fd.0)

inserted_so : (era : ℕ) (fd : Fd) (stat : Stat) (fresh number : ℕ) (told : ActReply) (f : Findings) →
    InsertionGives number told →
    (says f (made (Changes (adding era fd stat fresh)) told)).given ≡ Some (given_as era number stat.ids f.latest)
inserted_so era fd stat fresh number told f (inl e) =
    ap (λ t. (says f (made (Changes (adding era fd stat fresh)) t)).given) e
inserted_so era fd stat fresh number told f (inr h) =
    ap (λ t. (says f (made (Changes (adding era fd stat fresh)) t)).given) h.1

pub looked_given : (plan : Plan) (era : ℕ) (agreed : Negotiated) (parent : ℕ) (name : List ℕ) (entry : Entry)
    (own : List Step) (l : IsLookedUp plan era agreed parent name entry own) (f : Findings) →
    (said f own).given ≡ Some (given_as era entry.inode l.stat.ids
    (Some (opened_by (sought_by parent l.resolved.ids) name l.fd (Some l.stat))))
looked_given plan era agreed parent name entry own l f =
    ap (λ (z : List Step). (said f z).given) l.in_turn ∙ ⊎_elim claimed others l.numbered
  where
    sought : Sought
    sought = sought_by parent l.resolved.ids

    opened : Step
    opened = made (Calls (call.OpenAt (fd_of l.resolved.form) name by_path 0)) (Host (host.Ok (value.Fd l.fd)))

    g : Findings
    g = says (says f (resolving parent l.resolved)) opened

    told : Findings
    told = record g { latest = stated l.fd l.stat (Some (opened_by (sought_by parent l.resolved.ids) name l.fd None)) }

    latest : told.latest ≡ Some (opened_by (sought_by parent l.resolved.ids) name l.fd (Some l.stat))
    latest = stated_same (sought_by parent l.resolved.ids) name l.fd l.stat

    claimed : (class : ℕ)
        × (l.giving ≡ made (Changes (claiming era l.stat)) (Event (event.Claimed (again entry.inode class))) ∷ []) →
        (said told l.giving).given ≡ Some (given_as era entry.inode l.stat.ids
        (Some (opened_by (sought_by parent l.resolved.ids) name l.fd (Some l.stat))))
    claimed h =
        ap (λ (z : List Step). (said told z).given) h.1
        ∙ ap (λ o. Some (given_as era entry.inode l.stat.ids o)) latest

    others : (fresh : ℕ) × (reply : ActReply) × InsertionGives entry.inode reply
        × (l.giving ≡ inserting era l.fd l.stat fresh reply) →
        (said told l.giving).given ≡ Some (given_as era entry.inode l.stat.ids
        (Some (opened_by (sought_by parent l.resolved.ids) name l.fd (Some l.stat))))
    others h =
        ap (λ (z : List Step). (said told z).given) h.3
        ∙ inserted_so era l.fd l.stat h.0 entry.inode h.1 told h.2
        ∙ ap (λ o. Some (given_as era entry.inode l.stat.ids o)) latest

-- what is noted is what is said, and more

some_same : {A : Type 0} {a b : A} → Some a ≡ Some b → a ≡ b
some_same e = cc

from_bare : (x : Option Giving) (y : Giving) → bare_given x ≡ Some y →
    (g : Giving) × (x ≡ Some g) × (bare_giving g ≡ y)
from_bare None y e = absurd (cc)
from_bare (Some g) y e = (g, refl, some_same e)

-- a job that has a step is below the bound
pub job_below : (bound j : ℕ) (turns : List Turn) (step : Step) (later : List Step) → AreDisciplined bound turns →
    steps_of j turns ≡ step ∷ later → j < bound
job_below bound j turns step later d e =
    let x = located j turns [] step later e in
    owner_of bound x.0 (record { job = j; step = step }) x.1
    (subst (λ (t : List Turn). Each (λ (s : Turn). s.job < bound) t) x.2 d.owners)

pub entered_law : (limits : List ℕ) (bound : ℕ) (plan : Plan) (turns : List Turn) (start end : World) (j parent : ℕ)
    (name : List ℕ) (entry : Entry) (era : ℕ) (agreed : Negotiated) (front own back : List Step) →
    Starts limits start → AreDisciplined bound turns → Runs start turns end →
    steps_of j turns ≡ made (Changes change.Begin) (Event (event.Began era agreed)) ∷ (front ++ (own ++ back)) →
    IsLookedUp plan era agreed parent name entry own →
    Each (λ (step : Step). GivesNone step.deed step.reply) back →
    IsEntered plan end (steps_of j turns) j parent name entry
entered_law limits bound plan turns start end j parent name entry era agreed front own back s d r e l quiet =
    let begin : Step = made (Changes change.Begin) (Event (event.Began era agreed)) in
    let f : Findings = said (says nothing_found begin) front in
    let all : said nothing_found (steps_of j turns) ≡ said (said f own) back =
    ap (said nothing_found) e ∙ said_append (says nothing_found begin) front (own ++ back)
    ∙ said_append f own back in
    let is : bare_given (end.story.found j).given ≡ Some (given_as era entry.inode l.stat.ids
    (Some (opened_by (sought_by parent l.resolved.ids) name l.fd (Some l.stat)))) =
    ap (λ (z : Findings). z.given) (said_law limits j turns start end s r ∙ all)
    ∙ said_stays (λ (z : Findings). z.given) GivesNone given_stays (said f own) back quiet
    ∙ looked_given plan era agreed parent name entry own l f in
    let g = from_bare (end.story.found j).given _ is in
    let below = job_below bound j turns begin (front ++ (own ++ back)) d e in
    let given = givings_law limits bound turns [] start end j g.0 s (rw append-nil d) r below g.1 in
    let same : Some (bare_opening given.opening)
    ≡ Some (opened_by (sought_by parent l.resolved.ids) name l.fd (Some l.stat)) =
    ap bare_latest (sym given.is_last) ∙ ap (λ (z : Giving). z.opening) g.2 in
    let opened = some_same same in
    let sought : Some (sought_by given.parent given.led.ids) ≡ Some (sought_by parent l.resolved.ids) =
    ap bare_sought (sym given.led.resolved) ∙ ap (λ (z : Opening). z.parent) opened in
    let from = some_same sought in
    record {
      era = era;
      agreed = agreed;
      later = front ++ (own ++ back);
      begins = e;
      giving = g.0;
      given = g.1;
      number = ap (λ (z : Giving). z.number) g.2;
      same_era = ap (λ (z : Giving). z.era) g.2;
      is_given = given;
      same_parent = ap (λ (z : Sought). z.number) from;
      same_name = ap (λ (z : Opening). z.name) opened;
      stat = l.stat;
      stated = ap (λ (z : Opening). z.stat) opened;
      same_ids = ap (λ (z : Giving). z.ids) g.2;
      told = l.told ∙ ap (λ (z : Sought). entry_of plan agreed z.ids l.stat entry.inode) (sym from);
    }
