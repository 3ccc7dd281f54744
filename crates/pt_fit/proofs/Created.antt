-- A file that `create` answered is the object that it made, or one that was there, and its handle is open on it.
use Rattle.std.proofs.Common.{◌≡◌, ◌⊎◌, ⊎_elim, inl, inr, ◌++◌, ◌∷◌, ◌∙◌, ◌<◌, [], ℕ, Bool, List, Option, Some, None, ap}
use Rattle.std.proofs.Common.{append-nil, append_assoc, arith, if◌then◌else◌, refl, subst, sym, true}
use Rattle.pt_host.specs.Flags.{includes, o_creat}
use Rattle.pt_host.specs.Sorts.{Sort, OpensWith, EndsFd, OfSeat, Plain, sort_of}
use Rattle.pt_host.specs.Words.{Each}
use Rattle.pt_host.specs.declared.flags.OpenFlags.{OpenFlags}
use Rattle.pt_host.specs.declared.ids.Fd.{Fd}
use Rattle.pt_host.specs.declared.ids.ObjIds.{ObjIds}
use Rattle.pt_host.specs.declared.seat.HostSeat.{HostSeat}
use Rattle.pt_tables.specs.declared.event.NewHandle.{NewHandle}
use Rattle.pt_tables.specs.declared.event.KeptEvent.TheVariants as change
use Rattle.pt_tables.specs.declared.form.Negotiated.{Negotiated}
use Rattle.pt_tables.specs.declared.reply.EventReply.TheVariants as event
use Rattle.pt_tables.specs.declared.reply.Resolved.{Resolved}
use Rattle.pt_iface.specs.declared.answer.Answer.TheVariants as answer
use Rattle.pt_iface.specs.declared.entry.Entry.{Entry}
use Rattle.pt_iface.specs.declared.flags.OpenOptions.{OpenOptions}
use Rattle.pt_iface.specs.declared.request.Context.{Context}
use Rattle.pt_iface.specs.declared.request.Extensions.{Extensions}
use Rattle.pt_iface.specs.declared.request.Request.TheVariants as request
use Rattle.pt_frame.specs.Deed.{Calls, Changes, Deed, Step}
use Rattle.pt_frame.specs.Grammar.{Belongs}
use Rattle.pt_frame.specs.declared.act.ActReply.{ActReply}
use Rattle.pt_frame.specs.declared.act.ActReply.TheVariants.{Event}
use Rattle.pt_frame.specs.declared.finish.Finish.TheVariants as finish
use Rattle.pt_req.specs.Parts.{by_path}
use Rattle.pt_req.specs.Steps.{new_handle_of}
use Rattle.pt_req.specs.declared.plan.Plan.{Plan}
use Rattle.pt_job.specs.Pattern.{grammar_of}
use Rattle.pt_law.specs.Discipline.{AreDisciplined}
use Rattle.pt_law.specs.Findings.{IsHandled, LedTo, MadeIn}
use Rattle.pt_law.specs.Laws.{Starts}
use Rattle.pt_law.specs.Ledger.{fd_closed, fd_given, summed, weighed}
use Rattle.pt_law.specs.Reopened.{resolving}
use Rattle.pt_law.specs.Story.{Findings, Opening, Sought, nothing_found}
use Rattle.pt_law.specs.World.{World, Turn, Runs, fd_of, made, steps_of}
use Rattle.pt_law.proofs.Leaving.{making_kept, sought_stays}
use Rattle.pt_law.proofs.Made.{HandledSo, came_law, handled_law, made_law}
use Rattle.pt_law.proofs.Opening.{GivesNone, MakesNone, ResolvesNone, opening, stating}
use Rattle.pt_law.proofs.Origins.{handlings_law, openings_law}
use Rattle.pt_law.proofs.Saying.{bare_latest, bare_opening, bare_sought, said, said_append, said_law, said_stays, says}
use Rattle.pt_fit.specs.Created.{IsCreated, IsNewFile}
use Rattle.pt_fit.specs.Entered.{IsEntered}
use Rattle.pt_fit.proofs.Entered.{Giver, entered_law, giver_of, job_below}
use Rattle.pt_fit.proofs.Handling.{each_join, inserted}
use Rattle.pt_fit.proofs.Leading.{IsStill, StillSort}
use Rattle.pt_fit.proofs.LookedUp.{InsertionGives, IsLookedUp, again, claiming, inserting}
use Rattle.pt_fit.proofs.Making.{CreatedBy, NewWay, OldWay, created_parts}
use Rattle.pt_fit.proofs.Still.{all_still_make, all_still_resolve}

-- A still step neither closes a descriptor nor hands one over.

closes_none : (fd : ℕ) (sort : Sort) → StillSort sort → fd_closed fd sort ≡ 0
closes_none fd (OpensWith flags) s = absurd s
closes_none fd (EndsFd same) s = absurd s
closes_none fd OfSeat s = refl
closes_none fd Plain s = refl

still_keeps : (fd : ℕ) (deed : Option Deed) (told : ActReply) → IsStill deed → weighed (fd_given fd) deed told ≡ 0
still_keeps fd None told s = refl
still_keeps fd (Some (Calls asked)) told s = let k = closes_none fd (sort_of asked) s in omega (arith, k)
still_keeps fd (Some (Changes asked)) told s = absurd s

all_still_keep : (fd : ℕ) (steps : List Step) → Each (λ (step : Step). IsStill step.deed) steps →
    summed (fd_given fd) steps ≡ 0
all_still_keep fd [] s = refl
all_still_keep fd (step ∷ steps) s =
    let one = still_keeps fd step.deed step.reply s.0 in
    let rest = all_still_keep fd steps s.1 in
    omega (arith, one, rest)

keep_all : (fd : ℕ) (steps more : List Step) → summed (fd_given fd) steps ≡ 0 → summed (fd_given fd) more ≡ 0 →
    summed (fd_given fd) (steps ++ more) ≡ 0
keep_all fd [] more a b = b
keep_all fd (step ∷ steps) more a b = let h = keep_all fd steps more (omega (arith, a)) b in omega (arith, a, h)

-- A lookup makes nothing.
looked_makes_none : (plan : Plan) (era : ℕ) (agreed : Negotiated) (parent : ℕ) (name : List ℕ) (entry : Entry)
    (own : List Step) → IsLookedUp plan era agreed parent name entry own →
    Each (λ (step : Step). MakesNone step.deed step.reply) own
looked_makes_none plan era agreed parent name entry own l =
    subst (Each (λ (step : Step). MakesNone step.deed step.reply)) (sym l.in_turn)
    (tt, (refl, (tt, giving l.giving l.numbered)))
  where
    giving : (steps : List Step) →
        ((class : ℕ) × (steps ≡ made (Changes (claiming era l.stat)) (Event (event.Claimed (again entry.inode class)))
        ∷ []))
        ⊎ ((fresh : ℕ) × (told : ActReply) × InsertionGives entry.inode told
        × (steps ≡ inserting era l.fd l.stat fresh told)) →
        Each (λ (step : Step). MakesNone step.deed step.reply) steps
    giving steps (inl h) = subst (Each (λ (step : Step). MakesNone step.deed step.reply)) (sym h.1) (tt, tt)
    giving steps (inr h) =
        subst (Each (λ (step : Step). MakesNone step.deed step.reply)) (sym h.3) (tt, (tt, (tt, (tt, tt))))

some_same : {A : Type 0} {a b : A} → Some a ≡ Some b → a ≡ b
some_same e = cc

none_some : {A : Type 0} {a : A} → None ≡ Some a → ⊥
none_some e = cc

abbrev sought_in : ℕ → ObjIds → Option ℕ → Sought
sought_in number ids object = record { number = number; ids = ids; object = object }

-- what an opening that may make its object says, behind still steps in a parent
abbrev said_making : ℕ → ObjIds → List ℕ → Fd → Opening
said_making parent ids name fd = record {
  parent = Some (record { number = parent; ids = ids; object = None });
  directory = None;
  name = name;
  led_to = None;
  objects = 0;
  object = None;
  fd = fd;
  stat = None;
}

making_said : (f : Findings) (parent : ℕ) (row : Resolved) (first later : List Step) (dir : Fd) (name : List ℕ)
    (flags : OpenFlags) (how : ℕ) (fd : Fd) →
    Each (λ (step : Step). IsStill step.deed) first → includes flags.0 o_creat ≡ true →
    Each (λ (step : Step). MakesNone step.deed step.reply) later →
    (said f (resolving parent row ∷ (first ++ opening dir name flags how fd ∷ later))).making
    ≡ Some (said_making parent row.ids name fd)
making_said f parent row first later dir name flags how fd still creates none =
    let g : Findings = says f (resolving parent row) in
    let k : Findings = said g first in
    let sought : k.sought ≡ Some (sought_in parent row.ids None) =
    said_stays (λ (z : Findings). z.sought) ResolvesNone sought_stays g first (all_still_resolve first still) in
    ap (λ (z : Findings). z.making) (said_append g first (opening dir name flags how fd ∷ later))
    ∙ said_stays (λ (z : Findings). z.making) MakesNone making_kept
    (says k (opening dir name flags how fd)) later none
    ∙ ap (λ (b : Bool).
    if b then Some (record (said_making parent row.ids name fd) { parent = k.sought }) else k.making) creates
    ∙ ap (λ (x : Option Sought). Some (record (said_making parent row.ids name fd) { parent = x })) sought

from_bare : (x : Option Opening) (y : Opening) → bare_latest x ≡ Some y →
    (o : Opening) × (x ≡ Some o) × (bare_opening o ≡ y)
from_bare None y e = absurd (cc)
from_bare (Some o) y e = (o, refl, some_same e)

bare_none : (x : Option Opening) → bare_latest x ≡ None → x ≡ None
bare_none None e = refl
bare_none (Some o) e = absurd (none_some (sym e))

module _ (limits : List ℕ) (bound : ℕ) (plan : Plan) (turns : List Turn) (start end : World) (j parent : ℕ)
    (name : List ℕ)
    (entry : Entry) (handle : ℕ) (s : Starts limits start) (d : AreDisciplined bound turns)
    (r : Runs start turns end) (c : CreatedBy plan parent name entry handle (steps_of j turns)) where
  whole : AreDisciplined bound (turns ++ [])
  whole = rw append-nil d

  abbrev begin : Step
  begin = made (Changes change.Begin) (Event (event.Began c.era c.agreed))

  abbrev front : List Step
  front = resolving parent c.resolved ∷ c.before

  below : j < bound
  below = job_below bound j turns begin (front ++ (c.own ++ c.back)) d c.all

  -- the opening of the lookup, and the step that gave the number
  abbrev anew : Step
  anew = opening (fd_of c.looked_up.resolved.form) name by_path 0 c.looked_up.fd

  giver : Giver c.era entry.inode c.looked_up.stat.ids
      (stating c.looked_up.fd c.looked_up.stat ∷ c.looked_up.giving)
  giver = giver_of plan c.era c.agreed parent name entry c.own c.looked_up

  own_is : c.own ≡ resolving parent c.looked_up.resolved ∷ anew ∷ (giver.middle ++ giver.give ∷ [])
  own_is =
      c.looked_up.in_turn
      ∙ ap (λ (z : List Step). resolving parent c.looked_up.resolved ∷ anew ∷ z) giver.are

  entered : Each (λ (step : Step). GivesNone step.deed step.reply) c.back →
      IsEntered plan end (steps_of j turns) j parent name entry
  entered quiet =
      entered_law limits bound plan turns start end j parent name entry c.era c.agreed front c.own c.back s d r c.all
      c.looked_up quiet

  -- by the steps of a handle behind the lookup
  module _ (e : IsEntered plan end (steps_of j turns) j parent name entry) (new : NewHandle)
      (h : HandledSo end j new) (named : new.handle ≡ handle) (numbered : new.number ≡ entry.inode) where
    handled : IsHandled end h.handling
    handled = handlings_law limits bound turns [] start end j h.handling s whole r below h.handled

    created : (IsNewFile end j parent name e.is_given.object h.handling handled.object
        ⊎ ((end.story.found j).making ≡ None)) → IsCreated plan end (steps_of j turns) j parent name entry handle
    created file = record {
      entered = e;
      handling = h.handling;
      handled = h.handled;
      same_handle = h.handle ∙ named;
      number = h.number ∙ numbered;
      last_given = h.giving ∙ e.given;
      is_handled = handled;
      file = file;
    }

  old_file : OldWay entry.inode handle c.before c.back →
      IsCreated plan end (steps_of j turns) j parent name entry handle
  old_file o =
      let i = o.inserts in
      let new = new_handle_of i.era handle entry.inode i.fd in
      let P : Step → Type 0 = λ step. MakesNone step.deed step.reply in
      let steps : List Step = begin ∷ (front ++ (c.own ++ i.front)) in
      let all : steps_of j turns ≡ steps ++ inserted i.era handle entry.inode i.fd i.told ∷ i.back =
      c.all ∙ ap (λ (z : List Step). begin ∷ (front ++ z)) (ap (λ (z : List Step). c.own ++ z) i.are
      ∙ sym (append_assoc c.own i.front (inserted i.era handle entry.inode i.fd i.told ∷ i.back)))
      ∙ ap (λ (z : List Step). begin ∷ z) (sym (append_assoc front (c.own ++ i.front)
      (inserted i.era handle entry.inode i.fd i.told ∷ i.back))) in
      let none : Each P (steps_of j turns) =
      subst (Each P) (sym c.all) (
        tt,
        (
          tt,
          each_join P c.before (c.own ++ c.back) o.makes_none
              (each_join P c.own c.back
              (looked_makes_none plan c.era c.agreed parent name entry c.own c.looked_up) i.makes_none),
        ),
      ) in
      let nothing : (end.story.found j).making ≡ None =
      bare_none (end.story.found j).making
      (ap (λ (z : Findings). z.making) (said_law limits j turns start end s r)
      ∙ said_stays (λ (z : Findings). z.making) MakesNone making_kept nothing_found (steps_of j turns) none) in
      created (entered i.gives_none) new
      (handled_law j turns start end steps i.back new i.told r all i.gives_no_more i.quiet) refl refl (inr nothing)

  new_file : NewWay name c.looked_up.stat.ids entry.inode handle c.before c.back →
      IsCreated plan end (steps_of j turns) j parent name entry handle
  new_file n =
      let i = n.inserts.all in
      let e = entered i.gives_none in
      let new = new_handle_of i.era handle entry.inode i.fd in
      let ins = inserted i.era handle entry.inode i.fd i.told in
      let P : Step → Type 0 = λ step. MakesNone step.deed step.reply in
      let makes = opening n.dir name n.flags n.how n.fd in
      let status = stating n.fd n.stat in
      let once = resolving parent c.resolved in
      let again = resolving parent c.looked_up.resolved in
      let past : List Step = n.past_stat ++ again ∷ [] in
      let later : List Step = giver.middle ++ giver.give ∷ c.back in
      let behind : List Step = n.to_stat ++ status ∷ (past ++ anew ∷ later) in
      -- the steps, from the making on
      let own : c.own ++ c.back ≡ again ∷ anew ∷ later =
      ap (λ (z : List Step). z ++ c.back) own_is
      ∙ ap (λ (z : List Step). again ∷ anew ∷ z) (append_assoc giver.middle (giver.give ∷ []) c.back) in
      let from : c.before ++ (c.own ++ c.back) ≡ n.first ++ makes ∷ behind =
      (λ k. n.are k ++ own k)
      ∙ append_assoc n.first (makes ∷ (n.to_stat ++ status ∷ n.past_stat)) (again ∷ anew ∷ later)
      ∙ ap (λ (z : List Step). n.first ++ makes ∷ z)
      (append_assoc n.to_stat (status ∷ n.past_stat) (again ∷ anew ∷ later)
      ∙ ap (λ (z : List Step). n.to_stat ++ status ∷ z)
      (sym (append_assoc n.past_stat (again ∷ []) (anew ∷ later)))) in
      let all : steps_of j turns ≡ (begin ∷ once ∷ n.first) ++ makes ∷ behind =
      c.all ∙ ap (λ (z : List Step). begin ∷ once ∷ z) from in
      let still_past = all_still_keep n.fd.0 n.past_stat n.still_past in
      let kept : summed (fd_given n.fd.0) (n.to_stat ++ status ∷ past) ≡ 0 =
      keep_all n.fd.0 n.to_stat (status ∷ past) (all_still_keep n.fd.0 n.to_stat n.still_to)
      (let k = keep_all n.fd.0 n.past_stat (again ∷ []) still_past refl in omega (arith, k)) in
      let own_none : Each P (again ∷ anew ∷ later) =
      subst (Each P) own (each_join P c.own c.back
      (looked_makes_none plan c.era c.agreed parent name entry c.own c.looked_up) i.makes_none) in
      let none : Each P behind =
      each_join P n.to_stat (status ∷ (past ++ anew ∷ later)) (all_still_make n.to_stat n.still_to) (
        tt,
        subst (Each P) (sym (append_assoc n.past_stat (again ∷ []) (anew ∷ later)))
            (each_join P n.past_stat (again ∷ anew ∷ later) (all_still_make n.past_stat n.still_past) own_none),
      ) in
      let m = made_law limits bound turns [] start end j s whole r (begin ∷ once ∷ n.first) n.to_stat past giver.middle
      c.back n.dir (fd_of c.looked_up.resolved.form) name name n.flags by_path n.how 0 n.fd c.looked_up.fd n.stat
      giver.give c.era entry.inode c.looked_up.stat.ids all n.makes kept giver.quiet giver.gives n.same_ids none
      i.gives_none in
      -- what is said of the making
      let said_is = ap (λ (z : Findings). z.making) (said_law limits j turns start end s r ∙ ap (said nothing_found)
      all)
      ∙ making_said (says nothing_found begin) parent c.resolved n.first behind n.dir name n.flags n.how n.fd
      n.still_first n.makes.0 none in
      let o = from_bare (end.story.found j).making _ said_is in
      let its : m.0 ≡ o.0 = some_same (sym m.1 ∙ o.1) in
      -- the handle
      let upto : List Step = begin ∷ (once ∷ (c.before ++ (again ∷ anew ∷ giver.middle))) in
      let to_handle : steps_of j turns ≡ upto ++ giver.give ∷ (i.front ++ ins ∷ i.back) =
      c.all ∙ ap (λ (z : List Step). begin ∷ once ∷ z) (ap (λ (z : List Step). c.before ++ z)
      (own ∙ ap (λ (z : List Step). again ∷ anew ∷ (giver.middle ++ giver.give ∷ z)) i.are)
      ∙ sym (append_assoc c.before (again ∷ anew ∷ giver.middle) (giver.give ∷ (i.front ++ ins ∷ i.back)))) in
      let h = came_law j turns start end upto i.front i.back giver.give c.era entry.inode c.looked_up.stat.ids new
      i.told r to_handle giver.gives refl n.inserts.came i.gives_no_more i.quiet in
      let is_handled = handled e new h.0 refl refl in
      let opened : is_handled.object ≡ e.is_given.object =
      some_same (sym is_handled.stood_for ∙ h.1 e.giving e.given ∙ e.is_given.stood_for) in
      let object : o.0.object ≡ Some e.is_given.object =
      ap (λ (z : Opening). z.object) (sym its) ∙ m.3 e.giving e.given ∙ e.is_given.stood_for in
      let free : o.0.led_to ≡ None = ap (λ (z : Opening). z.led_to) (sym its) ∙ m.2 in
      let is = openings_law limits bound turns [] start end j o.0 s whole r below (inr o.1) in
      let in_it : MadeIn o.0 parent name e.is_given.object = ⊎_elim
      (λ (led : LedTo o.0 is.0 o.0.name is.1). absurd (none_some (sym free ∙ led.had_led)))
      (λ (made_so : MadeIn o.0 is.0 o.0.name is.1). made_there n.fd parent c.resolved.ids o.0 is.0 is.1
      e.is_given.object o.2 made_so object)
      is.2 in
      created e new h.0 refl refl (inl (record {
        making = o.0;
        noted = o.1;
        made = in_it;
        same_fd = h.0.fd ∙ n.inserts.same_fd ∙ sym (ap (λ (z : Opening). z.fd) o.2);
        same = opened;
      }))
    where
      made_there : (fd : Fd) (number : ℕ) (ids : ObjIds) (o : Opening) (parent_is was object : ℕ) →
          bare_opening o ≡ said_making number ids name fd → MadeIn o parent_is o.name was →
          o.object ≡ Some object → MadeIn o number name object
      made_there fd number ids o parent_is was object bare made_so open_on =
          let in_it = made_so.0 in
          let sought : Some (sought_in parent_is in_it.ids None) ≡ Some (sought_in number ids None) =
          ap bare_sought (sym in_it.resolved) ∙ ap (λ (z : Opening). z.parent) bare in
          let from = some_same sought in
          let same : was ≡ object = some_same (sym in_it.opened ∙ open_on) in (
            record {
              ids = in_it.ids;
              directory = in_it.directory;
              resolved = in_it.resolved
                  ∙ ap (λ (z : Sought). Some (sought_in z.number in_it.ids (Some in_it.directory))) from;
              opened_in = in_it.opened_in;
              name_is = ap (λ (z : Opening). z.name) bare;
              had_led = in_it.had_led;
              opened = open_on;
            },
            sym same ∙ made_so.1,
          )

  pub created_law : IsCreated plan end (steps_of j turns) j parent name entry handle
  created_law = ⊎_elim new_file old_file c.way

-- `create` that is answered with an entry and a handle
pub file_law : (limits : List ℕ) (bound : ℕ) (plan : Plan) (seat : HostSeat) (who : Context) (turns : List Turn)
    (start end : World) (j parent : ℕ) (name : List ℕ) (mode : ℕ) (kill : Bool) (flags umask : ℕ) (ext : Extensions)
    (entry : Entry) (handle : ℕ) (options : OpenOptions) → Starts limits start → AreDisciplined bound turns →
    Runs start turns end →
    Belongs (grammar_of plan seat who (request.Create parent name mode kill flags umask ext)) (steps_of j turns)
    (finish.Answer (answer.Created entry handle options)) →
    IsCreated plan end (steps_of j turns) j parent name entry handle
file_law limits bound plan seat who turns start end j parent name mode kill flags umask ext entry handle options s d r
    b =
    let c = created_parts plan seat who parent name mode kill flags umask ext entry handle options (steps_of j turns)
    b in
    created_law limits bound plan turns start end j parent name entry handle s d r c
