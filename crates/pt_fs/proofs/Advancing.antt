-- One step of a job belongs to what it has to do.
use Rattle.std.proofs.Common.{◌≡◌, ◌≤◌, ◌<◌, ◌+◌, ◌*◌, ◌∙◌, inl, inr, ℕ, Bool, Option, Some, None, refl, ap, sym, subst}
use Rattle.pt_host.specs.Call.{Call}
use Rattle.pt_host.specs.declared.reply.HostReply.{HostReply}
use Rattle.pt_host.specs.declared.seat.HostSeat.{HostSeat}
use Rattle.pt_tables.specs.Change.{Change}
use Rattle.pt_tables.specs.Happens.{Happens}
use Rattle.pt_tables.specs.Tables.{Tables}
use Rattle.pt_tables.specs.declared.reply.EventReply.{EventReply}
use Rattle.pt_frame.specs.Deed.{Deed, Calls, Changes, IsStepOf, MayFailToCopy, MayTellBytes, HoldsReplyBytes}
use Rattle.pt_frame.specs.Deed.{deed_of, kept_deed_of}
use Rattle.pt_frame.specs.Grammar.{Grammar, End, Do, May, IsChosen, Wants, after, Owed, told_closings}
use Rattle.pt_frame.specs.Grammar.{told_inserted, restores}
use Rattle.pt_frame.specs.Past.{lost_after}
use Rattle.pt_frame.specs.Replies.{closings_in, inserted_by}
use Rattle.pt_host.specs.Relation.{HostRelation}
use Rattle.pt_frame.specs.Made.{Made, Makes}
use Rattle.pt_frame.specs.declared.act.Act.{Act}
use Rattle.pt_frame.specs.declared.act.ActReply.{ActReply}
use Rattle.pt_frame.specs.declared.act.ActReply.TheVariants.{Event, Host, NoCopy}
use Rattle.pt_frame.specs.declared.act.KeptAct.{KeptAct}
use Rattle.pt_frame.specs.declared.act.KeptAct.TheVariants as kept_act
use Rattle.pt_frame.specs.declared.act.Want.TheVariants as want
use Rattle.pt_job.specs.Machine.Job.{owes, lost_of, restores_now, steps_left, steps_bound, inserts_left}
use Rattle.pt_law.proofs.Told.{Promises, bytes_told}
use Rattle.pt_req.specs.declared.plan.Plan.{Plan}
use Rattle.pt_fs.specs.Advances.{IsWanted, Advances, inserted_in}
use Rattle.pt_fs.specs.Jobs.{no_seat}
use Rattle.pt_fs.specs.Recorded.{kept_of}
use Rattle.pt_fs.specs.Stepped.{CallsFrom, MadeWanted, Stepped}
use Rattle.pt_fs.specs.Trace.{IsShown, MadeFrom, MadeFromBy, told_by}
use Rattle.pt_fs.specs.declared.machine.Machine.{Machine}

-- an event needs no seat, nor does what was not made
module _ {H A : Type 0} (does : HostRelation H) (makes : Makes A) (host : H) where
  happened_from : (asked : Change) (reply : EventReply) (seat : Option HostSeat) (access access' : A) →
      makes access asked reply access' →
      MadeFromBy does makes (Some (Changes asked)) (Event reply) host seat access host seat access'
  happened_from asked reply (Some seat) access access' made = (made, refl, refl)
  happened_from asked reply None access access' made = (no_seat, (made, refl, refl))

  unmade : (seat : Option HostSeat) (access : A) → MadeFromBy does makes None NoCopy host seat access host seat access
  unmade (Some seat) access = (refl, refl, refl)
  unmade None access = (no_seat, (refl, refl, refl))

  pub happened : (act : Act) (event : Change) (reply : EventReply) (seat : Option HostSeat) (access access' : A) →
      deed_of act ≡ Changes event → makes access event reply access' →
      MadeFromBy does makes (Some (deed_of act)) (Event reply) host seat access host seat access'
  happened act event reply seat access access' is made =
      subst (λ (deed : Deed). MadeFromBy does makes (Some deed) (Event reply) host seat access host seat access')
      (sym is) (happened_from event reply seat access access' made)

  called_from : (asked : Call) (reply : HostReply) (seat seat' : Option HostSeat) (host' : H) (access : A) →
      CallsFrom does asked reply host seat host' seat' →
      MadeFromBy does makes (Some (Calls asked)) (Host reply) host seat access host' seat' access
  called_from asked reply (Some seat) (Some seat') host' access calls = (calls, refl)
  called_from asked reply None None host' access calls = (calls.0, (calls.1, refl))
  called_from asked reply (Some seat) None host' access calls = absurd calls
  called_from asked reply None (Some seat') host' access calls = absurd calls

  pub called : (act : Act) (call : Call) (reply : HostReply) (seat seat' : Option HostSeat) (host' : H) (access : A) →
      deed_of act ≡ Calls call → CallsFrom does call reply host seat host' seat' →
      MadeFromBy does makes (Some (deed_of act)) (Host reply) host seat access host' seat' access
  called act call reply seat seat' host' access is calls =
      subst (λ (deed : Deed). MadeFromBy does makes (Some deed) (Host reply) host seat access host' seat' access)
      (sym is) (called_from call reply seat seat' host' access calls)

-- an act with bytes of its own is of the same deed
kept_deed : (deed : Deed) → kept_deed_of (kept_of deed) ≡ Some deed
kept_deed (Calls call) = refl
kept_deed (Changes change) = refl

wanted_act : (owed : Grammar) (act : Act) → Wants owed (want.Step act) → IsWanted owed (Some (deed_of act))
wanted_act (Do deed owed next) act wants = wants
wanted_act (End last) act wants = absurd wants
wanted_act (May one other) act wants = absurd wants

wanted_none : (owed : Grammar) (act : Act) → Wants owed (want.Step act) → MayFailToCopy (deed_of act) →
    IsWanted owed None
wanted_none (Do deed owed next) act wants fails = subst MayFailToCopy wants fails
wanted_none (End last) act wants fails = absurd wants
wanted_none (May one other) act wants fails = absurd wants

-- what a job wanted was made, or could not be copied
module _ {H : Type 0} (does : HostRelation H) (owed : Grammar) (act : Act) (wants : Wants owed (want.Step act))
    (host : H) (seat : Option HostSeat) (tables : Tables) (told : ActReply) where
  pub makes : (reply : ActReply) (host' : H) (seat' : Option HostSeat) (tables' : Tables) →
      MadeFrom does (Some (deed_of act)) reply host seat tables host' seat' tables' → IsShown reply told →
      MadeWanted does owed host seat tables (kept_of (deed_of act)) told host' seat' tables'
  makes reply host' seat' tables' made shown = record {
    reply = reply;
    wanted = subst (λ (deed : Option Deed). IsWanted owed deed) (sym (kept_deed (deed_of act)))
        (wanted_act owed act wants);
    made = subst (λ (deed : Option Deed). MadeFrom does deed reply host seat tables host' seat' tables')
        (sym (kept_deed (deed_of act))) made;
    shown = shown;
  }

  pub makes_none : MayFailToCopy (deed_of act) → IsShown NoCopy told →
      MadeWanted does owed host seat tables kept_act.NoCopy told host seat tables
  makes_none fails shown = record {
    reply = NoCopy;
    wanted = wanted_none owed act wants fails;
    made = unmade does Happens host seat tables;
    shown = shown;
  }

module _ {H : Type 0} (does : HostRelation H) (faults : H → ℕ) (promises : Promises does faults) where
  -- a reply that held bytes came to a call that may tell some
  tells_bytes : (deed : Deed) (reply : ActReply) (host : H) (seat : HostSeat) (tables : Tables) (host' : H)
      (seat' : HostSeat) (tables' : Tables) →
      Made does (Some deed) reply host seat tables host' seat' tables' → HoldsReplyBytes reply → MayTellBytes deed
  tells_bytes (Calls asked) (Host told) host seat tables host' seat' tables' made holds =
      bytes_told (faults host) (faults host') asked told holds
      (promises host seat asked told host' seat' made.0).allowed
  tells_bytes (Changes asked) (Host told) host seat tables host' seat' tables' made holds = absurd made
  tells_bytes deed (Event told) host seat tables host' seat' tables' made holds = absurd holds
  tells_bytes deed NoCopy host seat tables host' seat' tables' made holds = absurd holds

  -- what was made and is shown is a step of what was to be done
  shown_made : (deed same : Deed) (reply : ActReply) (host : H) (seat : HostSeat) (tables : Tables) (host' : H)
      (seat' : HostSeat) (tables' : Tables) → same ≡ deed →
      Made does (Some same) reply host seat tables host' seat' tables' → IsStepOf deed (Some same) reply
  shown_made deed same (Event told) host seat tables host' seat' tables' e made = e
  shown_made deed same (Host told) host seat tables host' seat' tables' e made = e
  shown_made deed (Changes asked) NoCopy host seat tables host' seat' tables' e made = absurd made
  shown_made deed (Calls asked) NoCopy host seat tables host' seat' tables' e made =
      let told = made.0 in (
        e,
        subst MayTellBytes e
            (bytes_told (faults host) (faults host') asked told.0 told.1
            (promises host seat asked told.0 host' seat' told.2).allowed),
      )

  is_step : (deed : Deed) (owed : Owed) (next : ActReply →
      Grammar) (kept : Option Deed) (reply shown : ActReply) (host : H) (seat : HostSeat) (tables : Tables)
      (host' : H) (seat' : HostSeat) (tables' : Tables) →
      IsWanted (Do deed owed next) kept → Made does kept reply host seat tables host' seat' tables' →
      IsShown reply shown → IsStepOf deed kept shown
  is_step deed owed next (Some same) reply shown host seat tables host' seat' tables' wanted made (inl e) =
      subst (λ (r : ActReply).
      IsStepOf deed (Some same) r) (sym e)
      (shown_made deed same reply host seat tables host' seat' tables' wanted made)
  is_step deed owed next (Some same) reply shown host seat tables host' seat' tables' wanted made (inr lost) =
      subst (λ (r : ActReply).
      IsStepOf deed (Some same) r) (sym lost.0) (
        wanted,
        subst MayTellBytes wanted (tells_bytes same reply host seat tables host' seat' tables' made lost.1),
      )
  is_step deed owed next None NoCopy shown host seat tables host' seat' tables' wanted made (inl e) =
      subst (λ (r : ActReply). IsStepOf deed None r) (sym e) wanted
  is_step deed owed next None NoCopy shown host seat tables host' seat' tables' wanted made (inr lost) = absurd lost.1
  is_step deed owed next None (Event told) shown host seat tables host' seat' tables' wanted made t = absurd made
  is_step deed owed next None (Host told) shown host seat tables host' seat' tables' wanted made t = absurd made

  is_step_from : (deed : Deed) (owed : Owed) (next : ActReply →
      Grammar) (kept : Option Deed) (reply shown : ActReply) (host : H) (seat : Option HostSeat) (tables : Tables)
      (host' : H) (seat' : Option HostSeat) (tables' : Tables) →
      IsWanted (Do deed owed next) kept → MadeFrom does kept reply host seat tables host' seat' tables' →
      IsShown reply shown → IsStepOf deed kept shown
  is_step_from deed owed next kept reply shown host (Some seat) tables host' (Some seat') tables' wanted made t =
      is_step deed owed next kept reply shown host seat tables host' seat' tables' wanted made t
  is_step_from deed owed next kept reply shown host None tables host' None tables' wanted made t =
      is_step deed owed next kept reply shown host no_seat tables host' made.0 tables' wanted made.1 t
  is_step_from deed owed next kept reply shown host (Some seat) tables host' None tables' wanted made t = absurd made
  is_step_from deed owed next kept reply shown host None tables host' (Some seat') tables' wanted made t = absurd made

  pub advanced : (old new : Grammar) (kept : Option Deed) (reply shown told : ActReply) (host : H)
      (seat : Option HostSeat) (tables : Tables) (host' : H) (seat' : Option HostSeat) (tables' : Tables) →
      IsWanted old kept → MadeFrom does kept reply host seat tables host' seat' tables' → IsShown reply shown →
      told ≡ shown → IsChosen (after told old) new → Advances old kept shown new
  advanced (Do deed owed next) new kept reply shown told host seat tables host' seat' tables' wanted made t e goes = (
    is_step_from deed owed next kept reply shown host seat tables host' seat' tables' wanted made t,
    subst (λ (r : ActReply). IsChosen (next r) new) e goes,
  )
  advanced (End last) new kept reply shown told host seat tables host' seat' tables' wanted made t e goes =
      absurd wanted
  advanced (May one other) new kept reply shown told host seat tables host' seat' tables' wanted made t e goes =
      absurd wanted

-- a step tells as many closings, and inserts as many rows, as what was to be done
same_told : (deed : Deed) (kept : Option Deed) (reply : ActReply) → IsStepOf deed kept reply →
    closings_in deed reply ≡ told_by kept reply
same_told deed (Some same) (Event told) is = ap (λ (d : Deed). closings_in d (Event told)) (sym is)
same_told deed (Some same) (Host told) is = ap (λ (d : Deed). closings_in d (Host told)) (sym is)
same_told deed (Some same) NoCopy is = ap (λ (d : Deed). closings_in d NoCopy) (sym is.0)
same_told (Calls asked) None NoCopy is = refl
same_told (Changes asked) None NoCopy is = refl
same_told deed None (Event told) is = absurd is
same_told deed None (Host told) is = absurd is

same_inserted : (deed : Deed) (kept : Option Deed) (reply : ActReply) → IsStepOf deed kept reply →
    inserted_by deed reply ≡ inserted_in kept reply
same_inserted deed (Some same) (Event told) is = ap (λ (d : Deed). inserted_by d (Event told)) (sym is)
same_inserted deed (Some same) (Host told) is = ap (λ (d : Deed). inserted_by d (Host told)) (sym is)
same_inserted deed (Some same) NoCopy is = ap (λ (d : Deed). inserted_by d NoCopy) (sym is.0)
same_inserted (Calls asked) None NoCopy is = refl
same_inserted (Changes asked) None NoCopy is = refl
same_inserted deed None (Event told) is = absurd is
same_inserted deed None (Host told) is = absurd is

pub told_within : (old new : Grammar) (kept : Option Deed) (shown told : ActReply) (was now : ℕ) →
    Advances old kept shown new → told ≡ shown → now + 1 ≤ was + 3 * told_closings old told →
    now + 1 ≤ was + 3 * told_by kept shown
told_within (Do deed owed next) new kept shown told was now advances same within =
    subst (λ (closings : ℕ). now + 1 ≤ was + 3 * closings) (same_told deed kept shown advances.0)
    (subst (λ (r : ActReply). now + 1 ≤ was + 3 * closings_in deed r) same within)
told_within (End last) new kept shown told was now advances same within = absurd advances
told_within (May one other) new kept shown told was now advances same within = absurd advances

pub inserted_within : (old new : Grammar) (kept : Option Deed) (shown told : ActReply) (was now : ℕ) →
    Advances old kept shown new → told ≡ shown → now + told_inserted old told ≤ was →
    now + inserted_in kept shown ≤ was
inserted_within (Do deed owed next) new kept shown told was now advances same within =
    subst (λ (rows : ℕ). now + rows ≤ was) (same_inserted deed kept shown advances.0)
    (subst (λ (r : ActReply). now + inserted_by deed r ≤ was) same within)
inserted_within (End last) new kept shown told was now advances same within = absurd advances
inserted_within (May one other) new kept shown told was now advances same within = absurd advances

-- what was made is so as it is shown, too
made_shown : {H : Type 0} (does : HostRelation H) (kept : Option Deed) (reply shown : ActReply) (host : H)
    (seat : HostSeat) (tables : Tables) (host' : H) (seat' : HostSeat) (tables' : Tables) →
    Made does kept reply host seat tables host' seat' tables' → IsShown reply shown →
    Made does kept shown host seat tables host' seat' tables'
made_shown does kept reply shown host seat tables host' seat' tables' made (inl same) =
    subst (λ (r : ActReply). Made does kept r host seat tables host' seat' tables') (sym same) made
made_shown does (Some (Calls asked)) (Host told) shown host seat tables host' seat' tables' made (inr lost) =
    subst (λ (r : ActReply). Made does (Some (Calls asked)) r host seat tables host' seat' tables') (sym lost.0)
    ((told, lost.1, made.0), made.1)
made_shown does (Some (Changes asked)) (Host told) shown host seat tables host' seat' tables' made (inr lost) =
    absurd made
made_shown does None (Host told) shown host seat tables host' seat' tables' made (inr lost) = absurd made
made_shown does kept (Event told) shown host seat tables host' seat' tables' made (inr lost) = absurd lost.1
made_shown does kept NoCopy shown host seat tables host' seat' tables' made (inr lost) = absurd lost.1

made_from_shown : {H : Type 0} (does : HostRelation H) (kept : Option Deed) (reply shown : ActReply) (host : H)
    (seat : Option HostSeat) (tables : Tables) (host' : H) (seat' : Option HostSeat) (tables' : Tables) →
    MadeFrom does kept reply host seat tables host' seat' tables' → IsShown reply shown →
    MadeFrom does kept shown host seat tables host' seat' tables'
made_from_shown does kept reply shown host (Some seat) tables host' (Some seat') tables' made is =
    made_shown does kept reply shown host seat tables host' seat' tables' made is
made_from_shown does kept reply shown host None tables host' None tables' made is =
    (made.0, made_shown does kept reply shown host no_seat tables host' made.0 tables' made.1 is)
made_from_shown does kept reply shown host (Some seat) tables host' None tables' made is = absurd made
made_from_shown does kept reply shown host None tables host' (Some seat') tables' made is = absurd made

-- a machine that asked for a step, was shown its reply and went on from there
pub stepped : {H : Type 0} (does : HostRelation H) (faults : H → ℕ) → Promises does faults → (plan : Plan)
    (start : HostSeat) (job : ℕ) (host host' : H) (seat seat' : Option HostSeat) (was now : Machine)
    (tables tables' : Tables) (act : KeptAct) (shown : ActReply) (restoring : Bool) →
    now.id.0 ≡ was.id.0 →
    MadeWanted does (owes plan start was.state) host seat tables act shown host' seat' tables' →
    IsChosen (after shown (owes plan start was.state)) (owes plan start now.state) →
    restoring ≡ restores_now was.state → restoring ≡ restores (owes plan start was.state) →
    lost_of now.state ≡ lost_after (lost_of was.state) (restores_now was.state) shown →
    steps_left now.state < steps_left was.state →
    steps_bound now.state + 1
    ≤ steps_bound was.state + 3 * told_closings (owes plan start was.state) shown →
    inserts_left now.state + told_inserted (owes plan start was.state) shown ≤ inserts_left was.state →
    Stepped does plan start job host seat was tables (record { job = job; act = act; reply = shown }) host' seat' now
    tables'
stepped does faults promises plan start job host host' seat seat' was now tables tables' act shown restoring place
    makes goes mark marked lost fewer within inserts =
    let old = owes plan start was.state in
    let new = owes plan start now.state in
    let kept = kept_deed_of act in
    let advances : Advances old kept shown new =
    advanced does faults promises old new kept makes.reply shown shown host seat tables host' seat' tables'
    makes.wanted makes.made makes.shown refl goes in
    record {
      owner = refl;
      id = place;
      made = made_from_shown does kept makes.reply shown host seat tables host' seat' tables' makes.made makes.shown;
      advances = advances;
      loses = lost ∙ ap (λ (b : Bool). lost_after (lost_of was.state) b shown) (sym mark ∙ marked);
      fewer = fewer;
      within = told_within old new kept shown shown (steps_bound was.state) (steps_bound now.state) advances refl
          within;
      inserts = inserted_within old new kept shown shown (inserts_left was.state) (inserts_left now.state) advances
          refl inserts;
    }
