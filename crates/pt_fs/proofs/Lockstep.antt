-- Two traces from one moment, step beside step: where the next step is a function of the moment, they are one.
use Rattle.std.proofs.Common.{◌≡◌, ◌≢◌, ℕ, ◌==◌, cond, Bool, true, false, List, [], ◌∷◌, ◌∙◌, Option, Some, None}
use Rattle.std.proofs.Common.{refl, ap, sym, subst, slice_get, slice_set, eq-eqb}
use Rattle.std.proofs.lemmas.Bool.{ne_eqb}
use Rattle.std.proofs.lemmas.Option.{same_Some}
use Rattle.pt_host.specs.Relation.{HostRelation}
use Rattle.pt_host.specs.declared.ids.Errno.{Errno}
use Rattle.pt_host.specs.declared.op.KeptHostOp.{KeptHostOp}
use Rattle.pt_host.specs.declared.seat.HostSeat.{HostSeat}
use Rattle.pt_tables.specs.Tables.{Tables, Agree}
use Rattle.pt_tables.specs.declared.event.KeptEvent.{KeptEvent}
use Rattle.pt_frame.specs.Deed.{Deed, Calls, Changes, IsStepOf, kept_deed_of, LacksMemory}
use Rattle.pt_frame.specs.Determined.{IsDeterminedHost}
use Rattle.pt_frame.specs.Grammar.{Grammar}
use Rattle.pt_frame.specs.Past.{Past, past_made}
use Rattle.pt_frame.specs.declared.act.ActReply.{ActReply}
use Rattle.pt_frame.specs.declared.act.KeptAct.{KeptAct}
use Rattle.pt_frame.specs.declared.act.KeptAct.TheVariants as kept
use Rattle.pt_frame.specs.declared.finish.Finish.{Finish}
use Rattle.pt_fs.specs.Jobs.{no_seat}
use Rattle.pt_fs.specs.Trace.{MadeFrom, MadeAt, step_of, steps_by}
use Rattle.pt_fs.specs.declared.trace.TraceStep.{TraceStep}
use Rattle.pt_fs.proofs.InFull.{InFull, next_deed, then_on, cut_off, has_deed, restores_by, one_finish}
use Rattle.pt_fs.proofs.Leads.{whole_step, leads}
use Rattle.pt_fs.proofs.Owners.{Turn, Restores, takes, takes_same, next_turn}

-- no step lacked memory
abbrev pub Found : TraceStep → Type 0
Found step = LacksMemory step.reply → ⊥

kept_event : (event : KeptEvent) (act : KeptAct) → kept_deed_of act ≡ Some (Changes event) → act ≡ kept.Event event
kept_event event (kept.Event other) e = cc
kept_event event (kept.Host op) e = absurd (cc)
kept_event event kept.NoCopy e = absurd (cc)

kept_call : (op : KeptHostOp) (act : KeptAct) → kept_deed_of act ≡ Some (Calls op) → act ≡ kept.Host op
kept_call op (kept.Event other) e = absurd (cc)
kept_call op (kept.Host other) e = cc
kept_call op kept.NoCopy e = absurd (cc)

-- an act that was copied is known by its deed
same_act : (deed : Deed) (act other : KeptAct) → kept_deed_of act ≡ Some deed → kept_deed_of other ≡ Some deed →
    act ≡ other
same_act (Changes event) act other e f = kept_event event act e ∙ sym (kept_event event other f)
same_act (Calls op) act other e f = kept_call op act e ∙ sym (kept_call op other f)

same_step : (step other : TraceStep) → step.job ≡ other.job → step.act ≡ other.act → step.reply ≡ other.reply →
    step ≡ other
same_step step other j a r =
    ap (λ (job : ℕ). let it : TraceStep = record { job = job; act = step.act; reply = step.reply } in it) j
    ∙ ap (λ (act : KeptAct). let it : TraceStep = record { job = other.job; act = act; reply = step.reply } in it) a
    ∙ ap (λ (reply : ActReply).
    let it : TraceStep = record { job = other.job; act = other.act; reply = reply } in it) r

-- where a run stands
pub record Scene (H : Type 0) : Type 0 where
  pub host : H
  pub seats : List (Option HostSeat)
  pub tables : Tables

pub place_same : {H : Type 0} (from to : Scene H) → from.host ≡ to.host → from.seats ≡ to.seats →
    from.tables ≡ to.tables → from ≡ to
place_same from to h s t = λ i. record { host = h i; seats = s i; tables = t i }

-- the step leads from one place to another
abbrev pub Makes : {H : Type 0} → HostRelation H → TraceStep → Scene H → Scene H → Type 0
Makes does step from to = MadeAt does step from.host from.seats from.tables to.host to.seats to.tables

-- two steps lead to one place
record AreOneStep {H : Type 0} (x y : TraceStep) (to to' : Scene H) : Type 0 where
  steps : x ≡ y
  places : to ≡ to'
  agree : Agree to.tables

-- two replies to one deed, from the seat of a job or from none, lead to one place
record Led {H : Type 0} (reply reply' : ActReply) (host host' : H) (seat seat' : Option HostSeat)
    (tables tables' : Tables) : Type 0 where
  replies : reply ≡ reply'
  hosts : host ≡ host'
  seats : seat ≡ seat'
  left : tables ≡ tables'
  agree : Agree tables

led_from : {H : Type 0} (does : HostRelation H) → IsDeterminedHost does →
    (deed : Deed) (reply reply' : ActReply) (host : H) (seat : Option HostSeat) (tables : Tables) (host1 host2 : H)
    (seat1 seat2 : Option HostSeat) (tables1 tables2 : Tables) →
    (LacksMemory reply → ⊥) → (LacksMemory reply' → ⊥) → Agree tables →
    MadeFrom does (Some deed) reply host seat tables host1 seat1 tables1 →
    MadeFrom does (Some deed) reply' host seat tables host2 seat2 tables2 →
    Led reply reply' host1 host2 seat1 seat2 tables1 tables2
led_from does one deed reply reply' host (Some seat) tables host1 host2 (Some seat1)
    (Some seat2) tables1 tables2 w w' agree m n =
    let led = leads does one deed reply reply' host seat tables host1 host2 seat1 seat2 tables1 tables2 w w' agree m
    n in
    record {
      replies = led.replies;
      hosts = led.hosts;
      seats = ap (λ (s : HostSeat). Some s) led.seats;
      left = led.left;
      agree = led.agree;
    }
led_from does one deed reply reply' host None tables host1 host2 None None tables1 tables2 w w' agree m n =
    let led = leads does one deed reply reply' host no_seat tables host1 host2 m.0 n.0 tables1 tables2 w w' agree m.1
    n.1 in
    record { replies = led.replies; hosts = led.hosts; seats = refl; left = led.left; agree = led.agree }
led_from does one deed reply reply' host (Some seat) tables host1 host2
    (Some seat1) None tables1 tables2 w w' agree m n = absurd n
led_from does one deed reply reply' host (Some seat) tables host1 host2 None seat2 tables1 tables2 w w' agree m n =
    absurd m
led_from does one deed reply reply' host None tables host1 host2 None (Some seat2) tables1 tables2 w w' agree m n =
    absurd n
led_from does one deed reply reply' host None tables host1 host2 (Some seat1) seat2 tables1 tables2 w w' agree m n =
    absurd m

-- two steps of one job by one deed
one_step : {H : Type 0} (does : HostRelation H) → IsDeterminedHost does →
    (deed : Deed) (x y : TraceStep) (from to to' : Scene H) → x.job ≡ y.job → Found x → Found y → Agree from.tables →
    IsStepOf deed (kept_deed_of x.act) x.reply → IsStepOf deed (kept_deed_of y.act) y.reply → Makes does x from to →
    Makes does y from to' → AreOneStep x y to to'
one_step {H} does one deed x y from to to' j w w' agree s s' m n =
    let a = whole_step deed (kept_deed_of x.act) x.reply w s in
    let b = whole_step deed (kept_deed_of y.act) y.reply w' s' in
    let seat : n.0 ≡ m.0 = same_Some n.0 m.0 (sym n.2 ∙ ap (λ (k : ℕ). slice_get from.seats k) (sym j) ∙ m.2) in
    let here : MadeFrom does (Some deed) x.reply from.host m.0 from.tables to.host m.1 to.tables =
    subst (λ (d : Option Deed). MadeFrom does d x.reply from.host m.0 from.tables to.host m.1 to.tables) a m.4 in
    let there : MadeFrom does (Some deed) y.reply from.host m.0 from.tables to'.host n.1 to'.tables =
    subst (λ (z : Option HostSeat).
    MadeFrom does (Some deed) y.reply from.host z from.tables to'.host n.1 to'.tables) seat
    (subst (λ (d : Option Deed).
    MadeFrom does d y.reply from.host n.0 from.tables to'.host n.1 to'.tables) b n.4) in
    let led = led_from does one deed x.reply y.reply from.host m.0 from.tables to.host to'.host m.1 n.1 to.tables
    to'.tables w w' agree here there in
    let sat : to.seats ≡ to'.seats =
    m.3 ∙ ap (λ (k : ℕ). slice_set from.seats k m.1) j
    ∙ ap (λ (z : Option HostSeat). slice_set from.seats y.job z) led.seats ∙ sym n.3 in
    record {
      steps = same_step x y j (same_act deed x.act y.act a b) led.replies;
      places = place_same to to' led.hosts sat led.left;
      agree = led.agree;
    }

-- what is left of each job after a step
abbrev pub left_after : TraceStep → (ℕ → Grammar) → ℕ → Grammar
left_after step left j = cond (step.job == j) (then_on step.reply (left j)) (left j)

pub left_same : (step : TraceStep) (left : ℕ → Grammar) (j : ℕ) → step.job ≡ j →
    left_after step left j ≡ then_on step.reply (left j)
left_same step left j e = rw (eq-eqb step.job j e) refl

pub left_other : (step : TraceStep) (left : ℕ → Grammar) (j : ℕ) → step.job ≢ j → left_after step left j ≡ left j
left_other step left j ne = rw (ne_eqb step.job j ne) refl

pub first_same : (step : TraceStep) (trace : List TraceStep) (j : ℕ) → step.job ≡ j →
    steps_by j (step ∷ trace) ≡ step_of step ∷ steps_by j trace
first_same step trace j e = rw (eq-eqb step.job j e) refl

pub first_other : (step : TraceStep) (trace : List TraceStep) (j : ℕ) → step.job ≢ j →
    steps_by j (step ∷ trace) ≡ steps_by j trace
first_other step trace j ne = rw (ne_eqb step.job j ne) refl

-- All that determines the rest of a run: where it stands, what each job may still do and did to its seat so far,
-- whether a seat was lost, and whose turn it is.
pub record Moment (H : Type 0) : Type 0 where
  pub place : Scene H
  pub left : ℕ → Grammar
  pub pasts : ℕ → Past
  pub lost : Bool
  pub turn : Turn

-- which jobs have a step to take
abbrev pub wants : (ℕ → Grammar) → ℕ → Bool
wants left j = has_deed (next_deed (left j))

-- and which one that restores its seat
abbrev pub restores_next : (ℕ → Grammar) → (ℕ → Past) → ℕ → Bool
restores_next left pasts j = restores_by (pasts j).worn (next_deed (left j))

abbrev pub next_of : {H : Type 0} → ℕ → Moment H → Option (ℕ × Turn)
next_of jobs now = next_turn (wants now.left) (restores_next now.left now.pasts) jobs now.turn

abbrev pub pasts_after : TraceStep → (ℕ → Past) → ℕ → Past
pasts_after step pasts j =
    cond (step.job == j) (past_made (pasts j) (kept_deed_of step.act) step.reply) (pasts j)

-- all jobs are cut but the one that lost its seat
abbrev pub cut_others : (ℕ → HostSeat) → ℕ → (ℕ → Grammar) → ℕ → Grammar
cut_others starts job left j = cond (job == j) (left j) (cut_off (starts j) (left j))

abbrev pub is_first_loss : Bool → Option Errno → Bool
is_first_loss true lost = false
is_first_loss false None = false
is_first_loss false (Some errno) = true

-- the step loses its job's seat, and none was lost before
abbrev pub loses : {H : Type 0} → Moment H → TraceStep → Bool
loses now step = is_first_loss now.lost (past_made (now.pasts step.job) (kept_deed_of step.act) step.reply).lost

-- Where a step led there: whose turn it is then, unless it lost a seat, from where all jobs but that one are cut.
abbrev pub moment_after :
    {H : Type 0} →
    (starts : ℕ → HostSeat) →
    (now : Moment H) →
    (step : TraceStep) →
    (turn : Turn) →
    (loss : Bool) →
    (place : Scene H) →
    Moment H
moment_after starts now step turn loss place = record {
  place = place;
  left = cond loss (cut_others starts step.job (left_after step now.left)) (left_after step now.left);
  pasts = pasts_after step now.pasts;
  lost = cond loss true now.lost;
  turn = cond loss (Restores step.job) turn;
}

-- the step is that of whose turn it is, by what that job does next
pub record IsNext {H : Type 0} (does : HostRelation H) (jobs : ℕ) (now : Moment H) (step : TraceStep) (turn : Turn)
    (loss : Bool) (place : Scene H) : Type 0 where
  pub deed : Deed
  pub its_turn : next_of jobs now ≡ takes step.job turn
  pub is_wanted : next_deed (now.left step.job) ≡ Some deed
  pub by : IsStepOf deed (kept_deed_of step.act) step.reply
  pub found : Found step
  pub makes : Makes does step now.place place
  pub is_loss : loss ≡ loses now step

-- each step is the next one of its moment, and at the last moment there is none
abbrev pub IsLed :
    {H : Type 0} →
    (does : HostRelation H) →
    (starts : ℕ → HostSeat) →
    (jobs : ℕ) →
    (ends : ℕ → Finish) →
    (to : Scene H) →
    (trace : List TraceStep) →
    (now : Moment H) →
    Type 0
IsLed does starts jobs ends to [] now =
    (next_of jobs now ≡ None) × (to ≡ now.place) × ((j : ℕ) → InFull (now.left j) [] (ends j))
IsLed {H} does starts jobs ends to (step ∷ trace) now =
    (turn : Turn) × (loss : Bool) × (place : Scene H) × IsNext does jobs now step turn loss place
    × IsLed does starts jobs ends to trace (moment_after starts now step turn loss place)

-- two runs are one: in their traces, in how each job ends, and in where they lead
pub record AreAlike {H : Type 0} (trace trace' : List TraceStep) (ends ends' : ℕ → Finish)
    (to to' : Scene H) : Type 0 where
  pub traces : trace ≡ trace'
  pub ended : (j : ℕ) → ends j ≡ ends' j
  pub places : to ≡ to'

-- from one moment one run is led
pub one_led : {H : Type 0} (does : HostRelation H) → IsDeterminedHost does → (starts : ℕ → HostSeat) (jobs : ℕ)
    (ends ends' : ℕ → Finish) (to to' : Scene H) (trace trace' : List TraceStep) (now : Moment H) →
    Agree now.place.tables → IsLed does starts jobs ends to trace now → IsLed does starts jobs ends' to' trace' now →
    AreAlike trace trace' ends ends' to to'
one_led does one starts jobs ends ends' to to' [] [] now agree a b = record {
  traces = refl;
  ended = λ j. one_finish (now.left j) (ends j) (ends' j) (a.2 j) (b.2 j);
  places = a.1 ∙ sym b.1;
}
one_led does one starts jobs ends ends' to to' [] (y ∷ trace') now agree a b =
    let clash : None ≡ takes y.job b.0 = sym a.0 ∙ b.3.its_turn in
    absurd (cc)
one_led does one starts jobs ends ends' to to' (x ∷ trace) [] now agree a b =
    let clash : None ≡ takes x.job a.0 = sym b.0 ∙ a.3.its_turn in
    absurd (cc)
one_led {H} does one starts jobs ends ends' to to' (x ∷ trace) (y ∷ trace') now agree a b =
    let here = a.3 in
    let there = b.3 in
    let both = takes_same x.job y.job a.0 b.0 (sym here.its_turn ∙ there.its_turn) in
    let job : x.job ≡ y.job = both.0 in
    let deed : there.deed ≡ here.deed =
    same_Some there.deed here.deed (sym there.is_wanted ∙ ap (λ (k : ℕ). next_deed (now.left k)) (sym job)
    ∙ here.is_wanted) in
    let by : IsStepOf here.deed (kept_deed_of y.act) y.reply =
    subst (λ (d : Deed). IsStepOf d (kept_deed_of y.act) y.reply) deed there.by in
    let same = one_step does one here.deed x y now.place a.2 b.2 job here.found there.found agree here.by by
    here.makes there.makes in
    let loss : b.1 ≡ a.1 =
    there.is_loss ∙ ap (λ (step : TraceStep). loses now step) (sym same.steps) ∙ sym here.is_loss in
    let by_step : IsLed does starts jobs ends' to' trace' (moment_after starts now x b.0 b.1 b.2) =
    subst (λ (step : TraceStep). IsLed does starts jobs ends' to' trace' (moment_after starts now step b.0 b.1 b.2))
    (sym same.steps) b.4 in
    let by_turn : IsLed does starts jobs ends' to' trace' (moment_after starts now x a.0 b.1 b.2) =
    subst (λ (t : Turn). IsLed does starts jobs ends' to' trace' (moment_after starts now x t b.1 b.2))
    (sym both.1) by_step in
    let by_loss : IsLed does starts jobs ends' to' trace' (moment_after starts now x a.0 a.1 b.2) =
    subst (λ (l : Bool). IsLed does starts jobs ends' to' trace' (moment_after starts now x a.0 l b.2)) loss by_turn
    in
    let by_place : IsLed does starts jobs ends' to' trace' (moment_after starts now x a.0 a.1 a.2) =
    subst (λ (p : Scene H). IsLed does starts jobs ends' to' trace' (moment_after starts now x a.0 a.1 p))
    (sym same.places) by_loss in
    let more = one_led does one starts jobs ends ends' to to' trace trace'
    (moment_after starts now x a.0 a.1 a.2) same.agree a.4 by_place in
    record {
      traces = ap (λ (s : TraceStep). s ∷ trace) same.steps ∙ ap (λ (l : List TraceStep). y ∷ l) more.traces;
      ended = more.ended;
      places = more.places;
    }
