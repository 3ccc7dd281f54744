-- Where two steps of one deed lead from one place, unless memory runs out.
use Rattle.std.proofs.Common.{◌≡◌, ◌≢◌, ◌∙◌, Option, Some, None, refl, sym, subst, ap}
use Rattle.pt_host.specs.Call.{Call}
use Rattle.pt_host.specs.declared.reply.HostReply.{HostReply}
use Rattle.pt_host.specs.declared.reply.HostReply.TheVariants as host
use Rattle.pt_host.specs.declared.seat.HostSeat.{HostSeat}
use Rattle.pt_tables.specs.Change.{Change}
use Rattle.pt_tables.specs.Tables.{Tables, Agree}
use Rattle.pt_tables.specs.Happens.{Happens}
use Rattle.pt_tables.specs.declared.reply.EventRefusal.TheVariants as refused
use Rattle.pt_tables.specs.declared.reply.EventReply.{EventReply}
use Rattle.pt_tables.specs.declared.reply.EventReply.TheVariants as event
use Rattle.pt_tables.proofs.Determined.{determined as event_determined}
use Rattle.pt_tables.proofs.Effects.{keeps_agree}
use Rattle.pt_frame.specs.Deed.{Deed, Calls, Changes, IsStepOf, LacksMemory}
use Rattle.pt_frame.specs.Determined.{IsDeterminedHost}
use Rattle.pt_host.specs.Relation.{HostRelation}
use Rattle.pt_frame.specs.Made.{Made}
use Rattle.pt_frame.specs.declared.act.ActReply.{ActReply}
use Rattle.pt_frame.specs.declared.act.ActReply.TheVariants as told

-- a step that found memory was made, and of this deed
pub whole_step : (deed : Deed) (made : Option Deed) (reply : ActReply) → (LacksMemory reply → ⊥) →
    IsStepOf deed made reply → made ≡ Some deed
whole_step deed (Some same) told.NoCopy w h = absurd (w refl)
whole_step deed (Some same) (told.Event reply) w h = ap (λ (d : Deed). Some d) h
whole_step deed (Some same) (told.Host reply) w h = ap (λ (d : Deed). Some d) h
whole_step deed None told.NoCopy w h = absurd (w refl)
whole_step deed None (told.Event reply) w h = absurd h
whole_step deed None (told.Host reply) w h = absurd h

no_want : (reply : EventReply) → (LacksMemory (told.Event reply) → ⊥) → reply ≢ event.Refused refused.Memory
no_want reply w e = w (subst (λ (r : EventReply). LacksMemory (told.Event r)) (sym e) refl)

no_host_want : (reply : HostReply) → (LacksMemory (told.Host reply) → ⊥) → reply ≢ host.NoMemory
no_host_want reply w e = w (subst (λ (r : HostReply). LacksMemory (told.Host r)) (sym e) refl)

-- where two steps of one deed lead from one place
pub record Leads {H : Type 0} (reply reply' : ActReply) (host host' : H) (seat seat' : HostSeat)
    (tables tables' : Tables) : Type 0 where
  pub replies : reply ≡ reply'
  pub hosts : host ≡ host'
  pub seats : seat ≡ seat'
  pub left : tables ≡ tables'
  pub agree : Agree tables

made_event : {H : Type 0} (does : HostRelation H) (asked : Change) (reply : ActReply) (host : H) (seat : HostSeat)
    (tables : Tables) (host' : H) (seat' : HostSeat) (tables' : Tables) →
    Made does (Some (Changes asked)) reply host seat tables host' seat' tables' →
    (back : EventReply) × (reply ≡ told.Event back) × Happens tables asked back tables' × (host' ≡ host)
    × (seat' ≡ seat)
made_event does asked (told.Event back) host seat tables host' seat' tables' m = (back, refl, m.0, m.1, m.2)
made_event does asked _ host seat tables host' seat' tables' m = absurd m

made_call : {H : Type 0} (does : HostRelation H) (asked : Call) (reply : ActReply) (host : H) (seat : HostSeat)
    (tables : Tables) (host' : H) (seat' : HostSeat) (tables' : Tables) → (LacksMemory reply → ⊥) →
    Made does (Some (Calls asked)) reply host seat tables host' seat' tables' →
    (back : HostReply) × (reply ≡ told.Host back) × does host seat asked back host' seat' × (tables' ≡ tables)
made_call does asked (told.Host back) host seat tables host' seat' tables' w m = (back, refl, m.0, m.1)
made_call does asked (told.Event back) host seat tables host' seat' tables' w m = absurd m
made_call does asked told.NoCopy host seat tables host' seat' tables' w m = absurd (w refl)

pub leads : {H : Type 0} (does : HostRelation H) → IsDeterminedHost does →
    (deed : Deed) (reply reply' : ActReply) (host : H) (seat : HostSeat) (tables : Tables) (host1 host2 : H)
    (seat1 seat2 : HostSeat) (tables1 tables2 : Tables) →
    (LacksMemory reply → ⊥) → (LacksMemory reply' → ⊥) → Agree tables →
    Made does (Some deed) reply host seat tables host1 seat1 tables1 →
    Made does (Some deed) reply' host seat tables host2 seat2 tables2 →
    Leads reply reply' host1 host2 seat1 seat2 tables1 tables2
leads does one (Changes asked) reply reply' host seat tables host1 host2 seat1 seat2 tables1 tables2 w w' agree m m' =
    let a = made_event does asked reply host seat tables host1 seat1 tables1 m in
    let b = made_event does asked reply' host seat tables host2 seat2 tables2 m' in
    let wa = no_want a.0 (λ l. w (subst LacksMemory (sym a.1) l)) in
    let wb = no_want b.0 (λ l. w' (subst LacksMemory (sym b.1) l)) in
    let same = event_determined tables tables1 tables2 asked a.0 b.0 agree wa wb a.2 b.2 in
    record {
      replies = a.1 ∙ ap (λ (r : EventReply). told.Event r) same.0 ∙ sym b.1;
      hosts = a.3 ∙ sym b.3;
      seats = a.4 ∙ sym b.4;
      left = same.1;
      agree = keeps_agree tables tables1 asked a.0 a.2 agree;
    }
leads does one (Calls asked) reply reply' host seat tables host1 host2 seat1 seat2 tables1 tables2 w w' agree m m' =
    let a = made_call does asked reply host seat tables host1 seat1 tables1 w m in
    let b = made_call does asked reply' host seat tables host2 seat2 tables2 w' m' in
    let wa = no_host_want a.0 (λ l. w (subst LacksMemory (sym a.1) l)) in
    let wb = no_host_want b.0 (λ l. w' (subst LacksMemory (sym b.1) l)) in
    let same = one host host1 host2 seat seat1 seat2 asked a.0 b.0 wa wb a.2 b.2 in
    record {
      replies = a.1 ∙ ap (λ (r : HostReply). told.Host r) same.0 ∙ sym b.1;
      hosts = same.1;
      seats = same.2;
      left = a.3 ∙ sym b.3;
      agree = subst Agree (sym a.3) agree;
    }
