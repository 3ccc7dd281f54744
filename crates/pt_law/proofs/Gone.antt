-- A row that has ended never comes back.
use Rattle.std.proofs.Common.{◌≡◌, ℕ, List, [], ◌∷◌, sym, ◌∙◌, arith, Option, Some, None}
use Rattle.pt_tables.specs.Tables.{Tables}
use Rattle.pt_tables.specs.declared.row.Row.{Row}
use Rattle.pt_tables.specs.declared.row.HandleRow.{HandleRow}
use Rattle.pt_tables.specs.Effect.{Effect}
use Rattle.pt_tables.specs.Effect.{Effect.{nothing, counted, changed, ended, added, drawn, handle_changed}}
use Rattle.pt_tables.specs.Effect.{Effect.{handle_ended, handle_added, begun, shut}}
use Rattle.pt_tables.specs.Effect.{Effects, Effects.{none, more}}
use Rattle.pt_tables.proofs.Effects.{effects}
use Rattle.pt_frame.specs.Deed.{Deed, Calls, Changes}
use Rattle.pt_frame.specs.declared.act.ActReply.{ActReply}
use Rattle.pt_frame.specs.declared.act.ActReply.TheVariants.{Event}
use Rattle.pt_law.specs.World.{Turn, TablesGo, TablesRun}
use Rattle.pt_law.specs.Laws.{HasEnded}
use Rattle.pt_law.proofs.Flows.{called, unmade}
use Rattle.pt_law.proofs.Lists.{each_replaces, each_takes}

-- no row of a number or a handle has the serial
abbrev NotOf : ℕ → Row → Type 0
NotOf serial row = row.serial ≡ serial → ⊥

abbrev NotOfHandle : ℕ → HandleRow → Type 0
NotOfHandle serial row = row.serial ≡ serial → ⊥

gone : (t after : Tables) (serial : ℕ) → Effect t after → HasEnded t serial → HasEnded after serial
gone t after serial (nothing e) h = rw e h
gone t after serial (counted slots next_number few later e) h =
    rw e (record { drawn = h.drawn; number = h.number; handle = h.handle })
gone t after serial (changed was now rows r later sound e) h =
    rw e (record {
      drawn = h.drawn;
      number = each_replaces (NotOf serial) r (λ apart same. apart (sym later.serial ∙ same)) h.number;
      handle = h.handle;
    })
gone t after serial (ended row rows r e) h =
    rw e (record { drawn = h.drawn; number = each_takes (NotOf serial) r h.number; handle = h.handle })
gone t after serial (added row negotiated new e) h =
    let was = h.drawn in
    let first = new.serial in
    rw e (record {
      drawn = omega arith;
      number = ((λ same. omega (arith, was, first, same)), h.number);
      handle = h.handle;
    })
gone t after serial (drawn next_handle later e) h =
    rw e (record { drawn = h.drawn; number = h.number; handle = h.handle })
gone t after serial (handle_changed was now handles r later sound e) h =
    rw e (record {
      drawn = h.drawn;
      number = h.number;
      handle = each_replaces (NotOfHandle serial) r (λ apart same. apart (sym later.serial ∙ same)) h.handle;
    })
gone t after serial (handle_ended row handles r e) h =
    rw e (record { drawn = h.drawn; number = h.number; handle = each_takes (NotOfHandle serial) r h.handle })
gone t after serial (handle_added row new e) h =
    let was = h.drawn in
    let first = new.serial in
    rw e (record {
      drawn = omega arith;
      number = h.number;
      handle = ((λ same. omega (arith, was, first, same)), h.handle);
    })
gone t after serial (begun era negotiated later e) h =
    rw e (record { drawn = h.drawn; number = h.number; handle = h.handle })
gone t after serial (shut first closing is e) h =
    rw e (record { drawn = h.drawn; number = h.number; handle = h.handle })

gone_by : (t after : Tables) (serial : ℕ) → Effects t after → HasEnded t serial → HasEnded after serial
gone_by t after serial none h = h
gone_by t after serial (more {mid = mid} e es) h = gone_by mid after serial es (gone t mid serial e h)

gone_step : (t : Tables) (deed : Option Deed) (told : ActReply) (after : Tables) (serial : ℕ) →
    TablesGo t deed told after → HasEnded t serial → HasEnded after serial
gone_step t None told after serial g h = rw (unmade t told after g) h
gone_step t (Some (Calls asked)) told after serial g h = rw (called t asked told after g) h
gone_step t (Some (Changes asked)) (Event reply) after serial g h =
    gone_by t after serial (effects t after asked reply g) h
gone_step t (Some (Changes asked)) told after serial g h = absurd g

pub ended_law : (turns : List Turn) (start now : Tables) (serial : ℕ) → TablesRun start turns now →
    HasEnded start serial → HasEnded now serial
ended_law [] start now serial r h = rw r h
ended_law (turn ∷ turns) start now serial r h =
    ended_law turns r.0 now serial r.2 (gone_step start turn.step.deed turn.step.reply r.0 serial r.1 h)
