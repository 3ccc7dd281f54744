-- Believed. The tables and the event alone determine what it is answered and what it leaves unless memory runs out.
use Rattle.std.specs.Prelude.{◌≡◌, ◌≢◌}
use Rattle.pt_tables.specs.Change.{Change}
use Rattle.pt_tables.specs.Tables.{Tables, Agree}
use Rattle.pt_tables.specs.Happens.{Happens}
use Rattle.pt_tables.specs.declared.reply.EventRefusal.TheVariants.{Memory}
use Rattle.pt_tables.specs.declared.reply.EventReply.{EventReply}
use Rattle.pt_tables.specs.declared.reply.EventReply.TheVariants.{Refused}

-- two times that an event happens from the same tables are alike
abbrev pub EventsAreDetermined : Type 0
EventsAreDetermined = (tables after after' : Tables) (asked : Change) (told told' : EventReply) → Agree tables →
    told ≢ Refused Memory → told' ≢ Refused Memory → Happens tables asked told after →
    Happens tables asked told' after' → (told ≡ told') × (after ≡ after')
