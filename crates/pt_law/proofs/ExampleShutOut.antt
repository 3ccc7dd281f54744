-- A job begins, and then another clears the session. What the first asks for in its era is refused as overtaken, and
-- no number is given to it.
use Rattle.std.proofs.Common.{inl, inr, ℕ, List, [], ◌∷◌, refl, arith, None, Some}
use Rattle.pt_host.specs.declared.ids.ObjIds.{ObjIds}
use Rattle.pt_tables.specs.Change.{Change}
use Rattle.pt_tables.specs.Rows.{AllDie.{none as none_dies}}
use Rattle.pt_tables.proofs.Cases.{cases}
use Rattle.pt_tables.specs.Tables.{Tables, empty_tables, nothing_agreed}
use Rattle.pt_tables.specs.declared.event.KeptEvent.TheVariants as change
use Rattle.pt_tables.specs.declared.reply.EventRefusal.TheVariants.{Overtaken}
use Rattle.pt_tables.specs.declared.reply.GivenNumber.{GivenNumber}
use Rattle.pt_tables.specs.declared.reply.EventReply.TheVariants as event
use Rattle.pt_frame.specs.Deed.{Changes}
use Rattle.pt_frame.specs.declared.act.ActReply.TheVariants.{Event}
use Rattle.pt_law.specs.World.{made, Turn, turn_by, TablesGo, TablesRun}
use Rattle.pt_law.specs.Laws.{IsOvertaken}

abbrev fresh : Tables
fresh = empty_tables (5 ∷ [])

abbrev cleared : Tables
cleared = record fresh { era = 1; negotiated = nothing_agreed }

abbrev turns : List Turn
turns =
    turn_by 1 (made (Changes change.Begin) (Event (event.Began 0 nothing_agreed)))
    ∷ turn_by 0 (made (Changes change.Clear) (Event (event.Cleared 1 0))) ∷ []

pub runs : TablesRun fresh turns cleared
runs = (
  fresh,
  (refl, refl),
  (
    cleared,
    inl (omega arith, (0, refl, (fresh, fresh, 0, 0, none_dies tt, none_dies tt, refl, refl))),
    refl,
  ),
)

pub overtaken : IsOvertaken 1 turns
overtaken = record {
  before = turn_by 1 (made (Changes change.Begin) (Event (event.Began 0 nothing_agreed))) ∷ [];
  clearing = turn_by 0 (made (Changes change.Clear) (Event (event.Cleared 1 0)));
  later = [];
  in_turn = refl;
  begun = λ e. absurd (cc);
  other = λ e. absurd (omega (arith, e));
  era = 1;
  closings = 0;
  cleared = refl;
}

abbrev claims : ObjIds → Change
claims ids = change.Claim (record { era = 0; handle = None; ids = ids })

-- it may be told so
pub is_told : (ids : ObjIds) →
    TablesGo cleared (Some (Changes (claims ids))) (Event (event.Refused Overtaken)) cleared
is_told ids = inr ((λ e. absurd (omega (arith, e))), (refl, refl))

-- and may not be given a number
pub is_given_none : (ids : ObjIds) (given : GivenNumber) (next : Tables) →
    TablesGo cleared (Some (Changes (claims ids))) (Event (event.Claimed given)) next → ⊥
is_given_none ids given next g =
    let e = (cases cleared next (claims ids) (event.Claimed given) g).0 in absurd (omega (arith, e))
