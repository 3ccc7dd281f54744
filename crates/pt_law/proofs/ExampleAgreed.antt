-- Two jobs begin the session anew, one after the other, and decide different things. Once the root of the later is
-- inserted, what that one decided is agreed on, and before that nothing is; what the other decided never is.
use Rattle.std.proofs.Common.{◌≡◌, inl, inr, ℕ, zero, suc, List, [], ◌∷◌, Option, None, Some, true, false}
use Rattle.std.proofs.Common.{◌∙◌, refl, ap, sym, arith}
use Rattle.pt_host.specs.declared.ids.ObjIds.{ObjIds}
use Rattle.pt_tables.specs.Change.{Change}
use Rattle.pt_tables.specs.Happens.{agreed, new_row, with_row}
use Rattle.pt_tables.specs.Rows.{AllDie.{none as none_dies}}
use Rattle.pt_tables.specs.Tables.{Tables, empty_tables, nothing_agreed}
use Rattle.pt_tables.specs.declared.form.Negotiated.{Negotiated}
use Rattle.pt_tables.specs.declared.form.RowForm.{RowForm}
use Rattle.pt_tables.specs.declared.event.KeptEvent.TheVariants as change
use Rattle.pt_tables.specs.declared.reply.EventRefusal.TheVariants.{Overtaken}
use Rattle.pt_tables.specs.declared.reply.EventReply.TheVariants as event
use Rattle.pt_frame.specs.Deed.{Changes}
use Rattle.pt_frame.specs.declared.act.ActReply.TheVariants.{Event}
use Rattle.pt_law.specs.Agreed.{agreed_after}
use Rattle.pt_law.specs.World.{made, Turn, turn_by, TablesRun}

-- job 0 decides that the guest keeps what it writes, and job 1 that it tells the group of who asks
abbrev writes_kept : Negotiated
writes_kept = record nothing_agreed { writeback = true }

abbrev group_told : Negotiated
group_told = record nothing_agreed { sup_group = true }

abbrev decided : ℕ → Option Negotiated
decided zero = Some writes_kept
decided (suc zero) = Some group_told
decided job = None

-- job 1 begins the session, and then job 0 does
abbrev clearings : List Turn
clearings =
    turn_by 1 (made (Changes change.Clear) (Event (event.Cleared 1 0)))
    ∷ turn_by 0 (made (Changes change.Clear) (Event (event.Cleared 2 0))) ∷ []

abbrev fresh : Tables
fresh = empty_tables (5 ∷ [])

abbrev at_era : ℕ → Tables
at_era era = record fresh { era = era; negotiated = nothing_agreed }

module _ (form : RowForm) (ids : ObjIds) (mode : ℕ) where
  abbrev root : ℕ → Negotiated → Change
  root era said = change.InsertRoot (record {
    era = era;
    form = form;
    ids = ids;
    mode = mode;
    negotiated = Some said;
  })

  -- each inserts its root, and job 1 is overtaken
  abbrev turns : List Turn
  turns =
      turn_by 1 (made (Changes change.Clear) (Event (event.Cleared 1 0)))
      ∷ turn_by 0 (made (Changes change.Clear) (Event (event.Cleared 2 0)))
      ∷ turn_by 0 (made (Changes (root 2 writes_kept)) (Event (event.Inserted 1)))
      ∷ turn_by 1 (made (Changes (root 1 group_told)) (Event (event.Refused Overtaken))) ∷ []

  abbrev rooted : Tables
  rooted = agreed (Some writes_kept) (with_row (at_era 2) (new_row (at_era 2) 1 form ids mode 0 2))

  pub runs : TablesRun fresh turns rooted
  runs = (
    at_era 1,
    inl (omega arith, (0, refl, (fresh, fresh, 0, 0, none_dies tt, none_dies tt, refl, refl))),
    (
      at_era 2,
      inl (omega arith, (0, refl, (at_era 1, at_era 1, 0, 0, none_dies tt, none_dies tt, refl, refl))),
      (
        rooted,
        inl (refl, inl (tt, inl (omega arith, inl (refl, refl)))),
        (rooted, inr ((λ e. absurd (omega (arith, e))), (refl, refl)), refl),
      ),
    ),
  )

  -- what job 0 decided is agreed on
  pub is_agreed : rooted.negotiated ≡ agreed_after decided turns
  is_agreed = refl

  -- and tables are none of this run that have what job 1 decided
  pub is_no_other : (now : Tables) → now.negotiated ≡ group_told → now.negotiated ≡ agreed_after decided turns → ⊥
  is_no_other now other is = let no : true ≡ false = ap (λ (n : Negotiated). n.sup_group) (sym other ∙ is) in cc

-- before the root nothing is
pub nothing_yet : (at_era 2).negotiated ≡ agreed_after decided clearings
nothing_yet = refl
