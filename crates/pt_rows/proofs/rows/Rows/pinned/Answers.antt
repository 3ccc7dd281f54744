use Rattle.std.proofs.Common.{sym, ◌∙◌}
use Rattle.pt_rows.proofs.Stores.{pin_missed, pin_absent, pin_found}
use Rattle.pt_rows.proofs.rows.Rows.pinned.Goals as goal

pub returns-in-None : goal.returns-in-None
returns-in-None g c = pin_missed g.R.Pinned.keyed _ _ c.self.invariant _ c.self.view_is c.args.serial (sym
    c.row_of.ensures ∙ c.in-None.is)

pub returns-then-pins-eq0 : goal.returns-then-pins-eq0
returns-then-pins-eq0 g c =
    pin_absent g.R.Pinned.keyed _ _ c.self.invariant _ c.self.view_is c.args.serial _ (sym c.row_of.ensures ∙
    c.in-Some.is) (sym c.pins.ensures ∙ c.if-pins-eq0.true)

pub returns-else-pins-eq0 : goal.returns-else-pins-eq0
returns-else-pins-eq0 g c =
    pin_found g.R.Pinned.keyed _ _ c.self.invariant _ c.self.view_is c.args.serial _ (sym c.row_of.ensures ∙
    c.in-Some.is)
    (λ none. c.if-pins-eq0.false (c.pins.ensures ∙ none))
