use Rattle.std.proofs.Common.{◌≡◌, Some, None, MatchOption, List, ap, sym, subst}
use Rattle.pt_tables.specs.Tables.{Row, HasIds}
use Rattle.pt_rows.specs.Rows.{IsAmong, NoneOf}
use Rattle.pt_tables.specs.Index.{ObjectKey, by_object}
use Rattle.pt_tables.specs.Store.{Stored}
use Rattle.pt_tables.proofs.Finding.{object_missed, object_found}
use Rattle.pt_tables.proofs.store.RowStore.object.Goals as goal

pub returns-in-None : goal.returns-in-None
returns-in-None c =
    subst (λ (rows : List Row). NoneOf (HasIds c.args.ids) rows) (ap (λ (stored : Stored). stored.rows)
    c.self.view_is)
    (object_missed _ _ c.self.invariant.objects c.args.ids
    (subst (λ (key : ObjectKey). by_object c.self.inside.objects key ≡ None) c.object_key.ensures
    (sym c.in-None.ensures.value)))

pub returns-in-Some : goal.returns-in-Some
returns-in-Some c =
    subst (λ (rows : List Row). MatchOption c.at.result (NoneOf (HasIds c.args.ids) rows)
    (λ row. HasIds c.args.ids row × IsAmong row rows)) (ap (λ (stored : Stored). stored.rows) c.self.view_is)
    (object_found _ _ c.self.invariant.objects c.args.ids _ _
    (subst (λ (key : ObjectKey). by_object c.self.inside.objects key ≡ Some c.in-Some.serial.now) c.object_key.ensures
    (sym c.in-Some.ensures.value)) c.at.ensures.found c.at.ensures.alone)
