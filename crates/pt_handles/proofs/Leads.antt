-- Proof. Calls that were made one after another, and others behind them.
use Rattle.std.proofs.Common.{List, [], ◌∷◌, ◌++◌, subst}
use Rattle.pt_host.specs.Relation.{HostRelation}
use Rattle.pt_host.specs.declared.seat.HostSeat.{HostSeat}
use Rattle.pt_handles.specs.Calls.{CallMade, CallsLead}

module _ {H : Type 0} (does : HostRelation H) where
  pub leads_both : (made later : List CallMade) (host : H) (seat : HostSeat) (mid : H) (between : HostSeat) (host' : H)
      (seat' : HostSeat) → CallsLead does made host seat mid between → CallsLead does later mid between host' seat' →
      CallsLead does (made ++ later) host seat host' seat'
  leads_both [] later host seat mid between host' seat' one two =
      subst (λ (h : H). CallsLead does later h seat host' seat') one.0
      (subst (λ (s : HostSeat). CallsLead does later mid s host' seat') one.1 two)
  leads_both (first ∷ made) later host seat mid between host' seat' one two =
      (one.0, one.1, one.2, leads_both made later one.0 one.1 mid between host' seat' one.3 two)
