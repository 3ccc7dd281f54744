use Rattle.std.proofs.Common.{sym, ◌∙◌}
use Rattle.pt_maps.proofs.Apart.{accepted_more}
use Rattle.pt_maps.proofs.id_map.BothStarts.add.Goals as goal

pub returns-clause-ok : goal.returns-clause-ok
returns-clause-ok c = record {
  accepted = accepted_more _ _ c.requires.accepted (sym c.refusal.ensures ∙ c.in_default.is);
  to_host = c.in_ok-put_start.ensures;
  to_guest = c.in_ok-put_start-2.ensures;
}
