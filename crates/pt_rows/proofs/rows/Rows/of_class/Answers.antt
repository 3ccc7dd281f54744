use Rattle.std.proofs.Common.{◌∙◌}
use Rattle.std.proofs.lemmas.List.Sums.{count_by-le-length}
use Rattle.std.specs.Map.{values_of}
use Rattle.pt_rows.proofs.Classes.{class_seen}
use Rattle.pt_rows.proofs.rows.Rows.of_class.Goals as goal

pub returns-clause-same : goal.returns-clause-same
returns-clause-same g c =
    c.class_count.ensures
    ∙ class_seen g.R.Pinned.keyed _ (values_of c.self.inside.rows.entries) _ c.self.view_is
