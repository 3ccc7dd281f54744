use Rattle.pt_law.proofs.runs.every_told_run.Goals as goal
use Rattle.pt_law.proofs.Interleaving.{tables_run}
use Rattle.pt_law.proofs.Cuts.{runs_split}
use Rattle.pt_law.proofs.Laws.{distinct_law, object_law, handles_law, kept_law, leaves_law}
use Rattle.pt_law.proofs.Hosts.{run_told}
use Rattle.pt_law.proofs.Next.{named_law}
use Rattle.pt_law.proofs.Origins.{origins_law}
use Rattle.pt_law.proofs.Reopened.{reopened_law}

pub returns-clause-tables : goal.returns-clause-tables
returns-clause-tables c = tables_run

pub returns-clause-distinct : goal.returns-clause-distinct
returns-clause-distinct c = distinct_law

pub returns-clause-objects : goal.returns-clause-objects
returns-clause-objects c = object_law

pub returns-clause-descriptors : goal.returns-clause-descriptors
returns-clause-descriptors c = kept_law

pub returns-clause-named : goal.returns-clause-named
returns-clause-named c = named_law

pub returns-clause-rest : goal.returns-clause-rest
returns-clause-rest c = leaves_law

pub returns-clause-told : goal.returns-clause-told
returns-clause-told c = run_told

pub returns-clause-cut : goal.returns-clause-cut
returns-clause-cut c = runs_split

pub returns-clause-handles : goal.returns-clause-handles
returns-clause-handles c = handles_law

pub returns-clause-reopened : goal.returns-clause-reopened
returns-clause-reopened c = reopened_law

pub returns-clause-origins : goal.returns-clause-origins
returns-clause-origins c = origins_law
