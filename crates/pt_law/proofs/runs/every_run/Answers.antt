use Rattle.pt_law.proofs.runs.every_run.Goals as goal
use Rattle.pt_law.proofs.Interleaving.{tables_split}
use Rattle.pt_law.proofs.Laws.{agree_law, era_grows, counts_law, once_law, slots_law, rest_law, ended_jobs}
use Rattle.pt_law.proofs.Gone.{ended_law}
use Rattle.pt_law.proofs.Next.{honoured_law}
use Rattle.pt_law.proofs.Standing.{standing_law}
use Rattle.pt_law.proofs.HandlesOnce.{handles_once_law}
use Rattle.pt_law.proofs.Overtaking.{overtaken_law, shut_out_law}
use Rattle.pt_law.proofs.Agreeing.{agreed_law}

pub returns-clause-agree : goal.returns-clause-agree
returns-clause-agree c = agree_law

pub returns-clause-era : goal.returns-clause-era
returns-clause-era c = era_grows

pub returns-clause-counts : goal.returns-clause-counts
returns-clause-counts c = counts_law

pub returns-clause-ended : goal.returns-clause-ended
returns-clause-ended c = ended_law

pub returns-clause-once : goal.returns-clause-once
returns-clause-once c = once_law

pub returns-clause-slots : goal.returns-clause-slots
returns-clause-slots c = slots_law

pub returns-clause-honoured : goal.returns-clause-honoured
returns-clause-honoured c = honoured_law

pub returns-clause-disciplined : goal.returns-clause-disciplined
returns-clause-disciplined c = ended_jobs

pub returns-clause-rest : goal.returns-clause-rest
returns-clause-rest c = rest_law

pub returns-clause-cut : goal.returns-clause-cut
returns-clause-cut c = tables_split

pub returns-clause-standing : goal.returns-clause-standing
returns-clause-standing c = standing_law

pub returns-clause-handles_once : goal.returns-clause-handles_once
returns-clause-handles_once c = handles_once_law

pub returns-clause-overtaken : goal.returns-clause-overtaken
returns-clause-overtaken c = overtaken_law

pub returns-clause-shut_out : goal.returns-clause-shut_out
returns-clause-shut_out c = shut_out_law

pub returns-clause-agreed : goal.returns-clause-agreed
returns-clause-agreed c = agreed_law
