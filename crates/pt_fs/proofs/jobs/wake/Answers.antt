use Rattle.std.proofs.Common.{refl}
use Rattle.pt_fs.proofs.Laying.{wakes_none, has_ended}
use Rattle.pt_fs.proofs.Stages.{waits_at, goes_at, ended_at}
use Rattle.pt_fs.proofs.jobs.wake.Goals as goal

pub begin-requires-clause-waits : goal.begin-requires-clause-waits
begin-requires-clause-waits c =
    waits_at c.args.places.now.at c.args.id.0 c.requires.named c.stage.ensures c.in-Waits.is

pub returns-in-Goes : goal.returns-in-Goes
returns-in-Goes c =
    let own = goes_at c.args.places.now.at c.args.id.0 c.requires.named c.stage.ensures c.in-Goes.index
    c.in-Goes.is in
    record {
      kept = c.requires.kept;
      same = refl;
      starts = refl;
      index = own;
      wakes = wakes_none c.requires.kept.laid c.args.id.0 c.in-Goes.index own;
    }

pub returns-in-Ended : goal.returns-in-Ended
returns-in-Ended c =
    let over = ended_at c.args.places.now.at c.args.id.0 c.requires.named c.stage.ensures c.in-Ended.field-0
    c.in-Ended.field-1 c.in-Ended.is in
    absurd (has_ended c.args.places.now.at c.args.going.now.items c.args.id.0 over.0 over.1 c.requires.unfinished)
