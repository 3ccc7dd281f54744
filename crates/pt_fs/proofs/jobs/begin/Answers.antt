use Rattle.std.proofs.Common.{◌≡◌, ◌∷◌, [], length, arith}
use Rattle.std.proofs.lemmas.List.{length-append, length-set}
use Rattle.pt_fs.specs.Placed.{Waits, Goes}
use Rattle.pt_fs.proofs.Laying.{wakes_laid, wakes_one, some_wait, all_go_on, still-set}
use Rattle.pt_fs.proofs.Lists.{get-set_same}
use Rattle.pt_fs.proofs.jobs.begin.Goals as goal

pub push_within-requires : goal.push_within-requires
push_within-requires c =
    let some = some_wait c.args.places.now.at c.args.id.0 c.requires.waits.0 c.requires.waits.1 in
    omega (arith, some, c.requires.kept.fit)

pub returns : goal.returns
returns c =
    let places = c.args.places.now.at in
    let going = c.args.going.now.items in
    let it = c.begun.result in
    let own = c.begun.ensures.id in
    let job = c.begin.result in
    let there = c.begin.ensures.job in
    let end : c.len-index.result ≡ length going = omega (arith, c.len-index.ensures, c.args.going.now.ok.0) in
    let sums = still-set places c.args.id.0 (Waits job) (Goes (length going)) there in
    let long = length-append going (it ∷ []) in
    let room = c.requires.kept.fit in
    let grown = c.push_within.ensures.capacity in
    let stays = c.begun.ensures.stays in
    rw (c.begin.ensures.goes, end, c.push_within.ensures.items) record {
      kept = record {
        laid = wakes_laid c.requires.kept.laid it there own;
        all_go = all_go_on going it c.requires.kept.all_go stays.finished;
        fit = omega (arith, sums, long, room, grown);
      };
      same = length-set places c.args.id.0 (Goes (length going));
      starts = c.begin.ensures.starts;
      index = get-set_same places c.args.id.0 (Waits job) (Goes (length going)) there;
      wakes = wakes_one c.requires.kept.laid c.args.id.0 job it there own stays;
    }
