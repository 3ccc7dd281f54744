use Rattle.std.proofs.Common.{◌≡◌, length, vec_len, arith}
use Rattle.pt_fs.proofs.Placing.{all_wait}
use Rattle.pt_fs.proofs.places.Places.new.Goals as goal

pub returns-clause-waiting : goal.returns-clause-waiting
returns-clause-waiting c =
    let all : vec_len c.args.jobs ≡ length c.args.jobs.items = omega (arith, c.args.jobs.ok.0) in
    rw (c.in_ok-stages.ensures.stages, c.in_ok-stages.ensures.answers, c.len.ensures, all) (all_wait c.args.jobs.items)
