use Rattle.std.proofs.Common.{◌∙◌, sym, arith}
use Rattle.std.proofs.lemmas.List.{length-map}
use Rattle.pt_fs.specs.Jobs.{job_seat, job_start}
use Rattle.pt_fs.specs.Placed.{Waits}
use Rattle.pt_fs.proofs.Laying.{laid_waiting, all_still}
use Rattle.pt_fs.proofs.Runs.{runs_waiting}
use Rattle.pt_fs.proofs.jobs.Jobs.new.Goals as goal

pub invariant_of-result : goal.invariant_of-result
invariant_of-result c =
    let room = c.in_ok-going.ensures.room in
    let one = c.len.ensures in
    let long = c.args.jobs.ok.0 in
    let sums = all_still c.args.jobs.items in
    rw (
      c.in_ok-places.ensures.waiting,
      c.in_ok-places.ensures.starts,
      c.in_ok-seats.ensures,
      c.as_slice.ensures.value,
      c.in_ok-going.ensures.empty,
    ) record {
      kept = record {
        laid = laid_waiting c.args.jobs.items;
        all_go = λ index it at. absurd (cc);
        fit = omega (arith, room, one, long, sums);
      };
      each_start = length-map c.args.jobs.items job_start ∙ sym (length-map c.args.jobs.items Waits);
      each_seat = length-map c.args.jobs.items job_seat ∙ sym (length-map c.args.jobs.items Waits);
    }

pub returns-clause-waiting : goal.returns-clause-waiting
returns-clause-waiting c = rw (
  c.in_ok-places.ensures.waiting,
  c.in_ok-places.ensures.starts,
  c.in_ok-seats.ensures,
  c.as_slice.ensures.value,
) (runs_waiting c.args.jobs.items _)
