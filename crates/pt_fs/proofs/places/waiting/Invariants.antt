use Rattle.std.proofs.Common.{◌≡◌, ◌≤◌, replicate, vec_capacity}
use Rattle.pt_iface.specs.declared.answer.Answer.TheVariants.{Cut}
use Rattle.pt_fs.specs.declared.places.Stage.TheVariants.{Waits}
use Rattle.pt_fs.proofs.places.waiting.Given as goal

abbrev pub invariant-loop-place : goal.invariant-loop-place
invariant-loop-place l = record {
  stages : l.stages.items ≡ replicate l._place Waits;
  answers : l.answers.items ≡ replicate l._place Cut;
  room_stages : l.fn.count ≤ vec_capacity l.stages;
  room_answers : l.fn.count ≤ vec_capacity l.answers;
}
