use Rattle.std.proofs.Common.{rules, ap, ◌∙◌}
use Rattle.pt_store.specs.StoreState.{state_of}
use Rattle.pt_store.proofs.Contents.{written_left}
use Rattle.pt_rules.specs.ContentCalls.{with_written}
use Rattle.pt_store.specs.declared.store.Store.{Store}
use Rattle.pt_store.proofs.Found.{open_there}
use Rattle.pt_store.proofs.store.Store.write_bytes.Goals.{then-append, else-append}
use Rattle.pt_store.proofs.store.Store.write_bytes.Goals as goal

pub returns-in-Ok-clause-answers : goal.returns-in-Ok-clause-answers
returns-in-Ok-clause-answers c =
    let object = c.in-Some.file.object in
    let node = c.in-Some.node.now in
    let there = open_there _ _ _ c.in-Some.file c.in-Some.node.now c.in-Some.ensures.found c.deref.ensures.value in
    elim c.if-append.branch [
      | then-append w ↦ (let left =
          c.in-Ok.ensures.ok ∙ ap (λ (s : Store).
          with_written (state_of s) c.args.seat.now object c.if-append.start c.args.bytes.now) w.self-is
          ∙ written_left (state_of c.args.self.now) c.args.seat.now object c.if-append.start c.args.bytes.now node
          there in
          search (rules, there, left))
      | else-append w ↦ (let left =
          c.in-Ok.ensures.ok ∙ ap (λ (s : Store).
          with_written (state_of s) c.args.seat.now object c.if-append.start c.args.bytes.now) w.self-is
          ∙ written_left (state_of c.args.self.now) c.args.seat.now object c.if-append.start c.args.bytes.now node
          there in
          search (rules, there, left))
    ]
