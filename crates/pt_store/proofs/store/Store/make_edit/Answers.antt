use Rattle.pt_node.specs.Numbers.{counts_of, table_in}
use Rattle.pt_store.specs.StoreState.{numbers_of, state_of}
use Rattle.pt_store.proofs.Kept.{next_least}
use Rattle.pt_store.proofs.store.Store.make_edit.Goals as goal

pub returns-clause-answers : goal.returns-clause-answers
returns-clause-answers c = λ seat. record {
  numbers = numbers_of c.args.self.now;
  least = next_least (state_of c.args.self.now) (counts_of c.args.self.now.inodes)
      (table_in c.args.self.now.inodes.tables.items) c.requires;
  state = state_of c.edit_or_fail-reply.new.self;
  answered = c.edit_or_fail-reply.ensures.answers seat;
  counts = c.count.ensures.counts;
}
