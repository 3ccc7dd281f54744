use Rattle.pt_node.specs.Numbers.{counts_of, table_in}
use Rattle.pt_store.specs.StoreState.{state_of}
use Rattle.pt_store.proofs.KeptCalls.{kept_beside}
use Rattle.pt_store.proofs.store.Store.plan.Goals as goal

pub returns-in_ok-insert-clause-kept : goal.returns-in_ok-insert-clause-kept
returns-in_ok-insert-clause-kept c =
    kept_beside (state_of c.args.self.now) (counts_of c.args.self.now.inodes)
    (table_in c.args.self.now.inodes.tables.items) c.requires
    c.insert.new.self c.args.self.now.faults
