use Rattle.pt_node.specs.Numbers.{counts_of, table_in}
use Rattle.pt_store.specs.StoreState.{state_of}
use Rattle.pt_store.proofs.KeptCalls.{kept_beside}
use Rattle.pt_store.proofs.store.Store.fail.Goals as goal

pub returns-clause-kept : goal.returns-clause-kept
returns-clause-kept c =
    let closed = c.close_failing.new.self in
    kept_beside (state_of closed) (counts_of closed.inodes)
    (table_in closed.inodes.tables.items) c.close_failing.ensures.kept closed.plans _
