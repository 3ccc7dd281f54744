use Rattle.std.proofs.Common.{sym, subst, arith}
use Rattle.std.proofs.lemmas.Grind.{common_steps}
use Rattle.pt_store.specs.Kept.{IsKept}
use Rattle.pt_node.specs.Numbers.{counts_of, table_in}
use Rattle.pt_rules.specs.State.{State}
use Rattle.pt_store.specs.StoreState.{state_of}
use Rattle.pt_store.proofs.KeptCalls.{kept_counted}
use Rattle.pt_store.proofs.store.Store.count.Goals as goal

pub returns-clause-counts : goal.returns-clause-counts
returns-clause-counts c = grind (arith, common_steps)

pub returns-clause-kept : goal.returns-clause-kept
returns-clause-kept c =
    let holds = counts_of c.args.self.now.inodes in
    let tables = table_in c.args.self.now.inodes.tables.items in
    subst (λ (s : State).
    IsKept s holds tables) (sym (returns-clause-counts c))
    (kept_counted (state_of c.args.self.now) holds tables c.requires)
