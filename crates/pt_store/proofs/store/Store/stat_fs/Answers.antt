use Rattle.std.proofs.Common.{ℕ, ap, sym, ◌∙◌}
use Rattle.pt_host.specs.declared.reply.HostValue.TheVariants as value
use Rattle.pt_node.specs.Numbers.{counts_of, table_in}
use Rattle.pt_node.specs.declared.node.Node.{Node}
use Rattle.pt_node.specs.declared.slots.OpenFile.{OpenFile}
use Rattle.pt_rules.specs.Calls.{Answered, tells}
use Rattle.pt_rules.specs.OpeningCalls.{fs_status, stat_fs_row}
use Rattle.pt_rules.specs.Rows.{by_row}
use Rattle.pt_store.specs.StoreState.{state_of}
use Rattle.pt_store.proofs.LivingCount.{living_given}
use Rattle.pt_store.proofs.Found.{goes_on}
use Rattle.pt_store.proofs.store.Store.stat_fs.Goals as goal

pub returns : goal.returns
returns c =
    let state = state_of c.args.self.now in
    let counts = counts_of c.args.self.now.inodes in
    let tables = table_in c.args.self.now.inodes.tables.items in
    let node = c.in-Some.node.now in
    let dev = node.ids.dev in
    let told : ℕ → Answered = λ files. tells state (value.FsStat (record (fs_status state dev) { files = files })) in
    let rest : OpenFile → Node → Answered = λ held found. by_row state held.object (stat_fs_row state held found) in
    ap told (c.living.ensures ∙ sym (living_given state counts tables c.requires dev))
    ∙ goes_on state _ c.args.fd rest c.in-Some.file node c.in-Some.ensures.found c.deref.ensures.value
