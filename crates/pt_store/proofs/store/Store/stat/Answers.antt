use Rattle.std.proofs.Common.{ℕ, ap, ◌∙◌}
use Rattle.pt_host.specs.declared.reply.HostValue.TheVariants as value
use Rattle.pt_host.specs.declared.stat.Stat.{Stat}
use Rattle.pt_rules.specs.Calls.{Answered, tells}
use Rattle.pt_node.specs.Links.{links_of}
use Rattle.pt_node.specs.Node.{status_of}
use Rattle.pt_node.specs.declared.slots.OpenFile.{OpenFile}
use Rattle.pt_store.specs.StoreState.{state_of}
use Rattle.pt_node.specs.declared.node.Node.{Node}
use Rattle.pt_store.proofs.Found.{goes_on, open_there}
use Rattle.pt_store.proofs.store.Store.stat.Goals as goal

pub links_of-links-requires-clause-there : goal.links_of-links-requires-clause-there
links_of-links-requires-clause-there c =
    open_there _ _ _ c.in-Some.file c.in-Some.node.now c.in-Some.ensures.found c.deref.ensures.value

pub status-requires : goal.status-requires
status-requires c =
    let node = c.in-Some.node.now in
    let there = open_there _ _ _ c.in-Some.file node c.in-Some.ensures.found c.deref.ensures.value in
    (c.requires.sound.made c.in-Some.file.object node there).permissions

pub returns : goal.returns
returns c =
    let state = state_of c.args.self.now in
    let node = c.in-Some.node.now in
    let told : OpenFile → Node → Answered = λ held found.
    tells state (value.Stat (status_of (links_of state.nodes held.object found) found)) in
    ap (λ (stat : Stat). tells state (value.Stat stat)) (c.status.ensures
    ∙ ap (λ (links : ℕ). status_of links node) c.links_of-links.ensures)
    ∙ goes_on state _ c.args.fd told c.in-Some.file node c.in-Some.ensures.found c.deref.ensures.value
