use Rattle.std.proofs.lemmas.List.{take_rest}
use Rattle.pt_run.proofs.StreamLemmas.{IsPulled-copied}
use Rattle.pt_run.proofs.mem.MemSourceSource.pull.Goals as goal

pub returns-clause-pulled : goal.returns-clause-pulled
returns-clause-pulled c =
    let count = rw (c.deref.ensures.value, take_rest) at c.copy_front-count.ensures.count in
    let copied = rw (c.deref.ensures.value, take_rest) at c.copy_front-count.ensures.copied in
    rw (← c.self.view_is)
    (IsPulled-copied c.self.inside.bytes.items c.copy_front-count.new.to c.self.inside.place
    c.copy_front-count.result count copied)
