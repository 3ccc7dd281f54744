use Rattle.pt_tests.proofs.stops.FewRecord.write_reply.Goals as goal

pub write_reply-requires : goal.write_reply-requires
write_reply-requires c =
    let begun = c.requires.begun in
    record { begun = (begun.0.steps, begun.1, begun.2, begun.3) }
