use Rattle.pt_handles.proofs.Records.{no_name, seen_read}
use Rattle.pt_handles.proofs.read_dir.first_entry.Goals as goal

pub unreachable-requires : goal.unreachable-requires
unreachable-requires c =
    no_name c.args.left.now c.requires.0 c.requires.1 c.requires.2 c.in-None.ensures.none

pub returns : goal.returns
returns c =
    seen_read c.args.left.now c.in-Some.name.now c.in-Some.ensures.nul.0 _ _ _ c.in-Some.ensures.name
    c.in-Some.ensures.nul.1 c.u64_at.ensures c.u64_at-2.ensures c.from.ensures
