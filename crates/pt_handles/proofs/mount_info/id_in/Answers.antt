use Rattle.pt_handles.proofs.IdLemmas.{id_is_text}
use Rattle.pt_handles.proofs.mount_info.id_in.Goals as goal

pub returns-in-Err : goal.returns-in-Err
returns-in-Err c = λ id is small. c.in-Err.ensures.cases.0 (id_is_text c.args.column.now id is)
