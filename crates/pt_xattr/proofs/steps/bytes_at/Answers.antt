use Rattle.std.proofs.Common.{rules}
use Rattle.pt_frame.proofs.Reading.{judged_refused, stops, then}
use Rattle.pt_req.proofs.Stepping.{has_bytes, in_place}
use Rattle.pt_xattr.proofs.steps.bytes_at.Goals as goal

pub returns-in_err-reply-clause-reads : goal.returns-in_err-reply-clause-reads
returns-in_err-reply-clause-reads c = λ next. stops (c.in_err-reply.ensures.reads _) (search rules)

pub returns-in_default-clause-reads : goal.returns-in_default-clause-reads
returns-in_default-clause-reads c = λ next.
    then (c.in_ok-reply.ensures.reads _) (judged_refused _ _ _ _ _ _ (search rules))

pub returns-in-Host-Ok-Bytes-clause-reads : goal.returns-in-Host-Ok-Bytes-clause-reads
returns-in-Host-Ok-Bytes-clause-reads c = λ next.
    then (c.in_ok-reply.ensures.reads _)
    (in_place _ _ _ next _ c.in-Host-Ok-Bytes.field-0-0-0 c.in_ok-reply.ensures.place (search rules))

pub returns-in-Host-Ok-Bytes-clause-has : goal.returns-in-Host-Ok-Bytes-clause-has
returns-in-Host-Ok-Bytes-clause-has c =
    has_bytes _ _ c.in-Host-Ok-Bytes.field-0-0-0 c.in_ok-reply.ensures.place (search rules)
