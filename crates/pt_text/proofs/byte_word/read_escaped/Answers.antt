use Rattle.std.proofs.Common.{◌++◌, ap, ◌∙◌}
use Rattle.std.specs.Option.{option_map}
use Rattle.pt_text.proofs.ByteWords.{behind_more}
use Rattle.pt_text.proofs.byte_word.read_escaped.Goals as goal

pub loop-rest-preserved : goal.loop-rest-preserved
loop-rest-preserved c =
    rw c.in_ok-push.ensures.items
    (behind_more c.loop-rest.bytes.items c.in-Some.byte _ _ (c.loop-rest.invariant
    ∙ ap (option_map (λ more. c.loop-rest.bytes.items ++ more)) c.in-Some.ensures.first))
