use Rattle.std.proofs.Common.{arith}
use Rattle.bstr.proofs.lemmas.PieceLemmas.{size-within}
use Rattle.pt_handles.proofs.mount_info.white_size.Goals as goal

pub returns-in-Some-clause-within : goal.returns-in-Some-clause-within
returns-in-Some-clause-within c = omega (arith, c.decode-character.ensures.size, size-within c.args.text.now)
