use Rattle.pt_text.proofs.OneWord.{one_word}
use Rattle.pt_text.proofs.laws.bytes_have_one_word.Goals as goal

pub returns : goal.returns
returns c = one_word
