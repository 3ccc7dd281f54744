-- The texts of all that a report prints tell it.
use Rattle.std.proofs.Common.{refl}
use Rattle.pt_show.specs.Laws.{TextsTellValues}
use Rattle.pt_show.proofs.Readers.{tells}
use Rattle.pt_show.proofs.PlainTexts.{numbers, signed, byte_words, switches}
use Rattle.pt_show.proofs.HostReaders.{edits, calls, host_values, host_replies}
use Rattle.pt_show.proofs.SessionReaders.{events, event_replies}
use Rattle.pt_show.proofs.ActReaders.{acts, act_replies}
use Rattle.pt_show.proofs.AnswerReaders.{answers}

pub texts_tell : TextsTellValues
texts_tell = record {
  numbers = tells _ numbers tt;
  signed = tells _ signed tt;
  bytes = tells _ byte_words tt;
  switches = tells _ switches tt;
  edits = tells _ edits tt;
  calls = tells _ calls tt;
  values = tells _ host_values tt;
  host_replies = tells _ host_replies tt;
  events = tells _ events (tt, refl);
  event_replies = tells _ event_replies (tt, refl);
  acts = tells _ acts (tt, refl);
  act_replies = tells _ act_replies (tt, refl);
  answers = tells _ answers tt;
}
