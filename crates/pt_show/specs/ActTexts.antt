-- Believed. The texts of acts and of their replies.
use Rattle.std.specs.Prelude.{ℕ, List, codes}
use Rattle.pt_frame.specs.Deed.{Deed, Calls, Changes}
use Rattle.pt_frame.specs.declared.act.KeptAct.{KeptAct}
use Rattle.pt_frame.specs.declared.act.KeptAct.TheVariants as act
use Rattle.pt_frame.specs.declared.act.ActReply.{ActReply}
use Rattle.pt_frame.specs.declared.act.ActReply.TheVariants as told
use Rattle.pt_show.specs.Texts.{word}
use Rattle.pt_show.specs.HostTexts.{call_text, host_reply_text}
use Rattle.pt_show.specs.SessionTexts.{event_text, event_reply_text}

-- a deed, an act and its reply add no name of their own
abbrev pub deed_text : Deed → List ℕ
deed_text (Calls call) = call_text call
deed_text (Changes event) = event_text event

abbrev pub act_text : KeptAct → List ℕ
act_text (act.Event event) = event_text event
act_text (act.Host call) = call_text call
act_text act.NoCopy = word (codes "NoCopy")

abbrev pub act_reply_text : ActReply → List ℕ
act_reply_text (told.Event reply) = event_reply_text reply
act_reply_text (told.Host reply) = host_reply_text reply
act_reply_text told.NoCopy = word (codes "NoCopy")
