-- Believed. What an edit's job does: one step, answered by its reply. It holds nothing, and it is outside the
-- frame: the reply alone says whether memory was there.
use Rattle.std.specs.Prelude.{ℕ, Bool, true, false, []}
use Rattle.pt_host.specs.declared.edit.Edit.{Edit}
use Rattle.pt_host.specs.declared.op.KeptHostOp.TheVariants as call
use Rattle.pt_host.specs.declared.reply.HostReply.TheVariants as host
use Rattle.pt_iface.specs.declared.answer.Answer.{Answer}
use Rattle.pt_iface.specs.declared.answer.Answer.TheVariants as answer
use Rattle.pt_frame.specs.Deed.{Calls}
use Rattle.pt_frame.specs.Grammar.{Grammar, End, Do, owing}
use Rattle.pt_frame.specs.declared.act.ActReply.{ActReply}
use Rattle.pt_frame.specs.declared.act.ActReply.TheVariants.{Host}
use Rattle.pt_frame.specs.declared.edit.Editing.{Editing}
use Rattle.pt_frame.specs.declared.edit.Editing.TheVariants as editing
use Rattle.pt_frame.specs.declared.finish.Finish.TheVariants as finish
use Rattle.pt_frame.specs.declared.hold.Taken.TheVariants.{Nothing}

-- how an edit is answered
abbrev pub edit_answer : ActReply → Answer
edit_answer (Host (host.Ok value)) = answer.Edited
edit_answer (Host (host.Refused errno)) = answer.EditRefused errno
edit_answer (Host (host.Fault errno)) = answer.EditRefused errno
edit_answer told = answer.NoMemory

-- what its job may do from its start on
abbrev pub edit_grammar : Edit → Grammar
edit_grammar edit =
    Do (Calls (call.Edit edit)) (owing false Nothing 0 []) (λ told. End (finish.Answer (edit_answer told)))

-- and from here on
abbrev pub edit_left : Editing → Grammar
edit_left (editing.Asks edit) = edit_grammar edit
edit_left (editing.Ends last) = End (finish.Answer last)

abbrev pub edit_steps : Editing → ℕ
edit_steps (editing.Asks edit) = 1
edit_steps (editing.Ends last) = 0

abbrev pub is_edit_over : Editing → Bool
is_edit_over (editing.Asks edit) = false
is_edit_over (editing.Ends last) = true
