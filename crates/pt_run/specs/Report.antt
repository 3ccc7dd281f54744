-- Believed. The lines of a report that say what the jobs did, and whether the seat of one was lost.
use Rattle.std.specs.Prelude.{ℕ, ◌+◌, List, [], ◌∷◌, ◌++◌, Option, Some, None, codes}
use Rattle.pt_iface.specs.declared.answer.Answer.{Answer}
use Rattle.pt_frame.specs.declared.act.KeptAct.{KeptAct}
use Rattle.pt_frame.specs.declared.act.ActReply.{ActReply}
use Rattle.pt_fs.specs.declared.trace.TraceStep.{TraceStep}
use Rattle.pt_run.specs.declared.report.LostJob.{LostJob}
use Rattle.pt_show.specs.Texts.{number_text, ended}
use Rattle.pt_show.specs.ActTexts.{act_text, act_reply_text}
use Rattle.pt_show.specs.AnswerTexts.{answer_text}
use Rattle.pt_show.specs.HostTexts.{errno_text}

-- `step JOB` and the text of an act, and ` = REPLY`
abbrev pub step_begin : ℕ → List ℕ → List ℕ
step_begin job act = codes "step" ++ number_text job ++ act

abbrev pub step_end : ActReply → List ℕ
step_end reply = ended (codes " =" ++ act_reply_text reply)

-- `step JOB ACT = REPLY`
abbrev pub step_line : ℕ → KeptAct → ActReply → List ℕ
step_line job act reply =
    ended (codes "step" ++ number_text job ++ act_text act ++ codes " =" ++ act_reply_text reply)

abbrev pub step_lines : List TraceStep → List ℕ
step_lines [] = []
step_lines (step ∷ steps) = step_line step.job step.act step.reply ++ step_lines steps

-- `answer JOB ANSWER`
abbrev pub answer_line : ℕ → Answer → List ℕ
answer_line job answer = ended (codes "answer" ++ number_text job ++ answer_text answer)

-- the answers of the jobs from this one on
abbrev pub answer_lines : ℕ → List Answer → List ℕ
answer_lines job [] = []
answer_lines job (answer ∷ answers) = answer_line job answer ++ answer_lines (job + 1) answers

-- `lost JOB ERRNO`, where a seat was lost
abbrev pub lost_lines : Option LostJob → List ℕ
lost_lines None = []
lost_lines (Some lost) = ended (codes "lost" ++ number_text lost.job ++ errno_text lost.errno)
