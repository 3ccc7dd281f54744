-- Written by tools/chains.
use Rattle.std.proofs.Common.{rules}
use Rattle.pt_frame.proofs.Reading.{here, stops, then}
use Rattle.pt_attr.specs.Setting.{target_of}
use Rattle.pt_attr.proofs.parts.setting.pinned_target.Goals as goal

pub returns-in_err-fd : goal.returns-in_err-fd
unfolding target_of
returns-in_err-fd c = λ file next. stops (c.in_err-fd.ensures _) (search rules)

pub returns : goal.returns
unfolding target_of
returns c = λ file next. then (c.in_ok-fd.ensures _) (here next)
