-- Written by tools/chains.
use Rattle.pt_attr.proofs.parts.creating.file_labelled.Goals as goal

pub returns : goal.returns
returns c = λ next. rw (← c.as_slice-name.ensures) (c.labelled.ensures _)
