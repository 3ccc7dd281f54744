-- Believed. Memory ran out at one of a job's steps.
use Rattle.std.specs.Prelude.{◌⊎◌, List, [], ◌∷◌}
use Rattle.pt_frame.specs.Deed.{Step, LacksMemory}

-- one of the steps was told that memory ran out, or could not be copied
abbrev pub RanOut : List Step → Type 0
RanOut [] = ⊥
RanOut (step ∷ steps) = LacksMemory step.reply ⊎ RanOut steps
