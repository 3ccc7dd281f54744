-- Believed. What the program is asked for by the words of its command line.
use Rattle.std.specs.Prelude.{◌≡◌, ◌≤◌, ◌<◌, ◌^◌, ℕ, List, [], ◌∷◌, codes, decimal}
use Rattle.pt_run.specs.declared.command.Command.{Command}
use Rattle.pt_run.specs.declared.command.Command.TheVariants as command

-- `script`, or `gen N SEED`
abbrev pub words_of : Command → List (List ℕ)
words_of command.Script = codes "script" ∷ []
words_of (command.Generate jobs seed) = codes "gen" ∷ decimal jobs ∷ decimal seed ∷ []

abbrev pub max_generated : ℕ
max_generated = 10000

-- there are so many jobs at most, and a seed has 64 bits
abbrev pub IsWithin : Command → Type 0
IsWithin command.Script = Unit {0}
IsWithin (command.Generate jobs seed) = (1 ≤ jobs) × (jobs ≤ max_generated) × (seed < 2 ^ 64)

-- the words ask for this
abbrev pub AskFor : List (List ℕ) → Command → Type 0
AskFor words command = (words ≡ words_of command) × IsWithin command
