-- Believed. Draws of a linear congruential generator. After Knuth, The Art of Computer Programming 2, 3.3.4, the line
-- of MMIX; of a state's bits the upper ones are given.
use Rattle.std.specs.Prelude.{ℕ, zero, suc, ◌+◌, ◌*◌, ◌/◌, ◌%◌, ◌^◌, List, [], ◌∷◌}

abbrev pub stepped : ℕ → ℕ
stepped state = (state * 6364136223846793005 + 1442695040888963407) % 2 ^ 64

-- what is drawn as a state is come to
abbrev pub drawn : ℕ → ℕ
drawn state = state / 2 ^ 33

-- so many draws from this state on
abbrev pub draws_from : ℕ → ℕ → List ℕ
draws_from zero state = []
draws_from (suc count) state = drawn (stepped state) ∷ draws_from count (stepped state)

-- and the state that they come to
abbrev pub state_behind : ℕ → ℕ → ℕ
state_behind zero state = state
state_behind (suc count) state = state_behind count (stepped state)
