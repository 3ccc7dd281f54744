-- Inner. The bytes behind the slashes at the front of a path.
use Rattle.std.specs.Prelude.{ℕ, ◌==◌, not, List, drop}
use Rattle.std.specs.List.{position_or_len}

abbrev pub behind_slashes : List ℕ → List ℕ
behind_slashes path = drop (position_or_len (λ byte. not (byte == 47)) path) path
