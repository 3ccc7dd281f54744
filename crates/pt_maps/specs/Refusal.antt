-- Believed. Which rules are refused: the source ranges of one direction must not overlap, as the documentation of
-- `--translate-uid` asks, and ranges end at 2^32, the number of ids, at most.
use Rattle.std.specs.Prelude.{◌≡◌, ℕ, ◌<◌, List, Bool, ◌||◌, if◌then◌else◌, Option, Some, None, length, take}
use Rattle.std.specs.Prelude.{slice_get, option_and_then}
use Rattle.std.specs.List.{list_any}
use Rattle.pt_maps.specs.declared.rule.IdRule.{IdRule}
use Rattle.pt_maps.specs.declared.rule.Direction.{Direction}
use Rattle.pt_maps.specs.declared.rule.Direction.TheVariants.{ToHost, ToGuest}
use Rattle.pt_maps.specs.declared.error.MapError.{MapError}
use Rattle.pt_maps.specs.declared.error.MapError.TheVariants.{Overlap, PastEnd}
use Rattle.pt_maps.specs.Rule.{meets, source, is_past_end}

-- whether a rule says something of an id of which one of these says something in the same direction
abbrev pub overlaps : Direction → List IdRule → IdRule → Bool
overlaps direction earlier rule = list_any (λ other. meets (source direction rule) (source direction other)) earlier

-- what refuses a rule that follows these, if anything
abbrev pub refusal_behind : List IdRule → IdRule → Option MapError
refusal_behind earlier rule =
    if overlaps ToHost earlier rule || overlaps ToGuest earlier rule then Some (Overlap (length earlier))
    else (if is_past_end rule then Some (PastEnd (length earlier)) else None)

-- what refuses the rule at a place, if anything
abbrev pub refusal_at : List IdRule → ℕ → Option MapError
refusal_at rules place = option_and_then (refusal_behind (take place rules)) (slice_get rules place)

-- no rule is refused
abbrev pub AreAccepted : List IdRule → Type 0
AreAccepted rules = (place : ℕ) → refusal_at rules place ≡ None

-- a rule is refused so, and no rule before it is refused
pub record IsFirstRefusal (rules : List IdRule) (error : MapError) : Type 0 where
  pub place : ℕ
  pub refused : refusal_at rules place ≡ Some error
  pub first : (earlier : ℕ) → earlier < place → refusal_at rules earlier ≡ None
