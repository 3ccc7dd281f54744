-- Believed. The rules of a script by which ids are translated: those of virtiofsd's `--translate-uid` and
-- `--translate-gid`, by their names there. Whether rules are refused together is no matter of their lines.
use Rattle.std.specs.Prelude.{ℕ, List, [], ◌∷◌, Option, None, if◌then◌else◌, codes}
use Rattle.std.specs.Option.{option_map}
use Rattle.std.specs.Str.{bytes_eq}
use Rattle.pt_maps.specs.declared.rule.IdRule.{IdRule}
use Rattle.pt_maps.specs.declared.rule.IdRule.TheVariants.{Guest, Host, SquashGuest, SquashHost, ForbidGuest, Map}
use Rattle.pt_words.specs.Fields.{◌>>=◌, small_in, at_end}
use Rattle.pt_script.specs.declared.id_rule.RuleIds.{RuleIds}

-- `FIRST TARGET COUNT`
abbrev pub rule_ids_in : List (List ℕ) → Option RuleIds
rule_ids_in words = do
  first ← small_in words
  target ← small_in first.rest
  count ← small_in target.rest
  at_end count.rest (record { first = first.value; target = target.value; count = count.value })

-- a rule of this kind
abbrev pub ids_in : (ℕ → ℕ → ℕ → IdRule) → List (List ℕ) → Option IdRule
ids_in kind words = option_map (λ (ids : RuleIds). kind ids.first ids.target ids.count) (rule_ids_in words)

-- `FIRST COUNT`
abbrev pub forbidden_in : List (List ℕ) → Option IdRule
forbidden_in words = do
  first ← small_in words
  count ← small_in first.rest
  at_end count.rest (ForbidGuest first.value count.value)

abbrev pub id_rule_as : List ℕ → List (List ℕ) → Option IdRule
id_rule_as word fields =
    if bytes_eq word (codes "guest") then ids_in Guest fields
    else (if bytes_eq word (codes "host") then ids_in Host fields
    else (if bytes_eq word (codes "squash-guest") then ids_in SquashGuest fields
    else (if bytes_eq word (codes "squash-host") then ids_in SquashHost fields
    else (if bytes_eq word (codes "forbid-guest") then forbidden_in fields
    else (if bytes_eq word (codes "map") then ids_in Map fields else None)))))

abbrev pub id_rule_in : List (List ℕ) → Option IdRule
id_rule_in [] = None
id_rule_in (word ∷ fields) = id_rule_as word fields
