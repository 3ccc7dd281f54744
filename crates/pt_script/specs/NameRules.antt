-- Believed. The rules for the names of extended attributes, as a script sets them.
use Rattle.std.specs.Prelude.{ℕ, List, [], ◌∷◌, Option, Some, None, if◌then◌else◌, codes}
use Rattle.std.specs.Str.{bytes_eq}
use Rattle.pt_maps.specs.declared.xattr_rule.RuleKind.{RuleKind}
use Rattle.pt_maps.specs.declared.xattr_rule.RuleKind.TheVariants as kind
use Rattle.pt_maps.specs.declared.xattr_rule.RuleScope.{RuleScope}
use Rattle.pt_maps.specs.declared.xattr_rule.RuleScope.TheVariants as scope
use Rattle.pt_maps.specs.declared.xattr_rule.XattrRule.{XattrRule}
use Rattle.pt_maps.specs.declared.xattr_rule.XattrRule.TheVariants.{Rule, Map}
use Rattle.pt_words.specs.Fields.{◌>>=◌, first_as, bytes_in, at_end}

-- the words of a kind and of a scope
abbrev pub kind_named : List ℕ → Option RuleKind
kind_named word =
    if bytes_eq word (codes "prefix") then Some kind.Prefix
    else (if bytes_eq word (codes "ok") then Some kind.Okay
    else (if bytes_eq word (codes "bad") then Some kind.Bad
    else (if bytes_eq word (codes "unsupported") then Some kind.Unsupported else None)))

abbrev pub scope_named : List ℕ → Option RuleScope
scope_named word =
    if bytes_eq word (codes "client") then Some scope.Client
    else (if bytes_eq word (codes "server") then Some scope.Server
    else (if bytes_eq word (codes "all") then Some scope.All else None))

-- `KEY PREPEND` of a map
abbrev pub map_rule_in : List (List ℕ) → Option XattrRule
map_rule_in words = do
  key ← bytes_in words
  prepend ← bytes_in key.rest
  at_end prepend.rest (Map key.value prepend.value)

-- `SCOPE KEY PREPEND` of a rule of this kind
abbrev pub kind_rule_in : RuleKind → List (List ℕ) → Option XattrRule
kind_rule_in kind words = do
  scope ← first_as scope_named words
  key ← bytes_in scope.rest
  prepend ← bytes_in key.rest
  at_end prepend.rest (Rule kind scope.value key.value prepend.value)

-- `KIND SCOPE KEY PREPEND`
abbrev pub scoped_rule_in : List ℕ → List (List ℕ) → Option XattrRule
scoped_rule_in word words = do
  kind ← kind_named word
  kind_rule_in kind words

-- `map KEY PREPEND`, or the other form
abbrev pub name_rule_in : List (List ℕ) → Option XattrRule
name_rule_in [] = None
name_rule_in (word ∷ words) = if bytes_eq word (codes "map") then map_rule_in words else scoped_rule_in word words
