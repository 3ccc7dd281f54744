-- Believed. Rules for the names of extended attributes, after virtiofsd's documentation of `--xattrmap`
-- (doc/xattr-mapping.md): the plain rules that a rule stands for, and when one of them meets a name.
use Rattle.std.specs.Prelude.{ℕ, Bool, true, false, ◌==◌, ◌&&◌, nat_eq, List, [], ◌∷◌, length}
use Rattle.std.specs.List.{starts_with, flat_map, list_any}
use Rattle.pt_maps.specs.declared.xattr_rule.RuleKind.{RuleKind}
use Rattle.pt_maps.specs.declared.xattr_rule.RuleKind.TheVariants as kind
use Rattle.pt_maps.specs.declared.xattr_rule.RuleScope.{RuleScope}
use Rattle.pt_maps.specs.declared.xattr_rule.RuleScope.TheVariants as scope
use Rattle.pt_maps.specs.declared.xattr_rule.XattrRule.{XattrRule}
use Rattle.pt_maps.specs.declared.xattr_rule.XattrRule.TheVariants.{Rule, Map}
use Rattle.pt_maps.specs.declared.xattr_rule.Side.{Side}
use Rattle.pt_maps.specs.declared.xattr_rule.Side.TheVariants.{OfClient, OfServer}

-- a plain rule: a client's name is met by its key, a name that the host lists by its prepend
pub record NameRule : Type 0 where
  pub kind : RuleKind
  pub scope : RuleScope
  pub key : List ℕ
  pub prepend : List ℕ

abbrev pub name_rule : RuleKind → RuleScope → List ℕ → List ℕ → NameRule
name_rule kind scope key prepend = record { kind = kind; scope = scope; key = key; prepend = prepend }

-- `map`: names get the prepend. Without a key all do, and the host's other names are hidden. With a key the client
-- may not use names that begin with the prepend, nor see such as begin with the key; all others pass.
abbrev pub mapped : List ℕ → List ℕ → List NameRule
mapped [] prepend =
    name_rule kind.Prefix scope.All [] prepend
    ∷ name_rule kind.Bad scope.All [] []
    ∷ []
mapped (byte ∷ key) prepend =
    name_rule kind.Prefix scope.All (byte ∷ key) prepend
    ∷ name_rule kind.Bad scope.All prepend (byte ∷ key)
    ∷ name_rule kind.Okay scope.All [] []
    ∷ []

-- the plain rules that a rule stands for
abbrev pub rules_of : XattrRule → List NameRule
rules_of (Rule kind scope key prepend) = name_rule kind scope key prepend ∷ []
rules_of (Map key prepend) = mapped key prepend

abbrev pub all_rules : List XattrRule → List NameRule
all_rules rules = flat_map rules_of rules

-- whether a rule of this scope speaks of names from this side
abbrev pub covers : RuleScope → Side → Bool
covers scope.Client OfClient = true
covers scope.Client OfServer = false
covers scope.Server OfClient = false
covers scope.Server OfServer = true
covers scope.All OfClient = true
covers scope.All OfServer = true

-- what a name from this side has to begin with
abbrev pub front_of : Side → NameRule → List ℕ
front_of OfClient rule = rule.key
front_of OfServer rule = rule.prepend

-- whether the rule meets a name from this side
abbrev pub meets_name : Side → List ℕ → NameRule → Bool
meets_name side name rule = covers rule.scope side && starts_with nat_eq name (front_of side rule)

-- whether the rule meets every name from this side
abbrev pub meets_all : Side → NameRule → Bool
meets_all side rule = covers rule.scope side && length (front_of side rule) == 0

-- a rule meets every name from the client, and one every name that the host lists
abbrev pub is_terminated : List XattrRule → Bool
is_terminated rules =
    list_any (meets_all OfClient) (all_rules rules) && list_any (meets_all OfServer) (all_rules rules)
