-- What a rule makes of a name, by its kind.
use Rattle.std.proofs.Common.{◌≡◌, ℕ, List, ◌++◌, Option, Some, None, option_map, refl}
use Rattle.pt_maps.specs.MappedNames.{client_kind, client_name, for_client, met_rule}
use Rattle.pt_maps.specs.NameRules.{NameRule}
use Rattle.pt_maps.specs.declared.xattr_map.AppliedRule.{AppliedRule}
use Rattle.pt_maps.specs.declared.xattr_map.AppliedRule.TheVariants as applied
use Rattle.pt_maps.specs.declared.xattr_rule.RuleKind.{RuleKind}
use Rattle.pt_maps.specs.declared.xattr_rule.RuleKind.TheVariants as kind
use Rattle.pt_maps.specs.declared.xattr_rule.Side.TheVariants.{OfClient}
use Rattle.pt_maps.specs.declared.xattr_rule.XattrRule.{XattrRule}

abbrev kind_in : Option NameRule → Option RuleKind
kind_in met = option_map (λ rule. rule.kind) met

abbrev fate_in : List ℕ → Option NameRule → Option AppliedRule
fate_in name met = option_map (λ rule. for_client name rule.kind rule.prepend) met

-- it passes
pub prefix_passes : (rules : List XattrRule) (name : List ℕ) → client_kind rules name ≡ Some kind.Prefix →
    (made : List ℕ) × (client_name rules name ≡ Some (applied.Pass made))
prefix_passes rules name is = by (met_rule rules OfClient name) is
  where
    by : (met : Option NameRule) → kind_in met ≡ Some kind.Prefix →
        (made : List ℕ) × (fate_in name met ≡ Some (applied.Pass made))
    by None e = absurd (cc)
    by (Some rule) e = let k : rule.kind ≡ kind.Prefix = cc in (rule.prepend ++ name, rw k refl)

pub okay_passes : (rules : List XattrRule) (name : List ℕ) → client_kind rules name ≡ Some kind.Okay →
    (made : List ℕ) × (client_name rules name ≡ Some (applied.Pass made))
okay_passes rules name is = by (met_rule rules OfClient name) is
  where
    by : (met : Option NameRule) → kind_in met ≡ Some kind.Okay →
        (made : List ℕ) × (fate_in name met ≡ Some (applied.Pass made))
    by None e = absurd (cc)
    by (Some rule) e = let k : rule.kind ≡ kind.Okay = cc in (name, rw k refl)

-- or it is refused
pub bad_denies : (rules : List XattrRule) (name : List ℕ) → client_kind rules name ≡ Some kind.Bad →
    client_name rules name ≡ Some applied.Deny
bad_denies rules name is = by (met_rule rules OfClient name) is
  where
    by : (met : Option NameRule) → kind_in met ≡ Some kind.Bad → fate_in name met ≡ Some applied.Deny
    by None e = absurd (cc)
    by (Some rule) e = let k : rule.kind ≡ kind.Bad = cc in rw k refl

pub unsupported_none : (rules : List XattrRule) (name : List ℕ) → client_kind rules name ≡ Some kind.Unsupported →
    client_name rules name ≡ Some applied.Unsupported
unsupported_none rules name is = by (met_rule rules OfClient name) is
  where
    by : (met : Option NameRule) → kind_in met ≡ Some kind.Unsupported → fate_in name met ≡ Some applied.Unsupported
    by None e = absurd (cc)
    by (Some rule) e = let k : rule.kind ≡ kind.Unsupported = cc in rw k refl

pub unmet_none : (rules : List XattrRule) (name : List ℕ) → client_kind rules name ≡ None →
    client_name rules name ≡ None
unmet_none rules name is = by (met_rule rules OfClient name) is
  where
    by : (met : Option NameRule) → kind_in met ≡ None → fate_in name met ≡ None
    by None e = refl
    by (Some rule) e = absurd (cc)

-- what one name becomes is one
pub passes_once : (fate : Option AppliedRule) (one other : List ℕ) → fate ≡ Some (applied.Pass one) →
    fate ≡ Some (applied.Pass other) → one ≡ other
passes_once fate one other e f = cc
