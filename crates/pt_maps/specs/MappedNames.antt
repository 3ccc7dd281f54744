-- Believed. What rules make of the names of extended attributes: the first rule that meets a name says it. After
-- virtiofsd's documentation of `--xattrmap` (doc/xattr-mapping.md), and listxattr(2) for the list of names.
use Rattle.std.specs.Prelude.{ℕ, not, ◌==◌, if◌then◌else◌, List, [], ◌∷◌, ◌++◌, Option, Some, None, option_map}
use Rattle.std.specs.Prelude.{option_and_then}
use Rattle.std.specs.Prelude.{length, drop, filter, find}
use Rattle.std.specs.List.{slice_split}
use Rattle.std.specs.Str.{bytes_eq}
use Rattle.pt_maps.specs.declared.xattr_rule.RuleKind.TheVariants as kind
use Rattle.pt_maps.specs.declared.xattr_rule.RuleKind.{RuleKind}
use Rattle.pt_maps.specs.declared.xattr_rule.XattrRule.{XattrRule}
use Rattle.pt_maps.specs.declared.xattr_rule.Side.{Side}
use Rattle.pt_maps.specs.declared.xattr_rule.Side.TheVariants.{OfClient, OfServer}
use Rattle.pt_maps.specs.declared.xattr_map.AppliedRule.{AppliedRule}
use Rattle.pt_maps.specs.declared.xattr_map.AppliedRule.TheVariants as applied
use Rattle.pt_maps.specs.NameRules.{NameRule, all_rules, meets_name}

-- the first rule that meets a name from this side
abbrev pub met_rule : List XattrRule → Side → List ℕ → Option NameRule
met_rule rules side name = find (meets_name side name) (all_rules rules)

-- what becomes of a client's name
abbrev pub for_client : List ℕ → RuleKind → List ℕ → AppliedRule
for_client name kind.Prefix prepend = applied.Pass (prepend ++ name)
for_client name kind.Okay prepend = applied.Pass name
for_client name kind.Bad prepend = applied.Deny
for_client name kind.Unsupported prepend = applied.Unsupported

-- none where no rule meets it
abbrev pub client_name : List XattrRule → List ℕ → Option AppliedRule
client_name rules name = option_map (λ rule. for_client name rule.kind rule.prepend) (met_rule rules OfClient name)

-- the host's name, where it is another than the client's
abbrev pub if_other : List ℕ → Option AppliedRule → Option (List ℕ)
if_other name (Some (applied.Pass other)) = if bytes_eq other name then None else Some other
if_other name (Some applied.Deny) = None
if_other name (Some applied.Unsupported) = None
if_other name None = None

abbrev pub other_name : List XattrRule → List ℕ → Option (List ℕ)
other_name rules name = if_other name (client_name rules name)

-- the kind of the rule that meets a client's name
abbrev pub client_kind : List XattrRule → List ℕ → Option RuleKind
client_kind rules name = option_map (λ rule. rule.kind) (met_rule rules OfClient name)

-- a name in a list: a NUL ends it
abbrev pub nul_ended : List ℕ → List ℕ
nul_ended name = name ++ 0 ∷ []

-- what becomes of a name that the host lists: nothing where it is hidden
abbrev pub for_list : List ℕ → RuleKind → List ℕ → List ℕ
for_list name kind.Prefix prepend = nul_ended (drop (length prepend) name)
for_list name kind.Okay prepend = nul_ended name
for_list name kind.Bad prepend = []
for_list name kind.Unsupported prepend = []

-- none where no rule meets it
abbrev pub listed_name : List XattrRule → List ℕ → Option (List ℕ)
listed_name rules name = option_map (λ rule. for_list name rule.kind rule.prepend) (met_rule rules OfServer name)

-- the names one after another; none where no rule meets one of them
abbrev pub listed_names : List XattrRule → List (List ℕ) → Option (List ℕ)
listed_names rules [] = Some []
listed_names rules (name ∷ names) =
    option_and_then (λ one. option_map (λ others. one ++ others) (listed_names rules names)) (listed_name rules name)

-- the names that a list has; empty ones are passed over
abbrev pub names_of_list : List ℕ → List (List ℕ)
names_of_list list = filter (λ name. not (length name == 0)) (slice_split (λ byte. byte == 0) list)

-- what the client is told of a list of the host's
abbrev pub server_list : List XattrRule → List ℕ → Option (List ℕ)
server_list rules list = listed_names rules (names_of_list list)
