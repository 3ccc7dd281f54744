-- Believed. The words that the cache policy and the mode of file handles are read from. After virtiofsd's `FromStr` of
-- `CachePolicy` and of `InodeFileHandlesMode`.
use Rattle.std.specs.Prelude.{ℕ, List, Option, Some, None, codes, if◌then◌else◌}
use Rattle.std.specs.Str.{bytes_eq, str_eq_ignore_ascii_case}
use Rattle.pt_req.specs.declared.words.InodeFileHandlesMode.{InodeFileHandlesMode}
use Rattle.pt_req.specs.declared.words.InodeFileHandlesMode.TheVariants as mode
use Rattle.pt_req.specs.declared.plan.CachePolicy.{CachePolicy}
use Rattle.pt_req.specs.declared.plan.CachePolicy.TheVariants as policy

-- the policy that a word names, in any case of its letters
abbrev pub policy_named : List ℕ → Option CachePolicy
policy_named word =
    if str_eq_ignore_ascii_case word (codes "never") then Some policy.Never
    else if str_eq_ignore_ascii_case word (codes "metadata") then Some policy.Metadata
    else if str_eq_ignore_ascii_case word (codes "auto") then Some policy.Auto
    else if str_eq_ignore_ascii_case word (codes "always") then Some policy.Always
    else None

-- the mode that a word names, in lower case
abbrev pub mode_named : List ℕ → Option InodeFileHandlesMode
mode_named word =
    if bytes_eq word (codes "never") then Some mode.Never
    else if bytes_eq word (codes "prefer") then Some mode.Prefer
    else if bytes_eq word (codes "mandatory") then Some mode.Mandatory
    else None
