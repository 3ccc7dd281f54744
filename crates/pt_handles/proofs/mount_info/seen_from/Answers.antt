use Rattle.std.proofs.Common.{◌≡◌, ◌<◌, ◌∙◌, ◌++◌, ℕ, List, [], Some, None, refl, sym, ap, inl, inr, length, arith}
use Rattle.std.proofs.Common.{length-append}
use Rattle.std.proofs.lemmas.List.{nil_from_length}
use Rattle.std.proofs.lemmas.Slice.Eq.{strip_prefix_is}
use Rattle.std.proofs.lemmas.Bool.Decides.{Decides-eqb, nat_tests}
use Rattle.pt_handles.proofs.mount_info.seen_from.Goals as goal
use Rattle.pt_handles.proofs.mount_info.seen_from.Goals.{in_default-via-in-Some+else-not-is_empty}
use Rattle.pt_handles.proofs.mount_info.seen_from.Goals.{in_default-via-in_default}

pub returns-in-Some : goal.returns-in-Some
returns-in-Some c =
    let path = c.args.path.now in
    let prefix = c.args.prefix.now in
    let rest = c.in-Some.rest in
    let some : 0 < length rest.now = grind (arith, nat_tests, c.is_empty.ensures, c.if-not-is_empty.true) in
    inl (
      λ (e : rest.now ≡ []). absurd (omega (arith, some, ap length e)),
      strip_prefix_is Decides-eqb path prefix (Some rest) c.in-Some.ensures.cases,
    )

-- nothing stands behind the front
none_behind : (path front rest : List ℕ) → path ≡ front ++ [] → path ≡ front ++ rest → rest ≡ []
none_behind path front rest one two =
    let same : length (front ++ []) ≡ length (front ++ rest) = ap length (sym one ∙ two) in
    nil_from_length rest (omega (arith, same, length-append front [], length-append front rest))

pub returns-in_default : goal.returns-in_default
returns-in_default c =
    let path = c.args.path.now in
    let prefix = c.args.prefix.now in
    inr (
      refl,
      λ rest some is.
          elim c.in_default.branch [
            | in_default-via-in-Some+else-not-is_empty w ↦
                let behind = w.in-Some.rest in
                let size : length behind.now ≡ 0 =
                grind (arith, nat_tests, w.is_empty.ensures, w.if-not-is_empty.false)
                in
                let begins = strip_prefix_is Decides-eqb path prefix (Some behind) w.in-Some.ensures.cases in
                let none = nil_from_length behind.now size in
                some (none_behind path prefix rest (begins ∙ ap (λ l. prefix ++ l) none) is)
            | in_default-via-in_default w ↦
                strip_prefix_is Decides-eqb path prefix None w.in_default.ensures.cases rest is
          ],
    )
