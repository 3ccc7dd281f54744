use Rattle.std.proofs.Common.{◌≤◌, ◌<◌, ℕ, List, [], ◌∷◌, ◌+◌, ◌^◌, Option, Some, None, refl, sym, subst, inl}
use Rattle.std.proofs.Common.{inr, length, arith, rules}
use Rattle.std.specs.Prelude.{option_copied, MatchOption}
use Rattle.std.specs.Borrow.{Bor}
use Rattle.std.proofs.lemmas.List.{take_rest}
use Rattle.pt_handles.specs.MountInfo.{TellsPoint, TellsFirst, lines_within}
use Rattle.pt_handles.proofs.Places.{found}
use Rattle.pt_handles.proofs.LineLemmas.{is_end, lines_step, last_line, lines_are}
use Rattle.pt_handles.proofs.mount_info.point_of.Goals as goal

pub loop-end-init : goal.loop-end-init
loop-end-init c =
    let text = c.args.text.now in (
      length text,
      omega arith,
      λ found tells. subst (λ (l : List (List ℕ)). TellsFirst c.args.mount_id l found) (sym (lines_are text)) tells,
    )

pub returns-in-Some-point_in : goal.returns-in-Some-point_in
returns-in-Some-point_in c =
    let inv = c.loop-end.invariant in
    let left = c.loop-end.left.now in
    let point = c.in-Some-point_in.point.now in
    let step = lines_step inv.0 left c.in-Some.end (sym c.in-Some.ensures.place) inv.1 in
    inv.2 (Some point)
    (subst (λ (l : List (List ℕ)). TellsFirst c.args.mount_id l (Some point)) (sym step.1)
    (inl (point, c.in-Some-point_in.ensures, refl)))

pub overflow_add-left : goal.overflow_add-left
overflow_add-left c =
    let within = (found is_end c.loop-end.left.now c.in-Some.end (sym c.in-Some.ensures.place)).1 in
    let fits : c.in-Some.end + 1 < 2 ^ 64 = omega (arith, within, c.line_end.ensures.fits) in
    search rules

pub loop-end-preserved : goal.loop-end-preserved
loop-end-preserved c =
    let inv = c.loop-end.invariant in
    let left = c.loop-end.left.now in
    let end = c.in-Some.end in
    let step = lines_step inv.0 left end (sym c.in-Some.ensures.place) inv.1 in
    let same = take_rest left (end + 1) in (
      step.0,
      subst (λ (l : List ℕ). length l ≤ step.0) (sym same) step.2,
      λ found tells. inv.2 found
          (subst (λ (l : List (List ℕ)). TellsFirst c.args.mount_id l found) (sym step.1)
          (inr (
            c.in_default-point_in.ensures,
            subst
                (λ (l : List ℕ). TellsFirst c.args.mount_id (lines_within step.0 l) found) same tells,
          ))),
    )

-- what the last line tells
last_tells : (id : ℕ) (line : List ℕ) (read : Option (Bor (List ℕ))) →
    MatchOption read ((point : List ℕ) → TellsPoint id line point → ⊥) (λ point. TellsPoint id line point.now) →
    TellsFirst id (line ∷ []) (option_copied read)
last_tells id line None none = inr (none, refl)
last_tells id line (Some point) tells = inl (point.now, tells, refl)

pub returns : goal.returns
returns c =
    let inv = c.loop-end.invariant in
    let left = c.loop-end.left.now in
    let read = c.point_in-2.result in
    inv.2 (option_copied read)
    (subst (λ (l : List (List ℕ)). TellsFirst c.args.mount_id l (option_copied read))
    (sym (last_line inv.0 left (sym c.in_default.ensures.place)))
    (last_tells c.args.mount_id left read c.point_in-2.ensures))
