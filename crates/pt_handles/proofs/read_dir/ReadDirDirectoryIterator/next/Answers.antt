use Rattle.std.proofs.Common.{◌≡◌, ◌<◌, ◌≤◌, ◌+◌, ◌∙◌, ℕ, List, [], refl, sym, ap, subst, length, drop, arith, rules}
use Rattle.std.proofs.Common.{nat_eq, false}
use Rattle.std.proofs.lemmas.Bool.{eqb-true, eqb-false}
use Rattle.pt_handles.specs.Record.{Dirent, BeginsWith}
use Rattle.pt_handles.specs.Dirents.{dirents_in, seen_dirent}
use Rattle.pt_handles.specs.Listed.{dirent_of}
use Rattle.pt_handles.proofs.Listings.{next_begins, next_view, none_left}
use Rattle.pt_handles.proofs.read_dir.ReadDirDirectoryIterator.next.Goals as goal

pub returns-then-is_empty : goal.returns-then-is_empty
returns-then-is_empty c =
    let left = drop c.self.inside.current c.self.inside.bytes in
    let empty : length left ≡ 0 =
    ap length (sym c.left_in-left.ensures.left) ∙ eqb-true _ 0 (sym c.is_empty.ensures ∙ c.if-is_empty.true)
    in
    let none = none_left left (dirents_in left) c.self.invariant.left empty in (
      (refl, λ _. tt, (sym c.self.view_is ∙ none, none)),
      record {
        given = ([], (sym c.self.view_is ∙ none, refl));
        after = tt;
      },
    )

-- bytes are left
some_left : (left rest : List ℕ) → left ≡ rest → nat_eq (length left) 0 ≡ false → 0 < length rest
some_left left rest same test =
    let more = eqb-false (length left) 0 test in
    let long = ap length same in
    omega (arith, more, long)

pub first_entry-entry-requires : goal.first_entry-entry-requires
first_entry-entry-requires c =
    let left = drop c.self.inside.current c.self.inside.bytes in
    let more = some_left _ left c.left_in-left.ensures.left (sym c.is_empty.ensures ∙ c.if-is_empty.false) in
    subst (λ (l : List ℕ). (entry : Dirent) × (rest : List ℕ) × BeginsWith l entry rest)
    (sym c.left_in-left.ensures.left) (next_begins left (dirents_in left) c.self.invariant.left more)

pub overflow_add-self : goal.overflow_add-self
overflow_add-self c =
    let more = some_left _ _ c.left_in-left.ensures.left (sym c.is_empty.ensures ∙ c.if-is_empty.false) in
    let step =
    next_view c.self.inside.bytes c.self.inside.current c.record_size.result (dirent_of c.first_entry-entry.result)
    c.args.self.now c.self.view_is c.self.invariant more
    (c.first_entry-entry.ensures ∙ ap seen_dirent c.left_in-left.ensures.left) c.record_size.ensures
    in
    let within : c.self.inside.current + c.record_size.result ≤ length c.self.inside.bytes = step.1.within in
    let fits : length c.self.inside.bytes < 18446744073709551616 = c.left_in-left.ensures.fits in
    search rules

pub invariant_of-self-2 : goal.invariant_of-self-2
invariant_of-self-2 c =
    let more = some_left _ _ c.left_in-left.ensures.left (sym c.is_empty.ensures ∙ c.if-is_empty.false) in
    (next_view c.self.inside.bytes c.self.inside.current c.record_size.result (dirent_of c.first_entry-entry.result)
    c.args.self.now c.self.view_is c.self.invariant more
    (c.first_entry-entry.ensures ∙ ap seen_dirent c.left_in-left.ensures.left) c.record_size.ensures).1

pub returns : goal.returns
returns c =
    let more = some_left _ _ c.left_in-left.ensures.left (sym c.is_empty.ensures ∙ c.if-is_empty.false) in
    let step =
    (next_view c.self.inside.bytes c.self.inside.current c.record_size.result (dirent_of c.first_entry-entry.result)
    c.args.self.now c.self.view_is c.self.invariant more
    (c.first_entry-entry.ensures ∙ ap seen_dirent c.left_in-left.ensures.left) c.record_size.ensures).0
    in
    ((refl, λ _. tt, step), record { given = (_, step); after = tt })
