use Rattle.std.proofs.Common.{◌≡◌, ◌∙◌, ◌+◌, ◌-◌, ap, sym, subst, length, take, drop, arith, rules, ℕ, List, true}
use Rattle.std.specs.Prelude.{◌==◌}
use Rattle.std.specs.List.{list_all}
use Rattle.std.proofs.lemmas.Bool.{true≢false}
use Rattle.pt_handles.specs.Record.{record_size}
use Rattle.pt_handles.specs.Reading.{HasRecord}
use Rattle.pt_handles.proofs.Records.{no_name, same_name, same_size, zeros_inside, assembled}
use Rattle.pt_handles.proofs.record.whole_record.Goals as goal

pub returns-in_default-clause-none : goal.returns-in_default-clause-none
returns-in_default-clause-none c entry rest begins =
    no_name c.args.bytes.now entry rest begins c.in_default.ensures.none

pub returns-then-size_told-size-clause-none : goal.returns-then-size_told-size-clause-none
returns-then-size_told-size-clause-none c entry rest begins =
    let nul = c.in-Some.ensures.nul in
    let same = same_name c.args.bytes.now c.in-Some.name.now nul.0 entry rest begins c.in-Some.ensures.name nul.1 in
    c.if-size_told-size.true
    (c.size_told.ensures.told ∙ same_size c.args.bytes.now entry rest begins
    ∙ ap (λ name. record_size name) (sym same) ∙ sym c.record_size-size.ensures)

pub returns-else-are_zeros-clause-none : goal.returns-else-are_zeros-clause-none
returns-else-are_zeros-clause-none c entry rest begins =
    let nul = c.in-Some.ensures.nul in
    let same = same_name c.args.bytes.now c.in-Some.name.now nul.0 entry rest begins c.in-Some.ensures.name nul.1 in
    let bytes = c.args.bytes.now in
    let size : c.record_size-size.result ≡ record_size entry.name =
    c.record_size-size.ensures ∙ ap (λ name. record_size name) same
    in
    let zeros =
    subst
    (λ (n : ℕ). list_all (λ byte. byte == 0)
    (take (n - (19 + length entry.name)) (drop (19 + length entry.name) bytes)) ≡ true)
    (sym size) (zeros_inside bytes entry rest begins)
    in
    let there =
    subst
    (λ (name : List ℕ). list_all (λ byte. byte == 0)
    (take (c.record_size-size.result - (19 + length name)) (drop (19 + length name) bytes)) ≡ true)
    (sym same) zeros
    in
    true≢false (sym there ∙ sym c.are_zeros.ensures ∙ c.if-are_zeros.false)

pub returns-then-are_zeros-clause-some : goal.returns-then-are_zeros-clause-some
returns-then-are_zeros-clause-some c =
    let nul = c.in-Some.ensures.nul in
    subst (λ (n : ℕ). HasRecord c.args.bytes.now n) (sym c.record_size-size.ensures)
    (assembled c.args.bytes.now c.in-Some.name.now nul.0 c.if-bytes-lt-HEAD.false (search rules)
    c.in-Some.ensures.name nul.1
    (sym c.size_told.ensures.told ∙ c.if-size_told-size.false ∙ c.record_size-size.ensures)
    (omega (arith, c.size_told.ensures.small, c.if-size_told-size.false, c.record_size-size.ensures))
    (omega (arith, c.if-bytes-size.false, c.record_size-size.ensures))
    (subst
    (λ (n : ℕ). list_all (λ byte. byte == 0)
    (take (n - (19 + length c.in-Some.name.now)) (drop (19 + length c.in-Some.name.now) c.args.bytes.now)) ≡ true)
    c.record_size-size.ensures (sym c.are_zeros.ensures ∙ c.if-are_zeros.true)))
