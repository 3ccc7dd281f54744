use Rattle.std.proofs.Common.{◌≡◌, ◌==◌, ◌∙◌, sym, ap, ap₂, length, false}
use Rattle.std.specs.Option.{option_or}
use Rattle.std.proofs.lemmas.Bool.{eqb-true}
use Rattle.pt_maps.specs.NameRules.{meets_name}
use Rattle.pt_maps.proofs.NameRules.{if_met, map_without_key, map_with_key}
use Rattle.pt_maps.proofs.xattr_rule.first_of_map.Goals as goal

pub returns-then-is_empty : goal.returns-then-is_empty
returns-then-is_empty c =
    let p = meets_name c.args.side c.args.name.now in
    let first = c.if_meets-first.ensures ∙ ap (λ rule. if_met p rule) c.new.ensures in
    let hidden = c.if_meets-hidden.ensures ∙ ap (λ rule. if_met p rule) c.new-then-is_empty.ensures in
    c.or.ensures ∙ ap₂ (λ one other. option_or one other) first hidden
    ∙ map_without_key p c.args.key.now c.args.prepend.now
    (eqb-true (length c.args.key.now) 0 (sym c.is_empty.ensures ∙ c.if-is_empty.true))

pub returns : goal.returns
returns c =
    let p = meets_name c.args.side c.args.name.now in
    let first = c.if_meets-first.ensures ∙ ap (λ rule. if_met p rule) c.new.ensures in
    let hidden = c.if_meets-hidden-2.ensures ∙ ap (λ rule. if_met p rule) c.new-2.ensures in
    let other = c.if_meets-other.ensures ∙ ap (λ rule. if_met p rule) c.new-3.ensures in
    let some : (length c.args.key.now == 0) ≡ false = sym c.is_empty.ensures ∙ c.if-is_empty.false in
    c.or-3.ensures
    ∙ ap₂ (λ two last. option_or two last)
    (c.or-2.ensures ∙ ap₂ (λ one next. option_or one next) first hidden) other
    ∙ map_with_key p c.args.key.now c.args.prepend.now (λ none. let e = ap (λ n. n == 0) none in absurd (cc))
