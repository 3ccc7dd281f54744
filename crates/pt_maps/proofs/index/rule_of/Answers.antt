use Rattle.std.proofs.Common.{sym, ◌∙◌, ◌≡◌, true, false}
use Rattle.pt_maps.specs.Rule.{holds, source}
use Rattle.pt_maps.proofs.Apart.{accepted_at}
use Rattle.pt_maps.proofs.Indexing.{rule_is_nearest, rule_is_none, rule_is_far}
use Rattle.pt_maps.proofs.index.rule_of.Goals as goal

pub returns-in_err-rule-clause-rule : goal.returns-in_err-rule-clause-rule
returns-in_err-rule-clause-rule c =
    let none = rule_is_far _ _ _ _ c.requires.indexed c.in_err-rule.ensures.none in
    c.from_residual.ensures ∙ sym none

pub returns-then-holds-clause-rule : goal.returns-then-holds-clause-rule
returns-then-holds-clause-rule c =
    let near = c.in_ok-rule.ensures.some in
    let held : holds (source c.args.direction c.in_ok-rule.rule) c.args.id ≡ true = cc in
    sym (rule_is_nearest _ _ _ _ near.place _ c.requires.accepted c.requires.indexed near.near near.here held)

pub returns-then-holds-clause-fits : goal.returns-then-holds-clause-fits
returns-then-holds-clause-fits c =
    let near = c.in_ok-rule.ensures.some in
    (accepted_at _ near.place _ c.requires.accepted near.here).ends

pub returns-else-holds-clause-rule : goal.returns-else-holds-clause-rule
returns-else-holds-clause-rule c =
    let near = c.in_ok-rule.ensures.some in
    let out : holds (source c.args.direction c.in_ok-rule.rule) c.args.id ≡ false = cc in
    sym (rule_is_none _ _ _ _ near.place _ c.requires.accepted c.requires.indexed near.near near.here out)
