use Rattle.std.proofs.Common.{◌≡◌, ◌-◌, suc, Err, ap, arith}
use Rattle.pt_words.specs.Fields.{pairs_in}
use Rattle.pt_words.specs.declared.fields.LineError.{LineError}
use Rattle.pt_words.specs.declared.fields.LineError.TheVariants.{Bad}
use Rattle.pt_words.proofs.PairsRead.{behind-nothing, behind-more, behind-none, behind-all}
use Rattle.pt_words.proofs.fields.next_pairs.Goals as goal

pub pairs-init : goal.pairs-init
pairs-init c = rw c.new-pairs.ensures.items (behind-nothing (pairs_in c.args.count c.args.words.now))

pub pairs-preserved : goal.pairs-preserved
pairs-preserved c =
    let fewer : suc (c.pairs.left - 1) ≡ c.pairs.left = omega arith in
    behind-more c.pairs.pairs.items c.push_pair.new.pairs.items c.in-Ok.field-0 c.pairs.left (c.pairs.left
    - 1) c.pairs.words c.push_pair.new.words
    (pairs_in c.args.count c.args.words.now) fewer c.in-Ok.ensures.ok c.in-Ok.ensures.pushed c.pairs.invariant

pub returns-in-Err-clause-bad : goal.returns-in-Err-clause-bad
returns-in-Err-clause-bad c = λ is.
    let bad : c.in-Err.error ≡ Bad = cc in
    behind-none c.pairs.pairs.items c.pairs.left c.pairs.words
    (pairs_in c.args.count c.args.words.now) c.pairs-test.true
    (c.in-Err.ensures.bad (ap (λ (e : LineError). Err e) bad)) c.pairs.invariant

pub returns-clause-ok : goal.returns-clause-ok
returns-clause-ok c =
    behind-all c.pairs.pairs.items c.pairs.left c.pairs.words (pairs_in c.args.count c.args.words.now)
    (omega arith) c.pairs.invariant
