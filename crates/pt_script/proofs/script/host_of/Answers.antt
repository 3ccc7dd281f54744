use Rattle.std.proofs.Common.{arith, sym, subst}
use Rattle.pt_script.specs.Scan.{IsBadTree}
use Rattle.pt_script.specs.declared.script.ParseError.{ParseError}
use Rattle.pt_script.proofs.Scripts.{place_of-within, IsBadTree-behind}
use Rattle.pt_script.proofs.script.host_of.Goals as goal

pub error_behind-requires : goal.error_behind-requires
error_behind-requires c = omega (arith, place_of-within c.args.tree.now c.in-Err.error c.in-Err.ensures.err)

pub returns-in-Err-clause-bad : goal.returns-in-Err-clause-bad
returns-in-Err-clause-bad c =
    subst (λ (error : ParseError). IsBadTree c.args.above c.args.tree.now error) (sym c.error_behind.ensures)
    (IsBadTree-behind c.args.above c.args.tree.now c.in-Err.error c.in-Err.ensures.err)
