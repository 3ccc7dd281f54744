use Rattle.std.proofs.Common.{◌≡◌, ◌-◌, IfSome, get_or, subst}
use Rattle.pt_frame.proofs.Second.{second_copied}
use Rattle.pt_frame.proofs.hold.Holds.second.Goals as goal

pub returns-clause-some : goal.returns-clause-some
returns-clause-some c =
    rw c.copied.ensures (second_copied c.self.inside.kept.items c.args.self.now c.len-there.result c.get.result
    c.self.view_is c.len-there.ensures.value c.if-there-lt2.false
    (subst (λ xs. IfSome c.get.result (λ one. one.now ≡ get_or xs (c.len-there.result - 2) one.now))
    c.as_slice.ensures.value c.get.ensures.lookup.1))
