use Rattle.std.proofs.Common.{Some, None}
use Rattle.pt_frame.proofs.Ahead.{wants_asks, opens_asks, other_else}
use Rattle.pt_frame.proofs.machine.going.hear.Goals as goal

pub returns-in-Wants-clause-some : goal.returns-in-Wants-clause-some
returns-in-Wants-clause-some c = λ told tree is. record {
  wanted = c.in-Wants.act;
  opens = None;
  asks = wants_asks told tree _ (rw c.in-Wants.is at is);
  closings = c.stepped.ensures.closings;
  may_be = c.stepped.ensures.may;
  held = c.stepped.ensures.held;
  length_is = c.stepped.ensures.length;
}

pub returns-in-Opens-clause-some : goal.returns-in-Opens-clause-some
returns-in-Opens-clause-some c = λ told tree is. record {
  wanted = c.in-Opens.act;
  opens = Some c.in-Opens.scope;
  asks = opens_asks told tree _ _ (rw c.in-Opens.is at is);
  closings = c.stepped-in-Opens.ensures.closings;
  may_be = c.stepped-in-Opens.ensures.may;
  held = c.stepped-in-Opens.ensures.held;
  length_is = c.stepped-in-Opens.ensures.length;
}

pub returns-in_default-clause-none : goal.returns-in_default-clause-none
returns-in_default-clause-none c = λ told tree is.
    other_else told tree c.args.stop.now c.in_default.not-Wants c.in_default.not-Opens is
