-- A run that goes on over the same host, session and record, by the same plan.
use Rattle.std.proofs.Common.{◌∙◌, refl}
use Rattle.pt_fs.specs.Shared.{Shares}
use Rattle.pt_fs.specs.declared.shared.Run.{Run}

module _ {H R : Type 0} where
  pub shares_none : {a : Run H R} → Shares a a
  shares_none = record { host = refl; session = refl; writer = refl; plan = refl }

  pub shares_on : {a b c : Run H R} → Shares a b → Shares b c → Shares a c
  shares_on one two = record {
    host = two.host ∙ one.host;
    session = two.session ∙ one.session;
    writer = two.writer ∙ one.writer;
    plan = two.plan ∙ one.plan;
  }
