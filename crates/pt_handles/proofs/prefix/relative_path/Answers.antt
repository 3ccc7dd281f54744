use Rattle.std.proofs.Common.{◌∙◌, ◌++◌, ap, subst, sym, Some, None}
use Rattle.std.proofs.Math.ListN.{replicate}
use Rattle.std.proofs.lemmas.Slice.Eq.{strip_prefix_is}
use Rattle.std.proofs.lemmas.Bool.Decides.{Decides-eqb}
use Rattle.pt_handles.specs.Paths.{HasNoSlash}
use Rattle.pt_handles.proofs.SlashLemmas.{parted, bare_behind}
use Rattle.pt_handles.proofs.prefix.relative_path.Goals as goal

pub returns-in-Some-clause-ok : goal.returns-in-Some-clause-ok
returns-in-Some-clause-ok c =
    let cut = parted c.in-Some.behind.now in
    record {
      slashes = cut.0;
      parts =
          strip_prefix_is Decides-eqb c.args.path.now c.args.prefix.now (Some c.in-Some.behind) c.in-Some.ensures.cases
          ∙ ap (λ l. c.args.prefix.now ++ l)
          (cut.1 ∙ ap (λ l. replicate cut.0 47 ++ l) (sym c.without_slashes.ensures));
      bare = subst HasNoSlash (sym c.without_slashes.ensures) (bare_behind c.in-Some.behind.now);
    }

pub returns-in-None-clause-outside : goal.returns-in-None-clause-outside
returns-in-None-clause-outside c =
    strip_prefix_is Decides-eqb c.args.path.now c.args.prefix.now None c.in-None.ensures.cases
