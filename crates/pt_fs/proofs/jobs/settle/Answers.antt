use Rattle.std.proofs.Common.{◌≡◌, ◌∙◌, refl, ap, sym}
use Rattle.std.proofs.lemmas.Option.{get_or_from_slice_get}
use Rattle.pt_job.specs.Machine.Job.{is_finished}
use Rattle.pt_fs.specs.declared.machine.Machine.{Machine}
use Rattle.pt_fs.proofs.Laying.{settles_none, all_go_still}
use Rattle.pt_fs.proofs.jobs.settle.Goals as goal

pub put_away-requires-clause-ended : goal.put_away-requires-clause-ended
put_away-requires-clause-ended c = λ it at.
    let seen = c.index.ensures ∙ get_or_from_slice_get c.args.going.now.items c.args.index it _ at in
    ap (λ (g : Machine). is_finished g.state) (sym seen) ∙ sym c.is_finished.ensures.result
    ∙ c.if-is_finished.true

pub returns-else-is_finished : goal.returns-else-is_finished
returns-else-is_finished c =
    let own = c.requires.laid.there c.args.id.0 c.args.index c.requires.index in
    let seen : c.index.result.now ≡ own.0 =
    c.index.ensures ∙ get_or_from_slice_get c.args.going.now.items c.args.index own.0 _ own.1 in
    record {
      kept = record {
        laid = c.requires.laid;
        all_go = all_go_still c.args.going.now.items c.args.index own.0 own.1
            (ap (λ (g : Machine). is_finished g.state) (sym seen) ∙ sym c.is_finished.ensures.result
            ∙ c.if-is_finished.false) c.requires.others_go;
        fit = c.requires.room;
      };
      same = refl;
      starts = refl;
      settles = settles_none c.requires.laid c.args.id.0 c.args.index c.requires.index;
    }
