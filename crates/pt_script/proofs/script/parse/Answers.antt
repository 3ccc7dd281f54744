use Rattle.std.proofs.Common.{ap, ◌∙◌}
use Rattle.pt_script.specs.Settings.{set_lines}
use Rattle.pt_script.proofs.Scripts.{IsBadLine-tree, IsBadLine-line, IsScriptOf-read}
use Rattle.pt_script.proofs.script.parse.Goals as goal

pub returns-in-Err-clause-bad : goal.returns-in-Err-clause-bad
returns-in-Err-clause-bad c =
    IsBadLine-tree c.args.bytes.now c.in-Ok.scan.lines c.in-Ok.scan.bad _ _ _ c.in-Ok.ensures.scanned
    (c.lines.ensures ∙ ap set_lines c.into_parts-settings.ensures.settings) c.into_parts-settings.ensures.tree
    c.in-Err.ensures.bad

pub returns-in-Some-clause-bad : goal.returns-in-Some-clause-bad
returns-in-Some-clause-bad c =
    IsBadLine-line c.args.bytes.now c.in-Ok.scan.lines c.in-Ok.scan.bad _ c.in-Some.line _ c.in-Ok.ensures.scanned
    c.in-Some.is c.into_parts-settings.ensures.tree c.in-Ok-host_of.ensures.ok

pub returns-in-Ok-plan_faults-clause-ok : goal.returns-in-Ok-plan_faults-clause-ok
returns-in-Ok-plan_faults-clause-ok c =
    IsScriptOf-read c.args.bytes.now c.in-Ok.scan.lines c.in-Ok.scan.bad _ _ _ _ _ _ _ c.in-Ok.ensures.scanned
    c.in-None.is c.into_parts-settings.ensures.settings c.into_parts-settings.ensures.tree
    (c.as_slice.ensures.value ∙ c.into_parts-settings.ensures.faults) c.in-Ok-host_of.ensures.ok
    c.in-Ok-plan_faults.ensures c.into_parts-settings.ensures.jobs c.into_parts-settings.ensures.schedule
