use Rattle.std.proofs.Common.{◌≡◌, ◌≤◌, List, ℕ, ap, arith, length, subst}
use Rattle.pt_run.specs.Output.{IsWritten}
use Rattle.pt_run.specs.Run.{IsReportWith}
use Rattle.pt_run.specs.declared.status.Status.TheVariants.{Done, CredentialsLost}
use Rattle.pt_run.proofs.Reporting.{read_as}
use Rattle.pt_run.proofs.program.run_script.Goals as goal

pub returns-in-Ok-clause-done : goal.returns-in-Ok-clause-done
returns-in-Ok-clause-done g c =
    let old = g.O.Sink.written c.args.output.now in
    let new = g.O.Sink.written c.write_report.new.output in
    let most = c.in-Ok.ensures.short in
    let long = c.as_slice.ensures.len in
    let same = ap length c.as_slice.ensures.value in
    let short : length c.in-Ok.bytes.items ≤ 16777216 = omega (arith, most, long, same) in
    read_as (g.I.Source.left c.args.input.now) c.in-Ok.bytes.items c.write_report.result Done old new
    c.in-Ok.ensures.whole short
    (subst (λ (bytes : List ℕ). c.write_report.result ≡ Done → (report : List ℕ) × IsReportWith bytes Done report
    × IsWritten old report new) c.as_slice.ensures.value c.write_report.ensures.done)

pub returns-in-Ok-clause-lost_seat : goal.returns-in-Ok-clause-lost_seat
returns-in-Ok-clause-lost_seat g c =
    let old = g.O.Sink.written c.args.output.now in
    let new = g.O.Sink.written c.write_report.new.output in
    let most = c.in-Ok.ensures.short in
    let long = c.as_slice.ensures.len in
    let same = ap length c.as_slice.ensures.value in
    let short : length c.in-Ok.bytes.items ≤ 16777216 = omega (arith, most, long, same) in
    read_as (g.I.Source.left c.args.input.now) c.in-Ok.bytes.items c.write_report.result CredentialsLost old new
    c.in-Ok.ensures.whole short
    (subst (λ (bytes : List ℕ). c.write_report.result ≡ CredentialsLost → (report : List ℕ)
    × IsReportWith bytes CredentialsLost report × IsWritten old report new) c.as_slice.ensures.value
    c.write_report.ensures.lost)
