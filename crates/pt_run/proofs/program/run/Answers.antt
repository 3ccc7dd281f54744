use Rattle.std.proofs.Common.{◌≡◌, ℕ, List, map, string_bytes, subst}
use Rattle.pt_run.specs.Command.{AskFor}
use Rattle.pt_run.specs.Counted.{IsCountOf}
use Rattle.pt_run.specs.Output.{IsWritten, IsFrontWritten}
use Rattle.pt_run.specs.declared.command.Command.{Command}
use Rattle.pt_run.specs.declared.command.Command.TheVariants as command
use Rattle.pt_run.specs.declared.status.Status.TheVariants.{Done, WriteFault}
use Rattle.pt_run.proofs.CommandWords.{as_asked}
use Rattle.pt_run.proofs.program.run.Goals as goal

pub returns-in-None-clause-counted_ends : goal.returns-in-None-clause-counted_ends
returns-in-None-clause-counted_ends g c = λ jobs seed asked.
    c.command_of.ensures.none c.in-None.is (command.Generate jobs seed) asked

pub returns-in-Some-Generate-clause-counted : goal.returns-in-Some-Generate-clause-counted
returns-in-Some-Generate-clause-counted g c =
    let words = map string_bytes c.args.words.now in
    let there = c.in-Some-Generate in
    as_asked words there.jobs there.seed (λ (jobs seed : ℕ). c.write_counts.result ≡ Done → (lines : List ℕ)
    × IsCountOf jobs seed lines
    × IsWritten (g.O.Sink.written c.args.output.now) lines (g.O.Sink.written c.write_counts.new.output))
    (subst (λ (asked : Command). AskFor words asked) there.field-0-is there.ensures.some) c.write_counts.ensures.done

pub returns-in-Some-Generate-clause-count_fault : goal.returns-in-Some-Generate-clause-count_fault
returns-in-Some-Generate-clause-count_fault g c =
    let words = map string_bytes c.args.words.now in
    let there = c.in-Some-Generate in
    as_asked words there.jobs there.seed (λ (jobs seed : ℕ). c.write_counts.result ≡ WriteFault → (lines : List ℕ)
    × IsCountOf jobs seed lines
    × IsFrontWritten (g.O.Sink.written c.args.output.now) lines (g.O.Sink.written c.write_counts.new.output))
    (subst (λ (asked : Command). AskFor words asked) there.field-0-is there.ensures.some)
    c.write_counts.ensures.write_fault
