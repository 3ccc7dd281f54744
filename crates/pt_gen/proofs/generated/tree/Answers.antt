use Rattle.std.proofs.Common.{◌+◌, ◌-◌, arith}
use Rattle.pt_gen.specs.Generated.{file_line, file_lines, generated_tree}
use Rattle.pt_gen.proofs.Making.{put, next_file}
use Rattle.pt_gen.proofs.generated.tree.Goals as goal

pub loop-file-preserved : goal.loop-file-preserved
loop-file-preserved c =
    let file = c.loop-file.file in
    let more = c.loop-file-test.true in
    put c.loop-file.lines.items c.push-in-loop-file.new.self.items (file_lines (16 - file) file)
    (file_lines (16 - (file + 1)) (file + 1)) generated_tree (file_line file) c.in_ok-file_line.field-0
    c.in_ok-push-2.ensures.items c.in_ok-file_line.ensures (next_file 16 file (omega (arith, more)))
    c.loop-file.invariant
