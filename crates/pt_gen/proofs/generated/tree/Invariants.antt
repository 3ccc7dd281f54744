use Rattle.std.proofs.Common.{◌≡◌, ◌++◌, ◌-◌}
use Rattle.pt_gen.specs.Generated.{generated_tree, file_lines}
use Rattle.pt_gen.proofs.generated.tree.Given as goal

abbrev pub invariant-loop-file : goal.invariant-loop-file
invariant-loop-file l = l.lines.items ++ file_lines (16 - l.file) l.file ≡ generated_tree
