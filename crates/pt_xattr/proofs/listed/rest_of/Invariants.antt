use Rattle.std.proofs.Common.{◌≡◌, ◌++◌, length, map}
use Rattle.pt_xattr.specs.Listed.{entry_told}
use Rattle.pt_xattr.proofs.listed.rest_of.Given as goal

abbrev pub invariant-loop-entries : goal.invariant-loop-entries
invariant-loop-entries l = l.entries.items ++ map entry_told l.reader ≡ map entry_told l.initial.reader

abbrev pub decreases-loop-entries : goal.decreases-loop-entries
decreases-loop-entries l = length l.reader
