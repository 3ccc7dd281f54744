use Rattle.std.proofs.Common.{◌≡◌, ◌++◌, ◌∙◌, List, map, ap}
use Rattle.pt_iface.specs.declared.directory.DirEntry.{DirEntry}
use Rattle.pt_xattr.specs.Listed.{entry_told}
use Rattle.pt_xattr.proofs.Entries.{all_entries, fewer_left, one_entry_more}
use Rattle.pt_xattr.proofs.listed.rest_of.Goals as goal

pub loop-entries-init : goal.loop-entries-init
loop-entries-init c = ap (λ (l : List DirEntry). l ++ map entry_told c.args.reader) c.new-entries.ensures.items

pub loop-entries-preserved : goal.loop-entries-preserved
loop-entries-preserved c =
    let gives = rw c.in-Some.is at c.in_ok-entry.ensures in
    one_entry_more c.loop-entries.entries.items c.push.new.self.items _ c.in-Some.entry c.loop-entries.reader
    c.next_entry.new.reader c.loop-entries.invariant gives c.in_ok-push.ensures.items

pub loop-entries-smaller : goal.loop-entries-smaller
loop-entries-smaller c =
    let gives = rw c.in-Some.is at c.in_ok-entry.ensures in
    fewer_left c.in-Some.entry c.loop-entries.reader c.next_entry.new.reader gives

pub returns : goal.returns
returns c =
    let given = rw c.in_default.is at c.in_ok-entry.ensures in
    c.from_vec.ensures
    ∙ all_entries c.loop-entries.entries.items (map entry_told c.args.reader) c.loop-entries.reader
    c.loop-entries.invariant given.0
