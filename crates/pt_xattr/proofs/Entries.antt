-- Entries that are read one after another.
use Rattle.std.proofs.Common.{◌≡◌, ◌<◌, ◌++◌, ◌∙◌, ℕ, suc, List, [], ◌∷◌, map, length, ap, sym, arith}
use Rattle.std.proofs.Common.{append-nil, append_assoc}
use Rattle.std.proofs.lemmas.List.{length-map}
use Rattle.pt_iface.specs.declared.directory.DirEntry.{DirEntry}
use Rattle.pt_handles.specs.Record.{Dirent}
use Rattle.pt_xattr.specs.Listed.{entry_told}

-- one entry more
pub one_entry_more : (old new all : List DirEntry) (entry : DirEntry) (before after : List Dirent) →
    old ++ map entry_told before ≡ all → map entry_told before ≡ entry ∷ map entry_told after →
    new ≡ old ++ entry ∷ [] → new ++ map entry_told after ≡ all
one_entry_more old new all entry before after so gives pushed =
    ap (λ (l : List DirEntry). l ++ map entry_told after) pushed
    ∙ append_assoc old (entry ∷ []) (map entry_told after)
    ∙ ap (λ (l : List DirEntry). old ++ l) (sym gives) ∙ so

pub fewer_left : (entry : DirEntry) (before after : List Dirent) →
    map entry_told before ≡ entry ∷ map entry_told after → length after < length before
fewer_left entry before after gives =
    let one : length (map entry_told before) ≡ suc (length (map entry_told after)) =
    ap (λ (l : List DirEntry). length l) gives in
    let was = length-map before entry_told in
    let is = length-map after entry_told in
    omega (arith, one, was, is)

-- and all of them
pub all_entries : (old all : List DirEntry) (before : List Dirent) → old ++ map entry_told before ≡ all → before ≡ [] →
    old ≡ all
all_entries old all before so none =
    sym (append-nil old) ∙ ap (λ (l : List Dirent). old ++ map entry_told l) (sym none) ∙ so
