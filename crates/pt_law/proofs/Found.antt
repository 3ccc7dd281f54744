-- A name is opened where no object may be made under it, or none that is there may be taken.
use Rattle.std.proofs.Common.{◌≡◌, ◌⊎◌, ◌&&◌, inl, inr, ℕ, List, true, false}
use Rattle.pt_host.specs.Flags.{includes, o_creat, o_excl}
use Rattle.pt_host.specs.Tree.{Tree}
use Rattle.pt_host.specs.LawfulTree.{OpensFound, OpensMade}
use Rattle.pt_host.specs.declared.ids.Fd.{Fd}
use Rattle.pt_host.specs.declared.flags.OpenFlags.{OpenFlags}

-- the opening is to make a new object, and to take none that is there
abbrev pub MakesNew : OpenFlags → Type 0
MakesNew flags = (includes flags.0 o_creat ≡ true) × (includes flags.0 o_excl ≡ true)

pub found_only : (tree : Tree) (dir : Fd) (name : List ℕ) (flags : OpenFlags) (fd : Fd) (after : Tree) →
    includes flags.0 o_creat ≡ false →
    OpensFound tree dir name flags fd after ⊎ OpensMade tree dir name flags fd after →
    OpensFound tree dir name flags fd after
found_only tree dir name flags fd after free (inl found) = found
found_only tree dir name flags fd after free (inr made) = let yes = made.1 in absurd (cc)

pub made_only : (tree : Tree) (dir : Fd) (name : List ℕ) (flags : OpenFlags) (fd : Fd) (after : Tree) →
    MakesNew flags → OpensFound tree dir name flags fd after ⊎ OpensMade tree dir name flags fd after →
    OpensMade tree dir name flags fd after
made_only tree dir name flags fd after new (inl found) =
    let both : (includes flags.0 o_creat && includes flags.0 o_excl) ≡ true = λ i. new.0 i && new.1 i in
    let none = found.1 in absurd (cc)
made_only tree dir name flags fd after new (inr made) = made
