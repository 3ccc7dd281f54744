-- Believed. Where a numbered object comes from.
use Rattle.std.specs.Prelude.{◌≡◌, ◌⊎◌, ℕ, Some}
use Rattle.pt_law.specs.Findings.{LedTo}
use Rattle.pt_law.specs.Laws.{ObjectOf}
use Rattle.pt_law.specs.Story.{Opening}
use Rattle.pt_law.specs.World.{World}

-- it is what a job opened first as a root
abbrev pub WasRoot : World → ℕ → Type 0
WasRoot now object = (job : ℕ) × (now.past.roots job ≡ Some object)

-- the number was inserted for what a name led to, in a directory that was found under a number
abbrev pub WasNamed : World → ℕ → ℕ → Type 0
WasNamed now number object =
    (opening : Opening) × (parent : ℕ) × (now.story.origins number ≡ Some opening)
    × LedTo opening parent opening.name object

-- every numbered object was opened as a root, or by a name that led there from a directory that was found numbered
abbrev pub ComeFromNames : World → Type 0
ComeFromNames now =
    (number object : ℕ) → ObjectOf now number object → WasRoot now object ⊎ WasNamed now number object
