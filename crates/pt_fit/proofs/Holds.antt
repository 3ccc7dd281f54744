-- What is held on top, and what is left of it where a bracket ends.
use Rattle.std.proofs.Common.{◌≡◌, ◌<◌, ◌+◌, ℕ, List, [], ◌∷◌, ◌++◌, length, Bool, true, false}
use Rattle.std.proofs.Common.{refl, sym, ap, ◌∙◌, arith, nat_lt, ◌==◌, if◌then◌else◌, length-append}
use Rattle.pt_host.specs.declared.ids.Fd.{Fd}
use Rattle.pt_frame.specs.Held.{laid, handed, is_scope}
use Rattle.pt_frame.specs.declared.hold.Hold.{Hold}
use Rattle.pt_frame.specs.declared.hold.Hold.TheVariants as hold
use Rattle.pt_req.specs.Capability.{fsetid}
use Rattle.pt_law.specs.Keeps.{down_to, uncovered, unscoped}

-- no scope lies on top, so a new hold does
abbrev pub IsBare : List Hold → Type 0
IsBare holds = (one : Hold) → laid one holds ≡ one ∷ holds

pub nothing_bare : IsBare []
nothing_bare one = refl

pub same : (n : ℕ) → (n == n) ≡ true
same n = grind arith

-- the descriptor on top goes, with the slot on which it lies
pub handed_top : (fd : Fd) (holds : List Hold) → handed fd (hold.Fd fd ∷ hold.Slot 0 ∷ holds) ≡ holds
handed_top fd holds = ap (λ (b : Bool).
    if b then holds else hold.Fd fd ∷ handed fd (hold.Slot 0 ∷ holds)) (same fd.0)

past_end : (n : ℕ) → nat_lt n n ≡ false
past_end n = grind arith

within : (n m : ℕ) → n < m → nat_lt n m ≡ true
within n m l = grind arith

down_still : (holds : List Hold) → down_to (length holds) holds ≡ holds
down_still [] = refl
down_still (one ∷ holds) = ap (λ (b : Bool).
    if b then down_to (length (one ∷ holds)) holds else one ∷ holds) (past_end (length (one ∷ holds)))

-- what was taken in a bracket is what lies above its mark
pub down_over : (front holds : List Hold) → down_to (length holds) (front ++ holds) ≡ holds
down_over [] holds = down_still holds
down_over (one ∷ front) holds =
    let n : length (front ++ holds) ≡ length front + length holds = length-append front holds in
    ap (λ (b : Bool). if b then down_to (length holds) (front ++ holds) else one ∷ (front ++ holds))
    (within (length holds) (length (one ∷ (front ++ holds))) (omega (arith, n)))
    ∙ down_over front holds

-- where no scope lies on top, none is taken away
pub bare_uncovered : (holds : List Hold) → IsBare holds → uncovered holds ≡ holds
bare_uncovered [] b = refl
bare_uncovered (top ∷ holds) b = go (is_scope top) refl
  where
    top_of : List Hold → Bool
    top_of [] = false
    top_of (one ∷ rest) = is_scope one

    go : (scope : Bool) → is_scope top ≡ scope → (if scope then uncovered holds else top ∷ holds) ≡ top ∷ holds
    go false e = refl
    go true e =
        let laid_so : (if true then top ∷ laid (hold.Slot 0) holds else hold.Slot 0 ∷ top ∷ holds) ≡
        hold.Slot 0 ∷ top ∷ holds =
        ap (λ (s : Bool). if s then top ∷ laid (hold.Slot 0) holds else hold.Slot 0 ∷ top ∷ holds) (sym e) ∙ b
        (hold.Slot 0) in
        let no : true ≡ false = sym e ∙ ap top_of laid_so in
        absurd (cc)

-- what is held, with the scope of the capability on top of it or without
abbrev pub over : Bool → List Hold → List Hold
over true holds = hold.Dropped fsetid ∷ holds
over false holds = holds

pub laid_over : (dropped : Bool) (one : Hold) (holds : List Hold) →
    laid one (over dropped holds) ≡ over dropped (laid one holds)
laid_over true one holds = refl
laid_over false one holds = refl

pub unscoped_over : (dropped : Bool) (holds : List Hold) → unscoped (over dropped holds) ≡ unscoped holds
unscoped_over true holds = refl
unscoped_over false holds = refl

pub uncovered_over : (dropped : Bool) (holds : List Hold) → IsBare holds → uncovered (over dropped holds) ≡ holds
uncovered_over true holds b = bare_uncovered holds b
uncovered_over false holds b = bare_uncovered holds b
