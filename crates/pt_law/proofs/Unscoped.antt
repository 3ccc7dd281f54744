-- What is held without the scopes: a new hold is laid on it, and what is taken of it is taken.
use Rattle.std.proofs.Common.{◌≡◌, ℕ, suc, List, [], ◌∷◌, length, Bool, true, false, nat_lt, refl, sym, ap, subst}
use Rattle.std.proofs.Common.{◌∙◌}
use Rattle.std.proofs.Common.{if◌then◌else◌, arith}
use Rattle.pt_host.specs.Words.{Takes, Takes.{here, there}}
use Rattle.pt_host.specs.declared.reply.HostReply.TheVariants as host
use Rattle.pt_frame.specs.Held.{is_scope, laid, opened}
use Rattle.pt_frame.specs.declared.act.ActReply.{ActReply}
use Rattle.pt_frame.specs.declared.act.ActReply.TheVariants.{Host}
use Rattle.pt_frame.specs.declared.hold.Hold.{Hold}
use Rattle.pt_law.specs.Keeps.{unscoped, down_to}

-- what is taken, where it is no scope
pub takes_plain : {one : Hold} {holds left : List Hold} → Takes one holds left → is_scope one ≡ false →
    Takes one (unscoped holds) (unscoped left)
takes_plain {one = one} (here {xs = holds}) e =
    subst (λ (b : Bool). Takes one (if b then unscoped holds else one ∷ unscoped holds) (unscoped holds)) (sym e) here
takes_plain {one = one} (there {y = top} {xs = holds} {ys = left} t) e = go (is_scope top) (takes_plain t e)
  where
    go : (b : Bool) → Takes one (unscoped holds) (unscoped left) →
        Takes one (if b then unscoped holds else top ∷ unscoped holds)
        (if b then unscoped left else top ∷ unscoped left)
    go true k = k
    go false k = there k

-- and where it is one
pub takes_scope : {one : Hold} {holds left : List Hold} → Takes one holds left → is_scope one ≡ true →
    unscoped left ≡ unscoped holds
takes_scope {one = one} (here {xs = holds}) e =
    subst (λ (b : Bool). unscoped holds ≡ (if b then unscoped holds else one ∷ unscoped holds)) (sym e) refl
takes_scope {one = one} (there {y = top} {xs = holds} {ys = left} t) e = go (is_scope top) (takes_scope t e)
  where
    go : (b : Bool) → unscoped left ≡ unscoped holds →
        (if b then unscoped left else top ∷ unscoped left) ≡ (if b then unscoped holds else top ∷ unscoped holds)
    go true k = k
    go false k = ap (λ (z : List Hold). top ∷ z) k

pub takes_laid : (one : Hold) (holds : List Hold) → Takes one (laid one holds) holds
takes_laid one [] = here
takes_laid one (top ∷ holds) = go (is_scope top) (takes_laid one holds)
  where
    go : (b : Bool) → Takes one (laid one holds) holds →
        Takes one (if b then top ∷ laid one holds else one ∷ top ∷ holds) (top ∷ holds)
    go true t = there t
    go false t = here

-- a scope that opens is none of it
pub opened_on : (scope : Hold) (told : ActReply) (holds : List Hold) → is_scope scope ≡ true →
    unscoped (opened scope told holds) ≡ unscoped holds
opened_on scope (Host (host.Ok told)) holds e =
    ap (λ (b : Bool). if b then unscoped holds else scope ∷ unscoped holds) e
opened_on scope told holds e = refl

from_zero : (n : ℕ) → nat_lt 0 (suc n) ≡ true
from_zero n = grind arith

-- nothing lies below a mark of nothing
pub all_down : (holds : List Hold) → down_to 0 holds ≡ []
all_down [] = refl
all_down (one ∷ holds) =
    ap (λ (b : Bool). if b then down_to 0 holds else one ∷ holds) (from_zero (length holds)) ∙ all_down holds
