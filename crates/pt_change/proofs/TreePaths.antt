-- What lies below a directory, entry by entry: its paths to an object, and whether a directory is among it.
use Rattle.std.proofs.Common.{◌≡◌, ◌<◌, ◌-◌, ◌++◌, ◌∷◌, ◌==◌, ◌||◌, ℕ, zero, suc, Bool, true, false, List, Option}
use Rattle.std.proofs.Common.{refl, arith, ap, ◌∙◌, slice_get}
use Rattle.std.specs.List.{flat_map, fold, list_any}
use Rattle.std.proofs.lemmas.List.Sums.{fold-append}
use Rattle.pt_rules.specs.NameCalls.{lies_below, names_where}
use Rattle.pt_rules.specs.OpeningCalls.{lesser, lesser_where, path_and, paths_below}
use Rattle.pt_node.specs.declared.node.Node.{Node}

less_one : (n : ℕ) → n ≡ suc n - 1
less_one n = omega arith

-- the paths to the object by one entry of the directory with this path
abbrev pub entry_paths : ℕ → List Node → List ℕ → ℕ → List ℕ × ℕ → List (List ℕ)
entry_paths depth nodes path object entry =
    path_and (entry.1 == object) (path ++ 47 ∷ entry.0) (paths_below depth nodes (path ++ 47 ∷ entry.0) entry.1 object)

pub paths_below-more : (depth : ℕ) (nodes : List Node) (path : List ℕ) (dir object : ℕ) → 0 < depth →
    paths_below depth nodes path dir object
    ≡ flat_map (entry_paths (depth - 1) nodes path object) (names_where (slice_get nodes dir))
paths_below-more zero nodes path dir object some = absurd (omega arith)
paths_below-more (suc depth) nodes path dir object some =
    ap (λ n. flat_map (entry_paths n nodes path object) (names_where (slice_get nodes dir))) (less_one depth)

least_where : (leads : Bool) (best : Option (List ℕ)) (path : List ℕ) (more : List (List ℕ)) →
    fold lesser best (path_and leads path more) ≡ fold lesser (lesser_where leads best path) more
least_where true best path more = refl
least_where false best path more = refl

-- one entry after another
pub least_entry : (depth : ℕ) (nodes : List Node) (path : List ℕ) (object : ℕ) (best : Option (List ℕ))
    (entry : List ℕ × ℕ) (more : List (List ℕ × ℕ)) →
    fold lesser best (flat_map (entry_paths depth nodes path object) (entry ∷ more))
    ≡ fold lesser (fold lesser (lesser_where (entry.1 == object) best (path ++ 47 ∷ entry.0))
    (paths_below depth nodes (path ++ 47 ∷ entry.0) entry.1 object))
    (flat_map (entry_paths depth nodes path object) more)
least_entry depth nodes path object best entry more =
    fold-append lesser best (entry_paths depth nodes path object entry)
    (flat_map (entry_paths depth nodes path object) more)
    ∙ ap (λ b. fold lesser b (flat_map (entry_paths depth nodes path object) more))
    (least_where (entry.1 == object) best (path
    ++ 47 ∷ entry.0) (paths_below depth nodes (path ++ 47 ∷ entry.0) entry.1 object))

-- ---- a directory in another

pub lies_here : (depth : ℕ) (nodes : List Node) (object dir : ℕ) → (object == dir) ≡ true →
    lies_below depth nodes object dir ≡ true
lies_here zero nodes object dir here = here
lies_here (suc depth) nodes object dir here =
    ap (λ b. b || list_any (λ (entry : List ℕ × ℕ).
    lies_below depth nodes entry.1 dir) (names_where (slice_get nodes object))) here

pub lies_below-more : (depth : ℕ) (nodes : List Node) (object dir : ℕ) → 0 < depth → (object == dir) ≡ false →
    lies_below depth nodes object dir
    ≡ list_any (λ (entry : List ℕ × ℕ).
    lies_below (depth - 1) nodes entry.1 dir) (names_where (slice_get nodes object))
lies_below-more zero nodes object dir some apart = absurd (omega arith)
lies_below-more (suc depth) nodes object dir some apart =
    ap (λ b. b || list_any (λ (entry : List ℕ × ℕ).
    lies_below depth nodes entry.1 dir) (names_where (slice_get nodes object))) apart
    ∙ ap (λ n. list_any (λ (entry : List ℕ × ℕ).
    lies_below n nodes entry.1 dir) (names_where (slice_get nodes object))) (less_one depth)
