use Rattle.std.proofs.Common.{◌≡◌, ◌<◌, ◌≤◌, ℕ, suc, ◌+◌, Bool, true, false, cond, not, ◌&&◌, List, [], ◌∷◌, ◌++◌}
use Rattle.std.proofs.Common.{length}
use Rattle.std.proofs.Common.{take, Option, Some, None, Ok, Err, refl, ap, sym, subst, ◌∙◌, arith}
use Rattle.std.specs.Prelude.{option_and_then, codes}
use Rattle.pt_tree.specs.declared.spec.TreeLine.{TreeLine}
use Rattle.pt_tree.specs.declared.spec.TreeLine.TheVariants.{Mount}
use Rattle.pt_text.specs.Words.{lines_of}
use Rattle.pt_script.specs.Script.{Begun, is_empty, may_stand, added, keeps_tree, with_line, with_text, going_on}
use Rattle.pt_script.specs.Script.{script_from, nothing}
use Rattle.pt_script.specs.FirstBad.{whole_lines, BeginScript, NamesFirstBad}
use Rattle.pt_script.specs.Line.{line_of}
use Rattle.pt_script.specs.declared.line.Line.{Line}
use Rattle.pt_script.specs.declared.line.Line.TheVariants.{Set, Tree, Fault, Job, Order, End}
use Rattle.pt_script.specs.declared.line.PlannedFault.{PlannedFault}
use Rattle.pt_script.specs.declared.settings.Settings.{Settings}
use Rattle.pt_fs.specs.declared.job.Job.{Job as RunJob}

abbrev fold_on : Option Begun → (Begun → Option Begun) → Option Begun
fold_on None next = None
fold_on (Some after) next = next after

-- what lines leave, all of them good
abbrev fold : Begun → List (List ℕ) → Option Begun
fold begun [] = Some begun
fold begun (text ∷ texts) = fold_on (with_text begun text) (λ after. fold after texts)

-- lines that are all good up to a place, and none behind it
fold-append : (xs ys : List (List ℕ)) (begun after : Begun) → fold begun (xs ++ ys) ≡ Some after →
    (mid : Begun) × (fold begun xs ≡ Some mid) × (fold mid ys ≡ Some after)
fold-append [] ys begun after is = (begun, refl, is)
fold-append (x ∷ xs) ys begun after is = go (λ mid. fold-append xs ys mid after) (with_text begun x) is
  where
    go : ((mid : Begun) → fold mid (xs ++ ys) ≡ Some after →
        (end : Begun) × (fold mid xs ≡ Some end) × (fold end ys ≡ Some after)) → (o : Option Begun) →
        fold_on o (λ b. fold b (xs ++ ys)) ≡ Some after →
        (end : Begun) × (fold_on o (λ b. fold b xs) ≡ Some end) × (fold end ys ≡ Some after)
    go below None e = cc
    go below (Some mid) e = below mid e

append-fold : (xs ys : List (List ℕ)) (begun mid after : Begun) → fold begun xs ≡ Some mid →
    fold mid ys ≡ Some after → fold begun (xs ++ ys) ≡ Some after
append-fold [] ys begun mid after is more = let same : begun ≡ mid = cc in
    subst (λ (b : Begun). fold b ys ≡ Some after) (sym same) more
append-fold (x ∷ xs) ys begun mid after is more = go (λ b. append-fold xs ys b mid after) (with_text begun x) is
  where
    go : ((b : Begun) → fold b xs ≡ Some mid → fold mid ys ≡ Some after → fold b (xs ++ ys) ≡ Some after) →
        (o : Option Begun) → fold_on o (λ b. fold b xs) ≡ Some mid → fold_on o (λ b. fold b (xs ++ ys)) ≡ Some after
    go below None e = cc
    go below (Some b) e = below b e more

not_last : (b : Bool) (lines : List (List ℕ)) → (b && is_empty (lines ++ [] ∷ [])) ≡ false
not_last true [] = refl
not_last true (x ∷ xs) = refl
not_last false lines = refl

-- a script's lines are all good, and end it
fold-from_script : (lines : List (List ℕ)) (number : ℕ) (begun after : Begun) →
    script_from number begun (lines ++ [] ∷ []) ≡ Ok after → fold begun lines ≡ Some after × (after.ended ≡ true)
fold-from_script [] number begun after is = go begun.ended refl is
  where
    go : (ended : Bool) → begun.ended ≡ ended → cond ended (Ok begun) (Err number) ≡ Ok after →
        (Some begun ≡ Some after) × (after.ended ≡ true)
    go true e is = let same : begun ≡ after = cc in (ap Some same, ap (λ (b : Begun). b.ended) (sym same) ∙ e)
    go false e is = cc
fold-from_script (text ∷ lines) number begun after is =
    go (λ b. fold-from_script lines (number + 1) b after) (with_text begun text)
    (subst (λ (b : Bool).
    cond b (cond begun.ended (Ok begun) (Err number))
    (going_on number (with_text begun text) (λ b. script_from (number + 1) b (lines ++ [] ∷ []))) ≡ Ok after)
    (not_last (is_empty text) lines) is)
  where
    go : ((b : Begun) → script_from (number + 1) b (lines ++ [] ∷ []) ≡ Ok after →
        (fold b lines ≡ Some after) × (after.ended ≡ true)) → (o : Option Begun) →
        going_on number o (λ b. script_from (number + 1) b (lines ++ [] ∷ [])) ≡ Ok after →
        (fold_on o (λ b. fold b lines) ≡ Some after) × (after.ended ≡ true)
    go below None e = cc
    go below (Some mid) e = below mid e

script-from_fold : (lines : List (List ℕ)) (number : ℕ) (begun after : Begun) → fold begun lines ≡ Some after →
    after.ended ≡ true → script_from number begun (lines ++ [] ∷ []) ≡ Ok after
script-from_fold [] number begun after is ended =
    let same : begun ≡ after = cc in
    ap (λ (b : Bool). cond b (Ok begun) (Err number)) (ap (λ (b : Begun). b.ended) same ∙ ended) ∙ ap Ok same
script-from_fold (text ∷ lines) number begun after is ended =
    subst (λ (b : Bool).
    cond b (cond begun.ended (Ok begun) (Err number))
    (going_on number (with_text begun text) (λ b. script_from (number + 1) b (lines ++ [] ∷ []))) ≡ Ok after)
    (sym (not_last (is_empty text) lines))
    (go (λ b e. script-from_fold lines (number + 1) b after e ended) (with_text begun text) is)
  where
    go : ((b : Begun) → fold b lines ≡ Some after → script_from (number + 1) b (lines ++ [] ∷ []) ≡ Ok after) →
        (o : Option Begun) →
        fold_on o (λ b. fold b lines) ≡ Some after →
        going_on number o (λ b. script_from (number + 1) b (lines ++ [] ∷ [])) ≡ Ok after
    go below None e = cc
    go below (Some mid) e = below mid e

and_true : (a b : Bool) → (a && b) ≡ true → (a ≡ true) × (b ≡ true)
and_true true b both = (refl, both)
and_true false b both = cc

is_empty-push : (xs : List TreeLine) (y : TreeLine) → is_empty (xs ++ y ∷ []) ≡ false
is_empty-push [] y = refl
is_empty-push (x ∷ xs) y = refl

no_clash : (b : Bool) → not b ≡ true → b ≡ true → ⊥
no_clash true e f = cc
no_clash false e f = cc

-- before the first line of a tree nothing but settings stands
abbrev OnlySets : Begun → Type 0
OnlySets begun = is_empty begun.tree ≡ true → (begun.ended ≡ false) × (is_empty begun.faults ≡ true)
    × (is_empty begun.jobs ≡ true) × (is_empty begun.order ≡ true)

only_sets : (begun after : Begun) (text : List ℕ) → OnlySets begun → with_text begun text ≡ Some after → OnlySets after
only_sets begun after text start is = go (line_of text) is
  where
    at : (line : Line) → may_stand begun line ≡ true → OnlySets (added begun line)
    at (Set setting) may = start
    at (Tree y) may = λ e. absurd (cc (sym (is_empty-push begun.tree y) ∙ e))
    at (Fault fault) may =
        λ e. absurd (no_clash (is_empty begun.tree)
        (and_true (not (is_empty begun.tree)) _ (and_true (not begun.ended) _ may).1).0 e)
    at (Job job) may = λ e.
        absurd (no_clash (is_empty begun.tree)
        (and_true (not (is_empty begun.tree)) _ (and_true (not begun.ended) _ may).1).0 e)
    at (Order places) may =
        λ e. absurd (no_clash (is_empty begun.tree)
        (and_true (not (is_empty begun.tree)) _ (and_true (not begun.ended) _ may).1).0 e)
    at End may = λ e. absurd (no_clash (is_empty begun.tree) (and_true (not begun.ended) _ may).1 e)

    stands : (line : Line) (b : Bool) → (may_stand begun line && keeps_tree begun line) ≡ b →
        cond b (Some (added begun line)) None ≡ Some after → OnlySets after
    stands line true e is = let same : added begun line ≡ after = cc in
        subst OnlySets same (at line (and_true (may_stand begun line) _ e).0)
    stands line false e is = let never : ⊥ = cc in absurd never

    go : (o : Option Line) → option_and_then (with_line begun) o ≡ Some after → OnlySets after
    go None e = let never : ⊥ = cc in absurd never
    go (Some line) e = stands line (may_stand begun line && keeps_tree begun line) refl e

fold-only_sets : (texts : List (List ℕ)) (begun after : Begun) → OnlySets begun → fold begun texts ≡ Some after →
    OnlySets after
fold-only_sets [] begun after start is = let same : begun ≡ after = cc in subst OnlySets same start
fold-only_sets (text ∷ texts) begun after start is =
    go (λ b s. fold-only_sets texts b after s) (with_text begun text) refl is
  where
    go : ((b : Begun) → OnlySets b → fold b texts ≡ Some after → OnlySets after) → (o : Option Begun) →
        with_text begun text ≡ o → fold_on o (λ b. fold b texts) ≡ Some after → OnlySets after
    go below None e is = let never : ⊥ = cc in absurd never
    go below (Some b) e is = below b (only_sets begun b text start e) is

open_end : (a b : Bool) → a ≡ false → b ≡ false → (not a && not b) ≡ true
open_end false false e f = refl
open_end true b e f = cc
open_end false true e f = cc

abbrev begun_of : Settings → List TreeLine → List PlannedFault → List RunJob → List ℕ → Bool → Begun
begun_of settings tree faults jobs order ended =
    record { settings = settings; tree = tree; faults = faults; jobs = jobs; order = order; ended = ended }

abbrev settings_alone : Settings → Begun
settings_alone settings = begun_of settings [] [] [] [] false

same_begun : (begun : Begun) → begun.tree ≡ [] → begun.faults ≡ [] → begun.jobs ≡ [] → begun.order ≡ [] →
    begun.ended ≡ false → settings_alone begun.settings ≡ begun
same_begun begun tree faults jobs order ended =
    λ i. begun_of begun.settings (sym tree i) (sym faults i) (sym jobs i) (sym order i) (sym ended i)

empty_is : {A : Type 0} (xs : List A) → is_empty xs ≡ true → xs ≡ []
empty_is [] e = refl
empty_is (x ∷ xs) e = cc

abbrev CanEnd : Begun → Type 0
CanEnd after = (more : List (List ℕ)) × (last : Begun) × (fold after more ≡ Some last) × (last.ended ≡ true)

-- settings can be followed by a tree and an end
settings_end : (settings : Settings) → CanEnd (settings_alone settings)
settings_end settings = (
  codes "mount 1 1 / 1" ∷ codes "end"
      ∷ [],
  record {
    settings = settings;
    tree = Mount 1 1 (47 ∷ []) true ∷ [];
    faults = [];
    jobs = [];
    order = [];
    ended = true;
  },
  refl,
  refl,
)

-- good lines can be ended
ends : (after : Begun) → OnlySets after → CanEnd after
ends after only = go after.ended refl
  where
    tree_at : (b : Bool) → after.ended ≡ false → is_empty after.tree ≡ b → CanEnd after
    tree_at true e none = let all = only none in
        subst CanEnd (same_begun after (empty_is after.tree none) (empty_is after.faults all.1)
        (empty_is after.jobs all.2) (empty_is after.order all.3) e) (settings_end after.settings)
    tree_at false e some = (
      codes "end" ∷ [],
      record after { ended = true },
      ap (λ (b : Bool). fold_on (cond (b && true) (Some (record after { ended = true })) None) (λ (b : Begun).
          Some b)) (open_end after.ended (is_empty after.tree) e some),
      refl,
    )

    go : (b : Bool) → after.ended ≡ b → CanEnd after
    go true e = ([], after, refl, e)
    go false e = tree_at (is_empty after.tree) e refl

begins : (lines : List (List ℕ)) (after : Begun) → fold nothing lines ≡ Some after → BeginScript lines
begins lines after is =
    let e = ends after (fold-only_sets lines nothing after (λ none. (refl, refl, refl, refl)) is) in
    (e.0, (e.1, script-from_fold (lines ++ e.0) 1 nothing e.1 (append-fold lines e.0 nothing after e.1 is e.2) e.3))

-- the first bad line of a text that is no script
abbrev FailsAt : ℕ → Begun → List (List ℕ) → ℕ → Type 0
FailsAt number begun lines n =
    (k : ℕ) × (n ≡ number + k) × (k ≤ length lines) × (mid : Begun) × (fold begun (take k lines) ≡ Some mid)
    × (k < length lines → fold begun (take (suc k) lines) ≡ None)

fails : (parts : List (List ℕ)) (number : ℕ) (begun : Begun) (n : ℕ) → script_from number begun parts ≡ Err n →
    FailsAt number begun (whole_lines parts) n
fails [] number begun n is = let same : number ≡ n = cc in
    (0, omega arith, omega arith, begun, refl, λ within. absurd (omega arith))
fails (text ∷ more) number begun n is = go (λ b. fails more (number + 1) b n) (is_empty text && is_empty more) is
  where
    last : (ended : Bool) → cond ended (Ok begun) (Err number) ≡ Err n → number ≡ n
    last true e = cc
    last false e = cc

    at : ((b : Begun) → script_from (number + 1) b more ≡ Err n → FailsAt (number + 1) b (whole_lines more) n) →
        (o : Option Begun) → with_text begun text ≡ o →
        going_on number o (λ b. script_from (number + 1) b more) ≡ Err n →
        FailsAt number begun (text ∷ whole_lines more) n
    at below None same e =
        let first : number ≡ n = cc in
        (0, omega arith, omega arith, begun, refl, λ within. ap (λ (o : Option Begun). fold_on o (λ b. fold b [])) same)
    at below (Some b) same e =
        let f = below b e in (
          suc f.0,
          (let h : n ≡ number + 1 + f.0 = f.1 in omega arith),
          (let h : f.0 ≤ length (whole_lines more) = f.2 in omega arith),
          f.3,
          ap (λ (o : Option Begun). fold_on o (λ b. fold b (take f.0 (whole_lines more)))) same ∙ f.4,
          λ within. ap (λ (o : Option Begun). fold_on o (λ b. fold b (take (suc f.0) (whole_lines more)))) same
              ∙ f.5 (omega arith),
        )

    go : ((b : Begun) → script_from (number + 1) b more ≡ Err n → FailsAt (number + 1) b (whole_lines more) n) →
        (empty : Bool) →
        cond empty (cond begun.ended (Ok begun) (Err number))
        (going_on number (with_text begun text) (λ b. script_from (number + 1) b more)) ≡ Err n →
        FailsAt number begun (cond empty [] (text ∷ whole_lines more)) n
    go below true e = let first : number ≡ n = last begun.ended e in
        (0, omega arith, omega arith, begun, refl, λ within. absurd (omega arith))
    go below false e = at below (with_text begun text) refl e

pub names_first_bad : NamesFirstBad
names_first_bad bytes number is =
    let f = fails (lines_of bytes) 1 nothing number is in (
      f.0,
      omega arith,
      f.2,
      begins (take f.0 (whole_lines (lines_of bytes))) f.3 f.4,
      λ within b. clash f.0 (f.5 within) b,
    )
  where
    clash : (k : ℕ) → fold nothing (take (suc k) (whole_lines (lines_of bytes))) ≡ None →
        BeginScript (take (suc k) (whole_lines (lines_of bytes))) → ⊥
    clash k none b =
        let all = fold-from_script (take (suc k) (whole_lines (lines_of bytes)) ++ b.0) 1 nothing b.1.0 b.1.1 in
        let part = fold-append (take (suc k) (whole_lines (lines_of bytes))) b.0 nothing b.1.0 all.0 in
        cc (sym none ∙ part.1)
