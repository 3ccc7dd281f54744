-- The words of a command line tell one command, if any.
use Rattle.std.proofs.Common.{◌≡◌, ◌≤◌, ◌<◌, ◌^◌, ◌⊎◌, inl, inr, ℕ, List, [], ◌∷◌, length, get_or, map, ap, sym, subst}
use Rattle.std.proofs.Common.{◌∙◌, arith}
use Rattle.std.specs.Prelude.{codes, decimal, Result, Ok, Err}
use Rattle.std.specs.Str.Parse.{ParsesUnsigned}
use Rattle.std.proofs.lemmas.Fmt.{decimal_injective, parse-decimal}
use Rattle.pt_run.specs.Command.{AskFor}
use Rattle.pt_run.specs.declared.command.Command.{Command}
use Rattle.pt_run.specs.declared.command.Command.TheVariants as command

-- a word that is not read is no number's
pub never_read : {E : Type 0} (word : List ℕ) (r : Result ℕ E) (error : E) (n : ℕ) → ParsesUnsigned 64 10 word r →
    r ≡ Err error → n < 2 ^ 64 → word ≡ decimal n → ⊥
never_read word r error n parses is small same =
    let e : Ok n ≡ Err error = sym (parse-decimal 64 n word r small small same parses) ∙ is in cc

-- and one that is read is that number's
pub read_as_written : {E : Type 0} (word : List ℕ) (r : Result ℕ E) (m n : ℕ) → ParsesUnsigned 64 10 word r →
    r ≡ Ok m → n < 2 ^ 64 → word ≡ decimal n → m ≡ n
read_as_written {E} word r m n parses is small same =
    let e : Ok m ≡ Ok n = sym is ∙ parse-decimal 64 n word r small small same parses in cc

-- a list of one word
pub one_word : {S : Type 0} (f : S → List ℕ) (words : List S) (word : S) → 1 ≤ length words → length words < 2 →
    word ≡ get_or words 0 word → map f words ≡ f word ∷ []
one_word f [] word low high is = absurd (omega (arith, low))
one_word f (w ∷ []) word low high is = ap (λ x. f x ∷ []) (sym is)
one_word f (w ∷ v ∷ ws) word low high is = absurd (omega (arith, high))

-- and of three
pub three_words : {S : Type 0} (f : S → List ℕ) (words : List S) (a b c : S) → 3 ≤ length words → length words < 4 →
    a ≡ get_or words 0 a → b ≡ get_or words 1 b → c ≡ get_or words 2 c → map f words ≡ f a ∷ f b ∷ f c ∷ []
three_words f [] a b c low high e1 e2 e3 = absurd (omega (arith, low))
three_words f (x ∷ []) a b c low high e1 e2 e3 = absurd (omega (arith, low))
three_words f (x ∷ y ∷ []) a b c low high e1 e2 e3 = absurd (omega (arith, low))
three_words f (x ∷ y ∷ z ∷ []) a b c low high e1 e2 e3 = λ i. f (sym e1 i) ∷ f (sym e2 i) ∷ f (sym e3 i) ∷ []
three_words f (x ∷ y ∷ z ∷ v ∷ ws) a b c low high e1 e2 e3 = absurd (omega (arith, high))

-- so many jobs are none that can be asked for
pub never_asked : (jobs seed : List ℕ) (number : ℕ) → jobs ≡ decimal number → number < 2 ^ 64 →
    ((number ≡ 0) ⊎ (10000 < number)) → (asked : Command) → AskFor (codes "gen" ∷ jobs ∷ seed ∷ []) asked → ⊥
never_asked jobs seed number is small out command.Script ask =
    let lengths : 3 ≡ 1 = ap (λ (w : List (List ℕ)). length w) ask.0 in
    omega (arith, lengths)
never_asked jobs seed number is small out (command.Generate count told) ask =
    let few = ask.1.1 in
    let some = ask.1.0 in
    let same : number ≡ count = decimal_injective number count small (omega (arith, few))
    (sym is ∙ ap (λ (w : List (List ℕ)). get_or w 1 []) ask.0) in
    go same few some out
  where
    go : number ≡ count → count ≤ 10000 → 1 ≤ count → ((number ≡ 0) ⊎ (10000 < number)) → ⊥
    go same few some (inl zero_jobs) = omega (arith, same, some, zero_jobs)
    go same few some (inr past) = omega (arith, same, few, past)

-- one word asks for no jobs
pub not_both : (words : List (List ℕ)) (jobs seed : ℕ) → AskFor words command.Script →
    AskFor words (command.Generate jobs seed) → ⊥
not_both words jobs seed script generate =
    let lengths : 1 ≡ 3 = ap (λ (w : List (List ℕ)). length w) (sym script.0 ∙ generate.0) in
    omega (arith, lengths)

-- and three for one number of jobs and one seed: what holds of these holds of whatever the words ask for
pub as_asked : (words : List (List ℕ)) (jobs seed : ℕ) (P : ℕ → ℕ → Type 0) →
    AskFor words (command.Generate jobs seed) → P jobs seed → (jobs' seed' : ℕ) →
    AskFor words (command.Generate jobs' seed') → P jobs' seed'
as_asked words jobs seed P asked holds jobs' seed' again =
    let same = sym asked.0 ∙ again.0 in
    let few = asked.1.1 in
    let few' = again.1.1 in
    let a : jobs ≡ jobs' = decimal_injective jobs jobs' (omega (arith, few)) (omega (arith, few'))
    (ap (λ (w : List (List ℕ)). get_or w 1 []) same) in
    let b : seed ≡ seed' = decimal_injective seed seed' asked.1.2 again.1.2
    (ap (λ (w : List (List ℕ)). get_or w 2 []) same) in
    subst (λ (n : ℕ). P n seed') a (subst (λ (m : ℕ). P jobs m) b holds)
