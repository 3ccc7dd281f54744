use Rattle.std.proofs.Common.{◌≡◌, ◌∙◌, ◌∷◌, [], ℕ, List, IfSome, ap, codes, map, string_bytes, sym, subst}
use Rattle.std.proofs.lemmas.Slice.Eq.{bytes_eq-Decides}
use Rattle.pt_run.specs.Command.{AskFor}
use Rattle.pt_run.proofs.CommandWords.{one_word, three_words}
use Rattle.pt_run.proofs.command.command_of.Goals as goal

pub returns-then-eq-clause-some : goal.returns-then-eq-clause-some
returns-then-eq-clause-some c =
    let told : c.as_str.result.now ≡ codes "script" =
    (bytes_eq-Decides c.as_str.result.now (codes "script")).0 (sym c.eq.ensures ∙ c.if-eq.true) in (
      one_word string_bytes c.args.words.now c.word-item.result c.in-len1.len_at_least c.in-len1.len_below c.word-item.is
          ∙ ap (λ (word : List ℕ). word ∷ []) (sym c.as_str.ensures.value ∙ told),
      tt,
    )

pub returns-then-eq-2-clause-some : goal.returns-then-eq-2-clause-some
returns-then-eq-2-clause-some c =
    let told : c.as_str-in-len3.result.now ≡ codes "gen" =
    (bytes_eq-Decides c.as_str-in-len3.result.now (codes "gen")).0 (sym c.eq-in-len3.ensures ∙ c.if-eq-2.true) in
    let words : map string_bytes c.args.words.now
    ≡ codes "gen" ∷ c.as_str-then-eq-2.result.now ∷ c.as_str-then-eq-2-2.result.now ∷ [] =
    three_words string_bytes c.args.words.now c.word-item-then-words-lt4.result c.jobs-item.result c.seed-item.result
    c.in-len3.len_at_least c.in-len3.len_below c.word-item-then-words-lt4.is c.jobs-item.is c.seed-item.is
    ∙ ap (λ (word : List ℕ). word ∷ string_bytes c.jobs-item.result ∷ string_bytes c.seed-item.result ∷ [])
    (sym c.as_str-in-len3.ensures.value ∙ told)
    ∙ ap (λ (word : List ℕ). codes "gen" ∷ word ∷ string_bytes c.seed-item.result ∷ [])
    (sym c.as_str-then-eq-2.ensures.value)
    ∙ ap (λ (word : List ℕ). codes "gen" ∷ c.as_str-then-eq-2.result.now ∷ word ∷ [])
    (sym c.as_str-then-eq-2-2.ensures.value) in
    subst (λ (told : List (List ℕ)). IfSome c.generate.result (λ command. AskFor told command)) (sym words)
    c.generate.ensures.some
