use Rattle.std.proofs.Common.{◌≡◌, ℕ, List, ◌++◌, take, drop, Option, Some, None, Result, Ok, Err, ap, sym, subst}
use Rattle.std.proofs.Common.{◌∙◌, append_assoc}
use Rattle.std.specs.Prelude.{OnErr}
use Rattle.std.proofs.lemmas.List.{take-append-drop}
use Rattle.pt_run.specs.Streams.{IsPushed}
use Rattle.pt_run.specs.Output.{IsWritten, IsFrontWritten}
use Rattle.pt_run.specs.Passing.{IsBuffered}

written_pushed : (before now after : Option (List ℕ)) (done rest : List ℕ) (count : ℕ) → IsWritten before done now →
    IsPushed now rest count after → IsWritten before (done ++ take count rest) after
written_pushed None now after done rest count was pushed =
    let p = subst (λ (o : Option (List ℕ)). IsPushed o rest count after) was pushed in p
written_pushed (Some written) now after done rest count was pushed =
    let p = subst (λ (o : Option (List ℕ)). IsPushed o rest count after) was pushed in
    p ∙ ap Some (append_assoc written done (take count rest))

-- one push more
pub IsBuffered-pushed : (before now after : Option (List ℕ)) (text rest : List ℕ) (count : ℕ) →
    IsBuffered before text rest now → IsPushed now rest count after → IsBuffered before text (drop count rest) after
IsBuffered-pushed before now after text rest count buffered pushed = (
  buffered.0 ++ take count rest,
  buffered.1 ∙ ap (λ (xs : List ℕ). buffered.0 ++ xs) (sym (take-append-drop count rest))
      ∙ sym (append_assoc buffered.0 (take count rest) (drop count rest)),
  written_pushed before now after buffered.0 rest count buffered.2 pushed,
)

-- a text behind another
pub written_behind : (before mid after : Option (List ℕ)) (first second : List ℕ) → IsWritten before first mid →
    IsWritten mid second after → IsWritten before (first ++ second) after
written_behind None mid after first second was is = subst (λ (o : Option (List ℕ)). IsWritten o second after) was is
written_behind (Some written) mid after first second was is =
    subst (λ (o : Option (List ℕ)). IsWritten o second after) was is ∙ ap Some (append_assoc written first second)

-- a front of the first of two texts
pub front_before : (before after : Option (List ℕ)) (first second : List ℕ) → IsFrontWritten before first after →
    IsFrontWritten before (first ++ second) after
front_before before after first second front = (
  front.0,
  front.1 ++ second,
  ap (λ (xs : List ℕ). xs ++ second) front.2 ∙ append_assoc front.0 front.1 second,
  front.3,
)

-- the first of two texts, and a front of the second
pub front_behind : (before mid after : Option (List ℕ)) (first second : List ℕ) → IsWritten before first mid →
    IsFrontWritten mid second after → IsFrontWritten before (first ++ second) after
front_behind before mid after first second was front = (
  first ++ front.0,
  front.1,
  ap (λ (xs : List ℕ). first ++ xs) front.2 ∙ sym (append_assoc first front.0 front.1),
  written_behind before mid after first front.0 was front.3,
)

-- the same where a writing failed
pub front_at_err : {A E : Type 0} (r : Result A E) (before mid after : Option (List ℕ)) (first second text : List ℕ) →
    IsWritten before first mid → OnErr r (IsFrontWritten mid second after) →
    first ++ second ≡ text → OnErr r (IsFrontWritten before text after)
front_at_err (Ok value) before mid after first second text was front is = tt
front_at_err (Err error) before mid after first second text was front is =
    subst (λ (xs : List ℕ). IsFrontWritten before xs after) is (front_behind before mid after first second was front)

pub front_at_first : {A E : Type 0} (r : Result A E) (before after : Option (List ℕ)) (first second text : List ℕ) →
    IsFrontWritten before first after → first ++ second ≡ text → OnErr r (IsFrontWritten before text after)
front_at_first (Ok value) before after first second text front is = tt
front_at_first (Err error) before after first second text front is =
    subst (λ (xs : List ℕ). IsFrontWritten before xs after) is (front_before before after first second front)
