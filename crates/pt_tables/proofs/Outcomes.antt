-- Where tables agree, the words of outcomes say one outcome at most, unless memory runs out.
use Rattle.std.proofs.Common.{◌≡◌, ◌≢◌, ◌⊎◌, inl, inr, ℕ, ◌+◌, ◌<◌, ◌++◌, List, [], ◌∷◌, true, refl, sym, ap, subst}
use Rattle.std.proofs.Common.{◌∙◌}
use Rattle.pt_host.specs.Words.{EachTwo}
use Rattle.pt_tables.specs.Tables.{Tables, AreApart, AreHandlesApart, Agree}
use Rattle.pt_tables.specs.Rows.{Kind, number_rows, handle_rows, ChangesRow, EndsRow}
use Rattle.pt_tables.specs.Outcome.{EventOutcome, Leaves, Replies, Closes, RefusesEvent, Unless, ByRow, UnlessRow}
use Rattle.pt_tables.specs.Outcome.{IfRow, InEra}
use Rattle.pt_tables.specs.Outcome.{Below, Pins, Adds, last_u64}
use Rattle.pt_tables.specs.declared.reply.EventRefusal.{EventRefusal}
use Rattle.pt_tables.specs.declared.reply.EventRefusal.TheVariants.{Overtaken, Last, Memory}
use Rattle.pt_tables.specs.declared.reply.EventReply.{EventReply}
use Rattle.pt_tables.specs.declared.reply.EventReply.TheVariants as reply
use Rattle.pt_rows.proofs.Alone.{none_taken, takes_one, replaces_one}

-- there is one such outcome at most
abbrev pub IsOne : {T : Type 0} → (T → Tables → Type 0) → Type 0
IsOne {T} Q = (told told' : T) (after after' : Tables) → Q told after → Q told' after' →
    (told ≡ told') × (after ≡ after')

-- the same of what an event is told, where that is not that memory ran out
abbrev pub Alone : EventOutcome → Type 0
Alone Q = (told told' : EventReply) (after after' : Tables) → told ≢ reply.Refused Memory →
    told' ≢ reply.Refused Memory → Q told after → Q told' after' → (told ≡ told') × (after ≡ after')

pub leaves_alone : (one : EventReply) (Left : Tables → Type 0) →
    ((after after' : Tables) → Left after → Left after' → after ≡ after') → Alone (Leaves one Left)
leaves_alone one Left same told told' after after' w w' h k = (h.0 ∙ sym k.0, same after after' h.1 k.1)

pub tells_alone : (one : EventReply) (left : Tables) → Alone (Replies one left)
tells_alone one left = leaves_alone one (λ after. after ≡ left) (λ after after' h k. h ∙ sym k)

pub closes_alone : (Left : ℕ → Tables → Type 0) → IsOne Left → Alone (Closes Left)
closes_alone Left one told told' after after' w w' h k = let e = one h.0 k.0 after after' h.2 k.2 in
    (h.1 ∙ ap (λ (n : ℕ). reply.Done n) e.0 ∙ sym k.1, e.1)

pub unless_alone : (tables : Tables) (Holds : Type 0) (refusal : EventRefusal) (On : EventOutcome) → Alone On →
    Alone (Unless tables Holds refusal On)
unless_alone tables Holds refusal On alone told told' after after' w w' (inl h) (inl k) =
    alone told told' after after' w w' h.1 k.1
unless_alone tables Holds refusal On alone told told' after after' w w' (inl h) (inr k) = absurd (k.0 h.0)
unless_alone tables Holds refusal On alone told told' after after' w w' (inr h) (inl k) = absurd (h.0 k.0)
unless_alone tables Holds refusal On alone told told' after after' w w' (inr h) (inr k) =
    tells_alone (reply.Refused refusal) tables told told' after after' w w' h.1 k.1

pub era_alone : (tables : Tables) (era : ℕ) (On : EventOutcome) → Alone On → Alone (InEra tables era On)
era_alone tables era On alone = unless_alone tables (era ≡ tables.era) Overtaken On alone

pub below_alone : (tables : Tables) (counter : ℕ) (On : EventOutcome) → Alone On → Alone (Below tables counter On)
below_alone tables counter On alone = unless_alone tables (counter < last_u64) Last On alone

or_memory : (tables : Tables) (one : EventReply) (left : Tables) →
    Alone (λ told after. Replies one left told after ⊎ RefusesEvent tables Memory told after)
or_memory tables one left told told' after after' w w' (inl h) (inl k) =
    tells_alone one left told told' after after' w w' h k
or_memory tables one left told told' after after' w w' (inl h) (inr k) = absurd (w' k.0)
or_memory tables one left told told' after after' w w' (inr h) k = absurd (w h.0)

pub adds_alone : (tables : Tables) (one : EventReply) (left : Tables) → Alone (Adds tables one left)
adds_alone tables one left =
    below_alone tables tables.next_row (λ told after. Replies one left told after ⊎ RefusesEvent tables Memory told
    after)
    (or_memory tables one left)

-- rows of a kind stand apart by their serials, and live ones by their keys, where tables agree
pub record IsApart {R : Type 0} (kind : Kind R) (Apart : R → R → Type 0) : Type 0 where
  pub two : (tables : Tables) → Agree tables → EachTwo Apart (kind.rows tables)
  pub serials : (row other : R) → Apart row other → kind.keyed.serial row ≡ kind.keyed.serial other → ⊥
  pub keys : (row other : R) → Apart row other → kind.keyed.live row ≡ true → kind.keyed.live other ≡ true →
      kind.keyed.key row ≡ kind.keyed.key other → ⊥

pub numbers_apart : IsApart number_rows AreApart
numbers_apart = record {
  two = λ tables agree. agree.apart;
  serials = λ row other p e. p.serials e;
  keys = λ row other p l m e. p.numbers l m e;
}

pub handles_apart : IsApart handle_rows AreHandlesApart
handles_apart = record {
  two = λ tables agree. agree.handles_apart;
  serials = λ row other p e. p.serials e;
  keys = λ row other p l m e. p.handles l m e;
}

module _ {R : Type 0} (kind : Kind R) (Apart : R → R → Type 0) (apart : IsApart kind Apart) (tables : Tables)
    (agree : Agree tables) where
  -- one row changes to one thing
  pub changes_one : (row now : R) (after after' : Tables) → ChangesRow kind tables row now after →
      ChangesRow kind tables row now after' → after ≡ after'
  changes_one row now after after' h k =
      h.2 ∙ ap (λ (rows : List R). kind.with_rows rows tables)
      (replaces_one Apart (λ (other : R). kind.keyed.serial other ≡ kind.keyed.serial row)
      (λ a b p q r. apart.serials a b p (q ∙ sym r)) (apart.two tables agree) h.1 k.1 refl refl refl) ∙ sym k.2

  -- or ends
  pub ends_one : (row : R) (after after' : Tables) → EndsRow kind tables row after → EndsRow kind tables row after' →
      after ≡ after'
  ends_one row after after' h k =
      h.2 ∙ ap (λ (rows : List R). record (kind.with_rows rows tables) {
        closing = tables.closing ++ kind.closing row
            ∷ [];
      })
      (takes_one Apart (λ (other : R). kind.keyed.serial other ≡ kind.keyed.serial row)
      (λ a b p q r. apart.serials a b p (q ∙ sym r)) (apart.two tables agree) h.1 k.1 refl refl).1 ∙ sym k.2

  pub pins_alone : (row : R) (one : EventReply) → Alone (Pins tables kind row one)
  pins_alone row one =
      below_alone tables (kind.keyed.pins row) (Leaves one (ChangesRow kind tables row (kind.keyed.repinned row (kind.keyed.pins row +
      1))))
      (leaves_alone one (ChangesRow kind tables row (kind.keyed.repinned row (kind.keyed.pins row + 1))) (changes_one row _))

  module _ (Such : R → Type 0) (one : (row other : R) → Apart row other → Such row → Such other → ⊥) where
    pub row_alone : (None : EventOutcome) (Some : R → EventOutcome) → Alone None → ((row : R) → Alone (Some row)) →
        Alone (ByRow tables kind Such None Some)
    row_alone None Some none some told told' after after' w w' (inl h) (inl k) =
        none told told' after after' w w' h.1 k.1
    row_alone None Some none some told told' after after' w w' (inl h) (inr k) = absurd (none_taken Such h.0 k.1.1
        k.2)
    row_alone None Some none some told told' after after' w w' (inr h) (inl k) = absurd (none_taken Such k.0 h.1.1
        h.2)
    row_alone None Some none some told told' after after' w w' (inr h) (inr k) =
        let same : k.0 ≡ h.0 = sym (takes_one Apart Such one (apart.two tables agree) h.1.1 k.1.1 h.2 k.2).0 in
        some h.0 told told' after after' w w' h.3 (subst (λ (row : R). Some row told' after') same k.3)

    pub unless_row : (refusal : EventRefusal) (On : R → EventOutcome) → ((row : R) → Alone (On row)) →
        Alone (UnlessRow tables kind Such refusal On)
    unless_row refusal On alone =
        row_alone (RefusesEvent tables refusal) On (tells_alone (reply.Refused refusal) tables) alone

    pub if_row : (refusal : EventRefusal) (On : EventOutcome) → Alone On → Alone (IfRow tables kind Such refusal On)
    if_row refusal On alone =
        row_alone On (λ row. RefusesEvent tables refusal) alone (λ row. tells_alone (reply.Refused refusal) tables)
