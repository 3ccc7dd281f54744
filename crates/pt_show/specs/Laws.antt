-- Believed. What texts tell: a value has one text, and a text is that of one value.
use Rattle.std.specs.Prelude.{◌≡◌, ℕ, ◌==◌, ◌||◌, ◌&&◌, Bool, true, false, IsTrue, List, [], ◌∷◌, ◌++◌, codes}
use Rattle.pt_show.specs.Texts.{word, number_text, signed_text, bytes_text, switch_text}
use Rattle.pt_show.specs.EditTexts.{edit_text}
use Rattle.pt_show.specs.HostTexts.{call_text, value_text, host_reply_text}
use Rattle.pt_show.specs.SessionTexts.{event_text, event_reply_text}
use Rattle.pt_show.specs.ActTexts.{act_text, act_reply_text}
use Rattle.pt_show.specs.AnswerTexts.{answer_text}

-- a space or a line feed
abbrev pub is_separator : ℕ → Bool
is_separator c = c == 32 || c == 10

-- a text that ends a word which stands before it: it is empty, or begins with a separator
abbrev pub IsParted : List ℕ → Type 0
IsParted [] = Unit {0}
IsParted (c ∷ rest) = IsTrue (is_separator c)

-- whether a text begins with this one, and a word of it ends there
abbrev pub begins_with : List ℕ → List ℕ → Bool
begins_with [] [] = true
begins_with [] (c ∷ rest) = is_separator c
begins_with (d ∷ ds) [] = false
begins_with (d ∷ ds) (c ∷ rest) = (d == c) && begins_with ds rest

-- It ends a word before it, and does not begin with the word `class`: behind a value whose class 0 printed nothing that
-- would be its class.
abbrev pub IsUnclassed : List ℕ → Type 0
IsUnclassed rest = IsParted rest × (begins_with (word (codes "class")) rest ≡ false)

-- The text tells its value, and where it ends.
pub record TellsBefore {A : Type 0} (Behind : List ℕ → Type 0) (text : A → List ℕ) : Type 0 where
  -- two values with one text are equal
  pub alone : (one other : A) → text one ≡ text other → one ≡ other
  -- they are also where something follows that may stand behind them, and then this is equal too
  pub followed : (one other : A) (rest rest' : List ℕ) → Behind rest → Behind rest' →
      text one ++ rest ≡ text other ++ rest' → (one ≡ other) × (rest ≡ rest')
  -- the text itself is parted from a word before it
  pub parted : (value : A) (rest : List ℕ) → Behind rest → IsParted (text value ++ rest)

-- it does so before any other words or lines
abbrev pub TellsValue : {A : Type 0} → (A → List ℕ) → Type 0
TellsValue text = TellsBefore IsParted text

-- and a value that may end in a class does so before any that begin with no class
abbrev pub TellsClassed : {A : Type 0} → (A → List ℕ) → Type 0
TellsClassed text = TellsBefore IsUnclassed text

-- so it is with everything that a report prints
pub record TextsTellValues : Type 0 where
  pub numbers : TellsValue number_text
  pub signed : TellsValue signed_text
  pub bytes : TellsValue bytes_text
  pub switches : TellsValue switch_text
  pub edits : TellsValue edit_text
  pub calls : TellsValue call_text
  pub values : TellsValue value_text
  pub host_replies : TellsValue host_reply_text
  pub events : TellsClassed event_text
  pub event_replies : TellsClassed event_reply_text
  pub acts : TellsClassed act_text
  pub act_replies : TellsClassed act_reply_text
  pub answers : TellsValue answer_text
