-- Believed. What words mean, whatever reads and writes them.
use Rattle.std.specs.Prelude.{◌≡◌, ◌<◌, ℕ, List, Some}
use Rattle.std.specs.List.{AllByRecursion}
use Rattle.pt_text.specs.ByteWord.{byte_word, bytes_of}

-- bytes are read from their own word, and from no other
pub record HaveOneWord : Type 0 where
  pub read_back : (bytes : List ℕ) → AllByRecursion (λ byte. byte < 256) bytes → bytes_of (byte_word bytes) ≡ Some bytes
  pub one_spelling : (word bytes : List ℕ) → bytes_of word ≡ Some bytes → word ≡ byte_word bytes
