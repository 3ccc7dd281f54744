-- Pairs are taken back one after another.
use Rattle.std.proofs.Common.{ℕ, ◌+◌, ◌<◌, ◌≤◌, List, length, get_or, drop, refl, sym, subst, add_assoc, add-zero}
use Rattle.std.proofs.lemmas.List.{drop_more, drop_all}
use Rattle.pt_tables.specs.Tables.{Tables}
use Rattle.pt_tables.specs.Happens.{ForgetsOne, ForgetsAll}

pub forgets_next : (tables mid after : Tables) (list : List (ℕ × ℕ)) (i : ℕ) (d : ℕ × ℕ) (one more : ℕ) →
    i < length list → ForgetsOne tables (get_or list i d).0 (get_or list i d).1 one mid →
    ForgetsAll mid (drop (i + 1) list) more after → ForgetsAll tables (drop i list) (one + more) after
forgets_next tables mid after list i d one more l h k =
    subst (λ z. ForgetsAll tables z (one + more) after) (sym (drop_more list i d l)) (mid, one, more, h, k, refl)

pub forgets_done : (tables : Tables) (list : List (ℕ × ℕ)) (i : ℕ) → length list ≤ i →
    ForgetsAll tables (drop i list) 0 tables
forgets_done tables list i l = subst (λ z. ForgetsAll tables z 0 tables) (sym (drop_all i list l)) (refl, refl)

-- as far as the pairs have been taken back
pub forgets_on : (start tables mid : Tables) (list : List (ℕ × ℕ)) (i : ℕ) (d : ℕ × ℕ) (closings one : ℕ) →
    i < length list → ((more : ℕ) (after : Tables) → ForgetsAll tables (drop i list) more after →
    ForgetsAll start list (closings + more) after) →
    ForgetsOne tables (get_or list i d).0 (get_or list i d).1 one mid → (more : ℕ) (after : Tables) →
    ForgetsAll mid (drop (i + 1) list) more after → ForgetsAll start list (closings + one + more) after
forgets_on start tables mid list i d closings one l whole h = λ more after k.
    subst (λ n. ForgetsAll start list n after) (sym (add_assoc closings one more))
    (whole (one + more) after (forgets_next tables mid after list i d one more l h k))

pub forgets_whole : (start tables : Tables) (list : List (ℕ × ℕ)) (i closings : ℕ) → length list ≤ i →
    ((more : ℕ) (after : Tables) → ForgetsAll tables (drop i list) more after →
    ForgetsAll start list (closings + more) after) → ForgetsAll start list closings tables
forgets_whole start tables list i closings l whole =
    subst (λ n. ForgetsAll start list n tables) (add-zero closings) (whole 0 tables (forgets_done tables list i l))
