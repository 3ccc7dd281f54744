-- From the rules so far to all rules.
use Rattle.std.proofs.Common.{◌≡◌, ◌≢◌, ℕ, ◌+◌, ◌<◌, ◌≤◌, List, [], ◌∷◌, ◌++◌, length, take, get_or, Some, Ok, Err}
use Rattle.std.proofs.Common.{Result, sym, subst}
use Rattle.std.specs.Prelude.{IfErr, IsErrAnd}
use Rattle.std.specs.BTreeMap.{BTreeMap}
use Rattle.std.proofs.lemmas.List.{take_more}
use Rattle.std.proofs.lemmas.Option.{slice_get-get_or}
use Rattle.pt_maps.specs.declared.error.MapError.{MapError}
use Rattle.pt_maps.specs.declared.error.MapError.TheVariants.{Memory}
use Rattle.pt_maps.specs.declared.rule.IdRule.{IdRule}
use Rattle.pt_maps.specs.Refusal.{refusal_behind, AreAccepted, IsFirstRefusal}
use Rattle.pt_maps.specs.Index.{IsIndexed}
use Rattle.pt_maps.proofs.Lists.{take_past}
use Rattle.pt_maps.proofs.Apart.{first_refusal}

pub indexed_next : (rules : List IdRule) (place : ℕ) (none : IdRule) (guests hosts : BTreeMap ℕ ℕ) →
    place < length rules →
    IsIndexed (take place rules ++ get_or rules place none ∷ []) guests hosts →
    IsIndexed (take (place + 1) rules) guests hosts
indexed_next rules place none guests hosts within indexed =
    let P : List IdRule → Type 0 = λ front. IsIndexed front guests hosts in
    subst P (sym (take_more rules place none within)) indexed

pub indexed_whole : (rules : List IdRule) (place : ℕ) (guests hosts : BTreeMap ℕ ℕ) → length rules ≤ place →
    IsIndexed (take place rules) guests hosts → IsIndexed rules guests hosts
indexed_whole rules place guests hosts past indexed =
    let P : List IdRule → Type 0 = λ front. IsIndexed front guests hosts in
    subst P (take_past rules place past) indexed

pub refused_here : (rules : List IdRule) (place : ℕ) (none : IdRule) (error : MapError) → place < length rules →
    AreAccepted (take place rules) →
    (error ≢ Memory → refusal_behind (take place rules) (get_or rules place none) ≡ Some error) → error ≢ Memory →
    IsFirstRefusal rules error
refused_here rules place none error within accepted refused differs =
    first_refusal rules place (get_or rules place none) error accepted (slice_get-get_or rules place none within)
    (refused differs)

-- an error that is passed on
pub passed : {T : Type 0} (P : MapError → Type 0) (told : Result T MapError) (error : MapError) →
    IsErrAnd told (λ one. one ≡ error) → P error → IfErr told P
passed P (Ok done) error is holds = tt
passed P (Err one) error is holds = subst P (sym is) holds
