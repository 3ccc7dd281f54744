-- What becomes of an index of the live rows where a row comes, changes or goes.
use Rattle.std.proofs.Common.{◌≡◌, ◌≢◌, ⊎_elim, ℕ, Bool, true, false, Option, Some, None, refl, sym, ap, ◌∙◌}
use Rattle.std.proofs.lemmas.Option.{same_Some}
use Rattle.pt_rows.specs.Index.{Puts, SameAt, Leaves, Indexes}

pub puts_here : {K X : Type 0} (key : K) (value : Option X) (old new : K → Option X) → Puts key value old new →
    new key ≡ value
puts_here key value old new h = ⊎_elim (λ same. same.1) (λ other. absurd (other.0 refl)) (h key)

pub puts_there : {K X : Type 0} (key : K) (value : Option X) (old new : K → Option X) → Puts key value old new →
    (other : K) → other ≢ key → new other ≡ old other
puts_there key value old new h other n = ⊎_elim (λ same. absurd (n same.0)) (λ apart. apart.1) (h other)

-- what was put and taken out again
pub puts_back : {K X : Type 0} (key : K) (value : Option X) (old mid new : K → Option X) → old key ≡ None →
    Puts key value old mid → Puts key None mid new → SameAt old new
puts_back key value old mid new none h k = λ other.
    ⊎_elim (λ same. same.1 ∙ sym none ∙ ap old (sym same.0)) (λ apart. apart.1
    ∙ puts_there key value old mid h other apart.0) (k other)

module _ {R K : Type 0} (is_live : R → Bool) (key : R → K) where
  pub index_same : (rows : ℕ → Option R) (old new : K → Option ℕ) → SameAt old new → Indexes is_live key rows old →
      Indexes is_live key rows new
  index_same rows old new same h = record {
    sound = λ k serial e. h.sound k serial (sym (same k) ∙ e);
    whole = λ serial row e l. same (key row) ∙ h.whole serial row e l;
  }

  -- a live row comes, whose key is not there yet
  pub index_inserted : (rows rows' : ℕ → Option R) (old new : K → Option ℕ) (row : R) (place : ℕ) →
      is_live row ≡ true → rows place ≡ None → old (key row) ≡ None → Puts place (Some row) rows rows' →
      Puts (key row) (Some place) old new → Indexes is_live key rows old → Indexes is_live key rows' new
  index_inserted rows rows' old new row place live none absent r p h = record {
    sound = λ k serial e. ⊎_elim
        (λ same. let s : place ≡ serial = same_Some place serial (sym same.1 ∙ e) in
        (row, sym (ap rows' s) ∙ puts_here place (Some row) rows rows' r, live, sym same.0))
        (λ apart. let found = h.sound k serial (sym apart.1 ∙ e) in (
          found.0,
          puts_there place (Some row) rows rows' r serial (λ (s : serial ≡ place).
              absurd (let e1 : None ≡ Some found.0 = sym none ∙ sym (ap rows s) ∙ found.1 in cc))
              ∙ found.1,
          found.2,
          found.3,
        ))
        (p k);
    whole = λ serial other e l. ⊎_elim
        (λ same. let s : row ≡ other = same_Some row other (sym same.1 ∙ e) in
        ap new (sym (ap key s)) ∙ puts_here (key row) (Some place) old new p ∙ ap Some (sym same.0))
        (λ apart. let was = h.whole serial other (sym apart.1 ∙ e) l in
        puts_there (key row) (Some place) old new p (key other) (λ (s : key other ≡ key row).
        absurd (let e1 : None ≡ Some serial = sym absent ∙ sym (ap old s) ∙ was in cc)) ∙ was)
        (r serial);
  }

  -- a row changes in what it is not found by
  pub index_changed : (rows rows' : ℕ → Option R) (index : K → Option ℕ) (was now : R) (place : ℕ) →
      rows place ≡ Some was → is_live now ≡ is_live was → key now ≡ key was → Puts place (Some now) rows rows' →
      Indexes is_live key rows index → Indexes is_live key rows' index
  index_changed rows rows' index was now place there lives same_key r h = record {
    sound = λ k serial e. let found = h.sound k serial e in ⊎_elim
        (λ same. let s : was ≡ found.0 = same_Some was found.0 (sym there ∙ sym (ap rows same.0) ∙ found.1) in
        (now, same.1, lives ∙ ap is_live s ∙ found.2, same_key ∙ ap key s ∙ found.3))
        (λ apart. (found.0, apart.1 ∙ found.1, found.2, found.3))
        (r serial);
    whole = λ serial other e l. ⊎_elim
        (λ same. let s : now ≡ other = same_Some now other (sym same.1 ∙ e) in
        ap index (sym (ap key s) ∙ same_key) ∙ h.whole place was there (sym lives ∙ ap is_live s ∙ l)
        ∙ ap Some (sym same.0))
        (λ apart. h.whole serial other (sym apart.1 ∙ e) l)
        (r serial);
  }

  -- a live row goes or dies
  pub index_left : (rows rows' : ℕ → Option R) (old new : K → Option ℕ) (was : R) (place : ℕ) (value : Option R) →
      rows place ≡ Some was → is_live was ≡ true → ((now : R) → value ≡ Some now → is_live now ≡ false) →
      Puts place value rows rows' → Puts (key was) None old new → Indexes is_live key rows old →
      Indexes is_live key rows' new
  index_left rows rows' old new was place value there live dead r p h = record {
    sound = λ k serial e. ⊎_elim
        (λ same. absurd (let e1 : None ≡ Some serial = sym same.1 ∙ e in cc))
        (λ apart. let found = h.sound k serial (sym apart.1 ∙ e) in (
          found.0,
          puts_there place value rows rows' r serial (λ (s : serial ≡ place).
              apart.0 (let t : was ≡ found.0 = same_Some was found.0 (sym there ∙ sym (ap rows s) ∙ found.1) in
              sym found.3 ∙ sym (ap key t))) ∙ found.1,
          found.2,
          found.3,
        ))
        (p k);
    whole = λ serial other e l. ⊎_elim
        (λ same. absurd (let d = dead other (sym same.1 ∙ e) in cc))
        (λ apart. let found = h.whole serial other (sym apart.1 ∙ e) l in
        puts_there (key was) None old new p (key other) (λ (s : key other ≡ key was).
        apart.0 (let mine = h.whole place was there live in same_Some serial place (sym found ∙ ap old s ∙ mine)))
        ∙ found)
        (r serial);
  }

  -- a row that was not live goes
  pub index_gone : (rows rows' : ℕ → Option R) (index : K → Option ℕ) (was : R) (place : ℕ) → rows place ≡ Some was →
      is_live was ≡ false → Puts place None rows rows' → Indexes is_live key rows index →
      Indexes is_live key rows' index
  index_gone rows rows' index was place there dead r h = record {
    sound = λ k serial e. let found = h.sound k serial e in ⊎_elim
        (λ same. absurd (let s : was ≡ found.0 = same_Some was found.0 (sym there ∙ sym (ap rows same.0) ∙ found.1) in
        let l = found.2 in let m : is_live found.0 ≡ false = sym (ap is_live s) ∙ dead in cc))
        (λ apart. (found.0, apart.1 ∙ found.1, found.2, found.3))
        (r serial);
    whole = λ serial other e l. ⊎_elim
        (λ same. absurd (let e1 : None ≡ Some other = sym same.1 ∙ e in cc))
        (λ apart. h.whole serial other (sym apart.1 ∙ e) l)
        (r serial);
  }

  -- a row goes, from the index too where it is live
  pub index_ended : (live : Bool) (rows rows' : ℕ → Option R) (old new : K → Option ℕ) (was : R) (place : ℕ) →
      rows place ≡ Some was → is_live was ≡ live → Puts place None rows rows' → Leaves live (key was) old new →
      Indexes is_live key rows old → Indexes is_live key rows' new
  index_ended true rows rows' old new was place there l r p h =
      index_left rows rows' old new was place None there l (λ now e. absurd (cc)) r p h
  index_ended false rows rows' old new was place there l r p h =
      index_same rows' old new p (index_gone rows rows' old was place there l r h)
