-- What a file holds after a cut, a lengthening or a write.
use Rattle.std.proofs.Common.{◌≡◌, ◌<◌, ◌≤◌, ◌+◌, ◌-◌, ◌++◌, ◌∷◌, [], inl, inr, ℕ, zero, suc, List, Some, take, drop}
use Rattle.std.proofs.Common.{length, replicate, min, refl, ap, sym, ◌∙◌, arith, slice_get, slice_set}
use Rattle.std.proofs.lemmas.Bool.{cases_lt}
use Rattle.std.proofs.Math.Seq.{take-append-add}
use Rattle.pt_host.specs.declared.seat.HostSeat.{HostSeat}
use Rattle.pt_rules.specs.ContentCalls.{after_writing, becomes_written, resized, with_written, written}
use Rattle.pt_rules.specs.Rows.{left_by}
use Rattle.pt_node.specs.Changes.{refilled}
use Rattle.pt_node.specs.Node.{bytes_in}
use Rattle.pt_rules.specs.State.{State, time_of}
use Rattle.pt_node.specs.declared.node.Node.{Node}
use Rattle.pt_node.specs.Laws.ChangedThere.{changed_is}
use Rattle.pt_store.proofs.KeptStore.{nodes_in}

no_more : (xs : List ℕ) → xs ++ [] ≡ xs
no_more [] = refl
no_more (x ∷ xs) = ap (λ more. x ∷ more) (no_more xs)

-- cut or lengthened, by parts
pub resized_parts : (size kept : ℕ) (old : List ℕ) → kept ≡ min (length old) size →
    resized size old ≡ take kept old ++ replicate (size - kept) 0
resized_parts size kept old is = elim (cases_lt size (length old)) [
  | inl shorter ↦ (let k : kept ≡ size = omega (arith, is, shorter) in
      let none : size - length old ≡ 0 = omega (arith, shorter) in
      let none_too : size - kept ≡ 0 = omega (arith, k) in
      ap (λ n. take {A = ℕ} size (old ++ replicate n 0)) none ∙ ap (take {A = ℕ} size) (no_more old)
      ∙ sym (ap (λ n. take {A = ℕ} n old ++ replicate (size - kept) 0) k
      ∙ ap (λ n. take {A = ℕ} size old ++ replicate n 0) none_too ∙ no_more (take {A = ℕ} size old)))
  | inr longer ↦ (let k : kept ≡ length old = omega (arith, is, longer) in
      let e : size ≡ length old + (size - length old) = omega (arith, longer) in
      let zeros : List ℕ = replicate (size - length old) 0 in
      ap (λ n. take {A = ℕ} n (old ++ zeros)) e ∙ take-append-add old zeros (size - length old)
      ∙ ap (λ more. old ++ more) (all_zeros (size - length old))
      ∙ sym (ap (λ n. take {A = ℕ} n old ++ replicate (size - n) 0) k ∙ ap (λ front. front ++ zeros) (whole old)))
]
  where
    all_zeros : (n : ℕ) → take {A = ℕ} n (replicate n 0) ≡ replicate n 0
    all_zeros zero = refl
    all_zeros (suc n) = ap (λ more. 0 ∷ more) (all_zeros n)

    whole : (xs : List ℕ) → take (length xs) xs ≡ xs
    whole [] = refl
    whole (x ∷ xs) = ap (λ more. x ∷ more) (whole xs)

-- what stands from an offset on, by where it can begin
pub rest_parts : (offset start : ℕ) (bytes : List ℕ) → start ≡ min (length bytes) offset →
    drop start bytes ≡ drop offset bytes
rest_parts offset start bytes is = elim (cases_lt offset (length bytes)) [
  | inl before ↦ (let e : start ≡ offset = omega (arith, is, before) in ap (λ n. drop n bytes) e)
  | inr past ↦ (let e : start ≡ length bytes = omega (arith, is, past) in
      ap (λ n. drop n bytes) e ∙ past_end (length bytes) bytes (omega arith) ∙ sym (past_end offset bytes past))
]
  where
    past_end : (k : ℕ) (xs : List ℕ) → length xs ≤ k → drop k xs ≡ []
    past_end zero [] low = refl
    past_end (suc k) [] low = refl
    past_end zero (x ∷ xs) low = absurd (omega arith)
    past_end (suc k) (x ∷ xs) low = past_end k xs (omega arith)

-- the objects after a write of something
pub written_there : (state : State) (seat : HostSeat) (object start : ℕ) (bytes : List ℕ) (node : Node) →
    0 < length bytes → slice_get state.nodes object ≡ Some node →
    with_written state seat object start bytes
    ≡ nodes_in state (slice_set state.nodes object
    (refilled seat (time_of state) (written start bytes (bytes_in node.content)) node))
written_there state seat object start [] node some there = absurd (omega arith)
written_there state seat object start (byte ∷ bytes) node some there =
    ap (nodes_in state)
    (changed_is object (after_writing seat (time_of state) start (byte ∷ bytes)) state.nodes node there)

-- a write, by what becomes of its object
pub written_left : (state : State) (seat : HostSeat) (object start : ℕ) (bytes : List ℕ) (node : Node) →
    slice_get state.nodes object ≡ Some node →
    with_written state seat object start bytes ≡ left_by state object (becomes_written state seat start bytes node)
written_left state seat object start [] node there = refl
written_left state seat object start (byte ∷ bytes) node there =
    ap (nodes_in state)
    (changed_is object (after_writing seat (time_of state) start (byte ∷ bytes)) state.nodes node there)
