use Rattle.std.proofs.Common.{◌++◌, ◌∷◌, [], ◌∙◌, ap, List, ℕ}
use Rattle.std.specs.Int.{to_le_bytes, w16, w64}
use Rattle.pt_node.specs.Node.{kind_number}
use Rattle.pt_change.proofs.Listed.{in_one}
use Rattle.pt_change.proofs.records.push_head.Goals as goal

pub returns : goal.returns
returns c =
    let old = c.args.out.now.items in
    let ino = to_le_bytes w64 c.args.node.now.ids.ino in
    let next = to_le_bytes w64 c.args.next in
    let size = to_le_bytes w16 c.args.size in
    let first = c.in_ok-extend_from_slice.ensures.items ∙ ap (λ (xs : List ℕ). old ++ xs) c.to_le_bytes.ensures in
    let second = c.in_ok-extend_from_slice-2.ensures.items ∙ ap (λ (xs : List ℕ). xs ++ c.to_le_bytes-2.result) first
    ∙ ap (λ (xs : List ℕ). (old ++ ino) ++ xs) c.to_le_bytes-2.ensures in
    let third = c.in_ok-extend_from_slice-3.ensures.items ∙ ap (λ (xs : List ℕ). xs ++ c.size_bytes.result) second
    ∙ ap (λ (xs : List ℕ). ((old ++ ino) ++ next) ++ xs) c.size_bytes.ensures in
    c.in_ok-push.ensures.items ∙ ap (λ (xs : List ℕ). xs ++ c.kind_byte.result ∷ []) third
    ∙ ap (λ (k : ℕ). (((old ++ ino) ++ next) ++ size) ++ k ∷ []) c.kind_byte.ensures
    ∙ in_one old ino next size (kind_number c.args.node.now.content ∷ [])
