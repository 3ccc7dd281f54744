use Rattle.std.proofs.Common.{◌≡◌, ◌++◌, drop}
use Rattle.pt_show.specs.Texts.{items_text}
use Rattle.pt_show.proofs.plain.RefSliceText.write.Given as goal

abbrev pub invariant-loop-item : goal.invariant-loop-item
invariant-loop-item g l =
    l.out.items ++ items_text g.T.Text.text (drop l.item-index l.item-items) ≡ l.initial.out.items
    ++ items_text g.T.Text.text l.item-items
