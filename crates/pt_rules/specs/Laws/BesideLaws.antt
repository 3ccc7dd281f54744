-- Proof. What the tree host keeps beside its tree is what every lawful host keeps, and more.
use Rattle.std.proofs.Common.{◌≡◌, ◌<◌, inl, inr, ℕ, Bool, true, false, List, length, refl, ap}
use Rattle.std.proofs.Common.{sym, ◌∙◌}
use Rattle.std.proofs.lemmas.Bool.Decides.{eqb_tells}
use Rattle.pt_host.specs.Flags.{includes, o_creat}
use Rattle.pt_host.specs.Call.{Call}
use Rattle.pt_host.specs.Tree.{Tree}
use Rattle.pt_host.specs.Contents.{Contents, Description}
use Rattle.pt_host.specs.LawfulContents.{LawfulContents, ObjectLeft, PositionLeft, StaysButAccess, StaysOpen}
use Rattle.pt_host.specs.declared.ids.Fd.{Fd}
use Rattle.pt_host.specs.declared.flags.OpenFlags.{OpenFlags}
use Rattle.pt_host.specs.declared.op.KeptHostOp.TheVariants as call
use Rattle.pt_host.specs.declared.reply.HostReply.{HostReply}
use Rattle.pt_host.specs.declared.reply.HostReply.TheVariants as reply
use Rattle.pt_host.specs.declared.reply.HostValue.{HostValue}
use Rattle.pt_host.specs.declared.reply.HostValue.TheVariants as value
use Rattle.pt_rules.specs.Beside.{KeepsAll, KeepsUntouched, LeavesBeside}
use Rattle.pt_rules.specs.Laws.Fair.{stays_same}

module _ (tree later : Tree) (before after : Contents) where
  created_or_not : (dir : Fd) (name : List ℕ) (flags : OpenFlags) (mode : ℕ) (told : HostValue) (creates : Bool) →
      includes flags.0 o_creat ≡ creates →
      KeepsUntouched tree before (call.OpenAt dir name flags mode) told later after → (object : ℕ) →
      ObjectLeft (call.OpenAt dir name flags mode) (reply.Ok told) (before.objects object) (after.objects object)
  created_or_not dir name flags mode told true is keeps object = inl is
  created_or_not dir name flags mode told false is keeps object =
      inr (keeps.emptied flags object refl (λ made. (let e : true ≡ false = sym made ∙ is in cc)))

  object_left : (asked : Call) (told : HostValue) → KeepsUntouched tree before asked told later after →
      (object : ℕ) → object < length tree.objects →
      ObjectLeft asked (reply.Ok told) (before.objects object) (after.objects object)
  object_left (call.OpenRoot path flags) told keeps object within = inr (keeps.emptied flags object refl (λ no. no))
  object_left (call.OpenPath dir path flags) told keeps object within =
      inr (keeps.emptied flags object refl (λ no. no))
  object_left (call.OpenAt dir name flags mode) told keeps object within =
      created_or_not dir name flags mode told (includes flags.0 o_creat) refl keeps object
  object_left (call.Reopen fd flags) told keeps object within = inr (keeps.emptied flags object refl (λ no. no))
  object_left (call.OpenByHandle fd handle flags) told keeps object within =
      inr (keeps.emptied flags object refl (λ no. no))
  object_left (call.MakeDir fd name mode) told keeps object within = inl tt
  object_left (call.MakeNode fd name mode rdev) told keeps object within = inl tt
  object_left (call.SymLink fd name target) told keeps object within = inl tt
  object_left (call.MakeLink from fd name) told keeps object within = inl tt
  object_left (call.Unlink fd name) told keeps object within = inl tt
  object_left (call.RemoveDir fd name) told keeps object within = inl tt
  object_left (call.Rename fd name fd2 name2 flags) told keeps object within = inl tt
  object_left (call.WriteAt fd offset bytes append) told keeps object within = inl tt
  object_left (call.Truncate fd size) told keeps object within = inl tt
  object_left (call.Allocate fd mode offset size) told keeps object within = inl tt
  object_left (call.CopyRange fd offset fd2 offset2 size flags) told keeps object within = inl tt
  object_left (call.ChMod fd through mode) told keeps object within = inl tt
  object_left (call.ChOwn fd uid gid) told keeps object within = inl tt
  object_left (call.SetTimes fd through atime mtime) told keeps object within = inl tt
  object_left (call.SetXattr fd through name bytes flags) told keeps object within = inl tt
  object_left (call.RemoveXattr fd through name) told keeps object within = inl tt
  object_left (call.Edit edit) told keeps object within = inl tt
  object_left asked told keeps object within = inr (keeps.objects object within (λ no. no))

  -- a position moves by these calls alone, and of their descriptor alone
  position_left : (asked : Call) (told : HostValue) → KeepsUntouched tree before asked told later after → (fd : ℕ) →
      StaysOpen tree later fd →
      PositionLeft asked (reply.Ok told) fd (before.descriptions fd) (after.descriptions fd)
  position_left (call.Seek moved offset whence) told keeps fd still =
      elim (eqb_tells fd moved.0) [ inl e ↦ inl e.1 | inr apart ↦ inr (keeps.positions fd still apart.1) ]
  position_left (call.ListAt moved offset size) told keeps fd still =
      elim (eqb_tells fd moved.0) [ inl e ↦ inl e.1 | inr apart ↦ inr (keeps.positions fd still apart.1) ]
  position_left asked told keeps fd still = inr (keeps.positions fd still (λ no. no))

  same_value : (told : HostValue) (fd : Fd) → reply.Ok told ≡ reply.Ok (value.Fd fd) → told ≡ value.Fd fd
  same_value told fd is = cc

  lawful_untouched : (asked : Call) (told : HostValue) → KeepsUntouched tree before asked told later after →
      LawfulContents tree before asked (reply.Ok told) later after
  lawful_untouched asked told keeps = record {
    objects = object_left asked told keeps;
    positions = position_left asked told keeps;
    accesses = keeps.accesses;
    begins = λ flags fd asks is. keeps.begins flags fd asks (same_value told fd is);
  }

  module _ (asked : Call) (keeps : KeepsAll tree before later after) where
    position_kept : (fd : ℕ) → StaysOpen tree later fd →
        (after.descriptions fd).position ≡ (before.descriptions fd).position
    position_kept fd still = ap (λ (d : Description). d.position) (keeps.descriptions fd still)

    access_kept : (fd : ℕ) → StaysOpen tree later fd →
        (after.descriptions fd).access ≡ (before.descriptions fd).access
    access_kept fd still = ap (λ (d : Description). d.access) (keeps.descriptions fd still)

    object_kept : (object : ℕ) → object < length tree.objects →
        StaysButAccess (before.objects object) (after.objects object)
    object_kept object within = stays_same _ _ (keeps.objects object within)

pub lawful_beside : (tree later : Tree) (before after : Contents) (asked : Call) (given : HostReply) →
    LeavesBeside tree before asked given later after → LawfulContents tree before asked given later after
lawful_beside tree later before after asked (reply.Ok told) keeps =
    lawful_untouched tree later before after asked told keeps
lawful_beside tree later before after asked (reply.Refused errno) keeps = record {
  objects = object_kept tree later before after asked keeps;
  positions = position_kept tree later before after asked keeps;
  accesses = access_kept tree later before after asked keeps;
  begins = λ flags fd asks is. cc;
}
lawful_beside tree later before after asked (reply.Fault errno) keeps = record {
  objects = object_kept tree later before after asked keeps;
  positions = position_kept tree later before after asked keeps;
  accesses = access_kept tree later before after asked keeps;
  begins = λ flags fd asks is. cc;
}
lawful_beside tree later before after asked reply.NoMemory keeps = record {
  objects = object_kept tree later before after asked keeps;
  positions = position_kept tree later before after asked keeps;
  accesses = access_kept tree later before after asked keeps;
  begins = λ flags fd asks is. cc;
}
