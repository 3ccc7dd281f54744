-- Proof. The calls by rows leave objects, names and descriptors as they are: what each changes beside them.
use Rattle.std.proofs.Common.{◌≡◌, ◌≢◌, ◌⊎◌, inl, inr, ℕ, Bool, true, false, cond, List, [], ◌∷◌, length, Some, None}
use Rattle.std.proofs.Common.{slice_get, refl, ap, sym, subst, arith}
use Rattle.std.proofs.lemmas.Bool.Decides.{eqb_tells}
use Rattle.pt_host.specs.Call.{Call}
use Rattle.pt_host.specs.LawfulContents.{StaysButAccess}
use Rattle.pt_host.specs.Sorts.{opening_flags}
use Rattle.pt_host.specs.Promises.{FitsCall}
use Rattle.pt_host.specs.Tree.{IsOpenOn, Tree}
use Rattle.pt_host.specs.declared.ids.Errno.{Errno}
use Rattle.pt_host.specs.declared.ids.Fd.{Fd}
use Rattle.pt_host.specs.declared.seat.HostSeat.{HostSeat}
use Rattle.pt_host.specs.declared.op.KeptHostOp.TheVariants as call
use Rattle.pt_host.specs.declared.reply.HostReply.TheVariants as reply
use Rattle.pt_host.specs.declared.reply.HostValue.{HostValue}
use Rattle.pt_host.specs.declared.reply.HostValue.TheVariants as value
use Rattle.pt_node.specs.declared.node.Node.{Node}
use Rattle.pt_node.specs.declared.slots.OpenFile.{OpenFile}
use Rattle.pt_rules.specs.ContentCalls.{becomes_written}
use Rattle.pt_node.specs.Entries.{rewritten}
use Rattle.pt_node.specs.Node.{object_of}
use Rattle.pt_rules.specs.Rows.{RowEffect, Stays, Becomes, Row, left_by, on_row}
use Rattle.pt_rules.specs.Sound.{IsSound}
use Rattle.pt_rules.specs.State.{State, contents_where, time_of, tree_of}
use Rattle.pt_rules.specs.Laws.Cases.{by_checks, by_fd}
use Rattle.pt_rules.specs.Laws.Fair.{IsFair, IsPlain, fair_refused, fair_told}
use Rattle.pt_rules.specs.Laws.Fair.{fair_node}
use Rattle.pt_rules.specs.Laws.Keeping.{KeepsNode, permissions-le}
use Rattle.pt_rules.specs.Laws.Opens.{open_there}
use Rattle.pt_host.specs.declared.ids.Time.{Time}
use Rattle.pt_rules.specs.AttributeCalls.{sized}
use Rattle.pt_rules.specs.OpeningCalls.{tell_mounts}
use Rattle.pt_host.specs.LawfulTree.{TreeChanges}
use Rattle.pt_node.specs.Changes.{refilled}
use Rattle.pt_node.specs.Mounts.{mounts_text}
use Rattle.pt_rules.specs.Laws.EditShapes.{kind_rewritten_in, names_rewritten_in}
use Rattle.pt_host.specs.declared.reply.HostReply.TheVariants.{Refused}
use Rattle.pt_rules.specs.Beside.{MayTouch}
use Rattle.pt_rules.specs.Calls.{refused, tells}

pub keeps_rewritten : (now : Time) (bytes : List ℕ) (node : Node) → KeepsNode node (rewritten now bytes node)
keeps_rewritten now bytes node = record {
  ids = refl;
  serial = refl;
  object = ap (λ (kind : ℕ). record (object_of node) { kind = kind }) (kind_rewritten_in bytes node.content);
  names = names_rewritten_in bytes node.content;
  permissions = λ small. small;
  attributed = λ ordered. ordered;
}

pub keeps_refilled : (seat : HostSeat) (now : Time) (bytes : List ℕ) (node : Node) →
    KeepsNode node (refilled seat now bytes node)
keeps_refilled seat now bytes node = record {
  ids = refl;
  serial = refl;
  object = ap (λ (kind : ℕ). record (object_of node) { kind = kind }) (kind_rewritten_in bytes node.content);
  names = names_rewritten_in bytes node.content;
  permissions = λ small. let less = permissions-le seat node.permissions in omega arith;
  attributed = λ ordered. ordered;
}

-- the call may do this to the object: it changes no more than the access time, or what the call may change
abbrev pub IsFairEffect : State → Call → HostValue → OpenFile → Node → RowEffect → Type 0
IsFairEffect state asked told file node Stays = Unit {0}
IsFairEffect state asked told file node (Becomes after) =
    KeepsNode node after × (MayTouch (tree_of state) asked told (tree_of state) file.object
    ⊎ StaysButAccess (contents_where (Some node)) (contents_where (Some after)))

pub record IsFairRow (state : State) (asked : Call) (file : OpenFile) (node : Node) (made : Row) : Type 0 where
  pub fits : FitsCall asked made.told
  pub effect : IsFairEffect state asked made.told file node made.leaves

module _ (state : State) (asked : Call) (sound : IsSound state)
    (refuses : (tree : Tree) (errno : Errno) → TreeChanges tree asked (reply.Refused errno) tree)
    (passes : (tree : Tree) (told : HostValue) → FitsCall asked told →
    TreeChanges tree asked (reply.Ok told) tree) (opens : opening_flags asked ≡ None) where
  plain : IsPlain asked
  plain = record { refuses = refuses; passes = passes; opens = opens }

  refused_fair : (errno : Errno) → IsFair state asked (refused state errno)
  refused_fair errno = fair_refused state asked errno sound (refuses (tree_of state) errno)

  effect_fair : (file : OpenFile) (node : Node) (told : HostValue) (leaves : RowEffect) →
      slice_get state.nodes file.object ≡ Some node → FitsCall asked told →
      IsFairEffect state asked told file node leaves →
      IsFair state asked (tells (left_by state file.object leaves) told)
  effect_fair file node told Stays there fits fair = fair_told state asked told sound plain fits
  effect_fair file node told (Becomes after) there fits fair =
      fair_node state asked told file.object node after sound there fair.0 plain fits fair.1

  -- a call by a row is fair where its value fits and its effect is fair
  pub row_fair : (fd : Fd) (made : OpenFile → Node → Row) →
      ((file : OpenFile) (node : Node) → IsOpenOn (tree_of state) fd file.object →
      IsFairRow state asked file node (made file node)) → IsFair state asked (on_row state fd made)
  row_fair fd made rows =
      by_fd state (IsFair state asked) refused_fair fd _
      (λ file node is there. by_checks state (IsFair state asked) refused_fair (made file node).refusals _
      (λ none. let fair = rows file node (open_there state fd file is) in
      effect_fair file node (made file node).told (made file node).leaves there fair.fits fair.effect))

-- a value and its length
pub sized_fits : (asked : Call) (size : ℕ) (bytes : List ℕ) →
    (size ≡ 0 → FitsCall asked (value.Count (length bytes))) → (size ≢ 0 → FitsCall asked (value.Bytes bytes)) →
    FitsCall asked (sized size bytes)
sized_fits asked size bytes counts told = elim (eqb_tells size 0) [
  | inl e ↦ subst (λ b. FitsCall asked (cond b (value.Count (length bytes)) (value.Bytes bytes))) (sym e.0) (counts e.1)
  | inr apart ↦ subst (λ b.
      FitsCall asked (cond b (value.Count (length bytes)) (value.Bytes bytes))) (sym apart.0) (told apart.1)
]

pub written_effect : (state : State) (seat : HostSeat) (fd : Fd) (offset start : ℕ) (bytes part : List ℕ)
    (append : Bool) (told : HostValue) (file : OpenFile) (node : Node) →
    IsOpenOn (tree_of state) fd file.object →
    IsFairEffect state (call.WriteAt fd offset bytes append) told file node (becomes_written state seat start part node)
written_effect state seat fd offset start bytes [] append told file node on = tt
written_effect state seat fd offset start bytes (byte ∷ more) append told file node on =
    (keeps_refilled seat (time_of state) _ node, inl on)

pub lengthened_effect : (b : Bool) (state : State) (fd : Fd) (mode offset size : ℕ) (told : HostValue)
    (file : OpenFile) (node after : Node) →
    IsOpenOn (tree_of state) fd file.object → KeepsNode node after →
    IsFairEffect state (call.Allocate fd mode offset size) told file node (cond b (Becomes after) Stays)
lengthened_effect true state fd mode offset size told file node after on keeps = (keeps, inl on)
lengthened_effect false state fd mode offset size told file node after on keeps = tt

pub fair_mount_info : (state : State) → IsSound state → IsFair state call.MountInfo (tell_mounts state)
fair_mount_info state sound =
    fair_told state call.MountInfo (value.Bytes (mounts_text state.mounts)) sound
    (record { refuses = λ tree errno. (tt, refl); passes = λ tree told fits. (fits, refl); opens = refl }) tt
