-- Proof. An edit beside the requests: names alone may change.
use Rattle.std.proofs.Common.{◌≡◌, ◌≢◌, ℕ, List, [], ◌∷◌, refl, sym, ap, subst, ◌∙◌, arith}
use Rattle.pt_host.specs.Edits.{Edits as EditsTree}
use Rattle.pt_host.specs.LawfulTree.{TreeChanges}
use Rattle.pt_host.specs.Tree.{Tree}
use Rattle.pt_host.specs.declared.edit.Edit.{Edit}
use Rattle.pt_host.specs.declared.edit.Edit.TheVariants as edit_as
use Rattle.pt_host.specs.declared.ids.Errno.{Errno}
use Rattle.pt_host.specs.declared.op.KeptHostOp.TheVariants as call
use Rattle.pt_host.specs.declared.reply.HostReply.TheVariants as host
use Rattle.pt_host.specs.declared.reply.HostValue.{HostValue}
use Rattle.pt_host.specs.declared.reply.HostValue.TheVariants as value
use Rattle.pt_iface.specs.declared.answer.Answer.{Answer}
use Rattle.pt_iface.specs.declared.answer.Answer.TheVariants as answer
use Rattle.pt_frame.specs.Deed.{Calls, Step}
use Rattle.pt_frame.specs.Edit.{edit_answer, edit_grammar}
use Rattle.pt_frame.specs.Grammar.{Belongs}
use Rattle.pt_frame.specs.declared.act.ActReply.{ActReply}
use Rattle.pt_frame.specs.declared.act.ActReply.TheVariants.{Event, Host, NoCopy}
use Rattle.pt_frame.specs.declared.finish.Finish.{Finish}
use Rattle.pt_frame.specs.declared.finish.Finish.TheVariants as finish
use Rattle.pt_req.specs.declared.plan.Plan.{Plan}
use Rattle.pt_job.specs.Pattern.{Edits}
use Rattle.pt_law.specs.World.{made, turn_by, World, Goes}
use Rattle.pt_law.proofs.Givings.{live_count}
use Rattle.pt_plain.specs.Plain.{PlainTree}
use Rattle.pt_plain.specs.Serves.{ServesAsked, named_by}
use Rattle.pt_plain.proofs.Coming.{is_made, Walks}
use Rattle.pt_plain.proofs.Naming.{name_bare}
use Rattle.pt_plain.proofs.Showing.{bare_tree, found, numbered, Shows}
use Rattle.pt_plain.proofs.Steady.{bare_makes}

-- An edit is one step, by which names alone may change.
edit_past : (edit : Edit) (told : ActReply) (j : ℕ) (w on : World) →
    Goes w (turn_by j (made (Calls (call.Edit edit)) told)) on → on.past ≡ w.past
edit_past edit told j w on g = g.past

edits_bare : (edit : Edit) (tree after : Tree) → EditsTree tree edit after →
    EditsTree (bare_tree tree) edit (bare_tree after)
edits_bare (edit_as.Unlink path) tree after e =
    (e.0, e.1, record { object = e.2.object; there = e.2.there; takes = ap bare_tree e.2.takes })
edits_bare (edit_as.Rename old path) tree after e =
    (e.0, e.1, (e.2.0, e.2.1, name_bare tree e.0 e.1 e.2.0 e.2.1 after e.2.2))
edits_bare (edit_as.File path mode uid gid bytes) tree after e = (e.0, e.1, bare_makes tree e.0 e.1 after e.2)
edits_bare (edit_as.Dir path mode uid gid) tree after e = (e.0, e.1, bare_makes tree e.0 e.1 after e.2)
edits_bare (edit_as.Write path bytes) tree after e = ap bare_tree e

shows_edited : (w on : World) (state : PlainTree) → Shows w state → on.tables ≡ w.tables → on.past ≡ w.past →
    Shows on (named_by state (bare_tree on.tree))
shows_edited w on state s t p =
    let a = ap (λ z. z.next_number) t in let b = ap (λ z. z.next_handle) t in let c = s.numbers_below in
    let d = s.handles_below in record {
      tree = refl;
      numbers = λ n. s.numbers n ∙ (λ i. numbered (live_count n (sym t i)) ((sym p i).numbers n));
      handles = λ h. s.handles h ∙ (λ i. found (sym p i).objects h (sym t i).handles);
      numbers_below = omega (arith, a, c);
      handles_below = omega (arith, b, d);
      agreed = s.agreed ∙ sym (ap (λ z. z.negotiated) t);
    }

named_same : (w on : World) (state : PlainTree) → Shows w state → bare_tree on.tree ≡ bare_tree w.tree →
    Shows on (named_by state (bare_tree on.tree)) → Shows on state
named_same w on state s e sh = subst (λ (z : PlainTree). Shows on z)
    (λ i. named_by state ((e ∙ sym s.tree) i)) sh

pub served_edit : (plan : Plan) (j : ℕ) (edit : Edit) (steps : List Step) (w : World) (last : Answer) (w' : World)
    (state : PlainTree) → Shows w state → last ≢ answer.NoMemory →
    Belongs (edit_grammar edit) steps (finish.Answer last) → Walks j w steps w' →
    (after : PlainTree) × ServesAsked plan (Edits edit) state last after × Shows w' after
served_edit plan j edit [] w last w' state s n b k = absurd b
served_edit plan j edit (step ∷ more ∷ steps) w last w' state s n b k = absurd b.1
served_edit plan j edit (step ∷ []) w last w' state s n b k =
    go step.reply goes (ap answer_in b.1)
  where
    answer_in : Finish → Answer
    answer_in (finish.Answer told) = told
    answer_in (finish.Lost errno) = last

    same : w' ≡ k.2
    same = k.4.1

    goes : Goes w (turn_by j (made (Calls (call.Edit edit)) step.reply)) k.2
    goes = subst (λ (x : Step). Goes w (turn_by j x) k.2) (is_made (Calls (call.Edit edit)) step b.0 k.1) k.3

    ends : (mid : World) → mid ≡ k.2 → (after : PlainTree) → Shows mid after → Shows w' after
    ends mid e after sh = subst (λ (z : World). Shows z after) (e ∙ sym same) sh

    shown : (told : ActReply) → Goes w (turn_by j (made (Calls (call.Edit edit)) told)) k.2 → k.2.tables ≡ w.tables →
        Shows k.2 (named_by state (bare_tree k.2.tree))
    shown told g t = shows_edited w k.2 state s t (edit_past edit told j w k.2 g)

    refuse : (errno : Errno) (told : ActReply) → Goes w (turn_by j (made (Calls (call.Edit edit)) told)) k.2 →
        k.2.tables ≡ w.tables → k.2.tree ≡ w.tree → last ≡ answer.EditRefused errno →
        (after : PlainTree) × ServesAsked plan (Edits edit) state last after × Shows w' after
    refuse errno told g t e is = (
      state,
      subst (λ (x : Answer). ServesAsked plan (Edits edit) state x state) (sym is) refl,
      ends k.2 refl state (named_same w k.2 state s (ap bare_tree e) (shown told g t)),
    )

    edited : (told : HostValue) → TreeChanges w.tree (call.Edit edit) (host.Ok told) k.2.tree →
        EditsTree w.tree edit k.2.tree
    edited value.Unit c = c
    edited told c = absurd c.0

    go : (told : ActReply) → Goes w (turn_by j (made (Calls (call.Edit edit)) told)) k.2 → last ≡ edit_answer told →
        (after : PlainTree) × ServesAsked plan (Edits edit) state last after × Shows w' after
    go (Host (host.Ok told)) g e = (
      named_by state (bare_tree k.2.tree),
      subst (λ (x : Answer). ServesAsked plan (Edits edit) state x (named_by state (bare_tree k.2.tree))) (sym e) (
        bare_tree k.2.tree,
        subst (λ (t : Tree). EditsTree t edit (bare_tree k.2.tree)) (sym s.tree)
            (edits_bare edit w.tree k.2.tree (edited told g.made.0.0.trees.changes)),
        refl,
      ),
      ends k.2 refl (named_by state (bare_tree k.2.tree)) (shown _ g g.made.1),
    )
    go (Host (host.Refused errno)) g e =
        refuse errno _ g g.made.1 g.made.0.0.trees.changes.1 e
    go (Host (host.Fault errno)) g e = refuse errno _ g g.made.1 g.made.0.0.trees.changes e
    go (Host host.NoMemory) g e = absurd (n e)
    go (Event told) g e = absurd (n e)
    go NoCopy g e = absurd (n e)
