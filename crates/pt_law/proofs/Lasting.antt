-- Objects stay what they are.
use Rattle.std.proofs.Common.{◌≡◌, inl, inr, ℕ, List, [], ◌∷◌, refl, sym, subst, Option, Some, None}
use Rattle.pt_host.specs.Call.{Call}
use Rattle.pt_host.specs.LawfulTree.{TreeChanges}
use Rattle.pt_host.specs.Sorts.{Sort, OpensWith, EndsFd, sort_of}
use Rattle.pt_host.specs.Tree.{Tree, Object, IsObject}
use Rattle.pt_host.specs.declared.flags.OpenFlags.{OpenFlags}
use Rattle.pt_host.specs.declared.ids.Fd.{Fd}
use Rattle.pt_host.specs.declared.op.KeptHostOp.TheVariants as call
use Rattle.pt_host.specs.declared.reply.HostReply.{HostReply}
use Rattle.pt_host.specs.declared.reply.HostReply.TheVariants as host
use Rattle.pt_host.specs.declared.reply.HostValue.TheVariants as value
use Rattle.pt_host.specs.declared.seat.HostSeat.{HostSeat}
use Rattle.pt_tables.specs.Tables.{Tables}
use Rattle.pt_frame.specs.Deed.{Deed, Calls, Changes}
use Rattle.pt_frame.specs.Made.{Made}
use Rattle.pt_frame.specs.declared.act.ActReply.{ActReply}
use Rattle.pt_frame.specs.declared.act.ActReply.TheVariants.{Event, Host, NoCopy}
use Rattle.pt_law.specs.World.{World, Turn, IsLawful, Runs}
use Rattle.pt_law.proofs.Growing.{call_grows, closing_does, makes_object, IsQuiet}

opening_keeps : (tree : Tree) (asked : Call) (flags : OpenFlags) (fd : Fd) (after : Tree) (object : ℕ)
    (what : Object) → sort_of asked ≡ OpensWith flags → TreeChanges tree asked (host.Ok (value.Fd fd)) after →
    IsObject tree object what → IsObject after object what
opening_keeps tree (call.OpenRoot path same) flags fd after object what e l is =
    subst (λ (t : Tree). IsObject t object what) (sym l.1.adds) is
opening_keeps tree (call.OpenPath dir path same) flags fd after object what e l is =
    subst (λ (t : Tree). IsObject t object what) (sym l.1.adds) is
opening_keeps tree (call.OpenAt dir name same mode) flags fd after object what e (inl found) is =
    subst (λ (t : Tree). IsObject t object what) (sym found.3.adds) is
opening_keeps tree (call.OpenAt dir name same mode) flags fd after object what e (inr new) is =
    subst (λ (t : Tree). IsObject t object what) (sym new.3.adds)
    ((makes_object tree new.2.0 name new.0 new.2.2).stays object what is)
opening_keeps tree (call.Reopen dir same) flags fd after object what e l is =
    subst (λ (t : Tree). IsObject t object what) (sym l.2.adds) is
opening_keeps tree (call.OpenByHandle dir handle same) flags fd after object what e l is =
    subst (λ (t : Tree). IsObject t object what) (sym l.2.adds) is
opening_keeps tree asked flags fd after object what e l is = absurd (cc)

call_keeps : (tree : Tree) (asked : Call) (told : HostReply) (after : Tree) (object : ℕ) (what : Object)
    (sort : Sort) → sort_of asked ≡ sort → TreeChanges tree asked told after → IsObject tree object what →
    IsObject after object what
call_keeps tree asked told after object what (EndsFd fd) e l is =
    subst (λ (t : Tree). IsObject t object what) (sym (closing_does tree asked fd told after e l)) is
call_keeps tree asked (host.Ok (value.Fd new)) after object what (OpensWith flags) e l is =
    opening_keeps tree asked flags new after object what e l is
call_keeps tree asked told after object what sort e l is =
    (call_grows tree asked told after l (subst (λ (s : Sort). IsQuiet s told) (sym e) tt)).stays object what is

pub step_keeps : (deed : Option Deed) (told : ActReply) (tree after : Tree) (seat seat' : HostSeat)
    (tables tables' : Tables) (object : ℕ) (what : Object) →
    Made IsLawful deed told tree seat tables after seat' tables' → IsObject tree object what →
    IsObject after object what
step_keeps (Some (Changes asked)) (Event told) tree after seat seat' tables tables' object what m is =
    subst (λ (t : Tree). IsObject t object what) (sym m.1) is
step_keeps (Some (Calls asked)) (Host told) tree after seat seat' tables tables' object what m is =
    call_keeps tree asked told after object what (sort_of asked) refl m.0.0.trees.changes is
step_keeps (Some (Calls asked)) NoCopy tree after seat seat' tables tables' object what m is =
    let l = m.0.2 in call_keeps tree asked m.0.0 after object what (sort_of asked) refl l.0.trees.changes is
step_keeps None NoCopy tree after seat seat' tables tables' object what m is =
    subst (λ (t : Tree). IsObject t object what) (sym m.0) is
step_keeps _ _ tree after seat seat' tables tables' object what m is = absurd m

pub runs_keep_object : (turns : List Turn) (w last : World) (object : ℕ) (what : Object) → Runs w turns last →
    IsObject w.tree object what → IsObject last.tree object what
runs_keep_object [] w last object what r is = subst (λ (z : World). IsObject z.tree object what) (sym r) is
runs_keep_object (s ∷ ss) w last object what r is =
    let g = r.1 in
    runs_keep_object ss r.0 last object what r.2
    (step_keeps s.step.deed s.step.reply w.tree r.0.tree g.seat g.seat_after w.tables r.0.tables object what g.made
    is)
