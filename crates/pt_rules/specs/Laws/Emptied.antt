-- Proof. What an opening makes of its object: it stays, or it is emptied.
use Rattle.std.proofs.Common.{◌≡◌, ◌≤◌, ◌%◌, ◌-◌, inl, inr, ℕ, Bool, true, false, cond, refl, arith, ◌∙◌, Some}
use Rattle.std.specs.Int.RustNames.{bit_and}
use Rattle.std.proofs.lemmas.Bool.{eqb-true}
use Rattle.std.proofs.lemmas.Nat.{and_le_l}
use Rattle.pt_host.specs.Flags.{includes}
use Rattle.pt_host.specs.LawfulContents.{LeftByOpening, empties}
use Rattle.pt_host.specs.declared.flags.OpenFlags.{OpenFlags}
use Rattle.pt_host.specs.declared.ids.Time.{Time}
use Rattle.pt_host.specs.declared.seat.HostSeat.{HostSeat}
use Rattle.pt_node.specs.Opening.{emptied, without_set_group, without_set_user}
use Rattle.pt_node.specs.Permission.{fsetid}
use Rattle.pt_node.specs.declared.node.Content.{Content}
use Rattle.pt_node.specs.declared.node.Content.TheVariants.{Directory, Link, Regular, Special}
use Rattle.pt_node.specs.declared.node.Node.{Node}
use Rattle.pt_rules.specs.Laws.Keeping.{permissions-le}
use Rattle.pt_rules.specs.State.{contents_where}

-- what is included is no more than the whole
included_le : (flags bits : ℕ) → includes flags bits ≡ true → bits ≤ flags
included_le flags bits is =
    let same : bit_and flags bits ≡ bits = eqb-true (bit_and flags bits) bits is in
    let less = and_le_l flags bits in
    omega (arith, same, less)

-- a set-id bit goes, and the lower ten bits stay
low_user : (has : Bool) (mode : ℕ) → includes mode 2048 ≡ has → cond has (mode - 2048) mode % 1024 ≡ mode % 1024
low_user true mode is = let less = included_le mode 2048 is in omega (arith, less)
low_user false mode is = refl

low_group : (has : Bool) (mode : ℕ) → includes mode 1032 ≡ has → cond has (mode - 1024) mode % 1024 ≡ mode % 1024
low_group true mode is = let less = included_le mode 1032 is in omega (arith, less)
low_group false mode is = refl

low_after : (kept : Bool) (mode : ℕ) →
    cond kept mode (without_set_group (without_set_user mode)) % 1024 ≡ mode % 1024
low_after true mode = refl
low_after false mode =
    low_group (includes (without_set_user mode) 1032) (without_set_user mode) refl
    ∙ low_user (includes mode 2048) mode refl

emptied_by : (seat : HostSeat) (now : Time) (flags : OpenFlags) (node : Node) (content : Content) →
    empties flags ≡ true →
    LeftByOpening flags (contents_where (Some node)) (contents_where (Some (emptied seat now node content)))
emptied_by seat now flags node (Regular bytes) is = inr (
  is,
  record {
    bytes = refl;
    owner = (refl, refl);
    rdev = refl;
    mode = (
      low_after (includes seat.eff_caps.0 fsetid) node.permissions,
      permissions-le seat node.permissions,
    );
    xattrs = λ name. inl refl;
  },
)
emptied_by seat now flags node (Directory names) is = inl refl
emptied_by seat now flags node (Link target) is = inl refl
emptied_by seat now flags node (Special kind) is = inl refl

pub left_by_opening : (seat : HostSeat) (now : Time) (flags : OpenFlags) (node : Node) (cuts : Bool) →
    empties flags ≡ cuts →
    LeftByOpening flags (contents_where (Some node))
    (contents_where (Some (cond cuts (emptied seat now node node.content) node)))
left_by_opening seat now flags node true is = emptied_by seat now flags node node.content is
left_by_opening seat now flags node false is = inl refl
