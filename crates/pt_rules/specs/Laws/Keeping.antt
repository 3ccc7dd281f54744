-- Proof. What an opening and a reading leave of their object.
use Rattle.std.proofs.Common.{◌≡◌, ◌<◌, ◌≤◌, ◌-◌, ℕ, Bool, true, false, cond, refl, ap, sym, arith, ◌&&◌, not}
use Rattle.pt_host.specs.declared.ids.Time.{Time}
use Rattle.pt_host.specs.declared.seat.HostSeat.{HostSeat}
use Rattle.pt_host.specs.Flags.{includes, o_trunc, o_path}
use Rattle.pt_node.specs.Node.{object_of, names_in, kind_number}
use Rattle.pt_node.specs.Permission.{fsetid}
use Rattle.pt_node.specs.Opening.{emptied, after_opening, permissions_after, without_set_user, without_set_group}
use Rattle.pt_node.specs.Reading.{after_reading}
use Rattle.pt_rules.specs.Sound.{AreOrdered}
use Rattle.pt_node.specs.declared.node.Node.{Node}
use Rattle.pt_node.specs.declared.node.Content.{Content}
use Rattle.pt_node.specs.declared.node.Content.TheVariants.{Directory, Regular, Link, Special}

pub record KeepsNode (before after : Node) : Type 0 where
  pub ids : after.ids ≡ before.ids
  pub serial : after.serial ≡ before.serial
  pub object : object_of after ≡ object_of before
  pub names : names_in after.content ≡ names_in before.content
  pub permissions : before.permissions < 4096 → after.permissions < 4096
  pub attributed : AreOrdered before.xattrs → AreOrdered after.xattrs

pub keeps_itself : (node : Node) → KeepsNode node node
keeps_itself node = record {
  ids = refl;
  serial = refl;
  object = refl;
  names = refl;
  permissions = λ small. small;
  attributed = λ ordered. ordered;
}

le-less_where : (b : Bool) (m n : ℕ) → cond b (m - n) m ≤ m
le-less_where b m n = elim b as (λ v. cond v (m - n) m ≤ m) [ true ↦ omega arith | false ↦ omega arith ]

le-permissions_where : (b : Bool) (m n : ℕ) → n ≤ m → cond b m n ≤ m
le-permissions_where b m n less = elim b as (λ v. cond v m n ≤ m) [ true ↦ omega arith | false ↦ omega arith ]

pub permissions-le : (seat : HostSeat) (permissions : ℕ) → permissions_after seat permissions ≤ permissions
permissions-le seat permissions =
    let user : without_set_user permissions ≤ permissions =
    le-less_where (includes permissions 2048) permissions 2048 in
    let group : without_set_group (without_set_user permissions) ≤ without_set_user permissions =
    le-less_where (includes (without_set_user permissions) 1032) (without_set_user permissions) 1024 in
    le-permissions_where (includes seat.eff_caps.0 fsetid) permissions
    (without_set_group (without_set_user permissions)) (omega arith)

pub keeps_emptied : (seat : HostSeat) (now : Time) (node : Node) (content : Content) → node.content ≡ content →
    KeepsNode node (emptied seat now node content)
keeps_emptied seat now node (Directory names) held = keeps_itself node
keeps_emptied seat now node (Link target) held = keeps_itself node
keeps_emptied seat now node (Special kind) held = keeps_itself node
keeps_emptied seat now node (Regular bytes) held = record {
  ids = refl;
  serial = refl;
  object = ap (λ (kind : ℕ). record (object_of node) { kind = kind }) (sym (ap kind_number held));
  names = sym (ap names_in held);
  permissions = λ small. let less = permissions-le seat node.permissions in omega arith;
  attributed = λ ordered. ordered;
}

keeps_where : (b : Bool) (before after : Node) → KeepsNode before after → KeepsNode before (cond b after before)
keeps_where b before after keeps =
    elim b as (λ v. KeepsNode before (cond v after before)) [ true ↦ keeps | false ↦ keeps_itself before ]

pub keeps_opening : (seat : HostSeat) (now : Time) (flags : ℕ) (node : Node) →
    KeepsNode node (after_opening seat now flags node)
keeps_opening seat now flags node =
    keeps_where (includes flags o_trunc
    && not (includes flags o_path)) node (emptied seat now node node.content)
    (keeps_emptied seat now node node.content refl)

pub keeps_reading : (now : Time) (node : Node) → KeepsNode node (after_reading now node)
keeps_reading now node = record {
  ids = refl;
  serial = refl;
  object = refl;
  names = refl;
  permissions = λ small. small;
  attributed = λ ordered. ordered;
}
