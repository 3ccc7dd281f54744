-- Proof. Calls that are Ok only where a descriptor may be used for them.
use Rattle.std.specs.Prelude.{◌||◌}
use Rattle.std.proofs.Common.{◌≡◌, ℕ, List, Bool, true, false, not, refl, ap, ◌∙◌, bit_and}
use Rattle.std.proofs.lemmas.Nat.{and_mask}
use Rattle.pt_host.specs.Errno.{ebadf, einval}
use Rattle.pt_host.specs.declared.ids.Fd.{Fd}
use Rattle.pt_host.specs.declared.op.KeptHostOp.TheVariants as call
use Rattle.pt_host.specs.declared.reply.HostReply.TheVariants as host
use Rattle.pt_host.specs.declared.reply.HostValue.{HostValue}
use Rattle.pt_frame.specs.Deed.{Calls}
use Rattle.pt_frame.specs.declared.act.ActReply.TheVariants.{Host}
use Rattle.pt_law.specs.World.{made}
use Rattle.pt_node.specs.Opening.{wants_read, wants_write}
use Rattle.pt_node.specs.declared.slots.OpenFile.{OpenFile}
use Rattle.pt_rules.specs.ContentCalls.{allocate_row, read_row, truncate_row, write_row}
use Rattle.pt_filled.specs.Accesses.{reads, writes}
use Rattle.pt_filled.proofs.Descriptors.{access_in, file_access}
use Rattle.pt_filled.proofs.Effects.{none_of, rowed}
use Rattle.pt_filled.proofs.Hosting.{Full, Steps, Thread}

pub readable_as : (w : Full) (fd : Fd) (file : OpenFile) → access_in w.state fd ≡ bit_and file.flags.0 3 →
    wants_read file.flags.0 ≡ true → reads (access_in w.state fd) ≡ true
readable_as w fd file a r = ap reads (a ∙ and_mask file.flags.0 2) ∙ r

pub writable_as : (w : Full) (fd : Fd) (file : OpenFile) → access_in w.state fd ≡ bit_and file.flags.0 3 →
    wants_write file.flags.0 ≡ true → writes (access_in w.state fd) ≡ true
writable_as w fd file a r = ap writes (a ∙ and_mask file.flags.0 2) ∙ r

pub unless_not : (a b : Bool) → (a || not b) ≡ false → b ≡ true
unless_not a true e = refl
unless_not true false e = absurd (cc)
unless_not false false e = absurd (cc)

not_not : (b : Bool) → not b ≡ false → b ≡ true
not_not true e = refl
not_not false e = absurd (cc)

module _ (j : Thread) (w on : Full) (fd : Fd) (told : HostValue) where
  pub was_readable : (offset size : ℕ) →
      Steps j w (made (Calls (call.ReadAt fd offset size)) (Host (host.Ok told))) on →
      reads (access_in w.state fd) ≡ true
  was_readable offset size s =
      let r = rowed j w on (call.ReadAt fd offset size) fd (read_row w.state offset size) told refl
      (λ numbers. refl) s in
      readable_as w fd r.ok.file (file_access w.state fd r.ok.file r.ok.open_as)
      (unless_not _ (wants_read r.ok.file.flags.0) (none_of _ ebadf _ r.ok.passes).0)

  pub was_writable : (offset : ℕ) (bytes : List ℕ) (append : Bool) →
      Steps j w (made (Calls (call.WriteAt fd offset bytes append)) (Host (host.Ok told))) on →
      writes (access_in w.state fd) ≡ true
  was_writable offset bytes append s =
      let r = rowed j w on (call.WriteAt fd offset bytes append) fd (write_row w.state w.seat offset bytes append) told
      refl (λ numbers. refl) s in
      writable_as w fd r.ok.file (file_access w.state fd r.ok.file r.ok.open_as)
      (unless_not _ (wants_write r.ok.file.flags.0) (none_of _ ebadf _ r.ok.passes).0)

  pub was_resizable : (size : ℕ) → Steps j w (made (Calls (call.Truncate fd size)) (Host (host.Ok told))) on →
      writes (access_in w.state fd) ≡ true
  was_resizable size s =
      let r = rowed j w on (call.Truncate fd size) fd (truncate_row w.state w.seat size) told refl (λ numbers. refl) s
      in
      writable_as w fd r.ok.file (file_access w.state fd r.ok.file r.ok.open_as)
      (not_not (wants_write r.ok.file.flags.0) (none_of _ einval _ (none_of _ ebadf _ r.ok.passes).1).0)

  pub was_lengthenable : (mode offset size : ℕ) →
      Steps j w (made (Calls (call.Allocate fd mode offset size)) (Host (host.Ok told))) on →
      writes (access_in w.state fd) ≡ true
  was_lengthenable mode offset size s =
      let r = rowed j w on (call.Allocate fd mode offset size) fd (allocate_row w.state mode offset size) told refl
      (λ numbers. refl) s in
      writable_as w fd r.ok.file (file_access w.state fd r.ok.file r.ok.open_as)
      (unless_not _ (wants_write r.ok.file.flags.0) (none_of _ ebadf _ r.ok.passes).0)
