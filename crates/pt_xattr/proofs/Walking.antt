-- What passes through each step of a request holds of each request of extended attributes and of listings.
use Rattle.std.proofs.Common.{◌≡◌, ◌==◌, ℕ, Bool, true, false, List, [], Option, Some, None, Result, Ok, Err, refl}
use Rattle.std.specs.List.{list_any}
use Rattle.std.specs.Prelude.{nat_lt, ◌^◌, if◌then◌else◌}
use Rattle.pt_host.specs.Call.{Call}
use Rattle.pt_host.specs.Errno.{einval, eio, enosys, eoverflow}
use Rattle.pt_host.specs.declared.ids.Errno.{Errno}
use Rattle.pt_host.specs.declared.ids.Fd.{Fd}
use Rattle.pt_host.specs.declared.op.KeptHostOp.TheVariants as call
use Rattle.pt_host.specs.declared.seat.HostSeat.{HostSeat}
use Rattle.pt_creds.specs.Identity.{Credentials}
use Rattle.pt_tables.specs.declared.form.Negotiated.{Negotiated}
use Rattle.pt_tables.specs.declared.reply.Resolved.{Resolved}
use Rattle.pt_iface.specs.declared.answer.Answer.{Answer}
use Rattle.pt_iface.specs.declared.answer.Answer.TheVariants as answer
use Rattle.pt_iface.specs.declared.answer.GetxattrReply.TheVariants as xattr
use Rattle.pt_iface.specs.declared.answer.ListxattrReply.TheVariants as xattrs
use Rattle.pt_iface.specs.declared.directory.DirEntry.{DirEntry}
use Rattle.pt_iface.specs.declared.flags.SetxattrFlags.{SetxattrFlags}
use Rattle.pt_frame.specs.Deed.{Deed, Calls}
use Rattle.pt_frame.specs.Replies.{bytes_of}
use Rattle.pt_frame.specs.Tended.{is_of_seat}
use Rattle.pt_frame.specs.Tree.{RequestTree, Gives, by_bytes, by_entries, make_bytes, make_entries, on}
use Rattle.pt_frame.specs.declared.act.ActReply.{ActReply}
use Rattle.pt_frame.specs.declared.product.Product.{Product}
use Rattle.pt_frame.specs.declared.product.Product.TheVariants as product
use Rattle.pt_req.specs.Entries.{can_open}
use Rattle.pt_req.specs.Steps.{begin}
use Rattle.pt_req.specs.declared.begun.BegunSession.{BegunSession}
use Rattle.pt_req.specs.declared.plan.Plan.{Plan}
use Rattle.pt_req.proofs.Replying.{if_bytes}
use Rattle.pt_req.proofs.Walking.{IsPlain, OfDeed, OfMade, OfOpening, OfRemoval, Walk, begins, checked, checks, files}
use Rattle.pt_req.proofs.Walking.{clears_capability, is_making, names_host, opens_inode, pins, places, refuses_so}
use Rattle.pt_req.proofs.Walking.{resolves, stats}
use Rattle.pt_attr.proofs.Walking.{calls, counts}
use Rattle.pt_xattr.specs.Listed.{entries_of, names_told}
use Rattle.pt_xattr.specs.Parts.{allowed, allowed_to_read, as_missing, counted, file_by, kills_sgid, list_told}
use Rattle.pt_xattr.specs.Parts.{list_whole, names_made, nul_free, sgid_killed, value_told, with_xattr, without_sgid}
use Rattle.pt_xattr.specs.Parts.{xattr_file}
use Rattle.pt_xattr.specs.Requests.{getxattr, listed_from, listing, listxattr, readdir, removexattr, setxattr}
use Rattle.pt_xattr.specs.Steps.{bytes_told}
use Rattle.pt_xattr.specs.declared.parts.XattrFile.{XattrFile}

-- what has to hold of what changes attributes
abbrev pub OfXattr : (Bool → Deed → Type 0) → Type 0
OfXattr D = OfOpening D false × ((through : Bool) → OfRemoval D false through)

module _
    {seat : HostSeat}
    {M : Credentials → Option ℕ → Type 0}
    {D : Bool → Deed → Type 0}
    {Q : RequestTree → Type 0}
    {R : ActReply → RequestTree → Type 0}
    (w : Walk seat M D Q R)
  where
    tells_bytes : (asked : Call) (next : List ℕ → RequestTree) → is_of_seat (Calls asked) ≡ false →
        is_making (Calls asked) ≡ false → OfDeed D false (Calls asked) → ((bytes : List ℕ) → Q (next bytes)) →
        Q (bytes_told asked next)
    tells_bytes asked next own none may so = w.asks (Calls asked) (on bytes_of next) own none may
        (if_bytes R next w.refuses (λ bytes. w.had _ _ (so bytes)))

    has_xattr : (plan : Plan) (next : RequestTree) → Q next → Q (with_xattr plan next)
    unfolding with_xattr
    has_xattr plan next so = checked w plan.config.xattr _ _ so (refuses_so w enosys)

    has_no_nul : (name : List ℕ) (next : RequestTree) → Q next → Q (nul_free name next)
    unfolding nul_free
    has_no_nul name next so = checks w (list_any (λ byte. byte == 0) name) _ _ (refuses_so w einval) so

    may_use : (found : Result (List ℕ) Errno) (next : List ℕ → RequestTree) → ((name : List ℕ) → Q (next name)) →
        Q (allowed found next)
    unfolding allowed
    may_use (Ok name) next so = so name
    may_use (Err errno) next so = refuses_so w errno

    may_read : (found : Result (List ℕ) Errno) (next : List ℕ → RequestTree) → ((name : List ℕ) → Q (next name)) →
        Q (allowed_to_read found next)
    unfolding allowed_to_read
    may_read (Ok name) next so = so name
    may_read (Err errno) next so = refuses_so w (as_missing errno)

    asked_by : (plan : Plan) (session : BegunSession) (row : Resolved) (number : ℕ) (next : XattrFile → RequestTree) →
        OfOpening D false → ((file : XattrFile) → Q (next file)) → Q (xattr_file plan session row number next)
    unfolding xattr_file
    asked_by plan session row number next may so =
        checked w (can_open row.mode) _ _
        (opens_inode w plan session number 2048 (λ fd. next (file_by false fd)) may (λ fd. so (file_by false fd)))
        (files w row.form (λ fd. next (file_by true fd)) (λ fd. so (file_by true fd)))

    kills : (is : Bool) (file : XattrFile) (next : RequestTree) → Q next → Q (sgid_killed is file next)
    kills false file next so = so
    kills true file next so =
        stats w file.fd _ (λ told.
        calls w (call.ChMod file.fd file.through (without_sgid told.mode)) next refl refl refl so)

    counts_so : (count : ℕ) (last : Answer) → IsPlain last → Q (Gives (counted count last))
    counts_so count last plain = by (nat_lt count (2 ^ 32))
      where
        by : (fits : Bool) → Q (Gives (if fits then last else answer.Refused eoverflow))
        by true = w.gives last plain
        by false = refuses_so w eoverflow

    tells_value : (file : XattrFile) (name : List ℕ) (size : ℕ) → Q (value_told file name size)
    unfolding value_told
    tells_value file name size =
        checks w (size == 0) _ _
        (counts w (call.GetXattr file.fd file.through name size) _ refl refl refl (λ count.
        counts_so count (answer.Xattr (xattr.Count count)) (refl, λ out. out)))
        (tells_bytes (call.GetXattr file.fd file.through name size) _ refl refl refl (λ value.
        w.gives (answer.Xattr (xattr.Value value)) (refl, λ out. out)))

    makes_bytes : OfMade Q → (made : List ℕ) (next : List ℕ → RequestTree) → ((bytes : List ℕ) → Q (next bytes)) →
        Q (make_bytes made next)
    makes_bytes may made next so = may (product.Bytes made) (by_bytes next) by
      where
        by : (kept : Product) → Q (by_bytes next kept)
        by (product.Bytes bytes) = so bytes
        by (product.Entries entries) = refuses_so w eio

    makes_entries : OfMade Q → (made : List DirEntry) (next : List DirEntry → RequestTree) →
        ((entries : List DirEntry) → Q (next entries)) → Q (make_entries made next)
    makes_entries may made next so = may (product.Entries made) (by_entries next) by
      where
        by : (kept : Product) → Q (by_entries next kept)
        by (product.Entries entries) = so entries
        by (product.Bytes bytes) = refuses_so w eio

    tells_names : OfMade Q → (plan : Plan) (agreed : Negotiated) (file : XattrFile) (size : ℕ) →
        Q (list_told plan agreed file size)
    unfolding list_told
    tells_names may plan agreed file size =
        checks w (size == 0) _ _
        (counts w (call.ListXattr file.fd file.through size) _ refl refl refl (λ count.
        counts_so count (answer.Xattrs (xattrs.Count count)) (refl, λ out. out)))
        (tells_bytes (call.ListXattr file.fd file.through size) _ refl refl refl (λ list.
        makes_bytes may (names_told plan agreed list) _ (λ names.
        w.gives (answer.Xattrs (xattrs.Names names)) (refl, λ out. out))))

    -- the requests
    pub sets_xattr : OfMade Q → (plan : Plan) (inode : ℕ) (name value : List ℕ) (flags : ℕ) (extra : SetxattrFlags) →
        OfXattr D → Q (begin (setxattr plan inode name value flags extra))
    sets_xattr made plan inode name value flags extra may =
        begins w _ (λ session. has_xattr plan _ (has_no_nul name _ (
        resolves w inode _ (λ row.
        names_host w made plan session.agreed name _ (λ found.
        may_use found _ (λ named.
        asked_by plan session row inode _ may.0 (λ file.
        clears_capability w plan.capability file.fd file.through _ (may.1 file.through) (
        kills (kills_sgid session.agreed extra named) file _ (
        calls w (call.SetXattr file.fd file.through named value flags) _ refl refl refl (
        w.gives answer.Done (refl, λ out. out)))))))))))

    pub gets_xattr : OfMade Q → (plan : Plan) (inode : ℕ) (name : List ℕ) (size : ℕ) → OfOpening D false →
        Q (begin (getxattr plan inode name size))
    gets_xattr made plan inode name size may =
        begins w _ (λ session. has_xattr plan _ (has_no_nul name _ (
        names_host w made plan session.agreed name _ (λ found.
        may_read found _ (λ named.
        resolves w inode _ (λ row.
        asked_by plan session row inode _ may (λ file. tells_value file named size)))))))

    pub lists_xattr : OfMade Q → (plan : Plan) (inode size : ℕ) → OfOpening D false →
        Q (begin (listxattr plan inode size))
    lists_xattr made plan inode size may =
        begins w _ (λ session. has_xattr plan _ (
        resolves w inode _ (λ row.
        asked_by plan session row inode _ may (λ file. tells_names made plan session.agreed file size))))

    pub removes_xattr : OfMade Q → (plan : Plan) (inode : ℕ) (name : List ℕ) → OfXattr D →
        Q (begin (removexattr plan inode name))
    removes_xattr made plan inode name may =
        begins w _ (λ session. has_xattr plan _ (has_no_nul name _ (
        resolves w inode _ (λ row.
        names_host w made plan session.agreed name _ (λ found.
        may_use found _ (λ named.
        asked_by plan session row inode _ may.0 (λ file.
        calls w (call.RemoveXattr file.fd file.through named) _ refl refl (may.1 file.through file.fd named) (
        w.gives answer.Done (refl, λ out. out)))))))))

    lists_entries : OfMade Q → (entries : Option (List DirEntry)) → Q (listing entries)
    lists_entries made None = refuses_so w eio
    lists_entries made (Some entries) = makes_entries made entries _ (λ told.
        w.gives (answer.Listing told) (refl, λ out. out))

    pub reads_dir : OfMade Q → (inode handle size offset : ℕ) → Q (begin (readdir inode handle size offset))
    unfolding readdir
    reads_dir made inode handle size offset =
        begins w _ (λ session.
        checks w (size == 0) _ _ (w.gives (answer.Listing []) (refl, λ out. out))
        (places w offset _ (
        pins w handle inode _ (λ fd.
        tells_bytes (call.ListAt fd (Some offset) size) _ refl refl refl (λ bytes.
        lists_entries made (entries_of bytes))))))
