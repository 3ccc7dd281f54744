-- Proof. What holds of each deed of a part, and of what follows it, holds of the part: a lemma a step and a part.
use Rattle.std.proofs.Common.{ℕ, Bool, true, false, List, [], ◌∷◌, Option, Some, None, Result, Ok, Err, refl}
use Rattle.std.proofs.Common.{if◌then◌else◌}
use Rattle.pt_host.specs.Call.{Call}
use Rattle.pt_host.specs.Errno.{ebadf, einval, eopnotsupp, eperm}
use Rattle.pt_host.specs.declared.ids.Errno.{Errno}
use Rattle.pt_host.specs.declared.ids.Fd.{Fd}
use Rattle.pt_host.specs.declared.seat.HostSeat.{HostSeat}
use Rattle.pt_host.specs.declared.stat.Stat.{Stat}
use Rattle.pt_host.specs.declared.op.KeptHostOp.TheVariants as call
use Rattle.pt_maps.specs.MappedNames.{client_name}
use Rattle.pt_maps.specs.declared.xattr_map.AppliedRule.{AppliedRule}
use Rattle.pt_maps.specs.declared.xattr_map.AppliedRule.TheVariants as applied
use Rattle.pt_maps.specs.declared.xattr_rule.XattrRule.{XattrRule}
use Rattle.pt_creds.specs.Identity.{Credentials, override_cap}
use Rattle.pt_creds.specs.Steps.{cred_steps}
use Rattle.pt_tables.specs.declared.form.Negotiated.{Negotiated}
use Rattle.pt_tables.specs.declared.form.RowForm.{RowForm}
use Rattle.pt_tables.specs.declared.form.RowForm.TheVariants.{File}
use Rattle.pt_tables.specs.declared.event.KeptEvent.TheVariants as change
use Rattle.pt_tables.specs.declared.reply.EventReply.TheVariants as event
use Rattle.pt_tables.specs.declared.reply.Resolved.{Resolved}
use Rattle.pt_iface.specs.declared.answer.Answer.{Answer}
use Rattle.pt_iface.specs.declared.answer.Answer.TheVariants as answer
use Rattle.pt_iface.specs.declared.request.SecContext.{SecContext}
use Rattle.pt_frame.specs.Deed.{Deed, Calls, Changes}
use Rattle.pt_frame.specs.Tree.{RequestTree, Gives, Asks, Bares, Brackets, Shuts, go_on, on, make_bytes, make_entries}
use Rattle.pt_iface.specs.declared.directory.DirEntry.{DirEntry}
use Rattle.pt_frame.specs.declared.act.ActReply.{ActReply}
use Rattle.pt_frame.specs.declared.act.ActReply.TheVariants.{Event}
use Rattle.pt_frame.specs.declared.hold.Hold.{Hold}
use Rattle.pt_frame.specs.declared.hold.Hold.TheVariants as hold
use Rattle.pt_req.specs.Asker.{as_asker, cap_raised, egid_set, euid_set, group_set, under_umask}
use Rattle.pt_req.specs.Attributes.{Label, by_rule, by_rules, host_label, host_name, is_blocked}
use Rattle.pt_host.specs.Flags.{includes, o_trunc}
use Rattle.pt_req.specs.Capability.{capability_cleared, cleared_if, drops_fsetid, fsetid, without_fsetid}
use Rattle.pt_req.specs.Entries.{can_open, is_bad_name, is_bad_offset}
use Rattle.pt_req.specs.Options.{cleaned, inode_flags, without_nofollow}
use Rattle.pt_req.specs.Parts.{by_path, file_of, handled, look_up, looked_of, named, numbered, numbered_as, open_form}
use Rattle.pt_req.specs.Parts.{open_inode, open_num, open_row, placed}
use Rattle.pt_req.specs.Steps.{begin, began_in, claim_of, claimed_in, drawn_in, fd_in, insert, insert_handle}
use Rattle.pt_req.specs.Steps.{inserted_in, new_handle_of, new_row_of, numbered_in, ok_in, open_scope, pin_handle}
use Rattle.pt_req.specs.Steps.{pinned_in, resolve, resolved_in, stat, stat_in, take_fd, taken_in, tried_in, done_in}
use Rattle.pt_req.specs.Steps.{gone_in, release_handle, try_call, or_refused, refused_in, set_xattr}
use Rattle.pt_req.specs.declared.begun.BegunSession.{BegunSession}
use Rattle.pt_req.specs.declared.parts.looked.Looked.{Looked}
use Rattle.pt_req.specs.declared.plan.Plan.{Plan}
use Rattle.pt_attr.specs.Creating.{labelled, labelled_by, undone}
use Rattle.pt_attr.specs.Making.{label_at, labelled_at, set_opened}
use Rattle.pt_attr.specs.Steps.{opened_in}
use Rattle.pt_plain.specs.Plain.{PlainTree}
use Rattle.pt_plain.proofs.Coming.{IsSeats}
use Rattle.pt_plain.proofs.Counting.{Even, IsEven}
use Rattle.pt_plain.proofs.Through.{even_through, Held, Known, mild_even, Stood, Through}
use Rattle.pt_plain.proofs.Walking.{IsMild}

-- it holds through the tree; a type of its own, from which the tree can be told
pub record Passes (D : Deed → Type 0) (state : PlainTree) (Q : Answer → Type 0) (tree : RequestTree) : Type 0 where
  pub by : Through D state Q tree

-- it holds of deeds that are mild, and perhaps of more
pub record OfMild (D : Deed → Type 0) : Type 0 where
  pub mild : (deed : Deed) → IsMild deed → D deed

module _ {D : Deed → Type 0} {state : PlainTree} {Q : Answer → Type 0} (p : OfMild D) where
  -- whatever is read of the reply
  pub passes_on : {V : Type 0} (read : ActReply → Option V) (next : V → RequestTree) →
      ((value : V) → Passes D state Q (next value)) → (told : ActReply) → Through D state Q (on read next told)
  unfolding on go_on
  passes_on {V} read next t told = go (read told)
    where
      go : (value : Option V) → Through D state Q (go_on next told value)
      go (Some value) = (t value).by
      go None = tt

  pub passes_call : {V : Type 0} (asked : Call) (read : ActReply → Option V) (next : V → RequestTree) →
      D (Calls asked) → ((value : V) → Passes D state Q (next value)) →
      Passes D state Q (Asks (Calls asked) (on read next))
  passes_call asked read next d t = record { by = (d, passes_on read next t) }

  pub ends : {last : Answer} → Q last → Passes D state Q (Gives last)
  ends q = record { by = q }

  pub passes_if : (is_bad : Bool) (errno : Errno) {next : RequestTree} → Q (answer.Refused errno) →
      Passes D state Q next → Passes D state Q (if is_bad then Gives (answer.Refused errno) else next)
  passes_if true errno bad t = record { by = bad }
  passes_if false errno bad t = t

  pub passes_unless : (is_good : Bool) (errno : Errno) {next : RequestTree} → Q (answer.Refused errno) →
      Passes D state Q next → Passes D state Q (if is_good then next else Gives (answer.Refused errno))
  passes_unless true errno bad t = t
  passes_unless false errno bad t = record { by = bad }

  pub passes_either : (first : Bool) {one other : RequestTree} → Passes D state Q one → Passes D state Q other →
      Passes D state Q (if first then one else other)
  passes_either true a b = a
  passes_either false a b = b

  pub passes_begin : (next : BegunSession → RequestTree) →
      ((session : BegunSession) → Passes D state Q (next session)) → Passes D state Q (begin next)
  passes_begin next t = record { by = (p.mild (Changes change.Begin) tt, passes_on began_in next t) }

  pub passes_named : (name : List ℕ) {next : RequestTree} → Q (answer.Refused einval) → Passes D state Q next →
      Passes D state Q (named name next)
  unfolding named
  passes_named name bad t = passes_if (is_bad_name name) einval bad t

  pub passes_placed : (offset : ℕ) {next : RequestTree} → Q (answer.Refused einval) → Passes D state Q next →
      Passes D state Q (placed offset next)
  unfolding placed
  passes_placed offset bad t = passes_if (is_bad_offset offset) einval bad t

  -- a number that is found is one of the state
  pub passes_resolve : (number : ℕ) (next : Resolved → RequestTree) →
      ((row : Resolved) → Passes D state (λ last. Stood state number → Q last) (next row)) →
      Passes D state Q (resolve number next)
  unfolding on go_on
  passes_resolve number next t = record { by = (p.mild (Changes (change.Resolve number)) tt, go) }
    where
      go : (told : ActReply) →
          Through D state (λ last. Known state (Changes (change.Resolve number)) told Q last) (on resolved_in next told)
      go (Event (event.Resolved row)) = (t row).by
      go told = tt

  pub passes_pin : (handle number : ℕ) (next : Fd → RequestTree) →
      ((fd : Fd) → Passes D state (λ last. Held state handle number → Q last) (next fd)) →
      Passes D state Q (pin_handle handle number next)
  unfolding on go_on
  passes_pin handle number next t = record { by = (p.mild (Changes (change.PinHandle handle number)) tt, go) }
    where
      go : (told : ActReply) →
          Through D state (λ last. Known state (Changes (change.PinHandle handle number)) told Q last)
          (on pinned_in next told)
      go (Event (event.Pinned row fd)) = (t fd).by
      go told = tt

  pub passes_file : (form : RowForm) (next : Fd → RequestTree) → ((fd : Fd) → Passes D state Q (next fd)) →
      Passes D state Q (file_of form next)
  passes_file (File fd) next t = t fd

  pub passes_stat : (fd : Fd) (next : Stat → RequestTree) → ((told : Stat) → Passes D state Q (next told)) →
      Passes D state Q (stat fd next)
  passes_stat fd next t = passes_call (call.Stat fd) stat_in next (p.mild (Calls (call.Stat fd)) tt) t

  passes_form : (form : RowForm) (flags : ℕ) (next : Fd → RequestTree) → ((fd : Fd) → Passes D state Q (next fd)) →
      Passes D state Q (open_form form flags next)
  passes_form (File fd) flags next t =
      passes_call (call.Reopen fd (without_nofollow flags)) fd_in next
      (p.mild (Calls (call.Reopen fd (without_nofollow flags))) tt) t

  pub passes_row : (row : Resolved) (flags : ℕ) (next : Fd → RequestTree) → Q (answer.Refused ebadf) →
      ((fd : Fd) → Passes D state Q (next fd)) → Passes D state Q (open_row row flags next)
  unfolding open_row
  passes_row row flags next bad t = passes_unless (can_open row.mode) ebadf bad (passes_form row.form flags next t)

  passes_scope : (asked : Call) (scope : Hold) {next : RequestTree} → IsSeats asked → Passes D state Q next →
      Passes D state Q (open_scope asked scope next)
  passes_scope asked scope {next} i t = record { by = (i, passes_on ok_in (λ done. next) (λ done. t)) }

  pub passes_without : (drops : Bool) {next : RequestTree} → Passes D state Q next →
      Passes D state Q (without_fsetid drops next)
  passes_without true t = passes_scope (call.DropCap fsetid) (hold.Dropped fsetid) tt t
  passes_without false t = t

  pub passes_cleared : (name : Option (List ℕ)) (fd : Fd) (through : Bool) {next : RequestTree} →
      Passes D state Q next → Passes D state Q (capability_cleared name fd through next)
  passes_cleared None fd through t = t
  passes_cleared (Some name) fd through {next} t =
      passes_call (call.RemoveXattr fd through name) gone_in (λ done. next)
      (p.mild (Calls (call.RemoveXattr fd through name)) tt) (λ done. t)

  pub passes_cleared_if : (emptied : Bool) (name : Option (List ℕ)) (fd : Fd) {next : RequestTree} →
      Passes D state Q next → Passes D state Q (cleared_if emptied name fd next)
  passes_cleared_if false name fd t = t
  passes_cleared_if true name fd t = passes_cleared name fd false t

  pub passes_bares : {next : RequestTree} → Passes D state Q next → Passes D state Q (Bares next)
  passes_bares t = record { by = t.by }

  pub passes_brackets : {next : RequestTree} → Passes D state Q next → Passes D state Q (Brackets next)
  passes_brackets t = record { by = t.by }

  pub passes_shuts : (passes : Bool) {next : RequestTree} → Passes D state Q next → Passes D state Q (Shuts passes next)
  passes_shuts passes t = record { by = t.by }

  pub passes_bytes : (made : List ℕ) (next : List ℕ → RequestTree) → Passes D state Q (next made) →
      Passes D state Q (make_bytes made next)
  passes_bytes made next t = record { by = t.by }

  pub passes_entries : (made : List DirEntry) (next : List DirEntry → RequestTree) → Passes D state Q (next made) →
      Passes D state Q (make_entries made next)
  passes_entries made next t = record { by = t.by }

  -- by the host's name of an attribute
  passes_rule : (fate : Option AppliedRule) (next : Result (List ℕ) Errno → RequestTree) →
      ((name : Result (List ℕ) Errno) → Passes D state Q (next name)) → Passes D state Q (by_rule fate next)
  passes_rule (Some (applied.Pass made)) next t = passes_bytes made (λ kept. next (Ok kept)) (t (Ok made))
  passes_rule (Some applied.Deny) next t = t (Err eperm)
  passes_rule (Some applied.Unsupported) next t = t (Err eopnotsupp)
  passes_rule None next t = t (Err eopnotsupp)

  passes_rules : (rules : Option (List XattrRule)) (name : List ℕ) (next : Result (List ℕ) Errno → RequestTree) →
      ((name : Result (List ℕ) Errno) → Passes D state Q (next name)) → Passes D state Q (by_rules rules name next)
  passes_rules None name next t = t (Ok name)
  passes_rules (Some rules) name next t = passes_rule (client_name rules name) next t

  pub passes_name : (plan : Plan) (agreed : Negotiated) (name : List ℕ) (next : Result (List ℕ) Errno → RequestTree) →
      ((name : Result (List ℕ) Errno) → Passes D state Q (next name)) →
      Passes D state Q (host_name plan agreed name next)
  unfolding host_name
  passes_name plan agreed name next t =
      passes_either (is_blocked agreed name) (t (Err eopnotsupp)) (passes_rules plan.config.xattrmap name next t)

  pub passes_label : (plan : Plan) (agreed : Negotiated) (brought : Option SecContext)
      (next : Option Label → RequestTree) → ((label : Option Label) → Passes D state Q (next label)) →
      Passes D state Q (host_label plan agreed brought next)
  passes_label plan agreed None next t = t None
  passes_label plan agreed (Some label) next t = passes_name plan agreed label.name _ (λ name. t _)

  -- as whoever asks
  pub passes_try : (asked : Call) {next : RequestTree} → D (Calls asked) → Passes D state Q next →
      Passes D state Q (try_call asked next)
  passes_try asked {next} d t = passes_call asked tried_in (λ done. next) d (λ done. t)

  passes_group : (group : Option ℕ) {next : RequestTree} → Passes D state Q next →
      Passes D state Q (group_set group next)
  passes_group None t = t
  passes_group (Some group) t = passes_scope (call.SetGroups (group ∷ [])) hold.Groups tt t

  passes_egid : (id : Option ℕ) {next : RequestTree} → Passes D state Q next → Passes D state Q (egid_set id next)
  passes_egid None t = t
  passes_egid (Some id) t = passes_scope (call.SetEgid id) hold.EffectiveGid tt t

  passes_euid : (id : Option ℕ) {next : RequestTree} → Passes D state Q next → Passes D state Q (euid_set id next)
  passes_euid None t = t
  passes_euid (Some id) t = passes_scope (call.SetEuid id) hold.EffectiveUid tt t

  passes_raised : (raises : Bool) {next : RequestTree} → Passes D state Q next →
      Passes D state Q (cap_raised raises next)
  passes_raised false t = t
  passes_raised true t =
      passes_try (call.RaiseCap override_cap) (p.mild (Calls (call.RaiseCap override_cap)) tt) t

  pub passes_umask : (umask : Option ℕ) {next : RequestTree} → Passes D state Q next →
      Passes D state Q (under_umask umask next)
  passes_umask None t = t
  passes_umask (Some mask) t = passes_scope (call.SetUmask mask) hold.Umask tt t

  pub passes_asker : (seat : HostSeat) (asker : Option Credentials) {next : RequestTree} → Q (answer.Refused eperm) →
      Passes D state Q next → Passes D state Q (as_asker seat asker next)
  passes_asker seat None bad t = record { by = bad }
  passes_asker seat (Some creds) bad t =
      let steps = cred_steps creds seat in
      passes_group steps.groups (passes_egid steps.egid (passes_euid steps.euid (passes_raised steps.raise t)))

  pub passes_take : {next : RequestTree} → Passes D state Q next → Passes D state Q (take_fd next)
  passes_take {next} t =
      record { by = (p.mild (Changes (change.TakeFd 0)) tt, passes_on taken_in (λ done. next) (λ done. t)) }

  -- what was opened gets a handle
  pub passes_handled : (session : BegunSession) (number : ℕ) (fd : Fd) (next : ℕ → RequestTree) →
      ((handle : ℕ) → D (Changes (change.InsertHandle (new_handle_of session.era handle number fd)))) →
      ((handle : ℕ) → Passes D state Q (next handle)) → Passes D state Q (handled session number fd next)
  passes_handled session number fd next d t = record {
    by = (p.mild (Changes change.DrawHandle) tt, passes_on drawn_in asks puts);
  }
    where
      asks : ℕ → RequestTree
      asks handle = take_fd (insert_handle session handle number fd (next handle))

      puts : (handle : ℕ) → Passes D state Q (asks handle)
      puts handle =
          passes_take (record { by = (d handle, passes_on inserted_in (λ done. next handle) (λ done. t handle)) })

  pub passes_release : (handle number : ℕ) {next : RequestTree} → D (Changes (change.Release handle number)) →
      Passes D state Q next → Passes D state Q (release_handle handle number next)
  passes_release handle number {next} d t = record { by = (d, passes_on done_in (λ done. next) (λ done. t)) }

  -- what was opened is numbered
  passes_numbered_as : (session : BegunSession) (form : RowForm) (told : Stat) (given : Option ℕ)
      (next : ℕ → RequestTree) →
      ((fresh : ℕ) → D (Changes (change.Insert (new_row_of session.era fresh form told)))) →
      ((number : ℕ) → Passes D state Q (next number)) → Passes D state Q (numbered_as session form told given next)
  passes_numbered_as session form told None next d t = passes_take (record {
    by = (
      p.mild (Changes change.DrawNode) tt,
      passes_on drawn_in (λ fresh. insert session fresh form told next)
          (λ fresh. record { by = (d fresh, passes_on numbered_in next t) }),
    );
  })
  passes_numbered_as session form told (Some number) next d t = t number

  pub passes_numbered : (session : BegunSession) (form : RowForm) (told : Stat) (next : ℕ → RequestTree) →
      D (Changes (change.Claim (claim_of session.era None told.ids))) →
      ((fresh : ℕ) → D (Changes (change.Insert (new_row_of session.era fresh form told)))) →
      ((number : ℕ) → Passes D state Q (next number)) → Passes D state Q (numbered session form told next)
  passes_numbered session form told next c d t = record {
    by = (
      c,
      passes_on claimed_in (λ given. numbered_as session form told given next)
          (λ given. passes_numbered_as session form told given next d t),
    );
  }

-- a number is opened
pub passes_inode : {D : Deed → Type 0} {state : PlainTree} {Q : Answer → Type 0} (p : OfMild D) (plan : Plan)
    (session : BegunSession) (number flags : ℕ) (next : Fd → RequestTree) →
    (Stood state number → Q (answer.Refused ebadf)) →
    ((fd : Fd) → Passes D state (λ last. Stood state number → Q last) (next fd)) →
    Passes D state Q (open_inode plan session number flags next)
passes_inode p plan session number flags next bad t =
    passes_resolve p number _ (λ row. passes_row p row (inode_flags plan.config session.agreed flags) next bad t)

-- and gets a handle
pub passes_open_num : {D : Deed → Type 0} {state : PlainTree} {Q : Answer → Type 0} (p : OfMild D) (plan : Plan)
    (seat : HostSeat) (session : BegunSession) (number : ℕ) (kill : Bool) (flags : ℕ) (next : ℕ → RequestTree) →
    (Stood state number → Q (answer.Refused ebadf)) →
    ((handle : ℕ) (fd : Fd) → D (Changes (change.InsertHandle (new_handle_of session.era handle number fd)))) →
    ((handle : ℕ) → Passes D state (λ last. Stood state number → Q last) (next handle)) →
    Passes D state Q (open_num plan seat session number kill flags next)
passes_open_num p plan seat session number kill flags next bad d t =
    passes_brackets p (
    passes_without p (drops_fsetid plan seat kill) (
    passes_inode p plan session number (cleaned plan.config flags) _ bad (λ fd.
    passes_bares p (
    passes_cleared_if p (includes flags o_trunc) plan.capability fd (
    passes_handled p session number fd _ (λ handle. d handle fd) (λ handle. passes_shuts p false (t handle)))))))

-- a name is looked up
pub passes_look_up : {D : Deed → Type 0} {state : PlainTree} {Q : Answer → Type 0} (p : OfMild D) (plan : Plan)
    (session : BegunSession) (parent : ℕ) (name : List ℕ) (next : Looked → RequestTree) →
    ((told : Stat) → D (Changes (change.Claim (claim_of session.era None told.ids)))) →
    ((fresh : ℕ) (fd : Fd) (told : Stat) → D (Changes (change.Insert (new_row_of session.era fresh (File fd) told)))) →
    ((looked : Looked) → Passes D state (λ last. Stood state parent → Q last) (next looked)) →
    Passes D state Q (look_up plan session parent name next)
unfolding look_up
passes_look_up p plan session parent name next c d t =
    passes_brackets p (
    passes_resolve p parent _ (λ directory.
    passes_file p directory.form _ (λ dir.
    passes_call p (call.OpenAt dir name by_path 0) fd_in _ (p.mild (Calls (call.OpenAt dir name by_path 0)) refl) (λ fd.
    passes_stat p fd _ (λ told.
    passes_numbered p session (File fd) told _ (c told) (λ fresh. d fresh fd told) (λ number.
    passes_shuts p true (t (looked_of plan session directory.ids told number))))))))

-- What was made gets its context, or goes again; any answer is right.
module _ {D : Deed → Type 0} {state : PlainTree} {Q : Answer → Type 0} (p : OfMild D) (any : (last : Answer) → Q last)
  where
    passes_undone : (undoing : Call) (last : Answer) → D (Calls undoing) → Passes D state Q (undone undoing last)
    passes_undone undoing last d = passes_try p undoing d (ends p (any last))

    passes_or : (undoing : Call) (next : RequestTree) (refused : Option Answer) → D (Calls undoing) →
        Passes D state Q next →
        Passes D state Q (or_refused (undone undoing) next refused)
    passes_or undoing next None d t = t
    passes_or undoing next (Some last) d t = passes_undone undoing last d

    passes_set : (fd : Fd) (through : Bool) (name bytes : List ℕ) (next : Option Answer → RequestTree) →
        ((refused : Option Answer) → Passes D state Q (next refused)) →
        Passes D state Q (set_xattr fd through name bytes 0 next)
    passes_set fd through name bytes next t =
        passes_call p (call.SetXattr fd through name bytes 0) refused_in next
        (p.mild (Calls (call.SetXattr fd through name bytes 0)) tt) t

    passes_by_name : (fd : Fd) (undoing : Call) (value : List ℕ) (name : Result (List ℕ) Errno) (next : RequestTree) →
        D (Calls undoing) → Passes D state Q next → Passes D state Q (labelled_by fd undoing value name next)
    passes_by_name fd undoing value (Err errno) next d t = passes_undone undoing (answer.Refused errno) d
    passes_by_name fd undoing value (Ok name) next d t =
        passes_set fd false name value _ (λ refused. passes_or undoing next refused d t)

    pub passes_labelled : (fd : Fd) (undoing : Call) (label : Option Label) {next : RequestTree} → D (Calls undoing) →
        Passes D state Q next → Passes D state Q (labelled fd undoing label next)
    passes_labelled fd undoing None d t = t
    passes_labelled fd undoing (Some label) {next} d t = passes_by_name fd undoing label.value label.name next d t

    passes_opened : (attribute value : List ℕ) (opened : Result Fd Answer) (next : Option Answer → RequestTree) →
        ((refused : Option Answer) → Passes D state Q (next refused)) →
        Passes D state Q (set_opened attribute value opened next)
    passes_opened attribute value (Ok fd) next t = passes_set fd true attribute value next t
    passes_opened attribute value (Err last) next t = t (Some last)

    passes_found : (dir : Fd) (name : List ℕ) (undoing : Call) (value : List ℕ) (found : Result (List ℕ) Errno)
        (next : RequestTree) → D (Calls undoing) → Passes D state Q next →
        Passes D state Q (label_at dir name undoing value found next)
    passes_found dir name undoing value (Err errno) next d t = passes_undone undoing (answer.Refused errno) d
    passes_found dir name undoing value (Ok attribute) next d t =
        passes_brackets p (
        passes_call p (call.OpenAt dir name by_path 0) opened_in _
        (p.mild (Calls (call.OpenAt dir name by_path 0)) refl)
        (λ opened. passes_opened attribute value opened _ (λ refused.
        passes_shuts p false (passes_or undoing next refused d t))))

    pub passes_labelled_at : (dir : Fd) (name : List ℕ) (undoing : Call) (label : Option Label) {next : RequestTree} →
        D (Calls undoing) → Passes D state Q next → Passes D state Q (labelled_at dir name undoing label next)
    passes_labelled_at dir name undoing None d t = t
    passes_labelled_at dir name undoing (Some label) {next} d t =
        passes_found dir name undoing label.value label.name next d t

-- neither forgetting nor clearing nor opening a root

pub even_also : OfMild IsEven
even_also = record { mild = mild_even }

pub even_passes : {state : PlainTree} {tree : RequestTree} → Passes IsEven state (λ last. Unit {0}) tree → Even tree
even_passes {state} {tree} t = even_through IsEven state (λ last. Unit {0}) tree (λ deed e. e) t.by
