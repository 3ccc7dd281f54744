-- Each request is told, asks and brings no more than there is room for: a lemma a shape of step, a part and a request.
use Rattle.std.proofs.Common.{ℕ, zero, suc, ◌≤◌, Bool, true, false, List, Option, Some, None, Result, Ok, Err, arith}
use Rattle.std.proofs.Common.{if◌then◌else◌}
use Rattle.pt_host.specs.Errno.{ebadf, einval, eperm, eopnotsupp}
use Rattle.pt_host.specs.Flags.{includes, o_directory, o_trunc}
use Rattle.pt_host.specs.declared.ids.Errno.{Errno}
use Rattle.pt_host.specs.declared.ids.Fd.{Fd}
use Rattle.pt_host.specs.declared.seat.HostSeat.{HostSeat}
use Rattle.pt_host.specs.declared.stat.Stat.{Stat}
use Rattle.pt_maps.specs.MappedNames.{client_name}
use Rattle.pt_maps.specs.declared.xattr_map.AppliedRule.{AppliedRule}
use Rattle.pt_maps.specs.declared.xattr_map.AppliedRule.TheVariants as applied
use Rattle.pt_maps.specs.declared.xattr_rule.XattrRule.{XattrRule}
use Rattle.pt_creds.specs.Identity.{Credentials}
use Rattle.pt_creds.specs.Steps.{cred_steps}
use Rattle.pt_tables.specs.declared.form.RowForm.{RowForm}
use Rattle.pt_tables.specs.declared.form.RowForm.TheVariants.{File}
use Rattle.pt_tables.specs.declared.form.Negotiated.{Negotiated}
use Rattle.pt_iface.specs.declared.answer.Answer.TheVariants as answer
use Rattle.pt_iface.specs.declared.flags.FsOptions.{FsOptions}
use Rattle.pt_iface.specs.declared.request.SecContext.{SecContext}
use Rattle.pt_tables.specs.Tables.{nothing_agreed}
use Rattle.pt_frame.specs.Tree.{RequestTree, Gives, Refuses, Asks, Opens, Bares, Brackets, Shuts, Allocates, on, go_on}
use Rattle.pt_frame.specs.Tree.{by_bytes}
use Rattle.pt_frame.specs.Machine.Brings.{brings_of, holds_in, rows_in}
use Rattle.pt_frame.specs.Machine.Room.{Keeps, KeepsBehind, KeepsOn, Spends, SpendsAct, act_cost, most_holds, most_rows}
use Rattle.pt_frame.specs.Machine.Room.{most_told}
use Rattle.pt_frame.specs.declared.act.ActReply.{ActReply}
use Rattle.pt_frame.specs.declared.product.Product.{Product}
use Rattle.pt_frame.specs.declared.product.Product.TheVariants as product
use Rattle.pt_frame.specs.declared.told.Brings.{Brings}
use Rattle.pt_frame.specs.declared.told.Brings.TheVariants as brings
use Rattle.pt_req.specs.Asker.{as_asker, group_set, egid_set, euid_set, cap_raised, under_umask}
use Rattle.pt_req.specs.Attributes.{Label, by_rule, by_rules, host_label, host_name, is_blocked}
use Rattle.pt_req.specs.Capability.{capability_cleared, cleared_if, drops_fsetid, without_fsetid}
use Rattle.pt_req.specs.Entries.{can_open, is_bad_name, is_bad_offset}
use Rattle.pt_req.specs.Options.{cleaned, inode_flags, open_options, with_bits}
use Rattle.pt_req.specs.Parts.{named, placed, file_of, open_form, open_row, open_inode, numbered_anew, numbered_as}
use Rattle.pt_req.specs.Parts.{numbered, look_up, handled, open_num, root_open}
use Rattle.pt_req.specs.Requests.{init, destroy, root, lookup, forget, batch_forget, open_file, open_dir, release, read}
use Rattle.pt_req.specs.Requests.{unserved}
use Rattle.pt_req.specs.Steps.{begin, session_of}
use Rattle.pt_req.specs.declared.begun.BegunSession.{BegunSession}
use Rattle.pt_req.specs.declared.parts.looked.Looked.{Looked}
use Rattle.pt_req.specs.declared.plan.Plan.{Plan}
use Rattle.pt_tables.specs.declared.reply.Resolved.{Resolved}
use Rattle.pt_frame.proofs.Keeping.{sooner}

-- so many more
abbrev pub plus : ℕ → ℕ → ℕ
plus zero count = count
plus (suc steps) count = suc (plus steps count)

plus_more : (steps count : ℕ) → count ≤ plus steps count
plus_more zero count = omega arith
plus_more (suc steps) count = let h : count ≤ plus steps count = plus_more steps count in omega arith

spends_wider : (cost amount amount' : ℕ) (P Q : ℕ → Type 0) → amount ≤ amount' →
    ((left left' : ℕ) → left ≤ left' → P left → Q left') → Spends cost amount P → Spends cost amount' Q
spends_wider zero amount amount' P Q le so is = so amount amount' le is
spends_wider (suc cost) zero amount' P Q le so is = absurd is
spends_wider (suc cost) (suc amount) zero P Q le so is = absurd (omega arith)
spends_wider (suc cost) (suc amount) (suc amount') P Q le so is =
    spends_wider cost amount amount' P Q (omega arith) so is

act_wider : (may : Brings) (acts acts' room room' rows rows' : ℕ) (P Q : ℕ → ℕ → ℕ → Type 0) → acts ≤ acts' →
    room ≤ room' → rows ≤ rows' →
    ((a a' r r' w w' : ℕ) → a ≤ a' → r ≤ r' → w ≤ w' → P a r w → Q a' r' w') →
    SpendsAct may acts room rows P → SpendsAct may acts' room' rows' Q
act_wider may acts acts' room room' rows rows' P Q ale rle wle so is =
    spends_wider (act_cost may) acts acts'
    (λ a. Spends (holds_in may) room (λ r. Spends (rows_in may) rows (λ w. P a r w)))
    (λ a. Spends (holds_in may) room' (λ r. Spends (rows_in may) rows' (λ w. Q a r w))) ale
    (λ a a' ha. spends_wider (holds_in may) room room' (λ r. Spends (rows_in may) rows (λ w. P a r w))
    (λ r. Spends (rows_in may) rows' (λ w. Q a' r w)) rle
    (λ r r' hr. spends_wider (rows_in may) rows rows' (λ w. P a r w) (λ w. Q a' r' w) wle
    (λ w w' hw. so a a' r r' w w' ha hr hw))) is

-- what is within bounds is within wider ones
wider_behind : (replied : Bool) (tree : RequestTree) (told told' acts acts' room room' rows rows' : ℕ) → told ≤ told' → acts ≤ acts' →
    room ≤ room' → rows ≤ rows' → KeepsBehind replied tree told acts room rows →
    KeepsBehind replied tree told' acts' room' rows'
wider_behind replied (Gives last) told told' acts acts' room room' rows rows' t a r w is = tt
wider_behind replied (Refuses reply) told told' acts acts' room room' rows rows' t a r w is = tt
wider_behind replied (Asks deed more) zero told' acts acts' room room' rows rows' t a r w is = absurd is
wider_behind replied (Asks deed more) (suc told) zero acts acts' room room' rows rows' t a r w is = absurd (omega arith)
wider_behind replied (Asks deed more) (suc told) (suc told') acts acts' room room' rows rows' t a r w is =
    act_wider (brings_of deed) acts acts' room room' rows rows'
    (λ x y z. (reply : ActReply) → KeepsOn (more reply) told x y z)
    (λ x y z. (reply : ActReply) → KeepsOn (more reply) told' x y z) a r w
    (λ x x' y y' z z' hx hy hz keeps. λ reply.
    wider_behind true (more reply) told told' x x' y y' z z' (omega arith) hx hy hz (keeps reply)) is
wider_behind replied (Opens call scope more) zero told' acts acts' room room' rows rows' t a r w is = absurd is
wider_behind replied (Opens call scope more) (suc told) zero acts acts' room room' rows rows' t a r w is = absurd (omega arith)
wider_behind replied (Opens call scope more) (suc told) (suc told') acts acts' room room' rows rows' t a r w is =
    act_wider brings.Hold acts acts' room room' rows rows'
    (λ x y z. (reply : ActReply) → KeepsOn (more reply) told x y z)
    (λ x y z. (reply : ActReply) → KeepsOn (more reply) told' x y z) a r w
    (λ x x' y y' z z' hx hy hz keeps. λ reply.
    wider_behind true (more reply) told told' x x' y y' z z' (omega arith) hx hy hz (keeps reply)) is
wider_behind replied (Bares rest) zero told' acts acts' room room' rows rows' t a r w is = absurd is
wider_behind replied (Bares rest) (suc told) zero acts acts' room room' rows rows' t a r w is = absurd (omega arith)
wider_behind replied (Bares rest) (suc told) (suc told') acts acts' room room' rows rows' t a r w is =
    wider_behind false rest told told' acts acts' room room' rows rows' (omega arith) a r w is
wider_behind replied (Brackets rest) zero told' acts acts' room room' rows rows' t a r w is = absurd is
wider_behind replied (Brackets rest) (suc told) zero acts acts' room room' rows rows' t a r w is = absurd (omega arith)
wider_behind replied (Brackets rest) (suc told) (suc told') acts acts' zero room' rows rows' t a r w is = absurd is
wider_behind replied (Brackets rest) (suc told) (suc told') acts acts' (suc room) zero rows rows' t a r w is = absurd (omega arith)
wider_behind replied (Brackets rest) (suc told) (suc told') acts acts' (suc room) (suc room') rows rows' t a r w is =
    wider_behind false rest told told' acts acts' room room' rows rows' (omega arith) a (omega arith) w is
wider_behind replied (Shuts passes rest) zero told' acts acts' room room' rows rows' t a r w is = absurd is
wider_behind replied (Shuts passes rest) (suc told) zero acts acts' room room' rows rows' t a r w is = absurd (omega arith)
wider_behind replied (Shuts passes rest) (suc told) (suc told') acts acts' room room' rows rows' t a r w is =
    wider_behind false rest told told' acts acts' room room' rows rows' (omega arith) a r w is
wider_behind replied (Allocates made next) zero told' acts acts' room room' rows rows' t a r w is = absurd is
wider_behind replied (Allocates made next) (suc told) zero acts acts' room room' rows rows' t a r w is =
    absurd (omega arith)
wider_behind false (Allocates made next) (suc told) (suc told') acts acts' room room' rows rows' t a r w is = absurd is
wider_behind true (Allocates made next) (suc told) (suc told') acts acts' room room' rows rows' t a r w is = λ kept.
    wider_behind false (next kept) told told' acts acts' room room' rows rows' (omega arith) a r w (is kept)

pub wider : (tree : RequestTree) (told told' acts acts' room room' rows rows' : ℕ) → told ≤ told' → acts ≤ acts' →
    room ≤ room' → rows ≤ rows' → Keeps tree told acts room rows → Keeps tree told' acts' room' rows'
wider tree told told' acts acts' room room' rows rows' t a r w is =
    wider_behind false tree told told' acts acts' room room' rows rows' t a r w is

pub more : (t a r w : ℕ) (tree : RequestTree) (told acts room rows : ℕ) → Keeps tree told acts room rows →
    Keeps tree (plus t told) (plus a acts) (plus r room) (plus w rows)
more t a r w tree told acts room rows is =
    wider tree told (plus t told) acts (plus a acts) room (plus r room) rows (plus w rows) (plus_more t told)
    (plus_more a acts) (plus_more r room) (plus_more w rows) is

go_keeps : {T : Type 0} (next : T → RequestTree) (reply : ActReply) (told acts room rows : ℕ) →
    ((value : T) → Keeps (next value) told acts room rows) → (value : Option T) →
    Keeps (go_on next reply value) told acts room rows
unfolding go_on
go_keeps next reply told acts room rows is (Some value) = is value
go_keeps next reply told acts room rows is None = tt

-- behind a making, once its scopes have ended
pub bared : {T : Type 0} (read : ActReply → Option T) (next : T → RequestTree) (told acts room rows : ℕ) →
    ((value : T) → Keeps (next value) told acts room rows) → (reply : ActReply) →
    Keeps (on read next reply) told acts room rows
unfolding on
bared read next told acts room rows is reply = go_keeps next reply told acts room rows is (read reply)

-- behind a step
pub step : {T : Type 0} (read : ActReply → Option T) (next : T → RequestTree) (told acts room rows : ℕ) →
    ((value : T) → Keeps (next value) told acts room rows) → (reply : ActReply) →
    KeepsOn (on read next reply) told acts room rows
step read next told acts room rows is reply =
    sooner (on read next reply) told acts room rows (bared read next told acts room rows is reply)

go_on_keeps : {T : Type 0} (next : T → RequestTree) (reply : ActReply) (told acts room rows : ℕ) →
    ((value : T) → KeepsOn (next value) told acts room rows) → (value : Option T) →
    KeepsOn (go_on next reply value) told acts room rows
unfolding go_on
go_on_keeps next reply told acts room rows is (Some value) = is value
go_on_keeps next reply told acts room rows is None = tt

-- what is made may follow a step
pub step_on : {T : Type 0} (read : ActReply → Option T) (next : T → RequestTree) (told acts room rows : ℕ) →
    ((value : T) → KeepsOn (next value) told acts room rows) → (reply : ActReply) →
    KeepsOn (on read next reply) told acts room rows
unfolding on
step_on read next told acts room rows is reply = go_on_keeps next reply told acts room rows is (read reply)

pub if_keeps_on : (test : Bool) (one other : RequestTree) (told acts room rows : ℕ) →
    KeepsOn one told acts room rows → KeepsOn other told acts room rows →
    KeepsOn (if test then one else other) told acts room rows
if_keeps_on true one other told acts room rows is not = is
if_keeps_on false one other told acts room rows is not = not

-- and a mapped name is
rule_keeps : (fate : Option AppliedRule) (next : Result (List ℕ) Errno → RequestTree) (told acts room rows : ℕ) →
    ((name : Result (List ℕ) Errno) → Keeps (next name) told acts room rows) →
    KeepsOn (by_rule fate next) (suc told) acts room rows
rule_keeps (Some (applied.Pass made)) next told acts room rows is = by
  where
    by : (kept : Product) → Keeps (by_bytes (λ name. next (Ok name)) kept) told acts room rows
    by (product.Bytes bytes) = is (Ok bytes)
    by (product.Entries entries) = tt
rule_keeps (Some applied.Deny) next told acts room rows is =
    sooner (next (Err eperm)) (suc told) acts room rows
    (more 1 0 0 0 (next (Err eperm)) told acts room rows (is (Err eperm)))
rule_keeps (Some applied.Unsupported) next told acts room rows is =
    sooner (next (Err eopnotsupp)) (suc told) acts room rows
    (more 1 0 0 0 (next (Err eopnotsupp)) told acts room rows (is (Err eopnotsupp)))
rule_keeps None next told acts room rows is =
    sooner (next (Err eopnotsupp)) (suc told) acts room rows
    (more 1 0 0 0 (next (Err eopnotsupp)) told acts room rows (is (Err eopnotsupp)))

rules_keeps : (rules : Option (List XattrRule)) (name : List ℕ) (next : Result (List ℕ) Errno → RequestTree)
    (told acts room rows : ℕ) → ((name : Result (List ℕ) Errno) → Keeps (next name) told acts room rows) →
    KeepsOn (by_rules rules name next) (suc told) acts room rows
rules_keeps None name next told acts room rows is =
    sooner (next (Ok name)) (suc told) acts room rows
    (more 1 0 0 0 (next (Ok name)) told acts room rows (is (Ok name)))
rules_keeps (Some rules) name next told acts room rows is =
    rule_keeps (client_name rules name) next told acts room rows is

pub host_name_keeps : (plan : Plan) (agreed : Negotiated) (name : List ℕ) (next : Result (List ℕ) Errno → RequestTree)
    (told acts room rows : ℕ) → ((name : Result (List ℕ) Errno) → Keeps (next name) told acts room rows) →
    KeepsOn (host_name plan agreed name next) (suc told) acts room rows
unfolding host_name
host_name_keeps plan agreed name next told acts room rows is =
    if_keeps_on (is_blocked agreed name) (next (Err eopnotsupp)) (by_rules plan.config.xattrmap name next) (suc told)
    acts room rows (sooner (next (Err eopnotsupp)) (suc told) acts room rows
    (more 1 0 0 0 (next (Err eopnotsupp)) told acts room rows (is (Err eopnotsupp))))
    (rules_keeps plan.config.xattrmap name next told acts room rows is)

pub if_keeps : (test : Bool) (one other : RequestTree) (told acts room rows : ℕ) → Keeps one told acts room rows →
    Keeps other told acts room rows → Keeps (if test then one else other) told acts room rows
if_keeps true one other told acts room rows is not = is
if_keeps false one other told acts room rows is not = not

-- checks
pub named_keeps : (name : List ℕ) (next : RequestTree) (told acts room rows : ℕ) → Keeps next told acts room rows →
    Keeps (named name next) told acts room rows
unfolding named
named_keeps name next told acts room rows is =
    if_keeps (is_bad_name name) (Gives (answer.Refused einval)) next told acts room rows tt is

pub placed_keeps : (offset : ℕ) (next : RequestTree) (told acts room rows : ℕ) → Keeps next told acts room rows →
    Keeps (placed offset next) told acts room rows
unfolding placed
placed_keeps offset next told acts room rows is =
    if_keeps (is_bad_offset offset) (Gives (answer.Refused einval)) next told acts room rows tt is

-- rows
pub file_keeps : (form : RowForm) (next : Fd → RequestTree) (told acts room rows : ℕ) →
    ((fd : Fd) → Keeps (next fd) told acts room rows) → Keeps (file_of form next) told acts room rows
file_keeps (File fd) next told acts room rows is = is fd

form_keeps : (form : RowForm) (flags : ℕ) (next : Fd → RequestTree) (told acts room rows : ℕ) →
    ((fd : Fd) → Keeps (next fd) told acts room rows) →
    Keeps (open_form form flags next) (plus 1 told) (plus 2 acts) (plus 1 room) rows
form_keeps (File fd) flags next told acts room rows is = step _ _ told acts room rows is

pub row_keeps : (row : Resolved) (flags : ℕ) (next : Fd → RequestTree) (told acts room rows : ℕ) →
    ((fd : Fd) → Keeps (next fd) told acts room rows) →
    Keeps (open_row row flags next) (plus 1 told) (plus 2 acts) (plus 1 room) rows
unfolding open_row
row_keeps row flags next told acts room rows is =
    if_keeps (can_open row.mode) (open_form row.form flags next) (Gives (answer.Refused ebadf)) (plus 1 told)
    (plus 2 acts) (plus 1 room) rows (form_keeps row.form flags next told acts room rows is) tt

pub inode_keeps : (plan : Plan) (session : BegunSession) (number flags : ℕ) (next : Fd → RequestTree)
    (told acts room rows : ℕ) → ((fd : Fd) → Keeps (next fd) told acts room rows) →
    Keeps (open_inode plan session number flags next) (plus 2 told) (plus 4 acts) (plus 2 room) rows
inode_keeps plan session number flags next told acts room rows is =
    step _ _ (plus 1 told) (plus 2 acts) (plus 1 room) rows (λ row.
    row_keeps row (inode_flags plan.config session.agreed flags) next told acts room rows is)

-- numbers
anew_keeps : (session : BegunSession) (form : RowForm) (stat : Stat) (next : ℕ → RequestTree)
    (told acts room rows : ℕ) → ((number : ℕ) → Keeps (next number) told acts room rows) →
    Keeps (numbered_anew session form stat next) (plus 3 told) (plus 5 acts) (plus 2 room) (plus 1 rows)
anew_keeps session form stat next told acts room rows is =
    step _ _ _ _ _ _ (λ done. step _ _ _ _ _ _ (λ fresh. step _ _ _ _ _ _ is))

as_keeps : (session : BegunSession) (form : RowForm) (stat : Stat) (given : Option ℕ) (next : ℕ → RequestTree)
    (told acts room rows : ℕ) → ((number : ℕ) → Keeps (next number) told acts room rows) →
    Keeps (numbered_as session form stat given next) (plus 3 told) (plus 5 acts) (plus 2 room) (plus 1 rows)
as_keeps session form stat None next told acts room rows is = anew_keeps session form stat next told acts room rows is
as_keeps session form stat (Some number) next told acts room rows is =
    more 3 5 2 1 (next number) told acts room rows (is number)

pub numbered_keeps : (session : BegunSession) (form : RowForm) (stat : Stat) (next : ℕ → RequestTree)
    (told acts room rows : ℕ) → ((number : ℕ) → Keeps (next number) told acts room rows) →
    Keeps (numbered session form stat next) (plus 4 told) (plus 7 acts) (plus 3 room) (plus 1 rows)
numbered_keeps session form stat next told acts room rows is =
    step _ _ _ _ _ _ (λ given. as_keeps session form stat given next told acts room rows is)

pub look_up_keeps : (plan : Plan) (session : BegunSession) (parent : ℕ) (name : List ℕ) (next : Looked → RequestTree)
    (told acts room rows : ℕ) → ((looked : Looked) → Keeps (next looked) told acts room rows) →
    Keeps (look_up plan session parent name next) (plus 9 told) (plus 12 acts) (plus 6 room) (plus 1 rows)
unfolding look_up
look_up_keeps plan session parent name next told acts room rows is =
    step _ _ _ _ _ _ (λ directory. file_keeps directory.form _ _ _ _ _ (λ dir.
    step _ _ _ _ _ _ (λ fd. step _ _ _ _ _ _ (λ stat.
    numbered_keeps session (File fd) stat _ (suc told) acts room rows (λ number. is _)))))

-- handles
pub handled_keeps : (session : BegunSession) (number : ℕ) (fd : Fd) (next : ℕ → RequestTree)
    (told acts room rows : ℕ) → ((handle : ℕ) → Keeps (next handle) told acts room rows) →
    Keeps (handled session number fd next) (plus 3 told) (plus 4 acts) (plus 1 room) (plus 1 rows)
handled_keeps session number fd next told acts room rows is =
    step _ _ _ _ _ _ (λ handle. step _ _ _ _ _ _ (λ taken. step _ _ _ _ _ _ (λ done. is handle)))

pub fsetid_keeps : (drops : Bool) (next : RequestTree) (told acts room rows : ℕ) → Keeps next told acts room rows →
    Keeps (without_fsetid drops next) (plus 1 told) (plus 2 acts) (plus 1 room) rows
fsetid_keeps false next told acts room rows is = more 1 2 1 0 next told acts room rows is
fsetid_keeps true next told acts room rows is = step _ _ _ _ _ _ (λ done. is)

pub capability_keeps : (name : Option (List ℕ)) (fd : Fd) (through : Bool) (next : RequestTree)
    (told acts room rows : ℕ) → Keeps next told acts room rows →
    Keeps (capability_cleared name fd through next) (plus 1 told) (plus 1 acts) room rows
capability_keeps None fd through next told acts room rows is = more 1 1 0 0 next told acts room rows is
capability_keeps (Some name) fd through next told acts room rows is = step _ _ _ _ _ _ (λ done. is)

cleared_keeps : (emptied : Bool) (name : Option (List ℕ)) (fd : Fd) (next : RequestTree) (told acts room rows : ℕ) →
    Keeps next told acts room rows → Keeps (cleared_if emptied name fd next) (plus 1 told) (plus 1 acts) room rows
cleared_keeps false name fd next told acts room rows is = more 1 1 0 0 next told acts room rows is
cleared_keeps true name fd next told acts room rows is = capability_keeps name fd false next told acts room rows is

pub open_keeps : (plan : Plan) (seat : HostSeat) (session : BegunSession) (number : ℕ) (kill : Bool) (flags : ℕ)
    (next : ℕ → RequestTree) (told acts room rows : ℕ) → ((handle : ℕ) → Keeps (next handle) told acts room rows) →
    Keeps (open_num plan seat session number kill flags next) (plus 10 told) (plus 11 acts) (plus 5 room) (plus 1 rows)
open_keeps plan seat session number kill flags next told acts room rows is =
    fsetid_keeps (drops_fsetid plan seat kill) _ (plus 8 told) (plus 9 acts) (plus 3 room) (plus 1 rows)
    (inode_keeps plan session number (cleaned plan.config flags)
    (λ fd. Bares (cleared_if (includes flags o_trunc) plan.capability fd
    (handled session number fd (λ handle. Shuts false (next handle))))) (plus 6 told) (plus 5 acts)
    (plus 1 room) (plus 1 rows) (λ fd.
    cleared_keeps (includes flags o_trunc) plan.capability fd _ (plus 4 told) (plus 4 acts) (plus 1 room) (plus 1 rows)
    (handled_keeps session number fd (λ handle. Shuts false (next handle)) (suc told) acts room rows is)))

pub root_keeps : (plan : Plan) (session : BegunSession) (agreed : Option Negotiated) (next : RequestTree)
    (told acts room rows : ℕ) → Keeps next told acts room rows →
    Keeps (root_open plan session agreed next) (plus 4 told) (plus 6 acts) (plus 2 room) (plus 1 rows)
root_keeps plan session agreed next told acts room rows is =
    step _ _ _ _ _ _ (λ fd. step _ _ _ _ _ _ (λ stat. step _ _ _ _ _ _ (λ taken. step _ _ _ _ _ _ (λ done. is))))

-- behind a reply
pub host_label_keeps : (plan : Plan) (agreed : Negotiated) (brought : Option SecContext)
    (next : Option Label → RequestTree) (told acts room rows : ℕ) →
    ((label : Option Label) → Keeps (next label) told acts room rows) →
    KeepsOn (host_label plan agreed brought next) (suc told) acts room rows
host_label_keeps plan agreed None next told acts room rows is =
    sooner (next None) (suc told) acts room rows
    (more 1 0 0 0 (next None) told acts room rows (is None))
host_label_keeps plan agreed (Some label) next told acts room rows is =
    host_name_keeps plan agreed label.name _ told acts room rows (λ name. is _)

group_keeps : (group : Option ℕ) (next : RequestTree) (told acts room rows : ℕ) → Keeps next told acts room rows →
    Keeps (group_set group next) (plus 1 told) (plus 2 acts) (plus 1 room) rows
group_keeps None next told acts room rows is = more 1 2 1 0 next told acts room rows is
group_keeps (Some group) next told acts room rows is = step _ _ _ _ _ _ (λ done. is)

egid_keeps : (egid : Option ℕ) (next : RequestTree) (told acts room rows : ℕ) → Keeps next told acts room rows →
    Keeps (egid_set egid next) (plus 1 told) (plus 2 acts) (plus 1 room) rows
egid_keeps None next told acts room rows is = more 1 2 1 0 next told acts room rows is
egid_keeps (Some gid) next told acts room rows is = step _ _ _ _ _ _ (λ done. is)

euid_keeps : (euid : Option ℕ) (next : RequestTree) (told acts room rows : ℕ) → Keeps next told acts room rows →
    Keeps (euid_set euid next) (plus 1 told) (plus 2 acts) (plus 1 room) rows
euid_keeps None next told acts room rows is = more 1 2 1 0 next told acts room rows is
euid_keeps (Some uid) next told acts room rows is = step _ _ _ _ _ _ (λ done. is)

raised_keeps : (raise : Bool) (next : RequestTree) (told acts room rows : ℕ) → Keeps next told acts room rows →
    Keeps (cap_raised raise next) (plus 1 told) (plus 1 acts) room rows
raised_keeps false next told acts room rows is = more 1 1 0 0 next told acts room rows is
raised_keeps true next told acts room rows is = step _ _ _ _ _ _ (λ done. is)

pub asker_keeps : (seat : HostSeat) (asker : Option Credentials) (next : RequestTree) (told acts room rows : ℕ) →
    Keeps next told acts room rows → Keeps (as_asker seat asker next) (plus 4 told) (plus 7 acts) (plus 3 room) rows
asker_keeps seat None next told acts room rows is = tt
asker_keeps seat (Some creds) next told acts room rows is =
    group_keeps (cred_steps creds seat).groups _ (plus 3 told) (plus 5 acts) (plus 2 room) rows (
    egid_keeps (cred_steps creds seat).egid _ (plus 2 told) (plus 3 acts) (plus 1 room) rows (
    euid_keeps (cred_steps creds seat).euid _ (plus 1 told) (plus 1 acts) room rows (
    raised_keeps (cred_steps creds seat).raise _ told acts room rows is)))

pub umask_keeps : (umask : Option ℕ) (next : RequestTree) (told acts room rows : ℕ) → Keeps next told acts room rows →
    Keeps (under_umask umask next) (plus 1 told) (plus 2 acts) (plus 1 room) rows
umask_keeps None next told acts room rows is = more 1 2 1 0 next told acts room rows is
umask_keeps (Some mask) next told acts room rows is = step _ _ _ _ _ _ (λ done. is)

-- the requests
pub init_keeps : (plan : Plan) (capable : FsOptions) → Keeps (init plan capable) most_told 48 most_holds most_rows
init_keeps plan capable = step _ _ _ _ _ _ (λ era. root_keeps plan (session_of era nothing_agreed) _ _ 27 41 15 3 tt)

pub destroy_keeps : Keeps destroy most_told 8 most_holds most_rows
destroy_keeps = step _ _ _ _ _ _ (λ era. tt)

pub root_request_keeps : (plan : Plan) → Keeps (begin (root plan)) most_told 48 most_holds most_rows
root_request_keeps plan = step _ _ _ _ _ _ (λ session. root_keeps plan session None _ 27 41 15 3 tt)

pub lookup_keeps : (plan : Plan) (parent : ℕ) (name : List ℕ) →
    Keeps (begin (lookup plan parent name)) most_told 48 most_holds most_rows
lookup_keeps plan parent name = step _ _ _ _ _ _ (λ session. named_keeps name _ _ _ _ _ (
    look_up_keeps plan session parent name _ 22 35 11 3 (λ looked. tt)))

pub batch_forget_keeps : (list : List (ℕ × ℕ)) → Keeps (begin (batch_forget list)) most_told 8 most_holds most_rows
batch_forget_keeps list = step _ _ _ _ _ _ (λ session. step _ _ _ _ _ _ (λ done. tt))

pub forget_keeps : (inode count : ℕ) → Keeps (begin (forget inode count)) most_told 8 most_holds most_rows
forget_keeps inode count = batch_forget_keeps _

pub open_file_keeps : (plan : Plan) (seat : HostSeat) (inode : ℕ) (kill : Bool) (flags : ℕ) →
    Keeps (begin (open_file plan seat inode kill flags)) most_told 48 most_holds most_rows
open_file_keeps plan seat inode kill flags = step _ _ _ _ _ _ (λ session.
    open_keeps plan seat session inode kill flags
    (λ handle. Gives (answer.Opened handle (open_options plan.config flags))) 21 36 12 3 (λ handle. tt))

pub open_dir_keeps : (plan : Plan) (seat : HostSeat) (inode flags : ℕ) →
    Keeps (begin (open_dir plan seat inode flags)) most_told 48 most_holds most_rows
open_dir_keeps plan seat inode flags = open_file_keeps plan seat inode false (with_bits flags o_directory)

pub release_keeps : (inode handle : ℕ) → Keeps (begin (release inode handle)) most_told 8 most_holds most_rows
release_keeps inode handle = step _ _ _ _ _ _ (λ session. step _ _ _ _ _ _ (λ done. tt))

pub read_keeps : (inode handle size offset : ℕ) →
    Keeps (begin (read inode handle size offset)) most_told 8 most_holds most_rows
read_keeps inode handle size offset = step _ _ _ _ _ _ (λ session. placed_keeps offset _ _ _ _ _ (
    step _ _ _ _ _ _ (λ fd. step _ _ _ _ _ _ (λ bytes. tt))))

pub unserved_keeps : (acts : ℕ) → Keeps (begin unserved) most_told (suc acts) most_holds most_rows
unserved_keeps acts = step _ _ _ _ _ _ (λ session. tt)
