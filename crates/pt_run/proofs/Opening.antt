-- The host's tree as the jobs of a script find it, and why there is none.
use Rattle.std.proofs.Common.{◌≡◌, ◌⊎◌, inl, inr, ◌∙◌, ℕ, List, Option, Some, None, Result, Ok, Err, refl, ap, sym}
use Rattle.std.proofs.Common.{subst, slice_get, ok_or, option_map, [], ◌∷◌}
use Rattle.pt_host.specs.Tree.{IsWellFormed}
use Rattle.pt_host.specs.Errno.{enoent}
use Rattle.pt_host.specs.declared.ids.Errno.{Errno}
use Rattle.pt_host.specs.declared.ids.Fd.{Fd}
use Rattle.pt_host.specs.declared.seat.HostSeat.{HostSeat}
use Rattle.pt_host.specs.declared.reply.HostReply.{HostReply}
use Rattle.pt_host.specs.declared.reply.HostReply.TheVariants as reply
use Rattle.pt_host.specs.declared.reply.HostValue.TheVariants as value
use Rattle.pt_maps.specs.Refusal.{AreAccepted, IsFirstRefusal}
use Rattle.pt_maps.specs.declared.rule.IdRule.{IdRule}
use Rattle.pt_node.specs.Paths.{parts, then_on, walk}
use Rattle.pt_rules.specs.Calls.{open_walked}
use Rattle.pt_rules.specs.Does.{Does, Answers, AnswersCall}
use Rattle.pt_rules.specs.Faults.{failure_of}
use Rattle.pt_node.specs.Slots.{least_free}
use Rattle.pt_rules.specs.State.{State, tree_of}
use Rattle.pt_rules.specs.Table.{Outcome, answer}
use Rattle.pt_node.specs.declared.node.Node.{Node}
use Rattle.pt_rules.specs.Laws.Lawful.{does_lawful}
use Rattle.pt_tables.specs.Tables.{empty_tables}
use Rattle.pt_iface.specs.declared.answer.Refusal.{Refusal}
use Rattle.pt_iface.specs.declared.answer.Refusal.TheVariants as refusal
use Rattle.pt_req.specs.declared.plan.Config.{Config}
use Rattle.pt_req.specs.Plan.{moved_capability}
use Rattle.pt_fs.specs.FileSystem.{FileSystem, AreMapped, IsMadeBy, IsPlanned, IsUnmapped, LeavesNone, LeavesOne}
use Rattle.pt_fs.specs.FileSystem.{opens_root, only_path}
use Rattle.pt_run.specs.Configured.{IsConfigured, if_some}
use Rattle.pt_run.specs.Run.{IsRootAsked, IsFsOpened, IsMapRefused, IsRefused, IsNotOpened, IsNoReport}
use Rattle.pt_script.specs.Jobs.{start_seat}
use Rattle.pt_script.specs.Parse.{IsScriptOf}
use Rattle.pt_run.proofs.Rooted.{begun_root}
use Rattle.pt_fs.specs.declared.job.Job.{Job}
use Rattle.pt_script.specs.declared.settings.Settings.{Settings}
use Rattle.pt_run.specs.declared.status.Status.{Status}
use Rattle.pt_run.specs.declared.status.Status.TheVariants as status

-- the rules of the configuration are those that are set
uids_set : (settings : Settings) (config : Config) → IsConfigured settings config → config.uid_map ≡ settings.uid_map
uids_set settings config h = ap (λ (c : Config). c.uid_map) h

gids_set : (settings : Settings) (config : Config) → IsConfigured settings config → config.gid_map ≡ settings.gid_map
gids_set settings config h = ap (λ (c : Config). c.gid_map) h

names_set : (settings : Settings) (config : Config) → IsConfigured settings config →
    config.xattrmap ≡ if_some settings.xattrmap
names_set settings config h = ap (λ (c : Config). c.xattrmap) h

-- what the call that makes a file system was answered
abbrev Asked : State → HostSeat → Result FileSystem Refusal → State → HostSeat → Type 0
Asked before seat made after seat_after =
    (reply : HostReply) × Does before seat opens_root reply after seat_after × IsMadeBy reply made

-- how the contract says that a file system was made or refused
abbrev Made : Config → State → HostSeat → Result FileSystem Refusal → State → HostSeat → Type 0
Made config before seat made after seat_after =
    (AreMapped config × Asked before seat made after seat_after) ⊎ (IsUnmapped config made × (after ≡ before))

-- with the seat that the daemon begins with
is_asked : (settings : Settings) (before : State) (was : HostSeat) (made : Result FileSystem Refusal) (after : State)
    (seat : HostSeat) → was ≡ start_seat settings → seat ≡ was → Asked before was made after seat →
    IsRootAsked settings before made after
is_asked settings before was made after seat starts same asked =
    let from : Does before (start_seat settings) opens_root asked.0 after seat =
    subst (λ (s : HostSeat). Does before s opens_root asked.0 after seat) starts asked.1 in (
      asked.0,
      subst (λ (s : HostSeat). Does before (start_seat settings) opens_root asked.0 after s) (same ∙ starts) from,
      asked.2,
    )

-- it was made by a call
pub made_opened : (settings : Settings) (config : Config) (before : State) (was : HostSeat) (fs : FileSystem)
    (after : State) (seat : HostSeat) → IsConfigured settings config → was ≡ start_seat settings → seat ≡ was →
    IsPlanned config fs.plan → fs.tables ≡ empty_tables (config.guest_fd_limit ∷ []) →
    Made config before was (Ok fs) after seat → IsFsOpened settings before fs after
made_opened settings config before was fs after seat h starts same planned tables (inl asked) = record {
  call = is_asked settings before was (Ok fs) after seat starts same asked.1;
  plan = subst (IsConfigured settings) (sym planned.config) h;
  uid_map = planned.uids ∙ ap (λ (c : Config). c.uid_map) (sym planned.config);
  gid_map = planned.gids ∙ ap (λ (c : Config). c.gid_map) (sym planned.config);
  capability = planned.capability ∙ ap (λ (c : Config). moved_capability c.xattrmap) (sym planned.config);
  mapped = subst AreMapped (sym planned.config) asked.0;
  tables = tables ∙ ap (λ (c : Config). empty_tables (c.guest_fd_limit ∷ [])) (sym planned.config);
}
made_opened settings config before was fs after seat h starts same planned tables (inr unasked) = absurd unasked.0

-- a rule of the configuration that is refused is one that is set
set_refused : (settings : Settings) (config : Config) (errno : Errno) → IsConfigured settings config →
    IsUnmapped config (Err (refusal.Errno errno)) → IsMapRefused settings errno
set_refused settings config errno h (inl uids) = record {
  invalid = uids.0;
  refused = inl (uids.1, subst (λ (rules : List IdRule). IsFirstRefusal rules uids.1) (uids_set settings config h) uids.2);
}
set_refused settings config errno h (inr (inl gids)) = record {
  invalid = gids.0;
  refused = inr (inl (
    gids.1,
    subst (λ (rules : List IdRule). IsFirstRefusal rules gids.1) (gids_set settings config h) gids.2,
  ));
}
set_refused settings config errno h (inr (inr names)) = record {
  invalid = names.0;
  refused = inr (inr (subst LeavesOne (names_set settings config h) names.1));
}

-- with an error it was refused by a call, or for a rule that is set
pub refused_opened : (settings : Settings) (config : Config) (before : State) (was : HostSeat) (errno : Errno)
    (after : State) (seat : HostSeat) → IsConfigured settings config → was ≡ start_seat settings → seat ≡ was →
    Made config before was (Err (refusal.Errno errno)) after seat →
    IsNotOpened settings before (status.BadConfig errno)
refused_opened settings config before was errno after seat h starts same (inl asked) = inr (record {
  uids = subst AreAccepted (uids_set settings config h) asked.0.uids;
  gids = subst AreAccepted (gids_set settings config h) asked.0.gids;
  names = subst LeavesNone (names_set settings config h) asked.0.names;
  after = after;
  fs = Err (refusal.Errno errno);
  call = is_asked settings before was (Err (refusal.Errno errno)) after seat starts same asked.1;
  refused = refl;
})
refused_opened settings config before was errno after seat h starts same (inr unasked) =
    inl (set_refused settings config errno h unasked.0)

-- and no seat was lost, since none was changed
told_no_loss : (told : HostReply) (errno : Errno) → IsMadeBy told (Err (refusal.Lost errno)) → ⊥
told_no_loss (reply.Ok (value.Fd fd)) errno made = made
told_no_loss (reply.Refused error) errno made = cc
told_no_loss (reply.Fault error) errno made = cc
told_no_loss reply.NoMemory errno made = cc
told_no_loss told errno made = made

unmapped_no_loss : (config : Config) (errno : Errno) → IsUnmapped config (Err (refusal.Lost errno)) → ⊥
unmapped_no_loss config errno (inl uids) = uids
unmapped_no_loss config errno (inr (inl gids)) = gids
unmapped_no_loss config errno (inr (inr names)) = names

pub never_lost : (config : Config) (before : State) (was : HostSeat) (errno : Errno) (after : State)
    (seat : HostSeat) → Made config before was (Err (refusal.Lost errno)) after seat → ⊥
never_lost config before was errno after seat (inl asked) = told_no_loss asked.1.0 errno asked.1.2
never_lost config before was errno after seat (inr unasked) = unmapped_no_loss config errno unasked.0

some_same : {A : Type 0} (x y : A) → Some x ≡ Some y → x ≡ y
some_same x y e = cc

-- it is well formed, since the host was sound as the file system was made
pub opened_well : (settings : Settings) (before : State) (fs : FileSystem) (after : State) →
    IsFsOpened settings before fs after → IsWellFormed (tree_of after)
opened_well settings before fs after opened =
    let call = opened.call in
    let seat = start_seat settings in
    let lawful = does_lawful before seat opens_root call.0 after seat call.1 (tree_of before) refl in
    subst IsWellFormed (sym (some_same (tree_of after) lawful.0 lawful.1)) lawful.2.trees.formed_after

abbrev as_root : Option Node → Option (ℕ × Node)
as_root found = option_map (λ node. (0, node)) found

-- the host's root is found and opened, where there is one
root_opens : (start : State) (numbers : ℕ → ℕ) (seat : HostSeat) (node : Node) → slice_get start.nodes 0 ≡ Some node →
    (fd : Fd) × ((answer start numbers seat opens_root).0 ≡ reply.Ok (value.Fd fd))
root_opens start numbers seat node is = (
  record { 0 = least_free start.slots },
  ap (λ (found : Option Node).
      (open_walked start seat only_path (then_on (ok_or (as_root found) enoent) (λ root.
      walk start.nodes root (parts (47 ∷ []))))).0) is,
)

-- an answer that opened the root, or found no memory, is no refusal
not_opened : (given : HostReply) (fs : Result FileSystem Refusal) (errno : Errno) → fs ≡ Err (refusal.Errno errno) →
    (((fd : Fd) × (given ≡ reply.Ok (value.Fd fd))) ⊎ (given ≡ reply.NoMemory)) → IsMadeBy given fs → ⊥
not_opened given fs errno refused (inl ok) made =
    let at : IsMadeBy (reply.Ok (value.Fd ok.0)) fs = subst (λ (r : HostReply). IsMadeBy r fs) ok.1 made in
    subst (λ (f : Result FileSystem Refusal). IsMadeBy (reply.Ok (value.Fd ok.0)) f) refused at
not_opened given fs errno refused (inr none) made =
    let at : IsMadeBy reply.NoMemory fs = subst (λ (r : HostReply). IsMadeBy r fs) none made in
    let why : refusal.Errno errno ≡ refusal.Memory =
    subst (λ (f : Result FileSystem Refusal). IsMadeBy reply.NoMemory f) refused at in
    cc

-- a refusal by a fault has its error
refused_by : (given : HostReply) (fs : Result FileSystem Refusal) (fault errno : Errno) →
    fs ≡ Err (refusal.Errno errno) → given ≡ reply.Fault fault → IsMadeBy given fs → fault ≡ errno
refused_by given fs fault errno refused is made =
    let at : IsMadeBy (reply.Fault fault) fs = subst (λ (r : HostReply). IsMadeBy r fs) is made in
    let why : refusal.Errno errno ≡ refusal.Errno fault =
    subst (λ (f : Result FileSystem Refusal). IsMadeBy (reply.Fault fault) f) refused at in
    cc

-- over a host with a root the making of the file system is refused only where its first call was planned to fail
pub planned_refusal : (settings : Settings) (start : State) (errno : Errno) (root : Node) →
    slice_get start.nodes 0 ≡ Some root → IsRefused settings start errno → failure_of start opens_root ≡ Some errno
planned_refusal settings start errno root is refused = go (failure_of start opens_root) refl answers.answered
  where
    answers : Answers start (start_seat settings) opens_root refused.call.0 refused.after (start_seat settings)
    answers = refused.call.1.answers

    opens : (fd : Fd) × ((answer start answers.numbers (start_seat settings) opens_root).0 ≡ reply.Ok (value.Fd fd))
    opens = root_opens start answers.numbers (start_seat settings) root is

    go : (failing : Option Errno) → failure_of start opens_root ≡ failing →
        AnswersCall failing start answers.numbers (start_seat settings) opens_root refused.call.0 answers.state
        (start_seat settings) → failure_of start opens_root ≡ Some errno
    go None e (inl told) =
        absurd (not_opened refused.call.0 refused.fs errno refused.refused
        (inl (opens.0, ap (λ (o : Outcome). o.0) told ∙ opens.1)) refused.call.2)
    go None e (inr none) =
        absurd (not_opened refused.call.0 refused.fs errno refused.refused
        (inr (ap (λ (o : Outcome). o.0) none.1)) refused.call.2)
    go (Some fault) e told =
        e ∙ ap Some (refused_by refused.call.0 refused.fs fault errno refused.refused
        (ap (λ (o : Outcome). o.0) told) refused.call.2)

-- a script whose file system was not made shows no report
pub shows_none : (bytes : List ℕ) (settings : Settings) (host : State) (jobs : List Job) (schedule : List ℕ)
    (why : Status) →
    IsScriptOf bytes settings host jobs schedule → IsNotOpened settings host why → IsNoReport bytes why
shows_none bytes settings host jobs schedule (status.BadConfig errno) script (inl unmapped) =
    let here : IsMapRefused script.0.settings errno =
    subst (λ (s : Settings). IsMapRefused s errno) script.2 unmapped in
    (script.0, script.1, host, script.3, inl here)
shows_none bytes settings host jobs schedule (status.BadConfig errno) script (inr refused) =
    let begins = script.3 in
    let root = begun_root script.0.tree script.0.faults host begins in
    let here : IsRefused script.0.settings host errno =
    subst (λ (s : Settings). IsRefused s host errno) script.2 refused in
    (script.0, script.1, host, begins, inr (here, planned_refusal script.0.settings host errno root.0 root.1 here))
shows_none bytes settings host jobs schedule status.NoMemory script refused = tt
shows_none bytes settings host jobs schedule why script refused = absurd refused
