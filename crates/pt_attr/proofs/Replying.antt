-- What holds of the awaited reply's rest and of a refusal holds of whatever is replied.
use Rattle.std.proofs.Common.{ℕ, Result, Ok, Err}
use Rattle.pt_host.specs.declared.ids.Errno.{Errno}
use Rattle.pt_host.specs.declared.ids.Fd.{Fd}
use Rattle.pt_host.specs.declared.stat.FsStat.{FsStat}
use Rattle.pt_host.specs.declared.reply.HostReply.TheVariants as host
use Rattle.pt_host.specs.declared.reply.HostValue.TheVariants as value
use Rattle.pt_iface.specs.declared.answer.Answer.{Answer}
use Rattle.pt_iface.specs.declared.answer.Answer.TheVariants as answer
use Rattle.pt_frame.specs.Tree.{RequestTree, on, go_on}
use Rattle.pt_frame.specs.declared.act.ActReply.{ActReply}
use Rattle.pt_frame.specs.declared.act.ActReply.TheVariants.{Host, NoCopy}
use Rattle.pt_req.proofs.Replying.{OfRefusals}
use Rattle.pt_attr.specs.Steps.{count_in, fs_stat_in, opened_in}

pub if_fs_stat : (P : ActReply → RequestTree → Type 0) (next : FsStat → RequestTree) → OfRefusals P →
    ((told : FsStat) → P (Host (host.Ok (value.FsStat told))) (next told)) →
    (told : ActReply) → P told (on fs_stat_in next told)
unfolding on go_on
if_fs_stat P next refused so (Host (host.Ok (value.FsStat stat))) = so stat
if_fs_stat P next refused so told = refused told

pub if_count : (P : ActReply → RequestTree → Type 0) (next : ℕ → RequestTree) → OfRefusals P →
    ((count : ℕ) → P (Host (host.Ok (value.Count count))) (next count)) →
    (told : ActReply) → P told (on count_in next told)
unfolding on go_on
if_count P next refused so (Host (host.Ok (value.Count count))) = so count
if_count P next refused so told = refused told

pub if_opened : (P : ActReply → RequestTree → Type 0) (next : Result Fd Answer → RequestTree) → OfRefusals P →
    ((fd : Fd) → P (Host (host.Ok (value.Fd fd))) (next (Ok fd))) →
    ((errno : Errno) → P (Host (host.Refused errno)) (next (Err (answer.Refused errno)))) →
    ((errno : Errno) → P (Host (host.Fault errno)) (next (Err (answer.Refused errno)))) →
    P (Host host.NoMemory) (next (Err answer.NoMemory)) → P NoCopy (next (Err answer.NoMemory)) →
    (told : ActReply) → P told (on opened_in next told)
unfolding on go_on
if_opened P next refuses so was failed out uncopied (Host (host.Ok (value.Fd fd))) = so fd
if_opened P next refuses so was failed out uncopied (Host (host.Refused errno)) = was errno
if_opened P next refuses so was failed out uncopied (Host (host.Fault errno)) = failed errno
if_opened P next refuses so was failed out uncopied (Host host.NoMemory) = out
if_opened P next refuses so was failed out uncopied NoCopy = uncopied
if_opened P next refuses so was failed out uncopied told = refuses told
