-- Believed. The steps of requests of names, attributes and contents that no other request takes.
use Rattle.std.specs.Prelude.{ℕ, List, Option, Some, None, Result, Ok, Err}
use Rattle.pt_host.specs.Call.{Call}
use Rattle.pt_host.specs.declared.flags.OpenFlags.{OpenFlags}
use Rattle.pt_host.specs.declared.ids.Fd.{Fd}
use Rattle.pt_host.specs.declared.stat.FsStat.{FsStat}
use Rattle.pt_host.specs.declared.op.KeptHostOp.TheVariants as call
use Rattle.pt_host.specs.declared.reply.HostReply.TheVariants as host
use Rattle.pt_host.specs.declared.reply.HostValue.TheVariants as value
use Rattle.pt_iface.specs.declared.answer.Answer.{Answer}
use Rattle.pt_iface.specs.declared.answer.Answer.TheVariants as answer
use Rattle.pt_frame.specs.Deed.{Calls}
use Rattle.pt_frame.specs.Replies.{bytes_of}
use Rattle.pt_frame.specs.Tree.{RequestTree, Asks, Bares, on}
use Rattle.pt_frame.specs.declared.act.ActReply.{ActReply}
use Rattle.pt_frame.specs.declared.act.ActReply.TheVariants.{Host, NoCopy}
use Rattle.pt_req.specs.Steps.{Part, ok_in}

-- where a symbolic link leads
abbrev pub read_link : Fd → Part (List ℕ)
read_link fd next = Asks (Calls (call.ReadLink fd)) (on bytes_of next)

abbrev pub fs_stat_in : ActReply → Option FsStat
fs_stat_in (Host (host.Ok (value.FsStat told))) = Some told
fs_stat_in told = None

-- what is told of the file system that holds an object
abbrev pub stat_fs : Fd → Part FsStat
stat_fs fd next = Asks (Calls (call.StatFs fd)) (on fs_stat_in next)

-- a call that tells nothing
abbrev pub do_call : Call → RequestTree → RequestTree
do_call asked next = Asks (Calls asked) (on ok_in (λ done. next))

-- an object is made, and the scopes that are open for that end, whatever is told
abbrev pub make : Call → RequestTree → RequestTree
make making next = Asks (Calls making) (λ told. Bares (on ok_in (λ done. next) told))

abbrev pub count_in : ActReply → Option ℕ
count_in (Host (host.Ok (value.Count count))) = Some count
count_in told = None

-- a call that tells a number of bytes, or a place
abbrev pub count_of : Call → Part ℕ
count_of asked next = Asks (Calls asked) (on count_in next)

-- a name is opened, or that is how the request is to be answered, perhaps after more
abbrev pub opened_in : ActReply → Option (Result Fd Answer)
opened_in (Host (host.Ok (value.Fd fd))) = Some (Ok fd)
opened_in (Host (host.Refused errno)) = Some (Err (answer.Refused errno))
opened_in (Host (host.Fault errno)) = Some (Err (answer.Refused errno))
opened_in (Host host.NoMemory) = Some (Err answer.NoMemory)
opened_in NoCopy = Some (Err answer.NoMemory)
opened_in told = None

abbrev pub try_open_at : Fd → List ℕ → OpenFlags → Part (Result Fd Answer)
try_open_at dir name flags next = Asks (Calls (call.OpenAt dir name flags 0)) (on opened_in next)
