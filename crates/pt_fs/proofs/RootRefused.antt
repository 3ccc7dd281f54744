-- A file system that is refused with what the opening of its root was answered.
use Rattle.std.proofs.Common.{◌≡◌, Result, Ok, Err, sym, subst}
use Rattle.std.specs.Prelude.{IsErrAnd}
use Rattle.pt_host.specs.declared.reply.HostReply.{HostReply}
use Rattle.pt_iface.specs.declared.answer.Refusal.{Refusal}
use Rattle.pt_fs.specs.FileSystem.{FileSystem, IsMadeBy, IsRootBy}

pub refused_root : (told : HostReply) (result : Result FileSystem Refusal) (why : Refusal) →
    IsErrAnd result (λ one. one ≡ why) → IsRootBy told (Err why) → IsMadeBy told result
refused_root told (Ok fs) why is by_root = absurd is
refused_root told (Err one) why is by_root = subst (λ (it : Refusal). IsRootBy told (Err it)) (sym is) by_root
