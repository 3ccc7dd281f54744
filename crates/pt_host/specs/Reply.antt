-- Believed. What a reply holds.
use Rattle.pt_host.specs.declared.reply.HostValue.{HostValue}
use Rattle.pt_host.specs.declared.reply.HostValue.TheVariants as value
use Rattle.pt_host.specs.declared.reply.HostReply.{HostReply}
use Rattle.pt_host.specs.declared.reply.HostReply.TheVariants as reply

abbrev pub ValueHoldsBytes : HostValue → Type 0
ValueHoldsBytes (value.Bytes bytes) = Unit {0}
ValueHoldsBytes _ = ⊥

abbrev pub ReplyHoldsBytes : HostReply → Type 0
ReplyHoldsBytes (reply.Ok told) = ValueHoldsBytes told
ReplyHoldsBytes _ = ⊥
