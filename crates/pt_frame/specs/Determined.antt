-- Believed. One outcome, unless memory runs out.
use Rattle.std.specs.Prelude.{◌≡◌, ◌≢◌, List}
use Rattle.pt_host.specs.Call.{Call}
use Rattle.pt_host.specs.declared.seat.HostSeat.{HostSeat}
use Rattle.pt_host.specs.declared.reply.HostReply.{HostReply}
use Rattle.pt_host.specs.declared.reply.HostReply.TheVariants as host
use Rattle.pt_iface.specs.declared.answer.Answer.TheVariants as answer
use Rattle.pt_frame.specs.Deed.{Step}
use Rattle.pt_frame.specs.Grammar.{Grammar, End, Do, May, Belongs}
use Rattle.pt_host.specs.Relation.{HostRelation}
use Rattle.pt_frame.specs.declared.act.ActReply.{ActReply}
use Rattle.pt_frame.specs.declared.finish.Finish.{Finish}
use Rattle.pt_frame.specs.declared.finish.Finish.TheVariants as finish

-- each list of the grammar ends so
abbrev pub EndsSo : (Finish → Type 0) → Grammar → Type 0
EndsSo P grammar = (steps : List Step) (end : Finish) → Belongs grammar steps end → P end

-- a job ends with an answer, and not that memory ran out
abbrev pub IsAnsweredInFull : Finish → Type 0
IsAnsweredInFull (finish.Answer answer.NoMemory) = ⊥
IsAnsweredInFull (finish.Answer told) = Unit {0}
IsAnsweredInFull (finish.Lost errno) = ⊥

-- the first side of a choice is one where the job gives up for memory that ran out
abbrev pub IsDetermined : Grammar → Type 0
IsDetermined (End last) = Unit {0}
IsDetermined (Do deed owed next) = (told : ActReply) → IsDetermined (next told)
IsDetermined (May one other) = EndsSo (λ end. IsAnsweredInFull end → ⊥) one × IsDetermined other

-- two steps of a host that make the same call from the same place are alike
abbrev pub IsDeterminedHost : {H : Type 0} → HostRelation H → Type 0
IsDeterminedHost {H} does =
    (before after after' : H) (seat left left' : HostSeat) (asked : Call) (told told' : HostReply) →
    told ≢ host.NoMemory → told' ≢ host.NoMemory →
    does before seat asked told after left → does before seat asked told' after' left' →
    (told ≡ told') × (after ≡ after') × (left ≡ left')
