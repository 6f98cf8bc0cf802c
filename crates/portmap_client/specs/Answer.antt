-- The result of a client's call, from the bytes that it read: ERTS User's Guide, EPMD Protocol, the replies.
use Rattle.std.specs.{Cmp.Lexicographic.pointwise, Prelude.{◌≡◌, ◌==◌, ℕ, ◌<◌, ◌≤◌, nat_lt, if◌then◌else◌, List, ◌++◌}}
use Rattle.std.specs.{Prelude.{length, codes, Option, Result, Ok, Err}, declared.alloc.Global.Global}
use Rattle.std.specs.declared.vec.Vec.{Vec}
use Rattle.portmap_wire.specs.{ListReading.{Lists, StrangeAt}, Node.Node, Reply.be4}
use Rattle.portmap_wire.specs.{ReplyReading.{alive_answer, port2_answer}, declared.list.Line.Line}
use Rattle.portmap_wire.specs.declared.reply_reading.AliveReply.TheVariants.{Given, Refused}
use Rattle.portmap_wire.specs.declared.reply_reading.ReplyFault.{ReplyFault}
use Rattle.portmap_wire.specs.declared.reply_reading.ReplyFault.TheVariants as reply
use Rattle.portmap_client.specs.{Exchange.IsRead, declared.exchange.TheConstants.LIST_MOST}
use Rattle.portmap_client.specs.declared.fault.AnswerFault.{AnswerFault}
use Rattle.portmap_client.specs.declared.outcome.Kill.{Kill, TheVariants.{Killed, NotAllowed}}
use Rattle.portmap_client.specs.declared.outcome.Stop.{Stop}
use Rattle.portmap_client.specs.declared.outcome.Stop.TheVariants.{NoExist, NotAllowed as StopNotAllowed, Stopped}
use Rattle.portmap_client.specs.declared.fault.AnswerFault.TheVariants as fault

-- ---- registrations and lookups

-- The reply has this fault.
abbrev pub HasFault : {X : Type 0} → Result X ReplyFault → AnswerFault → Type 0
HasFault answer fault.Short = answer ≡ Err reply.Short
HasFault answer (fault.BadTag tag) = answer ≡ Err (reply.BadTag tag)
HasFault answer fault.Strange = answer ≡ Err reply.Strange
HasFault answer f = ⊥

-- The creation of a registration.
abbrev pub SaysCreation : List ℕ → Result ℕ AnswerFault → Type 0
SaysCreation read (Ok creation) = alive_answer read ≡ Ok (Given creation)
SaysCreation read (Err (fault.Refused code)) = alive_answer read ≡ Ok (Refused code)
SaysCreation read (Err f) = HasFault (alive_answer read) f

-- The result of a lookup.
abbrev pub SaysFound : List ℕ → Result (Option Node) AnswerFault → Type 0
SaysFound read (Ok found) = port2_answer read ≡ Ok found
SaysFound read (Err f) = HasFault (port2_answer read) f

-- ---- lists. A list of more than LIST_MOST bytes is refused: profile.

-- The bytes of a list that is short enough.
abbrev pub SaysList : List ℕ → Result (Vec ℕ Global) AnswerFault → Type 0
SaysList read (Ok bytes) = (length read ≤ LIST_MOST) × IsRead read bytes
SaysList read (Err f) = (f ≡ fault.TooLong) × (LIST_MOST < length read)

-- The port of the port mapper, and the lines of the reply to NAMES_REQ.
abbrev pub SaysNames : List ℕ → Result (ℕ × Vec Line Global) AnswerFault → Type 0
SaysNames read (Ok list) = (length read ≤ LIST_MOST) × Lists read list.0 list.1.items
SaysNames read (Err fault.Short) = length read < 4
SaysNames read (Err fault.Strange) = (length read ≤ LIST_MOST) × (at : ℕ) × StrangeAt read at
SaysNames read (Err fault.TooLong) = LIST_MOST < length read
SaysNames read (Err f) = ⊥

-- The port of the port mapper, and the text of the reply to DUMP_REQ.
abbrev pub SaysDump : List ℕ → Result (ℕ × Vec ℕ Global) AnswerFault → Type 0
SaysDump read (Ok dump) = (length read ≤ LIST_MOST) × (read ≡ be4 dump.0 ++ dump.1.items)
SaysDump read (Err fault.Short) = length read < 4
SaysDump read (Err fault.TooLong) = LIST_MOST < length read
SaysDump read (Err f) = ⊥

-- ---- commands. A command that is not allowed: epmd(1). An empty reply means that the command is not allowed: profile.

-- The meaning of a reply: one of two words of equal length, or no bytes.
abbrev pub word_of : {T : Type 0} → List ℕ × T → List ℕ × T → T → List ℕ → Result T AnswerFault
word_of done undone silent read =
    if length read == 0 then Ok silent
    else if nat_lt (length read) (length done.0) then Err fault.Short
    else if pointwise ◌==◌ read done.0 then Ok done.1
    else if pointwise ◌==◌ read undone.0 then Ok undone.1
    else Err fault.Strange

abbrev pub SaysKill : List ℕ → Result Kill AnswerFault → Type 0
SaysKill read result = result ≡ word_of (codes "OK", Killed) (codes "NO", NotAllowed) NotAllowed read

abbrev pub SaysStop : List ℕ → Result Stop AnswerFault → Type 0
SaysStop read result = result ≡ word_of (codes "STOPPED", Stopped) (codes "NOEXIST", NoExist) StopNotAllowed read
