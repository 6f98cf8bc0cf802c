-- A call has two kinds of faults: the call was aborted, or the bytes of the reply have a fault.
use Rattle.std.specs.Prelude.{Result, Ok, Err}
use Rattle.portmap_wire.specs.{declared.list_reading.ListFault.ListFault, declared.reply_reading.ReplyFault.ReplyFault}
use Rattle.portmap_wire.specs.declared.reply_reading.ReplyFault.TheVariants as reply
use Rattle.portmap_wire.specs.declared.list_reading.ListFault.TheVariants as list
use Rattle.portmap_client.specs.{declared.fault.AnswerFault.AnswerFault, declared.fault.ClientFault.ClientFault}
use Rattle.portmap_client.specs.declared.fault.Aborted.{Aborted, TheVariants.{NoMemory, Read, TooManyTurns, Write}}
use Rattle.portmap_client.specs.declared.fault.AnswerFault.TheVariants as answer
use Rattle.portmap_client.specs.declared.fault.ClientFault.TheVariants as fault

-- The fault in the reply, or the reason for which the call was aborted.
abbrev pub split : ClientFault → Result AnswerFault Aborted
split fault.Write = Err Write
split fault.Read = Err Read
split fault.TooManyTurns = Err TooManyTurns
split fault.Short = Ok answer.Short
split (fault.BadTag tag) = Ok (answer.BadTag tag)
split (fault.Refused code) = Ok (answer.Refused code)
split fault.Strange = Ok answer.Strange
split fault.TooLong = Ok answer.TooLong
split fault.NoMemory = Err NoMemory

abbrev pub client_fault : {X : Type 0} → Result AnswerFault Aborted → Result (Result X AnswerFault) Aborted
client_fault (Ok f) = Ok (Err f)
client_fault (Err f) = Err f

-- The result of a call: a value or a fault from the reply, or the reason for which the call was aborted.
abbrev pub client_result : {X : Type 0} → Result X ClientFault → Result (Result X AnswerFault) Aborted
client_result (Ok x) = Ok (Ok x)
client_result (Err f) = client_fault (split f)

-- The kind of a fault that the decoder of replies, or of lists, returns.
abbrev pub of_reply : ReplyFault → Result AnswerFault Aborted
of_reply reply.Short = Ok answer.Short
of_reply (reply.BadTag tag) = Ok (answer.BadTag tag)
of_reply reply.Strange = Ok answer.Strange
of_reply reply.NoMemory = Err NoMemory

abbrev pub of_list : ListFault → Result AnswerFault Aborted
of_list list.Short = Ok answer.Short
of_list (list.StrangeLine at) = Ok answer.Strange
of_list list.NoMemory = Err NoMemory
