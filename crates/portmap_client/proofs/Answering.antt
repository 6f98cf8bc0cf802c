-- Lemmas: the meaning of a fault of a reply.
use Rattle.std.specs.Prelude.{MatchResult}
use Rattle.std.proofs.Common.{◌≡◌, ℕ, List, Err, rules}
use Rattle.portmap_wire.specs.ReplyReading.{GivesReply, alive_answer, port2_answer}
use Rattle.portmap_wire.specs.declared.reply_reading.ReplyFault.{ReplyFault}
use Rattle.portmap_client.specs.{Answer.{SaysCreation, SaysFound}, Fault.of_reply}
use Rattle.portmap_client.specs.declared.fault.Aborted.TheVariants.{NoMemory}

-- The reply to a registration.
pub creation_fault : (read bytes : List ℕ) (f : ReplyFault) → bytes ≡ read → Err f ≡ alive_answer bytes
    → MatchResult (of_reply f) (λ a. SaysCreation read (Err a)) (λ g. g ≡ NoMemory)
creation_fault read bytes f same fault = search rules

-- The reply to a lookup.
pub found_fault : (read bytes : List ℕ) (f : ReplyFault) → bytes ≡ read → GivesReply (Err f) (port2_answer bytes)
    → MatchResult (of_reply f) (λ a. SaysFound read (Err a)) (λ g. g ≡ NoMemory)
found_fault read bytes f same gives = search rules
