-- A client's reading of a reply. ERTS User's Guide, EPMD Protocol. Profile: bytes after the reply are ignored, and either
-- tag of ALIVE2 is accepted.
use Rattle.std.specs.{Int.{w16, w32, from_be_bytes}, Prelude.{◌≡◌, ℕ, ◌+◌, ◌<◌, ◌^◌, List, [], ◌∷◌, ◌++◌, length, take}}
use Rattle.std.specs.Prelude.{Option, Some, None, Result, Ok, Err, IfSome, nat_lt, ◌==◌, if◌then◌else◌}
use Rattle.portmap_wire.specs.{Node.{Node, IsNode}, Reply.{alive_reply, port2_reply}}
use Rattle.portmap_wire.specs.{RequestReading.{name_in, fields_in}, declared.name.NameFault.NameFault}
use Rattle.portmap_wire.specs.declared.reply_reading.AliveReply.{AliveReply, TheVariants.{Given, Refused}}
use Rattle.portmap_wire.specs.declared.reply_reading.ReplyFault.{ReplyFault}
use Rattle.portmap_wire.specs.declared.reply_writing.TheConstants.{ALIVE2_X_RESP, ALIVE2_RESP, PORT2_RESP, WIDE_VERSION}
use Rattle.portmap_wire.specs.declared.request.TheConstants.{BODY_MOST}
use Rattle.portmap_wire.specs.declared.name.NameFault.TheVariants as name_fault
use Rattle.portmap_wire.specs.declared.reply_reading.ReplyFault.TheVariants as fault

-- ---- the reply to ALIVE2_REQ

-- Result 0 with a creation of 4 bytes, or any other result. Bytes after either are ignored.
abbrev pub wide_answer : List ℕ → Result AliveReply ReplyFault
wide_answer [] = Err fault.Short
wide_answer (code ∷ rest) =
    if code == 0 then (if nat_lt (length rest) 4 then Err fault.Short else Ok (Given (from_be_bytes w32 (take 4 rest))))
    else Ok (Refused code)

abbrev pub short_answer : List ℕ → Result AliveReply ReplyFault
short_answer [] = Err fault.Short
short_answer (code ∷ rest) =
    if code == 0 then (if nat_lt (length rest) 2 then Err fault.Short else Ok (Given (from_be_bytes w16 (take 2 rest))))
    else Ok (Refused code)

abbrev pub alive_answer : List ℕ → Result AliveReply ReplyFault
alive_answer [] = Err fault.Short
alive_answer (tag ∷ rest) = if tag == ALIVE2_X_RESP then wide_answer rest else if tag == ALIVE2_RESP then short_answer rest else Err
    (fault.BadTag tag)

-- ---- the reply to PORT_PLEASE2_REQ

-- A fault of the name, as a fault of the reply.
abbrev pub in_reply : NameFault → ReplyFault
in_reply name_fault.NoMemory = fault.NoMemory
in_reply name_fault.Empty = fault.Strange
in_reply name_fault.TooLong = fault.Strange
in_reply (name_fault.BadByte at) = fault.Strange

-- The node, if the name is a name and all fields fit into a registration.
abbrev pub with_name : Node → Result (List ℕ) NameFault → Result (Option Node) ReplyFault
with_name g (Ok name) = if nat_lt BODY_MOST (13 + length g.name + length g.extra) then Err fault.Strange else Ok (Some g)
with_name g (Err e) = Err fault.Strange

abbrev pub registered_answer : Option (Node × List ℕ) → Result (Option Node) ReplyFault
registered_answer None = Err fault.Short
registered_answer (Some f) = with_name f.0 (name_in f.0.name)

abbrev pub port2_result : List ℕ → Result (Option Node) ReplyFault
port2_result [] = Err fault.Short
port2_result (code ∷ rest) = if code == 0 then registered_answer (fields_in rest) else Ok None

abbrev pub port2_answer : List ℕ → Result (Option Node) ReplyFault
port2_answer [] = Err fault.Short
port2_answer (tag ∷ rest) = if tag == PORT2_RESP then port2_result rest else Err (fault.BadTag tag)

-- `bytes` begin with the reply that carries the registration `g`.
pub record IsFound (bytes : List ℕ) (g : Node) : Type 0 where
  pub registration : IsNode g
  pub more : List ℕ
  pub text : bytes ≡ port2_reply (Some g) ++ more

-- The result is `said` or `NoMemory`.
abbrev pub GivesReply : {X : Type 0} → Result X ReplyFault → Result X ReplyFault → Type 0
GivesReply (Ok x) said = said ≡ Ok x
GivesReply (Err fault.NoMemory) said = Unit {0}
GivesReply (Err fault.Short) said = said ≡ Err fault.Short
GivesReply (Err (fault.BadTag tag)) said = said ≡ Err (fault.BadTag tag)
GivesReply (Err fault.Strange) said = said ≡ Err fault.Strange

-- ---- replies that were written are read back

-- Code 0 yields the creation, any other code is a refusal.
abbrev pub given_or_refused : ℕ → ℕ → AliveReply
given_or_refused code creation = if code == 0 then Given creation else Refused code

abbrev pub AlivesAreReadBack : Type 0
AlivesAreReadBack = (high code creation : ℕ) (more : List ℕ) → creation < 2 ^ 32 → (high < WIDE_VERSION → creation < 2 ^ 16)
    → alive_answer (alive_reply high code creation ++ more) ≡ Ok (given_or_refused code creation)

abbrev pub LookUpsAreReadBack : Type 0
LookUpsAreReadBack = (found : Option Node) (more : List ℕ) → IfSome found IsNode → port2_answer (port2_reply found ++ more) ≡ Ok found
