-- A client's call: one request, and the bytes read of its reply. ERTS User's Guide, EPMD Protocol, the requests and their replies. That no
-- byte after a reply is read, and when a call is aborted: profile.
use Rattle.std.specs.{Io.KnownBytes.{Appends, Consumes}, Prelude.{◌≡◌, ℕ, ◌<◌, ◌≤◌, Bool, true, false, List, length}}
use Rattle.std.specs.{Prelude.{take, codes, Option, Result, Ok, Err, IsOk, IfOk, IfErr}, declared.alloc.Global.Global}
use Rattle.std.specs.declared.vec.Vec.{Vec}
use Rattle.portmap_wire.specs.{ReplyReading.{alive_answer, port2_answer}, Request.sent}
use Rattle.portmap_wire.specs.declared.request.Request.{Request, TheVariants.{Alive, Dump, Kill, Names, Port, Stop}}
use Rattle.portmap_wire.specs.declared.reply_reading.ReplyFault.TheVariants as reply
use Rattle.portmap_link.specs.{Asking.IsEnded, declared.device.Pull.Pull, declared.device.Put.Put}
use Rattle.portmap_client.specs.{Fault.client_result, Laters.{laters, Waits}, declared.exchange.Awaited.Awaited}
use Rattle.portmap_client.specs.{declared.exchange.TheConstants.LIST_MOST, declared.fault.AnswerFault.AnswerFault}
use Rattle.portmap_client.specs.declared.fault.ClientFault.{ClientFault}
use Rattle.portmap_client.specs.declared.fault.Aborted.{Aborted, TheVariants.{Read, Write}}
use Rattle.portmap_client.specs.declared.exchange.Awaited.TheVariants as awaited

-- ---- the stream

-- The values of a stream that contracts see at one time.
pub record StreamView : Type 0 where
  pub left : Option (List ℕ)
  pub held : Option (List ℕ)
  pub pulls : List Pull
  pub puts : List Put
  pub broken : Bool

abbrev pub view : {S : Type 0} → (S → Option (List ℕ)) → (S → Option (List ℕ)) → (S → List Pull) → (S → List Put) → (S → Bool) → S
    → StreamView
view left held pulls puts broken stream =
    record { left = left stream; held = held stream; pulls = pulls stream; puts = puts stream; broken = broken stream }

-- ---- writing

-- A prefix of the bytes was written.
pub record WritesPrefix (bytes : List ℕ) (old new : Option (List ℕ)) : Type 0 where
  pub count : ℕ
  pub writes : Appends old new (take count bytes)

-- A proper prefix of the bytes was written.
pub record WritesPart (bytes : List ℕ) (old new : Option (List ℕ)) : Type 0 where
  pub prefix : WritesPrefix bytes old new
  pub part : prefix.count < length bytes

-- The part of a request that was written by a call with this fault.
abbrev pub WritesAt : List ℕ → Option (List ℕ) → Option (List ℕ) → Aborted → Type 0
WritesAt bytes old new Write = WritesPart bytes old new
WritesAt bytes old new Read = Appends old new bytes
WritesAt bytes old new f = WritesPrefix bytes old new

-- The bytes that a call with this result wrote.
abbrev pub Writes : {X : Type 0} → List ℕ → Option (List ℕ) → Option (List ℕ) → Result X Aborted → Type 0
Writes bytes old new (Ok x) = Appends old new bytes
Writes bytes old new (Err f) = WritesAt bytes old new f

-- ---- reading

-- The reply that a request expects.
abbrev pub awaited_by : Request → Awaited
awaited_by (Alive g) = awaited.Creation
awaited_by (Port name) = awaited.Found
awaited_by Names = awaited.List
awaited_by Dump = awaited.List
awaited_by Kill = awaited.Kill
awaited_by (Stop name) = awaited.Stop

-- The bytes are an incomplete reply.
abbrev pub IsUnfinished : Awaited → List ℕ → Type 0
IsUnfinished awaited.Creation read = alive_answer read ≡ Err reply.Short
IsUnfinished awaited.Found read = port2_answer read ≡ Err reply.Short
IsUnfinished awaited.List read = length read ≤ LIST_MOST
IsUnfinished awaited.Kill read = length read < length (codes "OK")
IsUnfinished awaited.Stop read = length read < length (codes "STOPPED")

-- These bytes were read, and none after the reply.
pub record HasRead (awaited : Awaited) (old new : Option (List ℕ)) (read : List ℕ) : Type 0 where
  pub reads : Consumes old new read
  pub no_further : (n : ℕ) → n < length read → IsUnfinished awaited (take n read)

-- The bytes that a call with this result read, by the bytes left and the answers of the pulls. Unless the call was aborted, the reply was
-- read to its end or to the end of the stream, and `Says` holds of its bytes.
pub record Answers {X : Type 0} (awaited : Awaited) (Says : List ℕ → X → Type 0) (old new : Option (List ℕ)) (asked answered : List Pull)
    (result : Result X Aborted) : Type 0 where
  pub read : List ℕ
  pub has_read : HasRead awaited old new read
  pub ended : IsOk result → IsUnfinished awaited read → IsEnded new asked answered
  pub says : IfOk result (Says read)

-- The bytes that were read, unchanged.
abbrev pub IsRead : List ℕ → Vec ℕ Global → Type 0
IsRead read bytes = bytes.items ≡ read

-- ---- a call

-- The stream failed.
abbrev pub is_device_fault : Aborted → Bool
is_device_fault Write = true
is_device_fault Read = true
is_device_fault f = false

-- The call writes these bytes and reads such a reply. It pulls nothing before the bytes are written.
pub record Exchanges {X : Type 0} (bytes : List ℕ) (awaited : Awaited) (Says : List ℕ → X → Type 0) (old new : StreamView)
    (result : Result X Aborted) : Type 0 where
  pub asked : Writes bytes old.held new.held result
  pub unread : IfErr result (λ f. f ≡ Write → new.pulls ≡ old.pulls)
  pub answered : Answers awaited Says old.left new.left old.pulls new.pulls result
  pub waits : Waits (laters old.pulls old.puts) (laters new.pulls new.puts) result
  pub broken : IfErr result (λ f. is_device_fault f ≡ true → new.broken ≡ true)

-- The call sends a request and reads its reply.
abbrev pub Calls : {X : Type 0} → Request → (List ℕ → Result X AnswerFault → Type 0) → StreamView → StreamView → Result X ClientFault
    → Type 0
Calls request Says old new result = Exchanges (sent request) (awaited_by request) Says old new (client_result result)
