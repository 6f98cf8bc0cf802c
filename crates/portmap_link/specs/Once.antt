-- The effect of `once` on its devices.
use Rattle.std.specs.{Io.KnownBytes.{Appends, Consumes}, Prelude.{◌≡◌, ◌≢◌, ℕ, ◌-◌, ◌<◌, ◌≤◌, List, [], ◌∷◌, ◌++◌}}
use Rattle.std.specs.{Prelude.{length, take, Option, Some, None, Result, Ok, Err, ◌⊎◌}, declared.alloc.Global.Global}
use Rattle.std.specs.declared.vec.Vec.{Vec}
use Rattle.portmap_feed.specs.Stream.{More, first_request}
use Rattle.portmap_core.specs.{Config.Configuration, Run.{Hears, waiting_state}, State.State}
use Rattle.portmap_core.specs.declared.event.Fate.{Fate, TheVariants.Close}
use Rattle.portmap_link.specs.Asking.{Devices, WritesNothing, GoesOn, IsAskedAgain, IsPutAgain, IsEnded}
use Rattle.portmap_link.specs.{declared.device.Pull.{Pull, TheVariants.Piece}, declared.single.Received.Received}
use Rattle.portmap_link.specs.declared.single.OnceFault.{OnceFault}
use Rattle.portmap_link.specs.declared.single.OnceFault.TheVariants.{NoMemory, ReadFault, TooManyTurns, WriteFault}
use Rattle.portmap_link.specs.declared.single.TheConstants.{PULL_MOST}

-- These bytes were read, and the last pull decided the request: without its chunk the request is incomplete. Every
-- earlier pull allowed another.
pub record IsJustRead (read : List ℕ) (asked answered : List Pull) : Type 0 where
  pub decided : first_request read ≢ More
  pub last : ℕ
  pub small : last ≤ PULL_MOST
  pub within : last ≤ length read
  pub before : first_request (take (length read - last) read) ≡ More
  pub earlier : List Pull
  pub goes_on : GoesOn IsAskedAgain asked earlier
  pub outcome : answered ≡ earlier ++ Piece last ∷ []

-- A request was read, gets this reply and fate, and exactly these bytes of the reply were written.
pub record Replies (cfg : Configuration) (old new : Devices) (written : List ℕ → List ℕ) (fate : Fate) : Type 0 where
  pub read : List ℕ
  pub reply : List ℕ
  pub reads : Consumes old.left new.left read
  pub just : IsJustRead read old.pulls new.pulls
  pub hears : Hears cfg read reply fate
  pub writes : Appends old.held new.held (written reply)

-- A request was read, and only the first `sent` bytes of its reply were written.
pub record RepliesInPart (cfg : Configuration) (old new : Devices) (sent : ℕ) : Type 0 where
  pub fate : Fate
  pub replies : Replies cfg old new (λ reply. take sent reply) fate
  pub rest : sent < length replies.reply

-- No complete request was read, and nothing was written.
pub record ReadsOnly (old new : Devices) : Type 0 where
  pub read : List ℕ
  pub reads : Consumes old.left new.left read
  pub more : first_request read ≡ More
  pub writes : WritesNothing old new

-- No complete request was read, nothing was written, and the input has ended.
pub record Ends (old new : Devices) (fate : Fate) : Type 0 where
  pub reads_only : ReadsOnly old new
  pub ended : IsEnded new.left old.pulls new.pulls
  pub closes : fate ≡ Close

-- The effect of `once`, by its result. At `TooManyTurns` another turn was due: every result so far allows another call.
abbrev pub Did : Configuration → Devices → Devices → Result Fate OnceFault → Type 0
Did cfg old new (Ok fate) = Replies cfg old new (λ reply. reply) fate ⊎ Ends old new fate
Did cfg old new (Err ReadFault) = ReadsOnly old new
Did cfg old new (Err NoMemory) = WritesNothing old new
Did cfg old new (Err (WriteFault sent)) = RepliesInPart cfg old new sent
Did cfg old new (Err (TooManyTurns sent)) = (RepliesInPart cfg old new sent × GoesOn IsPutAgain old.puts new.puts)
    ⊎ ((sent ≡ 0) × ReadsOnly old new × GoesOn IsAskedAgain old.pulls new.pulls)

-- ---- the two halves

-- The machine has read bytes, and the request is incomplete.
pub record AwaitsRequest (cfg : Configuration) (s : State) (slot : ℕ) : Type 0 where
  pub some : 1 ≤ cfg.conn_max
  pub read : List ℕ
  pub state : s ≡ waiting_state slot read
  pub more : first_request read ≡ More

-- The answer of the machine after these bytes: none while the request is incomplete.
abbrev pub HandsOver : Configuration → ℕ → List ℕ → Result (Option (Vec ℕ Global × Fate)) OnceFault → State → Type 0
HandsOver cfg slot read (Ok None) s = (first_request read ≡ More) × (s ≡ waiting_state slot read)
HandsOver cfg slot read (Ok (Some said)) s = (first_request read ≢ More) × Hears cfg read said.0.items said.1
HandsOver cfg slot read (Err fault) s = Unit {0}

-- Bytes were read, and the request is incomplete.
pub record Awaits (old new : Option (List ℕ)) : Type 0 where
  pub read : List ℕ
  pub reads : Consumes old new read
  pub more : first_request read ≡ More

-- A request was read, and gets this reply and fate.
pub record IsHeard (cfg : Configuration) (old new : Option (List ℕ)) (asked answered : List Pull) (reply : List ℕ)
    (fate : Fate) : Type 0 where
  pub read : List ℕ
  pub reads : Consumes old new read
  pub just : IsJustRead read asked answered
  pub hears : Hears cfg read reply fate

-- A request was read and has its reply, or the input ended first.
abbrev pub HearsReply : Configuration → Option (List ℕ) → Option (List ℕ) → List Pull → List Pull → Option (Vec ℕ Global × Fate) → Type 0
HearsReply cfg old new asked answered None = Awaits old new × IsEnded new asked answered
HearsReply cfg old new asked answered (Some said) = IsHeard cfg old new asked answered said.0.items said.1

-- The effect of `hear`, by its result: on the bytes left and on the results of pulls.
abbrev pub Hearing : Configuration → Option (List ℕ) → Option (List ℕ) → List Pull → List Pull → Result Received OnceFault → Type 0
Hearing cfg old new asked answered (Ok heard) = HearsReply cfg old new asked answered heard.reply
Hearing cfg old new asked answered (Err ReadFault) = Awaits old new
Hearing cfg old new asked answered (Err NoMemory) = Unit {0}
Hearing cfg old new asked answered (Err (WriteFault sent)) = ⊥
Hearing cfg old new asked answered (Err (TooManyTurns sent)) = (sent ≡ 0) × Awaits old new

-- The reply was written, or a prefix of it.
abbrev pub WritesReply : List ℕ → Option (List ℕ) → Option (List ℕ) → Result Unit OnceFault → Type 0
WritesReply reply old new (Ok done) = Appends old new reply
WritesReply reply old new (Err ReadFault) = ⊥
WritesReply reply old new (Err NoMemory) = ⊥
WritesReply reply old new (Err (WriteFault sent)) = (sent < length reply) × Appends old new (take sent reply)
WritesReply reply old new (Err (TooManyTurns sent)) = (sent < length reply) × Appends old new (take sent reply)
