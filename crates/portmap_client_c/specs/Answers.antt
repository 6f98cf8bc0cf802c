-- The reports of replies.
use Rattle.std.specs.Prelude.{◌≡◌, ℕ, ◌+◌, ◌≤◌, ℤ, List, length, take, drop, Option, Some, None, Result, Ok, Err}
use Rattle.portmap_wire.specs.{Node.Node, declared.reply_reading.AliveReply.{AliveReply, TheVariants.{Given, Refused}}}
use Rattle.portmap_wire.specs.declared.reply_reading.ReplyFault.{ReplyFault}
use Rattle.portmap_client_c.specs.{Status.reply_status, Writing.node_of, declared.node.EpmdAlive.EpmdAlive}
use Rattle.portmap_client_c.specs.{declared.node.EpmdFound.EpmdFound, declared.node.EpmdText.EpmdText}
use Rattle.portmap_client_c.specs.declared.status.TheConstants.{EPMD_OK, EPMD_REFUSED, EPMD_NOT_REGISTERED}

-- The report of the reply to a registration.
abbrev pub ReportsAlive : Result AliveReply ReplyFault → EpmdAlive → EpmdAlive → ℤ → Type 0
ReportsAlive (Ok (Given creation)) old new status = (status ≡ EPMD_OK) × (new ≡ record { creation = creation; code = 0 })
ReportsAlive (Ok (Refused code)) old new status = (status ≡ EPMD_REFUSED) × (new ≡ record { creation = 0; code = code })
ReportsAlive (Err fault) old new status = (status ≡ reply_status fault) × (new ≡ old)

-- ---- texts in bytes

abbrev pub text_in : List ℕ → EpmdText → List ℕ
text_in bytes text = take text.size (drop text.at bytes)

-- The name is at offset `at`, and `between` bytes are between the name and the extra bytes.
pub record OffsetsIn (at between : ℕ) (g : Node) (found : EpmdFound) : Type 0 where
  pub node : g ≡ node_of found.node g.name g.extra
  pub name_at : found.name.at ≡ at
  pub name_size : found.name.size ≡ length g.name
  pub extra_at : found.extra.at ≡ at + length g.name + between
  pub extra_size : found.extra.size ≡ length g.extra

-- The texts of the node are in these bytes.
pub record IsFoundIn (bytes : List ℕ) (g : Node) (found : EpmdFound) : Type 0 where
  pub node : g ≡ node_of found.node (text_in bytes found.name) (text_in bytes found.extra)
  pub name : found.name.at + found.name.size ≤ length bytes
  pub extra : found.extra.at + found.extra.size ≤ length bytes

-- The report of the reply to a lookup.
abbrev pub ReportsFound : List ℕ → Result (Option Node) ReplyFault → EpmdFound → EpmdFound → ℤ → Type 0
ReportsFound bytes (Ok (Some g)) old new status = (status ≡ EPMD_OK) × IsFoundIn bytes g new
ReportsFound bytes (Ok None) old new status = (status ≡ EPMD_NOT_REGISTERED) × (new ≡ old)
ReportsFound bytes (Err fault) old new status = (status ≡ reply_status fault) × (new ≡ old)
