-- The status number of each fault.
use Rattle.std.specs.Prelude.{ℤ}
use Rattle.portmap_wire.specs.{declared.list_reading.ListFault.ListFault, declared.name.NameFault.NameFault}
use Rattle.portmap_wire.specs.declared.reply_reading.ReplyFault.{ReplyFault}
use Rattle.portmap_wire.specs.declared.name.NameFault.TheVariants as name
use Rattle.portmap_wire.specs.declared.reply_reading.ReplyFault.TheVariants as reply
use Rattle.portmap_wire.specs.declared.list_reading.ListFault.TheVariants as list
use Rattle.portmap_client.specs.declared.fault.ClientFault.{ClientFault}
use Rattle.portmap_client.specs.declared.fault.ClientFault.TheVariants as client
use Rattle.portmap_client_c.specs.declared.status.TheConstants.{EPMD_REFUSED, EPMD_WRITE, EPMD_READ}
use Rattle.portmap_client_c.specs.declared.status.TheConstants.{EPMD_TOO_MANY_TURNS, EPMD_TOO_LONG, EPMD_NAME_EMPTY}
use Rattle.portmap_client_c.specs.declared.status.TheConstants.{EPMD_NAME_TOO_LONG, EPMD_NAME_BAD_BYTE, EPMD_SHORT}
use Rattle.portmap_client_c.specs.declared.status.TheConstants.{EPMD_BAD_TAG, EPMD_STRANGE, EPMD_STRANGE_LINE}
use Rattle.portmap_client_c.specs.declared.status.TheConstants.{EPMD_NO_MEMORY}

abbrev pub name_status : NameFault → ℤ
name_status name.Empty = EPMD_NAME_EMPTY
name_status name.TooLong = EPMD_NAME_TOO_LONG
name_status (name.BadByte at) = EPMD_NAME_BAD_BYTE
name_status name.NoMemory = EPMD_NO_MEMORY

abbrev pub reply_status : ReplyFault → ℤ
reply_status reply.Short = EPMD_SHORT
reply_status (reply.BadTag tag) = EPMD_BAD_TAG
reply_status reply.Strange = EPMD_STRANGE
reply_status reply.NoMemory = EPMD_NO_MEMORY

abbrev pub line_status : ListFault → ℤ
line_status list.Short = EPMD_STRANGE_LINE
line_status (list.StrangeLine at) = EPMD_STRANGE_LINE
line_status list.NoMemory = EPMD_NO_MEMORY

abbrev pub client_status : ClientFault → ℤ
client_status client.Write = EPMD_WRITE
client_status client.Read = EPMD_READ
client_status client.TooManyTurns = EPMD_TOO_MANY_TURNS
client_status client.Short = EPMD_SHORT
client_status (client.BadTag tag) = EPMD_BAD_TAG
client_status (client.Refused code) = EPMD_REFUSED
client_status client.Strange = EPMD_STRANGE
client_status client.TooLong = EPMD_TOO_LONG
client_status client.NoMemory = EPMD_NO_MEMORY
