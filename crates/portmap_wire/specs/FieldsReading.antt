-- The fields of a registration as a `Node`, with the bytes that follow them.
use Rattle.std.specs.Prelude.{List, ℕ}
use Rattle.portmap_wire.specs.{Node.Node, declared.fields_reading.Fields.Fields}

abbrev pub in_place : Fields → Node × List ℕ
in_place f = (
  record { port = f.port; kind = f.kind; proto = f.proto; high = f.high; low = f.low; name = f.name.now; extra = f.extra.now },
  f.rest.now,
)
