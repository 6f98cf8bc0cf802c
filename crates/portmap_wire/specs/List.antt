-- The text of the two lists of names. ERTS User's Guide, EPMD Protocol: "Get All Registered Names from EPMD" and "Dump
-- All Data from EPMD". Profile: the text of a line of the dump.
use Rattle.std.specs.{Fmt.decimal, List.flat_map, Prelude.{ℕ, List, [], ◌∷◌, ◌++◌, Option, Some, None, codes}}
use Rattle.portmap_wire.specs.{Reply.be4, declared.list.DumpLine.DumpLine, declared.list.Line.Line}

abbrev pub names_line : Line → List ℕ
names_line line = codes "name " ++ line.name ++ codes " at port " ++ decimal line.port ++ 10 ∷ []

-- The reply to NAMES_REQ: the port mapper's own port, then the lines.
abbrev pub names_reply : ℕ → List Line → List ℕ
names_reply port lines = be4 port ++ flat_map names_line lines

-- The slot of the connection that owns an active name, or -1 for a retired name.
abbrev pub dump_end : Option ℕ → List ℕ
dump_end (Some slot) = codes ", fd = " ++ decimal slot
dump_end None = codes ", fd = -1"

abbrev pub dump_head : Option ℕ → List ℕ
dump_head (Some slot) = codes "active name     "
dump_head None = codes "old/unused name "

abbrev pub dump_line : DumpLine → List ℕ
dump_line line = dump_head line.slot ++ line.name ++ codes " at port " ++ decimal line.port ++ dump_end line.slot ++ 10 ∷ []

abbrev pub dump_reply : ℕ → List DumpLine → List ℕ
dump_reply port lines = be4 port ++ flat_map dump_line lines
