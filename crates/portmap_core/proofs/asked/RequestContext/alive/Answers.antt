use Rattle.std.proofs.Common.{◌≡◌, rules}
use Rattle.portmap_table.specs.{Creation.IsLegalCreation, Rows.name_status}
use Rattle.portmap_table.specs.declared.name_status.NameStatus.TheVariants.{Free, NoRoom}
use Rattle.portmap_core.proofs.Served.{Refuses, all_free, is_chosen, may_register, no_room}
use Rattle.portmap_core.proofs.asked.RequestContext.alive.Goals as goal

pub returns-in-NoRoom : goal.returns-in-NoRoom
returns-in-NoRoom c =
    let asked = c.args.self.now in
    let stands : name_status asked.config.known_max c.args.reg.name asked.table.now.names ≡ NoRoom = search rules in
    let said = c.replied-in-NoRoom.ensures in
    let refuses : Refuses asked c.args.reg c.replied-in-NoRoom.result = search rules in
    no_room refuses

pub returns : goal.returns
returns c =
    let asked = c.args.self.now in
    let made = c.creation_for-creation in
    let names = asked.table.now.names in
    let last = c.in-Free.last in
    let stands : name_status asked.config.known_max c.args.reg.name names ≡ Free last = search rules in
    let legal : IsLegalCreation c.args.reg.high last made.result = rw (← c.reg.view_is) made.ensures.legal in
    λ bytes. record {
      all = λ slot. all_free asked c.args.reg stands slot made.result c.in_ok-write_alive.field-0.items legal
          (rw (← c.reg.view_is) made.ensures.wanted) (rw (← c.reg.view_is) c.in_ok-write_alive.ensures);
      may = may_register asked c.args.reg stands made.result legal;
      chosen = is_chosen asked c.args.reg stands asked.table.now.counter made.result
          (rw (← c.reg.view_is, ← c.counter.ensures.same) made.ensures.choice);
    }
