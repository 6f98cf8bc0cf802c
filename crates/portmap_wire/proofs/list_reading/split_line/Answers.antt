use Rattle.std.specs.{Cmp.unsigned_Decides, Prelude.{codes, None, Some}}
use Rattle.std.proofs.{Common.refl, lemmas.Slice.Eq.{strip_suffix_is, strip_prefix_is}}
use Rattle.portmap_wire.proofs.ListingLemmas.{digits_behind, no_suffix, no_prefix, no_port, has_shape}
use Rattle.portmap_wire.proofs.list_reading.split_line.Goals as goal

pub returns-in_default-clause-none : goal.returns-in_default-clause-none
returns-in_default-clause-none c = λ e.
    no_suffix c.args.text.now c.split_at.result.0.now c.digits_start.result c.digits_start.ensures c.split_at.ensures.front
    (strip_suffix_is unsigned_Decides c.split_at.result.0.now (codes " at port ") None c.in_default.ensures.cases)

pub returns-in_default-strip_prefix-clause-none : goal.returns-in_default-strip_prefix-clause-none
returns-in_default-strip_prefix-clause-none c = λ e.
    no_prefix c.args.text.now c.split_at.result.0.now c.in-Some.head.now c.digits_start.result c.digits_start.ensures
    c.split_at.ensures.front
    (strip_suffix_is unsigned_Decides c.split_at.result.0.now (codes " at port ") (Some c.in-Some.head) c.in-Some.ensures.cases)
    (strip_prefix_is unsigned_Decides c.in-Some.head.now (codes "name ") None c.in_default-strip_prefix.ensures.cases)

pub port_of-requires : goal.port_of-requires
port_of-requires c = rw (c.split_at.ensures.back) (digits_behind c.args.text.now c.digits_start.result c.digits_start.ensures)

pub returns-in-Some-port_of-clause-found : goal.returns-in-Some-port_of-clause-found
returns-in-Some-port_of-clause-found c =
    has_shape c.args.text.now c.split_at.result.0.now c.split_at.result.1.now c.in-Some.head.now c.in-Some-strip_prefix.name.now
    c.digits_start.result c.in-Some-port_of.port c.split_at.ensures.front c.split_at.ensures.back
    (strip_suffix_is unsigned_Decides c.split_at.result.0.now (codes " at port ") (Some c.in-Some.head) c.in-Some.ensures.cases)
    (strip_prefix_is unsigned_Decides c.in-Some.head.now (codes "name ")
    (Some c.in-Some-strip_prefix.name) c.in-Some-strip_prefix.ensures.cases)
    c.in-Some-port_of.ensures.found

pub returns-in-None-clause-none : goal.returns-in-None-clause-none
returns-in-None-clause-none c = λ e.
    no_port c.args.text.now c.split_at.result.1.now c.digits_start.result c.digits_start.ensures c.split_at.ensures.back
    (c.in-None.ensures.none refl)
