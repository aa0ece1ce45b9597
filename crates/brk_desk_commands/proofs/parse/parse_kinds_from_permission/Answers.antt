use Rattle.std.proofs.Common.{codes}
use Rattle.brk_ref.specs.Fields.{texts_of_fields}
use Rattle.brk_desk_commands.proofs.Unknown.{no_term, other_text, same_text}
use Rattle.brk_desk_commands.proofs.parse.parse_kinds_from_permission.Goals as goal

pub returns-then-eq : goal.returns-then-eq
returns-then-eq c =
    rw (same_text c.args.kind.now c.as_slice.result.now (codes "permission") c.eq.result c.eq.ensures c.as_slice.ensures c.if-eq.true)
    c.permission_command.ensures

pub returns-then-eq-2 : goal.returns-then-eq-2
returns-then-eq-2 c =
    rw (same_text c.args.kind.now c.as_slice-2.result.now (codes "security") c.eq-2.result c.eq-2.ensures c.as_slice-2.ensures c.if-eq-2.true)
    c.listing_command.ensures

pub returns-then-eq-3 : goal.returns-then-eq-3
returns-then-eq-3 c =
    rw (same_text c.args.kind.now c.as_slice-3.result.now (codes "charge") c.eq-3.result c.eq-3.ensures c.as_slice-3.ensures c.if-eq-3.true)
    c.charge_command.ensures

pub returns-then-eq-4 : goal.returns-then-eq-4
returns-then-eq-4 c =
    rw (same_text c.args.kind.now c.as_slice-4.result.now (codes "band") c.eq-4.result c.eq-4.ensures c.as_slice-4.ensures c.if-eq-4.true)
    c.band_command.ensures

pub returns-then-eq-5 : goal.returns-then-eq-5
returns-then-eq-5 c =
    rw (same_text c.args.kind.now c.as_slice-5.result.now (codes "taxrate") c.eq-5.result c.eq-5.ensures c.as_slice-5.ensures c.if-eq-5.true)
    c.tax_rate_command.ensures

pub returns-then-eq-6 : goal.returns-then-eq-6
returns-then-eq-6 c =
    rw (same_text c.args.kind.now c.as_slice-6.result.now (codes "custtax") c.eq-6.result c.eq-6.ensures c.as_slice-6.ensures c.if-eq-6.true)
    c.customer_tax_command.ensures

pub returns : goal.returns
returns c =
    rw (no_term c.args.kind.now (texts_of_fields c.args.fields.now)
    (other_text c.args.kind.now c.as_slice.result.now (codes "permission") c.eq.result c.eq.ensures c.as_slice.ensures c.if-eq.false)
    (other_text c.args.kind.now c.as_slice-2.result.now (codes "security") c.eq-2.result c.eq-2.ensures c.as_slice-2.ensures c.if-eq-2.false)
    (other_text c.args.kind.now c.as_slice-3.result.now (codes "charge") c.eq-3.result c.eq-3.ensures c.as_slice-3.ensures c.if-eq-3.false)
    (other_text c.args.kind.now c.as_slice-4.result.now (codes "band") c.eq-4.result c.eq-4.ensures c.as_slice-4.ensures c.if-eq-4.false)
    (other_text c.args.kind.now c.as_slice-5.result.now (codes "taxrate") c.eq-5.result c.eq-5.ensures c.as_slice-5.ensures c.if-eq-5.false)
    (other_text c.args.kind.now c.as_slice-6.result.now (codes "custtax") c.eq-6.result c.eq-6.ensures c.as_slice-6.ensures c.if-eq-6.false))
    c.parse_kinds_from_order.ensures
