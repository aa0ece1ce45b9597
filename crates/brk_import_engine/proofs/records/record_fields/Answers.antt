use Rattle.std.proofs.Common.{arith, sym, ◌∙◌}
use Rattle.std.proofs.lemmas.List.{map_push}
use Rattle.csv.specs.Records.{fields_of}
use Rattle.brk_import_engine.proofs.Listed.{field_inside, listed_all, listed_more}
use Rattle.brk_import_engine.proofs.records.record_fields.Goals as goal

pub loop-field-smaller : goal.loop-field-smaller
loop-field-smaller c =
    let there = field_inside (fields_of c.args.row.now) c.len.result c.in-Some.field.now (sym c.in-Some.ensures.value) in
    omega (arith, there, c.in_ok-push.ensures.len)

pub loop-field-preserved : goal.loop-field-preserved
loop-field-preserved c =
    let place = rw c.len.ensures at (sym c.in-Some.ensures.value) in
    let more = listed_more (fields_of c.args.row.now) _ c.in-Some.field.now _ c.loop-field.invariant place in
    rw (c.in_ok-push.ensures.items, c.in_ok-push.ensures.len) (map_push _ _ _ ∙ more)

pub returns : goal.returns
returns c = listed_all (fields_of c.args.row.now) _ _ c.loop-field.invariant (rw c.len.ensures at (sym c.in_default.ensures.value))
