use Rattle.httparse.specs.declared.spans.HeaderSpan.{HeaderSpan}
use Rattle.httparse.specs.declared.spans.Span.{Span}
use Rattle.brk_http_reader.proofs.FieldLemmas.{seen_more}
use Rattle.brk_http_reader.proofs.fields.field_facts.Goals as goal

pub loop-header-preserved : goal.loop-header-preserved
loop-header-preserved c =
    let none : Span = record { start = 0; end = 0 } in
    let d : HeaderSpan = record { name = none; value = none } in (
      cc (
        c.with_field-seen.ensures.value,
        c.of.ensures,
        c.of-in-loop-header.ensures,
        seen_more c.args.front.now c.args.headers.now
            c.loop-header.header-index d c.loop-header.seen c.loop-header-test.true c.loop-header.invariant.0,
      ),
      c.with_field-seen.ensures.small c.loop-header.invariant.1,
    )
