use Rattle.brk_http_engine.proofs.BodyLemmas.{not_texts}
use Rattle.brk_http_engine.proofs.bodies.texts_of_values.Goals as goal

pub returns-in-None-clause-none : goal.returns-in-None-clause-none
returns-in-None-clause-none c = λ ts e. not_texts c.args.values.now c.loop-value.value-index c.value-item.result ts c.loop-value-test.true c.value-item.is c.in-None.ensures e
