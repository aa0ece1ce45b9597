use Rattle.std.proofs.lemmas.Iterator.Consumers.{map_from_collect}
use Rattle.std.proofs.lemmas.Iterator.Splits.{YieldsList-from_str_split}
use Rattle.brk_model_http.specs.Routes.{split_at_byte}
use Rattle.brk_http_engine.proofs.pieces.split_at_byte.Goals as goal

pub returns : goal.returns
unfolding split_at_byte
returns c = map_from_collect _ c.collect.ensures.ran (YieldsList-from_str_split c.args.cut c.args.text.now c.requires.ascii c.split.ensures.text c.split.ensures.has_more c.split.ensures.pattern)
