use Rattle.brk_money.proofs.DayTexts.{day_text_injective}
use Rattle.brk_money.proofs.dates.days_have_distinct_texts.Goals as goal

pub returns : goal.returns
returns c = day_text_injective
