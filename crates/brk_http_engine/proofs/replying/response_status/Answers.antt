use Rattle.std.proofs.Common.{refl}
use Rattle.brk_http_engine.specs.Lines.{status_text}
use Rattle.brk_http_engine.proofs.replying.response_status.Goals as goal

pub returns-in-NoRow : goal.returns-in-NoRow
unfolding status_text
returns-in-NoRow g c = λ reply shown. rw c.in-NoRow.is refl

pub returns-in-NoView : goal.returns-in-NoView
unfolding status_text
returns-in-NoView g c = λ reply shown. rw c.in-NoView.is refl

pub returns-in-Done : goal.returns-in-Done
unfolding status_text
returns-in-Done g c = λ reply shown. rw c.in-Done.is refl

pub returns-in-Again : goal.returns-in-Again
unfolding status_text
returns-in-Again g c = λ reply shown. rw c.in-Again.is refl

pub returns-in-Saw : goal.returns-in-Saw
unfolding status_text
returns-in-Saw g c = λ reply shown. rw c.in-Saw.is refl

pub returns-in-Failed : goal.returns-in-Failed
unfolding status_text
returns-in-Failed g c = λ reply shown. rw c.in-Failed.is refl
