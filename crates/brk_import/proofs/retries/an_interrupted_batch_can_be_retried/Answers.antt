use Rattle.brk_model.specs.Input.{input_text}
use Rattle.brk_model.specs.Parse.{parse_by_first_field, row_parsers}
use Rattle.brk_model_theorems.proofs.StoppedLaws.{end-apart}
use Rattle.brk_import.proofs.SentAgain.{sent_again}
use Rattle.brk_import.proofs.retries.an_interrupted_batch_can_be_retried.Goals as goal

pub returns : goal.returns
returns g c = λ input base first left conn store last one two ended taken counts.
    sent_again g.S.Store g.met.S.Store.settled (parse_by_first_field row_parsers) end-apart g.C.Clock.gives (input_text input) one base first left conn store last two ended taken counts
