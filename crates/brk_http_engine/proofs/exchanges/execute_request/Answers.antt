use Rattle.std.proofs.Common.{refl}
use Rattle.brk_model_http.specs.Replies.{reply_text}
use Rattle.brk_http_engine.specs.Codes.{response_in_model}
use Rattle.brk_http_engine.specs.Promises.{CallWithClock}
use Rattle.brk_http_engine.proofs.Called.{not_called, responds_called}
use Rattle.brk_http_engine.proofs.exchanges.execute_request.Goals as goal

pub returns-clause-after : goal.returns-clause-after
returns-clause-after g c = λ old new is.
    let asked = rw (c.of-method.ensures, c.of-target.ensures, c.of-body.ensures) at (c.in-Ok.ensures.call c.args.places.closes) in (
      c.is_last_reply-closes.result,
      reply_text (response_in_model g.D.Service.told g.D.Service.shown c.execute_requested_call-told.result) c.is_last_reply-closes.result,
      record {
        taken = c.execute_requested_call-told.ensures.0;
        response = response_in_model g.D.Service.told g.D.Service.shown c.execute_requested_call-told.result;
        moments = c.execute_requested_call-told.ensures.1;
        responds = rw asked at c.execute_requested_call-told.ensures.2;
        last = rw (c.is_fault_response.ensures g.D.Service.told g.D.Service.shown) at c.is_last_reply-closes.ensures;
        bytes = refl;
      },
    )

pub returns-in_default-clause-called : goal.returns-in_default-clause-called
returns-in_default-clause-called g c = not_called (CallWithClock g.D.Service.acts g.C.Clock.gives) _ _ _ refl

pub returns-in-Ok-reply_text-clause-called : goal.returns-in-Ok-reply_text-clause-called
returns-in-Ok-reply_text-clause-called g c = responds_called g.D.Service.acts g.C.Clock.gives _ _ _ _ _ c.execute_requested_call-told.ensures.0 _ c.execute_requested_call-told.ensures.1 c.execute_requested_call-told.ensures.2

pub returns-clause-called : goal.returns-clause-called
returns-clause-called g c = responds_called g.D.Service.acts g.C.Clock.gives _ _ _ _ _ c.execute_requested_call-told.ensures.0 _ c.execute_requested_call-told.ensures.1 c.execute_requested_call-told.ensures.2
