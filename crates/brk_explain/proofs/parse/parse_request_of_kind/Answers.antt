use Rattle.std.proofs.Common.{codes, refl}
use Rattle.brk_model_explain.specs.Explain.{read_explain_request}
use Rattle.brk_explain.proofs.Words.{other_word, same_word}
use Rattle.brk_explain.proofs.parse.parse_request_of_kind.Goals as goal

pub returns-then-eq : goal.returns-then-eq
unfolding read_explain_request
returns-then-eq c =
    rw (same_word c.args.kind.now c.as_slice.result.now (codes "trade") c.eq.result c.eq.ensures c.as_slice.ensures c.if-eq.true)
    c.parse_trade_request.ensures

pub returns-then-eq-2 : goal.returns-then-eq-2
unfolding read_explain_request
returns-then-eq-2 c =
    rw (same_word c.args.kind.now c.as_slice-2.result.now (codes "account") c.eq-2.result c.eq-2.ensures c.as_slice-2.ensures c.if-eq-2.true)
    c.parse_account_request.ensures

pub returns-then-eq-3 : goal.returns-then-eq-3
unfolding read_explain_request
returns-then-eq-3 c =
    rw (same_word c.args.kind.now c.as_slice-3.result.now (codes "holding") c.eq-3.result c.eq-3.ensures c.as_slice-3.ensures c.if-eq-3.true)
    c.parse_holding_request.ensures

pub returns-then-eq-4 : goal.returns-then-eq-4
unfolding read_explain_request
returns-then-eq-4 c =
    rw (same_word c.args.kind.now c.as_slice-4.result.now (codes "broker") c.eq-4.result c.eq-4.ensures c.as_slice-4.ensures c.if-eq-4.true)
    c.parse_broker_request.ensures

pub returns : goal.returns
unfolding read_explain_request
returns c =
    rw (
      other_word c.args.kind.now c.as_slice.result.now (codes "trade") c.eq.result c.eq.ensures c.as_slice.ensures c.if-eq.false,
      other_word c.args.kind.now c.as_slice-2.result.now (codes "account") c.eq-2.result c.eq-2.ensures c.as_slice-2.ensures c.if-eq-2.false,
      other_word c.args.kind.now c.as_slice-3.result.now (codes "holding") c.eq-3.result c.eq-3.ensures c.as_slice-3.ensures c.if-eq-3.false,
      other_word c.args.kind.now c.as_slice-4.result.now (codes "broker") c.eq-4.result c.eq-4.ensures c.as_slice-4.ensures c.if-eq-4.false,
    )
    refl
