use Rattle.std.proofs.Common.{Ok, Err, refl, inl}
use Rattle.brk_model_explain.specs.Explain.{HoldingOf, explanation}
use Rattle.brk_explain_rows.specs.Details.{AreDetailsOfHolding}
use Rattle.brk_explain_sums.specs.HoldingTexts.{lines_of_holding_details}
use Rattle.brk_report.proofs.Keeping.{keeps_read}
use Rattle.brk_report.proofs.Reported.{FailsAsLines, no_refusal, reported, reported_fault}
use Rattle.brk_report_lines.proofs.Composed.{appends_none}
use Rattle.brk_explain.specs.LinesOutput.{WritesLinesOrRefuses}
use Rattle.brk_explain.proofs.FirstLines.{text_written}
use Rattle.brk_explain.proofs.Explained.{holding_first, holding_told, is_read_fault, no_holding, tells_all, tells_fault}
use Rattle.brk_explain.proofs.explaining.write_holding.Goals as goal

pub returns-in-Ok-Err : goal.returns-in-Ok-Err
returns-in-Ok-Err g c = record {
  told = record {
    written = λ clean t holds.
        no_holding t c.args.account c.args.symbol.now c.in-Ok-Err.refusal ((rw (c.in-Ok-Err.is, c.in-Ok-Err.field-0-is) at (c.holding_details.ensures.answered clean)) t holds);
    fault = tt;
    keeps = keeps_read g.S.Store _ _ c.holding_details.result (AreDetailsOfHolding c.args.account c.args.symbol.now) c.holding_details.ensures;
    unwritten = λ refusal is. refl;
  };
}

pub returns-in-Err : goal.returns-in-Err
returns-in-Err g c =
    let known = is_read_fault c.in-Err.fault c.into.result c.into.ensures in
    record {
      told = record {
        written = λ clean t holds. (known, inl (appends_none _));
        fault = known;
        keeps = keeps_read g.S.Store _ _ c.holding_details.result (AreDetailsOfHolding c.args.account c.args.symbol.now) c.holding_details.ensures;
        unwritten = λ refusal is. absurd (let same = is in cc);
      };
    }

pub returns-in_err-write_lines : goal.returns-in_err-write_lines
returns-in_err-write_lines g c =
    let details = c.in-Ok-Ok.details in
    let lines = lines_of_holding_details details in
    let wrote = text_written {R = Unit {0}} lines c.holding_explanation_text.result _ (g.W.Write.contents c.write_lines.new.writer)
    (Err c.in_err-write_lines.field-0.0) (holding_first details) c.in_err-write_lines.ensures.written c.holding_explanation_text.ensures in
    let fails : FailsAsLines c.from_residual.result c.in_err-write_lines.field-0.0 = c.from_residual.ensures.1 in
    record {
      told = record {
        written = λ clean t holds.
            let are_details = (rw (c.in-Ok-Ok.is, c.in-Ok-Ok.field-0-is) at (c.holding_details.ensures.answered clean)) t holds in
            reported (WritesLinesOrRefuses (explanation t (HoldingOf c.args.account c.args.symbol.now)) _ _) _ _ fails
            (tells_fault (explanation t (HoldingOf c.args.account c.args.symbol.now)) lines
            (holding_told t c.args.account c.args.symbol.now details are_details) _ _ _ wrote);
        fault = reported_fault _ _ fails;
        keeps = keeps_read g.S.Store _ _ c.holding_details.result (AreDetailsOfHolding c.args.account c.args.symbol.now) c.holding_details.ensures;
        unwritten = λ refusal is. absurd (no_refusal _ _ refusal fails is);
      };
    }

pub returns : goal.returns
returns g c =
    let details = c.in-Ok-Ok.details in
    let lines = lines_of_holding_details details in
    let wrote = text_written {R = Unit {0}} lines c.holding_explanation_text.result _ (g.W.Write.contents c.write_lines.new.writer)
    (Ok c.in_ok-write_lines.field-0) (holding_first details) c.in_ok-write_lines.ensures.written c.holding_explanation_text.ensures in
    record {
      told = record {
        written = λ clean t holds.
            let are_details = (rw (c.in-Ok-Ok.is, c.in-Ok-Ok.field-0-is) at (c.holding_details.ensures.answered clean)) t holds in
            tells_all (explanation t (HoldingOf c.args.account c.args.symbol.now)) lines (holding_told t c.args.account c.args.symbol.now details are_details) _ _ wrote;
        fault = tt;
        keeps = keeps_read g.S.Store _ _ c.holding_details.result (AreDetailsOfHolding c.args.account c.args.symbol.now) c.holding_details.ensures;
        unwritten = λ refusal is. absurd (let same = is in cc);
      };
    }
