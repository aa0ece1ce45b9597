use Rattle.std.proofs.Common.{refl, inl}
use Rattle.brk_model_explain.specs.Explain.{AccountOf, explanation}
use Rattle.brk_explain_rows.specs.Details.{AreDetailsOfAccount}
use Rattle.brk_report.proofs.Keeping.{clean_then, keeps_read, keeps_then}
use Rattle.brk_report.proofs.Reported.{FailsAsLines, no_refusal, reported, reported_fault}
use Rattle.brk_report_lines.proofs.Composed.{appends_none}
use Rattle.brk_explain.specs.LinesOutput.{WritesLinesOrRefuses}
use Rattle.brk_explain.specs.ExplanationParts.{all_account_lines}
use Rattle.brk_explain.proofs.Explained.{account_told, is_read_fault, no_account, tells_all, tells_fault}
use Rattle.brk_explain.proofs.explaining.write_account.Goals as goal

pub returns-in-Ok-None : goal.returns-in-Ok-None
returns-in-Ok-None g c = record {
  told = record {
    written = λ clean t holds. no_account t c.args.account ((rw (c.in-Ok-None.is, c.in-Ok-None.field-0-is) at (c.account_details.ensures.answered clean)) t holds);
    fault = tt;
    keeps = keeps_read g.S.Store _ _ c.account_details.result (AreDetailsOfAccount c.args.account) c.account_details.ensures;
    unwritten = λ refusal is. refl;
  };
}

pub returns-in-Err : goal.returns-in-Err
returns-in-Err g c =
    let known = is_read_fault c.in-Err.fault c.into.result c.into.ensures in
    record {
      told = record {
        written = λ clean t holds. (known, inl (appends_none _));
        fault = known;
        keeps = keeps_read g.S.Store _ _ c.account_details.result (AreDetailsOfAccount c.args.account) c.account_details.ensures;
        unwritten = λ refusal is. absurd (let same = is in cc);
      };
    }

pub returns-in_err-write_account_lines : goal.returns-in_err-write_account_lines
returns-in_err-write_account_lines g c =
    let first = keeps_read g.S.Store _ _ c.account_details.result (AreDetailsOfAccount c.args.account) c.account_details.ensures in
    let fails : FailsAsLines c.from_residual.result c.in_err-write_account_lines.field-0.0 = c.from_residual.ensures.1 in
    record {
      told = record {
        written = λ clean t holds.
            let mid = clean_then g.S.Store c.account_details.new.self c.write_account_lines.new.desk c.in_err-write_account_lines.ensures.keeps clean in
            let are_details = (rw (c.in-Ok-Some.is, c.in-Ok-Some.field-0-is) at (c.account_details.ensures.answered mid)) t holds in
            reported (WritesLinesOrRefuses (explanation t (AccountOf c.args.account)) _ _) _ _ fails
            (tells_fault (explanation t (AccountOf c.args.account)) (all_account_lines t c.args.account c.in-Ok-Some.details)
            (account_told t c.args.account c.in-Ok-Some.details are_details) _ _ _
            (c.in_err-write_account_lines.ensures.written clean t (first.same_rows t holds)));
        fault = reported_fault _ _ fails;
        keeps = keeps_then g.S.Store c.args.desk.now c.account_details.new.self c.write_account_lines.new.desk first c.in_err-write_account_lines.ensures.keeps;
        unwritten = λ refusal is. absurd (no_refusal _ _ refusal fails is);
      };
    }

pub returns : goal.returns
returns g c =
    let first = keeps_read g.S.Store _ _ c.account_details.result (AreDetailsOfAccount c.args.account) c.account_details.ensures in
    record {
      told = record {
        written = λ clean t holds.
            let mid = clean_then g.S.Store c.account_details.new.self c.write_account_lines.new.desk c.in_ok-write_account_lines.ensures.keeps clean in
            let are_details = (rw (c.in-Ok-Some.is, c.in-Ok-Some.field-0-is) at (c.account_details.ensures.answered mid)) t holds in
            tells_all (explanation t (AccountOf c.args.account)) (all_account_lines t c.args.account c.in-Ok-Some.details)
            (account_told t c.args.account c.in-Ok-Some.details are_details) _ _
            (c.in_ok-write_account_lines.ensures.written clean t (first.same_rows t holds));
        fault = tt;
        keeps = keeps_then g.S.Store c.args.desk.now c.account_details.new.self c.write_account_lines.new.desk first c.in_ok-write_account_lines.ensures.keeps;
        unwritten = λ refusal is. absurd (let same = is in cc);
      };
    }
