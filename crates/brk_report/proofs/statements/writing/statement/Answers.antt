use Rattle.std.proofs.Common.{◌≡◌, ℕ, ◌≤◌, true, false, arith, refl}
use Rattle.std.specs.Prelude.{nat_lt}
use Rattle.std.proofs.lemmas.Bool.{lt-ltb}
use Rattle.std.proofs.lemmas.Bool.Decides.{nat_tests}
use Rattle.std.proofs.lemmas.Int.{ints}
use Rattle.brk_desk_queries.specs.Heads.{IsStatementHeadOfAccount}
use Rattle.brk_report.proofs.Keeping.{clean_then, keeps_read, keeps_still, keeps_then}
use Rattle.brk_report.specs.StatementOutput.{WritesStatement}
use Rattle.brk_report.proofs.Reported.{FailsAsLines, no_refusal, reported, reported_fault}
use Rattle.brk_report.proofs.Whole.{refused_account, refused_days, states_all, states_fault}
use Rattle.brk_report.proofs.statements.writing.statement.Goals as goal

not_before : (a b : ℕ) → b ≤ a → nat_lt a b ≡ false
not_before a b h = grind (arith, nat_tests)

pub returns-then-get : goal.returns-then-get
returns-then-get g c =
    let before : nat_lt c.args.to c.args.from ≡ true = lt-ltb c.args.to c.args.from (omega (arith, ints, c.if-get.true, c.get.ensures.value, c.get-2.ensures.value)) in
    record {
      stated = record {
        written = λ clean t holds. refused_days t c.args.account c.args.from c.args.to before;
        fault = tt;
        desk_unchanged = keeps_still g.S.Store c.args.desk.now;
        unwritten = λ refusal is. refl;
      };
    }

pub returns-in-Ok-None : goal.returns-in-Ok-None
returns-in-Ok-None g c =
    let days = not_before c.args.to c.args.from (omega (arith, ints, c.if-get.false, c.get.ensures.value, c.get-2.ensures.value)) in
    record {
      stated = record {
        written = λ clean t holds. refused_account t c.args.account c.args.from c.args.to days ((rw (c.in-Ok-None.is, c.in-Ok-None.field-0-is) at (c.head.ensures.read.answered clean)) t holds);
        fault = tt;
        desk_unchanged = keeps_read g.S.Store _ _ c.head.result (IsStatementHeadOfAccount c.args.account) c.head.ensures.read;
        unwritten = λ refusal is. refl;
      };
    }

pub write_statement_lines-requires : goal.write_statement_lines-requires
write_statement_lines-requires g c = omega (arith, ints, c.if-get.false, c.get.ensures.value, c.get-2.ensures.value)

pub returns-in_err-write_statement_lines : goal.returns-in_err-write_statement_lines
returns-in_err-write_statement_lines g c =
    let days = not_before c.args.to c.args.from (omega (arith, ints, c.if-get.false, c.get.ensures.value, c.get-2.ensures.value)) in
    let first = keeps_read g.S.Store _ _ c.head.result (IsStatementHeadOfAccount c.args.account) c.head.ensures.read in
    let fails : FailsAsLines c.from_residual.result c.in_err-write_statement_lines.field-0.0 = c.from_residual.ensures.1 in
    record {
      stated = record {
        written = λ clean t holds.
            let mid = clean_then g.S.Store c.head.new.self c.write_statement_lines.new.desk c.in_err-write_statement_lines.ensures.keeps clean in
            let is_head = (rw (c.in-Ok-Some.is, c.in-Ok-Some.field-0-is) at (c.head.ensures.read.answered mid)) t holds in
            reported (WritesStatement t c.args.account c.args.from c.args.to _ _) _ _ fails
            (states_fault t c.args.account c.in-Ok-Some.head c.args.from c.args.to days is_head _ _ _ (c.in_err-write_statement_lines.ensures.written clean t (first.same_rows t holds)));
        fault = reported_fault _ _ fails;
        desk_unchanged = keeps_then g.S.Store c.args.desk.now c.head.new.self c.write_statement_lines.new.desk first c.in_err-write_statement_lines.ensures.keeps;
        unwritten = λ refusal is. absurd (no_refusal _ _ refusal fails is);
      };
    }

pub returns : goal.returns
returns g c =
    let days = not_before c.args.to c.args.from (omega (arith, ints, c.if-get.false, c.get.ensures.value, c.get-2.ensures.value)) in
    let first = keeps_read g.S.Store _ _ c.head.result (IsStatementHeadOfAccount c.args.account) c.head.ensures.read in
    record {
      stated = record {
        written = λ clean t holds.
            let mid = clean_then g.S.Store c.head.new.self c.write_statement_lines.new.desk c.in_ok-write_statement_lines.ensures.keeps clean in
            let is_head = (rw (c.in-Ok-Some.is, c.in-Ok-Some.field-0-is) at (c.head.ensures.read.answered mid)) t holds in
            states_all t c.args.account c.in-Ok-Some.head c.args.from c.args.to days is_head _ _ (c.in_ok-write_statement_lines.ensures.written clean t (first.same_rows t holds));
        fault = tt;
        desk_unchanged = keeps_then g.S.Store c.args.desk.now c.head.new.self c.write_statement_lines.new.desk first c.in_ok-write_statement_lines.ensures.keeps;
        unwritten = λ refusal is. absurd (let same = is in cc);
      };
    }
