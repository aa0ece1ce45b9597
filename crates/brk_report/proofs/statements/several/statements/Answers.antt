use Rattle.std.proofs.Common.{◌≡◌, true, arith}
use Rattle.std.specs.Prelude.{nat_lt}
use Rattle.std.proofs.lemmas.Bool.{lt-ltb}
use Rattle.std.proofs.lemmas.Int.{ints}
use Rattle.brk_report.proofs.SeveralPosts.{accounts_refused, accounts_unread, days_refused, read_and_told}
use Rattle.brk_report.proofs.statements.several.statements.Goals as goal

pub returns-then-get : goal.returns-then-get
returns-then-get g c =
    let late : nat_lt c.args.to c.args.from ≡ true = lt-ltb c.args.to c.args.from (omega (arith, ints, c.if-get.true, c.get.ensures.value, c.get-2.ensures.value)) in
    record { stated = days_refused g.S.Store c.args.desk.now c.args.customer c.args.from c.args.to _ late }

pub write_accounts-requires : goal.write_accounts-requires
write_accounts-requires g c = omega (arith, ints, c.if-get.false, c.get.ensures.value, c.get-2.ensures.value)

pub returns-in-Ok-Err : goal.returns-in-Ok-Err
returns-in-Ok-Err g c = record {
  stated = accounts_refused g.S.Store c.args.desk.now c.statement_accounts.new.self c.args.customer c.args.from c.args.to
      (omega (arith, ints, c.if-get.false, c.get.ensures.value, c.get-2.ensures.value)) c.in-Ok-Err.refusal _
      (rw (c.in-Ok-Err.is, c.in-Ok-Err.field-0-is) at c.statement_accounts.ensures);
}

pub returns-in-Err : goal.returns-in-Err
returns-in-Err g c = rw c.into.ensures (record {
  stated = accounts_unread g.S.Store c.args.desk.now c.statement_accounts.new.self c.args.customer c.args.from c.args.to c.in-Err.fault _
      (rw c.in-Err.is at c.statement_accounts.ensures);
})

pub returns : goal.returns
returns g c = record {
  stated = read_and_told g.S.Store c.args.desk.now c.statement_accounts.new.self c.write_accounts.new.desk c.args.customer c.args.from c.args.to
      (omega (arith, ints, c.if-get.false, c.get.ensures.value, c.get-2.ensures.value)) c.in-Ok-Ok.accounts _ _ c.write_accounts.result
      (rw (c.in-Ok-Ok.is, c.in-Ok-Ok.field-0-is) at c.statement_accounts.ensures) (rw c.as_slice.ensures.value at c.write_accounts.ensures);
}
