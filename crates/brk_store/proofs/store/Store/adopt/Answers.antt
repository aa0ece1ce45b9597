use Rattle.std.proofs.Common.{Ok, Err, subst, sym}
use Rattle.brk_money.specs.declared.fault.Fault.TheVariants.{Store}
use Rattle.brk_store_transactions.specs.Audited.{AdoptPost, ConnectionTablesWithDeskNamesAreDeskTables}
use Rattle.brk_store.proofs.AdoptedReads.{adopted_then_read, closed_by_read}
use Rattle.brk_store.proofs.Definitions.{tables_that_are_defined, tables_that_pass}
use Rattle.brk_store.proofs.KeptIndex.{tables_of_adopted}
use Rattle.brk_store.proofs.store.Store.adopt.Goals as goal

pub returns-then-not-is_autocommit-clause-tested : goal.returns-then-not-is_autocommit-clause-tested
returns-then-not-is_autocommit-clause-tested g c = tables_that_pass g.S.Store c.args.conn c.test_definitions-conn.ensures.assumed

pub returns-then-not-is_autocommit-clause-assumed : goal.returns-then-not-is_autocommit-clause-assumed
returns-then-not-is_autocommit-clause-assumed g c = tables_that_are_defined g.S.Store c.args.conn c.test_definitions-conn.ensures.assumed

pub returns-in-Err-clause-tested : goal.returns-in-Err-clause-tested
returns-in-Err-clause-tested g c = tables_that_pass g.S.Store c.args.conn c.test_definitions-conn.ensures.assumed

pub returns-in-Err-clause-assumed : goal.returns-in-Err-clause-assumed
returns-in-Err-clause-assumed g c = tables_that_are_defined g.S.Store c.args.conn c.test_definitions-conn.ensures.assumed

pub returns-in-Ok-index_of_adopted-clause-tested : goal.returns-in-Ok-index_of_adopted-clause-tested
returns-in-Ok-index_of_adopted-clause-tested g c = tables_that_pass g.S.Store c.args.conn c.test_definitions-conn.ensures.assumed

pub returns-in-Ok-index_of_adopted-clause-assumed : goal.returns-in-Ok-index_of_adopted-clause-assumed
returns-in-Ok-index_of_adopted-clause-assumed g c = tables_that_are_defined g.S.Store c.args.conn c.test_definitions-conn.ensures.assumed

pub returns-in-Err-index_of_adopted-clause-tested : goal.returns-in-Err-index_of_adopted-clause-tested
returns-in-Err-index_of_adopted-clause-tested g c = tables_that_pass g.S.Store c.args.conn c.test_definitions-conn.ensures.assumed

pub returns-in-Err-index_of_adopted-clause-assumed : goal.returns-in-Err-index_of_adopted-clause-assumed
returns-in-Err-index_of_adopted-clause-assumed g c = tables_that_are_defined g.S.Store c.args.conn c.test_definitions-conn.ensures.assumed

pub returns-in-Ok-index_of_adopted-clause-adopted : goal.returns-in-Ok-index_of_adopted-clause-adopted
returns-in-Ok-index_of_adopted-clause-adopted g c =
    let conn = c.test_definitions-conn.result.0 in
    let mid = c.audit_and_upgrade_database.new.conn in
    let end = c.index_of_adopted.new.conn in
    let adoption : AdoptPost g.S.Store conn mid (Ok tt) = c.in-Ok.ensures.adopted in
    subst (λ conn. AdoptPost g.S.Store conn end (Ok tt)) c.test_definitions-conn.ensures.same
    (adopted_then_read g.S.Store conn mid end c.index_of_adopted.ensures.unchanged adoption (c.in-Ok-index_of_adopted.ensures.is_open adoption.open_after_adoption))

pub returns-in-Err-index_of_adopted-clause-adopted : goal.returns-in-Err-index_of_adopted-clause-adopted
returns-in-Err-index_of_adopted-clause-adopted g c =
    let conn = c.test_definitions-conn.result.0 in
    let mid = c.audit_and_upgrade_database.new.conn in
    let end = c.index_of_adopted.new.conn in
    let defined : ConnectionTablesWithDeskNamesAreDeskTables g.S.Store conn =
    subst (ConnectionTablesWithDeskNamesAreDeskTables g.S.Store) (sym c.test_definitions-conn.ensures.same)
    (λ _ on. c.test_definitions-conn.ensures.defined c.in-Err-index_of_adopted.ensures.fails_of_definitions on) in
    subst (λ conn. AdoptPost g.S.Store conn end (Err Store)) c.test_definitions-conn.ensures.same
    (closed_by_read g.S.Store conn mid end c.index_of_adopted.ensures.unchanged c.in-Ok.ensures.adopted defined
    (λ clean. c.in-Ok.ensures.not_upgraded c.in-Err-index_of_adopted.ensures.fails_without_upgrade clean defined))

pub invariant_of-result : goal.invariant_of-result
invariant_of-result g c =
    let mid = c.audit_and_upgrade_database.new.conn in
    let adoption : AdoptPost g.S.Store c.args.conn mid (Ok tt) =
    subst (λ conn. AdoptPost g.S.Store conn mid (Ok tt)) c.test_definitions-conn.ensures.same c.in-Ok.ensures.adopted in (
      c.index_of_adopted.ensures.mode,
      c.in-Ok-index_of_adopted.ensures.index (λ known. tables_of_adopted g.S.Store c.args.conn mid (c.test_definitions-conn.ensures.defined known) adoption),
    )
