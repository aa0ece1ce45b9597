-- A desk that was adopted over a connection with no transaction.
use Rattle.std.proofs.Common.{◌≡◌, ◌∙◌, Result, Ok, Err, IfOk, IsTrue, ap}
use Rattle.std.specs.Prelude.{MatchResult}
use Rattle.sqlite_trees.specs.Tree.{Trees}
use Rattle.sqlite_trees.specs.declared.store.Store.{Ghosts}
use Rattle.sqlite.specs.Effect.{Database}
use Rattle.sqlite.specs.Held.{Held, state}
use Rattle.brk_store_transactions.specs.Audited.{AdoptPost, ConnectionTablesWithDeskNamesAreDeskTables}
use Rattle.brk_store_transactions.proofs.Taking.{upgraded_books}
use Rattle.brk_store.specs.Adopted.{ConnectionPassesDefinitionTest, ConnectionTablesWithDeskNamesAreDefined}
use Rattle.brk_cli_jobs.specs.Opened.{RepresentsRowsOfFile}

pub stands_on_rows : {S : Type 0} (g : Ghosts S) → ((s : S) (db : Trees) → IsTrue (g.view s).is_open → g.recovers s db → db ≡ (g.view s).committed)
    → (conn store : Held S) → AdoptPost g conn store (Ok tt) → (ConnectionPassesDefinitionTest g conn → ConnectionTablesWithDeskNamesAreDeskTables g conn)
    → (ConnectionTablesWithDeskNamesAreDefined g conn → ConnectionTablesWithDeskNamesAreDeskTables g conn) → RepresentsRowsOfFile g store
stands_on_rows g settled conn store adopted tested assumed = record {
  found = conn;
  adopted = adopted;
  represented = λ clean on defined.
      let it = adopted.upgraded clean on defined in
      let m = it.0 in (
        m.0,
        m.1,
        m.2,
        upgraded_books g store (state g conn).now m,
        λ left may. ((state g store).now, m.3, settled store.store left on may ∙ ap (λ (db : Database). db.trees) it.1),
      );
  tested = tested;
  assumed = assumed;
}

pub stands_if : {S E : Type 0} (g : Ghosts S) → ((s : S) (db : Trees) → IsTrue (g.view s).is_open → g.recovers s db → db ≡ (g.view s).committed)
    → (conn : Held S) (result : Result (Held S) E) (Q : E → Type 0)
    → MatchResult result (λ store. AdoptPost g conn store (Ok tt)) Q → (ConnectionPassesDefinitionTest g conn → ConnectionTablesWithDeskNamesAreDeskTables g conn)
    → (ConnectionTablesWithDeskNamesAreDefined g conn → ConnectionTablesWithDeskNamesAreDeskTables g conn) → IfOk result (λ store. RepresentsRowsOfFile g store)
stands_if g settled conn (Ok store) Q adopted tested assumed = stands_on_rows g settled conn store adopted tested assumed
stands_if g settled conn (Err e) Q failed tested assumed = tt
