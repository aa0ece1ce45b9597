use Rattle.std.proofs.Common.{◌∙◌, Ok, Err, ap, map, sym}
use Rattle.std.proofs.lemmas.Result.{err_from_is_err_and}
use Rattle.brk_money.specs.declared.fault.CallFault.TheVariants.{Memory}
use Rattle.brk_ref.specs.Records.{abstract_account_row, abstract_last_trade_row}
use Rattle.brk_ref.specs.Rows.{abstract_cash_row, abstract_holding_row, abstract_lot_change_row, abstract_trade_row}
use Rattle.brk_store_index.specs.Index.{IsIndexOf}
use Rattle.brk_store_index.specs.Terms.{AreTermsOf}
use Rattle.brk_store_reads.specs.ReadSequences.{single_read_changes_nothing}
use Rattle.brk_store_reads.proofs.ReadResults.{decided_by_six, then_unchanged}
use Rattle.brk_store_reads.proofs.Sequences.{none_read}
use Rattle.brk_store_reads.proofs.row_index.read_index_with_terms.Goals as goal

pub returns-in-Ok-clause-read : goal.returns-in-Ok-clause-read
returns-in-Ok-clause-read g c =
    decided_by_six g.S.Store c.args.conn.now c.read_all_lots.new.conn c.read_all_trades.new.conn c.read_all_accounts.new.conn c.read_all_lot_changes.new.conn c.read_all_cash_rows.new.conn c.read_all_last_trades.new.conn
    c.in_ok-lots.lots c.in_ok-trades.trades c.in_ok-accounts.accounts c.in_ok-changes.changes c.in_ok-cash.cash c.in_ok-last_trades.last_trades _ _ _ _ _ _ (λ index t. AreTermsOf c.args.terms t → IsIndexOf index t) (Ok c.in-Ok.index)
    c.in_ok-lots.ensures.read c.in_ok-trades.ensures.read c.in_ok-accounts.ensures.read c.in_ok-changes.ensures.read c.in_ok-cash.ensures.read c.in_ok-last_trades.ensures.read
    (λ t lots trades accounts changes cash_rows last_trades. c.in-Ok.ensures t (record {
      lot_rows = sym (ap (map abstract_holding_row) c.deref.ensures.value ∙ lots);
      trade_rows = sym (ap (map abstract_trade_row) c.deref-2.ensures.value ∙ trades);
      account_rows = sym (ap (map abstract_account_row) c.deref-3.ensures.value ∙ accounts);
      lot_changes = sym (ap (map abstract_lot_change_row) c.deref-4.ensures.value ∙ changes);
      cash_rows = sym (ap (map abstract_cash_row) c.deref-5.ensures.value ∙ cash_rows);
      last_trade_rows = sym (ap (map abstract_last_trade_row) c.deref-6.ensures.value ∙ last_trades);
    }))

pub returns-clause-read : goal.returns-clause-read
returns-clause-read g c =
    decided_by_six g.S.Store c.args.conn.now c.read_all_lots.new.conn c.read_all_trades.new.conn c.read_all_accounts.new.conn c.read_all_lot_changes.new.conn c.read_all_cash_rows.new.conn c.read_all_last_trades.new.conn
    c.in_ok-lots.lots c.in_ok-trades.trades c.in_ok-accounts.accounts c.in_ok-changes.changes c.in_ok-cash.cash c.in_ok-last_trades.last_trades _ _ _ _ _ _ (λ index t. AreTermsOf c.args.terms t → IsIndexOf index t) (Err Memory)
    c.in_ok-lots.ensures.read c.in_ok-trades.ensures.read c.in_ok-accounts.ensures.read c.in_ok-changes.ensures.read c.in_ok-cash.ensures.read c.in_ok-last_trades.ensures.read tt

pub returns-in_err-cash-clause-read : goal.returns-in_err-cash-clause-read
returns-in_err-cash-clause-read g c =
    rw (err_from_is_err_and c.from_residual-in_err-cash.result c.from_residual-in_err-cash.ensures.1).1
    (none_read g.S.Store _ _ _ _ (then_unchanged c.in_ok-lots.ensures.read (then_unchanged c.in_ok-trades.ensures.read (then_unchanged c.in_ok-accounts.ensures.read (then_unchanged c.in_ok-changes.ensures.read
    (single_read_changes_nothing _ _ _ _ c.read_all_cash_rows.ensures.read))))))

pub returns-in_err-last_trades-clause-read : goal.returns-in_err-last_trades-clause-read
returns-in_err-last_trades-clause-read g c =
    rw (err_from_is_err_and c.from_residual-in_err-last_trades.result c.from_residual-in_err-last_trades.ensures.1).1
    (none_read g.S.Store _ _ _ _ (then_unchanged c.in_ok-lots.ensures.read (then_unchanged c.in_ok-trades.ensures.read (then_unchanged c.in_ok-accounts.ensures.read (then_unchanged c.in_ok-changes.ensures.read
    (then_unchanged c.in_ok-cash.ensures.read (single_read_changes_nothing _ _ _ _ c.read_all_last_trades.ensures.read)))))))
