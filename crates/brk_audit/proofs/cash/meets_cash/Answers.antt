use Rattle.std.proofs.Common.{rules, ◌==◌, ◌≡◌, List, ap, ◌∙◌, length, map, sym}
use Rattle.std.proofs.lemmas.Bool.{eq-eqb, eqb-true}
use Rattle.std.specs.Prelude.{find, option_map}
use Rattle.brk_audit_sums.specs.AccountTerms.{terms_of_account_row}
use Rattle.std.specs.List.Sorted.{IsNonDecreasingBy}
use Rattle.std.proofs.lemmas.List.Sorted.{IsNonDecreasingBy-from_sort_by_key}
use Rattle.brk_trade_rows.specs.declared.sheets.Sheets.{Sheets}
use Rattle.brk_audit.specs.CashMoveFigures.{abstract_posted_figures}
use Rattle.brk_audit.specs.declared.cash.CashMoveFigures as code
use Rattle.brk_audit_sums.proofs.AccountTerms.{HasTerms}
use Rattle.brk_audit.proofs.SettlingHolds.{cash_holds}
use Rattle.brk_trade_rows.specs.Schemas.{abstract_schema}
use Rattle.brk_audit.proofs.CashHolds.{moves_hold, none_left, sorted_own}
use Rattle.brk_audit.proofs.Chain.{form_told}
use Rattle.brk_audit.proofs.cash.meets_cash.Goals as goal

pub returns-then-not-has_cash_move_table : goal.returns-then-not-has_cash_move_table
returns-then-not-has_cash_move_table c =
    let terms : HasTerms c.in_ok-terms.terms c.args.sheets.now.accounts.items =
    λ id. c.in_ok-terms.ensures.terms id ∙ ap (λ accounts. option_map terms_of_account_row (find (λ a. a.account.id == id) accounts)) c.deref.ensures.value in
    let law = cash_holds (abstract_schema c.args.schema) c.args.sheets.now c.in_ok-terms.terms c.deref-then-not-has_cash_move_table.result.now
    c.deref-then-not-has_cash_move_table-2.result.now (sym c.has_cash_move_table.ensures ∙ c.if-not-has_cash_move_table.true)
    (form_told (abstract_schema c.args.schema) c.args.sheets.now c.requires.form) c.requires.status terms
    c.deref-then-not-has_cash_move_table.ensures.value c.deref-then-not-has_cash_move_table-2.ensures.value in
    ((λ h. law.0 (c.cash_transactions_match_trades.ensures.0 h)), (λ h. c.cash_transactions_match_trades.ensures.1 (law.1 h)))

pub returns : goal.returns
returns c =
    let s : Sheets = c.args.sheets.now in
    let terms : HasTerms c.in_ok-terms.terms s.accounts.items =
    λ id. c.in_ok-terms.ensures.terms id ∙ ap (λ accounts. option_map terms_of_account_row (find (λ a. a.account.id == id) accounts)) c.deref.ensures.value in
    let sorted : List code.CashMoveFigures = c.sort_unstable_by_key.new.self.items in
    let n : IsNonDecreasingBy (λ (p : code.CashMoveFigures). p.trade) sorted =
    IsNonDecreasingBy-from_sort_by_key (λ (p : code.CashMoveFigures). p.trade) _ c.sort_unstable_by_key.ensures.sorted (λ a r b k. search rules) in
    let own = sorted_own s c.in_ok-rows.rows.items sorted c.deref-2.result.now c.deref-2.ensures.value c.in_ok-rows.ensures.all c.sort_unstable_by_key.ensures.permutation n in
    let law = moves_hold (abstract_schema c.args.schema) s c.in_ok-terms.terms (map abstract_posted_figures sorted) c.deref-3.result.now c.deref-5.result.now
    (sym c.has_cash_move_table.ensures ∙ c.if-not-has_cash_move_table.false)
    (form_told (abstract_schema c.args.schema) s c.requires.form) c.requires.status terms own c.deref-3.ensures.value c.deref-5.ensures.value in
    let left : map (λ p. p) (map abstract_posted_figures c.deref-4.result.now) ≡ map (λ p. p) (map abstract_posted_figures sorted) =
    ap (λ rs. map (λ p. p) (map abstract_posted_figures rs)) c.deref-4.ensures.value in (
      (λ b. let h = c.all_three.ensures.0 b in
          law.0 (record {
            no_others = none_left s.cash.items (sym s.cash.ok.0 ∙ eqb-true _ 0 (sym c.is_empty-no_others.ensures ∙ h.0));
            turn =
                sym c.are_rows_numbered-in_turn.ensures ∙ h.1;
            posted = sym left ∙ c.cash_moves_match_trades-posted.ensures.0 h.2;
          })),
      (λ k. let m = law.1 k in
          c.all_three.ensures.1 (
            c.is_empty-no_others.ensures ∙ eq-eqb _ 0 (s.cash.ok.0 ∙ ap length m.no_others),
            c.are_rows_numbered-in_turn.ensures
                ∙ m.turn,
            c.cash_moves_match_trades-posted.ensures.1 (left ∙ m.posted),
          )),
    )
