use Rattle.std.proofs.Common.{◌≡◌, ◌∙◌, ◌+◌, ℕ, Option, ap, option_map, refl, reverse, rules, slice_get, unwrap_or}
use Rattle.brk_model.specs.Tables.{CashRow, Tables}
use Rattle.brk_trade_books.specs.TradeReads.{last_cash_row_number_or_zero}
use Rattle.brk_ref.specs.Rows.{abstract_cash_row}
use Rattle.brk_store_reads.proofs.Retelling.{retold}
use Rattle.brk_store.proofs.store.Store.next_cash_row_number.Goals as goal
use Rattle.brk_store.proofs.store.Store.next_cash_row_number.Goals.{in-Some, in-None}

-- the number of a row, or 0 where there is none
abbrev number_of : Option CashRow → ℕ
number_of o = unwrap_or (option_map (λ r. r.id) o) 0

-- that of the row that was read is the last
last_of : (o : Option CashRow) (t : Tables) → o ≡ slice_get (reverse t.moves) 0 → number_of o ≡ last_cash_row_number_or_zero t
last_of o t e = ap number_of e

pub returns-in-Some-new : goal.returns-in-Some-new
returns-in-Some-new g c =
    let row = c.in_ok-row.field-0 in
    let number : c.match-branch-2.number ≡ number_of (option_map abstract_cash_row row) + 1 = elim c.match-branch-2.branch [
      | in-Some w ↦ (let is = w.in-Some.is in let known : w.in-Some.row.id + 1 ≡ number_of (option_map abstract_cash_row row) + 1 = rw is refl in
          (let counted : c.match-branch-2.number ≡ w.in-Some.row.id + 1 = search rules in counted ∙ known))
      | in-None w ↦ (let known : 1 ≡ number_of (option_map abstract_cash_row row) + 1 = rw w.in-None.is refl in (let counted : c.match-branch-2.number ≡ 1 = search rules in counted ∙ known))
    ] in
    let next : c.in-Some-new.next ≡ c.match-branch-2.number = search rules in
    record {
      read = retold g.S.Store c.args.self.now c.last_cash_row.new.self row c.in-Some-new.next
          (λ o (t : Tables). option_map abstract_cash_row o ≡ slice_get (reverse t.moves) 0) (λ next (t : Tables). next ≡ last_cash_row_number_or_zero t + 1)
          (λ t e. next ∙ number ∙ ap (λ n. n + 1) (last_of (option_map abstract_cash_row row) t e)) c.in_ok-row.ensures.read;
    }
