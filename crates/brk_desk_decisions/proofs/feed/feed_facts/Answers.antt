use Rattle.std.proofs.Common.{◌≡◌, ◌∙◌, ◌+◌, ◌<◌, ℕ, List, [], ◌∷◌, ◌++◌, Ok, Some, None, Option, ap, get_or, length, subst, sym, take}
use Rattle.std.proofs.lemmas.List.{take_all, take_more}
use Rattle.std.proofs.lemmas.Result.{err_from_is_err_and}
use Rattle.brk_money.specs.declared.fault.CallFault.{CallFault}
use Rattle.brk_model.specs.Tables.{Tables}
use Rattle.brk_ref_orders.specs.declared.tick.Tick.{Tick}
use Rattle.brk_trade_plans.specs.Feed.{states_of_quotes, has_no_state_of_symbol}
use Rattle.brk_trade_plans.specs.declared.quote.Quote.{Quote}
use Rattle.brk_trade_theorems.specs.TradePlans.{AreQuotesOfTicks}
use Rattle.brk_trade_theorems.proofs.Quotes.{no_quotes}
use Rattle.brk_store_transactions.specs.Holds.{ReadPost}
use Rattle.brk_desk_decisions.proofs.Feeds.{IsQuoteOfTickOrNone, QuotesAndLastStampMatch, one_quoted, one_not_listed, one_read}
use Rattle.brk_store_reads.proofs.Retelling.{retold}
use Rattle.brk_store_reads.proofs.Sequences.{failed_after, read_with}
use Rattle.brk_store_reads.specs.ReadSequences.{single_read_changes_nothing}
use Rattle.brk_desk_decisions.proofs.feed.feed_facts.Goals as goal
use Rattle.brk_desk_decisions.proofs.feed.feed_facts.Goals.{then-has_no_quote_of_symbol+in_ok-quote+in-Some+in_ok-push}
use Rattle.brk_desk_decisions.proofs.feed.feed_facts.Goals.{then-has_no_quote_of_symbol+in_ok-quote+in_default, else-has_no_quote_of_symbol}

one_more : (ticks : List Tick) (i : ℕ) (tick : Tick) → i < length ticks → tick ≡ get_or ticks i tick → take i ticks ++ tick ∷ [] ≡ take (i + 1) ticks
one_more ticks i tick inside is = ap (λ x. take i ticks ++ x ∷ []) is ∙ sym (take_more ticks i tick inside)

pub loop-tick-init : goal.loop-tick-init
loop-tick-init g c =
    retold g.S.Store c.args.store.now c.last_stamp.new.self c.in_ok-last.last tt
    (λ last (t : Tables). last ≡ t.last) (λ _. QuotesAndLastStampMatch c.args.ticks.now [] (states_of_quotes c.new-quotes.result.items) c.in_ok-last.last)
    (λ t e. (e, subst (λ quotes. AreQuotesOfTicks t c.args.ticks.now [] (states_of_quotes quotes)) (sym c.new-quotes.ensures.items) (no_quotes t c.args.ticks.now)))
    c.in_ok-last.ensures.read

pub loop-tick-preserved : goal.loop-tick-preserved
loop-tick-preserved g c =
    let ticks = c.args.ticks.now in
    let i = c.loop-tick.tick-index in
    let tick = c.tick-item.result in
    let last = c.in_ok-last.last in
    let before = c.loop-tick.quotes.items in
    let lacks : has_no_state_of_symbol (states_of_quotes before) tick ≡ c.has_no_quote_of_symbol.result =
    sym (ap (λ quotes. has_no_state_of_symbol (states_of_quotes quotes) tick) c.deref.ensures.value) ∙ sym c.has_no_quote_of_symbol.ensures in
    let after : ReadPost {V = Unit {0}} {E = CallFault} g.S.Store c.args.store.now c.if-has_no_quote_of_symbol.store (Ok tt)
    (λ _. QuotesAndLastStampMatch ticks (take i ticks ++ tick ∷ []) (states_of_quotes c.if-has_no_quote_of_symbol.quotes.items) last) =
    elim c.if-has_no_quote_of_symbol.branch [
      | then-has_no_quote_of_symbol+in_ok-quote+in-Some+in_ok-push w ↦
          rw (w.store-is, w.quotes-is, w.in_ok-push.ensures.items)
          (read_with g.S.Store c.args.store.now c.loop-tick.store w.read_tick_quote.new.store {X = Unit {0}} {H = CallFault} tt (Some w.in-Some.quote) tt
          (λ _. QuotesAndLastStampMatch ticks (take i ticks) (states_of_quotes before) last) (IsQuoteOfTickOrNone ticks tick)
          (λ _. QuotesAndLastStampMatch ticks (take i ticks ++ tick ∷ []) (states_of_quotes (before ++ w.in-Some.quote ∷ [])) last)
          (one_read ticks (take i ticks) tick before last w.in-Some.quote (i, c.loop-tick-test.true, sym c.tick-item.is) (lacks ∙ w.if-has_no_quote_of_symbol.true))
          c.loop-tick.invariant (rw w.in-Some.is at w.in_ok-quote.ensures))
      | then-has_no_quote_of_symbol+in_ok-quote+in_default w ↦
          rw (w.store-is, w.quotes-is)
          (read_with g.S.Store c.args.store.now c.loop-tick.store w.read_tick_quote.new.store {W = Option Quote} {X = Unit {0}} {H = CallFault} tt None tt
          (λ _. QuotesAndLastStampMatch ticks (take i ticks) (states_of_quotes before) last) (IsQuoteOfTickOrNone ticks tick)
          (λ _. QuotesAndLastStampMatch ticks (take i ticks ++ tick ∷ []) (states_of_quotes before) last)
          (one_not_listed ticks (take i ticks) tick before last)
          c.loop-tick.invariant (rw w.in_default.is at w.in_ok-quote.ensures))
      | else-has_no_quote_of_symbol w ↦
          rw (w.store-is, w.quotes-is)
          (retold g.S.Store c.args.store.now c.loop-tick.store {X = Unit {0}} {H = CallFault} tt tt
          (λ _. QuotesAndLastStampMatch ticks (take i ticks) (states_of_quotes before) last) (λ _. QuotesAndLastStampMatch ticks (take i ticks ++ tick ∷ []) (states_of_quotes before) last)
          (one_quoted ticks (take i ticks) tick before last (lacks ∙ w.if-has_no_quote_of_symbol.false))
          c.loop-tick.invariant)
    ] in
    subst (λ us. ReadPost {V = Unit {0}} {E = CallFault} g.S.Store c.args.store.now c.if-has_no_quote_of_symbol.store (Ok tt)
    (λ _. QuotesAndLastStampMatch ticks us (states_of_quotes c.if-has_no_quote_of_symbol.quotes.items) last))
    (one_more ticks i tick c.loop-tick-test.true c.tick-item.is) after

pub returns : goal.returns
returns g c =
    let ticks = c.args.ticks.now in
    let i = c.loop-tick.tick-index in
    let last = c.in_ok-last.last in
    let quotes = c.loop-tick.quotes in
    retold g.S.Store c.args.store.now c.loop-tick.store tt (last, quotes)
    (λ _. QuotesAndLastStampMatch ticks (take i ticks) (states_of_quotes quotes.items) last) (λ market. QuotesAndLastStampMatch ticks ticks (states_of_quotes market.1.items) market.0)
    (λ t k. subst (λ us. QuotesAndLastStampMatch ticks us (states_of_quotes quotes.items) last t) (take_all i ticks c.loop-tick-test.false) k)
    c.loop-tick.invariant

pub returns-in_err-push : goal.returns-in_err-push
returns-in_err-push g c =
    let ticks = c.args.ticks.now in
    let tick = c.tick-item.result in
    let old = c.args.store.now in
    let p = err_from_is_err_and c.from_residual-in_err-push.result c.from_residual-in_err-push.ensures.1 in
    rw (p.1)
    (failed_after g.S.Store old c.loop-tick.store c.read_tick_quote.new.store (Ok c.in_ok-quote.field-0) p.0 (IsQuoteOfTickOrNone ticks tick) _
    (single_read_changes_nothing old c.loop-tick.store _ _ c.loop-tick.invariant) c.in_ok-quote.ensures)

pub returns-in_err-quote : goal.returns-in_err-quote
returns-in_err-quote g c =
    let old = c.args.store.now in
    let p = err_from_is_err_and c.from_residual-in_err-quote.result c.from_residual-in_err-quote.ensures.1 in
    rw p.1 (failed_after g.S.Store old c.loop-tick.store c.read_tick_quote.new.store _ p.0 _ _
    (single_read_changes_nothing old c.loop-tick.store _ _ c.loop-tick.invariant) c.in_err-quote.ensures)
