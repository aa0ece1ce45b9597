-- A feed planned from quotes is refused as in the model, and its plan implements the command.
use Rattle.std.proofs.Common.{◌≡◌, ℕ, Bool, true, false, not, List, [], ◌∷◌, ◌++◌, refl, sym, ◌∙◌, ap, Option, Some, None}
use Rattle.std.specs.Prelude.{◌||◌, is_some, Ok, Err}
use Rattle.std.specs.List.{AllByRecursion, list_any}
use Rattle.brk_money.specs.Moments.{stamp_after}
use Rattle.brk_money.specs.declared.refusal.Limit.TheVariants as limit
use Rattle.brk_money.specs.declared.refusal.Refusal.{Refusal}
use Rattle.brk_money.specs.declared.refusal.Refusal.TheVariants.{NoSecurity, Range}
use Rattle.brk_model.specs.Base.{Base}
use Rattle.brk_model.specs.Commands.{FeedTicks, Ticked}
use Rattle.brk_model.specs.Sheets.{sheets}
use Rattle.brk_model.specs.Step.{step}
use Rattle.brk_model.specs.Tables.{Tables}
use Rattle.brk_model.specs.Tests.{first_refusal, refusal_of_command}
use Rattle.brk_ref_orders.specs.Records.{abstract_ticks}
use Rattle.brk_ref_orders.specs.declared.tick.Tick.{Tick}
use Rattle.brk_trade_rows.specs.Changes.{tables_after_changes}
use Rattle.brk_trade_plans.specs.Feed as planner
use Rattle.brk_trade_plans.specs.Feed.{SymbolState, IsFeedPlan, row_changes_of_ticks, has_volume_above_limit, trades_triggered_by_ticks, is_state_of_symbol}
use Rattle.brk_trade_plans.specs.Feed.{has_no_state_of_symbol, states_after_ticks, IsTickedReply}
use Rattle.brk_trade_plans.specs.Reference.{later_stamp_check}
use Rattle.brk_trade_plans.specs.Replies.{abstract_reply}
use Rattle.brk_trade_rows.specs.declared.change.Change.TheVariants.{SetLastStamp}
use Rattle.brk_trade_plans.specs.declared.plan.Plan.{Plan}
use Rattle.brk_trade_plans.specs.declared.reply.Reply.{Reply}
use Rattle.brk_trade_plans.specs.declared.reply.Reply.TheVariants as reply
use Rattle.brk_trade_books.specs.Steps.{base_after_command}
use Rattle.brk_trade_theorems.specs.Plans.{PlanImplementsCommand}
use Rattle.brk_trade_theorems.specs.TradePlans.{HasQuoteIfSymbolHasLastTrade, PlanFeedPrecondition, HasDistinctQuoteSymbols}
use Rattle.brk_trade_books.specs.TradeReads.{last_trade_row_of_symbol}
use Rattle.brk_trade_books.specs.Ticks.{is_symbol_volume_above_limit, is_tick_of_unknown_symbol}
use Rattle.brk_trade_theorems.specs.TradeTests.{feed_checks_on_tables}
use Rattle.brk_trade_books.specs.Trading.{trade_ids_triggered_by_feed}
use Rattle.brk_trade_books.proofs.Same.{All-map, any-none}
use Rattle.brk_trade_books.proofs.Tested.{not_not}
use Rattle.brk_trade_books.proofs.Ticks.{base_apart}
use Rattle.brk_trade_books.proofs.Bools.{both_ways}
use Rattle.brk_trade_theorems.proofs.TradePlanning.{feed_refusal, feed_done, refused_first, refused_step}
use Rattle.brk_trade_theorems.proofs.Quotes.{IsHeld, is_held, quote_of}
use Rattle.brk_trade_theorems.proofs.QuotedTicks.{HaveQuotes, Quoted, after_more, ticks_changes, ticks_ids}
use Rattle.brk_trade_theorems.proofs.QuotedVolumes.{quotes_exceed}

-- ---- what is tested

-- a symbol that has a last trade has a quote, and no other has
same_known : (t : Tables) (ticks : List Tick) (quotes : List SymbolState) (tick : Tick) → AllByRecursion (IsHeld t ticks) quotes
    → HasDistinctQuoteSymbols quotes → HasQuoteIfSymbolHasLastTrade t quotes tick
    → list_any (is_state_of_symbol tick.symbol) quotes ≡ is_some (last_trade_row_of_symbol t tick.symbol)
same_known t ticks quotes tick k d h = both_ways (list_any (is_state_of_symbol tick.symbol) quotes) (is_some (last_trade_row_of_symbol t tick.symbol)) there h
  where
    there : list_any (is_state_of_symbol tick.symbol) quotes ≡ true → is_some (last_trade_row_of_symbol t tick.symbol) ≡ true
    there e =
        let q = quote_of t ticks tick.symbol quotes k d e in
        ap is_some (sym (ap (last_trade_row_of_symbol t) q.same) ∙ q.read.last_trade)

same_unknown : (t : Tables) (ticks : List Tick) (quotes : List SymbolState) → AllByRecursion (IsHeld t ticks) quotes → HasDistinctQuoteSymbols quotes
    → AllByRecursion (HasQuoteIfSymbolHasLastTrade t quotes) ticks
    → list_any (has_no_state_of_symbol quotes) ticks ≡ list_any (is_tick_of_unknown_symbol t) (abstract_ticks ticks)
same_unknown t ticks quotes k d quoted = each ticks quoted
  where
    each : (us : List Tick) → AllByRecursion (HasQuoteIfSymbolHasLastTrade t quotes) us → list_any (has_no_state_of_symbol quotes) us ≡ list_any (is_tick_of_unknown_symbol t) (abstract_ticks us)
    each [] h = refl
    each (u ∷ us) h = λ i. not (same_known t ticks quotes u k d h.0 i) || each us h.1 i

-- quotes that were read of a base in order are held
held_quotes : (base : Base) (ticks : List Tick) (quotes : List SymbolState) (last : Option ℕ) (now : ℕ) → PlanFeedPrecondition base ticks quotes last now
    → AllByRecursion (IsHeld (sheets base) ticks) quotes
held_quotes base ticks quotes last now k = All-map quotes (λ quote q. is_held (sheets base) ticks quote q) k.quotes_read.read

known_quotes : (ticks : List Tick) (quotes : List SymbolState) → list_any (has_no_state_of_symbol quotes) ticks ≡ false → HaveQuotes quotes ticks
known_quotes ticks quotes e = All-map ticks (λ tick n. not_not (list_any (is_state_of_symbol tick.symbol) quotes) n) (any-none (has_no_state_of_symbol quotes) ticks e)

read_tests : (base : Base) (stamp : ℕ) (ticks : List Tick) (quotes : List SymbolState) (last : Option ℕ) (now : ℕ) → PlanFeedPrecondition base ticks quotes last now
    → first_refusal (planner.feed_checks stamp ticks quotes ++ later_stamp_check last now ∷ []) ≡ first_refusal (feed_checks_on_tables (sheets base) (abstract_ticks ticks) (sheets base).last now)
read_tests base stamp ticks quotes last now k = by_unknown (list_any (has_no_state_of_symbol quotes) ticks) refl
  where
    same : list_any (has_no_state_of_symbol quotes) ticks ≡ list_any (is_tick_of_unknown_symbol (sheets base)) (abstract_ticks ticks)
    same = same_unknown (sheets base) ticks quotes (held_quotes base ticks quotes last now k) k.quotes_read.apart k.quotes_read.quoted

    by_unknown : (b : Bool) → list_any (has_no_state_of_symbol quotes) ticks ≡ b → first_refusal (planner.feed_checks stamp ticks quotes ++ later_stamp_check last now ∷ [])
        ≡ first_refusal (feed_checks_on_tables (sheets base) (abstract_ticks ticks) (sheets base).last now)
    by_unknown true e =
        refused_first (list_any (has_no_state_of_symbol quotes) ticks) (list_any (is_tick_of_unknown_symbol (sheets base)) (abstract_ticks ticks)) NoSecurity
        ((list_any has_volume_above_limit (states_after_ticks stamp ticks quotes), Range limit.Volume) ∷ later_stamp_check last now ∷ [])
        ((list_any (is_symbol_volume_above_limit (sheets base) (abstract_ticks ticks)) (abstract_ticks ticks), Range limit.Volume) ∷ later_stamp_check (sheets base).last now ∷ []) e (sym same ∙ e)
    by_unknown false e =
        let volumes = quotes_exceed base stamp ticks quotes k.books (held_quotes base ticks quotes last now k) k.quotes_read.apart (known_quotes ticks quotes e) in
        λ i. first_refusal ((same i, NoSecurity) ∷ (volumes i, Range limit.Volume) ∷ later_stamp_check (k.last_read i) now ∷ [])

pub feed_read : (base : Base) (stamp : ℕ) (ticks : List Tick) (quotes : List SymbolState) (last : Option ℕ) (now : ℕ) → PlanFeedPrecondition base ticks quotes last now
    → first_refusal (planner.feed_checks stamp ticks quotes ++ later_stamp_check last now ∷ []) ≡ refusal_of_command base now (FeedTicks (abstract_ticks ticks))
feed_read base stamp ticks quotes last now k =
    read_tests base stamp ticks quotes last now k ∙ feed_refusal base now (abstract_ticks ticks) k.books k.moment

pub feed_refused : (base : Base) (stamp : ℕ) (ticks : List Tick) (quotes : List SymbolState) (last : Option ℕ) (now : ℕ) (refusal : Refusal) → PlanFeedPrecondition base ticks quotes last now
    → first_refusal (planner.feed_checks stamp ticks quotes ++ later_stamp_check last now ∷ []) ≡ Some refusal → step base now (FeedTicks (abstract_ticks ticks)) ≡ Err refusal
feed_refused base stamp ticks quotes last now refusal k e =
    refused_step base now (FeedTicks (abstract_ticks ticks)) refusal (sym (feed_read base stamp ticks quotes last now k) ∙ e)

-- ---- what a plan does

-- nothing was found wrong: no symbol is without a quote
first_false : (b : Bool) (refusal : Refusal) (more : List (Bool × Refusal)) → first_refusal ((b, refusal) ∷ more) ≡ None → b ≡ false
first_false true refusal more e = let h : Some refusal ≡ None = e in absurd (cc)
first_false false refusal more e = refl

told_reply : (stamp : ℕ) (ids : List ℕ) (told : Reply) → IsTickedReply stamp ids told → abstract_reply told ≡ Ticked stamp ids
told_reply stamp ids (reply.Ticked at triggered) k = λ i. Ticked (k.0 i) (k.1 i)
told_reply stamp ids (reply.Booked at) k = absurd k
told_reply stamp ids (reply.Ordered ordered) k = absurd k
told_reply stamp ids (reply.Canceled at) k = absurd k
told_reply stamp ids (reply.Completed completed) k = absurd k
told_reply stamp ids (reply.Changed at count) k = absurd k
told_reply stamp ids (reply.Moved at number balance) k = absurd k
told_reply stamp ids (reply.Estimated estimate) k = absurd k

pub feed_plan_does : (base : Base) (ticks : List Tick) (quotes : List SymbolState) (last : Option ℕ) (now : ℕ) (plan : Plan) → PlanFeedPrecondition base ticks quotes last now
    → IsFeedPlan ticks quotes last now plan → PlanImplementsCommand base now (FeedTicks (abstract_ticks ticks)) plan
feed_plan_does base ticks quotes last now plan k p =
    let t : Tables = sheets base in
    let known : HaveQuotes quotes ticks = known_quotes ticks quotes (first_false (list_any (has_no_state_of_symbol quotes) ticks) NoSecurity
    ((list_any has_volume_above_limit (states_after_ticks p.stamp ticks quotes), Range limit.Volume) ∷ later_stamp_check last now ∷ []) p.accepted) in
    let quoted : Quoted t ticks quotes =
    record { read = held_quotes base ticks quotes last now k; apart = k.quotes_read.apart; requests = base_apart base k.books; known = known } in
    let stamped : stamp_after t.last now ≡ Some p.stamp = sym (ap (λ o. stamp_after o now) k.last_read) ∙ p.stamped in
    let done = feed_done base now (abstract_ticks ticks) p.stamp k.books k.moment (sym (read_tests base p.stamp ticks quotes last now k) ∙ p.accepted) stamped in
    let told : Ticked p.stamp (trade_ids_triggered_by_feed p.stamp (abstract_ticks ticks) t) ≡ abstract_reply plan.reply =
    ap (Ticked p.stamp) (sym (ticks_ids t p.stamp ticks quotes quoted)) ∙ sym (told_reply p.stamp (trades_triggered_by_ticks p.stamp ticks quotes) plan.reply p.replied) in
    record {
      steps = done.steps ∙ ap (λ reply. Ok (reply, base_after_command base now (FeedTicks (abstract_ticks ticks)))) told;
      rows = done.rows
          ∙ ap (tables_after_changes (SetLastStamp p.stamp ∷ [])) (sym (ticks_changes t p.stamp ticks quotes quoted))
          ∙ sym (after_more (row_changes_of_ticks p.stamp ticks quotes) (SetLastStamp p.stamp ∷ []) t)
          ∙ ap (λ changes. tables_after_changes changes t) (sym p.changes);
      books_after = done.books_after;
    }
