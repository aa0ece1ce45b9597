use Rattle.std.proofs.Common.{◌≡◌, ◌∙◌, ap, find, option_map}
use Rattle.std.specs.Prelude.{bytes_eq}
use Rattle.brk_model.specs.Tables.{LastTradeRow, Tables}
use Rattle.brk_ref.specs.Records.{abstract_last_trade_row}
use Rattle.brk_trade_books.specs.OrderReads.{last_price_of_symbol}
use Rattle.brk_store_reads.proofs.Retelling.{retold}
use Rattle.brk_store.proofs.KnownTerms.{known_is_read}
use Rattle.brk_store.proofs.store.Store.last_price.Goals as goal

pub returns-in-Some : goal.returns-in-Some
returns-in-Some g c =
    record { read = known_is_read g.S.Store c.self.inside.conn c.known_if_open.new.conn c.args.self.now c.self.inside.index c.in-Some.price c.self.view_is c.self.invariant.1 c.in-Some.ensures c.known_if_open.ensures.read }

pub returns : goal.returns
returns g c =
    record {
      read = retold g.S.Store c.args.self.now c.last_trade.new.self c.in_ok-last.last c.price_of.result
          (λ o (t : Tables). option_map abstract_last_trade_row o ≡ find (λ (r : LastTradeRow). bytes_eq r.symbol c.args.symbol.now) t.last_trades)
          (λ price (t : Tables). price ≡ last_price_of_symbol t c.args.symbol.now)
          (λ t e. c.price_of.ensures ∙ ap (option_map (λ (r : LastTradeRow). r.price)) e)
          c.in_ok-last.ensures.read;
    }
