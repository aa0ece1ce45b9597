-- Rows derived from trades, walked beside the trades.
use Rattle.std.proofs.Common.{◌≡◌, Bool, List, map, filter}
use Rattle.std.specs.Prelude.{◌↔◌}
use Rattle.brk_model.specs.Tables.{TradeRow}
use Rattle.brk_ref.specs.Rows.{abstract_trade_row}
use Rattle.brk_ref.specs.declared.trade_row.TradeRow as row

-- what the rows tell and what the trades give is one just where it is so of what is left of both
abbrev pub Walked : {Row Told : Type 0} → (Row → Told) → (TradeRow → Told) → (TradeRow → Bool) → List Row → List row.TradeRow → List Row → List row.TradeRow → Type 0
Walked tells gives test rows trades rest left =
    (map tells rows ≡ map gives (filter test (map abstract_trade_row trades))) ↔ (map tells rest ≡ map gives (filter test (map abstract_trade_row left)))
