use Rattle.std.proofs.Common.{sym, ap, ◌∙◌}
use Rattle.std.specs.Option.{ok_or}
use Rattle.brk_money.specs.declared.refusal.Refusal.TheVariants.{BadText}
use Rattle.brk_model.specs.Forms.{read_tier, read_trade_type, read_exchange, read_commission_rate}
use Rattle.brk_model.specs.Parse.{read_quantity_bounds}
use Rattle.brk_ref.proofs.Applied.{first_of_five_refused, third_of_five_refused, fifth_of_five_refused}
use Rattle.brk_ref.proofs.band.parse_band.Goals as goal

pub returns-in_default : goal.returns-in_default
returns-in_default c =
    first_of_five_refused _ (read_tier c.args.tier.now) (read_trade_type c.args.kind.now) (read_exchange c.args.exchange.now) (read_quantity_bounds c.args.low.now c.args.high.now)
    (read_commission_rate c.args.rate.now) (sym c.in_default.ensures)

pub returns-in_default-2 : goal.returns-in_default-2
returns-in_default-2 c =
    third_of_five_refused _ (read_tier c.args.tier.now) (read_trade_type c.args.kind.now) (read_exchange c.args.exchange.now) (read_quantity_bounds c.args.low.now c.args.high.now)
    (read_commission_rate c.args.rate.now) (sym c.in_ok-exchange.ensures.read ∙ ap (λ o. ok_or o BadText) c.in_default-2.is)

pub returns-in_default-parse_rate : goal.returns-in_default-parse_rate
returns-in_default-parse_rate c =
    fifth_of_five_refused _ (read_tier c.args.tier.now) (read_trade_type c.args.kind.now) (read_exchange c.args.exchange.now) (read_quantity_bounds c.args.low.now c.args.high.now)
    (read_commission_rate c.args.rate.now) (sym c.in_default-parse_rate.ensures)
