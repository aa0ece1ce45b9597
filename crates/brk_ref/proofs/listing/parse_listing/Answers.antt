use Rattle.std.proofs.Common.{sym, ap, ◌∙◌}
use Rattle.std.specs.Option.{ok_or}
use Rattle.brk_money.specs.declared.refusal.Refusal.TheVariants.{BadText}
use Rattle.brk_model.specs.Forms.{read_exchange, read_name, read_price, read_symbol}
use Rattle.brk_ref.proofs.Applied.{first_of_five_refused, second_of_five_refused, third_of_five_refused, fourth_of_five_refused}
use Rattle.brk_ref.proofs.listing.parse_listing.Goals as goal

pub returns-in_default : goal.returns-in_default
returns-in_default c =
    first_of_five_refused _ (read_symbol c.args.symbol.now) (read_name c.args.name.now) (read_exchange c.args.exchange.now) (read_name c.args.sector.now) (read_price c.args.price.now)
    (sym c.in_ok-symbol.ensures.read ∙ ap (λ o. ok_or o BadText) c.in_default.is)

pub returns-in_default-2 : goal.returns-in_default-2
returns-in_default-2 c =
    second_of_five_refused _ (read_symbol c.args.symbol.now) (read_name c.args.name.now) (read_exchange c.args.exchange.now) (read_name c.args.sector.now) (read_price c.args.price.now)
    (sym c.in_ok-name.ensures.read ∙ ap (λ o. ok_or o BadText) c.in_default-2.is)

pub returns-in_default-3 : goal.returns-in_default-3
returns-in_default-3 c =
    third_of_five_refused _ (read_symbol c.args.symbol.now) (read_name c.args.name.now) (read_exchange c.args.exchange.now) (read_name c.args.sector.now) (read_price c.args.price.now)
    (sym c.in_ok-exchange.ensures.read ∙ ap (λ o. ok_or o BadText) c.in_default-3.is)

pub returns-in_default-4 : goal.returns-in_default-4
returns-in_default-4 c =
    fourth_of_five_refused _ (read_symbol c.args.symbol.now) (read_name c.args.name.now) (read_exchange c.args.exchange.now) (read_name c.args.sector.now) (read_price c.args.price.now)
    (sym c.in_ok-sector.ensures.read ∙ ap (λ o. ok_or o BadText) c.in_default-4.is)
