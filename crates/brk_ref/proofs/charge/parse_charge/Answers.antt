use Rattle.std.proofs.Common.{sym}
use Rattle.brk_model.specs.Forms.{read_tier, read_trade_type, read_charge_amount}
use Rattle.brk_ref.proofs.Applied.{no_charge_tier, no_charge_amount}
use Rattle.brk_ref.proofs.charge.parse_charge.Goals as goal

pub returns-in_default : goal.returns-in_default
returns-in_default c = no_charge_tier _ (read_trade_type c.args.kind.now) (read_tier c.args.tier.now) (read_charge_amount c.args.amount.now) (sym c.in_default.ensures)

pub returns-in_default-parse_charge_amount : goal.returns-in_default-parse_charge_amount
returns-in_default-parse_charge_amount c =
    no_charge_amount _ (read_trade_type c.args.kind.now) (read_tier c.args.tier.now) (read_charge_amount c.args.amount.now)
    (sym c.in_default-parse_charge_amount.ensures)
